-- The laws of runs are lemmas.
use Rattle.hp_air.proofs.LevelLemmas.{level_frames}
use Rattle.hp_air.proofs.RunLaws as laws
use Rattle.hp_air.proofs.laws.run_laws.Goals as goal

pub returns : goal.returns
returns c = record {
  writes = laws.writes;
  works_on = laws.works_on;
  lasts = laws.lasts;
  more_fuel = laws.more_fuel;
  by_number = laws.by_number;
  one_each = laws.one_each;
  replaces = laws.replaces;
  level = level_frames;
}
