-- The laws of fuel are lemmas.
use Rattle.hp_meaning.proofs.FuelGrowth.{run_writes}
use Rattle.hp_meaning.proofs.FuelLaws.{more_fuel, still_wrong, less_fuel, fuel_left, none_left, turns_begun, same_turns}
use Rattle.hp_meaning.proofs.FuelRuns.{run_lasts}
use Rattle.hp_meaning.proofs.laws.fuel_laws.Goals as goal

pub returns : goal.returns
returns c = record {
  more_fuel = more_fuel;
  still_wrong = still_wrong;
  less_fuel = less_fuel;
  fuel_left = fuel_left;
  none_left = none_left;
  turns_begun = turns_begun;
  lasts = run_lasts;
  writes = run_writes;
  same_turns = same_turns;
}
