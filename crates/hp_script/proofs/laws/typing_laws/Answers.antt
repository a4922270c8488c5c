-- The laws of typing are lemmas.
use Rattle.hp_script.proofs.Completeness.{one_type}
use Rattle.hp_script.proofs.RunLemmas.{ways_are_runs}
use Rattle.hp_script.proofs.ToldBlocks.{script_told}
use Rattle.hp_script.proofs.TypingLaws.{sound, whole, one_of_both}
use Rattle.hp_script.proofs.UnsetBlocks.{unset_somewhere}
use Rattle.hp_script.proofs.laws.typing_laws.Goals as goal

pub returns : goal.returns
returns c = record {
  sound = sound;
  whole = whole;
  one_type = λ s x a b p q. one_type p q;
  one_of_both = one_of_both;
  ways = λ body p known at_position. ways_are_runs at_position;
  unset = unset_somewhere;
  tells = script_told;
}
