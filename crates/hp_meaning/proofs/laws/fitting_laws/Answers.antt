-- The laws of scripts that fit are lemmas.
use Rattle.hp_meaning.proofs.NeverWrong.{script_ends, script_typed}
use Rattle.hp_meaning.proofs.laws.fitting_laws.Goals as goal

pub returns : goal.returns
returns c = record { has_end = script_ends; typed = script_typed }
