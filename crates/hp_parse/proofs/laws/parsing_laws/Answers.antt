-- The law of scripts is a lemma.
use Rattle.hp_parse.proofs.Parsed.{one_of_two}
use Rattle.hp_parse.proofs.laws.parsing_laws.Goals as goal

pub returns : goal.returns
returns c = record { one_of_two = one_of_two }
