-- The law of tokens is a lemma.
use Rattle.hp_lex.proofs.Lexed.{one_of_two}
use Rattle.hp_lex.proofs.laws.lexing_laws.Goals as goal

pub returns : goal.returns
returns c = record { one_of_two = one_of_two }
