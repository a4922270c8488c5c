-- The laws of reading rest on those of tokens and of scripts.
use Rattle.hp_reader.proofs.ReadingLaws.{spelled, one_of_two}
use Rattle.hp_reader.proofs.laws.reading_laws.Goals as goal

pub returns : goal.returns
returns c =
    let first = spelled c.lexing_laws.ensures.one_of_two c.parsing_laws.ensures.one_of_two in
    record { spelled = first; one_of_two = one_of_two first }
