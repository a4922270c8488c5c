-- The pairs are those that the kernel found, by places from 1, or they are too many.
use Rattle.std.proofs.Common.{◌∙◌}
use Rattle.hp_word.specs.declared.place.TrapKind.TheVariants.{TooLong}
use Rattle.hp_word.specs.Lengths.{trap}
use Rattle.hp_word.specs.RowRules.{join_pairs}
use Rattle.hp_meaning.specs.Outcomes.{told}
use Rattle.hp_meaning.proofs.Answering.{traps}
use Rattle.hp_meaning.proofs.JoinLemmas.{pairs_told, pairs_many}
use Rattle.hp_meaning.proofs.joins.join_pairs.Goals as goal

pub returns-in-Ok : goal.returns-in-Ok
returns-in-Ok c =
    pairs_told c.args.at c.args.left.now c.args.right.now c.as_slice.result.now c.places_of.result (c.as_slice.ensures.value ∙ c.in-Ok.ensures.ok) c.in-Ok.ensures.few
    c.places_of.ensures.ok c.places_of.ensures.err

pub returns-in-Err-TooMany : goal.returns-in-Err-TooMany
returns-in-Err-TooMany c = λ ne.
    traps (told (join_pairs c.args.at c.args.left.now c.args.right.now)) c.trap.result (trap c.args.at TooLong) c.trap.ensures
    (pairs_many c.args.at c.args.left.now c.args.right.now (c.in-Err-TooMany.ensures.many c.in-Err-TooMany.field-0-is))
