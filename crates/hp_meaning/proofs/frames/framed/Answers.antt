-- The columns have one length, or not.
use Rattle.hp_word.specs.Lengths.{trap}
use Rattle.hp_word.specs.declared.place.TrapKind.TheVariants.{Mismatch}
use Rattle.hp_meaning.specs.FrameRules.{framed}
use Rattle.hp_meaning.proofs.Answering.{traps}
use Rattle.hp_meaning.proofs.FrameLemmas.{framed_level, framed_uneven}
use Rattle.hp_meaning.proofs.frames.framed.Goals as goal

pub returns-then-not-are_level : goal.returns-then-not-are_level
returns-then-not-are_level c =
    let uneven = rw c.as_slice.ensures at c.if-not-are_level.ensures in
    λ ne. traps (framed c.args.at c.args.columns) c.trap.result (trap c.args.at Mismatch) c.trap.ensures
    (framed_uneven c.args.at c.args.columns (λ e. c.if-is_empty.ensures.1 e) uneven)

pub returns : goal.returns
returns c =
    let level = rw c.as_slice.ensures at c.if-not-are_level.ensures in
    framed_level c.args.at c.args.columns (λ e. c.if-is_empty.ensures.1 e) level
