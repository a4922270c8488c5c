-- A call of `transpose`, and one of another function.
use Rattle.std.proofs.Common.{sym, ◌∙◌}
use Rattle.hp_normal.proofs.FlipForms.{other_call, transposed}
use Rattle.hp_normal.proofs.operators.flipped.Goals as goal

pub returns-then-not-is_transpose : goal.returns-then-not-is_transpose
returns-then-not-is_transpose c = other_call c.args.x.now c.in-Call.function c.in-Call.dotted c.in-Call.args c.in-Call.is (rw c.as_slice.ensures at (sym c.is_transpose.ensures ∙ c.if-not-is_transpose.true))

pub returns-in-Ok : goal.returns-in-Ok
returns-in-Ok c = transposed c.args.x.now c.in-Call.function c.in-Call.dotted c.in-Call.args _ c.in-Call.is (rw c.as_slice.ensures at (sym c.is_transpose.ensures ∙ c.if-not-is_transpose.false)) (rw c.as_slice-2.ensures at c.in-Ok.ensures)

pub returns-in-Err : goal.returns-in-Err
returns-in-Err c = transposed c.args.x.now c.in-Call.function c.in-Call.dotted c.in-Call.args _ c.in-Call.is (rw c.as_slice.ensures at (sym c.is_transpose.ensures ∙ c.if-not-is_transpose.false)) (rw c.as_slice-2.ensures at c.in-Err.ensures.1)
