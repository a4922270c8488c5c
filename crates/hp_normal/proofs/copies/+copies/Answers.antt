-- What is added by one call after the other are the stencils of the form.
use Rattle.hp_normal.proofs.CopyForms.{added, copies_binary, copies_index, copies_call, copies_range, next_argument}
use Rattle.hp_normal.proofs.copies.+copies.Goals as goal

pub add_copies-returns-in_ok-add_copies-in-Binary : goal.add_copies-returns-in_ok-add_copies-in-Binary
add_copies-returns-in_ok-add_copies-in-Binary t c =
    added c.add_copies-in-Binary-2.result c.args.copies.now.items c.add_copies-in-Binary.new.copies.items c.add_copies-in-Binary-2.new.copies.items _ _ _
    (rw c.get-in-Binary.ensures at c.in_ok-add_copies-in-Binary.ensures) (copies_binary c.args.shapes.now c.args.x.now c.in-Binary.field-0 c.in-Binary.field-1 c.in-Binary.left c.in-Binary.right c.in-Binary.is)
    (rw c.get-in-Binary-2.ensures at c.add_copies-in-Binary-2.ensures)

pub add_copies-returns-in_ok-add_copies-in-Index : goal.add_copies-returns-in_ok-add_copies-in-Index
add_copies-returns-in_ok-add_copies-in-Index t c =
    added c.add_copies-in-Index-2.result c.args.copies.now.items c.add_copies-in-Index.new.copies.items c.add_copies-in-Index-2.new.copies.items _ _ _
    (rw c.get-in-Index.ensures at c.in_ok-add_copies-in-Index.ensures) (copies_index c.args.shapes.now c.args.x.now c.in-Index.array c.in-Index.index c.in-Index.is)
    (rw c.get-in-Index-2.ensures at c.add_copies-in-Index-2.ensures)

pub add_copies-returns-in_ok-add_copies_among-in-Call : goal.add_copies-returns-in_ok-add_copies_among-in-Call
add_copies-returns-in_ok-add_copies_among-in-Call t c =
    added c.add_copy.result c.args.copies.now.items c.add_copies_among.new.copies.items c.add_copy.new.copies.items _ _ _
    (rw c.as_slice.ensures at c.in_ok-add_copies_among-in-Call.ensures) (copies_call c.args.shapes.now c.args.x.now c.in-Call.function c.in-Call.dotted c.in-Call.args c.in-Call.is)
    (rw (c.as_slice-name.ensures, c.as_slice-in-Call.ensures) at c.add_copy.ensures)

pub add_copies_at-returns-in_ok-add_copies-in-Range : goal.add_copies_at-returns-in_ok-add_copies-in-Range
add_copies_at-returns-in_ok-add_copies-in-Range t c =
    added c.add_copies-in-Range.result c.args.copies.now.items c.add_copies.new.copies.items c.add_copies-in-Range.new.copies.items _ _ _
    c.in_ok-add_copies-in-Range.ensures (copies_range c.args.shapes.now c.args.arg.now c.in-Range.first c.in-Range.last c.in-Range.is) c.add_copies-in-Range.ensures

pub add_copies_among-loop-arg-preserved : goal.add_copies_among-loop-arg-preserved
add_copies_among-loop-arg-preserved t c =
    next_argument c.args.shapes.now c.args.copies.now.items c.loop-arg.copies.items c.add_copies_at.new.copies.items c.args.args.now c.loop-arg.arg-index c.arg-item.result
    c.loop-arg-test.true c.arg-item.is c.loop-arg.invariant c.in_ok-add_copies_at.ensures
