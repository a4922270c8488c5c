-- What is added by one call after the other are the stencils of the statement.
use Rattle.hp_normal.proofs.CopyForms.{added, two_added, copies_choose, copies_loop, next_statement}
use Rattle.hp_normal.proofs.copies.+statement_copies.Goals as goal

pub add_copies_in-returns-in_ok-add_copies_of-in-If : goal.add_copies_in-returns-in_ok-add_copies_of-in-If
add_copies_in-returns-in_ok-add_copies_of-in-If t c =
    added c.add_copies_of-in-If.result c.args.copies.now.items c.add_copies_of.new.copies.items c.add_copies_of-in-If.new.copies.items _ _ _
    (two_added c.args.copies.now.items c.add_copies.new.copies.items c.add_copies_of.new.copies.items _ _ c.in_ok-add_copies-in-If.ensures (rw c.as_slice.ensures at c.in_ok-add_copies_of-in-If.ensures))
    (copies_choose c.args.shapes.now c.args.stmt.now c.in-If.field-0 c.in-If.test c.in-If.first c.in-If.second c.in-If.is)
    (rw c.as_slice-in-If.ensures at c.add_copies_of-in-If.ensures)

pub add_copies_in-returns-in_ok-add_copies-in-While : goal.add_copies_in-returns-in_ok-add_copies-in-While
add_copies_in-returns-in_ok-add_copies-in-While t c =
    added c.add_copies_of-in-While.result c.args.copies.now.items c.add_copies-in-While.new.copies.items c.add_copies_of-in-While.new.copies.items _ _ _
    c.in_ok-add_copies-in-While.ensures (copies_loop c.args.shapes.now c.args.stmt.now c.in-While.field-0 c.in-While.test c.in-While.turn c.in-While.is)
    (rw c.as_slice-in-While.ensures at c.add_copies_of-in-While.ensures)

pub add_copies_of-loop-stmt-preserved : goal.add_copies_of-loop-stmt-preserved
add_copies_of-loop-stmt-preserved t c =
    next_statement c.args.shapes.now c.args.copies.now.items c.loop-stmt.copies.items c.add_copies_in.new.copies.items c.args.body.now c.loop-stmt.stmt-index c.stmt-item.result
    c.loop-stmt-test.true c.stmt-item.is c.loop-stmt.invariant c.in_ok-add_copies_in.ensures
