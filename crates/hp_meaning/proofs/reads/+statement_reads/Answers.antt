-- What is added by one call after the other are the calls of the statement.
use Rattle.hp_meaning.proofs.ReadLemmas.{added, two_added, reads_choose, reads_loop, next_statement}
use Rattle.hp_meaning.proofs.reads.+statement_reads.Goals as goal

pub add_reads_in-returns-in_ok-add_reads_of-in-If : goal.add_reads_in-returns-in_ok-add_reads_of-in-If
add_reads_in-returns-in_ok-add_reads_of-in-If t c =
    added c.add_reads_of-in-If.result c.args.reads.now.items c.add_reads_of.new.reads.items c.add_reads_of-in-If.new.reads.items _ _ _
    (two_added c.args.reads.now.items c.add_reads.new.reads.items c.add_reads_of.new.reads.items _ _ c.in_ok-add_reads-in-If.ensures (rw c.as_slice.ensures at c.in_ok-add_reads_of-in-If.ensures))
    (reads_choose c.args.stmt.now c.in-If.field-0 c.in-If.test c.in-If.first c.in-If.second c.in-If.is)
    (rw c.as_slice-in-If.ensures at c.add_reads_of-in-If.ensures)

pub add_reads_in-returns-in_ok-add_reads-in-While : goal.add_reads_in-returns-in_ok-add_reads-in-While
add_reads_in-returns-in_ok-add_reads-in-While t c =
    added c.add_reads_of-in-While.result c.args.reads.now.items c.add_reads-in-While.new.reads.items c.add_reads_of-in-While.new.reads.items _ _ _
    c.in_ok-add_reads-in-While.ensures (reads_loop c.args.stmt.now c.in-While.field-0 c.in-While.test c.in-While.turn c.in-While.is)
    (rw c.as_slice-in-While.ensures at c.add_reads_of-in-While.ensures)

pub add_reads_of-loop-stmt-preserved : goal.add_reads_of-loop-stmt-preserved
add_reads_of-loop-stmt-preserved t c =
    next_statement c.args.reads.now.items c.loop-stmt.reads.items c.add_reads_in.new.reads.items c.args.body.now c.loop-stmt.stmt-index c.stmt-item.result
    c.loop-stmt-test.true c.stmt-item.is c.loop-stmt.invariant c.in_ok-add_reads_in.ensures
