-- What is added by one call after the other are the calls of the form.
use Rattle.hp_meaning.proofs.ReadLemmas.{added, reads_binary, reads_index, reads_call, reads_range, next_argument}
use Rattle.hp_meaning.proofs.reads.+reads.Goals as goal

pub add_reads-returns-in_ok-add_reads-in-Binary : goal.add_reads-returns-in_ok-add_reads-in-Binary
add_reads-returns-in_ok-add_reads-in-Binary t c =
    added c.add_reads-in-Binary-2.result c.args.reads.now.items c.add_reads-in-Binary.new.reads.items c.add_reads-in-Binary-2.new.reads.items _ _ _
    (rw c.get-in-Binary.ensures at c.in_ok-add_reads-in-Binary.ensures) (reads_binary c.args.x.now c.in-Binary.field-0 c.in-Binary.field-1 c.in-Binary.left c.in-Binary.right c.in-Binary.is)
    (rw c.get-in-Binary-2.ensures at c.add_reads-in-Binary-2.ensures)

pub add_reads-returns-in_ok-add_reads-in-Index : goal.add_reads-returns-in_ok-add_reads-in-Index
add_reads-returns-in_ok-add_reads-in-Index t c =
    added c.add_reads-in-Index-2.result c.args.reads.now.items c.add_reads-in-Index.new.reads.items c.add_reads-in-Index-2.new.reads.items _ _ _
    (rw c.get-in-Index.ensures at c.in_ok-add_reads-in-Index.ensures) (reads_index c.args.x.now c.in-Index.array c.in-Index.index c.in-Index.is)
    (rw c.get-in-Index-2.ensures at c.add_reads-in-Index-2.ensures)

pub add_reads-returns-in_ok-add_call-in-Call : goal.add_reads-returns-in_ok-add_call-in-Call
add_reads-returns-in_ok-add_call-in-Call t c =
    added c.add_reads_among.result c.args.reads.now.items c.add_call.new.reads.items c.add_reads_among.new.reads.items _ _ _
    (rw c.as_slice.ensures at c.in_ok-add_call-in-Call.ensures) (reads_call c.args.x.now c.in-Call.function c.in-Call.dotted c.in-Call.args c.in-Call.is)
    (rw c.as_slice-in-Call.ensures at c.add_reads_among.ensures)

pub add_reads_at-returns-in_ok-add_reads-in-Range : goal.add_reads_at-returns-in_ok-add_reads-in-Range
add_reads_at-returns-in_ok-add_reads-in-Range t c =
    added c.add_reads-in-Range.result c.args.reads.now.items c.add_reads.new.reads.items c.add_reads-in-Range.new.reads.items _ _ _
    c.in_ok-add_reads-in-Range.ensures (reads_range c.args.arg.now c.in-Range.first c.in-Range.last c.in-Range.is) c.add_reads-in-Range.ensures

pub add_reads_among-loop-arg-preserved : goal.add_reads_among-loop-arg-preserved
add_reads_among-loop-arg-preserved t c =
    next_argument c.args.reads.now.items c.loop-arg.reads.items c.add_reads_at.new.reads.items c.args.args.now c.loop-arg.arg-index c.arg-item.result
    c.loop-arg-test.true c.arg-item.is c.loop-arg.invariant c.in_ok-add_reads_at.ensures
