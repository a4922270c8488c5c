-- One more column of no cells.
use Rattle.hp_kernels.proofs.BlockLemmas.{column_pushed}
use Rattle.hp_kernels.proofs.loops.made.empty_columns.Goals as goal

pub loop-out-preserved : goal.loop-out-preserved
loop-out-preserved c = column_pushed c.args.outs.now c.loop-out._out-index c.loop-out.columns.items c.push.new.self.items c.in_ok-with_capacity.field-0 c.loop-out.invariant c.loop-out-test.true c.in_ok-with_capacity.ensures.items c.in_ok-push.ensures.items
