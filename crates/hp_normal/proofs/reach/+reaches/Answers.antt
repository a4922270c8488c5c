-- One more argument.
use Rattle.hp_normal.proofs.ReachForms.{next_argument}
use Rattle.hp_normal.proofs.reach.+reaches.Goals as goal

pub reach_among-loop-arg-preserved : goal.reach_among-loop-arg-preserved
reach_among-loop-arg-preserved t c =
    rw (c.greater-reach.ensures, c.reach_in.ensures)
    (next_argument c.loop-arg.reach c.args.args.now c.loop-arg.arg-index c.arg-item.result c.loop-arg-test.true c.arg-item.is c.loop-arg.invariant)
