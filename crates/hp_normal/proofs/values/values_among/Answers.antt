-- One more argument.
use Rattle.hp_normal.proofs.ValueForms.{next_value}
use Rattle.hp_normal.proofs.values.values_among.Goals as goal

pub loop-arg-preserved : goal.loop-arg-preserved
loop-arg-preserved c =
    next_value c.loop-arg.values.items c.add_value.new.values.items c.args.args.now c.loop-arg.arg-index c.arg-item.result
    c.loop-arg-test.true c.arg-item.is c.loop-arg.invariant c.in_ok-add_value.ensures
