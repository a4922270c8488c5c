-- One more argument.
use Rattle.hp_normal.proofs.ElementForms.{next_argument}
use Rattle.hp_normal.proofs.elements.+elements.Goals as goal

pub elems_of-loop-arg-preserved : goal.elems_of-loop-arg-preserved
elems_of-loop-arg-preserved t c =
    next_argument c.args.homes.now c.args.parameter.now c.loop-arg.made.items c.add_elem.new.made.items c.args.args.now c.loop-arg.arg-index c.arg-item.result
    c.loop-arg-test.true c.arg-item.is c.loop-arg.invariant c.in_ok-add_elem.ensures
