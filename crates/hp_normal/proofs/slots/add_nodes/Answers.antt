-- One more of them.
use Rattle.std.proofs.Common.{sym, append-nil}
use Rattle.hp_normal.proofs.SlotForms.{next_node}
use Rattle.hp_normal.specs.SlotsHeld.{node_slots}
use Rattle.hp_normal.proofs.slots.add_nodes.Goals as goal

pub loop-place-init : goal.loop-place-init
unfolding node_slots
loop-place-init c = sym (append-nil c.args.slots.now.items)

pub loop-place-preserved : goal.loop-place-preserved
loop-place-preserved c =
    next_node c.args.slots.now.items c.loop-place.slots.items c.add_columns.new.slots.items c.args.shapes.now c.loop-place.place c.index-shapes-place.result c.loop-place-test.true c.index-shapes-place.is
    c.loop-place.invariant (rw (c.in_ok-number_of.ensures, c.as_ref.ensures.value) at c.in_ok-add_columns.ensures)
