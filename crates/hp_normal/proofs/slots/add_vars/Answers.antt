-- One more of them.
use Rattle.std.proofs.Common.{sym, append-nil}
use Rattle.hp_normal.proofs.SlotForms.{next_var}
use Rattle.hp_normal.specs.SlotsHeld.{var_slots}
use Rattle.hp_normal.proofs.slots.add_vars.Goals as goal

pub loop-place-init : goal.loop-place-init
unfolding var_slots
loop-place-init c = sym (append-nil c.args.slots.now.items)

pub loop-place-preserved : goal.loop-place-preserved
loop-place-preserved c =
    next_var c.args.slots.now.items c.loop-place.slots.items c.add_columns.new.slots.items c.args.vars.now c.loop-place.place c.index-vars-place.result c.loop-place-test.true c.index-vars-place.is
    c.loop-place.invariant (rw c.in_ok-number_of.ensures at c.in_ok-add_columns.ensures)
