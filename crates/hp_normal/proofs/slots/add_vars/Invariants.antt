-- The slots of the variables so far.
use Rattle.std.proofs.Common.{◌≡◌, ◌++◌, take}
use Rattle.hp_normal.specs.SlotsHeld.{var_slots}
use Rattle.hp_normal.proofs.slots.add_vars.Given as goal

abbrev pub invariant-loop-place : goal.invariant-loop-place
invariant-loop-place l = l.slots.items ≡ l.initial.slots.items ++ var_slots 0 (take l.place l.vars)
