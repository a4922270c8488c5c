-- The slots of the expressions so far.
use Rattle.std.proofs.Common.{◌≡◌, ◌++◌, take}
use Rattle.hp_normal.specs.SlotsHeld.{node_slots}
use Rattle.hp_normal.proofs.slots.add_nodes.Given as goal

abbrev pub invariant-loop-place : goal.invariant-loop-place
invariant-loop-place l = l.slots.items ≡ l.initial.slots.items ++ node_slots 0 (take l.place l.shapes)
