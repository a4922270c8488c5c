-- The slots of the copies so far.
use Rattle.std.proofs.Common.{◌≡◌, ◌++◌, map, take}
use Rattle.hp_air.specs.Frames.{balanced_slot}
use Rattle.hp_normal.proofs.slots.add_balanced.Given as goal

abbrev pub invariant-loop-node : goal.invariant-loop-node
invariant-loop-node l = l.slots.items ≡ l.initial.slots.items ++ map balanced_slot (take l.node-index l.copies)
