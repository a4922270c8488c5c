-- The slots of the values so far.
use Rattle.std.proofs.Common.{◌≡◌, take}
use Rattle.hp_air.specs.Unknowns.{all}
use Rattle.hp_flat.specs.Homes.{slots_of}
use Rattle.hp_normal.specs.Programs.{sides_at}
use Rattle.hp_normal.proofs.sides.all_slots.Given as goal

abbrev pub invariant-loop-node : goal.invariant-loop-node
invariant-loop-node l = l.slots.items ≡ slots_of l.homes (all (sides_at l.homes.known (take l.node-index l.values)))
