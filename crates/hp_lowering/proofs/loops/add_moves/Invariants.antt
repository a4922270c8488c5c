use Rattle.std.proofs.Common.{◌≡◌, ◌++◌, take}
use Rattle.hp_air.specs.Placed.{dist_at}
use Rattle.hp_lowering.specs.PartCode.{input_moves}
use Rattle.hp_lowering.specs.Room.{room_of}
use Rattle.hp_lowering.proofs.loops.add_moves.Given as goal

abbrev pub invariant-loop-input : goal.invariant-loop-input
invariant-loop-input l = (l.number ≡ l.input-index) × (l.list ≡ l.initial.list ++ input_moves (room_of l.plan.slots.now l.plan.words) (dist_at l.plan.dists.now) l.leader 0 (take l.input-index l.inputs))
