use Rattle.std.proofs.Common.{◌≡◌, map, take, drop, ◌++◌}
use Rattle.hp_spmd.specs.Next.{moved}
use Rattle.hp_spmd.proofs.lockstep.post.move_on.Given as goal

abbrev pub invariant-loop-i : goal.invariant-loop-i
invariant-loop-i l = l.stores ≡ map moved (take l.i l.initial.stores) ++ drop l.i l.initial.stores
