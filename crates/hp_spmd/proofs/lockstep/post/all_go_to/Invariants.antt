use Rattle.std.proofs.Common.{◌≡◌, map, take, drop, ◌++◌}
use Rattle.hp_spmd.specs.Next.{at_place}
use Rattle.hp_spmd.proofs.lockstep.post.all_go_to.Given as goal

abbrev pub invariant-loop-i : goal.invariant-loop-i
invariant-loop-i l = l.stores ≡ map (at_place l.place) (take l.i l.initial.stores) ++ drop l.i l.initial.stores
