use Rattle.std.proofs.Common.{◌≡◌, map, take, drop, ◌++◌}
use Rattle.hp_spmd.specs.Ranks.{posted}
use Rattle.hp_spmd.proofs.lockstep.post.end_posting.Given as goal

abbrev pub invariant-loop-i : goal.invariant-loop-i
invariant-loop-i l = l.stores ≡ map posted (take l.i l.initial.stores) ++ drop l.i l.initial.stores
