use Rattle.std.proofs.Common.{◌≡◌, map}
use Rattle.hp_spmd.proofs.LockPost.{delivered_below}
use Rattle.hp_spmd.proofs.lockstep.post.post.Given as goal

abbrev pub invariant-loop-to : goal.invariant-loop-to
invariant-loop-to l = l.stores ≡ map (delivered_below l.to l.initial.stores) l.initial.stores
