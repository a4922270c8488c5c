use Rattle.std.proofs.Common.{◌≡◌, map, take, drop, ◌++◌}
use Rattle.hp_spmd.specs.Ranks.{emptied}
use Rattle.hp_spmd.specs.Store.{message_at}
use Rattle.hp_spmd.proofs.lockstep.post.collect.Given as goal

abbrev pub invariant-loop-i : goal.invariant-loop-i
invariant-loop-i l =
    (l.stores ≡ map (emptied l.to) (take l.i l.initial.stores) ++ drop l.i l.initial.stores)
    × (l.inbox.items ≡ map (λ y. message_at y.outbox l.to) (take l.i l.initial.stores))
