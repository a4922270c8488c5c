-- The begins so far.
use Rattle.std.proofs.Common.{◌≡◌, ◌+◌}
use Rattle.hp_spmd.specs.MoveParts.{begins_of, lengths_from}
use Rattle.hp_spmd.proofs.local.moves.next_begins.Given as goal

abbrev pub invariant-loop-sender : goal.invariant-loop-sender
invariant-loop-sender l = l.next.items ≡ begins_of (lengths_from l.dists l.from l.need l.store.number l.store.ranks l.store.arrays) (l.j + 1) l.sender
