-- The arrays so far, and where the words of the next one begin.
use Rattle.std.proofs.Common.{◌≡◌, length, map}
use Rattle.std.specs.List.{range_with_len}
use Rattle.hp_spmd.specs.MoveParts.{begins_of, lengths_from, moved_at}
use Rattle.hp_spmd.proofs.local.moves.moved_pieces.Given as goal

abbrev pub invariant-loop-j : goal.invariant-loop-j
invariant-loop-j l = record {
  made_is : l.made.items ≡ map (moved_at l.dists l.from l.need l.store.number l.store.ranks l.store.inbox l.store.arrays) (range_with_len 0 l.j);
  begins_are : l.begins.items ≡ begins_of (lengths_from l.dists l.from l.need l.store.number l.store.ranks l.store.arrays) l.j (length l.store.inbox);
}
