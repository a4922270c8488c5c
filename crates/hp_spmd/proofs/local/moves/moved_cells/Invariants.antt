-- The parts of the messages so far.
use Rattle.std.proofs.Common.{◌≡◌}
use Rattle.std.specs.Prelude.{flat_map}
use Rattle.std.specs.List.{range_with_len}
use Rattle.hp_spmd.specs.MoveParts.{lengths_from}
use Rattle.hp_spmd.specs.Store.{message_at}
use Rattle.hp_spmd.specs.Unpacks.{part_at}
use Rattle.hp_spmd.proofs.local.moves.moved_cells.Given as goal

abbrev pub invariant-loop-sender : goal.invariant-loop-sender
invariant-loop-sender l = l.cells.items ≡ flat_map (λ r. part_at (lengths_from l.dists l.from l.need l.store.number l.store.ranks l.store.arrays r) l.j (message_at l.store.inbox r).words) (range_with_len 0 l.sender)
