-- The messages so far.
use Rattle.std.proofs.Common.{◌≡◌, map}
use Rattle.std.specs.Prelude.{flat_map}
use Rattle.std.specs.List.{range_with_len}
use Rattle.hp_spmd.specs.Messages.{message_of}
use Rattle.hp_spmd.specs.Needs.{need_span}
use Rattle.hp_spmd.specs.Packs.{cells_in}
use Rattle.hp_spmd.specs.Scalars.{piece_length}
use Rattle.hp_spmd.specs.Store.{dist_at, piece_at}
use Rattle.hp_spmd.proofs.local.packs.move_packed.Given as goal

abbrev pub invariant-loop-rank : goal.invariant-loop-rank
invariant-loop-rank l = l.list.items ≡ map (λ rank. message_of (flat_map (λ k. cells_in (dist_at l.dists k) l.store.number (piece_at l.store.arrays k) (need_span l.need l.dists l.store.arrays rank (piece_length (piece_at l.store.arrays k)) l.store.ranks)) l.arrays)) (range_with_len 0 l.rank)
