-- What is added, with what is still to come, is all.
use Rattle.std.proofs.Common.{◌≡◌, ◌++◌, drop}
use Rattle.std.specs.Prelude.{flat_map}
use Rattle.hp_spmd.specs.Needs.{need_span}
use Rattle.hp_spmd.specs.Packs.{cells_in}
use Rattle.hp_spmd.specs.Scalars.{piece_length}
use Rattle.hp_spmd.specs.Store.{dist_at, piece_at}
use Rattle.hp_spmd.proofs.local.packs.moved_message.Given as goal

abbrev pub invariant-loop-array : goal.invariant-loop-array
invariant-loop-array l = l.words.items ++ flat_map (λ k. cells_in (dist_at l.dists k) l.store.number (piece_at l.store.arrays k) (need_span l.need l.dists l.store.arrays l.rank (piece_length (piece_at l.store.arrays k)) l.store.ranks)) (drop l.array-index l.arrays) ≡ flat_map (λ k. cells_in (dist_at l.dists k) l.store.number (piece_at l.store.arrays k) (need_span l.need l.dists l.store.arrays l.rank (piece_length (piece_at l.store.arrays k)) l.store.ranks)) l.arrays
