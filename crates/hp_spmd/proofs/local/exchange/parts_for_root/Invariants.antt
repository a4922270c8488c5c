-- What is added, with what is still to come, is all.
use Rattle.std.proofs.Common.{◌≡◌, ◌++◌, drop}
use Rattle.std.specs.Prelude.{flat_map}
use Rattle.hp_spmd.specs.Packs.{cells_for_root}
use Rattle.hp_spmd.specs.Store.{dist_at, piece_at}
use Rattle.hp_spmd.proofs.local.exchange.parts_for_root.Given as goal

abbrev pub invariant-loop-array : goal.invariant-loop-array
invariant-loop-array l = l.parts.items ++ flat_map (λ k. cells_for_root (dist_at l.dists k) l.store.number (piece_at l.store.arrays k).cells) (drop l.array-index l.arrays) ≡ flat_map (λ k. cells_for_root (dist_at l.dists k) l.store.number (piece_at l.store.arrays k).cells) l.arrays
