-- The pieces of the columns so far.
use Rattle.std.proofs.Common.{◌≡◌, map}
use Rattle.std.specs.Prelude.{slice_index}
use Rattle.std.specs.List.{range_with_len}
use Rattle.hp_word.specs.RowRules.{column_at}
use Rattle.hp_spmd.specs.Store.{dealt, dist_at}
use Rattle.hp_spmd.proofs.local.dealing.column_pieces.Given as goal

abbrev pub invariant-loop-k : goal.invariant-loop-k
invariant-loop-k l = l.made.items ≡ map (λ k. dealt (dist_at l.dists (slice_index l.to k)) l.number l.ranks (column_at k l.columns)) (range_with_len 0 l.k)
