-- The columns that are left decide.
use Rattle.std.proofs.Common.{◌≡◌, drop, map}
use Rattle.hp_kernels.proofs.SortLemmas.{places_order}
use Rattle.hp_kernels.proofs.sorting.row_order.Given as goal

abbrev pub invariant-loop-column : goal.invariant-loop-column
invariant-loop-column l = places_order (map (λ c. c.now) (drop l.column-index l.columns)) l.p l.q ≡ places_order (map (λ c. c.now) l.columns) l.p l.q
