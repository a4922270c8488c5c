-- The rows so far.
use Rattle.std.proofs.Common.{◌≡◌, map}
use Rattle.std.specs.List.{range_with_len}
use Rattle.hp_word.specs.RowRules.{row_at}
use Rattle.hp_spmd.proofs.local.matrices.rows_of.Given as goal

abbrev pub invariant-loop-place : goal.invariant-loop-place
invariant-loop-place l = l.made.items ≡ map (row_at (map (λ c. c.now) l.columns)) (range_with_len 0 l.place)
