-- The rows so far.
use Rattle.std.proofs.Common.{◌≡◌, map}
use Rattle.std.specs.List.{range_with_len}
use Rattle.hp_word.specs.RowRules.{row_at}
use Rattle.hp_meaning.proofs.matrices.rows_of.Given as goal

abbrev pub invariant-loop-i : goal.invariant-loop-i
invariant-loop-i l = l.rows ≡ map (row_at l.matrix.columns) (range_with_len 0 l.i)
