-- The cells so far.
use Rattle.std.proofs.Common.{◌≡◌, map, take}
use Rattle.hp_word.specs.RowRules.{row_at}
use Rattle.hp_spmd.proofs.local.matrices.row_at.Given as goal

abbrev pub invariant-loop-column : goal.invariant-loop-column
invariant-loop-column l = l.row.items ≡ row_at (map (λ c. c.now) (take l.column-index l.columns)) l.place
