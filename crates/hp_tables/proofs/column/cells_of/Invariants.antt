use Rattle.std.proofs.Common.{◌≡◌, map}
use Rattle.hp_tables.proofs.column.cells_of.Given as goal

abbrev pub invariant-loop-column : goal.invariant-loop-column
invariant-loop-column l = l.cells.items ≡ map (λ column. column.cells) l.yielded
