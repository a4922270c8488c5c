-- The first columns have the cells.
use Rattle.std.proofs.Common.{◌≡◌, map}
use Rattle.hp_kernels.specs.LoopColumns.{first_rows, with_cells}
use Rattle.hp_kernels.proofs.BlockLemmas.{first_changed}
use Rattle.hp_kernels.proofs.loops.made.add_columns.Given as goal

abbrev pub invariant-loop-k : goal.invariant-loop-k
invariant-loop-k l = map (λ c. c.items) l.columns ≡ first_changed (with_cells (first_rows l.places l.kept)) l.k l.outs (map (λ c. c.items) l.initial.columns)
