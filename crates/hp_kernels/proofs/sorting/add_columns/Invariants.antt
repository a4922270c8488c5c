-- The columns so far.
use Rattle.std.proofs.Common.{◌≡◌, ◌++◌, map, take}
use Rattle.hp_kernels.proofs.sorting.add_columns.Given as goal

abbrev pub invariant-loop-column : goal.invariant-loop-column
invariant-loop-column l = map (λ c. c.now) l.made.items ≡ map (λ c. c.now) l.initial.made.items ++ map (λ c. c.items) (take l.column-index l.columns)
