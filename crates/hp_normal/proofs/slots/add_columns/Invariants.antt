-- The slots of the columns so far.
use Rattle.std.proofs.Common.{◌≡◌, ◌++◌, map}
use Rattle.std.specs.List.{range_with_len}
use Rattle.hp_normal.proofs.slots.add_columns.Given as goal

abbrev pub invariant-loop-column : goal.invariant-loop-column
invariant-loop-column l = l.slots.items ≡ l.initial.slots.items ++ map (λ c. record l.first { column = c; matrix = l.matrix }) (range_with_len 0 l.column)
