-- the names before this one are added
use Rattle.std.proofs.Common.{◌≡◌, ◌++◌, take}
use Rattle.hp_types.proofs.copied.add_columns.Given as goal

abbrev pub invariant-loop-column : goal.invariant-loop-column
invariant-loop-column l = l.to ≡ l.initial.to ++ take l.column-index l.columns
