-- The columns so far.
use Rattle.std.proofs.Common.{◌≡◌, take}
use Rattle.hp_meaning.proofs.columns.copied_columns.Given as goal

abbrev pub invariant-loop-column : goal.invariant-loop-column
invariant-loop-column l = l.made ≡ take l.column-index l.columns
