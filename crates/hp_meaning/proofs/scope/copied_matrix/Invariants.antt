-- The columns so far.
use Rattle.std.proofs.Common.{◌≡◌, take}
use Rattle.hp_meaning.proofs.scope.copied_matrix.Given as goal

abbrev pub invariant-loop-column : goal.invariant-loop-column
invariant-loop-column l = l.columns ≡ take l.column-index l.column-items
