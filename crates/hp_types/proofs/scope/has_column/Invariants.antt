-- no column before this one has the name
use Rattle.std.proofs.Common.{◌≡◌, drop}
use Rattle.hp_script.specs.Scope.{has_column}
use Rattle.hp_types.proofs.scope.has_column.Given as goal

abbrev pub invariant-loop-column : goal.invariant-loop-column
invariant-loop-column l = has_column l.name (drop l.column-index l.columns) ≡ has_column l.name l.columns
