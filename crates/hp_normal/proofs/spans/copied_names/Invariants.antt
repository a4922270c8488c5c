-- The names so far are copied.
use Rattle.std.proofs.Common.{◌≡◌, take}
use Rattle.hp_normal.proofs.spans.copied_names.Given as goal

abbrev pub invariant-loop-column : goal.invariant-loop-column
invariant-loop-column l = l.names ≡ take l.column-index l.columns
