-- The slots of the columns so far.
use Rattle.std.proofs.Common.{◌≡◌}
use Rattle.std.specs.List.{range_with_len}
use Rattle.hp_normal.proofs.spans.slots_in_span.Given as goal

abbrev pub invariant-loop-column : goal.invariant-loop-column
invariant-loop-column l = l.slots.items ≡ range_with_len l.span.first l.column
