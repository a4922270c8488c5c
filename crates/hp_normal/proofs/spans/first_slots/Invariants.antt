-- What is listed, and what the rest of the values list, are the whole.
use Rattle.std.proofs.Common.{◌≡◌, ◌++◌, drop}
use Rattle.hp_normal.specs.HomesHeld.{firsts, var_widths, node_widths, widths}
use Rattle.hp_normal.proofs.spans.first_slots.Given as goal

abbrev pub invariant-loop-var : goal.invariant-loop-var
invariant-loop-var l = firsts 0 (widths l.shapes l.vars) ≡ l.slots.items ++ firsts l.next (var_widths (drop l.var-index l.vars) ++ node_widths l.shapes)

abbrev pub invariant-loop-shape : goal.invariant-loop-shape
invariant-loop-shape l = firsts 0 (widths l.shapes l.vars) ≡ l.slots.items ++ firsts l.next (node_widths (drop l.shape-index l.shapes))
