-- The nodes so far, and the last of them.
use Rattle.std.proofs.Common.{◌≡◌}
use Rattle.hp_links.specs.Chains.{all_unused, before}
use Rattle.hp_links.proofs.mailboxes.unused_letters.Given as goal

abbrev pub invariant-loop-node : goal.invariant-loop-node
invariant-loop-node l = (l.table.items ≡ all_unused l.node) × (l.next ≡ before l.node)
