-- The ends so far.
use Rattle.std.proofs.Common.{◌≡◌, replicate}
use Rattle.hp_links.specs.Chains.{no_ends}
use Rattle.hp_links.proofs.mailboxes.empty_row.Given as goal

abbrev pub invariant-loop-made : goal.invariant-loop-made
invariant-loop-made l = l.row.items ≡ replicate l._made no_ends
