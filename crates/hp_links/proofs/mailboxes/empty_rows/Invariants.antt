-- The rows so far.
use Rattle.std.proofs.Common.{◌≡◌, replicate}
use Rattle.hp_links.specs.Chains.{no_ends}
use Rattle.hp_links.proofs.mailboxes.empty_rows.Given as goal

abbrev pub invariant-loop-made : goal.invariant-loop-made
invariant-loop-made l = l.rows.items ≡ replicate l._made (replicate l.ranks no_ends)
