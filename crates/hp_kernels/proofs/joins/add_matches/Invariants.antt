-- The pairs so far, with those of the rows that are still linked, are all; and they are not too many.
use Rattle.std.proofs.Common.{◌++◌, ◌≤◌, length}
use Rattle.hp_word.specs.Lengths.{longest}
use Rattle.hp_word.specs.RowRules.{matches_of}
use Rattle.hp_kernels.proofs.LinkedLemmas.{Pairing, rest_of}
use Rattle.hp_kernels.proofs.joins.add_matches.Given as goal

abbrev pub invariant-loop-next : goal.invariant-loop-next
invariant-loop-next l = record {
  all : Pairing l.rows.next.items l.left (l.initial.pairs.items ++ matches_of l.left l.key 0 l.column) l.pairs.items l.next;
  few : length l.initial.pairs.items ≤ longest → length l.pairs.items ≤ longest;
}

abbrev pub decreases-loop-next : goal.decreases-loop-next
decreases-loop-next l = rest_of (length l.rows.next.items) l.next
