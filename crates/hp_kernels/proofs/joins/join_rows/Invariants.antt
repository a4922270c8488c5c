-- The pairs so far, with those that are still to come, are those of the join; and they are not too many.
use Rattle.std.proofs.Common.{◌≡◌, ◌++◌, ◌≤◌, length, drop}
use Rattle.hp_word.specs.Lengths.{longest}
use Rattle.hp_word.specs.RowRules.{pairs_from, pairs_from_0}
use Rattle.hp_kernels.proofs.joins.join_rows.Given as goal

abbrev pub invariant-loop-i : goal.invariant-loop-i
invariant-loop-i l = record {
  all : l.pairs.items ++ pairs_from l.i 0 (drop l.i l.left) l.right ≡ pairs_from_0 l.left l.right;
  few : length l.pairs.items ≤ longest;
}
