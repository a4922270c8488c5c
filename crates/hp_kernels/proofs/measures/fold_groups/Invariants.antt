-- The folds of the first rows.
use Rattle.std.proofs.Common.{◌≡◌, map}
use Rattle.hp_word.specs.RowRules.{group_keys}
use Rattle.hp_kernels.proofs.MeasureLemmas.{fold_so_far}
use Rattle.hp_kernels.proofs.measures.fold_groups.Given as goal

abbrev pub invariant-loop-i : goal.invariant-loop-i
invariant-loop-i l = l.made.items ≡ map (fold_so_far l.kind l.keys l.cells l.i) (group_keys l.keys)
