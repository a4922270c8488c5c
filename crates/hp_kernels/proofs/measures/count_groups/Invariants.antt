-- The counts of the first rows.
use Rattle.std.proofs.Common.{◌≡◌, map}
use Rattle.hp_word.specs.RowRules.{group_keys}
use Rattle.hp_kernels.proofs.MeasureLemmas.{count_so_far}
use Rattle.hp_kernels.proofs.measures.count_groups.Given as goal

abbrev pub invariant-loop-i : goal.invariant-loop-i
invariant-loop-i l = l.made.items ≡ map (count_so_far l.keys l.i) (group_keys l.keys)
