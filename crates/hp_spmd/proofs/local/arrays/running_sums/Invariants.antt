use Rattle.std.proofs.Common.{◌≡◌, ◌++◌, drop}
use Rattle.hp_word.specs.ListRules.{sums_after}
use Rattle.hp_spmd.proofs.local.arrays.running_sums.Given as goal

abbrev pub invariant-loop-cell : goal.invariant-loop-cell
invariant-loop-cell l = l.made ++ sums_after l.total (drop l.cell-index l.cells) ≡ sums_after l.before l.cells
