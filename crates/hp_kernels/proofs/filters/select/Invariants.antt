-- The cells that the mask has kept so far.
use Rattle.std.proofs.Common.{◌≡◌, take}
use Rattle.hp_word.specs.RowRules.{filter_rows}
use Rattle.hp_kernels.proofs.filters.select.Given as goal

abbrev pub invariant-loop-i : goal.invariant-loop-i
invariant-loop-i l = l.made.items ≡ filter_rows (take l.i l.mask) l.column
