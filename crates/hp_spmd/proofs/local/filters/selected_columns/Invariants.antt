-- The columns so far.
use Rattle.std.proofs.Common.{◌≡◌, length, map, take}
use Rattle.hp_word.specs.RowRules.{filter_rows}
use Rattle.hp_spmd.specs.Arrays.{cells_at}
use Rattle.hp_spmd.specs.Frames.{levelled}
use Rattle.hp_spmd.proofs.local.filters.selected_columns.Given as goal

abbrev pub invariant-loop-at : goal.invariant-loop-at
invariant-loop-at l = l.made.items ≡ map (λ k. filter_rows l.mask (levelled (length l.mask) (cells_at l.arrays k))) (take l.at-index l.from)
