-- The sorted columns are those of the arrays, each as a whole vector.
use Rattle.std.proofs.Common.{◌∙◌, ap, map}
use Rattle.hp_spmd.specs.Arrays.{cells_at}
use Rattle.hp_spmd.proofs.RowNext.{sorted_whole}
use Rattle.hp_spmd.proofs.local.sorting.sorted_pieces.Goals as goal

pub returns : goal.returns
returns c =
    sorted_whole (λ made. made.items) c.whole_pieces.result c.args.key c.in_ok-sorted_columns.field-0.items _ (map (cells_at c.args.arrays.now) c.args.from.now)
    c.whole_pieces.ensures c.in_ok-sorted_columns.ensures (ap (map (λ c. c.now)) c.as_slice.ensures.value ∙ c.in_ok-columns.ensures)
