-- A matrix whose rows are the arrays, with as many columns as the first has.
use Rattle.std.proofs.Common.{◌∙◌, refl, ap, map, length}
use Rattle.hp_spmd.specs.Matrices.{column_count}
use Rattle.hp_spmd.proofs.MatrixNext.{rows_stacked}
use Rattle.hp_spmd.proofs.local.matrices.stacked_rows.Goals as goal

pub returns : goal.returns
returns c =
    rows_stacked c.args.arrays.now c.args.from.now (map (λ c. c.now) c.as_slice.result.now) (length c.args.from.now) c.column_count-places.result c.in_ok-from_slice.field-0 c.in_ok-interleaved.field-0
    c.in-len1-up.len_at_least refl (c.in_ok-from_slice.ensures ∙ c.cuts_at.ensures) (c.column_count-places.ensures ∙ (λ i. column_count (c.rows_at.ensures i) (c.cells_at.ensures i)))
    (ap (map (λ c. c.now)) c.as_slice.ensures.value ∙ c.in_ok-lists.ensures) c.in_ok-interleaved.ensures
