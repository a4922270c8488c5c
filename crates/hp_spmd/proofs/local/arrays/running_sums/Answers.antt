-- One more sum.
use Rattle.std.proofs.Common.{FitsSigned, w64, pos, get_or, rules}
use Rattle.std.proofs.lemmas.Int.{to_z-of_z}
use Rattle.hp_spmd.proofs.SumLemmas.{sums_more, sums_end}
use Rattle.hp_spmd.proofs.local.arrays.running_sums.Goals as goal

pub loop-cell-preserved : goal.loop-cell-preserved
loop-cell-preserved c =
    let item : FitsSigned w64 (get_or c.args.cells.now c.loop-cell.cell-index (pos 0)) = search rules in
    let fits : FitsSigned w64 c.add-total.result = search rules in
    let sum = rw (to_z-of_z w64 (get_or c.args.cells.now c.loop-cell.cell-index (pos 0)) item) at c.add-total.ensures in
    let pushed = rw (to_z-of_z w64 c.add-total.result fits) at c.in_ok-push.ensures.ok in
    rw (to_z-of_z w64 c.add-total.result fits) (sums_more c.loop-cell.made c.push.new.self _ c.add-total.result (pos 0) c.args.cells.now c.loop-cell.cell-index _ c.loop-cell-test.true c.loop-cell.invariant sum pushed)

pub returns : goal.returns
returns c =
    let fits : FitsSigned w64 c.args.before = search rules in
    rw (to_z-of_z w64 c.args.before fits) at (sums_end c.loop-cell.made _ c.args.cells.now c.loop-cell.cell-index _ c.loop-cell-test.false c.loop-cell.invariant)
