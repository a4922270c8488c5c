-- One more product, or none behind the end of the other list.
use Rattle.std.proofs.Common.{FitsSigned, w64, pos, get_or, to_z, ◌∙◌, rules}
use Rattle.std.proofs.lemmas.Int.{to_z-of_z}
use Rattle.hp_kernels.proofs.ProductLemmas.{dot_step, dot_same, dot_all}
use Rattle.hp_kernels.proofs.products.dot_product.Goals.{then-i-ys, else-i-ys}
use Rattle.hp_kernels.proofs.products.dot_product.Goals as goal

pub loop-i-preserved : goal.loop-i-preserved
loop-i-preserved c =
    let total = to_z w64 c.loop-i.total-bits in
    elim c.if-i-ys.branch [
      | then-i-ys w ↦
          let x : FitsSigned w64 (get_or c.args.xs.now c.loop-i.i (pos 0)) = search rules in
          let y : FitsSigned w64 (get_or c.args.ys.now c.loop-i.i (pos 0)) = search rules in
          let product_fits : FitsSigned w64 w.mul.result = search rules in
          let sum_fits : FitsSigned w64 w.add-total.result = search rules in
          let product = rw (to_z-of_z w64 (get_or c.args.xs.now c.loop-i.i (pos 0)) x, to_z-of_z w64 (get_or c.args.ys.now c.loop-i.i (pos 0)) y) at w.mul.ensures in
          let sum = rw (to_z-of_z w64 w.mul.result product_fits, product) at w.add-total.ensures in
          w.total-is ∙ to_z-of_z w64 w.add-total.result sum_fits ∙ sum ∙ dot_step c.args.xs.now c.args.ys.now c.loop-i.i total c.loop-i-test.true w.if-i-ys.true c.loop-i.invariant
      | else-i-ys w ↦ w.total-is ∙ dot_same c.args.xs.now c.args.ys.now c.loop-i.i total w.if-i-ys.false c.loop-i.invariant
    ]

pub returns : goal.returns
returns c = dot_all c.args.xs.now c.args.ys.now c.loop-i.i (to_z w64 c.loop-i.total-bits) c.loop-i-test.false c.loop-i.invariant
