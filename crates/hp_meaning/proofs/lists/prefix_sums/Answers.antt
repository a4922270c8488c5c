-- One more sum.
use Rattle.std.proofs.Common.{FitsSigned, w64, pos, get_or, to_z, ◌∙◌, rules}
use Rattle.std.proofs.lemmas.Int.{to_z-of_z}
use Rattle.hp_meaning.proofs.RunningLemmas.{running_pushed, total_step}
use Rattle.hp_meaning.proofs.lists.prefix_sums.Goals as goal

pub loop-x-preserved : goal.loop-x-preserved
loop-x-preserved c =
    let xs = c.args.xs.now in
    let i = c.loop-x.x-index in
    let total = to_z w64 c.loop-x.total-bits in
    let item : FitsSigned w64 (get_or c.args.xs.now c.loop-x.x-index (pos 0)) = search rules in
    let fits : FitsSigned w64 c.add-total.result = search rules in
    let sum = rw (to_z-of_z w64 (get_or c.args.xs.now c.loop-x.x-index (pos 0)) item) at c.add-total.ensures in
    let pushed = rw (to_z-of_z w64 c.add-total.result fits) at c.in_ok-push.ensures.ok in
    record {
      made_is = running_pushed xs i total c.add-total.result c.loop-x.made c.push.new.self c.loop-x-test.true c.loop-x.invariant.made_is c.loop-x.invariant.total_is sum pushed;
      total_is = to_z-of_z w64 c.add-total.result fits ∙ sum ∙ total_step xs i total c.loop-x-test.true c.loop-x.invariant.total_is;
    }
