-- Each position has its element, or the first that has none stops.
use Rattle.std.proofs.Common.{rules, FitsSigned, w64, get_or, pos}
use Rattle.std.proofs.lemmas.Int.{to_z-of_z}
use Rattle.std.proofs.lemmas.Result.{err_from_is_err_and}
use Rattle.hp_meaning.proofs.ListLemmas.{elements_none, elements_stop, elements_more, elements_made}
use Rattle.hp_meaning.proofs.lists.elements_at.Goals as goal

pub loop-i-init : goal.loop-i-init
loop-i-init c = search (rules, elements_none)

pub returns-in_err-element_at : goal.returns-in_err-element_at
returns-in_err-element_at c =
    let p = err_from_is_err_and c.from_residual.result c.from_residual.ensures.1 in
    let item : FitsSigned w64 (get_or c.args.positions.now c.loop-i.i-index (pos 0)) = search rules in
    let told = rw (to_z-of_z w64 (get_or c.args.positions.now c.loop-i.i-index (pos 0)) item) at c.in_err-element_at.ensures in
    rw (p.1, p.2) (elements_stop c.args.at c.args.xs.now c.args.positions.now c.loop-i.i-index c.loop-i.made _ c.loop-i-test.true c.loop-i.invariant told)

pub loop-i-preserved : goal.loop-i-preserved
loop-i-preserved c =
    let fits : FitsSigned w64 c.in_ok-element_at.field-0 = search rules in
    let item : FitsSigned w64 (get_or c.args.positions.now c.loop-i.i-index (pos 0)) = search rules in
    let pushed = rw (to_z-of_z w64 c.in_ok-element_at.field-0 fits) at c.in_ok-push.ensures.ok in
    let made = rw (to_z-of_z w64 (get_or c.args.positions.now c.loop-i.i-index (pos 0)) item) at c.in_ok-element_at.ensures in
    elements_more c.args.at c.args.xs.now c.args.positions.now c.loop-i.i-index c.loop-i.made _ _ c.loop-i-test.true c.loop-i.invariant made pushed

pub returns : goal.returns
returns c = search (rules, elements_made)
