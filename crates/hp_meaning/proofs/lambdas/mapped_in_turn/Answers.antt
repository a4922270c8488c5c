-- Each element has its value, or the first that has none stops.
use Rattle.std.proofs.Common.{rules, FitsSigned, w64, get_or, pos}
use Rattle.std.proofs.lemmas.Int.{to_z-of_z}
use Rattle.std.proofs.lemmas.Result.{err_from_is_err_and}
use Rattle.hp_script.specs.Mirror.{tree_of}
use Rattle.hp_meaning.proofs.LambdaLemmas.{mapped_none, mapped_stop, mapped_more, mapped_made}
use Rattle.hp_meaning.proofs.lambdas.mapped_in_turn.Goals as goal

pub loop-x-init : goal.loop-x-init
loop-x-init c = mapped_none c.args.vars.now c.args.parameter.now (tree_of c.args.body.now) c.args.kind c.args.xs.now c.new-made.result c.new-made.ensures

pub returns-in_err-y : goal.returns-in_err-y
returns-in_err-y c =
    let p = err_from_is_err_and c.from_residual.result c.from_residual.ensures.1 in
    let item : FitsSigned w64 (get_or c.args.xs.now c.loop-x.x-index (pos 0)) = search rules in
    let told = rw (to_z-of_z w64 (get_or c.args.xs.now c.loop-x.x-index (pos 0)) item) at c.in_err-y.ensures in
    rw (p.1, p.2) (mapped_stop c.args.vars.now c.args.parameter.now (tree_of c.args.body.now) c.args.kind c.args.xs.now c.loop-x.x-index c.loop-x.made _ c.loop-x-test.true c.loop-x.invariant told)

pub loop-x-preserved : goal.loop-x-preserved
loop-x-preserved c =
    let fits : FitsSigned w64 c.in_ok-y.y = search rules in
    let item : FitsSigned w64 (get_or c.args.xs.now c.loop-x.x-index (pos 0)) = search rules in
    let pushed = rw (to_z-of_z w64 c.in_ok-y.y fits) at c.in_ok-push.ensures.ok in
    let made = rw (to_z-of_z w64 (get_or c.args.xs.now c.loop-x.x-index (pos 0)) item) at c.in_ok-y.ensures in
    mapped_more c.args.vars.now c.args.parameter.now (tree_of c.args.body.now) c.args.kind c.args.xs.now c.loop-x.x-index c.loop-x.made _ _ c.loop-x-test.true c.loop-x.invariant made pushed

pub returns : goal.returns
returns c = search (rules, mapped_made)
