-- Each element has its value, or the first that has none stops.
use Rattle.std.proofs.Common.{rules, FitsSigned, w64}
use Rattle.std.proofs.lemmas.Int.{to_z-of_z}
use Rattle.std.proofs.lemmas.Result.{err_from_is_err_and}
use Rattle.hp_script.specs.Mirror.{tree_of}
use Rattle.hp_meaning.proofs.LambdaLemmas.{stencil_none, stencil_stop, stencil_more, stencil_made}
use Rattle.hp_meaning.proofs.lambdas.stencil_in_turn.Goals as goal

pub loop-i-init : goal.loop-i-init
loop-i-init c = stencil_none c.args.vars.now c.args.parameter.now (tree_of c.args.body.now) c.args.xs.now c.new-made.result c.new-made.ensures

pub returns-in_err-y : goal.returns-in_err-y
returns-in_err-y c =
    let p = err_from_is_err_and c.from_residual.result c.from_residual.ensures.1 in
    rw (p.1, p.2) (stencil_stop c.args.vars.now c.args.parameter.now (tree_of c.args.body.now) c.args.xs.now c.loop-i.i c.loop-i.made _ c.loop-i-test.true c.loop-i.invariant c.in_err-y.ensures)

pub loop-i-preserved : goal.loop-i-preserved
loop-i-preserved c =
    let fits : FitsSigned w64 c.in_ok-y.y = search rules in
    let pushed = rw (to_z-of_z w64 c.in_ok-y.y fits) at c.in_ok-push.ensures.ok in
    stencil_more c.args.vars.now c.args.parameter.now (tree_of c.args.body.now) c.args.xs.now c.loop-i.i c.loop-i.made _ _ c.loop-i-test.true c.loop-i.invariant c.in_ok-y.ensures pushed

pub returns : goal.returns
returns c = search (rules, stencil_made)
