-- Two arrays of one length are a loop.
use Rattle.std.proofs.Common.{[], ◌∷◌, length, refl}
use Rattle.hp_word.specs.declared.elem.Elem.TheVariants.{Input}
use Rattle.hp_word.specs.declared.elem.Elem.TheViews.{Calc}
use Rattle.hp_meaning.proofs.LoopForms.{pairs_looped}
use Rattle.hp_meaning.proofs.LoopLemmas.{as_loop}
use Rattle.hp_meaning.proofs.operators.pairwise.Goals as goal

pub returns : goal.returns
returns c =
    let xs = c.args.xs.now in
    let ys = c.args.ys.now in
    as_loop _ (xs ∷ ys ∷ []) c.in_ok-elem.elem (Calc c.args.op c.args.at (Input 0) (Input 1)) (length xs) _ c.looped.result refl c.in_ok-elem.ensures (pairs_looped c.args.at c.args.op xs ys c.if-xs-ys.false) c.looped.ensures
