-- An array and a word are a loop.
use Rattle.std.proofs.Common.{[], ◌∷◌, length, refl, w64}
use Rattle.std.proofs.lemmas.Int.{to_z-of_z}
use Rattle.hp_word.specs.declared.elem.Elem.TheVariants.{Input, Number}
use Rattle.hp_word.specs.declared.elem.Elem.TheViews.{Calc}
use Rattle.hp_meaning.proofs.LoopForms.{left_looped}
use Rattle.hp_meaning.proofs.LoopLemmas.{as_loop}
use Rattle.hp_meaning.proofs.operators.with_left.Goals as goal

pub returns : goal.returns
returns c =
    let ys = c.args.ys.now in
    let elem = rw (to_z-of_z w64 c.args.x c.ranges.x) at c.in_ok-elem.ensures in
    as_loop _ (ys ∷ []) c.in_ok-elem.elem (Calc c.args.op c.args.at (Number c.args.x) (Input 0)) (length ys) _ c.looped.result refl elem (left_looped c.args.at c.args.op c.args.x ys) c.looped.ensures
