-- An array and a word are a loop.
use Rattle.std.proofs.Common.{[], ◌∷◌, length, refl, w64}
use Rattle.std.proofs.lemmas.Int.{to_z-of_z}
use Rattle.hp_word.specs.declared.elem.Elem.TheVariants.{Input, Number}
use Rattle.hp_word.specs.declared.elem.Elem.TheViews.{Calc}
use Rattle.hp_meaning.proofs.LoopForms.{right_looped}
use Rattle.hp_meaning.proofs.LoopLemmas.{as_loop}
use Rattle.hp_meaning.proofs.operators.with_right.Goals as goal

pub returns : goal.returns
returns c =
    let xs = c.args.xs.now in
    let elem = rw (to_z-of_z w64 c.args.y c.ranges.y) at c.in_ok-elem.ensures in
    as_loop _ (xs ∷ []) c.in_ok-elem.elem (Calc c.args.op c.args.at (Input 0) (Number c.args.y)) (length xs) _ c.looped.result refl elem (right_looped c.args.at c.args.op xs c.args.y) c.looped.ensures
