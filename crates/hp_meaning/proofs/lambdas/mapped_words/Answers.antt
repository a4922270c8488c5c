-- A body that is an element is a loop over the array.
use Rattle.std.proofs.Common.{ℕ, ℤ, List, [], ◌∷◌, length, refl}
use Rattle.hp_word.specs.LoopRules.{sight_in, word_at}
use Rattle.hp_script.specs.Mirror.{tree_of}
use Rattle.hp_meaning.specs.LambdaRules.{Element, inside, scalar}
use Rattle.hp_meaning.proofs.ElementLemmas.{found_is, mapped_element}
use Rattle.hp_meaning.proofs.LoopForms.{mapped_looped}
use Rattle.hp_meaning.proofs.LoopLemmas.{as_loop}
use Rattle.hp_meaning.proofs.lambdas.mapped_words.Goals as goal

pub returns-in-Some : goal.returns-in-Some
returns-in-Some c =
    let xs = c.args.xs.now in
    let f = λ (ys : List ℤ) (i : ℕ). scalar (tree_of c.args.body.now) (inside c.args.parameter.now (Element c.args.kind (word_at ys i)) c.args.vars.now) in
    let is = found_is f c.in_ok-made.field-0 c.in-Some.made c.in-Some.is c.in_ok-made.ensures in
    as_loop _ (xs ∷ []) c.in-Some.made.elem c.in-Some.made.elem (length xs) _ c.looped.result refl refl
    (mapped_looped c.args.vars.now c.args.parameter.now (tree_of c.args.body.now) c.args.kind xs (sight_in (xs ∷ [])) c.in-Some.made.elem (mapped_element f c.in-Some.made xs is)) c.looped.ensures
