-- A body that is a number at each place is a loop over the array.
use Rattle.std.proofs.Common.{◌≡◌, true, ℕ, ℤ, List, [], ◌∷◌, length, refl, Option, subst}
use Rattle.std.specs.Prelude.{IfSome}
use Rattle.hp_word.specs.LoopRules.{sight_in}
use Rattle.hp_script.specs.Mirror.{tree_of}
use Rattle.hp_meaning.specs.declared.elements.Typed.{Typed}
use Rattle.hp_meaning.specs.declared.value.Kind.TheVariants.{Number}
use Rattle.hp_meaning.specs.LambdaRules.{Around, inside, scalar}
use Rattle.hp_meaning.specs.Operands.{is_kind}
use Rattle.hp_meaning.proofs.ElementLemmas.{found_is, stencil_element}
use Rattle.hp_meaning.proofs.LoopForms.{stencil_looped}
use Rattle.hp_meaning.proofs.LoopLemmas.{as_loop}
use Rattle.hp_meaning.proofs.lambdas.stencil_words.Goals as goal

pub returns-in-Some : goal.returns-in-Some
returns-in-Some c =
    let xs = c.args.xs.now in
    let f = λ (ys : List ℤ) (i : ℕ). scalar (tree_of c.args.body.now) (inside c.args.parameter.now (Around ys i) c.args.vars.now) in
    let is = found_is f c.in_ok-made.field-0 c.in-Some.made c.in-Some.is c.in_ok-made.ensures.element in
    let number : true ≡ is_kind Number c.in-Some.made.kind = subst (λ (o : Option Typed). IfSome o (λ made. true ≡ is_kind Number made.kind)) c.in-Some.is c.in_ok-made.ensures.kind in
    as_loop _ (xs ∷ []) c.in-Some.made.elem c.in-Some.made.elem (length xs) _ c.looped.result refl refl
    (stencil_looped c.args.vars.now c.args.parameter.now (tree_of c.args.body.now) xs (sight_in (xs ∷ [])) c.in-Some.made.elem (stencil_element f c.in-Some.made xs number is)) c.looped.ensures
