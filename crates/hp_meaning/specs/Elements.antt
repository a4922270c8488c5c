-- What the body of a lambda is as an element of a loop over the lambda's array.
use Rattle.std.specs.Prelude.{◌≡◌, ℕ, ℤ, List, [], ◌∷◌}
use Rattle.hp_word.specs.declared.elem.Elem.{Elem}
use Rattle.hp_word.specs.declared.elem.Elem.TheViews.{Both, Either}
use Rattle.hp_word.specs.declared.word.CalcOp.{CalcOp}
use Rattle.hp_word.specs.declared.word.CalcOp.TheVariants as calc
use Rattle.hp_word.specs.LoopRules.{sight_in, word_at}
use Rattle.hp_script.specs.declared.tree.UnOp.{UnOp}
use Rattle.hp_script.specs.declared.tree.UnOp.TheVariants as unary
use Rattle.hp_script.specs.declared.tree.BinOp.{BinOp}
use Rattle.hp_script.specs.declared.tree.BinOp.TheVariants as binary
use Rattle.hp_meaning.specs.declared.elements.Role.{Role}
use Rattle.hp_meaning.specs.declared.elements.Role.TheVariants as role
use Rattle.hp_meaning.specs.declared.elements.Binding.{Binding}
use Rattle.hp_meaning.specs.declared.elements.Typed.{Typed}
use Rattle.hp_meaning.specs.declared.value.Value.{Value}
use Rattle.hp_meaning.specs.LambdaRules.{Sight, Element, Around, Inside, inside}
use Rattle.hp_meaning.specs.LoopLaws.{element_of}
use Rattle.hp_meaning.specs.Outcomes.{Answer}
use Rattle.hp_meaning.specs.WordRules.{worded}

-- what the parameter stands for at a place of an array
abbrev pub stands_for : Role → List ℤ → ℕ → Sight
stands_for (role.Each kind) xs i = Element kind (word_at xs i)
stands_for role.Around xs i = Around xs i

-- what a body sees there
abbrev pub inside_at : Binding → List ℤ → ℕ → Inside
inside_at binding xs i = inside binding.parameter.now (stands_for binding.role xs i) binding.vars.now

-- at each place of each array the element has the word of the answer, of one kind, or its trap
pub record IsElement (answer : List ℤ → ℕ → Answer Value) (made : Typed) : Type 0 where
  pub gives : (xs : List ℤ) (i : ℕ) → answer xs i ≡ worded made.kind (element_of (sight_in (xs ∷ [])) made.elem i)

-- the operation of `-` and `!`
abbrev pub unary_calc : UnOp → CalcOp
unary_calc unary.Neg = calc.Neg
unary_calc unary.Not = calc.Not

-- the element of `||` and of `&&`
abbrev pub IsGuard : BinOp → (a b made : Elem) → Type 0
IsGuard binary.Or a b made = made ≡ Either a b
IsGuard binary.And a b made = made ≡ Both a b
IsGuard _ a b made = ⊥
