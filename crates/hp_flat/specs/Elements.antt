-- Bodies of lambdas, and dotted constructs, as elements of loops.
use Rattle.std.specs.Prelude.{ℕ, pos, nat_abs, max, if◌then◌else◌, List, [], ◌∷◌, length, bytes_eq, unwrap_or, Option, Some}
use Rattle.hp_word.specs.declared.elem.Elem.{Elem}
use Rattle.hp_word.specs.declared.elem.Elem.TheVariants.{Number, Word, Input, Near}
use Rattle.hp_word.specs.declared.elem.Elem.TheViews.{Calc, Both, Either}
use Rattle.hp_word.specs.declared.place.Place.{Place}
use Rattle.hp_word.specs.declared.word.CalcOp.{CalcOp}
use Rattle.hp_word.specs.declared.word.CalcOp.TheVariants as calc
use Rattle.hp_word.specs.Words.{truth}
use Rattle.hp_script.specs.declared.function.Function.{Function}
use Rattle.hp_script.specs.declared.function.Function.TheVariants as function
use Rattle.hp_script.specs.declared.tree.UnOp.{UnOp}
use Rattle.hp_script.specs.declared.tree.UnOp.TheVariants as unary_op
use Rattle.hp_script.specs.declared.tree.BinOp.{BinOp}
use Rattle.hp_script.specs.declared.tree.BinOp.TheVariants as binary_op
use Rattle.hp_script.specs.Functions.{function_named}
use Rattle.hp_script.specs.Mirror.{Tree, Args, number, truth as truth_tree, text, variable, column, field, unary, binary, index, call, none, plain, range, lambda, named}
use Rattle.hp_air.specs.Unknowns.{arrays_at}
use Rattle.hp_meaning.specs.LambdaRules.{distance}
use Rattle.hp_meaning.specs.WordRules.{calc_of, scalar_calc}
use Rattle.hp_flat.specs.Homes.{Homes, word_named, word_of}

-- ---- operators

-- the operation of an operator with one operand; it looks at its first word alone
abbrev pub unary_calc : UnOp → CalcOp
unary_calc unary_op.Neg = calc.Neg
unary_calc unary_op.Not = calc.Not

abbrev pub unary_elem : Place → UnOp → Elem → Elem
unary_elem at op a = Calc (unary_calc op) at a (Number (pos 0))

-- the second side of `&&` and `||` is looked at only where the first does not decide
abbrev pub binary_elem : Place → BinOp → Elem → Elem → Elem
binary_elem at binary_op.And a b = Both a b
binary_elem at binary_op.Or a b = Either a b
binary_elem at op a b = Calc (calc_of op) at a b

-- a call of `div`, `rem`, `min` or `max`
abbrev pub call_elem : Place → Option Function → List Elem → Elem
call_elem at (Some (function.Scalar f)) (a ∷ b ∷ []) = Calc (scalar_calc f) at a b
call_elem at _ _ = Number (pos 0)

-- ---- bodies of lambdas

-- the element of a body; the parameter is the only input of a `map`, and `p[d]` of a `stencil` is an element of its only
-- halo
unfoldable mutual
  pub elem_of : Homes → (parameter : List ℕ) → Tree → Elem
  elem_of h p (number n z) = Number z
  elem_of h p (truth_tree n holds) = Number (truth holds)
  elem_of h p (text n bytes) = Number (pos 0)
  elem_of h p (variable n x) = if bytes_eq x p then Input 0 else Word (word_named h x)
  elem_of h p (column n c) = Number (pos 0)
  elem_of h p (field n x c) = Number (pos 0)
  elem_of h p (unary n op dotted x) = unary_elem n.at op (elem_of h p x)
  elem_of h p (binary n op dotted x y) = binary_elem n.at op (elem_of h p x) (elem_of h p y)
  elem_of h p (index n x d) = Near 0 (unwrap_or (distance d) (pos 0))
  elem_of h p (call n f dotted xs) = call_elem n.at (function_named dotted f) (elems_of h p xs)

  pub elems_of : Homes → (parameter : List ℕ) → Args → List Elem
  elems_of h p none = []
  elems_of h p (plain x xs) = elem_of h p x ∷ elems_of h p xs
  elems_of h p (range x y xs) = elems_of h p xs
  elems_of h p (lambda parameter x xs) = elems_of h p xs
  elems_of h p (named name at x xs) = elems_of h p xs

-- the greatest distance of a `p[d]` of a body, or 0 where there is none
unfoldable mutual
  pub reach_of : Tree → ℕ
  reach_of (unary n op dotted x) = reach_of x
  reach_of (binary n op dotted x y) = max (reach_of x) (reach_of y)
  reach_of (index n x d) = nat_abs (unwrap_or (distance d) (pos 0))
  reach_of (call n f dotted xs) = reach_among xs
  reach_of _ = 0

  pub reach_among : Args → ℕ
  reach_among none = 0
  reach_among (plain x xs) = max (reach_of x) (reach_among xs)
  reach_among (range x y xs) = reach_among xs
  reach_among (lambda parameter x xs) = reach_among xs
  reach_among (named name at x xs) = reach_among xs

-- ---- dotted constructs

-- an operand of a dotted construct behind so many arrays: the next array, or a word
abbrev pub operand_elem : Homes → (inputs : ℕ) → Tree → Elem
operand_elem h inputs x = elim (arrays_at h.known x) [ [] ↦ Word (word_of h x) | (_ ∷ _) ↦ Input inputs ]

-- two operands, of which the second stands behind the arrays of the first
unfoldable pub dotted_elem : Homes → Place → CalcOp → Tree → Tree → Elem
dotted_elem h at op x y = Calc op at (operand_elem h 0 x) (operand_elem h (length (arrays_at h.known x)) y)
