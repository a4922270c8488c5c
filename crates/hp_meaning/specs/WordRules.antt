-- Operators and the functions of two numbers, on words and element by element.
use Rattle.std.specs.Prelude.{◌≡◌, ◌==◌, ℤ, pos, neg_ℤ, Bool, true, false, not, if◌then◌else◌, List, [], ◌∷◌, map, zip, length, refl}
use Rattle.std.specs.Int.{int_wrap}
use Rattle.hp_word.specs.declared.place.Place.{Place}
use Rattle.hp_word.specs.declared.place.TrapKind.TheVariants.{Divide, Mismatch}
use Rattle.hp_word.specs.declared.word.CalcOp.{CalcOp}
use Rattle.hp_word.specs.declared.word.CalcOp.TheVariants as calc
use Rattle.hp_word.specs.Lengths.{trap}
use Rattle.hp_word.specs.Words.{wrap, truth, is_true, calculated}
use Rattle.hp_script.specs.declared.function.ScalarFunction.{ScalarFunction}
use Rattle.hp_script.specs.declared.function.ScalarFunction.TheVariants as functions
use Rattle.hp_script.specs.declared.tree.UnOp.{UnOp}
use Rattle.hp_script.specs.declared.tree.UnOp.TheVariants as unary
use Rattle.hp_script.specs.declared.tree.BinOp.{BinOp}
use Rattle.hp_script.specs.declared.tree.BinOp.TheVariants as binary
use Rattle.hp_meaning.specs.declared.value.Kind.{Kind}
use Rattle.hp_meaning.specs.declared.value.Kind.TheVariants.{Number, Truth}
use Rattle.hp_meaning.specs.declared.value.Value.{Value}
use Rattle.hp_meaning.specs.declared.value.Value.TheVariants.{Word, List as Listed}
use Rattle.hp_meaning.specs.Outcomes.{Answer, Gives, Traps, Refuses, also, given, answered, all_of}
use Rattle.hp_meaning.specs.Operands.{as_number, as_truth, as_truths, as_word_of, Cells, One, Many, as_cells}

-- ---- operators

-- the operation of an operator
abbrev pub calc_of : BinOp → CalcOp
calc_of binary.Or = calc.Or
calc_of binary.And = calc.And
calc_of binary.Eq = calc.Eq
calc_of binary.Ne = calc.Ne
calc_of binary.Lt = calc.Lt
calc_of binary.Le = calc.Le
calc_of binary.Gt = calc.Gt
calc_of binary.Ge = calc.Ge
calc_of binary.Add = calc.Add
calc_of binary.Sub = calc.Sub
calc_of binary.BitOr = calc.Or
calc_of binary.Mul = calc.Mul
calc_of binary.BitAnd = calc.And

abbrev pub scalar_calc : ScalarFunction → CalcOp
scalar_calc functions.Div = calc.Div
scalar_calc functions.Rem = calc.Rem
scalar_calc functions.Min = calc.Min
scalar_calc functions.Max = calc.Max

-- what an operator is for
abbrev pub operands_of : BinOp → Kind
operands_of binary.Or = Truth
operands_of binary.And = Truth
operands_of binary.BitOr = Truth
operands_of binary.BitAnd = Truth
operands_of _ = Number

-- what an operator gives
abbrev pub result_of : BinOp → Kind
result_of binary.Add = Number
result_of binary.Sub = Number
result_of binary.Mul = Number
result_of _ = Truth

-- the operators `||` and `&&`, whose second side is evaluated only where the first does not decide
abbrev pub is_lazy : BinOp → Bool
is_lazy binary.Or = true
is_lazy binary.And = true
is_lazy _ = false

-- ---- words

-- an operation on two words
abbrev pub calculated_at : Place → CalcOp → ℤ → ℤ → Answer ℤ
calculated_at at op x y = answered at (calculated op x y)

-- a word of this kind, where there is one
abbrev pub worded : Kind → Answer ℤ → Answer Value
worded kind answer = also answer (λ z. Gives (Word kind z))

-- two words of this kind
abbrev pub two_words : Kind → Value → Value → (ℤ → ℤ → Answer Value) → Answer Value
two_words kind a b rule = given (as_word_of kind a) (λ x. given (as_word_of kind b) (λ y. rule x y))

-- the result of `&&` or `||` where the first side decides it
abbrev pub decides : BinOp → ℤ → Bool
decides binary.Or x = is_true x
decides _ x = not (is_true x)

-- and what it is then
abbrev pub decision : BinOp → ℤ
decision binary.Or = truth true
decision _ = truth false

-- ---- element by element

abbrev pub listed : Kind → Answer (List ℤ) → Answer Value
listed kind answer = also answer (λ xs. Gives (Listed kind xs))

-- two arrays of one length, element by element from the first on
unfoldable pub pairwise : Place → CalcOp → List ℤ → List ℤ → Answer (List ℤ)
pairwise at op xs ys = if length xs == length ys then all_of (map (λ p. calculated_at at op p.0 p.1) (zip xs ys)) else Traps (trap at Mismatch)

-- an array and a word, and a word and an array
unfoldable pub with_right : Place → CalcOp → List ℤ → ℤ → Answer (List ℤ)
with_right at op xs y = all_of (map (λ x. calculated_at at op x y) xs)

unfoldable pub with_left : Place → CalcOp → ℤ → List ℤ → Answer (List ℤ)
with_left at op x ys = all_of (map (λ y. calculated_at at op x y) ys)

-- at least one of the two is an array
unfoldable pub spread : Place → CalcOp → Cells → Cells → Answer (List ℤ)
spread at op (Many xs) (Many ys) = pairwise at op xs ys
spread at op (Many xs) (One y) = with_right at op xs y
spread at op (One x) (Many ys) = with_left at op x ys
spread at op (One x) (One y) = Refuses

-- the same of two values of the kind `operands`
unfoldable pub elementwise : Place → CalcOp → (operands result : Kind) → Value → Value → Answer Value
elementwise at op operands result a b =
    given (as_cells operands a) (λ x. given (as_cells operands b) (λ y. listed result (spread at op x y)))

-- an operation on two words of the kind `operands`
unfoldable pub calculated_words : Place → CalcOp → (operands result : Kind) → Value → Value → Answer Value
calculated_words at op operands result a b = two_words operands a b (λ x y. worded result (calculated_at at op x y))

-- the opposite truth values
unfoldable pub negated : List ℤ → List ℤ
negated xs = map (λ x. truth (not (is_true x))) xs

-- ---- constructs

-- `-a` of a number, `!a` of a truth value, `.!a` of an array of truth values
unfoldable pub unary_value : UnOp → (dotted : Bool) → Value → Answer Value
unary_value unary.Neg false a = given (as_number a) (λ x. Gives (Word Number (wrap (neg_ℤ x))))
unary_value unary.Neg true a = Refuses
unary_value unary.Not false a = given (as_truth a) (λ x. Gives (Word Truth (truth (not (is_true x)))))
unary_value unary.Not true a = given (as_truths a) (λ xs. Gives (Listed Truth (negated xs)))

-- an operator on two words, but for `&&` and `||`
unfoldable pub plain_value : Place → BinOp → Value → Value → Answer Value
plain_value at op a b = if is_lazy op then Refuses else calculated_words at (calc_of op) (operands_of op) (result_of op) a b

-- a dotted operator on arrays, or on an array and a word
unfoldable pub dotted_value : Place → BinOp → Value → Value → Answer Value
dotted_value at op a b = if is_lazy op then Refuses else elementwise at (calc_of op) (operands_of op) (result_of op) a b

-- `div`, `rem`, `min` and `max`
unfoldable pub scalar_value : ScalarFunction → (dotted : Bool) → Place → Value → Value → Answer Value
scalar_value f false at a b = calculated_words at (scalar_calc f) Number Number a b
scalar_value f true at a b = elementwise at (scalar_calc f) Number Number a b

-- ---- worked rows

-- `collect(1:2) .* 3` and `div.(collect(1:2), fill(0, 3))`
product_row : (at : Place) → dotted_value at binary.Mul (Listed Number (pos 1 ∷ pos 2 ∷ [])) (Word Number (pos 3)) ≡ Gives (Listed Number (pos 3 ∷ pos 6 ∷ []))
unfolding dotted_value elementwise spread with_right all_of int_wrap
product_row at = refl

mismatch_row : (at : Place) → scalar_value functions.Div true at (Listed Number (pos 1 ∷ pos 2 ∷ [])) (Listed Number (pos 0 ∷ pos 0 ∷ pos 0 ∷ [])) ≡ Traps (trap at Mismatch)
unfolding scalar_value elementwise spread pairwise
mismatch_row at = refl

divide_row : (at : Place) → scalar_value functions.Div true at (Listed Number (pos 1 ∷ pos 2 ∷ [])) (Listed Number (pos 1 ∷ pos 0 ∷ [])) ≡ Traps (trap at Divide)
unfolding scalar_value elementwise spread pairwise all_of
divide_row at = refl

-- `1 .+ 2` is not for two numbers
scalars_row : (at : Place) → dotted_value at binary.Add (Word Number (pos 1)) (Word Number (pos 2)) ≡ Refuses
unfolding dotted_value elementwise spread
scalars_row at = refl
