-- Operators and the functions of two numbers have a value or trap where their operands are of the types that they are for.
use Rattle.std.proofs.Common.{◌≡◌, ℤ, Bool, true, false, not, eqb, List, [], ◌∷◌, map, length, zip, refl}
use Rattle.std.specs.List.{list_all}
use Rattle.std.proofs.lemmas.Bool.{and_from, and_parts}
use Rattle.hp_word.specs.declared.place.Place.{Place}
use Rattle.hp_word.specs.declared.word.CalcOp.{CalcOp}
use Rattle.hp_word.specs.FoldLaws.{is_truth}
use Rattle.hp_word.specs.MatrixRules.{product}
use Rattle.hp_word.specs.Words.{truth, is_true, calculated}
use Rattle.hp_script.specs.declared.function.ScalarFunction.{ScalarFunction}
use Rattle.hp_script.specs.declared.tree.UnOp.{UnOp}
use Rattle.hp_script.specs.declared.tree.UnOp.TheVariants as unary
use Rattle.hp_script.specs.declared.tree.BinOp.{BinOp}
use Rattle.hp_script.specs.declared.tree.BinOp.TheVariants as binary
use Rattle.hp_script.specs.declared.typed.Shape.{Shape}
use Rattle.hp_script.specs.declared.typed.Shape.TheVariants as shape
use Rattle.hp_script.specs.Results.{some_if, are_numbers, spreads_numbers, spreads_truths, arithmetic_result, product_result, binary_result, unary_result}
use Rattle.hp_meaning.specs.declared.value.Kind.{Kind}
use Rattle.hp_meaning.specs.declared.value.Kind.TheVariants.{Number, Truth}
use Rattle.hp_word.specs.declared.matrix.Matrix.{Matrix as Grid}
use Rattle.hp_meaning.specs.declared.value.Value.{Value}
use Rattle.hp_meaning.specs.declared.value.Value.TheVariants.{Word, List as Listed}
use Rattle.hp_meaning.specs.Fitting.{HasShape, a_number, a_truth, numbers, truths, a_matrix}
use Rattle.hp_meaning.specs.MatrixRules.{gridded, multiplied}
use Rattle.hp_meaning.specs.Outcomes.{Answer, all_of}
use Rattle.hp_meaning.specs.ValueOf.{undotted_value, operator_value}
use Rattle.hp_meaning.specs.WordRules.{calc_of, operands_of, result_of, is_lazy, decision, scalar_calc, calculated_at, worded, listed, pairwise, with_right, with_left, spread, elementwise, calculated_words, unary_value, plain_value, dotted_value, scalar_value, negated}
use Rattle.hp_meaning.proofs.Fine.{Right, gives, traps, Told, also_right, right_if, answered_told, told_told, RightAs, so, no}

-- ---- kinds

-- the types of the words and of the arrays of a kind
abbrev pub word_shape : Kind → Shape
word_shape Number = shape.Int
word_shape Truth = shape.Bool

abbrev pub list_shape : Kind → Shape
list_shape Number = shape.Ints
list_shape Truth = shape.Bools

-- the words and the lists of words of a kind: truth values are 0 and 1
abbrev pub OfKind : Kind → ℤ → Type 0
OfKind Number x = Unit {0}
OfKind Truth x = is_truth x ≡ true

abbrev pub AllOf : Kind → List ℤ → Type 0
AllOf Number xs = Unit {0}
AllOf Truth xs = list_all is_truth xs ≡ true

pub truth_of : (b : Bool) → is_truth (truth b) ≡ true
truth_of true = refl
truth_of false = refl

-- what `&&` or `||` is where the first side decides
pub decision_truth : (op : BinOp) → is_truth (decision op) ≡ true
decision_truth binary.Or = refl
decision_truth _ = refl

pub none_of : (kind : Kind) → AllOf kind []
none_of Number = tt
none_of Truth = refl

pub more_of : (kind : Kind) (x : ℤ) (xs : List ℤ) → OfKind kind x → AllOf kind xs → AllOf kind (x ∷ xs)
more_of Number x xs h k = tt
more_of Truth x xs h k = and_from (is_truth x) (list_all is_truth xs) h k

pub first_of : (kind : Kind) (x : ℤ) (xs : List ℤ) → AllOf kind (x ∷ xs) → OfKind kind x
first_of Number x xs h = tt
first_of Truth x xs h = (and_parts (is_truth x) (list_all is_truth xs) h).0

pub rest_of : (kind : Kind) (x : ℤ) (xs : List ℤ) → AllOf kind (x ∷ xs) → AllOf kind xs
rest_of Number x xs h = tt
rest_of Truth x xs h = (and_parts (is_truth x) (list_all is_truth xs) h).1

pub word_has : (kind : Kind) (x : ℤ) → OfKind kind x → HasShape (word_shape kind) (Word kind x)
word_has Number x h = a_number x
word_has Truth x h = a_truth x h

pub list_has : (kind : Kind) (xs : List ℤ) → AllOf kind xs → HasShape (list_shape kind) (Listed kind xs)
list_has Number xs h = numbers xs
list_has Truth xs h = truths xs h

pub worded_right : (kind : Kind) {answer : Answer ℤ} → Right ℤ (OfKind kind) answer → Right Value (HasShape (word_shape kind)) (worded kind answer)
worded_right kind (gives {a = x} h) = gives (word_has kind x h)
worded_right kind traps = traps

pub listed_right : (kind : Kind) {answer : Answer (List ℤ)} → Right (List ℤ) (AllOf kind) answer → Right Value (HasShape (list_shape kind)) (listed kind answer)
listed_right kind (gives {a = xs} h) = gives (list_has kind xs h)
listed_right kind traps = traps

-- what is made of each element is of a kind
pub each_of : {A : Type 0} (kind : Kind) (f : A → Answer ℤ) → ((a : A) → Right ℤ (OfKind kind) (f a)) → (xs : List A) → Right (List ℤ) (AllOf kind) (all_of (map f xs))
unfolding all_of
each_of kind f each [] = gives (none_of kind)
each_of kind f each (x ∷ xs) =
    also_right {P = OfKind kind} _ (each x) (λ y h. also_right {P = AllOf kind} _ (each_of kind f each xs) (λ ys k. gives (more_of kind y ys h k)))

-- the same of elements of a kind
pub mapped_of : (kind made : Kind) (f : ℤ → Answer ℤ) → ((x : ℤ) → OfKind kind x → Right ℤ (OfKind made) (f x)) → (xs : List ℤ) → AllOf kind xs → Right (List ℤ) (AllOf made) (all_of (map f xs))
unfolding all_of
mapped_of kind made f each [] h = gives (none_of made)
mapped_of kind made f each (x ∷ xs) h =
    also_right {P = OfKind made} _ (each x (first_of kind x xs h))
    (λ y p. also_right {P = AllOf made} _ (mapped_of kind made f each xs (rest_of kind x xs h)) (λ ys q. gives (more_of made y ys p q)))

-- ---- words

-- an operation gives words of this kind, or traps
abbrev Yields : Place → CalcOp → Kind → Type 0
Yields at op result = (x y : ℤ) → Right ℤ (OfKind result) (calculated_at at op x y)

number_yields : (at : Place) (op : CalcOp) → Yields at op Number
number_yields at op x y = answered_told at (calculated op x y)

operator_yields : (at : Place) (op : BinOp) → is_lazy op ≡ false → Yields at (calc_of op) (result_of op)
operator_yields at binary.Or lazy x y = absurd cc
operator_yields at binary.And lazy x y = absurd cc
operator_yields at binary.Eq lazy x y = gives (truth_of _)
operator_yields at binary.Ne lazy x y = gives (truth_of _)
operator_yields at binary.Lt lazy x y = gives (truth_of _)
operator_yields at binary.Le lazy x y = gives (truth_of _)
operator_yields at binary.Gt lazy x y = gives (truth_of _)
operator_yields at binary.Ge lazy x y = gives (truth_of _)
operator_yields at binary.Add lazy x y = gives tt
operator_yields at binary.Sub lazy x y = gives tt
operator_yields at binary.BitOr lazy x y = gives (truth_of _)
operator_yields at binary.Mul lazy x y = gives tt
operator_yields at binary.BitAnd lazy x y = gives (truth_of _)

words_right : (at : Place) (op : CalcOp) (operands result : Kind) (x y : ℤ) → operands ≡ Number → Yields at op result → Right Value (HasShape (word_shape result)) (calculated_words at op operands result (Word Number x) (Word Number y))
unfolding calculated_words
words_right at op Number result x y e each = worded_right result (each x y)
words_right at op Truth result x y e each = absurd cc

-- ---- element by element

pairs_of : (at : Place) (op : CalcOp) (result : Kind) (xs ys : List ℤ) → Yields at op result → Right (List ℤ) (AllOf result) (pairwise at op xs ys)
unfolding pairwise
pairs_of at op result xs ys each = right_if (eqb (length xs) (length ys)) (each_of result (λ (p : ℤ × ℤ). calculated_at at op p.0 p.1) (λ p. each p.0 p.1) (zip xs ys)) traps

right_of_each : (at : Place) (op : CalcOp) (result : Kind) (xs : List ℤ) (y : ℤ) → Yields at op result → Right (List ℤ) (AllOf result) (with_right at op xs y)
unfolding with_right
right_of_each at op result xs y each = each_of result (λ x. calculated_at at op x y) (λ x. each x y) xs

left_of_each : (at : Place) (op : CalcOp) (result : Kind) (x : ℤ) (ys : List ℤ) → Yields at op result → Right (List ℤ) (AllOf result) (with_left at op x ys)
unfolding with_left
left_of_each at op result x ys each = each_of result (λ y. calculated_at at op x y) (λ y. each x y) ys

numbers_spread : (at : Place) (op : CalcOp) (result : Kind) {ka kb : Shape} {a b : Value} → Yields at op result → HasShape ka a → HasShape kb b
    → RightAs (some_if (spreads_numbers ka kb) (list_shape result)) (elementwise at op Number result a b)
unfolding elementwise spread
numbers_spread at op result each (numbers xs) (numbers ys) = so (listed_right result (pairs_of at op result xs ys each))
numbers_spread at op result each (numbers xs) (a_number y) = so (listed_right result (right_of_each at op result xs y each))
numbers_spread at op result each (a_number x) (numbers ys) = so (listed_right result (left_of_each at op result x ys each))
numbers_spread at op result each _ _ = no

truths_spread : (at : Place) (op : CalcOp) (result : Kind) {ka kb : Shape} {a b : Value} → Yields at op result → HasShape ka a → HasShape kb b
    → RightAs (some_if (spreads_truths ka kb) (list_shape result)) (elementwise at op Truth result a b)
unfolding elementwise spread
truths_spread at op result each (truths xs h) (truths ys k) = so (listed_right result (pairs_of at op result xs ys each))
truths_spread at op result each (truths xs h) (a_truth y k) = so (listed_right result (right_of_each at op result xs y each))
truths_spread at op result each (a_truth x h) (truths ys k) = so (listed_right result (left_of_each at op result x ys each))
truths_spread at op result each _ _ = no

-- ---- operators

plain_right : (at : Place) (op : BinOp) (x y : ℤ) → is_lazy op ≡ false → operands_of op ≡ Number → Right Value (HasShape (word_shape (result_of op))) (plain_value at op (Word Number x) (Word Number y))
unfolding plain_value
plain_right at op x y lazy operands = rw lazy (words_right at _ (operands_of op) (result_of op) x y operands (operator_yields at op lazy))

undotted_as : (at : Place) (op : BinOp) → is_lazy op ≡ false → operands_of op ≡ Number → {ka kb : Shape} {a b : Value} → HasShape ka a → HasShape kb b
    → RightAs (some_if (are_numbers ka kb) (word_shape (result_of op))) (undotted_value at op a b)
undotted_as at op lazy operands (a_number x) (a_number y) = so (plain_right at op x y lazy operands)
undotted_as at op lazy operands _ _ = no

dotted_as : (at : Place) (op : BinOp) → is_lazy op ≡ false → operands_of op ≡ Number → {ka kb : Shape} {a b : Value} → HasShape ka a → HasShape kb b
    → RightAs (some_if (spreads_numbers ka kb) (list_shape (result_of op))) (dotted_value at op a b)
unfolding dotted_value
dotted_as at op lazy operands h k = rw (lazy, operands) (numbers_spread at _ (result_of op) (operator_yields at op lazy) h k)

masked_as : (at : Place) (op : BinOp) → is_lazy op ≡ false → operands_of op ≡ Truth → {ka kb : Shape} {a b : Value} → HasShape ka a → HasShape kb b
    → RightAs (some_if (spreads_truths ka kb) (list_shape (result_of op))) (dotted_value at op a b)
unfolding dotted_value
masked_as at op lazy operands h k = rw (lazy, operands) (truths_spread at _ (result_of op) (operator_yields at op lazy) h k)

pub gridded_right : {answer : Answer Grid} → Told Grid answer → Right Value (HasShape shape.Matrix) (gridded answer)
gridded_right (gives {a = m} h) = gives (a_matrix m)
gridded_right traps = traps

pub multiplied_right : (at : Place) (m n : Grid) → Right Value (HasShape shape.Matrix) (multiplied at m n)
unfolding multiplied
multiplied_right at m n = gridded_right (told_told (product at m n))

product_as : (at : Place) {ka kb : Shape} {a b : Value} → HasShape ka a → HasShape kb b → RightAs (product_result false ka kb) (undotted_value at binary.Mul a b)
product_as at (a_matrix m) (a_matrix n) = so (multiplied_right at m n)
product_as at (a_number x) (a_number y) = so (plain_right at binary.Mul x y refl refl)
product_as at _ _ = no

pub operator_as : (at : Place) (op : BinOp) (dotted : Bool) → is_lazy op ≡ false → {ka kb : Shape} {a b : Value} → HasShape ka a → HasShape kb b
    → RightAs (binary_result op dotted ka kb) (operator_value at op dotted a b)
unfolding operator_value
operator_as at binary.Or dotted lazy h k = absurd cc
operator_as at binary.And dotted lazy h k = absurd cc
operator_as at binary.Eq false lazy h k = undotted_as at binary.Eq refl refl h k
operator_as at binary.Eq true lazy h k = dotted_as at binary.Eq refl refl h k
operator_as at binary.Ne false lazy h k = undotted_as at binary.Ne refl refl h k
operator_as at binary.Ne true lazy h k = dotted_as at binary.Ne refl refl h k
operator_as at binary.Lt false lazy h k = undotted_as at binary.Lt refl refl h k
operator_as at binary.Lt true lazy h k = dotted_as at binary.Lt refl refl h k
operator_as at binary.Le false lazy h k = undotted_as at binary.Le refl refl h k
operator_as at binary.Le true lazy h k = dotted_as at binary.Le refl refl h k
operator_as at binary.Gt false lazy h k = undotted_as at binary.Gt refl refl h k
operator_as at binary.Gt true lazy h k = dotted_as at binary.Gt refl refl h k
operator_as at binary.Ge false lazy h k = undotted_as at binary.Ge refl refl h k
operator_as at binary.Ge true lazy h k = dotted_as at binary.Ge refl refl h k
operator_as at binary.Add false lazy h k = undotted_as at binary.Add refl refl h k
operator_as at binary.Add true lazy h k = dotted_as at binary.Add refl refl h k
operator_as at binary.Sub false lazy h k = undotted_as at binary.Sub refl refl h k
operator_as at binary.Sub true lazy h k = dotted_as at binary.Sub refl refl h k
operator_as at binary.BitOr false lazy h k = no
operator_as at binary.BitOr true lazy h k = masked_as at binary.BitOr refl refl h k
operator_as at binary.Mul false lazy h k = product_as at h k
operator_as at binary.Mul true lazy h k = dotted_as at binary.Mul refl refl h k
operator_as at binary.BitAnd false lazy h k = no
operator_as at binary.BitAnd true lazy h k = masked_as at binary.BitAnd refl refl h k

negated_of : (xs : List ℤ) → list_all is_truth (negated xs) ≡ true
unfolding negated
negated_of [] = refl
negated_of (x ∷ xs) = and_from _ _ (truth_of (not (is_true x))) (negated_of xs)

pub unary_as : (op : UnOp) (dotted : Bool) {k : Shape} {a : Value} → HasShape k a → RightAs (unary_result op dotted k) (unary_value op dotted a)
unfolding unary_value
unary_as unary.Neg false (a_number x) = so (gives (a_number _))
unary_as unary.Not false (a_truth x h) = so (gives (a_truth _ (truth_of _)))
unary_as unary.Not true (truths xs h) = so (gives (truths _ (negated_of xs)))
unary_as _ _ _ = no

-- ---- functions of two numbers

words_as : (at : Place) (op : CalcOp) {ka kb : Shape} {a b : Value} → HasShape ka a → HasShape kb b → RightAs (some_if (are_numbers ka kb) shape.Int) (calculated_words at op Number Number a b)
words_as at op (a_number x) (a_number y) = so (words_right at op Number Number x y refl (number_yields at op))
words_as at op _ _ = no

pub scalar_as : (f : ScalarFunction) (dotted : Bool) (at : Place) {ka kb : Shape} {a b : Value} → HasShape ka a → HasShape kb b → RightAs (arithmetic_result dotted ka kb) (scalar_value f dotted at a b)
unfolding scalar_value
scalar_as f false at h k = words_as at (scalar_calc f) h k
scalar_as f true at h k = numbers_spread at (scalar_calc f) Number (number_yields at (scalar_calc f)) h k
