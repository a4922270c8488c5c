-- What a lambda makes of an element: scalar forms alone, which begin no ticks and execute no joins.
use Rattle.std.specs.Prelude.{◌≡◌, ℕ, ℤ, pos, neg_ℤ, ◌+ℤ◌, Bool, true, false, if◌then◌else◌, List, [], ◌∷◌, map, length, bytes_eq, codes, Option, Some, None, refl}
use Rattle.std.specs.Int.{int_wrap}
use Rattle.std.specs.List.{range_with_len}
use Rattle.std.specs.Option.{option_map}
use Rattle.hp_word.specs.declared.place.Place.{Place}
use Rattle.hp_word.specs.declared.place.TrapKind.TheVariants.{Divide}
use Rattle.hp_word.specs.Lengths.{trap}
use Rattle.hp_word.specs.LoopRules.{cell_at}
use Rattle.hp_word.specs.Words.{wrap, truth}
use Rattle.hp_script.specs.declared.function.Function.{Function}
use Rattle.hp_script.specs.declared.function.Function.TheVariants as functions
use Rattle.hp_script.specs.declared.tree.UnOp.{UnOp}
use Rattle.hp_script.specs.declared.tree.UnOp.TheVariants as unary_op
use Rattle.hp_script.specs.declared.tree.BinOp.{BinOp}
use Rattle.hp_script.specs.declared.tree.BinOp.TheVariants as binary_op
use Rattle.hp_script.specs.Functions.{function_named}
use Rattle.hp_script.specs.Mirror.{Head, Tree, Args, number, truth as truth_tree, text, variable, column, field, unary, binary, index, call, none, plain, range, lambda, named}
use Rattle.hp_meaning.specs.declared.value.Kind.{Kind}
use Rattle.hp_meaning.specs.declared.value.Kind.TheVariants.{Number, Truth}
use Rattle.hp_meaning.specs.declared.value.Value.{Value}
use Rattle.hp_meaning.specs.declared.value.Value.TheVariants.{Word, List as Listed}
use Rattle.hp_meaning.specs.declared.value.Var.{Var}
use Rattle.hp_meaning.specs.Outcomes.{Answer, Gives, Traps, Refuses, also, given, all_of}
use Rattle.hp_meaning.specs.Operands.{as_word, as_number, as_truth}
use Rattle.hp_meaning.specs.WordRules.{is_lazy, decides, decision, result_of, listed, calculated_words, unary_value, plain_value, scalar_value}
use Rattle.hp_meaning.specs.ListRules.{one_list, numbers}
use Rattle.hp_meaning.specs.Scopes.{value_named}

-- ---- what a body sees

-- the element that the parameter stands for: in `map` its kind and its word; in `stencil` the array and the element's
-- place from 0
pub data Sight : Type 0 where
  Element : Kind → ℤ → Sight
  Around : List ℤ → ℕ → Sight

-- the parameter, what it stands for, and the variables, of which it hides one of its name
pub record Inside : Type 0 where
  pub parameter : List ℕ
  pub sight : Sight
  pub vars : List Var

abbrev pub inside : List ℕ → Sight → List Var → Inside
inside parameter sight vars = record { parameter = parameter; sight = sight; vars = vars }

-- ---- forms

abbrev pub scalar_only : Option Value → Answer Value
scalar_only found = given found (λ a. given (as_word a) (λ w. Gives (Word w.0 w.1)))

abbrev pub parameter_value : Sight → Answer Value
parameter_value (Element kind x) = Gives (Word kind x)
parameter_value (Around xs k) = Refuses

-- the parameter, or a variable that is a number or a truth value
unfoldable pub name_value : List ℕ → Inside → Answer Value
name_value name i = if bytes_eq name i.parameter then parameter_value i.sight else scalar_only (value_named name i.vars)

abbrev pub is_variable : List ℕ → Tree → Bool
is_variable name (variable h other) = bytes_eq other name
is_variable name _ = false

abbrev pub literal : Tree → Option ℤ
literal (number h z) = Some z
literal _ = None

abbrev pub is_minus : UnOp → Bool → Bool
is_minus unary_op.Neg false = true
is_minus _ _ = false

-- the distance `d` of `p[d]`: a number, or `-` and a number
abbrev pub distance : Tree → Option ℤ
distance (number h z) = Some z
distance (unary h op dotted x) = if is_minus op dotted then option_map (λ z. wrap (neg_ℤ z)) (literal x) else None
distance _ = None

abbrev pub element_near : Sight → Option ℤ → Answer Value
element_near (Around xs k) (Some d) = Gives (Word Number (cell_at xs (pos k +ℤ d)))
element_near _ _ = Refuses

-- `p[d]` in a stencil
unfoldable pub near_value : Tree → Tree → Inside → Answer Value
near_value x d i = if is_variable i.parameter x then element_near i.sight (distance d) else Refuses

-- a truth value
abbrev pub one_truth : {A : Type 0} → Value → (ℤ → Answer A) → Answer A
one_truth a rule = given (as_truth a) rule

-- `&&` or `||` of two sides
unfoldable pub lazy_value : BinOp → Answer Value → Answer Value → Answer Value
lazy_value op a b = also a (λ v. one_truth v (λ x. if decides op x then Gives (Word Truth (decision op)) else also b (λ w. one_truth w (λ y. Gives (Word Truth y)))))

-- any other operator of two sides
unfoldable pub strict_value : Place → BinOp → Answer Value → Answer Value → Answer Value
strict_value at op a b = also a (λ v. also b (λ w. plain_value at op v w))

-- an operator on two sides
unfoldable pub operator_value : Place → BinOp → (dotted : Bool) → Answer Value → Answer Value → Answer Value
operator_value at op dotted a b =
    if dotted then Refuses else if is_lazy op then lazy_value op a b else strict_value at op a b

-- a call of `div`, `rem`, `min` or `max`
unfoldable pub call_value : Option Function → (dotted : Bool) → Place → List (Answer Value) → Answer Value
call_value (Some (functions.Scalar f)) false at (a ∷ b ∷ []) = also a (λ v. also b (scalar_value f false at v))
call_value _ _ at operands = Refuses

-- the value of a body
unfoldable mutual
  pub scalar : Tree → Inside → Answer Value
  scalar (number h z) i = Gives (Word Number z)
  scalar (truth_tree h holds) i = Gives (Word Truth (truth holds))
  scalar (text h bytes) i = Refuses
  scalar (variable h name) i = name_value name i
  scalar (column h name) i = Refuses
  scalar (field h name of_it) i = Refuses
  scalar (unary h op dotted x) i = also (scalar x i) (unary_value op dotted)
  scalar (binary h op dotted x y) i = operator_value h.at op dotted (scalar x i) (scalar y i)
  scalar (index h x d) i = near_value x d i
  scalar (call h function dotted xs) i = call_value (function_named dotted function) dotted h.at (scalars xs i)

  -- the values of arguments
  pub scalars : Args → Inside → List (Answer Value)
  scalars none i = []
  scalars (plain x xs) i = scalar x i ∷ scalars xs i
  scalars (range x y xs) i = Refuses ∷ scalars xs i
  scalars (lambda parameter x xs) i = Refuses ∷ scalars xs i
  scalars (named name at x xs) i = Refuses ∷ scalars xs i

-- the value of the first argument
abbrev pub first_value : List (Answer Value) → Answer Value
first_value (a ∷ rest) = a
first_value [] = Refuses

unfoldable pub argument_value : Args → Inside → Answer Value
argument_value xs i = first_value (scalars xs i)

-- ---- calls

abbrev pub kind_in : Option Value → Kind
kind_in (Some (Word kind x)) = kind
kind_in _ = Number

abbrev pub unary_kind : UnOp → Kind
unary_kind unary_op.Neg = Number
unary_kind unary_op.Not = Truth

-- what the body of a `map` gives, by its form
unfoldable pub kind_of : Tree → (parameter : List ℕ) → (element : Kind) → List Var → Kind
kind_of (truth_tree h holds) parameter element vars = Truth
kind_of (variable h name) parameter element vars = if bytes_eq name parameter then element else kind_in (value_named name vars)
kind_of (unary h op dotted x) parameter element vars = unary_kind op
kind_of (binary h op dotted x y) parameter element vars = result_of op
kind_of _ parameter element vars = Number

abbrev pub word_in : Value → Answer ℤ
word_in a = given (as_word a) (λ w. Gives w.1)

abbrev pub number_in : Value → Answer ℤ
number_in a = given (as_number a) Gives

-- what the body makes of each element, from the first on
unfoldable pub mapped_words : List Var → List ℕ → Tree → Kind → List ℤ → Answer (List ℤ)
mapped_words vars parameter body kind xs = all_of (map (λ x. also (scalar body (inside parameter (Element kind x) vars)) word_in) xs)

unfoldable pub mapped : List Var → List ℕ → Tree → Value → Answer Value
mapped vars parameter body a = one_list a (λ kind xs. listed (kind_of body parameter kind vars) (mapped_words vars parameter body kind xs))

unfoldable pub stencil_words : List Var → List ℕ → Tree → List ℤ → Answer (List ℤ)
stencil_words vars parameter body xs = all_of (map (λ k. also (scalar body (inside parameter (Around xs k) vars)) number_in) (range_with_len 0 (length xs)))

unfoldable pub stencilled : List Var → List ℕ → Tree → Value → Answer Value
stencilled vars parameter body a = numbers a (λ xs. listed Number (stencil_words vars parameter body xs))

-- ---- worked rows

-- `stencil(x -> x[-3] + x[3], collect(1:4))`
stencil_row : (h : Head) → stencilled [] (codes "x")
    (binary h binary_op.Add false (index h (variable h (codes "x")) (unary h unary_op.Neg false (number h (pos 3)))) (index h (variable h (codes "x")) (number h (pos 3))))
    (Listed Number (pos 1 ∷ pos 2 ∷ pos 3 ∷ pos 4 ∷ [])) ≡ Gives (Listed Number (pos 4 ∷ pos 0 ∷ pos 0 ∷ pos 1 ∷ []))
unfolding stencilled stencil_words scalar scalars operator_value strict_value near_value plain_value calculated_words all_of int_wrap
stencil_row h = refl

-- `map(p -> div(1, p), fill(0, 1))`
map_row : (h : Head) → mapped [] (codes "p") (call h (codes "div") false (plain (number h (pos 1)) (plain (variable h (codes "p")) none))) (Listed Number (pos 0 ∷ [])) ≡ Traps (trap h.at Divide)
unfolding mapped mapped_words scalar scalars call_value name_value scalar_value calculated_words all_of function_named Rattle.hp_script.specs.Functions.scalar_named
map_row h = refl

-- `map(p -> p > 1, collect(2:1))` has truth values
none_row : (h : Head) → mapped [] (codes "p") (binary h binary_op.Gt false (variable h (codes "p")) (number h (pos 1))) (Listed Number []) ≡ Gives (Listed Truth [])
unfolding mapped mapped_words kind_of all_of
none_row h = refl
