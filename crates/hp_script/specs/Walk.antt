-- The rules of expressions as one walk: it tests an expression and its parts in their order, and gives the first test that
-- fails, the type of the value, and the types of all parts. Each rule that speaks of places is one line of it.
use Rattle.std.specs.Prelude.{ℕ, Bool, not, ◌&&◌, if◌then◌else◌, List, [], ◌∷◌, ◌++◌, flat_map, Option, Some, None}
use Rattle.std.specs.Option.{option_or, option_and_then, is_some}
use Rattle.hp_word.specs.declared.place.Place.{Place}
use Rattle.hp_script.specs.declared.rule.Rule.TheVariants.{WrongType, WrongCount}
use Rattle.hp_script.specs.declared.rule.Refusal.{Refusal}
use Rattle.hp_script.specs.declared.typed.Shape.{Shape}
use Rattle.hp_script.specs.declared.typed.Shape.TheVariants as shape
use Rattle.hp_script.specs.declared.argument.Argument.{Argument}
use Rattle.hp_script.specs.declared.function.Function.{Function}
use Rattle.hp_script.specs.declared.function.Function.TheVariants as function
use Rattle.hp_script.specs.Breaks.{broken, unless, CallSoFar, so_far, name_break, field_break, column_break, place_of, distance_of, reach_break, plain_break, range_break, lambda_break, named_break, call_break, count_of, with_function, is_flipped}
use Rattle.hp_script.specs.Entries.{known_shape, of_known, plain_entries, named_entries}
use Rattle.hp_script.specs.Functions.{function_named, takes_count}
use Rattle.hp_script.specs.Mirror.{Head, Tree, Args, number, truth, text, variable, column, field, unary, binary, index, call, none, plain, range, lambda, named}
use Rattle.hp_script.specs.Results.{of_both, unary_result, binary_result, index_result, call_result}
use Rattle.hp_script.specs.Scope.{Scope, shape_among, role_of, is_in_lambda, with_parameter}
use Rattle.hp_script.specs.Typing.{name_shape, is_window, wanted, role_wanted, inside, plain_argument, range_argument, lambda_argument, named_argument}

-- ---- what is found

-- of an expression
pub record Found : Type 0 where
  -- the first test that fails
  pub refusal : Option Refusal
  -- the type of its value, where it has one
  pub shape : Option Shape
  -- the types of all its parts in the order of the text, none where a part has no value
  pub entries : List (Option Shape)

-- of an argument
pub record FoundArgument : Type 0 where
  pub refusal : Option Refusal
  -- what it is to the call
  pub argument : Argument
  pub entries : List (Option Shape)

-- of the arguments of a call, in the order in which they are tested
pub record FoundArguments : Type 0 where
  pub refusal : Option Refusal
  pub arguments : List Argument
  -- those of each argument
  pub entries : List (List (Option Shape))

-- A call of a function at a place, at a point of a script.
pub record Site : Type 0 where
  pub scope : Scope
  pub at : Place
  pub function : Function

abbrev pub site : Scope → Place → Function → Site
site s at f = record { scope = s; at = at; function = f }

-- ---- one argument, behind those that are tested before

abbrev pub plain_found : CallSoFar → Tree → Found → FoundArgument
plain_found c x found = record {
  refusal = plain_break (wanted c.function c.before) c x found.refusal;
  argument = plain_argument (wanted c.function c.before) x found.shape;
  entries = plain_entries (wanted c.function c.before) x found.entries;
}

abbrev pub range_found : CallSoFar → (first last : Found) → FoundArgument
range_found c first last = record {
  refusal = range_break (wanted c.function c.before) c.at (option_or first.refusal last.refusal);
  argument = range_argument first.shape last.shape;
  entries = first.entries ++ last.entries;
}

abbrev pub lambda_found : CallSoFar → Found → FoundArgument
lambda_found c body = record {
  refusal = lambda_break (wanted c.function c.before) c.at body.refusal;
  argument = lambda_argument body.shape;
  entries = body.entries;
}

abbrev pub named_found : CallSoFar → List ℕ → Place → Tree → Found → FoundArgument
named_found c name at x found = record {
  refusal = named_break (wanted c.function c.before) c name at x found.refusal;
  argument = named_argument (wanted c.function c.before) name x found.shape;
  entries = named_entries (wanted c.function c.before) x found.entries;
}

-- ---- the arguments of a call

-- what is found of an argument, by those that are tested before it
abbrev pub Finds : Type 0
Finds = (before : List Argument) → FoundArgument

-- an item, behind the first of a list
abbrev pub behind_first : {A : Type 0} → A → List A → List A
behind_first x [] = x ∷ []
behind_first x (last ∷ rest) = last ∷ x ∷ rest

-- the last of a list, and then the others
abbrev pub last_first : {A : Type 0} → List A → List A
last_first [] = []
last_first (x ∷ rest) = behind_first x (last_first rest)

-- the first of a list behind the others
abbrev pub first_last : {A : Type 0} → List A → List A
first_last [] = []
first_last (x ∷ rest) = rest ++ x ∷ []

-- Arguments are tested from left to right, but those of `map` have the lambda behind the array.
abbrev pub in_test_order : {A : Type 0} → Function → (in_text_order : List A) → List A
in_test_order function.Map xs = first_last xs
in_test_order _ xs = xs

abbrev pub in_text_order : {A : Type 0} → Function → (in_test_order : List A) → List A
in_text_order function.Map xs = last_first xs
in_text_order _ xs = xs

-- an argument, and what is found of those behind it
abbrev pub followed_by : FoundArgument → FoundArguments → FoundArguments
followed_by x rest = record { refusal = option_or x.refusal rest.refusal; arguments = rest.arguments; entries = x.entries ∷ rest.entries }

-- arguments in their order of tests, each behind those before
unfoldable pub in_turn : (before : List Argument) → List Finds → FoundArguments
in_turn before [] = record { refusal = None; arguments = before; entries = [] }
in_turn before (finds ∷ rest) = followed_by (finds before) (in_turn (before ++ (finds before).argument ∷ []) rest)

-- all arguments of a call of this function
abbrev pub found_among : Function → (in_text_order : List Finds) → FoundArguments
found_among f finds = in_turn [] (in_test_order f finds)

abbrev pub entries_among : Function → FoundArguments → List (Option Shape)
entries_among f found = flat_map (λ entries. entries) (in_text_order f found.entries)

-- ---- calls

-- A call but for the test of the call itself: its name, then how many arguments it has, then those.
abbrev pub parts_refusal : Head → (count : ℕ) → Option Function → (Function → FoundArguments) → Option Refusal
parts_refusal h count called found = with_function h.at called (λ f. option_or (unless (takes_count f count) h.at WrongCount) (found f).refusal)

-- and behind its arguments the call itself, by the type of its result
abbrev pub call_refusal : Scope → Head → (count : ℕ) → Option Function → (Function → FoundArguments) → (result : Option Shape) → Option Refusal
call_refusal s h count called found result =
    with_function h.at called (λ f. option_or (unless (takes_count f count) h.at WrongCount) (option_or (found f).refusal (call_break s f h.at result)))

abbrev pub call_shape : (dotted : Bool) → Option Function → (Function → FoundArguments) → Option Shape
call_shape dotted called found = option_and_then (λ f. call_result f dotted (found f).arguments) called

abbrev pub call_found : Scope → Head → (dotted : Bool) → (count : ℕ) → Option Function → (Function → FoundArguments) → Found
call_found s h dotted count called found = record {
  refusal = call_refusal s h count called found (call_shape dotted called found);
  shape = call_shape dotted called found;
  entries = known_shape called (call_shape dotted called found) ∷ of_known called (λ f. entries_among f (found f));
}

-- ---- operators and indices

-- an operator, behind its operands
abbrev pub typed_break : Place → Option Shape → Option Refusal
typed_break at shape = unless (is_some shape) at WrongType

abbrev pub unary_found : Head → (result : Option Shape) → Found → Found
unary_found h result x = record { refusal = option_or x.refusal (typed_break h.at result); shape = result; entries = result ∷ x.entries }

abbrev pub binary_found : Head → (result : Option Shape) → Found → Found → Found
binary_found h result x y = record {
  refusal = option_or x.refusal (option_or y.refusal (typed_break h.at result));
  shape = result;
  entries = x.entries ++ result ∷ y.entries;
}

-- an index, by the type of its result; `d` of `p[d]` is no operand
abbrev pub index_found : Scope → Head → (is_place : Bool) → (reach : Option Refusal) → (result : Option Shape) → Found → Found → Found
index_found s h is_place reach result x i = record {
  refusal = if is_place then reach else option_or x.refusal (option_or i.refusal (unless (not (is_in_lambda s) && is_some result) h.at WrongType));
  shape = result;
  entries = (if is_place then None ∷ [] else x.entries) ++ result ∷ i.entries;
}

-- an expression that has no parts
abbrev pub leaf_found : Option Refusal → Option Shape → Found
leaf_found refusal found = record { refusal = refusal; shape = found; entries = found ∷ [] }

-- ---- expressions

unfoldable mutual
  -- an expression as a value
  pub found_of : Scope → Tree → Found
  found_of s (number h value) = leaf_found None (Some shape.Int)
  found_of s (truth h holds) = leaf_found None (Some shape.Bool)
  found_of s (text h bytes) = leaf_found (broken h.at WrongType) None
  found_of s (variable h x) = leaf_found (name_break (role_of s.parameters x) s h.at x) (name_shape (role_of s.parameters x) (shape_among s.vars x))
  found_of s (column h c) = leaf_found (column_break s.around s h.at c) (Some shape.Ints)
  found_of s (field h x c) = leaf_found (field_break (role_of s.parameters x) s h.at x c) (Some shape.Ints)
  found_of s (unary h op dotted x) = unary_found h (option_and_then (unary_result op dotted) (found_of s x).shape) (found_of s x)
  found_of s (binary h op dotted x y) =
      binary_found h (of_both (binary_result op dotted) (found_of s x).shape (found_of s y).shape) (found_of s x)
      (record (found_of s y) { refusal = if is_flipped s op dotted y then parts_break s y else (found_of s y).refusal })
  found_of s (index h x i) =
      index_found s h (is_window s x) (reach_break (place_of x) h.at (distance_of i))
      (if is_window s x then Some shape.Int else of_both index_result (found_of s x).shape (found_of s i).shape) (found_of s x) (found_of s i)
  found_of s (call h name dotted xs) = call_found s h dotted (count_of xs) (function_named dotted name) (λ f. found_among f (finds_of (site s h.at f) xs))

  -- the first test of a call that fails, but for the call itself
  pub parts_break : Scope → Tree → Option Refusal
  parts_break s (call h name dotted xs) = parts_refusal h (count_of xs) (function_named dotted name) (λ f. found_among f (finds_of (site s h.at f) xs))
  parts_break s _ = None

  -- what is found of each argument, in the order of the text
  pub finds_of : Site → Args → List Finds
  finds_of c none = []
  finds_of c (plain x xs) = (λ before. plain_found (so_far c.function c.at before) x (found_of (inside c.scope c.function before) x)) ∷ finds_of c xs
  finds_of c (range x y xs) = (λ before. range_found (so_far c.function c.at before) (found_of c.scope x) (found_of c.scope y)) ∷ finds_of c xs
  finds_of c (lambda p x xs) = (λ before. lambda_found (so_far c.function c.at before) (found_of (with_parameter c.scope p (role_wanted (wanted c.function before))) x)) ∷ finds_of c xs
  finds_of c (named name at x xs) = (λ before. named_found (so_far c.function c.at before) name at x (found_of (inside c.scope c.function before) x)) ∷ finds_of c xs

-- the type of an expression's value, where it has one
abbrev pub shape_of : Scope → Tree → Option Shape
shape_of s x = (found_of s x).shape

-- the first test of an expression that fails
abbrev pub break_of : Scope → Tree → Option Refusal
break_of s x = (found_of s x).refusal

-- the types of all parts of an expression
abbrev pub entries_of : Scope → Tree → List (Option Shape)
entries_of s x = (found_of s x).entries
