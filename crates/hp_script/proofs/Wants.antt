-- What is meant where an argument stands, by the function that is called; and what fits no call.
use Rattle.std.proofs.Common.{◌≡◌, ℕ, Bool, true, false, not, ◌&&◌, ◌||◌, cond, List, [], ◌∷◌, ◌++◌, Option, Some, None, option_map, IsSome, ◌⊎◌, inl, inr, refl, sym, ap, subst, ◌∙◌, append_assoc, append-nil}
use Rattle.hp_word.specs.declared.name.Name.{Name}
use Rattle.hp_word.specs.declared.place.Place.{Place}
use Rattle.hp_script.specs.declared.rule.Refusal.{Refusal}
use Rattle.hp_script.specs.declared.typed.Shape.{Shape}
use Rattle.hp_script.specs.declared.typed.Shape.TheVariants as shape
use Rattle.hp_script.specs.declared.argument.Argument.{Argument}
use Rattle.hp_script.specs.declared.argument.Argument.TheVariants.{Value, Column, Measure}
use Rattle.hp_script.specs.declared.function.Function.{Function}
use Rattle.hp_script.specs.declared.function.Function.TheVariants as function
use Rattle.hp_script.specs.Breaks.{plain_break, range_break, lambda_break, named_break, measure_break, is_scalar_function, CallSoFar, so_far}
use Rattle.hp_script.specs.Entries.{is_column_wanted}
use Rattle.hp_script.specs.Mirror.{Head, Tree, Args, text, column, none, plain, range, lambda, named}
use Rattle.hp_script.specs.Results.{call_result, join_result, aggregate_result, measure_names}
use Rattle.hp_script.specs.Scope.{element, window, Scope, Parameter, with_parameter, are_some}
use Rattle.hp_script.specs.Typing.{Wanted, a_value, an_interval, a_lambda, a_text, a_column, a_given, a_measure, nothing, wanted, wanted_by_map, wanted_by_stencil, wanted_by_read, wanted_by_join, wanted_by_aggregate, wanted_by_sort, role_wanted, inside, is_measure_wanted, plain_argument, range_argument, lambda_argument, named_argument}
use Rattle.hp_script.specs.Valued.{takes_columns, is_column, is_measure}
use Rattle.hp_script.specs.Walk.{found_of, shape_of, finds_of, in_turn}
use Rattle.hp_script.proofs.FunctionNames.{Tells, has_columns, is_stencil, is_aggregate}
use Rattle.hp_script.proofs.Shaped.{Stands, of_element, of_window}
use Rattle.hp_script.proofs.Turns.{arguments}
use Rattle.hp_script.proofs.TestLemmas.{or_left, or_right}

-- ---- what functions mean

-- What a function can mean by an argument, as far as it is of use.
pub data Means : Function → Wanted → Type 0 where
  value : {f : Function} → Means f a_value
  interval : {f : Function} → Means f an_interval
  no : {f : Function} → Means f nothing
  words : {f : Function} → Means f a_text
  gift : Means function.DataFrame a_given
  columns : {f : Function} {frames : List (List Name)} → has_columns f ≡ true → Means f (a_column frames)
  measures : {frames : List (List Name)} → Means function.Aggregate (a_measure frames)
  places : Means function.Stencil (a_lambda window)
  numbers : Means function.Map (a_lambda (element shape.Int))
  truths : Means function.Map (a_lambda (element shape.Bool))

map_means : (before : List Argument) → Means function.Map (wanted_by_map before)
map_means [] = value
map_means (Value shape.Ints ∷ rest) = numbers
map_means (Value shape.Bools ∷ rest) = truths
map_means (_ ∷ rest) = no

stencil_means : (before : List Argument) → Means function.Stencil (wanted_by_stencil before)
stencil_means [] = places
stencil_means (x ∷ rest) = value

read_means : (before : List Argument) → Means function.ReadCsv (wanted_by_read before)
read_means [] = words
read_means (x ∷ rest) = columns refl

join_means : (before : List Argument) → Means function.Join (wanted_by_join before)
join_means [] = value
join_means (x ∷ []) = value
join_means (x ∷ y ∷ rest) = columns refl

aggregate_means : (before : List Argument) → Means function.Aggregate (wanted_by_aggregate before)
aggregate_means [] = value
aggregate_means (x ∷ []) = columns refl
aggregate_means (x ∷ y ∷ rest) = measures

sort_means : (before : List Argument) → Means function.Sort (wanted_by_sort before)
sort_means [] = value
sort_means (x ∷ rest) = columns refl

pub wanted_means : (f : Function) (before : List Argument) → Means f (wanted f before)
unfolding wanted
wanted_means function.Map before = map_means before
wanted_means function.Stencil before = stencil_means before
wanted_means function.Collect before = interval
wanted_means function.DataFrame before = gift
wanted_means function.ReadCsv before = read_means before
wanted_means function.Join before = join_means before
wanted_means function.Aggregate before = aggregate_means before
wanted_means function.Sort before = sort_means before
wanted_means _ before = value

-- ---- a column as a value

-- A column that stands for a value where one of a frame is meant.
measures_refuse : (rest later : List Argument) (kind : Shape) → measure_names (rest ++ Value kind ∷ later) ≡ None
measures_refuse [] later kind = refl
measures_refuse (Measure x ∷ rest) later kind = ap (option_map (λ names. x ∷ names)) (measures_refuse rest later kind)
measures_refuse (_ ∷ rest) later kind = refl

join_refuses : (x : Argument) (later : List Argument) → join_result (x ∷ Value shape.Ints ∷ later) ≡ None
join_refuses (Value (shape.Frame xs)) later = refl
join_refuses (Value _) later = refl
join_refuses _ later = refl

aggregate_refuses : (x y : Argument) (rest later : List Argument) → aggregate_result (x ∷ y ∷ rest ++ Value shape.Ints ∷ later) ≡ None
aggregate_refuses (Value (shape.Frame xs)) (Column key) rest later = ap (option_map (λ names. shape.Frame (key ∷ names))) (measures_refuse rest later shape.Ints)
aggregate_refuses (Value (shape.Frame xs)) _ rest later = refl
aggregate_refuses (Value _) y rest later = refl
aggregate_refuses _ y rest later = refl

-- The name of a column among the arguments of a function that takes some is meant as such, or fits no call.
refused : (f : Function) (dotted : Bool) (before later : List Argument) → has_columns f ≡ true → is_column_wanted (wanted f before) ≡ false
    → (wanted f before ≡ a_text) ⊎ (call_result f dotted (before ++ Value shape.Ints ∷ later) ≡ None)
unfolding wanted call_result
refused function.ReadCsv dotted [] later h w = inl refl
refused function.ReadCsv dotted (x ∷ before) later h w = absurd cc
refused function.Join dotted [] later h w = inr refl
refused function.Join dotted (x ∷ []) later h w = inr (join_refuses x later)
refused function.Join dotted (x ∷ y ∷ before) later h w = absurd cc
refused function.Aggregate dotted [] later h w = inr refl
refused function.Aggregate dotted (x ∷ []) later h w = absurd cc
refused function.Aggregate dotted (x ∷ y ∷ rest) later h w = inr (aggregate_refuses x y rest later)
refused function.Sort dotted [] later h w = inr refl
refused function.Sort dotted (x ∷ before) later h w = absurd cc
refused _ dotted before later h w = absurd cc

text_refuses : (meant : Wanted) (here : CallSoFar) (h : Head) (c : List ℕ) (tested : Option Refusal) → meant ≡ a_text → plain_break meant here (column h c) tested ≡ None → ⊥
unfolding plain_break
text_refuses a_text here h c tested a e = absurd cc
text_refuses _ here h c tested a e = absurd cc

-- the arguments that are tested first stay
abbrev Begins : List Argument → List Argument → Type 0
Begins before all = (later : List Argument) × (all ≡ before ++ later)

begins_sooner : (before : List Argument) (x : Argument) (all : List Argument) → Begins (before ++ x ∷ []) all → Begins before all
begins_sooner before x all h = (x ∷ h.0, h.1 ∙ append_assoc before (x ∷ []) h.0)

arguments_begin : (s : Scope) (at : Place) (f : Function) (before : List Argument) (xs : Args) → Begins before (arguments s at f before xs)
unfolding finds_of in_turn
arguments_begin s at f before none = ([], sym (append-nil before))
arguments_begin s at f before (plain x xs) = begins_sooner before _ _ (arguments_begin s at f (before ++ plain_argument (wanted f before) x (shape_of (inside s f before) x) ∷ []) xs)
arguments_begin s at f before (range x y xs) = begins_sooner before _ _ (arguments_begin s at f (before ++ range_argument (shape_of s x) (shape_of s y) ∷ []) xs)
arguments_begin s at f before (lambda p x xs) =
    begins_sooner before _ _ (arguments_begin s at f (before ++ lambda_argument (shape_of (with_parameter s p (role_wanted (wanted f before))) x) ∷ []) xs)
arguments_begin s at f before (named name place x xs) = begins_sooner before _ _ (arguments_begin s at f (before ++ named_argument (wanted f before) name x (shape_of (inside s f before) x) ∷ []) xs)

column_argument : (meant : Wanted) (h : Head) (c : List ℕ) (found : Shape) → is_column_wanted meant ≡ false → plain_argument meant (column h c) (Some found) ≡ Value found
unfolding plain_argument
column_argument (a_column frames) h c found w = absurd cc
column_argument _ h c found w = refl

-- a column that stands for a value is a value among the arguments
value_begins : (s : Scope) (at : Place) (f : Function) (before : List Argument) (h : Head) (c : List ℕ) (xs : Args) → is_column_wanted (wanted f before) ≡ false
    → (later : List Argument) × (arguments s at f before (plain (column h c) xs) ≡ before ++ Value shape.Ints ∷ later)
unfolding finds_of in_turn found_of
value_begins s at f before h c xs w =
    let begins = arguments_begin s at f (before ++ plain_argument (wanted f before) (column h c) (Some shape.Ints) ∷ []) xs in
    let first = column_argument (wanted f before) h c shape.Ints w in
    (begins.0, begins.1 ∙ append_assoc before (plain_argument (wanted f before) (column h c) (Some shape.Ints) ∷ []) begins.0 ∙ ap (λ x. before ++ x ∷ begins.0) first)

some_none : {A : Type 0} (a b : Option A) → IsSome a → a ≡ b → b ≡ None → ⊥
some_none None b h e n = absurd cc
some_none (Some x) b h e n = absurd cc

column_wanted : {f : Function} {meant : Wanted} → Means f meant → is_column_wanted meant ≡ true → has_columns f ≡ true
column_wanted (columns h) w = h
column_wanted _ w = absurd cc

same_tests : (w t : Bool) → (w ≡ true → t ≡ true) → (w ≡ false → t ≡ true → ⊥) → w ≡ t
same_tests true t h n = sym (h refl)
same_tests false true h n = absurd (n refl refl)
same_tests false false h n = refl

-- Where a call has a result, the name of a column is meant as such by just those functions that take some.
pub column_agrees : (s : Scope) (f : Function) (name : List ℕ) (dotted : Bool) (at : Place) (before : List Argument) (x : Tree) (xs : Args) (tested : Option Refusal)
    → Tells name f → (has_columns f ≡ true → IsSome (call_result f dotted (arguments s at f before (plain x xs))))
    → plain_break (wanted f before) (so_far f at before) x tested ≡ None → is_column x ≡ true → is_column_wanted (wanted f before) ≡ takes_columns name
unfolding plain_break
column_agrees s f name dotted at before (column h c) xs tested tells some e is =
    same_tests (is_column_wanted (wanted f before)) (has_columns f) (column_wanted (wanted_means f before))
    (λ w t. let begins = value_begins s at f before h c xs w in
    elim (refused f dotted before begins.0 t w) [
      | inl a ↦ text_refuses (wanted f before) (so_far f at before) h c tested a e
      | inr n ↦ some_none _ _ (some t) (ap (call_result f dotted) begins.1) n
    ])
    ∙ sym tells.columns
column_agrees s f name dotted at before _ xs tested tells some e is = absurd cc

-- ---- arguments whose tests pass

abbrev pub is_text : Tree → Bool
is_text (text h bytes) = true
is_text _ = false

-- a plain argument was tested as a value, unless it is a text or the name of a column
pub plain_tested : (meant : Wanted) (here : CallSoFar) (x : Tree) (tested : Option Refusal)
    → plain_break meant here x tested ≡ None → (is_column_wanted meant && is_column x) ≡ false → (is_text x ≡ true) ⊎ (tested ≡ None)
unfolding plain_break
plain_tested nothing here x tested e w = absurd cc
plain_tested a_text here (text h bytes) tested e w = inl refl
plain_tested a_text here (column h c) tested e w = absurd cc
plain_tested (a_column frames) here (column h c) tested e w = absurd cc
plain_tested _ here x tested e w = inr e

pub range_tested : (meant : Wanted) (at : Place) (tested : Option Refusal) → range_break meant at tested ≡ None → tested ≡ None
unfolding range_break
range_tested an_interval at tested e = e
range_tested _ at tested e = absurd cc

pub lambda_tested : (meant : Wanted) (at : Place) (tested : Option Refusal) → lambda_break meant at tested ≡ None → tested ≡ None
unfolding lambda_break
lambda_tested (a_lambda role) at tested e = e
lambda_tested _ at tested e = absurd cc

measure_tested : (measures : Bool) (other tested : Option Refusal) → cond measures other tested ≡ None → (true && measures) ≡ false → tested ≡ None
measure_tested true other tested e w = absurd cc
measure_tested false other tested e w = e

-- a named argument was tested as a value, unless it is a measure
pub named_tested : (meant : Wanted) (here : CallSoFar) (name : List ℕ) (at : Place) (x : Tree) (tested : Option Refusal)
    → named_break meant here name at x tested ≡ None → (is_measure_wanted meant && is_measure x) ≡ false → tested ≡ None
unfolding named_break
named_tested nothing here name at x tested e w = absurd cc
named_tested a_given here name at x tested e w = or_left _ _ e
named_tested (a_measure frames) here name at x tested e w = measure_tested (is_measure x) (measure_break frames x) tested (or_left _ _ e) w
named_tested _ here name at x tested e w = or_left _ _ e

-- a named argument is meant as a measure by `aggregate` alone
pub measure_agrees : {f : Function} {meant : Wanted} → Means f meant → (here : CallSoFar) (name : List ℕ) (at : Place) (x : Tree) (tested : Option Refusal)
    → named_break meant here name at x tested ≡ None → is_measure_wanted meant ≡ is_aggregate f
unfolding named_break
measure_agrees gift here name at x tested e = refl
measure_agrees measures here name at x tested e = refl
measure_agrees no here name at x tested e = absurd cc
measure_agrees _ here name at x tested e = let never = or_right tested _ e in absurd cc

-- Outside of lambdas a lambda is an argument of `map` or `stencil`.
pub lambda_stands : {f : Function} {meant : Wanted} → Means f meant → (at : Place) (tested : Option Refusal) (p : List ℕ) (parameters : List Parameter) (of_stencil : Bool)
    → lambda_break meant at tested ≡ None → (not (are_some parameters) || is_scalar_function f) ≡ true → of_stencil ≡ is_stencil f
    → Stands (record { name = p; role = role_wanted meant } ∷ parameters) (cond of_stencil (Some p) None)
unfolding lambda_break
lambda_stands places at tested p [] of_stencil e allowed tells = subst (λ b. Stands (record { name = p; role = window } ∷ []) (cond b (Some p) None)) (sym tells) of_window
lambda_stands numbers at tested p [] of_stencil e allowed tells = subst (λ b. Stands (record { name = p; role = element shape.Int } ∷ []) (cond b (Some p) None)) (sym tells) (of_element refl)
lambda_stands truths at tested p [] of_stencil e allowed tells = subst (λ b. Stands (record { name = p; role = element shape.Bool } ∷ []) (cond b (Some p) None)) (sym tells) (of_element refl)
lambda_stands _ at tested p parameters of_stencil e allowed tells = absurd cc
