-- What an argument is to the rules tells how it is written.
use Rattle.std.proofs.Common.{◌≡◌, ℕ, Bool, true, false, ◌&&◌, if◌then◌else◌, List, [], ◌∷◌, ◌++◌, Option, Some, None, refl, sym, ap, ◌∙◌, subst, true≢false}
use Rattle.std.specs.Option.{option_or}
use Rattle.std.specs.List.{list_all}
use Rattle.hp_word.specs.declared.name.Name.{Name}
use Rattle.hp_word.specs.declared.place.Place.{Place}
use Rattle.hp_script.specs.declared.rule.Refusal.{Refusal}
use Rattle.hp_script.specs.declared.rule.Rule.TheVariants.{DoubleColumn, WrongType, UnknownColumn}
use Rattle.hp_script.specs.declared.typed.Shape.{Shape}
use Rattle.hp_script.specs.declared.typed.Shape.TheVariants.{Int}
use Rattle.hp_script.specs.declared.argument.Argument.{Argument}
use Rattle.hp_script.specs.declared.argument.Argument.TheVariants.{Value, Interval, Body, Text, Column, Given, Measure, Misfit}
use Rattle.hp_script.specs.declared.function.Function.{Function}
use Rattle.hp_script.specs.Breaks.{broken, plain_break, range_break, lambda_break, named_break, measure_break, names_among, new_break, CallSoFar, so_far}
use Rattle.hp_script.specs.Mirror.{Head, Tree, Args, text, column, plain, range, lambda, named}
use Rattle.hp_script.specs.Scope.{Scope, has, has_column, with_parameter}
use Rattle.hp_script.specs.Trees as trees
use Rattle.hp_script.specs.Typing.{Wanted, an_interval, a_lambda, a_text, a_column, a_given, a_measure, nothing, wanted, role_wanted, inside, plain_argument, range_argument, lambda_argument, named_argument, value_or_misfit, is_measure_wanted, given_or_misfit}
use Rattle.hp_script.specs.Valued.{is_measure}
use Rattle.hp_script.specs.Walk.{shape_of, break_of}
use Rattle.hp_script.proofs.TestLemmas.{passes, not_true, or_left, or_right}
use Rattle.hp_script.proofs.ArgumentHeads.{Rest, IsHead, head_plain, head_range, head_lambda, head_named}

-- ---- forms

abbrev can_be_plain : Argument → Bool
can_be_plain (Value a) = true
can_be_plain (Text x) = true
can_be_plain (Column x) = true
can_be_plain Misfit = true
can_be_plain _ = false

abbrev can_be_range : Argument → Bool
can_be_range Interval = true
can_be_range Misfit = true
can_be_range _ = false

abbrev can_be_lambda : Argument → Bool
can_be_lambda (Body a) = true
can_be_lambda Misfit = true
can_be_lambda _ = false

abbrev can_be_named : Argument → Bool
can_be_named (Given x a) = true
can_be_named (Measure x) = true
can_be_named Misfit = true
can_be_named _ = false

value_plain : (found : Option Shape) → can_be_plain (value_or_misfit found) ≡ true
value_plain (Some a) = refl
value_plain None = refl

plain_is : (w : Wanted) (x : Tree) (found : Option Shape) → can_be_plain (plain_argument w x found) ≡ true
unfolding plain_argument
plain_is a_text (text h bytes) found = refl
plain_is (a_column frames) (column h c) found = refl
plain_is _ _ found = value_plain found

range_is : (a b : Option Shape) → can_be_range (range_argument a b) ≡ true
range_is (Some Int) (Some Int) = refl
range_is _ _ = refl

lambda_is : (a : Option Shape) → can_be_lambda (lambda_argument a) ≡ true
lambda_is (Some a) = refl
lambda_is None = refl

given_is : (name : List ℕ) (found : Option Shape) → can_be_named (given_or_misfit name found) ≡ true
given_is name (Some a) = refl
given_is name None = refl

named_by : (b : Bool) (name : List ℕ) (found : Option Shape) → can_be_named (if b then Measure (trees.named name) else given_or_misfit name found) ≡ true
named_by true name found = refl
named_by false name found = given_is name found

named_is : (w : Wanted) (name : List ℕ) (x : Tree) (found : Option Shape) → can_be_named (named_argument w name x found) ≡ true
unfolding named_argument
named_is w name x found = named_by (is_measure_wanted w && is_measure x) name found

pub not_plain : {A : Type 0} (w : Wanted) (x : Tree) (found : Option Shape) (a : Argument) → can_be_plain a ≡ false → plain_argument w x found ≡ a → A
not_plain w x found a cannot e = absurd (true≢false (sym (plain_is w x found) ∙ ap can_be_plain e ∙ cannot))

pub not_range : {A : Type 0} (u v : Option Shape) (a : Argument) → can_be_range a ≡ false → range_argument u v ≡ a → A
not_range u v a cannot e = absurd (true≢false (sym (range_is u v) ∙ ap can_be_range e ∙ cannot))

pub not_lambda : {A : Type 0} (u : Option Shape) (a : Argument) → can_be_lambda a ≡ false → lambda_argument u ≡ a → A
not_lambda u a cannot e = absurd (true≢false (sym (lambda_is u) ∙ ap can_be_lambda e ∙ cannot))

pub not_named : {A : Type 0} (w : Wanted) (name : List ℕ) (x : Tree) (found : Option Shape) (a : Argument) → can_be_named a ≡ false → named_argument w name x found ≡ a → A
not_named w name x found a cannot e = absurd (true≢false (sym (named_is w name x found) ∙ ap can_be_named e ∙ cannot))

-- ---- values

-- an expression passes and has this type
pub record Valued (s : Scope) (x : Tree) (a : Shape) : Type 0 where
  pub passed : break_of s x ≡ None
  pub shape : shape_of s x ≡ Some a

value_found : (found : Option Shape) (a : Shape) → value_or_misfit found ≡ Value a → found ≡ Some a
value_found (Some b) a e = cc
value_found None a e = absurd cc

pub value_there : (w : Wanted) (x : Tree) (found : Option Shape) (a : Shape) → plain_argument w x found ≡ Value a → found ≡ Some a
unfolding plain_argument
value_there a_text (text h bytes) found a e = absurd cc
value_there (a_column frames) (column h c) found a e = absurd cc
value_there _ _ found a e = value_found found a e

pub value_passed : (w : Wanted) (here : CallSoFar) (x : Tree) (tested : Option Refusal) (found : Option Shape) (a : Shape)
    → plain_argument w x found ≡ Value a → plain_break w here x tested ≡ None → tested ≡ None
unfolding plain_argument plain_break
value_passed nothing here x tested found a e p = absurd cc
value_passed a_text here (text h bytes) tested found a e p = absurd cc
value_passed a_text here (column h c) tested found a e p = absurd cc
value_passed (a_column frames) here (column h c) tested found a e p = absurd cc
value_passed _ here _ tested found a e p = p

pub data ValueHead (s : Scope) (at : Place) (f : Function) (before : List Argument) (a : Shape) (rest : List Argument) : Args → Type 0 where
  value_head : {x : Tree} {xs : Args} → Valued (inside s f before) x a → Rest s at f (before ++ Value a ∷ []) rest xs → ValueHead s at f before a rest (plain x xs)

pub value_of : (s : Scope) (at : Place) (f : Function) (before : List Argument) (a : Shape) (rest : List Argument) (xs : Args)
    → IsHead s at f before (Value a) rest xs → ValueHead s at f before a rest xs
value_of s at f before a rest _ (head_plain {x = x} e p r) =
    value_head (record { passed = value_passed (wanted f before) (so_far f at before) x (break_of (inside s f before) x) _ a e p; shape = value_there (wanted f before) x _ a e }) r
value_of s at f before a rest _ (head_range e p r) = not_range _ _ (Value a) refl e
value_of s at f before a rest _ (head_lambda e p r) = not_lambda _ (Value a) refl e
value_of s at f before a rest _ (head_named {x = x} e p r) = not_named (wanted f before) _ x _ (Value a) refl e

-- ---- intervals

pub record IntervalParts (a b : Option Shape) : Type 0 where
  pub first : a ≡ Some Int
  pub last : b ≡ Some Int

range_there : (a b : Option Shape) → range_argument a b ≡ Interval → IntervalParts a b
range_there (Some Int) (Some Int) e = record { first = refl; last = refl }
range_there _ _ e = absurd cc

range_passed : (w : Wanted) (at : Place) (tested : Option Refusal) → range_break w at tested ≡ None → tested ≡ None
unfolding range_break
range_passed an_interval at tested e = e
range_passed _ at tested e = absurd cc

pub data IntervalHead (s : Scope) (at : Place) (f : Function) (before rest : List Argument) : Args → Type 0 where
  interval_head : {x y : Tree} {xs : Args} → Valued s x Int → Valued s y Int → Rest s at f (before ++ Interval ∷ []) rest xs → IntervalHead s at f before rest (range x y xs)

pub interval_of : (s : Scope) (at : Place) (f : Function) (before rest : List Argument) (xs : Args) → IsHead s at f before Interval rest xs → IntervalHead s at f before rest xs
interval_of s at f before rest _ (head_plain {x = x} e p r) = not_plain (wanted f before) x _ Interval refl e
interval_of s at f before rest _ (head_range {x = x} {y = y} e p r) =
    let parts = range_there (shape_of s x) (shape_of s y) e in
    interval_head (record { passed = (or_left _ _ (range_passed (wanted f before) at _ p)); shape = parts.first }) (record { passed = (or_right _ _ (range_passed (wanted f before) at _ p)); shape = parts.last }) r
interval_of s at f before rest _ (head_lambda e p r) = not_lambda _ Interval refl e
interval_of s at f before rest _ (head_named {x = x} e p r) = not_named (wanted f before) _ x _ Interval refl e

-- ---- lambdas

pub lambda_there : (found : Option Shape) (a : Shape) → lambda_argument found ≡ Body a → found ≡ Some a
lambda_there (Some b) a e = cc
lambda_there None a e = absurd cc

pub lambda_passed : (w : Wanted) (at : Place) (tested : Option Refusal) → lambda_break w at tested ≡ None → tested ≡ None
unfolding lambda_break
lambda_passed (a_lambda role) at tested e = e
lambda_passed _ at tested e = absurd cc

pub data BodyHead (s : Scope) (at : Place) (f : Function) (before : List Argument) (a : Shape) (rest : List Argument) : Args → Type 0 where
  body_head : {p : List ℕ} {x : Tree} {xs : Args} → Valued (with_parameter s p (role_wanted (wanted f before))) x a → Rest s at f (before ++ Body a ∷ []) rest xs
      → BodyHead s at f before a rest (lambda p x xs)

pub body_of : (s : Scope) (at : Place) (f : Function) (before : List Argument) (a : Shape) (rest : List Argument) (xs : Args)
    → IsHead s at f before (Body a) rest xs → BodyHead s at f before a rest xs
body_of s at f before a rest _ (head_plain {x = x} e p r) = not_plain (wanted f before) x _ (Body a) refl e
body_of s at f before a rest _ (head_range e p r) = not_range _ _ (Body a) refl e
body_of s at f before a rest _ (head_lambda e p r) = body_head (record { passed = lambda_passed (wanted f before) at _ p; shape = lambda_there _ a e }) r
body_of s at f before a rest _ (head_named {x = x} e p r) = not_named (wanted f before) _ x _ (Body a) refl e

-- ---- texts and columns

pub data IsText (name : Name) : Tree → Type 0 where
  is_text : {h : Head} {bytes : List ℕ} → trees.named bytes ≡ name → IsText name (text h bytes)

no_text : {A : Type 0} (found : Option Shape) (name : Name) → value_or_misfit found ≡ Text name → A
no_text (Some a) name e = absurd cc
no_text None name e = absurd cc

text_there : (w : Wanted) (x : Tree) (found : Option Shape) (name : Name) → plain_argument w x found ≡ Text name → IsText name x
unfolding plain_argument
text_there a_text (text h bytes) found name e = is_text cc
text_there (a_column frames) (column h c) found name e = absurd cc
text_there _ _ found name e = no_text found name e

pub data TextHead (s : Scope) (at : Place) (f : Function) (before : List Argument) (name : Name) (rest : List Argument) : Args → Type 0 where
  text_head : {x : Tree} {xs : Args} → IsText name x → Rest s at f (before ++ Text name ∷ []) rest xs → TextHead s at f before name rest (plain x xs)

pub text_of : (s : Scope) (at : Place) (f : Function) (before : List Argument) (name : Name) (rest : List Argument) (xs : Args)
    → IsHead s at f before (Text name) rest xs → TextHead s at f before name rest xs
text_of s at f before name rest _ (head_plain {x = x} e p r) = text_head (text_there (wanted f before) x _ name e) r
text_of s at f before name rest _ (head_range e p r) = not_range _ _ (Text name) refl e
text_of s at f before name rest _ (head_lambda e p r) = not_lambda _ (Text name) refl e
text_of s at f before name rest _ (head_named {x = x} e p r) = not_named (wanted f before) _ x _ (Text name) refl e

-- the name of a column that each of the frames has, and that is new
pub data IsColumnOf (frames : List (List Name)) (before : List Argument) (name : Name) : Tree → Type 0 where
  is_column_of : {h : Head} {c : List ℕ} → trees.named c ≡ name → list_all (has_column c) frames ≡ true → has c (names_among before) ≡ false
      → IsColumnOf frames before name (column h c)

no_column : {A : Type 0} (found : Option Shape) (name : Name) → value_or_misfit found ≡ Column name → A
no_column (Some a) name e = absurd cc
no_column None name e = absurd cc

column_there : (w : Wanted) (frames : List (List Name)) (here : CallSoFar) (x : Tree) (tested : Option Refusal) (found : Option Shape) (name : Name)
    → w ≡ a_column frames → plain_argument w x found ≡ Column name → plain_break w here x tested ≡ None → IsColumnOf frames here.before name x
unfolding plain_argument plain_break
column_there (a_column others) frames here (column h c) tested found name same e p =
    let own : others ≡ frames = cc in
    let known : list_all (has_column c) others ≡ true = passes _ h.at UnknownColumn (or_left _ _ p) in
    let same_name : trees.named c ≡ name = cc in
    is_column_of same_name (subst (λ (l : List (List Name)). list_all (has_column c) l ≡ true) own known) (not_true _ (passes _ h.at DoubleColumn (or_right _ _ p)))
column_there a_text frames here (text h bytes) tested found name same e p = absurd cc
column_there _ frames here _ tested found name same e p = no_column found name e

pub data ColumnHead (frames : List (List Name)) (s : Scope) (at : Place) (f : Function) (before : List Argument) (name : Name) (rest : List Argument) : Args → Type 0 where
  column_head : {x : Tree} {xs : Args} → IsColumnOf frames before name x → Rest s at f (before ++ Column name ∷ []) rest xs → ColumnHead frames s at f before name rest (plain x xs)

pub column_of : (frames : List (List Name)) (s : Scope) (at : Place) (f : Function) (before : List Argument) (name : Name) (rest : List Argument) (xs : Args)
    → wanted f before ≡ a_column frames → IsHead s at f before (Column name) rest xs → ColumnHead frames s at f before name rest xs
column_of frames s at f before name rest _ meant (head_plain {x = x} e p r) = column_head (column_there (wanted f before) frames (so_far f at before) x _ _ name meant e p) r
column_of frames s at f before name rest _ meant (head_range e p r) = not_range _ _ (Column name) refl e
column_of frames s at f before name rest _ meant (head_lambda e p r) = not_lambda _ (Column name) refl e
column_of frames s at f before name rest _ meant (head_named {x = x} e p r) = not_named (wanted f before) _ x _ (Column name) refl e

-- ---- named arguments

record GivenParts (b : Bool) (name : List ℕ) (found : Option Shape) (n : Name) (a : Shape) : Type 0 where
  no_measure : b ≡ false
  name_is : trees.named name ≡ n
  found_is : found ≡ Some a

given_found : (name : List ℕ) (found : Option Shape) (n : Name) (a : Shape) → given_or_misfit name found ≡ Given n a → GivenParts false name found n a
given_found name (Some b) n a e = record { no_measure = refl; name_is = cc; found_is = cc }
given_found name None n a e = absurd cc

given_there : (b : Bool) (name : List ℕ) (found : Option Shape) (n : Name) (a : Shape)
    → (if b then Measure (trees.named name) else given_or_misfit name found) ≡ Given n a → GivenParts b name found n a
given_there true name found n a e = absurd cc
given_there false name found n a e = given_found name found n a e

measured : (b : Bool) (frames : List (List Name)) (x : Tree) (tested rest : Option Refusal) → b ≡ false
    → option_or (if b then measure_break frames x else tested) rest ≡ None → (tested ≡ None) × (rest ≡ None)
measured true frames x tested rest cannot e = absurd cc
measured false frames x tested rest cannot e = (or_left tested rest e, or_right tested rest e)

given_passed : (w : Wanted) (here : CallSoFar) (name : List ℕ) (at : Place) (x : Tree) (tested : Option Refusal)
    → (is_measure_wanted w && is_measure x) ≡ false → named_break w here name at x tested ≡ None → (tested ≡ None) × (new_break at name here.before ≡ None)
unfolding named_break
given_passed nothing here name at x tested cannot p = absurd cc
given_passed a_given here name at x tested cannot p = (or_left _ _ p, or_right tested _ p)
given_passed (a_measure frames) here name at x tested cannot p = measured (is_measure x) frames x tested (new_break at name here.before) cannot p
given_passed _ here name at x tested cannot p = let wrong = or_right tested (broken at WrongType) p in absurd cc

pub data GivenHead (s : Scope) (at : Place) (f : Function) (before : List Argument) (n : Name) (a : Shape) (rest : List Argument) : Args → Type 0 where
  given_head : {name : List ℕ} {place : Place} {x : Tree} {xs : Args} → trees.named name ≡ n → Valued (inside s f before) x a → has name (names_among before) ≡ false
      → Rest s at f (before ++ Given n a ∷ []) rest xs → GivenHead s at f before n a rest (named name place x xs)

given_head_of : (s : Scope) (at : Place) (f : Function) (before : List Argument) (n : Name) (a : Shape) (rest : List Argument) (name : List ℕ) (place : Place) (x : Tree) (xs : Args)
    → named_argument (wanted f before) name x (shape_of (inside s f before) x) ≡ Given n a → named_break (wanted f before) (so_far f at before) name place x (break_of (inside s f before) x) ≡ None
    → Rest s at f (before ++ Given n a ∷ []) rest xs → GivenHead s at f before n a rest (named name place x xs)
unfolding named_argument
given_head_of s at f before n a rest name place x xs e p r =
    let parts = given_there (is_measure_wanted (wanted f before) && is_measure x) name (shape_of (inside s f before) x) n a e in
    let both = given_passed (wanted f before) (so_far f at before) name place x (break_of (inside s f before) x) parts.no_measure p in
    given_head parts.name_is (record { passed = both.0; shape = parts.found_is }) (not_true _ (passes _ place DoubleColumn both.1)) r

pub given_of : (s : Scope) (at : Place) (f : Function) (before : List Argument) (n : Name) (a : Shape) (rest : List Argument) (xs : Args)
    → IsHead s at f before (Given n a) rest xs → GivenHead s at f before n a rest xs
given_of s at f before n a rest _ (head_plain {x = x} e p r) = not_plain (wanted f before) x _ (Given n a) refl e
given_of s at f before n a rest _ (head_range e p r) = not_range _ _ (Given n a) refl e
given_of s at f before n a rest _ (head_lambda e p r) = not_lambda _ (Given n a) refl e
given_of s at f before n a rest _ (head_named {name = name} {place = place} {x = x} {xs = xs} e p r) = given_head_of s at f before n a rest name place x xs e p r

record MeasureParts (b : Bool) (name : List ℕ) (n : Name) : Type 0 where
  is_one : b ≡ true
  name_is : trees.named name ≡ n

no_measure : {A : Type 0} (name : List ℕ) (found : Option Shape) (n : Name) → given_or_misfit name found ≡ Measure n → A
no_measure name (Some b) n e = absurd cc
no_measure name None n e = absurd cc

measure_there : (b : Bool) (name : List ℕ) (found : Option Shape) (n : Name)
    → (if b then Measure (trees.named name) else given_or_misfit name found) ≡ Measure n → MeasureParts b name n
measure_there true name found n e = record { is_one = refl; name_is = cc }
measure_there false name found n e = no_measure name found n e

measure_tested : (b : Bool) (frames : List (List Name)) (x : Tree) (tested rest : Option Refusal) → b ≡ true
    → option_or (if b then measure_break frames x else tested) rest ≡ None → (measure_break frames x ≡ None) × (rest ≡ None)
measure_tested true frames x tested rest is e = (or_left _ rest e, or_right (measure_break frames x) rest e)
measure_tested false frames x tested rest is e = absurd cc

pub data MeasureHead (frames : List (List Name)) (s : Scope) (at : Place) (f : Function) (before : List Argument) (n : Name) (rest : List Argument) : Args → Type 0 where
  measure_head : {name : List ℕ} {place : Place} {x : Tree} {xs : Args} → trees.named name ≡ n → is_measure x ≡ true → measure_break frames x ≡ None
      → has name (names_among before) ≡ false → Rest s at f (before ++ Measure n ∷ []) rest xs → MeasureHead frames s at f before n rest (named name place x xs)

measure_passed : (frames : List (List Name)) (w : Wanted) (here : CallSoFar) (name : List ℕ) (at : Place) (x : Tree) (tested : Option Refusal)
    → w ≡ a_measure frames → is_measure x ≡ true → named_break w here name at x tested ≡ None → (measure_break frames x ≡ None) × (new_break at name here.before ≡ None)
unfolding named_break
measure_passed frames (a_measure others) here name at x tested meant is p =
    let own : others ≡ frames = cc in
    subst (λ (l : List (List Name)). (measure_break l x ≡ None) × (new_break at name here.before ≡ None)) own (measure_tested (is_measure x) others x tested (new_break at name here.before) is p)
measure_passed frames _ here name at x tested meant is p = absurd cc

both_parts : (w : Wanted) (frames : List (List Name)) (b : Bool) → w ≡ a_measure frames → (is_measure_wanted w && b) ≡ true → b ≡ true
both_parts (a_measure others) frames b meant e = e
both_parts _ frames b meant e = absurd cc

measure_head_of : (frames : List (List Name)) (s : Scope) (at : Place) (f : Function) (before : List Argument) (n : Name) (rest : List Argument) (name : List ℕ) (place : Place) (x : Tree) (xs : Args)
    → wanted f before ≡ a_measure frames
    → named_argument (wanted f before) name x (shape_of (inside s f before) x) ≡ Measure n → named_break (wanted f before) (so_far f at before) name place x (break_of (inside s f before) x) ≡ None
    → Rest s at f (before ++ Measure n ∷ []) rest xs → MeasureHead frames s at f before n rest (named name place x xs)
unfolding named_argument
measure_head_of frames s at f before n rest name place x xs meant e p r =
    let parts = measure_there (is_measure_wanted (wanted f before) && is_measure x) name (shape_of (inside s f before) x) n e in
    let is = both_parts (wanted f before) frames (is_measure x) meant parts.is_one in
    let both = measure_passed frames (wanted f before) (so_far f at before) name place x (break_of (inside s f before) x) meant is p in
    measure_head parts.name_is is both.0 (not_true _ (passes _ place DoubleColumn both.1)) r

pub measure_of : (frames : List (List Name)) (s : Scope) (at : Place) (f : Function) (before : List Argument) (n : Name) (rest : List Argument) (xs : Args)
    → wanted f before ≡ a_measure frames → IsHead s at f before (Measure n) rest xs → MeasureHead frames s at f before n rest xs
measure_of frames s at f before n rest _ meant (head_plain {x = x} e p r) = not_plain (wanted f before) x _ (Measure n) refl e
measure_of frames s at f before n rest _ meant (head_range e p r) = not_range _ _ (Measure n) refl e
measure_of frames s at f before n rest _ meant (head_lambda e p r) = not_lambda _ (Measure n) refl e
measure_of frames s at f before n rest _ meant (head_named {name = name} {place = place} {x = x} {xs = xs} e p r) = measure_head_of frames s at f before n rest name place x xs meant e p r
