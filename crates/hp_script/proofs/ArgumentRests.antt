-- Arguments that fit pass: from the last to the first.
use Rattle.std.proofs.Common.{◌≡◌, ℕ, Bool, true, false, if◌then◌else◌, List, [], ◌∷◌, ◌++◌, Option, Some, None, refl, sym, ap, ◌∙◌, subst, append_assoc, append-nil}
use Rattle.std.specs.Option.{option_or}
use Rattle.std.specs.List.{list_all}
use Rattle.hp_word.specs.declared.name.Name.{Name}
use Rattle.hp_word.specs.declared.place.Place.{Place}
use Rattle.hp_script.specs.declared.rule.Refusal.{Refusal}
use Rattle.hp_script.specs.declared.rule.Rule.TheVariants.{DoubleColumn, UnknownColumn}
use Rattle.hp_script.specs.declared.typed.Shape.{Shape}
use Rattle.hp_script.specs.declared.typed.Shape.TheVariants.{Int}
use Rattle.hp_script.specs.declared.argument.Argument.{Argument}
use Rattle.hp_script.specs.declared.argument.Argument.TheVariants.{Value, Interval, Body, Text, Column, Given, Measure}
use Rattle.hp_script.specs.declared.function.Function.{Function}
use Rattle.hp_script.specs.Breaks.{plain_break, range_break, lambda_break, named_break, measure_break, names_among, CallSoFar, so_far}
use Rattle.hp_script.specs.Mirror.{Head, Tree, Args, text, column, none, plain, range, lambda, named}
use Rattle.hp_script.specs.Scope.{Role, Scope, has, has_column, with_parameter}
use Rattle.hp_script.specs.Trees as trees
use Rattle.hp_script.specs.Typing.{Wanted, a_value, an_interval, a_lambda, a_text, a_column, a_given, a_measure, wanted, role_wanted, inside, plain_argument, range_argument, lambda_argument, named_argument, value_or_misfit, given_or_misfit}
use Rattle.hp_script.specs.Valued.{is_measure}
use Rattle.hp_script.specs.Walk.{break_of, finds_of, in_turn}
use Rattle.hp_script.proofs.TestLemmas.{none_both, unless_true, false_not}
use Rattle.hp_script.proofs.ArgumentHeads.{Rest, IsHead, head_plain, head_range, head_lambda, head_named}
use Rattle.hp_script.proofs.ArgumentKinds.{Valued}
use Rattle.hp_script.proofs.Turns.{arguments, breaks_among}

-- ---- one more argument

more : (s : Scope) (at : Place) (f : Function) (before rest : List Argument) (own a : Argument) (xs : Args) → own ≡ a
    → arguments s at f (before ++ a ∷ []) xs ≡ (before ++ a ∷ []) ++ rest → arguments s at f (before ++ own ∷ []) xs ≡ before ++ a ∷ rest
more s at f before rest own a xs e made =
    subst (λ (b : Argument). arguments s at f (before ++ b ∷ []) xs ≡ before ++ a ∷ rest) (sym e) (made ∙ append_assoc before (a ∷ []) rest)

pass_on : (s : Scope) (at : Place) (f : Function) (before : List Argument) (own a : Argument) (xs : Args) (tested : Option Refusal) → own ≡ a → tested ≡ None
    → breaks_among s at f (before ++ a ∷ []) xs ≡ None → option_or tested (breaks_among s at f (before ++ own ∷ []) xs) ≡ None
pass_on s at f before own a xs tested e first next =
    none_both tested _ first (subst (λ (b : Argument). breaks_among s at f (before ++ b ∷ []) xs ≡ None) (sym e) next)

pub rest_of : (s : Scope) (at : Place) (f : Function) (before rest : List Argument) (a : Argument) (xs : Args) → IsHead s at f before a rest xs → Rest s at f before (a ∷ rest) xs
unfolding finds_of in_turn
rest_of s at f before rest a _ (head_plain {x = x} {xs = xs} e p r) =
    record { made = more s at f before rest _ a xs e r.made; passed = pass_on s at f before _ a xs _ e p r.passed }
rest_of s at f before rest a _ (head_range {x = x} {y = y} {xs = xs} e p r) =
    record { made = more s at f before rest _ a xs e r.made; passed = pass_on s at f before _ a xs _ e p r.passed }
rest_of s at f before rest a _ (head_lambda {p = q} {x = x} {xs = xs} e p r) =
    record { made = more s at f before rest _ a xs e r.made; passed = pass_on s at f before _ a xs _ e p r.passed }
rest_of s at f before rest a _ (head_named {name = name} {place = place} {x = x} {xs = xs} e p r) =
    record { made = more s at f before rest _ a xs e r.made; passed = pass_on s at f before _ a xs _ e p r.passed }

pub rest_none : (s : Scope) (at : Place) (f : Function) (before : List Argument) → Rest s at f before [] none
unfolding finds_of in_turn
rest_none s at f before = record { made = sym (append-nil before); passed = refl }

-- ---- values

value_made : (w : Wanted) (x : Tree) (found : Option Shape) (a : Shape) → w ≡ a_value → found ≡ Some a → plain_argument w x found ≡ Value a
unfolding plain_argument
value_made a_value x found a meant e = ap value_or_misfit e
value_made _ x found a meant e = absurd cc

value_tested : (w : Wanted) (here : CallSoFar) (x : Tree) (tested : Option Refusal) → w ≡ a_value → tested ≡ None → plain_break w here x tested ≡ None
unfolding plain_break
value_tested a_value here x tested meant e = e
value_tested _ here x tested meant e = absurd cc

pub value_rest : (s : Scope) (at : Place) (f : Function) (before rest : List Argument) (a : Shape) (x : Tree) (xs : Args) → wanted f before ≡ a_value
    → Valued (inside s f before) x a → Rest s at f (before ++ Value a ∷ []) rest xs → Rest s at f before (Value a ∷ rest) (plain x xs)
value_rest s at f before rest a x xs meant v r =
    rest_of s at f before rest (Value a) (plain x xs) (head_plain (value_made (wanted f before) x _ a meant v.shape) (value_tested (wanted f before) (so_far f at before) x _ meant v.passed) r)

pub one_rest : (s : Scope) (at : Place) (f : Function) (a : Shape) (x : Tree) → wanted f [] ≡ a_value → Valued (inside s f []) x a → Rest s at f [] (Value a ∷ []) (plain x none)
one_rest s at f a x meant v = value_rest s at f [] [] a x none meant v (rest_none s at f (Value a ∷ []))

pub two_rest : (s : Scope) (at : Place) (f : Function) (a b : Shape) (x y : Tree) → wanted f [] ≡ a_value → wanted f (Value a ∷ []) ≡ a_value
    → Valued (inside s f []) x a → Valued (inside s f (Value a ∷ [])) y b → Rest s at f [] (Value a ∷ Value b ∷ []) (plain x (plain y none))
two_rest s at f a b x y meant next v w =
    value_rest s at f [] (Value b ∷ []) a x (plain y none) meant v (value_rest s at f (Value a ∷ []) [] b y none next w (rest_none s at f (Value a ∷ Value b ∷ [])))

-- ---- intervals and lambdas

interval_made : (a b : Option Shape) → a ≡ Some Int → b ≡ Some Int → range_argument a b ≡ Interval
interval_made a b e f = subst (λ (k : Option Shape). range_argument k b ≡ Interval) (sym e) (subst (λ (k : Option Shape). range_argument (Some Int) k ≡ Interval) (sym f) refl)

interval_tested : (w : Wanted) (at : Place) (tested : Option Refusal) → w ≡ an_interval → tested ≡ None → range_break w at tested ≡ None
unfolding range_break
interval_tested an_interval at tested meant e = e
interval_tested _ at tested meant e = absurd cc

pub interval_rest : (s : Scope) (at : Place) (f : Function) (before rest : List Argument) (x y : Tree) (xs : Args) → wanted f before ≡ an_interval
    → Valued s x Int → Valued s y Int → Rest s at f (before ++ Interval ∷ []) rest xs → Rest s at f before (Interval ∷ rest) (range x y xs)
interval_rest s at f before rest x y xs meant v w r =
    rest_of s at f before rest Interval (range x y xs)
    (head_range (interval_made _ _ v.shape w.shape) (interval_tested (wanted f before) at _ meant (none_both (break_of s x) (break_of s y) v.passed w.passed)) r)

pub body_made : (found : Option Shape) (a : Shape) → found ≡ Some a → lambda_argument found ≡ Body a
body_made found a e = ap lambda_argument e

lambda_tested : (w : Wanted) (role : Role) (at : Place) (tested : Option Refusal) → w ≡ a_lambda role → tested ≡ None → lambda_break w at tested ≡ None
unfolding lambda_break
lambda_tested (a_lambda own) role at tested meant e = e
lambda_tested _ role at tested meant e = absurd cc

pub body_rest : (s : Scope) (at : Place) (f : Function) (before rest : List Argument) (role : Role) (p : List ℕ) (a : Shape) (x : Tree) (xs : Args) → wanted f before ≡ a_lambda role
    → Valued (with_parameter s p (role_wanted (wanted f before))) x a → Rest s at f (before ++ Body a ∷ []) rest xs → Rest s at f before (Body a ∷ rest) (lambda p x xs)
body_rest s at f before rest role p a x xs meant v r =
    rest_of s at f before rest (Body a) (lambda p x xs) (head_lambda (body_made _ a v.shape) (lambda_tested (wanted f before) role at _ meant v.passed) r)

-- ---- texts and columns

text_made : (w : Wanted) (h : Head) (bytes : List ℕ) (found : Option Shape) → w ≡ a_text → plain_argument w (text h bytes) found ≡ Text (trees.named bytes)
unfolding plain_argument
text_made a_text h bytes found meant = refl
text_made _ h bytes found meant = absurd cc

text_tested : (w : Wanted) (here : CallSoFar) (h : Head) (bytes : List ℕ) (tested : Option Refusal) → w ≡ a_text → plain_break w here (text h bytes) tested ≡ None
unfolding plain_break
text_tested a_text here h bytes tested meant = refl
text_tested _ here h bytes tested meant = absurd cc

pub text_rest : (s : Scope) (at : Place) (f : Function) (before rest : List Argument) (h : Head) (bytes : List ℕ) (xs : Args) → wanted f before ≡ a_text
    → Rest s at f (before ++ Text (trees.named bytes) ∷ []) rest xs → Rest s at f before (Text (trees.named bytes) ∷ rest) (plain (text h bytes) xs)
text_rest s at f before rest h bytes xs meant r =
    rest_of s at f before rest (Text (trees.named bytes)) (plain (text h bytes) xs)
    (head_plain (text_made (wanted f before) h bytes _ meant) (text_tested (wanted f before) (so_far f at before) h bytes _ meant) r)

column_made : (w : Wanted) (frames : List (List Name)) (h : Head) (c : List ℕ) (found : Option Shape) → w ≡ a_column frames → plain_argument w (column h c) found ≡ Column (trees.named c)
unfolding plain_argument
column_made (a_column own) frames h c found meant = refl
column_made _ frames h c found meant = absurd cc

column_tested : (w : Wanted) (frames : List (List Name)) (here : CallSoFar) (h : Head) (c : List ℕ) (tested : Option Refusal) → w ≡ a_column frames
    → list_all (has_column c) frames ≡ true → has c (names_among here.before) ≡ false → plain_break w here (column h c) tested ≡ None
unfolding plain_break
column_tested (a_column own) frames here h c tested meant known new =
    let same : frames ≡ own = cc in
    none_both _ _ (unless_true _ h.at UnknownColumn (subst (λ (l : List (List Name)). list_all (has_column c) l ≡ true) same known)) (unless_true _ h.at DoubleColumn (false_not _ new))
column_tested _ frames here h c tested meant known new = absurd cc

pub column_rest : (frames : List (List Name)) (s : Scope) (at : Place) (f : Function) (before rest : List Argument) (h : Head) (c : List ℕ) (xs : Args) → wanted f before ≡ a_column frames
    → list_all (has_column c) frames ≡ true → has c (names_among before) ≡ false
    → Rest s at f (before ++ Column (trees.named c) ∷ []) rest xs → Rest s at f before (Column (trees.named c) ∷ rest) (plain (column h c) xs)
column_rest frames s at f before rest h c xs meant known new r =
    rest_of s at f before rest (Column (trees.named c)) (plain (column h c) xs)
    (head_plain (column_made (wanted f before) frames h c _ meant) (column_tested (wanted f before) frames (so_far f at before) h c _ meant known new) r)

-- ---- named arguments

given_made : (w : Wanted) (name : List ℕ) (x : Tree) (found : Option Shape) (a : Shape) → w ≡ a_given → found ≡ Some a → named_argument w name x found ≡ Given (trees.named name) a
unfolding named_argument
given_made a_given name x found a meant e = ap (given_or_misfit name) e
given_made _ name x found a meant e = absurd cc

given_tested : (w : Wanted) (here : CallSoFar) (name : List ℕ) (at : Place) (x : Tree) (tested : Option Refusal) → w ≡ a_given
    → tested ≡ None → has name (names_among here.before) ≡ false → named_break w here name at x tested ≡ None
unfolding named_break
given_tested a_given here name at x tested meant e new = none_both tested _ e (unless_true _ at DoubleColumn (false_not _ new))
given_tested _ here name at x tested meant e new = absurd cc

pub given_rest : (s : Scope) (at : Place) (f : Function) (before rest : List Argument) (name : List ℕ) (place : Place) (a : Shape) (x : Tree) (xs : Args) → wanted f before ≡ a_given
    → Valued (inside s f before) x a → has name (names_among before) ≡ false → Rest s at f (before ++ Given (trees.named name) a ∷ []) rest xs
    → Rest s at f before (Given (trees.named name) a ∷ rest) (named name place x xs)
given_rest s at f before rest name place a x xs meant v new r =
    rest_of s at f before rest (Given (trees.named name) a) (named name place x xs)
    (head_named (given_made (wanted f before) name x _ a meant v.shape) (given_tested (wanted f before) (so_far f at before) name place x _ meant v.passed new) r)

measure_made : (w : Wanted) (frames : List (List Name)) (name : List ℕ) (x : Tree) (found : Option Shape) → w ≡ a_measure frames → is_measure x ≡ true
    → named_argument w name x found ≡ Measure (trees.named name)
unfolding named_argument
measure_made (a_measure own) frames name x found meant is =
    subst (λ (b : Bool). (if b then Measure (trees.named name) else given_or_misfit name found) ≡ Measure (trees.named name)) (sym is) refl
measure_made _ frames name x found meant is = absurd cc

measure_tested : (w : Wanted) (frames : List (List Name)) (here : CallSoFar) (name : List ℕ) (at : Place) (x : Tree) (tested : Option Refusal) → w ≡ a_measure frames
    → is_measure x ≡ true → measure_break frames x ≡ None → has name (names_among here.before) ≡ false → named_break w here name at x tested ≡ None
unfolding named_break
measure_tested (a_measure own) frames here name at x tested meant is e new =
    let same : frames ≡ own = cc in
    let passed : measure_break own x ≡ None = subst (λ (l : List (List Name)). measure_break l x ≡ None) same e in
    none_both _ _ (subst (λ (b : Bool). (if b then measure_break own x else tested) ≡ None) (sym is) passed) (unless_true _ at DoubleColumn (false_not _ new))
measure_tested _ frames here name at x tested meant is e new = absurd cc

pub measure_rest : (frames : List (List Name)) (s : Scope) (at : Place) (f : Function) (before rest : List Argument) (name : List ℕ) (place : Place) (x : Tree) (xs : Args)
    → wanted f before ≡ a_measure frames → is_measure x ≡ true → measure_break frames x ≡ None → has name (names_among before) ≡ false
    → Rest s at f (before ++ Measure (trees.named name) ∷ []) rest xs → Rest s at f before (Measure (trees.named name) ∷ rest) (named name place x xs)
measure_rest frames s at f before rest name place x xs meant is e new r =
    rest_of s at f before rest (Measure (trees.named name)) (named name place x xs)
    (head_named (measure_made (wanted f before) frames name x _ meant is) (measure_tested (wanted f before) frames (so_far f at before) name place x _ meant is e new) r)
