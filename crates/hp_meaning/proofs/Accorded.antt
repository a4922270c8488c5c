-- One argument whose tests pass agrees with what it means.
use Rattle.std.proofs.Common.{◌≡◌, ℕ, Bool, true, false, ◌||◌, cond, codes, bytes_eq, List, [], ◌++◌, Option, Some, None, refl, sym, ap, subst, subst₂, ◌∙◌}
use Rattle.std.specs.List.{list_all}
use Rattle.std.specs.Option.{option_or}
use Rattle.std.proofs.lemmas.Slice.Eq.{bytes_eq-Decides}
use Rattle.hp_word.specs.declared.fold.FoldKind.TheVariants as fold
use Rattle.hp_word.specs.declared.name.Name.{Name}
use Rattle.hp_word.specs.declared.place.Place.{Place}
use Rattle.hp_word.specs.declared.table.MeasureKind.{MeasureKind}
use Rattle.hp_word.specs.declared.table.MeasureKind.TheVariants as measure
use Rattle.hp_script.specs.declared.argument.Argument.{Argument}
use Rattle.hp_script.specs.declared.argument.Argument.TheVariants as argument
use Rattle.hp_script.specs.declared.function.Function.{Function}
use Rattle.hp_script.specs.declared.function.Function.TheVariants as function
use Rattle.hp_script.specs.declared.rule.Refusal.{Refusal}
use Rattle.hp_script.specs.declared.rule.Rule.TheVariants.{UnknownColumn}
use Rattle.hp_script.specs.declared.typed.ReadSpec.{ReadSpec}
use Rattle.hp_script.specs.declared.typed.Shape.{Shape}
use Rattle.hp_script.specs.declared.typed.Shape.TheVariants as shape
use Rattle.hp_script.specs.Breaks.{plain_break, lambda_break, named_break, measure_break, CallSoFar}
use Rattle.hp_script.specs.Entries.{files_in, files_among}
use Rattle.hp_script.specs.Functions.{scalar_named, fold_named, array_named, frame_named, function_named}
use Rattle.hp_script.specs.Mirror.{Head, Tree, Args}
use Rattle.hp_script.specs.Mirror as trees
use Rattle.hp_script.specs.Scope.{Role, Scope, has_column, with_parameter}
use Rattle.hp_script.specs.Trees.{named}
use Rattle.hp_script.specs.Typing.{Wanted, a_lambda, a_text, a_column, a_given, a_measure, nothing, wanted, inside, value_or_misfit, plain_argument, range_argument, lambda_argument, given_or_misfit, named_argument, role_wanted}
use Rattle.hp_script.specs.Valued.{is_measure}
use Rattle.hp_script.specs.Walk.{shape_of, break_of}
use Rattle.hp_script.proofs.Wants.{Means, places, numbers, truths}
use Rattle.hp_meaning.specs.LambdaRules.{scalar, kind_of}
use Rattle.hp_meaning.specs.ReadCalls.{reads_in, reads_among}
use Rattle.hp_meaning.specs.ValueOf.{Supply, Meaning, Part, Plain, Range, Lambda, Named, measure_by, measure_of, value}
use Rattle.hp_meaning.proofs.Bodies.{Known, of_numbers, of_truths, of_places, BodyAs}
use Rattle.hp_meaning.proofs.BodyTrees.{Body}
use Rattle.hp_meaning.proofs.Parts.{finds, Supplies, Makes, counts, measures, MeasuresBy, Accords, an_interval as interval_accords, a_body, a_value as value_accords, a_text as text_accords, a_name, a_gift, a_measured, a_misfit}
use Rattle.hp_meaning.proofs.Safe.{Safe, SafeAs, safe, untyped}
use Rattle.hp_script.proofs.TestLemmas.{or_left, passes}

-- an expression is safe, and the tables and files behind it are left
pub record Passed (g : Supply) (s : Scope) (found : Option Shape) (m : Meaning) (ids : List ℕ) (files : List ReadSpec) : Type 0 where
  pub safe : SafeAs s found m
  pub rest : Supplies (finds g) ids files

-- the same of an argument
pub record Accorded (g : Supply) (meant : Wanted) (inner s : Scope) (x : Argument) (part : Part) (ids : List ℕ) (files : List ReadSpec) : Type 0 where
  pub accords : Accords meant inner s x part
  pub rest : Supplies (finds g) ids files

-- ---- plain arguments

value_or_not : {meant : Wanted} {inner s : Scope} {found : Option Shape} {m : Meaning} (x : Tree) → SafeAs inner found m → Accords meant inner s (value_or_misfit found) (Plain x m)
value_or_not x (safe h) = value_accords h
value_or_not x untyped = a_misfit

pub plain_accorded : (g : Supply) (meant : Wanted) (inner s : Scope) (here : CallSoFar) (x : Tree) (ids : List ℕ) (files : List ReadSpec)
    → plain_break meant here x (break_of inner x) ≡ None → Supplies (finds g) (reads_in x ++ ids) (files_in x ++ files)
    → (break_of inner x ≡ None → Passed g inner (shape_of inner x) (value g x) ids files)
    → Accorded g meant inner s (plain_argument meant x (shape_of inner x)) (Plain x (value g x)) ids files
unfolding plain_break plain_argument reads_in files_in
plain_accorded g nothing inner s here x ids files e supplies next = absurd cc
plain_accorded g a_text inner s here (trees.text h bytes) ids files e supplies next = record { accords = text_accords refl; rest = supplies }
plain_accorded g a_text inner s here (trees.column h c) ids files e supplies next = absurd cc
plain_accorded g (a_column frames) inner s here (trees.column h c) ids files e supplies next =
    record { accords = a_name frames refl (passes (list_all (has_column c) frames) h.at UnknownColumn (or_left _ _ e)); rest = supplies }
plain_accorded g _ inner s here x ids files e supplies next =
    let passed = next e in
    record { accords = value_or_not x passed.safe; rest = passed.rest }

-- ---- ranges

ends_or_not : {meant : Wanted} {inner s : Scope} {m k : Meaning} (a b : Shape) → Safe s a m → Safe s b k → Accords meant inner s (range_argument (Some a) (Some b)) (Range m k)
ends_or_not shape.Int shape.Int x y = interval_accords x y
ends_or_not shape.Int _ x y = a_misfit
ends_or_not _ b x y = a_misfit

pub range_accorded : {meant : Wanted} {inner s : Scope} {a b : Option Shape} {m k : Meaning} → SafeAs s a m → SafeAs s b k → Accords meant inner s (range_argument a b) (Range m k)
range_accorded (safe {kind = a} x) (safe {kind = b} y) = ends_or_not a b x y
range_accorded (safe {kind = shape.Int} x) untyped = a_misfit
range_accorded (safe x) untyped = a_misfit
range_accorded untyped y = a_misfit

-- ---- lambdas

pub known_role : {f : Function} {meant : Wanted} → Means f meant → (at : Place) (tested : Option Refusal) → lambda_break meant at tested ≡ None → Known (role_wanted meant)
unfolding lambda_break
known_role places at tested e = of_places
known_role numbers at tested e = of_numbers
known_role truths at tested e = of_truths
known_role _ at tested e = absurd cc

lambda_is : (meant : Wanted) (at : Place) (tested : Option Refusal) → lambda_break meant at tested ≡ None → meant ≡ a_lambda (role_wanted meant)
unfolding lambda_break
lambda_is (a_lambda role) at tested e = refl
lambda_is _ at tested e = absurd cc

body_or_not : {meant : Wanted} {inner s : Scope} (role : Role) (p : List ℕ) (x : Tree) (found : Option Shape) → meant ≡ a_lambda role → ((made : Shape) → found ≡ Some made → Makes s role p x made)
    → Accords meant inner s (lambda_argument found) (Lambda p x)
body_or_not role p x None meant h = a_misfit
body_or_not role p x (Some made) meant h = a_body role meant (h made refl)

pub lambda_accorded : (g : Supply) (meant : Wanted) (inner s : Scope) (p : List ℕ) (x : Tree) (at : Place) (ids : List ℕ) (files : List ReadSpec) → lambda_break meant at (break_of (with_parameter s p (role_wanted meant)) x) ≡ None
    → Supplies (finds g) ids (files_in x ++ files) → Body (with_parameter s p (role_wanted meant)) p (role_wanted meant) x
    → Accorded g meant inner s (lambda_argument (shape_of (with_parameter s p (role_wanted meant)) x)) (Lambda p x) ids files
lambda_accorded g meant inner s p x at ids files e supplies body = record {
  accords = body_or_not (role_wanted meant) p x (shape_of (with_parameter s p (role_wanted meant)) x) (lambda_is meant at _ e)
      (λ made same. record { body = subst (λ found. BodyAs (with_parameter s p (role_wanted meant)) p (role_wanted meant) found (scalar x) (kind_of x p)) same body.body });
  rest = subst (λ own. Supplies (finds g) ids (own ++ files)) body.files supplies;
}

-- ---- measures

-- a function by the bytes of its name
by_name : (name known : List ℕ) (f : Function) → function_named false known ≡ Some f → bytes_eq name known ≡ true → function_named false name ≡ Some f
by_name name known f k e = subst (λ n. function_named false n ≡ Some f) (sym ((bytes_eq-Decides name known).0 e)) k

sum_known : function_named false (codes "sum") ≡ Some (function.Fold fold.Sum)
unfolding function_named scalar_named fold_named array_named frame_named
sum_known = refl

least_known : function_named false (codes "minimum") ≡ Some (function.Fold fold.Min)
unfolding function_named scalar_named fold_named array_named frame_named
least_known = refl

greatest_known : function_named false (codes "maximum") ≡ Some (function.Fold fold.Max)
unfolding function_named scalar_named fold_named array_named frame_named
greatest_known = refl

count_known : function_named false (codes "count") ≡ Some function.Count
unfolding function_named scalar_named fold_named array_named frame_named
count_known = refl

-- a name that is another is not that of a call that reads
reads_not : (name known : List ℕ) → bytes_eq name known ≡ true → bytes_eq known (codes "read_csv") ≡ false → bytes_eq name (codes "read_csv") ≡ false
reads_not name known e n = subst (λ m. bytes_eq m (codes "read_csv") ≡ false) (sym ((bytes_eq-Decides name known).0 e)) n

-- a measure by its column and kind, and that it reads nothing
record Measuring (frames : List (List Name)) (x : Tree) : Type 0 where
  pub by : MeasuresBy frames x
  pub reads : reads_in x ≡ []
  pub files : files_in x ≡ []

of_column : (frames : List (List Name)) (h : Head) (name : List ℕ) (gh : Head) (c : List ℕ) (kind : MeasureKind) (f : Function) (known : List ℕ) → function_named false known ≡ Some f → bytes_eq known (codes "read_csv") ≡ false → bytes_eq name known ≡ true
    → measure_by (Some f) (trees.plain (trees.column gh c) trees.none) ≡ Some (kind, c) → list_all (has_column c) frames ≡ true
    → Measuring frames (trees.call h name false (trees.plain (trees.column gh c) trees.none))
unfolding measure_of reads_in reads_among files_in files_among
of_column frames h name gh c kind f known k n e m all = record {
  by = record { kind = kind; of_it = c; is = ap (λ found. measure_by found (trees.plain (trees.column gh c) trees.none)) (by_name name known f k e) ∙ m; known = measures all };
  reads = rw (reads_not name known e n) refl;
  files = refl;
}

one_of_three : (frames : List (List Name)) (h : Head) (name : List ℕ) (gh : Head) (c : List ℕ) (a b d : Bool) → bytes_eq name (codes "sum") ≡ a → bytes_eq name (codes "minimum") ≡ b → bytes_eq name (codes "maximum") ≡ d → (a || b || d) ≡ true
    → list_all (has_column c) frames ≡ true → Measuring frames (trees.call h name false (trees.plain (trees.column gh c) trees.none))
one_of_three frames h name gh c true b d ea eb ed any all = of_column frames h name gh c measure.Sum (function.Fold fold.Sum) (codes "sum") sum_known refl ea refl all
one_of_three frames h name gh c false true d ea eb ed any all = of_column frames h name gh c measure.Min (function.Fold fold.Min) (codes "minimum") least_known refl eb refl all
one_of_three frames h name gh c false false true ea eb ed any all = of_column frames h name gh c measure.Max (function.Fold fold.Max) (codes "maximum") greatest_known refl ed refl all
one_of_three frames h name gh c false false false ea eb ed any all = absurd cc

counting : (frames : List (List Name)) (h : Head) (name : List ℕ) → bytes_eq name (codes "count") ≡ true → Measuring frames (trees.call h name false trees.none)
unfolding measure_of reads_in reads_among files_in files_among
counting frames h name e = record {
  by = record { kind = measure.Count; of_it = []; is = ap (λ found. measure_by found trees.none) (by_name name (codes "count") function.Count count_known e); known = counts };
  reads = rw (reads_not name (codes "count") e refl) refl;
  files = refl;
}

measuring : (frames : List (List Name)) (x : Tree) → is_measure x ≡ true → measure_break frames x ≡ None → Measuring frames x
measuring frames (trees.call h name false (trees.plain (trees.column gh c) trees.none)) is e =
    one_of_three frames h name gh c (bytes_eq name (codes "sum")) (bytes_eq name (codes "minimum")) (bytes_eq name (codes "maximum")) refl refl refl is (passes (list_all (has_column c) frames) gh.at UnknownColumn e)
measuring frames (trees.call h name false trees.none) is e = counting frames h name is
measuring frames _ is e = absurd cc

-- ---- named arguments

gift_or_not : {meant : Wanted} {inner s : Scope} {found : Option Shape} {m : Meaning} (name : List ℕ) (x : Tree) → SafeAs s found m → Accords meant inner s (given_or_misfit name found) (Named name x m)
gift_or_not name x (safe h) = a_gift h
gift_or_not name x untyped = a_misfit

measure_accorded : (g : Supply) (frames : List (List Name)) (inner s : Scope) (name : List ℕ) (x : Tree) (ids : List ℕ) (files : List ReadSpec) (is : Bool) → is_measure x ≡ is
    → cond is (measure_break frames x) (break_of s x) ≡ None → Supplies (finds g) (reads_in x ++ ids) (files_in x ++ files)
    → (break_of s x ≡ None → Passed g s (shape_of s x) (value g x) ids files)
    → Accorded g (a_measure frames) inner s (cond is (argument.Measure (named name)) (given_or_misfit name (shape_of s x))) (Named name x (value g x)) ids files
measure_accorded g frames inner s name x ids files true is e supplies next =
    let found = measuring frames x is e in
    record {
      accords = a_measured frames refl found.by;
      rest = subst₂ (λ own_ids own. Supplies (finds g) (own_ids ++ ids) (own ++ files)) found.reads found.files supplies;
    }
measure_accorded g frames inner s name x ids files false is e supplies next =
    let passed = next e in
    record { accords = gift_or_not name x passed.safe; rest = passed.rest }

broken_name : (tested : Option Refusal) (r : Refusal) → option_or tested (Some r) ≡ None → ⊥
broken_name None r e = absurd cc
broken_name (Some t) r e = absurd cc

-- where a named argument is meant
abbrev pub is_named_wanted : Wanted → Bool
is_named_wanted a_given = true
is_named_wanted (a_measure frames) = true
is_named_wanted _ = false

-- it stands where the call does
pub inside_named : (s : Scope) (f : Function) (before : List Argument) → is_named_wanted (wanted f before) ≡ true → inside s f before ≡ s
unfolding inside wanted
inside_named s function.Filter before named = absurd cc
inside_named s _ before named = refl

-- a named argument, of which this expression is tested where the call stands
own_accorded : (g : Supply) (meant : Wanted) (inner s : Scope) (here : CallSoFar) (name : List ℕ) (at : Place) (x : Tree) (ids : List ℕ) (files : List ReadSpec)
    → is_named_wanted meant ≡ true → named_break meant here name at x (break_of s x) ≡ None → Supplies (finds g) (reads_in x ++ ids) (files_in x ++ files)
    → (break_of s x ≡ None → Passed g s (shape_of s x) (value g x) ids files)
    → Accorded g meant inner s (named_argument meant name x (shape_of s x)) (Named name x (value g x)) ids files
unfolding named_break named_argument
own_accorded g a_given inner s here name at x ids files named e supplies next =
    let passed = next (or_left _ _ e) in
    record { accords = gift_or_not name x passed.safe; rest = passed.rest }
own_accorded g (a_measure frames) inner s here name at x ids files named e supplies next = measure_accorded g frames inner s name x ids files (is_measure x) refl (or_left _ _ e) supplies next
own_accorded g _ inner s here name at x ids files named e supplies next = absurd cc

named_passes : (meant : Wanted) (here : CallSoFar) (name : List ℕ) (at : Place) (x : Tree) (tested : Option Refusal) → named_break meant here name at x tested ≡ None → is_named_wanted meant ≡ true
unfolding named_break
named_passes nothing here name at x tested e = absurd cc
named_passes a_given here name at x tested e = refl
named_passes (a_measure frames) here name at x tested e = refl
named_passes _ here name at x tested e = absurd (broken_name tested _ e)

pub named_accorded : (g : Supply) (meant : Wanted) (inner s : Scope) (here : CallSoFar) (name : List ℕ) (at : Place) (x : Tree) (ids : List ℕ) (files : List ReadSpec)
    → (is_named_wanted meant ≡ true → inner ≡ s) → named_break meant here name at x (break_of inner x) ≡ None → Supplies (finds g) (reads_in x ++ ids) (files_in x ++ files)
    → (break_of inner x ≡ None → Passed g inner (shape_of inner x) (value g x) ids files)
    → Accorded g meant inner s (named_argument meant name x (shape_of inner x)) (Named name x (value g x)) ids files
named_accorded g meant inner s here name at x ids files same e supplies next =
    let named = named_passes meant here name at x (break_of inner x) e in
    subst (λ k. named_break meant here name at x (break_of k x) ≡ None → (break_of k x ≡ None → Passed g k (shape_of k x) (value g x) ids files)
    → Accorded g meant inner s (named_argument meant name x (shape_of k x)) (Named name x (value g x)) ids files) (sym (same named))
    (λ k n. own_accorded g meant inner s here name at x ids files named k supplies n) e next
