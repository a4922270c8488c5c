-- Lists of arguments that pass fit by the relations.
use Rattle.std.proofs.Common.{◌≡◌, ℕ, Bool, true, false, ◌||◌, ◌⊎◌, inl, inr, List, [], ◌∷◌, ◌++◌, codes, bytes_eq, Some, None, refl, sym, ap, subst}
use Rattle.hp_word.specs.declared.name.Name.{Name}
use Rattle.hp_word.specs.declared.place.Place.{Place}
use Rattle.hp_script.specs.declared.typed.Shape.{Shape}
use Rattle.hp_script.specs.declared.typed.Shape.TheVariants.{Ints, Frame}
use Rattle.hp_script.specs.declared.rule.Rule.TheVariants.{UnknownColumn}
use Rattle.hp_script.specs.declared.argument.Argument.{Argument}
use Rattle.hp_script.specs.declared.argument.Argument.TheVariants.{Value, Column, Given, Measure}
use Rattle.hp_script.specs.declared.function.Function.TheVariants as function
use Rattle.hp_script.specs.Breaks.{names_among, measure_break}
use Rattle.hp_script.specs.Mirror.{Head, Tree, Args, column, call, none, plain, range, lambda, named}
use Rattle.hp_script.specs.Results.{are_arrays, given_names, column_names, measure_names}
use Rattle.hp_script.specs.Scope.{Scope, has, has_column}
use Rattle.hp_script.specs.Shaped.{AreColumns, no_more_columns, one_column, IsMeasure, measured_sum, measured_minimum, measured_maximum, measured_count, AreMeasures, no_more_measures, one_measure, HasShape, AreArrays, no_more_arrays, one_array, AreGiven, no_more_given, one_given}
use Rattle.hp_script.specs.Typing.{wanted, inside}
use Rattle.hp_script.specs.Valued.{is_measure}
use Rattle.hp_script.specs.Walk.{shape_of, break_of}
use Rattle.hp_script.proofs.TestLemmas.{passes, same_bytes, map_there, and_left}
use Rattle.hp_script.proofs.ArgumentHeads.{Rest, head_of, none_of}
use Rattle.hp_script.proofs.ArgumentKinds.{ValueHead, value_head, value_of, ColumnHead, column_head, column_of, is_column_of, GivenHead, given_head, given_of, MeasureHead, measure_head, measure_of}

-- ---- what is to show

-- where an expression passes and has a type, it has it by the relation
abbrev pub Sound : Tree → Type 0
Sound x = (s : Scope) (a : Shape) → break_of s x ≡ None → shape_of s x ≡ Some a → HasShape s x a

unfoldable pub SoundArgs : Args → Type 0
SoundArgs none = Unit {0}
SoundArgs (plain x xs) = Sound x × SoundArgs xs
SoundArgs (range x y xs) = (Sound x × Sound y) × SoundArgs xs
SoundArgs (lambda p x xs) = Sound x × SoundArgs xs
SoundArgs (named name at x xs) = Sound x × SoundArgs xs

pub at_shape : (s : Scope) (x : Tree) (a b : Shape) → a ≡ b → HasShape s x a → HasShape s x b
at_shape s x a b e h = subst (λ (k : Shape). HasShape s x k) e h

-- ---- names

pub names_append : (before : List Argument) (a : Argument) → names_among (before ++ a ∷ []) ≡ names_among before ++ names_among (a ∷ [])
names_append [] a = refl
names_append (Column x ∷ rest) a = ap (λ (l : List (List ℕ)). x.bytes ∷ l) (names_append rest a)
names_append (Given x kind ∷ rest) a = ap (λ (l : List (List ℕ)). x.bytes ∷ l) (names_append rest a)
names_append (Measure x ∷ rest) a = ap (λ (l : List (List ℕ)). x.bytes ∷ l) (names_append rest a)
names_append (_ ∷ rest) a = names_append rest a

-- ---- the arrays of `stack`

arrays_step : (s : Scope) (at : Place) (before rest : List Argument) (xs : Args) → ValueHead s at function.Stack before Ints rest xs
    → ((ys : Args) → Rest s at function.Stack (before ++ Value Ints ∷ []) rest ys → SoundArgs ys → AreArrays s ys) → SoundArgs xs → AreArrays s xs
unfolding SoundArgs inside
arrays_step s at before rest _ (value_head {x = x} {xs = xs} v r) next sounds = one_array (sounds.0 s Ints v.passed v.shape) (next xs r sounds.1)

pub arrays_fit : (s : Scope) (at : Place) (before made : List Argument) (xs : Args) → Rest s at function.Stack before made xs → are_arrays made ≡ true → SoundArgs xs → AreArrays s xs
arrays_fit s at before [] xs r e sounds = subst (λ (ys : Args). AreArrays s ys) (sym (none_of s at function.Stack before xs r)) no_more_arrays
arrays_fit s at before (Value Ints ∷ made) xs r e sounds =
    arrays_step s at before made xs (value_of s at function.Stack before Ints made xs (head_of s at function.Stack before made (Value Ints) xs r))
    (λ ys q more. arrays_fit s at (before ++ Value Ints ∷ []) made ys q e more) sounds
arrays_fit s at before (_ ∷ made) xs r e sounds = absurd cc

-- ---- given columns

given_step : (s : Scope) (at : Place) (before rest : List Argument) (n : Name) (names : List Name) (xs : Args) → GivenHead s at function.DataFrame before n Ints rest xs
    → ((ys : Args) → Rest s at function.DataFrame (before ++ Given n Ints ∷ []) rest ys → SoundArgs ys → AreGiven s (names_among (before ++ Given n Ints ∷ [])) ys names)
    → SoundArgs xs → AreGiven s (names_among before) xs (n ∷ names)
unfolding SoundArgs inside
given_step s at before rest n names _ (given_head {name = name} {place = place} {x = x} {xs = xs} e v new r) next sounds =
    let more : AreGiven s (names_among before ++ n.bytes ∷ []) xs names =
    subst (λ (l : List (List ℕ)). AreGiven s l xs names) (names_append before (Given n Ints)) (next xs r sounds.1) in
    let own : AreGiven s (names_among before ++ name ∷ []) xs names =
    subst (λ (m : Name). AreGiven s (names_among before ++ m.bytes ∷ []) xs names) (sym e) more in
    subst (λ (m : Name). AreGiven s (names_among before) (named name place x xs) (m ∷ names)) e (one_given (sounds.0 s Ints v.passed v.shape) new own)

pub given_fit : (s : Scope) (at : Place) (before made : List Argument) (names : List Name) (xs : Args)
    → Rest s at function.DataFrame before made xs → given_names made ≡ Some names → SoundArgs xs → AreGiven s (names_among before) xs names
given_fit s at before [] names xs r e sounds =
    let nothing : [] ≡ names = cc in
    subst (λ (l : List Name). AreGiven s (names_among before) xs l) nothing
    (subst (λ (ys : Args). AreGiven s (names_among before) ys []) (sym (none_of s at function.DataFrame before xs r)) no_more_given)
given_fit s at before (Given n Ints ∷ made) names xs r e sounds =
    let m = map_there (λ (l : List Name). n ∷ l) (given_names made) names e in
    subst (λ (l : List Name). AreGiven s (names_among before) xs l) m.is
    (given_step s at before made n m.value xs (given_of s at function.DataFrame before n Ints made xs (head_of s at function.DataFrame before made (Given n Ints) xs r))
    (λ ys q more. given_fit s at (before ++ Given n Ints ∷ []) made m.value ys q m.value_is more) sounds)
given_fit s at before (_ ∷ made) names xs r e sounds = absurd cc

-- ---- columns by their names

columns_step : (s : Scope) (at : Place) (first : Argument) (before rest : List Argument) (n : Name) (names : List Name) (xs : Args)
    → ColumnHead [] s at function.ReadCsv (first ∷ before) n rest xs
    → ((ys : Args) → Rest s at function.ReadCsv (first ∷ (before ++ Column n ∷ [])) rest ys → AreColumns (names_among (first ∷ (before ++ Column n ∷ []))) ys names)
    → AreColumns (names_among (first ∷ before)) xs (n ∷ names)
columns_step s at first before rest n names _ (column_head {xs = xs} (is_column_of {h = h} {c = c} e known new) r) next =
    let more : AreColumns (names_among (first ∷ before) ++ n.bytes ∷ []) xs names =
    subst (λ (l : List (List ℕ)). AreColumns l xs names) (names_append (first ∷ before) (Column n)) (next xs r) in
    let own : AreColumns (names_among (first ∷ before) ++ c ∷ []) xs names =
    subst (λ (m : Name). AreColumns (names_among (first ∷ before) ++ m.bytes ∷ []) xs names) (sym e) more in
    subst (λ (m : Name). AreColumns (names_among (first ∷ before)) (plain (column h c) xs) (m ∷ names)) e (one_column new own)

pub columns_fit : (s : Scope) (at : Place) (first : Argument) (before made : List Argument) (names : List Name) (xs : Args)
    → Rest s at function.ReadCsv (first ∷ before) made xs → column_names made ≡ Some names → AreColumns (names_among (first ∷ before)) xs names
unfolding wanted
columns_fit s at first before [] names xs r e =
    let nothing : [] ≡ names = cc in
    subst (λ (l : List Name). AreColumns (names_among (first ∷ before)) xs l) nothing
    (subst (λ (ys : Args). AreColumns (names_among (first ∷ before)) ys []) (sym (none_of s at function.ReadCsv (first ∷ before) xs r)) no_more_columns)
columns_fit s at first before (Column n ∷ made) names xs r e =
    let m = map_there (λ (l : List Name). n ∷ l) (column_names made) names e in
    subst (λ (l : List Name). AreColumns (names_among (first ∷ before)) xs l) m.is
    (columns_step s at first before made n m.value xs (column_of [] s at function.ReadCsv (first ∷ before) n made xs refl (head_of s at function.ReadCsv (first ∷ before) made (Column n) xs r))
    (λ ys q. columns_fit s at first (before ++ Column n ∷ []) made m.value ys q m.value_is))
columns_fit s at first before (_ ∷ made) names xs r e = absurd cc

-- ---- measures

either_true : (a b : Bool) → (a || b) ≡ true → (a ≡ true) ⊎ (b ≡ true)
either_true true b e = inl refl
either_true false b e = inr e

measure_named : (columns : List Name) (h g : Head) (f c : List ℕ) → has_column c columns ≡ true
    → ((bytes_eq f (codes "sum") || bytes_eq f (codes "minimum")) ≡ true) ⊎ (bytes_eq f (codes "maximum") ≡ true) → IsMeasure columns (call h f false (plain (column g c) none))
measure_named columns h g f c has (inr e) =
    subst (λ (k : List ℕ). IsMeasure columns (call h k false (plain (column g c) none))) (sym (same_bytes f (codes "maximum") e)) (measured_maximum has)
measure_named columns h g f c has (inl e) = measure_other (either_true (bytes_eq f (codes "sum")) (bytes_eq f (codes "minimum")) e)
  where
    measure_other : (bytes_eq f (codes "sum") ≡ true) ⊎ (bytes_eq f (codes "minimum") ≡ true) → IsMeasure columns (call h f false (plain (column g c) none))
    measure_other (inl k) =
        subst (λ (k : List ℕ). IsMeasure columns (call h k false (plain (column g c) none))) (sym (same_bytes f (codes "sum") k)) (measured_sum has)
    measure_other (inr k) =
        subst (λ (k : List ℕ). IsMeasure columns (call h k false (plain (column g c) none))) (sym (same_bytes f (codes "minimum") k)) (measured_minimum has)

pub measure_back : (columns : List Name) (x : Tree) → is_measure x ≡ true → measure_break (columns ∷ []) x ≡ None → IsMeasure columns x
measure_back columns (call h f false (plain (column g c) none)) is passed =
    measure_named columns h g f c (and_left _ _ (passes _ g.at UnknownColumn passed)) (either_true (bytes_eq f (codes "sum") || bytes_eq f (codes "minimum")) (bytes_eq f (codes "maximum")) is)
measure_back columns (call h f false none) is passed =
    subst (λ (k : List ℕ). IsMeasure columns (call h k false none)) (sym (same_bytes f (codes "count") is)) measured_count
measure_back columns _ is passed = absurd cc

measures_step : (s : Scope) (at : Place) (columns : List Name) (key : Argument) (before rest : List Argument) (n : Name) (names : List Name) (xs : Args)
    → MeasureHead (columns ∷ []) s at function.Aggregate (Value (Frame columns) ∷ key ∷ before) n rest xs
    → ((ys : Args) → Rest s at function.Aggregate (Value (Frame columns) ∷ key ∷ (before ++ Measure n ∷ [])) rest ys → AreMeasures columns (names_among (key ∷ (before ++ Measure n ∷ []))) ys names)
    → AreMeasures columns (names_among (key ∷ before)) xs (n ∷ names)
measures_step s at columns key before rest n names _ (measure_head {name = name} {place = place} {x = x} {xs = xs} e is passed new r) next =
    let more : AreMeasures columns (names_among (key ∷ before) ++ n.bytes ∷ []) xs names =
    subst (λ (l : List (List ℕ)). AreMeasures columns l xs names) (names_append (key ∷ before) (Measure n)) (next xs r) in
    let own : AreMeasures columns (names_among (key ∷ before) ++ name ∷ []) xs names =
    subst (λ (m : Name). AreMeasures columns (names_among (key ∷ before) ++ m.bytes ∷ []) xs names) (sym e) more in
    subst (λ (m : Name). AreMeasures columns (names_among (key ∷ before)) (named name place x xs) (m ∷ names)) e (one_measure (measure_back columns x is passed) new own)

pub measures_fit : (s : Scope) (at : Place) (columns : List Name) (key : Argument) (before made : List Argument) (names : List Name) (xs : Args)
    → Rest s at function.Aggregate (Value (Frame columns) ∷ key ∷ before) made xs → measure_names made ≡ Some names → AreMeasures columns (names_among (key ∷ before)) xs names
unfolding wanted
measures_fit s at columns key before [] names xs r e =
    let nothing : [] ≡ names = cc in
    subst (λ (l : List Name). AreMeasures columns (names_among (key ∷ before)) xs l) nothing
    (subst (λ (ys : Args). AreMeasures columns (names_among (key ∷ before)) ys []) (sym (none_of s at function.Aggregate (Value (Frame columns) ∷ key ∷ before) xs r)) no_more_measures)
measures_fit s at columns key before (Measure n ∷ made) names xs r e =
    let m = map_there (λ (l : List Name). n ∷ l) (measure_names made) names e in
    subst (λ (l : List Name). AreMeasures columns (names_among (key ∷ before)) xs l) m.is
    (measures_step s at columns key before made n m.value xs
    (measure_of (columns ∷ []) s at function.Aggregate (Value (Frame columns) ∷ key ∷ before) n made xs refl (head_of s at function.Aggregate (Value (Frame columns) ∷ key ∷ before) made (Measure n) xs r))
    (λ ys q. measures_fit s at columns key (before ++ Measure n ∷ []) made m.value ys q m.value_is))
measures_fit s at columns key before (_ ∷ made) names xs r e = absurd cc
