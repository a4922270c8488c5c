-- An expression that fits by the relation passes the tests, and has its type by them: calls with lists of arguments, and
-- calls of functions of frames.
use Rattle.std.proofs.Common.{◌≡◌, ℕ, suc, Bool, true, false, not, ◌&&◌, if◌then◌else◌, List, [], ◌∷◌, ◌++◌, length, codes, nat_le, Some, None, refl, sym, ap, ap₂, ◌∙◌, subst, is_some, arith}
use Rattle.std.specs.Option.{option_map}
use Rattle.hp_word.specs.declared.name.Name.{Name}
use Rattle.hp_word.specs.declared.place.Place.{Place}
use Rattle.hp_script.specs.declared.tree.BinOp.TheVariants.{Mul}
use Rattle.hp_script.specs.declared.typed.Shape.TheVariants.{Ints, Bools, Matrix, Frame}
use Rattle.hp_script.specs.declared.rule.Rule.TheVariants.{WrongType, DoubleColumn, TooManyColumns, UnknownColumn}
use Rattle.hp_script.specs.declared.argument.Argument.{Argument}
use Rattle.hp_script.specs.declared.argument.Argument.TheVariants.{Value, Text, Column, Given, Measure}
use Rattle.hp_script.specs.declared.function.Function.{Function}
use Rattle.hp_script.specs.declared.function.Function.TheVariants as function
use Rattle.hp_script.specs.Breaks.{call_break, result_break, count_of, is_join, repeats, is_flipped, measure_break, names_among}
use Rattle.hp_script.specs.Functions.{function_named, scalar_named, fold_named, array_named, frame_named}
use Rattle.hp_script.specs.Mirror.{Head, Tree, Args, text, column, binary, call, none, plain, named}
use Rattle.hp_script.specs.Results.{of_both, binary_result, call_result, are_arrays, given_names, column_names, measure_names, without}
use Rattle.hp_script.specs.Scope.{Scope, has, has_column, is_in_lambda, with_columns}
use Rattle.hp_script.specs.Shaped.{IsOutside, IsNarrow, AreColumns, no_more_columns, one_column, IsMeasure, measured_sum, measured_minimum, measured_maximum, measured_count, AreMeasures, no_more_measures, one_measure}
use Rattle.hp_script.specs.Trees as trees
use Rattle.hp_script.specs.Typing.{wanted, inside}
use Rattle.hp_script.specs.Valued.{is_measure}
use Rattle.hp_script.specs.Walk.{found_of, shape_of, break_of, parts_break}
use Rattle.hp_script.proofs.TestLemmas.{none_both, unless_true, and_both, false_not, le_true}
use Rattle.hp_script.proofs.ArgumentHeads.{Rest}
use Rattle.hp_script.proofs.ArgumentKinds.{Valued}
use Rattle.hp_script.proofs.ArgumentRests.{one_rest, two_rest, value_rest, text_rest, column_rest, given_rest, measure_rest, rest_none}
use Rattle.hp_script.proofs.SoundLists.{names_append}
use Rattle.hp_script.proofs.CompleteCalls.{call_valued, outside_passes}

-- ---- `stack`

-- The arrays pass behind any arguments.
pub record ArraysMade (s : Scope) (at : Place) (before : List Argument) (xs : Args) : Type 0 where
  pub made : List Argument
  pub rest : Rest s at function.Stack before made xs
  pub are : are_arrays made ≡ true

abbrev pub ArraysPass : Scope → Args → Type 0
ArraysPass s xs = (at : Place) (before : List Argument) → ArraysMade s at before xs

pub no_arrays_pass : {s : Scope} → ArraysPass s none
no_arrays_pass {s = s} at before = record { made = []; rest = rest_none s at function.Stack before; are = refl }

pub one_array_passes : {s : Scope} {x : Tree} {xs : Args} → Valued s x Ints → ArraysPass s xs → ArraysPass s (plain x xs)
unfolding wanted inside
one_array_passes {s = s} {x = x} {xs = xs} v next at before =
    let k = next at (before ++ Value Ints ∷ []) in
    record { made = Value Ints ∷ k.made; rest = value_rest s at function.Stack before k.made Ints x xs refl v k.rest; are = k.are }

at_least_one : (n : ℕ) → nat_le 1 (suc n) ≡ true
at_least_one n = le_true 1 (suc n) (omega arith)

at_least_two : (n : ℕ) → nat_le 2 (suc (suc n)) ≡ true
at_least_two n = le_true 2 (suc (suc n)) (omega arith)

at_least_three : (n : ℕ) → nat_le 3 (suc (suc (suc n))) ≡ true
at_least_three n = le_true 3 (suc (suc (suc n))) (omega arith)

stack_made : (made : List Argument) → are_arrays made ≡ true → call_result function.Stack false made ≡ Some Matrix
unfolding call_result
stack_made made e = subst (λ (b : Bool). (if b then Some Matrix else None) ≡ Some Matrix) (sym e) refl

pub stack_valued : {s : Scope} {h : Head} {x : Tree} {xs : Args} → IsOutside s → Valued s x Ints → ArraysPass s xs → Valued s (call h (codes "stack") false (plain x xs)) Matrix
unfolding function_named scalar_named fold_named array_named result_break call_break
stack_valued {s = s} {h = h} {x = x} {xs = xs} out v next =
    let k = one_array_passes v next h.at [] in
    call_valued s h (codes "stack") false (plain x xs) function.Stack Matrix refl (at_least_one (count_of xs)) k.rest.passed (outside_passes s h.at _ out refl)
    (ap (call_result function.Stack false) k.rest.made ∙ stack_made k.made k.are)

-- ---- frames

frame_passes : (f : Function) (at : Place) (columns : List Name) → (is_join f && repeats columns) ≡ false → IsNarrow columns → result_break f at (Some (Frame columns)) ≡ None
unfolding result_break
frame_passes f at columns distinct narrow = none_both _ _ (unless_true _ at DoubleColumn (false_not _ distinct)) (unless_true _ at TooManyColumns (le_true (length columns) 1024 narrow))

-- The given columns pass behind arguments that give these names.
pub record GivenMade (s : Scope) (at : Place) (before : List Argument) (xs : Args) (names : List Name) : Type 0 where
  pub made : List Argument
  pub rest : Rest s at function.DataFrame before made xs
  pub are : given_names made ≡ Some names

abbrev pub GivenPass : Scope → List (List ℕ) → Args → List Name → Type 0
GivenPass s given xs names = (at : Place) (before : List Argument) → names_among before ≡ given → GivenMade s at before xs names

pub no_given_pass : {s : Scope} {given : List (List ℕ)} → GivenPass s given none []
no_given_pass {s = s} at before e = record { made = []; rest = rest_none s at function.DataFrame before; are = refl }

pub one_given_passes : {s : Scope} {given : List (List ℕ)} {c : List ℕ} {place : Place} {x : Tree} {xs : Args} {names : List Name} → Valued s x Ints → has c given ≡ false
    → GivenPass s (given ++ c ∷ []) xs names → GivenPass s given (named c place x xs) (trees.named c ∷ names)
unfolding wanted inside
one_given_passes {s = s} {c = c} {place = place} {x = x} {xs = xs} v new next at before e =
    let k = next at (before ++ Given (trees.named c) Ints ∷ []) (names_append before (Given (trees.named c) Ints) ∙ ap (λ (l : List (List ℕ)). l ++ c ∷ []) e) in
    record {
      made = Given (trees.named c) Ints ∷ k.made;
      rest = given_rest s at function.DataFrame before k.made c place Ints x xs refl v (subst (λ (l : List (List ℕ)). has c l ≡ false) (sym e) new) k.rest;
      are = ap (option_map (λ (l : List Name). trees.named c ∷ l)) k.are;
    }

pub frame_valued : {s : Scope} {h : Head} {c : List ℕ} {place : Place} {x : Tree} {xs : Args} {names : List Name} → IsOutside s → GivenPass s [] (named c place x xs) names → IsNarrow names
    → Valued s (call h (codes "DataFrame") false (named c place x xs)) (Frame names)
unfolding function_named scalar_named fold_named array_named frame_named call_result call_break
frame_valued {s = s} {h = h} {c = c} {place = place} {x = x} {xs = xs} {names = names} out next narrow =
    let k = next h.at [] refl in
    call_valued s h (codes "DataFrame") false (named c place x xs) function.DataFrame (Frame names) refl (at_least_one (count_of xs)) k.rest.passed
    (outside_passes s h.at _ out (frame_passes function.DataFrame h.at names refl narrow)) (ap (call_result function.DataFrame false) k.rest.made ∙ ap (option_map Frame) k.are)

-- ---- `read_csv`

record ColumnsMade (s : Scope) (at : Place) (before : List Argument) (xs : Args) (names : List Name) : Type 0 where
  made : List Argument
  rest : Rest s at function.ReadCsv before made xs
  are : column_names made ≡ Some names

columns_pass : {s : Scope} {given : List (List ℕ)} {xs : Args} {names : List Name} → AreColumns given xs names → (at : Place) (first : Argument) (before : List Argument)
    → names_among (first ∷ before) ≡ given → ColumnsMade s at (first ∷ before) xs names
unfolding wanted
columns_pass {s = s} no_more_columns at first before e = record { made = []; rest = rest_none s at function.ReadCsv (first ∷ before); are = refl }
columns_pass {s = s} (one_column {h = h} {c = c} {rest = xs} new more) at first before e =
    let k = columns_pass {s = s} more at first (before ++ Column (trees.named c) ∷ []) (names_append (first ∷ before) (Column (trees.named c)) ∙ ap (λ (l : List (List ℕ)). l ++ c ∷ []) e) in
    record {
      made = Column (trees.named c) ∷ k.made;
      rest = column_rest [] s at function.ReadCsv (first ∷ before) k.made h c xs refl refl (subst (λ (l : List (List ℕ)). has c l ≡ false) (sym e) new) k.rest;
      are = ap (option_map (λ (l : List Name). trees.named c ∷ l)) k.are;
    }

pub read_valued : {s : Scope} {h g k : Head} {f c : List ℕ} {xs : Args} {names : List Name} → IsOutside s → AreColumns [] (plain (column k c) xs) names → IsNarrow names
    → Valued s (call h (codes "read_csv") false (plain (text g f) (plain (column k c) xs))) (Frame names)
unfolding function_named scalar_named fold_named array_named frame_named call_result call_break wanted
read_valued {s = s} {h = h} {g = g} {k = k} {f = f} {c = c} {xs = xs} {names = names} out columns narrow =
    let m = columns_pass {s = s} columns h.at (Text (trees.named f)) [] refl in
    let q = text_rest s h.at function.ReadCsv [] m.made g f (plain (column k c) xs) refl m.rest in
    call_valued s h (codes "read_csv") false (plain (text g f) (plain (column k c) xs)) function.ReadCsv (Frame names) refl (at_least_two (count_of xs)) q.passed
    (outside_passes s h.at _ out (frame_passes function.ReadCsv h.at names refl narrow)) (ap (call_result function.ReadCsv false) q.made ∙ ap (option_map Frame) m.are)

-- ---- `filter`, `sort` and `join`

pub filter_valued : {s : Scope} {h : Head} {x y : Tree} {columns : List Name} → IsOutside s → Valued s x (Frame columns) → Valued (with_columns s (Some columns)) y Bools → IsNarrow columns
    → Valued s (call h (codes "filter") false (plain x (plain y none))) (Frame columns)
unfolding function_named scalar_named fold_named array_named frame_named call_result call_break wanted inside
filter_valued {s = s} {h = h} {x = x} {y = y} {columns = columns} out v w narrow =
    let q = two_rest s h.at function.Filter (Frame columns) Bools x y refl refl v w in
    call_valued s h (codes "filter") false (plain x (plain y none)) function.Filter (Frame columns) refl refl q.passed
    (outside_passes s h.at _ out (frame_passes function.Filter h.at columns refl narrow)) (ap (call_result function.Filter false) q.made)

pub sort_valued : {s : Scope} {h g : Head} {x : Tree} {c : List ℕ} {columns : List Name} → IsOutside s → Valued s x (Frame columns) → has_column c columns ≡ true → IsNarrow columns
    → Valued s (call h (codes "sort") false (plain x (plain (column g c) none))) (Frame columns)
unfolding function_named scalar_named fold_named array_named frame_named call_result call_break wanted inside
sort_valued {s = s} {h = h} {g = g} {x = x} {c = c} {columns = columns} out v known narrow =
    let key = Column (trees.named c) in
    let q = value_rest s h.at function.Sort [] (Column (trees.named c) ∷ []) (Frame columns) x (plain (column g c) none) refl v
    (column_rest (columns ∷ []) s h.at function.Sort (Value (Frame columns) ∷ []) [] g c none refl (and_both _ _ known refl) refl
    (rest_none s h.at function.Sort (Value (Frame columns) ∷ Column (trees.named c) ∷ []))) in
    call_valued s h (codes "sort") false (plain x (plain (column g c) none)) function.Sort (Frame columns) refl refl q.passed
    (outside_passes s h.at _ out (frame_passes function.Sort h.at columns refl narrow)) (ap (call_result function.Sort false) q.made)

pub join_valued : {s : Scope} {h g : Head} {x y : Tree} {c : List ℕ} {left right : List Name} → IsOutside s → Valued s x (Frame left) → Valued s y (Frame right)
    → has_column c left ≡ true → has_column c right ≡ true → repeats (left ++ without (trees.named c) right) ≡ false → IsNarrow (left ++ without (trees.named c) right)
    → Valued s (call h (codes "join") false (plain x (plain y (plain (column g c) none)))) (Frame (left ++ without (trees.named c) right))
unfolding function_named scalar_named fold_named array_named frame_named call_result call_break wanted inside
join_valued {s = s} {h = h} {g = g} {x = x} {y = y} {c = c} {left = left} {right = right} out v w first second distinct narrow =
    let q = value_rest s h.at function.Join [] (Value (Frame right) ∷ Column (trees.named c) ∷ []) (Frame left) x (plain y (plain (column g c) none)) refl v
    (value_rest s h.at function.Join (Value (Frame left) ∷ []) (Column (trees.named c) ∷ []) (Frame right) y (plain (column g c) none) refl w
    (column_rest (left ∷ right ∷ []) s h.at function.Join (Value (Frame left) ∷ Value (Frame right) ∷ []) [] g c none refl (and_both _ _ first (and_both _ _ second refl)) refl
    (rest_none s h.at function.Join (Value (Frame left) ∷ Value (Frame right) ∷ Column (trees.named c) ∷ [])))) in
    call_valued s h (codes "join") false (plain x (plain y (plain (column g c) none))) function.Join (Frame (left ++ without (trees.named c) right)) refl refl q.passed
    (outside_passes s h.at _ out (frame_passes function.Join h.at (left ++ without (trees.named c) right) distinct narrow)) (ap (call_result function.Join false) q.made)

-- ---- `aggregate`

pub measure_is : {columns : List Name} {x : Tree} → IsMeasure columns x → is_measure x ≡ true
measure_is (measured_sum known) = refl
measure_is (measured_minimum known) = refl
measure_is (measured_maximum known) = refl
measure_is measured_count = refl

measure_passes : {columns : List Name} {x : Tree} → IsMeasure columns x → measure_break (columns ∷ []) x ≡ None
measure_passes (measured_sum {g = g} known) = unless_true _ g.at UnknownColumn (and_both _ _ known refl)
measure_passes (measured_minimum {g = g} known) = unless_true _ g.at UnknownColumn (and_both _ _ known refl)
measure_passes (measured_maximum {g = g} known) = unless_true _ g.at UnknownColumn (and_both _ _ known refl)
measure_passes measured_count = refl

record MeasuresMade (s : Scope) (at : Place) (before : List Argument) (xs : Args) (names : List Name) : Type 0 where
  made : List Argument
  rest : Rest s at function.Aggregate before made xs
  are : measure_names made ≡ Some names

measures_pass : {s : Scope} {columns : List Name} {given : List (List ℕ)} {xs : Args} {names : List Name} → AreMeasures columns given xs names → (at : Place) (key : Argument) (before : List Argument)
    → names_among (key ∷ before) ≡ given → MeasuresMade s at (Value (Frame columns) ∷ key ∷ before) xs names
unfolding wanted
measures_pass {s = s} {columns = columns} no_more_measures at key before e = record { made = []; rest = rest_none s at function.Aggregate (Value (Frame columns) ∷ key ∷ before); are = refl }
measures_pass {s = s} {columns = columns} (one_measure {x = c} {at = place} {m = x} {rest = xs} is new more) at key before e =
    let k = measures_pass {s = s} more at key (before ++ Measure (trees.named c) ∷ []) (names_append (key ∷ before) (Measure (trees.named c)) ∙ ap (λ (l : List (List ℕ)). l ++ c ∷ []) e) in
    record {
      made = Measure (trees.named c) ∷ k.made;
      rest = measure_rest (columns ∷ []) s at function.Aggregate (Value (Frame columns) ∷ key ∷ before) k.made c place x xs refl (measure_is is) (measure_passes is)
          (subst (λ (l : List (List ℕ)). has c l ≡ false) (sym e) new) k.rest;
      are = ap (option_map (λ (l : List Name). trees.named c ∷ l)) k.are;
    }

pub aggregate_valued : {s : Scope} {h g : Head} {x m : Tree} {k c : List ℕ} {place : Place} {xs : Args} {columns names : List Name} → IsOutside s → Valued s x (Frame columns)
    → has_column k columns ≡ true → AreMeasures columns (k ∷ []) (named c place m xs) names → IsNarrow (trees.named k ∷ names)
    → Valued s (call h (codes "aggregate") false (plain x (plain (column g k) (named c place m xs)))) (Frame (trees.named k ∷ names))
unfolding function_named scalar_named fold_named array_named frame_named call_result call_break wanted inside
aggregate_valued {s = s} {h = h} {g = g} {x = x} {m = m} {k = k} {c = c} {place = place} {xs = xs} {columns = columns} {names = names} out v known measures narrow =
    let t = measures_pass {s = s} measures h.at (Column (trees.named k)) [] refl in
    let q = value_rest s h.at function.Aggregate [] (Column (trees.named k) ∷ t.made) (Frame columns) x (plain (column g k) (named c place m xs)) refl v
    (column_rest (columns ∷ []) s h.at function.Aggregate (Value (Frame columns) ∷ []) t.made g k (named c place m xs) refl (and_both _ _ known refl) refl t.rest) in
    call_valued s h (codes "aggregate") false (plain x (plain (column g k) (named c place m xs))) function.Aggregate (Frame (trees.named k ∷ names)) refl (at_least_three (count_of xs)) q.passed
    (outside_passes s h.at _ out (frame_passes function.Aggregate h.at (trees.named k ∷ names) refl narrow))
    (ap (call_result function.Aggregate false) q.made ∙ ap (option_map (λ (l : List Name). Frame (trees.named k ∷ l))) t.are)

-- ---- `transpose` on the right of a product

pub transposed_valued : {s : Scope} {h g : Head} {x y : Tree} → IsOutside s → Valued s x Matrix → Valued s y Matrix
    → Valued s (binary h Mul false x (call g (codes "transpose") false (plain y none))) Matrix
unfolding found_of parts_break function_named scalar_named fold_named array_named call_result wanted inside
transposed_valued {s = s} {h = h} {g = g} {x = x} {y = y} out v w =
    let q = one_rest s g.at function.Transpose Matrix y refl w in
    let right : shape_of s (call g (codes "transpose") false (plain y none)) ≡ Some Matrix = ap (call_result function.Transpose false) q.made in
    let shape : of_both (binary_result Mul false) (shape_of s x) (shape_of s (call g (codes "transpose") false (plain y none))) ≡ Some Matrix =
    ap₂ (of_both (binary_result Mul false)) v.shape right in
    let flipped : is_flipped s Mul false (call g (codes "transpose") false (plain y none)) ≡ true = and_both (not (is_in_lambda s)) true (false_not _ out) refl in
    let parts : parts_break s (call g (codes "transpose") false (plain y none)) ≡ None = q.passed in
    record {
      passed = none_both _ _ v.passed (none_both _ _
          (subst (λ (b : Bool). (if b then parts_break s (call g (codes "transpose") false (plain y none)) else break_of s (call g (codes "transpose") false (plain y none))) ≡ None) (sym flipped) parts)
          (unless_true _ h.at WrongType (ap is_some shape)));
      shape = shape;
    }
