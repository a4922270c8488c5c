-- The lists of the operations of an operator or a call, by the types of its operands.
use Rattle.std.proofs.Common.{◌≡◌, ℕ, suc, ◌+◌, ◌<◌, Bool, true, false, nat_lt, codes, bytes_eq, List, [], ◌∷◌, ◌++◌, map, length, option_and_then, option_map, Option, Some, None, IsTrue, refl, sym, ap, ◌∙◌, subst, arith}
use Rattle.std.proofs.lemmas.Bool.{and_from, eq-eqb, lt-ltb}
use Rattle.std.proofs.lemmas.List.{length-append, length-map}
use Rattle.std.specs.List.{range_with_len, AllByRecursion, list_all}
use Rattle.hp_word.specs.declared.elem.Elem.{Elem}
use Rattle.hp_word.specs.declared.fold.FoldKind.TheVariants as folds
use Rattle.hp_word.specs.declared.name.Name.{Name}
use Rattle.hp_word.specs.declared.table.Measure.{Measure}
use Rattle.hp_word.specs.declared.table.MeasureKind.{MeasureKind}
use Rattle.hp_word.specs.declared.table.MeasureKind.TheVariants as measures
use Rattle.hp_script.specs.declared.function.Function.{Function}
use Rattle.hp_script.specs.declared.function.Function.TheVariants as function
use Rattle.hp_script.specs.declared.function.ScalarFunction.{ScalarFunction}
use Rattle.hp_script.specs.declared.tree.BinOp.{BinOp}
use Rattle.hp_script.specs.declared.tree.UnOp.{UnOp}
use Rattle.hp_script.specs.declared.typed.Shape.{Shape}
use Rattle.hp_script.specs.declared.typed.Shape.TheVariants.{Ints, Frame}
use Rattle.hp_script.specs.Functions.{scalar_named, fold_named, array_named, function_named}
use Rattle.hp_script.specs.Mirror.{Head, Tree, Args, column, unary, binary, index, call, plain, none, lambda}
use Rattle.hp_script.specs.Results.{without}
use Rattle.hp_script.specs.Scope.{Scope, has_column}
use Rattle.hp_script.specs.Shaped.{IsArrayOf, array_of_numbers, array_of_truths, AreSpread, two_arrays, array_and_element, element_and_array, AreGiven, no_more_given, one_given, AreColumns, no_more_columns, one_column, IsMeasure, measured_sum, measured_minimum, measured_maximum, measured_count, AreMeasures, no_more_measures, one_measure}
use Rattle.hp_script.specs.Trees as trees
use Rattle.hp_program.specs.Programs.{Prog, stop, joined}
use Rattle.hp_air.specs.declared.what.Op.{Op}
use Rattle.hp_air.specs.Kept.{has_lists, is_measure_of}
use Rattle.hp_air.specs.Unknowns.{of_node, Unknown, Columns, column_named, frame_around, shape_at, number_of, width, at_node, arrays_at, arguments_of, all}
use Rattle.hp_meaning.specs.ArgumentShapes.{one_plain, two_plain, three_plain, lambda_and_plain, all_written}
use Rattle.hp_meaning.specs.FrameRules.{Measured}
use Rattle.hp_meaning.specs.ValueOf.{measure_of, measures_in}
use Rattle.hp_meaning.specs.WordRules.{calc_of, scalar_calc}
use Rattle.hp_flat.specs.Elements.{dotted_elem}
use Rattle.hp_flat.specs.Flat.{flat, flat_among}
use Rattle.hp_flat.specs.FlatCalls.{ins_of, outs_of, frame_at, key_in, measure_at, array_copy, unary_code, binary_code, index_code, call_code, named_call, dotted_code}
use Rattle.hp_flat.specs.Homes.{Homes, slots_of}
use Rattle.hp_flat.proofs.FrameTypes.{IsProper, column_below, some_columns, one_left_out}
use Rattle.hp_flat.proofs.ListCode.{Listed, listed_both, any_word, some_of, paired, slots_count, array_count, names_at, unary_lists, dotted_lists, plain_lists, index_lists, HasNone, call_lists}
use Rattle.hp_flat.proofs.Points.{same_around}
use Rattle.hp_flat.proofs.SmallCode.{value_count, two_counts}
use Rattle.hp_flat.proofs.Throughout.{through_array}
use Rattle.hp_flat.proofs.ToldTypes.{IsAt, IsUntold, ToldGiven, ToldColumns, ToldMeasure, ToldMeasures}

-- ---- measures

-- the column of a measure is one of these; a count has none
abbrev IsOf : List Name → MeasureKind → List ℕ → Type 0
IsOf columns measures.Count b = Unit {0}
IsOf columns kind b = has_column b columns ≡ true

record IsMeasured (columns : List Name) (x : Tree) : Type 0 where
  kind : MeasureKind
  of_it : List ℕ
  is : measure_of x ≡ Some (kind, of_it)
  known : IsOf columns kind of_it

one_found : {columns : List Name} {x : Tree} → IsMeasure columns x → IsMeasured columns x
unfolding measure_of function_named scalar_named fold_named array_named
one_found (measured_sum {b = b} known) = record { kind = measures.Sum; of_it = b; is = refl; known = known }
one_found (measured_minimum {b = b} known) = record { kind = measures.Min; of_it = b; is = refl; known = known }
one_found (measured_maximum {b = b} known) = record { kind = measures.Max; of_it = b; is = refl; known = known }
one_found measured_count = record { kind = measures.Count; of_it = []; is = refl; known = tt }

record Measures (columns : List Name) (xs : Args) (names : List Name) : Type 0 where
  found : List Measured
  is : measures_in (all_written xs) ≡ Some found
  many : length found ≡ length names
  known : AllByRecursion (λ (m : Measured). IsOf columns m.kind m.of_it) found

all_found : {columns : List Name} {before : List (List ℕ)} {xs : Args} {names : List Name} → AreMeasures columns before xs names → Measures columns xs names
unfolding measures_in
all_found no_more_measures = record { found = []; is = refl; many = refl; known = tt }
all_found (one_measure {x = x} {m = m} {rest = rest} is new more) =
    let one = one_found is in
    let others = all_found more in
    record {
      found = record { name = x; kind = one.kind; of_it = one.of_it } ∷ others.found;
      is = ap (option_and_then (λ (found : MeasureKind × List ℕ). option_map (λ (behind : List Measured). record { name = x; kind = found.0; of_it = found.1 } ∷ behind) (measures_in (all_written rest)))) one.is
          ∙ ap (option_map (λ (behind : List Measured). record { name = x; kind = one.kind; of_it = one.of_it } ∷ behind)) others.is;
      many = ap suc others.many;
      known = (one.known, others.known);
    }

key_below : (columns : Columns) (k : List ℕ) → has_column k columns.names ≡ true → key_in columns k < length columns.names
unfolding key_in
key_below columns k has = column_below k columns.names has

measure_fits : (columns : Columns) (m : Measured) → IsOf columns.names m.kind m.of_it → IsTrue (is_measure_of (length columns.names) (measure_at columns m))
measure_fits columns m is = by m.kind is
  where
    by : (kind : MeasureKind) → IsOf columns.names kind m.of_it → IsTrue (is_measure_of (length columns.names) (record { kind = kind; column = elim kind [ measures.Count ↦ 0 | _ ↦ key_in columns m.of_it ] }))
    by measures.Sum known = lt-ltb (key_in columns m.of_it) (length columns.names) (key_below columns m.of_it known)
    by measures.Min known = lt-ltb (key_in columns m.of_it) (length columns.names) (key_below columns m.of_it known)
    by measures.Max known = lt-ltb (key_in columns m.of_it) (length columns.names) (key_below columns m.of_it known)
    by measures.Count known = refl

measures_fit : (columns : Columns) (ms : List Measured) → AllByRecursion (λ (m : Measured). IsOf columns.names m.kind m.of_it) ms → IsTrue (list_all (is_measure_of (length columns.names)) (map (measure_at columns) ms))
measures_fit columns [] are = refl
measures_fit columns (m ∷ ms) are = and_from _ _ (measure_fits columns m are.0) (measures_fit columns ms are.1)

-- ---- widths

pub spread_some : {e a one other : Shape} → 0 < width (Some a) → AreSpread e a one other → 0 < width (Some one) + width (Some other)
spread_some less two_arrays = omega (arith, less)
spread_some less array_and_element = omega (arith, less)
spread_some less element_and_array = omega (arith, less)

pub one_wide : {one many : Shape} → IsArrayOf one many → width (Some many) ≡ 1
one_wide array_of_numbers = refl
one_wide array_of_truths = refl

module _ (h : Homes) where
  pub count_of : (x : Tree) (a : Shape) → IsAt h.known x a → length (ins_of h x) ≡ width (Some a)
  count_of x a at = value_count h (number_of x) (Some a) at

  -- ---- the operations of a part, and one behind it

  pub unary_tree : (around : Columns) (n : Head) (o : UnOp) (dotted : Bool) (x : Tree) → (dotted ≡ true → 0 < length (ins_of h x)) → Listed (flat h around x) → Listed (flat h around (unary n o dotted x))
  unfolding flat
  unary_tree around n o dotted x less one = listed_both (flat h around x) (unary_code h n o dotted x) one (unary_lists h n o dotted x less)

  pub plain_tree : (around : Columns) (n : Head) (o : BinOp) (x y : Tree) → Listed (flat h around x) → Listed (flat h around y) → Listed (flat h around (binary n o false x y))
  unfolding flat
  plain_tree around n o x y one other = listed_both (flat h around x) (binary_code h n o false x y (flat h around y)) one (plain_lists h n o x y (flat h around y) other)

  spread_code : {one other : Shape} (n : Head) (elem : Elem) (x y : Tree) → 0 < width (Some one) + width (Some other) → IsAt h.known x one → IsAt h.known y other → Listed (dotted_code h n elem x y)
  spread_code {one = one} {other = other} n elem x y less left right =
      dotted_lists h n elem x y (omega (arith, two_counts h x y, count_of x one left, count_of y other right, less))

  pub spread_tree : {one other : Shape} (around : Columns) (n : Head) (o : BinOp) (x y : Tree) → 0 < width (Some one) + width (Some other) → IsAt h.known x one → IsAt h.known y other
      → Listed (flat h around x) → Listed (flat h around y) → Listed (flat h around (binary n o true x y))
  unfolding flat binary_code
  spread_tree around n o x y less left right one other =
      let code = dotted_code h n (dotted_elem h n.at (calc_of o) x y) x y in
      listed_both (flat h around x) (joined (flat h around y) code) one (listed_both (flat h around y) code other (spread_code n (dotted_elem h n.at (calc_of o) x y) x y less left right))

  pub index_tree : (around : Columns) (n : Head) (x i : Tree) → Listed (flat h around x) → Listed (flat h around i) → Listed (flat h around (index n x i))
  unfolding flat
  index_tree around n x i one other = listed_both (flat h around x) (joined (flat h around i) (index_code h n x i)) one (listed_both (flat h around i) (index_code h n x i) other (index_lists h n x i))

  -- ---- calls

  any_call : (around : Columns) (n : Head) (name : List ℕ) (dotted : Bool) (xs : Args) → bytes_eq name (codes "filter") ≡ false → Listed (flat_among h around around xs)
      → Listed (named_call h n dotted (function_named dotted name) xs) → Listed (flat h around (call n name dotted xs))
  unfolding flat
  any_call around n name dotted xs other args own =
      listed_both (flat_among h around (frame_around h.known name xs around) xs) (named_call h n dotted (function_named dotted name) xs)
      (subst (λ (behind : Columns). Listed (flat_among h around behind xs)) (same_around h.known name xs around other) args) own

  pub called : (around : Columns) (n : Head) (f : Function) (name : List ℕ) (xs : Args) → function_named false name ≡ Some f → bytes_eq name (codes "filter") ≡ false → Listed (flat_among h around around xs)
      → Listed (call_code h n f xs (arguments_of h.known xs)) → Listed (flat h around (call n name false xs))
  unfolding named_call
  called around n f name xs is other args own = any_call around n name false xs other args (rw is own)

  pub plainly : (around : Columns) (n : Head) (f : Function) (name : List ℕ) (xs : Args) → function_named false name ≡ Some f → bytes_eq name (codes "filter") ≡ false → HasNone h f → Listed (flat_among h around around xs)
      → Listed (flat h around (call n name false xs))
  plainly around n f name xs is other no_lists args = called around n f name xs is other args (call_lists h n f xs (arguments_of h.known xs) no_lists)

  pub calls : {one other : Shape} (around : Columns) (n : Head) (f : ScalarFunction) (name : List ℕ) (x y : Tree) → function_named true name ≡ Some (function.Scalar f) → bytes_eq name (codes "filter") ≡ false
      → 0 < width (Some one) + width (Some other) → IsAt h.known x one → IsAt h.known y other → Listed (flat_among h around around (plain x (plain y none))) → Listed (flat h around (call n name true (plain x (plain y none))))
  unfolding named_call two_plain one_plain
  calls around n f name x y is filters less left right args =
      any_call around n name true (plain x (plain y none)) filters args (rw is (spread_code n (dotted_elem h n.at (scalar_calc f) x y) x y less left right))

  last_listed : (p : Prog Op) → Listed p → Listed (joined p stop)
  last_listed p one = listed_both p stop one tt

  pub one_argument : (around : Columns) (x : Tree) → Listed (flat h around x) → Listed (flat_among h around around (plain x none))
  unfolding flat_among
  one_argument around x one = last_listed (flat h around x) one

  pub two_arguments : (around behind : Columns) (x y : Tree) → Listed (flat h around x) → Listed (flat h behind y) → Listed (flat_among h around behind (plain x (plain y none)))
  unfolding flat_among
  two_arguments around behind x y one other = listed_both (flat h around x) (joined (flat h behind y) stop) one (last_listed (flat h behind y) other)

  -- ---- names

  pub none_untold : (k : ℕ) → shape_at h.known k ≡ None → at_node h.known k ≡ []
  none_untold k is = ap (λ (o : Option Shape). map (of_node k) (range_with_len 0 (width o))) is

  nothing_copied : (at : _) (us ins : List Unknown) → us ≡ [] → Listed (array_copy h at us ins)
  unfolding array_copy
  nothing_copied at [] ins e = tt
  nothing_copied at (u ∷ us) ins e = absurd cc

  -- the name of a column, which has no value
  pub column_tree : (around : Columns) (n : Head) (c : List ℕ) → IsUntold h.known n → Listed (flat h around (column n c))
  unfolding flat
  column_tree around n c untold = nothing_copied n.at (at_node h.known n.id) (column_named around c) (none_untold n.id untold)

  pub columns_listed : {before : List (List ℕ)} {xs : Args} {names : List Name} (around : Columns) (columns : AreColumns before xs names) → ToldColumns h.known columns → Listed (flat_among h around around xs)
  unfolding flat_among
  columns_listed around no_more_columns told = tt
  columns_listed around (one_column {h = n} {c = c} {rest = rest} new more) told =
      listed_both (flat h around (column n c)) (flat_among h around around rest) (column_tree around n c told.0) (columns_listed around more told.1)

  measure_tree : {columns : List Name} {x : Tree} (around : Columns) (is : IsMeasure columns x) → ToldMeasure h.known is → Listed (flat h around x)
  unfolding flat_among function_named scalar_named fold_named array_named
  measure_tree around (measured_sum {h = n} {g = k} {b = b} known) told =
      plainly around n (function.Fold folds.Sum) (codes "sum") (plain (column k b) none) refl refl tt (one_argument around (column k b) (column_tree around k b told.1))
  measure_tree around (measured_minimum {h = n} {g = k} {b = b} known) told =
      plainly around n (function.Fold folds.Min) (codes "minimum") (plain (column k b) none) refl refl tt (one_argument around (column k b) (column_tree around k b told.1))
  measure_tree around (measured_maximum {h = n} {g = k} {b = b} known) told =
      plainly around n (function.Fold folds.Max) (codes "maximum") (plain (column k b) none) refl refl tt (one_argument around (column k b) (column_tree around k b told.1))
  measure_tree around (measured_count {h = n}) told = plainly around n function.Count (codes "count") none refl refl tt tt

  pub measures_listed : {columns : List Name} {before : List (List ℕ)} {xs : Args} {names : List Name} (around : Columns) (are : AreMeasures columns before xs names) → ToldMeasures h.known are
      → Listed (flat_among h around around xs)
  unfolding flat_among
  measures_listed around no_more_measures told = tt
  measures_listed around (one_measure {m = m} {rest = rest} is new more) told =
      listed_both (flat h around m) (flat_among h around around rest) (measure_tree around is told.0) (measures_listed around more told.1)

  -- ---- frames

  more_counts : (x : Tree) (us : List Unknown) (m : ℕ) → IsAt h.known x Ints → length us ≡ m → length (arrays_at h.known x ++ us) ≡ suc m
  more_counts x us m at e = omega (arith, length-append (arrays_at h.known x) us, array_count h (number_of x) Ints at, e)

  given_count : {s : Scope} {before : List (List ℕ)} {xs : Args} {names : List Name} (given : AreGiven s before xs names) → ToldGiven h.known given → length (all (arguments_of h.known xs)) ≡ length names
  given_count no_more_given told = refl
  given_count (one_given {a = x} {rest = rest} {names = names} p new more) told = more_counts x (all (arguments_of h.known rest)) (length names) told.0.0 (given_count more told.1)

  stacked_some : (x : Tree) (us : List Unknown) → IsAt h.known x Ints → 0 < length (slots_of h (arrays_at h.known x ++ us))
  stacked_some x us at = omega (arith, slots_count h (arrays_at h.known x ++ us), length-append (arrays_at h.known x) us, array_count h (number_of x) Ints at)

  pub frame_lists : {s : Scope} {xs : Args} {names : List Name} (n : Head) (given : AreGiven s [] xs names) → ToldGiven h.known given → shape_at h.known n.id ≡ Some (Frame names) → 0 < length names
      → Listed (call_code h n function.DataFrame xs (arguments_of h.known xs))
  unfolding call_code has_lists
  frame_lists {xs = xs} {names = names} n given told is less =
      let outs : length (outs_of h n) ≡ length names = value_count h n.id (Some (Frame names)) is in
      (paired (outs_of h n) (slots_of h (all (arguments_of h.known xs))) (omega (arith, outs, less)) (omega (arith, outs, slots_count h (all (arguments_of h.known xs)), given_count given told)), tt)

  pub read_lists : {names : List Name} (n : Head) (xs : Args) → shape_at h.known n.id ≡ Some (Frame names) → 0 < length names → Listed (call_code h n function.ReadCsv xs (arguments_of h.known xs))
  unfolding call_code has_lists
  read_lists {names = names} n xs is less =
      let outs : length (outs_of h n) ≡ length names = value_count h n.id (Some (Frame names)) is in
      (some_of (outs_of h n) (omega (arith, outs, less)), tt)

  pub filter_lists : (n : Head) (x y : Tree) (columns : List Name) → shape_at h.known n.id ≡ Some (Frame columns) → IsAt h.known x (Frame columns) → 0 < length columns
      → Listed (call_code h n function.Filter (plain x (plain y none)) (arguments_of h.known (plain x (plain y none))))
  unfolding call_code has_lists
  filter_lists n x y columns is at less =
      let outs : length (outs_of h n) ≡ length columns = value_count h n.id (Some (Frame columns)) is in
      through_array any_word has_lists (arrays_at h.known y) _ (λ mask e. (paired (outs_of h n) (ins_of h x) (omega (arith, outs, less)) (omega (arith, outs, count_of x (Frame columns) at)), tt))

  key_at : (x : Tree) (k : List ℕ) (columns : List Name) → IsAt h.known x (Frame columns) → has_column k columns ≡ true → IsTrue (nat_lt (key_in (frame_at h x) k) (length (ins_of h x)))
  key_at x k columns at has =
      let names : (frame_at h x).names ≡ columns = names_at h x columns at in
      let below : key_in (frame_at h x) k < length (frame_at h x).names = key_below (frame_at h x) k (subst (λ (cs : List Name). has_column k cs ≡ true) (sym names) has) in
      let many : length (frame_at h x).names ≡ length columns = ap length names in
      lt-ltb (key_in (frame_at h x) k) (length (ins_of h x)) (omega (arith, below, many, count_of x (Frame columns) at))

  pub join_lists : (n m : Head) (x y : Tree) (k : List ℕ) (left right : List Name) → shape_at h.known n.id ≡ Some (Frame (left ++ without (trees.named k) right)) → IsAt h.known x (Frame left) → IsAt h.known y (Frame right)
      → has_column k left ≡ true → has_column k right ≡ true → IsProper (Frame right)
      → Listed (call_code h n function.Join (plain x (plain y (plain (column m k) none))) (arguments_of h.known (plain x (plain y (plain (column m k) none)))))
  unfolding call_code three_plain two_plain one_plain has_lists
  join_lists n m x y k left right is at to first second is_proper =
      let outs : length (outs_of h n) ≡ length (left ++ without (trees.named k) right) = value_count h n.id (Some (Frame (left ++ without (trees.named k) right))) is in (
        and_from _ _ (and_from _ _
            (eq-eqb (length (outs_of h n) + 1) (length (ins_of h x) + length (ins_of h y))
            (omega (arith, outs, length-append left (without (trees.named k) right), one_left_out k right is_proper second, count_of x (Frame left) at, count_of y (Frame right) to)))
            (key_at x k left at first)) (key_at y k right to second),
        tt,
      )

  pub sort_lists : (n m : Head) (x : Tree) (k : List ℕ) (columns : List Name) → shape_at h.known n.id ≡ Some (Frame columns) → IsAt h.known x (Frame columns) → has_column k columns ≡ true
      → Listed (call_code h n function.Sort (plain x (plain (column m k) none)) (arguments_of h.known (plain x (plain (column m k) none))))
  unfolding call_code has_lists
  sort_lists n m x k columns is at has =
      let outs : length (outs_of h n) ≡ length columns = value_count h n.id (Some (Frame columns)) is in
      (and_from _ _ (paired (outs_of h n) (ins_of h x) (omega (arith, outs, some_columns k columns has)) (omega (arith, outs, count_of x (Frame columns) at))) (key_at x k columns at has), tt)

  pub group_lists : {before : List (List ℕ)} {rest : Args} {names : List Name} (n m : Head) (x : Tree) (k : List ℕ) (columns : List Name) → shape_at h.known n.id ≡ Some (Frame (trees.named k ∷ names)) → IsAt h.known x (Frame columns)
      → has_column k columns ≡ true → AreMeasures columns before rest names → 0 < length names
      → Listed (call_code h n function.Aggregate (plain x (plain (column m k) rest)) (arguments_of h.known (plain x (plain (column m k) rest))))
  unfolding call_code has_lists
  group_lists {rest = rest} {names = names} n m x k columns is at has are less =
      let found = all_found are in
      let outs : length (outs_of h n) ≡ suc (length names) = value_count h n.id (Some (Frame (trees.named k ∷ names))) is in
      let made : List Measure = map (measure_at (frame_at h x)) found.found in
      let many : length made ≡ length names = length-map found.found (measure_at (frame_at h x)) ∙ found.many in
      let names_are : (frame_at h x).names ≡ columns = names_at h x columns at in
      let fit : IsTrue (list_all (is_measure_of (length (frame_at h x).names)) made) =
      measures_fit (frame_at h x) found.found (subst (λ (cs : List Name). AllByRecursion (λ (m : Measured). IsOf cs m.kind m.of_it) found.found) (sym names_are) found.known) in
      let wide : length (frame_at h x).names ≡ length (ins_of h x) = ap length names_are ∙ sym (count_of x (Frame columns) at) in
      rw found.is (
        and_from _ _ (and_from _ _ (and_from _ _ (some_of made (omega (arith, many, less))) (eq-eqb (length (outs_of h n)) (length made + 1) (omega (arith, outs, many)))) (key_at x k columns at has))
            (subst (λ (w : ℕ). IsTrue (list_all (is_measure_of w) made)) wide fit),
        tt,
      )

  pub map_lists : (n : Head) (v : List ℕ) (e x : Tree) → 0 < length (ins_of h x) → Listed (call_code h n function.Map (lambda v e (plain x none)) (arguments_of h.known (lambda v e (plain x none))))
  unfolding call_code lambda_and_plain one_plain has_lists
  map_lists n v e x less = (some_of (ins_of h x) less, tt)

  pub stack_lists : (n : Head) (x : Tree) (rest : Args) → IsAt h.known x Ints → Listed (call_code h n function.Stack (plain x rest) (arguments_of h.known (plain x rest)))
  unfolding call_code has_lists
  stack_lists n x rest at = (some_of (slots_of h (all (arguments_of h.known (plain x rest)))) (stacked_some x (all (arguments_of h.known rest)) at), tt)
