-- How much the operations of an expression that fits are: at most five for each of its parts, counted with the looks at
-- words and the arrays that can need a move.
use Rattle.std.proofs.Common.{◌≡◌, ℕ, ℤ, ◌+◌, ◌*◌, ◌≤◌, true, false, codes, List, [], ◌∷◌, ◌++◌, length, Some, refl, ◌∙◌, arith}
use Rattle.std.proofs.lemmas.List.{length-append, length-map}
use Rattle.hp_word.specs.declared.fold.FoldKind.TheVariants as fold
use Rattle.hp_word.specs.declared.name.Name.{Name}
use Rattle.hp_script.specs.declared.function.Function.{Function}
use Rattle.hp_script.specs.declared.function.Function.TheVariants as function
use Rattle.hp_script.specs.declared.tree.BinOp.{BinOp}
use Rattle.hp_script.specs.declared.tree.BinOp.TheVariants as op
use Rattle.hp_script.specs.declared.function.ScalarFunction.{ScalarFunction}
use Rattle.hp_script.specs.declared.tree.UnOp.{UnOp}
use Rattle.hp_script.specs.declared.tree.UnOp.TheVariants.{Neg, Not}
use Rattle.hp_script.specs.declared.typed.Shape.{Shape}
use Rattle.hp_script.specs.declared.typed.Shape.TheVariants.{Ints, Bools}
use Rattle.hp_script.specs.Functions.{scalar_named, fold_named, array_named, frame_named, function_named}
use Rattle.hp_script.specs.Mirror.{Head, Tree, Args, number, text, variable, column, call, plain, none, range, lambda, named}
use Rattle.hp_script.specs.Nodes.{nodes_in, nodes_in_args}
use Rattle.hp_script.specs.Scope.{Scope}
use Rattle.hp_script.specs.Shaped.{HasShape, of_number, of_truth, of_parameter, of_variable, of_scalar_variable, of_field, of_column, of_negation, of_not, of_nots, of_arithmetic, of_arithmetics, of_comparison, of_comparisons, of_logic, of_mask, of_product, of_transposed, of_element, of_elements, of_window, of_scalar_call, of_scalar_calls, of_map, of_stencil, of_fill, of_collect, of_length, of_fold, of_truth_fold, of_count, of_cumsum, of_vcat, of_stack, of_row, of_frame, of_read, of_nrow, of_filter, of_join, of_aggregate, of_sort, IsArrayOf, array_of_numbers, array_of_truths, AreSpread, two_arrays, array_and_element, element_and_array, IsArithmetic, addition, subtraction, multiplication, IsComparison, equal, not_equal, less, at_most, greater, at_least, IsLogic, conjunction, disjunction, IsDistance, ahead, behind, AreArrays, no_more_arrays, one_array, AreGiven, no_more_given, one_given, AreColumns, no_more_columns, one_column, IsMeasure, measured_sum, measured_minimum, measured_maximum, measured_count, AreMeasures, no_more_measures, one_measure}
use Rattle.hp_program.specs.Programs.{Prog, stop, joined}
use Rattle.hp_air.specs.declared.what.Op.{Op}
use Rattle.hp_air.specs.Kept.{moves_in}
use Rattle.hp_air.specs.Unknowns.{Unknown, Columns, columns_of, column_named, shape_named, number_of, width, at_node, arrays_at, arrays_named, arguments_of, all, frame_around}
use Rattle.hp_meaning.specs.ArgumentShapes.{two_plain, one_plain, lambda_and_plain}
use Rattle.hp_meaning.specs.WordRules.{calc_of, scalar_calc}
use Rattle.hp_flat.specs.Elements.{dotted_elem}
use Rattle.hp_flat.specs.Flat.{flat, flat_among}
use Rattle.hp_flat.specs.FlatCalls.{ins_of, array_copy, dotted_code, calculated_code, multiplied, binary_code, lazy_code, index_code, call_code, named_call, unary_code}
use Rattle.hp_flat.specs.Homes.{Homes, slots_of, slot_of}
use Rattle.hp_flat.proofs.SmallCode.{size, size_joined, value_count, copy_small, unary_small, dotted_small, times_small, calculated_small, lazy_small, index_small, spread, call_small}
use Rattle.hp_flat.proofs.ToldTrees.{scalar_of_name, number_fold_of_name, truth_fold_of_name}
use Rattle.hp_flat.proofs.ToldTypes.{IsAt, Parts, ToldArrays, ToldGiven}

-- ---- parts put together

-- the operations of a part that stands for these nodes
abbrev pub Small : Prog Op → List ℕ → Type 0
Small p ns = size p + 1 ≤ 5 * length ns

-- those of arguments
abbrev Among : Prog Op → List ℕ → Type 0
Among p ns = size p ≤ 5 * length ns

behind_one : (p c : Prog Op) (k : ℕ) (ns : List ℕ) → Small p ns → size c ≤ 4 → Small (joined p c) (k ∷ ns)
behind_one p c k ns one last = omega (arith, size_joined p c, one, last)

around_sign : (p c : Prog Op) (k n : ℕ) (ns ms : List ℕ) → Small p ns → n + 1 ≤ 5 * length ms → size c ≤ n + 3 → Small (joined p c) (ns ++ k ∷ ms)
around_sign p c k n ns ms one other last = omega (arith, size_joined p c, length-append ns (k ∷ ms), one, other, last)

-- two operands, and an operation behind them
behind_two : (p q c : Prog Op) (k : ℕ) (ns ms : List ℕ) → Small p ns → Small q ms → size c ≤ 3 → Small (joined p (joined q c)) (ns ++ k ∷ ms)
behind_two p q c k ns ms one other last = around_sign p (joined q c) k (size q) ns ms one other (omega (arith, size_joined q c, last))

nothing_among : Among stop []
nothing_among = omega arith

one_among : (p q : Prog Op) (ns ms : List ℕ) → Small p ns → Among q ms → Among (joined p q) (ns ++ ms)
one_among p q ns ms one more = omega (arith, size_joined p q, length-append ns ms, one, more)

range_among : (p q r : Prog Op) (ns ms ls : List ℕ) → Small p ns → Small q ms → Among r ls → Among (joined p (joined q r)) ((ns ++ ms) ++ ls)
range_among p q r ns ms ls one other more = omega (arith, size_joined p (joined q r), size_joined q r, length-append (ns ++ ms) ls, length-append ns ms, one, other, more)

-- a lambda is no part of what stands before its call
skipped_among : (q : Prog Op) (ns ms : List ℕ) → Among q ms → Among q (ns ++ ms)
skipped_among q ns ms more = omega (arith, length-append ns ms, more)

behind_arguments : (p c : Prog Op) (k : ℕ) (ns : List ℕ) → Among p ns → size c ≤ 3 → Small (joined p c) (k ∷ ns)
behind_arguments p c k ns before last = omega (arith, size_joined p c, before, last)

behind_spread : (p c : Prog Op) (k w : ℕ) (ns : List ℕ) → size p + w ≤ 5 * length ns → size c ≤ 1 + w → Small (joined p c) (k ∷ ns)
behind_spread p c k w ns before last = omega (arith, size_joined p c, before, last)

two_among : (p q : Prog Op) (ns ms : List ℕ) → Small p ns → Small q ms → Among (joined p (joined q stop)) (ns ++ (ms ++ []))
two_among p q ns ms one other = one_among p (joined q stop) ns (ms ++ []) one (one_among q stop ms [] other nothing_among)

last_among : (p : Prog Op) (ns : List ℕ) → Small p ns → Among (joined p stop) (ns ++ [])
last_among p ns one = one_among p stop ns [] one nothing_among

-- ---- a program's homes

module _ (h : Homes) where
  count_of : (x : Tree) (a : Shape) → IsAt h.known x a → length (ins_of h x) ≡ width (Some a)
  count_of x a at = value_count h (number_of x) (Some a) at

  -- no more arrays than one, where no value is a frame
  one_array_each : {e a one other : Shape} → width (Some e) ≤ 1 → width (Some a) ≤ 1 → AreSpread e a one other → (width (Some one) ≤ 1) × (width (Some other) ≤ 1)
  one_array_each p q two_arrays = (q, q)
  one_array_each p q array_and_element = (q, p)
  one_array_each p q element_and_array = (p, q)

  spread_small : {one other : Shape} (n : Head) (elem : _) (x y : Tree) → (width (Some one) ≤ 1) × (width (Some other) ≤ 1) → IsAt h.known x one → IsAt h.known y other → size (dotted_code h n elem x y) ≤ 3
  spread_small {one = one} {other = other} n elem x y narrow first second =
      let left = narrow.0 in
      let right = narrow.1 in
      omega (arith, dotted_small h n elem x y, count_of x one first, count_of y other second, left, right)

  copied_small : (n : Head) (os ins : List Unknown) → Small (array_copy h n.at os ins) (n.id ∷ [])
  copied_small n os ins = omega (arith, copy_small h n.at os ins)

  -- ---- operators

  arithmetic_small : (n : Head) {o : BinOp} (is : IsArithmetic o) (x y : Tree) (p q : Prog Op) → Small p (nodes_in x) → Small q (nodes_in y) → Small (joined p (binary_code h n o false x y q)) (nodes_in x ++ n.id ∷ nodes_in y)
  unfolding binary_code
  arithmetic_small n addition x y p q one other = behind_two p q (calculated_code h n op.Add x y) n.id (nodes_in x) (nodes_in y) one other (omega (arith, calculated_small h n op.Add x y))
  arithmetic_small n subtraction x y p q one other = behind_two p q (calculated_code h n op.Sub x y) n.id (nodes_in x) (nodes_in y) one other (omega (arith, calculated_small h n op.Sub x y))
  arithmetic_small n multiplication x y p q one other =
      behind_two p q (multiplied h n x y (calculated_code h n op.Mul x y)) n.id (nodes_in x) (nodes_in y) one other (omega (arith, times_small h n x y))

  comparison_small : (n : Head) {o : BinOp} (is : IsComparison o) (x y : Tree) (p q : Prog Op) → Small p (nodes_in x) → Small q (nodes_in y) → Small (joined p (binary_code h n o false x y q)) (nodes_in x ++ n.id ∷ nodes_in y)
  unfolding binary_code
  comparison_small n {o = o} equal x y p q one other = behind_two p q (calculated_code h n o x y) n.id (nodes_in x) (nodes_in y) one other (omega (arith, calculated_small h n o x y))
  comparison_small n {o = o} not_equal x y p q one other = behind_two p q (calculated_code h n o x y) n.id (nodes_in x) (nodes_in y) one other (omega (arith, calculated_small h n o x y))
  comparison_small n {o = o} less x y p q one other = behind_two p q (calculated_code h n o x y) n.id (nodes_in x) (nodes_in y) one other (omega (arith, calculated_small h n o x y))
  comparison_small n {o = o} at_most x y p q one other = behind_two p q (calculated_code h n o x y) n.id (nodes_in x) (nodes_in y) one other (omega (arith, calculated_small h n o x y))
  comparison_small n {o = o} greater x y p q one other = behind_two p q (calculated_code h n o x y) n.id (nodes_in x) (nodes_in y) one other (omega (arith, calculated_small h n o x y))
  comparison_small n {o = o} at_least x y p q one other = behind_two p q (calculated_code h n o x y) n.id (nodes_in x) (nodes_in y) one other (omega (arith, calculated_small h n o x y))

  logic_small : (n : Head) {o : BinOp} (is : IsLogic o) (x y : Tree) (p q : Prog Op) → Small p (nodes_in x) → Small q (nodes_in y) → Small (joined p (binary_code h n o false x y q)) (nodes_in x ++ n.id ∷ nodes_in y)
  unfolding binary_code
  logic_small n conjunction x y p q one other = around_sign p (lazy_code h n op.And x y q) n.id (size q) (nodes_in x) (nodes_in y) one other (omega (arith, lazy_small h n op.And x y q))
  logic_small n disjunction x y p q one other = around_sign p (lazy_code h n op.Or x y q) n.id (size q) (nodes_in x) (nodes_in y) one other (omega (arith, lazy_small h n op.Or x y q))

  dotted_smalls : {one other : Shape} (n : Head) (o : BinOp) (x y : Tree) (p q : Prog Op) → (width (Some one) ≤ 1) × (width (Some other) ≤ 1) → IsAt h.known x one → IsAt h.known y other
      → Small p (nodes_in x) → Small q (nodes_in y) → Small (joined p (binary_code h n o true x y q)) (nodes_in x ++ n.id ∷ nodes_in y)
  unfolding binary_code
  dotted_smalls n o x y p q narrow first second one other =
      let elem = dotted_elem h n.at (calc_of o) x y in
      behind_two p q (dotted_code h n elem x y) n.id (nodes_in x) (nodes_in y) one other (spread_small n elem x y narrow first second)

  -- ---- calls

  -- a call of a function of these arguments, of which none can need a move
  called_small : (n : Head) (f : Function) (name : List ℕ) (xs : Args) (p : Prog Op) → function_named false name ≡ Some f → spread h f xs (arguments_of h.known xs) ≡ 0 → Among p (nodes_in_args xs)
      → Small (joined p (named_call h n false (function_named false name) xs)) (n.id ∷ nodes_in_args xs)
  unfolding named_call
  called_small n f name xs p is alone before =
      rw is (behind_arguments p (call_code h n f xs (arguments_of h.known xs)) n.id (nodes_in_args xs) before (omega (arith, call_small h n f xs (arguments_of h.known xs), alone)))

  -- a dotted call of a function of two numbers
  calls_small : {one other : Shape} (n : Head) (f : ScalarFunction) (name : List ℕ) (x y : Tree) (p : Prog Op) → function_named true name ≡ Some (function.Scalar f) → (width (Some one) ≤ 1) × (width (Some other) ≤ 1)
      → IsAt h.known x one → IsAt h.known y other → Among p (nodes_in_args (plain x (plain y none)))
      → Small (joined p (named_call h n true (function_named true name) (plain x (plain y none)))) (n.id ∷ nodes_in_args (plain x (plain y none)))
  unfolding named_call two_plain one_plain
  calls_small n f name x y p is narrow first second before =
      let elem = dotted_elem h n.at (scalar_calc f) x y in
      rw is (behind_arguments p (dotted_code h n elem x y) n.id (nodes_in_args (plain x (plain y none))) before (spread_small n elem x y narrow first second))

  one_wide : {one many : Shape} → IsArrayOf one many → width (Some many) ≡ 1
  one_wide array_of_numbers = refl
  one_wide array_of_truths = refl

  map_small : {one many : Shape} (n : Head) (v : List ℕ) (e x : Tree) (p : Prog Op) → IsArrayOf one many → IsAt h.known x many → Small p (nodes_in x)
      → Small (joined (joined p stop) (named_call h n false (Some function.Map) (lambda v e (plain x none)))) (n.id ∷ nodes_in_args (lambda v e (plain x none)))
  unfolding named_call lambda_and_plain one_plain
  map_small {many = many} n v e x p array at one =
      let xs : Args = lambda v e (plain x none) in
      let wide : length (ins_of h x) ≡ 1 = count_of x many at ∙ one_wide array in
      let all : size (call_code h n function.Map xs (arguments_of h.known xs)) ≤ 1 + length (ins_of h x) = call_small h n function.Map xs (arguments_of h.known xs) in
      behind_spread (joined p stop) (call_code h n function.Map xs (arguments_of h.known xs)) n.id 1 (nodes_in_args xs)
      (omega (arith, size_joined p stop, length-append (nodes_in e) (nodes_in x ++ []), length-append (nodes_in x) [], one)) (omega (arith, all, wide))

  -- an array more of a stack or a frame
  one_more : (x : Tree) (p rest : Prog Op) (us : List Unknown) (ms : List ℕ) → IsAt h.known x Ints → Small p (nodes_in x) → size rest + length (slots_of h us) ≤ 5 * length ms
      → size (joined p rest) + length (slots_of h (arrays_at h.known x ++ us)) ≤ 5 * length (nodes_in x ++ ms)
  one_more x p rest us ms at one more =
      omega (
        arith,
        size_joined p rest,
        length-append (nodes_in x) ms,
        length-map (arrays_at h.known x ++ us) (slot_of h),
        length-append (arrays_at h.known x) us,
        length-map us (slot_of h),
        length-map (arrays_at h.known x) (slot_of h),
        count_of x Ints at,
        one,
        more,
      )

  sign_small : (n : Head) (o : UnOp) (x : Tree) → size (unary_code h n o false x) ≤ 1
  unfolding unary_code moves_in
  sign_small n o x = omega arith

  distance_small : {i : Tree} {d : ℤ} (around : Columns) → IsDistance i d → Small (flat h around i) (nodes_in i)
  unfolding flat moves_in
  distance_small around ahead = omega arith
  distance_small around (behind {h = n} {g = k} {value = z}) =
      behind_one (flat h around (number k z)) (unary_code h n Neg false (number k z)) n.id (k.id ∷ []) (omega arith) (omega (arith, sign_small n Neg (number k z)))

  columns_small : {before : List (List ℕ)} {xs : Args} {names : List Name} (around : Columns) → AreColumns before xs names → Among (flat_among h around around xs) (nodes_in_args xs)
  unfolding flat
  columns_small around no_more_columns = nothing_among
  columns_small around (one_column {h = n} {c = c} {rest = rest} new more) =
      one_among (array_copy h n.at (at_node h.known n.id) (column_named around c)) (flat_among h around around rest) (n.id ∷ []) (nodes_in_args rest)
      (copied_small n (at_node h.known n.id) (column_named around c)) (columns_small around more)

  measure_small : {columns : List Name} {x : Tree} (around : Columns) → IsMeasure columns x → Small (flat h around x) (nodes_in x)
  unfolding flat function_named scalar_named fold_named array_named
  measure_small around (measured_sum {h = n} {g = k} {b = b} known) =
      called_small n (function.Fold fold.Sum) (codes "sum") (plain (column k b) none) _ refl refl (last_among _ (k.id ∷ []) (copied_small k (at_node h.known k.id) (column_named around b)))
  measure_small around (measured_minimum {h = n} {g = k} {b = b} known) =
      called_small n (function.Fold fold.Min) (codes "minimum") (plain (column k b) none) _ refl refl (last_among _ (k.id ∷ []) (copied_small k (at_node h.known k.id) (column_named around b)))
  measure_small around (measured_maximum {h = n} {g = k} {b = b} known) =
      called_small n (function.Fold fold.Max) (codes "maximum") (plain (column k b) none) _ refl refl (last_among _ (k.id ∷ []) (copied_small k (at_node h.known k.id) (column_named around b)))
  measure_small around (measured_count {h = n}) = called_small n function.Count (codes "count") none stop refl refl nothing_among

  measures_small : {columns : List Name} {before : List (List ℕ)} {xs : Args} {names : List Name} (around : Columns) → AreMeasures columns before xs names → Among (flat_among h around around xs) (nodes_in_args xs)
  unfolding flat
  measures_small around no_more_measures = nothing_among
  measures_small around (one_measure {m = m} {rest = rest} is new more) =
      one_among (flat h around m) (flat_among h around around rest) (nodes_in m) (nodes_in_args rest) (measure_small around is) (measures_small around more)

  -- ---- expressions

  mutual
    unfolding flat function_named scalar_named fold_named array_named frame_named named_call moves_in

    pub small : {s : Scope} {x : Tree} {a : Shape} (p : HasShape s x a) → Parts h.known p → (around : Columns) → Small (flat h around x) (nodes_in x)
    small of_number t around = omega arith
    small of_truth t around = omega arith
    small (of_parameter {h = n} {p = v} role) t around = copied_small n (at_node h.known n.id) (arrays_named h.known v)
    small (of_variable {h = n} {v = v} out is) t around = copied_small n (at_node h.known n.id) (arrays_named h.known v)
    small (of_scalar_variable {h = n} {v = v} one is) t around = copied_small n (at_node h.known n.id) (arrays_named h.known v)
    small (of_field {h = n} {d = d} {c = c} out v known) t around = copied_small n (at_node h.known n.id) (column_named (columns_of (shape_named h.known d) (arrays_named h.known d)) c)
    small (of_column {h = n} {c = c} out is known) t around = copied_small n (at_node h.known n.id) (column_named around c)
    small (of_negation {h = n} {a = x} p) t around = behind_one (flat h around x) (unary_code h n Neg false x) n.id (nodes_in x) (small p t.1 around) (omega (arith, sign_small n Neg x))
    small (of_not {h = n} {a = x} p) t around = behind_one (flat h around x) (unary_code h n Not false x) n.id (nodes_in x) (small p t.1 around) (omega (arith, sign_small n Not x))
    small (of_nots {h = n} {a = x} p) t around =
        behind_one (flat h around x) (unary_code h n Not true x) n.id (nodes_in x) (small p t.1 around) (omega (arith, unary_small h n Not true x, count_of x Bools t.0))
    small (of_arithmetic {h = n} {a = x} {b = y} is p q) t around = arithmetic_small n is x y (flat h around x) (flat h around y) (small p t.0.1 around) (small q t.1.1 around)
    small (of_arithmetics {h = n} {op = o} {a = x} {b = y} is e p q) t around =
        dotted_smalls n o x y (flat h around x) (flat h around y) (one_array_each (omega arith) (omega arith) e) t.0.0 t.1.0 (small p t.0.1 around) (small q t.1.1 around)
    small (of_comparison {h = n} {a = x} {b = y} is p q) t around = comparison_small n is x y (flat h around x) (flat h around y) (small p t.0.1 around) (small q t.1.1 around)
    small (of_comparisons {h = n} {op = o} {a = x} {b = y} is e p q) t around =
        dotted_smalls n o x y (flat h around x) (flat h around y) (one_array_each (omega arith) (omega arith) e) t.0.0 t.1.0 (small p t.0.1 around) (small q t.1.1 around)
    small (of_logic {h = n} {a = x} {b = y} is p q) t around = logic_small n is x y (flat h around x) (flat h around y) (small p t.0.1 around) (small q t.1.1 around)
    small (of_mask {h = n} {op = o} {a = x} {b = y} is e p q) t around =
        dotted_smalls n o x y (flat h around x) (flat h around y) (one_array_each (omega arith) (omega arith) e) t.0.0 t.1.0 (small p t.0.1 around) (small q t.1.1 around)
    small (of_product {h = n} {a = x} {b = y} p q) t around = arithmetic_small n multiplication x y (flat h around x) (flat h around y) (small p t.0.1 around) (small q t.1.1 around)
    small (of_transposed {h = n} {g = k} {a = x} {b = y} out p q) t around =
        let flipped : Tree = call k (codes "transpose") false (plain y none) in
        arithmetic_small n multiplication x flipped (flat h around x) (flat h around flipped) (small p t.0.1 around)
        (called_small k function.Transpose (codes "transpose") (plain y none) (joined (flat h around y) stop) refl refl (last_among (flat h around y) (nodes_in y) (small q t.2.1 around)))
    small (of_element {h = n} {a = x} {i = i} out array p q) t around =
        behind_two (flat h around x) (flat h around i) (index_code h n x i) n.id (nodes_in x) (nodes_in i) (small p t.0.1 around) (small q t.1.1 around) (omega (arith, index_small h n x i))
    small (of_elements {h = n} {a = x} {k = i} out array p q) t around =
        behind_two (flat h around x) (flat h around i) (index_code h n x i) n.id (nodes_in x) (nodes_in i) (small p t.0.1 around) (small q t.1.1 around) (omega (arith, index_small h n x i))
    small (of_window {h = n} {g = k} {p = v} {d = i} role is e) t around =
        behind_two (flat h around (variable k v)) (flat h around i) (index_code h n (variable k v) i) n.id (k.id ∷ []) (nodes_in i) (copied_small k (at_node h.known k.id) (arrays_named h.known v)) (distance_small around is)
        (omega (arith, index_small h n (variable k v) i))
    small (of_scalar_call {h = n} {f = f} {a = x} {b = y} is p q) t around =
        let o = scalar_of_name false is in
        let after = frame_around h.known f (plain x (plain y none)) around in
        called_small n (function.Scalar o.of_it) f (plain x (plain y none)) _ o.is refl (two_among (flat h around x) (flat h after y) (nodes_in x) (nodes_in y) (small p t.0.1 around) (small q t.1.1 after))
    small (of_scalar_calls {h = n} {f = f} {a = x} {b = y} is e p q) t around =
        let o = scalar_of_name true is in
        let after = frame_around h.known f (plain x (plain y none)) around in
        calls_small n o.of_it f x y _ o.is (one_array_each (omega arith) (omega arith) e) t.0.0 t.1.0 (two_among (flat h around x) (flat h after y) (nodes_in x) (nodes_in y) (small p t.0.1 around) (small q t.1.1 after))
    small (of_map {h = n} {p = v} {e = e} {a = x} out array p becomes q) t around =
        let after = frame_around h.known (codes "map") (lambda v e (plain x none)) around in
        map_small n v e x (flat h after x) array t.0.0 (small p t.0.1 after)
    small (of_stencil {h = n} {p = v} {e = e} {a = x} out p q) t around =
        let after = frame_around h.known (codes "stencil") (lambda v e (plain x none)) around in
        called_small n function.Stencil (codes "stencil") (lambda v e (plain x none)) _ refl refl
        (skipped_among (joined (flat h after x) stop) (nodes_in e) (nodes_in x ++ []) (last_among (flat h after x) (nodes_in x) (small q t.1.1 after)))
    small (of_fill {h = n} {v = x} {k = y} out array p q) t around =
        let after = frame_around h.known (codes "fill") (plain x (plain y none)) around in
        called_small n function.Fill (codes "fill") (plain x (plain y none)) _ refl refl (two_among (flat h around x) (flat h after y) (nodes_in x) (nodes_in y) (small p t.0.1 around) (small q t.1.1 after))
    small (of_collect {h = n} {a = x} {b = y} out p q) t around =
        called_small n function.Collect (codes "collect") (range x y none) _ refl refl
        (range_among (flat h around x) (flat h around y) stop (nodes_in x) (nodes_in y) [] (small p t.0.1 around) (small q t.1.1 around) nothing_among)
    small (of_length {h = n} {a = x} out array p) t around =
        called_small n function.Length (codes "length") (plain x none) _ refl refl (last_among (flat h around x) (nodes_in x) (small p t.1 around))
    small (of_fold {h = n} {f = f} {a = x} out is p) t around =
        let o = number_fold_of_name is in
        called_small n (function.Fold o.of_it) f (plain x none) _ o.is refl (last_among (flat h around x) (nodes_in x) (small p t.1 around))
    small (of_truth_fold {h = n} {f = f} {a = x} out is p) t around =
        let o = truth_fold_of_name is in
        called_small n (function.Fold o.of_it) f (plain x none) _ o.is refl (last_among (flat h around x) (nodes_in x) (small p t.1 around))
    small (of_count {h = n} {a = x} out p) t around =
        called_small n function.Count (codes "count") (plain x none) _ refl refl (last_among (flat h around x) (nodes_in x) (small p t.1 around))
    small (of_cumsum {h = n} {a = x} out p) t around =
        called_small n function.Cumsum (codes "cumsum") (plain x none) _ refl refl (last_among (flat h around x) (nodes_in x) (small p t.1 around))
    small (of_vcat {h = n} {a = x} {b = y} out array p q) t around =
        let after = frame_around h.known (codes "vcat") (plain x (plain y none)) around in
        called_small n function.Vcat (codes "vcat") (plain x (plain y none)) _ refl refl (two_among (flat h around x) (flat h after y) (nodes_in x) (nodes_in y) (small p t.0.1 around) (small q t.1.1 after))
    small (of_stack {h = n} {a = x} {rest = rest} out p more) t around =
        let xs : Args = plain x rest in
        let after = frame_around h.known (codes "stack") xs around in
        behind_spread (joined (flat h around x) (flat_among h after after rest)) (call_code h n function.Stack xs (arguments_of h.known xs)) n.id (length (slots_of h (all (arguments_of h.known xs)))) (nodes_in_args xs)
        (one_more x (flat h around x) (flat_among h after after rest) (all (arguments_of h.known rest)) (nodes_in_args rest) t.0.0 (small p t.0.1 around) (arrays_small more t.1 after after))
        (call_small h n function.Stack xs (arguments_of h.known xs))
    small (of_row {h = n} {m = x} {i = y} out p q) t around =
        let after = frame_around h.known (codes "row") (plain x (plain y none)) around in
        called_small n function.Row (codes "row") (plain x (plain y none)) _ refl refl (two_among (flat h around x) (flat h after y) (nodes_in x) (nodes_in y) (small p t.0.1 around) (small q t.1.1 after))
    small (of_frame {h = n} {c = c} {at = at} {a = x} {rest = rest} out given narrow) t around =
        let xs : Args = named c at x rest in
        let after = frame_around h.known (codes "DataFrame") xs around in
        behind_spread (flat_among h around after xs) (call_code h n function.DataFrame xs (arguments_of h.known xs)) n.id (length (slots_of h (all (arguments_of h.known xs)))) (nodes_in_args xs)
        (given_small given t around after) (call_small h n function.DataFrame xs (arguments_of h.known xs))
    small (of_read {h = n} {g = k} {k = m} {f = f} {c = c} {rest = rest} out columns narrow) t around =
        let xs : Args = plain (text k f) (plain (column m c) rest) in
        let after = frame_around h.known (codes "read_csv") xs around in
        called_small n function.ReadCsv (codes "read_csv") xs _ refl refl (one_among stop (flat_among h after after (plain (column m c) rest)) (k.id ∷ []) (nodes_in_args (plain (column m c) rest)) (omega arith) (columns_small after columns))
    small (of_nrow {h = n} {d = x} out p) t around =
        called_small n function.Nrow (codes "nrow") (plain x none) _ refl refl (last_among (flat h around x) (nodes_in x) (small p t.1 around))
    small (of_filter {h = n} {d = x} {m = y} out p q narrow) t around =
        let after = frame_around h.known (codes "filter") (plain x (plain y none)) around in
        called_small n function.Filter (codes "filter") (plain x (plain y none)) _ refl refl (two_among (flat h around x) (flat h after y) (nodes_in x) (nodes_in y) (small p t.0.1 around) (small q t.1.1 after))
    small (of_join {h = n} {g = k} {l = x} {r = y} {k = c} out p q first second distinct narrow) t around =
        let xs : Args = plain x (plain y (plain (column k c) none)) in
        let after = frame_around h.known (codes "join") xs around in
        called_small n function.Join (codes "join") xs _ refl refl
        (one_among (flat h around x) _ (nodes_in x) _ (small p t.0.1 around)
        (one_among (flat h after y) _ (nodes_in y) _ (small q t.1.1 after) (last_among (flat h after (column k c)) (k.id ∷ []) (copied_small k (at_node h.known k.id) (column_named after c)))))
    small (of_aggregate {h = n} {g = k} {d = x} {m = m} {k = c} {c = v} {at = at} {rest = rest} out p known measures narrow) t around =
        let xs : Args = plain x (plain (column k c) (named v at m rest)) in
        let after = frame_around h.known (codes "aggregate") xs around in
        called_small n function.Aggregate (codes "aggregate") xs _ refl refl
        (one_among (flat h around x) _ (nodes_in x) _ (small p t.0.1 around)
        (one_among (flat h after (column k c)) _ (k.id ∷ []) _ (copied_small k (at_node h.known k.id) (column_named after c)) (measures_small after measures)))
    small (of_sort {h = n} {g = k} {d = x} {k = c} out p known narrow) t around =
        let xs : Args = plain x (plain (column k c) none) in
        let after = frame_around h.known (codes "sort") xs around in
        called_small n function.Sort (codes "sort") xs _ refl refl
        (two_among (flat h around x) (flat h after (column k c)) (nodes_in x) (k.id ∷ []) (small p t.0.1 around) (copied_small k (at_node h.known k.id) (column_named after c)))

    arrays_small : {s : Scope} {xs : Args} (rest : AreArrays s xs) → ToldArrays h.known rest → (around after : Columns)
        → size (flat_among h around after xs) + length (slots_of h (all (arguments_of h.known xs))) ≤ 5 * length (nodes_in_args xs)
    arrays_small no_more_arrays t around after = omega arith
    arrays_small (one_array {a = x} {rest = xs} p rest) t around after =
        one_more x (flat h around x) (flat_among h after after xs) (all (arguments_of h.known xs)) (nodes_in_args xs) t.0.0 (small p t.0.1 around) (arrays_small rest t.1 after after)

    given_small : {s : Scope} {own : List (List ℕ)} {xs : Args} {names : List Name} (rest : AreGiven s own xs names) → ToldGiven h.known rest → (around after : Columns)
        → size (flat_among h around after xs) + length (slots_of h (all (arguments_of h.known xs))) ≤ 5 * length (nodes_in_args xs)
    given_small no_more_given t around after = omega arith
    given_small (one_given {a = x} {rest = xs} p new rest) t around after =
        one_more x (flat h around x) (flat_among h after after xs) (all (arguments_of h.known xs)) (nodes_in_args xs) t.0.0 (small p t.0.1 around) (given_small rest t.1 after after)
