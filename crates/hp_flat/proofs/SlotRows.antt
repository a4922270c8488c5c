-- The slots and words of the operations of an expression that fits, row by row.
use Rattle.std.proofs.Common.{◌≡◌, ◌≢◌, ℕ, true, false, codes, List, [], ◌∷◌, ◌++◌, Some, IsTrue, refl}
use Rattle.hp_word.specs.declared.fold.FoldKind.TheVariants as folds
use Rattle.hp_word.specs.declared.name.Name.{Name}
use Rattle.hp_word.specs.Words.{truth}
use Rattle.hp_script.specs.declared.function.Function.TheVariants as function
use Rattle.hp_script.specs.declared.tree.BinOp.{BinOp}
use Rattle.hp_script.specs.declared.tree.BinOp.TheVariants as op
use Rattle.hp_script.specs.declared.tree.UnOp.TheVariants.{Neg, Not}
use Rattle.hp_script.specs.declared.typed.Shape.{Shape}
use Rattle.hp_script.specs.declared.typed.Shape.TheVariants.{Int, Bool as Truth, Ints, Bools, Frame}
use Rattle.hp_script.specs.declared.typed.Typed.{Typed}
use Rattle.hp_script.specs.Functions.{scalar_named, fold_named, array_named, frame_named, function_named}
use Rattle.hp_script.specs.Mirror.{Head, Tree, Args, text, column, binary, call, plain, none, range, lambda, named}
use Rattle.hp_script.specs.Results.{without}
use Rattle.hp_script.specs.Scope.{Scope, element, window}
use Rattle.hp_script.specs.Shaped.{HasShape, of_number, of_truth, of_parameter, of_variable, of_scalar_variable, of_field, of_column, of_negation, of_not, of_nots, of_arithmetic, of_arithmetics, of_comparison, of_comparisons, of_logic, of_mask, of_product, of_transposed, of_element, of_elements, of_window, of_scalar_call, of_scalar_calls, of_map, of_stencil, of_fill, of_collect, of_length, of_fold, of_truth_fold, of_count, of_cumsum, of_vcat, of_stack, of_row, of_frame, of_read, of_nrow, of_filter, of_join, of_aggregate, of_sort, IsArrayOf, array_of_numbers, array_of_truths, AreSpread, two_arrays, array_and_element, element_and_array, AreArrays, no_more_arrays, one_array, AreGiven, no_more_given, one_given}
use Rattle.hp_script.specs.Trees as trees
use Rattle.hp_program.specs.Programs.{stop, joined}
use Rattle.hp_air.specs.Carried.{is_among}
use Rattle.hp_air.specs.Unknowns.{Unknown, Columns, known_of, number_of, width, filtered_frame, arguments_of, all, call_arrays, unknowns}
use Rattle.hp_meaning.specs.ArgumentShapes.{one_plain, two_plain, three_plain, one_range, lambda_and_plain}
use Rattle.hp_meaning.specs.WordRules.{calc_of, scalar_calc}
use Rattle.hp_flat.specs.Flat.{flat, flat_among}
use Rattle.hp_flat.specs.FlatCalls.{unary_code, binary_code, index_code, dotted_code, call_code, named_call, table_of, key_in, frame_at}
use Rattle.hp_flat.specs.Homes.{Homes, homes_of, homes_in, slots_of, word_at, word_of, is_matrix}
use Rattle.hp_flat.proofs.FrameTypes.{no_role}
use Rattle.hp_flat.proofs.RowCalls.{scalar_around, number_fold_around, truth_fold_around}
use Rattle.hp_flat.proofs.SlotCalls.{Is, calc_slots, const_slots, words_slots, matrices_slots, product_slots, transposed_slots, dotted_slots, element_slots, elements_slots, fold_slots, length_slots, scan_slots, concat_slots, filled_slots, row_slots}
use Rattle.hp_flat.proofs.SlotCode.{Slotted, slotted_both, own_word, part_word}
use Rattle.hp_flat.proofs.SlotParts.{column_tree, columns_slotted, measures_slotted, dotted_call, mapped_slots, stencilled_slots, grouped_slots, mask_frame}
use Rattle.hp_flat.proofs.SlotTables.{read_slots, filter_slots, join_slots, keyed_slots, given_reads, arrays_reads, more_reads, frame_slots, stack_slots}
use Rattle.hp_flat.proofs.SlotTrees.{Here, variable_slots, column_slots, column_source, field_slots, not_slots, word_slots, no_transpose, called, one_argument, two_arguments}
use Rattle.hp_flat.proofs.ToldTrees.{scalar_of_name, number_fold_of_name, truth_fold_of_name}
use Rattle.hp_flat.proofs.ToldTypes.{Told, ToldArrays, ToldGiven}
use Rattle.hp_flat.proofs.TreeParts.{Sits, SitsArgs, other_number, off_argument}

-- an array is no matrix, and has one slot
flat_array : {one many : Shape} → IsArrayOf one many → (is_matrix (Some many) ≡ false) × (width (Some many) ≡ 1)
flat_array array_of_numbers = (refl, refl)
flat_array array_of_truths = (refl, refl)

-- an array and its elements are no matrices
no_grids : {one many : Shape} → IsArrayOf one many → (is_matrix (Some one) ≡ false) × (is_matrix (Some many) ≡ false) × (width (Some many) ≡ 1)
no_grids array_of_numbers = (refl, refl, refl)
no_grids array_of_truths = (refl, refl, refl)

-- nor is what is spread
spread_grids : {e a one other : Shape} → is_matrix (Some e) ≡ false → is_matrix (Some a) ≡ false → AreSpread e a one other → (is_matrix (Some one) ≡ false) × (is_matrix (Some other) ≡ false)
spread_grids p q two_arrays = (q, q)
spread_grids p q array_and_element = (q, p)
spread_grids p q element_and_array = (p, q)

module _ (typed : Typed) where
  abbrev h : Homes
  h = homes_of typed

  abbrev pub HasCopy : Unknown → Type 0
  HasCopy u = IsTrue (is_among (unknowns typed) u)

  abbrev S : Tree → Type 0
  S x = Sits (known_of typed) HasCopy x

  words_tree : (around : Columns) (n : Head) (o : BinOp) (a b c : Shape) (x y : Tree) → Is typed n.id a → Is typed (number_of x) b → width (Some b) ≡ 0 → Is typed (number_of y) c
      → Slotted typed (flat h around x) → Slotted typed (flat h around y) → Slotted typed (flat h around (binary n o false x y))
  unfolding flat
  words_tree around n o a b c x y is first alone second one other = slotted_both typed (flat h around x) (binary_code h n o false x y (flat h around y)) one (words_slots typed n o a b c x y (flat h around y) is first alone second other)

  dotted_tree : {one other : Shape} (around : Columns) (n : Head) (o : BinOp) (a : Shape) (x y : Tree) → Is typed n.id a → width (Some a) ≡ 1 → is_matrix (Some a) ≡ false → Is typed (number_of x) one → Is typed (number_of y) other
      → (is_matrix (Some one) ≡ false) × (is_matrix (Some other) ≡ false) → number_of x ≢ n.id → number_of y ≢ n.id → Slotted typed (flat h around x) → Slotted typed (flat h around y) → Slotted typed (flat h around (binary n o true x y))
  unfolding flat binary_code
  dotted_tree around n o a x y is wide flatly first second grids r s one other =
      slotted_both typed (flat h around x) (joined (flat h around y) (dotted_code h n _ x y)) one
      (slotted_both typed (flat h around y) (dotted_code h n _ x y) other (dotted_slots typed n a (calc_of o) x y is wide flatly first second grids.0 grids.1 r s))

  mutual
    unfolding flat flat_among unary_code call_code call_arrays function_named scalar_named fold_named array_named frame_named named_call one_plain two_plain three_plain one_range lambda_and_plain homes_of homes_in

    pub slotted : {s : Scope} {x : Tree} {a : Shape} (p : HasShape s x a) → Told (known_of typed) p → S x → (around : Columns) → Here typed s around → Slotted typed (flat h around x)
    slotted (of_number {h = n} {value = z}) t sits around here = const_slots typed n.at (word_at h n.id) z (own_word typed n.id Int t.0)
    slotted (of_truth {h = n} {holds = holds}) t sits around here = const_slots typed n.at (word_at h n.id) (truth holds) (own_word typed n.id Truth t.0)
    slotted {s = s} (of_parameter {p = p} {a = a} role) t sits around here = no_role s.parameters p (element a) here.at.out role
    slotted (of_variable {h = n} {v = x} {a = a} out is) t sits around here = variable_slots typed n around x a t.0 (here.at.named x a is.shape)
    slotted (of_scalar_variable {h = n} {v = x} {a = a} one is) t sits around here = variable_slots typed n around x a t.0 (here.at.named x a is.shape)
    slotted (of_field {h = n} {d = d} {c = c} {columns = columns} out is known) t sits around here = field_slots typed n around d c columns t.0 (here.at.named d (Frame columns) is.shape)
    slotted (of_column {h = n} {c = c} out within known) t sits around here = column_slots typed n around c t.0 (column_source typed around c here.fine here.grid here.many)
    slotted (of_negation {h = n} {a = x} p) t sits around here = slotted_both typed (flat h around x) (unary_code h n Neg false x) (slotted p t.1 sits.1 around here) (word_slots typed n Neg Int Int x t.0 t.1.0)
    slotted (of_not {h = n} {a = x} p) t sits around here = slotted_both typed (flat h around x) (unary_code h n Not false x) (slotted p t.1 sits.1 around here) (word_slots typed n Not Truth Truth x t.0 t.1.0)
    slotted (of_nots {h = n} {a = x} p) t sits around here =
        slotted_both typed (flat h around x) (unary_code h n Not true x) (slotted p t.1 sits.1 around here) (not_slots typed n x t.0 (other_number n.id x sits.0) t.1.0)
    slotted (of_arithmetic {h = n} {op = o} {a = x} {b = y} is p q) t sits around here =
        words_tree around n o Int Int Int x y t.0 t.1.0.0 refl t.1.1.0 (slotted p t.1.0 sits.0.1 around here) (slotted q t.1.1 sits.1.1 around here)
    slotted (of_arithmetics {h = n} {op = o} {a = x} {b = y} is e p q) t sits around here =
        dotted_tree around n o Ints x y t.0 refl refl t.1.0.0 t.1.1.0 (spread_grids refl refl e) (other_number n.id x sits.0.0) (other_number n.id y sits.1.0) (slotted p t.1.0 sits.0.1 around here) (slotted q t.1.1 sits.1.1 around here)
    slotted (of_comparison {h = n} {op = o} {a = x} {b = y} is p q) t sits around here =
        words_tree around n o Truth Int Int x y t.0 t.1.0.0 refl t.1.1.0 (slotted p t.1.0 sits.0.1 around here) (slotted q t.1.1 sits.1.1 around here)
    slotted (of_comparisons {h = n} {op = o} {a = x} {b = y} is e p q) t sits around here =
        dotted_tree around n o Bools x y t.0 refl refl t.1.0.0 t.1.1.0 (spread_grids refl refl e) (other_number n.id x sits.0.0) (other_number n.id y sits.1.0) (slotted p t.1.0 sits.0.1 around here) (slotted q t.1.1 sits.1.1 around here)
    slotted (of_logic {h = n} {op = o} {a = x} {b = y} is p q) t sits around here =
        words_tree around n o Truth Truth Truth x y t.0 t.1.0.0 refl t.1.1.0 (slotted p t.1.0 sits.0.1 around here) (slotted q t.1.1 sits.1.1 around here)
    slotted (of_mask {h = n} {op = o} {a = x} {b = y} is e p q) t sits around here =
        dotted_tree around n o Bools x y t.0 refl refl t.1.0.0 t.1.1.0 (spread_grids refl refl e) (other_number n.id x sits.0.0) (other_number n.id y sits.1.0) (slotted p t.1.0 sits.0.1 around here) (slotted q t.1.1 sits.1.1 around here)
    slotted (of_product {h = n} {a = x} {b = y} p q) t sits around here =
        slotted_both typed (flat h around x) (binary_code h n op.Mul false x y (flat h around y)) (slotted p t.1.0 sits.0.1 around here)
        (matrices_slots typed n x y (flat h around y) t.1.0.0 (product_slots typed n x y (no_transpose typed q) t.0 (other_number n.id x sits.0.0) t.1.0.0 (other_number n.id y sits.1.0) t.1.1.0) (slotted q t.1.1 sits.1.1 around here))
    slotted (of_element {h = n} {a = x} {i = i} {one = one} {many = many} out array p q) t sits around here =
        slotted_both typed (flat h around x) (joined (flat h around i) (index_code h n x i)) (slotted p t.1.0 sits.0.1 around here)
        (slotted_both typed (flat h around i) (index_code h n x i) (slotted q t.1.1 sits.1.1 around here) (element_slots typed n one many x i t.0 (other_number n.id x sits.0.0) t.1.0.0 (no_grids array).1 t.1.1.0))
    slotted (of_elements {h = n} {a = x} {k = i} {many = many} out array p q) t sits around here =
        slotted_both typed (flat h around x) (joined (flat h around i) (index_code h n x i)) (slotted p t.1.0 sits.0.1 around here)
        (slotted_both typed (flat h around i) (index_code h n x i) (slotted q t.1.1 sits.1.1 around here)
        (elements_slots typed n many x i t.0 (no_grids array).2 (no_grids array).1 (other_number n.id x sits.0.0) t.1.0.0 (other_number n.id i sits.1.0) t.1.1.0))
    slotted {s = s} (of_window {p = p} role is e) t sits around here = no_role s.parameters p window here.at.out role
    slotted (of_transposed {h = n} {g = k} {a = x} {b = y} out p q) t sits around here =
        let right = call k (codes "transpose") false (plain y none) in
        slotted_both typed (flat h around x) (binary_code h n op.Mul false x right (flat h around right)) (slotted p t.1.0 sits.0.1 around here)
        (matrices_slots typed n x right (flat h around right) t.1.0.0
        (transposed_slots typed n k x y t.0 (other_number n.id x sits.0.0) t.1.0.0 (other_number n.id y (off_argument n.id k (codes "transpose") false y sits.1.0)) t.1.2.0)
        (called typed around k function.Transpose (codes "transpose") (plain y none) refl refl (one_argument typed around y (slotted q t.1.2 sits.1.1.0.0.1 around here)) tt))
    slotted (of_scalar_call {h = n} {f = f} {a = x} {b = y} is p q) t sits around here =
        let o = scalar_of_name false is in
        called typed around n (function.Scalar o.of_it) f (plain x (plain y none)) o.is (scalar_around is) (two_arguments typed around around x y (slotted p t.1.0 sits.0.0.1 around here) (slotted q t.1.1 sits.0.1.0.1 around here))
        (calc_slots typed n.at (word_at h n.id) (scalar_calc o.of_it) (word_of h x) (word_of h y) (own_word typed n.id Int t.0) (part_word typed x Int t.1.0.0) (part_word typed y Int t.1.1.0))
    slotted (of_scalar_calls {h = n} {f = f} {a = x} {b = y} is e p q) t sits around here =
        let o = scalar_of_name true is in
        dotted_call typed around n o.of_it f x y o.is (scalar_around is) t.0 t.1.0.0 t.1.1.0 (spread_grids refl refl e) (other_number n.id x sits.0.0.0) (other_number n.id y sits.0.1.0.0)
        (two_arguments typed around around x y (slotted p t.1.0 sits.0.0.1 around here) (slotted q t.1.1 sits.0.1.0.1 around here))
    slotted (of_map {h = n} {p = v} {e = e} {a = x} out array p becomes q) t sits around here =
        called typed around n function.Map (codes "map") (lambda v e (plain x none)) refl refl (one_argument typed around x (slotted p t.1.0 sits.0.0.1 around here))
        (mapped_slots typed n v x out q t.0 (flat_array becomes) t.1.0.0 (flat_array array) (other_number n.id x sits.0.0.0))
    slotted (of_stencil {h = n} {p = v} {e = e} {a = x} out p q) t sits around here =
        called typed around n function.Stencil (codes "stencil") (lambda v e (plain x none)) refl refl (one_argument typed around x (slotted q t.1.1 sits.0.0.1 around here))
        (stencilled_slots typed n v x out p t.0 t.1.1.0 (other_number n.id x sits.0.0.0) sits.1)
    slotted (of_fill {h = n} {v = x} {k = y} {one = one} {many = many} out array p q) t sits around here =
        called typed around n function.Fill (codes "fill") (plain x (plain y none)) refl refl (two_arguments typed around around x y (slotted p t.1.0 sits.0.0.1 around here) (slotted q t.1.1 sits.0.1.0.1 around here))
        (filled_slots typed n many (word_of h x) (word_of h y) t.0 (flat_array array).1 (flat_array array).0 (part_word typed x one t.1.0.0) (part_word typed y Int t.1.1.0)).0
    slotted (of_collect {h = n} {a = x} {b = y} out p q) t sits around here =
        called typed around n function.Collect (codes "collect") (range x y none) refl refl (two_arguments typed around around x y (slotted p t.1.0 sits.0.0.1 around here) (slotted q t.1.1 sits.0.1.1 around here))
        (filled_slots typed n Ints (word_of h x) (word_of h y) t.0 refl refl (part_word typed x Int t.1.0.0) (part_word typed y Int t.1.1.0)).1
    slotted (of_length {h = n} {a = x} {many = many} out array p) t sits around here =
        called typed around n function.Length (codes "length") (plain x none) refl refl (one_argument typed around x (slotted p t.1 sits.0.0.1 around here))
        (length_slots typed n Int many x t.0 (other_number n.id x sits.0.0.0) t.1.0 (flat_array array).0)
    slotted (of_fold {h = n} {f = f} {a = x} out is p) t sits around here =
        let o = number_fold_of_name is in
        called typed around n (function.Fold o.of_it) f (plain x none) o.is (number_fold_around is) (one_argument typed around x (slotted p t.1 sits.0.0.1 around here))
        (fold_slots typed n Int Ints o.of_it x t.0 (other_number n.id x sits.0.0.0) t.1.0 refl)
    slotted (of_truth_fold {h = n} {f = f} {a = x} out is p) t sits around here =
        let o = truth_fold_of_name is in
        called typed around n (function.Fold o.of_it) f (plain x none) o.is (truth_fold_around is) (one_argument typed around x (slotted p t.1 sits.0.0.1 around here))
        (fold_slots typed n Truth Bools o.of_it x t.0 (other_number n.id x sits.0.0.0) t.1.0 refl)
    slotted (of_count {h = n} {a = x} out p) t sits around here =
        called typed around n function.Count (codes "count") (plain x none) refl refl (one_argument typed around x (slotted p t.1 sits.0.0.1 around here))
        (fold_slots typed n Int Bools folds.Sum x t.0 (other_number n.id x sits.0.0.0) t.1.0 refl)
    slotted (of_cumsum {h = n} {a = x} out p) t sits around here =
        called typed around n function.Cumsum (codes "cumsum") (plain x none) refl refl (one_argument typed around x (slotted p t.1 sits.0.0.1 around here)) (scan_slots typed n x t.0 (other_number n.id x sits.0.0.0) t.1.0)
    slotted (of_vcat {h = n} {a = x} {b = y} {many = many} out array p q) t sits around here =
        called typed around n function.Vcat (codes "vcat") (plain x (plain y none)) refl refl (two_arguments typed around around x y (slotted p t.1.0 sits.0.0.1 around here) (slotted q t.1.1 sits.0.1.0.1 around here))
        (concat_slots typed n many x y t.0 (flat_array array).1 (flat_array array).0 (other_number n.id x sits.0.0.0) t.1.0.0 (other_number n.id y sits.0.1.0.0) t.1.1.0)
    slotted (of_stack {h = n} {a = x} {rest = rest} out p more) t sits around here =
        called typed around n function.Stack (codes "stack") (plain x rest) refl refl
        (slotted_both typed (flat h around x) (flat_among h around around rest) (slotted p t.1.0 sits.0.0.1 around here) (arrays_slotted n.id more t.1.1 sits.0.1 around here))
        (stack_slots typed n (slots_of h (all (arguments_of h.known (plain x rest)))) t.0
        (more_reads typed n.id x (all (arguments_of h.known rest)) (other_number n.id x sits.0.0.0) t.1.0.0 (arrays_reads typed HasCopy n.id more t.1.1 sits.0.1)))
    slotted (of_row {h = n} {m = x} {i = y} out p q) t sits around here =
        called typed around n function.Row (codes "row") (plain x (plain y none)) refl refl (two_arguments typed around around x y (slotted p t.1.0 sits.0.0.1 around here) (slotted q t.1.1 sits.0.1.0.1 around here))
        (row_slots typed n x y t.0 (other_number n.id x sits.0.0.0) t.1.0.0 t.1.1.0)
    slotted (of_frame {h = n} {c = c} {at = place} {a = x} {rest = rest} {names = names} out given narrow) t sits around here =
        called typed around n function.DataFrame (codes "DataFrame") (named c place x rest) refl refl (given_slotted n.id given t.1 sits.0 around here)
        (frame_slots typed n (slots_of h (all (arguments_of h.known (named c place x rest)))) names t.0 (given_reads typed HasCopy n.id given t.1 sits.0))
    slotted (of_read {h = n} {g = k} {k = m} {f = f} {c = c} {rest = rest} {names = names} out columns narrow) t sits around here =
        called typed around n function.ReadCsv (codes "read_csv") (plain (text k f) (plain (column m c) rest)) refl refl
        (slotted_both typed stop (flat_among h around around (plain (column m c) rest)) tt (columns_slotted typed around columns t.1.1)) (read_slots typed n names (table_of h n.id) t.0)
    slotted (of_nrow {h = n} {d = x} {columns = columns} out p) t sits around here =
        called typed around n function.Nrow (codes "nrow") (plain x none) refl refl (one_argument typed around x (slotted p t.1 sits.0.0.1 around here))
        (length_slots typed n Int (Frame columns) x t.0 (other_number n.id x sits.0.0.0) t.1.0 refl)
    slotted (of_filter {h = n} {d = x} {m = y} {columns = columns} out p q narrow) t sits around here =
        let inner = filtered_frame h.known (plain x (plain y none)) in
        slotted_both typed (flat_among h around inner (plain x (plain y none))) (call_code h n function.Filter (plain x (plain y none)) (arguments_of h.known (plain x (plain y none))))
        (two_arguments typed around inner x y (slotted p t.1.0 sits.0.0.1 around here) (slotted q t.1.1 sits.0.1.0.1 inner (mask_frame typed x y columns t.1.0.0 here)))
        (filter_slots typed n x y columns t.0 (other_number n.id x sits.0.0.0) t.1.0.0 (other_number n.id y sits.0.1.0.0) t.1.1.0)
    slotted (of_join {h = n} {g = m} {l = x} {r = y} {k = k} {left = left} {right = right} out p q first second distinct narrow) t sits around here =
        called typed around n function.Join (codes "join") (plain x (plain y (plain (column m k) none))) refl refl
        (slotted_both typed (flat h around x) (flat_among h around around (plain y (plain (column m k) none))) (slotted p t.1.0 sits.0.0.1 around here)
        (two_arguments typed around around y (column m k) (slotted q t.1.1 sits.0.1.0.1 around here) (column_tree typed around m k t.1.2)))
        (join_slots typed n x y (key_in (frame_at h x) k) (key_in (frame_at h y) k) (left ++ without (trees.named k) right) left right t.0 (other_number n.id x sits.0.0.0) t.1.0.0 (other_number n.id y sits.0.1.0.0) t.1.1.0)
    slotted (of_aggregate {h = n} {g = m} {d = x} {m = e} {k = k} {c = c} {at = place} {rest = rest} {columns = columns} {names = names} out p known measures narrow) t sits around here =
        called typed around n function.Aggregate (codes "aggregate") (plain x (plain (column m k) (named c place e rest))) refl refl
        (slotted_both typed (flat h around x) (joined (flat h around (column m k)) (flat_among h around around (named c place e rest))) (slotted p t.1.0 sits.0.0.1 around here)
        (slotted_both typed (flat h around (column m k)) (flat_among h around around (named c place e rest)) (column_tree typed around m k t.1.1) (measures_slotted typed around measures t.1.2)))
        (grouped_slots typed n x k (named c place e rest) (trees.named k ∷ names) columns t.0 (other_number n.id x sits.0.0.0) t.1.0.0)
    slotted (of_sort {h = n} {g = m} {d = x} {k = k} {columns = columns} out p known narrow) t sits around here =
        called typed around n function.Sort (codes "sort") (plain x (plain (column m k) none)) refl refl (two_arguments typed around around x (column m k) (slotted p t.1.0 sits.0.0.1 around here) (column_tree typed around m k t.1.1))
        (keyed_slots typed n x (key_in (frame_at h x) k) [] columns columns t.0 (other_number n.id x sits.0.0.0) t.1.0.0).1

    arrays_slotted : {s : Scope} {xs : Args} (n : ℕ) (rest : AreArrays s xs) → ToldArrays (known_of typed) rest → SitsArgs (known_of typed) HasCopy n xs → (around : Columns) → Here typed s around
        → Slotted typed (flat_among h around around xs)
    arrays_slotted n no_more_arrays t sits around here = tt
    arrays_slotted n (one_array {a = x} {rest = rest} p more) t sits around here =
        slotted_both typed (flat h around x) (flat_among h around around rest) (slotted p t.0 sits.0.1 around here) (arrays_slotted n more t.1 sits.1 around here)

    given_slotted : {s : Scope} {before : List (List ℕ)} {xs : Args} {names : List Name} (n : ℕ) (rest : AreGiven s before xs names) → ToldGiven (known_of typed) rest → SitsArgs (known_of typed) HasCopy n xs → (around : Columns)
        → Here typed s around → Slotted typed (flat_among h around around xs)
    given_slotted n no_more_given t sits around here = tt
    given_slotted n (one_given {a = x} {rest = rest} p new more) t sits around here =
        slotted_both typed (flat h around x) (flat_among h around around rest) (slotted p t.0 sits.0.1 around here) (given_slotted n more t.1 sits.1 around here)
