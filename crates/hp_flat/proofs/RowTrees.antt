-- The operations of an expression that fits beside what the script does there: one operation for each construct.
use Rattle.std.proofs.Common.{◌≡◌, ℕ, Bool, true, false, if◌then◌else◌, codes, List, [], ◌∷◌, ◌++◌, map, Option, Some, refl, sym, ap, ap₂, subst, ◌∙◌, arith}
use Rattle.hp_word.specs.declared.elem.Elem.TheVariants.{Input}
use Rattle.hp_word.specs.declared.fold.FoldKind.TheVariants as folds
use Rattle.hp_word.specs.declared.name.Name.{Name}
use Rattle.hp_word.specs.Words.{truth}
use Rattle.hp_script.specs.declared.tree.BinOp.{BinOp}
use Rattle.hp_script.specs.declared.tree.BinOp.TheVariants as binary_op
use Rattle.hp_script.specs.declared.tree.UnOp.{UnOp}
use Rattle.hp_script.specs.declared.tree.UnOp.TheVariants as unary_op
use Rattle.hp_script.specs.declared.typed.Shape.{Shape}
use Rattle.hp_script.specs.declared.typed.Shape.TheVariants.{Int, Bool as Truth, Ints, Bools, Matrix}
use Rattle.hp_script.specs.Functions.{function_named, scalar_named, fold_named, array_named, frame_named}
use Rattle.hp_script.specs.Mirror.{Head, Tree, Args, variable, column, index, call, none, plain, range, lambda, named, binary}
use Rattle.hp_script.specs.Mirror as trees
use Rattle.hp_script.specs.Scope.{Scope, Parameter, window, role_of, are_some}
use Rattle.hp_script.specs.Shaped.{IsOutside, HasShape, of_number, of_truth, of_parameter, of_variable, of_scalar_variable, of_field, of_column, of_negation, of_not, of_nots, of_arithmetic, of_arithmetics, of_comparison, of_comparisons, of_logic, of_mask, of_product, of_transposed, of_element, of_elements, of_window, of_scalar_call, of_scalar_calls, of_map, of_stencil, of_fill, of_collect, of_length, of_fold, of_truth_fold, of_count, of_cumsum, of_vcat, of_stack, of_row, of_frame, of_read, of_nrow, of_filter, of_join, of_aggregate, of_sort, AreArrays, no_more_arrays, one_array, AreGiven, no_more_given, one_given}
use Rattle.hp_program.specs.Programs.{Prog, stop, joined, operations}
use Rattle.hp_air.specs.declared.slot.Slot.{Slot}
use Rattle.hp_air.specs.declared.what.Op.{Op}
use Rattle.hp_air.specs.declared.what.What.TheVariants as what
use Rattle.hp_air.specs.Arrays.{Arrays, Length, Fill, Range, Read, Map, Reduce, Scan, Filter, Join, Group, Concat, Sort, Frame as Framing, Stack, Row, arrays_of, renamed}
use Rattle.hp_air.specs.Unknowns.{Unknown, of_node, Columns, columns_of, column_named, at_node, arrays_at, arrays_named, arguments_of, all as all_of, first, shape_at, shape_named, number_of, width, of_one, of_two, index_of, call_of, call_arrays, binary_of, filtered_frame, copied, constructs_in, constructs_among}
use Rattle.hp_meaning.specs.ArgumentShapes.{one_plain, two_plain, three_plain, one_range, lambda_and_plain, all_written}
use Rattle.hp_meaning.specs.FrameRules.{Measured}
use Rattle.hp_meaning.specs.ValueOf.{measures_in}
use Rattle.hp_flat.specs.Homes.{Homes, slot_of, slots_of, word_at, word_of}
use Rattle.hp_flat.specs.Elements.{elem_of}
use Rattle.hp_flat.specs.Flat.{flat, flat_among}
use Rattle.hp_flat.specs.FlatCalls.{code_of, where_some, of_array, of_arrays, of_first, out_of, outs_of, ins_of, frame_at, key_in, measure_at, table_of, array_copy, unary_code, binary_code, index_code, call_code, named_call}
use Rattle.hp_flat.specs.StepByStep.{Follows, both_end}
use Rattle.hp_flat.proofs.RowCalls.{HasMeasures, has_measures, each, out_at, array_wide, no_arrays, args_back, scalar_around, number_fold_around, truth_fold_around, scalar_own, scalars_own, fold_rows, number_fold_own, truth_fold_own}
use Rattle.hp_flat.proofs.RowCode.{MakesWords, words_alone, an_array, step_rows, scalar_rows, copy_rows, array_rows, arrays_rows, length_rows, unary_rows, plain_rows, spread_rows, index_rows, three}
use Rattle.hp_flat.proofs.RowFrames.{Framed, column_back, value_framed, variable_framed}
use Rattle.hp_flat.proofs.RowParts.{Rows, follow, joined_rows, nothing, last_rows, between, call_rows, stencil_own, column_rows, columns_rows, measures_rows}
use Rattle.hp_flat.proofs.RowSteps.{follows_joined, HasSlots, rows, Back, back, named_back, all_back}
use Rattle.hp_flat.proofs.ToldTypes.{Told, ToldArrays, ToldGiven}

-- outside of lambdas no name is a window
no_window : {A : Type 0} (parameters : List Parameter) (p : List ℕ) → are_some parameters ≡ false → role_of parameters p ≡ Some window → A
no_window [] p out role = absurd cc
no_window (parameter ∷ parameters) p out role = absurd cc

module _ (h : Homes) (slots : List Slot) (stand : HasSlots h slots) where
  abbrev R : Prog Op → List (Arrays Unknown) → Type 0
  R p cs = Rows h slots stand p cs

  -- words that stand before an operator
  words : (x : Tree) (n : Head) (a : Shape) → shape_at h.known (number_of x) ≡ Some a → width (Some a) ≡ 0 → MakesWords h slots (arrays_at h.known x) (of_node n.id 0)
  words x n a e none_wide = words_alone (no_arrays h.known x a e none_wide)

  plain_binary : (around : Columns) (n : Head) (op : BinOp) (x y : Tree) → MakesWords h slots (arrays_at h.known x) (of_node n.id 0)
      → R (flat h around x) (constructs_in h.known around x) → R (flat h around y) (constructs_in h.known around y) → R (flat h around (binary n op false x y)) (constructs_in h.known around (binary n op false x y))
  unfolding flat constructs_in
  plain_binary around n op x y out first second =
      between h slots stand (flat h around x) (flat h around y) (binary_code h n op false x y (flat h around y)) (constructs_in h.known around x) (constructs_in h.known around y) (binary_of h.known n.id op false x y)
      first second (λ f. plain_rows h slots n op x y (flat h around y) out (each h slots stand) f)

  spread_binary : (around : Columns) (n : Head) (op : BinOp) (x y : Tree) → Back h slots (of_node n.id 0)
      → R (flat h around x) (constructs_in h.known around x) → R (flat h around y) (constructs_in h.known around y) → R (flat h around (binary n op true x y)) (constructs_in h.known around (binary n op true x y))
  unfolding flat constructs_in
  spread_binary around n op x y out first second =
      between h slots stand (flat h around x) (flat h around y) (binary_code h n op true x y (flat h around y)) (constructs_in h.known around x) (constructs_in h.known around y) (binary_of h.known n.id op true x y)
      first second (λ f. spread_rows h slots n op x y (flat h around y) out (each h slots stand) f)

  any_unary : (around : Columns) (n : Head) (op : UnOp) (dotted : Bool) (x : Tree) → (dotted ≡ true → Back h slots (of_node n.id 0)) → R (flat h around x) (constructs_in h.known around x)
      → R (flat h around (trees.unary n op dotted x)) (constructs_in h.known around (trees.unary n op dotted x))
  unfolding flat constructs_in
  any_unary around n op dotted x out first =
      joined_rows h slots stand (flat h around x) (unary_code h n op dotted x) (constructs_in h.known around x) (if dotted then Map (of_node n.id 0) (arrays_at h.known x) ∷ [] else [])
      first (follow h slots stand (unary_code h n op dotted x) (if dotted then Map (of_node n.id 0) (arrays_at h.known x) ∷ [] else []) (unary_rows h slots n op dotted x out (each h slots stand (number_of x))))

  any_index : (around : Columns) (n : Head) (x i : Tree) → MakesWords h slots (arrays_at h.known i) (of_node n.id 0)
      → R (flat h around x) (constructs_in h.known around x) → R (flat h around i) (constructs_in h.known around i) → R (flat h around (index n x i)) (constructs_in h.known around (index n x i))
  unfolding flat constructs_in
  any_index around n x i out first second =
      between h slots stand (flat h around x) (flat h around i) (joined (flat h around i) (index_code h n x i)) (constructs_in h.known around x) (constructs_in h.known around i) (index_of n.id (arrays_at h.known x) (arrays_at h.known i))
      first second (λ f. follows_joined h slots (flat h around i) (index_code h n x i) f (index_rows h slots n x i out (each h slots stand)))

  -- one and two plain arguments
  one_rows : (around : Columns) (x : Tree) → R (flat h around x) (constructs_in h.known around x) → R (flat_among h around around (plain x none)) (constructs_among h.known around around (plain x none))
  unfolding flat_among constructs_among
  one_rows around x first = last_rows h slots stand (flat h around x) (constructs_in h.known around x) first

  pair_rows : (around behind : Columns) (x y : Tree) → R (flat h around x) (constructs_in h.known around x) → R (flat h behind y) (constructs_in h.known behind y)
      → R (flat_among h around behind (plain x (plain y none))) (constructs_among h.known around behind (plain x (plain y none)))
  unfolding flat_among constructs_among
  pair_rows around behind x y first second =
      joined_rows h slots stand (flat h around x) (joined (flat h behind y) stop) (constructs_in h.known around x) (constructs_in h.known behind y ++ []) first
      (last_rows h slots stand (flat h behind y) (constructs_in h.known behind y) second)

  stop_rows : Follows (rows h slots stop) []
  unfolding rows operations
  stop_rows = both_end

  variable_rows : (n : Head) (x : List ℕ) → R (array_copy h n.at (at_node h.known n.id) (arrays_named h.known x)) (copied (at_node h.known n.id) (arrays_named h.known x))
  variable_rows n x =
      follow h slots stand (array_copy h n.at (at_node h.known n.id) (arrays_named h.known x)) (copied (at_node h.known n.id) (arrays_named h.known x))
      (copy_rows h slots n.at (at_node h.known n.id) (arrays_named h.known x) (each h slots stand n.id) (named_back h slots stand x))

  -- an aggregate by its measures
  group_rows : (n : Head) (x : Tree) (k : List ℕ) (xs : Args) (measures : HasMeasures xs)
      → R (where_some (measures_in (all_written xs)) (λ measures. code_of n.at (what.Group (outs_of h n) (ins_of h x) (key_in (frame_at h x) k) (map (measure_at (frame_at h x)) measures)))) (Group (at_node h.known n.id) (arrays_at h.known x) ∷ [])
  unfolding renamed arrays_of
  group_rows n x k xs measures =
      subst (λ (o : Option (List Measured)). R (where_some o (λ found. code_of n.at (what.Group (outs_of h n) (ins_of h x) (key_in (frame_at h x) k) (map (measure_at (frame_at h x)) found)))) (Group (at_node h.known n.id) (arrays_at h.known x) ∷ []))
      (sym measures.is)
      (follow h slots stand (code_of n.at (what.Group (outs_of h n) (ins_of h x) (key_in (frame_at h x) k) (map (measure_at (frame_at h x)) measures.found))) (Group (at_node h.known n.id) (arrays_at h.known x) ∷ [])
      (step_rows h slots n.at (what.Group (outs_of h n) (ins_of h x) (key_in (frame_at h x) k) (map (measure_at (frame_at h x)) measures.found)) (Group (at_node h.known n.id) (arrays_at h.known x))
      (ap₂ Group (all_back h slots (at_node h.known n.id) (each h slots stand n.id)) (all_back h slots (arrays_at h.known x) (each h slots stand (number_of x)))) refl))

  -- the operation of a call
  own_step : (code : Prog Op) (cs : List (Arrays Unknown)) → Follows (rows h slots code) cs → R code cs
  own_step code cs f = follow h slots stand code cs f

  mutual
    unfolding flat flat_among constructs_in constructs_among function_named scalar_named fold_named array_named frame_named named_call call_code call_arrays renamed arrays_of one_plain two_plain three_plain one_range lambda_and_plain

    pub tree_rows : {s : Scope} {x : Tree} {a : Shape} (p : HasShape s x a) → Told h.known p → IsOutside s → (around : Columns) → Framed h slots around → R (flat h around x) (constructs_in h.known around x)
    tree_rows (of_number {h = n} {value = z}) told outer around framed = own_step (code_of n.at (what.Const (word_at h n.id) z)) [] (scalar_rows h slots n.at (what.Const (word_at h n.id) z) refl)
    tree_rows (of_truth {h = n} {holds = holds}) told outer around framed =
        own_step (code_of n.at (what.Const (word_at h n.id) (truth holds))) [] (scalar_rows h slots n.at (what.Const (word_at h n.id) (truth holds)) refl)
    tree_rows (of_parameter {h = n} {p = x} role) told outer around framed = variable_rows n x
    tree_rows (of_variable {h = n} {v = x} out v) told outer around framed = variable_rows n x
    tree_rows (of_scalar_variable {h = n} {v = x} one v) told outer around framed = variable_rows n x
    tree_rows (of_field {h = n} {d = d} {c = c} out v known) told outer around framed =
        own_step (array_copy h n.at (at_node h.known n.id) (column_named (columns_of (shape_named h.known d) (arrays_named h.known d)) c)) (copied (at_node h.known n.id) (column_named (columns_of (shape_named h.known d) (arrays_named h.known d)) c))
        (copy_rows h slots n.at (at_node h.known n.id) (column_named (columns_of (shape_named h.known d) (arrays_named h.known d)) c) (each h slots stand n.id)
        (column_back h slots (columns_of (shape_named h.known d) (arrays_named h.known d)) c (variable_framed h slots stand d)))
    tree_rows (of_column {h = n} {c = c} out within known) told outer around framed = column_rows h slots stand around n c framed
    tree_rows (of_negation {h = n} {a = x} p) told outer around framed = any_unary around n unary_op.Neg false x (λ e. absurd cc) (tree_rows p told.1 outer around framed)
    tree_rows (of_not {h = n} {a = x} p) told outer around framed = any_unary around n unary_op.Not false x (λ e. absurd cc) (tree_rows p told.1 outer around framed)
    tree_rows (of_nots {h = n} {a = x} p) told outer around framed = any_unary around n unary_op.Not true x (λ e. out_at h slots stand n.id Bools told.0 (omega arith)) (tree_rows p told.1 outer around framed)
    tree_rows (of_arithmetic {h = n} {op = op} {a = x} {b = y} is p q) told outer around framed =
        plain_binary around n op x y (words x n Int told.1.0.0 refl) (tree_rows p told.1.0 outer around framed) (tree_rows q told.1.1 outer around framed)
    tree_rows (of_arithmetics {h = n} {op = op} {a = x} {b = y} is e p q) told outer around framed =
        spread_binary around n op x y (out_at h slots stand n.id Ints told.0 (omega arith)) (tree_rows p told.1.0 outer around framed) (tree_rows q told.1.1 outer around framed)
    tree_rows (of_comparison {h = n} {op = op} {a = x} {b = y} is p q) told outer around framed =
        plain_binary around n op x y (words x n Int told.1.0.0 refl) (tree_rows p told.1.0 outer around framed) (tree_rows q told.1.1 outer around framed)
    tree_rows (of_comparisons {h = n} {op = op} {a = x} {b = y} is e p q) told outer around framed =
        spread_binary around n op x y (out_at h slots stand n.id Bools told.0 (omega arith)) (tree_rows p told.1.0 outer around framed) (tree_rows q told.1.1 outer around framed)
    tree_rows (of_logic {h = n} {op = op} {a = x} {b = y} is p q) told outer around framed =
        plain_binary around n op x y (words x n Truth told.1.0.0 refl) (tree_rows p told.1.0 outer around framed) (tree_rows q told.1.1 outer around framed)
    tree_rows (of_mask {h = n} {op = op} {a = x} {b = y} is e p q) told outer around framed =
        spread_binary around n op x y (out_at h slots stand n.id Bools told.0 (omega arith)) (tree_rows p told.1.0 outer around framed) (tree_rows q told.1.1 outer around framed)
    tree_rows (of_product {h = n} {a = x} {b = y} p q) told outer around framed =
        plain_binary around n binary_op.Mul x y (an_array (out_at h slots stand n.id Matrix told.0 (omega arith))) (tree_rows p told.1.0 outer around framed) (tree_rows q told.1.1 outer around framed)
    tree_rows (of_transposed {h = n} {g = k} {a = x} {b = y} out p q) told outer around framed =
        plain_binary around n binary_op.Mul x (call k (codes "transpose") false (plain y none)) (an_array (out_at h slots stand n.id Matrix told.0 (omega arith))) (tree_rows p told.1.0 outer around framed)
        (call_rows h slots stand around k (codes "transpose") false (plain y none) refl (one_rows around y (tree_rows q told.1.2 outer around framed)) (nothing h slots stand))
    tree_rows (of_element {h = n} {a = x} {i = i} out array p q) told outer around framed =
        any_index around n x i (words i n Int told.1.1.0 refl) (tree_rows p told.1.0 outer around framed) (tree_rows q told.1.1 outer around framed)
    tree_rows (of_elements {h = n} {a = x} {k = i} {many = many} out array p q) told outer around framed =
        any_index around n x i (an_array (out_at h slots stand n.id many told.0 (array_wide h slots stand array))) (tree_rows p told.1.0 outer around framed) (tree_rows q told.1.1 outer around framed)
    tree_rows {s = s} (of_window {p = name} role is e) told outer around framed = no_window s.parameters name outer role
    tree_rows (of_scalar_call {h = n} {f = f} {a = x} {b = y} is p q) told outer around framed =
        call_rows h slots stand around n f false (plain x (plain y none)) (scalar_around is) (pair_rows around around x y (tree_rows p told.1.0 outer around framed) (tree_rows q told.1.1 outer around framed))
        (own_step (named_call h n false (function_named false f) (plain x (plain y none))) (call_of n.id (at_node h.known n.id) false (function_named false f) (arguments_of h.known (plain x (plain y none))))
        (scalar_own h slots stand n (at_node h.known n.id) x y is))
    tree_rows (of_scalar_calls {h = n} {f = f} {a = x} {b = y} is e p q) told outer around framed =
        call_rows h slots stand around n f true (plain x (plain y none)) (scalar_around is) (pair_rows around around x y (tree_rows p told.1.0 outer around framed) (tree_rows q told.1.1 outer around framed))
        (own_step (named_call h n true (function_named true f) (plain x (plain y none))) (call_of n.id (at_node h.known n.id) true (function_named true f) (arguments_of h.known (plain x (plain y none))))
        (scalars_own h slots stand n (at_node h.known n.id) x y (out_at h slots stand n.id Ints told.0 (omega arith)) is))
    tree_rows (of_map {h = n} {p = parameter} {e = e} {a = x} {result = result} out array p becomes q) told outer around framed =
        call_rows h slots stand around n (codes "map") false (lambda parameter e (plain x none)) refl (one_rows around x (tree_rows p told.1.0 outer around framed))
        (own_step (code_of n.at (what.Map (out_of h n) (ins_of h x) (elem_of h parameter e))) (Map (of_node n.id 0) (arrays_at h.known x) ∷ [])
        (step_rows h slots n.at (what.Map (out_of h n) (ins_of h x) (elem_of h parameter e)) (Map (of_node n.id 0) (arrays_at h.known x))
        (ap₂ Map (out_at h slots stand n.id result told.0 (array_wide h slots stand becomes)) (all_back h slots (arrays_at h.known x) (each h slots stand (number_of x)))) refl))
    tree_rows (of_stencil {h = n} {p = parameter} {e = e} {a = x} out p q) told outer around framed =
        call_rows h slots stand around n (codes "stencil") false (lambda parameter e (plain x none)) refl (one_rows around x (tree_rows q told.1.1 outer around framed))
        (stencil_own h slots stand n parameter e (arrays_at h.known x) (out_at h slots stand n.id Ints told.0 (omega arith)) (each h slots stand (number_of x)))
    tree_rows (of_fill {h = n} {v = x} {k = y} {many = many} out array p q) told outer around framed =
        call_rows h slots stand around n (codes "fill") false (plain x (plain y none)) refl (pair_rows around around x y (tree_rows p told.1.0 outer around framed) (tree_rows q told.1.1 outer around framed))
        (own_step (code_of n.at (what.Fill (out_of h n) (word_of h x) (word_of h y))) (Fill (of_node n.id 0) ∷ [])
        (step_rows h slots n.at (what.Fill (out_of h n) (word_of h x) (word_of h y)) (Fill (of_node n.id 0)) (ap Fill (out_at h slots stand n.id many told.0 (array_wide h slots stand array))) refl))
    tree_rows (of_collect {h = n} {a = x} {b = y} out p q) told outer around framed =
        call_rows h slots stand around n (codes "collect") false (range x y none) refl
        (between h slots stand (flat h around x) (flat h around y) (joined (flat h around y) stop) (constructs_in h.known around x) (constructs_in h.known around y) []
        (tree_rows p told.1.0 outer around framed) (tree_rows q told.1.1 outer around framed) (λ f. follows_joined h slots (flat h around y) stop f stop_rows))
        (own_step (code_of n.at (what.Range (out_of h n) (word_of h x) (word_of h y))) (Range (of_node n.id 0) ∷ [])
        (step_rows h slots n.at (what.Range (out_of h n) (word_of h x) (word_of h y)) (Range (of_node n.id 0)) (ap Range (out_at h slots stand n.id Ints told.0 (omega arith))) refl))
    tree_rows (of_length {h = n} {a = x} out array p) told outer around framed =
        call_rows h slots stand around n (codes "length") false (plain x none) refl (one_rows around x (tree_rows p told.1 outer around framed))
        (own_step (of_first (arrays_at h.known x) (λ array. code_of n.at (what.Length (word_at h n.id) (slot_of h array)))) (map Length (arrays_at h.known x))
        (length_rows h slots n.at (word_at h n.id) (arrays_at h.known x) (each h slots stand (number_of x))))
    tree_rows (of_fold {h = n} {f = f} {a = x} out is p) told outer around framed =
        call_rows h slots stand around n f false (plain x none) (number_fold_around is) (one_rows around x (tree_rows p told.1 outer around framed))
        (own_step (named_call h n false (function_named false f) (plain x none)) (call_of n.id (at_node h.known n.id) false (function_named false f) (arguments_of h.known (plain x none)))
        (number_fold_own h slots stand n (at_node h.known n.id) x is))
    tree_rows (of_truth_fold {h = n} {f = f} {a = x} out is p) told outer around framed =
        call_rows h slots stand around n f false (plain x none) (truth_fold_around is) (one_rows around x (tree_rows p told.1 outer around framed))
        (own_step (named_call h n false (function_named false f) (plain x none)) (call_of n.id (at_node h.known n.id) false (function_named false f) (arguments_of h.known (plain x none)))
        (truth_fold_own h slots stand n (at_node h.known n.id) x is))
    tree_rows (of_count {h = n} {a = x} out p) told outer around framed =
        call_rows h slots stand around n (codes "count") false (plain x none) refl (one_rows around x (tree_rows p told.1 outer around framed))
        (own_step (of_array (arrays_at h.known x) (λ array. code_of n.at (what.Reduce (word_at h n.id) folds.Sum (slot_of h array) (Input 0)))) (of_one (arrays_at h.known x) (Reduce folds.Sum))
        (fold_rows h slots stand n folds.Sum (arrays_at h.known x) (each h slots stand (number_of x))))
    tree_rows (of_cumsum {h = n} {a = x} out p) told outer around framed =
        call_rows h slots stand around n (codes "cumsum") false (plain x none) refl (one_rows around x (tree_rows p told.1 outer around framed))
        (own_step (of_array (arrays_at h.known x) (λ array. code_of n.at (what.Scan (out_of h n) (slot_of h array)))) (of_one (arrays_at h.known x) (Scan (of_node n.id 0)))
        (array_rows h slots (arrays_at h.known x) (λ array. code_of n.at (what.Scan (out_of h n) (slot_of h array))) (Scan (of_node n.id 0)) (each h slots stand (number_of x))
        (λ u e. step_rows h slots n.at (what.Scan (out_of h n) (slot_of h u)) (Scan (of_node n.id 0) u) (ap₂ Scan (out_at h slots stand n.id Ints told.0 (omega arith)) e) refl)))
    tree_rows (of_vcat {h = n} {a = x} {b = y} {many = many} out array p q) told outer around framed =
        call_rows h slots stand around n (codes "vcat") false (plain x (plain y none)) refl (pair_rows around around x y (tree_rows p told.1.0 outer around framed) (tree_rows q told.1.1 outer around framed))
        (own_step (of_arrays (arrays_at h.known x) (arrays_at h.known y) (λ a b. code_of n.at (what.Concat (out_of h n) (slot_of h a) (slot_of h b)))) (of_two (arrays_at h.known x) (arrays_at h.known y) (Concat (of_node n.id 0)))
        (arrays_rows h slots (arrays_at h.known x) (arrays_at h.known y) (λ a b. code_of n.at (what.Concat (out_of h n) (slot_of h a) (slot_of h b))) (Concat (of_node n.id 0)) (each h slots stand (number_of x)) (each h slots stand (number_of y))
        (λ u v e f. step_rows h slots n.at (what.Concat (out_of h n) (slot_of h u) (slot_of h v)) (Concat (of_node n.id 0) u v) (three h slots Concat _ _ _ _ _ _ (out_at h slots stand n.id many told.0 (array_wide h slots stand array)) e f) refl)))
    tree_rows (of_stack {h = n} {a = x} {rest = rest} out p more) told outer around framed =
        call_rows h slots stand around n (codes "stack") false (plain x rest) refl
        (joined_rows h slots stand (flat h around x) (flat_among h around around rest) (constructs_in h.known around x) (constructs_among h.known around around rest) (tree_rows p told.1.0 outer around framed) (arrays_in more told.1.1 outer around framed))
        (own_step (code_of n.at (what.Stack (out_of h n) (slots_of h (all_of (arguments_of h.known (plain x rest)))))) (Stack (of_node n.id 0) (all_of (arguments_of h.known (plain x rest))) ∷ [])
        (step_rows h slots n.at (what.Stack (out_of h n) (slots_of h (all_of (arguments_of h.known (plain x rest))))) (Stack (of_node n.id 0) (all_of (arguments_of h.known (plain x rest))))
        (ap₂ Stack (out_at h slots stand n.id Matrix told.0 (omega arith)) (all_back h slots (all_of (arguments_of h.known (plain x rest))) (args_back h slots stand (plain x rest)))) refl))
    tree_rows (of_row {h = n} {m = x} {i = y} out p q) told outer around framed =
        call_rows h slots stand around n (codes "row") false (plain x (plain y none)) refl (pair_rows around around x y (tree_rows p told.1.0 outer around framed) (tree_rows q told.1.1 outer around framed))
        (own_step (of_array (arrays_at h.known x) (λ m. code_of n.at (what.Row (out_of h n) (slot_of h m) (word_of h y)))) (of_one (arrays_at h.known x) (Row (of_node n.id 0)))
        (array_rows h slots (arrays_at h.known x) (λ m. code_of n.at (what.Row (out_of h n) (slot_of h m) (word_of h y))) (Row (of_node n.id 0)) (each h slots stand (number_of x))
        (λ u e. step_rows h slots n.at (what.Row (out_of h n) (slot_of h u) (word_of h y)) (Row (of_node n.id 0) u) (ap₂ Row (out_at h slots stand n.id Ints told.0 (omega arith)) e) refl)))
    tree_rows (of_frame {h = n} {c = c} {at = at} {a = x} {rest = rest} out given narrow) told outer around framed =
        call_rows h slots stand around n (codes "DataFrame") false (named c at x rest) refl (given_in given told.1 outer around framed)
        (own_step (code_of n.at (what.Frame (outs_of h n) (slots_of h (all_of (arguments_of h.known (named c at x rest)))))) (Framing (at_node h.known n.id) (all_of (arguments_of h.known (named c at x rest))) ∷ [])
        (step_rows h slots n.at (what.Frame (outs_of h n) (slots_of h (all_of (arguments_of h.known (named c at x rest))))) (Framing (at_node h.known n.id) (all_of (arguments_of h.known (named c at x rest))))
        (ap₂ Framing (all_back h slots (at_node h.known n.id) (each h slots stand n.id)) (all_back h slots (all_of (arguments_of h.known (named c at x rest))) (args_back h slots stand (named c at x rest)))) refl))
    tree_rows (of_read {h = n} {g = k} {k = m} {f = f} {c = c} {rest = rest} out columns narrow) told outer around framed =
        call_rows h slots stand around n (codes "read_csv") false (plain (trees.text k f) (plain (column m c) rest)) refl
        (joined_rows h slots stand stop (flat_among h around around (plain (column m c) rest)) [] (constructs_among h.known around around (plain (column m c) rest)) (nothing h slots stand) (columns_rows h slots stand around framed columns))
        (own_step (code_of n.at (what.Read (outs_of h n) (table_of h n.id))) (Read (at_node h.known n.id) ∷ [])
        (step_rows h slots n.at (what.Read (outs_of h n) (table_of h n.id)) (Read (at_node h.known n.id)) (ap Read (all_back h slots (at_node h.known n.id) (each h slots stand n.id))) refl))
    tree_rows (of_nrow {h = n} {d = x} out p) told outer around framed =
        call_rows h slots stand around n (codes "nrow") false (plain x none) refl (one_rows around x (tree_rows p told.1 outer around framed))
        (own_step (of_first (arrays_at h.known x) (λ array. code_of n.at (what.Length (word_at h n.id) (slot_of h array)))) (map Length (arrays_at h.known x))
        (length_rows h slots n.at (word_at h n.id) (arrays_at h.known x) (each h slots stand (number_of x))))
    tree_rows (of_filter {h = n} {d = x} {m = y} out p q narrow) told outer around framed =
        joined_rows h slots stand (flat_among h around (filtered_frame h.known (plain x (plain y none))) (plain x (plain y none)))
        (of_array (arrays_at h.known y) (λ mask. code_of n.at (what.Filter (outs_of h n) (slots_of h (arrays_at h.known x)) (slot_of h mask))))
        (constructs_among h.known around (filtered_frame h.known (plain x (plain y none))) (plain x (plain y none))) (of_one (arrays_at h.known y) (Filter (at_node h.known n.id) (arrays_at h.known x)))
        (pair_rows around (filtered_frame h.known (plain x (plain y none))) x y (tree_rows p told.1.0 outer around framed)
        (tree_rows q told.1.1 outer (filtered_frame h.known (plain x (plain y none))) (value_framed h slots stand x)))
        (own_step (of_array (arrays_at h.known y) (λ mask. code_of n.at (what.Filter (outs_of h n) (slots_of h (arrays_at h.known x)) (slot_of h mask)))) (of_one (arrays_at h.known y) (Filter (at_node h.known n.id) (arrays_at h.known x)))
        (array_rows h slots (arrays_at h.known y) (λ mask. code_of n.at (what.Filter (outs_of h n) (slots_of h (arrays_at h.known x)) (slot_of h mask))) (Filter (at_node h.known n.id) (arrays_at h.known x)) (each h slots stand (number_of y))
        (λ u e. step_rows h slots n.at (what.Filter (outs_of h n) (slots_of h (arrays_at h.known x)) (slot_of h u)) (Filter (at_node h.known n.id) (arrays_at h.known x) u)
        (ap₂ (λ (os ins : List Unknown). Filter os ins (back h slots (slot_of h u))) (all_back h slots (at_node h.known n.id) (each h slots stand n.id)) (all_back h slots (arrays_at h.known x) (each h slots stand (number_of x)))
        ∙ ap (Filter (at_node h.known n.id) (arrays_at h.known x)) e) refl)))
    tree_rows (of_join {h = n} {g = m} {l = x} {r = y} {k = k} out p q left right distinct narrow) told outer around framed =
        call_rows h slots stand around n (codes "join") false (plain x (plain y (plain (column m k) none))) refl
        (joined_rows h slots stand (flat h around x) (joined (flat h around y) (joined (flat h around (column m k)) stop)) (constructs_in h.known around x) (constructs_in h.known around y ++ (constructs_in h.known around (column m k) ++ []))
        (tree_rows p told.1.0 outer around framed)
        (joined_rows h slots stand (flat h around y) (joined (flat h around (column m k)) stop) (constructs_in h.known around y) (constructs_in h.known around (column m k) ++ []) (tree_rows q told.1.1 outer around framed)
        (one_rows around (column m k) (column_rows h slots stand around m k framed))))
        (own_step (code_of n.at (what.Join (outs_of h n) (ins_of h x) (key_in (frame_at h x) k) (ins_of h y) (key_in (frame_at h y) k))) (Join (at_node h.known n.id) (arrays_at h.known x) (arrays_at h.known y) ∷ [])
        (step_rows h slots n.at (what.Join (outs_of h n) (ins_of h x) (key_in (frame_at h x) k) (ins_of h y) (key_in (frame_at h y) k)) (Join (at_node h.known n.id) (arrays_at h.known x) (arrays_at h.known y))
        (ap₂ (λ (os ins : List Unknown). Join os ins (map (back h slots) (ins_of h y))) (all_back h slots (at_node h.known n.id) (each h slots stand n.id)) (all_back h slots (arrays_at h.known x) (each h slots stand (number_of x)))
        ∙ ap (Join (at_node h.known n.id) (arrays_at h.known x)) (all_back h slots (arrays_at h.known y) (each h slots stand (number_of y)))) refl))
    tree_rows (of_aggregate {h = n} {g = m} {d = x} {m = e} {k = k} {c = c} {at = at} {rest = rest} out p known measures narrow) told outer around framed =
        call_rows h slots stand around n (codes "aggregate") false (plain x (plain (column m k) (named c at e rest))) refl
        (joined_rows h slots stand (flat h around x) (joined (flat h around (column m k)) (flat_among h around around (named c at e rest))) (constructs_in h.known around x) (constructs_in h.known around (column m k) ++ constructs_among h.known around around (named c at e rest))
        (tree_rows p told.1.0 outer around framed)
        (joined_rows h slots stand (flat h around (column m k)) (flat_among h around around (named c at e rest)) (constructs_in h.known around (column m k)) (constructs_among h.known around around (named c at e rest)) (column_rows h slots stand around m k framed)
        (measures_rows h slots stand around framed measures)))
        (group_rows n x k (named c at e rest) (has_measures measures))
    tree_rows (of_sort {h = n} {g = m} {d = x} {k = k} out p known narrow) told outer around framed =
        call_rows h slots stand around n (codes "sort") false (plain x (plain (column m k) none)) refl (pair_rows around around x (column m k) (tree_rows p told.1.0 outer around framed) (column_rows h slots stand around m k framed))
        (own_step (code_of n.at (what.Sort (outs_of h n) (ins_of h x) (key_in (frame_at h x) k))) (Sort (at_node h.known n.id) (arrays_at h.known x) ∷ [])
        (step_rows h slots n.at (what.Sort (outs_of h n) (ins_of h x) (key_in (frame_at h x) k)) (Sort (at_node h.known n.id) (arrays_at h.known x))
        (ap₂ Sort (all_back h slots (at_node h.known n.id) (each h slots stand n.id)) (all_back h slots (arrays_at h.known x) (each h slots stand (number_of x)))) refl))

    arrays_in : {s : Scope} {xs : Args} (rest : AreArrays s xs) → ToldArrays h.known rest → IsOutside s → (around : Columns) → Framed h slots around → R (flat_among h around around xs) (constructs_among h.known around around xs)
    arrays_in no_more_arrays told outer around framed = nothing h slots stand
    arrays_in (one_array {a = x} {rest = rest} p more) told outer around framed =
        joined_rows h slots stand (flat h around x) (flat_among h around around rest) (constructs_in h.known around x) (constructs_among h.known around around rest) (tree_rows p told.0 outer around framed) (arrays_in more told.1 outer around framed)

    given_in : {s : Scope} {before : List (List ℕ)} {xs : Args} {names : List Name} (rest : AreGiven s before xs names) → ToldGiven h.known rest → IsOutside s → (around : Columns) → Framed h slots around
        → R (flat_among h around around xs) (constructs_among h.known around around xs)
    given_in no_more_given told outer around framed = nothing h slots stand
    given_in (one_given {a = x} {rest = rest} p new more) told outer around framed =
        joined_rows h slots stand (flat h around x) (flat_among h around around rest) (constructs_in h.known around x) (constructs_among h.known around around rest) (tree_rows p told.0 outer around framed) (given_in more told.1 outer around framed)
