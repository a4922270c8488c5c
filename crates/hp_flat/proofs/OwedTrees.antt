-- What the constructs of an expression that fits owe, at a point of a script whose variables and frame around have their types.
use Rattle.std.proofs.Common.{◌≡◌, ℕ, ◌<◌, Bool, true, false, if◌then◌else◌, bytes_eq, codes, List, [], ◌∷◌, ◌++◌, length, map, Option, Some, refl, sym, ap, subst, ◌∙◌, arith}
use Rattle.std.specs.List.{range_with_len}
use Rattle.hp_word.specs.declared.name.Name.{Name}
use Rattle.hp_script.specs.declared.tree.BinOp.{BinOp}
use Rattle.hp_script.specs.declared.tree.BinOp.TheVariants as binary_op
use Rattle.hp_script.specs.declared.tree.UnOp.{UnOp}
use Rattle.hp_script.specs.declared.tree.UnOp.TheVariants as unary_op
use Rattle.hp_script.specs.declared.typed.Shape.{Shape}
use Rattle.hp_script.specs.declared.typed.Shape.TheVariants.{Ints, Frame}
use Rattle.hp_script.specs.Functions.{function_named, scalar_named, fold_named, array_named, frame_named}
use Rattle.hp_script.specs.Mirror.{Head, Tree, Args, column, unary, binary, index, call, none, plain, range, lambda, named, text}
use Rattle.hp_script.specs.Scope.{Scope, has_column, shape_among, with_columns}
use Rattle.hp_script.specs.Shaped.{IsOutside, IsScalarName, named_div, named_rem, named_min, named_max, IsNumberFold, named_sum, named_prod, named_minimum, named_maximum, IsTruthFold, named_any, named_all, HasShape, of_number, of_truth, of_parameter, of_variable, of_scalar_variable, of_field, of_column, of_negation, of_not, of_nots, of_arithmetic, of_arithmetics, of_comparison, of_comparisons, of_logic, of_mask, of_product, of_transposed, of_element, of_elements, of_window, of_scalar_call, of_scalar_calls, of_map, of_stencil, of_fill, of_collect, of_length, of_fold, of_truth_fold, of_count, of_cumsum, of_vcat, of_stack, of_row, of_frame, of_read, of_nrow, of_filter, of_join, of_aggregate, of_sort, AreArrays, no_more_arrays, one_array, AreGiven, no_more_given, one_given, AreColumns, no_more_columns, one_column, IsMeasure, measured_sum, measured_minimum, measured_maximum, measured_count, AreMeasures, no_more_measures, one_measure}
use Rattle.hp_air.specs.Arrays.{Map}
use Rattle.hp_air.specs.Unknowns.{Known, of_node, Columns, columns_of, column_named, at_node, arrays_at, arrays_named, arguments_of, shape_at, shape_named, number_of, width, copied, call_of, binary_of, index_of, filtered_frame, frame_around, constructs_in, constructs_among}
use Rattle.hp_flat.proofs.FilledFrames.{AreFilled, filled_tree, no_parameter, given_filled, columns_filled, joined_column}
use Rattle.hp_flat.proofs.OwedParts.{Owes, AllOwe, unbalanced_at, length_at, length_named, length_column, owes_copied, makes_frame, owes_call, owes_binary, owes_index, owes_unary}
use Rattle.hp_flat.proofs.ServedCode.{all_both}
use Rattle.hp_flat.proofs.ToldTypes.{IsUntold, Told, ToldColumns, ToldMeasure, ToldMeasures, ToldArrays, ToldGiven}

-- ---- functions by their names

number_of_two : {f : List ℕ} → IsScalarName f → (bytes_eq f (codes "filter") ≡ false) × (makes_frame (function_named false f) ≡ false) × (makes_frame (function_named true f) ≡ false)
unfolding function_named scalar_named
number_of_two named_div = (refl, refl, refl)
number_of_two named_rem = (refl, refl, refl)
number_of_two named_min = (refl, refl, refl)
number_of_two named_max = (refl, refl, refl)

number_folded : {f : List ℕ} → IsNumberFold f → (bytes_eq f (codes "filter") ≡ false) × (makes_frame (function_named false f) ≡ false)
unfolding function_named scalar_named fold_named
number_folded named_sum = (refl, refl)
number_folded named_prod = (refl, refl)
number_folded named_minimum = (refl, refl)
number_folded named_maximum = (refl, refl)

truth_folded : {f : List ℕ} → IsTruthFold f → (bytes_eq f (codes "filter") ≡ false) × (makes_frame (function_named false f) ≡ false)
unfolding function_named scalar_named fold_named
truth_folded named_any = (refl, refl)
truth_folded named_all = (refl, refl)

-- a function whose value is no frame owes no columns
no_frames : (made : Bool) (wide : Type 0) → made ≡ false → made ≡ true → wide
no_frames true wide never is = absurd cc
no_frames false wide never is = absurd cc

module _ (g : Known) where
  -- the types of the variables of this point are those of the script
  abbrev pub AreNamed : Scope → Type 0
  AreNamed s = (x : List ℕ) (a : Shape) → shape_among s.vars x ≡ Some a → shape_named g x ≡ Some a

  -- What holds at a point outside of lambdas with this frame around: it has the columns that are known there, and each frame
  -- has a column.
  pub record IsPoint (s : Scope) (around : Columns) : Type 0 where
    pub outside : IsOutside s
    pub named : AreNamed s
    pub filled : AreFilled s
    pub framed : (columns : List Name) → s.around ≡ Some columns → around.names ≡ columns

  -- ---- names

  variable_owes : (h : Head) (x : List ℕ) (a : Shape) → shape_at g h.id ≡ Some a → shape_named g x ≡ Some a → AllOwe (copied (at_node g h.id) (arrays_named g x))
  variable_owes h x a told is =
      owes_copied (at_node g h.id) (arrays_named g x) (length_at g h.id ∙ ap width told ∙ sym (ap width is) ∙ sym (length_named g x)) (unbalanced_at g h.id)

  column_owes : (h : Head) (c : List ℕ) (around : Columns) (columns : List Name) → shape_at g h.id ≡ Some Ints → around.names ≡ columns → has_column c columns ≡ true → AllOwe (copied (at_node g h.id) (column_named around c))
  column_owes h c around columns told names known =
      owes_copied (at_node g h.id) (column_named around c)
      (length_at g h.id ∙ ap width told ∙ sym (length_column around c (ap (λ (l : List Name). has_column c l) names ∙ known))) (unbalanced_at g h.id)

  -- the name of a column has no value
  name_owes : (around : Columns) (h : Head) (c : List ℕ) → IsUntold g h → AllOwe (constructs_in g around (column h c))
  unfolding constructs_in
  name_owes around h c untold =
      subst (λ (o : Option Shape). AllOwe (copied (map (of_node h.id) (range_with_len 0 (width o))) (column_named around c))) (sym untold) tt

  names_owe : (around : Columns) {before : List (List ℕ)} {xs : Args} {names : List Name} (are : AreColumns before xs names) → ToldColumns g are → AllOwe (constructs_among g around around xs)
  unfolding constructs_among
  names_owe around no_more_columns told = tt
  names_owe around (one_column {h = h} {c = c} {rest = rest} new more) told =
      all_both Owes (constructs_in g around (column h c)) (constructs_among g around around rest) (name_owes around h c told.0) (names_owe around more told.1)

  -- ---- calls

  -- the constructs of the arguments, and of the call
  call_owes : (around : Columns) (h : Head) (f : List ℕ) (dotted : Bool) (xs : Args) → bytes_eq f (codes "filter") ≡ false → AllOwe (constructs_among g around around xs)
      → (makes_frame (function_named dotted f) ≡ true → 0 < width (shape_at g h.id)) → AllOwe (constructs_in g around (call h f dotted xs))
  unfolding constructs_in
  call_owes around h f dotted xs other args wide =
      all_both Owes (constructs_among g around (frame_around g f xs around) xs) (call_of h.id (at_node g h.id) dotted (function_named dotted f) (arguments_of g xs))
      (subst (λ (b : Bool). AllOwe (constructs_among g around (if b then filtered_frame g xs else around) xs)) (sym other) args) (owes_call g h.id dotted (function_named dotted f) (arguments_of g xs) wide)

  measure_owes : (around : Columns) {columns : List Name} {x : Tree} (is : IsMeasure columns x) → ToldMeasure g is → AllOwe (constructs_in g around x)
  unfolding constructs_among function_named scalar_named fold_named array_named
  measure_owes around (measured_sum {h = h} {g = k} {b = b} known) told =
      call_owes around h (codes "sum") false (plain (column k b) none) refl (all_both Owes (constructs_in g around (column k b)) [] (name_owes around k b told.1) tt) (λ e. absurd cc)
  measure_owes around (measured_minimum {h = h} {g = k} {b = b} known) told =
      call_owes around h (codes "minimum") false (plain (column k b) none) refl (all_both Owes (constructs_in g around (column k b)) [] (name_owes around k b told.1) tt) (λ e. absurd cc)
  measure_owes around (measured_maximum {h = h} {g = k} {b = b} known) told =
      call_owes around h (codes "maximum") false (plain (column k b) none) refl (all_both Owes (constructs_in g around (column k b)) [] (name_owes around k b told.1) tt) (λ e. absurd cc)
  measure_owes around (measured_count {h = h}) told = call_owes around h (codes "count") false none refl tt (λ e. absurd cc)

  measures_owe : (around : Columns) {columns : List Name} {before : List (List ℕ)} {xs : Args} {names : List Name} (are : AreMeasures columns before xs names) → ToldMeasures g are → AllOwe (constructs_among g around around xs)
  unfolding constructs_among
  measures_owe around no_more_measures told = tt
  measures_owe around (one_measure {m = m} {rest = rest} is new more) told =
      all_both Owes (constructs_in g around m) (constructs_among g around around rest) (measure_owes around is told.0) (measures_owe around more told.1)

  -- one and two plain arguments
  one_owes : (around behind : Columns) (x : Tree) → AllOwe (constructs_in g around x) → AllOwe (constructs_among g around behind (plain x none))
  unfolding constructs_among
  one_owes around behind x first = all_both Owes (constructs_in g around x) [] first tt

  pair_owes : (around behind : Columns) (x y : Tree) → AllOwe (constructs_in g around x) → AllOwe (constructs_in g behind y) → AllOwe (constructs_among g around behind (plain x (plain y none)))
  unfolding constructs_among
  pair_owes around behind x y first second = all_both Owes (constructs_in g around x) (constructs_among g behind behind (plain y none)) first (one_owes behind behind y second)

  -- ---- expressions

  wide_at : (h : Head) (columns : List Name) → shape_at g h.id ≡ Some (Frame columns) → 0 < length columns → 0 < width (shape_at g h.id)
  wide_at h columns told some = subst (λ (o : Option Shape). 0 < width o) (sym told) some

  -- in the second argument of a filter
  pub filter_point : {s : Scope} {around : Columns} (x : Tree) (columns : List Name) → IsPoint s around → shape_at g (number_of x) ≡ Some (Frame columns) → IsPoint (with_columns s (Some columns)) (columns_of (shape_at g (number_of x)) (arrays_at g x))
  filter_point x columns point told = record {
    outside = point.outside;
    named = point.named;
    filled = point.filled;
    framed = λ others e.
        let same : columns ≡ others = cc in
        ap (λ (o : Option Shape). (columns_of o (arrays_at g x)).names) told ∙ same;
  }

  both_owe : (around : Columns) (h : Head) (op : BinOp) (dotted : Bool) (x y : Tree) → AllOwe (constructs_in g around x) → AllOwe (constructs_in g around y) → AllOwe (constructs_in g around (binary h op dotted x y))
  unfolding constructs_in
  both_owe around h op dotted x y first second =
      all_both Owes (constructs_in g around x ++ constructs_in g around y) (binary_of g h.id op dotted x y) (all_both Owes (constructs_in g around x) (constructs_in g around y) first second) (owes_binary g h.id op dotted x y)

  index_owe : (around : Columns) (h : Head) (x i : Tree) → AllOwe (constructs_in g around x) → AllOwe (constructs_in g around i) → AllOwe (constructs_in g around (index h x i))
  unfolding constructs_in
  index_owe around h x i first second =
      all_both Owes (constructs_in g around x ++ constructs_in g around i) (index_of h.id (arrays_at g x) (arrays_at g i)) (all_both Owes (constructs_in g around x) (constructs_in g around i) first second)
      (owes_index g h.id (arrays_at g x) (arrays_at g i))

  unary_owes : (around : Columns) (h : Head) (op : UnOp) (dotted : Bool) (x : Tree) → AllOwe (constructs_in g around x) → AllOwe (constructs_in g around (unary h op dotted x))
  unfolding constructs_in
  unary_owes around h op dotted x first =
      all_both Owes (constructs_in g around x) (if dotted then Map (of_node h.id 0) (arrays_at g x) ∷ [] else []) first (owes_unary g h.id dotted (arrays_at g x))

  mutual
    unfolding constructs_in constructs_among function_named scalar_named fold_named array_named frame_named

    pub tree_owes : {s : Scope} {x : Tree} {a : Shape} (p : HasShape s x a) → Told g p → (around : Columns) → IsPoint s around → AllOwe (constructs_in g around x)
    tree_owes of_number told around point = tt
    tree_owes of_truth told around point = tt
    tree_owes {s = s} (of_parameter {p = x} role) told around point = no_parameter s.parameters x _ point.outside role
    tree_owes (of_variable {h = h} {v = x} {a = a} out v) told around point = variable_owes h x a told.0 (point.named x a v.shape)
    tree_owes (of_scalar_variable {h = h} {v = x} {a = a} one v) told around point = variable_owes h x a told.0 (point.named x a v.shape)
    tree_owes (of_field {h = h} {d = d} {c = c} {columns = columns} out v known) told around point =
        column_owes h c (columns_of (shape_named g d) (arrays_named g d)) columns told.0 (ap (λ (o : Option Shape). (columns_of o (arrays_named g d)).names) (point.named d (Frame columns) v.shape)) known
    tree_owes (of_column {h = h} {c = c} {columns = columns} out within known) told around point = column_owes h c around columns told.0 (point.framed columns within) known
    tree_owes (of_negation {h = h} {a = x} p) told around point = unary_owes around h unary_op.Neg false x (tree_owes p told.1 around point)
    tree_owes (of_not {h = h} {a = x} p) told around point = unary_owes around h unary_op.Not false x (tree_owes p told.1 around point)
    tree_owes (of_nots {h = h} {a = x} p) told around point = unary_owes around h unary_op.Not true x (tree_owes p told.1 around point)
    tree_owes (of_arithmetic {h = h} {op = op} {a = x} {b = y} is p q) told around point = both_owe around h op false x y (tree_owes p told.1.0 around point) (tree_owes q told.1.1 around point)
    tree_owes (of_arithmetics {h = h} {op = op} {a = x} {b = y} is e p q) told around point = both_owe around h op true x y (tree_owes p told.1.0 around point) (tree_owes q told.1.1 around point)
    tree_owes (of_comparison {h = h} {op = op} {a = x} {b = y} is p q) told around point = both_owe around h op false x y (tree_owes p told.1.0 around point) (tree_owes q told.1.1 around point)
    tree_owes (of_comparisons {h = h} {op = op} {a = x} {b = y} is e p q) told around point = both_owe around h op true x y (tree_owes p told.1.0 around point) (tree_owes q told.1.1 around point)
    tree_owes (of_logic {h = h} {op = op} {a = x} {b = y} is p q) told around point = both_owe around h op false x y (tree_owes p told.1.0 around point) (tree_owes q told.1.1 around point)
    tree_owes (of_mask {h = h} {op = op} {a = x} {b = y} is e p q) told around point = both_owe around h op true x y (tree_owes p told.1.0 around point) (tree_owes q told.1.1 around point)
    tree_owes (of_product {h = h} {a = x} {b = y} p q) told around point = both_owe around h binary_op.Mul false x y (tree_owes p told.1.0 around point) (tree_owes q told.1.1 around point)
    tree_owes (of_transposed {h = h} {g = k} {a = x} {b = y} out p q) told around point =
        both_owe around h binary_op.Mul false x (call k (codes "transpose") false (plain y none)) (tree_owes p told.1.0 around point)
        (call_owes around k (codes "transpose") false (plain y none) refl (one_owes around around y (tree_owes q told.1.2 around point)) (λ e. absurd cc))
    tree_owes (of_element {h = h} {a = x} {i = i} out array p q) told around point = index_owe around h x i (tree_owes p told.1.0 around point) (tree_owes q told.1.1 around point)
    tree_owes (of_elements {h = h} {a = x} {k = i} out array p q) told around point = index_owe around h x i (tree_owes p told.1.0 around point) (tree_owes q told.1.1 around point)
    tree_owes {s = s} (of_window {p = x} role is e) told around point = no_parameter s.parameters x _ point.outside role
    tree_owes (of_scalar_call {h = h} {f = f} {a = x} {b = y} is p q) told around point =
        call_owes around h f false (plain x (plain y none)) (number_of_two is).0 (pair_owes around around x y (tree_owes p told.1.0 around point) (tree_owes q told.1.1 around point)) (no_frames _ _ (number_of_two is).1)
    tree_owes (of_scalar_calls {h = h} {f = f} {a = x} {b = y} is e p q) told around point =
        call_owes around h f true (plain x (plain y none)) (number_of_two is).0 (pair_owes around around x y (tree_owes p told.1.0 around point) (tree_owes q told.1.1 around point)) (no_frames _ _ (number_of_two is).2)
    tree_owes (of_map {h = h} {p = parameter} {e = e} {a = x} out array p becomes q) told around point =
        call_owes around h (codes "map") false (lambda parameter e (plain x none)) refl (one_owes around around x (tree_owes p told.1.0 around point)) (λ e. absurd cc)
    tree_owes (of_stencil {h = h} {p = parameter} {e = e} {a = x} out p q) told around point =
        call_owes around h (codes "stencil") false (lambda parameter e (plain x none)) refl (one_owes around around x (tree_owes q told.1.1 around point)) (λ e. absurd cc)
    tree_owes (of_fill {h = h} {v = x} {k = y} out array p q) told around point =
        call_owes around h (codes "fill") false (plain x (plain y none)) refl (pair_owes around around x y (tree_owes p told.1.0 around point) (tree_owes q told.1.1 around point)) (λ e. absurd cc)
    tree_owes (of_collect {h = h} {a = x} {b = y} out p q) told around point =
        call_owes around h (codes "collect") false (range x y none) refl
        (all_both Owes (constructs_in g around x ++ constructs_in g around y) [] (all_both Owes (constructs_in g around x) (constructs_in g around y) (tree_owes p told.1.0 around point) (tree_owes q told.1.1 around point)) tt) (λ e. absurd cc)
    tree_owes (of_length {h = h} {a = x} out array p) told around point = call_owes around h (codes "length") false (plain x none) refl (one_owes around around x (tree_owes p told.1 around point)) (λ e. absurd cc)
    tree_owes (of_fold {h = h} {f = f} {a = x} out is p) told around point =
        call_owes around h f false (plain x none) (number_folded is).0 (one_owes around around x (tree_owes p told.1 around point)) (no_frames _ _ (number_folded is).1)
    tree_owes (of_truth_fold {h = h} {f = f} {a = x} out is p) told around point =
        call_owes around h f false (plain x none) (truth_folded is).0 (one_owes around around x (tree_owes p told.1 around point)) (no_frames _ _ (truth_folded is).1)
    tree_owes (of_count {h = h} {a = x} out p) told around point = call_owes around h (codes "count") false (plain x none) refl (one_owes around around x (tree_owes p told.1 around point)) (λ e. absurd cc)
    tree_owes (of_cumsum {h = h} {a = x} out p) told around point = call_owes around h (codes "cumsum") false (plain x none) refl (one_owes around around x (tree_owes p told.1 around point)) (λ e. absurd cc)
    tree_owes (of_vcat {h = h} {a = x} {b = y} out array p q) told around point =
        call_owes around h (codes "vcat") false (plain x (plain y none)) refl (pair_owes around around x y (tree_owes p told.1.0 around point) (tree_owes q told.1.1 around point)) (λ e. absurd cc)
    tree_owes (of_stack {h = h} {a = x} {rest = rest} out p more) told around point =
        call_owes around h (codes "stack") false (plain x rest) refl
        (all_both Owes (constructs_in g around x) (constructs_among g around around rest) (tree_owes p told.1.0 around point) (arrays_owe more told.1.1 around point)) (λ e. absurd cc)
    tree_owes (of_row {h = h} {m = x} {i = y} out p q) told around point =
        call_owes around h (codes "row") false (plain x (plain y none)) refl (pair_owes around around x y (tree_owes p told.1.0 around point) (tree_owes q told.1.1 around point)) (λ e. absurd cc)
    tree_owes (of_frame {h = h} {c = c} {at = at} {a = x} {rest = rest} {names = names} out given narrow) told around point =
        call_owes around h (codes "DataFrame") false (named c at x rest) refl (given_owe given told.1 around point)
        (λ e. wide_at h names told.0 (given_filled given refl))
    tree_owes (of_read {h = h} {g = k} {k = m} {f = f} {c = c} {rest = rest} {names = names} out columns narrow) told around point =
        call_owes around h (codes "read_csv") false (plain (text k f) (plain (column m c) rest)) refl (all_both Owes [] (constructs_among g around around (plain (column m c) rest)) tt (names_owe around columns told.1.1))
        (λ e. wide_at h names told.0 (columns_filled columns refl))
    tree_owes (of_nrow {h = h} {d = x} out p) told around point = call_owes around h (codes "nrow") false (plain x none) refl (one_owes around around x (tree_owes p told.1 around point)) (λ e. absurd cc)
    tree_owes (of_filter {h = h} {d = x} {m = y} {columns = columns} out p q narrow) told around point =
        let xs = plain x (plain y none) in
        all_both Owes (constructs_among g around (filtered_frame g xs) xs) (call_of h.id (at_node g h.id) false (function_named false (codes "filter")) (arguments_of g xs))
        (pair_owes around (filtered_frame g xs) x y (tree_owes p told.1.0 around point) (tree_owes q told.1.1 (filtered_frame g xs) (filter_point x columns point told.1.0.0)))
        (owes_call g h.id false (function_named false (codes "filter")) (arguments_of g xs) (λ e. wide_at h columns told.0 (filled_tree p point.outside point.filled).0))
    tree_owes (of_join {h = h} {g = m} {l = x} {r = y} {k = k} {left = left} {right = right} out p q first second distinct narrow) told around point =
        call_owes around h (codes "join") false (plain x (plain y (plain (column m k) none))) refl
        (all_both Owes (constructs_in g around x) (constructs_among g around around (plain y (plain (column m k) none))) (tree_owes p told.1.0 around point)
        (pair_owes around around y (column m k) (tree_owes q told.1.1 around point) (name_owes around m k told.1.2)))
        (λ e. wide_at h _ told.0 (joined_column k left _ first))
    tree_owes (of_aggregate {h = h} {g = m} {d = x} {m = e} {k = k} {c = c} {at = at} {rest = rest} out p known measures narrow) told around point =
        call_owes around h (codes "aggregate") false (plain x (plain (column m k) (named c at e rest))) refl
        (all_both Owes (constructs_in g around x) (constructs_among g around around (plain (column m k) (named c at e rest))) (tree_owes p told.1.0 around point)
        (all_both Owes (constructs_in g around (column m k)) (constructs_among g around around (named c at e rest)) (name_owes around m k told.1.1) (measures_owe around measures told.1.2)))
        (λ e. wide_at h _ told.0 (omega arith))
    tree_owes (of_sort {h = h} {g = m} {d = x} {k = k} {columns = columns} out p known narrow) told around point =
        call_owes around h (codes "sort") false (plain x (plain (column m k) none)) refl (pair_owes around around x (column m k) (tree_owes p told.1.0 around point) (name_owes around m k told.1.1))
        (λ e. wide_at h columns told.0 (filled_tree p point.outside point.filled).0)

    arrays_owe : {s : Scope} {xs : Args} (rest : AreArrays s xs) → ToldArrays g rest → (around : Columns) → IsPoint s around → AllOwe (constructs_among g around around xs)
    arrays_owe no_more_arrays told around point = tt
    arrays_owe (one_array {a = x} {rest = rest} p more) told around point =
        all_both Owes (constructs_in g around x) (constructs_among g around around rest) (tree_owes p told.0 around point) (arrays_owe more told.1 around point)

    given_owe : {s : Scope} {before : List (List ℕ)} {xs : Args} {names : List Name} (rest : AreGiven s before xs names) → ToldGiven g rest → (around : Columns) → IsPoint s around → AllOwe (constructs_among g around around xs)
    given_owe no_more_given told around point = tt
    given_owe (one_given {a = x} {rest = rest} p new more) told around point =
        all_both Owes (constructs_in g around x) (constructs_among g around around rest) (tree_owes p told.0 around point) (given_owe more told.1 around point)
