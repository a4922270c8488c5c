-- The lists of the operations of an expression that fits.
use Rattle.std.proofs.Common.{◌≡◌, ℕ, ◌<◌, true, false, codes, List, length, Some, refl, sym, ◌∙◌, subst, arith}
use Rattle.hp_word.specs.declared.name.Name.{Name}
use Rattle.hp_script.specs.declared.function.Function.TheVariants as function
use Rattle.hp_script.specs.declared.tree.BinOp.TheVariants as op
use Rattle.hp_script.specs.declared.tree.UnOp.TheVariants.{Neg, Not}
use Rattle.hp_script.specs.declared.typed.Shape.{Shape}
use Rattle.hp_script.specs.declared.typed.Shape.TheVariants.{Ints, Bools, Frame}
use Rattle.hp_script.specs.Functions.{scalar_named, fold_named, array_named, frame_named, function_named}
use Rattle.hp_script.specs.Mirror.{Head, Tree, Args, text, variable, column, call, plain, none, range, lambda, named}
use Rattle.hp_script.specs.Scope.{Scope, element, window, has_column}
use Rattle.hp_script.specs.Shaped.{HasShape, of_number, of_truth, of_parameter, of_variable, of_scalar_variable, of_field, of_column, of_negation, of_not, of_nots, of_arithmetic, of_arithmetics, of_comparison, of_comparisons, of_logic, of_mask, of_product, of_transposed, of_element, of_elements, of_window, of_scalar_call, of_scalar_calls, of_map, of_stencil, of_fill, of_collect, of_length, of_fold, of_truth_fold, of_count, of_cumsum, of_vcat, of_stack, of_row, of_frame, of_read, of_nrow, of_filter, of_join, of_aggregate, of_sort, AreArrays, no_more_arrays, one_array, AreGiven, no_more_given, one_given, AreMeasures, one_measure}
use Rattle.hp_program.specs.Programs.{joined, stop}
use Rattle.hp_air.specs.Kept.{has_lists}
use Rattle.hp_air.specs.Unknowns.{Columns, columns_of, column_named, filtered_frame, shape_at, shape_named, at_node, arrays_named, arguments_of}
use Rattle.hp_flat.specs.Flat.{flat, flat_among}
use Rattle.hp_flat.specs.FlatCalls.{call_code, named_call}
use Rattle.hp_flat.specs.Homes.{Homes}
use Rattle.hp_flat.proofs.FrameTypes.{IsProper, proper, no_role, given_some, columns_some}
use Rattle.hp_flat.proofs.ListCode.{Listed, listed_both, column_count, array_count, named_count, names_at, names_of_variable, copy_lists}
use Rattle.hp_flat.proofs.ListCalls.{spread_some, one_wide, count_of, unary_tree, plain_tree, spread_tree, index_tree, called, plainly, calls, one_argument, two_arguments, column_tree, columns_listed, measures_listed, frame_lists, read_lists, filter_lists, join_lists, sort_lists, group_lists, map_lists, stack_lists}
use Rattle.hp_flat.proofs.Points.{AtPoint, in_mask}
use Rattle.hp_flat.proofs.RowCalls.{scalar_around, number_fold_around, truth_fold_around}
use Rattle.hp_flat.proofs.ToldTrees.{scalar_of_name, number_fold_of_name, truth_fold_of_name}
use Rattle.hp_flat.proofs.ToldTypes.{Told, ToldArrays, ToldGiven}

module _ (h : Homes) where
  variable_listed : (n : Head) (around : Columns) (x : List ℕ) (a : Shape) → shape_at h.known n.id ≡ Some a → shape_named h.known x ≡ Some a → Listed (flat h around (variable n x))
  unfolding flat
  variable_listed n around x a is known = copy_lists h n.at (at_node h.known n.id) (arrays_named h.known x) (array_count h n.id a is ∙ sym (named_count h x a known))

  field_listed : (n : Head) (around : Columns) (c : List ℕ) → shape_at h.known n.id ≡ Some Ints → has_column c around.names ≡ true → Listed (flat h around (column n c))
  unfolding flat
  field_listed n around c is has = copy_lists h n.at (at_node h.known n.id) (column_named around c) (array_count h n.id Ints is ∙ sym (column_count around c has))

  measures_some : {columns names : List Name} {before : List (List ℕ)} {c : List ℕ} {at : _} {m : Tree} {rest : Args} → AreMeasures columns before (named c at m rest) names → 0 < length names
  measures_some (one_measure is new more) = omega arith

  mutual
    unfolding flat flat_among function_named scalar_named fold_named array_named frame_named named_call has_lists

    pub listed : {s : Scope} {x : Tree} {a : Shape} (p : HasShape s x a) → Told h.known p → (around : Columns) → AtPoint h.known s around → Listed (flat h around x)
    listed of_number t around at = (refl, tt)
    listed of_truth t around at = (refl, tt)
    listed {s = s} (of_parameter {p = p} {a = a} role) t around at = no_role s.parameters p (element a) at.out role
    listed (of_variable {h = n} {v = x} {a = a} out is) t around at = variable_listed n around x a t.0 (at.named x a is.shape)
    listed (of_scalar_variable {h = n} {v = x} {a = a} one is) t around at = variable_listed n around x a t.0 (at.named x a is.shape)
    listed (of_field {h = n} {d = d} {c = c} {columns = columns} out is known) t around at =
        let frame = columns_of (shape_named h.known d) (arrays_named h.known d) in
        field_listed n frame c t.0 (subst (λ (cs : List Name). has_column c cs ≡ true) (sym (names_of_variable h d columns (at.named d (Frame columns) is.shape))) known)
    listed (of_column {h = n} {c = c} {columns = columns} out within known) t around at =
        field_listed n around c t.0 (subst (λ (cs : List Name). has_column c cs ≡ true) (sym (at.sees columns within)) known)
    listed (of_negation {h = n} {a = x} p) t around at = unary_tree h around n Neg false x (λ e. absurd cc) (listed p t.1 around at)
    listed (of_not {h = n} {a = x} p) t around at = unary_tree h around n Not false x (λ e. absurd cc) (listed p t.1 around at)
    listed (of_nots {h = n} {a = x} p) t around at = unary_tree h around n Not true x (λ e. omega (arith, count_of h x Bools t.1.0)) (listed p t.1 around at)
    listed (of_arithmetic {h = n} {op = o} {a = x} {b = y} is p q) t around at = plain_tree h around n o x y (listed p t.1.0 around at) (listed q t.1.1 around at)
    listed (of_arithmetics {h = n} {op = o} {a = x} {b = y} is e p q) t around at = spread_tree h around n o x y (spread_some (omega arith) e) t.1.0.0 t.1.1.0 (listed p t.1.0 around at) (listed q t.1.1 around at)
    listed (of_comparison {h = n} {op = o} {a = x} {b = y} is p q) t around at = plain_tree h around n o x y (listed p t.1.0 around at) (listed q t.1.1 around at)
    listed (of_comparisons {h = n} {op = o} {a = x} {b = y} is e p q) t around at = spread_tree h around n o x y (spread_some (omega arith) e) t.1.0.0 t.1.1.0 (listed p t.1.0 around at) (listed q t.1.1 around at)
    listed (of_logic {h = n} {op = o} {a = x} {b = y} is p q) t around at = plain_tree h around n o x y (listed p t.1.0 around at) (listed q t.1.1 around at)
    listed (of_mask {h = n} {op = o} {a = x} {b = y} is e p q) t around at = spread_tree h around n o x y (spread_some (omega arith) e) t.1.0.0 t.1.1.0 (listed p t.1.0 around at) (listed q t.1.1 around at)
    listed (of_product {h = n} {a = x} {b = y} p q) t around at = plain_tree h around n op.Mul x y (listed p t.1.0 around at) (listed q t.1.1 around at)
    listed (of_transposed {h = n} {g = k} {a = x} {b = y} out p q) t around at =
        plain_tree h around n op.Mul x (call k (codes "transpose") false (plain y none)) (listed p t.1.0 around at)
        (plainly h around k function.Transpose (codes "transpose") (plain y none) refl refl tt (one_argument h around y (listed q t.1.2 around at)))
    listed (of_element {h = n} {a = x} {i = i} out array p q) t around at = index_tree h around n x i (listed p t.1.0 around at) (listed q t.1.1 around at)
    listed (of_elements {h = n} {a = x} {k = i} out array p q) t around at = index_tree h around n x i (listed p t.1.0 around at) (listed q t.1.1 around at)
    listed {s = s} (of_window {p = p} role is e) t around at = no_role s.parameters p window at.out role
    listed (of_scalar_call {h = n} {f = f} {a = x} {b = y} is p q) t around at =
        let o = scalar_of_name false is in
        plainly h around n (function.Scalar o.of_it) f (plain x (plain y none)) o.is (scalar_around is) tt (two_arguments h around around x y (listed p t.1.0 around at) (listed q t.1.1 around at))
    listed (of_scalar_calls {h = n} {f = f} {a = x} {b = y} is e p q) t around at =
        let o = scalar_of_name true is in
        calls h around n o.of_it f x y o.is (scalar_around is) (spread_some (omega arith) e) t.1.0.0 t.1.1.0 (two_arguments h around around x y (listed p t.1.0 around at) (listed q t.1.1 around at))
    listed (of_map {h = n} {p = v} {e = e} {a = x} {many = many} out array p becomes q) t around at =
        called h around n function.Map (codes "map") (lambda v e (plain x none)) refl refl (one_argument h around x (listed p t.1.0 around at)) (map_lists h n v e x (omega (arith, count_of h x many t.1.0.0, one_wide array)))
    listed (of_stencil {h = n} {p = v} {e = e} {a = x} out p q) t around at =
        plainly h around n function.Stencil (codes "stencil") (lambda v e (plain x none)) refl refl tt (one_argument h around x (listed q t.1.1 around at))
    listed (of_fill {h = n} {v = x} {k = y} out array p q) t around at =
        plainly h around n function.Fill (codes "fill") (plain x (plain y none)) refl refl tt (two_arguments h around around x y (listed p t.1.0 around at) (listed q t.1.1 around at))
    listed (of_collect {h = n} {a = x} {b = y} out p q) t around at =
        plainly h around n function.Collect (codes "collect") (range x y none) refl refl tt (two_arguments h around around x y (listed p t.1.0 around at) (listed q t.1.1 around at))
    listed (of_length {h = n} {a = x} out array p) t around at = plainly h around n function.Length (codes "length") (plain x none) refl refl tt (one_argument h around x (listed p t.1 around at))
    listed (of_fold {h = n} {f = f} {a = x} out is p) t around at =
        let o = number_fold_of_name is in
        plainly h around n (function.Fold o.of_it) f (plain x none) o.is (number_fold_around is) tt (one_argument h around x (listed p t.1 around at))
    listed (of_truth_fold {h = n} {f = f} {a = x} out is p) t around at =
        let o = truth_fold_of_name is in
        plainly h around n (function.Fold o.of_it) f (plain x none) o.is (truth_fold_around is) tt (one_argument h around x (listed p t.1 around at))
    listed (of_count {h = n} {a = x} out p) t around at = plainly h around n function.Count (codes "count") (plain x none) refl refl tt (one_argument h around x (listed p t.1 around at))
    listed (of_cumsum {h = n} {a = x} out p) t around at = plainly h around n function.Cumsum (codes "cumsum") (plain x none) refl refl tt (one_argument h around x (listed p t.1 around at))
    listed (of_vcat {h = n} {a = x} {b = y} out array p q) t around at =
        plainly h around n function.Vcat (codes "vcat") (plain x (plain y none)) refl refl tt (two_arguments h around around x y (listed p t.1.0 around at) (listed q t.1.1 around at))
    listed (of_stack {h = n} {a = x} {rest = rest} out p more) t around at =
        called h around n function.Stack (codes "stack") (plain x rest) refl refl (listed_both (flat h around x) (flat_among h around around rest) (listed p t.1.0 around at) (arrays_listed more t.1.1 around at)) (stack_lists h n x rest t.1.0.0)
    listed (of_row {h = n} {m = x} {i = y} out p q) t around at =
        plainly h around n function.Row (codes "row") (plain x (plain y none)) refl refl tt (two_arguments h around around x y (listed p t.1.0 around at) (listed q t.1.1 around at))
    listed (of_frame {h = n} {c = c} {at = place} {a = x} {rest = rest} {names = names} out given narrow) t around at =
        called h around n function.DataFrame (codes "DataFrame") (named c place x rest) refl refl (given_listed given t.1 around at) (frame_lists h n given t.1 t.0 (given_some given))
    listed (of_read {h = n} {g = k} {k = m} {f = f} {c = c} {rest = rest} {names = names} out columns narrow) t around at =
        let xs : Args = plain (text k f) (plain (column m c) rest) in
        called h around n function.ReadCsv (codes "read_csv") xs refl refl (listed_both stop (flat_among h around around (plain (column m c) rest)) tt (columns_listed h around columns t.1.1)) (read_lists h n xs t.0 (columns_some columns))
    listed (of_nrow {h = n} {d = x} out p) t around at = plainly h around n function.Nrow (codes "nrow") (plain x none) refl refl tt (one_argument h around x (listed p t.1 around at))
    listed (of_filter {h = n} {d = x} {m = y} {columns = columns} out p q narrow) t around at =
        let is : IsProper (Frame columns) = proper p at.out at.proper in
        let inner = filtered_frame h.known (plain x (plain y none)) in
        listed_both (flat_among h around inner (plain x (plain y none))) (call_code h n function.Filter (plain x (plain y none)) (arguments_of h.known (plain x (plain y none))))
        (two_arguments h around inner x y (listed p t.1.0 around at) (listed q t.1.1 inner (in_mask at columns inner (names_at h x columns t.1.0.0)))) (filter_lists h n x y columns t.0 t.1.0.0 is.0)
    listed (of_join {h = n} {g = m} {l = x} {r = y} {k = k} {left = left} {right = right} out p q first second distinct narrow) t around at =
        let is : IsProper (Frame right) = proper q at.out at.proper in
        called h around n function.Join (codes "join") (plain x (plain y (plain (column m k) none))) refl refl
        (listed_both (flat h around x) (flat_among h around around (plain y (plain (column m k) none))) (listed p t.1.0 around at) (two_arguments h around around y (column m k) (listed q t.1.1 around at) (column_tree h around m k t.1.2)))
        (join_lists h n m x y k left right t.0 t.1.0.0 t.1.1.0 first second is)
    listed (of_aggregate {h = n} {g = m} {d = x} {m = e} {k = k} {c = c} {at = place} {rest = rest} {columns = columns} out p known measures narrow) t around at =
        called h around n function.Aggregate (codes "aggregate") (plain x (plain (column m k) (named c place e rest))) refl refl
        (listed_both (flat h around x) (joined (flat h around (column m k)) (flat_among h around around (named c place e rest))) (listed p t.1.0 around at)
        (listed_both (flat h around (column m k)) (flat_among h around around (named c place e rest)) (column_tree h around m k t.1.1) (measures_listed h around measures t.1.2)))
        (group_lists h n m x k columns t.0 t.1.0.0 known measures (measures_some measures))
    listed (of_sort {h = n} {g = m} {d = x} {k = k} {columns = columns} out p known narrow) t around at =
        called h around n function.Sort (codes "sort") (plain x (plain (column m k) none)) refl refl (two_arguments h around around x (column m k) (listed p t.1.0 around at) (column_tree h around m k t.1.1))
        (sort_lists h n m x k columns t.0 t.1.0.0 known)

    arrays_listed : {s : Scope} {xs : Args} (rest : AreArrays s xs) → ToldArrays h.known rest → (around : Columns) → AtPoint h.known s around → Listed (flat_among h around around xs)
    arrays_listed no_more_arrays t around at = tt
    arrays_listed (one_array {a = x} {rest = rest} p more) t around at = listed_both (flat h around x) (flat_among h around around rest) (listed p t.0 around at) (arrays_listed more t.1 around at)

    given_listed : {s : Scope} {before : List (List ℕ)} {xs : Args} {names : List Name} (rest : AreGiven s before xs names) → ToldGiven h.known rest → (around : Columns) → AtPoint h.known s around
        → Listed (flat_among h around around xs)
    given_listed no_more_given t around at = tt
    given_listed (one_given {a = x} {rest = rest} p new more) t around at = listed_both (flat h around x) (flat_among h around around rest) (listed p t.0 around at) (given_listed more t.1 around at)
