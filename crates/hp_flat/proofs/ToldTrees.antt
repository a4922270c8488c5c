-- What is told at the numbers of an expression that fits, and of its parts.
use Rattle.std.proofs.Common.{◌≡◌, ℕ, codes, true, false, List, [], ◌∷◌, ◌++◌, Option, Some, refl, sym, ap}
use Rattle.hp_word.specs.declared.fold.FoldKind.{FoldKind}
use Rattle.hp_word.specs.declared.fold.FoldKind.TheVariants as fold
use Rattle.hp_word.specs.declared.name.Name.{Name}
use Rattle.hp_word.specs.declared.place.Place.{Place}
use Rattle.hp_script.specs.declared.argument.Argument.{Argument}
use Rattle.hp_script.specs.declared.argument.Argument.TheVariants.{Text}
use Rattle.hp_script.specs.declared.function.Function.TheVariants as function
use Rattle.hp_script.specs.declared.function.ScalarFunction.{ScalarFunction}
use Rattle.hp_script.specs.declared.function.ScalarFunction.TheVariants as scalar
use Rattle.hp_script.specs.declared.tree.BinOp.TheVariants.{Mul}
use Rattle.hp_script.specs.declared.tree.UnOp.TheVariants.{Neg, Not}
use Rattle.hp_script.specs.declared.typed.Shape.{Shape}
use Rattle.hp_script.specs.Entries.{plain_entries, named_entries}
use Rattle.hp_script.specs.Functions.{scalar_named, fold_named, array_named, frame_named, function_named}
use Rattle.hp_script.specs.Mirror.{Tree, Args, call, plain, none, range, lambda, column, text, named}
use Rattle.hp_script.specs.Nodes.{nodes_in, nodes_in_args}
use Rattle.hp_script.specs.Scope.{Scope}
use Rattle.hp_script.specs.Shaped.{HasShape, of_number, of_truth, of_parameter, of_variable, of_scalar_variable, of_field, of_column, of_negation, of_not, of_nots, of_arithmetic, of_arithmetics, of_comparison, of_comparisons, of_logic, of_mask, of_product, of_transposed, of_element, of_elements, of_window, of_scalar_call, of_scalar_calls, of_map, of_stencil, of_fill, of_collect, of_length, of_fold, of_truth_fold, of_count, of_cumsum, of_vcat, of_stack, of_row, of_frame, of_read, of_nrow, of_filter, of_join, of_aggregate, of_sort, AreArrays, no_more_arrays, one_array, AreGiven, no_more_given, one_given, IsScalarName, named_div, named_rem, named_min, named_max, IsNumberFold, named_sum, named_prod, named_minimum, named_maximum, IsTruthFold, named_any, named_all}
use Rattle.hp_script.specs.Trees as trees
use Rattle.hp_script.specs.Typing.{wanted, inside, plain_argument, named_argument}
use Rattle.hp_script.specs.Walk.{found_of, shape_of, entries_of, finds_of, in_turn}
use Rattle.hp_script.proofs.Completeness.{complete}
use Rattle.hp_script.proofs.CompleteParts.{is_no_window}
use Rattle.hp_script.proofs.Turns.{entries_from}
use Rattle.hp_air.specs.Unknowns.{Known}
use Rattle.hp_flat.proofs.ToldCalls.{gives_unary, gives_binary, gives_index, gives_window, gives_call, gives_transpose, gives_map, gives_filter, gives_columns, gives_measures}
use Rattle.hp_flat.proofs.Fronts.{AreAt, Gives, gives_nothing, gives_one, gives_behind, gives_both, gives_mapped, gives_as, gives_last}
use Rattle.hp_flat.proofs.ToldTypes.{Told, ToldArrays, ToldGiven}

-- ---- names of functions

pub record IsScalarOf (dotted : _) (name : List ℕ) : Type 0 where
  pub of_it : ScalarFunction
  pub is : function_named dotted name ≡ Some (function.Scalar of_it)

pub scalar_of_name : (dotted : _) {name : List ℕ} → IsScalarName name → IsScalarOf dotted name
unfolding function_named scalar_named
scalar_of_name dotted named_div = record { of_it = scalar.Div; is = refl }
scalar_of_name dotted named_rem = record { of_it = scalar.Rem; is = refl }
scalar_of_name dotted named_min = record { of_it = scalar.Min; is = refl }
scalar_of_name dotted named_max = record { of_it = scalar.Max; is = refl }

pub record IsFoldOf (name : List ℕ) : Type 0 where
  pub of_it : FoldKind
  pub is : function_named false name ≡ Some (function.Fold of_it)

pub number_fold_of_name : {name : List ℕ} → IsNumberFold name → IsFoldOf name
unfolding function_named scalar_named fold_named
number_fold_of_name named_sum = record { of_it = fold.Sum; is = refl }
number_fold_of_name named_prod = record { of_it = fold.Prod; is = refl }
number_fold_of_name named_minimum = record { of_it = fold.Min; is = refl }
number_fold_of_name named_maximum = record { of_it = fold.Max; is = refl }

pub truth_fold_of_name : {name : List ℕ} → IsTruthFold name → IsFoldOf name
unfolding function_named scalar_named fold_named
truth_fold_of_name named_any = record { of_it = fold.Any; is = refl }
truth_fold_of_name named_all = record { of_it = fold.All; is = refl }

-- ---- expressions

module _ (g : Known) where
  mutual
    unfolding found_of function_named scalar_named fold_named array_named frame_named finds_of in_turn plain_entries named_entries wanted inside plain_argument named_argument

    pub tells : {s : Scope} {x : Tree} {a : Shape} (p : HasShape s x a) → Gives (AreAt g) (Told g p) (nodes_in x) (entries_of s x)
    tells of_number = gives_mapped (λ r. (r, tt)) (gives_one g)
    tells of_truth = gives_mapped (λ r. (r, tt)) (gives_one g)
    tells {s = s} (of_parameter {h = h} {p = p} {a = a} role) =
        gives_mapped (λ r. (r, tt)) (gives_as (ap (λ (o : Option Shape). o ∷ []) (sym (complete (of_parameter {s = s} {h = h} {p = p} {a = a} role)).shape)) (gives_one g))
    tells {s = s} (of_variable {h = h} {v = v} out is) =
        gives_mapped (λ r. (r, tt)) (gives_as (ap (λ (o : Option Shape). o ∷ []) (sym (complete (of_variable {s = s} {h = h} {v = v} out is)).shape)) (gives_one g))
    tells {s = s} (of_scalar_variable {h = h} {v = v} one is) =
        gives_mapped (λ r. (r, tt)) (gives_as (ap (λ (o : Option Shape). o ∷ []) (sym (complete (of_scalar_variable {s = s} {h = h} {v = v} one is)).shape)) (gives_one g))
    tells (of_field out v known) = gives_mapped (λ r. (r, tt)) (gives_one g)
    tells (of_column out around known) = gives_mapped (λ r. (r, tt)) (gives_one g)
    tells {s = s} (of_negation {h = h} {a = x} p) = gives_unary g s h Neg false x (complete (of_negation {h = h} p)).shape (tells p)
    tells {s = s} (of_not {h = h} {a = x} p) = gives_unary g s h Not false x (complete (of_not {h = h} p)).shape (tells p)
    tells {s = s} (of_nots {h = h} {a = x} p) = gives_unary g s h Not true x (complete (of_nots {h = h} p)).shape (tells p)
    tells {s = s} (of_arithmetic {h = h} {op = op} {a = x} {b = y} is p q) = gives_binary g s h op false x y (complete (of_arithmetic {h = h} is p q)).shape (tells p) (tells q)
    tells {s = s} (of_arithmetics {h = h} {op = op} {a = x} {b = y} is e p q) = gives_binary g s h op true x y (complete (of_arithmetics {h = h} is e p q)).shape (tells p) (tells q)
    tells {s = s} (of_comparison {h = h} {op = op} {a = x} {b = y} is p q) = gives_binary g s h op false x y (complete (of_comparison {h = h} is p q)).shape (tells p) (tells q)
    tells {s = s} (of_comparisons {h = h} {op = op} {a = x} {b = y} is e p q) = gives_binary g s h op true x y (complete (of_comparisons {h = h} is e p q)).shape (tells p) (tells q)
    tells {s = s} (of_logic {h = h} {op = op} {a = x} {b = y} is p q) = gives_binary g s h op false x y (complete (of_logic {h = h} is p q)).shape (tells p) (tells q)
    tells {s = s} (of_mask {h = h} {op = op} {a = x} {b = y} is e p q) = gives_binary g s h op true x y (complete (of_mask {h = h} is e p q)).shape (tells p) (tells q)
    tells {s = s} (of_product {h = h} {a = x} {b = y} p q) = gives_binary g s h Mul false x y (complete (of_product {h = h} p q)).shape (tells p) (tells q)
    tells {s = s} (of_transposed {h = h} {g = k} {a = x} {b = y} out p q) =
        gives_mapped (λ r. (r.0, (r.1.0, r.1.1.0, r.1.1.1)))
        (gives_binary g s h Mul false x (call k (codes "transpose") false (plain y none)) (complete (of_transposed {h = h} {g = k} out p q)).shape (tells p) (gives_transpose g s k y (tells q)))
    tells {s = s} (of_element {h = h} {a = x} {i = i} out array p q) =
        gives_index g s h x i (is_no_window s x (complete p).passed) (complete (of_element {h = h} out array p q)).shape (tells p) (tells q)
    tells {s = s} (of_elements {h = h} {a = x} {k = i} out array p q) =
        gives_index g s h x i (is_no_window s x (complete p).passed) (complete (of_elements {h = h} out array p q)).shape (tells p) (tells q)
    tells {s = s} (of_window {h = h} {g = k} {p = p} {d = i} role is e) = gives_window g s h k p i role is (complete (of_window {s = s} {h = h} {g = k} {p = p} {d = i} role is e)).shape
    tells {s = s} (of_scalar_call {h = h} {f = f} {a = x} {b = y} is p q) =
        let o = scalar_of_name false is in
        gives_call g (function.Scalar o.of_it) s h f false (plain x (plain y none)) o.is refl (complete (of_scalar_call {h = h} is p q)).shape (gives_both (tells p) (gives_last (tells q)))
    tells {s = s} (of_scalar_calls {h = h} {f = f} {a = x} {b = y} is e p q) =
        let o = scalar_of_name true is in
        gives_call g (function.Scalar o.of_it) s h f true (plain x (plain y none)) o.is refl (complete (of_scalar_calls {h = h} is e p q)).shape (gives_both (tells p) (gives_last (tells q)))
    tells {s = s} (of_map {h = h} {p = n} {e = e} {a = x} out array p becomes q) =
        gives_call g function.Map s h (codes "map") false (lambda n e (plain x none)) refl refl (complete (of_map {h = h} out array p becomes q)).shape
        (gives_map g s h.at n e x array (complete p).shape (tells p) (tells q))
    tells {s = s} (of_stencil {h = h} {p = n} {e = e} {a = x} out p q) =
        gives_call g function.Stencil s h (codes "stencil") false (lambda n e (plain x none)) refl refl (complete (of_stencil {h = h} out p q)).shape (gives_both (tells p) (gives_last (tells q)))
    tells {s = s} (of_fill {h = h} {v = x} {k = y} out array p q) =
        gives_call g function.Fill s h (codes "fill") false (plain x (plain y none)) refl refl (complete (of_fill {h = h} out array p q)).shape (gives_both (tells p) (gives_last (tells q)))
    tells {s = s} (of_collect {h = h} {a = x} {b = y} out p q) =
        gives_call g function.Collect s h (codes "collect") false (range x y none) refl refl (complete (of_collect {h = h} out p q)).shape (gives_last (gives_both (tells p) (tells q)))
    tells {s = s} (of_length {h = h} {a = x} out array p) =
        gives_call g function.Length s h (codes "length") false (plain x none) refl refl (complete (of_length {h = h} out array p)).shape (gives_last (tells p))
    tells {s = s} (of_fold {h = h} {f = f} {a = x} out is p) =
        let o = number_fold_of_name is in
        gives_call g (function.Fold o.of_it) s h f false (plain x none) o.is refl (complete (of_fold {h = h} out is p)).shape (gives_last (tells p))
    tells {s = s} (of_truth_fold {h = h} {f = f} {a = x} out is p) =
        let o = truth_fold_of_name is in
        gives_call g (function.Fold o.of_it) s h f false (plain x none) o.is refl (complete (of_truth_fold {h = h} out is p)).shape (gives_last (tells p))
    tells {s = s} (of_count {h = h} {a = x} out p) =
        gives_call g function.Count s h (codes "count") false (plain x none) refl refl (complete (of_count {h = h} out p)).shape (gives_last (tells p))
    tells {s = s} (of_cumsum {h = h} {a = x} out p) =
        gives_call g function.Cumsum s h (codes "cumsum") false (plain x none) refl refl (complete (of_cumsum {h = h} out p)).shape (gives_last (tells p))
    tells {s = s} (of_vcat {h = h} {a = x} {b = y} out array p q) =
        gives_call g function.Vcat s h (codes "vcat") false (plain x (plain y none)) refl refl (complete (of_vcat {h = h} out array p q)).shape (gives_both (tells p) (gives_last (tells q)))
    tells {s = s} (of_stack {h = h} {a = x} {rest = rest} out p more) =
        gives_call g function.Stack s h (codes "stack") false (plain x rest) refl refl (complete (of_stack {h = h} out p more)).shape (gives_both (tells p) (tells_arrays h.at more _))
    tells {s = s} (of_row {h = h} {m = x} {i = y} out p q) =
        gives_call g function.Row s h (codes "row") false (plain x (plain y none)) refl refl (complete (of_row {h = h} out p q)).shape (gives_both (tells p) (gives_last (tells q)))
    tells {s = s} (of_frame {h = h} {c = c} {at = at} {a = x} {rest = rest} out given narrow) =
        gives_call g function.DataFrame s h (codes "DataFrame") false (named c at x rest) refl refl (complete (of_frame {h = h} out given narrow)).shape (tells_given h.at given [])
    tells {s = s} (of_read {h = h} {g = k} {k = m} {f = f} {c = c} {rest = rest} out columns narrow) =
        gives_call g function.ReadCsv s h (codes "read_csv") false (plain (text k f) (plain (column m c) rest)) refl refl (complete (of_read {h = h} {g = k} out columns narrow)).shape
        (gives_behind g (gives_columns g s h.at columns (Text (trees.named f)) []))
    tells {s = s} (of_nrow {h = h} {d = x} out p) =
        gives_call g function.Nrow s h (codes "nrow") false (plain x none) refl refl (complete (of_nrow {h = h} out p)).shape (gives_last (tells p))
    tells {s = s} (of_filter {h = h} {d = x} {m = y} out p q narrow) =
        gives_call g function.Filter s h (codes "filter") false (plain x (plain y none)) refl refl (complete (of_filter {h = h} out p q narrow)).shape (gives_filter g s h.at x y (complete p).shape (tells p) (tells q))
    tells {s = s} (of_join {h = h} {g = k} {l = x} {r = y} {k = c} out p q first second distinct narrow) =
        gives_call g function.Join s h (codes "join") false (plain x (plain y (plain (column k c) none))) refl refl (complete (of_join {h = h} {g = k} out p q first second distinct narrow)).shape
        (gives_mapped (λ r. (r.0, r.1.0, r.1.1)) (gives_both (tells p) (gives_both (tells q) (gives_one g))))
    tells {s = s} (of_aggregate {h = h} {g = k} {d = x} {m = m} {k = c} {c = n} {at = at} {rest = rest} out p known measures narrow) =
        gives_call g function.Aggregate s h (codes "aggregate") false (plain x (plain (column k c) (named n at m rest))) refl refl (complete (of_aggregate {h = h} {g = k} out p known measures narrow)).shape
        (gives_mapped (λ r. (r.0, r.1.0, r.1.1)) (gives_both (tells p) (gives_behind g (gives_measures g s h.at measures _ _ []))))
    tells {s = s} (of_sort {h = h} {g = k} {d = x} {k = c} out p known narrow) =
        gives_call g function.Sort s h (codes "sort") false (plain x (plain (column k c) none)) refl refl (complete (of_sort {h = h} {g = k} out p known narrow)).shape (gives_both (tells p) (gives_one g))

    tells_arrays : {s : Scope} {xs : Args} (at : Place) (rest : AreArrays s xs) (before : List Argument) → Gives (AreAt g) (ToldArrays g rest) (nodes_in_args xs) (entries_from s at function.Stack before xs)
    tells_arrays at no_more_arrays before = gives_nothing
    tells_arrays {s = s} at (one_array {a = x} p rest) before = gives_both (tells p) (tells_arrays at rest (before ++ plain_argument (wanted function.Stack before) x (shape_of s x) ∷ []))

    tells_given : {s : Scope} {own : List (List ℕ)} {xs : Args} {names : List Name} (at : Place) (rest : AreGiven s own xs names) (before : List Argument)
        → Gives (AreAt g) (ToldGiven g rest) (nodes_in_args xs) (entries_from s at function.DataFrame before xs)
    tells_given at no_more_given before = gives_nothing
    tells_given {s = s} at (one_given {c = c} {a = x} p new rest) before =
        gives_both (tells p) (tells_given at rest (before ++ named_argument (wanted function.DataFrame before) c x (shape_of s x) ∷ []))
