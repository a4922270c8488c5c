-- The calls of `read_csv` of an expression that fits, beside the files that are read: each finds a table as wide as its value.
use Rattle.std.proofs.Common.{◌≡◌, ℕ, true, false, ◌==◌, nat_lt, Bool, cond, codes, List, [], ◌∷◌, ◌++◌, length, slice_get, Option, Some, None, IsTrue, refl, sym, ap, subst, ◌∙◌, option_and_then, append_assoc, eq-eqb}
use Rattle.std.proofs.lemmas.List.{length-map}
use Rattle.std.proofs.lemmas.List.FromFn.{length-range_with_len}
use Rattle.std.specs.List.{AllByRecursion, position_or_len, range_with_len}
use Rattle.hp_word.specs.declared.name.Name.{Name}
use Rattle.hp_word.specs.declared.table.Table.{Table}
use Rattle.hp_script.specs.declared.typed.ReadSpec.{ReadSpec}
use Rattle.hp_script.specs.declared.typed.Shape.{Shape}
use Rattle.hp_script.specs.declared.typed.Shape.TheVariants.{Frame}
use Rattle.hp_script.specs.Checked.{files_of}
use Rattle.hp_script.specs.Entries.{columns_among, file_of_call, files_in, files_among}
use Rattle.hp_script.specs.Fitting.{FitsBlock, fits_done, fits_first, fits_again, fits_print, fits_export, fits_if, fits_while}
use Rattle.hp_script.specs.Mirror.{Head, Tree, Args, column, call, plain, range, named, none, lambda, Block}
use Rattle.hp_script.specs.Scope.{Scope, is_in_lambda}
use Rattle.hp_script.specs.Shaped.{HasShape, of_number, of_truth, of_parameter, of_variable, of_scalar_variable, of_field, of_column, of_negation, of_not, of_nots, of_arithmetic, of_arithmetics, of_comparison, of_comparisons, of_logic, of_mask, of_product, of_transposed, of_element, of_elements, of_window, of_scalar_call, of_scalar_calls, of_map, of_stencil, of_fill, of_collect, of_length, of_fold, of_truth_fold, of_count, of_cumsum, of_vcat, of_stack, of_row, of_frame, of_read, of_nrow, of_filter, of_join, of_aggregate, of_sort, AreArrays, no_more_arrays, one_array, AreGiven, no_more_given, one_given, AreColumns, no_more_columns, one_column, IsMeasure, measured_sum, measured_minimum, measured_maximum, measured_count, AreMeasures, no_more_measures, one_measure, IsScalarName, named_div, named_rem, named_min, named_max, IsNumberFold, named_sum, named_prod, named_minimum, named_maximum, IsTruthFold, named_any, named_all, ahead, behind}
use Rattle.hp_script.specs.Trees as trees
use Rattle.hp_air.specs.Unknowns.{of_node, at_node, shape_at, width}
use Rattle.hp_meaning.specs.ReadCalls.{is_read, reads_in, reads_among, reads_of, table_for}
use Rattle.hp_meaning.proofs.Parts.{Found, Supplies}
use Rattle.hp_meaning.proofs.ReadNames.{no_file}
use Rattle.hp_flat.specs.Homes.{Homes, slot_of, slots_of}
use Rattle.hp_flat.specs.FlatCalls.{table_of}
use Rattle.hp_flat.proofs.Fronts.{Gives, gives_nothing, gives_both, gives_mapped, gives_as}
use Rattle.hp_flat.proofs.ServedCode.{IsServed, all_both}
use Rattle.hp_flat.proofs.ToldTypes.{Told, ToldArrays, ToldGiven, ToldBlock}

-- ---- no files

pub scalar_reads_not : {f : List ℕ} (dotted : Bool) → IsScalarName f → is_read f dotted ≡ false
scalar_reads_not true one = refl
scalar_reads_not false named_div = refl
scalar_reads_not false named_rem = refl
scalar_reads_not false named_min = refl
scalar_reads_not false named_max = refl

not_both : {A : Type 0} (b : Bool) → b ≡ true → b ≡ false → A
not_both true e f = absurd cc
not_both false e f = absurd cc

-- the body of a lambda reads none
mutual
  unfolding files_in files_among

  pub body_files : {s : Scope} {x : Tree} {a : Shape} → HasShape s x a → is_in_lambda s ≡ true → files_in x ≡ []
  body_files of_number is = refl
  body_files of_truth is = refl
  body_files (of_parameter role) is = refl
  body_files (of_variable out v) is = refl
  body_files (of_scalar_variable one v) is = refl
  body_files (of_negation p) is = body_files p is
  body_files (of_not p) is = body_files p is
  body_files (of_nots p) is = body_files p is
  body_files (of_arithmetic op p q) is = rw (body_files p is, body_files q is) refl
  body_files (of_arithmetics op e p q) is = rw (body_files p is, body_files q is) refl
  body_files (of_comparison op p q) is = rw (body_files p is, body_files q is) refl
  body_files (of_comparisons op e p q) is = rw (body_files p is, body_files q is) refl
  body_files (of_logic op p q) is = rw (body_files p is, body_files q is) refl
  body_files (of_mask op e p q) is = rw (body_files p is, body_files q is) refl
  body_files (of_product p q) is = rw (body_files p is, body_files q is) refl
  body_files (of_window role ahead e) is = refl
  body_files (of_window role behind e) is = refl
  body_files (of_scalar_call {f = f} {a = x} {b = y} one p q) is = rw (no_file f false (plain x (plain y none)) (scalar_reads_not false one), body_files p is, body_files q is) refl
  body_files (of_scalar_calls {f = f} {a = x} {b = y} one e p q) is = rw (no_file f true (plain x (plain y none)) (scalar_reads_not true one), body_files p is, body_files q is) refl
  body_files {s = s} (of_field out v known) is = not_both (is_in_lambda s) is out
  body_files {s = s} (of_column out around known) is = not_both (is_in_lambda s) is out
  body_files {s = s} (of_transposed out p q) is = not_both (is_in_lambda s) is out
  body_files {s = s} (of_element out array p q) is = not_both (is_in_lambda s) is out
  body_files {s = s} (of_elements out array p q) is = not_both (is_in_lambda s) is out
  body_files {s = s} (of_map out array p becomes q) is = not_both (is_in_lambda s) is out
  body_files {s = s} (of_stencil out p q) is = not_both (is_in_lambda s) is out
  body_files {s = s} (of_fill out array p q) is = not_both (is_in_lambda s) is out
  body_files {s = s} (of_collect out p q) is = not_both (is_in_lambda s) is out
  body_files {s = s} (of_length out array p) is = not_both (is_in_lambda s) is out
  body_files {s = s} (of_fold out kind p) is = not_both (is_in_lambda s) is out
  body_files {s = s} (of_truth_fold out kind p) is = not_both (is_in_lambda s) is out
  body_files {s = s} (of_count out p) is = not_both (is_in_lambda s) is out
  body_files {s = s} (of_cumsum out p) is = not_both (is_in_lambda s) is out
  body_files {s = s} (of_vcat out array p q) is = not_both (is_in_lambda s) is out
  body_files {s = s} (of_stack out p rest) is = not_both (is_in_lambda s) is out
  body_files {s = s} (of_row out p q) is = not_both (is_in_lambda s) is out
  body_files {s = s} (of_frame out given narrow) is = not_both (is_in_lambda s) is out
  body_files {s = s} (of_read out columns narrow) is = not_both (is_in_lambda s) is out
  body_files {s = s} (of_nrow out p) is = not_both (is_in_lambda s) is out
  body_files {s = s} (of_filter out p q narrow) is = not_both (is_in_lambda s) is out
  body_files {s = s} (of_join out p q first second distinct narrow) is = not_both (is_in_lambda s) is out
  body_files {s = s} (of_aggregate out p known measures narrow) is = not_both (is_in_lambda s) is out
  body_files {s = s} (of_sort out p known narrow) is = not_both (is_in_lambda s) is out

pub number_fold_reads_not : {f : List ℕ} → IsNumberFold f → is_read f false ≡ false
number_fold_reads_not named_sum = refl
number_fold_reads_not named_prod = refl
number_fold_reads_not named_minimum = refl
number_fold_reads_not named_maximum = refl

pub truth_fold_reads_not : {f : List ℕ} → IsTruthFold f → is_read f false ≡ false
truth_fold_reads_not named_any = refl
truth_fold_reads_not named_all = refl

-- ---- a call that reads

columns_are : {before : List (List ℕ)} {xs : Args} {names : List Name} → AreColumns before xs names → columns_among xs ≡ names
columns_are no_more_columns = refl
columns_are (one_column {c = c} new more) = ap (λ (l : List Name). trees.named c ∷ l) (columns_are more)

pub placed : (below : Bool) (place : ℕ) (tables : List Table) (table : Table) → option_and_then (slice_get tables) (cond below (Some place) None) ≡ Some table → slice_get tables place ≡ Some table
placed true place tables table e = e
placed false place tables table e = absurd cc

-- a call whose value has these columns, and finds a table that has as many
found_is_served : (h : Homes) (tables : List Table) (id : ℕ) (names : List Name) → shape_at h.known id ≡ Some (Frame names) → Found (λ k. table_for h.reads k tables) id (length names) → IsServed h tables id
unfolding table_for
found_is_served h tables id names shape found =
    let at : slice_get tables (table_of h id) ≡ Some found.table = placed (nat_lt (position_or_len (λ k. k == id) h.reads) (length h.reads)) (table_of h id) tables found.table found.found in
    let wide : length (slots_of h (at_node h.known id)) ≡ length names =
    length-map (at_node h.known id) (slot_of h) ∙ length-map (range_with_len 0 (width (shape_at h.known id))) (of_node id) ∙ length-range_with_len 0 (width (shape_at h.known id)) ∙ ap width shape in
    subst (λ (o : Option Table). IsTrue (elim o [ None ↦ false | Some t ↦ length t.columns == length (slots_of h (at_node h.known id)) ])) (sym at)
    (eq-eqb (length found.table.columns) (length (slots_of h (at_node h.known id))) (found.wide ∙ sym wide))

module _ (h : Homes) (tables : List Table) where
  -- the table of a call
  abbrev pub find : ℕ → Option Table
  find id = table_for h.reads id tables

  abbrev Serving : List ℕ → List ReadSpec → Type 0
  Serving ids files = Gives (Supplies find) (AllByRecursion (IsServed h tables) ids) ids files

  serving_none : Serving [] []
  serving_none = gives_nothing

  serving_both : {ids others : List ℕ} {files more : List ReadSpec} → Serving ids files → Serving others more → Serving (ids ++ others) (files ++ more)
  serving_both {ids = ids} {others = others} p q = gives_mapped (λ r. all_both (IsServed h tables) ids others r.0 r.1) (gives_both p q)

  serving_last : {ids : List ℕ} {files : List ReadSpec} → Serving ids files → Serving (ids ++ []) (files ++ [])
  serving_last p = serving_both p serving_none

  serving_first : {ids : List ℕ} {files : List ReadSpec} (id : ℕ) (file : ReadSpec) → (Found find id (length file.columns) → IsServed h tables id) → Serving ids files → Serving (id ∷ ids) (file ∷ files)
  serving_first id file served p = record { take = λ more others t. let r = p.take more others t.1 in ((served t.0, r.0), r.1) }

  serving_own : {ids : List ℕ} {files : List ReadSpec} (is : Bool) (id : ℕ) (own : List ReadSpec) → is ≡ false → own ≡ [] → Serving ids files → Serving (cond is (id ∷ []) [] ++ ids) (own ++ files)
  serving_own true id own e f p = absurd cc
  serving_own {files = files} false id own e f p = gives_as (ap (λ (l : List ReadSpec). l ++ files) (sym f)) p

  -- a call that reads no file
  serving_call : (n : Head) (name : List ℕ) (dotted : Bool) (xs : Args) → is_read name dotted ≡ false → Serving (reads_among xs) (files_among xs)
      → Serving (reads_in (call n name dotted xs)) (files_in (call n name dotted xs))
  unfolding reads_in files_in
  serving_call n name dotted xs e p = serving_own (is_read name dotted) n.id (file_of_call name dotted xs) e (no_file name dotted xs e) p

  serving_columns : {before : List (List ℕ)} {xs : Args} {names : List Name} → AreColumns before xs names → Serving (reads_among xs) (files_among xs)
  unfolding reads_among files_among reads_in files_in
  serving_columns no_more_columns = serving_none
  serving_columns (one_column new more) = serving_columns more

  serving_measure : {columns : List Name} {x : Tree} → IsMeasure columns x → Serving (reads_in x) (files_in x)
  unfolding reads_among files_among reads_in files_in
  serving_measure (measured_sum known) = serving_none
  serving_measure (measured_minimum known) = serving_none
  serving_measure (measured_maximum known) = serving_none
  serving_measure measured_count = serving_none

  serving_measures : {columns : List Name} {before : List (List ℕ)} {xs : Args} {names : List Name} → AreMeasures columns before xs names → Serving (reads_among xs) (files_among xs)
  unfolding reads_among files_among
  serving_measures no_more_measures = serving_none
  serving_measures (one_measure is new more) = serving_both (serving_measure is) (serving_measures more)

  -- the arguments of a call with a lambda
  serving_lambda : {s : Scope} {e : Tree} {made : Shape} (p : List ℕ) (x : Tree) → HasShape s e made → is_in_lambda s ≡ true → Serving (reads_in x) (files_in x)
      → Serving (reads_among (lambda p e (plain x none))) (files_among (lambda p e (plain x none)))
  unfolding reads_among files_among
  serving_lambda p x body is served = gives_as (ap (λ (l : List ReadSpec). l ++ (files_in x ++ [])) (sym (body_files body is))) (serving_last served)

  mutual
    unfolding reads_in files_in reads_among files_among

    pub serving : {s : Scope} {x : Tree} {a : Shape} (p : HasShape s x a) → Told h.known p → Serving (reads_in x) (files_in x)
    serving of_number told = serving_none
    serving of_truth told = serving_none
    serving (of_parameter role) told = serving_none
    serving (of_variable out v) told = serving_none
    serving (of_scalar_variable one v) told = serving_none
    serving (of_field out v known) told = serving_none
    serving (of_column out around known) told = serving_none
    serving (of_negation p) told = serving p told.1
    serving (of_not p) told = serving p told.1
    serving (of_nots p) told = serving p told.1
    serving (of_arithmetic op p q) told = serving_both (serving p told.1.0) (serving q told.1.1)
    serving (of_arithmetics op e p q) told = serving_both (serving p told.1.0) (serving q told.1.1)
    serving (of_comparison op p q) told = serving_both (serving p told.1.0) (serving q told.1.1)
    serving (of_comparisons op e p q) told = serving_both (serving p told.1.0) (serving q told.1.1)
    serving (of_logic op p q) told = serving_both (serving p told.1.0) (serving q told.1.1)
    serving (of_mask op e p q) told = serving_both (serving p told.1.0) (serving q told.1.1)
    serving (of_product p q) told = serving_both (serving p told.1.0) (serving q told.1.1)
    serving (of_transposed {g = n} {b = y} out p q) told = serving_both (serving p told.1.0) (serving_call n (codes "transpose") false (plain y none) refl (serving_last (serving q told.1.2)))
    serving (of_element out array p q) told = serving_both (serving p told.1.0) (serving q told.1.1)
    serving (of_elements out array p q) told = serving_both (serving p told.1.0) (serving q told.1.1)
    serving (of_window role ahead e) told = serving_none
    serving (of_window role behind e) told = serving_none
    serving (of_scalar_call {h = n} {f = f} {a = x} {b = y} one p q) told =
        serving_call n f false (plain x (plain y none)) (scalar_reads_not false one) (serving_both (serving p told.1.0) (serving_last (serving q told.1.1)))
    serving (of_scalar_calls {h = n} {f = f} {a = x} {b = y} one e p q) told =
        serving_call n f true (plain x (plain y none)) refl (serving_both (serving p told.1.0) (serving_last (serving q told.1.1)))
    serving (of_map {h = n} {p = parameter} {e = e} {a = x} out array p becomes q) told = serving_call n (codes "map") false (lambda parameter e (plain x none)) refl (serving_lambda parameter x q refl (serving p told.1.0))
    serving (of_stencil {h = n} {p = parameter} {e = e} {a = x} out p q) told = serving_call n (codes "stencil") false (lambda parameter e (plain x none)) refl (serving_lambda parameter x p refl (serving q told.1.1))
    serving (of_fill {h = n} {v = x} {k = y} out array p q) told =
        serving_call n (codes "fill") false (plain x (plain y none)) refl (serving_both (serving p told.1.0) (serving_last (serving q told.1.1)))
    serving (of_collect {h = n} {a = x} {b = y} out p q) told =
        serving_call n (codes "collect") false (range x y none) refl (serving_last (serving_both (serving p told.1.0) (serving q told.1.1)))
    serving (of_length {h = n} {a = x} out array p) told = serving_call n (codes "length") false (plain x none) refl (serving_last (serving p told.1))
    serving (of_fold {h = n} {f = f} {a = x} out is p) told = serving_call n f false (plain x none) (number_fold_reads_not is) (serving_last (serving p told.1))
    serving (of_truth_fold {h = n} {f = f} {a = x} out is p) told = serving_call n f false (plain x none) (truth_fold_reads_not is) (serving_last (serving p told.1))
    serving (of_count {h = n} {a = x} out p) told = serving_call n (codes "count") false (plain x none) refl (serving_last (serving p told.1))
    serving (of_cumsum {h = n} {a = x} out p) told = serving_call n (codes "cumsum") false (plain x none) refl (serving_last (serving p told.1))
    serving (of_vcat {h = n} {a = x} {b = y} out array p q) told =
        serving_call n (codes "vcat") false (plain x (plain y none)) refl (serving_both (serving p told.1.0) (serving_last (serving q told.1.1)))
    serving (of_stack {h = n} {a = x} {rest = rest} out p more) told = serving_call n (codes "stack") false (plain x rest) refl (serving_both (serving p told.1.0) (serving_arrays more told.1.1))
    serving (of_row {h = n} {m = x} {i = y} out p q) told =
        serving_call n (codes "row") false (plain x (plain y none)) refl (serving_both (serving p told.1.0) (serving_last (serving q told.1.1)))
    serving (of_frame {h = n} {c = c} {at = at} {a = x} {rest = rest} out given narrow) told = serving_call n (codes "DataFrame") false (named c at x rest) refl (serving_given given told.1)
    serving (of_read {h = n} {k = m} {f = f} {c = c} {rest = rest} {names = names} out columns narrow) told =
        serving_first n.id (record { file = trees.named f; columns = columns_among (plain (column m c) rest) })
        (λ found. found_is_served h tables n.id names told.0 (subst (λ (l : List Name). Found find n.id (length l)) (columns_are columns) found)) (serving_columns columns)
    serving (of_nrow {h = n} {d = x} out p) told = serving_call n (codes "nrow") false (plain x none) refl (serving_last (serving p told.1))
    serving (of_filter {h = n} {d = x} {m = y} out p q narrow) told =
        serving_call n (codes "filter") false (plain x (plain y none)) refl (serving_both (serving p told.1.0) (serving_last (serving q told.1.1)))
    serving (of_join {h = n} {g = m} {l = x} {r = y} {k = k} out p q first second distinct narrow) told =
        serving_call n (codes "join") false (plain x (plain y (plain (column m k) none))) refl (serving_both (serving p told.1.0) (serving_last (serving q told.1.1)))
    serving (of_aggregate {h = n} {g = k} {d = x} {m = m} {k = key} {c = c} {at = at} {rest = rest} out p known measures narrow) told =
        serving_call n (codes "aggregate") false (plain x (plain (column k key) (named c at m rest))) refl (serving_both (serving p told.1.0) (serving_measures measures))
    serving (of_sort {h = n} {g = m} {d = x} {k = k} out p known narrow) told = serving_call n (codes "sort") false (plain x (plain (column m k) none)) refl (serving_last (serving p told.1.0))

    serving_arrays : {s : Scope} {xs : Args} (rest : AreArrays s xs) → ToldArrays h.known rest → Serving (reads_among xs) (files_among xs)
    serving_arrays no_more_arrays told = serving_none
    serving_arrays (one_array p rest) told = serving_both (serving p told.0) (serving_arrays rest told.1)

    serving_given : {s : Scope} {before : List (List ℕ)} {xs : Args} {names : List Name} (rest : AreGiven s before xs names) → ToldGiven h.known rest → Serving (reads_among xs) (files_among xs)
    serving_given no_more_given told = serving_none
    serving_given (one_given p new rest) told = serving_both (serving p told.0) (serving_given rest told.1)

  -- ---- statements

  pub serving_block : {s : Scope} {b : Block} {t : Scope} (f : FitsBlock s b t) → ToldBlock h.known f → Serving (reads_of b) (files_of b)
  unfolding reads_of files_of
  serving_block fits_done told = serving_none
  serving_block (fits_first p new next) told = serving_both (serving p told.0) (serving_block next told.1)
  serving_block (fits_again p known next) told = serving_both (serving p told.0) (serving_block next told.1)
  serving_block (fits_print p can next) told = serving_both (serving p told.0) (serving_block next told.1)
  serving_block (fits_export p next) told = serving_both (serving p told.0) (serving_block next told.1)
  serving_block (fits_if {c = c} {body = body} {other = other} {rest = rest} p first second next) told =
      gives_as (ap (λ (l : List ReadSpec). l ++ files_of rest) (sym (append_assoc (files_in c) (files_of body) (files_of other))))
      (serving_both (serving_both (serving p told.0) (serving_both (serving_block first told.1) (serving_block second told.2))) (serving_block next told.3))
  serving_block (fits_while p turn next) told = serving_both (serving_both (serving p told.0) (serving_block turn told.1)) (serving_block next told.2)
