-- The slots and words of calls by their parts: names of columns and measures, dotted calls, lambdas, and the frame that a
-- filter's mask sees.
use Rattle.std.proofs.Common.{◌≡◌, ◌≢◌, ℕ, true, false, codes, bytes_eq, List, [], ◌∷◌, map, length, Option, Some, IsTrue, refl, sym, ◌∙◌, subst}
use Rattle.std.specs.List.{AllByRecursion}
use Rattle.hp_word.specs.declared.fold.FoldKind.TheVariants as folds
use Rattle.hp_word.specs.declared.name.Name.{Name}
use Rattle.hp_word.specs.declared.place.Place.{Place}
use Rattle.hp_script.specs.declared.function.Function.TheVariants as function
use Rattle.hp_script.specs.declared.function.ScalarFunction.{ScalarFunction}
use Rattle.hp_script.specs.declared.typed.Shape.{Shape}
use Rattle.hp_script.specs.declared.typed.Shape.TheVariants.{Int, Ints, Frame}
use Rattle.hp_script.specs.declared.typed.Typed.{Typed}
use Rattle.hp_script.specs.Functions.{scalar_named, fold_named, array_named, function_named}
use Rattle.hp_script.specs.Mirror.{Head, Tree, Args, column, call, none, plain}
use Rattle.hp_script.specs.Scope.{Scope, element, window, with_columns, with_parameter}
use Rattle.hp_script.specs.Shaped.{IsOutside, HasShape, AreColumns, no_more_columns, one_column, IsMeasure, measured_sum, measured_minimum, measured_maximum, measured_count, AreMeasures, no_more_measures, one_measure}
use Rattle.hp_program.specs.Programs.{Prog}
use Rattle.hp_air.specs.declared.what.Op.{Op}
use Rattle.hp_air.specs.declared.what.What.TheVariants as what
use Rattle.hp_air.specs.Arrays.{Stencil}
use Rattle.hp_air.specs.Carried.{is_among}
use Rattle.hp_air.specs.Kept.{elem_fits}
use Rattle.hp_air.specs.Unknowns.{Unknown, of_node, balanced_of, Columns, columns_of, column_named, filtered_frame, known_of, shape_at, number_of, width, at_node, arrays_at, of_one, unknowns}
use Rattle.hp_meaning.specs.ArgumentShapes.{two_plain, one_plain, all_written}
use Rattle.hp_meaning.specs.ValueOf.{measures_in}
use Rattle.hp_meaning.specs.WordRules.{scalar_calc}
use Rattle.hp_flat.specs.Elements.{elem_of, reach_of}
use Rattle.hp_flat.specs.Flat.{flat, flat_among}
use Rattle.hp_flat.specs.FlatCalls.{code_of, where_some, of_array, out_of, outs_of, ins_of, frame_at, key_in, measure_at, array_copy, call_code, named_call}
use Rattle.hp_flat.specs.Homes.{Homes, homes_of, homes_in, slot_of, slots_of, is_matrix, words_in}
use Rattle.hp_flat.proofs.ElemFits.{map_fits, stencil_fits}
use Rattle.hp_flat.proofs.ListCalls.{none_untold}
use Rattle.hp_flat.proofs.ListCode.{array_count, names_at}
use Rattle.hp_flat.proofs.Points.{in_mask}
use Rattle.hp_flat.proofs.SlotCalls.{Is, dotted_slots, map_slots}
use Rattle.hp_flat.proofs.SlotCode.{is_slotted, is_word, slots, words, Slotted, slotted_both, some_shapes, single, value_as, part_reads}
use Rattle.hp_flat.proofs.SlotTables.{stencil_slots, keyed_slots}
use Rattle.hp_flat.proofs.SlotTrees.{Here, any_call, called, one_argument}
use Rattle.hp_flat.proofs.SlotValues.{Fine, Grid, Value}
use Rattle.hp_flat.proofs.SmallCode.{value_count}
use Rattle.hp_flat.proofs.Throughout.{through_some}
use Rattle.hp_flat.proofs.ToldTypes.{IsUntold, ToldColumns, ToldMeasure, ToldMeasures}
use Rattle.hp_flat.proofs.TreeParts.{Has}

module _ (typed : Typed) where
  abbrev h : Homes
  h = homes_of typed

  -- ---- names of columns, and measures

  nothing_copied : (at : Place) (us ins : List Unknown) → us ≡ [] → Slotted typed (array_copy h at us ins)
  unfolding array_copy
  nothing_copied at [] ins e = tt
  nothing_copied at (u ∷ us) ins e = absurd cc

  nothing_made : (us : List Unknown) (made : Unknown → Prog Op) → us ≡ [] → Slotted typed (of_array us made)
  nothing_made [] made e = tt
  nothing_made (u ∷ us) made e = absurd cc

  -- the name of a column, which has no value
  pub column_tree : (around : Columns) (n : Head) (c : List ℕ) → IsUntold (known_of typed) n → Slotted typed (flat h around (column n c))
  unfolding flat homes_of homes_in
  column_tree around n c untold = nothing_copied n.at (at_node (known_of typed) n.id) (column_named around c) (none_untold h n.id untold)

  pub columns_slotted : {before : List (List ℕ)} {xs : Args} {names : List Name} (around : Columns) (columns : AreColumns before xs names) → ToldColumns (known_of typed) columns → Slotted typed (flat_among h around around xs)
  unfolding flat_among
  columns_slotted around no_more_columns told = tt
  columns_slotted around (one_column {h = n} {c = c} {rest = rest} new more) told =
      slotted_both typed (flat h around (column n c)) (flat_among h around around rest) (column_tree around n c told.0) (columns_slotted around more told.1)

  measure_tree : {columns : List Name} {x : Tree} (around : Columns) (is : IsMeasure columns x) → ToldMeasure (known_of typed) is → Slotted typed (flat h around x)
  unfolding flat_among call_code function_named scalar_named fold_named array_named homes_of homes_in
  measure_tree around (measured_sum {h = n} {g = k} {b = b} known) told =
      called typed around n (function.Fold folds.Sum) (codes "sum") (plain (column k b) none) refl refl (one_argument typed around (column k b) (column_tree around k b told.1)) (nothing_made (at_node (known_of typed) k.id) _ (none_untold h k.id told.1))
  measure_tree around (measured_minimum {h = n} {g = k} {b = b} known) told =
      called typed around n (function.Fold folds.Min) (codes "minimum") (plain (column k b) none) refl refl (one_argument typed around (column k b) (column_tree around k b told.1)) (nothing_made (at_node (known_of typed) k.id) _ (none_untold h k.id told.1))
  measure_tree around (measured_maximum {h = n} {g = k} {b = b} known) told =
      called typed around n (function.Fold folds.Max) (codes "maximum") (plain (column k b) none) refl refl (one_argument typed around (column k b) (column_tree around k b told.1)) (nothing_made (at_node (known_of typed) k.id) _ (none_untold h k.id told.1))
  measure_tree around (measured_count {h = n}) told = called typed around n function.Count (codes "count") none refl refl tt tt

  pub measures_slotted : {columns : List Name} {before : List (List ℕ)} {xs : Args} {names : List Name} (around : Columns) (are : AreMeasures columns before xs names) → ToldMeasures (known_of typed) are
      → Slotted typed (flat_among h around around xs)
  unfolding flat_among
  measures_slotted around no_more_measures told = tt
  measures_slotted around (one_measure {m = m} {rest = rest} is new more) told =
      slotted_both typed (flat h around m) (flat_among h around around rest) (measure_tree around is told.0) (measures_slotted around more told.1)

  -- ---- dotted calls and lambdas

  pub dotted_call : {one other : Shape} (around : Columns) (n : Head) (f : ScalarFunction) (name : List ℕ) (x y : Tree) → function_named true name ≡ Some (function.Scalar f) → bytes_eq name (codes "filter") ≡ false
      → Is typed n.id Ints → Is typed (number_of x) one → Is typed (number_of y) other → (is_matrix (Some one) ≡ false) × (is_matrix (Some other) ≡ false) → number_of x ≢ n.id → number_of y ≢ n.id
      → Slotted typed (flat_among h around around (plain x (plain y none))) → Slotted typed (flat h around (call n name true (plain x (plain y none))))
  unfolding named_call two_plain one_plain
  dotted_call around n f name x y is filters own first second grids r s args =
      any_call typed around n name true (plain x (plain y none)) filters args (rw is (dotted_slots typed n Ints (scalar_calc f) x y own refl refl first second grids.0 grids.1 r s))

  pub mapped_slots : {s : Scope} {e : Tree} {one many made result : Shape} (n : Head) (v : List ℕ) (x : Tree) → IsOutside s → HasShape (with_parameter s v (element one)) e made
      → Is typed n.id result → (is_matrix (Some result) ≡ false) × (width (Some result) ≡ 1) → Is typed (number_of x) many → (is_matrix (Some many) ≡ false) × (width (Some many) ≡ 1) → number_of x ≢ n.id
      → Slotted typed (code_of n.at (what.Map (out_of h n) (ins_of h x) (elem_of h v e)))
  unfolding homes_of homes_in
  mapped_slots {e = e} {one = one} {many = many} {result = result} n v x out body is own first flatly r =
      let alone : length (ins_of h x) ≡ 1 = value_count h (number_of x) (Some many) first ∙ flatly.1 in
      map_slots typed n.at n.id result (ins_of h x) (elem_of h v e) is own.1 own.0
      (subst (λ (k : ℕ). IsTrue (elem_fits (words_in h) k [] 0 (elem_of h v e))) (sym alone) (map_fits h (some_shapes typed n.id result is) v one out body))
      (part_reads typed n.id (number_of x) many r first flatly.0)

  pub stencilled_slots : {s : Scope} {e : Tree} (n : Head) (v : List ℕ) (x : Tree) → IsOutside s → HasShape (with_parameter s v window) e Int
      → Is typed n.id Ints → Is typed (number_of x) Ints → number_of x ≢ n.id
      → Has (known_of typed) (λ u. IsTrue (is_among (unknowns typed) u)) (of_one (arrays_at (known_of typed) x) (λ array. Stencil (of_node n.id 0) array (balanced_of n.id)))
      → Slotted typed (of_array (arrays_at (known_of typed) x) (λ array. code_of n.at (what.Stencil (out_of h n) (slot_of h array) (slot_of h (balanced_of n.id)) (reach_of e) (elem_of h v e))))
  unfolding homes_of homes_in
  stencilled_slots {e = e} n v x out body is first r copied =
      let copies = subst (λ (us : List Unknown). Has (known_of typed) (λ u. IsTrue (is_among (unknowns typed) u)) (of_one us (λ array. Stencil (of_node n.id 0) array (balanced_of n.id)))) (single typed (number_of x) Ints first refl) copied in
      stencil_slots typed n x (reach_of e) (elem_of h v e) is r first copies.0.0 (stencil_fits h (some_shapes typed n.id Ints is) v out body)

  -- ---- aggregates

  pub grouped_slots : (n : Head) (x : Tree) (k : List ℕ) (rest : Args) (names columns : List Name) → Is typed n.id (Frame names) → number_of x ≢ n.id → Is typed (number_of x) (Frame columns)
      → Slotted typed (where_some (measures_in (all_written rest)) (λ found. code_of n.at (what.Group (outs_of h n) (ins_of h x) (key_in (frame_at h x) k) (map (measure_at (frame_at h x)) found))))
  grouped_slots n x k rest names columns is r first =
      through_some (is_word (words typed)) (is_slotted (slots typed) (words typed)) (measures_in (all_written rest)) _
      (λ found e. (keyed_slots typed n x (key_in (frame_at h x) k) (map (measure_at (frame_at h x)) found) names columns is r first).0)

  -- ---- the frame of a filter

  seen_frame : {s : Scope} {around : Columns} (found : Option Shape) (columns : List Name) (us : List Unknown) → found ≡ Some (Frame columns) → Value typed false (slots_of h us) → length us ≡ length columns
      → Here typed s around → (columns_of found us).names ≡ columns → Here typed (with_columns s (Some columns)) (columns_of found us)
  seen_frame found columns us is value many here names =
      let facts = subst (λ (o : Option Shape). AllByRecursion (Fine typed) (slots_of h (columns_of o us).arrays) × AllByRecursion (Grid typed false) (slots_of h (columns_of o us).arrays) × (length (columns_of o us).arrays ≡ length (columns_of o us).names))
      (sym is) (value.fine, value.grid, many) in
      record { at = in_mask here.at columns (columns_of found us) names; fine = facts.0; grid = facts.1; many = facts.2 }

  pub mask_frame : {s : Scope} {around : Columns} (x y : Tree) (columns : List Name) → Is typed (number_of x) (Frame columns) → Here typed s around → Here typed (with_columns s (Some columns)) (filtered_frame (known_of typed) (plain x (plain y none)))
  unfolding homes_of homes_in
  mask_frame x y columns first here =
      seen_frame (shape_at (known_of typed) (number_of x)) columns (arrays_at (known_of typed) x) first (value_as typed (number_of x) (Frame columns) first) (array_count h (number_of x) (Frame columns) first) here (names_at h x columns first)
