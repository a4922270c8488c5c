-- Names of columns, texts and measures among the arguments of a call have no operations.
use Rattle.std.proofs.Common.{◌≡◌, ℕ, List, [], map, Option, refl, ap, ap₂}
use Rattle.std.specs.List.{range_with_len}
use Rattle.hp_word.specs.declared.elem.Elem.TheVariants.{Input}
use Rattle.hp_word.specs.declared.fold.FoldKind.{FoldKind}
use Rattle.hp_word.specs.declared.fold.FoldKind.TheVariants as folds
use Rattle.hp_word.specs.declared.name.Name.{Name}
use Rattle.hp_script.specs.declared.typed.Shape.{Shape}
use Rattle.hp_script.specs.Functions.{function_named, scalar_named, fold_named, array_named}
use Rattle.hp_script.specs.Mirror.{Head, Tree, Args, column}
use Rattle.hp_script.specs.Shaped.{AreColumns, no_more_columns, one_column, IsMeasure, measured_sum, measured_minimum, measured_maximum, measured_count, AreMeasures, no_more_measures, one_measure}
use Rattle.hp_program.specs.Programs.{Prog, stop, joined}
use Rattle.hp_air.specs.declared.what.Op.{Op}
use Rattle.hp_air.specs.declared.what.What.TheVariants as what
use Rattle.hp_air.specs.Unknowns.{Unknown, of_node, at_node, Columns, column_named, width}
use Rattle.hp_flat.specs.Flat.{flat, flat_among}
use Rattle.hp_flat.specs.FlatCalls.{code_of, of_array, array_copy, call_code, named_call}
use Rattle.hp_flat.specs.Homes.{Homes, slot_of, word_at}
use Rattle.hp_flat.proofs.ToldTypes.{IsUntold, ToldColumns, ToldMeasure, ToldMeasures}

module _ (h : Homes) (around : Columns) where
  untold_arrays : (n : Head) → IsUntold h.known n → at_node h.known n.id ≡ []
  untold_arrays n untold = ap (λ (found : Option Shape). map (of_node n.id) (range_with_len 0 (width found))) untold

  -- the name of a column of which no type is told
  pub column_code : (n : Head) (c : List ℕ) → IsUntold h.known n → flat h around (column n c) ≡ stop
  unfolding flat array_copy
  column_code n c untold = ap (λ (us : List Unknown). array_copy h n.at us (column_named around c)) (untold_arrays n untold)

  pub columns_code : {before : List (List ℕ)} {xs : Args} {names : List Name} (p : AreColumns before xs names) → ToldColumns h.known p → flat_among h around around xs ≡ stop
  unfolding flat_among joined
  columns_code no_more_columns told = refl
  columns_code (one_column {h = n} {c = c} new more) told = ap₂ (λ (p q : Prog Op). joined p q) (column_code n c told.0) (columns_code more told.1)

  fold_code_of : (n g : Head) (kind : FoldKind) (b : List ℕ) → IsUntold h.known g
      → joined (joined (flat h around (column g b)) stop) (of_array (at_node h.known g.id) (λ array. code_of n.at (what.Reduce (word_at h n.id) kind (slot_of h array) (Input 0)))) ≡ stop
  unfolding flat array_copy joined
  fold_code_of n g kind b untold =
      ap (λ (us : List Unknown). joined (joined (array_copy h g.at us (column_named around b)) stop) (of_array us (λ array. code_of n.at (what.Reduce (word_at h n.id) kind (slot_of h array) (Input 0))))) (untold_arrays g untold)

  measure_code : {columns : List Name} {x : Tree} (p : IsMeasure columns x) → ToldMeasure h.known p → flat h around x ≡ stop
  unfolding flat flat_among joined named_call call_code function_named scalar_named fold_named array_named
  measure_code (measured_sum {h = n} {g = g} {b = b} known) told = fold_code_of n g folds.Sum b told.1
  measure_code (measured_minimum {h = n} {g = g} {b = b} known) told = fold_code_of n g folds.Min b told.1
  measure_code (measured_maximum {h = n} {g = g} {b = b} known) told = fold_code_of n g folds.Max b told.1
  measure_code measured_count told = refl

  pub measures_code : {columns : List Name} {before : List (List ℕ)} {xs : Args} {names : List Name} (p : AreMeasures columns before xs names) → ToldMeasures h.known p → flat_among h around around xs ≡ stop
  unfolding flat_among joined
  measures_code no_more_measures told = refl
  measures_code (one_measure is new more) told = ap₂ (λ (p q : Prog Op). joined p q) (measure_code is told.0) (measures_code more told.1)
