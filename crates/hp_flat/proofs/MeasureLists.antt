-- The measures of an aggregate, by the names of columns and by their places.
use Rattle.std.proofs.Common.{◌≡◌, ℕ, suc, ℤ, List, [], ◌∷◌, map, length, Option, Some, option_and_then, option_map, refl, sym, ap, ap₂, ◌∙◌}
use Rattle.std.proofs.lemmas.List.{length-map}
use Rattle.hp_word.specs.declared.name.Name.{Name}
use Rattle.hp_word.specs.declared.order.RowPlace.{RowPlace}
use Rattle.hp_word.specs.declared.table.MeasureKind.{MeasureKind}
use Rattle.hp_word.specs.declared.table.MeasureKind.TheVariants as measures
use Rattle.hp_word.specs.RowRules.{column_at, measures_by_left, measure_cells}
use Rattle.hp_script.specs.Functions.{function_named, scalar_named, fold_named, array_named}
use Rattle.hp_script.specs.Mirror.{Tree, Args, plain, range, lambda, named, none}
use Rattle.hp_script.specs.Shaped.{IsMeasure, measured_sum, measured_minimum, measured_maximum, measured_count, AreMeasures, no_more_measures, one_measure}
use Rattle.hp_meaning.specs.declared.value.Column.{Column}
use Rattle.hp_meaning.specs.ArgumentShapes.{all_written}
use Rattle.hp_meaning.specs.Fitting.{names_of}
use Rattle.hp_meaning.specs.FrameRules.{column, cells_of, cells_for, Measured, measure_column}
use Rattle.hp_meaning.specs.Outcomes.{Answer, Gives, also, given, all_of}
use Rattle.hp_meaning.specs.ValueOf.{Supply, Written, Alone, Under, Otherwise, as_written, parts, measure_of, measures_in}
use Rattle.hp_meaning.proofs.FineFrames.{Measures, of_column, AllMeasure}
use Rattle.hp_meaning.proofs.FineFrames as fine
use Rattle.hp_air.specs.Unknowns.{Columns}
use Rattle.hp_flat.specs.FlatCalls.{key_in, measure_at}
use Rattle.hp_flat.proofs.ColumnPlaces.{place_of, column_is}

-- the arguments as the call writes them
pub written_as : (g : Supply) (xs : Args) → map as_written (parts g xs) ≡ all_written xs
unfolding parts
written_as g none = refl
written_as g (plain x xs) = ap (λ (rest : List Written). Alone x ∷ rest) (written_as g xs)
written_as g (range x y xs) = ap (λ (rest : List Written). Otherwise ∷ rest) (written_as g xs)
written_as g (lambda p x xs) = ap (λ (rest : List Written). Otherwise ∷ rest) (written_as g xs)
written_as g (named name at x xs) = ap (λ (rest : List Written). Under name x ∷ rest) (written_as g xs)

-- ---- the measures that a call writes

record FoundOne (columns : List Name) (x : Tree) : Type 0 where
  kind : MeasureKind
  of_it : List ℕ
  is : measure_of x ≡ Some (kind, of_it)
  known : Measures columns kind of_it

-- there are as many as there are names, each of a column that is known
pub record Found (columns : List Name) (xs : Args) (names : List Name) : Type 0 where
  pub found : List Measured
  pub is : measures_in (all_written xs) ≡ Some found
  pub many : length found ≡ length names
  pub known : AllMeasure columns found

found_one : {columns : List Name} {x : Tree} → IsMeasure columns x → FoundOne columns x
unfolding measure_of function_named scalar_named fold_named array_named
found_one (measured_sum {b = b} has) = record { kind = measures.Sum; of_it = b; is = refl; known = of_column has }
found_one (measured_minimum {b = b} has) = record { kind = measures.Min; of_it = b; is = refl; known = of_column has }
found_one (measured_maximum {b = b} has) = record { kind = measures.Max; of_it = b; is = refl; known = of_column has }
found_one measured_count = record { kind = measures.Count; of_it = []; is = refl; known = fine.none }

pub found_measures : {columns : List Name} {before : List (List ℕ)} {xs : Args} {names : List Name} → AreMeasures columns before xs names → Found columns xs names
unfolding measures_in
found_measures no_more_measures = record { found = []; is = refl; many = refl; known = tt }
found_measures (one_measure {x = x} {m = m} {rest = rest} is new more) =
    let one = found_one is in
    let others = found_measures more in
    record {
      found = record { name = x; kind = one.kind; of_it = one.of_it } ∷ others.found;
      is = ap (option_and_then (λ (p : MeasureKind × List ℕ). option_map (λ (behind : List Measured). record { name = x; kind = p.0; of_it = p.1 } ∷ behind) (measures_in (all_written rest)))) one.is
          ∙ ap (option_map (λ (behind : List Measured). record { name = x; kind = one.kind; of_it = one.of_it } ∷ behind)) others.is;
      many = ap suc others.many;
      known = (one.known, others.known);
    }

-- ---- their columns

abbrev place_for : MeasureKind → ℕ → ℕ
place_for kind p = elim kind [ measures.Count ↦ 0 | _ ↦ p ]

measured_by : (name : List ℕ) (kind : MeasureKind) (c : List ℕ) (columns : List Column) (keys : List ℤ) (places : List RowPlace) → Measures (names_of columns) kind c
    → given (cells_for kind c columns keys) (λ cells. Gives (column name (measures_by_left kind keys cells places)))
    ≡ Gives (column name (measures_by_left kind keys (column_at (place_for kind (place_of c (names_of columns))) (cells_of columns)) places))
unfolding measures_by_left
measured_by name measures.Count c columns keys places known = refl
measured_by name measures.Sum c columns keys places (of_column has) = ap (λ (found : Option (List ℤ)). given found (λ cells. Gives (column name (measures_by_left measures.Sum keys cells places)))) (column_is c columns has)
measured_by name measures.Min c columns keys places (of_column has) = ap (λ (found : Option (List ℤ)). given found (λ cells. Gives (column name (measures_by_left measures.Min keys cells places)))) (column_is c columns has)
measured_by name measures.Max c columns keys places (of_column has) = ap (λ (found : Option (List ℤ)). given found (λ cells. Gives (column name (measures_by_left measures.Max keys cells places)))) (column_is c columns has)

module _ (cs : Columns) (columns : List Column) (keys : List ℤ) (places : List RowPlace) where
  -- the column of a measure, by places
  abbrev pub made_column : Measured → Column
  made_column m = column m.name (measure_cells (measure_at cs m) keys (cells_of columns) places)

  one_made : ((c : List ℕ) → key_in cs c ≡ place_of c (names_of columns)) → (m : Measured) → Measures (names_of columns) m.kind m.of_it → measure_column columns keys places m ≡ Gives (made_column m)
  unfolding measure_column
  one_made same m known =
      measured_by m.name m.kind m.of_it columns keys places known
      ∙ ap (λ (p : ℕ). Gives (column m.name (measures_by_left m.kind keys (column_at (place_for m.kind p) (cells_of columns)) places))) (sym (same m.of_it))

  pub all_made : ((c : List ℕ) → key_in cs c ≡ place_of c (names_of columns)) → (ms : List Measured) → AllMeasure (names_of columns) ms → all_of (map (measure_column columns keys places) ms) ≡ Gives (map made_column ms)
  unfolding all_of
  all_made same [] known = refl
  all_made same (m ∷ ms) known = ap₂ (λ (a : Answer Column) (b : Answer (List Column)). also a (λ x. also b (λ xs. Gives (x ∷ xs)))) (one_made same m known.0) (all_made same ms known.1)

  pub made_cells : (ms : List Measured) → map (λ m. measure_cells m keys (cells_of columns) places) (map (measure_at cs) ms) ≡ cells_of (map made_column ms)
  made_cells [] = refl
  made_cells (m ∷ ms) = ap (λ (rest : List (List ℤ)). measure_cells (measure_at cs m) keys (cells_of columns) places ∷ rest) (made_cells ms)

  pub as_many_made : (ms : List Measured) → length (map made_column ms) ≡ length ms
  as_many_made ms = length-map ms made_column
