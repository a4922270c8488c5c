-- The operations of a call beside what the script does there, for the calls whose function or arguments are a choice.
use Rattle.std.proofs.Common.{◌≡◌, ℕ, ◌<◌, true, false, bytes_eq, codes, List, [], ◌∷◌, ◌++◌, map, Option, Some, refl, sym, ap, subst, ◌∙◌, arith, option_and_then, option_map, append-nil}
use Rattle.std.specs.List.{AllByRecursion, range_with_len}
use Rattle.hp_word.specs.declared.elem.Elem.TheVariants.{Input}
use Rattle.hp_word.specs.declared.fold.FoldKind.{FoldKind}
use Rattle.hp_word.specs.declared.fold.FoldKind.TheVariants as folds
use Rattle.hp_word.specs.declared.name.Name.{Name}
use Rattle.hp_word.specs.declared.table.MeasureKind.{MeasureKind}
use Rattle.hp_word.specs.declared.table.MeasureKind.TheVariants as measures
use Rattle.hp_script.specs.declared.function.ScalarFunction.{ScalarFunction}
use Rattle.hp_script.specs.declared.function.ScalarFunction.TheVariants as scalar
use Rattle.hp_script.specs.declared.typed.Shape.{Shape}
use Rattle.hp_script.specs.Functions.{function_named, scalar_named, fold_named, array_named}
use Rattle.hp_script.specs.Mirror.{Head, Tree, Args, none, plain, range, lambda, named}
use Rattle.hp_script.specs.Shaped.{IsArrayOf, array_of_numbers, array_of_truths, IsScalarName, named_div, named_rem, named_min, named_max, IsNumberFold, named_sum, named_prod, named_minimum, named_maximum, IsTruthFold, named_any, named_all, IsMeasure, measured_sum, measured_minimum, measured_maximum, measured_count, AreMeasures, no_more_measures, one_measure}
use Rattle.hp_air.specs.declared.slot.Slot.{Slot}
use Rattle.hp_air.specs.declared.what.What.TheVariants as what
use Rattle.hp_air.specs.Arrays.{Map, Reduce, arrays_of, renamed}
use Rattle.hp_air.specs.Unknowns.{Known, Unknown, of_node, at_node, arrays_at, arguments_of, all as all_of, shape_at, number_of, width, of_one, call_of, call_arrays}
use Rattle.hp_meaning.specs.ArgumentShapes.{one_plain, two_plain, all_written}
use Rattle.hp_meaning.specs.FrameRules.{Measured}
use Rattle.hp_meaning.specs.ValueOf.{measure_of, measures_in}
use Rattle.hp_meaning.specs.WordRules.{scalar_calc}
use Rattle.hp_flat.specs.Homes.{Homes, slot_of, word_at, word_of}
use Rattle.hp_flat.specs.Elements.{dotted_elem}
use Rattle.hp_flat.specs.FlatCalls.{code_of, of_array, dotted_code, call_code, named_call}
use Rattle.hp_flat.specs.StepByStep.{Follows}
use Rattle.hp_flat.proofs.RowCode.{step_rows, scalar_rows, array_rows, dotted_rows}
use Rattle.hp_flat.proofs.RowSteps.{follows_as, HasSlots, node_back, rows, Back}
use Rattle.hp_flat.proofs.ServedCode.{all_both}

-- ---- names

pub scalar_around : {f : List ℕ} → IsScalarName f → bytes_eq f (codes "filter") ≡ false
scalar_around named_div = refl
scalar_around named_rem = refl
scalar_around named_min = refl
scalar_around named_max = refl

pub number_fold_around : {f : List ℕ} → IsNumberFold f → bytes_eq f (codes "filter") ≡ false
number_fold_around named_sum = refl
number_fold_around named_prod = refl
number_fold_around named_minimum = refl
number_fold_around named_maximum = refl

pub truth_fold_around : {f : List ℕ} → IsTruthFold f → bytes_eq f (codes "filter") ≡ false
truth_fold_around named_any = refl
truth_fold_around named_all = refl

-- ---- measures

record HasMeasure (x : Tree) : Type 0 where
  found : MeasureKind × List ℕ
  is : measure_of x ≡ Some found

has_measure : {columns : List Name} {x : Tree} → IsMeasure columns x → HasMeasure x
unfolding measure_of function_named scalar_named fold_named array_named
has_measure (measured_sum {b = b} known) = record { found = (measures.Sum, b); is = refl }
has_measure (measured_minimum {b = b} known) = record { found = (measures.Min, b); is = refl }
has_measure (measured_maximum {b = b} known) = record { found = (measures.Max, b); is = refl }
has_measure measured_count = record { found = (measures.Count, []); is = refl }

pub record HasMeasures (xs : Args) : Type 0 where
  pub found : List Measured
  pub is : measures_in (all_written xs) ≡ Some found

pub has_measures : {columns : List Name} {before : List (List ℕ)} {xs : Args} {names : List Name} → AreMeasures columns before xs names → HasMeasures xs
unfolding measures_in
has_measures no_more_measures = record { found = []; is = refl }
has_measures (one_measure {x = x} {m = m} {rest = rest} is new more) =
    let one = has_measure is in
    let others = has_measures more in
    record {
      found = record { name = x; kind = one.found.0; of_it = one.found.1 } ∷ others.found;
      is = ap (option_and_then (λ (found : MeasureKind × List ℕ). option_map (λ (behind : List Measured). record { name = x; kind = found.0; of_it = found.1 } ∷ behind) (measures_in (all_written rest)))) one.is
          ∙ ap (option_map (λ (behind : List Measured). record { name = x; kind = one.found.0; of_it = one.found.1 } ∷ behind)) others.is;
    }

-- the value of an expression of a type without arrays has none
pub no_arrays : (g : Known) (x : Tree) (a : Shape) → shape_at g (number_of x) ≡ Some a → width (Some a) ≡ 0 → arrays_at g x ≡ []
no_arrays g x a e none_wide = ap (λ (o : Option Shape). map (of_node (number_of x)) (range_with_len 0 (width o))) e ∙ ap (λ (w : ℕ). map (of_node (number_of x)) (range_with_len 0 w)) none_wide

module _ (h : Homes) (slots : List Slot) (stand : HasSlots h slots) where
  abbrev pub each : (k : ℕ) → AllByRecursion (Back h slots) (at_node h.known k)
  each k = node_back h slots stand k

  -- ---- outs

  pub out_at : (k : ℕ) (a : Shape) → shape_at h.known k ≡ Some a → 0 < width (Some a) → Back h slots (of_node k 0)
  out_at k a e less = stand.node k 0 (subst (λ (o : Option Shape). 0 < width o) (sym e) less)

  pub array_wide : {one many : Shape} → IsArrayOf one many → 0 < width (Some many)
  array_wide array_of_numbers = omega arith
  array_wide array_of_truths = omega arith

  pub args_back : (xs : Args) → AllByRecursion (Back h slots) (all_of (arguments_of h.known xs))
  args_back none = tt
  args_back (plain x xs) = all_both (Back h slots) (arrays_at h.known x) (all_of (arguments_of h.known xs)) (each (number_of x)) (args_back xs)
  args_back (range x y xs) = args_back xs
  args_back (lambda p x xs) = args_back xs
  args_back (named name at x xs) = all_both (Back h slots) (arrays_at h.known x) (all_of (arguments_of h.known xs)) (each (number_of x)) (args_back xs)

  -- ---- functions of two numbers, and folds

  pub scalar_own : {f : List ℕ} (n : Head) (value : List Unknown) (x y : Tree) → IsScalarName f
      → Follows (rows h slots (named_call h n false (function_named false f) (plain x (plain y none)))) (call_of n.id value false (function_named false f) (arguments_of h.known (plain x (plain y none))))
  unfolding function_named scalar_named named_call call_code call_arrays two_plain one_plain renamed arrays_of
  scalar_own n value x y named_div = scalar_rows h slots n.at (what.Calc (word_at h n.id) (scalar_calc scalar.Div) (word_of h x) (word_of h y)) refl
  scalar_own n value x y named_rem = scalar_rows h slots n.at (what.Calc (word_at h n.id) (scalar_calc scalar.Rem) (word_of h x) (word_of h y)) refl
  scalar_own n value x y named_min = scalar_rows h slots n.at (what.Calc (word_at h n.id) (scalar_calc scalar.Min) (word_of h x) (word_of h y)) refl
  scalar_own n value x y named_max = scalar_rows h slots n.at (what.Calc (word_at h n.id) (scalar_calc scalar.Max) (word_of h x) (word_of h y)) refl

  dotted_own : (n : Head) (f : ScalarFunction) (x y : Tree) → Back h slots (of_node n.id 0) → Follows (rows h slots (dotted_code h n (dotted_elem h n.at (scalar_calc f) x y) x y)) (Map (of_node n.id 0) (all_of (arguments_of h.known (plain x (plain y none)))) ∷ [])
  dotted_own n f x y out =
      follows_as (ap (λ (us : List Unknown). Map (of_node n.id 0) (arrays_at h.known x ++ us) ∷ []) (sym (append-nil (arrays_at h.known y))))
      (dotted_rows h slots n (dotted_elem h n.at (scalar_calc f) x y) x y out (each (number_of x)) (each (number_of y)))

  pub scalars_own : {f : List ℕ} (n : Head) (value : List Unknown) (x y : Tree) → Back h slots (of_node n.id 0) → IsScalarName f
      → Follows (rows h slots (named_call h n true (function_named true f) (plain x (plain y none)))) (call_of n.id value true (function_named true f) (arguments_of h.known (plain x (plain y none))))
  unfolding function_named scalar_named named_call two_plain one_plain
  scalars_own n value x y out named_div = dotted_own n scalar.Div x y out
  scalars_own n value x y out named_rem = dotted_own n scalar.Rem x y out
  scalars_own n value x y out named_min = dotted_own n scalar.Min x y out
  scalars_own n value x y out named_max = dotted_own n scalar.Max x y out

  pub fold_rows : (n : Head) (kind : FoldKind) (us : List Unknown) → AllByRecursion (Back h slots) us
      → Follows (rows h slots (of_array us (λ array. code_of n.at (what.Reduce (word_at h n.id) kind (slot_of h array) (Input 0))))) (of_one us (Reduce kind))
  unfolding renamed arrays_of
  fold_rows n kind us are =
      array_rows h slots us (λ array. code_of n.at (what.Reduce (word_at h n.id) kind (slot_of h array) (Input 0))) (Reduce kind) are
      (λ u e. step_rows h slots n.at (what.Reduce (word_at h n.id) kind (slot_of h u) (Input 0)) (Reduce kind u) (ap (Reduce kind) e) refl)

  pub number_fold_own : {f : List ℕ} (n : Head) (value : List Unknown) (x : Tree) → IsNumberFold f
      → Follows (rows h slots (named_call h n false (function_named false f) (plain x none))) (call_of n.id value false (function_named false f) (arguments_of h.known (plain x none)))
  unfolding function_named scalar_named fold_named named_call call_code call_arrays
  number_fold_own n value x named_sum = fold_rows n folds.Sum (arrays_at h.known x) (each (number_of x))
  number_fold_own n value x named_prod = fold_rows n folds.Prod (arrays_at h.known x) (each (number_of x))
  number_fold_own n value x named_minimum = fold_rows n folds.Min (arrays_at h.known x) (each (number_of x))
  number_fold_own n value x named_maximum = fold_rows n folds.Max (arrays_at h.known x) (each (number_of x))

  pub truth_fold_own : {f : List ℕ} (n : Head) (value : List Unknown) (x : Tree) → IsTruthFold f
      → Follows (rows h slots (named_call h n false (function_named false f) (plain x none))) (call_of n.id value false (function_named false f) (arguments_of h.known (plain x none)))
  unfolding function_named scalar_named fold_named named_call call_code call_arrays
  truth_fold_own n value x named_any = fold_rows n folds.Any (arrays_at h.known x) (each (number_of x))
  truth_fold_own n value x named_all = fold_rows n folds.All (arrays_at h.known x) (each (number_of x))
