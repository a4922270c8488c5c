-- The types that are told at the numbers of an expression and of its parts, by the rows of the typing relation.
use Rattle.std.proofs.Common.{◌≡◌, ℕ, List, Some, None}
use Rattle.hp_word.specs.declared.name.Name.{Name}
use Rattle.hp_script.specs.declared.typed.Shape.{Shape}
use Rattle.hp_script.specs.declared.typed.Shape.TheVariants.{Int, Bool as Truth, Ints, Bools, Matrix, Frame}
use Rattle.hp_script.specs.Fitting.{FitsBlock, fits_done, fits_first, fits_again, fits_print, fits_export, fits_if, fits_while}
use Rattle.hp_script.specs.Mirror.{Head, Tree, Args, Block}
use Rattle.hp_script.specs.Scope.{Scope}
use Rattle.hp_script.specs.Shaped.{HasShape, of_negation, of_not, of_nots, of_arithmetic, of_arithmetics, of_comparison, of_comparisons, of_logic, of_mask, of_product, of_transposed, of_element, of_elements, of_scalar_call, of_scalar_calls, of_map, of_stencil, of_fill, of_collect, of_length, of_fold, of_truth_fold, of_count, of_cumsum, of_vcat, of_stack, of_row, of_frame, of_read, of_nrow, of_filter, of_join, of_aggregate, of_sort, AreArrays, no_more_arrays, one_array, AreGiven, no_more_given, one_given, AreColumns, no_more_columns, one_column, IsMeasure, measured_sum, measured_minimum, measured_maximum, measured_count, AreMeasures, no_more_measures, one_measure}
use Rattle.hp_air.specs.Unknowns.{Known, shape_at, number_of}

-- the expression has this type at its number
abbrev pub IsAt : Known → Tree → Shape → Type 0
IsAt g x a = shape_at g (number_of x) ≡ Some a

-- nothing is told at this number
abbrev pub IsUntold : Known → Head → Type 0
IsUntold g h = shape_at g h.id ≡ None

-- ---- names of columns, and measures

abbrev pub ToldColumns : Known → {before : List (List ℕ)} {xs : Args} {names : List Name} → AreColumns before xs names → Type 0
ToldColumns g no_more_columns = Unit {0}
ToldColumns g (one_column {h = h} new more) = IsUntold g h × ToldColumns g more

abbrev pub ToldMeasure : Known → {columns : List Name} {x : Tree} → IsMeasure columns x → Type 0
ToldMeasure g (measured_sum {h = h} {g = k} known) = IsUntold g h × IsUntold g k
ToldMeasure g (measured_minimum {h = h} {g = k} known) = IsUntold g h × IsUntold g k
ToldMeasure g (measured_maximum {h = h} {g = k} known) = IsUntold g h × IsUntold g k
ToldMeasure g (measured_count {h = h}) = IsUntold g h

abbrev pub ToldMeasures : Known → {columns : List Name} {before : List (List ℕ)} {xs : Args} {names : List Name} → AreMeasures columns before xs names → Type 0
ToldMeasures g no_more_measures = Unit {0}
ToldMeasures g (one_measure is new more) = ToldMeasure g is × ToldMeasures g more

-- ---- expressions

abbrev mutual
  -- what is told of the parts of an expression that fits by `p`, in the order of its row: for each its type at its
  -- number, and what is told of its own parts
  pub Parts : Known → {s : Scope} {x : Tree} {a : Shape} → HasShape s x a → Type 0
  Parts g (of_negation {a = x} p) = IsAt g x Int × Parts g p
  Parts g (of_not {a = x} p) = IsAt g x Truth × Parts g p
  Parts g (of_nots {a = x} p) = IsAt g x Bools × Parts g p
  Parts g (of_arithmetic {a = x} {b = y} is p q) = (IsAt g x Int × Parts g p) × (IsAt g y Int × Parts g q)
  Parts g (of_arithmetics {a = x} {b = y} {one = one} {other = other} is e p q) = (IsAt g x one × Parts g p) × (IsAt g y other × Parts g q)
  Parts g (of_comparison {a = x} {b = y} is p q) = (IsAt g x Int × Parts g p) × (IsAt g y Int × Parts g q)
  Parts g (of_comparisons {a = x} {b = y} {one = one} {other = other} is e p q) = (IsAt g x one × Parts g p) × (IsAt g y other × Parts g q)
  Parts g (of_logic {a = x} {b = y} is p q) = (IsAt g x Truth × Parts g p) × (IsAt g y Truth × Parts g q)
  Parts g (of_mask {a = x} {b = y} {one = one} {other = other} is e p q) = (IsAt g x one × Parts g p) × (IsAt g y other × Parts g q)
  Parts g (of_product {a = x} {b = y} p q) = (IsAt g x Matrix × Parts g p) × (IsAt g y Matrix × Parts g q)
  -- and the call of `transpose` has no type
  Parts g (of_transposed {g = k} {a = x} {b = y} out p q) = (IsAt g x Matrix × Parts g p) × IsUntold g k × (IsAt g y Matrix × Parts g q)
  Parts g (of_element {a = x} {i = y} {many = many} out array p q) = (IsAt g x many × Parts g p) × (IsAt g y Int × Parts g q)
  Parts g (of_elements {a = x} {k = y} {many = many} out array p q) = (IsAt g x many × Parts g p) × (IsAt g y Ints × Parts g q)
  Parts g (of_scalar_call {a = x} {b = y} is p q) = (IsAt g x Int × Parts g p) × (IsAt g y Int × Parts g q)
  Parts g (of_scalar_calls {a = x} {b = y} {one = one} {other = other} is e p q) = (IsAt g x one × Parts g p) × (IsAt g y other × Parts g q)
  -- the array, and the body of the lambda
  Parts g (of_map {e = y} {a = x} {many = many} {made = made} out array p becomes q) = (IsAt g x many × Parts g p) × (IsAt g y made × Parts g q)
  -- the body of the lambda, and the array
  Parts g (of_stencil {e = x} {a = y} out p q) = (IsAt g x Int × Parts g p) × (IsAt g y Ints × Parts g q)
  Parts g (of_fill {v = x} {k = y} {one = one} out array p q) = (IsAt g x one × Parts g p) × (IsAt g y Int × Parts g q)
  Parts g (of_collect {a = x} {b = y} out p q) = (IsAt g x Int × Parts g p) × (IsAt g y Int × Parts g q)
  Parts g (of_length {a = x} {many = many} out array p) = IsAt g x many × Parts g p
  Parts g (of_fold {a = x} out is p) = IsAt g x Ints × Parts g p
  Parts g (of_truth_fold {a = x} out is p) = IsAt g x Bools × Parts g p
  Parts g (of_count {a = x} out p) = IsAt g x Bools × Parts g p
  Parts g (of_cumsum {a = x} out p) = IsAt g x Ints × Parts g p
  Parts g (of_vcat {a = x} {b = y} {many = many} out array p q) = (IsAt g x many × Parts g p) × (IsAt g y many × Parts g q)
  Parts g (of_stack {a = x} out p rest) = (IsAt g x Ints × Parts g p) × ToldArrays g rest
  Parts g (of_row {m = x} {i = y} out p q) = (IsAt g x Matrix × Parts g p) × (IsAt g y Int × Parts g q)
  Parts g (of_frame out given narrow) = ToldGiven g given
  -- the text, and the names of the columns
  Parts g (of_read {g = k} out columns narrow) = IsUntold g k × ToldColumns g columns
  Parts g (of_nrow {d = x} {columns = columns} out p) = IsAt g x (Frame columns) × Parts g p
  Parts g (of_filter {d = x} {m = y} {columns = columns} out p q narrow) = (IsAt g x (Frame columns) × Parts g p) × (IsAt g y Bools × Parts g q)
  -- the frames, and the name of the key
  Parts g (of_join {g = k} {l = x} {r = y} {left = left} {right = right} out p q first second distinct narrow) =
      (IsAt g x (Frame left) × Parts g p) × (IsAt g y (Frame right) × Parts g q) × IsUntold g k
  Parts g (of_aggregate {g = k} {d = x} {columns = columns} out p known measures narrow) = (IsAt g x (Frame columns) × Parts g p) × IsUntold g k × ToldMeasures g measures
  Parts g (of_sort {g = k} {d = x} {columns = columns} out p known narrow) = (IsAt g x (Frame columns) × Parts g p) × IsUntold g k
  Parts g _ = Unit {0}

  pub ToldArrays : Known → {s : Scope} {xs : Args} → AreArrays s xs → Type 0
  ToldArrays g no_more_arrays = Unit {0}
  ToldArrays g (one_array {a = x} p rest) = (IsAt g x Ints × Parts g p) × ToldArrays g rest

  pub ToldGiven : Known → {s : Scope} {before : List (List ℕ)} {xs : Args} {names : List Name} → AreGiven s before xs names → Type 0
  ToldGiven g no_more_given = Unit {0}
  ToldGiven g (one_given {a = x} p new rest) = (IsAt g x Ints × Parts g p) × ToldGiven g rest

-- `Told g p`: the expression that fits by `p` has its type at its number, and so have its parts.
abbrev pub Told : Known → {s : Scope} {x : Tree} {a : Shape} → HasShape s x a → Type 0
Told g {x = x} {a = a} p = IsAt g x a × Parts g p

-- ---- statements

-- the types of the expressions of a block, statement by statement
abbrev pub ToldBlock : Known → {s : Scope} {b : Block} {t : Scope} → FitsBlock s b t → Type 0
ToldBlock g fits_done = Unit {0}
ToldBlock g (fits_first p new next) = Told g p × ToldBlock g next
ToldBlock g (fits_again p known next) = Told g p × ToldBlock g next
ToldBlock g (fits_print p can next) = Told g p × ToldBlock g next
ToldBlock g (fits_export p next) = Told g p × ToldBlock g next
ToldBlock g (fits_if p first second next) = Told g p × ToldBlock g first × ToldBlock g second × ToldBlock g next
ToldBlock g (fits_while p turn next) = Told g p × ToldBlock g turn × ToldBlock g next
