-- The constructs of arrays and matrices have a value or trap where their operands are of the types that they are for.
use Rattle.std.proofs.Common.{◌≡◌, ℕ, zero, suc, ℤ, true, List, [], ◌∷◌, ◌++◌, map, replicate, Result, refl}
use Rattle.std.specs.List.{list_all}
use Rattle.std.proofs.lemmas.Bool.{and_from, and_parts}
use Rattle.hp_word.specs.declared.fold.FoldKind.{FoldKind}
use Rattle.hp_word.specs.declared.fold.FoldKind.TheVariants as fold
use Rattle.hp_word.specs.declared.place.Place.{Place}
use Rattle.hp_word.specs.declared.place.Trap.{Trap}
use Rattle.hp_word.specs.FoldLaws.{is_truth}
use Rattle.hp_word.specs.Lengths.{length_of}
use Rattle.hp_word.specs.ListRules as lists
use Rattle.hp_word.specs.ListRules.{range_of, appended, folded_list, element_at, elements_at}
use Rattle.hp_word.specs.LoopRules.{all_ok, word_at}
use Rattle.hp_word.specs.MatrixRules.{transposed, stack, matrix_row}
use Rattle.hp_script.specs.declared.typed.Shape.{Shape}
use Rattle.hp_script.specs.declared.typed.Shape.TheVariants as shape
use Rattle.hp_script.specs.Results.{index_result, fill_result, length_result, of_ints, of_bools, fold_result, vcat_result, row_result}
use Rattle.hp_meaning.specs.declared.value.Kind.{Kind}
use Rattle.hp_meaning.specs.declared.value.Kind.TheVariants.{Number, Truth}
use Rattle.hp_meaning.specs.declared.value.Value.{Value}
use Rattle.hp_meaning.specs.declared.value.Value.TheVariants.{Word}
use Rattle.hp_meaning.specs.Fitting.{HasShape, a_number, a_truth, numbers, truths, a_matrix, a_frame}
use Rattle.hp_meaning.specs.ListRules.{filled, collected, concatenated, length_value, folded, counted, summed, indexed_by, indexed}
use Rattle.hp_meaning.specs.MatrixRules.{stacked, row_value, flipped_value}
use Rattle.hp_meaning.specs.Outcomes.{told}
use Rattle.hp_meaning.proofs.Fine.{Right, gives, told_told, told_if, then_right, RightAs, so, no}
use Rattle.hp_meaning.proofs.FineWords.{list_shape, OfKind, AllOf, truth_of, none_of, more_of, first_of, rest_of, worded_right, listed_right, gridded_right, multiplied_right}

-- ---- making arrays

copies_of : (kind : Kind) (x : ℤ) (k : ℕ) → OfKind kind x → AllOf kind (replicate k x)
copies_of Number x k h = tt
copies_of Truth x k h = copies k h
  where
    copies : (k : ℕ) → is_truth x ≡ true → list_all is_truth (replicate k x) ≡ true
    copies zero h = refl
    copies (suc k) h = and_from (is_truth x) (list_all is_truth (replicate k x)) h (copies k h)

filled_of : (at : Place) (kind : Kind) (n x : ℤ) → OfKind kind x → Right (List ℤ) (AllOf kind) (told (lists.filled at n x))
unfolding lists.filled
filled_of at kind n x h = then_right {P = λ k. Unit {0}} (length_of at n) _ (told_told (length_of at n)) (λ k e. gives (copies_of kind x k h))

fill_right : (at : Place) (kind : Kind) (x n : ℤ) → OfKind kind x → Right Value (HasShape (list_shape kind)) (filled at (Word kind x) (Word Number n))
unfolding filled
fill_right at kind x n h = listed_right kind (filled_of at kind n x h)

pub fill_as : (at : Place) {ka kb : Shape} {a b : Value} → HasShape ka a → HasShape kb b → RightAs (fill_result ka kb) (filled at a b)
fill_as at (a_number x) (a_number n) = so (fill_right at Number x n tt)
fill_as at (a_truth x h) (a_number n) = so (fill_right at Truth x n h)
fill_as at (numbers xs) (a_number n) = no
fill_as at (truths xs h) (a_number n) = no
fill_as at (a_matrix m) (a_number n) = no
fill_as at (a_frame names columns e) (a_number n) = no
fill_as at _ _ = no

pub collect_right : (at : Place) {a b : Value} → HasShape shape.Int a → HasShape shape.Int b → Right Value (HasShape shape.Ints) (collected at a b)
unfolding collected
collect_right at (a_number x) (a_number y) = listed_right Number (told_told (range_of at x y))

both_of : (xs ys : List ℤ) → list_all is_truth xs ≡ true → list_all is_truth ys ≡ true → list_all is_truth (xs ++ ys) ≡ true
both_of [] ys h k = k
both_of (x ∷ xs) ys h k = let parts = and_parts (is_truth x) (list_all is_truth xs) h in and_from (is_truth x) (list_all is_truth (xs ++ ys)) parts.0 (both_of xs ys parts.1 k)

appended_truths : (at : Place) (xs ys : List ℤ) → list_all is_truth xs ≡ true → list_all is_truth ys ≡ true → Right (List ℤ) (AllOf Truth) (told (appended at xs ys))
unfolding appended
appended_truths at xs ys h k = told_if _ _ _ (both_of xs ys h k)

pub vcat_as : (at : Place) {ka kb : Shape} {a b : Value} → HasShape ka a → HasShape kb b → RightAs (vcat_result ka kb) (concatenated at a b)
unfolding concatenated
vcat_as at (numbers xs) (numbers ys) = so (listed_right Number (told_told (appended at xs ys)))
vcat_as at (truths xs h) (truths ys k) = so (listed_right Truth (appended_truths at xs ys h k))
vcat_as at _ _ = no

-- ---- folds and scans

pub length_as : {k : Shape} {a : Value} → HasShape k a → RightAs (length_result k) (length_value a)
unfolding length_value
length_as (numbers xs) = so (gives (a_number _))
length_as (truths xs h) = so (gives (a_number _))
length_as _ = no

any_truth : (at : Place) (xs : List ℤ) → Right ℤ (OfKind Truth) (told (folded_list fold.Any at xs))
unfolding folded_list
any_truth at xs = gives (truth_of _)

all_truth : (at : Place) (xs : List ℤ) → Right ℤ (OfKind Truth) (told (folded_list fold.All at xs))
unfolding folded_list
all_truth at xs = gives (truth_of _)

pub fold_as : (kind : FoldKind) (at : Place) {k : Shape} {a : Value} → HasShape k a → RightAs (fold_result kind k) (folded kind at a)
unfolding folded
fold_as fold.Sum at (numbers xs) = so (worded_right Number (told_told (folded_list fold.Sum at xs)))
fold_as fold.Prod at (numbers xs) = so (worded_right Number (told_told (folded_list fold.Prod at xs)))
fold_as fold.Min at (numbers xs) = so (worded_right Number (told_told (folded_list fold.Min at xs)))
fold_as fold.Max at (numbers xs) = so (worded_right Number (told_told (folded_list fold.Max at xs)))
fold_as fold.Any at (truths xs h) = so (worded_right Truth (any_truth at xs))
fold_as fold.All at (truths xs h) = so (worded_right Truth (all_truth at xs))
fold_as _ at _ = no

pub count_as : {k : Shape} {a : Value} → HasShape k a → RightAs (of_bools shape.Int k) (counted a)
unfolding counted
count_as (truths xs h) = so (gives (a_number _))
count_as _ = no

pub cumsum_as : {k : Shape} {a : Value} → HasShape k a → RightAs (of_ints shape.Ints k) (summed a)
unfolding summed
cumsum_as (numbers xs) = so (gives (numbers _))
cumsum_as _ = no

-- ---- elements

cell_of : (kind : Kind) (xs : List ℤ) (k : ℕ) → AllOf kind xs → OfKind kind (word_at xs k)
cell_of Number xs k h = tt
cell_of Truth xs k h = cell xs k h
  where
    cell : (xs : List ℤ) (k : ℕ) → list_all is_truth xs ≡ true → is_truth (word_at xs k) ≡ true
    cell [] k h = refl
    cell (x ∷ xs) zero h = first_of Truth x xs h
    cell (x ∷ xs) (suc k) h = cell xs k (rest_of Truth x xs h)

element_of : (kind : Kind) (at : Place) (xs : List ℤ) (i : ℤ) → AllOf kind xs → Right ℤ (OfKind kind) (told (element_at at xs i))
unfolding element_at
element_of kind at xs i h = told_if _ _ _ (cell_of kind xs _ h)

-- what is found at each position is of a kind
each_found : (kind : Kind) (find : ℤ → Result ℤ Trap) → ((i : ℤ) → Right ℤ (OfKind kind) (told (find i))) → (positions : List ℤ) → Right (List ℤ) (AllOf kind) (told (all_ok (map find positions)))
unfolding all_ok
each_found kind find each [] = gives (none_of kind)
each_found kind find each (i ∷ positions) =
    then_right {P = OfKind kind} (find i) _ (each i)
    (λ x p. then_right {P = AllOf kind} (all_ok (map find positions)) _ (each_found kind find each positions) (λ xs q. gives (more_of kind x xs p q)))

elements_of : (kind : Kind) (at : Place) (xs positions : List ℤ) → AllOf kind xs → Right (List ℤ) (AllOf kind) (told (elements_at at xs positions))
unfolding elements_at
elements_of kind at xs positions h = each_found kind (element_at at xs) (λ i. element_of kind at xs i h) positions

pub index_as : (at : Place) {ka kb : Shape} {a b : Value} → HasShape ka a → HasShape kb b → RightAs (index_result ka kb) (indexed at a b)
unfolding indexed indexed_by
index_as at (numbers xs) (a_number i) = so (worded_right Number (element_of Number at xs i tt))
index_as at (truths xs h) (a_number i) = so (worded_right Truth (element_of Truth at xs i h))
index_as at (numbers xs) (numbers ps) = so (listed_right Number (elements_of Number at xs ps tt))
index_as at (truths xs h) (numbers ps) = so (listed_right Truth (elements_of Truth at xs ps h))
index_as at _ _ = no

-- ---- matrices

pub row_as : (at : Place) {ka kb : Shape} {a b : Value} → HasShape ka a → HasShape kb b → RightAs (row_result ka kb) (row_value at a b)
unfolding row_value
row_as at (a_matrix m) (a_number i) = so (listed_right Number (told_told (matrix_row at m i)))
row_as at _ _ = no

pub flipped_right : (at : Place) {a b : Value} → HasShape shape.Matrix a → HasShape shape.Matrix b → Right Value (HasShape shape.Matrix) (flipped_value at a b)
unfolding flipped_value
flipped_right at (a_matrix m) (a_matrix n) = multiplied_right at m (transposed n)

pub stack_right : (at : Place) (row : List ℤ) (rows : List (List ℤ)) → Right Value (HasShape shape.Matrix) (stacked at (row ∷ rows))
unfolding stacked
stack_right at row rows = gridded_right (told_told (stack at (row ∷ rows)))
