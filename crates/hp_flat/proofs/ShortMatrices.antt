-- Rules of matrices make matrices of at most as many elements as an array may have, and rows that are as short.
use Rattle.std.proofs.Common.{◌≡◌, ℕ, ◌*◌, ◌≤◌, ◌<◌, ◌==◌, ℤ, pos, Bool, true, false, ◌&&◌, cond, int_le, nat_le, List, [], ◌∷◌, map, length, Ok, Err, refl, ap, ◌∙◌, arith}
use Rattle.std.specs.Prelude.{◌-ℤ◌, slice_index_or}
use Rattle.std.specs.List.{range_with_len}
use Rattle.std.proofs.lemmas.Int.{ints}
use Rattle.std.proofs.lemmas.List.{length-map}
use Rattle.std.proofs.lemmas.List.FromFn.{length-range_with_len}
use Rattle.std.proofs.Math.Nat.{mul_comm, le-mul_of_pos_right}
use Rattle.hp_word.specs.declared.matrix.Matrix.{Matrix as Grid}
use Rattle.hp_word.specs.declared.place.Place.{Place}
use Rattle.hp_word.specs.declared.place.Trap.{Trap}
use Rattle.hp_word.specs.declared.place.TrapKind.TheVariants.{Index, Mismatch, TooLong}
use Rattle.hp_word.specs.Lengths.{longest, trap}
use Rattle.hp_word.specs.ListRules.{at_least_zero}
use Rattle.hp_word.specs.MatrixRules.{matrix, rows_of, transposed, stack, matrix_row, product, products_of}
use Rattle.hp_word.specs.RowRules.{are_level, row_at}
use Rattle.hp_word.specs.Tables.{row_count}
use Rattle.hp_script.proofs.TestLemmas.{true_le, and_left, and_right}
use Rattle.hp_meaning.specs.declared.value.Kind.TheVariants.{Number}
use Rattle.hp_meaning.specs.declared.value.Value.{Value}
use Rattle.hp_meaning.specs.declared.value.Value.TheVariants.{Word, List as Listed, Matrix, Frame}
use Rattle.hp_meaning.specs.MatrixRules.{gridded, stacked, row_value, multiplied}
use Rattle.hp_meaning.specs.Operands.{as_number}
use Rattle.hp_meaning.specs.Outcomes.{Answer, Gives, told}
use Rattle.hp_meaning.specs.WordRules.{listed}
use Rattle.hp_flat.proofs.ShortLists.{also_only, given_only, listed_short}
use Rattle.hp_flat.proofs.ShortScopes.{IsShort, OnlyGives, gives_such, traps_so, refuses_so}

abbrev IsShortGrid : Grid → Type 0
IsShortGrid m = m.rows * length m.columns ≤ longest

-- what is told where a test passes
told_if : {A : Type 0} {P : A → Type 0} (test : Bool) (a : A) (t : Trap) → (test ≡ true → P a) → OnlyGives P (told (cond test (Ok a) (Err t)))
told_if true a t such = gives_such (such refl)
told_if false a t such = traps_so

gridded_short : {answer : Answer Grid} → OnlyGives IsShortGrid answer → OnlyGives IsShort (gridded answer)
gridded_short short = also_only (λ m. Gives (Matrix m)) short (λ m few. gives_such few)

-- as many as a test says at most
at_most : (n k : ℕ) → k ≡ n → nat_le n longest ≡ true → k ≤ longest
at_most n k same e = let few = true_le n longest e in omega (arith, same, few)

stack_short : (at : Place) (rows : List (List ℤ)) → OnlyGives IsShortGrid (told (stack at rows))
unfolding stack transposed rows_of
stack_short at rows = if_level (are_level rows)
  where
    m : Grid
    m = transposed (matrix (row_count rows) rows)

    if_level : (level : Bool) → OnlyGives IsShortGrid (told (cond level (cond (nat_le (length rows * row_count rows) longest) (Ok m) (Err (trap at TooLong))) (Err (trap at Mismatch))))
    if_level true =
        told_if (nat_le (length rows * row_count rows) longest) m (trap at TooLong)
        (at_most (length rows * row_count rows) (m.rows * length m.columns)
        (ap (λ (n : ℕ). length rows * n) (length-map (range_with_len 0 (row_count rows)) (row_at rows) ∙ length-range_with_len 0 (row_count rows))))
    if_level false = traps_so

pub stacked_short : (at : Place) (rows : List (List ℤ)) → OnlyGives IsShort (stacked at rows)
unfolding stacked
stacked_short at [] = refuses_so
stacked_short at (row ∷ rows) = gridded_short (stack_short at (row ∷ rows))

product_short : (at : Place) (a b : Grid) → OnlyGives IsShortGrid (told (product at a b))
unfolding product
product_short at a b = if_level (length a.columns == b.rows)
  where
    m : Grid
    m = matrix a.rows (map (products_of (rows_of a)) b.columns)

    if_level : (level : Bool) → OnlyGives IsShortGrid (told (cond level (cond (nat_le (a.rows * length b.columns) longest) (Ok m) (Err (trap at TooLong))) (Err (trap at Mismatch))))
    if_level true =
        told_if (nat_le (a.rows * length b.columns) longest) m (trap at TooLong)
        (at_most (a.rows * length b.columns) (m.rows * length m.columns) (ap (λ (n : ℕ). a.rows * n) (length-map b.columns (products_of (rows_of a)))))
    if_level false = traps_so

pub multiplied_short : (at : Place) (m k : Grid) → OnlyGives IsShort (multiplied at m k)
unfolding multiplied
multiplied_short at m k = gridded_short (product_short at m k)

-- a matrix with a row has no more columns than elements
some_row : (rows : ℕ) (i : ℤ) → int_le (pos 1) i ≡ true → int_le i (pos rows) ≡ true → 0 < rows
some_row rows i low high = omega (arith, ints, low, high)

row_few : (m : Grid) (i : ℤ) → IsShortGrid m → (int_le (pos 1) i && int_le i (pos m.rows)) ≡ true → length (row_at m.columns (at_least_zero (i -ℤ pos 1))) ≤ longest
row_few m i few e =
    let many : length (row_at m.columns (at_least_zero (i -ℤ pos 1))) ≡ length m.columns = length-map m.columns (λ (cells : List ℤ). slice_index_or cells (at_least_zero (i -ℤ pos 1)) (pos 0)) in
    let all : length m.columns ≤ length m.columns * m.rows = le-mul_of_pos_right (length m.columns) (some_row m.rows i (and_left (int_le (pos 1) i) (int_le i (pos m.rows)) e) (and_right (int_le (pos 1) i) (int_le i (pos m.rows)) e)) in
    let turned : length m.columns * m.rows ≡ m.rows * length m.columns = mul_comm (length m.columns) m.rows in
    omega (arith, many, all, turned, few)

pub row_short : (at : Place) (a b : Value) → IsShort a → OnlyGives IsShort (row_value at a b)
unfolding row_value matrix_row
row_short at (Matrix m) b few =
    given_only (as_number b) (λ i. listed Number (told (matrix_row at m i)))
    (λ i e. listed_short Number (told_if (int_le (pos 1) i && int_le i (pos m.rows)) (row_at m.columns (at_least_zero (i -ℤ pos 1))) (trap at Index) (row_few m i few)))
row_short at (Word kind x) b few = refuses_so
row_short at (Listed kind xs) b few = refuses_so
row_short at (Frame columns) b few = refuses_so
