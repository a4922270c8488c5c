-- The constructs of matrices: a value, or a trap at the construct's place.
use Rattle.std.specs.Prelude.{◌≡◌, ℕ, ◌*◌, ◌==◌, ℤ, pos, ◌*ℤ◌, ◌-ℤ◌, ◌&&◌, if◌then◌else◌, List, [], ◌∷◌, map, flat_map, zip, length, nat_le, int_le, Result, Ok, Err, refl}
use Rattle.std.specs.Int.{int_wrap}
use Rattle.std.specs.List.{range_with_len}
use Rattle.hp_word.specs.declared.matrix.Matrix.{Matrix}
use Rattle.hp_word.specs.declared.place.Place.{Place}
use Rattle.hp_word.specs.declared.place.Trap.{Trap}
use Rattle.hp_word.specs.declared.place.TrapKind.TheVariants.{Mismatch, Index, TooLong}
use Rattle.hp_word.specs.Folds.{sum_z}
use Rattle.hp_word.specs.Lengths.{trap, longest}
use Rattle.hp_word.specs.ListRules.{at_least_zero}
use Rattle.hp_word.specs.RowRules.{are_level, row_at}
use Rattle.hp_word.specs.Tables.{row_count}
use Rattle.hp_word.specs.Words.{wrap}

abbrev pub matrix : ℕ → List (List ℤ) → Matrix
matrix rows columns = record { rows = rows; columns = columns }

-- the cells of a matrix, column by column
abbrev pub flat : Matrix → List ℤ
flat m = flat_map (λ column. column) m.columns

-- the rows of a matrix, from the first on
unfoldable pub rows_of : Matrix → List (List ℤ)
rows_of m = map (row_at m.columns) (range_with_len 0 m.rows)

-- the matrix whose columns are the rows of another
unfoldable pub transposed : Matrix → Matrix
transposed m = matrix (length m.columns) (rows_of m)

-- the matrix whose rows are these lists, which have one length, with at most 1,048,576 cells
unfoldable pub stack : Place → List (List ℤ) → Result Matrix Trap
stack at rows = if are_level rows then (if nat_le (length rows * row_count rows) longest then Ok (transposed (matrix (row_count rows) rows)) else Err (trap at TooLong)) else Err (trap at Mismatch)

-- the row at a position from 1
unfoldable pub matrix_row : Place → Matrix → ℤ → Result (List ℤ) Trap
matrix_row at m i = if int_le (pos 1) i && int_le i (pos m.rows) then Ok (row_at m.columns (at_least_zero (i -ℤ pos 1))) else Err (trap at Index)

-- the sum of the products of two lists' elements, place by place, wrapped
abbrev pub dot_product : List ℤ → List ℤ → ℤ
dot_product xs ys = wrap (sum_z (map (λ p. p.0 *ℤ p.1) (zip xs ys)))

-- the products of rows with a column
unfoldable pub products_of : (rows : List (List ℤ)) → (column : List ℤ) → List ℤ
products_of rows column = map (λ row. dot_product row column) rows

-- the products of a matrix's rows with the columns of one that has as many rows as it has columns, at most 1,048,576
unfoldable pub product : Place → (left right : Matrix) → Result Matrix Trap
product at a b =
    if length a.columns == b.rows then (if nat_le (a.rows * length b.columns) longest then Ok (matrix a.rows (map (products_of (rows_of a)) b.columns)) else Err (trap at TooLong)) else Err (trap at Mismatch)

-- ---- worked rows

-- the rows 1, 2, 3 and 2, 2, 2
abbrev sample : Matrix
sample = matrix 2 ((pos 1 ∷ pos 2 ∷ []) ∷ (pos 2 ∷ pos 2 ∷ []) ∷ (pos 3 ∷ pos 2 ∷ []) ∷ [])

flat_row : flat sample ≡ pos 1 ∷ pos 2 ∷ pos 2 ∷ pos 2 ∷ pos 3 ∷ pos 2 ∷ []
flat_row = refl

stack_row : (at : Place) → stack at ((pos 1 ∷ pos 2 ∷ pos 3 ∷ []) ∷ (pos 2 ∷ pos 2 ∷ pos 2 ∷ []) ∷ []) ≡ Ok sample
unfolding stack transposed rows_of
stack_row at = refl

uneven_row : (at : Place) → stack at ((pos 1 ∷ pos 2 ∷ []) ∷ (pos 2 ∷ []) ∷ []) ≡ Err (trap at Mismatch)
unfolding stack
uneven_row at = refl

matrix_rows : (at : Place) → (matrix_row at sample (pos 1) ≡ Ok (pos 1 ∷ pos 2 ∷ pos 3 ∷ [])) × (matrix_row at sample (pos 3) ≡ Err (trap at Index))
unfolding matrix_row
matrix_rows at = (refl, refl)

-- `m * transpose(m)`
product_row : (at : Place) → product at sample (transposed sample) ≡ Ok (matrix 2 ((pos 14 ∷ pos 12 ∷ []) ∷ (pos 12 ∷ pos 12 ∷ []) ∷ []))
unfolding product products_of transposed rows_of int_wrap
product_row at = refl

unlike_row : (at : Place) → product at sample sample ≡ Err (trap at Mismatch)
unfolding product
unlike_row at = refl
