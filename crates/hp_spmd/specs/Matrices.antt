-- What the instructions do that make and read matrices, as functions of a rank's data. A piece with more than one row
-- holds the rank's own columns.
use Rattle.std.specs.Prelude.{ℕ, zero, suc, ◌*◌, ◌/◌, ◌==◌, nat_le, if◌then◌else◌, ℤ, Bool, true, false, List, [], ◌∷◌, length, map, flat_map, take, drop, Result, Ok, Err}
use Rattle.std.specs.List.{range_with_len}
use Rattle.hp_word.specs.declared.matrix.Matrix.{Matrix}
use Rattle.hp_word.specs.declared.place.Place.{Place}
use Rattle.hp_word.specs.declared.place.Trap.{Trap}
use Rattle.hp_word.specs.declared.place.TrapKind.TheVariants.{Mismatch, TooLong}
use Rattle.hp_word.specs.Lengths.{longest, trap}
use Rattle.hp_word.specs.LoopRules.{and_then, word_at}
use Rattle.hp_word.specs.MatrixRules.{matrix, matrix_row, products_of, rows_of}
use Rattle.hp_spmd.specs.declared.instr.Target.{Target}
use Rattle.hp_spmd.specs.declared.instr.Target.TheVariants.{Whole, Loose}
use Rattle.hp_spmd.specs.declared.store.Piece.{Piece}
use Rattle.hp_spmd.specs.Arrays.{with_array, with_arrays}
use Rattle.hp_spmd.specs.Scalars.{piece_length}
use Rattle.hp_spmd.specs.Setting.{with_all}
use Rattle.hp_spmd.specs.Store.{Data, piece_at}

-- so many columns of so many cells each, from the first cell on
abbrev pub columns_of : (rows count : ℕ) → List ℤ → List (List ℤ)
columns_of rows count cells = map (λ j. take rows (drop (j * rows) cells)) (range_with_len 0 count)

-- how many columns of so many cells a list has
abbrev pub column_count : (rows : ℕ) → List ℤ → ℕ
column_count zero cells = 0
column_count (suc rows) cells = length cells / suc rows

-- the rank's own columns as a matrix
abbrev pub own_matrix : Piece → Matrix
own_matrix p = matrix p.rows (columns_of p.rows (column_count p.rows p.cells) p.cells)

-- an array that is whole on each rank: so many rows, and its cells, column by column
abbrev pub whole_piece : (rows : ℕ) → List ℤ → Piece
whole_piece rows cells = record { rows = rows; cuts = 0 ∷ column_count rows cells ∷ []; cells = cells }

-- ---- Stack

-- at each of these places the cell of each list, 0 where it has none
abbrev pub interleaved : (places : ℕ) → List (List ℤ) → List ℤ
interleaved places lists = flat_map (λ j. map (λ cells. word_at cells j) lists) (range_with_len 0 places)

-- Arrays as the rows of a matrix, which is cut as the first and has a column for each that the first has; or `end_to_end` arrays that are whole on each rank, one
-- behind the other.
abbrev pub stacked : (end_to_end : Bool) → List Piece → Piece
stacked false [] = record { rows = 0; cuts = []; cells = [] }
stacked false (p ∷ ps) = record { rows = length (p ∷ ps); cuts = p.cuts; cells = interleaved (column_count p.rows p.cells) (map (λ q. q.cells) (p ∷ ps)) }
stacked true ps = whole_piece 1 (flat_map (λ q. q.cells) ps)

-- how many cells all ranks' parts of it have together
abbrev pub stacked_size : (end_to_end : Bool) → List Piece → ℕ
stacked_size false [] = 0
stacked_size false (p ∷ ps) = length (p ∷ ps) * piece_length p
stacked_size true ps = length (flat_map (λ q. q.cells) ps)

unfoldable pub stack_data : ℕ → List ℕ → (end_to_end : Bool) → Place → Data → Result Data Trap
stack_data to from end_to_end at d =
    let pieces = map (piece_at d.arrays) from in
    if nat_le (stacked_size end_to_end pieces) longest then Ok (with_array to (stacked end_to_end pieces) d) else Err (trap at TooLong)

-- ---- Row

-- the own part of the row at the position that a word says
unfoldable pub row_data : ℕ → (matrix index : ℕ) → Place → Data → Result Data Trap
row_data to m index at d =
    let piece = piece_at d.arrays m in
    and_then (matrix_row at (own_matrix piece) (word_at d.words index)) (λ cells. Ok (with_array to (record { rows = 1; cuts = piece.cuts; cells = cells }) d))

-- ---- Product

-- the rank's own columns of the product of a matrix that is whole on each rank
abbrev pub product_piece : Piece → Piece → Piece
product_piece left right =
    record { rows = left.rows; cuts = right.cuts; cells = flat_map (products_of (rows_of (own_matrix left))) (own_matrix right).columns }

-- the products of the rows of the one with the rows of the other, over the rank's own columns of both
abbrev pub partial_cells : Piece → Piece → List ℤ
partial_cells left right = flat_map (products_of (rows_of (own_matrix left))) (rows_of (own_matrix right))

-- cells with so many rows, where they go: whole on each rank, or as a loose column
abbrev pub cells_to : Target → (rows : ℕ) → List ℤ → Data → Data
cells_to (Whole arrays) rows cells d = with_arrays arrays (whole_piece rows cells ∷ []) d
cells_to (Loose columns) rows cells d = record d { loose = with_all columns (cells ∷ []) d.loose }

-- a piece, or its cells as a loose column
abbrev pub piece_to : Target → Piece → Data → Data
piece_to (Whole arrays) piece d = with_arrays arrays (piece ∷ []) d
piece_to (Loose columns) piece d = record d { loose = with_all columns (piece.cells ∷ []) d.loose }

-- where two numbers of columns and rows meet and there are not too many cells
abbrev pub sized : Place → (meets : Bool) → (size : ℕ) → Data → Result Data Trap
sized at meets size d = if meets then (if nat_le size longest then Ok d else Err (trap at TooLong)) else Err (trap at Mismatch)

-- The product of two matrices, or with `flip` of the one with the transposed other: then the rank's part of the sums.
unfoldable pub product_data : Target → (left right : ℕ) → (flip : Bool) → Place → Data → Result Data Trap
product_data to left right false at d =
    let a = piece_at d.arrays left in
    let b = piece_at d.arrays right in
    sized at (piece_length a == b.rows) (a.rows * piece_length b) (piece_to to (product_piece a b) d)
product_data to left right true at d =
    let a = piece_at d.arrays left in
    let b = piece_at d.arrays right in
    sized at (piece_length a == piece_length b) (a.rows * b.rows) (cells_to to a.rows (partial_cells a b) d)
