-- What the instructions do that make arrays, as functions of a rank's data.
use Rattle.std.specs.Prelude.{ℕ, ℤ, List, [], length, map, slice_index, slice_index_or, slice_set, Result, Ok}
use Rattle.std.specs.List.{range_with_len}
use Rattle.hp_word.specs.declared.fold.FoldKind.TheVariants.{Sum}
use Rattle.hp_word.specs.declared.place.Place.{Place}
use Rattle.hp_word.specs.declared.place.Trap.{Trap}
use Rattle.hp_word.specs.declared.table.Table.{Table}
use Rattle.hp_word.specs.declared.table.Tables.{Tables}
use Rattle.hp_word.specs.Folds.{fold_of}
use Rattle.hp_word.specs.ListRules.{filled, range_of, element_at, elements_at, sums_after}
use Rattle.hp_word.specs.LoopRules.{and_then, word_at}
use Rattle.hp_word.specs.RowRules.{column_at}
use Rattle.hp_lattice.specs.declared.dist.Dist.{Dist}
use Rattle.hp_spmd.specs.declared.store.Piece.{Piece}
use Rattle.hp_spmd.specs.Loops.{cut_as}
use Rattle.hp_spmd.specs.Scalars.{with_word}
use Rattle.hp_spmd.specs.Setting.{with_all}
use Rattle.hp_spmd.specs.Store.{Data, dealt, dist_at, piece_at}

abbrev pub with_array : ℕ → Piece → Data → Data
with_array to piece d = record d { arrays = slice_set d.arrays to piece }

abbrev pub with_arrays : List ℕ → List Piece → Data → Data
with_arrays to pieces d = record d { arrays = with_all to pieces d.arrays }

-- a rank's own cells of an array
abbrev pub cells_at : List Piece → ℕ → List ℤ
cells_at pieces k = (piece_at pieces k).cells

-- ---- dealt out anew

-- the rank's own part of a vector of so many elements that are all the word `value`
unfoldable pub fill_data : List Dist → (number ranks : ℕ) → ℕ → (value count : ℕ) → Place → Data → Result Data Trap
fill_data dists number ranks to value count at d =
    and_then (filled at (word_at d.words count) (word_at d.words value)) (λ whole. Ok (with_array to (dealt (dist_at dists to) number ranks whole) d))

-- the rank's own part of the numbers from one word up to another
unfoldable pub range_data : List Dist → (number ranks : ℕ) → ℕ → (first last : ℕ) → Place → Data → Result Data Trap
range_data dists number ranks to first last at d =
    and_then (range_of at (word_at d.words first) (word_at d.words last)) (λ whole. Ok (with_array to (dealt (dist_at dists to) number ranks whole) d))

-- the columns of the table at a position, none where there is no such table
abbrev pub columns_at : List Table → ℕ → List (List ℤ)
columns_at tables k = slice_index_or (map (λ (t : Table). t.columns) tables) k []

-- the rank's own part of a table's columns, one in each of these arrays
unfoldable pub table_data : List Dist → Tables → (number ranks : ℕ) → List ℕ → (table : ℕ) → Data → Result Data Trap
table_data dists tables number ranks to table d =
    let columns = columns_at tables.list table in
    Ok (with_arrays to (map (λ k. dealt (dist_at dists (slice_index to k)) number ranks (column_at k columns)) (range_with_len 0 (length to))) d)

-- ---- of arrays

-- all are read before one is set
unfoldable pub copy_data : (to from : List ℕ) → Data → Result Data Trap
copy_data to from d = Ok (with_arrays to (map (piece_at d.arrays) from) d)

-- the running sums of the own cells, each with the word `start` before it; and their sum
unfoldable pub scan_data : ℕ → (from start part : ℕ) → Data → Result Data Trap
scan_data to from start part d =
    let piece = piece_at d.arrays from in
    Ok (with_word part (fold_of Sum piece.cells) (with_array to (cut_as piece (sums_after (word_at d.words start) piece.cells)) d))

-- the element at the position that a word says
unfoldable pub at_data : ℕ → (array index : ℕ) → Place → Data → Result Data Trap
at_data to array index at d = and_then (element_at at (cells_at d.arrays array) (word_at d.words index)) (λ value. Ok (with_word to value d))

-- the elements at the positions that the own cells of another array say, which is cut as that one
unfoldable pub pick_data : ℕ → (array index : ℕ) → Place → Data → Result Data Trap
pick_data to array index at d =
    and_then (elements_at at (cells_at d.arrays array) (cells_at d.arrays index)) (λ cells. Ok (with_array to (cut_as (piece_at d.arrays index) cells) d))
