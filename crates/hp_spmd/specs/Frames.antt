-- What the instructions do that make rows of tables, as functions of a rank's data.
use Rattle.std.specs.Prelude.{ℕ, suc, ◌+◌, min, ℤ, pos, List, [], ◌∷◌, ◌++◌, length, map, remove, slice_index_or, Result, Ok}
use Rattle.std.specs.List.{range_with_len}
use Rattle.std.specs.Ordering.{int_eq}
use Rattle.hp_word.specs.declared.order.Order.{Order}
use Rattle.hp_word.specs.declared.order.Orders.{Orders}
use Rattle.hp_word.specs.declared.order.RowPlace.{RowPlace}
use Rattle.hp_word.specs.declared.place.Place.{Place}
use Rattle.hp_word.specs.declared.place.Trap.{Trap}
use Rattle.hp_word.specs.declared.table.Measure.{Measure}
use Rattle.hp_word.specs.ListRules.{at_least_zero}
use Rattle.hp_word.specs.LoopRules.{and_then, word_at}
use Rattle.hp_word.specs.RowRules.{by_left, by_right, cell_of, column_at, filter_rows, groups, join_pairs, key_first, measure_cells, row_place, sorted_places}
use Rattle.hp_word.specs.Tables.{row_count}
use Rattle.hp_word.specs.Words.{truth}
use Rattle.hp_lattice.specs.declared.dist.Dist.{Dist}
use Rattle.hp_lattice.specs.declared.dist.Dist.TheVariants.{Rep, Var, Block}
use Rattle.hp_spmd.specs.declared.instr.Rows.{Rows}
use Rattle.hp_spmd.specs.declared.instr.Rows.TheVariants.{Own, Got}
use Rattle.hp_spmd.specs.declared.instr.Target.{Target}
use Rattle.hp_spmd.specs.declared.instr.Target.TheVariants.{Whole, Loose}
use Rattle.hp_spmd.specs.Arrays.{cells_at, with_arrays}
use Rattle.hp_spmd.specs.Cuts.{own_from}
use Rattle.hp_spmd.specs.Matrices.{whole_piece}
use Rattle.hp_spmd.specs.Scalars.{greatest_count}
use Rattle.hp_spmd.specs.Setting.{with_all}
use Rattle.hp_spmd.specs.Store.{Data, dist_at, piece_at}

-- ---- rows that are made

-- columns, where they go: whole on each rank, or loose
abbrev pub columns_to : Target → List (List ℤ) → Data → Data
columns_to (Whole arrays) columns d = with_arrays arrays (map (whole_piece 1) columns) d
columns_to (Loose loose) columns d = record d { loose = with_all loose columns d.loose }

-- so many cells of a column, 0 where it has none
abbrev pub levelled : (rows : ℕ) → List ℤ → List ℤ
levelled rows cells = map (word_at cells) (range_with_len 0 rows)

-- 1 at each word that is 1, and 0 at the others
abbrev pub ones : List ℤ → List ℤ
ones words = map (λ word. truth (int_eq word (pos 1))) words

-- the own rows at which the mask is 1, of as many as it has
unfoldable pub select_data : Target → (mask : ℕ) → (from : List ℕ) → Data → Result Data Trap
select_data to mask from d =
    let wanted = ones (cells_at d.arrays mask) in
    Ok (columns_to to (map (λ k. filter_rows wanted (levelled (length wanted) (cells_at d.arrays k))) from) d)

-- rows that are whole on each rank, sorted by the key and then by the other columns in order
unfoldable pub sort_data : (to from : List ℕ) → (key : ℕ) → Data → Result Data Trap
sort_data to from key d =
    let columns = map (cells_at d.arrays) from in
    let places = sorted_places (key_first key columns) (row_count columns) in
    Ok (with_arrays to (map (λ cells. whole_piece 1 (map (word_at cells) places)) columns) d)

-- ---- rows that are read

-- rows by their columns, and the place in the whole, from 1, of each by its place, from 1, among them
pub record Placed : Type 0 where
  pub place : ℕ → ℕ
  pub columns : List (List ℤ)

-- how many rows of the whole stand before the rank's own, of which all have all of an array that is replicated
abbrev pub before_own : Dist → List ℕ → (number : ℕ) → ℕ
before_own Rep cuts number = 0
before_own Var cuts number = own_from Var cuts number
before_own Block cuts number = own_from Block cuts number

-- the same of the first of some arrays
abbrev pub before_first : List Dist → (number : ℕ) → List ℕ → Data → ℕ
before_first dists number [] d = 0
before_first dists number (k ∷ ks) d = before_own (dist_at dists k) (piece_at d.arrays k).cuts number

-- loose columns, the first of which has the rows' places
abbrev pub got_rows : List (List ℤ) → Placed
got_rows [] = record { place = λ k. 0; columns = [] }
got_rows (places ∷ columns) = record { place = λ k. at_least_zero (cell_of places k); columns = columns }

-- a place above the greatest count counts as that
abbrev pub rows_read : List Dist → (number : ℕ) → Rows → Data → Placed
rows_read dists number (Own arrays) d = record { place = λ k. min (before_first dists number arrays d + k) greatest_count; columns = map (cells_at d.arrays) arrays }
rows_read dists number (Got columns) d = got_rows (map (λ k. slice_index_or d.loose k []) columns)

-- ---- Join and Group

-- what a rank logs: nothing where all ranks have the rows
abbrev pub logged : Target → Order → Orders → Orders
logged (Whole arrays) order log = log
logged (Loose columns) order log = record { list = log.list ++ order ∷ [] }

-- one more join or aggregate, with the order of the rows that it made by their places in the whole
abbrev pub with_order : Target → List RowPlace → Data → Data
with_order to places d = record d { executed = suc d.executed; log = logged to (record { number = suc d.executed; places = places }) d.log }

-- the left columns and the right ones without the key, of these pairs
abbrev pub joined_columns : (left right : Placed) → (right_key : ℕ) → List RowPlace → List (List ℤ)
joined_columns left right right_key pairs = map (λ cells. by_left cells pairs) left.columns ++ map (λ cells. by_right cells pairs) (remove right.columns right_key)

unfoldable pub join_data : List Dist → (number : ℕ) → Target → (left : Rows) → (left_key : ℕ) → (right : Rows) → (right_key : ℕ) → Place → Data → Result Data Trap
join_data dists number to left left_key right right_key at d =
    let l = rows_read dists number left d in
    let r = rows_read dists number right d in
    and_then (join_pairs at (column_at left_key l.columns) (column_at right_key r.columns))
    (λ pairs. Ok (with_order to (map (λ p. row_place (l.place p.left) (r.place p.right)) pairs) (columns_to to (joined_columns l r right_key pairs) d)))

-- one row for each key, by the first place of the key: the key, and what is measured of the cells that there are
unfoldable pub group_data : List Dist → (number : ℕ) → Target → (from : Rows) → (key : ℕ) → List Measure → Data → Result Data Trap
group_data dists number to from key measures d =
    let rows = rows_read dists number from d in
    let keys = column_at key rows.columns in
    let firsts = groups keys in
    Ok (with_order to (map (λ p. row_place (rows.place p.left) 0) firsts) (columns_to to (by_left keys firsts ∷ map (λ m. measure_cells m keys rows.columns firsts) measures) d))
