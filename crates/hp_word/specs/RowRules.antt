-- Rows of tables as whole lists, columns by position: columns of one length, the rows that a filter keeps, that a join
-- pairs and that an aggregate groups, the order in which these stand, what is measured of a group, and sorted rows.
-- A row's place counts from 1, as in an order; what counts from 0, as the kernels do, has `from_0` in its name or is
-- said to.
use Rattle.std.specs.Prelude.{◌≡◌, ℕ, ◌+◌, ◌-◌, ◌==◌, ◌≤◌, ℤ, pos, Bool, true, false, ◌&&◌, if◌then◌else◌, List, [], ◌∷◌, ◌++◌, map, length, find, count_by, remove, slice_index_or, nat_le, Option, Some, None, Result, Ok, Err, IsPermutation, IsSorted, refl}
use Rattle.std.specs.List.{list_any, list_all, range_with_len, position_or_len}
use Rattle.std.specs.declared.cmp.Ordering.{Ordering}
use Rattle.std.specs.declared.cmp.Ordering.TheVariants.{Equal}
use Rattle.std.specs.Ordering.{int_eq, int_cmp, nat_cmp, is_lt, ordering_then}
use Rattle.hp_word.specs.declared.fold.FoldKind.TheVariants as folds
use Rattle.hp_word.specs.declared.order.Order.{Order}
use Rattle.hp_word.specs.declared.order.RowPlace.{RowPlace}
use Rattle.hp_word.specs.declared.place.Place.{Place}
use Rattle.hp_word.specs.declared.place.Trap.{Trap}
use Rattle.hp_word.specs.declared.place.TrapKind.TheVariants.{Mismatch, TooLong}
use Rattle.hp_word.specs.declared.table.Measure.{Measure}
use Rattle.hp_word.specs.declared.table.MeasureKind.{MeasureKind}
use Rattle.hp_word.specs.declared.table.MeasureKind.TheVariants.{Sum, Min, Max, Count}
use Rattle.hp_word.specs.Folds.{fold_of}
use Rattle.hp_word.specs.Lengths.{trap, longest}
use Rattle.hp_word.specs.Tables.{row_count}
use Rattle.hp_word.specs.Words.{is_true, truth}

-- ---- columns

-- the lists have the length of the first
abbrev pub are_level : List (List ℤ) → Bool
are_level lists = list_all (λ xs. length xs == row_count lists) lists

-- these columns, where they have one length
unfoldable pub level : Place → List (List ℤ) → Result (List (List ℤ)) Trap
level at columns = if are_level columns then Ok columns else Err (trap at Mismatch)

-- the column at a position from 0
abbrev pub column_at : ℕ → List (List ℤ) → List ℤ
column_at k columns = slice_index_or columns k []

-- the columns with the one at this position from 0 as the first
abbrev pub key_first : (key : ℕ) → List (List ℤ) → List (List ℤ)
key_first key columns = column_at key columns ∷ remove columns key

-- a cell of a column by its row's place
abbrev pub cell_of : List ℤ → (place : ℕ) → ℤ
cell_of cells place = slice_index_or cells (place - 1) (pos 0)

-- ---- filters

-- the items of the rows at which the mask is true
unfoldable pub filter_rows : {A : Type 0} → (mask : List ℤ) → List A → List A
filter_rows [] xs = []
filter_rows (m ∷ mask) [] = []
filter_rows (m ∷ mask) (x ∷ xs) = if is_true m then x ∷ filter_rows mask xs else filter_rows mask xs

-- ---- joins

-- a row of a result, by the places of the rows that it was made of
abbrev pub row_place : ℕ → ℕ → RowPlace
row_place left right = record { left = left; right = right }

-- the pairs of a left row at the place i, whose key is x, with the right rows from the place j on
unfoldable pub matches_of : (i : ℕ) (x : ℤ) (j : ℕ) → List ℤ → List RowPlace
matches_of i x j [] = []
matches_of i x j (y ∷ ys) = if int_eq x y then row_place i j ∷ matches_of i x (j + 1) ys else matches_of i x (j + 1) ys

-- the pairs of the left rows from the place i on with the right rows from the place j on
unfoldable pub pairs_from : (i j : ℕ) (left right : List ℤ) → List RowPlace
pairs_from i j [] right = []
pairs_from i j (x ∷ left) right = matches_of i x j right ++ pairs_from (i + 1) j left right

-- the pairs of rows with equal keys, by left and then by right row
abbrev pub pairs : (left right : List ℤ) → List RowPlace
pairs left right = pairs_from 1 1 left right

-- the same by places that count from 0
abbrev pub pairs_from_0 : (left right : List ℤ) → List RowPlace
pairs_from_0 left right = pairs_from 0 0 left right

-- the pairs of a join, of which there may be at most 1,048,576
unfoldable pub join_pairs : Place → (left right : List ℤ) → Result (List RowPlace) Trap
join_pairs at left right = if nat_le (length (pairs left right)) longest then Ok (pairs left right) else Err (trap at TooLong)

-- ---- groups

abbrev pub has : List ℤ → ℤ → Bool
has xs x = list_any (int_eq x) xs

-- the places, from the place i on, of the keys that are not among those before
unfoldable pub firsts_from : (i : ℕ) (before : List ℤ) → List ℤ → List ℕ
firsts_from i before [] = []
firsts_from i before (x ∷ xs) = if has before x then firsts_from (i + 1) before xs else i ∷ firsts_from (i + 1) (before ++ x ∷ []) xs

-- the first place of each key
abbrev pub groups : List ℤ → List RowPlace
groups keys = map (λ first. row_place first 0) (firsts_from 1 [] keys)

-- the same by places that count from 0
abbrev pub firsts_from_0 : List ℤ → List ℕ
firsts_from_0 keys = firsts_from 0 [] keys

-- the key of each group
abbrev pub group_keys : List ℤ → List ℤ
group_keys keys = map (λ first. slice_index_or keys first (pos 0)) (firsts_from_0 keys)

-- the number, from 0, of each row's group
unfoldable pub group_of : List ℤ → List ℕ
group_of keys = map (λ key. position_or_len (int_eq key) (group_keys keys)) keys

-- the items of the rows with this key
unfoldable pub with_key : {A : Type 0} → (keys : List ℤ) → ℤ → List A → List A
with_key keys key xs = filter_rows (map (λ k. truth (int_eq key k)) keys) xs

-- what an aggregate works out of the rows with this key
abbrev pub measured : MeasureKind → (keys cells : List ℤ) → ℤ → ℤ
measured Sum keys cells key = fold_of folds.Sum (with_key keys key cells)
measured Min keys cells key = fold_of folds.Min (with_key keys key cells)
measured Max keys cells key = fold_of folds.Max (with_key keys key cells)
measured Count keys cells key = pos (length (with_key keys key keys))

-- the same of each group, by its place
unfoldable pub measures_by_left : MeasureKind → (keys cells : List ℤ) → List RowPlace → List ℤ
measures_by_left kind keys cells places = map (λ p. measured kind keys cells (cell_of keys p.left)) places

-- the column of a measure of these columns, one cell for each group; that of a count is not looked at
abbrev pub measure_cells : Measure → (keys : List ℤ) (columns : List (List ℤ)) → List RowPlace → List ℤ
measure_cells m keys columns places = measures_by_left m.kind keys (column_at m.column columns) places

-- ---- orders

abbrev pub is_place : RowPlace → RowPlace → Bool
is_place p q = (p.left == q.left) && (p.right == q.right)

abbrev pub times_in : List RowPlace → RowPlace → ℕ
times_in places p = count_by (is_place p) places

-- whether a list has each of these places exactly once and no other
unfoldable pub is_order : (plain places : List RowPlace) → Bool
is_order plain places = list_all (λ p. times_in places p == 1) plain && list_all (λ p. list_any (is_place p) plain) places

-- the order of a join or aggregate: its places, and whether the order that it was given is bad
pub record Taken : Type 0 where
  pub places : List RowPlace
  pub is_bad : Bool

abbrev pub taken : List RowPlace → Bool → Taken
taken places is_bad = record { places = places; is_bad = is_bad }

-- an order, where it is well formed, and the plain one otherwise
abbrev pub taken_of : List RowPlace → Option Order → Taken
taken_of plain None = taken plain false
taken_of plain (Some order) = if is_order plain order.places then taken order.places false else taken plain true

unfoldable pub order_named : (number : ℕ) → List Order → Option Order
order_named number orders = find (λ order. order.number == number) orders

-- the order of the join or aggregate with this number: the first that is given for it
unfoldable pub order_taken : (number : ℕ) → List Order → (plain : List RowPlace) → Taken
order_taken number orders plain = taken_of plain (order_named number orders)

-- Up to a number two lists of orders agree: a join or an aggregate with such a number, which are from 1 on, takes the
-- same order by the one and by the other, whatever its rows are.
abbrev pub AgreeUpTo : (last : ℕ) → List Order → List Order → Type 0
AgreeUpTo last a b = (number : ℕ) → 1 ≤ number → number ≤ last → (plain : List RowPlace) → order_taken number a plain ≡ order_taken number b plain

-- a column's cells in the order of the left and of the right places
unfoldable pub by_left : List ℤ → List RowPlace → List ℤ
by_left cells places = map (λ p. cell_of cells p.left) places

unfoldable pub by_right : List ℤ → List RowPlace → List ℤ
by_right cells places = map (λ p. cell_of cells p.right) places

-- ---- sorted rows

-- how two rows stand, by the first column in which they differ
unfoldable pub row_order : List ℤ → List ℤ → Ordering
row_order [] ys = Equal
row_order (x ∷ xs) [] = Equal
row_order (x ∷ xs) (y ∷ ys) = ordering_then (int_cmp x y) (row_order xs ys)

abbrev pub is_before : List ℤ → List ℤ → Bool
is_before xs ys = is_lt (row_order xs ys)

-- the cells of a row, by its place from 0
abbrev pub row_at : List (List ℤ) → ℕ → List ℤ
row_at columns place = map (λ cells. slice_index_or cells place (pos 0)) columns

-- a place among places whose rows are sorted: before the first whose row is not before its own
unfoldable pub inserted : List (List ℤ) → ℕ → List ℕ → List ℕ
inserted columns p [] = p ∷ []
inserted columns p (q ∷ places) = if is_before (row_at columns q) (row_at columns p) then q ∷ inserted columns p places else p ∷ q ∷ places

-- these places in the order of their rows; equal rows stay in their order
unfoldable pub sorted : List (List ℤ) → List ℕ → List ℕ
sorted columns [] = []
sorted columns (p ∷ places) = inserted columns p (sorted columns places)

-- the places from 0 of the rows, sorted by the columns from the first on
unfoldable pub sorted_places : List (List ℤ) → (rows : ℕ) → List ℕ
sorted_places columns rows = sorted columns (range_with_len 0 rows)

-- how the rows at two places from 0 stand, and of equal rows how the places do
abbrev pub place_order : List (List ℤ) → ℕ → ℕ → Ordering
place_order columns p q = ordering_then (row_order (row_at columns p) (row_at columns q)) (nat_cmp p q)

-- the places from 0 of so many rows, each once, in the order of their rows, and those of equal rows by place
pub record IsSortingOf (columns : List (List ℤ)) (rows : ℕ) (places : List ℕ) : Type 0 where
  pub all : IsPermutation (range_with_len 0 rows) places
  pub rises : IsSorted (place_order columns) places

-- ---- worked rows

level_row : (at : Place) → level at ((pos 1 ∷ pos 2 ∷ []) ∷ (pos 3 ∷ []) ∷ []) ≡ Err (trap at Mismatch)
unfolding level
level_row at = refl

key_row : key_first 1 ((pos 1 ∷ []) ∷ (pos 2 ∷ []) ∷ (pos 3 ∷ []) ∷ []) ≡ (pos 2 ∷ []) ∷ (pos 1 ∷ []) ∷ (pos 3 ∷ []) ∷ []
key_row = refl

filter_row : filter_rows (pos 1 ∷ pos 0 ∷ pos 1 ∷ []) (pos 7 ∷ pos 8 ∷ pos 9 ∷ []) ≡ pos 7 ∷ pos 9 ∷ []
unfolding filter_rows
filter_row = refl

pairs_row : pairs (pos 1 ∷ pos 1 ∷ pos 2 ∷ []) (pos 1 ∷ pos 1 ∷ pos 3 ∷ []) ≡ row_place 1 1 ∷ row_place 1 2 ∷ row_place 2 1 ∷ row_place 2 2 ∷ []
unfolding pairs_from matches_of
pairs_row = refl

pairs_from_0_row : pairs_from_0 (pos 1 ∷ pos 2 ∷ []) (pos 3 ∷ pos 2 ∷ []) ≡ row_place 1 1 ∷ []
unfolding pairs_from matches_of
pairs_from_0_row = refl

join_row : (at : Place) → join_pairs at (pos 4 ∷ []) (pos 5 ∷ pos 4 ∷ []) ≡ Ok (row_place 1 2 ∷ [])
unfolding join_pairs pairs_from matches_of
join_row at = refl

groups_row : groups (pos 5 ∷ pos 7 ∷ pos 5 ∷ pos 2 ∷ []) ≡ row_place 1 0 ∷ row_place 2 0 ∷ row_place 4 0 ∷ []
unfolding firsts_from
groups_row = refl

firsts_row : firsts_from_0 (pos 5 ∷ pos 7 ∷ pos 5 ∷ pos 2 ∷ []) ≡ 0 ∷ 1 ∷ 3 ∷ []
unfolding firsts_from
firsts_row = refl

group_of_row : group_of (pos 5 ∷ pos 7 ∷ pos 5 ∷ pos 2 ∷ []) ≡ 0 ∷ 1 ∷ 0 ∷ 2 ∷ []
unfolding group_of firsts_from
group_of_row = refl

measured_row : measured Sum (pos 5 ∷ pos 7 ∷ pos 5 ∷ []) (pos 1 ∷ pos 2 ∷ pos 3 ∷ []) (pos 5) ≡ pos 4
unfolding filter_rows with_key Rattle.std.specs.Int.int_wrap
measured_row = refl

measure_row : measure_cells (record { kind = Max; column = 1 }) (pos 5 ∷ pos 7 ∷ pos 5 ∷ []) ((pos 5 ∷ pos 7 ∷ pos 5 ∷ []) ∷ (pos 1 ∷ pos 2 ∷ pos 3 ∷ []) ∷ []) (row_place 1 0 ∷ row_place 2 0 ∷ []) ≡ pos 3 ∷ pos 2 ∷ []
unfolding measures_by_left filter_rows with_key
measure_row = refl

order_row : is_order (row_place 1 0 ∷ row_place 2 0 ∷ []) (row_place 2 0 ∷ row_place 1 0 ∷ []) ≡ true
unfolding is_order
order_row = refl

double_row : is_order (row_place 1 0 ∷ row_place 2 0 ∷ []) (row_place 2 0 ∷ row_place 1 0 ∷ row_place 2 0 ∷ []) ≡ false
unfolding is_order
double_row = refl

-- the first order with the number is looked at; a bad one is not taken
bad_order_row : order_taken 1 (record { number = 1; places = row_place 2 0 ∷ [] } ∷ []) (row_place 1 0 ∷ []) ≡ taken (row_place 1 0 ∷ []) true
unfolding order_taken order_named is_order
bad_order_row = refl

left_row : by_left (pos 7 ∷ pos 8 ∷ []) (row_place 2 1 ∷ row_place 1 1 ∷ []) ≡ pos 8 ∷ pos 7 ∷ []
unfolding by_left
left_row = refl

right_row : by_right (pos 7 ∷ pos 8 ∷ []) (row_place 2 1 ∷ row_place 1 1 ∷ []) ≡ pos 7 ∷ pos 7 ∷ []
unfolding by_right
right_row = refl

sorted_row : sorted_places ((pos 2 ∷ pos 1 ∷ pos 2 ∷ []) ∷ (pos 9 ∷ pos 0 ∷ pos 4 ∷ []) ∷ []) 3 ≡ 1 ∷ 2 ∷ 0 ∷ []
unfolding sorted_places sorted inserted row_order
sorted_row = refl

equal_row : sorted_places ((pos 2 ∷ pos 2 ∷ pos 1 ∷ []) ∷ []) 3 ≡ 2 ∷ 0 ∷ 1 ∷ []
unfolding sorted_places sorted inserted row_order
equal_row = refl
