-- The constructs of frames.
use Rattle.std.specs.Prelude.{◌≡◌, ℕ, ◌+◌, ◌==◌, ℤ, pos, Bool, not, if◌then◌else◌, List, [], ◌∷◌, ◌++◌, map, zip, filter, find, length, slice_index_or, bytes_eq, codes, Option, Some, None, refl}
use Rattle.std.specs.Option.{option_map}
use Rattle.hp_word.specs.declared.order.Order.{Order}
use Rattle.hp_word.specs.declared.order.RowPlace.{RowPlace}
use Rattle.hp_word.specs.declared.place.Place.{Place}
use Rattle.hp_word.specs.declared.place.TrapKind.TheVariants.{Mismatch}
use Rattle.hp_word.specs.declared.table.MeasureKind.{MeasureKind}
use Rattle.hp_word.specs.declared.table.MeasureKind.TheVariants.{Count}
use Rattle.hp_word.specs.declared.table.Table.{Table}
use Rattle.hp_word.specs.Lengths.{trap}
use Rattle.hp_word.specs.Tables.{row_count}
use Rattle.hp_script.specs.Trees.{named}
use Rattle.hp_meaning.specs.declared.seen.Met.{Met}
use Rattle.hp_meaning.specs.declared.value.Column.{Column}
use Rattle.hp_meaning.specs.declared.value.Kind.TheVariants.{Number}
use Rattle.hp_meaning.specs.declared.value.Value.{Value}
use Rattle.hp_meaning.specs.declared.value.Value.TheVariants.{Word, List as Listed, Frame}
use Rattle.hp_meaning.specs.Outcomes.{Answer, Gives, Traps, Refuses, also, given, told, all_of, Course, Is, Stops, Wrong, followed, needed, ended}
use Rattle.hp_meaning.specs.Operands.{as_frame, as_truths}
use Rattle.hp_word.specs.RowRules.{level, filter_rows, row_place, join_pairs, groups, measures_by_left, Taken, order_taken, by_left, by_right, sorted_places}

-- ---- columns

abbrev pub column : List ℕ → List ℤ → Column
column name cells = record { name = named name; cells = cells }

abbrev pub is_named : List ℕ → Column → Bool
is_named name c = bytes_eq c.name.bytes name

-- the cells of the first column with this name
unfoldable pub column_of : List ℕ → List Column → Option (List ℤ)
column_of name columns = option_map (λ c. c.cells) (find (is_named name) columns)

-- the columns with other names
unfoldable pub without : List ℕ → List Column → List Column
without name columns = filter (λ c. not (is_named name c)) columns

-- the cells of each column
abbrev pub cells_of : List Column → List (List ℤ)
cells_of columns = map (λ c. c.cells) columns

-- how many rows a frame has
abbrev pub rows_of : List Column → ℕ
rows_of columns = row_count (cells_of columns)

-- each column with other cells
abbrev pub changed : (List ℤ → List ℤ) → List Column → List Column
changed change columns = map (λ c. record { name = c.name; cells = change c.cells }) columns

-- what is made of a frame, and of a column of it
abbrev pub one_frame : {A : Type 0} → Value → (List Column → Answer A) → Answer A
one_frame a rule = given (as_frame a) rule

unfoldable pub field_value : List ℕ → Value → Answer Value
field_value name a = one_frame a (λ columns. given (column_of name columns) (λ cells. Gives (Listed Number cells)))

unfoldable pub rows_value : Value → Answer Value
rows_value a = one_frame a (λ columns. Gives (Word Number (pos (rows_of columns))))

-- ---- making frames

-- one or more columns of one length
unfoldable pub framed : Place → List Column → Answer Value
framed at [] = Refuses
framed at columns = also (told (level at (cells_of columns))) (λ cells. Gives (Frame columns))

-- the columns of a table by these names
unfoldable pub named_columns : List (List ℕ) → List (List ℤ) → List Column
named_columns names lists = map (λ p. column p.0 p.1) (zip names lists)

unfoldable pub tabled : List (List ℕ) → Option Table → Answer Value
tabled names None = Refuses
tabled names (Some table) = if length names == length table.columns then Gives (Frame (named_columns names table.columns)) else Refuses

-- the rows where the mask is true
unfoldable pub filtered : Place → List Column → Value → Answer Value
filtered at columns a = given (as_truths a) (λ mask. if length mask == rows_of columns then Gives (Frame (changed (filter_rows mask) columns)) else Traps (trap at Mismatch))

-- the cells at these places from 0
unfoldable pub picked : List ℕ → List ℤ → List ℤ
picked places cells = map (λ p. slice_index_or cells p (pos 0)) places

-- the rows by the key, then by the other columns from the first on
unfoldable pub sorted_frame : List ℕ → List Column → List ℤ → List Column
sorted_frame key columns keys =
    let places = sorted_places (keys ∷ cells_of (without key columns)) (rows_of columns) in
    changed (picked places) columns

unfoldable pub sorted_value : List ℕ → Value → Answer Value
sorted_value key a = one_frame a (λ columns. given (column_of key columns) (λ keys. Gives (Frame (sorted_frame key columns keys))))

-- ---- joins and aggregates

-- one more join or aggregate was executed, in an order that may be bad
abbrev pub executed : (is_bad : Bool) → Met → Met
executed is_bad n = record n { executed = n.executed + 1; bad = if is_bad then n.bad ++ (n.executed + 1) ∷ [] else n.bad }

-- the frame whose rows are made in an order, by one more join
abbrev pub in_order : Taken → (List RowPlace → List Column) → Met → Course Met Value
in_order order rows n = Is (Frame (rows order.places)) (executed order.is_bad n)

-- the rows of a join in an order: the left columns, then the right ones but for the key
unfoldable pub joined_rows : List ℕ → (left right : List Column) → List RowPlace → List Column
joined_rows key left right places =
    changed (λ cells. by_left cells places) left ++ changed (λ cells. by_right cells places) (without key right)

-- A join with more pairs traps and does not count as executed.
unfoldable pub joined_keys : List Order → Place → List ℕ → (left right : List Column) → (left_keys right_keys : List ℤ) → Met → Course Met Value
joined_keys orders at key left right left_keys right_keys n =
    followed (ended (told (join_pairs at left_keys right_keys)) n) (λ plain n. in_order (order_taken (n.executed + 1) orders plain) (joined_rows key left right) n)

-- the cells of a column that a join or an aggregate goes by
abbrev pub keyed : List ℕ → List Column → (List ℤ → Course Met Value) → Course Met Value
keyed key columns rule = needed (column_of key columns) rule

unfoldable pub joined : List Order → Place → List ℕ → Value → Value → Met → Course Met Value
joined orders at key a b n =
    needed (as_frame a) (λ left. needed (as_frame b) (λ right.
    keyed key left (λ left_keys. keyed key right (λ right_keys. joined_keys orders at key left right left_keys right_keys n))))

-- a measure of an aggregate: its name, what it works out, and the column that it is of, which a count has not
pub record Measured : Type 0 where
  pub name : List ℕ
  pub kind : MeasureKind
  pub of_it : List ℕ

-- the cells that a measure is of; a count looks at the keys alone
abbrev pub cells_for : MeasureKind → List ℕ → List Column → (keys : List ℤ) → Option (List ℤ)
cells_for Count of_it columns keys = Some keys
cells_for kind of_it columns keys = column_of of_it columns

-- the column of a measure, one cell for each group
unfoldable pub measure_column : (columns : List Column) (keys : List ℤ) → List RowPlace → Measured → Answer Column
measure_column columns keys places m =
    given (cells_for m.kind m.of_it columns keys) (λ cells. Gives (column m.name (measures_by_left m.kind keys cells places)))

-- the key of each group, then its measures
unfoldable pub grouped_rows : List ℕ → (columns : List Column) (keys : List ℤ) → List Measured → List RowPlace → Answer Value
grouped_rows key columns keys measures places =
    also (all_of (map (measure_column columns keys places) measures)) (λ made. Gives (Frame (column key (by_left keys places) ∷ made)))

unfoldable pub grouped_keys : List Order → List ℕ → (columns : List Column) → List Measured → (keys : List ℤ) → Met → Course Met Value
grouped_keys orders key columns measures keys n =
    let order = order_taken (n.executed + 1) orders (groups keys) in
    ended (grouped_rows key columns keys measures order.places) (executed order.is_bad n)

unfoldable pub grouped : List Order → List ℕ → List Measured → Value → Met → Course Met Value
grouped orders key measures a n = needed (as_frame a) (λ columns. keyed key columns (λ keys. grouped_keys orders key columns measures keys n))

-- ---- worked rows

abbrev id : List ℕ
id = codes "id"

abbrev left_row : List Column
left_row = column id (pos 1 ∷ pos 1 ∷ pos 2 ∷ []) ∷ column (codes "a") (pos 10 ∷ pos 11 ∷ pos 12 ∷ []) ∷ []

abbrev right_row : List Column
right_row = column id (pos 1 ∷ pos 3 ∷ []) ∷ column (codes "b") (pos 20 ∷ pos 22 ∷ []) ∷ []

abbrev none_met : Met
none_met = record { executed = 0; bad = [] }

join_row : (at : Place) → joined [] at id (Frame left_row) (Frame right_row) none_met
    ≡ Is (Frame (column id (pos 1 ∷ pos 1 ∷ []) ∷ column (codes "a") (pos 10 ∷ pos 11 ∷ []) ∷ column (codes "b") (pos 20 ∷ pos 20 ∷ []) ∷ [])) (record { executed = 1; bad = [] })
unfolding joined joined_keys Rattle.hp_word.specs.RowRules.join_pairs joined_rows column_of without Rattle.hp_word.specs.RowRules.order_taken Rattle.hp_word.specs.RowRules.order_named Rattle.hp_word.specs.RowRules.pairs_from Rattle.hp_word.specs.RowRules.matches_of Rattle.hp_word.specs.RowRules.by_left Rattle.hp_word.specs.RowRules.by_right
join_row at = refl

-- a bad order is not taken, and counts as bad
bad_order_row : (at : Place) → joined (record { number = 1; places = row_place 2 1 ∷ [] } ∷ []) at id (Frame left_row) (Frame right_row) none_met
    ≡ Is (Frame (column id (pos 1 ∷ pos 1 ∷ []) ∷ column (codes "a") (pos 10 ∷ pos 11 ∷ []) ∷ column (codes "b") (pos 20 ∷ pos 20 ∷ []) ∷ [])) (record { executed = 1; bad = 1 ∷ [] })
unfolding joined joined_keys Rattle.hp_word.specs.RowRules.join_pairs joined_rows column_of without Rattle.hp_word.specs.RowRules.order_taken Rattle.hp_word.specs.RowRules.order_named Rattle.hp_word.specs.RowRules.is_order Rattle.hp_word.specs.RowRules.pairs_from Rattle.hp_word.specs.RowRules.matches_of Rattle.hp_word.specs.RowRules.by_left Rattle.hp_word.specs.RowRules.by_right
bad_order_row at = refl

aggregate_row : grouped [] id (record { name = codes "n"; kind = Count; of_it = [] } ∷ []) (Frame left_row) none_met
    ≡ Is (Frame (column id (pos 1 ∷ pos 2 ∷ []) ∷ column (codes "n") (pos 2 ∷ pos 1 ∷ []) ∷ [])) (record { executed = 1; bad = [] })
unfolding grouped grouped_keys grouped_rows measure_column column_of Rattle.hp_meaning.specs.Outcomes.all_of Rattle.hp_word.specs.RowRules.order_taken Rattle.hp_word.specs.RowRules.order_named Rattle.hp_word.specs.RowRules.firsts_from Rattle.hp_word.specs.RowRules.filter_rows Rattle.hp_word.specs.RowRules.measures_by_left Rattle.hp_word.specs.RowRules.with_key Rattle.hp_word.specs.RowRules.by_left
aggregate_row = refl
