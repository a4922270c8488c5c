-- What the operations and the programs of the array IR mean, over whole arrays.
use Rattle.std.specs.Prelude.{◌≡◌, ℕ, ◌+◌, ◌-◌, ◌==◌, ℤ, pos, ◌+ℤ◌, Bool, true, false, if◌then◌else◌, List, [], ◌∷◌, ◌++◌, map, length, remove, slice_get, Some, None, Result, Ok, Err, IsTrue}
use Rattle.std.specs.List.{list_any, list_all, range_with_len}
use Rattle.hp_word.specs.declared.elem.Elem.{Elem}
use Rattle.hp_word.specs.declared.fold.FoldKind.{FoldKind}
use Rattle.hp_word.specs.declared.matrix.Matrix.{Matrix}
use Rattle.hp_word.specs.declared.order.Order.{Order}
use Rattle.hp_word.specs.declared.order.RowPlace.{RowPlace}
use Rattle.hp_word.specs.declared.place.Place.{Place}
use Rattle.hp_word.specs.declared.place.Trap.{Trap}
use Rattle.hp_word.specs.declared.place.TrapKind.TheVariants.{Mismatch}
use Rattle.hp_word.specs.declared.table.Measure.{Measure}
use Rattle.hp_word.specs.declared.table.Table.{Table}
use Rattle.hp_word.specs.Elem.{Sight, trapped_at}
use Rattle.hp_word.specs.Lengths.{trap}
use Rattle.hp_word.specs.ListRules.{filled, range_of, appended, folded_list, prefix_sums, element_at, elements_at}
use Rattle.hp_word.specs.LoopRules.{and_then, word_at, cell_at, lets_after, rows_below, column_of}
use Rattle.hp_word.specs.MatrixRules.{stack, matrix_row, product, transposed}
use Rattle.hp_word.specs.RowRules.{level, column_at, key_first, filter_rows, join_pairs, groups, measure_cells, Taken, order_taken, by_left, by_right, sorted_places}
use Rattle.hp_word.specs.Runs.{Ran, Went, Trapped, Spent, Mistaken}
use Rattle.hp_word.specs.Tables.{row_count}
use Rattle.hp_word.specs.Text.{printed, list_line, csv}
use Rattle.hp_word.specs.Words.{calculated}
use Rattle.hp_program.specs.Programs.{Prog, Effect, Doing, operations, run, start}
use Rattle.hp_air.specs.declared.slot.Slot.{Slot}
use Rattle.hp_air.specs.declared.what.Op.{Op}
use Rattle.hp_air.specs.declared.what.What.{What}
use Rattle.hp_air.specs.declared.what.What.TheVariants as what
use Rattle.hp_air.specs.Frames.{slot_at}
use Rattle.hp_air.specs.Wholes.{Vector, Grid, cells, grid, Env, unset, with_word, with_slots, lists_at}

-- ---- what an operation makes

-- what an operation comes to that writes no text
abbrev pub silent : Env → Result (Effect Env) Trap
silent e = Ok (record { env = e; text = [] })

abbrev pub written : List ℕ → Env → Result (Effect Env) Trap
written text e = Ok (record { env = e; text = text })

-- a word, an array, a matrix or the columns of a frame, where there is no trap
abbrev pub word_made : ℕ → Env → Result ℤ Trap → Result (Effect Env) Trap
word_made to e made = and_then made (λ x. silent (with_word to x e))

abbrev pub array_made : ℕ → Env → Result (List ℤ) Trap → Result (Effect Env) Trap
array_made out e made = and_then made (λ xs. silent (with_slots (out ∷ []) (Vector xs ∷ []) e))

abbrev pub matrix_made : ℕ → Env → Result Matrix Trap → Result (Effect Env) Trap
matrix_made out e made = and_then made (λ m. silent (with_slots (out ∷ []) (Grid m ∷ []) e))

abbrev pub frame_made : List ℕ → Env → Result (List (List ℤ)) Trap → Result (Effect Env) Trap
frame_made outs e made = and_then made (λ columns. silent (with_slots outs (map Vector columns) e))

-- ---- loops

-- what an element of a loop reads at the place i: words, the cells of the inputs there, and of the halos round it
abbrev pub sight_at : (words : ℕ → ℤ) → (inputs halos : List (List ℤ)) → ℕ → List ℤ → Sight
sight_at words inputs halos i lets =
    record {
      word = words;
      input = λ k. word_at (column_at k inputs) i;
      near = λ k by. cell_at (column_at k halos) (pos i +ℤ by);
      earlier = word_at lets;
    }

-- the rows of lets at so many places, from the first on
unfoldable pub looped : (words : ℕ → ℤ) → (inputs halos : List (List ℤ)) → List Elem → ℕ → Result (List (List ℤ)) Trap
looped words inputs halos lets places = rows_below (λ i. lets_after (sight_at words inputs halos i) [] lets) places

-- the values of one element at so many places
unfoldable pub values_of : (words : ℕ → ℤ) → (inputs halos : List (List ℤ)) → Elem → ℕ → Result (List ℤ) Trap
values_of words inputs halos elem places = and_then (looped words inputs halos (elem ∷ []) places) (λ rows. Ok (column_of 0 rows))

-- a dotted construct or `map`; arrays that differ in length are a trap before the first place is looked at
unfoldable pub mapped : Place → (words : ℕ → ℤ) → List (List ℤ) → Elem → Result (List ℤ) Trap
mapped at words inputs elem = and_then (level at inputs) (λ even. values_of words even [] elem (row_count even))

-- the fold of an element's values at all places of an array
unfoldable pub reduced : Place → (words : ℕ → ℤ) → FoldKind → List ℤ → Elem → Result ℤ Trap
reduced at words kind xs elem = and_then (values_of words (xs ∷ []) [] elem (length xs)) (folded_list kind at)

-- the element at each place of an array, which it reads round that place
unfoldable pub stencilled : (words : ℕ → ℤ) → List ℤ → Elem → Result (List ℤ) Trap
stencilled words xs elem = values_of words [] (xs ∷ []) elem (length xs)

-- ---- frames

-- the columns of a table of the script
abbrev pub table_columns : ℕ → List Table → List (List ℤ)
table_columns number tables = elim (slice_get tables number) [ None ↦ [] | Some table ↦ table.columns ]

-- the rows where the mask is true
unfoldable pub filtered : Place → List (List ℤ) → (mask : List ℤ) → Result (List (List ℤ)) Trap
filtered at columns mask = if length mask == row_count columns then Ok (map (filter_rows mask) columns) else Err (trap at Mismatch)

-- the rows by the key, then by the other columns from the first on
unfoldable pub sorted_by : ℕ → List (List ℤ) → List (List ℤ)
sorted_by key columns = map (λ column. map (word_at column) (sorted_places (key_first key columns) (row_count columns))) columns

-- the rows of a join in an order: the left columns, then the right ones but for the key
unfoldable pub joined_rows : (lefts rights : List (List ℤ)) → (right_key : ℕ) → List RowPlace → List (List ℤ)
joined_rows lefts rights right_key places = map (λ column. by_left column places) lefts ++ map (λ column. by_right column places) (remove rights right_key)

-- the rows of an aggregate in an order: the key of each group, then its measures
unfoldable pub grouped_rows : List (List ℤ) → (key : ℕ) → List Measure → List RowPlace → List (List ℤ)
grouped_rows columns key measures places =
    by_left (column_at key columns) places ∷ map (λ m. measure_cells m (column_at key columns) columns places) measures

-- one more join or aggregate was executed, in an order that may be bad
abbrev pub executed : (is_bad : Bool) → Env → Env
executed is_bad e = record e { executed = e.executed + 1; bad = if is_bad then e.bad ++ (e.executed + 1) ∷ [] else e.bad }

-- the frame whose rows are made in an order, by one more join or aggregate
unfoldable pub in_order : List ℕ → Env → Taken → (List RowPlace → List (List ℤ)) → Result (Effect Env) Trap
in_order outs e order rows = silent (with_slots outs (map Vector (rows order.places)) (executed order.is_bad e))

-- the order of the next join or aggregate
abbrev pub next_order : List Order → Env → (plain : List RowPlace) → Taken
next_order orders e plain = order_taken (e.executed + 1) orders plain

-- ---- operations

-- what an operation does, over these tables and under these orders
unfoldable pub does : List Table → List Order → Place → What → Env → Result (Effect Env) Trap
does tables orders at (what.Const to value) e = silent (with_word to value e)
does tables orders at (what.Calc to op left right) e = word_made to e (trapped_at at (calculated op (e.words left) (e.words right)))
does tables orders at (what.Length to array) e = silent (with_word to (pos (length (cells (e.slots array)))) e)
does tables orders at (what.Fill out value count) e = array_made out e (filled at (e.words count) (e.words value))
does tables orders at (what.Range out first last) e = array_made out e (range_of at (e.words first) (e.words last))
does tables orders at (what.Read outs table) e = frame_made outs e (Ok (map (λ k. column_at k (table_columns table tables)) (range_with_len 0 (length outs))))
does tables orders at (what.Copy outs ins) e = silent (with_slots outs (map e.slots ins) e)
does tables orders at (what.Map out ins elem) e = array_made out e (mapped at e.words (lists_at e ins) elem)
does tables orders at (what.Reduce to kind array elem) e = word_made to e (reduced at e.words kind (cells (e.slots array)) elem)
does tables orders at (what.Scan out array) e = array_made out e (Ok (prefix_sums (cells (e.slots array))))
-- the array goes to its balanced copy
does tables orders at (what.Stencil out array balanced reach elem) e =
    array_made out (with_slots (balanced ∷ []) (e.slots array ∷ []) e) (stencilled e.words (cells (e.slots array)) elem)
does tables orders at (what.Filter outs ins mask) e = frame_made outs e (filtered at (lists_at e ins) (cells (e.slots mask)))
-- a join with more than 1,048,576 pairs traps and does not count as executed
does tables orders at (what.Join outs lefts left_key rights right_key) e =
    and_then (join_pairs at (column_at left_key (lists_at e lefts)) (column_at right_key (lists_at e rights)))
    (λ plain. in_order outs e (next_order orders e plain) (joined_rows (lists_at e lefts) (lists_at e rights) right_key))
does tables orders at (what.Group outs ins key measures) e =
    in_order outs e (next_order orders e (groups (column_at key (lists_at e ins)))) (grouped_rows (lists_at e ins) key measures)
does tables orders at (what.Concat out left right) e = array_made out e (appended at (cells (e.slots left)) (cells (e.slots right)))
does tables orders at (what.Sort outs ins key) e = frame_made outs e (Ok (sorted_by key (lists_at e ins)))
does tables orders at (what.At to array index) e = word_made to e (element_at at (cells (e.slots array)) (e.words index))
does tables orders at (what.Pick out array index) e = array_made out e (elements_at at (cells (e.slots array)) (cells (e.slots index)))
does tables orders at (what.Frame outs ins) e = frame_made outs e (level at (lists_at e ins))
does tables orders at (what.Stack out ins) e = matrix_made out e (stack at (lists_at e ins))
does tables orders at (what.Row out matrix index) e = array_made out e (matrix_row at (grid (e.slots matrix)) (e.words index))
does tables orders at (what.Product out left right) e = matrix_made out e (product at (grid (e.slots left)) (grid (e.slots right)))
does tables orders at (what.ProductT out left right) e = matrix_made out e (product at (grid (e.slots left)) (transposed (grid (e.slots right))))
does tables orders at (what.PrintWord word truth) e = written (printed truth (e.words word)) e
does tables orders at (what.PrintList array truth) e = written (list_line truth (cells (e.slots array))) e
does tables orders at (what.Export arrays names) e = written (csv (map (λ name. name.bytes) names) (lists_at e arrays)) e

-- ---- work

-- some of the slots is a balanced copy
abbrev pub has_balanced : List Slot → List ℕ → Bool
has_balanced slots ks = list_any (λ k. (slot_at slots k).balanced) ks

-- One unit for an operation, and one for each exchange that it can need: of words, for an output, or of an array that is
-- moved or dealt by keys. A `Map` counts one for each in besides its loop, which counts two; a `Reduce` a loop and its
-- words; a `Stencil` six. A copy to a balanced copy moves its array.
unfoldable pub units : List Slot → What → ℕ
units slots (what.Copy outs ins) = if has_balanced slots outs then 2 else 1
units slots (what.Map out ins elem) = 2 + length ins
units slots (what.Reduce to kind array elem) = 3
units slots (what.Scan out array) = 2
units slots (what.Stencil out array balanced reach elem) = 6
-- the mask, and the sizes
units slots (what.Filter outs ins mask) = 3
-- the left and the right side, and the sizes
units slots (what.Join outs lefts left_key rights right_key) = 4
-- the rows, and the sizes
units slots (what.Group outs ins key measures) = 3
units slots (what.Concat out left right) = 3
units slots (what.Sort outs ins key) = 2
-- each in but the first
units slots (what.Frame outs ins) = 1 + (length ins - 1)
units slots (what.Stack out ins) = 1 + (length ins - 1)
-- the right side, and the partial sums
units slots (what.ProductT out left right) = 3
units slots (what.PrintWord word truth) = 2
units slots (what.PrintList array truth) = 2
units slots (what.Export arrays names) = 2
units slots _ = 1

-- ---- programs

-- what the operations of a program with these slots do
abbrev pub doing : List Slot → List Table → List Order → Doing Op Env
doing slots tables orders = record { does = λ op. does tables orders op.at op.what; units = λ op. units slots op.what; word = λ e. e.words }

-- what a program comes to: behind it, it is done; the output, the environment and the work are those of its last state
unfoldable pub mean : List Slot → Prog Op → List Table → List Order → (fuel : ℕ) → Ran Env ℕ
mean slots p tables orders fuel = run (doing slots tables orders) p (start unset fuel)

-- the work until a run was done, trapped or was out of fuel
abbrev pub work_of : {E : Type 0} → Ran E ℕ → ℕ
work_of (Went s) = s.seen
work_of (Trapped t s) = s.seen
work_of (Spent s) = s.seen
work_of Mistaken = 0

-- ---- tables

-- the table of a `Read` is there and has as many columns as it names
abbrev pub serves : List Table → What → Bool
serves tables (what.Read outs table) = elim (slice_get tables table) [ None ↦ false | Some t ↦ length t.columns == length outs ]
serves tables _ = true

-- the tables have as many columns as each `Read` of the program names
abbrev pub Serves : Prog Op → List Table → Type 0
Serves p tables = IsTrue (list_all (λ op. serves tables op.what) (operations p))

-- ---- one meaning

-- How a run ends, as far as meanings are compared: done, with its output and its bad orders; at a trap, whose place and
-- kind may differ, with its output; or out of fuel, with its output. No program comes to what has no end.
pub data Ending : Type 0 where
  Done : (out bad : List ℕ) → Ending
  Stopped : (out : List ℕ) → Ending
  OutOfFuel : (out : List ℕ) → Ending
  NoEnd : Ending

abbrev pub ending : Ran Env ℕ → Ending
ending (Went s) = Done s.out s.env.bad
ending (Trapped t s) = Stopped s.out
ending (Spent s) = OutOfFuel s.out
ending Mistaken = NoEnd

-- how something ends over tables, under orders, with so many loop turns
abbrev pub Endings : Type 0
Endings = List Table → List Order → ℕ → Ending

-- two mean the same: they end in the same way over all tables that serve
abbrev pub SameMeaning : (IsServed : List Table → Type 0) → Endings → Endings → Type 0
SameMeaning IsServed first second = (tables : List Table) (orders : List Order) (fuel : ℕ) → IsServed tables → first tables orders fuel ≡ second tables orders fuel
