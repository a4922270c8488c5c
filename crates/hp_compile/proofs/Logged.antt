-- An instruction that logs an order is followed by the pack of a size; all others leave the log.
use Rattle.std.proofs.Common.{◌≡◌, refl, sym, subst, ℕ, zero, suc, Bool, true, false, List, [], ◌∷◌, length, map, Option, Some, None, Result, Ok, Err, inl, inr}
use Rattle.std.specs.Prelude.{if◌then◌else◌, ◌*◌, ℤ, ◌==◌, ◌⊎◌, nat_le}
use Rattle.hp_word.specs.declared.order.RowPlace.{RowPlace}
use Rattle.hp_word.specs.declared.place.Place.{Place}
use Rattle.hp_word.specs.declared.place.Trap.{Trap}
use Rattle.hp_word.specs.declared.place.TrapKind.TheVariants.{TooLong}
use Rattle.hp_word.specs.declared.table.Tables.{Tables}
use Rattle.hp_word.specs.Elem.{trapped_at}
use Rattle.hp_word.specs.Lengths.{longest, trap}
use Rattle.hp_word.specs.ListRules.{element_at, elements_at, filled, range_of}
use Rattle.hp_word.specs.LoopRules.{and_then, rows_below, word_at}
use Rattle.hp_word.specs.MatrixRules.{matrix_row}
use Rattle.hp_word.specs.RowRules.{by_left, column_at, filter_rows, groups, join_pairs, measure_cells, row_place}
use Rattle.hp_word.specs.Words.{calculated}
use Rattle.hp_lattice.specs.declared.dist.Dist.{Dist}
use Rattle.hp_spmd.specs.declared.instr.Instr.{Instr}
use Rattle.hp_spmd.specs.declared.instr.Instr.TheVariants as instr
use Rattle.hp_spmd.specs.declared.instr.Packing.TheVariants.{Sizes}
use Rattle.hp_spmd.specs.declared.instr.Target.{Target}
use Rattle.hp_spmd.specs.declared.instr.Target.TheVariants.{Whole, Loose}
use Rattle.hp_spmd.specs.declared.store.Piece.{Piece}
use Rattle.hp_spmd.specs.Arrays.{at_data, cells_at, copy_data, fill_data, pick_data, range_data, scan_data, table_data, with_array}
use Rattle.hp_spmd.specs.Exchanges.{IsSized, Packed, PacksSize, SizeBehind, SizesFollow, leaves}
use Rattle.hp_spmd.specs.Frames.{columns_to, group_data, join_data, joined_columns, levelled, ones, rows_read, select_data, sort_data, with_order}
use Rattle.hp_spmd.specs.Kinds.{kind_of}
use Rattle.hp_spmd.specs.Local.{computed}
use Rattle.hp_spmd.specs.Loops.{cut_as, lets_at, loop_data, made_of}
use Rattle.hp_spmd.specs.Matrices.{cells_to, own_matrix, partial_cells, piece_to, product_data, product_piece, row_data, sized, stack_data, stacked, stacked_size, whole_piece}
use Rattle.hp_spmd.specs.Scalars.{piece_length, calc_data, check_data, check_of, const_data, length_data, lengths_of, unless, with_word}
use Rattle.hp_spmd.specs.Store.{Data, dealt, dist_at, instr_at, piece_at}
use Rattle.hp_spmd.proofs.MatrixNext.{cells_as_piece}

-- the log is left, or the next instruction packs a size
abbrev pub LogsBefore : Instr → Data → Result Data Trap → Type 0
LogsBefore next d (Ok e) = (e.log ≡ d.log) ⊎ PacksSize next
LogsBefore next d (Err t) = Unit {0}

made : {A : Type 0} (next : Instr) (d : Data) (r : Result A Trap) (f : A → Data) → ((a : A) → ((f a).log ≡ d.log) ⊎ PacksSize next) → LogsBefore next d (and_then r (λ a. Ok (f a)))
made next d (Ok a) f h = h a
made next d (Err t) f h = tt

unless_made : (next : Instr) (r : Option Trap) (d : Data) → LogsBefore next d (unless r d)
unless_made next None d = inl refl
unless_made next (Some t) d = tt

made_if : (next : Instr) (b : Bool) (d e : Data) (t : Trap) → e.log ≡ d.log → LogsBefore next d (if b then Ok e else Err t)
made_if next true d e t h = inl h
made_if next false d e t h = tt

columns_left : (to : Target) (columns : List (List ℤ)) (d : Data) → (columns_to to columns d).log ≡ d.log
columns_left (Whole arrays) columns d = refl
columns_left (Loose loose) columns d = refl

piece_left : (to : Target) (piece : Piece) (d : Data) → (piece_to to piece d).log ≡ d.log
piece_left (Whole arrays) piece d = refl
piece_left (Loose loose) piece d = refl

-- rows that are each rank's own are logged, and a size follows
ordered : (next : Instr) (to : Target) (places : List RowPlace) (columns : List (List ℤ)) (d : Data) → SizeBehind to next → ((with_order to places (columns_to to columns d)).log ≡ d.log) ⊎ PacksSize next
ordered next (Whole arrays) places columns d h = inl refl
ordered next (Loose loose) places columns d h = inr h

sized_left : (next : Instr) (at : Place) (meets : Bool) (size : ℕ) (d e : Data) → e.log ≡ d.log → LogsBefore next d (sized at meets size e)
sized_left next at true size d e h = made_if next (nat_le size longest) d e (trap at TooLong) h
sized_left next at false size d e h = tt

product_left : (next : Instr) (to : Target) (left right : ℕ) (flip : Bool) (at : Place) (d : Data) → LogsBefore next d (product_data to left right flip at d)
unfolding product_data
product_left next to left right false at d =
    let a = piece_at d.arrays left in
    let b = piece_at d.arrays right in
    sized_left next at (piece_length a == b.rows) (a.rows * piece_length b) d (piece_to to (product_piece a b) d) (piece_left to (product_piece a b) d)
product_left next to left right true at d =
    let a = piece_at d.arrays left in
    let b = piece_at d.arrays right in
    let as_piece = cells_as_piece to a.rows (partial_cells a b) d in
    sized_left next at (piece_length a == piece_length b) (a.rows * b.rows) d (cells_to to a.rows (partial_cells a b) d) (subst (λ (e : Data). e.log ≡ d.log) (sym as_piece) (piece_left to (whole_piece a.rows (partial_cells a b)) d))

pub computed_log : (dists : List Dist) (tables : Tables) (number ranks : ℕ) (i next : Instr) (d : Data) → IsSized i next → LogsBefore next d (computed dists tables number ranks i d)
unfolding const_data calc_data length_data check_data fill_data range_data table_data copy_data loop_data scan_data at_data pick_data select_data join_data group_data sort_data stack_data row_data
computed_log dists tables number ranks (instr.Calc to op left right at) next d h = made next d (trapped_at at (calculated op (word_at d.words left) (word_at d.words right))) (λ value. with_word to value d) (λ value. inl refl)
computed_log dists tables number ranks (instr.Check arrays rule at) next d h = unless_made next (check_of rule at (lengths_of arrays d.arrays)) d
computed_log dists tables number ranks (instr.Fill to value count at) next d h =
    made next d (filled at (word_at d.words count) (word_at d.words value)) (λ whole. with_array to (dealt (dist_at dists to) number ranks whole) d) (λ whole. inl refl)
computed_log dists tables number ranks (instr.Range to first last at) next d h =
    made next d (range_of at (word_at d.words first) (word_at d.words last)) (λ whole. with_array to (dealt (dist_at dists to) number ranks whole) d) (λ whole. inl refl)
computed_log dists tables number ranks (instr.Loop l) next d h = made next d (rows_below (lets_at l d) (length (piece_at d.arrays l.leader).cells)) (λ rows. made_of l rows d) (λ rows. inl refl)
computed_log dists tables number ranks (instr.At to array index at) next d h = made next d (element_at at (cells_at d.arrays array) (word_at d.words index)) (λ value. with_word to value d) (λ value. inl refl)
computed_log dists tables number ranks (instr.Pick to array index at) next d h =
    made next d (elements_at at (cells_at d.arrays array) (cells_at d.arrays index)) (λ cells. with_array to (cut_as (piece_at d.arrays index) cells) d) (λ cells. inl refl)
computed_log dists tables number ranks (instr.Select to mask from) next d h =
    let wanted = ones (cells_at d.arrays mask) in
    inl (columns_left to (map (λ k. filter_rows wanted (levelled (length wanted) (cells_at d.arrays k))) from) d)
computed_log dists tables number ranks (instr.Join j) next d h =
    let l = rows_read dists number j.left d in
    let r = rows_read dists number j.right d in
    made next d (join_pairs j.at (column_at j.left_key l.columns) (column_at j.right_key r.columns))
    (λ found. with_order j.to (map (λ p. row_place (l.place p.left) (r.place p.right)) found) (columns_to j.to (joined_columns l r j.right_key found) d))
    (λ found. ordered next j.to (map (λ p. row_place (l.place p.left) (r.place p.right)) found) (joined_columns l r j.right_key found) d h)
computed_log dists tables number ranks (instr.Group to from key measures) next d h =
    let rows = rows_read dists number from d in
    let keys = column_at key rows.columns in
    ordered next to _ (by_left keys (groups keys) ∷ map (λ m. measure_cells m keys rows.columns (groups keys)) measures) d h
computed_log dists tables number ranks (instr.Stack to from flat at) next d h =
    let pieces = map (piece_at d.arrays) from in
    made_if next (nat_le (stacked_size flat pieces) longest) d (with_array to (stacked flat pieces) d) (trap at TooLong) refl
computed_log dists tables number ranks (instr.Row to matrix index at) next d h =
    let piece = piece_at d.arrays matrix in
    made next d (matrix_row at (own_matrix piece) (word_at d.words index)) (λ cells. with_array to (record { rows = 1; cuts = piece.cuts; cells = cells }) d) (λ cells. inl refl)
computed_log dists tables number ranks (instr.Product to left right flip at) next d h = product_left next to left right flip at d
computed_log dists tables number ranks _ next d h = inl refl

-- ---- by places

-- where sizes follow, one follows each instruction that wants it
pub sized_at : (list : List Instr) (k : ℕ) → SizesFollow list → IsSized (instr_at list k) (instr_at list (suc k))
sized_at [] k h = tt
sized_at (i ∷ is) zero h = h.0
sized_at (i ∷ is) (suc k) h = sized_at is k h.1

pub packs_size : (i : Instr) → PacksSize i → leaves (kind_of i) ≡ Packed
packs_size (instr.Pack (Sizes loose)) h = refl
packs_size i h = absurd h
