-- How many joins and aggregates a rank has executed: an instruction raises it by one at most.
use Rattle.std.proofs.Common.{◌≡◌, ◌∙◌, refl, ap, arith, ℕ, suc, ◌*◌, ◌≤◌, Bool, true, false, if◌then◌else◌, List, ◌∷◌, map, length, Option, Some, None, Result, Ok, Err}
use Rattle.std.specs.Prelude.{ℤ, ◌==◌, nat_le, sum}
use Rattle.hp_word.specs.declared.place.Place.{Place}
use Rattle.hp_word.specs.declared.place.Trap.{Trap}
use Rattle.hp_word.specs.declared.place.TrapKind.TheVariants.{TooLong}
use Rattle.hp_word.specs.declared.table.Message.{Message}
use Rattle.hp_word.specs.declared.table.Tables.{Tables}
use Rattle.hp_word.specs.Elem.{trapped_at}
use Rattle.hp_word.specs.Lengths.{longest, trap}
use Rattle.hp_word.specs.ListRules.{element_at, elements_at, filled, range_of}
use Rattle.hp_word.specs.LoopRules.{and_then, rows_below, word_at}
use Rattle.hp_word.specs.MatrixRules.{matrix_row}
use Rattle.hp_word.specs.RowRules.{by_left, column_at, filter_rows, groups, join_pairs, measure_cells, row_place}
use Rattle.hp_word.specs.Words.{calculated}
use Rattle.hp_lattice.specs.declared.dist.Dist.{Dist}
use Rattle.hp_spmd.specs.declared.instr.Instr.{Instr}
use Rattle.hp_spmd.specs.declared.instr.Instr.TheVariants as instr
use Rattle.hp_spmd.specs.declared.instr.Unpacking.{Unpacking}
use Rattle.hp_spmd.specs.declared.instr.Unpacking.TheVariants.{Seal}
use Rattle.hp_spmd.specs.Arrays.{at_data, cells_at, copy_data, fill_data, pick_data, range_data, scan_data, table_data, with_array}
use Rattle.hp_spmd.specs.declared.instr.Target.{Target}
use Rattle.hp_spmd.specs.declared.instr.Target.TheVariants.{Whole, Loose}
use Rattle.hp_spmd.specs.declared.store.Piece.{Piece}
use Rattle.hp_spmd.specs.Exchange.{unpacked}
use Rattle.hp_spmd.specs.Frames.{columns_to, group_data, join_data, joined_columns, levelled, ones, rows_read, select_data, sort_data, with_order}
use Rattle.hp_spmd.specs.Matrices.{cells_to, own_matrix, partial_cells, piece_to, product_data, product_piece, row_data, sized, stack_data, stacked, stacked_size, whole_piece}
use Rattle.hp_spmd.specs.Local.{computed}
use Rattle.hp_spmd.specs.Loops.{cut_as, lets_at, loop_data, made_of}
use Rattle.hp_spmd.proofs.MatrixNext.{cells_as_piece}
use Rattle.hp_spmd.specs.Scalars.{piece_length, calc_data, check_data, check_of, const_data, length_data, lengths_of, unless, with_word}
use Rattle.hp_spmd.specs.Store.{Data, dealt, dist_at, piece_at}
use Rattle.hp_spmd.specs.Unpacks.{below_data, glued_data, got_data, halo_data, into_data, moved_data, seal_data, sizes_of, total_data}

-- what becomes of data with so many has one more at most
abbrev pub RaisesTo : ℕ → Result Data Trap → Type 0
RaisesTo n (Ok d) = d.executed ≤ suc n
RaisesTo n (Err t) = Unit {0}

-- data made of what there is, if there is no trap
pub made_raises : {A : Type 0} (n : ℕ) (r : Result A Trap) (f : A → Data) → ((a : A) → (f a).executed ≤ suc n) → RaisesTo n (and_then r (λ a. Ok (f a)))
made_raises n (Ok a) f h = h a
made_raises n (Err t) f h = tt

unless_raises : (r : Option Trap) (d : Data) → RaisesTo d.executed (unless r d)
unless_raises None d = omega arith
unless_raises (Some t) d = tt

if_raises : (n : ℕ) (b : Bool) (d : Data) (t : Trap) → d.executed ≤ suc n → RaisesTo n (if b then Ok d else Err t)
if_raises n true d t h = h
if_raises n false d t h = tt

columns_executed : (to : Target) (columns : List (List ℤ)) (d : Data) → (columns_to to columns d).executed ≡ d.executed
columns_executed (Whole arrays) columns d = refl
columns_executed (Loose loose) columns d = refl

piece_executed : (to : Target) (piece : Piece) (d : Data) → (piece_to to piece d).executed ≡ d.executed
piece_executed (Whole arrays) piece d = refl
piece_executed (Loose loose) piece d = refl

sized_raises : (n : ℕ) (at : Place) (meets : Bool) (size : ℕ) (d : Data) → d.executed ≤ suc n → RaisesTo n (sized at meets size d)
sized_raises n at true size d h = if_raises n (nat_le size longest) d (trap at TooLong) h
sized_raises n at false size d h = tt

product_raises : (to : Target) (left right : ℕ) (flip : Bool) (at : Place) (d : Data) → RaisesTo d.executed (product_data to left right flip at d)
unfolding product_data
product_raises to left right false at d =
    let a = piece_at d.arrays left in
    let b = piece_at d.arrays right in
    let same = piece_executed to (product_piece a b) d in
    sized_raises d.executed at (piece_length a == b.rows) (a.rows * piece_length b) (piece_to to (product_piece a b) d) (omega (arith, same))
product_raises to left right true at d =
    let a = piece_at d.arrays left in
    let b = piece_at d.arrays right in
    let as_piece = cells_as_piece to a.rows (partial_cells a b) d in
    let same : (cells_to to a.rows (partial_cells a b) d).executed ≡ d.executed = ap (λ (e : Data). e.executed) as_piece ∙ piece_executed to (whole_piece a.rows (partial_cells a b)) d in
    sized_raises d.executed at (piece_length a == piece_length b) (a.rows * b.rows) (cells_to to a.rows (partial_cells a b) d) (omega (arith, same))

pub computed_raises : (dists : List Dist) (tables : Tables) (number ranks : ℕ) (i : Instr) (d : Data) → RaisesTo d.executed (computed dists tables number ranks i d)
unfolding const_data calc_data length_data check_data fill_data range_data table_data copy_data loop_data scan_data at_data pick_data select_data join_data group_data sort_data stack_data row_data
computed_raises dists tables number ranks (instr.Calc to op left right at) d =
    made_raises d.executed (trapped_at at (calculated op (word_at d.words left) (word_at d.words right))) (λ value. with_word to value d) (λ value. omega arith)
computed_raises dists tables number ranks (instr.Check arrays rule at) d = unless_raises (check_of rule at (lengths_of arrays d.arrays)) d
computed_raises dists tables number ranks (instr.Fill to value count at) d =
    made_raises d.executed (filled at (word_at d.words count) (word_at d.words value)) (λ whole. with_array to (dealt (dist_at dists to) number ranks whole) d) (λ whole. omega arith)
computed_raises dists tables number ranks (instr.Range to first last at) d =
    made_raises d.executed (range_of at (word_at d.words first) (word_at d.words last)) (λ whole. with_array to (dealt (dist_at dists to) number ranks whole) d) (λ whole. omega arith)
computed_raises dists tables number ranks (instr.Loop l) d =
    made_raises d.executed (rows_below (lets_at l d) (length (piece_at d.arrays l.leader).cells)) (λ rows. made_of l rows d) (λ rows. omega arith)
computed_raises dists tables number ranks (instr.At to array index at) d =
    made_raises d.executed (element_at at (cells_at d.arrays array) (word_at d.words index)) (λ value. with_word to value d) (λ value. omega arith)
computed_raises dists tables number ranks (instr.Pick to array index at) d =
    made_raises d.executed (elements_at at (cells_at d.arrays array) (cells_at d.arrays index)) (λ cells. with_array to (cut_as (piece_at d.arrays index) cells) d) (λ cells. omega arith)
computed_raises dists tables number ranks (instr.Select to mask from) d =
    let wanted = ones (cells_at d.arrays mask) in
    let same = columns_executed to (map (λ k. filter_rows wanted (levelled (length wanted) (cells_at d.arrays k))) from) d in
    omega (arith, same)
computed_raises dists tables number ranks (instr.Join j) d =
    let l = rows_read dists number j.left d in
    let r = rows_read dists number j.right d in
    made_raises d.executed (join_pairs j.at (column_at j.left_key l.columns) (column_at j.right_key r.columns))
    (λ found. with_order j.to (map (λ p. row_place (l.place p.left) (r.place p.right)) found) (columns_to j.to (joined_columns l r j.right_key found) d))
    (λ found. let same = columns_executed j.to (joined_columns l r j.right_key found) d in omega (arith, same))
computed_raises dists tables number ranks (instr.Group to from key measures) d =
    let rows = rows_read dists number from d in
    let keys = column_at key rows.columns in
    let same = columns_executed to (by_left keys (groups keys) ∷ map (λ m. measure_cells m keys rows.columns (groups keys)) measures) d in
    omega (arith, same)
computed_raises dists tables number ranks (instr.Stack to from flat at) d =
    let pieces = map (piece_at d.arrays) from in
    if_raises d.executed (nat_le (stacked_size flat pieces) longest) (with_array to (stacked flat pieces) d) (trap at TooLong) (omega arith)
computed_raises dists tables number ranks (instr.Row to matrix index at) d =
    let piece = piece_at d.arrays matrix in
    made_raises d.executed (matrix_row at (own_matrix piece) (word_at d.words index)) (λ cells. with_array to (record { rows = 1; cuts = piece.cuts; cells = cells }) d) (λ cells. omega arith)
computed_raises dists tables number ranks (instr.Product to left right flip at) d = product_raises to left right flip at d
computed_raises dists tables number ranks _ d = omega arith

pub unpacked_raises : (dists : List Dist) (what : Unpacking) (number ranks : ℕ) (inbox : List Message) (d : Data) → RaisesTo d.executed (unpacked dists what number ranks inbox d)
unfolding unpacked below_data into_data seal_data total_data moved_data halo_data glued_data got_data
unpacked_raises dists (Seal to loose at) number ranks inbox d = if_raises d.executed (nat_le (sum (sizes_of inbox)) longest) _ (trap at TooLong) (omega arith)
unpacked_raises dists _ number ranks inbox d = omega arith
