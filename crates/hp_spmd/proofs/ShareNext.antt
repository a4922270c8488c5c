-- What a rank does alone leaves its arrays shared as the code says.
use Rattle.std.proofs.Common.{◌≡◌, ◌∙◌, refl, sym, subst, arith, ℕ, zero, suc, ◌<◌, ◌≤◌, List, [], ◌∷◌, ◌++◌, length, map, ap, set, Bool, true, false, Option, Some, None, Result, Ok, Err}
use Rattle.std.specs.Prelude.{ℤ, ◌+ℤ◌, ◌&&◌, nat_lt, slice_index}
use Rattle.std.specs.Bool.{IsTrue}
use Rattle.std.specs.List.{All, list_all, range_with_len}
use Rattle.std.proofs.lemmas.Bool.{and_parts, false≢true, ltb-true}
use Rattle.std.proofs.lemmas.List.{length-map, length_push}
use Rattle.std.proofs.lemmas.List.Elements.{All-head, All-tail}
use Rattle.std.proofs.lemmas.List.FromFn.{get_or-map-range_with_len, length-map-range_with_len}
use Rattle.hp_word.specs.declared.place.Place.{Place}
use Rattle.hp_word.specs.declared.place.Trap.{Trap}
use Rattle.hp_word.specs.declared.table.Message.{Message}
use Rattle.hp_word.specs.declared.table.Tables.{Tables}
use Rattle.hp_word.specs.Elem.{trapped_at}
use Rattle.hp_word.specs.ListRules.{element_at, elements_at, filled, range_of, sums_after}
use Rattle.hp_word.specs.RowRules.{by_left, column_at, filter_rows, groups, join_pairs, key_first, measure_cells, row_place, sorted_places}
use Rattle.hp_word.specs.Tables.{row_count}
use Rattle.hp_word.specs.LoopRules.{and_then, rows_below, column_of, word_at}
use Rattle.hp_word.specs.Words.{calculated}
use Rattle.hp_lattice.specs.declared.dist.Dist.{Dist}
use Rattle.hp_spmd.specs.declared.code.Code.{Code}
use Rattle.hp_spmd.specs.declared.instr.Instr.{Instr}
use Rattle.hp_spmd.specs.declared.instr.Instr.TheVariants as instr
use Rattle.hp_spmd.specs.declared.instr.Loop.{Loop}
use Rattle.hp_spmd.specs.declared.instr.Out.{Out}
use Rattle.hp_spmd.specs.declared.instr.Unpacking.{Unpacking}
use Rattle.hp_spmd.specs.declared.instr.Unpacking.TheVariants.{Folds, Below, Halo, Into, Got}
use Rattle.hp_spmd.specs.declared.store.Piece.{Piece}
use Rattle.hp_spmd.specs.declared.store.Store.{Store}
use Rattle.hp_spmd.specs.Arrays.{at_data, cells_at, columns_at, copy_data, fill_data, pick_data, range_data, scan_data, table_data, with_array}
use Rattle.hp_spmd.specs.Layout.{IsShared, AreShared, Share, Suits}
use Rattle.hp_spmd.specs.Local.{computed, local_next, jumped, pack_done}
use Rattle.hp_spmd.specs.Loops.{cut_as, with_outs, lets_at, loop_data, made_of}
use Rattle.hp_spmd.specs.Exchange.{unpacked}
use Rattle.hp_spmd.specs.Frames.{columns_to, group_data, join_data, joined_columns, levelled, ones, rows_read, select_data, sort_data, with_order}
use Rattle.hp_spmd.specs.Matrices.{row_data}
use Rattle.hp_spmd.specs.Names.{instr_within, loop_within, target_named}
use Rattle.hp_spmd.specs.Next.{Next, Goes, Traps, lifted}
use Rattle.hp_spmd.specs.Scalars.{const_data, calc_data, length_data, check_data, check_of, lengths_of, unless, with_word}
use Rattle.hp_spmd.specs.Setting.{with_all}
use Rattle.hp_spmd.specs.Spread.{CopyAlike, LiesAs, SpreadsWell, IsPlaced}
use Rattle.hp_spmd.specs.Unpacks.{below_data, got_data, halo_data, into_data}
use Rattle.hp_spmd.specs.Store.{Data, data_of, no_piece, piece_at, dealt, dist_at}
use Rattle.hp_spmd.proofs.GatherLemmas.{HasLength, all_count}
use Rattle.hp_spmd.proofs.ShareRows.{SharesNext, changed_share, columns_share, pairs_share, product_shares, row_shares, stack_shares}
use Rattle.hp_spmd.proofs.ShareCuts.{dealt_shared, lies_shared, same_cuts_shared, set_shared, shared_at}

-- the next store, if there is one, is such
abbrev pub OnNext : (Store → Type 0) → Next → Type 0
OnNext P (Goes x) = P x
OnNext P (Traps t) = Unit {0}

-- ---- words and checks

calc_shares : (dists : List Dist) (ranks number to : ℕ) (r : Result ℤ Trap) (d : Data) → AreShared dists ranks number d.arrays → SharesNext dists ranks number (and_then r (λ value. Ok (with_word to value d)))
calc_shares dists ranks number to (Ok value) d h = h
calc_shares dists ranks number to (Err t) d h = tt

unless_shares : (dists : List Dist) (ranks number : ℕ) (r : Option Trap) (d : Data) → AreShared dists ranks number d.arrays → SharesNext dists ranks number (unless r d)
unless_shares dists ranks number (Some t) d h = tt
unless_shares dists ranks number None d h = h

-- ---- a whole vector that is dealt out

dealt_shares : (dists : List Dist) (ranks number to : ℕ) (r : Result (List ℤ) Trap) (d : Data) → 1 ≤ ranks → number < ranks → AreShared dists ranks number d.arrays
    → SharesNext dists ranks number (and_then r (λ whole. Ok (with_array to (dealt (dist_at dists to) number ranks whole) d)))
dealt_shares dists ranks number to (Err t) d some below h = tt
dealt_shares dists ranks number to (Ok whole) d some below h =
    set_shared dists ranks number d.arrays to (dealt (dist_at dists to) number ranks whole) h (dealt_shared (dist_at dists to) number ranks whole some below)

-- ---- copies and running sums

copies_share : (dists : List Dist) (ranks number : ℕ) (to from : List ℕ) (old pieces : List Piece) → 1 ≤ ranks → CopyAlike dists to from → IsTrue (list_all (λ k. nat_lt k (length dists)) from) → AreShared dists ranks number old → AreShared dists ranks number pieces
    → AreShared dists ranks number (with_all to (map (piece_at old) from) pieces)
copies_share dists ranks number [] from old pieces some alike within was h = h
copies_share dists ranks number (t ∷ to) [] old pieces some alike within was h = h
copies_share dists ranks number (t ∷ to) (f ∷ from) old pieces some alike within was h =
    let tests = and_parts (nat_lt f (length dists)) (list_all (λ k. nat_lt k (length dists)) from) within in
    let there = shared_at dists ranks number old f was (ltb-true f (length dists) tests.0) in
    copies_share dists ranks number to from old (set pieces t (piece_at old f)) some alike.1 tests.1 was
    (set_shared dists ranks number pieces t (piece_at old f) h (lies_shared (dist_at dists f) (dist_at dists t) ranks number (piece_at old f) some alike.0 there))

sums_count : (before : ℤ) (xs : List ℤ) → length (sums_after before xs) ≡ length xs
unfolding sums_after
sums_count before [] = refl
sums_count before (x ∷ xs) = ap suc (sums_count (before +ℤ x) xs)

scan_shares : (dists : List Dist) (ranks number to from : ℕ) (before : ℤ) (d : Data) → 1 ≤ ranks → LiesAs (dist_at dists from) (dist_at dists to) → from < length dists → AreShared dists ranks number d.arrays
    → AreShared dists ranks number (set d.arrays to (cut_as (piece_at d.arrays from) (sums_after before (piece_at d.arrays from).cells)))
scan_shares dists ranks number to from before d some alike within h =
    let piece = piece_at d.arrays from in
    let cells = sums_after before piece.cells in
    set_shared dists ranks number d.arrays to (cut_as piece cells) h
    (lies_shared (dist_at dists from) (dist_at dists to) ranks number (cut_as piece cells) some alike (same_cuts_shared (dist_at dists from) ranks number piece cells (sums_count before piece.cells) (shared_at dists ranks number d.arrays from h within)))

-- ---- tables and picked elements

-- pieces that are each set where an array stands, each dealt out as that array lies
dealt_share : (dists : List Dist) (ranks number : ℕ) (to : List ℕ) (made pieces : List Piece) → ((k : ℕ) → k < length made → IsShared (dist_at dists (slice_index to k)) ranks number (piece_at made k)) → AreShared dists ranks number pieces
    → AreShared dists ranks number (with_all to made pieces)
dealt_share dists ranks number [] made pieces all h = h
dealt_share dists ranks number (t ∷ to) [] pieces all h = h
dealt_share dists ranks number (t ∷ to) (m ∷ made) pieces all h =
    dealt_share dists ranks number to made (set pieces t m) (λ k lt. all (suc k) (omega (arith, lt))) (set_shared dists ranks number pieces t m h (all 0 (omega arith)))

tables_share : (dists : List Dist) (ranks number : ℕ) (columns : List (List ℤ)) (to : List ℕ) (pieces : List Piece) → 1 ≤ ranks → number < ranks → AreShared dists ranks number pieces
    → AreShared dists ranks number (with_all to (map (λ k. dealt (dist_at dists (slice_index to k)) number ranks (column_at k columns)) (range_with_len 0 (length to))) pieces)
tables_share dists ranks number columns to pieces some below h =
    let piece = λ (k : ℕ). dealt (dist_at dists (slice_index to k)) number ranks (column_at k columns) in
    dealt_share dists ranks number to (map piece (range_with_len 0 (length to))) pieces
    (λ k lt.
    let there : k < length to = omega (arith, lt, length-map-range_with_len piece 0 (length to)) in
    let is = get_or-map-range_with_len piece 0 (length to) k k no_piece there (omega arith) in
    subst (IsShared (dist_at dists (slice_index to k)) ranks number) (sym is) (dealt_shared (dist_at dists (slice_index to k)) number ranks (column_at k columns) some below))
    h

elements_count : (at : Place) (cells positions : List ℤ) → HasLength (length positions) (elements_at at cells positions)
unfolding elements_at
elements_count at cells positions = all_count (element_at at cells) positions

pick_shares : (dists : List Dist) (ranks number to index : ℕ) (r : Result (List ℤ) Trap) (d : Data) → 1 ≤ ranks → LiesAs (dist_at dists index) (dist_at dists to) → index < length dists → HasLength (length (piece_at d.arrays index).cells) r → AreShared dists ranks number d.arrays
    → SharesNext dists ranks number (and_then r (λ cells. Ok (with_array to (cut_as (piece_at d.arrays index) cells) d)))
pick_shares dists ranks number to index (Err t) d some alike within count h = tt
pick_shares dists ranks number to index (Ok cells) d some alike within count h =
    let piece = piece_at d.arrays index in
    set_shared dists ranks number d.arrays to (cut_as piece cells) h
    (lies_shared (dist_at dists index) (dist_at dists to) ranks number (cut_as piece cells) some alike (same_cuts_shared (dist_at dists index) ranks number piece cells count (shared_at dists ranks number d.arrays index h within)))

-- ---- Loop

-- so many rows, unless there was a trap
abbrev HasRows : ℕ → Result (List (List ℤ)) Trap → Type 0
HasRows n (Ok rows) = length rows ≡ n
HasRows n (Err t) = Unit {0}

one_more_row : (n : ℕ) (before : Result (List (List ℤ)) Trap) (row : Result (List ℤ) Trap) → HasRows n before → HasRows (suc n) (and_then before (λ rows. and_then row (λ r. Ok (rows ++ r ∷ []))))
one_more_row n (Err t) row h = tt
one_more_row n (Ok rows) (Err t) h = tt
one_more_row n (Ok rows) (Ok r) h = let more = length_push rows r in omega (arith, more, h)

rows_below_count : (row : ℕ → Result (List ℤ) Trap) (n : ℕ) → HasRows n (rows_below row n)
rows_below_count row zero = refl
rows_below_count row (suc n) = one_more_row n (rows_below row n) (row n) (rows_below_count row n)

-- outs that may have the leader's cuts, with its rows and cuts and a cell for each of its own cells
outs_shared : (dists : List Dist) (dist : Dist) (ranks number : ℕ) (leader : Piece) (outs : List Out) (rows : List (List ℤ)) (pieces : List Piece) → 1 ≤ ranks → length rows ≡ length leader.cells → IsShared dist ranks number leader → All (λ o. LiesAs dist (dist_at dists o.array)) outs → AreShared dists ranks number pieces → AreShared dists ranks number (with_outs outs leader rows pieces)
outs_shared dists dist ranks number leader [] rows pieces some count led spreads h = h
outs_shared dists dist ranks number leader (o ∷ os) rows pieces some count led spreads h =
    let piece = cut_as leader (column_of o.value rows) in
    let as_leader = same_cuts_shared dist ranks number leader (column_of o.value rows) (length-map rows (λ row. word_at row o.value) ∙ count) led in
    let lies = All-head (λ o. LiesAs dist (dist_at dists o.array)) o os spreads in
    let shared = lies_shared dist (dist_at dists o.array) ranks number piece some lies as_leader in
    outs_shared dists dist ranks number leader os rows (set pieces o.array piece) some count led (All-tail (λ o. LiesAs dist (dist_at dists o.array)) o os spreads)
    (set_shared dists ranks number pieces o.array piece h shared)

loop_shares : (dists : List Dist) (ranks number : ℕ) (l : Loop) (d : Data) (r : Result (List (List ℤ)) Trap) → 1 ≤ ranks → l.leader < length dists → SpreadsWell dists (instr.Loop l) → HasRows (length (piece_at d.arrays l.leader).cells) r
    → AreShared dists ranks number d.arrays → SharesNext dists ranks number (and_then r (λ rows. Ok (made_of l rows d)))
loop_shares dists ranks number l d (Err t) some within spreads count h = tt
loop_shares dists ranks number l d (Ok rows) some within spreads count h =
    outs_shared dists (dist_at dists l.leader) ranks number (piece_at d.arrays l.leader) l.outs rows d.arrays some count (shared_at dists ranks number d.arrays l.leader h within) spreads h

-- ---- all instructions

-- the second of four tests
second_test : (a b c d : Bool) → IsTrue (a && b && c && d) → IsTrue b
second_test true true c d h = refl
second_test true false c d h = absurd (false≢true h)
second_test false b c d h = absurd (false≢true h)

-- the first of six tests
first_test : (a b c d e f : Bool) → IsTrue (a && b && c && d && e && f) → IsTrue a
first_test true b c d e f h = refl
first_test false b c d e f h = absurd (false≢true h)

leader_within : (words arrays loose : ℕ) (l : Loop) → IsTrue (loop_within words arrays loose l) → l.leader < arrays
leader_within words arrays loose l h = ltb-true l.leader arrays (first_test (nat_lt l.leader arrays) _ _ _ _ _ h)

-- what an instruction that computes makes of a rank's data
computed_shares : (words loose : ℕ) (dists : List Dist) (tables : Tables) (number ranks : ℕ) (i : Instr) (d : Data) → 1 ≤ ranks → number < ranks → SpreadsWell dists i → IsTrue (instr_within words (length dists) loose i)
    → AreShared dists ranks number d.arrays → SharesNext dists ranks number (computed dists tables number ranks i d)
unfolding const_data calc_data length_data check_data fill_data range_data table_data copy_data loop_data scan_data at_data pick_data select_data join_data group_data sort_data row_data
computed_shares words loose dists tables number ranks (instr.Calc to op left right at) d some below spreads within h =
    calc_shares dists ranks number to (trapped_at at (calculated op (word_at d.words left) (word_at d.words right))) d h
computed_shares words loose dists tables number ranks (instr.Check arrays rule at) d some below spreads within h =
    unless_shares dists ranks number (check_of rule at (lengths_of arrays d.arrays)) d h
computed_shares words loose dists tables number ranks (instr.Fill to value count at) d some below spreads within h =
    dealt_shares dists ranks number to (filled at (word_at d.words count) (word_at d.words value)) d some below h
computed_shares words loose dists tables number ranks (instr.Range to first last at) d some below spreads within h =
    dealt_shares dists ranks number to (range_of at (word_at d.words first) (word_at d.words last)) d some below h
computed_shares words loose dists tables number ranks (instr.Table to table) d some below spreads within h =
    tables_share dists ranks number (columns_at tables.list table) to d.arrays some below h
computed_shares words loose dists tables number ranks (instr.Copy to from) d some below spreads within h =
    copies_share dists ranks number to from d.arrays d.arrays some spreads (and_parts (list_all (λ k. nat_lt k (length dists)) to) (list_all (λ k. nat_lt k (length dists)) from) within).1 h h
computed_shares words loose dists tables number ranks (instr.Scan to from start part) d some below spreads within h =
    let there = ltb-true from (length dists) (second_test (nat_lt to (length dists)) (nat_lt from (length dists)) (nat_lt start words) (nat_lt part words) within) in
    scan_shares dists ranks number to from (word_at d.words start) d some spreads there h
computed_shares words loose dists tables number ranks (instr.At to array index at) d some below spreads within h =
    calc_shares dists ranks number to (element_at at (cells_at d.arrays array) (word_at d.words index)) d h
computed_shares words loose dists tables number ranks (instr.Pick to array index at) d some below spreads within h =
    let rest = (and_parts (nat_lt to (length dists)) (nat_lt array (length dists) && nat_lt index (length dists)) within).1 in
    let there = ltb-true index (length dists) (and_parts (nat_lt array (length dists)) (nat_lt index (length dists)) rest).1 in
    pick_shares dists ranks number to index (elements_at at (cells_at d.arrays array) (cells_at d.arrays index)) d some spreads there (elements_count at (cells_at d.arrays array) (cells_at d.arrays index)) h
computed_shares words loose dists tables number ranks (instr.Loop l) d some below spreads within h =
    let n = length (piece_at d.arrays l.leader).cells in
    loop_shares dists ranks number l d (rows_below (lets_at l d) n) some (leader_within words (length dists) loose l within) spreads (rows_below_count (lets_at l d) n) h
computed_shares words loose dists tables number ranks (instr.Select to mask from) d some below spreads within h =
    let wanted = ones (cells_at d.arrays mask) in
    columns_share dists ranks number to (map (λ k. filter_rows wanted (levelled (length wanted) (cells_at d.arrays k))) from) d some spreads h
computed_shares words loose dists tables number ranks (instr.Join j) d some below spreads within h =
    let l = rows_read dists number j.left d in
    let r = rows_read dists number j.right d in
    pairs_share dists ranks number j.to (join_pairs j.at (column_at j.left_key l.columns) (column_at j.right_key r.columns))
    (λ found. with_order j.to (map (λ p. row_place (l.place p.left) (r.place p.right)) found) (columns_to j.to (joined_columns l r j.right_key found) d))
    (λ found. columns_share dists ranks number j.to (joined_columns l r j.right_key found) d some spreads h)
computed_shares words loose dists tables number ranks (instr.Group to from key measures) d some below spreads within h =
    let rows = rows_read dists number from d in
    let keys = column_at key rows.columns in
    columns_share dists ranks number to (by_left keys (groups keys) ∷ map (λ m. measure_cells m keys rows.columns (groups keys)) measures) d some spreads h
computed_shares words loose dists tables number ranks (instr.Sort to from key) d some below spreads within h =
    let columns = map (cells_at d.arrays) from in
    let places = sorted_places (key_first key columns) (row_count columns) in
    changed_share dists ranks number to (λ cells. map (word_at cells) places) columns d.arrays some spreads h
computed_shares words loose dists tables number ranks (instr.Stack to from flat at) d some below spreads within h =
    stack_shares dists ranks number to from flat at d some spreads (and_parts (nat_lt to (length dists)) (list_all (λ k. nat_lt k (length dists)) from) within).1 h
computed_shares words loose dists tables number ranks (instr.Row to matrix index at) d some below spreads within h =
    let rest = (and_parts (nat_lt to (length dists)) (nat_lt matrix (length dists) && nat_lt index words) within).1 in
    let there = ltb-true matrix (length dists) (and_parts (nat_lt matrix (length dists)) (nat_lt index words) rest).0 in
    row_shares dists ranks number to matrix at (word_at d.words index) d some spreads there h
computed_shares words loose dists tables number ranks (instr.Product to left right flip at) d some below spreads within h =
    let rest = (and_parts (target_named (length dists) loose to) (nat_lt left (length dists) && nat_lt right (length dists)) within).1 in
    let both = and_parts (nat_lt left (length dists)) (nat_lt right (length dists)) rest in
    product_shares dists ranks number to left right flip at d some spreads (ltb-true left (length dists) both.0) (ltb-true right (length dists) both.1) h
computed_shares words loose dists tables number ranks _ d some below spreads within h = h

lifted_placed : (code : Code) (ranks : ℕ) (r : Result Data Trap) (x : Store) → SharesNext code.arrays x.ranks x.number r → IsPlaced code ranks x → OnNext (IsPlaced code ranks) (lifted r x)
lifted_placed code ranks (Err t) x h placed = tt
lifted_placed code ranks (Ok d) x h placed = record { ranks_are = placed.ranks_are; number_below = placed.number_below; shared = h }

unpacked_shares : (dists : List Dist) (what : Unpacking) (number ranks : ℕ) (inbox : List Message) (d : Data) → SpreadsWell dists (instr.Unpack what) → AreShared dists ranks number d.arrays → SharesNext dists ranks number (unpacked dists what number ranks inbox d)
unfolding unpacked below_data into_data halo_data got_data
unpacked_shares dists (Folds list) number ranks inbox d spreads h = h
unpacked_shares dists (Below to) number ranks inbox d spreads h = h
unpacked_shares dists (Into to) number ranks inbox d spreads h = h
unpacked_shares dists (Halo to array reach) number ranks inbox d spreads h = h
unpacked_shares dists (Got columns) number ranks inbox d spreads h = h
unpacked_shares dists _ number ranks inbox d spreads h = absurd spreads

-- a rank with shared arrays has them still, with the same number among as many ranks
pub next_placed : (code : Code) (tables : Tables) (ranks : ℕ) (i : Instr) (x : Store) → 1 ≤ ranks → SpreadsWell code.arrays i → IsTrue (instr_within code.words (length code.arrays) code.loose i) → IsPlaced code ranks x → OnNext (IsPlaced code ranks) (local_next code.arrays tables i x)
unfolding jumped pack_done
next_placed code tables ranks (instr.Jump target unless) x some spreads within h = record { ranks_are = h.ranks_are; number_below = h.number_below; shared = h.shared }
next_placed code tables ranks instr.Halt x some spreads within h = h
next_placed code tables ranks (instr.Pack what) x some spreads within h = record { ranks_are = h.ranks_are; number_below = h.number_below; shared = h.shared }
next_placed code tables ranks (instr.Post true) x some spreads within h = h
next_placed code tables ranks (instr.Post false) x some spreads within h = h
next_placed code tables ranks (instr.Take true) x some spreads within h = h
next_placed code tables ranks (instr.Take false) x some spreads within h = h
next_placed code tables ranks (instr.Unpack what) x some spreads within h =
    lifted_placed code ranks (unpacked code.arrays what x.number x.ranks x.inbox (data_of x)) x (unpacked_shares code.arrays what x.number x.ranks x.inbox (data_of x) spreads h.shared) h
next_placed code tables ranks (instr.Write what) x some spreads within h = h
next_placed code tables ranks i x some spreads within h =
    let some' : 1 ≤ x.ranks = omega (arith, some, h.ranks_are) in
    let below : x.number < x.ranks = omega (arith, h.number_below, h.ranks_are) in
    lifted_placed code ranks (computed code.arrays tables x.number x.ranks i (data_of x)) x (computed_shares code.words code.loose code.arrays tables x.number x.ranks i (data_of x) some' below spreads within h.shared) h

-- each local instruction leaves the arrays of a rank shared, from every store that suits the code and whose arrays are shared
pub next_shared : (code : Code) (tables : Tables) (i : Instr) (x y : Store) → SpreadsWell code.arrays i → IsTrue (instr_within code.words (length code.arrays) code.loose i) → Suits code x → Share code x → local_next code.arrays tables i x ≡ Goes y → Share code y
next_shared code tables i x y spreads within suits h e =
    let placed : IsPlaced code x.ranks x = record { ranks_are = refl; number_below = suits.number; shared = h } in
    (subst (OnNext (IsPlaced code x.ranks)) e (next_placed code tables x.ranks i x suits.some spreads within placed)).shared
