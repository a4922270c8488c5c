-- Along the lockstep a rank's log only gets longer, by orders whose numbers are greater than that of what it had executed: so orders
-- that agree with what is logged later agree with what is logged now.
use Rattle.std.proofs.Common.{◌≡◌, ◌∙◌, refl, sym, subst, ap, arith, ℕ, zero, suc, ◌*◌, ◌<◌, ◌≤◌, Bool, true, false, if◌then◌else◌, List, [], ◌∷◌, ◌++◌, append-nil, length, map, Option, Some, None, Result, Ok, Err}
use Rattle.std.specs.Prelude.{ℤ, ◌==◌, nat_le, sum}
use Rattle.std.specs.List.{All, AllZip}
use Rattle.std.proofs.lemmas.List.Elements.{AllZip-get_or, length_all_zip}
use Rattle.hp_word.specs.declared.order.Order.{Order}
use Rattle.hp_word.specs.declared.order.RowPlace.{RowPlace}
use Rattle.hp_word.specs.declared.place.Place.{Place}
use Rattle.hp_word.specs.declared.place.Trap.{Trap}
use Rattle.hp_word.specs.declared.place.TrapKind.TheVariants.{TooLong}
use Rattle.hp_word.specs.declared.table.Message.{Message}
use Rattle.hp_word.specs.declared.table.Tables.{Tables}
use Rattle.hp_word.specs.Elem.{trapped_at}
use Rattle.hp_word.specs.Lengths.{longest, trap}
use Rattle.hp_word.specs.ListRules.{element_at, elements_at, filled, range_of}
use Rattle.hp_word.specs.LoopRules.{and_then, rows_below, word_at}
use Rattle.hp_word.specs.MatrixRules.{matrix_row}
use Rattle.hp_word.specs.RowRules.{by_left, column_at, filter_rows, groups, join_pairs, measure_cells, row_place}
use Rattle.hp_word.specs.Words.{calculated}
use Rattle.hp_lattice.specs.declared.dist.Dist.{Dist}
use Rattle.hp_spmd.specs.declared.code.Code.{Code}
use Rattle.hp_spmd.specs.declared.instr.Instr.{Instr}
use Rattle.hp_spmd.specs.declared.instr.Instr.TheVariants as instr
use Rattle.hp_spmd.specs.declared.instr.Target.{Target}
use Rattle.hp_spmd.specs.declared.instr.Target.TheVariants.{Whole, Loose}
use Rattle.hp_spmd.specs.declared.instr.Unpacking.{Unpacking}
use Rattle.hp_spmd.specs.declared.instr.Unpacking.TheVariants.{Seal}
use Rattle.hp_spmd.specs.declared.store.Piece.{Piece}
use Rattle.hp_spmd.specs.declared.store.Store.{Store}
use Rattle.hp_spmd.specs.Arrays.{at_data, cells_at, copy_data, fill_data, pick_data, range_data, scan_data, table_data, with_array}
use Rattle.hp_spmd.specs.Exchange.{unpacked}
use Rattle.hp_spmd.specs.Frames.{columns_to, group_data, join_data, joined_columns, levelled, ones, rows_read, select_data, sort_data, with_order}
use Rattle.hp_spmd.specs.Kinds.{Kind, Computes, Jumps, Packs, Posts, Takes, PostsRoot, TakesRoot, Unpacks, Writes, Halts, kind_of}
use Rattle.hp_spmd.specs.Local.{alone, computed, local_next, pack_done}
use Rattle.hp_spmd.specs.Lockstep.{State, Step, Ends, Trips, Steps, Reached, go_on, position_of, run, run_by, state_of, step}
use Rattle.hp_spmd.specs.Loops.{cut_as, lets_at, loop_data, made_of}
use Rattle.hp_spmd.specs.Matrices.{cells_to, own_matrix, partial_cells, piece_to, product_data, product_piece, row_data, sized, stack_data, stacked, stacked_size, whole_piece}
use Rattle.hp_spmd.specs.Next.{lifted}
use Rattle.hp_spmd.specs.Scalars.{piece_length, calc_data, check_data, check_of, const_data, length_data, lengths_of, unless, with_word}
use Rattle.hp_spmd.specs.Store.{Data, data_of, dealt, dist_at, instr_at, piece_at}
use Rattle.hp_spmd.specs.Unpacks.{below_data, glued_data, got_data, halo_data, into_data, moved_data, seal_data, sizes_of, total_data}
use Rattle.hp_spmd.proofs.MatrixNext.{cells_as_piece}
use Rattle.hp_spmd.proofs.ShareNext.{OnNext}
use Rattle.hp_turns.specs.Apart.{LogGrows}
use Rattle.hp_turns.proofs.Agree.{orders_agree}
use Rattle.hp_turns.proofs.Past.{log_same, log_trans}
use Rattle.hp_snippet.proofs.Leading.{run_none}
use Rattle.hp_lowering.specs.Standing.{HasLogged}
use Rattle.hp_lowering.proofs.Zips.{Fits, ZipStep, step_zips}

-- ---- data

-- the same log, or a longer one, as LogGrows says of stores
pub record Longer (d e : Data) : Type 0 where
  pub rest : List Order
  pub log : e.log.list ≡ d.log.list ++ rest
  pub later : All (λ o. d.executed < o.number) rest
  pub executed : d.executed ≤ e.executed

abbrev pub LogsTo : Data → Result Data Trap → Type 0
LogsTo d (Ok e) = Longer d e
LogsTo d (Err t) = Unit {0}

same_log : (d e : Data) → e.executed ≡ d.executed → e.log ≡ d.log → Longer d e
same_log d e count log = record { rest = []; log = ap (λ l. l.list) log ∙ sym (append-nil d.log.list); later = λ k o lt. absurd (omega (arith, lt)); executed = omega (arith, count) }

made_logs : {A : Type 0} (d : Data) (r : Result A Trap) (f : A → Data) → ((a : A) → Longer d (f a)) → LogsTo d (and_then r (λ a. Ok (f a)))
made_logs d (Ok a) f h = h a
made_logs d (Err t) f h = tt

unless_logs : (r : Option Trap) (d : Data) → LogsTo d (unless r d)
unless_logs None d = same_log d d refl refl
unless_logs (Some t) d = tt

if_logs : (b : Bool) (d e : Data) (t : Trap) → Longer d e → LogsTo d (if b then Ok e else Err t)
if_logs true d e t h = h
if_logs false d e t h = tt

columns_same : (to : Target) (columns : List (List ℤ)) (d : Data) → Longer d (columns_to to columns d)
columns_same (Whole arrays) columns d = same_log d (columns_to (Whole arrays) columns d) refl refl
columns_same (Loose loose) columns d = same_log d (columns_to (Loose loose) columns d) refl refl

piece_same : (to : Target) (piece : Piece) (d : Data) → Longer d (piece_to to piece d)
piece_same (Whole arrays) piece d = same_log d (piece_to (Whole arrays) piece d) refl refl
piece_same (Loose loose) piece d = same_log d (piece_to (Loose loose) piece d) refl refl

-- columns that are made, and then an order
ordered : (to : Target) (places : List RowPlace) (columns : List (List ℤ)) (d : Data) → Longer d (with_order to places (columns_to to columns d))
ordered (Whole arrays) places columns d = record { rest = []; log = sym (append-nil d.log.list); later = λ k o lt. absurd (omega (arith, lt)); executed = omega arith }
ordered (Loose loose) places columns d =
    record { rest = record { number = suc d.executed; places = places } ∷ []; log = refl; later = one_later d.executed places; executed = omega arith }
  where
    one_later : (n : ℕ) (places : List RowPlace) → All (λ (o : Order). n < o.number) (record { number = suc n; places = places } ∷ [])
    one_later n places zero o lt = omega arith
    one_later n places (suc k) o lt = absurd (omega (arith, lt))

sized_logs : (at : Place) (meets : Bool) (size : ℕ) (d e : Data) → Longer d e → LogsTo d (sized at meets size e)
sized_logs at true size d e h = if_logs (nat_le size longest) d e (trap at TooLong) h
sized_logs at false size d e h = tt

product_logs : (to : Target) (left right : ℕ) (flip : Bool) (at : Place) (d : Data) → LogsTo d (product_data to left right flip at d)
unfolding product_data
product_logs to left right false at d =
    let a = piece_at d.arrays left in
    let b = piece_at d.arrays right in
    sized_logs at (piece_length a == b.rows) (a.rows * piece_length b) d (piece_to to (product_piece a b) d) (piece_same to (product_piece a b) d)
product_logs to left right true at d =
    let a = piece_at d.arrays left in
    let b = piece_at d.arrays right in
    let as_piece = cells_as_piece to a.rows (partial_cells a b) d in
    sized_logs at (piece_length a == piece_length b) (a.rows * b.rows) d (cells_to to a.rows (partial_cells a b) d) (subst (Longer d) (sym as_piece) (piece_same to (whole_piece a.rows (partial_cells a b)) d))

pub computed_logs : (dists : List Dist) (tables : Tables) (number ranks : ℕ) (i : Instr) (d : Data) → LogsTo d (computed dists tables number ranks i d)
unfolding const_data calc_data length_data check_data fill_data range_data table_data copy_data loop_data scan_data at_data pick_data select_data join_data group_data sort_data stack_data row_data
computed_logs dists tables number ranks (instr.Calc to op left right at) d =
    made_logs d (trapped_at at (calculated op (word_at d.words left) (word_at d.words right))) (λ value. with_word to value d) (λ value. same_log d (with_word to value d) refl refl)
computed_logs dists tables number ranks (instr.Check arrays rule at) d = unless_logs (check_of rule at (lengths_of arrays d.arrays)) d
computed_logs dists tables number ranks (instr.Fill to value count at) d =
    made_logs d (filled at (word_at d.words count) (word_at d.words value)) (λ whole. with_array to (dealt (dist_at dists to) number ranks whole) d) (λ whole. same_log d (with_array to (dealt (dist_at dists to) number ranks whole) d) refl refl)
computed_logs dists tables number ranks (instr.Range to first last at) d =
    made_logs d (range_of at (word_at d.words first) (word_at d.words last)) (λ whole. with_array to (dealt (dist_at dists to) number ranks whole) d) (λ whole. same_log d (with_array to (dealt (dist_at dists to) number ranks whole) d) refl refl)
computed_logs dists tables number ranks (instr.Loop l) d =
    made_logs d (rows_below (lets_at l d) (length (piece_at d.arrays l.leader).cells)) (λ rows. made_of l rows d) (λ rows. same_log d (made_of l rows d) refl refl)
computed_logs dists tables number ranks (instr.At to array index at) d =
    made_logs d (element_at at (cells_at d.arrays array) (word_at d.words index)) (λ value. with_word to value d) (λ value. same_log d (with_word to value d) refl refl)
computed_logs dists tables number ranks (instr.Pick to array index at) d =
    made_logs d (elements_at at (cells_at d.arrays array) (cells_at d.arrays index)) (λ cells. with_array to (cut_as (piece_at d.arrays index) cells) d) (λ cells. same_log d (with_array to (cut_as (piece_at d.arrays index) cells) d) refl refl)
computed_logs dists tables number ranks (instr.Select to mask from) d =
    let wanted = ones (cells_at d.arrays mask) in
    columns_same to (map (λ k. filter_rows wanted (levelled (length wanted) (cells_at d.arrays k))) from) d
computed_logs dists tables number ranks (instr.Join j) d =
    let l = rows_read dists number j.left d in
    let r = rows_read dists number j.right d in
    made_logs d (join_pairs j.at (column_at j.left_key l.columns) (column_at j.right_key r.columns))
    (λ found. with_order j.to (map (λ p. row_place (l.place p.left) (r.place p.right)) found) (columns_to j.to (joined_columns l r j.right_key found) d))
    (λ found. ordered j.to (map (λ p. row_place (l.place p.left) (r.place p.right)) found) (joined_columns l r j.right_key found) d)
computed_logs dists tables number ranks (instr.Group to from key measures) d =
    let rows = rows_read dists number from d in
    let keys = column_at key rows.columns in
    ordered to _ (by_left keys (groups keys) ∷ map (λ m. measure_cells m keys rows.columns (groups keys)) measures) d
computed_logs dists tables number ranks (instr.Stack to from flat at) d =
    let pieces = map (piece_at d.arrays) from in
    if_logs (nat_le (stacked_size flat pieces) longest) d (with_array to (stacked flat pieces) d) (trap at TooLong) (same_log d (with_array to (stacked flat pieces) d) refl refl)
computed_logs dists tables number ranks (instr.Row to matrix index at) d =
    let piece = piece_at d.arrays matrix in
    made_logs d (matrix_row at (own_matrix piece) (word_at d.words index)) (λ cells. with_array to (record { rows = 1; cuts = piece.cuts; cells = cells }) d) (λ cells. same_log d (with_array to (record { rows = 1; cuts = piece.cuts; cells = cells }) d) refl refl)
computed_logs dists tables number ranks (instr.Product to left right flip at) d = product_logs to left right flip at d
computed_logs dists tables number ranks _ d = same_log d _ refl refl

unpacked_logs : (dists : List Dist) (what : Unpacking) (number ranks : ℕ) (inbox : List Message) (d : Data) → LogsTo d (unpacked dists what number ranks inbox d)
unfolding unpacked below_data into_data seal_data total_data moved_data halo_data glued_data got_data
unpacked_logs dists (Seal to loose at) number ranks inbox d = if_logs (nat_le (sum (sizes_of inbox)) longest) d _ (trap at TooLong) (same_log d _ refl refl)
unpacked_logs dists _ number ranks inbox d = same_log d _ refl refl

-- ---- stores

-- a rank and what becomes of it: its log gets longer, and it has executed no fewer
record IsLater (x y : Store) : Type 0 where
  logs : LogGrows x y
  executed : x.executed ≤ y.executed

same_later : (x y : Store) → y.executed ≡ x.executed → y.log ≡ x.log → IsLater x y
same_later x y count log = record { logs = log_same x y log; executed = omega (arith, count) }

lifted_later : (r : Result Data Trap) (x : Store) → LogsTo (data_of x) r → OnNext (IsLater x) (lifted r x)
lifted_later (Ok d) x h = record { logs = record { rest = h.rest; log = h.log; later = h.later }; executed = h.executed }
lifted_later (Err t) x h = tt

kind_later : (dists : List Dist) (tables : Tables) (i : Instr) (kind : Kind) (ranks : List Store) → kind_of i ≡ kind → Fits IsLater kind (local_next dists tables i) ranks
unfolding pack_done
kind_later dists tables i Computes ranks e = λ x. subst (λ k. OnNext (IsLater x) (alone dists k (computed dists tables x.number x.ranks i) x)) (sym e) (lifted_later (computed dists tables x.number x.ranks i (data_of x)) x (computed_logs dists tables x.number x.ranks i (data_of x)))
kind_later dists tables i (Jumps target unless) ranks e = λ x. same_later x _ refl refl
kind_later dists tables i (Packs what) ranks e = λ x. subst (λ k. OnNext (IsLater x) (alone dists k (computed dists tables x.number x.ranks i) x)) (sym e) (same_later x (pack_done dists what x) refl refl)
kind_later dists tables i Posts ranks e = λ x. same_later x _ refl refl
kind_later dists tables i Takes ranks e = λ x. same_later x _ refl refl
kind_later dists tables i PostsRoot ranks e = λ x. same_later x _ refl refl
kind_later dists tables i TakesRoot ranks e = λ x. same_later x _ refl refl
kind_later dists tables i (Unpacks what) ranks e = λ x. subst (λ k. OnNext (IsLater x) (alone dists k (computed dists tables x.number x.ranks i) x)) (sym e) (lifted_later (unpacked dists what x.number x.ranks x.inbox (data_of x)) x (unpacked_logs dists what x.number x.ranks x.inbox (data_of x)))
kind_later dists tables i (Writes output) ranks e = λ x. same_later x _ refl refl
kind_later dists tables i Halts ranks e = tt

-- ---- runs

later_refl : (xs : List Store) → AllZip IsLater xs xs
later_refl [] = tt
later_refl (x ∷ xs) = (same_later x x refl refl, later_refl xs)

later_trans : (xs ys zs : List Store) → AllZip IsLater xs ys → AllZip IsLater ys zs → AllZip IsLater xs zs
later_trans [] [] [] p q = tt
later_trans (x ∷ xs) (y ∷ ys) (z ∷ zs) p q =
    let a = p.0.executed in
    let b = q.0.executed in
    (record { logs = log_trans x y z a p.0.logs q.0.logs; executed = omega (arith, a, b) }, later_trans xs ys zs p.1 q.1)
later_trans [] (y ∷ ys) zs p q = absurd p
later_trans (x ∷ xs) [] zs p q = absurd p
later_trans [] [] (z ∷ zs) p q = absurd q
later_trans (x ∷ xs) (y ∷ ys) [] p q = absurd q

on_from : (u : Step) (s : State) (rest : State → Reached) → ZipStep IsLater s.ranks u → ((t : State) → AllZip IsLater t.ranks (state_of (rest t)).ranks) → AllZip IsLater s.ranks (state_of (go_on u s rest)).ranks
on_from Ends s rest h more = later_refl s.ranks
on_from (Trips t) s rest h more = later_refl s.ranks
on_from (Steps t) s rest h more = later_trans s.ranks t.ranks (state_of (rest t)).ranks h (more t)

step_later : (code : Code) (tables : Tables) (s : State) → ZipStep IsLater s.ranks (step code tables s)
unfolding step
step_later code tables s = let i = instr_at code.list (position_of s.ranks) in step_zips IsLater (kind_of i) (local_next code.arrays tables i) s (kind_later code.arrays tables i (kind_of i) s.ranks refl)

run_later : (code : Code) (tables : Tables) (k : ℕ) (s : State) → AllZip IsLater s.ranks (state_of (run code tables k s)).ranks
unfolding run_by
run_later code tables zero s = subst (λ (t : State). AllZip IsLater s.ranks t.ranks) (sym (run_none code tables s)) (later_refl s.ranks)
run_later code tables (suc k) s = on_from (step code tables s) s (run code tables k) (step_later code tables s) (run_later code tables k)

pub logged_earlier : (code : Code) (tables : Tables) (orders : List Order) (k : ℕ) (s : State) → HasLogged orders (state_of (run code tables k s)) → HasLogged orders s
logged_earlier code tables orders k s h last executed number some le plain =
    let xs = s.ranks in
    let ys = (state_of (run code tables k s)).ranks in
    let all = run_later code tables k s in
    let count = length_all_zip IsLater xs ys all in
    let at = λ (r : ℕ) (d : Store) (lt : r < length xs). AllZip-get_or IsLater xs ys r d d all lt in
    orders_agree (length xs) xs ys refl (sym count) (λ r d lt. (at r d lt).logs) last executed number some le plain
    ∙ h last (λ r d lt. let on : r < length xs = omega (arith, lt, count) in let a = executed r d on in let b = (at r d on).executed in omega (arith, a, b)) number some le plain
