-- What a turn makes of a machine's parts.
use Rattle.std.proofs.Common.{◌≡◌, ◌∙◌, refl, sym, subst, ap, arith, ℕ, zero, suc, ◌+◌, ◌<◌, ◌≤◌, ltb, Bool, true, false, cond, if◌then◌else◌, List, [], ◌∷◌, set, get_or, map, length, slice_get, Some, None, inl, inr}
use Rattle.std.proofs.lemmas.List.{set-get_or}
use Rattle.std.specs.Prelude.{min, max}
use Rattle.hp_word.specs.declared.place.Trap.{Trap}
use Rattle.hp_word.specs.declared.table.Tables.{Tables}
use Rattle.hp_links.specs.Mails.{Mail}
use Rattle.hp_network.specs.Network.{Counts, State, done, done_at, most, no_counts, taken, turn}
use Rattle.hp_network.specs.Rows.{at_most}
use Rattle.hp_rank.specs.declared.rank.Rank.{Rank}
use Rattle.hp_spmd.specs.declared.code.Code.{Code}
use Rattle.hp_spmd.specs.declared.store.Store.{Store}
use Rattle.hp_spmd.specs.Act.{Act, HasHalted, Trips, Goes, Sends, Gets, Prints, act}
use Rattle.hp_turns.specs.Turns.{cells_of, machine, of_act}
use Rattle.hp_machine.specs.Sound.{store_at}
use Rattle.hp_machine.specs.States.{HasMoved, HasToWait, counts_of, counted_for, state_by}

-- ---- counts

pub counts_here : (ms ws ps : List ℕ) (r : ℕ) → r < length ms → length ws ≡ length ms → length ps ≡ length ms → get_or (counts_of ms ws ps) r no_counts ≡ record { moves = get_or ms r 0; words = get_or ws r 0; peak = get_or ps r 0 }
counts_here [] ws ps r lt e f = absurd (omega (arith, lt))
counts_here (m ∷ ms) [] ps r lt e f = absurd (omega (arith, e))
counts_here (m ∷ ms) (w ∷ ws) [] r lt e f = absurd (omega (arith, f))
counts_here (m ∷ ms) (w ∷ ws) (p ∷ ps) zero lt e f = refl
counts_here (m ∷ ms) (w ∷ ws) (p ∷ ps) (suc r) lt e f = counts_here ms ws ps r (omega (arith, lt)) (omega (arith, e)) (omega (arith, f))

pub counts_length : (ms ws ps : List ℕ) → length ws ≡ length ms → length ps ≡ length ms → length (counts_of ms ws ps) ≡ length ms
counts_length [] ws ps e f = refl
counts_length (m ∷ ms) [] ps e f = absurd (omega (arith, e))
counts_length (m ∷ ms) (w ∷ ws) [] e f = absurd (omega (arith, f))
counts_length (m ∷ ms) (w ∷ ws) (p ∷ ps) e f = ap suc (counts_length ms ws ps (omega (arith, e)) (omega (arith, f)))

counts_set : (ms ws ps : List ℕ) (r m w p : ℕ) → r < length ms → length ws ≡ length ms → length ps ≡ length ms → counts_of (set ms r m) (set ws r w) (set ps r p) ≡ set (counts_of ms ws ps) r (record { moves = m; words = w; peak = p })
counts_set [] ws ps r m w p lt e f = absurd (omega (arith, lt))
counts_set (m0 ∷ ms) [] ps r m w p lt e f = absurd (omega (arith, e))
counts_set (m0 ∷ ms) (w0 ∷ ws) [] r m w p lt e f = absurd (omega (arith, f))
counts_set (m0 ∷ ms) (w0 ∷ ws) (p0 ∷ ps) zero m w p lt e f = refl
counts_set (m0 ∷ ms) (w0 ∷ ws) (p0 ∷ ps) (suc r) m w p lt e f = ap (λ cs. record { moves = m0; words = w0; peak = p0 } ∷ cs) (counts_set ms ws ps r m w p (omega (arith, lt)) (omega (arith, e)) (omega (arith, f)))

-- the most cells that a rank has held, after a move to y: the cells of y are counted, or are as many as those of x before
pub peak_counted : (keeps : Bool) (p cells : ℕ) (x y : Store) → p ≤ most → min (cells_of x) most ≤ p → (keeps ≡ true → cells_of y ≡ cells_of x) → cells ≡ cond keeps 0 (min (cells_of y) most)
    → max p cells ≡ min (max p (cells_of y)) most
peak_counted true p cells x y within held same is = let e = same refl in omega (arith, within, held, e, is)
peak_counted false p cells x y within held same is = omega (arith, within, is)

pub move_is_counted : (ms ws ps : List ℕ) (r posted peak : ℕ) (y : Store) → r < length ms → length ws ≡ length ms → length ps ≡ length ms → peak ≡ min (max (get_or ps r 0) (cells_of y)) most
    → counts_of (set ms r (get_or ms r 0 + 1)) (set ws r (min (get_or ws r 0 + posted) most)) (set ps r peak) ≡ counted_for (counts_of ms ws ps) (get_or (counts_of ms ws ps) r no_counts) r posted y
move_is_counted ms ws ps r posted peak y lt e f held =
    let one : get_or ms r 0 + 1 ≡ suc (get_or ms r 0) = omega arith in
    counts_set ms ws ps r (get_or ms r 0 + 1) (min (get_or ws r 0 + posted) most) peak lt e f
    ∙ (λ i. set (counts_of ms ws ps) r (record { moves = one i; words = min (get_or ws r 0 + posted) most; peak = held i }))
    ∙ ap (λ (c : Counts). counted_for (counts_of ms ws ps) c r posted y) (sym (counts_here ms ws ps r lt e f))

-- ---- the rank whose turn it is

pub rank_here : (ranks : List Rank) (r : ℕ) → r < length ranks → slice_get (map (λ (rank : Rank). rank.store) ranks) r ≡ Some (store_at ranks r)
rank_here [] r lt = absurd (omega (arith, lt))
rank_here (x ∷ xs) zero lt = refl
rank_here (x ∷ xs) (suc r) lt = rank_here xs r (omega (arith, lt))

-- a move, once it is counted, is a turn
pub turn_moved : (code : Code) (tables : Tables) (room : ℕ) (some : 1 ≤ room) (r posted peak : ℕ) (y : Store) (ranks : List Rank) (mail mail2 : Mail) (out out2 : List ℕ) (ms ws ps : List ℕ)
    → r < length ranks → length ms ≡ length ranks → length ws ≡ length ms → length ps ≡ length ms → peak ≡ min (max (get_or ps r 0) (cells_of y)) most
    → HasMoved (machine code tables (at_most room some)) (act code tables (store_at ranks r)) r posted y mail mail2 out out2
    → turn (machine code tables (at_most room some)) (state_by ranks mail out None ms ws ps) r
    ≡ state_by (set ranks r (record { store = y })) mail2 out2 None (set ms r (get_or ms r 0 + 1)) (set ws r (min (get_or ws r 0 + posted) most)) (set ps r peak)
unfolding turn
turn_moved code tables room some r posted peak y ranks mail mail2 out out2 ms ws ps lt em ew ep held h =
    let m = machine code tables (at_most room some) in
    let lm : r < length ms = subst (λ n. r < n) (sym em) lt in
    ap (λ x. done_at x m (state_by ranks mail out None ms ws ps) r) (rank_here ranks r lt)
    ∙ h.does ranks ms ws ps
    ∙ (λ i. record (state_by (set ranks r (record { store = y })) mail2 out2 None ms ws ps) { counts = sym (move_is_counted ms ws ps r posted peak y lm ew ep held) i })

-- ---- a rank that waits, and one that traps

if_false : {A : Type 0} (b : Bool) (x y : A) → b ≡ false → (if b then x else y) ≡ y
if_false true x y is = absurd cc
if_false false x y is = refl

pub waits_same : (code : Code) (tables : Tables) (room : ℕ) (some : 1 ≤ room) (s : State Store) (r : ℕ) (a : Act) → HasToWait (machine code tables (at_most room some)) s r a → done (of_act a) (machine code tables (at_most room some)) s r ≡ s
waits_same code tables room some s r HasHalted h = refl
waits_same code tables room some s r (Trips t) (inl h) = absurd h
waits_same code tables room some s r (Trips t) (inr h) = absurd h
waits_same code tables room some s r (Goes x) (inl h) = absurd h
waits_same code tables room some s r (Goes x) (inr h) = absurd h
waits_same code tables room some s r (Prints text x) (inl h) = absurd h
waits_same code tables room some s r (Prints text x) (inr h) = absurd h
waits_same code tables room some s r (Sends to message x) (inl h) = absurd h
waits_same code tables room some s r (Sends to message x) (inr h) = if_false (ltb (length (s.queues r to)) room) _ _ h
waits_same code tables room some s r (Gets sender f) (inl h) = absurd h
waits_same code tables room some s r (Gets sender f) (inr h) = ap (λ q. taken q (machine code tables (at_most room some)) s r sender f) h

-- nothing changes where the rank has to wait
pub turn_waited : (code : Code) (tables : Tables) (room : ℕ) (some : 1 ≤ room) (r : ℕ) (ranks : List Rank) (mail : Mail) (out : List ℕ) (ms ws ps : List ℕ)
    → r < length ranks → HasToWait (machine code tables (at_most room some)) (state_by ranks mail out None ms ws ps) r (act code tables (store_at ranks r))
    → turn (machine code tables (at_most room some)) (state_by ranks mail out None ms ws ps) r ≡ state_by ranks mail out None ms ws ps
unfolding turn
turn_waited code tables room some r ranks mail out ms ws ps lt h =
    let m = machine code tables (at_most room some) in
    let s = state_by ranks mail out None ms ws ps in
    ap (λ x. done_at x m s r) (rank_here ranks r lt) ∙ waits_same code tables room some s r (act code tables (store_at ranks r)) h

trip_is_counted : (ms ws ps : List ℕ) (r : ℕ) → r < length ms → length ws ≡ length ms → length ps ≡ length ms
    → set (counts_of ms ws ps) r (record (get_or (counts_of ms ws ps) r no_counts) { moves = suc (get_or (counts_of ms ws ps) r no_counts).moves }) ≡ counts_of (set ms r (get_or ms r 0 + 1)) ws ps
trip_is_counted ms ws ps r lt e f =
    let one : suc (get_or ms r 0) ≡ get_or ms r 0 + 1 = omega arith in
    ap (λ (c : Counts). set (counts_of ms ws ps) r (record c { moves = suc c.moves })) (counts_here ms ws ps r lt e f)
    ∙ (λ i. set (counts_of ms ws ps) r (record { moves = one i; words = get_or ws r 0; peak = get_or ps r 0 }))
    ∙ sym (counts_set ms ws ps r (get_or ms r 0 + 1) (get_or ws r 0) (get_or ps r 0) lt e f)
    ∙ (λ i. counts_of (set ms r (get_or ms r 0 + 1)) (set-get_or ws r 0 i) (set-get_or ps r 0 i))

-- a trap is kept and counted
pub turn_trapped : (code : Code) (tables : Tables) (room : ℕ) (some : 1 ≤ room) (r : ℕ) (t : Trap) (ranks : List Rank) (mail : Mail) (out : List ℕ) (ms ws ps : List ℕ)
    → r < length ranks → length ms ≡ length ranks → length ws ≡ length ms → length ps ≡ length ms → act code tables (store_at ranks r) ≡ Trips t
    → turn (machine code tables (at_most room some)) (state_by ranks mail out None ms ws ps) r ≡ state_by ranks mail out (Some t) (set ms r (get_or ms r 0 + 1)) ws ps
unfolding turn
turn_trapped code tables room some r t ranks mail out ms ws ps lt em ew ep is =
    let m = machine code tables (at_most room some) in
    let s = state_by ranks mail out None ms ws ps in
    ap (λ x. done_at x m s r) (rank_here ranks r lt)
    ∙ ap (λ a. done (of_act a) m s r) is
    ∙ (λ i. record s { trap = Some t; counts = trip_is_counted ms ws ps r (subst (λ n. r < n) (sym em) lt) ew ep i })
