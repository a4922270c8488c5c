-- What came of a turn, from what came of the rank's action.
use Rattle.std.proofs.Common.{◌≡◌, ◌∙◌, sym, subst, ap, arith, ℕ, suc, ◌+◌, ◌<◌, ◌≤◌, cond, Bool, List, set, get_or, length, Option, Some, None}
use Rattle.std.proofs.lemmas.List.{get_or-set_same, get_or_read, length-set, set-get_or}
use Rattle.std.specs.Prelude.{min, max}
use Rattle.hp_word.specs.declared.place.Place.{Place}
use Rattle.hp_word.specs.declared.place.TrapKind.{TrapKind}
use Rattle.hp_word.specs.declared.table.Tables.{Tables}
use Rattle.hp_word.specs.Lengths.{trap}
use Rattle.hp_links.specs.Mails.{Mail}
use Rattle.hp_network.specs.Network.{Counts, State, counts_at, most, no_counts, turn}
use Rattle.hp_network.specs.Rows.{at_most}
use Rattle.hp_rank.specs.declared.rank.Rank.{Rank}
use Rattle.hp_spmd.specs.declared.code.Code.{Code}
use Rattle.hp_spmd.specs.declared.store.Store.{Store}
use Rattle.hp_spmd.specs.Act.{Trips, act}
use Rattle.hp_spmd.specs.Store.{instr_at}
use Rattle.hp_turns.specs.Turns.{cells_of, machine}
use Rattle.hp_machine.specs.Machines.{Idles, IdlesBy, trap_of}
use Rattle.hp_machine.specs.Parts.{ComesTo, HasRoom}
use Rattle.hp_machine.specs.Sound.{IsSound, keeps_arrays, store_at}
use Rattle.hp_machine.specs.States.{HasMoved, HasToWait, IsSame, counts_of, state_by}
use Rattle.hp_machine.proofs.FineLemmas.{stays_fine}
use Rattle.hp_machine.proofs.KeptLemmas.{cells_kept}
use Rattle.hp_machine.proofs.SoundLemmas.{none, sound_moved}
use Rattle.hp_machine.proofs.TurnLemmas.{counts_length, peak_counted, rank_here, turn_moved, turn_trapped, turn_waited, waits_same}

-- the rank that was read from a list
pub rank_read : (ranks : List Rank) (r : ℕ) (x : Rank) → r < length ranks → x ≡ get_or ranks r x → x.store ≡ store_at ranks r
rank_read ranks r x lt is = ap (λ (k : Rank). k.store) (get_or_read ranks r x lt is none)

-- ---- nothing has changed

pub ranks_same : (ranks : List Rank) (r : ℕ) (y : Rank) → y.store ≡ store_at ranks r → set ranks r y ≡ ranks
ranks_same ranks r y is = ap (λ (z : Store). set ranks r (record { store = z })) is ∙ set-get_or ranks r none

pub state_same : (ranks : List Rank) (r : ℕ) (x : Store) (y : Rank) (mail mail2 : Mail) (out out2 : List ℕ) (t : Option (Place × TrapKind)) (ms ws ps : List ℕ) → x ≡ store_at ranks r → IsSame x y.store mail mail2 out out2
    → state_by (set ranks r y) mail2 out2 (trap_of t) ms ws ps ≡ state_by ranks mail out (trap_of t) ms ws ps
state_same ranks r x y mail mail2 out out2 t ms ws ps is h =
    λ i. state_by (ranks_same ranks r y (h.store_is ∙ is) i) (h.mail_is i) (h.out_is i) (trap_of t) ms ws ps

-- ---- a rank that waits

pub waited_turn : (code : Code) (tables : Tables) (room : ℕ) (some : 1 ≤ room) (r : ℕ) (x : Store) (ranks : List Rank) (mail : Mail) (out : List ℕ) (t : Option (Place × TrapKind)) (ms ws ps : List ℕ)
    → r < length ranks → x ≡ store_at ranks r → t ≡ None → HasToWait (machine code tables (at_most room some)) (state_by ranks mail out None ms ws ps) r (act code tables x)
    → turn (machine code tables (at_most room some)) (state_by ranks mail out (trap_of t) ms ws ps) r ≡ state_by ranks mail out (trap_of t) ms ws ps
waited_turn code tables room some r x ranks mail out t ms ws ps lt is going h =
    let m = machine code tables (at_most room some) in
    subst (λ u. turn m (state_by ranks mail out (trap_of u) ms ws ps) r ≡ state_by ranks mail out (trap_of u) ms ws ps) (sym going)
    (turn_waited code tables room some r ranks mail out ms ws ps lt (subst (λ z. HasToWait m (state_by ranks mail out None ms ws ps) r (act code tables z)) is h))

pub waited_idles : (code : Code) (tables : Tables) (room : ℕ) (some : 1 ≤ room) (r : ℕ) (x : Store) (ranks : List Rank) (mail : Mail) (out : List ℕ) (t : Option (Place × TrapKind)) (ms ws ps : List ℕ)
    → r < length ranks → x ≡ store_at ranks r → t ≡ None → HasToWait (machine code tables (at_most room some)) (state_by ranks mail out None ms ws ps) r (act code tables x)
    → Idles (machine code tables (at_most room some)) (state_by ranks mail out (trap_of t) ms ws ps) r
waited_idles code tables room some r x ranks mail out t ms ws ps lt is going h =
    let m = machine code tables (at_most room some) in
    subst (λ u. Idles m (state_by ranks mail out (trap_of u) ms ws ps) r) (sym going)
    (subst (λ o. IdlesBy m (state_by ranks mail out None ms ws ps) r o) (sym (rank_here ranks r lt))
    (subst (λ z. HasToWait m (state_by ranks mail out None ms ws ps) r (act code tables z)) is h))

-- ---- a rank that traps

pub trapped_turn : (code : Code) (tables : Tables) (room : ℕ) (some : 1 ≤ room) (r v : ℕ) (at : Place) (kind : TrapKind) (x : Store) (y : Rank) (ranks : List Rank) (mail mail2 : Mail) (out out2 : List ℕ) (t : Option (Place × TrapKind)) (ms ws ps : List ℕ)
    → IsSound ranks mail ms ws ps room → r < length ranks → x ≡ store_at ranks r → t ≡ None → IsSame x y.store mail mail2 out out2 → act code tables x ≡ Trips (trap at kind) → v ≡ get_or ms r v
    → state_by (set ranks r y) mail2 out2 (trap_of (Some (at, kind))) (set ms r (v + 1)) ws ps ≡ turn (machine code tables (at_most room some)) (state_by ranks mail out (trap_of t) ms ws ps) r
trapped_turn code tables room some r v at kind x y ranks mail mail2 out out2 t ms ws ps sound lt is going same trips read =
    let m = machine code tables (at_most room some) in
    let lm : r < length ms = subst (λ n. r < n) (sym sound.moves_of_each) lt in
    state_same ranks r x y mail mail2 out out2 (Some (at, kind)) (set ms r (v + 1)) ws ps is same
    ∙ ap (λ k. state_by ranks mail out (Some (trap at kind)) (set ms r (k + 1)) ws ps) (get_or_read ms r v lm read 0)
    ∙ sym (turn_trapped code tables room some r (trap at kind) ranks mail out ms ws ps lt sound.moves_of_each (sound.words_of_each ∙ sym sound.moves_of_each) (sound.peak_of_each ∙ sym sound.moves_of_each) (subst (λ z. act code tables z ≡ Trips (trap at kind)) is trips))
    ∙ ap (λ u. turn m (state_by ranks mail out (trap_of u) ms ws ps) r) (sym going)

-- ---- a rank that moves

moved_idles_none : (code : Code) (tables : Tables) (room : ℕ) (some : 1 ≤ room) (r posted : ℕ) (y : Store) (ranks : List Rank) (mail mail2 : Mail) (out out2 : List ℕ) (ms ws ps : List ℕ)
    → IsSound ranks mail ms ws ps room → r < length ranks → HasMoved (machine code tables (at_most room some)) (act code tables (store_at ranks r)) r posted y mail mail2 out out2
    → Idles (machine code tables (at_most room some)) (state_by ranks mail out None ms ws ps) r → ⊥
moved_idles_none code tables room some r posted y ranks mail mail2 out out2 ms ws ps sound lt h idles =
    let m = machine code tables (at_most room some) in
    let s = state_by ranks mail out None ms ws ps in
    let waits : HasToWait m s r (act code tables (store_at ranks r)) = subst (λ o. IdlesBy m s r o) (rank_here ranks r lt) idles in
    let same = sym (waits_same code tables room some s r (act code tables (store_at ranks r)) waits) ∙ h.does ranks ms ws ps in
    let lm : r < length ms = subst (λ n. r < n) (sym sound.moves_of_each) lt in
    let lw = sound.words_of_each ∙ sym sound.moves_of_each in
    let lp = sound.peak_of_each ∙ sym sound.moves_of_each in
    let lc : r < length (counts_of ms ws ps) = subst (λ n. r < n) (sym (counts_length ms ws ps lw lp)) lm in
    let once = ap (λ (u : State Store). (counts_at u r).moves) same in
    let later = ap (λ (c : Counts). c.moves) (get_or-set_same (counts_of ms ws ps) r (record { moves = suc (counts_at s r).moves; words = min ((counts_at s r).words + posted) most; peak = min (max (counts_at s r).peak (cells_of y)) most }) no_counts lc) in
    let clash : (counts_at s r).moves ≡ suc (counts_at s r).moves = once ∙ later in
    absurd (never (counts_at s r).moves clash)
  where
    never : (n : ℕ) → n ≡ suc n → ⊥
    never n e = omega (arith, e)

pub moved_idles : (code : Code) (tables : Tables) (room : ℕ) (some : 1 ≤ room) (r posted : ℕ) (x y : Store) (ranks : List Rank) (mail mail2 : Mail) (out out2 : List ℕ) (t : Option (Place × TrapKind)) (ms ws ps : List ℕ)
    → IsSound ranks mail ms ws ps room → r < length ranks → x ≡ store_at ranks r → t ≡ None → HasMoved (machine code tables (at_most room some)) (act code tables x) r posted y mail mail2 out out2
    → Idles (machine code tables (at_most room some)) (state_by ranks mail out (trap_of t) ms ws ps) r → ⊥
moved_idles code tables room some r posted x y ranks mail mail2 out out2 t ms ws ps sound lt is going h =
    let m = machine code tables (at_most room some) in
    subst (λ u. Idles m (state_by ranks mail out (trap_of u) ms ws ps) r → ⊥) (sym going)
    (moved_idles_none code tables room some r posted y ranks mail mail2 out out2 ms ws ps sound lt (subst (λ z. HasMoved m (act code tables z) r posted y mail mail2 out out2) is h))

-- the most cells that a rank has held, after it has come to y
pub peak_after : (code : Code) (tables : Tables) (r cells : ℕ) (keeps : Bool) (x y : Store) (ranks : List Rank) (mail : Mail) (ms ws ps : List ℕ) (room : ℕ) → IsSound ranks mail ms ws ps room → r < length ranks → x ≡ store_at ranks r
    → keeps ≡ keeps_arrays (instr_at code.list x.position) → ComesTo (act code tables x) y → cells ≡ cond keeps 0 (min (cells_of y) most) → max (get_or ps r 0) cells ≡ min (max (get_or ps r 0) (cells_of y)) most
peak_after code tables r cells keeps x y ranks mail ms ws ps room sound lt is looked comes counted =
    peak_counted keeps (get_or ps r 0) cells x y (sound.within r lt) (subst (λ z. min (cells_of z) most ≤ get_or ps r 0) (sym is) (sound.held r lt)) (λ k. cells_kept code tables x y (sym looked ∙ k) comes) counted

-- the same, where the rank was read from the list before the action, for it and after it
pub peak_read : (code : Code) (tables : Tables) (r cells : ℕ) (keeps : Bool) (first x y last : Rank) (ranks : List Rank) (mail : Mail) (ms ws ps : List ℕ) (room : ℕ) → IsSound ranks mail ms ws ps room → r < length ranks
    → first ≡ get_or ranks r first → x ≡ get_or ranks r x → last ≡ get_or (set ranks r y) r last → keeps ≡ keeps_arrays (instr_at code.list first.store.position) → ComesTo (act code tables x.store) y.store → cells ≡ cond keeps 0 (min (cells_of last.store) most)
    → max (get_or ps r 0) cells ≡ min (max (get_or ps r 0) (cells_of y.store)) most
peak_read code tables r cells keeps first x y last ranks mail ms ws ps room sound lt was is after looked comes counted =
    let same : first.store ≡ x.store = rank_read ranks r first lt was ∙ sym (rank_read ranks r x lt is) in
    let came : last ≡ y = get_or_read (set ranks r y) r last (subst (λ n. r < n) (sym (length-set ranks r y)) lt) after none ∙ get_or-set_same ranks r y none lt in
    peak_after code tables r cells keeps x.store y.store ranks mail ms ws ps room sound lt (rank_read ranks r x lt is) (looked ∙ ap (λ (z : Store). keeps_arrays (instr_at code.list z.position)) same) comes (counted ∙ ap (λ (k : Rank). cond keeps 0 (min (cells_of k.store) most)) came)

pub moved_turn : (code : Code) (tables : Tables) (room : ℕ) (some : 1 ≤ room) (r posted peak : ℕ) (x : Store) (y : Rank) (ranks : List Rank) (mail mail2 : Mail) (out out2 : List ℕ) (t : Option (Place × TrapKind)) (ms ws ps ms2 ws2 ps2 : List ℕ)
    → IsSound ranks mail ms ws ps room → r < length ranks → x ≡ store_at ranks r → t ≡ None → HasMoved (machine code tables (at_most room some)) (act code tables x) r posted y.store mail mail2 out out2
    → peak ≡ min (max (get_or ps r 0) (cells_of y.store)) most → ms2 ≡ set ms r (get_or ms r 0 + 1) → ws2 ≡ set ws r (min (get_or ws r 0 + posted) most) → ps2 ≡ set ps r peak
    → state_by (set ranks r y) mail2 out2 (trap_of t) ms2 ws2 ps2 ≡ turn (machine code tables (at_most room some)) (state_by ranks mail out (trap_of t) ms ws ps) r
moved_turn code tables room some r posted peak x y ranks mail mail2 out out2 t ms ws ps ms2 ws2 ps2 sound lt is going h counted em ew ep =
    let m = machine code tables (at_most room some) in
    (λ i. state_by (set ranks r y) mail2 out2 (trap_of (going i)) (em i) (ew i) (ep i))
    ∙ sym (turn_moved code tables room some r posted peak y.store ranks mail mail2 out out2 ms ws ps lt sound.moves_of_each (sound.words_of_each ∙ sym sound.moves_of_each) (sound.peak_of_each ∙ sym sound.moves_of_each) counted
    (subst (λ z. HasMoved m (act code tables z) r posted y.store mail mail2 out out2) is h))
    ∙ ap (λ u. turn m (state_by ranks mail out (trap_of u) ms ws ps) r) (sym going)

pub moved_sound : (code : Code) (tables : Tables) (room r posted peak : ℕ) (x : Store) (y : Rank) (ranks : List Rank) (mail mail2 : Mail) (ms ws ps ms2 ws2 ps2 : List ℕ)
    → IsSound ranks mail ms ws ps room → r < length ranks → x ≡ store_at ranks r → ComesTo (act code tables x) y.store → HasRoom (length ranks) room mail2
    → peak ≡ min (max (get_or ps r 0) (cells_of y.store)) most → ms2 ≡ set ms r (get_or ms r 0 + 1) → ws2 ≡ set ws r (min (get_or ws r 0 + posted) most) → ps2 ≡ set ps r peak
    → IsSound (set ranks r y) mail2 ms2 ws2 ps2 room
moved_sound code tables room r posted peak x y ranks mail mail2 ms ws ps ms2 ws2 ps2 sound lt is comes mails counted em ew ep =
    let fine = stays_fine code tables (length ranks) r (get_or ms r 0) (store_at ranks r) y.store sound.some (sound.fine r lt) (subst (λ z. ComesTo (act code tables z) y.store) is comes) in
    let w = min (get_or ws r 0 + posted) most in
    let sound2 = sound_moved ranks mail mail2 ms ws ps room r w peak y sound lt fine mails (omega (arith, counted)) (omega (arith, counted)) in
    subst (λ a. IsSound (set ranks r y) mail2 a ws2 ps2 room) (sym em)
    (subst (λ b. IsSound (set ranks r y) mail2 (set ms r (get_or ms r 0 + 1)) b ps2 room) (sym ew)
    (subst (λ c. IsSound (set ranks r y) mail2 (set ms r (get_or ms r 0 + 1)) (set ws r w) c room) (sym ep) sound2))
