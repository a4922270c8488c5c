-- What holds of the parts of every machine holds after each turn.
use Rattle.std.proofs.Common.{◌≡◌, ◌∙◌, refl, sym, subst, ap, arith, ℕ, suc, ◌+◌, ◌<◌, ◌≤◌, eqb, cond, Bool, true, false, List, set, get_or, length}
use Rattle.std.proofs.lemmas.Bool.{eqb-true}
use Rattle.std.proofs.lemmas.List.{length-set}
use Rattle.std.specs.Prelude.{min}
use Rattle.hp_links.specs.Mails.{Mail}
use Rattle.hp_network.specs.Network.{most}
use Rattle.hp_rank.specs.declared.rank.Rank.{Rank}
use Rattle.hp_rank.specs.Steps.{CanStep}
use Rattle.hp_turns.specs.Turns.{cells_of}
use Rattle.hp_machine.specs.Parts.{HasRoom}
use Rattle.hp_machine.specs.Sound.{IsFine, IsSound, no_store, store_at}
use Rattle.hp_machine.proofs.RoomLemmas.{set_at}

abbrev pub none : Rank
none = record { store = no_store }

fine_by : (n r k m mk : ℕ) (b : Bool) (x y : Rank) → eqb k r ≡ b → IsFine n r (suc m) y.store → IsFine n k mk x.store → IsFine n k (cond b (m + 1) mk) (cond b y x).store
fine_by n r k m mk true x y is h g =
    let e : suc m ≡ m + 1 = omega arith in subst (λ j. IsFine n j (m + 1) y.store) (sym (eqb-true k r is)) (subst (λ j. IsFine n r j y.store) e h)
fine_by n r k m mk false x y is h g = g

held_by : (r k p pk : ℕ) (b : Bool) (x y : Rank) → min (cells_of y.store) most ≤ p → min (cells_of x.store) most ≤ pk → min (cells_of (cond b y x).store) most ≤ cond b p pk
held_by r k p pk true x y h g = h
held_by r k p pk false x y h g = g

within_by : (p pk : ℕ) (b : Bool) → p ≤ most → pk ≤ most → cond b p pk ≤ most
within_by p pk true h g = h
within_by p pk false h g = g

-- after a move of a rank
pub sound_moved : (ranks : List Rank) (mail mail2 : Mail) (ms ws ps : List ℕ) (room r w peak : ℕ) (y : Rank) → IsSound ranks mail ms ws ps room → r < length ranks
    → IsFine (length ranks) r (suc (get_or ms r 0)) y.store → HasRoom (length ranks) room mail2 → min (cells_of y.store) most ≤ peak → peak ≤ most
    → IsSound (set ranks r y) mail2 (set ms r (get_or ms r 0 + 1)) (set ws r w) (set ps r peak) room
sound_moved ranks mail mail2 ms ws ps room r w peak y h lt fine mails held within =
    let n = length-set ranks r y in
    let lm : r < length ms = subst (λ n. r < n) (sym h.moves_of_each) lt in
    let lp : r < length ps = subst (λ n. r < n) (sym h.peak_of_each) lt in
    record {
      some = subst (λ k. 1 ≤ k) (sym n) h.some;
      few = subst (λ k. k ≤ 32) (sym n) h.few;
      least = h.least;
      most_room = h.most_room;
      moves_of_each = length-set ms r (get_or ms r 0 + 1) ∙ h.moves_of_each ∙ sym n;
      words_of_each = length-set ws r w ∙ h.words_of_each ∙ sym n;
      peak_of_each = length-set ps r peak ∙ h.peak_of_each ∙ sym n;
      room_for_each = subst (λ k. HasRoom k room mail2) (sym n) mails;
      fine = λ k lk.
          let before : k < length ranks = subst (λ j. k < j) n lk in
          subst (λ j. IsFine j k (get_or (set ms r (get_or ms r 0 + 1)) k 0) (store_at (set ranks r y) k)) (sym n)
          (subst (λ (z : Rank). IsFine (length ranks) k (get_or (set ms r (get_or ms r 0 + 1)) k 0) z.store) (sym (set_at ranks r k y none lt (eqb k r) refl))
          (subst (λ j. IsFine (length ranks) k j (cond (eqb k r) y (get_or ranks k none)).store) (sym (set_at ms r k (get_or ms r 0 + 1) 0 lm (eqb k r) refl))
          (fine_by (length ranks) r k (get_or ms r 0) (get_or ms k 0) (eqb k r) (get_or ranks k none) y refl fine (h.fine k before))));
      within = λ k lk. subst (λ j. j ≤ most) (sym (set_at ps r k peak 0 lp (eqb k r) refl)) (within_by peak (get_or ps k 0) (eqb k r) within (h.within k (subst (λ j. k < j) n lk)));
      held = λ k lk.
          let before : k < length ranks = subst (λ j. k < j) n lk in
          subst (λ (z : Rank). min (cells_of z.store) most ≤ get_or (set ps r peak) k 0) (sym (set_at ranks r k y none lt (eqb k r) refl))
          (subst (λ j. min (cells_of (cond (eqb k r) y (get_or ranks k none)).store) most ≤ j) (sym (set_at ps r k peak 0 lp (eqb k r) refl))
          (held_by r k peak (get_or ps k 0) (eqb k r) (get_or ranks k none) y held (h.held k before)));
    }

at_most_more : (ms : List ℕ) (r k : ℕ) (b : Bool) → eqb k r ≡ b → get_or ms k 0 ≤ cond b (get_or ms r 0 + 1) (get_or ms k 0)
at_most_more ms r k true is = let e = ap (λ j. get_or ms j 0) (eqb-true k r is) in omega (arith, e)
at_most_more ms r k false is = omega arith

-- after a trap, which is counted
pub sound_trapped : (ranks : List Rank) (mail : Mail) (ms ws ps : List ℕ) (room r : ℕ) → IsSound ranks mail ms ws ps room → r < length ranks → IsSound ranks mail (set ms r (get_or ms r 0 + 1)) ws ps room
sound_trapped ranks mail ms ws ps room r h lt =
    let lm : r < length ms = subst (λ n. r < n) (sym h.moves_of_each) lt in
    record {
      some = h.some;
      few = h.few;
      least = h.least;
      most_room = h.most_room;
      moves_of_each = length-set ms r (get_or ms r 0 + 1) ∙ h.moves_of_each;
      words_of_each = h.words_of_each;
      peak_of_each = h.peak_of_each;
      room_for_each = h.room_for_each;
      fine = λ k lk.
          let f = h.fine k lk in
          let e = f.executed in
          let more : get_or ms k 0 ≤ get_or (set ms r (get_or ms r 0 + 1)) k 0 = subst (λ j. get_or ms k 0 ≤ j) (sym (set_at ms r k (get_or ms r 0 + 1) 0 lm (eqb k r) refl)) (at_most_more ms r k (eqb k r) refl) in
          record { number = f.number; ranks = f.ranks; sent = f.sent; got = f.got; executed = omega (arith, e, more) };
      within = h.within;
      held = h.held;
    }

-- a rank can take its next action
pub can_step : (ranks : List Rank) (mail : Mail) (ms ws ps : List ℕ) (room r : ℕ) → IsSound ranks mail ms ws ps room → r < length ranks → get_or ms r 0 < most → CanStep (store_at ranks r)
can_step ranks mail ms ws ps room r h lt few =
    let f = h.fine r lt in
    let is = f.ranks in
    let number = f.number in
    let e = f.executed in
    let some = h.some in
    let less = h.few in
    let sent = f.sent in
    let got = f.got in
    record {
      some = omega (arith, is, some);
      few = omega (arith, is, less);
      among = omega (arith, is, number, lt);
      sent = omega (arith, is, sent);
      got = omega (arith, is, got);
      executed = omega (arith, e, few);
    }
