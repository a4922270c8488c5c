-- What holds of a machine before its first turn.
use Rattle.std.proofs.Common.{◌≡◌, ◌∙◌, refl, sym, subst, ap, arith, ℕ, zero, suc, ◌+◌, ◌*◌, ◌<◌, ◌≤◌, List, [], ◌∷◌, get_or, map, length, replicate, None}
use Rattle.std.proofs.Math.Nat.{mul_assoc}
use Rattle.std.proofs.lemmas.List.{get_or-map, get_or-replicate, length-map, length-replicate}
use Rattle.std.proofs.lemmas.List.Concat.{flat_map-cons}
use Rattle.std.proofs.lemmas.List.Folds.{sum_by-replicate}
use Rattle.std.proofs.lemmas.List.FromFn.{get_or-map-range_with_len, length-map-range_with_len}
use Rattle.std.specs.List.{flat_map, range_with_len, sum_by}
use Rattle.hp_word.specs.declared.table.Message.{Message}
use Rattle.hp_links.specs.Mails.{Mail, no_mail, queue_at, queue_in}
use Rattle.hp_network.specs.Network.{Counts, most, no_counts}
use Rattle.hp_rank.specs.declared.rank.Rank.{Rank}
use Rattle.hp_lattice.specs.declared.dist.Dist.{Dist}
use Rattle.hp_spmd.specs.declared.code.Code.{Code}
use Rattle.hp_spmd.specs.declared.store.Piece.{Piece}
use Rattle.hp_spmd.specs.Lockstep.{first_state}
use Rattle.hp_spmd.specs.Store.{dealt, first_store, piece_of}
use Rattle.hp_turns.specs.Turns.{cells_of, start}
use Rattle.hp_machine.specs.Parts.{HasRoom}
use Rattle.hp_machine.specs.Sound.{IsFine, IsSound, no_store, store_at}
use Rattle.hp_machine.specs.States.{counts_of, state_by}
use Rattle.hp_machine.proofs.SoundLemmas.{none}

-- ---- queues

at_replicate : {A : Type 0} (n k : ℕ) (a : A) → get_or (replicate n a) k a ≡ a
at_replicate zero k a = refl
at_replicate (suc n) zero a = refl
at_replicate (suc n) (suc k) a = at_replicate n k a

at_either : {A : Type 0} (n k : ℕ) (a d : A) (P : A → Type 0) → P a → P d → P (get_or (replicate n a) k d)
at_either zero k a d P h g = g
at_either (suc n) zero a d P h g = h
at_either (suc n) (suc k) a d P h g = at_either n k a d P h g

no_queue : (n a b : ℕ) → queue_in (replicate n (replicate n [])) a b ≡ []
no_queue n a b = at_either n a (replicate n []) [] (λ row. get_or row b [] ≡ []) (at_replicate n b []) refl

start_room : (n room : ℕ) → HasRoom n room (no_mail n (n * n * room))
start_room n room =
    record {
      ranks = refl;
      rows = length-replicate n (replicate n []);
      columns = λ a lt. ap length (get_or-replicate n a (replicate n []) [] lt) ∙ length-replicate n [];
      each = λ a b. subst (λ (q : List Message). length q ≤ room) (sym (no_queue n a b)) (omega arith);
      spare = total;
    }
  where
    row_sum : sum_by {X = List Message} length (replicate n []) ≡ 0
    row_sum = let e = sum_by-replicate {X = List Message} length n [] in omega (arith, e)

    total : sum_by (sum_by {X = List Message} length) (replicate n (replicate n [])) + n * n * room ≡ n * (n * room)
    total =
        let e = sum_by-replicate (sum_by {X = List Message} length) n (replicate n []) in
        let none_in : n * 0 ≡ 0 = omega arith in
        let f : n * sum_by {X = List Message} length (replicate n []) ≡ 0 = ap (λ k. n * k) row_sum ∙ none_in in
        let g : n * n * room ≡ n * (n * room) = mul_assoc n n room in
        omega (arith, e, f, g)

-- ---- ranks

first_cells : (dists : List Dist) (number ranks : ℕ) → length (flat_map (λ (p : Piece). p.cells) (map (λ dist. dealt dist number ranks []) dists)) ≡ 0
unfolding piece_of
first_cells [] number ranks = refl
first_cells (d ∷ ds) number ranks = ap length (flat_map-cons (λ (p : Piece). p.cells) (dealt d number ranks []) (map (λ dist. dealt dist number ranks []) ds)) ∙ first_cells ds number ranks

first_held : (code : Code) (number ranks : ℕ) → cells_of (first_store code number ranks) ≡ 0
unfolding first_store
first_held code number ranks = first_cells code.arrays number ranks

first_fine : (code : Code) (number ranks moves : ℕ) → 1 ≤ ranks → IsFine ranks number moves (first_store code number ranks)
unfolding first_store
first_fine code number ranks moves some = record { number = refl; ranks = refl; sent = some; got = some; executed = omega arith }

first_at : (code : Code) (n r : ℕ) (list : List Rank) → map (λ (rank : Rank). rank.store) list ≡ map (λ r. first_store code r n) (range_with_len 0 n) → r < length list → r < n → store_at list r ≡ first_store code r n
first_at code n r list is lt ln =
    sym (get_or-map (λ (rank : Rank). rank.store) list r none no_store lt)
    ∙ ap (λ xs. get_or xs r no_store) is
    ∙ get_or-map-range_with_len (λ r. first_store code r n) 0 n r r no_store ln (omega arith)

pub list_length : (code : Code) (n : ℕ) (list : List Rank) → map (λ (rank : Rank). rank.store) list ≡ map (λ r. first_store code r n) (range_with_len 0 n) → length list ≡ n
list_length code n list is = sym (length-map list (λ (rank : Rank). rank.store)) ∙ ap length is ∙ length-map-range_with_len (λ r. first_store code r n) 0 n

-- the parts of a machine that has made no turn
pub start_sound : (code : Code) (n room : ℕ) (list : List Rank) (mail : Mail) (ms ws ps : List ℕ) → map (λ (rank : Rank). rank.store) list ≡ map (λ r. first_store code r n) (range_with_len 0 n) → mail ≡ no_mail n (n * n * room)
    → ms ≡ replicate n 0 → ws ≡ replicate n 0 → ps ≡ replicate n 0 → 1 ≤ n → n ≤ 32 → 1 ≤ room → room ≤ 64 → IsSound list mail ms ws ps room
start_sound code n room list mail ms ws ps is mails em ew ep some few least most_room =
    let l = list_length code n list is in
    record {
      some = subst (λ k. 1 ≤ k) (sym l) some;
      few = subst (λ k. k ≤ 32) (sym l) few;
      least = least;
      most_room = most_room;
      moves_of_each = ap length em ∙ length-replicate n 0 ∙ sym l;
      words_of_each = ap length ew ∙ length-replicate n 0 ∙ sym l;
      peak_of_each = ap length ep ∙ length-replicate n 0 ∙ sym l;
      room_for_each = subst (λ k. HasRoom k room mail) (sym l) (subst (λ m. HasRoom n room m) (sym mails) (start_room n room));
      fine = λ r lt.
          let ln : r < n = subst (λ k. r < k) l lt in
          subst (λ k. IsFine k r (get_or ms r 0) (store_at list r)) (sym l) (subst (λ x. IsFine n r (get_or ms r 0) x) (sym (first_at code n r list is lt ln)) (first_fine code r n (get_or ms r 0) some));
      within = λ r lt. subst (λ p. get_or p r 0 ≤ most) (sym ep) (subst (λ k. k ≤ most) (sym (at_replicate n r 0)) (omega arith));
      held = λ r lt.
          let ln : r < n = subst (λ k. r < k) l lt in
          let none_held : cells_of (store_at list r) ≡ 0 = ap cells_of (first_at code n r list is lt ln) ∙ first_held code r n in
          omega (arith, none_held);
    }

-- ---- the state

counts_first : (n : ℕ) → counts_of (replicate n 0) (replicate n 0) (replicate n 0) ≡ replicate n no_counts
counts_first zero = refl
counts_first (suc n) = ap (λ (cs : List Counts). no_counts ∷ cs) (counts_first n)

all_same : {A : Type 0} (xs : List A) (c : Counts) → replicate (length xs) c ≡ map (λ x. c) xs
all_same [] c = refl
all_same (x ∷ xs) c = ap (λ (cs : List Counts). c ∷ cs) (all_same xs c)

pub start_state : (code : Code) (n : ℕ) (list : List Rank) (mail : Mail) (spare : ℕ) (out ms ws ps : List ℕ) → map (λ (rank : Rank). rank.store) list ≡ map (λ r. first_store code r n) (range_with_len 0 n) → mail ≡ no_mail n spare
    → out ≡ [] → ms ≡ replicate n 0 → ws ≡ replicate n 0 → ps ≡ replicate n 0 → state_by list mail out None ms ws ps ≡ start code n
unfolding first_state
start_state code n list mail spare out ms ws ps is mails eo em ew ep =
    let firsts = map (λ r. first_store code r n) (range_with_len 0 n) in
    let counts : counts_of ms ws ps ≡ map (λ x. no_counts) firsts =
    (λ i. counts_of (em i) (ew i) (ep i)) ∙ counts_first n
    ∙ ap (λ k. replicate k no_counts) (sym (length-map-range_with_len (λ r. first_store code r n) 0 n)) ∙ all_same firsts no_counts in
    let queues : queue_at mail ≡ (λ a b. []) = ap queue_at mails ∙ (λ i a b. no_queue n a b i) in
    λ i. record { ranks = is i; queues = queues i; out = eo i; trap = None; counts = counts i }
