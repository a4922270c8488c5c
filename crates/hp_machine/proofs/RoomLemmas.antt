-- Queues of which one has changed, and how many messages there is room for.
use Rattle.std.proofs.Common.{◌≡◌, ◌∙◌, refl, sym, subst, ap, arith, ℕ, zero, suc, ◌+◌, ◌*◌, ◌-◌, ◌<◌, ◌≤◌, eqb, Bool, true, false, cond, ◌&&◌, List, [], ◌∷◌, ◌++◌, set, get_or, length, length-append}
use Rattle.std.proofs.Math.Nat.{suc-mul}
use Rattle.std.proofs.lemmas.Bool.{eqb-true, eqb-false}
use Rattle.std.proofs.lemmas.List.{get_or-set_same, get_or-set_other, length-set}
use Rattle.std.proofs.lemmas.List.Sums.{sum_by-cons, sum_by-set}
use Rattle.std.specs.List.{sum_by}
use Rattle.hp_word.specs.declared.table.Message.{Message}
use Rattle.hp_links.specs.Mails.{Mail, queue_in, queue_at, with_queue, with_message, without_front}
use Rattle.hp_network.specs.Network as network
use Rattle.hp_machine.specs.Parts.{HasRoom, row_of}

-- ---- lists of which one item is set

pub set_at : {A : Type 0} (xs : List A) (i k : ℕ) (x d : A) → i < length xs → (b : Bool) → eqb k i ≡ b → get_or (set xs i x) k d ≡ cond b x (get_or xs k d)
set_at xs i k x d lt true is = ap (λ j. get_or (set xs i x) j d) (eqb-true k i is) ∙ get_or-set_same xs i x d lt
set_at xs i k x d lt false is = get_or-set_other xs i k x d (eqb-false k i is)

both : (Q : List Message) (P : List Message) (queues : List (List (List Message))) (a b c d : ℕ) → P ≡ queue_in queues c d → (p q : Bool) → eqb c a ≡ p
    → (eqb c a ≡ true → P ≡ get_or (row_of queues a) d [])
    → cond p (cond q Q (get_or (row_of queues a) d [])) P ≡ cond (p && q) Q (queue_in queues c d)
both Q P queues a b c d e true true is h = refl
both Q P queues a b c d e true false is h = sym (h is) ∙ e
both Q P queues a b c d e false q is h = e

-- a queue of those in which one has become another
pub queue_set : (queues : List (List (List Message))) (a b c d : ℕ) (q : List Message) → a < length queues → b < length (row_of queues a)
    → queue_in (with_queue a b q queues) c d ≡ cond (eqb c a && eqb d b) q (queue_in queues c d)
queue_set queues a b c d q la lb =
    let row = set_at queues a c (set (row_of queues a) b q) [] la (eqb c a) refl in
    ap (λ r. get_or r d []) row
    ∙ pushed (eqb c a) (set (row_of queues a) b q) (row_of queues c) d
    ∙ ap (λ z. cond (eqb c a) z (queue_in queues c d)) (set_at (row_of queues a) b d q [] lb (eqb d b) refl)
    ∙ both q (queue_in queues c d) queues a b c d refl (eqb c a) (eqb d b) refl (λ is. ap (λ j. queue_in queues j d) (eqb-true c a is))
  where
    pushed : (p : Bool) (xs ys : List (List Message)) (k : ℕ) → get_or (cond p xs ys) k [] ≡ cond p (get_or xs k []) (get_or ys k [])
    pushed true xs ys k = refl
    pushed false xs ys k = refl

-- ---- sums

sum_within : {X : Type 0} (f : X → ℕ) (xs : List X) (m : ℕ) (d : X) → ((k : ℕ) → k < length xs → f (get_or xs k d) ≤ m) → sum_by f xs ≤ length xs * m
sum_within f [] m d h = omega arith
sum_within f (x ∷ xs) m d h =
    let here = h 0 (omega arith) in
    let rest = sum_within f xs m d (λ k lt. h (suc k) (omega (arith, lt))) in
    let e = sum_by-cons f x xs in
    let g = suc-mul (length xs) m in
    omega (arith, here, rest, e, g)

sum_below : {X : Type 0} (f : X → ℕ) (xs : List X) (i m : ℕ) (d : X) → ((k : ℕ) → k < length xs → f (get_or xs k d) ≤ m) → i < length xs → f (get_or xs i d) < m → sum_by f xs < length xs * m
sum_below f [] i m d h lt less = absurd (omega (arith, lt))
sum_below f (x ∷ xs) zero m d h lt less =
    let rest = sum_within f xs m d (λ k lk. h (suc k) (omega (arith, lk))) in
    let e = sum_by-cons f x xs in
    let g = suc-mul (length xs) m in
    omega (arith, less, rest, e, g)
sum_below f (x ∷ xs) (suc i) m d h lt less =
    let here = h 0 (omega arith) in
    let rest = sum_below f xs i m d (λ k lk. h (suc k) (omega (arith, lk))) (omega (arith, lt)) less in
    let e = sum_by-cons f x xs in
    let g = suc-mul (length xs) m in
    omega (arith, here, rest, e, g)

-- ---- room

row_within : (n room : ℕ) (mail : Mail) (a : ℕ) → HasRoom n room mail → a < n → sum_by length (row_of mail.queues a) ≤ n * room
row_within n room mail a h lt =
    let s = sum_within length (row_of mail.queues a) room [] (λ k lk. h.each a k) in
    subst (λ l. sum_by length (row_of mail.queues a) ≤ l * room) (h.columns a lt) s

row_below : (n room : ℕ) (mail : Mail) (a b : ℕ) → HasRoom n room mail → a < n → b < n → length (queue_at mail a b) < room → sum_by length (row_of mail.queues a) < n * room
row_below n room mail a b h la lb less =
    let lr : b < length (row_of mail.queues a) = subst (λ l. b < l) (sym (h.columns a la)) lb in
    let s = sum_below length (row_of mail.queues a) b room [] (λ k lk. h.each a k) lr less in
    subst (λ l. sum_by length (row_of mail.queues a) < l * room) (h.columns a la) s

-- where a queue takes one more message there is room for it
pub room_for : (n room : ℕ) (mail : Mail) (a b : ℕ) → HasRoom n room mail → a < n → b < n → length (queue_at mail a b) < room → 1 ≤ mail.spare
room_for n room mail a b h la lb less =
    let lr : a < length mail.queues = subst (λ l. a < l) (sym h.rows) la in
    let s = sum_below (sum_by length) mail.queues a (n * room) []
    (λ k lk. row_within n room mail k h (subst (λ l. k < l) h.rows lk)) lr (row_below n room mail a b h la lb less) in
    let t : sum_by (sum_by length) mail.queues < n * (n * room) = subst (λ l. sum_by (sum_by length) mail.queues < l * (n * room)) h.rows s in
    let e = h.spare in
    omega (arith, t, e)

-- a queue has become another, and the room for messages with it
pub room_set : (n room : ℕ) (mail : Mail) (a b : ℕ) (q : List Message) (spare : ℕ) → HasRoom n room mail → a < n → b < n → length q ≤ room → spare + length q ≡ mail.spare + length (queue_at mail a b)
    → HasRoom n room (record mail { queues = with_queue a b q mail.queues; spare = spare })
room_set n room mail a b q spare h la lb le e =
    let lr : a < length mail.queues = subst (λ l. a < l) (sym h.rows) la in
    let lc : b < length (row_of mail.queues a) = subst (λ l. b < l) (sym (h.columns a la)) lb in
    record {
      ranks = h.ranks;
      rows = length-set mail.queues a (set (row_of mail.queues a) b q) ∙ h.rows;
      columns = λ c lt. ap length (set_at mail.queues a c (set (row_of mail.queues a) b q) [] lr (eqb c a) refl) ∙ column c lt (eqb c a);
      each = λ c d. subst (λ x. length x ≤ room) (sym (queue_set mail.queues a b c d q lr lc)) (within c d (eqb c a && eqb d b));
      spare =
          let outer = sum_by-set (sum_by length) mail.queues a (set (row_of mail.queues a) b q) [] lr in
          let inner = sum_by-set length (row_of mail.queues a) b q [] lc in
          let all = h.spare in
          omega (arith, outer, inner, all, e);
    }
  where
    column : (c : ℕ) → c < n → (p : Bool) → length (cond p (set (row_of mail.queues a) b q) (row_of mail.queues c)) ≡ n
    column c lt true = length-set (row_of mail.queues a) b q ∙ h.columns a la
    column c lt false = h.columns c lt

    within : (c d : ℕ) (p : Bool) → length (cond p q (queue_in mail.queues c d)) ≤ room
    within c d true = le
    within c d false = h.each c d

pub room_put : (n room : ℕ) (mail : Mail) (a b : ℕ) (message : Message) → HasRoom n room mail → a < n → b < n → length (queue_at mail a b) < room → HasRoom n room (with_message a b message mail)
room_put n room mail a b message h la lb less =
    let some = room_for n room mail a b h la lb less in
    let l = length-append (queue_at mail a b) (message ∷ []) in
    room_set n room mail a b (queue_at mail a b ++ message ∷ []) (mail.spare - 1) h la lb (omega (arith, l, less)) (omega (arith, l, some))

pub room_taken : (n room : ℕ) (mail : Mail) (a b : ℕ) (q : List Message) → HasRoom n room mail → a < n → b < n → queue_at mail a b ≡ q → HasRoom n room (without_front q a b mail)
room_taken n room mail a b [] h la lb e = h
room_taken n room mail a b (message ∷ rest) h la lb e =
    let l = ap length e in
    let w = h.each a b in
    room_set n room mail a b rest (suc mail.spare) h la lb (omega (arith, l, w)) (omega (arith, l))

-- ---- as a function of both ranks

pub queues_set : (mail : Mail) (n room a b : ℕ) (q : List Message) (spare : ℕ) → HasRoom n room mail → a < n → b < n
    → network.with_queue (queue_at mail) a b q ≡ queue_at (record mail { queues = with_queue a b q mail.queues; spare = spare })
queues_set mail n room a b q spare h la lb =
    let lr : a < length mail.queues = subst (λ l. a < l) (sym h.rows) la in
    let lc : b < length (row_of mail.queues a) = subst (λ l. b < l) (sym (h.columns a la)) lb in
    λ i c d. sym (queue_set mail.queues a b c d q lr lc) i
