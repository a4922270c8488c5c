-- Messages that are delivered to one rank after another.
use Rattle.std.proofs.Common.{◌≡◌, ◌≢◌, ◌∙◌, refl, sym, subst, ap, arith, ℕ, zero, suc, ◌<◌, ◌≤◌, List, length, map, get_or, set, false, cond, eqb, ltb, ⊎_elim}
use Rattle.std.specs.List.{All}
use Rattle.std.proofs.lemmas.Bool.{cases_lt, cases_eq, eq-eqb, lt-ltb, le-ltb}
use Rattle.std.proofs.lemmas.Bool.Decides.{eqb_tells}
use Rattle.std.proofs.lemmas.List.{length-map, length-set, get_or-map, get_or-set_same, get_or-set_other, same_lists}
use Rattle.std.proofs.lemmas.Simd.{map-map}
use Rattle.hp_word.specs.declared.table.Message.{Message}
use Rattle.hp_spmd.specs.declared.store.Store.{Store}
use Rattle.hp_spmd.specs.Next.{moved}
use Rattle.hp_spmd.specs.Lockstep.{delivered, delivered_to_root, root_inbox}
use Rattle.hp_spmd.specs.Ranks.{AreNumbered, delivered_to, emptied, posted}
use Rattle.hp_spmd.specs.Store.{message_at, no_message}
use Rattle.hp_spmd.proofs.LockLists.{map_same, map_same_at}

-- ---- to one rank

-- a rank with this inbox, that has sent its message to the rank `to`
abbrev with_inbox : Store → ℕ → List Message → Store
with_inbox x to inbox = record x { inbox = inbox; outbox = set x.outbox to no_message }

abbrev with_box : Store → List Message → Store
with_box x inbox = record x { inbox = inbox }

to_itself : (to : ℕ) (xs : List Store) (x : Store) → x.number ≡ to → with_inbox x to (map (λ y. message_at y.outbox to) xs) ≡ delivered_to to xs x
to_itself to xs x e =
    ap (λ b. with_inbox x to (cond b (map (λ y. message_at y.outbox to) xs) x.inbox)) (sym (eq-eqb x.number to e))

not_eqb : (a b : ℕ) → (a ≡ b → ⊥) → eqb a b ≡ false
not_eqb a b ne = ⊎_elim (λ h. absurd (ne h.1)) (λ h. h.0) (eqb_tells a b)

to_other : (to : ℕ) (xs : List Store) (x : Store) → (x.number ≡ to → ⊥) → emptied to x ≡ delivered_to to xs x
to_other to xs x ne =
    ap (λ b. with_inbox x to (cond b (map (λ y. message_at y.outbox to) xs) x.inbox)) (sym (not_eqb x.number to ne))

delivered_place : (xs : List Store) (to : ℕ) (x : Store) (inbox : List Message) (k : ℕ) (d : Store) → to < length xs → k < length xs → AreNumbered xs
    → x ≡ get_or (map (emptied to) xs) to x → inbox ≡ map (λ y. message_at y.outbox to) xs
    → get_or (set (map (emptied to) xs) to (record x { inbox = inbox })) k d ≡ get_or (map (delivered_to to xs) xs) k d
delivered_place xs to x inbox k d inside l numbered read e =
    let ys = map (emptied to) xs in
    let y = get_or xs k d in
    let n = length-map xs (emptied to) in
    let inside' : to < length ys = subst (λ m. to < m) (sym n) inside in
    ⊎_elim
    (λ same.
    let x_is : x ≡ emptied to y =
    read ∙ get_or-map (emptied to) xs to d x inside ∙ ap (λ j. emptied to (get_or xs j d)) (sym same) in
    let here : get_or (set ys to (record x { inbox = inbox })) k d ≡ record x { inbox = inbox } =
    ap (λ j. get_or (set ys to (record x { inbox = inbox })) j d) same ∙ get_or-set_same ys to (record x { inbox = inbox }) d inside' in
    let number : y.number ≡ to = numbered k d l ∙ same in
    here
    ∙ ap (λ (z : Store). with_box z inbox) x_is
    ∙ ap (λ m. with_inbox y to m) e
    ∙ to_itself to xs y number
    ∙ sym (get_or-map (delivered_to to xs) xs k d d l))
    (λ ne.
    let number : y.number ≡ to → ⊥ = λ h. ne (sym (numbered k d l) ∙ h) in
    get_or-set_other ys to k (record x { inbox = inbox }) d ne
    ∙ get_or-map (emptied to) xs k d d l
    ∙ to_other to xs y number
    ∙ sym (get_or-map (delivered_to to xs) xs k d d l))
    (cases_eq k to)

-- the inbox of the rank `to` put into its store
pub set_delivered : (xs : List Store) (to : ℕ) (x : Store) (inbox : List Message) → to < length xs → AreNumbered xs
    → x ≡ get_or (map (emptied to) xs) to x → inbox ≡ map (λ y. message_at y.outbox to) xs
    → set (map (emptied to) xs) to (record x { inbox = inbox }) ≡ map (delivered_to to xs) xs
set_delivered xs to x inbox inside numbered read e =
    let n : length (map (emptied to) xs) ≡ length xs = length-map xs (emptied to) in
    same_lists (set (map (emptied to) xs) to (record x { inbox = inbox })) (map (delivered_to to xs) xs)
    (length-set (map (emptied to) xs) to (record x { inbox = inbox }) ∙ n ∙ sym (length-map xs (delivered_to to xs)))
    (λ k d l.
    let l2 : k < length xs = subst (λ m. k < m) (length-set (map (emptied to) xs) to (record x { inbox = inbox }) ∙ n) l in
    delivered_place xs to x inbox k d inside l2 numbered read e)

-- ---- to rank 0

root_same : (n : ℕ) (xs : List Store) (inbox : List Message) → cond (eqb n 0) (map (λ y. message_at y.outbox 0) xs) inbox ≡ root_inbox xs n inbox
root_same zero xs inbox = refl
root_same (suc n) xs inbox =
    let ne : suc n ≡ 0 → ⊥ = λ e. omega (arith, e) in
    ap (λ b. cond b (map (λ y. message_at y.outbox 0) xs) inbox) (not_eqb (suc n) 0 ne)

root_one : (xs : List Store) (x : Store) → moved (delivered_to 0 xs x) ≡ delivered_to_root xs x
root_one xs x = ap (λ m. moved (with_inbox x 0 m)) (root_same x.number xs x.inbox)

pub moved_root : (xs : List Store) → map moved (map (delivered_to 0 xs) xs) ≡ map (delivered_to_root xs) xs
moved_root xs = map-map moved (delivered_to 0 xs) xs ∙ map_same (λ x. moved (delivered_to 0 xs x)) (delivered_to_root xs) (root_one xs) xs

-- ---- to each rank

-- a rank once the ranks below this have got their messages
abbrev pub delivered_below : ℕ → List Store → Store → Store
delivered_below zero xs x = x
delivered_below (suc r) xs x = delivered_to r (map (delivered_below r xs) xs) (delivered_below r xs x)

pub below_more : (r : ℕ) (xs : List Store) → map (delivered_to r (map (delivered_below r xs) xs)) (map (delivered_below r xs) xs) ≡ map (delivered_below (suc r) xs) xs
below_more r xs = map-map (delivered_to r (map (delivered_below r xs) xs)) (delivered_below r xs) xs

abbrev pub emptied_below : ℕ → List Message → List Message
emptied_below zero outbox = outbox
emptied_below (suc r) outbox = set (emptied_below r outbox) r no_message

length_emptied : (r : ℕ) (outbox : List Message) → length (emptied_below r outbox) ≡ length outbox
length_emptied zero outbox = refl
length_emptied (suc r) outbox = length-set (emptied_below r outbox) r no_message ∙ length_emptied r outbox

emptied_above : (r k : ℕ) (outbox : List Message) → r ≤ k → message_at (emptied_below r outbox) k ≡ message_at outbox k
emptied_above zero k outbox l = refl
emptied_above (suc r) k outbox l =
    let ne : k ≢ r = omega (arith, l) in
    let le : r ≤ k = omega (arith, l) in
    get_or-set_other (emptied_below r outbox) r k no_message no_message ne ∙ emptied_above r k outbox le

emptied_at : (r k : ℕ) (outbox : List Message) (d : Message) → k < r → k < length outbox → get_or (emptied_below r outbox) k d ≡ no_message
emptied_at zero k outbox d l inside = absurd (omega (arith, l))
emptied_at (suc r) k outbox d l inside =
    let inside' : k < length (emptied_below r outbox) = subst (λ m. k < m) (sym (length_emptied r outbox)) inside in
    ⊎_elim
    (λ e.
    let r' : r < length (emptied_below r outbox) = subst (λ j. j < length (emptied_below r outbox)) e inside' in
    ap (λ j. get_or (set (emptied_below r outbox) r no_message) j d) e ∙ get_or-set_same (emptied_below r outbox) r no_message d r')
    (λ ne.
    let l' : k < r = omega (arith, l, ne) in
    get_or-set_other (emptied_below r outbox) r k no_message d ne ∙ emptied_at r k outbox d l' inside)
    (cases_eq k r)

pub emptied_all : (n : ℕ) (outbox : List Message) → length outbox ≡ n → emptied_below n outbox ≡ map (λ m. no_message) outbox
emptied_all n outbox e =
    same_lists (emptied_below n outbox) (map (λ m. no_message) outbox)
    (length_emptied n outbox ∙ sym (length-map outbox (λ m. no_message)))
    (λ k d l.
    let inside : k < length outbox = subst (λ m. k < m) (length_emptied n outbox) l in
    let below : k < n = subst (λ m. k < m) e inside in
    emptied_at n k outbox d below inside ∙ sym (get_or-map (λ m. no_message) outbox k d d inside))

-- the same in one step
abbrev got_below : ℕ → List Store → Store → Store
got_below r xs x =
    record x {
      inbox = cond (ltb x.number r) (map (λ y. message_at y.outbox x.number) xs) x.inbox;
      outbox = emptied_below r x.outbox;
    }

-- the messages to a rank are still there
still_there : (r : ℕ) (xs : List Store) → map (λ y. message_at y.outbox r) (map (got_below r xs) xs) ≡ map (λ y. message_at y.outbox r) xs
still_there r xs =
    map-map (λ y. message_at y.outbox r) (got_below r xs) xs
    ∙ map_same (λ y. message_at (emptied_below r y.outbox) r) (λ y. message_at y.outbox r) (λ y. emptied_above r r y.outbox (omega arith)) xs

-- which inbox a rank has, once one more has got its messages
one_more : {X : Type 0} (n r : ℕ) (a : ℕ → X) (b : X) → cond (eqb n r) (a r) (cond (ltb n r) (a n) b) ≡ cond (ltb n (suc r)) (a n) b
one_more n r a b =
    ⊎_elim
    (λ lt.
    let ne : n ≡ r → ⊥ = λ e. omega (arith, lt, e) in
    let lt' : n < suc r = omega (arith, lt) in
    ap (λ t. cond t (a r) (cond (ltb n r) (a n) b)) (not_eqb n r ne)
    ∙ ap (λ t. cond t (a n) b) (lt-ltb n r lt)
    ∙ ap (λ t. cond t (a n) b) (sym (lt-ltb n (suc r) lt')))
    (λ le.
    ⊎_elim
    (λ e.
    let lt' : n < suc r = omega (arith, e) in
    ap (λ t. cond t (a r) (cond (ltb n r) (a n) b)) (eq-eqb n r e)
    ∙ ap a (sym e)
    ∙ ap (λ t. cond t (a n) b) (sym (lt-ltb n (suc r) lt')))
    (λ ne.
    let le' : suc r ≤ n = omega (arith, le, ne) in
    ap (λ t. cond t (a r) (cond (ltb n r) (a n) b)) (not_eqb n r ne)
    ∙ ap (λ t. cond t (a n) b) (le-ltb n r le)
    ∙ ap (λ t. cond t (a n) b) (sym (le-ltb n (suc r) le')))
    (cases_eq n r))
    (cases_lt n r)

with_boxes : Store → List Message → List Message → Store
with_boxes x inbox outbox = record x { inbox = inbox; outbox = outbox }

below_is : (r : ℕ) (xs : List Store) (x : Store) → delivered_below r xs x ≡ got_below r xs x
unfolding with_boxes
below_is zero xs x =
    let low : 0 ≤ x.number = omega arith in
    ap (λ t. with_boxes x (cond t (map (λ y. message_at y.outbox x.number) xs) x.inbox) x.outbox) (sym (le-ltb x.number 0 low))
below_is (suc r) xs x =
    let all : map (delivered_below r xs) xs ≡ map (got_below r xs) xs = map_same (delivered_below r xs) (got_below r xs) (below_is r xs) xs in
    let inboxes : ℕ → List Message = λ n. map (λ y. message_at y.outbox n) xs in
    ap (λ ys. delivered_to r ys (delivered_below r xs x)) all
    ∙ ap (λ y. delivered_to r (map (got_below r xs) xs) y) (below_is r xs x)
    ∙ ap (λ m. with_boxes x (cond (eqb x.number r) m (cond (ltb x.number r) (inboxes x.number) x.inbox)) (emptied_below (suc r) x.outbox)) (still_there r xs)
    ∙ ap (λ m. with_boxes x m (emptied_below (suc r) x.outbox)) (one_more x.number r inboxes x.inbox)

pub number_below : (r : ℕ) (xs : List Store) (x : Store) → (delivered_below r xs x).number ≡ x.number
number_below r xs x = ap (λ y. y.number) (below_is r xs x)

pub position_below : (r : ℕ) (xs : List Store) (x : Store) → (delivered_below r xs x).position ≡ x.position
position_below r xs x = ap (λ y. y.position) (below_is r xs x)

posted_one : (n : ℕ) (xs : List Store) (x : Store) → x.number < n → length x.outbox ≡ n → posted (delivered_below n xs x) ≡ delivered xs x
unfolding with_boxes
posted_one n xs x lt e =
    ap posted (below_is n xs x)
    ∙ ap (λ t. posted (with_boxes x (cond t (map (λ y. message_at y.outbox x.number) xs) x.inbox) (emptied_below n x.outbox))) (lt-ltb x.number n lt)
    ∙ ap (λ o. posted (with_boxes x (map (λ y. message_at y.outbox x.number) xs) o)) (emptied_all n x.outbox e)

-- when each rank has got its messages
pub posted_all : (n : ℕ) (xs : List Store) → n ≡ length xs → AreNumbered xs → All (λ x. length x.outbox ≡ length xs) xs
    → map posted (map (delivered_below n xs) xs) ≡ map (delivered xs) xs
posted_all n xs n_is numbered boxes =
    map-map posted (delivered_below n xs) xs
    ∙ map_same_at (λ x. posted (delivered_below n xs x)) (delivered xs) xs
    (λ k d l.
    let x = get_or xs k d in
    let below : x.number < n = omega (arith, numbered k d l, n_is, l) in
    posted_one n xs x below (boxes k d l ∙ sym n_is))

pub numbered_below : (r : ℕ) (xs : List Store) → AreNumbered xs → AreNumbered (map (delivered_below r xs) xs)
numbered_below r xs numbered k d l =
    let l' : k < length xs = subst (λ m. k < m) (length-map xs (delivered_below r xs)) l in
    ap (λ y. y.number) (get_or-map (delivered_below r xs) xs k d d l') ∙ number_below r xs (get_or xs k d) ∙ numbered k d l'

pub room_below : (r n : ℕ) (xs : List Store) → All (λ x. suc x.position < n) xs → All (λ x. suc x.position < n) (map (delivered_below r xs) xs)
room_below r n xs room k d l =
    let l' : k < length xs = subst (λ m. k < m) (length-map xs (delivered_below r xs)) l in
    subst (λ p. suc p < n)
    (sym (ap (λ y. y.position) (get_or-map (delivered_below r xs) xs k d d l') ∙ position_below r xs (get_or xs k d)))
    (room k d l')

pub room_root : (to n : ℕ) (xs : List Store) → All (λ x. suc x.position < n) xs → All (λ x. suc x.position < n) (map (delivered_to to xs) xs)
room_root to n xs room k d l =
    let l' : k < length xs = subst (λ m. k < m) (length-map xs (delivered_to to xs)) l in
    subst (λ p. suc p < n) (sym (ap (λ y. y.position) (get_or-map (delivered_to to xs) xs k d d l'))) (room k d l')
