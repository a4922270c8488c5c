-- A state is what the ranks have done themselves: the queues are what was posted without what was taken, and what was written
-- is what rank 0 wrote.
use Rattle.std.proofs.Common.{◌≡◌, ◌≢◌, ◌∙◌, refl, sym, subst, ap, arith, ℕ, zero, suc, ◌+◌, ◌<◌, ◌≤◌, eqb, ltb, ltb-true, ltb-false, Bool, true, false, cond, ◌&&◌, List, [], ◌∷◌, ◌++◌, set, drop, drop-drop, length, length-append, length-drop, length-set, slice_get, Option, Some, None}
use Rattle.std.proofs.lemmas.Bool.{eqb-true}
use Rattle.std.proofs.lemmas.List.{drop-append-le}
use Rattle.hp_word.specs.declared.place.Trap.{Trap}
use Rattle.hp_word.specs.declared.table.Message.{Message}
use Rattle.hp_network.specs.Network.{Act, HasHalted, Trips, Goes, Sends, Gets, Prints, Machine, State, with_queue, moved, taken, done, done_at, unless_trapped, turn, run}
use Rattle.hp_network.proofs.Worlds.{Entry, World, put, queue, gone, posted, got, said, got_from, does_by, does, move_to, next, after, put_here, put_all, Grows, MayMove, does_by_moves}
use Rattle.hp_network.proofs.Joins.{Reaches}

-- ---- lists

pub get_set_same : {A : Type 0} (xs : List A) (r : ℕ) (x : A) → r < length xs → slice_get (set xs r x) r ≡ Some x
get_set_same [] r x lt = absurd (omega (arith, lt))
get_set_same (y ∷ ys) zero x lt = refl
get_set_same (y ∷ ys) (suc r) x lt = get_set_same ys r x (omega (arith, lt))

pub get_set_other : {A : Type 0} (xs : List A) (r k : ℕ) (x : A) → k ≢ r → slice_get (set xs r x) k ≡ slice_get xs k
get_set_other [] r k x ne = refl
get_set_other (y ∷ ys) zero zero x ne = absurd (ne refl)
get_set_other (y ∷ ys) zero (suc k) x ne = refl
get_set_other (y ∷ ys) (suc r) zero x ne = refl
get_set_other (y ∷ ys) (suc r) (suc k) x ne = get_set_other ys r k x (λ e. ne (ap suc e))

pub get_past : {A : Type 0} (xs : List A) (r : ℕ) → length xs ≤ r → slice_get xs r ≡ None
get_past [] r le = refl
get_past (y ∷ ys) zero le = absurd (omega (arith, le))
get_past (y ∷ ys) (suc r) le = get_past ys r (omega (arith, le))

drop_next : (k : ℕ) (xs rest : List Message) (x : Message) → drop k xs ≡ x ∷ rest → drop (suc k) xs ≡ rest
drop_next k xs rest x q = let e : suc k ≡ k + 1 = omega arith in ap (λ j. drop j xs) e ∙ sym (drop-drop 1 k xs) ∙ ap (drop 1) q

-- ---- states and worlds

-- What a rank does keeps that it is that rank, and only rank 0 writes.
abbrev pub KeepsRank : {X : Type 0} → (ℕ → X → Type 0) → ℕ → Act X → Type 0
KeepsRank own r HasHalted = Unit {0}
KeepsRank own r (Trips t) = Unit {0}
KeepsRank own r (Goes x) = own r x
KeepsRank own r (Sends to message x) = own r x
KeepsRank own r (Gets sender f) = (message : Message) → own r (f message)
KeepsRank own r (Prints text x) = (r ≡ 0) × own r x

abbrev pub KeepsRanks : {X : Type 0} → Machine X → (ℕ → X → Type 0) → Type 0
KeepsRanks {X = X} m own = (r : ℕ) (x : X) → own r x → KeepsRank own r (m.act x)

-- the state of n ranks in which each has done what it has in this world
pub record IsOf {X : Type 0} (n : ℕ) (own : ℕ → X → Type 0) (s : State X) (w : World X) : Type 0 where
  pub count : length s.ranks ≡ n
  pub ranks : (r : ℕ) → r < n → slice_get s.ranks r ≡ Some (w r).now
  pub queues : (a b : ℕ) → s.queues a b ≡ queue w a b
  pub out : s.out ≡ (w 0).wrote
  pub sound : (a b : ℕ) → (w b).took a ≤ length ((w a).sent b)
  pub owned : (r : ℕ) → r < n → own r (w r).now

-- ---- one entry changes

pub took_at : {X : Type 0} (w : World X) (r : ℕ) (e : Entry X) (a b : ℕ) → (put w r e b).took a ≡ cond (eqb b r) (e.took a) ((w b).took a)
took_at w r e a b = by (eqb b r)
  where
    by : (p : Bool) → (cond p e (w b)).took a ≡ cond p (e.took a) ((w b).took a)
    by true = refl
    by false = refl

pub sent_at : {X : Type 0} (w : World X) (r : ℕ) (e : Entry X) (a b : ℕ) → (put w r e a).sent b ≡ cond (eqb a r) (e.sent b) ((w a).sent b)
sent_at w r e a b = by (eqb a r)
  where
    by : (p : Bool) → (cond p e (w a)).sent b ≡ cond p (e.sent b) ((w a).sent b)
    by true = refl
    by false = refl

same_if : {A : Type 0} (f : ℕ → A) (b r : ℕ) → cond (eqb b r) (f r) (f b) ≡ f b
same_if f b r = by (eqb b r) refl
  where
    by : (p : Bool) → eqb b r ≡ p → cond p (f r) (f b) ≡ f b
    by true q = ap f (sym (eqb-true b r q))
    by false q = refl

pub took_same : {X : Type 0} (w : World X) (r : ℕ) (e : Entry X) (a b : ℕ) → e.took a ≡ (w r).took a → (put w r e b).took a ≡ (w b).took a
took_same w r e a b h = took_at w r e a b ∙ ap (λ z. cond (eqb b r) z ((w b).took a)) h ∙ same_if (λ j. (w j).took a) b r

pub sent_same : {X : Type 0} (w : World X) (r : ℕ) (e : Entry X) (a b : ℕ) → e.sent b ≡ (w r).sent b → (put w r e a).sent b ≡ (w a).sent b
sent_same w r e a b h = sent_at w r e a b ∙ ap (λ z. cond (eqb a r) z ((w a).sent b)) h ∙ same_if (λ j. (w j).sent b) a r

sound_put : {X : Type 0} (w : World X) (r : ℕ) (e : Entry X) → ((a b : ℕ) → (w b).took a ≤ length ((w a).sent b)) → Grows (w r) e → ((a : ℕ) → e.took a ≤ length ((w a).sent r)) → (a b : ℕ) → (put w r e b).took a ≤ length ((put w r e a).sent b)
sound_put w r e sound grows here a b =
    let took : (put w r e b).took a ≤ length ((w a).sent b) =
    put_all (λ z. z.took a ≤ length ((w a).sent b)) w r e b (λ q. subst (λ j. e.took a ≤ length ((w a).sent j)) (sym q) (here a)) (λ q. sound a b) in
    let sent : length ((w a).sent b) ≤ length ((put w r e a).sent b) =
    put_all (λ z. length ((w a).sent b) ≤ length (z.sent b)) w r e a
    (λ q. subst (λ j. length ((w j).sent b) ≤ length (e.sent b)) (sym q) (let f = grows.sent b in let l = length-append ((w r).sent b) f.0 in let g = ap length f.1 in omega (arith, l, g)))
    (λ q. omega arith) in
    omega (arith, took, sent)

now_put : {X : Type 0} (s : State X) (n : ℕ) (w : World X) (r : ℕ) (e : Entry X) → r < length s.ranks → ((k : ℕ) → k < n → slice_get s.ranks k ≡ Some (w k).now) → (k : ℕ) → k < n → slice_get (set s.ranks r e.now) k ≡ Some (put w r e k).now
now_put s n w r e lt ranks k lk =
    put_all (λ z. slice_get (set s.ranks r e.now) k ≡ Some z.now) w r e k
    (λ q. ap (slice_get (set s.ranks r e.now)) q ∙ get_set_same s.ranks r e.now lt)
    (λ q. get_set_other s.ranks r k e.now q ∙ ranks k lk)

own_put : {X : Type 0} (n : ℕ) (own : ℕ → X → Type 0) (w : World X) (r : ℕ) (e : Entry X) → ((k : ℕ) → k < n → own k (w k).now) → own r e.now → (k : ℕ) → k < n → own k (put w r e k).now
own_put n own w r e h here k lk = put_all (λ z. own k z.now) w r e k (λ q. subst (λ j. own j e.now) (sym q) here) (λ q. h k lk)

wrote_same : {X : Type 0} (w : World X) (r : ℕ) (e : Entry X) → e.wrote ≡ (w r).wrote → (w 0).wrote ≡ (put w r e 0).wrote
wrote_same w r e h = put_all (λ z. (w 0).wrote ≡ z.wrote) w r e 0 (λ q. ap (λ j. (w j).wrote) q ∙ sym h) (λ q. refl)

gone_is : {X : Type 0} (m : Machine X) (n : ℕ) (own : ℕ → X → Type 0) (s : State X) (w : World X) (r : ℕ) (x : X) → r < n → IsOf n own s w → own r x → IsOf n own (moved m s r 0 x) (put w r (gone x (w r)))
gone_is m n own s w r x lt is here =
    let e = gone x (w r) in
    record {
      count = length-set s.ranks r x ∙ is.count;
      ranks = now_put s n w r e (subst (λ j. r < j) (sym is.count) lt) is.ranks;
      queues = λ a b. is.queues a b ∙ sym (ap (λ j. drop j ((put w r e a).sent b)) (took_same w r e a b refl) ∙ ap (drop ((w b).took a)) (sent_same w r e a b refl));
      out = is.out ∙ wrote_same w r e refl;
      sound = sound_put w r e is.sound (does_by_moves m.room (λ k. []) (λ k. 0) (Goes x) (w r)).grows (λ a. is.sound a r);
      owned = own_put n own w r e is.owned here;
    }

said_is : {X : Type 0} (m : Machine X) (n : ℕ) (own : ℕ → X → Type 0) (s : State X) (w : World X) (r : ℕ) (text : List ℕ) (x : X) → r < n → IsOf n own s w → r ≡ 0 → own r x
    → IsOf n own (record (moved m s r 0 x) { out = s.out ++ text }) (put w r (said text x (w r)))
said_is m n own s w r text x lt is first here =
    let e = said text x (w r) in
    record {
      count = length-set s.ranks r x ∙ is.count;
      ranks = now_put s n w r e (subst (λ j. r < j) (sym is.count) lt) is.ranks;
      queues = λ a b. is.queues a b ∙ sym (ap (λ j. drop j ((put w r e a).sent b)) (took_same w r e a b refl) ∙ ap (drop ((w b).took a)) (sent_same w r e a b refl));
      out =
          ap (λ l. l ++ text) is.out ∙ ap (λ j. (w j).wrote ++ text) (sym first) ∙ sym (ap (λ z. z.wrote) (ap (put w r e) (sym first) ∙ put_here w r e));
      sound = sound_put w r e is.sound (does_by_moves m.room (λ k. []) (λ k. 0) (Prints text x) (w r)).grows (λ a. is.sound a r);
      owned = own_put n own w r e is.owned here;
    }

-- ---- a post

posted_queue : {X : Type 0} (s : State X) (w : World X) (r to : ℕ) (message : Message) (x : X) → ((a b : ℕ) → s.queues a b ≡ queue w a b) → ((a b : ℕ) → (w b).took a ≤ length ((w a).sent b)) → (a b : ℕ)
    → with_queue s.queues r to (s.queues r to ++ message ∷ []) a b ≡ queue (put w r (posted to message x (w r))) a b
posted_queue {X = X} s w r to message x queues sound a b =
    sym (ap (λ j. drop j ((put w r e a).sent b)) (took_same w r e a b refl) ∙ ap (drop ((w b).took a)) (sent_at w r e a b) ∙ by (eqb a r) (eqb b to) refl refl)
  where
    e : Entry X
    e = posted to message x (w r)

    by : (p q : Bool) → eqb a r ≡ p → eqb b to ≡ q → drop ((w b).took a) (cond p (cond q ((w r).sent to ++ message ∷ []) ((w r).sent b)) ((w a).sent b)) ≡ cond (p && q) (s.queues r to ++ message ∷ []) (s.queues a b)
    by true true p q =
        let pa = eqb-true a r p in
        let pb = eqb-true b to q in
        ap (λ j. drop ((w j).took a) ((w r).sent to ++ message ∷ [])) pb
        ∙ ap (λ j. drop ((w to).took j) ((w r).sent to ++ message ∷ [])) pa
        ∙ drop-append-le ((w to).took r) ((w r).sent to) (message ∷ []) (sound r to)
        ∙ ap (λ l. l ++ message ∷ []) (sym (queues r to))
    by true false p q = ap (λ j. drop ((w b).took a) ((w j).sent b)) (sym (eqb-true a r p)) ∙ sym (queues a b)
    by false true p q = sym (queues a b)
    by false false p q = sym (queues a b)

posted_is : {X : Type 0} (m : Machine X) (n : ℕ) (own : ℕ → X → Type 0) (s : State X) (w : World X) (r to : ℕ) (message : Message) (x : X) → r < n → IsOf n own s w → own r x
    → IsOf n own (record (moved m s r (length message.words) x) { queues = with_queue s.queues r to (s.queues r to ++ message ∷ []) }) (put w r (posted to message x (w r)))
posted_is m n own s w r to message x lt is here =
    let e = posted to message x (w r) in
    let grows : MayMove (w r) (Some e) = does_by_moves (record m.room { fits = λ k. true; some = refl; fewer = λ j k l h. refl }) (λ k. []) (λ k. 0) (Sends to message x) (w r) in
    record {
      count = length-set s.ranks r x ∙ is.count;
      ranks = now_put s n w r e (subst (λ j. r < j) (sym is.count) lt) is.ranks;
      queues = posted_queue s w r to message x is.queues is.sound;
      out = is.out ∙ wrote_same w r e refl;
      sound = sound_put w r e is.sound grows.grows (λ a. is.sound a r);
      owned = own_put n own w r e is.owned here;
    }

-- ---- a take

got_queue : {X : Type 0} (s : State X) (w : World X) (r sender : ℕ) (message : Message) (rest : List Message) (x : X) → ((a b : ℕ) → s.queues a b ≡ queue w a b) → s.queues sender r ≡ message ∷ rest → (a b : ℕ)
    → with_queue s.queues sender r rest a b ≡ queue (put w r (got sender x (w r))) a b
got_queue {X = X} s w r sender message rest x queues front a b =
    sym (ap (drop ((put w r e b).took a)) (sent_same w r e a b refl) ∙ ap (λ j. drop j ((w a).sent b)) (took_at w r e a b) ∙ by (eqb a sender) (eqb b r) refl refl)
  where
    e : Entry X
    e = got sender x (w r)

    by : (p q : Bool) → eqb a sender ≡ p → eqb b r ≡ q → drop (cond q (cond p (suc ((w r).took sender)) ((w r).took a)) ((w b).took a)) ((w a).sent b) ≡ cond (p && q) rest (s.queues a b)
    by true true p q =
        ap (λ j. drop (suc ((w r).took sender)) ((w j).sent b)) (eqb-true a sender p)
        ∙ ap (λ j. drop (suc ((w r).took sender)) ((w sender).sent j)) (eqb-true b r q)
        ∙ drop_next ((w r).took sender) ((w sender).sent r) rest message (sym (queues sender r) ∙ front)
    by true false p q = sym (queues a b)
    by false true p q = ap (λ j. drop ((w j).took a) ((w a).sent b)) (sym (eqb-true b r q)) ∙ sym (queues a b)
    by false false p q = sym (queues a b)

got_is : {X : Type 0} (m : Machine X) (n : ℕ) (own : ℕ → X → Type 0) (s : State X) (w : World X) (r sender : ℕ) (message : Message) (rest : List Message) (f : Message → X) → r < n → IsOf n own s w → own r (f message) → s.queues sender r ≡ message ∷ rest
    → IsOf n own (record (moved m s r 0 (f message)) { queues = with_queue s.queues sender r rest }) (put w r (got sender (f message) (w r)))
got_is m n own s w r sender message rest f lt is here front =
    let x = f message in
    let e = got sender x (w r) in
    let some : suc ((w r).took sender) ≤ length ((w sender).sent r) =
    let l = length-drop ((w r).took sender) ((w sender).sent r) in let g = ap length (sym (is.queues sender r) ∙ front) in omega (arith, l, g) in
    let grows : MayMove (w r) (Some e) = does_by_moves m.room (λ k. message ∷ []) (λ k. 0) (Gets sender f) (w r) in
    record {
      count = length-set s.ranks r x ∙ is.count;
      ranks = now_put s n w r e (subst (λ j. r < j) (sym is.count) lt) is.ranks;
      queues = got_queue s w r sender message rest x is.queues front;
      out = is.out ∙ wrote_same w r e refl;
      sound = sound_put w r e is.sound grows.grows (λ a. put_all (λ j. j ≤ length ((w a).sent r)) (w r).took sender (suc ((w r).took sender)) a (λ q. subst (λ j. suc ((w r).took sender) ≤ length ((w j).sent r)) (sym q) some) (λ q. is.sound a r));
      owned = own_put n own w r e is.owned here;
    }

-- ---- a turn

-- the state is that of the later world, or the rank has trapped and it is that of the earlier one
pub data Turned {X : Type 0} (m : Machine X) (n : ℕ) (own : ℕ → X → Type 0) (s : State X) (w v : World X) (r : ℕ) : Type 0 where
  went : s.trap ≡ None → IsOf n own s v → Turned m n own s w v r
  trapped : (t : Trap) → s.trap ≡ Some t → IsOf n own s w → r < n → m.act (w r).now ≡ Trips t → Turned m n own s w v r

sent_turn : {X : Type 0} (m : Machine X) (n : ℕ) (own : ℕ → X → Type 0) (s : State X) (w : World X) (r to : ℕ) (message : Message) (x : X) (b : Bool) → r < n → s.trap ≡ None → IsOf n own s w → own r x
    → Turned m n own (cond b (record (moved m s r (length message.words) x) { queues = with_queue s.queues r to (s.queues r to ++ message ∷ []) }) s) w (move_to w r (cond b (Some (posted to message x (w r))) None)) r
sent_turn m n own s w r to message x true lt none is here = went none (posted_is m n own s w r to message x lt is here)
sent_turn m n own s w r to message x false lt none is here = went none is

got_turn : {X : Type 0} (m : Machine X) (n : ℕ) (own : ℕ → X → Type 0) (s : State X) (w : World X) (r sender : ℕ) (f : Message → X) (q : List Message) → s.queues sender r ≡ q → r < n → s.trap ≡ None → IsOf n own s w → ((message : Message) → own r (f message))
    → Turned m n own (taken q m s r sender f) w (move_to w r (got_from q sender f (w r))) r
got_turn m n own s w r sender f [] front lt none is here = went none is
got_turn m n own s w r sender f (message ∷ rest) front lt none is here = went none (got_is m n own s w r sender message rest f lt is (here message) front)

act_turn : {X : Type 0} (m : Machine X) (n : ℕ) (own : ℕ → X → Type 0) (s : State X) (w : World X) (r : ℕ) (act : Act X) → m.act (w r).now ≡ act → r < n → s.trap ≡ None → IsOf n own s w → KeepsRank own r act
    → Turned m n own (done act m s r) w (move_to w r (does_by m.room (λ k. queue w k r) (λ k. length (queue w r k)) act (w r))) r
act_turn m n own s w r HasHalted e lt none is keeps = went none is
act_turn m n own s w r (Trips t) e lt none is keeps =
    trapped t refl (record { count = is.count; ranks = is.ranks; queues = is.queues; out = is.out; sound = is.sound; owned = is.owned }) lt e
act_turn m n own s w r (Goes x) e lt none is keeps = went none (gone_is m n own s w r x lt is keeps)
act_turn m n own s w r (Sends to message x) e lt none is keeps =
    subst (λ q. Turned m n own (done (Sends to message x) m s r) w (move_to w r (cond (m.room.fits (length q)) (Some (posted to message x (w r))) None)) r) (is.queues r to)
    (sent_turn m n own s w r to message x (m.room.fits (length (s.queues r to))) lt none is keeps)
act_turn m n own s w r (Gets sender f) e lt none is keeps =
    subst (λ q. Turned m n own (taken (s.queues sender r) m s r sender f) w (move_to w r (got_from q sender f (w r))) r) (is.queues sender r)
    (got_turn m n own s w r sender f (s.queues sender r) refl lt none is keeps)
act_turn m n own s w r (Prints text x) e lt none is keeps = went none (said_is m n own s w r text x lt is keeps.0 keeps.1)

turn_by : {X : Type 0} (m : Machine X) (n : ℕ) (own : ℕ → X → Type 0) (s : State X) (w : World X) (r : ℕ) (b : Bool) → ltb r n ≡ b → s.trap ≡ None → IsOf n own s w → KeepsRanks m own
    → Turned m n own (done_at (slice_get s.ranks r) m s r) w (move_to w r (cond b (does_by m.room (λ k. queue w k r) (λ k. length (queue w r k)) (m.act (w r).now) (w r)) None)) r
turn_by m n own s w r true q none is keeps =
    let lt = ltb-true r n q in
    subst (λ o. Turned m n own (done_at o m s r) w (move_to w r (does_by m.room (λ k. queue w k r) (λ k. length (queue w r k)) (m.act (w r).now) (w r))) r) (sym (is.ranks r lt))
    (act_turn m n own s w r (m.act (w r).now) refl lt none is (keeps r (w r).now (is.owned r lt)))
turn_by m n own s w r false q none is keeps =
    let past = get_past s.ranks r (let h = ltb-false r n q in let c = is.count in omega (arith, h, c)) in
    subst (λ o. Turned m n own (done_at o m s r) w w r) (sym past) (went none is)

pub turn_is : {X : Type 0} (m : Machine X) (n : ℕ) (own : ℕ → X → Type 0) (s : State X) (w : World X) (r : ℕ) → s.trap ≡ None → IsOf n own s w → KeepsRanks m own → Turned m n own (turn m s r) w (next m n w r) r
unfolding turn next does
turn_is m n own s w r none is keeps =
    subst (λ t. Turned m n own (unless_trapped t s (done_at (slice_get s.ranks r) m s r)) w (move_to w r (cond (ltb r n) (does_by m.room (λ k. queue w k r) (λ k. length (queue w r k)) (m.act (w r).now) (w r)) None)) r) (sym none)
    (turn_by m n own s w r (ltb r n) refl none is keeps)

-- ---- runs

-- the trap is that of one of the ranks
abbrev pub TrapIs : {X : Type 0} → Machine X → ℕ → World X → Option Trap → Type 0
TrapIs m n w None = Unit {0}
TrapIs m n w (Some t) = (r : ℕ) × (r < n) × (m.act (w r).now ≡ Trips t)

-- the state is one to which the ranks come from the first world in at most so many turns
pub record Tracks {X : Type 0} (m : Machine X) (n : ℕ) (own : ℕ → X → Type 0) (w : World X) (limit : ℕ) (s : State X) : Type 0 where
  pub at : World X
  pub there : Reaches m n w at
  pub short : length there.turns ≤ limit
  pub shorter : (t : Trap) → s.trap ≡ Some t → length there.turns < limit
  pub is : IsOf n own s at
  pub trap : TrapIs m n at s.trap

unless_some : {X : Type 0} (o : Option Trap) (t : Trap) (s later : State X) → o ≡ Some t → unless_trapped o s later ≡ s
unless_some o t s later q = ap (λ z. unless_trapped z s later) q

-- once some rank has trapped, nothing changes
pub run_trapped : {X : Type 0} (m : Machine X) (s : State X) (t : Trap) → s.trap ≡ Some t → (rs : List ℕ) → run m s rs ≡ s
unfolding run turn
run_trapped m s t q [] = refl
run_trapped m s t q (r ∷ rs) = ap (λ z. run m z rs) (unless_some s.trap t s (done_at (slice_get s.ranks r) m s r) q) ∙ run_trapped m s t q rs

pub some_none : {A B : Type 0} (o : Option A) (x : A) → o ≡ Some x → o ≡ None → B
some_none o x p q = absurd (differ (sym p ∙ q))
  where
    differ : Some x ≡ None → ⊥
    differ h = cc

pub run_tracks : {X : Type 0} (m : Machine X) (n : ℕ) (own : ℕ → X → Type 0) → KeepsRanks m own → (rs : List ℕ) (s : State X) (w : World X) → s.trap ≡ None → IsOf n own s w → Tracks m n own w (length rs) (run m s rs)
unfolding run after
run_tracks m n own keeps [] s w none is =
    record { at = w; there = record { turns = []; comes = refl }; short = omega arith; shorter = λ t q. some_none s.trap t q none; is = is; trap = subst (TrapIs m n w) (sym none) tt }
run_tracks {X = X} m n own keeps (r ∷ rs) s w none is = by (turn_is m n own s w r none is keeps) (λ q i. run_tracks m n own keeps rs (turn m s r) (next m n w r) q i)
  where
    by : Turned m n own (turn m s r) w (next m n w r) r → ((turn m s r).trap ≡ None → IsOf n own (turn m s r) (next m n w r) → Tracks m n own (next m n w r) (length rs) (run m (turn m s r) rs))
        → Tracks m n own w (length (r ∷ rs)) (run m (turn m s r) rs)
    by (went q i) more =
        let rest = more q i in
        record { at = rest.at; there = record { turns = r ∷ rest.there.turns; comes = rest.there.comes }; short = let h = rest.short in omega (arith, h); shorter = λ t e. let h = rest.shorter t e in omega (arith, h); is = rest.is; trap = rest.trap }
    by (trapped t q i lt e) more =
        subst (Tracks m n own w (length (r ∷ rs))) (sym (run_trapped m (turn m s r) t q rs))
        (record { at = w; there = record { turns = []; comes = refl }; short = omega arith; shorter = λ u e. omega arith; is = i; trap = subst (TrapIs m n w) (sym q) (r, lt, e) })

-- a run in which no rank has trapped
pub run_goes : {X : Type 0} (m : Machine X) (n : ℕ) (own : ℕ → X → Type 0) → KeepsRanks m own → (rs : List ℕ) (s : State X) (w : World X) → s.trap ≡ None → IsOf n own s w → (run m s rs).trap ≡ None → IsOf n own (run m s rs) (after m n w rs)
unfolding run after
run_goes m n own keeps [] s w none is q = is
run_goes m n own keeps (r ∷ rs) s w none is q = by (turn_is m n own s w r none is keeps) (λ p i. run_goes m n own keeps rs (turn m s r) (next m n w r) p i q)
  where
    by : Turned m n own (turn m s r) w (next m n w r) r → ((turn m s r).trap ≡ None → IsOf n own (turn m s r) (next m n w r) → IsOf n own (run m (turn m s r) rs) (after m n (next m n w r) rs)) → IsOf n own (run m (turn m s r) rs) (after m n (next m n w r) rs)
    by (went p i) more = more p i
    by (trapped t p i lt e) more = some_none (run m (turn m s r) rs).trap t (ap (λ z. z.trap) (run_trapped m (turn m s r) t p rs) ∙ p) q

pub run_more : {X : Type 0} (m : Machine X) (rs ss : List ℕ) (s : State X) → run m s (rs ++ ss) ≡ run m (run m s rs) ss
unfolding run
run_more m [] ss s = refl
run_more m (r ∷ rs) ss s = run_more m rs ss (turn m s r)
