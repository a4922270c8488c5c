-- What a rank does alone it does whatever the others do. A stage leads each rank, alone, from one world to another; a course is
-- stages one after the other.
use Rattle.std.proofs.Common.{◌≡◌, ◌≢◌, ◌∙◌, refl, sym, subst, ap, arith, ℕ, zero, suc, ◌+◌, ◌<◌, ◌≤◌, eqb, ltb, ltb-true, ltb-false, Bool, true, false, cond, Some}
use Rattle.std.proofs.lemmas.Bool.{eqb-true, eqb-false}
use Rattle.hp_network.specs.Network.{Machine}
use Rattle.hp_network.proofs.Worlds.{Entry, World, put, does, next, same_by, put_here, put_all, Grows, grows_same, grows_is, grows_trans, Moves, move_of, Below, next_kept}
use Rattle.hp_network.proofs.Joins.{Reaches, reaches_same, reaches_trans, reaches_next, next_some, one_entry}

-- ---- one rank alone

-- In so many moves, with the others as they are in w, the rank comes from the one entry to the other; in each state from which
-- it moves, the claim holds.
abbrev pub Alone : {X : Type 0} → Machine X → ℕ → World X → ℕ → (X → Type 0) → ℕ → Entry X → Entry X → Type 0
Alone m n w r P zero e g = e ≡ g
Alone {X = X} m n w r P (suc k) e g = P e.now × ((f : Entry X) × (does m n (put w r e) r ≡ Some f) × Alone m n w r P k f g)

pub put_put : {A : Type 0} (w : ℕ → A) (r : ℕ) (e f : A) → put (put w r e) r f ≡ put w r f
put_put w r e f = same_by (put (put w r e) r f) (put w r f) (λ k. by (w k) (eqb k r))
  where
    by : (x : _) (b : Bool) → cond b f (cond b e x) ≡ cond b f x
    by x true = refl
    by x false = refl

pub put_back : {A : Type 0} (w : ℕ → A) (r : ℕ) → put w r (w r) ≡ w
put_back w r = same_by (put w r (w r)) w (λ k. by k (eqb k r) refl)
  where
    by : (k : ℕ) (b : Bool) → eqb k r ≡ b → cond b (w r) (w k) ≡ w k
    by k true q = ap w (sym (eqb-true k r q))
    by k false q = refl

-- the move of a rank from an entry, as one from its own
move_from : {X : Type 0} (m : Machine X) (n : ℕ) (w : World X) (r : ℕ) (e f : Entry X) → does m n (put w r e) r ≡ Some f → Moves e f
move_from m n w r e f q = subst (λ z. Moves z f) (put_here w r e) (move_of m n (put w r e) r f q)

pub alone_count : {X : Type 0} (m : Machine X) (n : ℕ) (w : World X) (r : ℕ) (P : X → Type 0) (k : ℕ) (e g : Entry X) → Alone m n w r P k e g → g.moves ≡ e.moves + k
alone_count m n w r P zero e g h = let q = ap (λ z. z.moves) h in omega (arith, q)
alone_count m n w r P (suc k) e g h =
    let one = (move_from m n w r e h.1.0 h.1.1).one in
    let rest = alone_count m n w r P k h.1.0 g h.1.2 in
    omega (arith, one, rest)

pub alone_grows : {X : Type 0} (m : Machine X) (n : ℕ) (w : World X) (r : ℕ) (P : X → Type 0) (k : ℕ) (e g : Entry X) → Alone m n w r P k e g → Grows e g
alone_grows m n w r P zero e g h = grows_is e g h
alone_grows m n w r P (suc k) e g h = grows_trans e h.1.0 g (move_from m n w r e h.1.0 h.1.1).grows (alone_grows m n w r P k h.1.0 g h.1.2)

-- in a world in which the others have done more it does the same
put_below : {X : Type 0} (w v : World X) (r : ℕ) (e : Entry X) → ((k : ℕ) → k ≢ r → Grows (w k) (v k)) → Below (put w r e) (put v r e)
put_below w v r e h k = by (eqb k r) refl
  where
    by : (b : Bool) → eqb k r ≡ b → Grows (cond b e (w k)) (cond b e (v k))
    by true q = grows_same e
    by false q = h k (eqb-false k r q)

pub alone_kept : {X : Type 0} (m : Machine X) (n : ℕ) (w v : World X) (r : ℕ) (P : X → Type 0) → ((k : ℕ) → k ≢ r → Grows (w k) (v k)) → (k : ℕ) (e g : Entry X) → Alone m n w r P k e g → Alone m n v r P k e g
alone_kept m n w v r P h zero e g a = a
alone_kept m n w v r P h (suc k) e g a =
    (a.0, (a.1.0, next_kept m n (put w r e) (put v r e) r a.1.0 (put_here v r e ∙ sym (put_here w r e)) (put_below w v r e h) a.1.1, alone_kept m n w v r P h k a.1.0 g a.1.2))

-- that many turns of the rank
pub alone_reaches : {X : Type 0} (m : Machine X) (n : ℕ) (w : World X) (r : ℕ) (P : X → Type 0) (k : ℕ) (e g : Entry X) → Alone m n w r P k e g → Reaches m n (put w r e) (put w r g)
alone_reaches m n w r P zero e g h = subst (λ z. Reaches m n (put w r e) (put w r z)) h (reaches_same m n (put w r e))
alone_reaches m n w r P (suc k) e g h =
    let f = h.1.0 in
    let step : next m n (put w r e) r ≡ put w r f = next_some m n (put w r e) r f h.1.1 ∙ put_put w r e f in
    reaches_trans m n (put w r e) (put w r f) (put w r g) (subst (Reaches m n (put w r e)) step (reaches_next m n (put w r e) r)) (alone_reaches m n w r P k f g h.1.2)

-- a rank that is on its way can move, and the claim holds where it is
pub record OnItsWay {X : Type 0} (m : Machine X) (n : ℕ) (v : World X) (r : ℕ) (P : X → Type 0) : Type 0 where
  pub here : P (v r).now
  pub then : Entry X
  pub moves : does m n v r ≡ Some then

pub alone_here : {X : Type 0} (m : Machine X) (n : ℕ) (s w v : World X) (r : ℕ) (P : X → Type 0) → Reaches m n s v → (k : ℕ) (e g : Entry X) → Reaches m n s (put w r e) → Alone m n w r P k e g
    → e.moves ≤ (v r).moves → (v r).moves < e.moves + k → P (v r).now
alone_here m n s w v r P there zero e g at a low high = absurd (omega (arith, low, high))
alone_here {X = X} m n s w v r P there (suc k) e g at a low high = by (eqb (v r).moves e.moves) refl (alone_here m n s w v r P there k a.1.0 g next_at a.1.2)
  where
    f : Entry X
    f = a.1.0

    next_at : Reaches m n s (put w r f)
    next_at = reaches_trans m n s (put w r e) (put w r f) at (subst (Reaches m n (put w r e)) (next_some m n (put w r e) r f a.1.1 ∙ put_put w r e f) (reaches_next m n (put w r e) r))

    by : (b : Bool) → eqb (v r).moves e.moves ≡ b → (f.moves ≤ (v r).moves → (v r).moves < f.moves + k → P (v r).now) → P (v r).now
    by true q more =
        let same : v r ≡ e = one_entry m n s (put w r e) v r at there (ap (λ z. z.moves) (put_here w r e) ∙ sym (eqb-true (v r).moves e.moves q)) ∙ put_here w r e in
        subst (λ z. P z.now) (sym same) a.0
    by false q more =
        let ne = eqb-false (v r).moves e.moves q in
        let one = (move_from m n w r e f a.1.1).one in
        more (omega (arith, ne, one, low)) (omega (arith, one, high))

pub alone_moves : {X : Type 0} (m : Machine X) (n : ℕ) (s w v : World X) (r : ℕ) (P : X → Type 0) → Reaches m n s v → ((k : ℕ) → k ≢ r → Grows (w k) (v k)) → (k : ℕ) (e g : Entry X) → Reaches m n s (put w r e) → Alone m n w r P k e g
    → e.moves ≤ (v r).moves → (v r).moves < e.moves + k → (f : Entry X) × (does m n v r ≡ Some f)
alone_moves m n s w v r P there below zero e g at a low high = absurd (omega (arith, low, high))
alone_moves {X = X} m n s w v r P there below (suc k) e g at a low high = by (eqb (v r).moves e.moves) refl (alone_moves m n s w v r P there below k a.1.0 g next_at a.1.2)
  where
    f : Entry X
    f = a.1.0

    next_at : Reaches m n s (put w r f)
    next_at = reaches_trans m n s (put w r e) (put w r f) at (subst (Reaches m n (put w r e)) (next_some m n (put w r e) r f a.1.1 ∙ put_put w r e f) (reaches_next m n (put w r e) r))

    by : (b : Bool) → eqb (v r).moves e.moves ≡ b → (f.moves ≤ (v r).moves → (v r).moves < f.moves + k → (f : Entry X) × (does m n v r ≡ Some f)) → (f : Entry X) × (does m n v r ≡ Some f)
    by true q more =
        let same : v r ≡ e = one_entry m n s (put w r e) v r at there (ap (λ z. z.moves) (put_here w r e) ∙ sym (eqb-true (v r).moves e.moves q)) ∙ put_here w r e in
        let all : Below (put w r e) v = λ j. put_all (λ z. Grows z (v j)) w r e j (λ c. grows_is e (v j) (sym same ∙ ap v (sym c))) (below j) in
        (f, next_kept m n (put w r e) v r f (same ∙ sym (put_here w r e)) all a.1.1)
    by false q more =
        let ne = eqb-false (v r).moves e.moves q in
        let one = (move_from m n w r e f a.1.1).one in
        more (omega (arith, ne, one, low)) (omega (arith, one, high))

-- ---- stages

-- a rank, alone, comes from where it is in a world to an entry, in at most so many moves
pub record Goes {X : Type 0} (m : Machine X) (n : ℕ) (P : X → Type 0) (w : World X) (r most : ℕ) (e : Entry X) : Type 0 where
  pub cost : ℕ
  pub within : cost ≤ most
  pub alone : Alone m n w r P cost (w r) e

-- Each rank, alone, comes from where it is in the one world to where it is in the other, in at most so many moves.
pub record Stage {X : Type 0} (m : Machine X) (n : ℕ) (P : X → Type 0) (w v : World X) : Type 0 where
  pub most : ℕ
  pub goes : (r : ℕ) → r < n → Goes m n P w r most (v r)
  pub rest : (r : ℕ) → n ≤ r → v r ≡ w r

pub stage_below : {X : Type 0} (m : Machine X) (n : ℕ) (P : X → Type 0) (w v : World X) → Stage m n P w v → Below w v
stage_below m n P w v s k = by (ltb k n) refl
  where
    by : (b : Bool) → ltb k n ≡ b → Grows (w k) (v k)
    by true q = let g = s.goes k (ltb-true k n q) in alone_grows m n w k P g.cost (w k) (v k) g.alone
    by false q = grows_is (w k) (v k) (sym (s.rest k (let h = ltb-false k n q in omega (arith, h))))

-- the first i ranks are where they are in v
mixed : {X : Type 0} → World X → World X → ℕ → World X
mixed w v i k = cond (ltb k i) (v k) (w k)

mixed_below : {X : Type 0} (w v : World X) (i : ℕ) → Below w v → Below w (mixed w v i)
unfolding mixed
mixed_below w v i h k = by (ltb k i)
  where
    by : (b : Bool) → Grows (w k) (cond b (v k) (w k))
    by true = h k
    by false = grows_same (w k)

mixed_here : {X : Type 0} (w v : World X) (i : ℕ) → put (mixed w v i) i (w i) ≡ mixed w v i
unfolding mixed
mixed_here w v i = ap (put (mixed w v i) i) (sym (by (ltb i i) refl)) ∙ put_back (mixed w v i) i
  where
    by : (b : Bool) → ltb i i ≡ b → cond b (v i) (w i) ≡ w i
    by true q = absurd (let h = ltb-true i i q in omega (arith, h))
    by false q = refl

mixed_on : {X : Type 0} (w v : World X) (i : ℕ) → put (mixed w v i) i (v i) ≡ mixed w v (suc i)
unfolding mixed
mixed_on w v i = same_by (put (mixed w v i) i (v i)) (mixed w v (suc i)) (λ k. by k (eqb k i) (ltb k i) (ltb k (suc i)) refl refl refl)
  where
    by : (k : ℕ) (a b c : Bool) → eqb k i ≡ a → ltb k i ≡ b → ltb k (suc i) ≡ c → cond a (v i) (cond b (v k) (w k)) ≡ cond c (v k) (w k)
    by k true b true p q o = ap v (sym (eqb-true k i p))
    by k true b false p q o = absurd (let h = ltb-false k (suc i) o in let g = eqb-true k i p in omega (arith, h, g))
    by k false true true p q o = refl
    by k false true false p q o = absurd (let h = ltb-false k (suc i) o in let g = ltb-true k i q in omega (arith, h, g))
    by k false false true p q o = absurd (let h = ltb-true k (suc i) o in let g = ltb-false k i q in let f = eqb-false k i p in omega (arith, h, g, f))
    by k false false false p q o = refl

mixed_none : {X : Type 0} (w v : World X) → mixed w v 0 ≡ w
unfolding mixed
mixed_none w v = same_by (mixed w v 0) w (λ k. by k (ltb k 0) refl)
  where
    by : (k : ℕ) (b : Bool) → ltb k 0 ≡ b → cond b (v k) (w k) ≡ w k
    by k true q = absurd (let h = ltb-true k 0 q in omega (arith, h))
    by k false q = refl

mixed_all : {X : Type 0} (w v : World X) (n : ℕ) → ((r : ℕ) → n ≤ r → v r ≡ w r) → mixed w v n ≡ v
unfolding mixed
mixed_all w v n rest = same_by (mixed w v n) v (λ k. by k (ltb k n) refl)
  where
    by : (k : ℕ) (b : Bool) → ltb k n ≡ b → cond b (v k) (w k) ≡ v k
    by k true q = refl
    by k false q = sym (rest k (let h = ltb-false k n q in omega (arith, h)))

-- the ranks one after the other
mixed_reached : {X : Type 0} (m : Machine X) (n : ℕ) (P : X → Type 0) (w v : World X) → Stage m n P w v → (i : ℕ) → i ≤ n → Reaches m n w (mixed w v i)
mixed_reached m n P w v s zero le = subst (Reaches m n w) (sym (mixed_none w v)) (reaches_same m n w)
mixed_reached m n P w v s (suc i) le =
    let lt : i < n = omega (arith, le) in
    let le2 : i ≤ n = omega (arith, le) in
    let below = mixed_below w v i (stage_below m n P w v s) in
    let g = s.goes i lt in
    let kept = alone_kept m n w (mixed w v i) i P (λ k ne. below k) g.cost (w i) (v i) g.alone in
    let on = alone_reaches m n (mixed w v i) i P g.cost (w i) (v i) kept in
    reaches_trans m n w (mixed w v i) (mixed w v (suc i)) (mixed_reached m n P w v s i le2)
    (subst (λ z. Reaches m n z (mixed w v (suc i))) (mixed_here w v i) (subst (Reaches m n (put (mixed w v i) i (w i))) (mixed_on w v i) on))

pub stage_reaches : {X : Type 0} (m : Machine X) (n : ℕ) (P : X → Type 0) (w v : World X) → Stage m n P w v → Reaches m n w v
stage_reaches m n P w v s = subst (Reaches m n w) (mixed_all w v n s.rest) (mixed_reached m n P w v s n (omega arith))

-- a rank between the two worlds
pub stage_here : {X : Type 0} (m : Machine X) (n : ℕ) (P : X → Type 0) (o w v x : World X) (r : ℕ) → r < n → Stage m n P w v → Reaches m n o w → Reaches m n o x → (w r).moves ≤ (x r).moves → (x r).moves < (v r).moves → P (x r).now
stage_here m n P o w v x r lt s at there low high =
    let g = s.goes r lt in
    let count = alone_count m n w r P g.cost (w r) (v r) g.alone in
    alone_here m n o w x r P there g.cost (w r) (v r) (subst (Reaches m n o) (sym (put_back w r)) at) g.alone low (omega (arith, count, high))

pub stage_moves : {X : Type 0} (m : Machine X) (n : ℕ) (P : X → Type 0) (o w v x : World X) (r : ℕ) → r < n → Stage m n P w v → Reaches m n o w → Reaches m n o x → Below w x → (x r).moves < (v r).moves → (f : Entry X) × (does m n x r ≡ Some f)
stage_moves m n P o w v x r lt s at there below high =
    let g = s.goes r lt in
    let count = alone_count m n w r P g.cost (w r) (v r) g.alone in
    alone_moves m n o w x r P there (λ k ne. below k) g.cost (w r) (v r) (subst (Reaches m n o) (sym (put_back w r)) at) g.alone (below r).more (omega (arith, count, high))

-- ---- courses

-- so many stages, one after the other
abbrev pub Course : {X : Type 0} → Machine X → ℕ → (X → Type 0) → ℕ → World X → World X → Type 0
Course m n P zero w v = w ≡ v
Course {X = X} m n P (suc k) w v = (u : World X) × Stage m n P w u × Course m n P k u v

-- the moves that a course costs a rank at most
abbrev pub cost_of : {X : Type 0} → (m : Machine X) (n : ℕ) (P : X → Type 0) (k : ℕ) (w v : World X) → Course m n P k w v → ℕ
cost_of m n P zero w v c = 0
cost_of m n P (suc k) w v c = c.1.most + cost_of m n P k c.0 v c.2

pub course_reaches : {X : Type 0} (m : Machine X) (n : ℕ) (P : X → Type 0) (k : ℕ) (w v : World X) → Course m n P k w v → Reaches m n w v
course_reaches m n P zero w v c = subst (Reaches m n w) c (reaches_same m n w)
course_reaches m n P (suc k) w v c = reaches_trans m n w c.0 v (stage_reaches m n P w c.0 c.1) (course_reaches m n P k c.0 v c.2)

-- The place of a rank in the course: where it has not come to the end, the claim holds where it is.
pub placed : {X : Type 0} (m : Machine X) (n : ℕ) (P : X → Type 0) (o x : World X) (r : ℕ) → r < n → Reaches m n o x → (k : ℕ) (w v : World X) → Reaches m n o w → Course m n P k w v → (w r).moves ≤ (x r).moves → (x r).moves < (v r).moves → P (x r).now
placed m n P o x r lt there zero w v at c low high = absurd (let h = ap (λ (z : World _). (z r).moves) c in omega (arith, h, low, high))
placed m n P o x r lt there (suc k) w v at c low high = by (ltb (x r).moves (c.0 r).moves) refl (placed m n P o x r lt there k c.0 v (reaches_trans m n o w c.0 at (stage_reaches m n P w c.0 c.1)) c.2)
  where
    by : (b : Bool) → ltb (x r).moves (c.0 r).moves ≡ b → ((c.0 r).moves ≤ (x r).moves → (x r).moves < (v r).moves → P (x r).now) → P (x r).now
    by true q more = stage_here m n P o w c.0 x r lt c.1 at there low (ltb-true (x r).moves (c.0 r).moves q)
    by false q more = more (let h = ltb-false (x r).moves (c.0 r).moves q in omega (arith, h)) high
