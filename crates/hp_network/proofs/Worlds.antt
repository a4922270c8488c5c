-- What each rank has done itself: a network of ranks without a state of its own. A turn changes one rank's entry, and reads
-- the others' only through lists and counts that grow.
use Rattle.std.proofs.Common.{◌≡◌, ◌≢◌, ◌∙◌, refl, sym, subst, ap, arith, ℕ, zero, suc, ◌≤◌, eqb, ltb, Bool, true, false, cond, List, [], ◌∷◌, ◌++◌, append_assoc, append-nil, drop, length, length-drop, Option, Some, None}
use Rattle.std.proofs.lemmas.Bool.{eqb-true, eqb-false, eq-eqb, ne_eqb}
use Rattle.hp_word.specs.declared.table.Message.{Message}
use Rattle.hp_network.specs.Network.{Act, HasHalted, Trips, Goes, Sends, Gets, Prints, Room, Machine}

-- ---- entries

-- where a rank is, all that it ever posted to each rank, how many messages it has taken from each, what it wrote, and how
-- often it has moved
pub record Entry (X : Type 0) : Type 0 where
  pub now : X
  pub sent : ℕ → List Message
  pub took : ℕ → ℕ
  pub wrote : List ℕ
  pub moves : ℕ

abbrev pub World : Type 0 → Type 0
World X = ℕ → Entry X

-- the function with another value at one number
abbrev pub put : {A : Type 0} → (ℕ → A) → ℕ → A → ℕ → A
put w r e k = cond (eqb k r) e (w k)

-- what a posted to b, without what b took of it
abbrev pub queue : {X : Type 0} → World X → ℕ → ℕ → List Message
queue w a b = drop ((w b).took a) ((w a).sent b)

abbrev pub gone : {X : Type 0} → X → Entry X → Entry X
gone x e = record e { now = x; moves = suc e.moves }

abbrev pub posted : {X : Type 0} → ℕ → Message → X → Entry X → Entry X
posted to message x e = record e { now = x; sent = put e.sent to (e.sent to ++ message ∷ []); moves = suc e.moves }

abbrev pub got : {X : Type 0} → ℕ → X → Entry X → Entry X
got sender x e = record e { now = x; took = put e.took sender (suc (e.took sender)); moves = suc e.moves }

abbrev pub said : {X : Type 0} → List ℕ → X → Entry X → Entry X
said text x e = record e { now = x; wrote = e.wrote ++ text; moves = suc e.moves }

abbrev pub got_from : {X : Type 0} → List Message → ℕ → (Message → X) → Entry X → Option (Entry X)
got_from [] sender f e = None
got_from (message ∷ rest) sender f e = Some (got sender (f message) e)

-- what a rank does that can move, by its queues from each rank and the lengths of those to each
abbrev pub does_by : {X : Type 0} → Room → (ℕ → List Message) → (ℕ → ℕ) → Act X → Entry X → Option (Entry X)
does_by room from to HasHalted e = None
does_by room from to (Trips t) e = None
does_by room from to (Goes x) e = Some (gone x e)
does_by room from to (Sends k message x) e = cond (room.fits (to k)) (Some (posted k message x e)) None
does_by room from to (Gets k f) e = got_from (from k) k f e
does_by room from to (Prints text x) e = Some (said text x e)

-- the move of one of n ranks; a rank that traps makes none
unfoldable pub does : {X : Type 0} → Machine X → ℕ → World X → ℕ → Option (Entry X)
does m n w r = cond (ltb r n) (does_by m.room (λ k. queue w k r) (λ k. length (queue w r k)) (m.act (w r).now) (w r)) None

abbrev pub move_to : {X : Type 0} → World X → ℕ → Option (Entry X) → World X
move_to w r None = w
move_to w r (Some e) = put w r e

unfoldable pub next : {X : Type 0} → Machine X → ℕ → World X → ℕ → World X
next m n w r = move_to w r (does m n w r)

unfoldable pub after : {X : Type 0} → Machine X → ℕ → World X → List ℕ → World X
after m n w [] = w
after m n w (r ∷ rs) = after m n (next m n w r) rs

-- ---- changing one value

pub same_by : {A : Type 0} (f g : ℕ → A) → ((k : ℕ) → f k ≡ g k) → f ≡ g
same_by f g h i k = h k i

pub put_here : {A : Type 0} (w : ℕ → A) (r : ℕ) (e : A) → put w r e r ≡ e
put_here w r e = ap (λ b. cond b e (w r)) (eq-eqb r r refl)

pub put_other : {A : Type 0} (w : ℕ → A) (r k : ℕ) (e : A) → k ≢ r → put w r e k ≡ w k
put_other w r k e ne = ap (λ b. cond b e (w k)) (ne_eqb k r ne)

-- a claim of each value holds of all once it holds of the new one, and of the others
pub put_all : {A : Type 0} (P : A → Type 0) (w : ℕ → A) (r : ℕ) (e : A) (k : ℕ) → (k ≡ r → P e) → (k ≢ r → P (w k)) → P (put w r e k)
put_all P w r e k here other = by (eqb k r) refl
  where
    by : (b : Bool) → eqb k r ≡ b → P (cond b e (w k))
    by true q = here (eqb-true k r q)
    by false q = other (eqb-false k r q)

pub put_comm : {A : Type 0} (w : ℕ → A) (r s : ℕ) (e f : A) → r ≢ s → put (put w r e) s f ≡ put (put w s f) r e
put_comm w r s e f ne =
    same_by (put (put w r e) s f) (put (put w s f) r e)
    (λ k. by k (eqb k r) (eqb k s) refl refl)
  where
    by : (k : ℕ) (b c : Bool) → eqb k r ≡ b → eqb k s ≡ c → cond c f (cond b e (w k)) ≡ cond b e (cond c f (w k))
    by k true true p q = absurd (ne (sym (eqb-true k r p) ∙ eqb-true k s q))
    by k true false p q = refl
    by k false true p q = refl
    by k false false p q = refl

-- ---- growth

-- the list is a front of another
abbrev pub IsFront : {A : Type 0} → List A → List A → Type 0
IsFront {A = A} xs ys = (rest : List A) × (ys ≡ xs ++ rest)

pub front_same : {A : Type 0} (xs : List A) → IsFront xs xs
front_same xs = ([], sym (append-nil xs))

pub front_trans : {A : Type 0} (xs ys zs : List A) → IsFront xs ys → IsFront ys zs → IsFront xs zs
front_trans xs ys zs p q = (p.0 ++ q.0, q.1 ∙ (ap (λ l. l ++ q.0) p.1 ∙ append_assoc xs p.0 q.0))

-- what a rank has done, and what it has done later; it has done more only where it has moved
pub record Grows {X : Type 0} (e f : Entry X) : Type 0 where
  pub more : e.moves ≤ f.moves
  pub same : f.moves ≤ e.moves → f ≡ e
  pub sent : (k : ℕ) → IsFront (e.sent k) (f.sent k)
  pub took : (k : ℕ) → e.took k ≤ f.took k
  pub wrote : IsFront e.wrote f.wrote

pub grows_same : {X : Type 0} (e : Entry X) → Grows e e
grows_same e = record { more = omega arith; same = λ h. refl; sent = λ k. front_same (e.sent k); took = λ k. omega arith; wrote = front_same e.wrote }

pub grows_is : {X : Type 0} (e f : Entry X) → e ≡ f → Grows e f
grows_is e f q = subst (Grows e) q (grows_same e)

pub grows_trans : {X : Type 0} (e f g : Entry X) → Grows e f → Grows f g → Grows e g
grows_trans e f g p q =
    let a = p.more in
    let b = q.more in
    record {
      more = omega (arith, a, b);
      same = λ h. q.same (omega (arith, a, b, h)) ∙ p.same (omega (arith, a, b, h));
      sent = λ k. front_trans (e.sent k) (f.sent k) (g.sent k) (p.sent k) (q.sent k);
      took = λ k. let c = p.took k in let d = q.took k in omega (arith, c, d);
      wrote = front_trans e.wrote f.wrote g.wrote p.wrote q.wrote;
    }

-- a move: one more, and what there was has grown
pub record Moves {X : Type 0} (e f : Entry X) : Type 0 where
  pub one : f.moves ≡ suc e.moves
  pub grows : Grows e f

abbrev pub MayMove : {X : Type 0} → Entry X → Option (Entry X) → Type 0
MayMove e None = Unit {0}
MayMove e (Some f) = Moves e f

gone_moves : {X : Type 0} (x : X) (e : Entry X) → Moves e (gone x e)
gone_moves x e =
    record { one = refl; grows = record { more = omega arith; same = λ h. absurd (omega (arith, h)); sent = λ k. front_same (e.sent k); took = λ k. omega arith; wrote = front_same e.wrote } }

posted_moves : {X : Type 0} (to : ℕ) (message : Message) (x : X) (e : Entry X) → Moves e (posted to message x e)
posted_moves to message x e =
    record {
      one = refl;
      grows = record {
        more = omega arith;
        same = λ h. absurd (omega (arith, h));
        sent = λ k. put_all (IsFront (e.sent k)) e.sent to (e.sent to ++ message ∷ []) k (λ q. (message ∷ [], ap (λ j. e.sent j ++ message ∷ []) (sym q))) (λ q. front_same (e.sent k));
        took = λ k. omega arith;
        wrote = front_same e.wrote;
      };
    }

got_moves : {X : Type 0} (sender : ℕ) (x : X) (e : Entry X) → Moves e (got sender x e)
got_moves sender x e =
    record {
      one = refl;
      grows = record {
        more = omega arith;
        same = λ h. absurd (omega (arith, h));
        sent = λ k. front_same (e.sent k);
        took = λ k. put_all (λ j. e.took k ≤ j) e.took sender (suc (e.took sender)) k (λ q. subst (λ j. e.took j ≤ suc (e.took sender)) (sym q) (omega arith)) (λ q. omega arith);
        wrote = front_same e.wrote;
      };
    }

said_moves : {X : Type 0} (text : List ℕ) (x : X) (e : Entry X) → Moves e (said text x e)
said_moves text x e =
    record { one = refl; grows = record { more = omega arith; same = λ h. absurd (omega (arith, h)); sent = λ k. front_same (e.sent k); took = λ k. omega arith; wrote = (text, refl) } }

got_from_moves : {X : Type 0} (q : List Message) (k : ℕ) (f : Message → X) (e : Entry X) → MayMove e (got_from q k f e)
got_from_moves [] k f e = tt
got_from_moves (message ∷ rest) k f e = got_moves k (f message) e

may_if : {X : Type 0} (b : Bool) (e : Entry X) (f : Option (Entry X)) → MayMove e f → MayMove e (cond b f None)
may_if true e f h = h
may_if false e f h = tt

pub does_by_moves : {X : Type 0} (room : Room) (from : ℕ → List Message) (to : ℕ → ℕ) (act : Act X) (e : Entry X) → MayMove e (does_by room from to act e)
does_by_moves room from to HasHalted e = tt
does_by_moves room from to (Trips t) e = tt
does_by_moves room from to (Goes x) e = gone_moves x e
does_by_moves room from to (Sends k message x) e = may_if (room.fits (to k)) e (Some (posted k message x e)) (posted_moves k message x e)
does_by_moves room from to (Gets k f) e = got_from_moves (from k) k f e
does_by_moves room from to (Prints text x) e = said_moves text x e

pub does_moves : {X : Type 0} (m : Machine X) (n : ℕ) (w : World X) (r : ℕ) → MayMove (w r) (does m n w r)
unfolding does
does_moves m n w r =
    may_if (ltb r n) (w r) (does_by m.room (λ k. queue w k r) (λ k. length (queue w r k)) (m.act (w r).now) (w r))
    (does_by_moves m.room (λ k. queue w k r) (λ k. length (queue w r k)) (m.act (w r).now) (w r))

pub move_of : {X : Type 0} (m : Machine X) (n : ℕ) (w : World X) (r : ℕ) (e : Entry X) → does m n w r ≡ Some e → Moves (w r) e
move_of m n w r e q = subst (MayMove (w r)) q (does_moves m n w r)

-- each rank has done what it had done, and perhaps more
abbrev pub Below : {X : Type 0} → World X → World X → Type 0
Below w v = (k : ℕ) → Grows (w k) (v k)

pub below_same : {X : Type 0} (w : World X) → Below w w
below_same w k = grows_same (w k)

pub below_trans : {X : Type 0} (w v u : World X) → Below w v → Below v u → Below w u
below_trans w v u p q k = grows_trans (w k) (v k) (u k) (p k) (q k)

pub below_put : {X : Type 0} (w : World X) (r : ℕ) (e : Entry X) → Grows (w r) e → Below w (put w r e)
below_put w r e h k = put_all (Grows (w k)) w r e k (λ q. subst (λ j. Grows (w j) e) (sym q) h) (λ q. grows_same (w k))

-- ---- one lemma on actions

-- a list that has a front is one that has the same front
abbrev StartsLike : List Message → List Message → Type 0
StartsLike [] ys = Unit {0}
StartsLike (x ∷ xs) ys = (rest : List Message) × (ys ≡ x ∷ rest)

starts_like : (j : ℕ) (xs ys : List Message) → IsFront xs ys → StartsLike (drop j xs) (drop j ys)
starts_like j xs ys p = subst (λ l. StartsLike (drop j xs) (drop j l)) (sym p.1) (by j xs p.0)
  where
    by : (j : ℕ) (xs rest : List Message) → StartsLike (drop j xs) (drop j (xs ++ rest))
    by zero [] rest = tt
    by zero (x ∷ xs) rest = (xs ++ rest, refl)
    by (suc j) [] rest = tt
    by (suc j) (x ∷ xs) rest = by j xs rest

-- what is done in the one way is done in the other
abbrev Keeps : {X : Type 0} → Option (Entry X) → Option (Entry X) → Type 0
Keeps None b = Unit {0}
Keeps (Some e) b = b ≡ Some e

keeps_if : {X : Type 0} (p q : Bool) (e : Entry X) → (p ≡ true → q ≡ true) → Keeps (cond p (Some e) None) (cond q (Some e) None)
keeps_if false q e h = tt
keeps_if true q e h = ap (λ b. cond b (Some e) None) (h refl)

got_kept : {X : Type 0} (a b : List Message) (k : ℕ) (f : Message → X) (e : Entry X) → StartsLike a b → Keeps (got_from a k f e) (got_from b k f e)
got_kept [] b k f e h = tt
got_kept (x ∷ xs) b k f e h = ap (λ l. got_from l k f e) h.1

does_by_kept : {X : Type 0} (room : Room) (from from2 : ℕ → List Message) (to to2 : ℕ → ℕ) (act : Act X) (e : Entry X) → ((k : ℕ) → StartsLike (from k) (from2 k)) → ((k : ℕ) → to2 k ≤ to k)
    → Keeps (does_by room from to act e) (does_by room from2 to2 act e)
does_by_kept room from from2 to to2 HasHalted e h less = tt
does_by_kept room from from2 to to2 (Trips t) e h less = tt
does_by_kept room from from2 to to2 (Goes x) e h less = refl
does_by_kept room from from2 to to2 (Sends k message x) e h less = keeps_if (room.fits (to k)) (room.fits (to2 k)) (posted k message x e) (room.fewer (to2 k) (to k) (less k))
does_by_kept room from from2 to to2 (Gets k f) e h less = got_kept (from k) (from2 k) k f e (h k)
does_by_kept room from from2 to to2 (Prints text x) e h less = refl

keeps_both : {X : Type 0} (b : Bool) (x y : Option (Entry X)) → Keeps x y → Keeps (cond b x None) (cond b y None)
keeps_both true x y h = h
keeps_both false x y h = tt

keeps_some : {X : Type 0} (a b : Option (Entry X)) (e : Entry X) → Keeps a b → a ≡ Some e → b ≡ Some e
keeps_some a b e h q = subst (λ o. Keeps o b) q h

entry_kept : {X : Type 0} (m : Machine X) (n : ℕ) (w v : World X) (r : ℕ) (e : Entry X) → e ≡ w r → e ≡ v r → Below w v → Keeps (does m n w r) (does m n v r)
unfolding does
entry_kept m n w v r e p q below =
    let from : (k : ℕ) → StartsLike (queue w k r) (queue v k r) =
    λ k. subst (λ j. StartsLike (queue w k r) (drop j ((v k).sent r))) (ap (λ d. d.took k) (sym p ∙ q)) (starts_like ((w r).took k) ((w k).sent r) ((v k).sent r) ((below k).sent r)) in
    let to : (k : ℕ) → length (queue v r k) ≤ length (queue w r k) =
    λ k.
    let a = length-drop ((w k).took r) ((w r).sent k) in
    let b = length-drop ((v k).took r) ((v r).sent k) in
    let c = (below k).took r in
    let d = ap (λ f. length (f.sent k)) (sym p ∙ q) in
    omega (arith, a, b, c, d) in
    keeps_both (ltb r n) (does_by m.room (λ k. queue w k r) (λ k. length (queue w r k)) (m.act (w r).now) (w r)) (does_by m.room (λ k. queue v k r) (λ k. length (queue v r k)) (m.act (v r).now) (v r))
    (subst (λ d. Keeps (does_by m.room (λ k. queue w k r) (λ k. length (queue w r k)) (m.act (w r).now) (w r)) (does_by m.room (λ k. queue v k r) (λ k. length (queue v r k)) (m.act d.now) d)) (sym p ∙ q)
    (does_by_kept m.room (λ k. queue w k r) (λ k. queue v k r) (λ k. length (queue w r k)) (λ k. length (queue v r k)) (m.act (w r).now) (w r) from to))

-- what a rank may do, it does whatever more the others have done
pub next_kept : {X : Type 0} (m : Machine X) (n : ℕ) (w v : World X) (r : ℕ) (e : Entry X) → v r ≡ w r → Below w v → does m n w r ≡ Some e → does m n v r ≡ Some e
next_kept m n w v r e same below q = keeps_some (does m n w r) (does m n v r) e (entry_kept m n w v r (w r) refl (sym same) below) q
