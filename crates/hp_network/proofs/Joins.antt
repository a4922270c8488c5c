-- Turns of two ranks commute, so two runs from one state join; a state in which no rank can move is the end of every run;
-- and what a rank has done is decided by how often it has moved.
use Rattle.std.proofs.Common.{◌≡◌, ◌≢◌, ◌∙◌, refl, sym, subst, ap, arith, ℕ, suc, ◌+◌, ◌≤◌, max, eqb, Bool, true, false, cond, List, [], ◌∷◌, ◌++◌, length, Option, Some, None}
use Rattle.std.proofs.lemmas.Bool.{eqb-true, eqb-false}
use Rattle.hp_network.specs.Network.{Machine}
use Rattle.hp_network.proofs.Worlds.{Entry, World, put, does, move_to, next, after, put_other, put_all, put_comm, Grows, MayMove, does_moves, move_of, Below, below_same, below_trans, below_put, next_kept}

-- ---- runs

move_below : {X : Type 0} (w : World X) (r : ℕ) (o : Option (Entry X)) → MayMove (w r) o → Below w (move_to w r o)
move_below w r None h = below_same w
move_below w r (Some e) h = below_put w r e h.grows

pub below_next : {X : Type 0} (m : Machine X) (n : ℕ) (w : World X) (r : ℕ) → Below w (next m n w r)
unfolding next
below_next m n w r = move_below w r (does m n w r) (does_moves m n w r)

pub below_after : {X : Type 0} (m : Machine X) (n : ℕ) (rs : List ℕ) (w : World X) → Below w (after m n w rs)
unfolding after
below_after m n [] w = below_same w
below_after m n (r ∷ rs) w = below_trans w (next m n w r) (after m n (next m n w r) rs) (below_next m n w r) (below_after m n rs (next m n w r))

move_most : {X : Type 0} (w : World X) (r k : ℕ) (o : Option (Entry X)) → MayMove (w r) o → (move_to w r o k).moves ≤ suc (w k).moves
move_most w r k None h = omega arith
move_most w r k (Some e) h = let one = h.one in put_all (λ z. z.moves ≤ suc (w k).moves) w r e k (λ q. subst (λ j. e.moves ≤ suc (w j).moves) (sym q) (omega (arith, one))) (λ q. omega arith)

next_most : {X : Type 0} (m : Machine X) (n : ℕ) (w : World X) (r k : ℕ) → (next m n w r k).moves ≤ suc (w k).moves
unfolding next
next_most m n w r k = move_most w r k (does m n w r) (does_moves m n w r)

-- a rank moves at most as often as there are turns
pub after_most : {X : Type 0} (m : Machine X) (n : ℕ) (rs : List ℕ) (w : World X) (k : ℕ) → (after m n w rs k).moves ≤ (w k).moves + length rs
unfolding after
after_most m n [] w k = omega arith
after_most m n (r ∷ rs) w k = let a = after_most m n rs (next m n w r) k in let b = next_most m n w r k in omega (arith, a, b)

pub after_more : {X : Type 0} (m : Machine X) (n : ℕ) (rs ss : List ℕ) (w : World X) → after m n w (rs ++ ss) ≡ after m n (after m n w rs) ss
unfolding after
after_more m n [] ss w = refl
after_more m n (r ∷ rs) ss w = after_more m n rs ss (next m n w r)

pub next_none : {X : Type 0} (m : Machine X) (n : ℕ) (w : World X) (r : ℕ) → does m n w r ≡ None → next m n w r ≡ w
unfolding next
next_none m n w r q = ap (move_to w r) q

pub next_some : {X : Type 0} (m : Machine X) (n : ℕ) (w : World X) (r : ℕ) (e : Entry X) → does m n w r ≡ Some e → next m n w r ≡ put w r e
unfolding next
next_some m n w r e q = ap (move_to w r) q

-- some turns lead from the one to the other
pub record Reaches {X : Type 0} (m : Machine X) (n : ℕ) (w v : World X) : Type 0 where
  pub turns : List ℕ
  pub comes : after m n w turns ≡ v

pub reaches_same : {X : Type 0} (m : Machine X) (n : ℕ) (w : World X) → Reaches m n w w
unfolding after
reaches_same m n w = record { turns = []; comes = refl }

pub reaches_trans : {X : Type 0} (m : Machine X) (n : ℕ) (w v u : World X) → Reaches m n w v → Reaches m n v u → Reaches m n w u
reaches_trans m n w v u p q = record { turns = p.turns ++ q.turns; comes = after_more m n p.turns q.turns w ∙ ap (λ z. after m n z q.turns) p.comes ∙ q.comes }

pub reaches_first : {X : Type 0} (m : Machine X) (n : ℕ) (w v : World X) (r : ℕ) → Reaches m n (next m n w r) v → Reaches m n w v
unfolding after
reaches_first m n w v r p = record { turns = r ∷ p.turns; comes = p.comes }

pub reaches_next : {X : Type 0} (m : Machine X) (n : ℕ) (w : World X) (r : ℕ) → Reaches m n w (next m n w r)
reaches_next m n w r = reaches_first m n w (next m n w r) r (reaches_same m n (next m n w r))

pub reaches_below : {X : Type 0} (m : Machine X) (n : ℕ) (w v : World X) → Reaches m n w v → Below w v
reaches_below m n w v p = subst (Below w) p.comes (below_after m n p.turns w)

-- ---- turns of two ranks commute

pub turns_commute : {X : Type 0} (m : Machine X) (n : ℕ) (w : World X) (r s : ℕ) (e f : Entry X) → r ≢ s → does m n w r ≡ Some e → does m n w s ≡ Some f
    → next m n (next m n w r) s ≡ next m n (next m n w s) r
turns_commute m n w r s e f ne p q =
    let wr = put w r e in
    let ws = put w s f in
    let q2 : does m n wr s ≡ Some f = next_kept m n w wr s f (put_other w r s e (λ h. ne (sym h))) (below_put w r e (move_of m n w r e p).grows) q in
    let p2 : does m n ws r ≡ Some e = next_kept m n w ws r e (put_other w s r f ne) (below_put w s f (move_of m n w s f q).grows) p in
    ap (λ z. next m n z s) (next_some m n w r e p)
    ∙ next_some m n wr s f q2
    ∙ put_comm w r s e f ne
    ∙ sym (next_some m n ws r e p2)
    ∙ sym (ap (λ z. next m n z r) (next_some m n w s f q))

-- ---- runs join

-- Both lead to one world, in which each rank has moved as often as in that of the two in which it has moved more.
pub record Joined {X : Type 0} (m : Machine X) (n : ℕ) (a b : World X) : Type 0 where
  pub at : World X
  pub left : Reaches m n a at
  pub right : Reaches m n b at
  pub moves : (k : ℕ) → (at k).moves ≡ max (a k).moves (b k).moves

joined_same : {X : Type 0} (m : Machine X) (n : ℕ) (w : World X) → Joined m n w w
joined_same m n w = record { at = w; left = reaches_same m n w; right = reaches_same m n w; moves = λ k. omega arith }

joined_later : {X : Type 0} (m : Machine X) (n : ℕ) (w v : World X) → Reaches m n w v → Joined m n w v
joined_later m n w v p =
    record { at = v; left = p; right = reaches_same m n v; moves = λ k. let h = (reaches_below m n w v p k).more in omega (arith, h) }

joined_flip : {X : Type 0} (m : Machine X) (n : ℕ) (w v : World X) → Joined m n w v → Joined m n v w
joined_flip m n w v p = record { at = p.at; left = p.right; right = p.left; moves = λ k. let h = p.moves k in omega (arith, h) }

-- of a rank with or without a move that the other world has made
most_if : {X : Type 0} (b : Bool) (e x y : Entry X) (top all : ℕ) → all ≡ max (cond b e x).moves top → x.moves ≤ top → y.moves ≤ x.moves → all ≡ max (cond b e y).moves top
most_if true e x y top all h up low = h
most_if false e x y top all h up low = omega (arith, h, up, low)

-- the join of two worlds, of which the first has not made a move that leads to the second
join_apart : {X : Type 0} (m : Machine X) (n : ℕ) (w : World X) (r s : ℕ) (e f : Entry X) (c : World X) → r ≢ s → does m n w r ≡ Some e → does m n w s ≡ Some f → Reaches m n (next m n w s) c
    → Joined m n (next m n (next m n w s) r) c → Joined m n (next m n w r) c
join_apart m n w r s e f c ne p q there j =
    let both = next m n (next m n w s) r in
    let swap : next m n (next m n w r) s ≡ both = turns_commute m n w r s e f ne p q in
    let first : Reaches m n (next m n w r) both = subst (Reaches m n (next m n w r)) swap (reaches_next m n (next m n w r) s) in
    let ws = put w s f in
    let grown = (move_of m n w s f q).grows in
    let p2 : does m n ws r ≡ Some e = next_kept m n w ws r e (put_other w s r f ne) (below_put w s f grown) p in
    let both_is : both ≡ put ws r e = ap (λ z. next m n z r) (next_some m n w s f q) ∙ next_some m n ws r e p2 in
    let below : Below ws c = subst (λ z. Below z c) (next_some m n w s f q) (reaches_below m n (next m n w s) c there) in
    record {
      at = j.at;
      left = reaches_trans m n (next m n w r) both j.at first j.left;
      right = j.right;
      moves = λ k.
          subst (λ z. (j.at k).moves ≡ max (z k).moves (c k).moves) (sym (next_some m n w r e p))
          (most_if (eqb k r) e (ws k) (w k) (c k).moves (j.at k).moves (subst (λ z. (j.at k).moves ≡ max (z k).moves (c k).moves) both_is (j.moves k)) (below k).more
          (below_put w s f grown k).more);
    }

-- a move and a run from one world join
strip : {X : Type 0} (m : Machine X) (n : ℕ) (ss : List ℕ) (w : World X) (r : ℕ) (e : Entry X) → does m n w r ≡ Some e → Joined m n (next m n w r) (after m n w ss)
unfolding after
strip m n [] w r e p = joined_flip m n w (next m n w r) (joined_later m n w (next m n w r) (reaches_next m n w r))
strip m n (s ∷ ss) w r e p = by (does m n w s) refl (eqb r s) refl (λ u d. strip m n ss u r e d)
  where
    by : (o : Option (Entry _)) → does m n w s ≡ o → (b : Bool) → eqb r s ≡ b → ((u : World _) → does m n u r ≡ Some e → Joined m n (next m n u r) (after m n u ss)) → Joined m n (next m n w r) (after m n (next m n w s) ss)
    by None q b c more = subst (λ u. Joined m n (next m n w r) (after m n u ss)) (sym (next_none m n w s q)) (more w p)
    by (Some f) q true c more =
        subst (λ k. Joined m n (next m n w r) (after m n (next m n w k) ss)) (eqb-true r s c)
        (joined_later m n (next m n w r) (after m n (next m n w r) ss) (record { turns = ss; comes = refl }))
    by (Some f) q false c more =
        let ne : r ≢ s = eqb-false r s c in
        let ws = put w s f in
        let d : does m n ws r ≡ Some e = next_kept m n w ws r e (put_other w s r f ne) (below_put w s f (move_of m n w s f q).grows) p in
        let d2 : does m n (next m n w s) r ≡ Some e = subst (λ u. does m n u r ≡ Some e) (sym (next_some m n w s f q)) d in
        join_apart m n w r s e f (after m n (next m n w s) ss) ne p q (record { turns = ss; comes = refl }) (more (next m n w s) d2)

-- what joins with the second world of a step from the first joins with the first as well, and the counts agree
join_on : {X : Type 0} (m : Machine X) (n : ℕ) (a b c : World X) (one : Joined m n a b) → Joined m n c one.at → Below a c → Joined m n c b
join_on m n a b c one two below =
    record {
      at = two.at;
      left = two.left;
      right = reaches_trans m n b one.at two.at one.right two.right;
      moves = λ k. let h = two.moves k in let g = one.moves k in let l = (below k).more in omega (arith, h, g, l);
    }

-- two runs from one world join
join_lists : {X : Type 0} (m : Machine X) (n : ℕ) (rs : List ℕ) (w : World X) (ss : List ℕ) → Joined m n (after m n w rs) (after m n w ss)
unfolding after
join_lists m n [] w ss = joined_later m n w (after m n w ss) (record { turns = ss; comes = refl })
join_lists m n (r ∷ rs) w ss = by (does m n w r) refl (λ u ts. join_lists m n rs u ts)
  where
    by : (o : Option (Entry _)) → does m n w r ≡ o → ((u : World _) (ts : List ℕ) → Joined m n (after m n u rs) (after m n u ts)) → Joined m n (after m n (next m n w r) rs) (after m n w ss)
    by None q more = subst (λ u. Joined m n (after m n u rs) (after m n w ss)) (sym (next_none m n w r q)) (more w ss)
    by (Some e) q more =
        let one = strip m n ss w r e q in
        let two = subst (λ z. Joined m n (after m n (next m n w r) rs) z) one.left.comes (more (next m n w r) one.left.turns) in
        join_on m n (next m n w r) (after m n w ss) (after m n (next m n w r) rs) one two (below_after m n rs (next m n w r))

pub join : {X : Type 0} (m : Machine X) (n : ℕ) (w a b : World X) → Reaches m n w a → Reaches m n w b → Joined m n a b
join m n w a b p q = subst (λ z. Joined m n z b) p.comes (subst (λ z. Joined m n (after m n w p.turns) z) q.comes (join_lists m n p.turns w q.turns))

-- ---- what follows

-- how often a rank has moved decides what it has done
pub one_past : {X : Type 0} (m : Machine X) (n : ℕ) (w a b : World X) (r : ℕ) → Reaches m n w a → Reaches m n w b → (a r).moves ≤ (b r).moves → Grows (a r) (b r)
one_past m n w a b r p q less =
    let j = join m n w a b p q in
    let up = reaches_below m n a j.at j.left r in
    let top = reaches_below m n b j.at j.right r in
    let h = j.moves r in
    subst (Grows (a r)) (top.same (omega (arith, h, less))) up

pub one_entry : {X : Type 0} (m : Machine X) (n : ℕ) (w a b : World X) (r : ℕ) → Reaches m n w a → Reaches m n w b → (a r).moves ≡ (b r).moves → b r ≡ a r
one_entry m n w a b r p q same = (one_past m n w a b r p q (omega (arith, same))).same (omega (arith, same))

-- no rank can move
abbrev pub IsQuiet : {X : Type 0} → Machine X → ℕ → World X → Type 0
IsQuiet m n w = (r : ℕ) → does m n w r ≡ None

pub quiet_stays : {X : Type 0} (m : Machine X) (n : ℕ) (w : World X) → IsQuiet m n w → (rs : List ℕ) → after m n w rs ≡ w
unfolding after
quiet_stays m n w h [] = refl
quiet_stays m n w h (r ∷ rs) = ap (λ z. after m n z rs) (next_none m n w r (h r)) ∙ quiet_stays m n w h rs

-- a world in which no rank can move is the end of every run
pub quiet_is_end : {X : Type 0} (m : Machine X) (n : ℕ) (w a b : World X) → Reaches m n w a → Reaches m n w b → IsQuiet m n b → Reaches m n a b
quiet_is_end m n w a b p q h =
    let j = join m n w a b p q in
    let same : j.at ≡ b = sym j.right.comes ∙ quiet_stays m n b h j.right.turns in
    subst (Reaches m n a) same j.left

-- and there is one such world only
pub one_end : {X : Type 0} (m : Machine X) (n : ℕ) (w a b : World X) → Reaches m n w a → Reaches m n w b → IsQuiet m n a → IsQuiet m n b → a ≡ b
one_end m n w a b p q h g =
    let on = quiet_is_end m n w a b p q g in
    sym (quiet_stays m n a h on.turns) ∙ on.comes

-- a rank that cannot move whatever the others do is where it was in every later world
pub blocked_stays : {X : Type 0} (m : Machine X) (n : ℕ) (w : World X) (r : ℕ) → ((v : World X) → v r ≡ w r → does m n v r ≡ None) → (rs : List ℕ) → (after m n w rs) r ≡ w r
unfolding after
blocked_stays m n w r h [] = refl
blocked_stays m n w r h (s ∷ rs) = by (does m n w s) refl (λ u e. blocked_stays m n u r (λ v g. h v (g ∙ e)) rs ∙ e)
  where
    by : (o : Option (Entry _)) → does m n w s ≡ o → ((u : World _) → u r ≡ w r → (after m n u rs) r ≡ w r) → (after m n (next m n w s) rs) r ≡ w r
    by None q more = more (next m n w s) (ap (λ z. z r) (next_none m n w s q))
    by (Some e) q more =
        more (next m n w s) (ap (λ z. z r) (next_some m n w s e q) ∙ put_all (λ z. z ≡ w r) w s e r (λ c. absurd (differ (sym (h w refl) ∙ ap (does m n w) c ∙ q))) (λ c. refl))
      where
        differ : None ≡ Some e → ⊥
        differ p = cc
