-- Under turns in rounds each rank goes on along a course by a move in each round, so that the course is over after as many rounds
-- as it costs a rank moves.
use Rattle.std.proofs.Common.{◌≡◌, ◌∙◌, refl, sym, subst, ap, arith, ℕ, zero, suc, ◌+◌, ◌<◌, ◌≤◌, min, eqb, ltb, ltb-true, ltb-false, Bool, true, false, List, [], ◌∷◌, ◌++◌, append_assoc, Some, ◌⊎◌, inl, inr}
use Rattle.std.proofs.lemmas.Bool.{eqb-true, eqb-false}
use Rattle.std.specs.List.{range_with_len}
use Rattle.hp_network.specs.Network.{Machine, rounds}
use Rattle.hp_network.proofs.Worlds.{Entry, World, does, next, after, put_here, Grows, move_of, Below, below_trans}
use Rattle.hp_network.proofs.Joins.{Reaches, reaches_same, reaches_trans, reaches_next, below_next, below_after, after_more, next_some, one_past}
use Rattle.hp_network.proofs.Alone.{Stage, stage_reaches, stage_moves, Course, cost_of, alone_count}

abbrev pub IsIn : ℕ → List ℕ → Type 0
IsIn r [] = ⊥
IsIn r (s ∷ ss) = (s ≡ r) ⊎ IsIn r ss

pub in_range : (k a r : ℕ) → a ≤ r → r < a + k → IsIn r (range_with_len a k)
in_range zero a r low high = absurd (omega (arith, low, high))
in_range (suc k) a r low high = by (eqb a r) refl (λ low2. in_range k (a + 1) r low2 (omega (arith, high)))
  where
    by : (b : Bool) → eqb a r ≡ b → (a + 1 ≤ r → IsIn r (range_with_len (a + 1) k)) → IsIn r (range_with_len a (suc k))
    by true q more = inl (eqb-true a r q)
    by false q more = let ne = eqb-false a r q in inr (more (omega (arith, ne, low)))

turn_moves : {X : Type 0} (m : Machine X) (n : ℕ) (x : World X) (r goal : ℕ) → ((x r).moves < goal → (f : Entry X) × (does m n x r ≡ Some f)) → min (suc (x r).moves) goal ≤ (next m n x r r).moves
turn_moves m n x r goal may = by (ltb (x r).moves goal) refl
  where
    by : (b : Bool) → ltb (x r).moves goal ≡ b → min (suc (x r).moves) goal ≤ (next m n x r r).moves
    by true q =
        let f = may (ltb-true (x r).moves goal q) in
        let here = ap (λ (z : World _). (z r).moves) (next_some m n x r f.0 f.1) in
        let there = ap (λ (z : Entry _). z.moves) (put_here x r f.0) in
        let one = (move_of m n x r f.0 f.1).one in
        omega (arith, here, there, one)
    by false q = let h = ltb-false (x r).moves goal q in let g = (below_next m n x r r).more in omega (arith, h, g)

-- a list in which a rank has a turn
list_moves : {X : Type 0} (m : Machine X) (n r goal : ℕ) (rs : List ℕ) (x : World X) → ((y : World X) → Reaches m n x y → (y r).moves < goal → (f : Entry X) × (does m n y r ≡ Some f)) → IsIn r rs → min (suc (x r).moves) goal ≤ (after m n x rs r).moves
unfolding after
list_moves m n r goal [] x may i = absurd i
list_moves m n r goal (s ∷ ss) x may (inl e) =
    subst (λ k. min (suc (x r).moves) goal ≤ (after m n (next m n x k) ss r).moves) (sym e)
    (let one = turn_moves m n x r goal (may x (reaches_same m n x)) in let later = (below_after m n ss (next m n x r) r).more in omega (arith, one, later))
list_moves m n r goal (s ∷ ss) x may (inr i) =
    let rest = list_moves m n r goal ss (next m n x s) (λ y at. may y (reaches_trans m n x (next m n x s) y (reaches_next m n x s) at)) i in
    let low = (below_next m n x s r).more in
    omega (arith, rest, low)

rounds_moves : {X : Type 0} (m : Machine X) (n r goal : ℕ) → r < n → (j : ℕ) (x : World X) → ((y : World X) → Reaches m n x y → (y r).moves < goal → (f : Entry X) × (does m n y r ≡ Some f)) → min ((x r).moves + j) goal ≤ (after m n x (rounds n j) r).moves
unfolding after
rounds_moves m n r goal lt zero x may = omega arith
rounds_moves m n r goal lt (suc j) x may =
    let y = after m n x (range_with_len 0 n) in
    let one = list_moves m n r goal (range_with_len 0 n) x may (in_range n 0 r (omega arith) (omega (arith, lt))) in
    let rest = rounds_moves m n r goal lt j y (λ z at. may z (reaches_trans m n x y z (record { turns = range_with_len 0 n; comes = refl }) at)) in
    subst (λ z. min ((x r).moves + suc j) goal ≤ (z r).moves) (sym (after_more m n (range_with_len 0 n) (rounds n j) x)) (omega (arith, one, rest))

pub rounds_add : (n a b : ℕ) → rounds n (a + b) ≡ rounds n a ++ rounds n b
rounds_add n zero b = let e : zero + b ≡ b = omega arith in ap (rounds n) e
rounds_add n (suc a) b =
    let e : suc a + b ≡ suc (a + b) = omega arith in
    ap (rounds n) e ∙ ap (λ l. range_with_len 0 n ++ l) (rounds_add n a b) ∙ sym (append_assoc (range_with_len 0 n) (rounds n a) (rounds n b))

stage_rounds : {X : Type 0} (m : Machine X) (n : ℕ) (P : X → Type 0) (o w v x : World X) (s : Stage m n P w v) → Reaches m n o w → Reaches m n o x → Below w x → Below v (after m n x (rounds n s.most))
stage_rounds {X = X} m n P o w v x s at there below k = by (ltb k n) refl
  where
    y : World X
    y = after m n x (rounds n s.most)

    on : Reaches m n x y
    on = record { turns = rounds n s.most; comes = refl }

    by : (b : Bool) → ltb k n ≡ b → Grows (v k) (y k)
    by true q =
        let lt = ltb-true k n q in
        let g = s.goes k lt in
        let count = alone_count m n w k P g.cost (w k) (v k) g.alone in
        let within = g.within in
        let low = (below k).more in
        let made = rounds_moves m n k (v k).moves lt s.most x (λ z z_at. stage_moves m n P o w v z k lt s at (reaches_trans m n o x z there z_at) (below_trans w x z below (λ j. subst (λ (u : World _). Grows (x j) (u j)) z_at.comes (below_after m n z_at.turns x j)))) in
        one_past m n o v y k (reaches_trans m n o w v at (stage_reaches m n P w v s)) (reaches_trans m n o x y there on) (omega (arith, count, within, low, made))
    by false q =
        let le : n ≤ k = let h = ltb-false k n q in omega (arith, h) in
        subst (λ z. Grows z (y k)) (sym (s.rest k le)) (below_trans w x y below (below_after m n (rounds n s.most) x) k)

-- a course is over after as many rounds as it costs a rank moves
pub course_rounds : {X : Type 0} (m : Machine X) (n : ℕ) (P : X → Type 0) (o : World X) (k : ℕ) (w v x : World X) (c : Course m n P k w v) → Reaches m n o w → Reaches m n o x → Below w x → Below v (after m n x (rounds n (cost_of m n P k w v c)))
unfolding after
course_rounds m n P o zero w v x c at there below = subst (λ z. Below z x) c below
course_rounds m n P o (suc k) w v x c at there below =
    let y = after m n x (rounds n c.1.most) in
    let first = stage_rounds m n P o w c.0 x c.1 at there below in
    let rest = course_rounds m n P o k c.0 v y c.2 (reaches_trans m n o w c.0 at (stage_reaches m n P w c.0 c.1)) (reaches_trans m n o x y there (record { turns = rounds n c.1.most; comes = refl })) first in
    let all = cost_of m n P k c.0 v c.2 in
    subst (Below v) (sym (ap (after m n x) (rounds_add n c.1.most all) ∙ after_more m n (rounds n c.1.most) (rounds n all) x)) rest
