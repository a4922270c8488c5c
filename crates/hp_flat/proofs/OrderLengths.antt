-- An order of the rows of a join or an aggregate is as long as the plain one at most.
use Rattle.std.proofs.Common.{◌≡◌, ℕ, ◌≤◌, ◌==◌, nat_le, Bool, true, false, not, ◌&&◌, ◌||◌, cond, List, [], ◌∷◌, length, Option, Some, None, refl, ap₂, ◌∙◌, arith}
use Rattle.std.proofs.lemmas.Bool.{eqb-true}
use Rattle.std.proofs.lemmas.List.Filters.{length-filter_both}
use Rattle.std.proofs.lemmas.List.Sums.{length-filter}
use Rattle.std.specs.Prelude.{filter, count_by}
use Rattle.std.specs.List.{list_all, list_any}
use Rattle.hp_word.specs.declared.order.Order.{Order}
use Rattle.hp_word.specs.declared.order.RowPlace.{RowPlace}
use Rattle.hp_word.specs.RowRules.{is_place, times_in, is_order, taken, taken_of, order_named, order_taken}
use Rattle.hp_script.proofs.TestLemmas.{and_left, and_right, true_le, le_true, not_true}

-- ---- tests of lists

all_weaker : {X : Type 0} (p q : X → Bool) → ((x : X) → p x ≡ true → q x ≡ true) → (xs : List X) → list_all p xs ≡ true → list_all q xs ≡ true
all_weaker p q weaker [] e = refl
all_weaker p q weaker (x ∷ xs) e = ap₂ (λ (a b : Bool). a && b) (weaker x (and_left (p x) (list_all p xs) e)) (all_weaker p q weaker xs (and_right (p x) (list_all p xs) e))

kept_one : {X : Type 0} (q f : X → Bool) (x : X) (xs : List X) → (f x ≡ true → q x ≡ true) → list_all q (filter f xs) ≡ true → (b : Bool) → f x ≡ b → list_all q (cond b (x ∷ filter f xs) (filter f xs)) ≡ true
kept_one q f x xs kept rest true is = ap₂ (λ (a b : Bool). a && b) (kept is) rest
kept_one q f x xs kept rest false is = rest

-- of the items that a filter keeps
all_kept : {X : Type 0} (p q f : X → Bool) → ((x : X) → p x ≡ true → f x ≡ true → q x ≡ true) → (xs : List X) → list_all p xs ≡ true → list_all q (filter f xs) ≡ true
all_kept p q f kept [] e = refl
all_kept p q f kept (x ∷ xs) e = kept_one q f x xs (kept x (and_left (p x) (list_all p xs) e)) (all_kept p q f kept xs (and_right (p x) (list_all p xs) e)) (f x) refl

both_grow : {X : Type 0} (b : Bool) (x : X) (us ws : List X) → length us ≤ length ws → length (cond b (x ∷ us) us) ≤ length (cond b (x ∷ ws) ws)
both_grow true x us ws few = omega (arith, few)
both_grow false x us ws few = few

one_grows : {X : Type 0} (b : Bool) (x : X) (us ws : List X) → length us ≤ length ws → length us ≤ length (cond b (x ∷ ws) ws)
one_grows true x us ws few = omega (arith, few)
one_grows false x us ws few = few

kept_step : {X : Type 0} (p f : X → Bool) (x : X) (xs : List X) → length (filter p (filter f xs)) ≤ length (filter p xs) → (b : Bool) → length (filter p (cond b (x ∷ filter f xs) (filter f xs))) ≤ length (filter p (x ∷ xs))
kept_step p f x xs few true = both_grow (p x) x (filter p (filter f xs)) (filter p xs) few
kept_step p f x xs few false = one_grows (p x) x (filter p (filter f xs)) (filter p xs) few

kept_fewer : {X : Type 0} (p f : X → Bool) (xs : List X) → length (filter p (filter f xs)) ≤ length (filter p xs)
kept_fewer p f [] = omega arith
kept_fewer p f (x ∷ xs) = kept_step p f x xs (kept_fewer p f xs) (f x)

fewer_kept : {X : Type 0} (p f : X → Bool) (xs : List X) → count_by p (filter f xs) ≤ count_by p xs
fewer_kept p f xs = omega (arith, kept_fewer p f xs, length-filter p (filter f xs), length-filter p xs)

or_rest : (a b : Bool) → a ≡ false → (a || b) ≡ true → b ≡ true
or_rest false b e f = f
or_rest true b e f = absurd cc

-- ---- places

both_turned : (a b c d : ℕ) → ((a == b) && (c == d)) ≡ ((b == a) && (d == c))
both_turned a b c d = ap₂ (λ (x y : Bool). x && y) (turned a b) (turned c d)
  where
    turned : (a b : ℕ) → (a == b) ≡ (b == a)
    turned a b = grind arith

place_turned : (p q : RowPlace) → is_place p q ≡ is_place q p
place_turned p q = both_turned p.left q.left p.right q.right

abbrev others : RowPlace → List RowPlace → List RowPlace
others p places = filter (λ q. not (is_place p q)) places

no_more : (plain places : List RowPlace) → list_all (λ p. nat_le (times_in places p) 1) plain ≡ true → list_all (λ p. list_any (is_place p) plain) places ≡ true → length places ≤ length plain
no_more [] [] once found = omega arith
no_more [] (p ∷ places) once found = absurd cc
no_more (p ∷ plain) places once found =
    let single : times_in places p ≤ 1 = true_le (times_in places p) 1 (and_left (nat_le (times_in places p) 1) (list_all (λ q. nat_le (times_in places q) 1) plain) once) in
    let rest = no_more plain (others p places)
    (all_weaker (λ q. nat_le (times_in places q) 1) (λ q. nat_le (times_in (others p places) q) 1)
    (λ q e. let few : times_in places q ≤ 1 = true_le (times_in places q) 1 e in let kept : times_in (others p places) q ≤ times_in places q = fewer_kept (is_place q) (λ q. not (is_place p q)) places in le_true (times_in (others p places) q) 1 (omega (arith, few, kept))) plain
    (and_right (nat_le (times_in places p) 1) (list_all (λ q. nat_le (times_in places q) 1) plain) once))
    (all_kept (λ q. list_any (is_place q) (p ∷ plain)) (λ q. list_any (is_place q) plain) (λ q. not (is_place p q))
    (λ q e other. or_rest (is_place q p) (list_any (is_place q) plain) (place_turned q p ∙ not_true (is_place p q) other) e) places found) in
    omega (arith, single, rest, length-filter_both (is_place p) (λ q. not (is_place p q)) (λ q. refl) places, length-filter (is_place p) places)

order_fits : (plain places : List RowPlace) → is_order plain places ≡ true → length places ≤ length plain
unfolding is_order
order_fits plain places e =
    let once : list_all (λ p. times_in places p == 1) plain ≡ true = and_left (list_all (λ p. times_in places p == 1) plain) (list_all (λ p. list_any (is_place p) plain) places) e in
    let found : list_all (λ p. list_any (is_place p) plain) places ≡ true = and_right (list_all (λ p. times_in places p == 1) plain) (list_all (λ p. list_any (is_place p) plain) places) e in
    no_more plain places (all_weaker (λ p. times_in places p == 1) (λ p. nat_le (times_in places p) 1) (λ p same. let one = eqb-true (times_in places p) 1 same in le_true (times_in places p) 1 (omega (arith, one))) plain once) found

-- the order that a join or an aggregate takes
pub order_few : (number : ℕ) (orders : List Order) (plain : List RowPlace) → length (order_taken number orders plain).places ≤ length plain
unfolding order_taken
order_few number orders plain = by (order_named number orders)
  where
    by : (found : Option Order) → length (taken_of plain found).places ≤ length plain
    by None = omega arith
    by (Some order) = if_order (is_order plain order.places) refl
      where
        if_order : (b : Bool) → is_order plain order.places ≡ b → length (cond b (taken order.places false) (taken plain true)).places ≤ length plain
        if_order true is = order_fits plain order.places is
        if_order false is = omega arith
