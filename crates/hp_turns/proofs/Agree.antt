-- Ranks whose logs are those of others, or these and orders of greater numbers, keep the same orders up to what the others have
-- executed.
use Rattle.std.proofs.Common.{◌≡◌, ◌∙◌, refl, sym, ap, arith, ℕ, suc, ◌<◌, ◌≤◌, List, [], ◌∷◌, ◌++◌, append_assoc, append-nil, length, map, get_or, eqb, ltb, cond, true, false, Bool, Option, Some, None}
use Rattle.std.specs.Prelude.{flat_map}
use Rattle.std.specs.List.{All}
use Rattle.std.proofs.lemmas.Bool.{eqb-true, ne_eqb}
use Rattle.hp_word.specs.declared.order.Order.{Order}
use Rattle.hp_word.specs.declared.order.RowPlace.{RowPlace}
use Rattle.hp_word.specs.RowRules.{order_named, order_taken, taken_of}
use Rattle.hp_spmd.specs.declared.store.Store.{Store}
use Rattle.hp_turns.specs.Apart.{LogGrows, HaveExecuted, OrdersAgree}
use Rattle.hp_turns.specs.Turns.{kept_orders, numbers_of, places_for, with_number}

-- ---- an order by its number

abbrev order_of : (ℕ → List RowPlace) → ℕ → Order
order_of g k = record { number = k; places = g k }

-- whether an order has this number
has : ℕ → List Order → Bool
has k [] = false
has k (o ∷ os) = cond (eqb o.number k) true (has k os)

same_if : {A : Type 0} (b : Bool) (x y rest : A) → (b ≡ true → x ≡ y) → cond b x rest ≡ cond b y rest
same_if true x y rest h = h refl
same_if false x y rest h = refl

find_with : (k j : ℕ) (g : ℕ → List RowPlace) (ns : List ℕ) → order_named k (map (order_of g) (with_number j ns)) ≡ cond (eqb j k) (Some (order_of g k)) (order_named k (map (order_of g) ns))
unfolding order_named
find_with k j g [] = same_if (eqb j k) (Some (order_of g j)) (Some (order_of g k)) None (λ e. ap (λ i. Some (order_of g i)) (eqb-true j k e))
find_with k j g (n ∷ ns) = by (eqb j n) refl (ltb j n) (find_with k j g ns)
  where
    first : (i : ℕ) (rest : Option Order) → cond (eqb i k) (Some (order_of g i)) rest ≡ cond (eqb i k) (Some (order_of g k)) rest
    first i rest = same_if (eqb i k) (Some (order_of g i)) (Some (order_of g k)) rest (λ e. ap (λ l. Some (order_of g l)) (eqb-true i k e))

    twice : (b : Bool) (x rest : Option Order) → cond b x rest ≡ cond b x (cond b x rest)
    twice true x rest = refl
    twice false x rest = refl

    swap : (a b : Bool) (x rest : Option Order) → cond a x (cond b x rest) ≡ cond b x (cond a x rest)
    swap true true x rest = refl
    swap true false x rest = refl
    swap false true x rest = refl
    swap false false x rest = refl

    old : Option Order
    old = order_named k (map (order_of g) ns)

    by : (b : Bool) → eqb j n ≡ b → (c : Bool) → order_named k (map (order_of g) (with_number j ns)) ≡ cond (eqb j k) (Some (order_of g k)) old
        → order_named k (map (order_of g) (cond b (n ∷ ns) (cond c (j ∷ n ∷ ns) (n ∷ with_number j ns)))) ≡ cond (eqb j k) (Some (order_of g k)) (order_named k (map (order_of g) (n ∷ ns)))
    by true e c more =
        first n old ∙ twice (eqb n k) (Some (order_of g k)) old ∙ ap (λ i. cond (eqb i k) (Some (order_of g k)) (cond (eqb n k) (Some (order_of g k)) old)) (sym (eqb-true j n e))
        ∙ ap (cond (eqb j k) (Some (order_of g k))) (sym (first n old))
    by false e true more = first j (order_named k (map (order_of g) (n ∷ ns)))
    by false e false more =
        ap (cond (eqb n k) (Some (order_of g n))) more ∙ first n (cond (eqb j k) (Some (order_of g k)) old) ∙ swap (eqb n k) (eqb j k) (Some (order_of g k)) old
        ∙ ap (cond (eqb j k) (Some (order_of g k))) (sym (first n old))

named_is : (k : ℕ) (g : ℕ → List RowPlace) (os : List Order) → order_named k (map (order_of g) (numbers_of os)) ≡ cond (has k os) (Some (order_of g k)) None
unfolding order_named has
named_is k g [] = refl
named_is k g (o ∷ os) =
    find_with k o.number g (numbers_of os) ∙ ap (cond (eqb o.number k) (Some (order_of g k))) (named_is k g os) ∙ joined (eqb o.number k) (has k os) (Some (order_of g k))
  where
    joined : (a b : Bool) (x : Option Order) → cond a x (cond b x None) ≡ cond (cond a true b) x None
    joined true b x = refl
    joined false b x = refl

-- ---- lists with the same orders of a number

record SameAt (k : ℕ) (a b : List Order) : Type 0 where
  has_is : has k a ≡ has k b
  places_are : places_for k a ≡ places_for k b

has_append : (k : ℕ) (a b : List Order) → has k (a ++ b) ≡ cond (has k a) true (has k b)
unfolding has
has_append k [] b = refl
has_append k (o ∷ a) b = by (eqb o.number k) (has_append k a b)
  where
    by : (c : Bool) → has k (a ++ b) ≡ cond (has k a) true (has k b) → cond c true (has k (a ++ b)) ≡ cond (cond c true (has k a)) true (has k b)
    by true h = refl
    by false h = h

places_append : (k : ℕ) (a b : List Order) → places_for k (a ++ b) ≡ places_for k a ++ places_for k b
places_append k [] b = refl
places_append k (o ∷ a) b =
    let here : List RowPlace = cond (eqb o.number k) o.places [] in
    ap (λ l. here ++ l) (places_append k a b) ∙ sym (append_assoc here (places_for k a) (places_for k b))

same_append : (k : ℕ) (a b c d : List Order) → SameAt k a b → SameAt k c d → SameAt k (a ++ c) (b ++ d)
same_append k a b c d p q =
    record {
      has_is = has_append k a c ∙ ap (λ h. cond h true (has k c)) p.has_is ∙ ap (cond (has k b) true) q.has_is ∙ sym (has_append k b d);
      places_are = places_append k a c ∙ ap (λ l. l ++ places_for k c) p.places_are ∙ ap (λ l. places_for k b ++ l) q.places_are ∙ sym (places_append k b d);
    }

-- orders of other numbers
later_none : (k : ℕ) (os : List Order) → All (λ o. k < o.number) os → SameAt k os []
unfolding has
later_none k [] all = record { has_is = refl; places_are = refl }
later_none k (o ∷ os) all =
    let lt = all 0 o (omega arith) in
    let rest = later_none k os (λ i d l. all (suc i) d (omega (arith, l))) in
    let no : eqb o.number k ≡ false = ne_eqb o.number k (λ e. omega (arith, e, lt)) in
    record {
      has_is = ap (λ b. cond b true (has k os)) no ∙ rest.has_is;
      places_are = ap (λ b. cond b o.places [] ++ places_for k os) no ∙ rest.places_are;
    }

grows_same : (k : ℕ) (x y : Store) → LogGrows x y → k ≤ x.executed → SameAt k y.log.list x.log.list
grows_same k x y g le =
    let none = later_none k g.rest (λ i d l. let h = g.later i d l in omega (arith, h, le)) in
    let both = same_append k x.log.list x.log.list g.rest [] (record { has_is = refl; places_are = refl }) none in
    record {
      has_is = ap (has k) g.log ∙ both.has_is ∙ ap (has k) (append-nil x.log.list);
      places_are = ap (places_for k) g.log ∙ both.places_are ∙ ap (places_for k) (append-nil x.log.list);
    }

logged_same : (k : ℕ) (xs ys : List Store) → length ys ≡ length xs → ((r : ℕ) (d : Store) → r < length xs → LogGrows (get_or xs r d) (get_or ys r d)) → HaveExecuted k xs → SameAt k (flat_map (λ x. x.log.list) ys) (flat_map (λ x. x.log.list) xs)
logged_same k [] [] e grows most = record { has_is = refl; places_are = refl }
logged_same k [] (y ∷ ys) e grows most = absurd (omega (arith, e))
logged_same k (x ∷ xs) [] e grows most = absurd (omega (arith, e))
logged_same k (x ∷ xs) (y ∷ ys) e grows most =
    same_append k y.log.list x.log.list (flat_map (λ z. z.log.list) ys) (flat_map (λ z. z.log.list) xs) (grows_same k x y (grows 0 x (omega arith)) (most 0 x (omega arith)))
    (logged_same k xs ys (omega (arith, e)) (λ r d l. grows (suc r) d (omega (arith, l))) (λ r d l. most (suc r) d (omega (arith, l))))

-- ---- kept orders

kept_named : (k : ℕ) (xs : List Store) → order_named k (kept_orders xs).list ≡ cond (has k (flat_map (λ x. x.log.list) xs)) (Some (order_of (λ i. places_for i (flat_map (λ x. x.log.list) xs)) k)) None
unfolding kept_orders
kept_named k xs = let logged = flat_map (λ x. x.log.list) xs in named_is k (λ i. places_for i logged) logged

pub orders_agree : (n : ℕ) (xs ys : List Store) → length xs ≡ n → length ys ≡ n → ((r : ℕ) (d : Store) → r < n → LogGrows (get_or xs r d) (get_or ys r d)) → (last : ℕ) → HaveExecuted last xs → OrdersAgree last xs ys
unfolding order_taken
orders_agree n xs ys count count_apart grows last most k some le plain =
    let same = logged_same k xs ys (count_apart ∙ sym count) (λ r d l. grows r d (omega (arith, l, count))) (λ r d l. let h = most r d l in omega (arith, h, le)) in
    let a = flat_map (λ (x : Store). x.log.list) xs in
    let b = flat_map (λ (x : Store). x.log.list) ys in
    ap (taken_of plain)
    (kept_named k xs ∙ ap (λ h. cond h (Some (order_of (λ i. places_for i a) k)) None) (sym same.has_is)
    ∙ ap (λ (l : List RowPlace). cond (has k b) (Some (record { number = k; places = l })) None) (sym same.places_are)
    ∙ sym (kept_named k ys))
