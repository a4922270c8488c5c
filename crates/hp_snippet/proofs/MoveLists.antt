-- Lists in parts: how many of a list a range keeps, a part found by its length, and items gathered by their places.
use Rattle.std.proofs.Common.{◌≡◌, ◌∙◌, refl, sym, ap, arith, inl, inr, ℕ, zero, suc, ◌+◌, ◌-◌, ◌*◌, ◌<◌, ◌≤◌, List, [], ◌∷◌, ◌++◌, length, take, drop, map, min, max, get_or}
use Rattle.std.specs.Prelude.{flat_map, slice_index, sum}
use Rattle.std.specs.List.{AllByRecursion, range_with_len}
use Rattle.std.proofs.Math.Nat.{mul-sub, mul-le-mul_left}
use Rattle.std.proofs.lemmas.Bool.{cases_lt}
use Rattle.std.proofs.lemmas.List.{length-take, length-drop}
use Rattle.hp_spmd.specs.Store.{kept}
use Rattle.hp_spmd.proofs.LocalCuts.{kept_part_from}
use Rattle.hp_spmd.proofs.MovedLemmas.{sum_first}

-- ---- how many are kept

pub kept_count : {X : Type 0} (a b k : ℕ) (xs : List X) → length (kept a b k xs) ≡ min b (k + length xs) - max a k
kept_count a b k xs =
    let taken = ap length (kept_part_from a b k xs) ∙ length-take (b - max a k) (drop (a - k) xs) in
    let left = length-drop (a - k) xs in
    omega (arith, taken, left)

times_min : (k m n : ℕ) → k * min m n ≡ min (k * m) (k * n)
times_min k m n =
    elim (cases_lt m n) [
      | inl h ↦
          let le : m ≤ n = omega (arith, h) in
          let more = mul-le-mul_left k le in
          let less : min m n ≡ m = omega (arith, h) in
          let product : min (k * m) (k * n) ≡ k * m = omega (arith, more) in
          ap (λ z. k * z) less ∙ sym product
      | inr h ↦
          let more = mul-le-mul_left k h in
          let less : min m n ≡ n = omega (arith, h) in
          let product : min (k * m) (k * n) ≡ k * n = omega (arith, more) in
          ap (λ z. k * z) less ∙ sym product
    ]

times_max : (k m n : ℕ) → k * max m n ≡ max (k * m) (k * n)
times_max k m n =
    elim (cases_lt m n) [
      | inl h ↦
          let le : m ≤ n = omega (arith, h) in
          let more = mul-le-mul_left k le in
          let greater : max m n ≡ n = omega (arith, h) in
          let product : max (k * m) (k * n) ≡ k * n = omega (arith, more) in
          ap (λ z. k * z) greater ∙ sym product
      | inr h ↦
          let more = mul-le-mul_left k h in
          let greater : max m n ≡ m = omega (arith, h) in
          let product : max (k * m) (k * n) ≡ k * m = omega (arith, more) in
          ap (λ z. k * z) greater ∙ sym product
    ]

-- of whole columns from one up to another, with so many rows, those of a range
pub columns_count : {X : Type 0} (rows a b from until : ℕ) (cells : List X) → from ≤ until → length cells ≡ rows * (until - from) → length (kept (rows * a) (rows * b) (rows * from) cells) ≡ rows * (min until b - max from a)
columns_count {X} rows a b from until cells le count =
    let kept_many = kept_count {X = X} (rows * a) (rows * b) (rows * from) cells in
    let parts = mul-sub rows until from in
    let order = mul-le-mul_left rows le in
    let low = times_max rows from a in
    let high = times_min rows until b in
    let whole = mul-sub rows (min until b) (max from a) in
    omega (arith, kept_many, count, parts, order, low, high, whole)

-- the columns of a range that is within a list
pub range_count : {X : Type 0} (rows from until columns : ℕ) (cells : List X) → until ≤ columns → length cells ≡ rows * columns → length (kept (rows * from) (rows * until) 0 cells) ≡ rows * (until - from)
range_count {X} rows from until columns cells within count =
    let kept_many = kept_count {X = X} (rows * from) (rows * until) 0 cells in
    let order = mul-le-mul_left rows within in
    let whole = mul-sub rows until from in
    omega (arith, kept_many, count, order, whole)

-- ---- a part by its length

pub take_front : {X : Type 0} (n : ℕ) (xs ys : List X) → length xs ≡ n → take n (xs ++ ys) ≡ xs
take_front zero [] ys e = refl
take_front zero (x ∷ xs) ys e = absurd (omega (arith, e))
take_front (suc n) [] ys e = absurd (omega (arith, e))
take_front {X} (suc n) (x ∷ xs) ys e = let rest : length xs ≡ n = omega (arith, e) in ap (λ l. x ∷ l) (take_front {X = X} n xs ys rest)

drop_front : {X : Type 0} (n k : ℕ) (xs ys : List X) → length xs ≡ n → drop (n + k) (xs ++ ys) ≡ drop k ys
drop_front {X} zero k [] ys e = let same : 0 + k ≡ k = omega arith in ap (λ n. drop n ys) same
drop_front zero k (x ∷ xs) ys e = absurd (omega (arith, e))
drop_front (suc n) k [] ys e = absurd (omega (arith, e))
drop_front {X} (suc n) k (x ∷ xs) ys e =
    let rest : length xs ≡ n = omega (arith, e) in
    let one : suc n + k ≡ suc (n + k) = omega arith in
    ap (λ m. drop m (x ∷ (xs ++ ys))) one ∙ drop_front {X = X} n k xs ys rest

-- the j-th of some parts, each of which has a known length
pub part_of_parts : {A X : Type 0} (count : A → ℕ) (part : A → List X) (items : List A) (j : ℕ) (d : A) → j < length items → AllByRecursion (λ a. length (part a) ≡ count a) items
    → take (slice_index (map count items) j) (drop (sum (take j (map count items))) (flat_map part items)) ≡ part (get_or items j d)
part_of_parts count part [] j d lt all = absurd (omega (arith, lt))
part_of_parts {A} {X} count part (a ∷ items) zero d lt all = take_front {X = X} (count a) (part a) (flat_map part items) all.0
part_of_parts {A} {X} count part (a ∷ items) (suc j) d lt all =
    let there : j < length items = omega (arith, lt) in
    ap (λ n. take (slice_index (map count items) j) (drop n (part a ++ flat_map part items))) (sum_first (count a) (take j (map count items)))
    ∙ ap (take (slice_index (map count items) j)) (drop_front {X = X} (count a) (sum (take j (map count items))) (part a) (flat_map part items) all.0)
    ∙ part_of_parts {A = A} {X = X} count part items j d there all.1

-- ---- items by their places

places_from : {A X : Type 0} (f : ℕ → List X) (g : A → List X) (d : A) (start : ℕ) (xs : List A) → ((i : ℕ) → i < length xs → f (start + i) ≡ g (get_or xs i d)) → flat_map f (range_with_len start (length xs)) ≡ flat_map g xs
places_from f g d start [] h = refl
places_from {A} {X} f g d start (x ∷ xs) h =
    let some : 0 < length (x ∷ xs) = omega arith in
    let none : start ≡ start + 0 = omega arith in
    ap (λ l. l ++ flat_map f (range_with_len (start + 1) (length xs))) (ap f none ∙ h 0 some)
    ∙ ap (λ l. g x ++ l)
    (places_from {A = A} {X = X} f g d (start + 1) xs
    (λ i lt.
    let one : (start + 1) + i ≡ start + suc i = omega arith in
    let within : suc i < length (x ∷ xs) = omega (arith, lt) in
    ap f one ∙ h (suc i) within))

-- what is gathered by the places of items is gathered by the items
pub by_places : {A X : Type 0} (f : ℕ → List X) (g : A → List X) (d : A) (n : ℕ) (xs : List A) → length xs ≡ n → ((i : ℕ) → i < length xs → f i ≡ g (get_or xs i d)) → flat_map f (range_with_len 0 n) ≡ flat_map g xs
by_places {A} {X} f g d n xs e h =
    ap (λ m. flat_map f (range_with_len 0 m)) (sym e)
    ∙ places_from {A = A} {X = X} f g d 0 xs
    (λ i lt.
    let none : 0 + i ≡ i = omega arith in
    ap f none ∙ h i lt)
