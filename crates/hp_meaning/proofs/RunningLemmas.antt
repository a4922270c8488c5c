-- Sums of words one after the other, wrapped on the way.
use Rattle.std.proofs.Common.{◌≡◌, ℕ, ℤ, pos, ◌+ℤ◌, ◌*ℤ◌, ◌+◌, ◌<◌, ◌≤◌, List, [], ◌∷◌, ◌++◌, map, length, take, get_or, w64, refl, ap, sym, ◌∙◌, arith}
use Rattle.std.specs.Prelude.{zip}
use Rattle.std.proofs.lemmas.Int.{ints, int_wrap-add_left, int_wrap-add_right}
use Rattle.std.proofs.lemmas.List.{take_more, take_all}
use Rattle.std.proofs.lemmas.Slice.Zip.{get_or-zip, length-zip}
use Rattle.hp_word.specs.Folds.{sum_z}
use Rattle.hp_word.specs.ListRules.{sums_after}
use Rattle.hp_word.specs.MatrixRules.{dot_product}
use Rattle.hp_word.specs.Words.{wrap}
use Rattle.hp_word.proofs.FoldLemmas.{sum_z_append}

zero_right : (z : ℤ) → z +ℤ pos 0 ≡ z
zero_right z = omega (arith, ints)

zero_left : (z : ℤ) → pos 0 +ℤ z ≡ z
zero_left z = omega (arith, ints)

regrouped : (a b c d : ℤ) → ((a +ℤ b) +ℤ c) +ℤ d ≡ (a +ℤ (b +ℤ c)) +ℤ d
regrouped a b c d = omega (arith, ints)

-- the sum of one more
sum_more : (xs : List ℤ) (x : ℤ) → sum_z (xs ++ x ∷ []) ≡ sum_z xs +ℤ x
sum_more xs x = sum_z_append xs (x ∷ []) ∙ ap (λ z. sum_z xs +ℤ z) (zero_right x)

-- a wrapped sum goes on
pub wrapped_more : (total : ℤ) (xs : List ℤ) (x : ℤ) → total ≡ wrap (sum_z xs) → wrap (total +ℤ x) ≡ wrap (sum_z (xs ++ x ∷ []))
wrapped_more total xs x h = ap (λ t. wrap (t +ℤ x)) h ∙ int_wrap-add_left w64 (sum_z xs) x ∙ ap wrap (sym (sum_more xs x))

running_more : (before : ℤ) (xs : List ℤ) (x : ℤ) → sums_after before (xs ++ x ∷ []) ≡ sums_after before xs ++ wrap ((before +ℤ sum_z xs) +ℤ x) ∷ []
unfolding sums_after
running_more before [] x = ap (λ z. wrap (z +ℤ x) ∷ []) (sym (zero_right before))
running_more before (y ∷ xs) x =
    ap (λ l. wrap (before +ℤ y) ∷ l) (running_more (before +ℤ y) xs x
    ∙ ap (λ z. sums_after (before +ℤ y) xs ++ wrap z ∷ []) (regrouped before y (sum_z xs) x))

-- one more sum, and one more word in the total
running_step : (xs : List ℤ) (k : ℕ) (total : ℤ) → k < length xs → total ≡ wrap (sum_z (take k xs))
    → sums_after (pos 0) (take (k + 1) xs) ≡ sums_after (pos 0) (take k xs) ++ wrap (total +ℤ get_or xs k (pos 0)) ∷ []
running_step xs k total lt h =
    let x = get_or xs k (pos 0) in
    let sum = sum_z (take k xs) in
    let same : wrap ((pos 0 +ℤ sum) +ℤ x) ≡ wrap (total +ℤ x) =
    ap (λ z. wrap (z +ℤ x)) (zero_left sum) ∙ sym (int_wrap-add_left w64 sum x) ∙ ap (λ t. wrap (t +ℤ x)) (sym h) in
    ap (sums_after (pos 0)) (take_more xs k (pos 0) lt) ∙ running_more (pos 0) (take k xs) x ∙ ap (λ z. sums_after (pos 0) (take k xs) ++ z ∷ []) same

pub total_step : (xs : List ℤ) (k : ℕ) (total : ℤ) → k < length xs → total ≡ wrap (sum_z (take k xs)) → wrap (total +ℤ get_or xs k (pos 0)) ≡ wrap (sum_z (take (k + 1) xs))
total_step xs k total lt h = wrapped_more total (take k xs) (get_or xs k (pos 0)) h ∙ ap (λ l. wrap (sum_z l)) (sym (take_more xs k (pos 0) lt))

pub running_pushed : (xs : List ℤ) (k : ℕ) (total result : ℤ) (made now : List ℤ) → k < length xs → made ≡ sums_after (pos 0) (take k xs) → total ≡ wrap (sum_z (take k xs))
    → result ≡ wrap (total +ℤ get_or xs k (pos 0)) → now ≡ made ++ result ∷ [] → now ≡ sums_after (pos 0) (take (k + 1) xs)
running_pushed xs k total result made now lt h t r e =
    e ∙ ap (λ l. l ++ result ∷ []) h ∙ ap (λ z. sums_after (pos 0) (take k xs) ++ z ∷ []) r ∙ sym (running_step xs k total lt t)

-- ---- products of two lists

abbrev product_of : ℤ × ℤ → ℤ
product_of p = p.0 *ℤ p.1

map_more : (xs : List (ℤ × ℤ)) (p : ℤ × ℤ) → map product_of (xs ++ p ∷ []) ≡ map product_of xs ++ product_of p ∷ []
map_more [] p = refl
map_more (x ∷ xs) p = ap (λ l. product_of x ∷ l) (map_more xs p)

-- the wrapped sum of the first products
abbrev pub dot_so_far : List ℤ → List ℤ → ℕ → ℤ
dot_so_far xs ys k = wrap (sum_z (map (λ p. p.0 *ℤ p.1) (take k (zip xs ys))))

pub dot_step : (xs ys : List ℤ) (k : ℕ) (total : ℤ) → k < length xs → k < length ys → total ≡ dot_so_far xs ys k
    → wrap (total +ℤ wrap (get_or xs k (pos 0) *ℤ get_or ys k (pos 0))) ≡ dot_so_far xs ys (k + 1)
dot_step xs ys k total low lt h =
    let x = get_or xs k (pos 0) in
    let y = get_or ys k (pos 0) in
    let few : k < length (zip xs ys) = omega (arith, length-zip xs ys) in
    let pairs : take (k + 1) (zip xs ys) ≡ take k (zip xs ys) ++ (x, y) ∷ [] =
    take_more (zip xs ys) k (pos 0, pos 0) few ∙ ap (λ p. take k (zip xs ys) ++ p ∷ []) (get_or-zip xs ys k (pos 0, pos 0) low lt) in
    int_wrap-add_right w64 total (x *ℤ y) ∙ wrapped_more total (map product_of (take k (zip xs ys))) (x *ℤ y) h
    ∙ ap (λ l. wrap (sum_z l)) (sym (ap (map product_of) pairs ∙ map_more (take k (zip xs ys)) (x, y)))

-- behind the end of one list
same_front : (xs ys : List ℤ) (k : ℕ) → length ys ≤ k → take k (zip xs ys) ≡ zip xs ys
same_front xs ys k le = take_all k (zip xs ys) (omega (arith, length-zip xs ys))

pub dot_same : (xs ys : List ℤ) (k : ℕ) (total : ℤ) → length ys ≤ k → total ≡ dot_so_far xs ys k → total ≡ dot_so_far xs ys (k + 1)
dot_same xs ys k total le h =
    h ∙ ap (λ l. wrap (sum_z (map product_of l))) (same_front xs ys k le ∙ sym (same_front xs ys (k + 1) (omega arith)))

pub dot_all : (xs ys : List ℤ) (k : ℕ) (total : ℤ) → length xs ≤ k → total ≡ dot_so_far xs ys k → total ≡ dot_product xs ys
dot_all xs ys k total le h = h ∙ ap (λ l. wrap (sum_z (map product_of l))) (take_all k (zip xs ys) (omega (arith, length-zip xs ys)))
