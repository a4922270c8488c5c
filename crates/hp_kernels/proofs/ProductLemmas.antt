-- Sums of the products of two lists, wrapped on the way.
use Rattle.std.proofs.Common.{◌≡◌, ℕ, ℤ, pos, ◌+ℤ◌, ◌*ℤ◌, ◌+◌, ◌<◌, ◌≤◌, List, [], ◌∷◌, ◌++◌, map, length, take, get_or, w64, ap, sym, ◌∙◌, arith}
use Rattle.std.specs.Prelude.{zip}
use Rattle.std.proofs.lemmas.Int.{ints, int_wrap-add_left, int_wrap-add_right}
use Rattle.std.proofs.lemmas.List.{take_more, take_all, map-append}
use Rattle.std.proofs.lemmas.Slice.Zip.{get_or-zip, length-zip}
use Rattle.hp_word.specs.Folds.{sum_z}
use Rattle.hp_word.specs.MatrixRules.{dot_product}
use Rattle.hp_word.specs.Words.{wrap}
use Rattle.hp_word.proofs.FoldLemmas.{sum_z_append}

zero_right : (z : ℤ) → z +ℤ pos 0 ≡ z
zero_right z = omega (arith, ints)

-- a wrapped sum goes on
wrapped_more : (total : ℤ) (xs : List ℤ) (x : ℤ) → total ≡ wrap (sum_z xs) → wrap (total +ℤ x) ≡ wrap (sum_z (xs ++ x ∷ []))
wrapped_more total xs x h =
    ap (λ t. wrap (t +ℤ x)) h ∙ int_wrap-add_left w64 (sum_z xs) x
    ∙ ap wrap (sym (sum_z_append xs (x ∷ []) ∙ ap (λ z. sum_z xs +ℤ z) (zero_right x)))

abbrev product_of : ℤ × ℤ → ℤ
product_of p = p.0 *ℤ p.1

-- the wrapped sum of the first products
abbrev pub dot_so_far : List ℤ → List ℤ → ℕ → ℤ
dot_so_far xs ys k = wrap (sum_z (map (λ p. p.0 *ℤ p.1) (take k (zip xs ys))))

pub dot_step : (xs ys : List ℤ) (k : ℕ) (total : ℤ) → k < length xs → k < length ys → total ≡ dot_so_far xs ys k
    → wrap (total +ℤ wrap (get_or xs k (pos 0) *ℤ get_or ys k (pos 0))) ≡ dot_so_far xs ys (k + 1)
dot_step xs ys k total low lt h =
    let x = get_or xs k (pos 0) in
    let y = get_or ys k (pos 0) in
    let few : k < length (zip xs ys) = omega (arith, length-zip xs ys) in
    let pairs : take (k + 1) (zip xs ys) ≡ take k (zip xs ys) ++ (x, y) ∷ [] =
    take_more (zip xs ys) k (pos 0, pos 0) few ∙ ap (λ p. take k (zip xs ys) ++ p ∷ []) (get_or-zip xs ys k (pos 0, pos 0) low lt) in
    int_wrap-add_right w64 total (x *ℤ y) ∙ wrapped_more total (map product_of (take k (zip xs ys))) (x *ℤ y) h
    ∙ ap (λ l. wrap (sum_z l)) (sym (ap (map product_of) pairs ∙ map-append product_of (take k (zip xs ys)) ((x, y) ∷ [])))

-- behind the end of one list
same_front : (xs ys : List ℤ) (k : ℕ) → length ys ≤ k → take k (zip xs ys) ≡ zip xs ys
same_front xs ys k le = take_all k (zip xs ys) (omega (arith, length-zip xs ys))

pub dot_same : (xs ys : List ℤ) (k : ℕ) (total : ℤ) → length ys ≤ k → total ≡ dot_so_far xs ys k → total ≡ dot_so_far xs ys (k + 1)
dot_same xs ys k total le h =
    h ∙ ap (λ l. wrap (sum_z (map product_of l))) (same_front xs ys k le ∙ sym (same_front xs ys (k + 1) (omega arith)))

pub dot_all : (xs ys : List ℤ) (k : ℕ) (total : ℤ) → length xs ≤ k → total ≡ dot_so_far xs ys k → total ≡ dot_product xs ys
dot_all xs ys k total le h = h ∙ ap (λ l. wrap (sum_z (map product_of l))) (take_all k (zip xs ys) (omega (arith, length-zip xs ys)))
