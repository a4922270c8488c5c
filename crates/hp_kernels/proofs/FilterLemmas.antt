-- The rows that a filter keeps, row by row.
use Rattle.std.proofs.Common.{◌≡◌, ℕ, ℤ, pos, ◌+◌, ◌<◌, ◌≤◌, Bool, true, false, cond, List, [], ◌∷◌, ◌++◌, length, take, get_or, zero, suc, refl, ap, sym, ◌∙◌, add-one, arith}
use Rattle.hp_word.specs.RowRules.{filter_rows}
use Rattle.hp_word.specs.Words.{is_true}
use Rattle.hp_kernels.proofs.RowLemmas.{yes_of, no_of}

-- what holds behind an item, which is filter_rows or not
rows_behind : (b : Bool) (x : ℤ) (before after tail : List ℤ) → after ≡ before ++ tail → cond b (x ∷ after) after ≡ cond b (x ∷ before) before ++ tail
rows_behind true x before after tail h = ap (λ l. x ∷ l) h
rows_behind false x before after tail h = h

more : (mask xs : List ℤ) (k : ℕ) → k < length mask → k < length xs → true ≡ is_true (get_or mask k (pos 0))
    → filter_rows (take (suc k) mask) xs ≡ filter_rows (take k mask) xs ++ get_or xs k (pos 0) ∷ []
unfolding filter_rows
more [] xs k low lt h = absurd (omega arith)
more (m ∷ mask) [] k low lt h = absurd (omega arith)
more (m ∷ mask) (x ∷ xs) zero low lt h = yes_of (is_true m) (x ∷ []) [] h
more (m ∷ mask) (x ∷ xs) (suc k) low lt h =
    rows_behind (is_true m) x (filter_rows (take k mask) xs) (filter_rows (take (suc k) mask) xs) (get_or xs k (pos 0) ∷ []) (more mask xs k (omega arith) (omega arith) h)

same : (mask xs : List ℤ) (k : ℕ) → k < length mask → false ≡ is_true (get_or mask k (pos 0)) → filter_rows (take (suc k) mask) xs ≡ filter_rows (take k mask) xs
unfolding filter_rows
same [] xs k low h = absurd (omega arith)
same (m ∷ mask) [] zero low h = refl
same (m ∷ mask) [] (suc k) low h = refl
same (m ∷ mask) (x ∷ xs) zero low h = no_of (is_true m) (x ∷ []) [] h
same (m ∷ mask) (x ∷ xs) (suc k) low h = ap (λ l. cond (is_true m) (x ∷ l) l) (same mask xs k (omega arith) h)

behind_end : (mask xs : List ℤ) (k : ℕ) → length xs ≤ k → filter_rows (take (suc k) mask) xs ≡ filter_rows (take k mask) xs
unfolding filter_rows
behind_end [] xs zero le = refl
behind_end [] xs (suc k) le = refl
behind_end (m ∷ mask) [] zero le = refl
behind_end (m ∷ mask) [] (suc k) le = refl
behind_end (m ∷ mask) (x ∷ xs) zero le = absurd (omega arith)
behind_end (m ∷ mask) (x ∷ xs) (suc k) le = ap (λ l. cond (is_true m) (x ∷ l) l) (behind_end mask xs k (omega arith))

pub rows_more : (mask xs : List ℤ) (k : ℕ) → k < length mask → k < length xs → true ≡ is_true (get_or mask k (pos 0))
    → filter_rows (take (k + 1) mask) xs ≡ filter_rows (take k mask) xs ++ get_or xs k (pos 0) ∷ []
rows_more mask xs k low lt h = rw (add-one k) (more mask xs k low lt h)

pub rows_same : (mask xs : List ℤ) (k : ℕ) → k < length mask → false ≡ is_true (get_or mask k (pos 0)) → filter_rows (take (k + 1) mask) xs ≡ filter_rows (take k mask) xs
rows_same mask xs k low h = rw (add-one k) (same mask xs k low h)

pub rows_end : (mask xs : List ℤ) (k : ℕ) → length xs ≤ k → filter_rows (take (k + 1) mask) xs ≡ filter_rows (take k mask) xs
rows_end mask xs k le = rw (add-one k) (behind_end mask xs k le)

pub rows_pushed : (mask xs : List ℤ) (k : ℕ) (made now : List ℤ) → k < length mask → k < length xs → true ≡ is_true (get_or mask k (pos 0))
    → made ≡ filter_rows (take k mask) xs → now ≡ made ++ get_or xs k (pos 0) ∷ [] → now ≡ filter_rows (take (k + 1) mask) xs
rows_pushed mask xs k made now low lt h m e = e ∙ ap (λ l. l ++ get_or xs k (pos 0) ∷ []) m ∙ sym (rows_more mask xs k low lt h)
