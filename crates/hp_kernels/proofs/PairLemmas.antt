-- The rows that a join pairs, row by row.
use Rattle.std.proofs.Common.{◌≡◌, ℕ, ◌+◌, ◌<◌, ◌≤◌, ℤ, pos, Bool, true, false, if◌then◌else◌, List, [], ◌∷◌, ◌++◌, map, length, get_or, drop, refl, ap, ◌∙◌}
use Rattle.std.specs.Ordering.{int_eq}
use Rattle.hp_word.specs.declared.order.RowPlace.{RowPlace}
use Rattle.hp_word.specs.Lengths.{longest}
use Rattle.hp_word.specs.RowRules.{row_place, matches_of, pairs_from, pairs_from_0}
use Rattle.hp_kernels.specs.KeyRows.{rows_from}
use Rattle.hp_kernels.proofs.RowLemmas.{from_next, none_left, more_than, all_are_made}

-- ---- the pairs of a left row

either_mapped : {A B : Type 0} (f : A → B) (b : Bool) (x : A) (xs : List A) → map f (if b then x ∷ xs else xs) ≡ (if b then f x ∷ map f xs else map f xs)
either_mapped f true x xs = refl
either_mapped f false x xs = refl

pub matches_are : (i : ℕ) (x : ℤ) (j : ℕ) (ys : List ℤ) → map (row_place i) (rows_from j x ys) ≡ matches_of i x j ys
unfolding rows_from matches_of
matches_are i x j [] = refl
matches_are i x j (y ∷ ys) =
    either_mapped (row_place i) (int_eq x y) j (rows_from (j + 1) x ys)
    ∙ ap (λ (t : List RowPlace). if int_eq x y then row_place i j ∷ t else t) (matches_are i x (j + 1) ys)

-- ---- the pairs of a join

pub pairs_next : (left right : List ℤ) (i : ℕ) → i < length left
    → pairs_from i 0 (drop i left) right ≡ matches_of i (get_or left i (pos 0)) 0 right ++ pairs_from (i + 1) 0 (drop (i + 1) left) right
unfolding pairs_from
pairs_next left right i lt = ap (λ (l : List ℤ). pairs_from i 0 l right) (from_next left i (pos 0) lt)

pub pairs_done : (left right : List ℤ) (i : ℕ) → length left ≤ i → pairs_from i 0 (drop i left) right ≡ []
unfolding pairs_from
pairs_done left right i le = ap (λ (l : List ℤ). pairs_from i 0 l right) (none_left left i le)

pub pairs_many : (left right : List ℤ) (i : ℕ) (made : List RowPlace) → i < length left → made ++ pairs_from i 0 (drop i left) right ≡ pairs_from_0 left right
    → longest < length made + length (matches_of i (get_or left i (pos 0)) 0 right) → longest < length (pairs_from_0 left right)
pairs_many left right i made lt kept more =
    more_than longest made (pairs_from i 0 (drop i left) right) (pairs_from (i + 1) 0 (drop (i + 1) left) right) (pairs_from_0 left right) (matches_of i (get_or left i (pos 0)) 0 right)
    (pairs_next left right i lt) kept more

pub pairs_all : (left right : List ℤ) (i : ℕ) (made : List RowPlace) → length left ≤ i → made ++ pairs_from i 0 (drop i left) right ≡ pairs_from_0 left right → made ≡ pairs_from_0 left right
pairs_all left right i made le kept = all_are_made made (pairs_from i 0 (drop i left) right) (pairs_from_0 left right) (pairs_done left right i le) kept
