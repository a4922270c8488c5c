-- Pairs and groups by places that count from 0, as the kernels find them, against those by places that count from 1.
use Rattle.std.proofs.Common.{◌≡◌, ℕ, ◌+◌, ℤ, Bool, true, false, if◌then◌else◌, List, [], ◌∷◌, ◌++◌, map, refl, ap, ◌∙◌}
use Rattle.std.specs.Ordering.{int_eq}
use Rattle.std.proofs.lemmas.List.{map-append}
use Rattle.hp_word.specs.declared.order.RowPlace.{RowPlace}
use Rattle.hp_word.specs.RowRules.{row_place, matches_of, pairs, pairs_from, pairs_from_0, has, firsts_from, firsts_from_0, groups}

-- a pair of rows and the first row of a group, each place one later
abbrev pub one_later : RowPlace → RowPlace
one_later p = row_place (p.left + 1) (p.right + 1)

abbrev pub first_later : (first : ℕ) → RowPlace
first_later first = row_place (first + 1) 0

mapped_if : (i j : ℕ) (b : Bool) (xs ys : List RowPlace) → map one_later xs ≡ ys → map one_later (if b then row_place i j ∷ xs else xs) ≡ (if b then row_place (i + 1) (j + 1) ∷ ys else ys)
mapped_if i j true xs ys e = ap (λ (l : List RowPlace). row_place (i + 1) (j + 1) ∷ l) e
mapped_if i j false xs ys e = e

later_matches : (i j : ℕ) (x : ℤ) (ys : List ℤ) → map one_later (matches_of i x j ys) ≡ matches_of (i + 1) x (j + 1) ys
unfolding matches_of
later_matches i j x [] = refl
later_matches i j x (y ∷ ys) = mapped_if i j (int_eq x y) (matches_of i x (j + 1) ys) (matches_of (i + 1) x (j + 1 + 1) ys) (later_matches i (j + 1) x ys)

later_pairs_from : (i j : ℕ) (left right : List ℤ) → map one_later (pairs_from i j left right) ≡ pairs_from (i + 1) (j + 1) left right
unfolding pairs_from
later_pairs_from i j [] right = refl
later_pairs_from i j (x ∷ left) right =
    map-append one_later (matches_of i x j right) (pairs_from (i + 1) j left right)
    ∙ (λ k. later_matches i j x right k ++ later_pairs_from (i + 1) j left right k)

pub later_pairs : (left right : List ℤ) → map one_later (pairs_from_0 left right) ≡ pairs left right
later_pairs left right = later_pairs_from 0 0 left right

later_firsts : (i : ℕ) (before keys : List ℤ) → map first_later (firsts_from i before keys) ≡ map (λ first. row_place first 0) (firsts_from (i + 1) before keys)
unfolding firsts_from
later_firsts i before [] = refl
later_firsts i before (x ∷ keys) = by (has before x) (later_firsts (i + 1) before keys) (later_firsts (i + 1) (before ++ x ∷ []) keys)
  where
    by : (b : Bool)
        → map first_later (firsts_from (i + 1) before keys) ≡ map (λ first. row_place first 0) (firsts_from (i + 1 + 1) before keys)
        → map first_later (firsts_from (i + 1) (before ++ x ∷ []) keys) ≡ map (λ first. row_place first 0) (firsts_from (i + 1 + 1) (before ++ x ∷ []) keys)
        → map first_later (if b then firsts_from (i + 1) before keys else i ∷ firsts_from (i + 1) (before ++ x ∷ []) keys)
        ≡ map (λ first. row_place first 0) (if b then firsts_from (i + 1 + 1) before keys else (i + 1) ∷ firsts_from (i + 1 + 1) (before ++ x ∷ []) keys)
    by true known new = known
    by false known new = ap (λ (l : List RowPlace). row_place (i + 1) 0 ∷ l) new

pub later_groups : (keys : List ℤ) → map first_later (firsts_from_0 keys) ≡ groups keys
later_groups keys = later_firsts 0 [] keys
