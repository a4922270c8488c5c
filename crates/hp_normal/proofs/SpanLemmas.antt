-- Slots side by side: the only one, the first one, and one more.
use Rattle.std.proofs.Common.{◌≡◌, ◌≢◌, ◌<◌, ◌≤◌, ℕ, ◌+◌, ◌==◌, slice_index_or, zero, suc, false, if◌then◌else◌, List, [], ◌∷◌, ◌++◌, map, length, Option, Some, None, refl, sym, ap, ◌∙◌, arith}
use Rattle.std.specs.List.{range_with_len}
use Rattle.hp_air.specs.Unknowns.{Unknown}
use Rattle.hp_normal.specs.Programs.{only_of, first_of}

more_than_one : (n : ℕ) → (suc (suc n) == 1) ≡ false
more_than_one n = grind arith

not_none : (n : ℕ) → (suc n == 0) ≡ false
not_none n = grind arith

pub only_one : (first count : ℕ) → only_of (range_with_len first count) ≡ (if count == 1 then Some first else None)
only_one first zero = refl
only_one first (suc zero) = refl
only_one first (suc (suc n)) = rw (more_than_one n) refl

pub first_some : (first count : ℕ) → first_of (range_with_len first count) ≡ (if count == 0 then None else Some first)
first_some first zero = refl
first_some first (suc n) = rw (not_none n) refl

same_head : (a b : ℕ) (xs ys : List ℕ) → a ∷ xs ≡ b ∷ ys → b ≡ a
same_head a b xs ys e = cc

pub first_slot : (slot : Unknown → ℕ) (array : ℕ → Unknown) (w first count : ℕ) → map slot (map array (range_with_len 0 w)) ≡ range_with_len first count → count ≢ 0 → first ≡ slot (array 0)
first_slot slot array w first zero e some = absurd (some refl)
first_slot slot array zero first (suc n) e some = absurd cc
first_slot slot array (suc w) first (suc n) e some = same_head _ _ _ _ e

nearer : (a n : ℕ) → (a + 1) + n ≡ a + suc n
nearer a n = omega arith

longer : (a n : ℕ) → range_with_len a (suc n) ≡ range_with_len a n ++ (a + n) ∷ []
longer a zero = ap (λ (k : ℕ). k ∷ []) (omega arith)
longer a (suc n) = ap (λ (l : List ℕ). a ∷ l) (longer (a + 1) n ∙ ap (λ (k : ℕ). range_with_len (a + 1) n ++ k ∷ []) (nearer a n))

pub one_more_slot : (a n : ℕ) → range_with_len a (n + 1) ≡ range_with_len a n ++ (a + n) ∷ []
one_more_slot a n =
    let next : n + 1 ≡ suc n = omega arith in
    ap (λ (k : ℕ). range_with_len a k) next ∙ longer a n

-- ---- slots at places

pub slot_within : (first count place : ℕ) → place < count → first + place ≡ slice_index_or (range_with_len first count) place 0
slot_within first zero place less = absurd (omega (arith, less))
slot_within first (suc n) zero less = omega arith
slot_within first (suc n) (suc k) less = sym (nearer first k) ∙ slot_within (first + 1) n k (omega (arith, less))

pub slot_behind : (first count place : ℕ) → count ≤ place → 0 ≡ slice_index_or (range_with_len first count) place 0
slot_behind first zero place past = refl
slot_behind first (suc n) zero past = absurd (omega (arith, past))
slot_behind first (suc n) (suc k) past = slot_behind (first + 1) n k (omega (arith, past))
