-- A block of one vector behind another is what it has of the first and then what it has of the second.
use Rattle.std.proofs.Common.{◌≡◌, ◌∙◌, sym, ap, arith, inl, inr, ℕ, ◌+◌, ◌-◌, ◌<◌, ◌≤◌, ℤ, min, max, List, [], ◌∷◌, ◌++◌, length, take, drop, length-drop}
use Rattle.std.specs.Prelude.{nat_le, sum}
use Rattle.std.proofs.lemmas.Bool.{cases_lt, le-leb, lt-leb}
use Rattle.std.proofs.lemmas.List.{drop_min, take_min}
use Rattle.hp_word.specs.Lengths.{longest}
use Rattle.hp_spmd.specs.Store.{kept}
use Rattle.hp_spmd.proofs.LocalCuts.{kept_part, kept_part_from}
use Rattle.hp_spmd.proofs.MovedLemmas.{sum_first}
use Rattle.hp_snippet.proofs.Ranges.{kept_append}

-- as far as the list goes
kept_within : (a b n : ℕ) (xs : List ℤ) → length xs ≡ n → kept (min a n) (min b n) 0 xs ≡ kept a b 0 xs
kept_within a b n xs e =
    let here : min a n ≡ min a (length xs) = omega (arith, e) in
    let same : drop (min a n) xs ≡ drop a xs = ap (λ k. drop k xs) here ∙ drop_min a xs in
    let left = length-drop a xs in
    let count : min (min b n - min a n) (length (drop a xs)) ≡ min (b - a) (length (drop a xs)) = omega (arith, left, e) in
    kept_part (min a n) (min b n) xs ∙ ap (take (min b n - min a n)) same ∙ sym (take_min (min b n - min a n) (drop a xs)) ∙ ap (λ k. take k (drop a xs)) count ∙ take_min (b - a) (drop a xs) ∙ sym (kept_part a b xs)

-- of a list behind so many others
kept_behind : (a b n : ℕ) (xs : List ℤ) → kept a b n xs ≡ kept (a - n) (b - n) 0 xs
kept_behind a b n xs =
    let count : b - max a n ≡ (b - n) - (a - n) = omega arith in
    kept_part_from a b n xs ∙ ap (λ k. take k (drop (a - n) xs)) count ∙ sym (kept_part (a - n) (b - n) xs)

-- what a range has of the first list, and then of the second
pub halves : (a b n m : ℕ) (xs ys : List ℤ) → length xs ≡ n → length ys ≡ m → kept (min a n) (min b n) 0 xs ++ kept (min (a - n) m) (min (b - n) m) 0 ys ≡ kept a b 0 (xs ++ ys)
halves a b n m xs ys left right =
    let place : n ≡ 0 + length xs = omega (arith, left) in
    ap (λ l. l ++ kept (min (a - n) m) (min (b - n) m) 0 ys) (kept_within a b n xs left)
    ∙ ap (λ l. kept a b 0 xs ++ l) (kept_within (a - n) (b - n) m ys right ∙ sym (kept_behind a b n ys) ∙ ap (λ k. kept a b k ys) place)
    ∙ sym (kept_append {X = ℤ} a b 0 xs ys)

-- two numbers are together no more than an array has just where two lengths are
pub fits_alike : (a b n m : ℕ) → (a + b ≤ longest → n + m ≤ longest) → (n + m ≤ longest → a + b ≤ longest) → nat_le (sum (a ∷ b ∷ [])) longest ≡ nat_le (n + m) longest
fits_alike a b n m there back =
    let both : sum (a ∷ b ∷ []) ≡ a + b = sum_first a (b ∷ []) ∙ ap (λ k. a + k) (sum_first b []) ∙ last a b in
    ap (λ k. nat_le k longest) both
    ∙ elim (cases_lt longest (n + m)) as (λ _. nat_le (a + b) longest ≡ nat_le (n + m) longest) [
      | inl over ↦ lt-leb (a + b) longest (more over) ∙ sym (lt-leb (n + m) longest over)
      | inr fits ↦ le-leb (a + b) longest (back fits) ∙ sym (le-leb (n + m) longest fits)
    ]
  where
    last : (a b : ℕ) → a + (b + sum []) ≡ a + b
    last a b = let none : b + 0 ≡ b = omega arith in ap (λ k. a + k) none

    more : longest < n + m → longest < a + b
    more over = elim (cases_lt longest (a + b)) as (λ _. longest < a + b) [
      | inl h ↦ h
      | inr h ↦ let le = there h in absurd (omega (arith, le, over))
    ]
