-- Running sums of a list in pieces.
use Rattle.std.proofs.Common.{◌≡◌, ◌∙◌, refl, sym, ap, arith, ℕ, zero, suc, ◌-◌, ℤ, pos, List, [], ◌∷◌, length, take, drop}
use Rattle.std.specs.Prelude.{◌+ℤ◌}
use Rattle.std.proofs.lemmas.Int.{ints}
use Rattle.hp_word.specs.Folds.{sum_z}
use Rattle.hp_word.specs.ListRules.{prefix_sums, sums_after}
use Rattle.hp_word.specs.Words.{wrap}
use Rattle.hp_spmd.specs.Store.{kept}
use Rattle.hp_spmd.proofs.LocalCuts.{kept_part}
use Rattle.hp_spmd.proofs.SumLemmas.{sums_wrapped}

pub sums_count : (before : ℤ) (xs : List ℤ) → length (sums_after before xs) ≡ length xs
unfolding sums_after
sums_count before [] = refl
sums_count before (x ∷ xs) = ap suc (sums_count (before +ℤ x) xs)

sums_taken : (before : ℤ) (n : ℕ) (xs : List ℤ) → take n (sums_after before xs) ≡ sums_after before (take n xs)
unfolding sums_after
sums_taken before zero xs = refl
sums_taken before (suc n) [] = refl
sums_taken before (suc n) (x ∷ xs) = ap (λ l. wrap (before +ℤ x) ∷ l) (sums_taken (before +ℤ x) n xs)

sums_dropped : (before : ℤ) (n : ℕ) (xs : List ℤ) → drop n (sums_after before xs) ≡ sums_after (before +ℤ sum_z (take n xs)) (drop n xs)
unfolding sums_after
sums_dropped before zero xs = let none : before ≡ before +ℤ pos 0 = omega (arith, ints) in ap (λ b. sums_after b xs) none
sums_dropped before (suc n) [] = refl
sums_dropped before (suc n) (x ∷ xs) =
    let rest = sum_z (take n xs) in
    let same : (before +ℤ x) +ℤ rest ≡ before +ℤ (x +ℤ rest) = omega (arith, ints) in
    sums_dropped (before +ℤ x) n xs ∙ ap (λ b. sums_after b (drop n xs)) same

-- a piece of the running sums is that of the piece's own cells behind the wrapped sum of those before it
pub sums_kept : (a b : ℕ) (xs : List ℤ) → sums_after (wrap (sum_z (take a xs))) (kept a b 0 xs) ≡ kept a b 0 (prefix_sums xs)
sums_kept a b xs =
    let before = sum_z (take a xs) in
    let same : pos 0 +ℤ before ≡ before = omega (arith, ints) in
    sums_wrapped before (kept a b 0 xs)
    ∙ ap (sums_after before) (kept_part a b xs)
    ∙ sym (sums_taken before (b - a) (drop a xs))
    ∙ ap (λ s. take (b - a) (sums_after s (drop a xs))) (sym same)
    ∙ ap (take (b - a)) (sym (sums_dropped (pos 0) a xs))
    ∙ sym (kept_part a b (prefix_sums xs))
