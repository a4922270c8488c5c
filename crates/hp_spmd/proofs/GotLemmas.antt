-- A cell by a place that stands still at the greatest number.
use Rattle.std.proofs.Common.{◌≡◌, ◌∙◌, sym, ap, arith, inl, inr, ℕ, ◌+◌, ◌*◌, ◌≤◌, min, ℤ, pos, List, length}
use Rattle.std.proofs.lemmas.Bool.{cases_lt}
use Rattle.std.proofs.lemmas.List.{get_or_past}
use Rattle.hp_word.specs.LoopRules.{word_at}

place_still : (words : List ℤ) (n most : ℕ) → length words ≤ most → word_at words (min n most) ≡ word_at words n
place_still words n most le =
    elim (cases_lt n (length words)) [
      | inl h ↦ let same : min n most ≡ n = omega (arith, le, h) in ap (word_at words) same
      | inr h ↦ get_or_past words (min n most) (pos 0) (omega (arith, le, h)) ∙ sym (get_or_past words n (pos 0) h)
    ]

pub cell_still : (words : List ℤ) (row width place product at most : ℕ) → length words ≤ most → product ≡ min (row * width) most → at ≡ min (product + place) most → word_at words at ≡ word_at words (row * width + place)
cell_still words row width place product at most le p a =
    let same : at ≡ min (row * width + place) most = omega (arith, p, a) in
    ap (word_at words) same ∙ place_still words (row * width + place) most le
