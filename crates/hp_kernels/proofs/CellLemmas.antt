-- Cells that are changed in place, one after the other.
use Rattle.std.proofs.Common.{◌≡◌, ◌≢◌, ◌<◌, ◌≤◌, ◌+◌, ℕ, ℤ, pos, List, length, set, inl, inr, sym, ◌∙◌, subst, arith, get_or-set_same, get_or-set_other}
use Rattle.std.proofs.lemmas.Bool.{cases_lt}
use Rattle.hp_word.specs.LoopRules.{word_at}

-- one more cell is what a function of the place and of what was there says
pub changed_next : (P : ℕ → ℤ → Type 0) (i : ℕ) (first now : List ℤ) (x : ℤ) → i < length now → P i x
    → ((k : ℕ) → k < i → P k (word_at now k)) → ((k : ℕ) → k < i + 1 → P k (word_at (set now i x) k))
changed_next P i first now x l this done k below =
    elim (cases_lt k i) [
      | inl lt ↦ (let other : k ≢ i = omega arith in subst (P k) (sym (get_or-set_other now i k x (pos 0) other)) (done k lt))
      | inr ge ↦ (let same : k ≡ i = omega arith in subst (λ n. P n (word_at (set now i x) n)) (sym same) (subst (P i) (sym (get_or-set_same now i x (pos 0) l)) this))
    ]

pub rest_next : (i : ℕ) (first now : List ℤ) (x : ℤ) → ((k : ℕ) → i ≤ k → word_at now k ≡ word_at first k) → ((k : ℕ) → i + 1 ≤ k → word_at (set now i x) k ≡ word_at first k)
rest_next i first now x rest k above = (let other : k ≢ i = omega arith in let later : i ≤ k = omega arith in get_or-set_other now i k x (pos 0) other ∙ rest k later)
