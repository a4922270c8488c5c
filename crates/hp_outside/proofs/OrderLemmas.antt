-- How the state of a seeded order goes on, and which rank it names.
use Rattle.std.proofs.Common.{◌≡◌, ◌≢◌, ◌∙◌, refl, sym, ap, arith, ℕ, zero, suc, ◌+◌}
use Rattle.std.specs.Prelude.{◌%◌}
use Rattle.hp_outside.specs.Orders.{chosen, seeded, state_after, stepped}

pub state_next : (seed k s : ℕ) → s ≡ state_after seed k → stepped s ≡ state_after seed (k + 1)
unfolding state_after
state_next seed k s is = let e : k + 1 ≡ suc k = omega arith in ap stepped is ∙ sym (ap (state_after seed) e)

pub state_first : (seed : ℕ) → seed ≡ state_after seed 0
unfolding state_after
state_first seed = refl

pub zero_names : (seed k ranks : ℕ) → seed ≡ 0 → k % ranks ≡ seeded seed k ranks
unfolding seeded
zero_names zero k ranks is = refl
zero_names (suc n) k ranks is = absurd (omega (arith, is))

pub other_names : (seed k s ranks : ℕ) → seed ≢ 0 → s ≡ state_after seed k → chosen (stepped s) ranks ≡ seeded seed k ranks
unfolding seeded state_after
other_names zero k s ranks some is = absurd (some refl)
other_names (suc n) k s ranks some is = ap (λ z. chosen (stepped z) ranks) is
