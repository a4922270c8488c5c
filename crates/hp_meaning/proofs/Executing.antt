-- How many joins and aggregates are executed between two points of an evaluation.
use Rattle.std.proofs.Common.{◌≡◌, ℕ, ◌+◌, ◌≤◌, Bool, true, refl, ◌∙◌, arith}
use Rattle.hp_meaning.specs.declared.seen.Seen.{Seen}
use Rattle.hp_meaning.specs.FrameRules.{executed}
use Rattle.hp_meaning.specs.Outcomes.{tick}

-- at most as many as the ticks and so many more, and none where there is nothing to execute
pub record Steps (free : Bool) (more : ℕ) (n m : Seen) : Type 0 where
  pub grows : n.met.executed ≤ m.met.executed
  pub few : m.met.executed + n.ticks ≤ (n.met.executed + m.ticks) + more
  pub still : free ≡ true → m.met.executed ≡ n.met.executed

pub stays : (free : Bool) (more : ℕ) (n : Seen) → Steps free more n n
stays free more n = record { grows = omega arith; few = omega arith; still = λ f. refl }

pub steps_more : {free : Bool} {n m : Seen} (more : ℕ) → Steps free 0 n m → Steps free more n m
steps_more more s = record { grows = s.grows; few = omega (arith, s.few); still = s.still }

pub steps_both : {free : Bool} {more : ℕ} {n m l : Seen} → Steps free 0 n m → Steps free more m l → Steps free more n l
steps_both s u = record { grows = omega (arith, s.grows, u.grows); few = omega (arith, s.few, u.few); still = λ f. u.still f ∙ s.still f }

-- a tick before it counts for one more
pub steps_ticked : {free : Bool} {n m : Seen} → Steps free 1 (tick n) m → Steps free 0 n m
steps_ticked s = record { grows = s.grows; few = omega (arith, s.few); still = s.still }

pub executes : {free : Bool} (is_bad : Bool) (n : Seen) → (free ≡ true → ⊥) → Steps free 1 n (record n { met = executed is_bad n.met })
executes is_bad n busy = record { grows = omega arith; few = omega arith; still = λ f. absurd (busy f) }
