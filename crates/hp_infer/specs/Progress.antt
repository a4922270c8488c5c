-- How far an inference has come: what it has found, which constraints are linked to be looked at, and how many steps may
-- still come.
use Rattle.std.specs.Prelude.{◌≡◌, ℕ, zero, suc, ◌+◌, ◌*◌, ◌<◌, ◌≤◌, Bool, true, false, if◌then◌else◌, List, length, IsTrue}
use Rattle.hp_lattice.specs.declared.dist.Dist.{Dist}
use Rattle.hp_lattice.specs.declared.dist.Dist.TheVariants.{Rep, Var, Block}
use Rattle.hp_lattice.specs.Lattice.{is_below, raised}
use Rattle.hp_links.specs.Boards.{Linked, is_in}
use Rattle.hp_air.specs.declared.constraint.Constraint.{Constraint}
use Rattle.hp_air.specs.declared.constraint.Relation.{Relation}
use Rattle.hp_air.specs.declared.constraint.Relation.TheVariants.{Same, Up, AtMost}
use Rattle.hp_air.specs.Placed.{dist_at}
use Rattle.hp_air.specs.Solutions.{IsMet, AreMet}
use Rattle.hp_infer.specs.Systems.{Problem, constraint_at}

-- ---- what is seen of an inference

-- its constraints, and the distributions so far of its unknowns by their numbers
pub record Inference : Type 0 where
  pub constraints : List Constraint
  pub dists : List Dist

abbrev pub inference : List Constraint → List Dist → Inference
inference constraints dists = record { constraints = constraints; dists = dists }

-- ---- evaluation

-- the greatest distribution that a constraint leaves its low unknown, by that of its high one
abbrev pub most : Relation → (high : Dist) → Dist
most Same high = high
most Up high = raised high
most (AtMost limit) high = limit

-- ---- the steps that may still come

abbrev pub is_whole : Dist → Bool
is_whole Rep = true
is_whole Var = false
is_whole Block = false

-- how often a distribution may still fall
abbrev pub height : Dist → ℕ
height Rep = 0
height Var = 1
height Block = 2

-- one step of a constraint that is linked, and one for each fall of its high unknown that may still come
abbrev pub steps_at : List Constraint → List Dist → List ℕ → ℕ → ℕ
steps_at constraints dists linked k = (if is_in k linked then 1 else 0) + height (dist_at dists (constraint_at constraints k).high)

-- the sum of f over the numbers below n
unfoldable pub sum_below : (n : ℕ) → (ℕ → ℕ) → ℕ
sum_below zero f = 0
sum_below (suc n) f = sum_below n f + f n

abbrev pub steps_left : List Constraint → List Dist → List ℕ → ℕ
steps_left constraints dists linked = sum_below (length constraints) (steps_at constraints dists linked)

-- ---- the state between two turns

-- Each constraint has a node of the board; each that is not linked holds; no solution lies above what was found; and of
-- three steps for each constraint some may be left.
pub record IsWork (p : Problem) (dists : List Dist) (b : Linked) : Type 0 where
  pub nodes : b.nodes ≡ length p.constraints
  pub each : length dists ≡ p.unknowns
  pub settled : (k : ℕ) → k < length p.constraints → is_in k b.list ≡ false → IsMet (dist_at dists) (constraint_at p.constraints k)
  pub above : (e : ℕ → Dist) → AreMet e p.constraints → (u : ℕ) → u < p.unknowns → IsTrue (is_below (e u) (dist_at dists u))
  pub few_steps : steps_left p.constraints dists b.list ≤ 3 * length p.constraints

-- a turn leads from such a state to such a state, with one step less at least that may still come
pub record IsTurn (p : Problem) (old new : List Dist) (before after : Linked) : Type 0 where
  pub work : IsWork p new after
  pub left : steps_left p.constraints new after.list + 1 ≤ steps_left p.constraints old before.list
