-- Constraints with the numbers of their unknowns, and which of them name an unknown.
use Rattle.std.specs.Prelude.{◌≡◌, ℕ, ◌+◌, ◌==◌, ◌<◌, ◌&&◌, Bool, if◌then◌else◌, List, [], ◌∷◌, Option, None, Some, nat_lt, length, drop, slice_index_or, refl}
use Rattle.std.specs.List.{AllByRecursion}
use Rattle.hp_air.specs.declared.constraint.Constraint.{Constraint}
use Rattle.hp_air.specs.declared.constraint.Relation.TheVariants.{Same}
use Rattle.hp_infer.specs.declared.system.Side.{Side}
use Rattle.hp_infer.specs.declared.system.Side.TheVariants.{Low, High}
use Rattle.hp_infer.specs.declared.system.Chains.{Chains}

-- constraints, by their places from 0, and how many unknowns there are
pub record Problem : Type 0 where
  pub constraints : List Constraint
  pub unknowns : ℕ

abbrev pub problem : List Constraint → ℕ → Problem
problem constraints unknowns = record { constraints = constraints; unknowns = unknowns }

-- the constraint at a place
abbrev pub constraint_at : List Constraint → ℕ → Constraint
constraint_at constraints k = slice_index_or constraints k (record { low = 0; relation = Same; high = 0 })

abbrev pub end_of : Side → Constraint → ℕ
end_of Low c = c.low
end_of High c = c.high

-- each constraint names unknowns that there are
abbrev pub AreWithin : ℕ → List Constraint → Type 0
AreWithin unknowns constraints = AllByRecursion (λ c. (c.low < unknowns) × (c.high < unknowns)) constraints

-- whether the constraint at a place names the unknown on this side
abbrev pub names : Side → ℕ → List Constraint → ℕ → Bool
names side u constraints k = nat_lt k (length constraints) && (u == end_of side (constraint_at constraints k))

-- the first that does, where the list begins at this place
unfoldable pub first_naming : Side → ℕ → (at : ℕ) → List Constraint → Option ℕ
first_naming side u at [] = None
first_naming side u at (c ∷ constraints) = if u == end_of side c then Some at else first_naming side u (at + 1) constraints

-- the first that does from a place on
abbrev pub next_naming : Side → ℕ → (from : ℕ) → List Constraint → Option ℕ
next_naming side u from constraints = first_naming side u from (drop from constraints)

-- the constraints that name each unknown on this side, one behind the other in the order of their places
pub record IsChained (side : Side) (unknowns : ℕ) (constraints : List Constraint) (chains : Chains) : Type 0 where
  pub unknown_count : length chains.first.items ≡ unknowns
  pub constraint_count : length chains.next.items ≡ length constraints
  pub first : (u : ℕ) → u < unknowns → slice_index_or chains.first.items u None ≡ next_naming side u 0 constraints
  pub next : (k : ℕ) → k < length constraints → slice_index_or chains.next.items k None ≡ next_naming side (end_of side (constraint_at constraints k)) (k + 1) constraints

-- the constraints of a problem are chained on both sides
pub record IsSystem (p : Problem) (by_low by_high : Chains) : Type 0 where
  pub low : IsChained Low p.unknowns p.constraints by_low
  pub high : IsChained High p.unknowns p.constraints by_high
  pub within : AreWithin p.unknowns p.constraints

-- ---- worked rows

abbrev two : List Constraint
two = record { low = 0; relation = Same; high = 1 } ∷ record { low = 1; relation = Same; high = 1 } ∷ []

naming_row : next_naming High 1 1 two ≡ Some 1
unfolding first_naming
naming_row = refl

no_naming_row : next_naming Low 0 1 two ≡ None
unfolding first_naming
no_naming_row = refl
