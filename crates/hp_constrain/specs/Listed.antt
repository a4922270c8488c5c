-- The constraints of a program as the list that is made of them.
use Rattle.std.specs.Prelude.{◌≡◌, ℕ, List, ◌++◌, map}
use Rattle.hp_program.specs.Programs.{Prog}
use Rattle.hp_air.specs.declared.constraint.Constraint.{Constraint}
use Rattle.hp_air.specs.declared.slot.Slot.{Slot}
use Rattle.hp_air.specs.declared.what.Op.{Op}
use Rattle.hp_air.specs.Constraints.{Bound}
use Rattle.hp_air.specs.Placed.{program_bounds}

-- a constraint on two slots, as an item of the list
abbrev pub constraint_of : Bound ℕ → Constraint
constraint_of b = record { low = b.low; relation = b.relation; high = b.high }

-- the constraints of a program: those of its frames, then those of its operations in the order of the text
abbrev pub constraints_of : List Slot → Prog Op → List Constraint
constraints_of slots p = map constraint_of (program_bounds slots p)

-- these constraints stand behind those of a list
abbrev pub Adds : List (Bound ℕ) → (old new : List Constraint) → Type 0
Adds bounds old new = new ≡ old ++ map constraint_of bounds
