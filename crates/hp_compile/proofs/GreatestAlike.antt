-- The greatest solution of a list of constraints is the greatest of what the list was made of.
use Rattle.std.proofs.Common.{◌≡◌, ℕ, ◌<◌, List, [], ◌∷◌, map, length, refl, sym, subst}
use Rattle.std.specs.List.{AllByRecursion}
use Rattle.hp_lattice.specs.declared.dist.Dist.{Dist}
use Rattle.hp_program.specs.Programs.{Prog}
use Rattle.hp_air.specs.declared.constraint.Constraint.{Constraint}
use Rattle.hp_air.specs.declared.slot.Slot.{Slot}
use Rattle.hp_air.specs.declared.what.Op.{Op}
use Rattle.hp_air.specs.Constraints.{Bound, IsSolution}
use Rattle.hp_air.specs.Placed.{program_bounds}
use Rattle.hp_air.specs.Solutions.{AreMet, IsGreatest}
use Rattle.hp_constrain.specs.Listed.{constraint_of, constraints_of}
use Rattle.hp_flat.specs.FlatLaws.{AreGreatest}

solution_met : (d : ℕ → Dist) (bounds : List (Bound ℕ)) → IsSolution d bounds → AreMet d (map constraint_of bounds)
solution_met d [] solved = tt
solution_met d (b ∷ bounds) solved = (solved.0, solution_met d bounds solved.1)

met_solution : (d : ℕ → Dist) (bounds : List (Bound ℕ)) → AreMet d (map constraint_of bounds) → IsSolution d bounds
met_solution d [] met = tt
met_solution d (b ∷ bounds) met = (met.0, met_solution d bounds met.1)

alike : (n : ℕ) (bounds : List (Bound ℕ)) (d : ℕ → Dist) → IsGreatest n (map constraint_of bounds) d → AreGreatest (λ k. k < n) bounds d
alike n bounds d g = record { solution = met_solution d bounds g.solution; greatest = λ e solved k less. g.greatest e (solution_met e bounds solved) k less }

pub found_greatest : (slots : List Slot) (p : Prog Op) (n : ℕ) (list : List Constraint) (d : ℕ → Dist) → list ≡ constraints_of slots p → n ≡ length slots → IsGreatest n list d
    → AreGreatest (λ k. k < length slots) (program_bounds slots p) d
found_greatest slots p n list d is many greatest =
    subst (λ (m : ℕ). AreGreatest (λ k. k < m) (program_bounds slots p) d) many (alike n (program_bounds slots p) d (subst (λ (l : List Constraint). IsGreatest n l d) is greatest))
