-- Distributions that meet a list of constraints, and the greatest that do.
use Rattle.std.proofs.Common.{arith}
use Rattle.std.specs.Prelude.{◌≡◌, ℕ, zero, suc, ◌<◌, List, [], ◌∷◌, IsTrue, refl}
use Rattle.std.specs.List.{AllByRecursion}
use Rattle.hp_lattice.specs.declared.dist.Dist.{Dist}
use Rattle.hp_lattice.specs.declared.dist.Dist.TheVariants.{Rep, Var, Block}
use Rattle.hp_lattice.specs.Lattice.{is_below, raised}
use Rattle.hp_air.specs.declared.constraint.Constraint.{Constraint}
use Rattle.hp_air.specs.declared.constraint.Relation.TheVariants.{Same, Up, AtMost}
use Rattle.hp_air.specs.Constraints.{says}

-- the constraint holds under these distributions
abbrev pub IsMet : (ℕ → Dist) → Constraint → Type 0
IsMet d c = says c.relation (d c.low) (d c.high)

-- the distributions meet all constraints of the list
abbrev pub AreMet : (ℕ → Dist) → List Constraint → Type 0
AreMet d constraints = AllByRecursion (IsMet d) constraints

-- They meet the constraints, and whatever meets them lies at most so at each of the unknowns, which are the numbers below
-- a count.
pub record IsGreatest (unknowns : ℕ) (constraints : List Constraint) (d : ℕ → Dist) : Type 0 where
  pub solution : AreMet d constraints
  pub greatest : (e : ℕ → Dist) → AreMet e constraints → (u : ℕ) → u < unknowns → IsTrue (is_below (e u) (d u))

-- ---- worked rows

-- a filtered array, 0, lies at most in pieces; it and what it is filtered from, 1, are up to each other
abbrev filtered : List Constraint
filtered =
    record { low = 0; relation = AtMost Var; high = 0 } ∷ record { low = 0; relation = Up; high = 1 } ∷ record { low = 1; relation = Up; high = 0 } ∷ []

abbrev in_pieces : ℕ → Dist
in_pieces zero = Var
in_pieces (suc k) = Block

-- the filtered array in pieces and the other in blocks is the greatest
filtered_row : IsGreatest 2 filtered in_pieces
filtered_row = record { solution = (refl, (refl, (refl, tt))); greatest = λ e met u within. pieces_greatest e met u }
  where
    below_block : (a : Dist) → IsTrue (is_below a Block)
    below_block Rep = refl
    below_block Var = refl
    below_block Block = refl

    pieces_greatest : (e : ℕ → Dist) → AreMet e filtered → (u : ℕ) → IsTrue (is_below (e u) (in_pieces u))
    pieces_greatest e met zero = met.0
    pieces_greatest e met (suc u) = below_block (e (suc u))

abbrev whole : ℕ → Dist
whole k = Rep

-- both whole is a solution, and not the greatest
whole_row : AreMet whole filtered
whole_row = (refl, (refl, (refl, tt)))

not_greatest_row : IsGreatest 2 filtered whole → ⊥
not_greatest_row g = let below : IsTrue (is_below Block Rep) = g.greatest in_pieces (refl, (refl, (refl, tt))) 1 (omega arith) in absurd cc
