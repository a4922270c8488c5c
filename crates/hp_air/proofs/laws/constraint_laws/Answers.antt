-- The laws of distributions are lemmas.
use Rattle.hp_air.proofs.BoundLemmas.{meets_solves, solves_meets}
use Rattle.hp_air.proofs.PlacedLemmas.{placed_solves, solves_placed}
use Rattle.hp_air.proofs.laws.constraint_laws.Goals as goal

pub returns : goal.returns
returns c = record {
  solved = λ d op meets. meets_solves d meets;
  met = solves_meets;
  placed_solved = placed_solves;
  solved_placed = solves_placed;
}
