-- Each of two lies at most as the other.
use Rattle.hp_air.proofs.BoundLemmas.{same_below}
use Rattle.hp_infer.proofs.laws.solution_laws.Goals as goal

pub returns : goal.returns
returns c = λ unknowns constraints d e greatest other u within. same_below (d u) (e u) (other.greatest d greatest.solution u within) (greatest.greatest e other.solution u within)
