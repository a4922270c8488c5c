-- The products with the rows so far.
use Rattle.std.proofs.Common.{◌≡◌, map, take}
use Rattle.hp_word.specs.MatrixRules.{dot_product}
use Rattle.hp_meaning.proofs.matrices.products.Given as goal

abbrev pub invariant-loop-row : goal.invariant-loop-row
invariant-loop-row l = l.made ≡ map (λ row. dot_product row l.column) (take l.row-index l.rows)
