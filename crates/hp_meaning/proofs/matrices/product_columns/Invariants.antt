-- The products with the columns so far.
use Rattle.std.proofs.Common.{◌≡◌, map, take}
use Rattle.hp_word.specs.MatrixRules.{products_of}
use Rattle.hp_meaning.proofs.matrices.product_columns.Given as goal

abbrev pub invariant-loop-column : goal.invariant-loop-column
invariant-loop-column l = l.made ≡ map (products_of l.rows) (take l.column-index l.columns)
