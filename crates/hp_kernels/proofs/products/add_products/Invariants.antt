-- The products with the rows so far.
use Rattle.std.proofs.Common.{◌≡◌, ◌++◌, take}
use Rattle.hp_word.specs.MatrixRules.{products_of}
use Rattle.hp_kernels.proofs.products.add_products.Given as goal

abbrev pub invariant-loop-row : goal.invariant-loop-row
invariant-loop-row l = l.made.items ≡ l.initial.made.items ++ products_of (take l.row-index l.rows) l.column
