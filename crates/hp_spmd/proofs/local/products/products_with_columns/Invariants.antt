-- The products so far.
use Rattle.std.proofs.Common.{◌≡◌, map, take}
use Rattle.std.specs.Prelude.{flat_map}
use Rattle.hp_word.specs.MatrixRules.{products_of}
use Rattle.hp_spmd.proofs.local.products.products_with_columns.Given as goal

abbrev pub invariant-loop-column : goal.invariant-loop-column
invariant-loop-column l = l.made.items ≡ flat_map (products_of l.rows) (map (λ c. c.now) (take l.column-index l.columns))
