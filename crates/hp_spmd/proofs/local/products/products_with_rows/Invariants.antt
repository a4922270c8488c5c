-- The products so far.
use Rattle.std.proofs.Common.{◌≡◌, take}
use Rattle.std.specs.Prelude.{flat_map}
use Rattle.hp_word.specs.MatrixRules.{products_of}
use Rattle.hp_spmd.proofs.local.products.products_with_rows.Given as goal

abbrev pub invariant-loop-other : goal.invariant-loop-other
invariant-loop-other l = l.made.items ≡ flat_map (products_of l.rows) (take l.other-index l.others)
