-- The columns so far.
use Rattle.std.proofs.Common.{◌≡◌, map}
use Rattle.hp_spmd.specs.Matrices.{columns_of}
use Rattle.hp_spmd.proofs.local.matrices.columns_of.Given as goal

abbrev pub invariant-loop-number : goal.invariant-loop-number
invariant-loop-number l = map (λ c. c.now) l.made.items ≡ columns_of l.rows l.number l.cells
