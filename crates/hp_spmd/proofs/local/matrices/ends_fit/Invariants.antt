-- What is left for the arrays behind those so far.
use Rattle.std.proofs.Common.{◌≡◌, ◌+◌, length, take}
use Rattle.std.specs.Prelude.{flat_map}
use Rattle.hp_word.specs.Lengths.{longest}
use Rattle.hp_spmd.specs.Arrays.{cells_at}
use Rattle.hp_spmd.proofs.local.matrices.ends_fit.Given as goal

abbrev pub invariant-loop-at : goal.invariant-loop-at
invariant-loop-at l = length (flat_map (cells_at l.arrays) (take l.at-index l.from)) + l.left ≡ longest
