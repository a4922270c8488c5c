-- The cells so far.
use Rattle.std.proofs.Common.{◌≡◌, take}
use Rattle.std.specs.Prelude.{flat_map}
use Rattle.hp_spmd.specs.Arrays.{cells_at}
use Rattle.hp_spmd.proofs.local.matrices.end_to_end.Given as goal

abbrev pub invariant-loop-at : goal.invariant-loop-at
invariant-loop-at l = l.made.items ≡ flat_map (cells_at l.arrays) (take l.at-index l.from)
