-- The columns so far.
use Rattle.std.proofs.Common.{◌≡◌, map, take}
use Rattle.hp_spmd.specs.Arrays.{cells_at}
use Rattle.hp_spmd.proofs.local.columns.array_columns.Given as goal

abbrev pub invariant-loop-at : goal.invariant-loop-at
invariant-loop-at l = map (λ c. c.now) l.made.items ≡ map (cells_at l.arrays) (take l.at-index l.from)
