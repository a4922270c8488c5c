-- The arrays so far.
use Rattle.std.proofs.Common.{◌≡◌, map, take}
use Rattle.hp_spmd.specs.SealParts.{sealed}
use Rattle.hp_spmd.proofs.local.seals.sealed.Given as goal

abbrev pub invariant-loop-column : goal.invariant-loop-column
invariant-loop-column l = l.made.items ≡ map (sealed l.columns l.cuts) (take l.column-index l.loose)
