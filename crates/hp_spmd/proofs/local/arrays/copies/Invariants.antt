use Rattle.std.proofs.Common.{◌≡◌, map, take}
use Rattle.hp_spmd.specs.Store.{piece_at}
use Rattle.hp_spmd.proofs.local.arrays.copies.Given as goal

abbrev pub invariant-loop-at : goal.invariant-loop-at
invariant-loop-at l = l.made.items ≡ map (piece_at l.arrays) (take l.at-index l.from)
