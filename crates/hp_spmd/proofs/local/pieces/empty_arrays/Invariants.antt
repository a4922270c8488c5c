use Rattle.std.proofs.Common.{◌≡◌, [], map, take}
use Rattle.hp_spmd.specs.Store.{dealt}
use Rattle.hp_spmd.proofs.local.pieces.empty_arrays.Given as goal

abbrev pub invariant-loop-dist : goal.invariant-loop-dist
invariant-loop-dist l = l.pieces.items ≡ map (λ dist. dealt dist l.number l.ranks []) (take l.dist-index l.dists)
