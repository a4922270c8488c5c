use Rattle.std.proofs.Common.{◌≡◌, ◌++◌, map}
use Rattle.std.specs.Vec.Iter.{into_iter_items}
use Rattle.hp_spmd.specs.LoopParts.{cut_piece}
use Rattle.hp_spmd.proofs.local.loops.cut_pieces.Given as goal

abbrev pub invariant-loop-cells : goal.invariant-loop-cells
invariant-loop-cells l = l.pieces.items ++ map (λ c. cut_piece l.height l.cuts c.items) (into_iter_items l.cells-iterator) ≡ map (λ c. cut_piece l.height l.cuts c.items) (into_iter_items l.initial.cells-iterator)
