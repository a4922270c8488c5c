-- The pieces so far, before those of the other columns, are those of all.
use Rattle.std.proofs.Common.{◌≡◌, ◌++◌, map}
use Rattle.std.specs.Vec.Iter.{into_iter_items}
use Rattle.hp_spmd.specs.Matrices.{whole_piece}
use Rattle.hp_spmd.proofs.local.columns.whole_pieces.Given as goal

abbrev pub invariant-loop-cells : goal.invariant-loop-cells
invariant-loop-cells l = l.made.items ++ map (whole_piece 1) (into_iter_items l.cells-iterator) ≡ map (whole_piece 1) (into_iter_items l.initial.cells-iterator)
