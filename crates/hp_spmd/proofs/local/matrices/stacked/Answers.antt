-- Arrays end to end are a vector that is whole on each rank.
use Rattle.hp_spmd.proofs.MatrixNext.{flat_piece}
use Rattle.hp_spmd.proofs.local.matrices.stacked.Goals as goal

pub returns-then-flat : goal.returns-then-flat
returns-then-flat c = flat_piece c.whole_piece.result c.args.arrays.now c.args.from.now c.args.flat _ c.if-flat.true c.whole_piece.ensures c.in_ok-end_to_end.ensures
