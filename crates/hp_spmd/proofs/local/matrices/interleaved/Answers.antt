-- The cells of one more place.
use Rattle.std.proofs.Common.{map}
use Rattle.hp_spmd.proofs.MatrixNext.{interleaved_more}
use Rattle.hp_spmd.proofs.local.matrices.interleaved.Goals as goal

pub loop-place-preserved : goal.loop-place-preserved
loop-place-preserved c =
    interleaved_more (map (λ c. c.now) c.args.lists.now) c.loop-place.place c.loop-place.made.items c.add_cells.new.made.items c.loop-place.invariant c.in_ok-add_cells.ensures
