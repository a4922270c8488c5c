-- The cells of one array more are too many.
use Rattle.std.proofs.Common.{◌<◌, subst, length}
use Rattle.hp_spmd.specs.Arrays.{cells_at}
use Rattle.hp_spmd.proofs.MatrixNext.{ends_break}
use Rattle.hp_spmd.proofs.local.matrices.ends_fit.Goals as goal

pub returns-then-count-left : goal.returns-then-count-left
returns-then-count-left c =
    ends_break (cells_at c.args.arrays.now) c.args.from.now c.loop-at.at-index c.loop-at.left 0 c.loop-at-test.true c.loop-at.invariant
    (subst (λ l. c.loop-at.left < length l) c.cells_at.ensures c.if-count-left.true)
