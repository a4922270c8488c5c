-- One more column.
use Rattle.std.proofs.Common.{◌*◌, take, drop}
use Rattle.hp_spmd.proofs.MatrixNext.{columns_more}
use Rattle.hp_spmd.proofs.local.matrices.columns_of.Goals as goal

pub loop-number-preserved : goal.loop-number-preserved
loop-number-preserved c =
    columns_more (λ c. c.now) (λ j. take c.args.rows (drop (j * c.args.rows) c.args.cells.now)) c.loop-number.number c.loop-number.made.items c.push.new.self.items c.column.result
    c.loop-number.invariant c.column.ensures c.in_ok-push.ensures.items
