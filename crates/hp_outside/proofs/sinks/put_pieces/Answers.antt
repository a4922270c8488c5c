use Rattle.std.proofs.Common.{◌∙◌}
use Rattle.hp_outside.proofs.Growth.{on_err, grew_piece, grew_short}
use Rattle.hp_outside.proofs.sinks.put_pieces.Goals as goal

pub loop-piece-preserved : goal.loop-piece-preserved
loop-piece-preserved g c = (
  grew_piece _ _ _ c.args.pieces.now c.loop-piece.piece-index c.loop-piece-test.true c.loop-piece.invariant.0 c.in_ok-put_all.ensures.all,
  c.in_ok-put_all.ensures.cause.kept ∙ c.loop-piece.invariant.1,
)

pub returns-in_err-put_all-clause-part : goal.returns-in_err-put_all-clause-part
returns-in_err-put_all-clause-part g c =
    let part = c.in_err-put_all.ensures.part in
    on_err c.from_residual.result (grew_short _ _ _ c.args.pieces.now c.loop-piece.piece-index c.loop-piece-test.true c.loop-piece.invariant.0 part.0 part.1 part.2)
