use Rattle.hp_machine.proofs.MadeLemmas.{cells_end}
use Rattle.hp_machine.proofs.machine.cells_held.Goals as goal

pub returns : goal.returns
returns c = cells_end c.args.store.now.arrays c.as_slice-piece-items.result.now c.loop-piece.piece-index c.loop-piece.cells c.as_slice-piece-items.ensures c.loop-piece-test.false c.loop-piece.invariant.1 c.loop-piece.invariant.0
