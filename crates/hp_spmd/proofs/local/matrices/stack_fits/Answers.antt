-- Arrays end to end have as many cells as they have together.
use Rattle.hp_spmd.proofs.MatrixNext.{flat_fits}
use Rattle.hp_spmd.proofs.local.matrices.stack_fits.Goals as goal

pub returns-then-flat : goal.returns-then-flat
returns-then-flat c = flat_fits c.args.arrays.now c.args.from.now c.args.flat c.ends_fit.result c.if-flat.true c.ends_fit.ensures
