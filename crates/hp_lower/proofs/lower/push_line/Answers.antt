use Rattle.std.proofs.Common.{arith}
use Rattle.hp_lower.proofs.LowerCode.{blocks_few}
use Rattle.hp_lower.proofs.lower.push_line.Goals as goal

pub overflow_cast-slot : goal.overflow_cast-slot
overflow_cast-slot c = omega (arith, c.len-slot.ensures, c.requires.few, blocks_few c.args.before.now c.args.arrays.now c.requires.blocks)
