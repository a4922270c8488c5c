-- The laws of blocks.
use Rattle.hp_cuts.proofs.BlockLemmas.{are_blocks}
use Rattle.hp_cuts.proofs.cuts.block_laws.Goals as goal

pub returns : goal.returns
returns c = record { blocks = are_blocks }
