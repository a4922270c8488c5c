use Rattle.std.proofs.Common.{◌≡◌, map}
use Rattle.std.specs.List.{range_with_len}
use Rattle.hp_cuts.specs.Blocks.{block_start}
use Rattle.hp_spmd.proofs.local.pieces.block_cuts.Given as goal

abbrev pub invariant-loop-rank : goal.invariant-loop-rank
invariant-loop-rank l = l.cuts.items ≡ map (λ r. block_start r l.length l.ranks) (range_with_len 0 l.rank)
