-- The cuts so far.
use Rattle.std.proofs.Common.{◌≡◌, ◌-◌, min, map}
use Rattle.std.specs.List.{range_with_len}
use Rattle.hp_cuts.specs.Blocks.{block_start}
use Rattle.hp_spmd.proofs.local.needs.cuts_behind.Given as goal

abbrev pub invariant-loop-rank : goal.invariant-loop-rank
invariant-loop-rank l = l.cuts.items ≡ map (λ r. min (block_start r l.both l.ranks - l.before) l.length) (range_with_len 0 l.rank)
