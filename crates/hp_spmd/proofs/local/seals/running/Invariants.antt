-- The cuts so far, and their last.
use Rattle.std.proofs.Common.{◌≡◌, ◌+◌, map, take}
use Rattle.std.specs.Prelude.{sum}
use Rattle.std.specs.List.{range_with_len}
use Rattle.hp_spmd.proofs.local.seals.running.Given as goal

abbrev pub invariant-loop-size : goal.invariant-loop-size
invariant-loop-size l = record {
  cuts_are : l.cuts ≡ map (λ k. sum (take k l.sizes)) (range_with_len 0 (l.size-index + 1));
  total_is : l.total ≡ sum (take l.size-index l.sizes);
}
