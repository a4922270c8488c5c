-- The lets so far.
use Rattle.std.proofs.Common.{◌+◌, take}
use Rattle.hp_kernels.specs.LoopColumns.{Computes}
use Rattle.hp_kernels.proofs.loops.lets_of_block.Given as goal

abbrev pub invariant-loop-elem : goal.invariant-loop-elem
invariant-loop-elem g l = Computes (λ i. g.S.Sources.sight l.source (l.first + i)) (take l.elem-index l.lets) l.initial.reach l.reach l.kept.items
