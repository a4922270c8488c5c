use Rattle.std.proofs.Common.{◌≡◌, take}
use Rattle.hp_lowering.proofs.loops.copied_lets.Given as goal

abbrev pub invariant-loop-elem : goal.invariant-loop-elem
invariant-loop-elem l = l.copy ≡ take l.elem-index l.lets
