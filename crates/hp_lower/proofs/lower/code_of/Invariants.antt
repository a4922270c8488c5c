use Rattle.hp_lower.proofs.LowerCode.{HasLowered}
use Rattle.hp_lower.proofs.lower.code_of.Given as goal

abbrev pub invariant-loop-i : goal.invariant-loop-i
invariant-loop-i l = HasLowered l.lines l.i l.list l.arrays
