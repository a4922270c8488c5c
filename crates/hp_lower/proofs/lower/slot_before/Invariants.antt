use Rattle.hp_lower.proofs.LowerCode.{HasScanned}
use Rattle.hp_lower.proofs.lower.slot_before.Given as goal

abbrev pub invariant-loop-line : goal.invariant-loop-line
invariant-loop-line l = HasScanned l.lines l.name l.line-index l.slot l.arrays
