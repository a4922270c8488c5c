use Rattle.std.proofs.Common.{◌≡◌, ◌++◌}
use Rattle.hp_lowering.proofs.steps.append.Given as goal

abbrev pub invariant-loop-instr : goal.invariant-loop-instr
invariant-loop-instr l = l.list ≡ l.initial.list ++ l.yielded
