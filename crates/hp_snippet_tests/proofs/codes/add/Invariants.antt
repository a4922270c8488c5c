-- The instructions so far stand behind the others.
use Rattle.std.proofs.Common.{◌≡◌, ◌++◌}
use Rattle.hp_snippet_tests.proofs.codes.add.Given as goal

abbrev pub invariant-loop-instr : goal.invariant-loop-instr
invariant-loop-instr l = l.list ≡ l.initial.list ++ l.yielded
