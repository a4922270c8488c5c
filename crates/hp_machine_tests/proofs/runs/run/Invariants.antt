use Rattle.std.proofs.Common.{◌≤◌, length}
use Rattle.hp_machine.proofs.RunLemmas.{IsRun}
use Rattle.hp_machine_tests.proofs.runs.run.Given as goal

-- the machine is the run of the turns that were made
abbrev pub invariant-loop-call : goal.invariant-loop-call
invariant-loop-call g l = IsRun l.code l.tables l.machine l.taken.items × (length l.taken.items ≤ l.bound)
