-- The names that the statements so far assign are among these.
use Rattle.std.proofs.Common.{◌≡◌, ℕ, ◌||◌, List, drop}
use Rattle.hp_script.specs.Scope.{has}
use Rattle.hp_types.proofs.Assigned.{assigns}
use Rattle.hp_types.proofs.names.+assigns.Given as goal

abbrev pub invariant-add_assigned-loop-stmt : goal.invariant-add_assigned-loop-stmt
invariant-add_assigned-loop-stmt l = (x : List ℕ) → (has x l.names || assigns x (drop l.stmt-index l.body)) ≡ (has x l.initial.names || assigns x l.body)
