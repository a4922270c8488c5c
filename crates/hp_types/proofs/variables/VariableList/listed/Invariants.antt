-- The variables so far, and those that follow.
use Rattle.std.proofs.Common.{◌≡◌, ◌++◌, drop}
use Rattle.hp_types.specs.Names.{variables_of}
use Rattle.hp_types.proofs.variables.VariableList.listed.Given as goal

abbrev pub invariant-loop-i : goal.invariant-loop-i
invariant-loop-i l = l.list ++ variables_of (drop l.i l.self-inside.types.entries) ≡ variables_of l.self-inside.types.entries
