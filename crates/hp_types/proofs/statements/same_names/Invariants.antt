-- The names so far are equal.
use Rattle.std.proofs.Common.{◌≡◌, drop}
use Rattle.hp_script.specs.Checked.{same_names}
use Rattle.hp_types.proofs.statements.same_names.Given as goal

abbrev pub invariant-loop-i : goal.invariant-loop-i
invariant-loop-i l = same_names l.a l.b ≡ same_names (drop l.i l.a) (drop l.i l.b)
