-- The names so far are added.
use Rattle.std.proofs.Common.{◌≡◌, ◌++◌, map, take}
use Rattle.std.specs.Prelude.{codes}
use Rattle.hp_word.specs.declared.name.Name.{Name}
use Rattle.hp_word.specs.Text.{joined_by}
use Rattle.hp_spmd.proofs.lockstep.output.add_names.Given as goal

abbrev pub invariant-loop-i : goal.invariant-loop-i
invariant-loop-i l = l.out.items ≡ l.initial.out.items ++ joined_by (codes ",") (map (λ (name : Name). name.bytes) (take l.i l.names))
