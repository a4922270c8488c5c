-- The constraints of the arrays so far are added.
use Rattle.std.proofs.Common.{take}
use Rattle.hp_air.specs.Constraints.{equal_all}
use Rattle.hp_constrain.specs.Listed.{Adds}
use Rattle.hp_constrain.proofs.rows.add_equal_all.Given as goal

abbrev pub invariant-loop-other : goal.invariant-loop-other
invariant-loop-other l = Adds (equal_all l.a (take l.other-index l.others)) l.initial.list.items l.list.items
