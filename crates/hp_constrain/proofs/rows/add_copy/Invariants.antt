-- The constraints of the pairs so far are added.
use Rattle.std.proofs.Common.{take, flat_map, zip}
use Rattle.hp_air.specs.Constraints.{equal}
use Rattle.hp_constrain.specs.Listed.{Adds}
use Rattle.hp_constrain.proofs.rows.add_copy.Given as goal

abbrev pub invariant-loop-i : goal.invariant-loop-i
invariant-loop-i l = Adds (flat_map (λ p. equal p.0 p.1) (take l.i (zip l.outs l.ins))) l.initial.list.items l.list.items
