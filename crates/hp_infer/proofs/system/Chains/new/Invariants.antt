-- The constraints from a place on are chained.
use Rattle.hp_infer.proofs.ChainLemmas.{Chaining}
use Rattle.hp_infer.proofs.system.Chains.new.Given as goal

abbrev pub invariant-loop-from : goal.invariant-loop-from
invariant-loop-from l = Chaining l.side l.unknowns l.constraints l.first.items l.next.items l.from

abbrev pub decreases-loop-from : goal.decreases-loop-from
decreases-loop-from l = l.from
