-- The rows from a place on are linked.
use Rattle.hp_kernels.proofs.LinkedLemmas.{Linking}
use Rattle.hp_kernels.proofs.key_rows.KeyRows.of.Given as goal

abbrev pub invariant-loop-from : goal.invariant-loop-from
invariant-loop-from l = Linking l.column l.from l.made

abbrev pub decreases-loop-from : goal.decreases-loop-from
decreases-loop-from l = l.from
