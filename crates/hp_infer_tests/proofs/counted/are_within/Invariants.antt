-- Where the rest is within, all are.
use Rattle.std.proofs.Common.{drop}
use Rattle.hp_infer.specs.Systems.{AreWithin}
use Rattle.hp_infer_tests.proofs.counted.are_within.Given as goal

abbrev pub invariant-loop-constraint : goal.invariant-loop-constraint
invariant-loop-constraint l = AreWithin l.unknowns (drop l.constraint-index l.constraints) → AreWithin l.unknowns l.constraints
