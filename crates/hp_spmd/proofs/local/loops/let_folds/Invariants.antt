use Rattle.std.proofs.Common.{◌≡◌, map, take}
use Rattle.hp_spmd.specs.LoopParts.{let_fold}
use Rattle.hp_spmd.proofs.local.loops.let_folds.Given as goal

abbrev pub invariant-loop-folding : goal.invariant-loop-folding
invariant-loop-folding l = l.made.items ≡ map let_fold (take l.folding-index l.folds)
