use Rattle.std.proofs.Common.{◌≡◌, map, take}
use Rattle.hp_spmd.specs.declared.instr.Folding.{Folding}
use Rattle.hp_coll.proofs.reduce.kinds_of.Given as goal

abbrev pub invariant-loop-fold : goal.invariant-loop-fold
invariant-loop-fold l = l.kinds ≡ map (λ (f : Folding). (f.word, f.kind)) (take l.fold-index l.folds)
