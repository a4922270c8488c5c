use Rattle.std.proofs.Common.{◌≡◌, map, take}
use Rattle.hp_spmd.specs.declared.instr.Folding.{Folding}
use Rattle.hp_coll.proofs.reduce.words_of.Given as goal

abbrev pub invariant-loop-fold : goal.invariant-loop-fold
invariant-loop-fold l = l.words ≡ map (λ (f : Folding). f.word) (take l.fold-index l.folds)
