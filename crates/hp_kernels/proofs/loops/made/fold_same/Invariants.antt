-- The fold so far.
use Rattle.std.proofs.Common.{◌≡◌, replicate}
use Rattle.hp_word.specs.Folds.{fold_of}
use Rattle.hp_kernels.proofs.loops.made.fold_same.Given as goal

abbrev pub invariant-loop-place : goal.invariant-loop-place
invariant-loop-place l = l.so_far ≡ fold_of l.kind (replicate l._place l.word)
