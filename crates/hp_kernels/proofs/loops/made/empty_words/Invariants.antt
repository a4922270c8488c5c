-- The words so far.
use Rattle.std.proofs.Common.{◌≡◌, [], map, take}
use Rattle.hp_kernels.specs.Loops.{fold_word}
use Rattle.hp_kernels.proofs.loops.made.empty_words.Given as goal

abbrev pub invariant-loop-folding : goal.invariant-loop-folding
invariant-loop-folding l = l.words.items ≡ map (fold_word []) (take l.folding-index l.folds)
