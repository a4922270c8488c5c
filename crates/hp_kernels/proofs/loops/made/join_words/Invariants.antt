-- The first words are joined.
use Rattle.std.proofs.Common.{◌≡◌}
use Rattle.hp_kernels.specs.LoopColumns.{first_rows, joined_with}
use Rattle.hp_kernels.proofs.BlockLemmas.{first_changed}
use Rattle.hp_kernels.proofs.loops.made.join_words.Given as goal

abbrev pub invariant-loop-k : goal.invariant-loop-k
invariant-loop-k l = l.words ≡ first_changed (joined_with (first_rows l.places l.kept)) l.k l.folds l.initial.words
