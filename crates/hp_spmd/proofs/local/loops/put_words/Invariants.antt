use Rattle.std.proofs.Common.{◌≡◌, drop}
use Rattle.hp_spmd.specs.LoopParts.{with_words}
use Rattle.hp_spmd.proofs.local.loops.put_words.Given as goal

abbrev pub invariant-loop-k : goal.invariant-loop-k
invariant-loop-k l = with_words (drop l.k l.folds) (drop l.k l.made) l.words ≡ with_words l.folds l.made l.initial.words
