-- What was made so far.
use Rattle.std.proofs.Common.{◌≡◌, take}
use Rattle.hp_spmd.specs.Frames.{ones}
use Rattle.hp_spmd.proofs.local.filters.ones.Given as goal

abbrev pub invariant-loop-word : goal.invariant-loop-word
invariant-loop-word l = l.made.items ≡ ones (take l.word-index l.words)
