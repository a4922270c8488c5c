-- The cells so far.
use Rattle.std.proofs.Common.{◌≡◌, ◌++◌, map, take}
use Rattle.hp_word.specs.LoopRules.{word_at}
use Rattle.hp_spmd.specs.Arrays.{cells_at}
use Rattle.hp_spmd.specs.Messages.{message_of}
use Rattle.hp_spmd.proofs.local.packs.add_row.Given as goal

abbrev pub invariant-loop-array : goal.invariant-loop-array
invariant-loop-array l = l.message ≡ message_of (l.initial.message.words ++ map (λ k. word_at (cells_at l.pieces k) l.row) (take l.array-index l.arrays))
