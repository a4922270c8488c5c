-- The sizes so far.
use Rattle.std.proofs.Common.{◌≡◌, map, take}
use Rattle.hp_word.specs.declared.table.Message.{Message}
use Rattle.hp_word.specs.ListRules.{at_least_zero}
use Rattle.hp_word.specs.LoopRules.{word_at}
use Rattle.hp_spmd.proofs.local.seals.sizes_of.Given as goal

abbrev pub invariant-loop-message : goal.invariant-loop-message
invariant-loop-message l = l.made.items ≡ map (λ (m : Message). at_least_zero (word_at m.words 0)) (take l.message-index l.inbox)
