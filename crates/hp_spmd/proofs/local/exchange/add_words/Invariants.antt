-- What is added, with what is still to come, is all.
use Rattle.std.proofs.Common.{◌≡◌, ◌++◌, drop}
use Rattle.hp_spmd.specs.Unpacks.{joined_words}
use Rattle.hp_spmd.proofs.local.exchange.add_words.Given as goal

abbrev pub invariant-loop-message : goal.invariant-loop-message
invariant-loop-message l = l.words.items ++ joined_words (drop l.message-index l.inbox) ≡ l.initial.words.items ++ joined_words l.inbox
