-- The longest so far, and the longest of the others.
use Rattle.std.proofs.Common.{◌≡◌, max, drop}
use Rattle.hp_spmd.specs.Unpacks.{most_words}
use Rattle.hp_spmd.proofs.local.receipts.most_words.Given as goal

abbrev pub invariant-loop-message : goal.invariant-loop-message
invariant-loop-message l = max l.most (most_words (drop l.message-index l.inbox)) ≡ most_words l.inbox
