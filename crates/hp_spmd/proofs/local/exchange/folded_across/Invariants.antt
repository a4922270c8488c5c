use Rattle.std.proofs.Common.{◌≡◌, take}
use Rattle.hp_word.specs.Folds.{fold_of}
use Rattle.hp_spmd.specs.Messages.{words_across}
use Rattle.hp_spmd.proofs.local.exchange.folded_across.Given as goal

abbrev pub invariant-loop-message : goal.invariant-loop-message
invariant-loop-message l = l.so_far ≡ fold_of l.kind (words_across l.at (take l.message-index l.inbox))
