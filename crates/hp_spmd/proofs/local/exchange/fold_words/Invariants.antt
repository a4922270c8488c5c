use Rattle.std.proofs.Common.{◌≡◌, drop}
use Rattle.hp_spmd.specs.Messages.{with_words_folded}
use Rattle.hp_spmd.proofs.local.exchange.fold_words.Given as goal

abbrev pub invariant-loop-at : goal.invariant-loop-at
invariant-loop-at l = with_words_folded l.at l.inbox (drop l.at l.list) l.words ≡ with_words_folded 0 l.inbox l.list l.initial.words
