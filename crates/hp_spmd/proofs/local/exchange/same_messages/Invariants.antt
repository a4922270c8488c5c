use Rattle.std.proofs.Common.{◌≡◌, replicate}
use Rattle.hp_spmd.specs.Messages.{message_of}
use Rattle.hp_spmd.proofs.local.exchange.same_messages.Given as goal

abbrev pub invariant-loop-rank : goal.invariant-loop-rank
invariant-loop-rank l = l.list.items ≡ replicate l._rank (message_of l.words)
