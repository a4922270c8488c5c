use Rattle.std.proofs.Common.{◌≡◌, replicate}
use Rattle.hp_spmd.specs.Store.{no_message}
use Rattle.hp_spmd.proofs.local.words.empty_messages.Given as goal

abbrev pub invariant-loop-made : goal.invariant-loop-made
invariant-loop-made l = l.list.items ≡ replicate l._made no_message
