-- All sizes.
use Rattle.hp_spmd.proofs.SealLemmas.{sizes_all}
use Rattle.hp_spmd.proofs.local.seals.sizes_of.Goals as goal

pub returns : goal.returns
returns c = sizes_all c.args.inbox.now c.loop-message.message-index c.loop-message.made.items c.loop-message.invariant c.loop-message-test.false
