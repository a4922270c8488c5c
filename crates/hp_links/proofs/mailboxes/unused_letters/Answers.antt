-- No node yet.
use Rattle.std.proofs.Common.{refl}
use Rattle.hp_links.specs.Chains.{all_unused}
use Rattle.hp_links.proofs.mailboxes.unused_letters.Goals as goal

pub loop-node-init : goal.loop-node-init
unfolding all_unused
loop-node-init c = (c.in_ok-table.ensures.items, refl)
