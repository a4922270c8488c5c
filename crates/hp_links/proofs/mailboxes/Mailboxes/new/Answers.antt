-- No queue has a message, and all nodes are unused.
use Rattle.hp_links.proofs.MailLemmas.{none_is, none_seen}
use Rattle.hp_links.proofs.mailboxes.Mailboxes.new.Goals as goal

pub invariant_of-result : goal.invariant_of-result
invariant_of-result c = rw (c.in_ok-table.ensures, c.in_ok-queues.ensures, c.last_node.ensures) (none_is c.args.ranks c.args.messages c.ranges.messages.fits)

pub returns : goal.returns
returns c = rw (c.in_ok-queues.ensures) (none_seen c.args.ranks c.in_ok-table.table.items c.args.messages)
