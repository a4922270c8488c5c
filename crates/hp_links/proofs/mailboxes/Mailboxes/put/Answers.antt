-- The queues lie in the table with one message more.
use Rattle.hp_links.specs.Chains.{full, pair}
use Rattle.hp_links.proofs.MailLemmas.{last_within, put_closes}
use Rattle.hp_links.proofs.mailboxes.Mailboxes.put.Goals as goal

pub tie-requires : goal.tie-requires
tie-requires c =
    last_within c.in-Some.node (full (pair c.args.sender c.args.receiver) c.args.message) c.ends_of-old.result c.fill-self-inside.new.table.items
    (record { is = c.self.invariant; shows = c.self.view_is; sender = c.requires.sender; receiver = c.requires.receiver }) c.ends_of-old.ensures c.fill-self-inside.ensures.table

pub invariant_of-self : goal.invariant_of-self
invariant_of-self c =
    (put_closes c.in-Some.node c.args.message c.ends_of-old.result c.longer.result c.fill-self-inside.new.table.items c.tie.new.table.items c.set_ends.new.queues.items c.fill-self-inside.result
    (record { is = c.self.invariant; shows = c.self.view_is; sender = c.requires.sender; receiver = c.requires.receiver })
    c.in-Some.is c.ends_of-old.ensures c.fill-self-inside.ensures.table c.tie.ensures c.longer.ensures c.set_ends.ensures c.fill-self-inside.ensures.next).0

pub returns : goal.returns
returns c =
    (put_closes c.in-Some.node c.args.message c.ends_of-old.result c.longer.result c.fill-self-inside.new.table.items c.tie.new.table.items c.set_ends.new.queues.items c.fill-self-inside.result
    (record { is = c.self.invariant; shows = c.self.view_is; sender = c.requires.sender; receiver = c.requires.receiver })
    c.in-Some.is c.ends_of-old.ensures c.fill-self-inside.ensures.table c.tie.ensures c.longer.ensures c.set_ends.ensures c.fill-self-inside.ensures.next).1
