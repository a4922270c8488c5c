-- The queues lie in the table without the front of one.
use Rattle.std.proofs.Common.{ap, sym, ◌∙◌, Some}
use Rattle.std.specs.Prelude.{slice_get}
use Rattle.hp_links.specs.Mails.{without_front}
use Rattle.hp_links.proofs.MailLemmas.{none_by, none_taken, take_closes, take_within}
use Rattle.hp_links.proofs.mailboxes.Mailboxes.take.Goals as goal

pub empty-message-requires : goal.empty-message-requires
empty-message-requires c =
    (take_within c.in-Some.node c.ends_of-old.result (record { is = c.self.invariant; shows = c.self.view_is; sender = c.requires.sender; receiver = c.requires.receiver }) c.ends_of-old.ensures c.in-Some.is).0

pub invariant_of-self : goal.invariant_of-self
invariant_of-self c =
    (take_closes c.in-Some.node c.ends_of-old.result c.shorter.result c.empty-message.new.table.items c.set_ends.new.queues.items c.empty-message.result.1
    (record { is = c.self.invariant; shows = c.self.view_is; sender = c.requires.sender; receiver = c.requires.receiver })
    c.ends_of-old.ensures c.in-Some.is c.empty-message.ensures.table c.empty-message.ensures.next c.shorter.ensures c.set_ends.ensures).0

pub returns-in_default-clause-front : goal.returns-in_default-clause-front
returns-in_default-clause-front c = sym (ap (λ q. slice_get q 0) (none_taken c.ends_of-old.result (record { is = c.self.invariant; shows = c.self.view_is; sender = c.requires.sender; receiver = c.requires.receiver }) c.ends_of-old.ensures (none_by c.ends_of-old.result.first c.in_default.not-Some)))

pub returns-in_default-clause-rest : goal.returns-in_default-clause-rest
returns-in_default-clause-rest c = ap (λ q. without_front q c.args.sender c.args.receiver c.args.self.now) (sym (none_taken c.ends_of-old.result (record { is = c.self.invariant; shows = c.self.view_is; sender = c.requires.sender; receiver = c.requires.receiver }) c.ends_of-old.ensures (none_by c.ends_of-old.result.first c.in_default.not-Some)))

pub returns-clause-front : goal.returns-clause-front
returns-clause-front c =
    ap Some c.empty-message.ensures.message ∙ sym (take_closes c.in-Some.node c.ends_of-old.result c.shorter.result c.empty-message.new.table.items c.set_ends.new.queues.items c.empty-message.result.1
    (record { is = c.self.invariant; shows = c.self.view_is; sender = c.requires.sender; receiver = c.requires.receiver })
    c.ends_of-old.ensures c.in-Some.is c.empty-message.ensures.table c.empty-message.ensures.next c.shorter.ensures c.set_ends.ensures).1.1

pub returns-clause-rest : goal.returns-clause-rest
returns-clause-rest c =
    (take_closes c.in-Some.node c.ends_of-old.result c.shorter.result c.empty-message.new.table.items c.set_ends.new.queues.items c.empty-message.result.1
    (record { is = c.self.invariant; shows = c.self.view_is; sender = c.requires.sender; receiver = c.requires.receiver })
    c.ends_of-old.ensures c.in-Some.is c.empty-message.ensures.table c.empty-message.ensures.next c.shorter.ensures c.set_ends.ensures).1.0
