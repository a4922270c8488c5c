-- A queue has as many nodes as messages.
use Rattle.std.proofs.Common.{ap, ◌∙◌}
use Rattle.hp_links.specs.declared.mailboxes.Ends.{Ends}
use Rattle.hp_links.proofs.MailLemmas.{length_seen}
use Rattle.hp_links.proofs.mailboxes.Mailboxes.len.Goals as goal

pub returns : goal.returns
returns c = ap (λ (e : Ends). e.count) c.ends_of.ensures ∙ length_seen (record { is = c.self.invariant; shows = c.self.view_is; sender = c.requires.sender; receiver = c.requires.receiver })
