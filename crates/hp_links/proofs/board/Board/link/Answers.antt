-- The table as it was lent out and given back, and the list with one more node.
use Rattle.std.proofs.Common.{◌≡◌, length, ap, ◌∙◌, Some}
use Rattle.hp_links.specs.Links.{with_after}
use Rattle.hp_links.proofs.LinkLemmas.{closed, last_is_within, length_after, lent_whole, link_closes, link_shows}
use Rattle.hp_links.proofs.board.Board.link.Goals as goal

pub follow-requires : goal.follow-requires
follow-requires c = rw c.deref_mut.ensures.value (last_is_within c.self.invariant)

pub invariant_of-self : goal.invariant_of-self
invariant_of-self c =
    let written : c.follow.new.table ≡ with_after c.self.inside.last (Some c.args.node) c.self.inside.table.items =
    c.follow.ensures.table ∙ ap (with_after c.self.inside.last (Some c.args.node)) c.deref_mut.ensures.value in
    let whole : length c.follow.new.table ≡ c.self.inside.table.len =
    ap length c.follow.ensures.table ∙ length_after c.self.inside.last (Some c.args.node) c.deref_mut.result.now ∙ c.deref_mut.ensures.len in
    rw (lent_whole c.follow.new.table c.self.inside.table.items c.self.inside.table.len whole)
    (closed (link_closes c.self.inside.table.items c.follow.new.table c.self.inside.first c.self.inside.last c.follow.new.first c.args.self.now c.args.node c.self.invariant c.self.view_is c.requires.below c.requires.free written c.follow.ensures.first))

pub returns : goal.returns
returns c =
    let written : c.follow.new.table ≡ with_after c.self.inside.last (Some c.args.node) c.self.inside.table.items =
    c.follow.ensures.table ∙ ap (with_after c.self.inside.last (Some c.args.node)) c.deref_mut.ensures.value in
    let whole : length c.follow.new.table ≡ c.self.inside.table.len =
    ap length c.follow.ensures.table ∙ length_after c.self.inside.last (Some c.args.node) c.deref_mut.result.now ∙ c.deref_mut.ensures.len in
    rw (lent_whole c.follow.new.table c.self.inside.table.items c.self.inside.table.len whole)
    (link_shows c.self.inside.table.items c.follow.new.table c.self.inside.first c.self.inside.last c.follow.new.first c.args.self.now c.args.node c.self.invariant c.self.view_is c.requires.below c.requires.free written c.follow.ensures.first)
