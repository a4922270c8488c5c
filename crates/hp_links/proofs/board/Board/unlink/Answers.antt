-- The table as it was lent out and given back twice, and the list without the node.
use Rattle.std.proofs.Common.{◌≡◌, ◌<◌, false, length, sym, ◌∙◌, refl}
use Rattle.std.proofs.lemmas.List.{get_or_read}
use Rattle.hp_links.specs.Links.{free, node_at}
use Rattle.hp_links.proofs.LinkLemmas.{closed, sides_stand, node_stands, LentTwice, lent_twice, unlink_closes, unlink_shows}
use Rattle.hp_links.proofs.board.Board.unlink.Goals as goal

pub follow-requires : goal.follow-requires
follow-requires c =
    let t = c.self.inside.table.items in
    let within : c.args.node < length t = node_stands t c.self.inside.first c.self.inside.last c.args.self.now c.args.node c.self.invariant c.self.view_is c.requires in
    let stood : node_at t c.args.node ≡ c.index.result.now = sym (get_or_read t c.args.node c.index.result.now within c.index.ensures free) in
    rw c.deref_mut.ensures.value
    ((sides_stand t c.self.inside.first c.self.inside.last c.args.self.now c.args.node c.index.result.now c.self.invariant c.self.view_is c.requires stood).0)

pub precede-requires : goal.precede-requires
precede-requires c =
    let t = c.self.inside.table.items in
    let within : c.args.node < length t = node_stands t c.self.inside.first c.self.inside.last c.args.self.now c.args.node c.self.invariant c.self.view_is c.requires in
    let stood : node_at t c.args.node ≡ c.index.result.now = sym (get_or_read t c.args.node c.index.result.now within c.index.ensures free) in
    let lent : length c.deref_mut-2.result.now ≡ length t = c.deref_mut-2.ensures.len ∙ c.self.inside.table.ok.0 in
    rw lent
    ((sides_stand t c.self.inside.first c.self.inside.last c.args.self.now c.args.node c.index.result.now c.self.invariant c.self.view_is c.requires stood).1)

pub invariant_of-self : goal.invariant_of-self
invariant_of-self c =
    let t = c.self.inside.table.items in
    let old = c.index.result.now in
    let within : c.args.node < length t = node_stands t c.self.inside.first c.self.inside.last c.args.self.now c.args.node c.self.invariant c.self.view_is c.requires in
    let stood : node_at t c.args.node ≡ old = sym (get_or_read t c.args.node old within c.index.ensures free) in
    let twice : LentTwice t c.follow.new.table c.precede.new.table c.self.inside.table.len old.before old.after =
    lent_twice t c.deref_mut.result.now c.follow.new.table c.deref_mut-2.result.now c.precede.new.table c.self.inside.table.len old.before old.after c.self.inside.table.ok.0 c.deref_mut.ensures.value c.follow.ensures.table c.deref_mut-2.ensures.value c.precede.ensures.table in
    rw twice.after_both
    (closed (unlink_closes t c.precede.new.table c.self.inside.first c.self.inside.last c.follow.new.first c.precede.new.last c.args.self.now c.args.node old (record { linked = false; before = c.index_mut.result.now.before; after = c.index_mut.result.now.after })
    c.self.invariant c.self.view_is c.requires stood twice.written c.follow.ensures.first c.precede.ensures.last refl))

pub returns : goal.returns
returns c =
    let t = c.self.inside.table.items in
    let old = c.index.result.now in
    let within : c.args.node < length t = node_stands t c.self.inside.first c.self.inside.last c.args.self.now c.args.node c.self.invariant c.self.view_is c.requires in
    let stood : node_at t c.args.node ≡ old = sym (get_or_read t c.args.node old within c.index.ensures free) in
    let twice : LentTwice t c.follow.new.table c.precede.new.table c.self.inside.table.len old.before old.after =
    lent_twice t c.deref_mut.result.now c.follow.new.table c.deref_mut-2.result.now c.precede.new.table c.self.inside.table.len old.before old.after c.self.inside.table.ok.0 c.deref_mut.ensures.value c.follow.ensures.table c.deref_mut-2.ensures.value c.precede.ensures.table in
    rw twice.after_both
    (unlink_shows t c.precede.new.table c.self.inside.first c.self.inside.last c.follow.new.first c.precede.new.last c.args.self.now c.args.node old (record { linked = false; before = c.index_mut.result.now.before; after = c.index_mut.result.now.after })
    c.self.invariant c.self.view_is c.requires stood twice.written c.follow.ensures.first c.precede.ensures.last refl)
