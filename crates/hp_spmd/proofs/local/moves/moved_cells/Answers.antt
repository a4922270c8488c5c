-- Each message has its part.
use Rattle.std.proofs.Common.{◌∙◌, ◌≡◌, arith, length}
use Rattle.hp_spmd.specs.MoveParts.{lengths_from}
use Rattle.hp_spmd.specs.Store.{message_at}
use Rattle.hp_spmd.specs.Unpacks.{part_at}
use Rattle.hp_spmd.proofs.MovedLemmas.{begin_at, begins_count, part_more, parts_all}
use Rattle.hp_spmd.proofs.local.moves.moved_cells.Goals as goal

pub moved_part-part-requires-clause-begin : goal.moved_part-part-requires-clause-begin
moved_part-part-requires-clause-begin c =
    begin_at (lengths_from c.args.dists.now c.args.from.now c.args.need c.args.store.now.number c.args.store.now.ranks c.args.store.now.arrays) c.args.j (length c.args.store.now.inbox) c.loop-sender.sender c.args.begins.now c.requires.begins c.loop-sender-test.true

pub loop-sender-preserved : goal.loop-sender-preserved
loop-sender-preserved c =
    part_more (λ r. part_at (lengths_from c.args.dists.now c.args.from.now c.args.need c.args.store.now.number c.args.store.now.ranks c.args.store.now.arrays r) c.args.j (message_at c.args.store.now.inbox r).words) c.loop-sender.sender c.loop-sender.cells.items c.extend_from_slice.new.self.items c.moved_part-part.result.now
    c.loop-sender.invariant c.in_ok-extend_from_slice.ensures.items c.moved_part-part.ensures

pub returns : goal.returns
returns c =
    let count = begins_count (lengths_from c.args.dists.now c.args.from.now c.args.need c.args.store.now.number c.args.store.now.ranks c.args.store.now.arrays) c.args.j (length c.args.store.now.inbox) c.args.begins.now c.requires.begins in
    let all : c.loop-sender.sender ≡ length c.args.store.now.inbox = omega (arith, count) in
    c.from_vec.ensures ∙ parts_all (λ r. part_at (lengths_from c.args.dists.now c.args.from.now c.args.need c.args.store.now.number c.args.store.now.ranks c.args.store.now.arrays r) c.args.j (message_at c.args.store.now.inbox r).words) c.loop-sender.sender (length c.args.store.now.inbox) c.loop-sender.cells.items c.loop-sender.invariant all
