-- Each message has its next begin.
use Rattle.std.proofs.Common.{◌≡◌, ◌+◌, arith, length, min, take}
use Rattle.std.specs.Prelude.{sum}
use Rattle.hp_spmd.specs.MoveParts.{lengths_from, most_counted}
use Rattle.hp_spmd.proofs.GatherLemmas.{made_all, made_more}
use Rattle.hp_spmd.proofs.MovedLemmas.{begin_at, begins_count}
use Rattle.hp_spmd.proofs.local.moves.next_begins.Goals as goal

pub next_begin-requires-clause-begin : goal.next_begin-requires-clause-begin
next_begin-requires-clause-begin c =
    begin_at (lengths_from c.args.dists.now c.args.from.now c.args.need c.args.store.now.number c.args.store.now.ranks c.args.store.now.arrays) c.args.j (length c.args.store.now.inbox) c.loop-sender.sender c.args.begins.now c.requires.begins c.loop-sender-test.true

pub loop-sender-preserved : goal.loop-sender-preserved
loop-sender-preserved c =
    made_more (λ r. min (sum (take (c.args.j + 1) (lengths_from c.args.dists.now c.args.from.now c.args.need c.args.store.now.number c.args.store.now.ranks c.args.store.now.arrays r))) most_counted) c.loop-sender.sender c.loop-sender.next.items c.push.new.self.items c.next_begin.result
    c.loop-sender.invariant c.in_ok-push.ensures.items c.next_begin.ensures

pub returns : goal.returns
returns c =
    let count = begins_count (lengths_from c.args.dists.now c.args.from.now c.args.need c.args.store.now.number c.args.store.now.ranks c.args.store.now.arrays) c.args.j (length c.args.store.now.inbox) c.args.begins.now c.requires.begins in
    let all : c.loop-sender.sender ≡ length c.args.store.now.inbox = omega (arith, count) in
    made_all (λ r. min (sum (take (c.args.j + 1) (lengths_from c.args.dists.now c.args.from.now c.args.need c.args.store.now.number c.args.store.now.ranks c.args.store.now.arrays r))) most_counted) c.loop-sender.sender (length c.args.store.now.inbox) c.loop-sender.next.items c.loop-sender.invariant all
