-- What came of each answer of a step.
use Rattle.std.proofs.Common.{◌≡◌, ◌∙◌, sym, subst, ap, true, ◌<◌, length, ◌++◌, refl}
use Rattle.hp_links.specs.Mails.{queue_at}
use Rattle.hp_network.specs.Rows.{at_most}
use Rattle.hp_rank.specs.declared.rank.Did.TheVariants as did
use Rattle.hp_rank.specs.declared.rank.Rank.{Rank}
use Rattle.hp_rank.specs.Steps.{CanStep, Does, receiver_of}
use Rattle.hp_spmd.specs.Act.{act}
use Rattle.hp_turns.specs.Turns.{machine}
use Rattle.hp_machine.specs.Parts.{HasRoom, has_space}
use Rattle.hp_machine.specs.States.{Comes, HasMoved}
use Rattle.hp_machine.proofs.ActLemmas.{IsAmong, is_among}
use Rattle.hp_machine.proofs.DoneLemmas.{moved_comes, posts_comes, posts_fit, wants_among, wants_same, wants_inside, writes_same, writes_inside, takes_comes, writes_comes, trapped_comes, halted_comes, blocked, on_err}
use Rattle.hp_machine.proofs.RoomLemmas.{room_for, room_put, room_taken}
use Rattle.hp_machine.proofs.action.act.Goals as goal

pub returns-in-Moved-clause-did : goal.returns-in-Moved-clause-did
returns-in-Moved-clause-did c = λ some.
    let a = act c.args.code.now c.args.tables.now c.args.rank.now.store in
    moved_comes c.args.code.now c.args.tables.now c.args.room some a c.args.number c.args.rank.now.store c.step.new.self.store c.args.queues.now c.args.out.now.items
    (subst (λ d. Does a d c.args.rank.now.store c.step.new.self.store) c.in-Moved.is c.in_ok-step.ensures.did)

pub returns-in-Trapped-clause-did : goal.returns-in-Trapped-clause-did
returns-in-Trapped-clause-did c = λ some.
    let a = act c.args.code.now c.args.tables.now c.args.rank.now.store in
    trapped_comes c.args.code.now c.args.tables.now c.args.room some a c.args.number c.in-Trapped.at c.in-Trapped.kind c.args.rank.now.store c.step.new.self.store c.args.queues.now c.args.out.now.items
    (subst (λ d. Does a d c.args.rank.now.store c.step.new.self.store) c.in-Trapped.is c.in_ok-step.ensures.did)

pub returns-in-Halted-clause-did : goal.returns-in-Halted-clause-did
returns-in-Halted-clause-did c = λ some.
    let a = act c.args.code.now c.args.tables.now c.args.rank.now.store in
    halted_comes c.args.code.now c.args.tables.now c.args.room some a c.args.number c.args.rank.now.store c.step.new.self.store c.args.queues.now c.args.out.now.items
    (subst (λ d. Does a d c.args.rank.now.store c.step.new.self.store) c.in-Halted.is c.in_ok-step.ensures.did)

-- ---- a post

abbrev posts_did : (c : goal.After-put-arg-1) → Does (act c.args.code.now c.args.tables.now c.args.rank.now.store) (did.Posts c.in-Posts.to c.in-Posts.message) c.args.rank.now.store c.step.new.self.store
posts_did c = subst (λ d. Does (act c.args.code.now c.args.tables.now c.args.rank.now.store) d c.args.rank.now.store c.step.new.self.store) c.in-Posts.is c.in_ok-step.ensures.did

abbrev among : (c : goal.After-put-arg-1) → IsAmong c.args.queues.now.ranks (act c.args.code.now c.args.tables.now c.args.rank.now.store)
among c = subst (λ n. IsAmong n (act c.args.code.now c.args.tables.now c.args.rank.now.store)) c.requires.of_all (is_among c.args.code.now c.args.tables.now c.args.rank.now.store c.requires.able)

abbrev space : (c : goal.After-put-arg-1) → has_space (receiver_of (act c.args.code.now c.args.tables.now c.args.rank.now.store)) (queue_at c.args.queues.now c.args.number) c.args.room ≡ true
space c = sym (c.has_space.ensures c.args.tables.now) ∙ c.if-not-has_space.false

abbrev fit : (c : goal.After-put-arg-1) → (c.in-Posts.to < c.args.queues.now.ranks) × (length (queue_at c.args.queues.now c.args.number c.in-Posts.to) < c.args.room)
fit c =
    posts_fit (act c.args.code.now c.args.tables.now c.args.rank.now.store) c.args.queues.now.ranks c.args.number c.in-Posts.to c.args.room c.in-Posts.message c.args.rank.now.store c.step.new.self.store c.args.queues.now
    (among c) (space c) (posts_did c)

pub put-requires-clause-receiver : goal.put-requires-clause-receiver
put-requires-clause-receiver c = (fit c).0

pub put-requires-clause-room : goal.put-requires-clause-room
put-requires-clause-room c = room_for c.args.queues.now.ranks c.args.room c.args.queues.now c.args.number c.in-Posts.to c.requires.mail c.requires.among (fit c).0 (fit c).1

pub returns-in-Posts-clause-did : goal.returns-in-Posts-clause-did
returns-in-Posts-clause-did c = λ some.
    let a = act c.args.code.now c.args.tables.now c.args.rank.now.store in
    let m = machine c.args.code.now c.args.tables.now (at_most c.args.room some) in
    let among = subst (λ n. IsAmong n a) c.requires.of_all (is_among c.args.code.now c.args.tables.now c.args.rank.now.store c.requires.able) in
    let space : has_space (receiver_of a) (queue_at c.args.queues.now c.args.number) c.args.room ≡ true = sym (c.has_space.ensures c.args.tables.now) ∙ c.if-not-has_space.false in
    let did = subst (λ d. Does a d c.args.rank.now.store c.step.new.self.store) c.in-Posts.is c.in_ok-step.ensures.did in
    subst (λ k. HasMoved m a c.args.number k c.step.new.self.store c.args.queues.now c.put.new.self c.args.out.now.items c.args.out.now.items) (sym c.len-posted.ensures)
    (subst (λ q. HasMoved m a c.args.number (length c.in-Posts.message.words) c.step.new.self.store c.args.queues.now q c.args.out.now.items c.args.out.now.items) (sym c.put.ensures)
    (posts_comes c.args.code.now c.args.tables.now c.args.room some a c.args.queues.now.ranks c.args.number c.in-Posts.to c.in-Posts.message c.args.rank.now.store c.step.new.self.store c.args.queues.now c.args.out.now.items
    c.requires.mail c.requires.among among space did))

pub returns-in-Posts-clause-mail : goal.returns-in-Posts-clause-mail
returns-in-Posts-clause-mail c =
    let a = act c.args.code.now c.args.tables.now c.args.rank.now.store in
    let among = subst (λ n. IsAmong n a) c.requires.of_all (is_among c.args.code.now c.args.tables.now c.args.rank.now.store c.requires.able) in
    let space : has_space (receiver_of a) (queue_at c.args.queues.now c.args.number) c.args.room ≡ true = sym (c.has_space.ensures c.args.tables.now) ∙ c.if-not-has_space.false in
    let did = subst (λ d. Does a d c.args.rank.now.store c.step.new.self.store) c.in-Posts.is c.in_ok-step.ensures.did in
    let fit = posts_fit a c.args.queues.now.ranks c.args.number c.in-Posts.to c.args.room c.in-Posts.message c.args.rank.now.store c.step.new.self.store c.args.queues.now among space did in
    subst (λ q. HasRoom c.args.queues.now.ranks c.args.room q) (sym c.put.ensures)
    (room_put c.args.queues.now.ranks c.args.room c.args.queues.now c.args.number c.in-Posts.to c.in-Posts.message c.requires.mail c.requires.among fit.0 fit.1)

-- ---- a take

abbrev wants_did : (c : goal.After-take-arg-in-Wants-1) → Does (act c.args.code.now c.args.tables.now c.args.rank.now.store) (did.Wants c.in-Wants.from) c.args.rank.now.store c.step.new.self.store
wants_did c = subst (λ d. Does (act c.args.code.now c.args.tables.now c.args.rank.now.store) d c.args.rank.now.store c.step.new.self.store) c.in-Wants.is c.in_ok-step.ensures.did

abbrev is_same : (c : goal.After-take-arg-in-Wants-1) → c.step.new.self.store ≡ c.args.rank.now.store
is_same c = wants_same (act c.args.code.now c.args.tables.now c.args.rank.now.store) c.in-Wants.from c.args.rank.now.store c.step.new.self.store (wants_did c)

pub take-requires-clause-able : goal.take-requires-clause-able
take-requires-clause-able c = subst CanStep (sym (is_same c)) c.requires.able

pub take-requires-clause-inside : goal.take-requires-clause-inside
take-requires-clause-inside c =
    subst (λ x. x.position < length c.args.code.now.list) (sym (is_same c)) (wants_inside c.args.code.now c.args.tables.now c.in-Wants.from c.args.rank.now.store c.step.new.self.store (wants_did c))

pub take-requires-clause-from : goal.take-requires-clause-from
take-requires-clause-from c =
    let a = act c.args.code.now c.args.tables.now c.args.rank.now.store in
    wants_among a c.args.queues.now.ranks c.in-Wants.from c.args.rank.now.store c.step.new.self.store
    (subst (λ n. IsAmong n a) c.requires.of_all (is_among c.args.code.now c.args.tables.now c.args.rank.now.store c.requires.able)) (wants_did c)

pub returns-in-Wants-clause-did : goal.returns-in-Wants-clause-did
returns-in-Wants-clause-did c = λ some.
    let a = act c.args.code.now c.args.tables.now c.args.rank.now.store in
    let m = machine c.args.code.now c.args.tables.now (at_most c.args.room some) in
    let did = subst (λ d. Does a d c.args.rank.now.store c.step.new.self.store) c.in-Wants.is c.in_ok-step.ensures.did in
    let is_same = wants_same a c.in-Wants.from c.args.rank.now.store c.step.new.self.store did in
    let lf = wants_among a c.args.queues.now.ranks c.in-Wants.from c.args.rank.now.store c.step.new.self.store
    (subst (λ n. IsAmong n a) c.requires.of_all (is_among c.args.code.now c.args.tables.now c.args.rank.now.store c.requires.able)) did in
    subst (λ q. Comes m a c.take.result c.args.number c.args.rank.now.store c.take.new.rank.store c.args.queues.now q c.args.out.now.items c.args.out.now.items) (sym c.take.ensures.rest)
    (takes_comes c.args.code.now c.args.tables.now c.args.room some a c.args.queues.now.ranks c.args.number c.in-Wants.from c.take.result (queue_at c.args.queues.now c.in-Wants.from c.args.number) c.args.rank.now.store c.step.new.self.store c.take.new.rank.store c.args.queues.now c.args.out.now.items
    c.requires.mail c.requires.among lf (ap (act c.args.code.now c.args.tables.now) is_same) refl did c.take.ensures.front)

pub returns-in-Wants-clause-mail : goal.returns-in-Wants-clause-mail
returns-in-Wants-clause-mail c =
    let a = act c.args.code.now c.args.tables.now c.args.rank.now.store in
    let did = subst (λ d. Does a d c.args.rank.now.store c.step.new.self.store) c.in-Wants.is c.in_ok-step.ensures.did in
    let lf = wants_among a c.args.queues.now.ranks c.in-Wants.from c.args.rank.now.store c.step.new.self.store
    (subst (λ n. IsAmong n a) c.requires.of_all (is_among c.args.code.now c.args.tables.now c.args.rank.now.store c.requires.able)) did in
    subst (λ q. HasRoom c.args.queues.now.ranks c.args.room q) (sym c.take.ensures.rest)
    (room_taken c.args.queues.now.ranks c.args.room c.args.queues.now c.in-Wants.from c.args.number (queue_at c.args.queues.now c.in-Wants.from c.args.number) c.requires.mail lf c.requires.among refl)

-- ---- a write

pub write-requires : goal.write-requires
write-requires c =
    let a = act c.args.code.now c.args.tables.now c.args.rank.now.store in
    let did = subst (λ d. Does a d c.args.rank.now.store c.step.new.self.store) c.in-Writes.is c.in_ok-step.ensures.did in
    record { inside = subst (λ x. x.position < length c.args.code.now.list) (sym (writes_same a c.in-Writes.text c.args.rank.now.store c.step.new.self.store did)) (writes_inside c.args.code.now c.args.tables.now c.in-Writes.text c.args.rank.now.store c.step.new.self.store did) }

pub returns-in_ok-write-in-Writes-clause-did : goal.returns-in_ok-write-in-Writes-clause-did
returns-in_ok-write-in-Writes-clause-did c = λ some.
    let a = act c.args.code.now c.args.tables.now c.args.rank.now.store in
    let did = subst (λ d. Does a d c.args.rank.now.store c.step.new.self.store) c.in-Writes.is c.in_ok-step.ensures.did in
    let is_same = writes_same a c.in-Writes.text c.args.rank.now.store c.step.new.self.store did in
    writes_comes c.args.code.now c.args.tables.now c.args.room some a c.args.number c.in-Writes.text c.args.rank.now.store c.step.new.self.store c.write.new.rank.store c.args.queues.now c.args.out.now.items c.write.new.out.items
    (ap (act c.args.code.now c.args.tables.now) is_same) did c.in_ok-write-in-Writes.ensures.wrote (c.in_ok-write-in-Writes.ensures.out ∙ ap (λ t. c.args.out.now.items ++ t) c.as_slice.ensures.value)

pub returns-in_err-write-in-Writes-clause-err : goal.returns-in_err-write-in-Writes-clause-err
returns-in_err-write-in-Writes-clause-err c =
    let a = act c.args.code.now c.args.tables.now c.args.rank.now.store in
    let did = subst (λ d. Does a d c.args.rank.now.store c.step.new.self.store) c.in-Writes.is c.in_ok-step.ensures.did in
    on_err c.from_residual-in_err-write-in-Writes.result (record {
      store_is = ap (λ (k : Rank). k.store) c.in_err-write-in-Writes.ensures.rank ∙ writes_same a c.in-Writes.text c.args.rank.now.store c.step.new.self.store did;
      mail_is = refl;
      out_is = c.in_err-write-in-Writes.ensures.same;
    })

-- ---- a post to a queue that takes no more

pub returns-then-not-has_space-clause-did : goal.returns-then-not-has_space-clause-did
returns-then-not-has_space-clause-did c =
    blocked c.args.code.now c.args.tables.now c.args.room c.args.number c.has_space.result c.args.rank.now.store c.args.queues.now c.args.out.now.items c.has_space.ensures c.if-not-has_space.true
