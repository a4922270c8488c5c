-- A session goes on behind each write that was put, and leaves what it has come to.
use Rattle.std.proofs.Common.{◌≡◌, ◌∙◌, ◌-◌, refl, subst, arith, ℕ, length, Option, Some}
use Rattle.hp_outside.specs.Outside.{HasCause}
use Rattle.hp_machine.specs.Machines.{Running, state_of}
use Rattle.hp_session.specs.Playing.{AskedBy, StandsAs, TookBy, has_failed}
use Rattle.hp_session.proofs.CallLemmas.{cause_behind}
use Rattle.hp_session.proofs.PlayLemmas.{call_among, call_is, call_named, goes_on, plays_asked, plays_more, plays_none, plays_run, plays_took}
use Rattle.hp_session.proofs.playing.play_on.Goals as goal

pub loop-end-init : goal.loop-end-init
loop-end-init g c = (
  plays_none c.args.code.now c.args.tables.now (λ k. g.T.Turns.named c.args.turns.now (g.T.Turns.seed c.args.turns.now) k (length c.args.machine.now.ranks.items)) (g.T.Turns.asked c.args.turns.now) c.args.bound c.args.machine.now c.args.taken.now.items (g.S.Sink.written c.args.out.now) c.requires.begins c.requires.none,
  refl,
  refl,
  λ s k n. refl,
)

pub next_write-requires-clause-holds : goal.next_write-requires-clause-holds
next_write-requires-clause-holds g c =
    plays_run c.args.code.now c.args.tables.now (λ k. g.T.Turns.named c.args.turns.now (g.T.Turns.seed c.args.turns.now) k (length c.args.machine.now.ranks.items)) (g.T.Turns.asked c.args.turns.now) (g.T.Turns.asked c.loop-end.turns) c.args.bound c.args.machine.now c.loop-end.machine c.loop-end.taken.items
    (g.S.Sink.written c.args.out.now) (g.S.Sink.written c.loop-end.out) c.loop-end.invariant.0

pub next_write-requires-clause-within : goal.next_write-requires-clause-within
next_write-requires-clause-within g c = c.loop-end.invariant.0.within

-- ---- it goes on

pub loop-end-preserved : goal.loop-end-preserved
loop-end-preserved g c =
    let order : ℕ → Option ℕ = λ k. g.T.Turns.named c.args.turns.now (g.T.Turns.seed c.args.turns.now) k (length c.args.machine.now.ranks.items) in
    let order2 : ℕ → Option ℕ = λ k. g.T.Turns.named c.loop-end.turns (g.T.Turns.seed c.loop-end.turns) k (length c.loop-end.machine.ranks.items) in
    let asked = g.T.Turns.asked c.args.turns.now in
    let now = g.T.Turns.asked c.loop-end.turns in
    let same : (k : ℕ) → order2 k ≡ order k = λ k. c.loop-end.invariant.3 (g.T.Turns.seed c.loop-end.turns) k (length c.loop-end.machine.ranks.items) ∙ (λ i. g.T.Turns.named c.args.turns.now (c.loop-end.invariant.2 i) k (c.loop-end.invariant.0.ranks i)) in
    let took = subst (λ end. TookBy c.loop-end.machine.out.items c.next_write.new.machine.out.items (g.S.Sink.written c.loop-end.out) (g.S.Sink.written c.next_write.new.out) (has_failed end)) c.in_default.is c.next_write.ensures.took in
    let asks = subst (AskedBy now (g.T.Turns.asked c.next_write.new.turns) (length c.next_write.new.taken.items - length c.loop-end.taken.items)) c.in_default.is c.next_write.ensures.asked in
    let cause = subst (λ end. HasCause (g.S.Sink.faults c.loop-end.out) (g.S.Sink.faults c.next_write.new.out) (has_failed end)) c.in_default.is c.next_write.ensures.cause in (
      plays_more c.args.code.now c.args.tables.now order order2 asked now c.args.bound c.args.machine.now c.loop-end.machine c.next_write.new.machine c.loop-end.taken.items c.next_write.new.taken.items
          (g.S.Sink.written c.args.out.now) (g.S.Sink.written c.loop-end.out) (g.S.Sink.written c.next_write.new.out) c.loop-end.invariant.0 c.next_write.ensures.follows
          (g.T.Turns.asked c.next_write.new.turns) same c.next_write.ensures.within asks c.next_write.ensures.ranks c.next_write.ensures.room took,
      cause.kept ∙ c.loop-end.invariant.1,
      c.next_write.ensures.seed ∙ c.loop-end.invariant.2,
      λ s k n. c.next_write.ensures.named s k n ∙ c.loop-end.invariant.3 s k n,
    )

pub loop-end-smaller : goal.loop-end-smaller
loop-end-smaller g c =
    let order : ℕ → Option ℕ = λ k. g.T.Turns.named c.args.turns.now (g.T.Turns.seed c.args.turns.now) k (length c.args.machine.now.ranks.items) in
    let order2 : ℕ → Option ℕ = λ k. g.T.Turns.named c.loop-end.turns (g.T.Turns.seed c.loop-end.turns) k (length c.loop-end.machine.ranks.items) in
    let asked = g.T.Turns.asked c.args.turns.now in
    let now = g.T.Turns.asked c.loop-end.turns in
    let stands = subst (λ end. Running c.loop-end.machine.room c.args.code.now c.args.tables.now (λ m. StandsAs m (state_of c.loop-end.machine) (state_of c.next_write.new.machine) c.next_write.new.taken.items c.args.bound end)) c.in_default.is c.next_write.ensures.told in
    let longer = goes_on c.args.code.now c.args.tables.now order order2 asked now c.args.bound c.args.machine.now c.loop-end.machine c.next_write.new.machine c.loop-end.taken.items c.next_write.new.taken.items
    (g.S.Sink.written c.args.out.now) (g.S.Sink.written c.loop-end.out) (g.S.Sink.written c.next_write.new.out) c.loop-end.invariant.0 c.next_write.ensures.follows stands in
    let within = c.next_write.ensures.within in
    omega (arith, longer, within)

-- ---- it ends

pub returns-in-Some-clause-run : goal.returns-in-Some-clause-run
returns-in-Some-clause-run g c =
    let order : ℕ → Option ℕ = λ k. g.T.Turns.named c.args.turns.now (g.T.Turns.seed c.args.turns.now) k (length c.args.machine.now.ranks.items) in
    let order2 : ℕ → Option ℕ = λ k. g.T.Turns.named c.loop-end.turns (g.T.Turns.seed c.loop-end.turns) k (length c.loop-end.machine.ranks.items) in
    let asked = g.T.Turns.asked c.args.turns.now in
    let now = g.T.Turns.asked c.loop-end.turns in
    call_is c.args.code.now c.args.tables.now order order2 asked now c.args.bound c.args.machine.now c.loop-end.machine c.next_write.new.machine c.loop-end.taken.items c.next_write.new.taken.items
    (g.S.Sink.written c.args.out.now) (g.S.Sink.written c.loop-end.out) (g.S.Sink.written c.next_write.new.out) c.loop-end.invariant.0 c.next_write.ensures.follows

pub returns-in-Some-clause-among : goal.returns-in-Some-clause-among
returns-in-Some-clause-among g c =
    let order : ℕ → Option ℕ = λ k. g.T.Turns.named c.args.turns.now (g.T.Turns.seed c.args.turns.now) k (length c.args.machine.now.ranks.items) in
    let order2 : ℕ → Option ℕ = λ k. g.T.Turns.named c.loop-end.turns (g.T.Turns.seed c.loop-end.turns) k (length c.loop-end.machine.ranks.items) in
    let asked = g.T.Turns.asked c.args.turns.now in
    let now = g.T.Turns.asked c.loop-end.turns in
    call_among c.args.code.now c.args.tables.now order order2 asked now c.args.bound c.args.machine.now c.loop-end.machine c.next_write.new.machine c.loop-end.taken.items c.next_write.new.taken.items
    (g.S.Sink.written c.args.out.now) (g.S.Sink.written c.loop-end.out) (g.S.Sink.written c.next_write.new.out) c.loop-end.invariant.0 c.next_write.ensures.follows

pub returns-in-Some-clause-order : goal.returns-in-Some-clause-order
returns-in-Some-clause-order g c =
    let order : ℕ → Option ℕ = λ k. g.T.Turns.named c.args.turns.now (g.T.Turns.seed c.args.turns.now) k (length c.args.machine.now.ranks.items) in
    let order2 : ℕ → Option ℕ = λ k. g.T.Turns.named c.loop-end.turns (g.T.Turns.seed c.loop-end.turns) k (length c.loop-end.machine.ranks.items) in
    let asked = g.T.Turns.asked c.args.turns.now in
    let now = g.T.Turns.asked c.loop-end.turns in
    let same : (k : ℕ) → order2 k ≡ order k = λ k. c.loop-end.invariant.3 (g.T.Turns.seed c.loop-end.turns) k (length c.loop-end.machine.ranks.items) ∙ (λ i. g.T.Turns.named c.args.turns.now (c.loop-end.invariant.2 i) k (c.loop-end.invariant.0.ranks i)) in
    call_named c.args.code.now c.args.tables.now order order2 asked now c.args.bound c.args.machine.now c.loop-end.machine c.next_write.new.machine c.loop-end.taken.items c.next_write.new.taken.items
    (g.S.Sink.written c.args.out.now) (g.S.Sink.written c.loop-end.out) (g.S.Sink.written c.next_write.new.out) c.loop-end.invariant.0 c.next_write.ensures.follows same

pub returns-in-Some-clause-ended : goal.returns-in-Some-clause-ended
returns-in-Some-clause-ended g c =
    subst (λ room. Running room c.args.code.now c.args.tables.now (λ m. StandsAs m (state_of c.loop-end.machine) (state_of c.next_write.new.machine) c.next_write.new.taken.items c.args.bound (Some c.in-Some.end))) c.loop-end.invariant.0.room
    (subst (λ end. Running c.loop-end.machine.room c.args.code.now c.args.tables.now (λ m. StandsAs m (state_of c.loop-end.machine) (state_of c.next_write.new.machine) c.next_write.new.taken.items c.args.bound end)) c.in-Some.is c.next_write.ensures.told)

pub returns-in-Some-clause-took : goal.returns-in-Some-clause-took
returns-in-Some-clause-took g c =
    let order : ℕ → Option ℕ = λ k. g.T.Turns.named c.args.turns.now (g.T.Turns.seed c.args.turns.now) k (length c.args.machine.now.ranks.items) in
    let order2 : ℕ → Option ℕ = λ k. g.T.Turns.named c.loop-end.turns (g.T.Turns.seed c.loop-end.turns) k (length c.loop-end.machine.ranks.items) in
    let asked = g.T.Turns.asked c.args.turns.now in
    let now = g.T.Turns.asked c.loop-end.turns in
    let took = subst (λ end. TookBy c.loop-end.machine.out.items c.next_write.new.machine.out.items (g.S.Sink.written c.loop-end.out) (g.S.Sink.written c.next_write.new.out) (has_failed end)) c.in-Some.is c.next_write.ensures.took in
    plays_took c.args.code.now c.args.tables.now order order2 asked now c.args.bound c.args.machine.now c.loop-end.machine c.next_write.new.machine c.loop-end.taken.items c.next_write.new.taken.items
    (g.S.Sink.written c.args.out.now) (g.S.Sink.written c.loop-end.out) (g.S.Sink.written c.next_write.new.out) c.loop-end.invariant.0 c.next_write.ensures.follows c.in-Some.end took

pub returns-in-Some-clause-cause : goal.returns-in-Some-clause-cause
returns-in-Some-clause-cause g c =
    cause_behind (g.S.Sink.faults c.args.out.now) (g.S.Sink.faults c.loop-end.out) (g.S.Sink.faults c.next_write.new.out) (has_failed (Some c.in-Some.end)) c.loop-end.invariant.1
    (subst (λ end. HasCause (g.S.Sink.faults c.loop-end.out) (g.S.Sink.faults c.next_write.new.out) (has_failed end)) c.in-Some.is c.next_write.ensures.cause)

pub returns-in-Some-clause-asked : goal.returns-in-Some-clause-asked
returns-in-Some-clause-asked g c =
    let order : ℕ → Option ℕ = λ k. g.T.Turns.named c.args.turns.now (g.T.Turns.seed c.args.turns.now) k (length c.args.machine.now.ranks.items) in
    let order2 : ℕ → Option ℕ = λ k. g.T.Turns.named c.loop-end.turns (g.T.Turns.seed c.loop-end.turns) k (length c.loop-end.machine.ranks.items) in
    let asked = g.T.Turns.asked c.args.turns.now in
    let now = g.T.Turns.asked c.loop-end.turns in
    let asks = subst (AskedBy now (g.T.Turns.asked c.next_write.new.turns) (length c.next_write.new.taken.items - length c.loop-end.taken.items)) c.in-Some.is c.next_write.ensures.asked in
    plays_asked c.args.code.now c.args.tables.now order order2 asked now c.args.bound c.args.machine.now c.loop-end.machine c.next_write.new.machine c.loop-end.taken.items c.next_write.new.taken.items
    (g.S.Sink.written c.args.out.now) (g.S.Sink.written c.loop-end.out) (g.S.Sink.written c.next_write.new.out) c.loop-end.invariant.0 c.next_write.ensures.follows (g.T.Turns.asked c.next_write.new.turns) c.in-Some.end asks

pub returns-in-Some-clause-seed : goal.returns-in-Some-clause-seed
returns-in-Some-clause-seed g c = c.next_write.ensures.seed ∙ c.loop-end.invariant.2

pub returns-in-Some-clause-named : goal.returns-in-Some-clause-named
returns-in-Some-clause-named g c = λ s k n. c.next_write.ensures.named s k n ∙ c.loop-end.invariant.3 s k n

pub returns-in-Some-clause-ranks : goal.returns-in-Some-clause-ranks
returns-in-Some-clause-ranks g c = c.next_write.ensures.ranks ∙ c.loop-end.invariant.0.ranks

pub returns-in-Some-clause-room : goal.returns-in-Some-clause-room
returns-in-Some-clause-room g c = c.next_write.ensures.room ∙ c.loop-end.invariant.0.room
