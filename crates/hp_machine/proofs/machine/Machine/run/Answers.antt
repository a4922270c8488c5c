-- Turns of a call, and how it ends.
use Rattle.std.proofs.Common.{◌≡◌, ◌∙◌, arith, refl, rules, ℕ, ◌<◌, sym, subst, length, Option}
use Rattle.hp_network.specs.Network.{HasEnded}
use Rattle.hp_network.specs.Rows.{at_most}
use Rattle.hp_spmd.specs.Lockstep.{first_state}
use Rattle.hp_turns.specs.Turns.{machine}
use Rattle.hp_machine.specs.Ends.{ComesTo, StandsAs}
use Rattle.hp_machine.specs.Machines.{Running, state_of}
use Rattle.hp_machine.proofs.EndLemmas.{last_ends, last_not_spent, stands_ends, stands_not_spent}
use Rattle.hp_machine.proofs.FollowLemmas.{follows_none}
use Rattle.hp_machine.proofs.RunLemmas.{few_moves, stays_more, stays_none, takes_counted, takes_follows}
use Rattle.hp_machine.proofs.TrapLemmas.{trapped_not_ended}
use Rattle.hp_machine.proofs.machine.Machine.run.Goals as goal

-- ---- no turn

pub returns-in-Some-clause-follows : goal.returns-in-Some-clause-follows
returns-in-Some-clause-follows g c = λ some.
    follows_none (machine c.args.code.now c.args.tables.now (at_most c.args.self.now.room some)) (λ k. g.T.Turns.named c.args.turns.now (g.T.Turns.seed c.args.turns.now) k (length c.args.self.now.ranks.items)) (g.T.Turns.asked c.args.turns.now) (state_of c.args.self.now) c.args.taken.now.items

pub returns-in-Some-clause-told : goal.returns-in-Some-clause-told
returns-in-Some-clause-told g c = λ some.
    let m = machine c.args.code.now c.args.tables.now (at_most c.args.self.now.room some) in
    let s = state_of c.args.self.now in
    stands_ends m s c.in-Some.end (λ t is. trapped_not_ended m (first_state c.args.code.now (length c.args.self.now.ranks.items)).ranks c.args.taken.now.items s t (c.requires.holds some) is)
    (subst (StandsAs m s) c.in-Some.is (c.end.ensures c.args.tables.now some))

pub returns-in-Some-clause-spent : goal.returns-in-Some-clause-spent
returns-in-Some-clause-spent g c = λ is.
    let some = c.args.self.now.sound.least in
    let m = machine c.args.code.now c.args.tables.now (at_most c.args.self.now.room some) in
    let s = state_of c.args.self.now in
    stands_not_spent m s c.in-Some.end (subst (StandsAs m s) c.in-Some.is (c.end.ensures c.args.tables.now some)) is

-- ---- turns that do not end the call

pub loop-self-init : goal.loop-self-init
loop-self-init g c =
    let order : ℕ → Option ℕ = λ k. g.T.Turns.named c.args.turns.now (g.T.Turns.seed c.args.turns.now) k (length c.args.self.now.ranks.items) in (
      stays_none c.args.code.now c.args.tables.now order (g.T.Turns.asked c.args.turns.now) c.args.self.now c.args.taken.now.items
          (λ some. subst (StandsAs (machine c.args.code.now c.args.tables.now (at_most c.args.self.now.room some)) (state_of c.args.self.now)) c.in_default.is (c.end.ensures c.args.tables.now some)),
      c.requires.within,
      refl,
      λ s k n. refl,
    )

pub next_turn-requires-clause-few : goal.next_turn-requires-clause-few
next_turn-requires-clause-few g c =
    let order : ℕ → Option ℕ = λ k. g.T.Turns.named c.args.turns.now (g.T.Turns.seed c.args.turns.now) k (length c.args.self.now.ranks.items) in
    few_moves c.args.code.now c.args.tables.now order (g.T.Turns.asked c.args.turns.now) (g.T.Turns.asked c.loop-self.turns) c.args.bound c.args.self.now c.loop-self.self c.args.taken.now.items c.loop-self.taken.items
    c.requires.holds c.loop-self.invariant.0 c.loop-self.invariant.1 c.requires.few

pub loop-self-preserved : goal.loop-self-preserved
loop-self-preserved g c =
    let order : ℕ → Option ℕ = λ k. g.T.Turns.named c.args.turns.now (g.T.Turns.seed c.args.turns.now) k (length c.args.self.now.ranks.items) in
    let order2 : ℕ → Option ℕ = λ k. g.T.Turns.named c.loop-self.turns (g.T.Turns.seed c.loop-self.turns) k (length c.loop-self.self.ranks.items) in
    let asked = g.T.Turns.asked c.args.turns.now in
    let now = g.T.Turns.asked c.loop-self.turns in
    let same : (k : ℕ) → order2 k ≡ order k = λ k. c.loop-self.invariant.3 (g.T.Turns.seed c.loop-self.turns) k (length c.loop-self.self.ranks.items) ∙ (λ i. g.T.Turns.named c.args.turns.now (c.loop-self.invariant.2 i) k (c.loop-self.invariant.0.ranks i)) in
    let made : length c.loop-self.taken.items < c.args.bound = search rules in
    let counted = takes_counted c.args.code.now c.args.tables.now order order2 asked now c.args.self.now c.loop-self.self c.next_turn.new.self c.args.taken.now.items c.loop-self.taken.items c.next_turn.new.taken.items c.loop-self.invariant.0 c.in_ok-end.ensures.takes in
    let longer = counted.0 in
    let none = subst (λ o. Running c.loop-self.self.room c.args.code.now c.args.tables.now (λ m. (HasEnded m (state_of c.loop-self.self) → ⊥) → ComesTo m (state_of c.loop-self.self) (state_of c.next_turn.new.self) o)) c.in_default-2.is c.in_ok-end.ensures.told in (
      stays_more c.args.code.now c.args.tables.now order order2 asked now c.args.self.now c.loop-self.self c.next_turn.new.self c.args.taken.now.items c.loop-self.taken.items c.next_turn.new.taken.items (g.T.Turns.asked c.next_turn.new.turns) same c.next_turn.ensures.asked c.next_turn.ensures.ranks c.next_turn.ensures.room none c.loop-self.invariant.0 c.in_ok-end.ensures.takes,
      omega (arith, longer, made),
      c.next_turn.ensures.seed ∙ c.loop-self.invariant.2,
      λ s k n. c.next_turn.ensures.named s k n ∙ c.loop-self.invariant.3 s k n,
    )

pub loop-self-smaller : goal.loop-self-smaller
loop-self-smaller g c =
    let order : ℕ → Option ℕ = λ k. g.T.Turns.named c.args.turns.now (g.T.Turns.seed c.args.turns.now) k (length c.args.self.now.ranks.items) in
    let order2 : ℕ → Option ℕ = λ k. g.T.Turns.named c.loop-self.turns (g.T.Turns.seed c.loop-self.turns) k (length c.loop-self.self.ranks.items) in
    let asked = g.T.Turns.asked c.args.turns.now in
    let now = g.T.Turns.asked c.loop-self.turns in
    let made : length c.loop-self.taken.items < c.args.bound = search rules in
    let longer = (takes_counted c.args.code.now c.args.tables.now order order2 asked now c.args.self.now c.loop-self.self c.next_turn.new.self c.args.taken.now.items c.loop-self.taken.items c.next_turn.new.taken.items c.loop-self.invariant.0 c.in_ok-end.ensures.takes).0 in
    omega (arith, longer, made)

-- ---- the turn with which it ends

pub returns-in-Some-2-clause-follows : goal.returns-in-Some-2-clause-follows
returns-in-Some-2-clause-follows g c =
    let order : ℕ → Option ℕ = λ k. g.T.Turns.named c.args.turns.now (g.T.Turns.seed c.args.turns.now) k (length c.args.self.now.ranks.items) in
    let order2 : ℕ → Option ℕ = λ k. g.T.Turns.named c.loop-self.turns (g.T.Turns.seed c.loop-self.turns) k (length c.loop-self.self.ranks.items) in
    let asked = g.T.Turns.asked c.args.turns.now in
    let now = g.T.Turns.asked c.loop-self.turns in
    let same : (k : ℕ) → order2 k ≡ order k = λ k. c.loop-self.invariant.3 (g.T.Turns.seed c.loop-self.turns) k (length c.loop-self.self.ranks.items) ∙ (λ i. g.T.Turns.named c.args.turns.now (c.loop-self.invariant.2 i) k (c.loop-self.invariant.0.ranks i)) in
    takes_follows c.args.code.now c.args.tables.now order order2 asked now c.args.self.now c.loop-self.self c.next_turn.new.self c.args.taken.now.items c.loop-self.taken.items c.next_turn.new.taken.items same c.loop-self.invariant.0 c.in_ok-end.ensures.takes

pub returns-in-Some-2-clause-within : goal.returns-in-Some-2-clause-within
returns-in-Some-2-clause-within g c =
    let order : ℕ → Option ℕ = λ k. g.T.Turns.named c.args.turns.now (g.T.Turns.seed c.args.turns.now) k (length c.args.self.now.ranks.items) in
    let order2 : ℕ → Option ℕ = λ k. g.T.Turns.named c.loop-self.turns (g.T.Turns.seed c.loop-self.turns) k (length c.loop-self.self.ranks.items) in
    let asked = g.T.Turns.asked c.args.turns.now in
    let now = g.T.Turns.asked c.loop-self.turns in
    let made : length c.loop-self.taken.items < c.args.bound = search rules in
    let longer = (takes_counted c.args.code.now c.args.tables.now order order2 asked now c.args.self.now c.loop-self.self c.next_turn.new.self c.args.taken.now.items c.loop-self.taken.items c.next_turn.new.taken.items c.loop-self.invariant.0 c.in_ok-end.ensures.takes).0 in
    omega (arith, longer, made)

pub returns-in-Some-2-clause-told : goal.returns-in-Some-2-clause-told
returns-in-Some-2-clause-told g c = λ some.
    let m = machine c.args.code.now c.args.tables.now (at_most c.args.self.now.room some) in
    let h = c.loop-self.invariant.0 in
    let told = subst (λ room. Running room c.args.code.now c.args.tables.now (λ m. (HasEnded m (state_of c.loop-self.self) → ⊥) → ComesTo m (state_of c.loop-self.self) (state_of c.next_turn.new.self) c.in_ok-end.field-0)) h.room c.in_ok-end.ensures.told some (h.goes some) in
    last_ends m (state_of c.args.self.now) (state_of c.loop-self.self) (state_of c.next_turn.new.self) c.in-Some-2.end h.out
    (subst (ComesTo m (state_of c.loop-self.self) (state_of c.next_turn.new.self)) c.in-Some-2.is told)

pub returns-in-Some-2-clause-spent : goal.returns-in-Some-2-clause-spent
returns-in-Some-2-clause-spent g c = λ is.
    let some = c.loop-self.self.sound.least in
    let m = machine c.args.code.now c.args.tables.now (at_most c.loop-self.self.room some) in
    let h = c.loop-self.invariant.0 in
    let goes = subst (λ room. Running room c.args.code.now c.args.tables.now (λ m. HasEnded m (state_of c.loop-self.self) → ⊥)) (sym h.room) h.goes some in
    last_not_spent m (state_of c.loop-self.self) (state_of c.next_turn.new.self) c.in-Some-2.end
    (subst (ComesTo m (state_of c.loop-self.self) (state_of c.next_turn.new.self)) c.in-Some-2.is (c.in_ok-end.ensures.told some goes)) is

pub returns-in-Some-2-clause-asked : goal.returns-in-Some-2-clause-asked
returns-in-Some-2-clause-asked g c =
    let order : ℕ → Option ℕ = λ k. g.T.Turns.named c.args.turns.now (g.T.Turns.seed c.args.turns.now) k (length c.args.self.now.ranks.items) in
    let order2 : ℕ → Option ℕ = λ k. g.T.Turns.named c.loop-self.turns (g.T.Turns.seed c.loop-self.turns) k (length c.loop-self.self.ranks.items) in
    let asked = g.T.Turns.asked c.args.turns.now in
    let now = g.T.Turns.asked c.loop-self.turns in
    c.next_turn.ensures.asked ∙ (takes_counted c.args.code.now c.args.tables.now order order2 asked now c.args.self.now c.loop-self.self c.next_turn.new.self c.args.taken.now.items c.loop-self.taken.items c.next_turn.new.taken.items c.loop-self.invariant.0 c.in_ok-end.ensures.takes).1
