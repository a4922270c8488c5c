-- What a turn answers, from what came of it.
use Rattle.std.proofs.Common.{◌∙◌, ap, sym, subst}
use Rattle.std.proofs.lemmas.Bool.{false≢true}
use Rattle.std.specs.List.{All}
use Rattle.hp_network.specs.Network.{HasEnded, IsHalt, State}
use Rattle.hp_network.specs.Rows.{at_most}
use Rattle.hp_spmd.specs.declared.store.Store.{Store}
use Rattle.hp_spmd.specs.Act.{act}
use Rattle.hp_turns.specs.Turns.{machine, of_act}
use Rattle.hp_machine.specs.Machines.{CameOf, state_of, trap_of}
use Rattle.hp_machine.proofs.machine.Machine.turn.Goals as goal

pub returns-in-Waited-clause-told : goal.returns-in-Waited-clause-told
returns-in-Waited-clause-told c = λ some. λ never.
    let m = machine c.args.code.now c.args.tables.now (at_most c.args.self.now.room some) in
    let came = subst (λ d. CameOf m (state_of c.args.self.now) (state_of c.advance.new.self) c.args.rank d) c.in-Waited.is (c.in_ok-advance.ensures.deed some) in
    (ap (λ (s : State Store). s.trap) came.0 ∙ ap trap_of c.requires.going, λ h. never (subst (HasEnded m) came.0 h), came.1)

pub returns-in-Trapped-clause-told : goal.returns-in-Trapped-clause-told
returns-in-Trapped-clause-told c = λ some. λ never.
    let m = machine c.args.code.now c.args.tables.now (at_most c.args.self.now.room some) in
    let came = subst (λ d. CameOf m (state_of c.args.self.now) (state_of c.advance.new.self) c.args.rank d) c.in-Trapped.is (c.in_ok-advance.ensures.deed some) in
    (came.0, λ h. never (subst (λ xs. All (λ x. IsHalt (of_act (act c.args.code.now c.args.tables.now x))) xs) came.1 h))

pub returns-then-last_ended-clause-told : goal.returns-then-last_ended-clause-told
returns-then-last_ended-clause-told c = λ some. λ never.
    let m = machine c.args.code.now c.args.tables.now (at_most c.args.self.now.room some) in
    let came = subst (λ d. CameOf m (state_of c.args.self.now) (state_of c.advance.new.self) c.args.rank d) c.in-Moved.is (c.in_ok-advance.ensures.deed some) in
    (came.0, (c.last_ended.ensures c.args.tables.now c.advance.new.self.sound.least).0 c.if-last_ended.true)

pub returns-else-last_ended-clause-told : goal.returns-else-last_ended-clause-told
returns-else-last_ended-clause-told c = λ some. λ never.
    let m = machine c.args.code.now c.args.tables.now (at_most c.args.self.now.room some) in
    let came = subst (λ d. CameOf m (state_of c.args.self.now) (state_of c.advance.new.self) c.args.rank d) c.in-Moved.is (c.in_ok-advance.ensures.deed some) in
    (came.0, λ h. false≢true (sym c.if-last_ended.false ∙ (c.last_ended.ensures c.args.tables.now c.advance.new.self.sound.least).1 h), came.1)
