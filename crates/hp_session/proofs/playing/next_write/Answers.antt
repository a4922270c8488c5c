-- What the machine answered, and what the sink took of what it wrote.
use Rattle.std.proofs.Common.{◌≡◌, sym, subst, ap, arith, rules, true, false, is_err, length}
use Rattle.hp_network.specs.Rows.{at_most}
use Rattle.hp_turns.specs.Turns.{machine}
use Rattle.hp_machine.specs.Machines.{Running, state_of}
use Rattle.hp_session.specs.Playing.{StandsAs, TookBy, has_failed}
use Rattle.hp_session.proofs.CallLemmas.{answer_stands, none_failed, put_all_took, put_failed_took, rest_is}
use Rattle.hp_session.proofs.StepLemmas.{call_text}
use Rattle.hp_session.proofs.playing.next_write.Goals as goal

pub slice_bounds-put_all-count : goal.slice_bounds-put_all-count
slice_bounds-put_all-count g c =
    let some = c.args.machine.now.sound.least in
    let text = call_text (machine c.args.code.now c.args.tables.now (at_most c.args.machine.now.room some)) (λ k. g.T.Turns.named c.args.turns.now (g.T.Turns.seed c.args.turns.now) k (length c.args.machine.now.ranks.items)) (g.T.Turns.asked c.args.turns.now)
    (state_of c.args.machine.now) (state_of c.run-answer.new.self) c.args.taken.now.items c.run-answer.new.taken.items (c.run-answer.ensures.follows some) in
    omega (arith, text.1, c.len-written.ensures, ap length c.deref.ensures.value)

pub slice_bounds-put_all-start : goal.slice_bounds-put_all-start
slice_bounds-put_all-start g c =
    let some = c.args.machine.now.sound.least in
    let text = call_text (machine c.args.code.now c.args.tables.now (at_most c.args.machine.now.room some)) (λ k. g.T.Turns.named c.args.turns.now (g.T.Turns.seed c.args.turns.now) k (length c.args.machine.now.ranks.items)) (g.T.Turns.asked c.args.turns.now)
    (state_of c.args.machine.now) (state_of c.run-answer.new.self) c.args.taken.now.items c.run-answer.new.taken.items (c.run-answer.ensures.follows some) in
    omega (arith, text.1, c.len-written.ensures, ap length c.deref.ensures.value)

pub returns-then-is_err-clause-took : goal.returns-then-is_err-clause-took
returns-then-is_err-clause-took g c =
    let some = c.args.machine.now.sound.least in
    let text = call_text (machine c.args.code.now c.args.tables.now (at_most c.args.machine.now.room some)) (λ k. g.T.Turns.named c.args.turns.now (g.T.Turns.seed c.args.turns.now) k (length c.args.machine.now.ranks.items)) (g.T.Turns.asked c.args.turns.now)
    (state_of c.args.machine.now) (state_of c.run-answer.new.self) c.args.taken.now.items c.run-answer.new.taken.items (c.run-answer.ensures.follows some) in
    let failed : is_err c.put_all.result ≡ true = search rules in
    let is = rest_is c.args.machine.now.out.items c.run-answer.new.self.out.items c.deref.result.now c.len-written.result (omega (arith, c.len-written.ensures, c.args.machine.now.out.ok)) c.deref.ensures.value text.0 in
    put_failed_took c.args.machine.now.out.items c.run-answer.new.self.out.items _ (g.S.Sink.written c.args.out.now) (g.S.Sink.written c.put_all.new.sink) c.put_all.result is c.put_all.ensures.part failed

pub returns-clause-told : goal.returns-clause-told
returns-clause-told g c =
    subst (λ end. Running c.args.machine.now.room c.args.code.now c.args.tables.now (λ m. StandsAs m (state_of c.args.machine.now) (state_of c.run-answer.new.self) c.run-answer.new.taken.items c.args.bound end)) (sym c.end_of.ensures)
    (answer_stands c.args.code.now c.args.tables.now c.args.machine.now.room (state_of c.args.machine.now) (state_of c.run-answer.new.self) c.run-answer.new.taken.items c.args.bound c.run-answer.result c.run-answer.ensures.told c.run-answer.ensures.spent)

pub returns-clause-took : goal.returns-clause-took
returns-clause-took g c =
    let some = c.args.machine.now.sound.least in
    let text = call_text (machine c.args.code.now c.args.tables.now (at_most c.args.machine.now.room some)) (λ k. g.T.Turns.named c.args.turns.now (g.T.Turns.seed c.args.turns.now) k (length c.args.machine.now.ranks.items)) (g.T.Turns.asked c.args.turns.now)
    (state_of c.args.machine.now) (state_of c.run-answer.new.self) c.args.taken.now.items c.run-answer.new.taken.items (c.run-answer.ensures.follows some) in
    let passed : is_err c.put_all.result ≡ false = search rules in
    let is = rest_is c.args.machine.now.out.items c.run-answer.new.self.out.items c.deref.result.now c.len-written.result (omega (arith, c.len-written.ensures, c.args.machine.now.out.ok)) c.deref.ensures.value text.0 in
    subst (λ end. TookBy c.args.machine.now.out.items c.run-answer.new.self.out.items (g.S.Sink.written c.args.out.now) (g.S.Sink.written c.put_all.new.sink) (has_failed end)) (sym c.end_of.ensures)
    (subst (TookBy c.args.machine.now.out.items c.run-answer.new.self.out.items (g.S.Sink.written c.args.out.now) (g.S.Sink.written c.put_all.new.sink)) (sym (none_failed c.run-answer.result))
    (put_all_took c.args.machine.now.out.items c.run-answer.new.self.out.items _ (g.S.Sink.written c.args.out.now) (g.S.Sink.written c.put_all.new.sink) c.put_all.result is c.put_all.ensures.all passed))
