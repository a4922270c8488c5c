-- How the call ends with the turn.
use Rattle.std.proofs.Common.{◌≡◌, rules, sym, subst, ltb, length}
use Rattle.hp_network.specs.Rows.{at_most}
use Rattle.hp_turns.specs.Turns.{machine}
use Rattle.hp_machine.specs.Ends.{ComesTo}
use Rattle.hp_machine.specs.Machines.{state_of}
use Rattle.hp_machine.proofs.EndLemmas.{turn_ends}
use Rattle.hp_machine.proofs.machine.Machine.next_turn.Goals as goal

pub returns-clause-told : goal.returns-clause-told
returns-clause-told g c = λ some open_.
    let m = machine c.args.code.now c.args.tables.now (at_most c.args.self.now.room some) in
    let s = state_of c.args.self.now in
    let later = state_of c.take_turn.new.self in
    let before : c.len-written.result ≡ length c.args.self.now.out.items = search rules in
    let after : c.len-2.result ≡ length c.take_turn.new.self.out.items = search rules in
    subst (ComesTo m s later) (sym c.end_of.ensures)
    (turn_ends m s later c.next-rank.result c.in_ok-turned.turned (ltb c.len-written.result c.len-2.result) (λ i. ltb (before i) (after i)) (c.in_ok-turned.ensures.state some) (c.in_ok-turned.ensures.told some open_))
