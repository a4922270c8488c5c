use Rattle.std.proofs.Common.{◌∙◌, sym, ap, get_or}
use Rattle.hp_spmd.specs.Store.{instr_at}
use Rattle.hp_spmd.proofs.LockFrame.{first_position}
use Rattle.hp_spmd.proofs.LockRound.{rounds_at, rounds_past, instr_here, instr_past}
use Rattle.hp_spmd.proofs.lockstep.round.round.Goals as goal

pub returns-in_ok-end-in-Some : goal.returns-in_ok-end-in-Some
returns-in_ok-end-in-Some c =
    let first = first_position c.args.stores.now c.index-stores-0.result c.requires.some in
    let here = instr_here c.args.code.now.list (get_or c.args.stores.now 0 c.index-stores-0.result).position c.in-Some.instr.now (sym c.in-Some.ensures.value) in
    rounds_at c.args.code.now c.args.tables.now c.in_ok-end-in-Some.end c.in-Some.instr.now c.args.stores.now c.execute.new.stores c.args.out.now.items
    c.execute.new.out.items (ap (λ p. instr_at c.args.code.now.list p) (sym first) ∙ here) c.in_ok-end-in-Some.ensures

pub returns-in-None : goal.returns-in-None
returns-in-None c =
    let first = first_position c.args.stores.now c.index-stores-0.result c.requires.some in
    let past = instr_past c.args.code.now.list (get_or c.args.stores.now 0 c.index-stores-0.result).position (sym c.in-None.ensures.value) in
    rounds_past c.args.code.now c.args.tables.now c.args.stores.now c.args.out.now.items (ap (λ p. instr_at c.args.code.now.list p) (sym first) ∙ past)
