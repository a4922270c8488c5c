-- The value of the expression, and then the assignment.
use Rattle.std.proofs.lemmas.Result.{err_from_is_err_and}
use Rattle.hp_script.specs.Mirror.{tree_of}
use Rattle.hp_meaning.specs.HeldValues.{supply_in, held_value}
use Rattle.hp_meaning.specs.Running.{state_in}
use Rattle.hp_meaning.proofs.RunLemmas.{assign_stops, assign_made}
use Rattle.hp_meaning.proofs.stmts.run_assign.Goals as goal

pub returns-in_err-held : goal.returns-in_err-held
returns-in_err-held c =
    let p = err_from_is_err_and c.from_residual-in_err-held.result c.from_residual-in_err-held.ensures.1 in
    rw (p.1, p.2) (assign_stops (supply_in c.args.supply) c.args.name.now.bytes (tree_of c.args.x.now) (state_in c.args.state.now) c.begin.new.self c.evaluate.new.seen c.in_err-held.field-0.0 c.in_ok-begin.ensures.ok c.in_err-held.ensures)

pub returns : goal.returns
returns c = assign_made (supply_in c.args.supply) c.args.name.now.bytes (tree_of c.args.x.now) (state_in c.args.state.now) c.begin.new.self c.evaluate.new.seen (held_value c.in_ok-held.held) c.in_ok-made.made c.assign.new.self
    c.in_ok-begin.ensures.ok c.in_ok-held.ensures c.in_ok-made.ensures c.in_ok-assign.ensures
