-- The value of the expression, and then what is written for it.
use Rattle.std.proofs.Common.{◌≡◌}
use Rattle.std.proofs.lemmas.Result.{err_from_is_err_and}
use Rattle.hp_script.specs.Mirror.{tree_of}
use Rattle.hp_meaning.specs.HeldValues.{supply_in, looked, held_value}
use Rattle.hp_meaning.specs.Running.{state_in}
use Rattle.hp_meaning.specs.declared.stmts.State.{State}
use Rattle.hp_meaning.proofs.RunLemmas.{export_stops, export_wrong, export_made}
use Rattle.hp_meaning.proofs.stmts.run_export.Goals as goal
use Rattle.hp_meaning.proofs.stmts.run_export.Goals.{in-Made+in-List-2, in-Made+in-Matrix-2, in-Made+in-Frame-2, in-Made+in-Word-2, in-Lent-2}

pub returns-in_err-held : goal.returns-in_err-held
returns-in_err-held c =
    let p = err_from_is_err_and c.from_residual-in_err-held.result c.from_residual-in_err-held.ensures.1 in
    rw (p.1, p.2) (export_stops (supply_in c.args.supply) (tree_of c.args.x.now) (state_in c.args.state.now) c.begin.new.self c.evaluate.new.seen c.in_err-held.field-0.0 c.in_ok-begin.ensures.ok c.in_err-held.ensures)

pub returns-in_err-export : goal.returns-in_err-export
returns-in_err-export c =
    let p = err_from_is_err_and c.from_residual-in_err-export.result c.from_residual-in_err-export.ensures.1 in
    rw (p.1, p.2) (export_wrong (supply_in c.args.supply) (tree_of c.args.x.now) (state_in c.args.state.now) (state_in c.match-held.state) c.begin.new.self c.evaluate.new.seen (held_value c.in_ok-held.held) (looked c.look.result)
    c.in_err-export.field-0.0 c.export.new.out.items c.args.state.now.out.items c.in_ok-begin.ensures.ok c.in_ok-held.ensures c.look.ensures c.in_err-export.ensures)

pub returns : goal.returns
returns c =
    let now : State = record { vars = c.args.state.now.vars; seen = c.evaluate.new.seen; out = c.export.new.out; fuel = c.args.state.now.fuel } in
    let same : c.match-held-3.state ≡ now = elim c.match-held-3.branch [ in-Made+in-List-2 w ↦ w.state-is | in-Made+in-Matrix-2 w ↦ w.state-is | in-Made+in-Frame-2 w ↦ w.state-is | in-Made+in-Word-2 w ↦ w.state-is | in-Lent-2 w ↦ w.state-is ] in
    rw same (export_made (supply_in c.args.supply) (tree_of c.args.x.now) (state_in c.args.state.now) c.begin.new.self c.evaluate.new.seen (held_value c.in_ok-held.held) (looked c.look.result) c.export.new.out.items
    c.in_ok-begin.ensures.ok c.in_ok-held.ensures c.look.ensures c.in_ok-export.ensures)
