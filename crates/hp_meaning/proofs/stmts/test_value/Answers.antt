-- The value of the test, which is a truth value.
use Rattle.std.proofs.Common.{◌≡◌, FitsSigned, w64, rules}
use Rattle.std.proofs.lemmas.Int.{to_z-of_z}
use Rattle.std.proofs.lemmas.Result.{err_from_is_err_and}
use Rattle.hp_script.specs.Mirror.{tree_of}
use Rattle.hp_meaning.specs.HeldValues.{supply_in, looked, held_value}
use Rattle.hp_meaning.specs.Running.{state_in}
use Rattle.hp_meaning.specs.declared.stmts.State.{State}
use Rattle.hp_meaning.proofs.RunLemmas.{test_stops, test_wrong, test_made}
use Rattle.hp_meaning.proofs.stmts.test_value.Goals as goal
use Rattle.hp_meaning.proofs.stmts.test_value.Goals.{in-Made+in-List-2, in-Made+in-Matrix-2, in-Made+in-Frame-2, in-Made+in-Word-2, in-Lent-2}

pub returns-in_err-held : goal.returns-in_err-held
returns-in_err-held c =
    let p = err_from_is_err_and c.from_residual.result c.from_residual.ensures.1 in
    rw (p.1, p.2) (test_stops (supply_in c.args.supply) (tree_of c.args.x.now) (state_in c.args.state.now) c.evaluate.new.seen c.in_err-held.field-0.0 c.in_err-held.ensures)

pub returns-in_err-truth : goal.returns-in_err-truth
returns-in_err-truth c =
    let p = err_from_is_err_and c.from_residual-in_err-truth.result c.from_residual-in_err-truth.ensures.1 in
    rw (p.1, p.2) (test_wrong (supply_in c.args.supply) (tree_of c.args.x.now) (state_in c.args.state.now) (state_in c.match-held.state) c.evaluate.new.seen (held_value c.in_ok-held.held) (looked c.look.result) c.in_err-truth.field-0.0
    c.in_ok-held.ensures c.look.ensures c.in_err-truth.ensures)

pub returns : goal.returns
returns c =
    let fits : FitsSigned w64 c.in_ok-truth.truth = search rules in
    let truth = rw (to_z-of_z w64 c.in_ok-truth.truth fits) at c.is_true.ensures in
    let now : State = record { vars = c.args.state.now.vars; seen = c.evaluate.new.seen; out = c.args.state.now.out; fuel = c.args.state.now.fuel } in
    let same : c.match-held-3.state ≡ now = elim c.match-held-3.branch [ in-Made+in-List-2 w ↦ w.state-is | in-Made+in-Matrix-2 w ↦ w.state-is | in-Made+in-Frame-2 w ↦ w.state-is | in-Made+in-Word-2 w ↦ w.state-is | in-Lent-2 w ↦ w.state-is ] in
    rw same (test_made (supply_in c.args.supply) (tree_of c.args.x.now) (state_in c.args.state.now) c.evaluate.new.seen (held_value c.in_ok-held.held) (looked c.look.result) c.in_ok-truth.truth c.is_true.result
    c.in_ok-held.ensures c.look.ensures c.in_ok-truth.ensures truth)
