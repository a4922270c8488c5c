-- A run goes on with the statements that are left, a loop with its turns.
use Rattle.std.proofs.Common.{arith}
use Rattle.std.proofs.lemmas.Result.{err_from_is_err_and}
use Rattle.hp_script.specs.Mirror.{tree_of, block_of}
use Rattle.hp_meaning.specs.HeldValues.{supply_in}
use Rattle.hp_meaning.specs.Run.{run}
use Rattle.hp_meaning.specs.Running.{state_in}
use Rattle.hp_meaning.proofs.RunLemmas.{run_halts, run_more, run_ends, assign_goes, print_goes, export_goes, if_stops, if_first, if_second, loop_goes}
use Rattle.hp_meaning.proofs.FuelGrowth.{run_growing}
use Rattle.hp_meaning.proofs.TurnLemmas.{turns_stop, turns_end, turns_unbegun, turns_halt, turns_more, fuel_left}
use Rattle.hp_meaning.proofs.stmts.+statements.Goals as goal

pub run-returns-in_err-run_stmt : goal.run-returns-in_err-run_stmt
run-returns-in_err-run_stmt t c =
    let p = err_from_is_err_and c.from_residual.result c.from_residual.ensures.1 in
    rw (p.1, p.2) (run_halts (supply_in c.args.supply) c.args.body.now c.loop-stmt.stmt-index c.stmt-item.result (state_in c.args.state.now) (state_in c.loop-stmt.state) (state_in c.run_stmt.new.state) c.in_err-run_stmt.field-0.0
    (omega arith) c.stmt-item.is c.loop-stmt.invariant c.in_err-run_stmt.ensures)

pub run-loop-stmt-preserved : goal.run-loop-stmt-preserved
run-loop-stmt-preserved t c =
    run_more (supply_in c.args.supply) c.args.body.now c.loop-stmt.stmt-index c.stmt-item.result (state_in c.args.state.now) (state_in c.loop-stmt.state) (state_in c.run_stmt.new.state)
    (omega arith) c.stmt-item.is c.loop-stmt.invariant c.in_ok-run_stmt.ensures

pub run-returns : goal.run-returns
run-returns t c = run_ends (supply_in c.args.supply) c.args.body.now c.loop-stmt.stmt-index (state_in c.args.state.now) (state_in c.loop-stmt.state) (omega arith) c.loop-stmt.invariant

pub run_stmt-returns-in-Assign : goal.run_stmt-returns-in-Assign
run_stmt-returns-in-Assign t c =
    assign_goes (supply_in c.args.supply) c.args.stmt.now _ c.in-Assign.name c.in-Assign.x (state_in c.args.state.now) _ c.run_assign.result c.in-Assign.is c.run_assign.ensures

pub run_stmt-returns-in-Print : goal.run_stmt-returns-in-Print
run_stmt-returns-in-Print t c =
    print_goes (supply_in c.args.supply) c.args.stmt.now _ c.in-Print.x (state_in c.args.state.now) _ c.run_print.result c.in-Print.is c.run_print.ensures

pub run_stmt-returns-in-Export : goal.run_stmt-returns-in-Export
run_stmt-returns-in-Export t c =
    export_goes (supply_in c.args.supply) c.args.stmt.now _ c.in-Export.x (state_in c.args.state.now) _ c.run_export.result c.in-Export.is c.run_export.ensures

pub run_stmt-returns-in_err-test_value-in-If : goal.run_stmt-returns-in_err-test_value-in-If
run_stmt-returns-in_err-test_value-in-If t c =
    let p = err_from_is_err_and c.from_residual-in_err-test_value-in-If.result c.from_residual-in_err-test_value-in-If.ensures.1 in
    rw (p.1, p.2) (if_stops (supply_in c.args.supply) c.args.stmt.now c.in-If.field-0 c.in-If.test c.in-If.first c.in-If.second (state_in c.args.state.now) (state_in c.test_value.new.state) c.begin.new.self
    c.in_err-test_value-in-If.field-0.0 c.in-If.is c.in_ok-begin-in-If.ensures.ok c.in_err-test_value-in-If.ensures)

pub run_stmt-returns-then-branch : goal.run_stmt-returns-then-branch
run_stmt-returns-then-branch t c =
    if_first (supply_in c.args.supply) c.args.stmt.now c.in-If.field-0 c.in-If.test c.in-If.first c.in-If.second c.as_slice.result.now (state_in c.args.state.now) (state_in c.test_value.new.state) (state_in c.run.new.state) c.begin.new.self
    c.run.result c.in_ok-test_value-in-If.field-0 c.in-If.is c.in_ok-begin-in-If.ensures.ok c.in_ok-test_value-in-If.ensures c.if-branch.true c.as_slice.ensures c.run.ensures

pub run_stmt-returns-else-branch : goal.run_stmt-returns-else-branch
run_stmt-returns-else-branch t c =
    if_second (supply_in c.args.supply) c.args.stmt.now c.in-If.field-0 c.in-If.test c.in-If.first c.in-If.second c.as_slice-else-branch.result.now (state_in c.args.state.now) (state_in c.test_value.new.state) (state_in c.run-else-branch.new.state)
    c.begin.new.self c.run-else-branch.result c.in_ok-test_value-in-If.field-0 c.in-If.is c.in_ok-begin-in-If.ensures.ok c.in_ok-test_value-in-If.ensures c.if-branch.false c.as_slice-else-branch.ensures c.run-else-branch.ensures

pub run_stmt-returns-in_ok-begin-in-While : goal.run_stmt-returns-in_ok-begin-in-While
run_stmt-returns-in_ok-begin-in-While t c =
    loop_goes (supply_in c.args.supply) c.args.stmt.now c.in-While.field-0 c.in-While.test c.in-While.body c.as_slice-in-While.result.now (state_in c.args.state.now) (state_in c.run_turns.new.state) c.begin-in-While.new.self c.run_turns.result
    c.in-While.is c.in_ok-begin-in-While.ensures.ok c.as_slice-in-While.ensures c.run_turns.ensures

pub run_turns-returns-in_err-test_value : goal.run_turns-returns-in_err-test_value
run_turns-returns-in_err-test_value t c =
    let p = err_from_is_err_and c.from_residual.result c.from_residual.ensures.1 in
    rw (p.1, p.2) (turns_stop (supply_in c.args.supply) (tree_of c.args.test.now) (run (supply_in c.args.supply) (block_of c.args.body.now)) _ (state_in c.loop-state.state) (state_in c.test_value.new.state) c.in_err-test_value.field-0.0
    c.loop-state.invariant c.in_err-test_value.ensures)

pub run_turns-returns-in_err-begin_turn : goal.run_turns-returns-in_err-begin_turn
run_turns-returns-in_err-begin_turn t c =
    let p = err_from_is_err_and c.from_residual-in_err-begin_turn.result c.from_residual-in_err-begin_turn.ensures.1 in
    rw (p.1, p.2) (turns_unbegun (supply_in c.args.supply) (tree_of c.args.test.now) (run (supply_in c.args.supply) (block_of c.args.body.now)) _ (state_in c.loop-state.state) (state_in c.test_value.new.state) (state_in c.begin_turn.new.state) c.in_ok-test_value.field-0 c.in_err-begin_turn.field-0.0
    c.loop-state.invariant c.in_ok-test_value.ensures c.if-branch.true c.in_err-begin_turn.ensures.spent)

pub run_turns-loop-state-smaller : goal.run_turns-loop-state-smaller
run_turns-loop-state-smaller t c =
    fuel_left (supply_in c.args.supply) (tree_of c.args.test.now) (run (supply_in c.args.supply) (block_of c.args.body.now)) (state_in c.loop-state.state) (state_in c.test_value.new.state) (state_in c.begin_turn.new.state) (state_in c.run.new.state)
    c.in_ok-test_value.field-0 (run_growing (supply_in c.args.supply) (block_of c.args.body.now)) c.in_ok-test_value.ensures c.in_ok-begin_turn.ensures.begun c.in_ok-run.ensures

pub run_turns-loop-state-preserved : goal.run_turns-loop-state-preserved
run_turns-loop-state-preserved t c =
    turns_more (supply_in c.args.supply) (tree_of c.args.test.now) (run (supply_in c.args.supply) (block_of c.args.body.now)) _ (state_in c.loop-state.state) (state_in c.test_value.new.state) (state_in c.begin_turn.new.state) (state_in c.run.new.state)
    c.in_ok-test_value.field-0 (run_growing (supply_in c.args.supply) (block_of c.args.body.now)) c.loop-state.invariant c.in_ok-test_value.ensures c.if-branch.true c.in_ok-begin_turn.ensures.begun c.in_ok-run.ensures

pub run_turns-returns-in_err-run : goal.run_turns-returns-in_err-run
run_turns-returns-in_err-run t c =
    let p = err_from_is_err_and c.from_residual-in_err-run.result c.from_residual-in_err-run.ensures.1 in
    rw (p.1, p.2) (turns_halt (supply_in c.args.supply) (tree_of c.args.test.now) (run (supply_in c.args.supply) (block_of c.args.body.now)) _ (state_in c.loop-state.state) (state_in c.test_value.new.state) (state_in c.begin_turn.new.state) (state_in c.run.new.state)
    c.in_ok-test_value.field-0 c.in_err-run.field-0.0 c.loop-state.invariant c.in_ok-test_value.ensures c.if-branch.true c.in_ok-begin_turn.ensures.begun c.in_err-run.ensures)

pub run_turns-returns : goal.run_turns-returns
run_turns-returns t c =
    turns_end (supply_in c.args.supply) (tree_of c.args.test.now) (run (supply_in c.args.supply) (block_of c.args.body.now)) _ (state_in c.loop-state.state) (state_in c.test_value.new.state) c.in_ok-test_value.field-0
    c.loop-state.invariant c.in_ok-test_value.ensures c.if-branch.false
