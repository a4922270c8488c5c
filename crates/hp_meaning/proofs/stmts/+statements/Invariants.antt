-- A run goes on with the statements that are left; a loop's turns with the fuel that is left.
use Rattle.std.proofs.Common.{◌≡◌, ◌+◌, drop}
use Rattle.hp_script.specs.Mirror.{tree_of, block_of}
use Rattle.hp_meaning.specs.HeldValues.{supply_in}
use Rattle.hp_meaning.specs.Run.{decided, in_turn, run}
use Rattle.hp_word.specs.Runs.{turns}
use Rattle.hp_meaning.specs.Running.{state_in}
use Rattle.hp_meaning.specs.ValueOf.{value}
use Rattle.hp_meaning.proofs.stmts.+statements.Given as goal

abbrev pub invariant-run-loop-stmt : goal.invariant-run-loop-stmt
invariant-run-loop-stmt l = run (supply_in l.supply) (block_of l.body) (state_in l.initial.state) ≡ run (supply_in l.supply) (block_of (drop l.stmt-index l.body)) (state_in l.state)

abbrev pub invariant-run_turns-loop-state : goal.invariant-run_turns-loop-state
invariant-run_turns-loop-state l =
    turns (l.initial.state.fuel + 1) (decided (value (supply_in l.supply) (tree_of l.test))) (in_turn (run (supply_in l.supply) (block_of l.body))) (state_in l.initial.state)
    ≡ turns (l.state.fuel + 1) (decided (value (supply_in l.supply) (tree_of l.test))) (in_turn (run (supply_in l.supply) (block_of l.body))) (state_in l.state)

abbrev pub decreases-run_turns-loop-state : goal.decreases-run_turns-loop-state
decreases-run_turns-loop-state l = l.state.fuel
