-- What is added for the parts of a statement are its steps; and one more statement.
use Rattle.std.proofs.Common.{sym, ap, ◌∙◌}
use Rattle.hp_script.specs.Mirror.{tree_of}
use Rattle.hp_program.specs.Programs.{Prog, joined}
use Rattle.hp_air.specs.declared.what.Op.{Op}
use Rattle.hp_flat.specs.Flat.{flat_at}
use Rattle.hp_normal.proofs.ExprForms.{added_made, replaced, stop_first}
use Rattle.hp_normal.specs.Programs.{program_in}
use Rattle.hp_normal.proofs.BlockForms.{next_statement, block_assign, block_print, block_export, block_branch, block_turns, same_branch, same_loop}
use Rattle.hp_normal.proofs.stmts.+statements.Goals as goal

pub add_block-loop-stmt-preserved : goal.add_block-loop-stmt-preserved
add_block-loop-stmt-preserved t c =
    next_statement c.args.homes.now (program_in c.args.steps.now) (program_in c.loop-stmt.steps) (program_in c.add_stmt.new.steps) c.args.body.now c.loop-stmt.stmt-index c.stmt-item.result
    c.loop-stmt-test.true c.stmt-item.is c.loop-stmt.invariant c.in_ok-add_stmt.ensures

pub add_stmt-returns-in_ok-made-in-Assign : goal.add_stmt-returns-in_ok-made-in-Assign
add_stmt-returns-in_ok-made-in-Assign t c =
    added_made c.add.result (program_in c.args.steps.now) (program_in c.add_expr.new.steps) (program_in c.add.new.self) _ _ _ _
    c.in_ok-add_expr-in-Assign.ensures (block_assign c.args.homes.now c.args.stmt.now c.in-Assign.at c.in-Assign.name c.in-Assign.x c.in-Assign.is) (rw c.as_slice.ensures at c.in_ok-made-in-Assign.ensures) c.add.ensures

pub add_stmt-returns-in_ok-made-in-Print : goal.add_stmt-returns-in_ok-made-in-Print
add_stmt-returns-in_ok-made-in-Print t c =
    added_made c.add-in-Print.result (program_in c.args.steps.now) (program_in c.add_expr-in-Print.new.steps) (program_in c.add-in-Print.new.self) _ _ _ _
    c.in_ok-add_expr-in-Print.ensures (block_print c.args.homes.now c.args.stmt.now c.in-Print.at c.in-Print.x c.in-Print.is) c.in_ok-made-in-Print.ensures c.add-in-Print.ensures

pub add_stmt-returns-in_ok-made-in-Export : goal.add_stmt-returns-in_ok-made-in-Export
add_stmt-returns-in_ok-made-in-Export t c =
    added_made c.add-in-Export.result (program_in c.args.steps.now) (program_in c.add_expr-in-Export.new.steps) (program_in c.add-in-Export.new.self) _ _ _ _
    c.in_ok-add_expr-in-Export.ensures (block_export c.args.homes.now c.args.stmt.now c.in-Export.at c.in-Export.x c.in-Export.is) c.in_ok-made-in-Export.ensures c.add-in-Export.ensures

pub add_stmt-returns-in_ok-word_of-in-If : goal.add_stmt-returns-in_ok-word_of-in-If
add_stmt-returns-in_ok-word_of-in-If t c =
    added_made c.branch-steps.result (program_in c.args.steps.now) (program_in c.add_expr-in-If.new.steps) (program_in c.branch-steps.new.self) _ _ _ _
    c.in_ok-add_expr-in-If.ensures (block_branch c.args.homes.now c.args.stmt.now c.in-If.field-0 c.in-If.test c.in-If.first c.in-If.second c.in-If.is)
    (same_branch _ _ _ _ _ _ c.in_ok-word_of-in-If.ensures (rw c.as_slice-in-If.ensures at c.in_ok-first-in-If.ensures) (rw c.as_slice-in-If-2.ensures at c.in_ok-second-in-If.ensures))
    c.branch-steps.ensures

pub add_stmt-returns-in_ok-word_of-in-While : goal.add_stmt-returns-in_ok-word_of-in-While
add_stmt-returns-in_ok-word_of-in-While t c =
    let test = flat_at c.args.homes.now (tree_of c.in-While.test) in
    replaced c.turns.result (program_in c.args.steps.now) (program_in c.turns.new.self) _ _
    (same_loop _ _ _ _ _ _ c.in_ok-word_of-in-While.ensures (c.in_ok-add_expr-in-While.ensures ∙ ap (λ (p : Prog Op). joined p test) c.new-tested.ensures ∙ stop_first test)
    (rw c.as_slice-in-While.ensures at c.in_ok-turn-in-While.ensures)
    ∙ sym (block_turns c.args.homes.now c.args.stmt.now c.in-While.field-0 c.in-While.test c.in-While.turn c.in-While.is))
    c.turns.ensures
