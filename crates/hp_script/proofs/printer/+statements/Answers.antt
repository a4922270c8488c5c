-- What is added by one call after the other is the text of the statement.
use Rattle.std.proofs.Common.{ℕ, List, append_assoc, append-nil, sym, ◌++◌, ◌∷◌, []}
use Rattle.std.specs.Prelude.{codes}
use Rattle.hp_script.specs.Mirror.{block_of}
use Rattle.hp_script.specs.Printing.{text_of, deeper, else_part}
use Rattle.hp_script.proofs.PrintLemmas.{added, no_statements, next_statement, text_assign, text_print, text_export, text_choose, text_loop, no_else, some_else}
use Rattle.hp_script.proofs.printer.+statements.Goals as goal

pub add_block-loop-stmt-init : goal.add_block-loop-stmt-init
add_block-loop-stmt-init t c = rw (no_statements c.args.indent.now) (sym (append-nil c.args.out.now.items))

pub add_block-loop-stmt-preserved : goal.add_block-loop-stmt-preserved
add_block-loop-stmt-preserved t c =
    next_statement c.args.indent.now c.args.out.now.items c.loop-stmt.out.items c.add_stmt.new.out.items c.args.body.now c.loop-stmt.stmt-index c.stmt-item.result
    c.loop-stmt-test.true c.stmt-item.is c.loop-stmt.invariant c.in_ok-add_stmt.ensures

pub add_stmt-returns-in_ok-add_expr-in-Assign : goal.add_stmt-returns-in_ok-add_expr-in-Assign
add_stmt-returns-in_ok-add_expr-in-Assign t c =
    added c.add-in-Assign-3.result c.args.out.now.items c.add_expr.new.out.items c.add-in-Assign-3.new.out.items (c.as_slice-in-Assign-2.result.now) (text_of c.args.indent.now (block_of (c.args.stmt.now ∷ [])))
    (λ last. simp (last, c.in_ok-add_expr-in-Assign.ensures, c.in_ok-add-in-Assign-2.ensures, c.in_ok-add-in-Assign.ensures, c.in_ok-add.ensures, c.as_slice.ensures, c.as_slice-in-Assign.ensures, c.as_slice-in-Assign-2.ensures, text_assign c.args.indent.now c.args.stmt.now c.in-Assign.field-0 c.in-Assign.name c.in-Assign.x c.in-Assign.is, append_assoc)) c.add-in-Assign-3.ensures

pub add_stmt-returns-in_ok-add_expr-in-Print : goal.add_stmt-returns-in_ok-add_expr-in-Print
add_stmt-returns-in_ok-add_expr-in-Print t c =
    added c.add-in-Print-2.result c.args.out.now.items c.add_expr-in-Print.new.out.items c.add-in-Print-2.new.out.items (c.as_slice-in-Print-2.result.now) (text_of c.args.indent.now (block_of (c.args.stmt.now ∷ [])))
    (λ last. simp (last, c.in_ok-add_expr-in-Print.ensures, c.in_ok-add-in-Print.ensures, c.in_ok-add.ensures, c.as_slice-in-Print.ensures, c.as_slice-in-Print-2.ensures, text_print c.args.indent.now c.args.stmt.now c.in-Print.field-0 c.in-Print.x c.in-Print.is, append_assoc)) c.add-in-Print-2.ensures

pub add_stmt-returns-in_ok-add_expr-in-Export : goal.add_stmt-returns-in_ok-add_expr-in-Export
add_stmt-returns-in_ok-add_expr-in-Export t c =
    added c.add-in-Export-2.result c.args.out.now.items c.add_expr-in-Export.new.out.items c.add-in-Export-2.new.out.items (c.as_slice-in-Export-2.result.now) (text_of c.args.indent.now (block_of (c.args.stmt.now ∷ [])))
    (λ last. simp (last, c.in_ok-add_expr-in-Export.ensures, c.in_ok-add-in-Export.ensures, c.in_ok-add.ensures, c.as_slice-in-Export.ensures, c.as_slice-in-Export-2.ensures, text_export c.args.indent.now c.args.stmt.now c.in-Export.field-0 c.in-Export.x c.in-Export.is, append_assoc)) c.add-in-Export-2.ensures

pub add_stmt-returns-in_ok-add_else-in-If : goal.add_stmt-returns-in_ok-add_else-in-If
add_stmt-returns-in_ok-add_else-in-If t c =
    added c.add_end.result c.args.out.now.items c.add_else.new.out.items c.add_end.new.out.items (c.args.indent.now ++ codes "end\n") (text_of c.args.indent.now (block_of (c.args.stmt.now ∷ [])))
    (λ last. simp (last, c.in_ok-add_else-in-If.ensures, c.in_ok-add_nested-in-If.ensures, c.in_ok-add_expr-in-If.ensures, c.in_ok-add-in-If.ensures, c.in_ok-add.ensures, c.as_slice-in-If.ensures, c.as_slice-in-If-2.ensures, c.as_slice-in-If-3.ensures, text_choose c.args.indent.now c.args.stmt.now c.in-If.field-0 c.in-If.test c.in-If.body c.in-If.other c.in-If.is, append_assoc)) c.add_end.ensures

pub add_stmt-returns-in_ok-add_nested-in-While : goal.add_stmt-returns-in_ok-add_nested-in-While
add_stmt-returns-in_ok-add_nested-in-While t c =
    added c.add_end-in-While.result c.args.out.now.items c.add_nested-in-While.new.out.items c.add_end-in-While.new.out.items (c.args.indent.now ++ codes "end\n") (text_of c.args.indent.now (block_of (c.args.stmt.now ∷ [])))
    (λ last. simp (last, c.in_ok-add_nested-in-While.ensures, c.in_ok-add_expr-in-While.ensures, c.in_ok-add-in-While.ensures, c.in_ok-add.ensures, c.as_slice-in-While.ensures, c.as_slice-in-While-2.ensures, text_loop c.args.indent.now c.args.stmt.now c.in-While.field-0 c.in-While.test c.in-While.body c.in-While.is, append_assoc)) c.add_end-in-While.ensures

pub add_else-returns : goal.add_else-returns
add_else-returns t c =
    let inner : List ℕ = text_of (deeper c.args.indent.now) (block_of c.args.other.now) in
    added c.add_nested.result c.args.out.now.items c.add-2.new.out.items c.add_nested.new.out.items (codes "\n" ++ inner) (else_part c.args.indent.now (block_of c.args.other.now) inner)
    (λ last. simp (last, c.in_ok-add-2.ensures, c.in_ok-add.ensures, c.as_slice.ensures, some_else c.args.indent.now inner c.args.other.now c.if-is_empty.ensures, append_assoc)) c.add_nested.ensures

pub add_else-returns-then-is_empty : goal.add_else-returns-then-is_empty
add_else-returns-then-is_empty t c =
    let inner : List ℕ = text_of (deeper c.args.indent.now) (block_of c.args.other.now) in
    rw (no_else c.args.indent.now inner c.args.other.now c.if-is_empty.ensures) (sym (append-nil c.args.out.now.items))
