-- What is added by one call after the other are the steps of the form.
use Rattle.std.proofs.Common.{sym, ap, ◌∙◌}
use Rattle.hp_script.specs.Mirror.{tree_of}
use Rattle.hp_program.specs.Programs.{Prog, joined}
use Rattle.hp_air.specs.declared.what.Op.{Op}
use Rattle.hp_flat.specs.Flat.{flat}
use Rattle.hp_flat.specs.FlatCalls.{lazy_code}
use Rattle.hp_normal.specs.Programs.{head_in}
use Rattle.hp_normal.specs.Programs.{program_in, frame_at_node}
use Rattle.hp_normal.proofs.ExprForms.{added, added_twice, replaced, stop_first, flat_unary, flat_binary, flat_index, flat_call, binary_lazy, binary_eager, among_range, next_argument, all_arguments}
use Rattle.hp_normal.proofs.exprs.+exprs.Goals as goal

pub add_args-loop-arg-preserved : goal.add_args-loop-arg-preserved
add_args-loop-arg-preserved t c =
    next_argument c.args.homes.now (frame_at_node c.args.homes.now.known c.loop-arg.seen) (frame_at_node c.args.homes.now.known c.args.behind) _ (program_in c.loop-arg.steps) (program_in c.add_arg.new.steps)
    c.args.args.now c.loop-arg.arg-index c.arg-item.result c.loop-arg-test.true c.arg-item.is c.loop-arg.invariant c.in_ok-add_arg.ensures

pub add_args-returns : goal.add_args-returns
add_args-returns t c =
    all_arguments c.args.homes.now (frame_at_node c.args.homes.now.known c.loop-arg.seen) (frame_at_node c.args.homes.now.known c.args.behind) _ (program_in c.loop-arg.steps)
    c.args.args.now c.loop-arg.arg-index c.loop-arg-test.false c.loop-arg.invariant

pub add_expr-returns-in_ok-add_expr-in-Unary : goal.add_expr-returns-in_ok-add_expr-in-Unary
add_expr-returns-in_ok-add_expr-in-Unary t c =
    added c.add_unary.result (program_in c.args.steps.now) (program_in c.add_expr.new.steps) (program_in c.add_unary.new.steps) _ _ _
    (rw c.get.ensures at c.in_ok-add_expr-in-Unary.ensures)
    (flat_unary c.args.homes.now _ c.args.x.now c.in-Unary.op c.in-Unary.dotted c.in-Unary.operand c.in-Unary.is)
    (rw c.get-in-Unary.ensures at c.add_unary.ensures)

pub add_expr-returns-in_ok-add_expr-in-Binary : goal.add_expr-returns-in_ok-add_expr-in-Binary
add_expr-returns-in_ok-add_expr-in-Binary t c =
    added c.add_second.result (program_in c.args.steps.now) (program_in c.add_expr-in-Binary.new.steps) (program_in c.add_second.new.steps) _ _ _
    (rw c.get-in-Binary.ensures at c.in_ok-add_expr-in-Binary.ensures)
    (flat_binary c.args.homes.now _ c.args.x.now c.in-Binary.op c.in-Binary.dotted c.in-Binary.left c.in-Binary.right c.in-Binary.is)
    (rw (c.get-in-Binary-2.ensures, c.get-in-Binary-3.ensures) at c.add_second.ensures)

pub add_expr-returns-in_ok-add_expr-in-Index-2 : goal.add_expr-returns-in_ok-add_expr-in-Index-2
add_expr-returns-in_ok-add_expr-in-Index-2 t c =
    added c.add_index.result (program_in c.args.steps.now) (program_in c.add_expr-in-Index-2.new.steps) (program_in c.add_index.new.steps) _ _ _
    (added_twice (program_in c.args.steps.now) (program_in c.add_expr-in-Index.new.steps) (program_in c.add_expr-in-Index-2.new.steps) _ _
    (rw c.get-in-Index.ensures at c.in_ok-add_expr-in-Index.ensures) (rw c.get-in-Index-2.ensures at c.in_ok-add_expr-in-Index-2.ensures))
    (flat_index c.args.homes.now _ c.args.x.now c.in-Index.array c.in-Index.index c.in-Index.is)
    (rw (c.get-in-Index-3.ensures, c.get-in-Index-4.ensures) at c.add_index.ensures)

pub add_expr-returns-in_ok-add_args-in-Call : goal.add_expr-returns-in_ok-add_args-in-Call
add_expr-returns-in_ok-add_args-in-Call t c =
    added c.add_call.result (program_in c.args.steps.now) (program_in c.add_args.new.steps) (program_in c.add_call.new.steps) _ _ _
    (rw (c.frame_around.ensures c.args.homes.now.known, c.as_slice-name.ensures, c.as_slice-in-Call.ensures, c.as_slice-in-Call-2.ensures) at c.in_ok-add_args-in-Call.ensures)
    (flat_call c.args.homes.now _ c.args.x.now c.in-Call.function c.in-Call.dotted c.in-Call.args c.in-Call.is)
    (rw (c.as_slice-name.ensures, c.as_slice-in-Call-3.ensures) at c.add_call.ensures)

pub add_arg-returns-in_ok-add_expr-in-Range : goal.add_arg-returns-in_ok-add_expr-in-Range
add_arg-returns-in_ok-add_expr-in-Range t c =
    added c.add_expr-in-Range.result (program_in c.args.steps.now) (program_in c.add_expr.new.steps) (program_in c.add_expr-in-Range.new.steps) _ _ _
    c.in_ok-add_expr-in-Range.ensures (among_range c.args.homes.now _ _ c.args.arg.now c.in-Range.first c.in-Range.last c.in-Range.is) c.add_expr-in-Range.ensures

pub add_second-returns-in_ok-add_expr : goal.add_second-returns-in_ok-add_expr
add_second-returns-in_ok-add_expr t c =
    let steps = flat c.args.homes.now (frame_at_node c.args.homes.now.known c.args.around) (tree_of c.args.y.now) in
    replaced c.add_lazy.result (program_in c.args.steps.now) (program_in c.add_lazy.new.steps) _ _
    (ap (lazy_code c.args.homes.now (head_in c.args.site) c.args.op (tree_of c.args.x.now) (tree_of c.args.y.now))
    (c.in_ok-add_expr.ensures ∙ ap (λ (p : Prog Op). joined p steps) c.new-second.ensures ∙ stop_first steps)
    ∙ sym (binary_lazy c.args.homes.now (head_in c.args.site) c.args.op c.args.dotted (tree_of c.args.x.now) (tree_of c.args.y.now) steps (sym c.is_lazy.ensures ∙ c.if-is_lazy.true)))
    c.add_lazy.ensures

pub add_second-returns-in_ok-add_expr-2 : goal.add_second-returns-in_ok-add_expr-2
add_second-returns-in_ok-add_expr-2 t c =
    added c.add_eager.result (program_in c.args.steps.now) (program_in c.add_expr-else-is_lazy.new.steps) (program_in c.add_eager.new.steps) _ _ _
    c.in_ok-add_expr-2.ensures
    (binary_eager c.args.homes.now (head_in c.args.site) c.args.op c.args.dotted (tree_of c.args.x.now) (tree_of c.args.y.now) _ (sym c.is_lazy.ensures ∙ c.if-is_lazy.false))
    c.add_eager.ensures
