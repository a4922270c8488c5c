-- Each statement adds the names that it assigns.
use Rattle.std.proofs.Common.{◌∙◌, ◌||◌, Bool, ap, sym, bytes_eq, arith}
use Rattle.hp_script.specs.Scope.{has}
use Rattle.hp_types.proofs.Assigned.{assigns, assigns_more, assigns_all, by_assign, unassigned, by_choice, by_loop, added_first, added_one, added_none, added_both, assigned_by}
use Rattle.hp_types.proofs.names.+assigns.Goals as goal

pub add_assigned-loop-stmt-preserved : goal.add_assigned-loop-stmt-preserved
add_assigned-loop-stmt-preserved t c x =
    assigns_more x c.args.body.now c.loop-stmt.stmt-index c.stmt-item.result (has x c.args.names.now) (assigns x c.args.body.now) (has x c.loop-stmt.names) (has x c.add_assigned_by.new.names)
    c.loop-stmt-test.true c.stmt-item.is (c.in_ok-add_assigned_by.ensures x) (c.loop-stmt.invariant x)

pub add_assigned-returns : goal.add_assigned-returns
add_assigned-returns t c x =
    assigns_all x c.args.body.now c.loop-stmt.stmt-index (has x c.args.names.now) (assigns x c.args.body.now) (has x c.loop-stmt.names) (omega arith) (c.loop-stmt.invariant x)

pub add_assigned_by-returns-in-Assign : goal.add_assigned_by-returns-in-Assign
add_assigned_by-returns-in-Assign t c =
    added_one c.add.result c.args.names.now c.add.new.self c.as_slice.result.now (assigned_by c.args.stmt.now)
    (λ x. by_assign x c.args.stmt.now c.in-Assign.field-0 c.in-Assign.assigned c.in-Assign.field-2 c.in-Assign.is ∙ ap (bytes_eq x) (sym c.as_slice.ensures)) c.add.ensures

pub add_assigned_by-returns-in_ok-add_assigned-in-If : goal.add_assigned_by-returns-in_ok-add_assigned-in-If
add_assigned_by-returns-in_ok-add_assigned-in-If t c =
    added_both c.add_assigned-in-If.result c.args.names.now c.add_assigned.new.names c.add_assigned-in-If.new.names (assigned_by c.args.stmt.now) c.as_slice-in-If.result.now c.as_slice-in-If-2.result.now
    (λ x. by_choice x c.args.stmt.now c.in-If.field-0 c.in-If.field-1 c.in-If.body c.in-If.other c.in-If.is
    ∙ ap (λ (b : Bool). b || assigns x c.in-If.other) (ap (assigns x) (sym c.as_slice-in-If.ensures)) ∙ ap (λ (b : Bool). assigns x c.as_slice-in-If.result.now || b) (ap (assigns x) (sym c.as_slice-in-If-2.ensures)))
    c.in_ok-add_assigned-in-If.ensures c.add_assigned-in-If.ensures

pub add_assigned_by-returns-in-While : goal.add_assigned_by-returns-in-While
add_assigned_by-returns-in-While t c =
    added_first c.add_assigned-in-While.result c.args.names.now c.add_assigned-in-While.new.names (assigned_by c.args.stmt.now) c.as_slice-in-While.result.now
    (λ x. by_loop x c.args.stmt.now c.in-While.field-0 c.in-While.field-1 c.in-While.body c.in-While.is ∙ ap (assigns x) (sym c.as_slice-in-While.ensures)) c.add_assigned-in-While.ensures

pub add_assigned_by-returns-in-Print : goal.add_assigned_by-returns-in-Print
add_assigned_by-returns-in-Print t c = added_none c.args.names.now (assigned_by c.args.stmt.now) (unassigned c.args.stmt.now c.in-Print.is)

pub add_assigned_by-returns-in-Print-2 : goal.add_assigned_by-returns-in-Print-2
add_assigned_by-returns-in-Print-2 t c = added_none c.args.names.now (assigned_by c.args.stmt.now) (unassigned c.args.stmt.now c.in-Print.is)
