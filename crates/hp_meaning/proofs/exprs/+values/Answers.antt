-- Each exit of the evaluation of an expression, and why each one evaluates parts of what it was given.
use Rattle.std.proofs.Common.{rules, arith, ◌≡◌, ◌++◌, ◌∷◌, [], List, map, true, false, Err, refl, sym, ap, ◌∙◌, FitsSigned, w64}
use Rattle.std.proofs.lemmas.Grind.{common_steps}
use Rattle.std.proofs.lemmas.Int.{to_z-of_z}
use Rattle.hp_word.specs.declared.name.Name.{Name}
use Rattle.hp_script.specs.declared.function.Function.TheVariants as functions
use Rattle.hp_script.specs.declared.tree.Arg.{Arg}
use Rattle.hp_script.specs.declared.tree.Expr.{Expr}
use Rattle.hp_script.specs.Mirror.{head, tree_of, args_of}
use Rattle.hp_meaning.specs.declared.seen.Stop.TheVariants as stop
use Rattle.hp_meaning.specs.ArgumentShapes.{flipped_operand}
use Rattle.hp_meaning.specs.Dispatch.{one_value, two_value, lambda_value}
use Rattle.hp_meaning.specs.FrameRules.{field_value, framed}
use Rattle.hp_meaning.specs.HeldValues.{looked, held_value, measured_in, supply_in, scope_in}
use Rattle.hp_meaning.specs.ListRules.{collected, indexed}
use Rattle.hp_meaning.specs.MatrixRules.{flipped_value, stacked}
use Rattle.hp_meaning.specs.Outcomes.{Gives, given, ended}
use Rattle.hp_meaning.specs.Scopes.{value_named}
use Rattle.hp_meaning.specs.ValueOf.{value, parts, rows_among, columns_among, called_as, operator_value, strict_operands, flipped_operands, index_operands, column_value}
use Rattle.hp_meaning.specs.WordRules.{unary_value}
use Rattle.hp_meaning.proofs.ArrayLemmas.{plain_smaller, named_smaller, rows_wrong, rows_stop, rows_mixed, rows_more, rows_made, columns_wrong, columns_stop, columns_mixed, columns_more, columns_made}
use Rattle.hp_meaning.proofs.CallLemmas.{one_none, one_stops, one_made, answer_on, two_none, two_goes, ends_none, ends_goes, lambda_none, lambda_stops, lambda_made, call_as, call_unknown, call_two, call_one, call_lambda, no_function}
use Rattle.hp_meaning.proofs.FrameCallLemmas.{filter_none, filter_first, filter_made, masked_frame, masked_test, masked_made, sort_none, sort_name, sort_stops, sort_made, join_none, join_name, join_first, join_second, join_made, aggregate_none, aggregate_key, aggregate_name, aggregate_wrong, aggregate_empty, aggregate_stops, aggregate_made, not_none, table_comes}
use Rattle.hp_meaning.proofs.OutcomeLemmas.{leaves, comes_as, holds_as, holds_made, comes_wrong, first_stops, first_goes, answer_comes, answer_holds}
use Rattle.hp_meaning.proofs.TreeSizes.{tree_size, args_size, unary_size, binary_size, index_size, call_size, first_smaller, one_smaller, two_smaller, three_smaller, range_smaller, lambda_smaller, flipped_smaller}
use Rattle.hp_meaning.proofs.ValueLemmas.{both, both_first, both_second, both_made, flipped_is, index_is, strict_is, none_for, sides_flipped, sides_dotted, sides_lazy, sides_strict, lazy_first, lazy_word, lazy_decided, lazy_second, lazy_other, lazy_made, decided, number_is, truth_is, text_is, name_is, column_is, field_is, unary_is, binary_is, element_is, call_is}
use Rattle.hp_meaning.proofs.exprs.+values.Goals as goal

pub aggregate_call-returns-in_err-x : goal.aggregate_call-returns-in_err-x
aggregate_call-returns-in_err-x t c = leaves _ c.from_residual.result c.in_err-x.field-0.0 c.args.seen.now c.from_residual.ensures.1
    (aggregate_none (supply_in c.args.supply) (args_of c.args.args.now) (scope_in c.args.scope) c.args.seen.now c.in_err-x.field-0.0 c.in_err-x.ensures)

pub aggregate_call-returns-in_err-y : goal.aggregate_call-returns-in_err-y
aggregate_call-returns-in_err-y t c = leaves _ c.from_residual-in_err-y.result c.in_err-y.field-0.0 c.args.seen.now c.from_residual-in_err-y.ensures.1
    (aggregate_key (supply_in c.args.supply) (args_of c.args.args.now) (tree_of c.in_ok-x.x.now) (args_of c.in_ok-x.others.now) (scope_in c.args.scope) c.args.seen.now c.in_err-y.field-0.0 c.in_ok-x.ensures c.in_err-y.ensures)

pub aggregate_call-returns-in_err-column_name : goal.aggregate_call-returns-in_err-column_name
aggregate_call-returns-in_err-column_name t c = leaves _ c.from_residual-in_err-column_name.result c.in_err-column_name.field-0.0 c.args.seen.now c.from_residual-in_err-column_name.ensures.1
    (aggregate_name (supply_in c.args.supply) (args_of c.args.args.now) (tree_of c.in_ok-x.x.now) (args_of c.in_ok-x.others.now) (tree_of c.in_ok-y.y.now) (args_of c.in_ok-y.rest.now) (scope_in c.args.scope) c.args.seen.now c.in_err-column_name.field-0.0 c.in_ok-x.ensures c.in_ok-y.ensures c.in_err-column_name.ensures)

pub aggregate_call-returns-in_err-measures : goal.aggregate_call-returns-in_err-measures
aggregate_call-returns-in_err-measures t c = leaves _ c.from_residual-in_err-measures.result c.in_err-measures.field-0.0 c.args.seen.now c.from_residual-in_err-measures.ensures.1
    (λ ne. aggregate_wrong (supply_in c.args.supply) (args_of c.args.args.now) (tree_of c.in_ok-x.x.now) (args_of c.in_ok-x.others.now) (tree_of c.in_ok-y.y.now) (args_of c.in_ok-y.rest.now) (scope_in c.args.scope) c.args.seen.now c.in_err-measures.field-0.0 c.in_ok-x.ensures c.in_ok-y.ensures (c.in_err-measures.ensures ne) ne)

pub aggregate_call-returns-then-is_empty : goal.aggregate_call-returns-then-is_empty
aggregate_call-returns-then-is_empty t c =
    let none : c.in_ok-measures.measures.items ≡ [] = grind (arith, common_steps, c.is_empty.ensures, c.if-is_empty.true) in
    aggregate_empty (supply_in c.args.supply) (args_of c.args.args.now) (tree_of c.in_ok-x.x.now) (args_of c.in_ok-x.others.now) (tree_of c.in_ok-y.y.now) (args_of c.in_ok-y.rest.now) (map measured_in c.in_ok-measures.measures.items) (scope_in c.args.scope) c.args.seen.now c.in_ok-x.ensures c.in_ok-y.ensures c.in_ok-measures.ensures (ap (map measured_in) none)

pub aggregate_call-value-requires : goal.aggregate_call-value-requires
aggregate_call-value-requires t c = let less = (first_smaller (args_of c.args.args.now) (args_of c.in_ok-x.others.now) (tree_of c.in_ok-x.x.now) c.in_ok-x.ensures).0 in (omega arith, tt)

pub aggregate_call-returns-in_err-a : goal.aggregate_call-returns-in_err-a
aggregate_call-returns-in_err-a t c =
    let some : map measured_in c.in_ok-measures.measures.items ≡ [] → ⊥ = not_none c.in_ok-measures.measures.items (grind (arith, common_steps, c.is_empty.ensures, c.if-is_empty.false)) in
    leaves _ c.from_residual-in_err-a.result c.in_err-a.field-0.0 c.value.new.seen c.from_residual-in_err-a.ensures.1
    (aggregate_stops (supply_in c.args.supply) (args_of c.args.args.now) (tree_of c.in_ok-x.x.now) (args_of c.in_ok-x.others.now) (tree_of c.in_ok-y.y.now) (args_of c.in_ok-y.rest.now) c.in_ok-column_name.field-0.now.bytes (map measured_in c.in_ok-measures.measures.items) (scope_in c.args.scope) c.args.seen.now c.value.new.seen c.in_err-a.field-0.0 c.in_ok-x.ensures c.in_ok-y.ensures c.in_ok-column_name.ensures c.in_ok-measures.ensures some c.in_err-a.ensures)

pub aggregate_call-returns : goal.aggregate_call-returns
aggregate_call-returns t c =
    let some : map measured_in c.in_ok-measures.measures.items ≡ [] → ⊥ = not_none c.in_ok-measures.measures.items (grind (arith, common_steps, c.is_empty.ensures, c.if-is_empty.false)) in
    aggregate_made (supply_in c.args.supply) (args_of c.args.args.now) (tree_of c.in_ok-x.x.now) (args_of c.in_ok-x.others.now) (tree_of c.in_ok-y.y.now) (args_of c.in_ok-y.rest.now) c.in_ok-column_name.field-0.now.bytes c.as_slice-key.result.now (map measured_in c.in_ok-measures.measures.items) (map measured_in c.as_slice.result.now) (scope_in c.args.scope) c.args.seen.now c.value.new.seen c.grouped.new.met (held_value c.in_ok-a.a) (looked c.look.result) c.grouped.result c.in_ok-x.ensures c.in_ok-y.ensures c.in_ok-column_name.ensures c.in_ok-measures.ensures some c.as_slice-key.ensures (ap (map measured_in) c.as_slice.ensures.value) c.in_ok-a.ensures c.look.ensures c.grouped.ensures

pub binary-flipped-requires : goal.binary-flipped-requires
binary-flipped-requires t c = let less = flipped_smaller c.args.op c.args.dotted (tree_of c.args.right.now) (tree_of c.in-Some.operand.now) (sym c.in-Some.ensures) in (omega arith, tt)

pub binary-returns-in-Some : goal.binary-returns-in-Some
binary-returns-in-Some t c = sides_flipped (supply_in c.args.supply) c.args.at c.args.op c.args.dotted (tree_of c.args.left.now) (tree_of c.args.right.now) (tree_of c.in-Some.operand.now) (scope_in c.args.scope) c.args.seen.now c.flipped.new.seen c.flipped.result c.in-Some.ensures c.flipped.ensures

pub binary-returns-then-dotted : goal.binary-returns-then-dotted
binary-returns-then-dotted t c = sides_dotted (supply_in c.args.supply) c.args.at c.args.op c.args.dotted (tree_of c.args.left.now) (tree_of c.args.right.now) (scope_in c.args.scope) c.args.seen.now (none_for c.flipped_operand.result (flipped_operand c.args.op c.args.dotted (tree_of c.args.right.now)) c.flipped_operand.ensures c.in_default.not-Some) (sym c.is_lazy.ensures ∙ c.if-is_lazy.true) c.if-dotted.true

pub binary-returns-then-is_lazy : goal.binary-returns-then-is_lazy
binary-returns-then-is_lazy t c = sides_lazy (supply_in c.args.supply) c.args.at c.args.op c.args.dotted (tree_of c.args.left.now) (tree_of c.args.right.now) (scope_in c.args.scope) c.args.seen.now c.lazily.new.seen c.lazily.result (none_for c.flipped_operand.result (flipped_operand c.args.op c.args.dotted (tree_of c.args.right.now)) c.flipped_operand.ensures c.in_default.not-Some) (sym c.is_lazy.ensures ∙ c.if-is_lazy.true) c.if-dotted.false c.lazily.ensures

pub binary-returns : goal.binary-returns
binary-returns t c = sides_strict (supply_in c.args.supply) c.args.at c.args.op c.args.dotted (tree_of c.args.left.now) (tree_of c.args.right.now) (scope_in c.args.scope) c.args.seen.now c.strictly.new.seen c.strictly.result (none_for c.flipped_operand.result (flipped_operand c.args.op c.args.dotted (tree_of c.args.right.now)) c.flipped_operand.ensures c.in_default.not-Some) (sym c.is_lazy.ensures ∙ c.if-is_lazy.false) c.strictly.ensures

pub strictly-returns-in_err-a : goal.strictly-returns-in_err-a
strictly-returns-in_err-a t c = leaves _ c.from_residual.result c.in_err-a.field-0.0 c.value.new.seen c.from_residual.ensures.1
    (comes_as (strict_operands c.args.at c.args.op c.args.dotted (value (supply_in c.args.supply) (tree_of c.args.left.now)) (value (supply_in c.args.supply) (tree_of c.args.right.now)) (scope_in c.args.scope) c.args.seen.now) (both (value (supply_in c.args.supply) (tree_of c.args.left.now)) (value (supply_in c.args.supply) (tree_of c.args.right.now)) (operator_value c.args.at c.args.op c.args.dotted) (scope_in c.args.scope) c.args.seen.now) (Err c.in_err-a.field-0.0) c.value.new.seen (strict_is c.args.at c.args.op c.args.dotted (value (supply_in c.args.supply) (tree_of c.args.left.now)) (value (supply_in c.args.supply) (tree_of c.args.right.now)) (scope_in c.args.scope) c.args.seen.now)
    (both_first (value (supply_in c.args.supply) (tree_of c.args.left.now)) (value (supply_in c.args.supply) (tree_of c.args.right.now)) (operator_value c.args.at c.args.op c.args.dotted) (scope_in c.args.scope) c.args.seen.now c.value.new.seen c.in_err-a.field-0.0 c.in_err-a.ensures))

pub strictly-returns-in_err-b : goal.strictly-returns-in_err-b
strictly-returns-in_err-b t c = leaves _ c.from_residual-in_err-b.result c.in_err-b.field-0.0 c.value-2.new.seen c.from_residual-in_err-b.ensures.1
    (comes_as (strict_operands c.args.at c.args.op c.args.dotted (value (supply_in c.args.supply) (tree_of c.args.left.now)) (value (supply_in c.args.supply) (tree_of c.args.right.now)) (scope_in c.args.scope) c.args.seen.now) (both (value (supply_in c.args.supply) (tree_of c.args.left.now)) (value (supply_in c.args.supply) (tree_of c.args.right.now)) (operator_value c.args.at c.args.op c.args.dotted) (scope_in c.args.scope) c.args.seen.now) (Err c.in_err-b.field-0.0) c.value-2.new.seen (strict_is c.args.at c.args.op c.args.dotted (value (supply_in c.args.supply) (tree_of c.args.left.now)) (value (supply_in c.args.supply) (tree_of c.args.right.now)) (scope_in c.args.scope) c.args.seen.now)
    (both_second (value (supply_in c.args.supply) (tree_of c.args.left.now)) (value (supply_in c.args.supply) (tree_of c.args.right.now)) (operator_value c.args.at c.args.op c.args.dotted) (scope_in c.args.scope) c.args.seen.now c.value.new.seen c.value-2.new.seen (held_value c.in_ok-a.a) c.in_err-b.field-0.0 c.in_ok-a.ensures c.in_err-b.ensures))

pub strictly-returns : goal.strictly-returns
strictly-returns t c = comes_as (strict_operands c.args.at c.args.op c.args.dotted (value (supply_in c.args.supply) (tree_of c.args.left.now)) (value (supply_in c.args.supply) (tree_of c.args.right.now)) (scope_in c.args.scope) c.args.seen.now) (both (value (supply_in c.args.supply) (tree_of c.args.left.now)) (value (supply_in c.args.supply) (tree_of c.args.right.now)) (operator_value c.args.at c.args.op c.args.dotted) (scope_in c.args.scope) c.args.seen.now) c.operator_value.result c.value-2.new.seen (strict_is c.args.at c.args.op c.args.dotted (value (supply_in c.args.supply) (tree_of c.args.left.now)) (value (supply_in c.args.supply) (tree_of c.args.right.now)) (scope_in c.args.scope) c.args.seen.now)
    (both_made (value (supply_in c.args.supply) (tree_of c.args.left.now)) (value (supply_in c.args.supply) (tree_of c.args.right.now)) (operator_value c.args.at c.args.op c.args.dotted) (scope_in c.args.scope) c.args.seen.now c.value.new.seen c.value-2.new.seen (held_value c.in_ok-a.a) (held_value c.in_ok-b.b) (looked c.look.result) (looked c.look-2.result) c.operator_value.result
    c.in_ok-a.ensures c.in_ok-b.ensures c.look.ensures c.look-2.ensures c.operator_value.ensures)

pub call-returns-in_default : goal.call-returns-in_default
call-returns-in_default t c = call_unknown (supply_in c.args.supply) c.args.function (head c.args.id.0 c.args.at) c.args.dotted (parts (supply_in c.args.supply) (args_of c.args.args.now)) (scope_in c.args.scope) c.args.seen.now (no_function c.args.function c.in_default.not-Some)

pub call-returns-in_err-columns-in-DataFrame : goal.call-returns-in_err-columns-in-DataFrame
unfolding called_as
call-returns-in_err-columns-in-DataFrame t c = leaves _ c.from_residual.result c.in_err-columns-in-DataFrame.field-0.0 c.columns.new.seen c.from_residual.ensures.1
    (call_as (supply_in c.args.supply) c.args.function c.in-Some.called functions.DataFrame (head c.args.id.0 c.args.at) c.args.dotted (parts (supply_in c.args.supply) (args_of c.args.args.now)) (scope_in c.args.scope) c.args.seen.now c.columns.new.seen (Err c.in_err-columns-in-DataFrame.field-0.0) c.in-Some.is c.in-DataFrame.is
    (first_stops (columns_among (parts (supply_in c.args.supply) (args_of c.args.args.now)) (scope_in c.args.scope) c.args.seen.now) (λ columns. ended (framed c.args.at columns)) c.in_err-columns-in-DataFrame.field-0.0 c.columns.new.seen c.in_err-columns-in-DataFrame.ensures))

pub call-returns-in_err-rows-in-Stack : goal.call-returns-in_err-rows-in-Stack
unfolding called_as
call-returns-in_err-rows-in-Stack t c = leaves _ c.from_residual-in_err-rows-in-Stack.result c.in_err-rows-in-Stack.field-0.0 c.rows.new.seen c.from_residual-in_err-rows-in-Stack.ensures.1
    (call_as (supply_in c.args.supply) c.args.function c.in-Some.called functions.Stack (head c.args.id.0 c.args.at) c.args.dotted (parts (supply_in c.args.supply) (args_of c.args.args.now)) (scope_in c.args.scope) c.args.seen.now c.rows.new.seen (Err c.in_err-rows-in-Stack.field-0.0) c.in-Some.is c.in-Stack.is
    (first_stops (rows_among (parts (supply_in c.args.supply) (args_of c.args.args.now)) (scope_in c.args.scope) c.args.seen.now) (λ rows. ended (stacked c.args.at rows)) c.in_err-rows-in-Stack.field-0.0 c.rows.new.seen c.in_err-rows-in-Stack.ensures))

pub call-returns-in-Scalar : goal.call-returns-in-Scalar
call-returns-in-Scalar t c = call_two (supply_in c.args.supply) c.args.function c.in-Some.called (head c.args.id.0 c.args.at) c.args.dotted (parts (supply_in c.args.supply) (args_of c.args.args.now)) (scope_in c.args.scope) c.args.seen.now c.two_call.new.seen c.two_call.result c.in-Some.is c.in-Scalar.is c.two_call.ensures

pub call-returns-in-Fold : goal.call-returns-in-Fold
call-returns-in-Fold t c = call_one (supply_in c.args.supply) c.args.function c.in-Some.called (head c.args.id.0 c.args.at) c.args.dotted (parts (supply_in c.args.supply) (args_of c.args.args.now)) (scope_in c.args.scope) c.args.seen.now c.one_call.new.seen c.one_call.result c.in-Some.is c.in-Fold.is c.one_call.ensures

pub call-returns-in-Map : goal.call-returns-in-Map
call-returns-in-Map t c = call_lambda (supply_in c.args.supply) c.args.function c.in-Some.called (head c.args.id.0 c.args.at) c.args.dotted (parts (supply_in c.args.supply) (args_of c.args.args.now)) (scope_in c.args.scope) c.args.seen.now c.lambda_call.new.seen c.lambda_call.result c.in-Some.is c.in-Map.is c.lambda_call.ensures

pub call-returns-in-Collect : goal.call-returns-in-Collect
unfolding called_as
call-returns-in-Collect t c = call_as (supply_in c.args.supply) c.args.function c.in-Some.called functions.Collect (head c.args.id.0 c.args.at) c.args.dotted (parts (supply_in c.args.supply) (args_of c.args.args.now)) (scope_in c.args.scope) c.args.seen.now c.range_call.new.seen c.range_call.result c.in-Some.is c.in-Collect.is
    (c.range_call.ensures)

pub call-returns-in_ok-columns-in-DataFrame : goal.call-returns-in_ok-columns-in-DataFrame
unfolding called_as
call-returns-in_ok-columns-in-DataFrame t c = call_as (supply_in c.args.supply) c.args.function c.in-Some.called functions.DataFrame (head c.args.id.0 c.args.at) c.args.dotted (parts (supply_in c.args.supply) (args_of c.args.args.now)) (scope_in c.args.scope) c.args.seen.now c.columns.new.seen c.framed.result c.in-Some.is c.in-DataFrame.is
    (first_goes (columns_among (parts (supply_in c.args.supply) (args_of c.args.args.now)) (scope_in c.args.scope) c.args.seen.now) (λ columns. ended (framed c.args.at columns)) c.in_ok-columns-in-DataFrame.field-0 c.columns.new.seen c.columns.new.seen c.framed.result c.in_ok-columns-in-DataFrame.ensures
    (answer_comes (framed c.args.at c.in_ok-columns-in-DataFrame.field-0) c.framed.result c.columns.new.seen c.framed.ensures))

pub call-returns-in_ok-rows-in-Stack : goal.call-returns-in_ok-rows-in-Stack
unfolding called_as
call-returns-in_ok-rows-in-Stack t c = call_as (supply_in c.args.supply) c.args.function c.in-Some.called functions.Stack (head c.args.id.0 c.args.at) c.args.dotted (parts (supply_in c.args.supply) (args_of c.args.args.now)) (scope_in c.args.scope) c.args.seen.now c.rows.new.seen c.stacked.result c.in-Some.is c.in-Stack.is
    (first_goes (rows_among (parts (supply_in c.args.supply) (args_of c.args.args.now)) (scope_in c.args.scope) c.args.seen.now) (λ rows. ended (stacked c.args.at rows)) c.in_ok-rows-in-Stack.field-0 c.rows.new.seen c.rows.new.seen c.stacked.result c.in_ok-rows-in-Stack.ensures
    (answer_comes (stacked c.args.at c.in_ok-rows-in-Stack.field-0) c.stacked.result c.rows.new.seen c.stacked.ensures))

pub call-returns-in-ReadCsv : goal.call-returns-in-ReadCsv
unfolding called_as
call-returns-in-ReadCsv t c = call_as (supply_in c.args.supply) c.args.function c.in-Some.called functions.ReadCsv (head c.args.id.0 c.args.at) c.args.dotted (parts (supply_in c.args.supply) (args_of c.args.args.now)) (scope_in c.args.scope) c.args.seen.now c.args.seen.now c.table_value.result c.in-Some.is c.in-ReadCsv.is
    (table_comes (supply_in c.args.supply) c.args.id.0 (args_of c.args.args.now) c.args.seen.now c.table_value.result c.table_value.ensures)

pub call-returns-in-Filter : goal.call-returns-in-Filter
unfolding called_as
call-returns-in-Filter t c = call_as (supply_in c.args.supply) c.args.function c.in-Some.called functions.Filter (head c.args.id.0 c.args.at) c.args.dotted (parts (supply_in c.args.supply) (args_of c.args.args.now)) (scope_in c.args.scope) c.args.seen.now c.filter_call.new.seen c.filter_call.result c.in-Some.is c.in-Filter.is
    (c.filter_call.ensures)

pub call-returns-in-Join : goal.call-returns-in-Join
unfolding called_as
call-returns-in-Join t c = call_as (supply_in c.args.supply) c.args.function c.in-Some.called functions.Join (head c.args.id.0 c.args.at) c.args.dotted (parts (supply_in c.args.supply) (args_of c.args.args.now)) (scope_in c.args.scope) c.args.seen.now c.join_call.new.seen c.join_call.result c.in-Some.is c.in-Join.is
    (c.join_call.ensures)

pub call-returns-in-Aggregate : goal.call-returns-in-Aggregate
unfolding called_as
call-returns-in-Aggregate t c = call_as (supply_in c.args.supply) c.args.function c.in-Some.called functions.Aggregate (head c.args.id.0 c.args.at) c.args.dotted (parts (supply_in c.args.supply) (args_of c.args.args.now)) (scope_in c.args.scope) c.args.seen.now c.aggregate_call.new.seen c.aggregate_call.result c.in-Some.is c.in-Aggregate.is
    (c.aggregate_call.ensures)

pub call-returns-in-Sort : goal.call-returns-in-Sort
unfolding called_as
call-returns-in-Sort t c = call_as (supply_in c.args.supply) c.args.function c.in-Some.called functions.Sort (head c.args.id.0 c.args.at) c.args.dotted (parts (supply_in c.args.supply) (args_of c.args.args.now)) (scope_in c.args.scope) c.args.seen.now c.sort_call.new.seen c.sort_call.result c.in-Some.is c.in-Sort.is
    (c.sort_call.ensures)

pub call-returns-in-Transpose : goal.call-returns-in-Transpose
unfolding called_as
call-returns-in-Transpose t c = call_as (supply_in c.args.supply) c.args.function c.in-Some.called functions.Transpose (head c.args.id.0 c.args.at) c.args.dotted (parts (supply_in c.args.supply) (args_of c.args.args.now)) (scope_in c.args.scope) c.args.seen.now c.args.seen.now (Err stop.Wrong) c.in-Some.is c.in-Transpose.is
    (comes_wrong (called_as (supply_in c.args.supply) functions.Transpose (head c.args.id.0 c.args.at) c.args.dotted (parts (supply_in c.args.supply) (args_of c.args.args.now)) (scope_in c.args.scope) c.args.seen.now) stop.Wrong c.args.seen.now refl refl)

pub columns-returns-in_default : goal.columns-returns-in_default
columns-returns-in_default t c = columns_wrong (supply_in c.args.supply) (scope_in c.args.scope) c.args.args.now c.loop-arg.arg-index c.arg-item.result c.args.seen.now c.loop-arg.seen c.loop-arg.made c.loop-arg.invariant c.loop-arg-test.true c.arg-item.is c.in_default.not-Named

pub columns-value-requires : goal.columns-value-requires
columns-value-requires t c = let less = named_smaller c.args.args.now c.loop-arg.arg-index c.arg-item.result c.in-Named.name c.in-Named.field-1 c.in-Named.x c.loop-arg-test.true c.arg-item.is c.in-Named.is in (omega arith, tt)

pub columns-returns-in_err-a : goal.columns-returns-in_err-a
columns-returns-in_err-a t c = leaves _ c.from_residual.result c.in_err-a.field-0.0 c.value.new.seen c.from_residual.ensures.1
    (columns_stop (supply_in c.args.supply) (scope_in c.args.scope) c.args.args.now c.loop-arg.arg-index c.arg-item.result c.in-Named.name c.in-Named.field-1 c.in-Named.x c.args.seen.now c.loop-arg.seen c.value.new.seen c.loop-arg.made c.in_err-a.field-0.0 c.loop-arg.invariant c.loop-arg-test.true c.arg-item.is c.in-Named.is c.in_err-a.ensures)

pub columns-returns-in_err-cells : goal.columns-returns-in_err-cells
columns-returns-in_err-cells t c = leaves _ c.from_residual-in_err-cells.result c.in_err-cells.field-0.0 c.value.new.seen c.from_residual-in_err-cells.ensures.1
    (columns_mixed (supply_in c.args.supply) (scope_in c.args.scope) c.args.args.now c.loop-arg.arg-index c.arg-item.result c.in-Named.name c.in-Named.field-1 c.in-Named.x c.args.seen.now c.loop-arg.seen c.value.new.seen c.loop-arg.made (held_value c.in_ok-a.a) c.in_err-cells.field-0.0 c.loop-arg.invariant c.loop-arg-test.true c.arg-item.is c.in-Named.is c.in_ok-a.ensures c.in_err-cells.ensures)

pub columns-loop-arg-preserved : goal.columns-loop-arg-preserved
columns-loop-arg-preserved t c = columns_more (supply_in c.args.supply) (scope_in c.args.scope) c.args.args.now c.loop-arg.arg-index c.arg-item.result c.in-Named.name c.in-Named.field-1 c.in-Named.x c.args.seen.now c.loop-arg.seen c.value.new.seen c.loop-arg.made c.push.new.self (held_value c.in_ok-a.a) c.in_ok-cells.cells c.loop-arg.invariant c.loop-arg-test.true c.arg-item.is c.in-Named.is c.in_ok-a.ensures c.in_ok-cells.ensures (c.in_ok-push.ensures.ok ∙ ap (λ (name : Name). c.loop-arg.made ++ record { name = name; cells = c.in_ok-cells.cells } ∷ []) c.in_ok-name.ensures)

pub columns-returns : goal.columns-returns
columns-returns t c = columns_made (supply_in c.args.supply) (scope_in c.args.scope) c.args.args.now c.loop-arg.arg-index c.args.seen.now c.loop-arg.seen c.loop-arg.made c.loop-arg.invariant c.loop-arg-test.false

pub rows-returns-in_default : goal.rows-returns-in_default
rows-returns-in_default t c = rows_wrong (supply_in c.args.supply) (scope_in c.args.scope) c.args.args.now c.loop-arg.arg-index c.arg-item.result c.args.seen.now c.loop-arg.seen c.loop-arg.made c.loop-arg.invariant c.loop-arg-test.true c.arg-item.is c.in_default.not-Plain

pub rows-value-requires : goal.rows-value-requires
rows-value-requires t c = let less = plain_smaller c.args.args.now c.loop-arg.arg-index c.arg-item.result c.in-Plain.x c.loop-arg-test.true c.arg-item.is c.in-Plain.is in (omega arith, tt)

pub rows-returns-in_err-a : goal.rows-returns-in_err-a
rows-returns-in_err-a t c = leaves _ c.from_residual.result c.in_err-a.field-0.0 c.value.new.seen c.from_residual.ensures.1
    (rows_stop (supply_in c.args.supply) (scope_in c.args.scope) c.args.args.now c.loop-arg.arg-index c.arg-item.result c.in-Plain.x c.args.seen.now c.loop-arg.seen c.value.new.seen c.loop-arg.made c.in_err-a.field-0.0 c.loop-arg.invariant c.loop-arg-test.true c.arg-item.is c.in-Plain.is c.in_err-a.ensures)

pub rows-returns-in_err-into_numbers : goal.rows-returns-in_err-into_numbers
rows-returns-in_err-into_numbers t c = leaves _ c.from_residual-in_err-into_numbers.result c.in_err-into_numbers.field-0.0 c.value.new.seen c.from_residual-in_err-into_numbers.ensures.1
    (rows_mixed (supply_in c.args.supply) (scope_in c.args.scope) c.args.args.now c.loop-arg.arg-index c.arg-item.result c.in-Plain.x c.args.seen.now c.loop-arg.seen c.value.new.seen c.loop-arg.made (held_value c.in_ok-a.a) c.in_err-into_numbers.field-0.0 c.loop-arg.invariant c.loop-arg-test.true c.arg-item.is c.in-Plain.is c.in_ok-a.ensures c.in_err-into_numbers.ensures)

pub rows-loop-arg-preserved : goal.rows-loop-arg-preserved
rows-loop-arg-preserved t c = rows_more (supply_in c.args.supply) (scope_in c.args.scope) c.args.args.now c.loop-arg.arg-index c.arg-item.result c.in-Plain.x c.args.seen.now c.loop-arg.seen c.value.new.seen c.loop-arg.made c.push.new.self (held_value c.in_ok-a.a) c.in_ok-into_numbers.field-0 c.loop-arg.invariant c.loop-arg-test.true c.arg-item.is c.in-Plain.is c.in_ok-a.ensures c.in_ok-into_numbers.ensures c.in_ok-push.ensures.ok

pub rows-returns : goal.rows-returns
rows-returns t c = rows_made (supply_in c.args.supply) (scope_in c.args.scope) c.args.args.now c.loop-arg.arg-index c.args.seen.now c.loop-arg.seen c.loop-arg.made c.loop-arg.invariant c.loop-arg-test.false

pub element-returns-in_err-a : goal.element-returns-in_err-a
element-returns-in_err-a t c = leaves _ c.from_residual.result c.in_err-a.field-0.0 c.value.new.seen c.from_residual.ensures.1
    (comes_as (index_operands c.args.at (value (supply_in c.args.supply) (tree_of c.args.array.now)) (value (supply_in c.args.supply) (tree_of c.args.index.now)) (scope_in c.args.scope) c.args.seen.now) (both (value (supply_in c.args.supply) (tree_of c.args.array.now)) (value (supply_in c.args.supply) (tree_of c.args.index.now)) (indexed c.args.at) (scope_in c.args.scope) c.args.seen.now) (Err c.in_err-a.field-0.0) c.value.new.seen (index_is c.args.at (value (supply_in c.args.supply) (tree_of c.args.array.now)) (value (supply_in c.args.supply) (tree_of c.args.index.now)) (scope_in c.args.scope) c.args.seen.now)
    (both_first (value (supply_in c.args.supply) (tree_of c.args.array.now)) (value (supply_in c.args.supply) (tree_of c.args.index.now)) (indexed c.args.at) (scope_in c.args.scope) c.args.seen.now c.value.new.seen c.in_err-a.field-0.0 c.in_err-a.ensures))

pub element-returns-in_err-i : goal.element-returns-in_err-i
element-returns-in_err-i t c = leaves _ c.from_residual-in_err-i.result c.in_err-i.field-0.0 c.value-2.new.seen c.from_residual-in_err-i.ensures.1
    (comes_as (index_operands c.args.at (value (supply_in c.args.supply) (tree_of c.args.array.now)) (value (supply_in c.args.supply) (tree_of c.args.index.now)) (scope_in c.args.scope) c.args.seen.now) (both (value (supply_in c.args.supply) (tree_of c.args.array.now)) (value (supply_in c.args.supply) (tree_of c.args.index.now)) (indexed c.args.at) (scope_in c.args.scope) c.args.seen.now) (Err c.in_err-i.field-0.0) c.value-2.new.seen (index_is c.args.at (value (supply_in c.args.supply) (tree_of c.args.array.now)) (value (supply_in c.args.supply) (tree_of c.args.index.now)) (scope_in c.args.scope) c.args.seen.now)
    (both_second (value (supply_in c.args.supply) (tree_of c.args.array.now)) (value (supply_in c.args.supply) (tree_of c.args.index.now)) (indexed c.args.at) (scope_in c.args.scope) c.args.seen.now c.value.new.seen c.value-2.new.seen (held_value c.in_ok-a.a) c.in_err-i.field-0.0 c.in_ok-a.ensures c.in_err-i.ensures))

pub element-returns : goal.element-returns
element-returns t c = comes_as (index_operands c.args.at (value (supply_in c.args.supply) (tree_of c.args.array.now)) (value (supply_in c.args.supply) (tree_of c.args.index.now)) (scope_in c.args.scope) c.args.seen.now) (both (value (supply_in c.args.supply) (tree_of c.args.array.now)) (value (supply_in c.args.supply) (tree_of c.args.index.now)) (indexed c.args.at) (scope_in c.args.scope) c.args.seen.now) c.indexed.result c.value-2.new.seen (index_is c.args.at (value (supply_in c.args.supply) (tree_of c.args.array.now)) (value (supply_in c.args.supply) (tree_of c.args.index.now)) (scope_in c.args.scope) c.args.seen.now)
    (both_made (value (supply_in c.args.supply) (tree_of c.args.array.now)) (value (supply_in c.args.supply) (tree_of c.args.index.now)) (indexed c.args.at) (scope_in c.args.scope) c.args.seen.now c.value.new.seen c.value-2.new.seen (held_value c.in_ok-a.a) (held_value c.in_ok-i.i) (looked c.look.result) (looked c.look-2.result) c.indexed.result
    c.in_ok-a.ensures c.in_ok-i.ensures c.look.ensures c.look-2.ensures c.indexed.ensures)

pub flipped-returns-in_err-a : goal.flipped-returns-in_err-a
flipped-returns-in_err-a t c = leaves _ c.from_residual.result c.in_err-a.field-0.0 c.value.new.seen c.from_residual.ensures.1
    (comes_as (flipped_operands c.args.at (value (supply_in c.args.supply) (tree_of c.args.left.now)) (value (supply_in c.args.supply) (tree_of c.args.right.now)) (scope_in c.args.scope) c.args.seen.now) (both (value (supply_in c.args.supply) (tree_of c.args.left.now)) (value (supply_in c.args.supply) (tree_of c.args.right.now)) (flipped_value c.args.at) (scope_in c.args.scope) c.args.seen.now) (Err c.in_err-a.field-0.0) c.value.new.seen (flipped_is c.args.at (value (supply_in c.args.supply) (tree_of c.args.left.now)) (value (supply_in c.args.supply) (tree_of c.args.right.now)) (scope_in c.args.scope) c.args.seen.now)
    (both_first (value (supply_in c.args.supply) (tree_of c.args.left.now)) (value (supply_in c.args.supply) (tree_of c.args.right.now)) (flipped_value c.args.at) (scope_in c.args.scope) c.args.seen.now c.value.new.seen c.in_err-a.field-0.0 c.in_err-a.ensures))

pub flipped-returns-in_err-b : goal.flipped-returns-in_err-b
flipped-returns-in_err-b t c = leaves _ c.from_residual-in_err-b.result c.in_err-b.field-0.0 c.value-2.new.seen c.from_residual-in_err-b.ensures.1
    (comes_as (flipped_operands c.args.at (value (supply_in c.args.supply) (tree_of c.args.left.now)) (value (supply_in c.args.supply) (tree_of c.args.right.now)) (scope_in c.args.scope) c.args.seen.now) (both (value (supply_in c.args.supply) (tree_of c.args.left.now)) (value (supply_in c.args.supply) (tree_of c.args.right.now)) (flipped_value c.args.at) (scope_in c.args.scope) c.args.seen.now) (Err c.in_err-b.field-0.0) c.value-2.new.seen (flipped_is c.args.at (value (supply_in c.args.supply) (tree_of c.args.left.now)) (value (supply_in c.args.supply) (tree_of c.args.right.now)) (scope_in c.args.scope) c.args.seen.now)
    (both_second (value (supply_in c.args.supply) (tree_of c.args.left.now)) (value (supply_in c.args.supply) (tree_of c.args.right.now)) (flipped_value c.args.at) (scope_in c.args.scope) c.args.seen.now c.value.new.seen c.value-2.new.seen (held_value c.in_ok-a.a) c.in_err-b.field-0.0 c.in_ok-a.ensures c.in_err-b.ensures))

pub flipped-returns : goal.flipped-returns
flipped-returns t c = comes_as (flipped_operands c.args.at (value (supply_in c.args.supply) (tree_of c.args.left.now)) (value (supply_in c.args.supply) (tree_of c.args.right.now)) (scope_in c.args.scope) c.args.seen.now) (both (value (supply_in c.args.supply) (tree_of c.args.left.now)) (value (supply_in c.args.supply) (tree_of c.args.right.now)) (flipped_value c.args.at) (scope_in c.args.scope) c.args.seen.now) c.flipped_value.result c.value-2.new.seen (flipped_is c.args.at (value (supply_in c.args.supply) (tree_of c.args.left.now)) (value (supply_in c.args.supply) (tree_of c.args.right.now)) (scope_in c.args.scope) c.args.seen.now)
    (both_made (value (supply_in c.args.supply) (tree_of c.args.left.now)) (value (supply_in c.args.supply) (tree_of c.args.right.now)) (flipped_value c.args.at) (scope_in c.args.scope) c.args.seen.now c.value.new.seen c.value-2.new.seen (held_value c.in_ok-a.a) (held_value c.in_ok-b.b) (looked c.look.result) (looked c.look-2.result) c.flipped_value.result
    c.in_ok-a.ensures c.in_ok-b.ensures c.look.ensures c.look-2.ensures c.flipped_value.ensures)

pub filter_call-returns-in_err-x : goal.filter_call-returns-in_err-x
filter_call-returns-in_err-x t c = leaves _ c.from_residual.result c.in_err-x.field-0.0 c.args.seen.now c.from_residual.ensures.1
    (filter_none (supply_in c.args.supply) c.args.at (args_of c.args.args.now) (scope_in c.args.scope) c.args.seen.now c.in_err-x.field-0.0 c.in_err-x.ensures)

pub filter_call-value-requires : goal.filter_call-value-requires
filter_call-value-requires t c = let less = two_smaller (args_of c.args.args.now) (tree_of c.in_ok-x.x.now) (tree_of c.in_ok-x.y.now) c.in_ok-x.ensures in (omega arith, tt)

pub filter_call-returns-in_err-a : goal.filter_call-returns-in_err-a
filter_call-returns-in_err-a t c = leaves _ c.from_residual-in_err-a.result c.in_err-a.field-0.0 c.value.new.seen c.from_residual-in_err-a.ensures.1
    (filter_first (supply_in c.args.supply) c.args.at (args_of c.args.args.now) (tree_of c.in_ok-x.x.now) (tree_of c.in_ok-x.y.now) (scope_in c.args.scope) c.args.seen.now c.value.new.seen c.in_err-a.field-0.0 c.in_ok-x.ensures c.in_err-a.ensures)

pub filter_call-masked-requires : goal.filter_call-masked-requires
filter_call-masked-requires t c = let less = two_smaller (args_of c.args.args.now) (tree_of c.in_ok-x.x.now) (tree_of c.in_ok-x.y.now) c.in_ok-x.ensures in (omega arith, tt)

pub filter_call-returns : goal.filter_call-returns
filter_call-returns t c = filter_made (supply_in c.args.supply) c.args.at (args_of c.args.args.now) (tree_of c.in_ok-x.x.now) (tree_of c.in_ok-x.y.now) (scope_in c.args.scope) c.args.seen.now c.value.new.seen c.masked.new.seen (held_value c.in_ok-a.a) (looked c.look.result) c.masked.result c.in_ok-x.ensures c.in_ok-a.ensures c.look.ensures c.masked.ensures

pub masked-returns-in_err-columns : goal.masked-returns-in_err-columns
masked-returns-in_err-columns t c = leaves _ c.from_residual.result c.in_err-columns.field-0.0 c.args.seen.now c.from_residual.ensures.1
    (masked_frame (supply_in c.args.supply) c.args.at (looked c.args.a) (tree_of c.args.test.now) (scope_in c.args.scope) c.args.seen.now c.in_err-columns.field-0.0 c.in_err-columns.ensures)

pub masked-returns-in_err-mask : goal.masked-returns-in_err-mask
masked-returns-in_err-mask t c = leaves _ c.from_residual-in_err-mask.result c.in_err-mask.field-0.0 c.value.new.seen c.from_residual-in_err-mask.ensures.1
    (masked_test (supply_in c.args.supply) c.args.at (looked c.args.a) (tree_of c.args.test.now) (scope_in c.args.scope) c.args.seen.now c.value.new.seen c.in_ok-columns.columns.now c.in_err-mask.field-0.0 c.in_ok-columns.ensures c.in_err-mask.ensures)

pub masked-returns : goal.masked-returns
masked-returns t c = masked_made (supply_in c.args.supply) c.args.at (looked c.args.a) (tree_of c.args.test.now) (scope_in c.args.scope) c.args.seen.now c.value.new.seen c.in_ok-columns.columns.now (held_value c.in_ok-mask.mask) (looked c.look.result) c.filtered.result c.in_ok-columns.ensures c.in_ok-mask.ensures c.look.ensures c.filtered.ensures

pub join_call-returns-in_err-x : goal.join_call-returns-in_err-x
join_call-returns-in_err-x t c = leaves _ c.from_residual.result c.in_err-x.field-0.0 c.args.seen.now c.from_residual.ensures.1
    (join_none (supply_in c.args.supply) c.args.at (args_of c.args.args.now) (scope_in c.args.scope) c.args.seen.now c.in_err-x.field-0.0 c.in_err-x.ensures)

pub join_call-returns-in_err-column_name : goal.join_call-returns-in_err-column_name
join_call-returns-in_err-column_name t c = leaves _ c.from_residual-in_err-column_name.result c.in_err-column_name.field-0.0 c.args.seen.now c.from_residual-in_err-column_name.ensures.1
    (join_name (supply_in c.args.supply) c.args.at (args_of c.args.args.now) (tree_of c.in_ok-x.x.now) (tree_of c.in_ok-x.y.now) (tree_of c.in_ok-x.z.now) (scope_in c.args.scope) c.args.seen.now c.in_err-column_name.field-0.0 c.in_ok-x.ensures c.in_err-column_name.ensures)

pub join_call-value-requires : goal.join_call-value-requires
join_call-value-requires t c = let less = three_smaller (args_of c.args.args.now) (tree_of c.in_ok-x.x.now) (tree_of c.in_ok-x.y.now) (tree_of c.in_ok-x.z.now) c.in_ok-x.ensures in (omega arith, tt)

pub join_call-returns-in_err-a : goal.join_call-returns-in_err-a
join_call-returns-in_err-a t c = leaves _ c.from_residual-in_err-a.result c.in_err-a.field-0.0 c.value.new.seen c.from_residual-in_err-a.ensures.1
    (join_first (supply_in c.args.supply) c.args.at (args_of c.args.args.now) (tree_of c.in_ok-x.x.now) (tree_of c.in_ok-x.y.now) (tree_of c.in_ok-x.z.now) c.in_ok-column_name.field-0.now.bytes (scope_in c.args.scope) c.args.seen.now c.value.new.seen c.in_err-a.field-0.0 c.in_ok-x.ensures c.in_ok-column_name.ensures c.in_err-a.ensures)

pub join_call-value-requires-2 : goal.join_call-value-requires-2
join_call-value-requires-2 t c = let less = three_smaller (args_of c.args.args.now) (tree_of c.in_ok-x.x.now) (tree_of c.in_ok-x.y.now) (tree_of c.in_ok-x.z.now) c.in_ok-x.ensures in (omega arith, tt)

pub join_call-returns-in_err-b : goal.join_call-returns-in_err-b
join_call-returns-in_err-b t c = leaves _ c.from_residual-in_err-b.result c.in_err-b.field-0.0 c.value-2.new.seen c.from_residual-in_err-b.ensures.1
    (join_second (supply_in c.args.supply) c.args.at (args_of c.args.args.now) (tree_of c.in_ok-x.x.now) (tree_of c.in_ok-x.y.now) (tree_of c.in_ok-x.z.now) c.in_ok-column_name.field-0.now.bytes (scope_in c.args.scope) c.args.seen.now c.value.new.seen c.value-2.new.seen (held_value c.in_ok-a.a) c.in_err-b.field-0.0 c.in_ok-x.ensures c.in_ok-column_name.ensures c.in_ok-a.ensures c.in_err-b.ensures)

pub join_call-returns : goal.join_call-returns
join_call-returns t c = join_made (supply_in c.args.supply) c.args.at (args_of c.args.args.now) (tree_of c.in_ok-x.x.now) (tree_of c.in_ok-x.y.now) (tree_of c.in_ok-x.z.now) c.in_ok-column_name.field-0.now.bytes c.as_slice-key.result.now (scope_in c.args.scope) c.args.seen.now c.value.new.seen c.value-2.new.seen c.joined.new.met (held_value c.in_ok-a.a) (looked c.look.result) (held_value c.in_ok-b.b) (looked c.look-2.result) c.joined.result c.in_ok-x.ensures c.in_ok-column_name.ensures c.as_slice-key.ensures c.in_ok-a.ensures c.look.ensures c.in_ok-b.ensures c.look-2.ensures c.joined.ensures

pub lambda_call-returns-in_err-parameter : goal.lambda_call-returns-in_err-parameter
lambda_call-returns-in_err-parameter t c = leaves _ c.from_residual.result c.in_err-parameter.field-0.0 c.args.seen.now c.from_residual.ensures.1
    (lambda_none (supply_in c.args.supply) (args_of c.args.args.now) (scope_in c.args.scope) c.args.seen.now (lambda_value c.args.function c.args.scope.vars.now) c.in_err-parameter.field-0.0 c.in_err-parameter.ensures)

pub lambda_call-value-requires : goal.lambda_call-value-requires
lambda_call-value-requires t c = let less = lambda_smaller (args_of c.args.args.now) c.in_ok-parameter.parameter.now.bytes (tree_of c.in_ok-parameter.body.now) (tree_of c.in_ok-parameter.x.now) c.in_ok-parameter.ensures in (omega arith, tt)

pub lambda_call-returns-in_err-a : goal.lambda_call-returns-in_err-a
lambda_call-returns-in_err-a t c = leaves _ c.from_residual-in_err-a.result c.in_err-a.field-0.0 c.value.new.seen c.from_residual-in_err-a.ensures.1
    (lambda_stops (supply_in c.args.supply) (args_of c.args.args.now) c.in_ok-parameter.parameter.now.bytes (tree_of c.in_ok-parameter.body.now) (tree_of c.in_ok-parameter.x.now) (scope_in c.args.scope) c.args.seen.now c.value.new.seen (lambda_value c.args.function c.args.scope.vars.now) c.in_err-a.field-0.0 c.in_ok-parameter.ensures c.in_err-a.ensures)

pub lambda_call-returns : goal.lambda_call-returns
lambda_call-returns t c = lambda_made (supply_in c.args.supply) (args_of c.args.args.now) c.in_ok-parameter.parameter.now.bytes c.as_slice-parameter.result.now (tree_of c.in_ok-parameter.body.now) (tree_of c.in_ok-parameter.x.now) (scope_in c.args.scope) c.args.seen.now c.value.new.seen (lambda_value c.args.function c.args.scope.vars.now) (held_value c.in_ok-a.a) (looked c.look.result) c.lambda_value.result c.in_ok-parameter.ensures c.in_ok-a.ensures c.look.ensures c.as_slice-parameter.ensures (rw c.as_slice-vars.ensures at c.lambda_value.ensures)

pub lazily-returns-in_err-a : goal.lazily-returns-in_err-a
lazily-returns-in_err-a t c = leaves _ c.from_residual.result c.in_err-a.field-0.0 c.value.new.seen c.from_residual.ensures.1
    (lazy_first c.args.op (value (supply_in c.args.supply) (tree_of c.args.left.now)) (value (supply_in c.args.supply) (tree_of c.args.right.now)) (scope_in c.args.scope) c.args.seen.now c.value.new.seen c.in_err-a.field-0.0 c.in_err-a.ensures)

pub lazily-returns-in_err-x : goal.lazily-returns-in_err-x
lazily-returns-in_err-x t c = leaves _ c.from_residual-in_err-x.result c.in_err-x.field-0.0 c.value.new.seen c.from_residual-in_err-x.ensures.1
    (lazy_word c.args.op (value (supply_in c.args.supply) (tree_of c.args.left.now)) (value (supply_in c.args.supply) (tree_of c.args.right.now)) (scope_in c.args.scope) c.args.seen.now c.value.new.seen (held_value c.in_ok-a.a) (looked c.look.result) c.in_err-x.field-0.0 c.in_ok-a.ensures c.look.ensures c.in_err-x.ensures)

pub lazily-returns-then-decides : goal.lazily-returns-then-decides
lazily-returns-then-decides t c =
    let fits : FitsSigned w64 c.in_ok-x.x = search rules in
    let made : FitsSigned w64 c.decision.result = search rules in
    rw (to_z-of_z w64 c.decision.result made)
    (lazy_decided c.args.op (value (supply_in c.args.supply) (tree_of c.args.left.now)) (value (supply_in c.args.supply) (tree_of c.args.right.now)) (scope_in c.args.scope) c.args.seen.now c.value.new.seen (held_value c.in_ok-a.a) (looked c.look.result) c.in_ok-x.x c.decision.result c.in_ok-a.ensures c.look.ensures c.in_ok-x.ensures (decided c.args.op c.in_ok-x.x c.decides.result true fits c.decides.ensures c.if-decides.true) c.decision.ensures)

pub lazily-returns-in_err-b : goal.lazily-returns-in_err-b
lazily-returns-in_err-b t c =
    let fits : FitsSigned w64 c.in_ok-x.x = search rules in
    leaves _ c.from_residual-in_err-b.result c.in_err-b.field-0.0 c.value-2.new.seen c.from_residual-in_err-b.ensures.1
    (lazy_second c.args.op (value (supply_in c.args.supply) (tree_of c.args.left.now)) (value (supply_in c.args.supply) (tree_of c.args.right.now)) (scope_in c.args.scope) c.args.seen.now c.value.new.seen c.value-2.new.seen (held_value c.in_ok-a.a) (looked c.look.result) c.in_ok-x.x c.in_err-b.field-0.0 c.in_ok-a.ensures c.look.ensures c.in_ok-x.ensures (decided c.args.op c.in_ok-x.x c.decides.result false fits c.decides.ensures c.if-decides.false) c.in_err-b.ensures)

pub lazily-returns-in_err-y : goal.lazily-returns-in_err-y
lazily-returns-in_err-y t c =
    let fits : FitsSigned w64 c.in_ok-x.x = search rules in
    leaves _ c.from_residual-in_err-y.result c.in_err-y.field-0.0 c.value-2.new.seen c.from_residual-in_err-y.ensures.1
    (lazy_other c.args.op (value (supply_in c.args.supply) (tree_of c.args.left.now)) (value (supply_in c.args.supply) (tree_of c.args.right.now)) (scope_in c.args.scope) c.args.seen.now c.value.new.seen c.value-2.new.seen (held_value c.in_ok-a.a) (looked c.look.result) (held_value c.in_ok-b.b) (looked c.look-2.result) c.in_ok-x.x c.in_err-y.field-0.0 c.in_ok-a.ensures c.look.ensures c.in_ok-x.ensures (decided c.args.op c.in_ok-x.x c.decides.result false fits c.decides.ensures c.if-decides.false) c.in_ok-b.ensures c.look-2.ensures c.in_err-y.ensures)

pub lazily-returns : goal.lazily-returns
lazily-returns t c =
    let fits : FitsSigned w64 c.in_ok-x.x = search rules in
    let word : FitsSigned w64 c.in_ok-y.y = search rules in
    rw (to_z-of_z w64 c.in_ok-y.y word)
    (lazy_made c.args.op (value (supply_in c.args.supply) (tree_of c.args.left.now)) (value (supply_in c.args.supply) (tree_of c.args.right.now)) (scope_in c.args.scope) c.args.seen.now c.value.new.seen c.value-2.new.seen (held_value c.in_ok-a.a) (looked c.look.result) (held_value c.in_ok-b.b) (looked c.look-2.result) c.in_ok-x.x c.in_ok-y.y c.in_ok-a.ensures c.look.ensures c.in_ok-x.ensures (decided c.args.op c.in_ok-x.x c.decides.result false fits c.decides.ensures c.if-decides.false) c.in_ok-b.ensures c.look-2.ensures c.in_ok-y.ensures)

pub one_call-returns-in_err-x : goal.one_call-returns-in_err-x
one_call-returns-in_err-x t c = leaves _ c.from_residual.result c.in_err-x.field-0.0 c.args.seen.now c.from_residual.ensures.1
    (one_none (supply_in c.args.supply) (args_of c.args.args.now) (scope_in c.args.scope) c.args.seen.now (one_value c.args.function c.args.at) c.in_err-x.field-0.0 c.in_err-x.ensures)

pub one_call-value-requires : goal.one_call-value-requires
one_call-value-requires t c = let less = one_smaller (args_of c.args.args.now) (tree_of c.in_ok-x.x.now) c.in_ok-x.ensures in (omega arith, tt)

pub one_call-returns-in_err-a : goal.one_call-returns-in_err-a
one_call-returns-in_err-a t c = leaves _ c.from_residual-in_err-a.result c.in_err-a.field-0.0 c.value.new.seen c.from_residual-in_err-a.ensures.1
    (one_stops (supply_in c.args.supply) (args_of c.args.args.now) (tree_of c.in_ok-x.x.now) (scope_in c.args.scope) c.args.seen.now c.value.new.seen (one_value c.args.function c.args.at) c.in_err-a.field-0.0 c.in_ok-x.ensures c.in_err-a.ensures)

pub one_call-returns : goal.one_call-returns
one_call-returns t c = one_made (supply_in c.args.supply) (args_of c.args.args.now) (tree_of c.in_ok-x.x.now) (scope_in c.args.scope) c.args.seen.now c.value.new.seen (one_value c.args.function c.args.at) (held_value c.in_ok-a.a) (looked c.look.result) c.one_value.result c.in_ok-x.ensures c.in_ok-a.ensures c.look.ensures c.one_value.ensures

pub range_call-returns-in_err-x : goal.range_call-returns-in_err-x
range_call-returns-in_err-x t c = leaves _ c.from_residual.result c.in_err-x.field-0.0 c.args.seen.now c.from_residual.ensures.1
    (ends_none (supply_in c.args.supply) (args_of c.args.args.now) (scope_in c.args.scope) c.args.seen.now (collected c.args.at) c.in_err-x.field-0.0 c.in_err-x.ensures)

pub range_call-value-requires : goal.range_call-value-requires
range_call-value-requires t c = let less = range_smaller (args_of c.args.args.now) (tree_of c.in_ok-x.x.now) (tree_of c.in_ok-x.y.now) c.in_ok-x.ensures in (omega arith, tt)

pub range_call-returns-in_err-a : goal.range_call-returns-in_err-a
range_call-returns-in_err-a t c = leaves _ c.from_residual-in_err-a.result c.in_err-a.field-0.0 c.value.new.seen c.from_residual-in_err-a.ensures.1
    (ends_goes (supply_in c.args.supply) (args_of c.args.args.now) (tree_of c.in_ok-x.x.now) (tree_of c.in_ok-x.y.now) (scope_in c.args.scope) c.args.seen.now c.value.new.seen (collected c.args.at) (Err c.in_err-a.field-0.0) c.in_ok-x.ensures
    (both_first (value (supply_in c.args.supply) (tree_of c.in_ok-x.x.now)) (value (supply_in c.args.supply) (tree_of c.in_ok-x.y.now)) (collected c.args.at) (scope_in c.args.scope) c.args.seen.now c.value.new.seen c.in_err-a.field-0.0 c.in_err-a.ensures))

pub range_call-value-requires-2 : goal.range_call-value-requires-2
range_call-value-requires-2 t c = let less = range_smaller (args_of c.args.args.now) (tree_of c.in_ok-x.x.now) (tree_of c.in_ok-x.y.now) c.in_ok-x.ensures in (omega arith, tt)

pub range_call-returns-in_err-b : goal.range_call-returns-in_err-b
range_call-returns-in_err-b t c = leaves _ c.from_residual-in_err-b.result c.in_err-b.field-0.0 c.value-2.new.seen c.from_residual-in_err-b.ensures.1
    (ends_goes (supply_in c.args.supply) (args_of c.args.args.now) (tree_of c.in_ok-x.x.now) (tree_of c.in_ok-x.y.now) (scope_in c.args.scope) c.args.seen.now c.value-2.new.seen (collected c.args.at) (Err c.in_err-b.field-0.0) c.in_ok-x.ensures
    (both_second (value (supply_in c.args.supply) (tree_of c.in_ok-x.x.now)) (value (supply_in c.args.supply) (tree_of c.in_ok-x.y.now)) (collected c.args.at) (scope_in c.args.scope) c.args.seen.now c.value.new.seen c.value-2.new.seen (held_value c.in_ok-a.a) c.in_err-b.field-0.0 c.in_ok-a.ensures c.in_err-b.ensures))

pub range_call-returns : goal.range_call-returns
range_call-returns t c = ends_goes (supply_in c.args.supply) (args_of c.args.args.now) (tree_of c.in_ok-x.x.now) (tree_of c.in_ok-x.y.now) (scope_in c.args.scope) c.args.seen.now c.value-2.new.seen (collected c.args.at) c.collected.result c.in_ok-x.ensures
    (both_made (value (supply_in c.args.supply) (tree_of c.in_ok-x.x.now)) (value (supply_in c.args.supply) (tree_of c.in_ok-x.y.now)) (collected c.args.at) (scope_in c.args.scope) c.args.seen.now c.value.new.seen c.value-2.new.seen (held_value c.in_ok-a.a) (held_value c.in_ok-b.b) (looked c.look.result) (looked c.look-2.result) c.collected.result
    c.in_ok-a.ensures c.in_ok-b.ensures c.look.ensures c.look-2.ensures c.collected.ensures)

pub two_call-returns-in_err-x : goal.two_call-returns-in_err-x
two_call-returns-in_err-x t c = leaves _ c.from_residual.result c.in_err-x.field-0.0 c.args.seen.now c.from_residual.ensures.1
    (two_none (supply_in c.args.supply) (args_of c.args.args.now) (scope_in c.args.scope) c.args.seen.now (two_value c.args.function c.args.dotted c.args.at) c.in_err-x.field-0.0 c.in_err-x.ensures)

pub two_call-value-requires : goal.two_call-value-requires
two_call-value-requires t c = let less = two_smaller (args_of c.args.args.now) (tree_of c.in_ok-x.x.now) (tree_of c.in_ok-x.y.now) c.in_ok-x.ensures in (omega arith, tt)

pub two_call-returns-in_err-a : goal.two_call-returns-in_err-a
two_call-returns-in_err-a t c = leaves _ c.from_residual-in_err-a.result c.in_err-a.field-0.0 c.value.new.seen c.from_residual-in_err-a.ensures.1
    (two_goes (supply_in c.args.supply) (args_of c.args.args.now) (tree_of c.in_ok-x.x.now) (tree_of c.in_ok-x.y.now) (scope_in c.args.scope) c.args.seen.now c.value.new.seen (two_value c.args.function c.args.dotted c.args.at) (Err c.in_err-a.field-0.0) c.in_ok-x.ensures
    (both_first (value (supply_in c.args.supply) (tree_of c.in_ok-x.x.now)) (value (supply_in c.args.supply) (tree_of c.in_ok-x.y.now)) (two_value c.args.function c.args.dotted c.args.at) (scope_in c.args.scope) c.args.seen.now c.value.new.seen c.in_err-a.field-0.0 c.in_err-a.ensures))

pub two_call-value-requires-2 : goal.two_call-value-requires-2
two_call-value-requires-2 t c = let less = two_smaller (args_of c.args.args.now) (tree_of c.in_ok-x.x.now) (tree_of c.in_ok-x.y.now) c.in_ok-x.ensures in (omega arith, tt)

pub two_call-returns-in_err-b : goal.two_call-returns-in_err-b
two_call-returns-in_err-b t c = leaves _ c.from_residual-in_err-b.result c.in_err-b.field-0.0 c.value-2.new.seen c.from_residual-in_err-b.ensures.1
    (two_goes (supply_in c.args.supply) (args_of c.args.args.now) (tree_of c.in_ok-x.x.now) (tree_of c.in_ok-x.y.now) (scope_in c.args.scope) c.args.seen.now c.value-2.new.seen (two_value c.args.function c.args.dotted c.args.at) (Err c.in_err-b.field-0.0) c.in_ok-x.ensures
    (both_second (value (supply_in c.args.supply) (tree_of c.in_ok-x.x.now)) (value (supply_in c.args.supply) (tree_of c.in_ok-x.y.now)) (two_value c.args.function c.args.dotted c.args.at) (scope_in c.args.scope) c.args.seen.now c.value.new.seen c.value-2.new.seen (held_value c.in_ok-a.a) c.in_err-b.field-0.0 c.in_ok-a.ensures c.in_err-b.ensures))

pub two_call-returns : goal.two_call-returns
two_call-returns t c = two_goes (supply_in c.args.supply) (args_of c.args.args.now) (tree_of c.in_ok-x.x.now) (tree_of c.in_ok-x.y.now) (scope_in c.args.scope) c.args.seen.now c.value-2.new.seen (two_value c.args.function c.args.dotted c.args.at) c.two_value.result c.in_ok-x.ensures
    (both_made (value (supply_in c.args.supply) (tree_of c.in_ok-x.x.now)) (value (supply_in c.args.supply) (tree_of c.in_ok-x.y.now)) (two_value c.args.function c.args.dotted c.args.at) (scope_in c.args.scope) c.args.seen.now c.value.new.seen c.value-2.new.seen (held_value c.in_ok-a.a) (held_value c.in_ok-b.b) (looked c.look.result) (looked c.look-2.result) c.two_value.result
    c.in_ok-a.ensures c.in_ok-b.ensures c.look.ensures c.look-2.ensures c.two_value.ensures)

pub sort_call-returns-in_err-x : goal.sort_call-returns-in_err-x
sort_call-returns-in_err-x t c = leaves _ c.from_residual.result c.in_err-x.field-0.0 c.args.seen.now c.from_residual.ensures.1
    (sort_none (supply_in c.args.supply) (args_of c.args.args.now) (scope_in c.args.scope) c.args.seen.now c.in_err-x.field-0.0 c.in_err-x.ensures)

pub sort_call-returns-in_err-column_name : goal.sort_call-returns-in_err-column_name
sort_call-returns-in_err-column_name t c = leaves _ c.from_residual-in_err-column_name.result c.in_err-column_name.field-0.0 c.args.seen.now c.from_residual-in_err-column_name.ensures.1
    (sort_name (supply_in c.args.supply) (args_of c.args.args.now) (tree_of c.in_ok-x.x.now) (tree_of c.in_ok-x.y.now) (scope_in c.args.scope) c.args.seen.now c.in_err-column_name.field-0.0 c.in_ok-x.ensures c.in_err-column_name.ensures)

pub sort_call-value-requires : goal.sort_call-value-requires
sort_call-value-requires t c = let less = two_smaller (args_of c.args.args.now) (tree_of c.in_ok-x.x.now) (tree_of c.in_ok-x.y.now) c.in_ok-x.ensures in (omega arith, tt)

pub sort_call-returns-in_err-a : goal.sort_call-returns-in_err-a
sort_call-returns-in_err-a t c = leaves _ c.from_residual-in_err-a.result c.in_err-a.field-0.0 c.value.new.seen c.from_residual-in_err-a.ensures.1
    (sort_stops (supply_in c.args.supply) (args_of c.args.args.now) (tree_of c.in_ok-x.x.now) (tree_of c.in_ok-x.y.now) c.in_ok-column_name.field-0.now.bytes (scope_in c.args.scope) c.args.seen.now c.value.new.seen c.in_err-a.field-0.0 c.in_ok-x.ensures c.in_ok-column_name.ensures c.in_err-a.ensures)

pub sort_call-returns : goal.sort_call-returns
sort_call-returns t c = sort_made (supply_in c.args.supply) (args_of c.args.args.now) (tree_of c.in_ok-x.x.now) (tree_of c.in_ok-x.y.now) c.in_ok-column_name.field-0.now.bytes c.as_slice-key.result.now (scope_in c.args.scope) c.args.seen.now c.value.new.seen (held_value c.in_ok-a.a) (looked c.look.result) c.sorted_value.result c.in_ok-x.ensures c.in_ok-column_name.ensures c.as_slice-key.ensures c.in_ok-a.ensures c.look.ensures c.sorted_value.ensures

pub value-unary-requires : goal.value-unary-requires
value-unary-requires t c =
    let less = unary_size c.args.x.now c.in-Unary.op c.in-Unary.dotted c.in-Unary.operand c.in-Unary.is in
    let same = ap (λ (y : Expr). tree_size (tree_of y)) c.get.ensures in
    (omega arith, tt)

pub unary-returns-in_err-a : goal.unary-returns-in_err-a
unary-returns-in_err-a t c = leaves _ c.from_residual.result c.in_err-a.field-0.0 c.value.new.seen c.from_residual.ensures.1
    (first_stops (value (supply_in c.args.supply) (tree_of c.args.operand.now) (scope_in c.args.scope) c.args.seen.now) (λ v. ended (unary_value c.args.op c.args.dotted v)) c.in_err-a.field-0.0 c.value.new.seen c.in_err-a.ensures)

pub unary-returns : goal.unary-returns
unary-returns t c = answer_on (value (supply_in c.args.supply) (tree_of c.args.operand.now) (scope_in c.args.scope) c.args.seen.now) (unary_value c.args.op c.args.dotted) c.value.new.seen (held_value c.in_ok-a.a) (looked c.look.result) c.unary_value.result c.in_ok-a.ensures c.look.ensures c.unary_value.ensures

pub value-binary-requires : goal.value-binary-requires
value-binary-requires t c =
    let less = binary_size c.args.x.now c.in-Binary.op c.in-Binary.dotted c.in-Binary.a c.in-Binary.b c.in-Binary.is in
    let same = ap (λ (y : Expr). tree_size (tree_of y)) c.get-in-Binary.ensures in
    let other = ap (λ (y : Expr). tree_size (tree_of y)) c.get-in-Binary-2.ensures in
    (omega arith, tt)

pub value-element-requires : goal.value-element-requires
value-element-requires t c =
    let less = index_size c.args.x.now c.in-Index.array c.in-Index.index c.in-Index.is in
    let same = ap (λ (y : Expr). tree_size (tree_of y)) c.get-in-Index.ensures in
    let other = ap (λ (y : Expr). tree_size (tree_of y)) c.get-in-Index-2.ensures in
    (omega arith, tt)

pub value-call-requires : goal.value-call-requires
value-call-requires t c =
    let less = call_size c.args.x.now c.in-Call.name c.in-Call.dotted c.in-Call.args c.in-Call.is in
    let same = ap (λ (l : List Arg). args_size (args_of l)) c.as_slice-args.ensures in
    (omega arith, tt)

pub value-returns-in-Number : goal.value-returns-in-Number
value-returns-in-Number t c =
    let fits : FitsSigned w64 c.in-Number.number = search rules in
    rw (to_z-of_z w64 c.in-Number.number fits) (number_is (supply_in c.args.supply) c.args.x.now c.in-Number.number (scope_in c.args.scope) c.args.seen.now c.begin.new.self c.in-Number.is c.in_ok-begin.ensures.ok)

pub value-returns-in-Truth : goal.value-returns-in-Truth
value-returns-in-Truth t c =
    let fits : FitsSigned w64 c.word_of.result = search rules in
    rw (to_z-of_z w64 c.word_of.result fits) (truth_is (supply_in c.args.supply) c.args.x.now c.in-Truth.holds c.word_of.result (scope_in c.args.scope) c.args.seen.now c.begin.new.self c.in-Truth.is c.word_of.ensures c.in_ok-begin.ensures.ok)

pub value-returns-in-Text : goal.value-returns-in-Text
value-returns-in-Text t c = comes_wrong (value (supply_in c.args.supply) (tree_of c.args.x.now) (scope_in c.args.scope) c.args.seen.now) stop.Wrong c.begin.new.self refl (text_is (supply_in c.args.supply) c.args.x.now c.in-Text.field-0 (scope_in c.args.scope) c.args.seen.now c.in-Text.is)

pub value-returns-in-Name : goal.value-returns-in-Name
value-returns-in-Name t c = holds_as (value (supply_in c.args.supply) (tree_of c.args.x.now) (scope_in c.args.scope) c.args.seen.now) (ended (given (value_named c.in-Name.name.bytes c.args.scope.vars.now) Gives) c.begin.new.self) c.name_value.result c.begin.new.self (name_is (supply_in c.args.supply) c.args.x.now c.in-Name.name (scope_in c.args.scope) c.args.seen.now c.begin.new.self c.in-Name.is c.in_ok-begin.ensures.ok)
    (answer_holds (given (value_named c.in-Name.name.bytes c.args.scope.vars.now) Gives) c.name_value.result c.begin.new.self c.name_value.ensures)

pub value-returns-in-Column : goal.value-returns-in-Column
value-returns-in-Column t c = holds_as (value (supply_in c.args.supply) (tree_of c.args.x.now) (scope_in c.args.scope) c.args.seen.now) (ended (column_value c.in-Column.name.bytes (scope_in c.args.scope).frame) c.begin.new.self) c.column_value.result c.begin.new.self (column_is (supply_in c.args.supply) c.args.x.now c.in-Column.name (scope_in c.args.scope) c.args.seen.now c.begin.new.self c.in-Column.is c.in_ok-begin.ensures.ok)
    (answer_holds (column_value c.in-Column.name.bytes (scope_in c.args.scope).frame) c.column_value.result c.begin.new.self c.column_value.ensures)

pub value-returns-in-Field : goal.value-returns-in-Field
value-returns-in-Field t c = holds_as (value (supply_in c.args.supply) (tree_of c.args.x.now) (scope_in c.args.scope) c.args.seen.now) (ended (given (value_named c.in-Field.name.bytes c.args.scope.vars.now) (field_value c.in-Field.of_it.bytes)) c.begin.new.self) c.field_value.result c.begin.new.self (field_is (supply_in c.args.supply) c.args.x.now c.in-Field.name c.in-Field.of_it (scope_in c.args.scope) c.args.seen.now c.begin.new.self c.in-Field.is c.in_ok-begin.ensures.ok)
    (answer_holds (given (value_named c.in-Field.name.bytes c.args.scope.vars.now) (field_value c.in-Field.of_it.bytes)) c.field_value.result c.begin.new.self c.field_value.ensures)

pub value-returns-in-Unary : goal.value-returns-in-Unary
value-returns-in-Unary t c = holds_made c.unary.result c.made.result c.unary.new.seen (unary_is (supply_in c.args.supply) c.args.x.now c.in-Unary.op c.in-Unary.dotted c.in-Unary.operand c.get.result.now (scope_in c.args.scope) c.args.seen.now c.begin.new.self c.in-Unary.is c.get.ensures c.in_ok-begin.ensures.ok) c.unary.ensures c.made.ensures

pub value-returns-in-Binary : goal.value-returns-in-Binary
value-returns-in-Binary t c = holds_made c.binary.result c.made-in-Binary.result c.binary.new.seen (binary_is (supply_in c.args.supply) c.args.x.now c.in-Binary.op c.in-Binary.dotted c.in-Binary.a c.in-Binary.b c.get-in-Binary.result.now c.get-in-Binary-2.result.now (scope_in c.args.scope) c.args.seen.now c.begin.new.self c.in-Binary.is c.get-in-Binary.ensures c.get-in-Binary-2.ensures c.in_ok-begin.ensures.ok) c.binary.ensures c.made-in-Binary.ensures

pub value-returns-in-Index : goal.value-returns-in-Index
value-returns-in-Index t c = holds_made c.element.result c.made-in-Index.result c.element.new.seen (element_is (supply_in c.args.supply) c.args.x.now c.in-Index.array c.in-Index.index c.get-in-Index.result.now c.get-in-Index-2.result.now (scope_in c.args.scope) c.args.seen.now c.begin.new.self c.in-Index.is c.get-in-Index.ensures c.get-in-Index-2.ensures c.in_ok-begin.ensures.ok) c.element.ensures c.made-in-Index.ensures

pub value-returns-in-Call : goal.value-returns-in-Call
value-returns-in-Call t c = holds_made c.call.result c.made-in-Call.result c.call.new.seen (call_is (supply_in c.args.supply) c.args.x.now c.in-Call.name c.in-Call.dotted c.in-Call.args c.as_slice-args.result.now c.as_slice.result.now c.function_of-function.result (scope_in c.args.scope) c.args.seen.now c.begin.new.self c.in-Call.is c.as_slice-args.ensures c.as_slice.ensures c.function_of-function.ensures c.in_ok-begin.ensures.ok) c.call.ensures c.made-in-Call.ensures
