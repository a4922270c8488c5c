-- What the cycle of expressions and arguments tells and adds.
use Rattle.hp_script.specs.Breaks.{is_flipped, broken, plain_break, range_break, lambda_break, named_break, measure_break, new_break}
use Rattle.hp_script.specs.Entries.{files_in, files_among, no_shapes}
use Rattle.hp_script.specs.Mirror.{tree_of, args_of}
use Rattle.hp_script.specs.Scope.{with_parameter}
use Rattle.hp_script.specs.Typing.{is_window, wanted, role_wanted, inside, frames_among, value_or_misfit, plain_argument, range_argument, lambda_argument, named_argument}
use Rattle.hp_script.specs.Walk.{break_of, shape_of, entries_of, site, found_among, finds_of}
use Rattle.hp_script.proofs.Turns.{breaks_among, arguments, order_refusal, order_arguments, order_entries}
use Rattle.hp_script.specs.declared.function.Function.TheVariants as function
use Rattle.hp_script.specs.declared.argument.Argument.TheVariants.{Measure}
use Rattle.hp_script.specs.declared.rule.Rule.TheVariants.{WrongType}
use Rattle.hp_types.proofs.ArgumentForms.{refused_as, refused_first, refused_next, refused_by, gives_exit, gives_as, both_pass, grew_as, grew_always, grew_none, grew_nothing, plain_next, plain_grew, range_next, range_grew, lambda_next, lambda_grew, named_next, named_grew, no_array, no_entries, map_told, map_added, text_told, text_added, others_refused, last_refused, array_tested, array_grew, loop_refused, loop_next, loop_end, left_end, left_grew}
use Rattle.hp_types.proofs.ExpressionForms.{alike_unary, alike_binary, alike_index, alike_call, told_by, grew_by, told_number, grew_number, told_truth, grew_truth, refused_text, refused_variable, told_variable, grew_variable, refused_column, told_column, grew_column, refused_field, told_field, grew_field, told_refused, grew_unary, grew_binary, grew_index, told_call, grew_call, given_refused as parts_given_refused, refused_as as parts_refused_as, never_flipped, value_tests, flipped_tests, parts_at, shape_at, grew_flipped}
use Rattle.hp_types.proofs.WantedForms.{range_meant, no_range, no_lambda, lambda_refused, lambda_tested, plain_nothing, text_read, text_entries, text_files, no_text, column_unknown, column_again, column_read, column_entries, column_files, value_for_text, value_for_column, value_for_other, inside_mask, inside_first, inside_other, told_inside, grew_inside, named_nothing, no_name, given_meant, measure_meant, given_refused, given_tested, measure_tests, measure_is, measure_entries, measure_files}
use Rattle.hp_types.proofs.+expressions.Goals.{expression::right_side-then-is_flipped+in_default, expression::right_side-else-is_flipped, arguments::operand-in_default-via-in-Filter+else-not-is_empty, arguments::operand-in_default-via-in_default}
use Rattle.hp_types.specs.Known.{role_seen, call_seen}
use Rattle.std.proofs.Common.{rules, ◌≡◌, ◌∙◌, true, false, Err, refl, sym, ◌++◌, [], ◌∷◌, List, ap, arith}
use Rattle.std.specs.Option.{option_or}
use Rattle.std.specs.Prelude.{Option}
use Rattle.hp_script.specs.declared.typed.Shape.{Shape}
use Rattle.hp_types.proofs.+expressions.Goals as goal

pub expression::expression-returns-in-Number-clause-told : goal.expression::expression-returns-in-Number-clause-told
expression::expression-returns-in-Number-clause-told t c =
    told_number c.args.scope.now c.args.x.now c.in-Number.field-0 c.known.result c.in-Number.is c.known.ensures.told

pub expression::expression-returns-in-Number-clause-grew : goal.expression::expression-returns-in-Number-clause-grew
expression::expression-returns-in-Number-clause-grew t c =
    grew_number c.args.scope.now c.args.x.now c.in-Number.field-0 c.known.result c.args.found.now c.known.new.found c.in-Number.is c.known.ensures.grew

pub expression::expression-returns-in-Truth-clause-told : goal.expression::expression-returns-in-Truth-clause-told
expression::expression-returns-in-Truth-clause-told t c =
    told_truth c.args.scope.now c.args.x.now c.in-Truth.field-0 c.known-in-Truth.result c.in-Truth.is c.known-in-Truth.ensures.told

pub expression::expression-returns-in-Truth-clause-grew : goal.expression::expression-returns-in-Truth-clause-grew
expression::expression-returns-in-Truth-clause-grew t c =
    grew_truth c.args.scope.now c.args.x.now c.in-Truth.field-0 c.known-in-Truth.result c.args.found.now c.known-in-Truth.new.found c.in-Truth.is c.known-in-Truth.ensures.grew

pub expression::expression-returns-in-Text-clause-told : goal.expression::expression-returns-in-Text-clause-told
expression::expression-returns-in-Text-clause-told t c =
    refused_text c.args.scope.now c.args.x.now c.in-Text.field-0 c.broken.result c.in-Text.is c.broken.ensures

pub expression::expression-returns-in_err-shape-in-Name-clause-told : goal.expression::expression-returns-in_err-shape-in-Name-clause-told
expression::expression-returns-in_err-shape-in-Name-clause-told t c =
    let is : c.from_residual.result ≡ Err c.in_err-shape-in-Name.field-0.0 = search rules in
    told_refused _ _ c.from_residual.result c.in_err-shape-in-Name.field-0.0 is (refused_variable c.args.scope.now c.args.x.now c.in-Name.name c.as_slice.result.now _ c.in-Name.is c.as_slice.ensures c.in_err-shape-in-Name.ensures)

pub expression::expression-returns-in_ok-shape-in-Name-clause-told : goal.expression::expression-returns-in_ok-shape-in-Name-clause-told
expression::expression-returns-in_ok-shape-in-Name-clause-told t c =
    told_variable c.args.scope.now c.args.x.now c.in-Name.name c.as_slice.result.now c.in_ok-shape-in-Name.shape c.known-in-Name.result c.in-Name.is c.as_slice.ensures c.in_ok-shape-in-Name.ensures.0 c.in_ok-shape-in-Name.ensures.1 c.known-in-Name.ensures.told

pub expression::expression-returns-in_ok-shape-in-Name-clause-grew : goal.expression::expression-returns-in_ok-shape-in-Name-clause-grew
expression::expression-returns-in_ok-shape-in-Name-clause-grew t c =
    grew_variable c.args.scope.now c.args.x.now c.in-Name.name c.as_slice.result.now c.in_ok-shape-in-Name.shape c.known-in-Name.result c.args.found.now c.known-in-Name.new.found c.in-Name.is c.as_slice.ensures c.in_ok-shape-in-Name.ensures.1 c.known-in-Name.ensures.grew

pub expression::expression-returns-in_err-column-in-Column-clause-told : goal.expression::expression-returns-in_err-column-in-Column-clause-told
expression::expression-returns-in_err-column-in-Column-clause-told t c =
    let is : c.from_residual-in_err-column-in-Column.result ≡ Err c.in_err-column-in-Column.field-0.0 = search rules in
    told_refused _ _ c.from_residual-in_err-column-in-Column.result c.in_err-column-in-Column.field-0.0 is (refused_column c.args.scope.now c.args.x.now c.in-Column.name c.as_slice-in-Column.result.now _ c.in-Column.is c.as_slice-in-Column.ensures c.in_err-column-in-Column.ensures)

pub expression::expression-returns-in_ok-column-in-Column-clause-told : goal.expression::expression-returns-in_ok-column-in-Column-clause-told
expression::expression-returns-in_ok-column-in-Column-clause-told t c =
    told_column c.args.scope.now c.args.x.now c.in-Column.name c.as_slice-in-Column.result.now c.known-in-Column.result c.in-Column.is c.as_slice-in-Column.ensures c.in_ok-column-in-Column.ensures c.known-in-Column.ensures.told

pub expression::expression-returns-in_ok-column-in-Column-clause-grew : goal.expression::expression-returns-in_ok-column-in-Column-clause-grew
expression::expression-returns-in_ok-column-in-Column-clause-grew t c =
    grew_column c.args.scope.now c.args.x.now c.in-Column.name c.known-in-Column.result c.args.found.now c.known-in-Column.new.found c.in-Column.is c.known-in-Column.ensures.grew

pub expression::expression-returns-in_err-field-in-Field-clause-told : goal.expression::expression-returns-in_err-field-in-Field-clause-told
expression::expression-returns-in_err-field-in-Field-clause-told t c =
    let is : c.from_residual-in_err-field-in-Field.result ≡ Err c.in_err-field-in-Field.field-0.0 = search rules in
    told_refused _ _ c.from_residual-in_err-field-in-Field.result c.in_err-field-in-Field.field-0.0 is (refused_field c.args.scope.now c.args.x.now c.in-Field.name c.in-Field.column c.as_slice-in-Field.result.now c.as_slice-in-Field-2.result.now _ c.in-Field.is c.as_slice-in-Field.ensures c.as_slice-in-Field-2.ensures c.in_err-field-in-Field.ensures)

pub expression::expression-returns-in_ok-field-in-Field-clause-told : goal.expression::expression-returns-in_ok-field-in-Field-clause-told
expression::expression-returns-in_ok-field-in-Field-clause-told t c =
    told_field c.args.scope.now c.args.x.now c.in-Field.name c.in-Field.column c.as_slice-in-Field.result.now c.as_slice-in-Field-2.result.now c.known-in-Field.result c.in-Field.is c.as_slice-in-Field.ensures c.as_slice-in-Field-2.ensures c.in_ok-field-in-Field.ensures c.known-in-Field.ensures.told

pub expression::expression-returns-in_ok-field-in-Field-clause-grew : goal.expression::expression-returns-in_ok-field-in-Field-clause-grew
expression::expression-returns-in_ok-field-in-Field-clause-grew t c =
    grew_field c.args.scope.now c.args.x.now c.in-Field.name c.in-Field.column c.known-in-Field.result c.args.found.now c.known-in-Field.new.found c.in-Field.is c.known-in-Field.ensures.grew

pub expression::expression-returns-in-Unary-clause-told : goal.expression::expression-returns-in-Unary-clause-told
expression::expression-returns-in-Unary-clause-told t c =
    told_by _ _ _ c.unary.result (alike_unary c.args.scope.now c.args.x.now c.in-Unary.operand c.get.result.now c.in-Unary.op c.in-Unary.dotted c.in-Unary.is c.get.ensures) c.unary.ensures.told

pub expression::expression-returns-in-Unary-clause-grew : goal.expression::expression-returns-in-Unary-clause-grew
unfolding files_in
expression::expression-returns-in-Unary-clause-grew t c =
    grew_by _ _ _ _ c.unary.result c.args.found.now c.unary.new.found (alike_unary c.args.scope.now c.args.x.now c.in-Unary.operand c.get.result.now c.in-Unary.op c.in-Unary.dotted c.in-Unary.is c.get.ensures) refl c.unary.ensures.grew

pub expression::expression-returns-in-Binary-clause-told : goal.expression::expression-returns-in-Binary-clause-told
expression::expression-returns-in-Binary-clause-told t c =
    told_by _ _ _ c.binary.result (alike_binary c.args.scope.now c.args.x.now c.in-Binary.left c.in-Binary.right c.get-in-Binary.result.now c.get-in-Binary-2.result.now c.in-Binary.op c.in-Binary.dotted c.in-Binary.is c.get-in-Binary.ensures c.get-in-Binary-2.ensures) c.binary.ensures.told

pub expression::expression-returns-in-Binary-clause-grew : goal.expression::expression-returns-in-Binary-clause-grew
unfolding files_in
expression::expression-returns-in-Binary-clause-grew t c =
    grew_by _ _ _ _ c.binary.result c.args.found.now c.binary.new.found (alike_binary c.args.scope.now c.args.x.now c.in-Binary.left c.in-Binary.right c.get-in-Binary.result.now c.get-in-Binary-2.result.now c.in-Binary.op c.in-Binary.dotted c.in-Binary.is c.get-in-Binary.ensures c.get-in-Binary-2.ensures) refl c.binary.ensures.grew

pub expression::expression-returns-in-Index-clause-told : goal.expression::expression-returns-in-Index-clause-told
expression::expression-returns-in-Index-clause-told t c =
    told_by _ _ _ c.indexed.result (alike_index c.args.scope.now c.args.x.now c.in-Index.array c.in-Index.place c.get-in-Index.result.now c.get-in-Index-2.result.now c.in-Index.is c.get-in-Index.ensures c.get-in-Index-2.ensures) c.indexed.ensures.told

pub expression::expression-returns-in-Index-clause-grew : goal.expression::expression-returns-in-Index-clause-grew
unfolding files_in
expression::expression-returns-in-Index-clause-grew t c =
    grew_by _ _ _ _ c.indexed.result c.args.found.now c.indexed.new.found (alike_index c.args.scope.now c.args.x.now c.in-Index.array c.in-Index.place c.get-in-Index.result.now c.get-in-Index-2.result.now c.in-Index.is c.get-in-Index.ensures c.get-in-Index-2.ensures) refl c.indexed.ensures.grew

pub expression::expression-returns-in-Call-clause-told : goal.expression::expression-returns-in-Call-clause-told
expression::expression-returns-in-Call-clause-told t c =
    told_by _ _ _ c.call.result (alike_call c.args.scope.now c.args.x.now c.in-Call.name c.as_slice-in-Call.result.now c.in-Call.dotted c.in-Call.args c.as_slice-in-Call-2.result.now c.in-Call.is c.as_slice-in-Call.ensures c.as_slice-in-Call-2.ensures) c.call.ensures.told

pub expression::expression-returns-in-Call-clause-grew : goal.expression::expression-returns-in-Call-clause-grew
unfolding files_in
expression::expression-returns-in-Call-clause-grew t c =
    grew_by _ _ _ _ c.call.result c.args.found.now c.call.new.found (alike_call c.args.scope.now c.args.x.now c.in-Call.name c.as_slice-in-Call.result.now c.in-Call.dotted c.in-Call.args c.as_slice-in-Call-2.result.now c.in-Call.is c.as_slice-in-Call.ensures c.as_slice-in-Call-2.ensures) refl c.call.ensures.grew

pub expression::unary-returns-clause-grew : goal.expression::unary-returns-clause-grew
expression::unary-returns-clause-grew t c =
    grew_unary c.args.scope.now c.args.at c.args.op c.args.dotted (tree_of c.args.operand.now) c.in_ok-shape.shape c.in_ok-number.number c.unary_result.result c.args.found.now c.add_none.new.self c.expression.new.found c.settle.new.found c.settle.result
    c.in_ok-number.ensures.shapes c.in_ok-number.ensures.number c.in_ok-number.ensures.reads c.in_ok-shape.ensures.grew c.in_ok-shape.ensures.told.1 c.unary_result.ensures c.settle.ensures.shapes c.settle.ensures.reads

pub expression::binary-returns-clause-grew : goal.expression::binary-returns-clause-grew
expression::binary-returns-clause-grew t c =
    grew_binary c.args.scope.now c.args.at c.args.op c.args.dotted (tree_of c.args.left.now) (tree_of c.args.right.now) c.in_ok-a.a c.in_ok-b.b c.in_ok-number.number c.result_of_both.result c.args.found.now c.expression.new.found c.add_none.new.self c.right_side.new.found c.settle.new.found c.settle.result
    c.in_ok-a.ensures.grew c.in_ok-number.ensures.shapes c.in_ok-number.ensures.number c.in_ok-number.ensures.reads c.in_ok-b.ensures.grew c.in_ok-a.ensures.told.1 c.in_ok-b.ensures.told.1 c.result_of_both.ensures c.settle.ensures.shapes c.settle.ensures.reads

pub expression::indexed-returns-clause-grew : goal.expression::indexed-returns-clause-grew
expression::indexed-returns-clause-grew t c =
    let other : is_window c.args.scope.now (tree_of c.args.array.now) ≡ false = search rules in
    grew_index c.args.scope.now c.args.at (tree_of c.args.array.now) (tree_of c.args.place.now) c.in_ok-a.a c.in_ok-b.b c.in_ok-number.number c.index_result.result c.args.found.now c.expression.new.found c.add_none.new.self c.expression-2.new.found c.settle.new.found c.settle.result
    other c.in_ok-a.ensures.grew c.in_ok-number.ensures.shapes c.in_ok-number.ensures.number c.in_ok-number.ensures.reads c.in_ok-b.ensures.grew c.in_ok-a.ensures.told.1 c.in_ok-b.ensures.told.1 c.index_result.ensures c.settle.ensures.shapes c.settle.ensures.reads

pub expression::call-returns-clause-told : goal.expression::call-returns-clause-told
expression::call-returns-clause-told t c =
    told_call c.args.scope.now c.args.at c.args.name.now c.args.dotted (args_of c.args.args.now) c.in_ok-function.function (found_among c.in_ok-function.function (finds_of (site c.args.scope.now c.args.at c.in_ok-function.function) (args_of c.args.args.now))).arguments c.in_ok-function.shape c.settle.result c.in_ok-function.ensures.told.0 c.in_ok-function.ensures.told.1 refl (sym c.in_ok-function.ensures.told.2) c.in_ok-test_call.ensures c.settle.ensures.told

pub expression::call-returns-clause-grew : goal.expression::call-returns-clause-grew
expression::call-returns-clause-grew t c =
    grew_call c.args.scope.now c.args.at c.args.name.now c.args.dotted (args_of c.args.args.now) c.in_ok-function.function (found_among c.in_ok-function.function (finds_of (site c.args.scope.now c.args.at c.in_ok-function.function) (args_of c.args.args.now))).arguments c.in_ok-function.shape c.len-number.result c.args.found.now c.parts.new.found c.settle.new.found c.settle.result c.in_ok-function.ensures.told.1 refl (sym c.in_ok-function.ensures.told.2) c.in_ok-test_call.ensures c.len-number.ensures c.in_ok-function.ensures.grew c.settle.ensures.shapes c.settle.ensures.reads

pub expression::right_side-returns-clause-told : goal.expression::right_side-returns-clause-told
expression::right_side-returns-clause-told t c =
    let other : is_flipped c.args.scope.now c.args.op c.args.dotted (tree_of c.args.x.now) ≡ false =
    elim c.if-is_flipped.branch [
      | expression::right_side-then-is_flipped+in_default w ↦ never_flipped c.args.scope.now c.args.op c.args.dotted c.args.x.now w.in_default.not-Call
      | expression::right_side-else-is_flipped w ↦ sym c.is_flipped.ensures ∙ w.if-is_flipped.false
    ] in
    (value_tests c.args.scope.now c.args.op c.args.dotted (tree_of c.args.x.now) other ∙ c.in_ok-shape.ensures.told.0, c.in_ok-shape.ensures.told.1)

pub expression::right_side-returns-in_err-shape-clause-told : goal.expression::right_side-returns-in_err-shape-clause-told
expression::right_side-returns-in_err-shape-clause-told t c =
    let other : is_flipped c.args.scope.now c.args.op c.args.dotted (tree_of c.args.x.now) ≡ false =
    elim c.if-is_flipped.branch [
      | expression::right_side-then-is_flipped+in_default w ↦ never_flipped c.args.scope.now c.args.op c.args.dotted c.args.x.now w.in_default.not-Call
      | expression::right_side-else-is_flipped w ↦ sym c.is_flipped.ensures ∙ w.if-is_flipped.false
    ] in
    let is : c.from_residual-in_err-shape.result ≡ Err c.in_err-shape.field-0.0 = search rules in
    parts_given_refused _ _ c.from_residual-in_err-shape.result c.in_err-shape.field-0.0 is (parts_refused_as _ _ c.in_err-shape.field-0.0 (value_tests c.args.scope.now c.args.op c.args.dotted (tree_of c.args.x.now) other) c.in_err-shape.ensures.told)

pub expression::right_side-returns-in-Call-clause-told : goal.expression::right_side-returns-in-Call-clause-told
expression::right_side-returns-in-Call-clause-told t c =
    let flipped : is_flipped c.args.scope.now c.args.op c.args.dotted (tree_of c.args.x.now) ≡ true = sym c.is_flipped.ensures ∙ c.if-is_flipped.true in
    let called = c.in_ok-called.called in (
      flipped_tests c.args.scope.now c.args.op c.args.dotted (tree_of c.args.x.now) flipped ∙ parts_at c.args.scope.now c.args.x.now c.in-Call.name c.as_slice.result.now c.in-Call.plain c.in-Call.args c.as_slice-in-Call.result.now c.in-Call.is c.as_slice.ensures c.as_slice-in-Call.ensures ∙ c.in_ok-called.ensures.told.0,
      shape_at c.args.scope.now c.args.x.now c.in-Call.name c.as_slice.result.now c.in-Call.plain c.in-Call.args c.as_slice-in-Call.result.now called.0 (found_among called.0 (finds_of (site c.args.scope.now c.args.x.now.at called.0) (args_of c.as_slice-in-Call.result.now))).arguments called.1 c.in-Call.is c.as_slice.ensures c.as_slice-in-Call.ensures c.in_ok-called.ensures.told.1 refl (sym c.in_ok-called.ensures.told.2),
    )

pub expression::right_side-returns-in-Call-clause-grew : goal.expression::right_side-returns-in-Call-clause-grew
expression::right_side-returns-in-Call-clause-grew t c =
    let flipped : is_flipped c.args.scope.now c.args.op c.args.dotted (tree_of c.args.x.now) ≡ true = sym c.is_flipped.ensures ∙ c.if-is_flipped.true in
    grew_flipped c.args.scope.now c.args.op c.args.dotted c.args.x.now c.in-Call.name c.as_slice.result.now c.in-Call.plain c.in-Call.args c.as_slice-in-Call.result.now c.args.found.now c.parts.new.found c.in-Call.is c.as_slice.ensures c.as_slice-in-Call.ensures flipped c.in_ok-called.ensures.grew

pub expression::right_side-returns-in_err-called-clause-told : goal.expression::right_side-returns-in_err-called-clause-told
expression::right_side-returns-in_err-called-clause-told t c =
    let flipped : is_flipped c.args.scope.now c.args.op c.args.dotted (tree_of c.args.x.now) ≡ true = sym c.is_flipped.ensures ∙ c.if-is_flipped.true in
    let is : c.from_residual.result ≡ Err c.in_err-called.field-0.0 = search rules in
    parts_given_refused _ _ c.from_residual.result c.in_err-called.field-0.0 is (parts_refused_as _ _ c.in_err-called.field-0.0 (flipped_tests c.args.scope.now c.args.op c.args.dotted (tree_of c.args.x.now) flipped ∙ parts_at c.args.scope.now c.args.x.now c.in-Call.name c.as_slice.result.now c.in-Call.plain c.in-Call.args c.as_slice-in-Call.result.now c.in-Call.is c.as_slice.ensures c.as_slice-in-Call.ensures) c.in_err-called.ensures.told)

pub arguments::argument-returns-in-Plain-clause-told : goal.arguments::argument-returns-in-Plain-clause-told
arguments::argument-returns-in-Plain-clause-told t c =
    plain_next c.args.scope.now c.args.call.now.at c.args.call.now.function c.args.call.now.before.now c.args.arg.now c.in-Plain.x c.plain.result c.in-Plain.is c.plain.ensures.told

pub arguments::argument-returns-in-Plain-clause-grew : goal.arguments::argument-returns-in-Plain-clause-grew
arguments::argument-returns-in-Plain-clause-grew t c =
    plain_grew c.args.scope.now c.args.call.now.at c.args.call.now.function c.args.call.now.before.now c.args.arg.now c.in-Plain.x c.args.found.now c.plain.new.found c.plain.result c.in-Plain.is c.plain.ensures.grew

pub arguments::argument-returns-in-Range-clause-told : goal.arguments::argument-returns-in-Range-clause-told
arguments::argument-returns-in-Range-clause-told t c =
    range_next c.args.scope.now c.args.call.now.at c.args.call.now.function c.args.call.now.before.now c.args.arg.now c.in-Range.first c.in-Range.last c.range.result c.in-Range.is c.range.ensures.told

pub arguments::argument-returns-in-Range-clause-grew : goal.arguments::argument-returns-in-Range-clause-grew
arguments::argument-returns-in-Range-clause-grew t c =
    range_grew c.args.scope.now c.args.call.now.at c.args.call.now.function c.args.call.now.before.now c.args.arg.now c.in-Range.first c.in-Range.last c.args.found.now c.range.new.found c.range.result c.in-Range.is c.range.ensures.grew

pub arguments::argument-returns-in-Lambda-clause-told : goal.arguments::argument-returns-in-Lambda-clause-told
arguments::argument-returns-in-Lambda-clause-told t c =
    lambda_next c.args.scope.now c.args.call.now.at c.args.call.now.function c.args.call.now.before.now c.args.arg.now c.in-Lambda.parameter c.in-Lambda.x c.lambda.result c.in-Lambda.is c.lambda.ensures.told

pub arguments::argument-returns-in-Lambda-clause-grew : goal.arguments::argument-returns-in-Lambda-clause-grew
arguments::argument-returns-in-Lambda-clause-grew t c =
    lambda_grew c.args.scope.now c.args.call.now.at c.args.call.now.function c.args.call.now.before.now c.args.arg.now c.in-Lambda.parameter c.in-Lambda.x c.args.found.now c.lambda.new.found c.lambda.result c.in-Lambda.is c.lambda.ensures.grew

pub arguments::argument-returns-in-Named-clause-told : goal.arguments::argument-returns-in-Named-clause-told
arguments::argument-returns-in-Named-clause-told t c =
    named_next c.args.scope.now c.args.call.now.at c.args.call.now.function c.args.call.now.before.now c.args.arg.now c.in-Named.name c.in-Named.place c.in-Named.x c.named.result c.in-Named.is c.named.ensures.told

pub arguments::argument-returns-in-Named-clause-grew : goal.arguments::argument-returns-in-Named-clause-grew
arguments::argument-returns-in-Named-clause-grew t c =
    named_grew c.args.scope.now c.args.call.now.at c.args.call.now.function c.args.call.now.before.now c.args.arg.now c.in-Named.name c.in-Named.place c.in-Named.x c.args.found.now c.named.new.found c.named.result c.in-Named.is c.named.ensures.grew

pub arguments::array_first-returns-in_default-clause-told : goal.arguments::array_first-returns-in_default-clause-told
arguments::array_first-returns-in_default-clause-told t c =
    let h = no_array c.args.scope.now c.args.at c.args.args.now c.in_default.ensures.cases in (order_refusal c.args.scope.now c.args.at function.Map (args_of c.args.args.now) ∙ h.0, order_arguments c.args.scope.now c.args.at function.Map (args_of c.args.args.now) ∙ h.1 ∙ sym c.new.ensures)

pub arguments::array_first-returns-in_default-clause-grew : goal.arguments::array_first-returns-in_default-clause-grew
arguments::array_first-returns-in_default-clause-grew t c =
    let h = no_entries c.args.scope.now c.args.at c.args.args.now c.in_default.ensures.cases in grew_nothing c.args.found.now _ _ (order_entries c.args.scope.now c.args.at function.Map (args_of c.args.args.now) ∙ h.0) h.1

pub arguments::array_first-returns-in_err-others-clause-told : goal.arguments::array_first-returns-in_err-others-clause-told
arguments::array_first-returns-in_err-others-clause-told t c =
    gives_exit (found_among function.Map (finds_of (site c.args.scope.now c.args.at function.Map) (args_of c.args.args.now))).refusal (found_among function.Map (finds_of (site c.args.scope.now c.args.at function.Map) (args_of c.args.args.now))).arguments c.from_residual.result c.in_err-others.field-0.0 c.from_residual.ensures.1
    (refused_as _ _ c.in_err-others.field-0.0 (order_refusal c.args.scope.now c.args.at function.Map (args_of c.args.args.now)) (others_refused c.args.scope.now c.args.at c.args.args.now c.in-Some.rest.now c.in-Some.first.now c.in_err-others.field-0.0 c.in-Some.ensures.cases.0 c.in_err-others.ensures.told))

pub arguments::array_first-returns-in_err-arguments-clause-told : goal.arguments::array_first-returns-in_err-arguments-clause-told
arguments::array_first-returns-in_err-arguments-clause-told t c =
    gives_exit (found_among function.Map (finds_of (site c.args.scope.now c.args.at function.Map) (args_of c.args.args.now))).refusal (found_among function.Map (finds_of (site c.args.scope.now c.args.at function.Map) (args_of c.args.args.now))).arguments c.from_residual-in_err-arguments.result c.in_err-arguments.field-0.0 c.from_residual-in_err-arguments.ensures.1
    (refused_as _ _ c.in_err-arguments.field-0.0 (order_refusal c.args.scope.now c.args.at function.Map (args_of c.args.args.now)) (last_refused c.args.scope.now c.args.at c.args.args.now c.in-Some.rest.now c.in-Some.first.now c.in_ok-others.others c.in_err-arguments.field-0.0 c.in-Some.ensures.cases.0 c.in_ok-others.ensures.told.0 c.in_ok-others.ensures.told.1 c.in_err-arguments.ensures.told))

pub arguments::array_first-returns-clause-told : goal.arguments::array_first-returns-clause-told
arguments::array_first-returns-clause-told t c =
    let h = array_tested c.args.scope.now c.args.at c.args.args.now c.in-Some.rest.now c.in-Some.first.now c.in_ok-others.others c.in_ok-arguments.arguments c.in-Some.ensures.cases.0 c.in_ok-others.ensures.told.0 c.in_ok-others.ensures.told.1 c.in_ok-arguments.ensures.told.0 c.in_ok-arguments.ensures.told.1 in
    (order_refusal c.args.scope.now c.args.at function.Map (args_of c.args.args.now) ∙ h.0, order_arguments c.args.scope.now c.args.at function.Map (args_of c.args.args.now) ∙ h.1)

pub arguments::array_first-returns-clause-grew : goal.arguments::array_first-returns-clause-grew
arguments::array_first-returns-clause-grew t c =
    let h = array_grew c.args.scope.now c.args.at c.args.args.now c.in-Some.rest.now c.in-Some.first.now c.in_ok-others.others c.args.found.now c.new-later.result c.among.new.found c.with_next.new.found c.append.new.self
    c.in-Some.ensures.cases.0 c.in_ok-others.ensures.told.1 c.new-later.ensures c.in_ok-others.ensures.grew c.in_ok-arguments.ensures.grew (c.in_ok-append.ensures.shapes, c.in_ok-append.ensures.reads) in
    (h.0 ∙ ap (λ (es : List (Option Shape)). c.args.found.now.shapes ++ es) (sym (order_entries c.args.scope.now c.args.at function.Map (args_of c.args.args.now))), h.1)

pub arguments::with_next-returns-in_err-next-clause-told : goal.arguments::with_next-returns-in_err-next-clause-told
arguments::with_next-returns-in_err-next-clause-told t c =
    gives_exit (breaks_among c.args.scope.now c.args.at c.args.function c.args.before (args_of (c.args.arg.now ∷ []))) (arguments c.args.scope.now c.args.at c.args.function c.args.before (args_of (c.args.arg.now ∷ []))) c.from_residual.result c.in_err-next.field-0.0 c.from_residual.ensures.1 c.in_err-next.ensures.told

pub arguments::with_next-returns-clause-told : goal.arguments::with_next-returns-clause-told
arguments::with_next-returns-clause-told t c = (c.in_ok-next.ensures.told.0, c.in_ok-next.ensures.told.1 ∙ sym c.in_ok-with.ensures)

pub arguments::lambda-returns-in_default : goal.arguments::lambda-returns-in_default
arguments::lambda-returns-in_default t c =
    record { told = refused_by (lambda_break (wanted c.args.call.now.function c.args.call.now.before.now) c.args.call.now.at (break_of (with_parameter c.args.scope.now c.args.parameter.now.bytes (role_wanted (wanted c.args.call.now.function c.args.call.now.before.now))) (tree_of c.args.x.now))) c.args.call.now.at WrongType c.broken.result (no_lambda c.wanted_by.result (wanted c.args.call.now.function c.args.call.now.before.now) c.args.call.now.at (break_of (with_parameter c.args.scope.now c.args.parameter.now.bytes (role_wanted (wanted c.args.call.now.function c.args.call.now.before.now))) (tree_of c.args.x.now)) c.wanted_by.ensures c.in_default.not-Lambda) c.broken.ensures; grew = tt }

pub arguments::lambda-returns-in_err-shape-clause-told : goal.arguments::lambda-returns-in_err-shape-clause-told
arguments::lambda-returns-in_err-shape-clause-told t c =
    gives_exit (lambda_break (wanted c.args.call.now.function c.args.call.now.before.now) c.args.call.now.at (break_of (with_parameter c.args.scope.now c.args.parameter.now.bytes (role_wanted (wanted c.args.call.now.function c.args.call.now.before.now))) (tree_of c.args.x.now))) (lambda_argument (shape_of (with_parameter c.args.scope.now c.args.parameter.now.bytes (role_wanted (wanted c.args.call.now.function c.args.call.now.before.now))) (tree_of c.args.x.now))) c.from_residual-in_err-shape.result c.in_err-shape.field-0.0 c.from_residual-in_err-shape.ensures.1
    (lambda_refused c.args.scope.now c.in_ok-inner.inner c.args.parameter.now.bytes (wanted c.args.call.now.function c.args.call.now.before.now) (role_seen c.in-Lambda.role) c.args.call.now.at (tree_of c.args.x.now) c.in_err-shape.field-0.0 c.in-Lambda.ensures c.in_ok-inner.ensures c.in_err-shape.ensures.told)

pub arguments::lambda-returns-clause-told : goal.arguments::lambda-returns-clause-told
arguments::lambda-returns-clause-told t c =
    lambda_tested c.args.scope.now c.in_ok-inner.inner c.args.parameter.now.bytes (wanted c.args.call.now.function c.args.call.now.before.now) (role_seen c.in-Lambda.role) c.args.call.now.at (tree_of c.args.x.now) c.in_ok-shape.shape c.in-Lambda.ensures c.in_ok-inner.ensures c.in_ok-shape.ensures.told

pub arguments::named-returns-in_err-operand-in_default : goal.arguments::named-returns-in_err-operand-in_default
arguments::named-returns-in_err-operand-in_default t c = record {
  told = gives_exit (named_break (wanted c.args.call.now.function c.args.call.now.before.now) (call_seen c.args.call.now) c.args.name.now.bytes c.args.place (tree_of c.args.x.now) (break_of (inside c.args.scope.now c.args.call.now.function c.args.call.now.before.now) (tree_of c.args.x.now))) (named_argument (wanted c.args.call.now.function c.args.call.now.before.now) c.args.name.now.bytes (tree_of c.args.x.now) (shape_of (inside c.args.scope.now c.args.call.now.function c.args.call.now.before.now) (tree_of c.args.x.now))) c.from_residual-in_err-operand-in_default.result c.in_err-operand-in_default.field-0.0 c.from_residual-in_err-operand-in_default.ensures.1
      (refused_as _ _ c.in_err-operand-in_default.field-0.0 (no_name c.wanted_by.result (wanted c.args.call.now.function c.args.call.now.before.now) (call_seen c.args.call.now) c.args.name.now.bytes c.args.place (tree_of c.args.x.now) (break_of (inside c.args.scope.now c.args.call.now.function c.args.call.now.before.now) (tree_of c.args.x.now)) c.wanted_by.ensures c.in_default.not-Given c.in_default.not-Measure c.in_default.not-Nothing)
      (refused_first (break_of (inside c.args.scope.now c.args.call.now.function c.args.call.now.before.now) (tree_of c.args.x.now)) (broken c.args.place WrongType) c.in_err-operand-in_default.field-0.0 c.in_err-operand-in_default.ensures.told));
  grew = search rules;
}

pub arguments::named-returns-in_ok-operand-in_default : goal.arguments::named-returns-in_ok-operand-in_default
arguments::named-returns-in_ok-operand-in_default t c = record {
  told = refused_as _ _ c.broken-in_default.result (no_name c.wanted_by.result (wanted c.args.call.now.function c.args.call.now.before.now) (call_seen c.args.call.now) c.args.name.now.bytes c.args.place (tree_of c.args.x.now) (break_of (inside c.args.scope.now c.args.call.now.function c.args.call.now.before.now) (tree_of c.args.x.now)) c.wanted_by.ensures c.in_default.not-Given c.in_default.not-Measure c.in_default.not-Nothing)
      (refused_next (break_of (inside c.args.scope.now c.args.call.now.function c.args.call.now.before.now) (tree_of c.args.x.now)) (broken c.args.place WrongType) c.broken-in_default.result c.in_ok-operand-in_default.ensures.told.0 (refused_by (broken c.args.place WrongType) c.args.place WrongType c.broken-in_default.result refl c.broken-in_default.ensures));
  grew = tt;
}

pub arguments::named-returns-in-Nothing-clause-told : goal.arguments::named-returns-in-Nothing-clause-told
arguments::named-returns-in-Nothing-clause-told t c =
    refused_by (named_break (wanted c.args.call.now.function c.args.call.now.before.now) (call_seen c.args.call.now) c.args.name.now.bytes c.args.place (tree_of c.args.x.now) (break_of (inside c.args.scope.now c.args.call.now.function c.args.call.now.before.now) (tree_of c.args.x.now))) c.args.call.now.at WrongType c.broken.result (named_nothing (wanted c.args.call.now.function c.args.call.now.before.now) (call_seen c.args.call.now) c.args.name.now.bytes c.args.place (tree_of c.args.x.now) (break_of (inside c.args.scope.now c.args.call.now.function c.args.call.now.before.now) (tree_of c.args.x.now)) c.in-Nothing.ensures) c.broken.ensures

pub arguments::named-returns-in_err-shape-in-Given-clause-told : goal.arguments::named-returns-in_err-shape-in-Given-clause-told
arguments::named-returns-in_err-shape-in-Given-clause-told t c =
    gives_exit (named_break (wanted c.args.call.now.function c.args.call.now.before.now) (call_seen c.args.call.now) c.args.name.now.bytes c.args.place (tree_of c.args.x.now) (break_of (inside c.args.scope.now c.args.call.now.function c.args.call.now.before.now) (tree_of c.args.x.now))) (named_argument (wanted c.args.call.now.function c.args.call.now.before.now) c.args.name.now.bytes (tree_of c.args.x.now) (shape_of (inside c.args.scope.now c.args.call.now.function c.args.call.now.before.now) (tree_of c.args.x.now))) c.from_residual.result c.in_err-shape-in-Given.field-0.0 c.from_residual.ensures.1
    (given_refused (wanted c.args.call.now.function c.args.call.now.before.now) (call_seen c.args.call.now) c.args.name.now.bytes c.args.place (tree_of c.args.x.now) (break_of (inside c.args.scope.now c.args.call.now.function c.args.call.now.before.now) (tree_of c.args.x.now)) c.in_err-shape-in-Given.field-0.0 (given_meant (wanted c.args.call.now.function c.args.call.now.before.now) (tree_of c.args.x.now) c.in-Given.ensures) c.in_err-shape-in-Given.ensures.told)

pub arguments::among-returns-in_err-before-clause-told : goal.arguments::among-returns-in_err-before-clause-told
arguments::among-returns-in_err-before-clause-told t c =
    gives_exit (breaks_among c.args.scope.now c.args.at c.args.function [] (args_of c.args.args.now)) (arguments c.args.scope.now c.args.at c.args.function [] (args_of c.args.args.now)) c.from_residual.result c.in_err-before.field-0.0 c.from_residual.ensures.1
    (loop_refused c.args.scope.now c.args.at c.args.function c.args.args.now c.args.found.now c.loop-arg.found c.loop-arg.before c.loop-arg.before c.loop-arg.arg-index c.arg-item.result c.in_err-before.field-0.0 c.loop-arg.invariant (omega arith) c.arg-item.is refl c.in_err-before.ensures.told)

pub arguments::among-loop-arg-preserved : goal.arguments::among-loop-arg-preserved
arguments::among-loop-arg-preserved t c =
    loop_next c.args.scope.now c.args.at c.args.function c.args.args.now c.args.found.now c.loop-arg.found c.with_next.new.found c.loop-arg.before c.loop-arg.before c.in_ok-before.before c.loop-arg.arg-index c.arg-item.result c.loop-arg.invariant (omega arith) c.arg-item.is refl c.in_ok-before.ensures.told c.in_ok-before.ensures.grew

pub arguments::among-returns-clause-told : goal.arguments::among-returns-clause-told
arguments::among-returns-clause-told t c =
    left_end c.args.scope.now c.args.at c.args.function c.args.args.now c.args.found.now c.loop-arg.found c.loop-arg.before (loop_end c.args.scope.now c.args.at c.args.function c.args.args.now c.args.found.now c.loop-arg.found c.loop-arg.before c.loop-arg.arg-index c.loop-arg.invariant (omega arith))

pub arguments::among-returns-clause-grew : goal.arguments::among-returns-clause-grew
arguments::among-returns-clause-grew t c =
    left_grew c.args.scope.now c.args.at c.args.function c.args.args.now c.args.found.now c.loop-arg.found c.loop-arg.before (loop_end c.args.scope.now c.args.at c.args.function c.args.args.now c.args.found.now c.loop-arg.found c.loop-arg.before c.loop-arg.arg-index c.loop-arg.invariant (omega arith))

pub arguments::plain-returns-in_err-demand-in-Column-form-2-clause-told : goal.arguments::plain-returns-in_err-demand-in-Column-form-2-clause-told
arguments::plain-returns-in_err-demand-in-Column-form-2-clause-told t c =
    gives_exit (plain_break (wanted c.args.call.now.function c.args.call.now.before.now) (call_seen c.args.call.now) (tree_of c.args.x.now) (break_of (inside c.args.scope.now c.args.call.now.function c.args.call.now.before.now) (tree_of c.args.x.now))) (plain_argument (wanted c.args.call.now.function c.args.call.now.before.now) (tree_of c.args.x.now) (shape_of (inside c.args.scope.now c.args.call.now.function c.args.call.now.before.now) (tree_of c.args.x.now))) c.from_residual-in_err-demand-in-Column-form-2.result c.in_err-demand-in-Column-form-2.field-0.0 c.from_residual-in_err-demand-in-Column-form-2.ensures.1
    (column_unknown c.args.x.now c.in-Column-form-2.name c.as_slice.result.now (frames_among c.in-Column.frames.now) c.known_in.result (wanted c.args.call.now.function c.args.call.now.before.now) (call_seen c.args.call.now) (break_of (inside c.args.scope.now c.args.call.now.function c.args.call.now.before.now) (tree_of c.args.x.now)) c.in_err-demand-in-Column-form-2.field-0.0 c.in-Column.ensures c.in-Column-form-2.is c.as_slice.ensures c.known_in.ensures c.in_err-demand-in-Column-form-2.ensures)

pub arguments::plain-returns-in_err-demand-in-Column-form-2-2-clause-told : goal.arguments::plain-returns-in_err-demand-in-Column-form-2-2-clause-told
arguments::plain-returns-in_err-demand-in-Column-form-2-2-clause-told t c =
    gives_exit (plain_break (wanted c.args.call.now.function c.args.call.now.before.now) (call_seen c.args.call.now) (tree_of c.args.x.now) (break_of (inside c.args.scope.now c.args.call.now.function c.args.call.now.before.now) (tree_of c.args.x.now))) (plain_argument (wanted c.args.call.now.function c.args.call.now.before.now) (tree_of c.args.x.now) (shape_of (inside c.args.scope.now c.args.call.now.function c.args.call.now.before.now) (tree_of c.args.x.now))) c.from_residual-in_err-demand-in-Column-form-2-2.result c.in_err-demand-in-Column-form-2-2.field-0.0 c.from_residual-in_err-demand-in-Column-form-2-2.ensures.1
    (column_again c.args.x.now c.in-Column-form-2.name c.as_slice.result.now c.as_slice-in-Column-form-2.result.now (frames_among c.in-Column.frames.now) c.known_in.result c.names.result (wanted c.args.call.now.function c.args.call.now.before.now) (call_seen c.args.call.now) (break_of (inside c.args.scope.now c.args.call.now.function c.args.call.now.before.now) (tree_of c.args.x.now)) c.in_err-demand-in-Column-form-2-2.field-0.0 c.in-Column.ensures c.in-Column-form-2.is c.as_slice.ensures c.known_in.ensures c.in_ok-demand-in-Column-form-2.ensures c.as_slice-in-Column-form-2.ensures c.names.ensures c.in_err-demand-in-Column-form-2-2.ensures)

pub arguments::plain-returns-in-Nothing-clause-told : goal.arguments::plain-returns-in-Nothing-clause-told
arguments::plain-returns-in-Nothing-clause-told t c =
    refused_by (plain_break (wanted c.args.call.now.function c.args.call.now.before.now) (call_seen c.args.call.now) (tree_of c.args.x.now) (break_of (inside c.args.scope.now c.args.call.now.function c.args.call.now.before.now) (tree_of c.args.x.now))) c.args.call.now.at WrongType c.broken.result (plain_nothing (wanted c.args.call.now.function c.args.call.now.before.now) (call_seen c.args.call.now) (tree_of c.args.x.now) (break_of (inside c.args.scope.now c.args.call.now.function c.args.call.now.before.now) (tree_of c.args.x.now)) c.in-Nothing.ensures) c.broken.ensures

pub arguments::plain-returns-in_ok-copied_name-in-Text-form-clause-told : goal.arguments::plain-returns-in_ok-copied_name-in-Text-form-clause-told
arguments::plain-returns-in_ok-copied_name-in-Text-form-clause-told t c =
    text_read c.args.x.now c.in-Text-form.text c.in_ok-copied_name-in-Text-form.field-0 (wanted c.args.call.now.function c.args.call.now.before.now) (call_seen c.args.call.now) (break_of (inside c.args.scope.now c.args.call.now.function c.args.call.now.before.now) (tree_of c.args.x.now)) (shape_of (inside c.args.scope.now c.args.call.now.function c.args.call.now.before.now) (tree_of c.args.x.now)) c.in-Text.ensures c.in-Text-form.is c.in_ok-copied_name-in-Text-form.ensures

pub arguments::plain-returns-in_ok-copied_name-in-Text-form-clause-grew : goal.arguments::plain-returns-in_ok-copied_name-in-Text-form-clause-grew
arguments::plain-returns-in_ok-copied_name-in-Text-form-clause-grew t c =
    grew_none c.args.found.now c.add_none.new.self _ _ (text_entries (inside c.args.scope.now c.args.call.now.function c.args.call.now.before.now) c.args.x.now c.in-Text-form.text (wanted c.args.call.now.function c.args.call.now.before.now) c.in-Text.ensures c.in-Text-form.is) (text_files c.args.x.now c.in-Text-form.text c.in-Text-form.is)
    c.in_ok-add_none-in-Text-form.ensures.shapes c.in_ok-add_none-in-Text-form.ensures.reads

pub arguments::plain-returns-in-Column-form-clause-told : goal.arguments::plain-returns-in-Column-form-clause-told
arguments::plain-returns-in-Column-form-clause-told t c =
    refused_by (plain_break (wanted c.args.call.now.function c.args.call.now.before.now) (call_seen c.args.call.now) (tree_of c.args.x.now) (break_of (inside c.args.scope.now c.args.call.now.function c.args.call.now.before.now) (tree_of c.args.x.now))) c.args.x.now.at WrongType c.broken-in-Column-form.result (no_text c.args.x.now c.in-Column-form.field-0 (wanted c.args.call.now.function c.args.call.now.before.now) (call_seen c.args.call.now) (break_of (inside c.args.scope.now c.args.call.now.function c.args.call.now.before.now) (tree_of c.args.x.now)) c.in-Text.ensures c.in-Column-form.is) c.broken-in-Column-form.ensures

pub arguments::plain-returns-in_default-form : goal.arguments::plain-returns-in_default-form
arguments::plain-returns-in_default-form t c =
    let v = value_for_text c.args.x.now (wanted c.args.call.now.function c.args.call.now.before.now) c.in-Text.ensures c.in_default-form.not-Text c.in_default-form.not-Column in record {
      told = gives_as (plain_break (wanted c.args.call.now.function c.args.call.now.before.now) (call_seen c.args.call.now) (tree_of c.args.x.now) (break_of (inside c.args.scope.now c.args.call.now.function c.args.call.now.before.now) (tree_of c.args.x.now))) (break_of (inside c.args.scope.now c.args.call.now.function c.args.call.now.before.now) (tree_of c.args.x.now)) (plain_argument (wanted c.args.call.now.function c.args.call.now.before.now) (tree_of c.args.x.now) (shape_of (inside c.args.scope.now c.args.call.now.function c.args.call.now.before.now) (tree_of c.args.x.now))) (value_or_misfit (shape_of (inside c.args.scope.now c.args.call.now.function c.args.call.now.before.now) (tree_of c.args.x.now))) c.value.result (v.breaks (call_seen c.args.call.now) (break_of (inside c.args.scope.now c.args.call.now.function c.args.call.now.before.now) (tree_of c.args.x.now))) (v.meaning (shape_of (inside c.args.scope.now c.args.call.now.function c.args.call.now.before.now) (tree_of c.args.x.now))) c.value.ensures.told;
      grew = grew_as c.value.result c.args.found.now c.value.new.found _ _ _ _ (v.entries (entries_of (inside c.args.scope.now c.args.call.now.function c.args.call.now.before.now) (tree_of c.args.x.now))) refl c.value.ensures.grew;
    }

pub arguments::plain-returns-in_ok-copied_name-in-Column-form-2-clause-told : goal.arguments::plain-returns-in_ok-copied_name-in-Column-form-2-clause-told
arguments::plain-returns-in_ok-copied_name-in-Column-form-2-clause-told t c =
    column_read c.args.x.now c.in-Column-form-2.name c.in_ok-copied_name-in-Column-form-2.field-0 c.as_slice.result.now c.as_slice-in-Column-form-2.result.now (frames_among c.in-Column.frames.now) c.known_in.result c.names.result (wanted c.args.call.now.function c.args.call.now.before.now) (call_seen c.args.call.now) (break_of (inside c.args.scope.now c.args.call.now.function c.args.call.now.before.now) (tree_of c.args.x.now)) (shape_of (inside c.args.scope.now c.args.call.now.function c.args.call.now.before.now) (tree_of c.args.x.now))
    c.in-Column.ensures c.in-Column-form-2.is c.as_slice.ensures c.known_in.ensures c.in_ok-demand-in-Column-form-2.ensures c.as_slice-in-Column-form-2.ensures c.names.ensures c.in_ok-demand-in-Column-form-2-2.ensures c.in_ok-copied_name-in-Column-form-2.ensures

pub arguments::plain-returns-in_ok-copied_name-in-Column-form-2-clause-grew : goal.arguments::plain-returns-in_ok-copied_name-in-Column-form-2-clause-grew
arguments::plain-returns-in_ok-copied_name-in-Column-form-2-clause-grew t c =
    grew_none c.args.found.now c.add_none-in-Column-form-2.new.self _ _ (column_entries c.args.x.now c.in-Column-form-2.name (frames_among c.in-Column.frames.now) (wanted c.args.call.now.function c.args.call.now.before.now) (entries_of (inside c.args.scope.now c.args.call.now.function c.args.call.now.before.now) (tree_of c.args.x.now)) c.in-Column.ensures c.in-Column-form-2.is) (column_files c.args.x.now c.in-Column-form-2.name c.in-Column-form-2.is)
    c.in_ok-add_none-in-Column-form-2.ensures.shapes c.in_ok-add_none-in-Column-form-2.ensures.reads

pub arguments::plain-returns-in_default-form-2 : goal.arguments::plain-returns-in_default-form-2
arguments::plain-returns-in_default-form-2 t c =
    let v = value_for_column c.args.x.now (frames_among c.in-Column.frames.now) (wanted c.args.call.now.function c.args.call.now.before.now) c.in-Column.ensures c.in_default-form-2.not-Column in record {
      told = gives_as (plain_break (wanted c.args.call.now.function c.args.call.now.before.now) (call_seen c.args.call.now) (tree_of c.args.x.now) (break_of (inside c.args.scope.now c.args.call.now.function c.args.call.now.before.now) (tree_of c.args.x.now))) (break_of (inside c.args.scope.now c.args.call.now.function c.args.call.now.before.now) (tree_of c.args.x.now)) (plain_argument (wanted c.args.call.now.function c.args.call.now.before.now) (tree_of c.args.x.now) (shape_of (inside c.args.scope.now c.args.call.now.function c.args.call.now.before.now) (tree_of c.args.x.now))) (value_or_misfit (shape_of (inside c.args.scope.now c.args.call.now.function c.args.call.now.before.now) (tree_of c.args.x.now))) c.value-in_default-form-2.result (v.breaks (call_seen c.args.call.now) (break_of (inside c.args.scope.now c.args.call.now.function c.args.call.now.before.now) (tree_of c.args.x.now))) (v.meaning (shape_of (inside c.args.scope.now c.args.call.now.function c.args.call.now.before.now) (tree_of c.args.x.now))) c.value-in_default-form-2.ensures.told;
      grew = grew_as c.value-in_default-form-2.result c.args.found.now c.value-in_default-form-2.new.found _ _ _ _ (v.entries (entries_of (inside c.args.scope.now c.args.call.now.function c.args.call.now.before.now) (tree_of c.args.x.now))) refl c.value-in_default-form-2.ensures.grew;
    }

pub arguments::plain-returns-in_default : goal.arguments::plain-returns-in_default
arguments::plain-returns-in_default t c =
    let v = value_for_other c.wanted_by.result (wanted c.args.call.now.function c.args.call.now.before.now) (tree_of c.args.x.now) c.wanted_by.ensures c.in_default.not-Text c.in_default.not-Column c.in_default.not-Nothing in record {
      told = gives_as (plain_break (wanted c.args.call.now.function c.args.call.now.before.now) (call_seen c.args.call.now) (tree_of c.args.x.now) (break_of (inside c.args.scope.now c.args.call.now.function c.args.call.now.before.now) (tree_of c.args.x.now))) (break_of (inside c.args.scope.now c.args.call.now.function c.args.call.now.before.now) (tree_of c.args.x.now)) (plain_argument (wanted c.args.call.now.function c.args.call.now.before.now) (tree_of c.args.x.now) (shape_of (inside c.args.scope.now c.args.call.now.function c.args.call.now.before.now) (tree_of c.args.x.now))) (value_or_misfit (shape_of (inside c.args.scope.now c.args.call.now.function c.args.call.now.before.now) (tree_of c.args.x.now))) c.value-in_default.result (v.breaks (call_seen c.args.call.now) (break_of (inside c.args.scope.now c.args.call.now.function c.args.call.now.before.now) (tree_of c.args.x.now))) (v.meaning (shape_of (inside c.args.scope.now c.args.call.now.function c.args.call.now.before.now) (tree_of c.args.x.now))) c.value-in_default.ensures.told;
      grew = grew_as c.value-in_default.result c.args.found.now c.value-in_default.new.found _ _ _ _ (v.entries (entries_of (inside c.args.scope.now c.args.call.now.function c.args.call.now.before.now) (tree_of c.args.x.now))) refl c.value-in_default.ensures.grew;
    }

pub arguments::range-returns-in_default : goal.arguments::range-returns-in_default
arguments::range-returns-in_default t c =
    record { told = refused_by (range_break (wanted c.args.call.now.function c.args.call.now.before.now) c.args.call.now.at (option_or (break_of c.args.scope.now (tree_of c.args.first.now)) (break_of c.args.scope.now (tree_of c.args.last.now)))) c.args.call.now.at WrongType c.broken.result (no_range c.wanted_by.result (wanted c.args.call.now.function c.args.call.now.before.now) c.args.call.now.at (option_or (break_of c.args.scope.now (tree_of c.args.first.now)) (break_of c.args.scope.now (tree_of c.args.last.now))) c.wanted_by.ensures c.in_default.not-Interval) c.broken.ensures; grew = tt }

pub arguments::range-returns-in_err-a-clause-told : goal.arguments::range-returns-in_err-a-clause-told
arguments::range-returns-in_err-a-clause-told t c =
    gives_exit (range_break (wanted c.args.call.now.function c.args.call.now.before.now) c.args.call.now.at (option_or (break_of c.args.scope.now (tree_of c.args.first.now)) (break_of c.args.scope.now (tree_of c.args.last.now)))) (range_argument (shape_of c.args.scope.now (tree_of c.args.first.now)) (shape_of c.args.scope.now (tree_of c.args.last.now))) c.from_residual.result c.in_err-a.field-0.0 c.from_residual.ensures.1
    (refused_as _ _ c.in_err-a.field-0.0 (range_meant (wanted c.args.call.now.function c.args.call.now.before.now) c.args.call.now.at (option_or (break_of c.args.scope.now (tree_of c.args.first.now)) (break_of c.args.scope.now (tree_of c.args.last.now))) c.in-Interval.ensures) (refused_first (break_of c.args.scope.now (tree_of c.args.first.now)) (break_of c.args.scope.now (tree_of c.args.last.now)) c.in_err-a.field-0.0 c.in_err-a.ensures.told))

pub arguments::range-returns-in_err-b-clause-told : goal.arguments::range-returns-in_err-b-clause-told
arguments::range-returns-in_err-b-clause-told t c =
    gives_exit (range_break (wanted c.args.call.now.function c.args.call.now.before.now) c.args.call.now.at (option_or (break_of c.args.scope.now (tree_of c.args.first.now)) (break_of c.args.scope.now (tree_of c.args.last.now)))) (range_argument (shape_of c.args.scope.now (tree_of c.args.first.now)) (shape_of c.args.scope.now (tree_of c.args.last.now))) c.from_residual-in_err-b.result c.in_err-b.field-0.0 c.from_residual-in_err-b.ensures.1
    (refused_as _ _ c.in_err-b.field-0.0 (range_meant (wanted c.args.call.now.function c.args.call.now.before.now) c.args.call.now.at (option_or (break_of c.args.scope.now (tree_of c.args.first.now)) (break_of c.args.scope.now (tree_of c.args.last.now))) c.in-Interval.ensures) (refused_next (break_of c.args.scope.now (tree_of c.args.first.now)) (break_of c.args.scope.now (tree_of c.args.last.now)) c.in_err-b.field-0.0 c.in_ok-a.ensures.told.0 c.in_err-b.ensures.told))

pub arguments::range-returns-clause-told : goal.arguments::range-returns-clause-told
arguments::range-returns-clause-told t c = (
  (range_meant (wanted c.args.call.now.function c.args.call.now.before.now) c.args.call.now.at (option_or (break_of c.args.scope.now (tree_of c.args.first.now)) (break_of c.args.scope.now (tree_of c.args.last.now))) c.in-Interval.ensures) ∙ both_pass (break_of c.args.scope.now (tree_of c.args.first.now)) (break_of c.args.scope.now (tree_of c.args.last.now)) c.in_ok-a.ensures.told.0 c.in_ok-b.ensures.told.0,
  rw (c.in_ok-a.ensures.told.1, c.in_ok-b.ensures.told.1) (sym c.interval_of.ensures),
)

pub arguments::named-returns-then-is_measure-clause-told : goal.arguments::named-returns-then-is_measure-clause-told
arguments::named-returns-then-is_measure-clause-told t c =
    gives_as (named_break (wanted c.args.call.now.function c.args.call.now.before.now) (call_seen c.args.call.now) c.args.name.now.bytes c.args.place (tree_of c.args.x.now) (break_of (inside c.args.scope.now c.args.call.now.function c.args.call.now.before.now) (tree_of c.args.x.now))) (option_or (measure_break (frames_among c.in-Measure.frames.now) (tree_of c.args.x.now)) (new_break c.args.place c.args.name.now.bytes c.args.call.now.before.now)) (named_argument (wanted c.args.call.now.function c.args.call.now.before.now) c.args.name.now.bytes (tree_of c.args.x.now) (shape_of (inside c.args.scope.now c.args.call.now.function c.args.call.now.before.now) (tree_of c.args.x.now))) (Measure c.args.name.now) c.measure.result
    (measure_tests (wanted c.args.call.now.function c.args.call.now.before.now) (frames_among c.in-Measure.frames.now) (call_seen c.args.call.now) c.args.name.now.bytes c.args.place (tree_of c.args.x.now) (break_of (inside c.args.scope.now c.args.call.now.function c.args.call.now.before.now) (tree_of c.args.x.now)) c.in-Measure.ensures (sym c.is_measure.ensures ∙ c.if-is_measure.true)) (measure_is (wanted c.args.call.now.function c.args.call.now.before.now) (frames_among c.in-Measure.frames.now) c.args.name.now (tree_of c.args.x.now) (shape_of (inside c.args.scope.now c.args.call.now.function c.args.call.now.before.now) (tree_of c.args.x.now)) c.in-Measure.ensures (sym c.is_measure.ensures ∙ c.if-is_measure.true)) c.measure.ensures.told

pub arguments::named-returns-then-is_measure-clause-grew : goal.arguments::named-returns-then-is_measure-clause-grew
arguments::named-returns-then-is_measure-clause-grew t c =
    grew_as c.measure.result c.args.found.now c.measure.new.found _ (no_shapes (tree_of c.args.x.now)) _ [] (measure_entries (wanted c.args.call.now.function c.args.call.now.before.now) (frames_among c.in-Measure.frames.now) (tree_of c.args.x.now) (entries_of (inside c.args.scope.now c.args.call.now.function c.args.call.now.before.now) (tree_of c.args.x.now)) c.in-Measure.ensures (sym c.is_measure.ensures ∙ c.if-is_measure.true)) (measure_files (tree_of c.args.x.now) (sym c.is_measure.ensures ∙ c.if-is_measure.true)) c.measure.ensures.grew

pub arguments::named-returns-in_ok-shape-in-Given-clause-told : goal.arguments::named-returns-in_ok-shape-in-Given-clause-told
arguments::named-returns-in_ok-shape-in-Given-clause-told t c =
    given_tested (wanted c.args.call.now.function c.args.call.now.before.now) (call_seen c.args.call.now) c.args.name.now c.args.place (tree_of c.args.x.now) (break_of (inside c.args.scope.now c.args.call.now.function c.args.call.now.before.now) (tree_of c.args.x.now)) (shape_of (inside c.args.scope.now c.args.call.now.function c.args.call.now.before.now) (tree_of c.args.x.now)) c.in_ok-shape-in-Given.shape c.given.result (given_meant (wanted c.args.call.now.function c.args.call.now.before.now) (tree_of c.args.x.now) c.in-Given.ensures) c.in_ok-shape-in-Given.ensures.told c.given.ensures

pub arguments::named-returns-in_ok-shape-in-Given-clause-grew : goal.arguments::named-returns-in_ok-shape-in-Given-clause-grew
arguments::named-returns-in_ok-shape-in-Given-clause-grew t c =
    let g = (given_meant (wanted c.args.call.now.function c.args.call.now.before.now) (tree_of c.args.x.now) c.in-Given.ensures) in grew_always c.given.result c.args.found.now c.operand.new.found _ (entries_of (inside c.args.scope.now c.args.call.now.function c.args.call.now.before.now) (tree_of c.args.x.now)) (files_in (tree_of c.args.x.now)) (g.entries (entries_of (inside c.args.scope.now c.args.call.now.function c.args.call.now.before.now) (tree_of c.args.x.now))) c.in_ok-shape-in-Given.ensures.grew

pub arguments::named-returns-in_err-shape-in-Measure-clause-told : goal.arguments::named-returns-in_err-shape-in-Measure-clause-told
arguments::named-returns-in_err-shape-in-Measure-clause-told t c =
    gives_exit (named_break (wanted c.args.call.now.function c.args.call.now.before.now) (call_seen c.args.call.now) c.args.name.now.bytes c.args.place (tree_of c.args.x.now) (break_of (inside c.args.scope.now c.args.call.now.function c.args.call.now.before.now) (tree_of c.args.x.now))) (named_argument (wanted c.args.call.now.function c.args.call.now.before.now) c.args.name.now.bytes (tree_of c.args.x.now) (shape_of (inside c.args.scope.now c.args.call.now.function c.args.call.now.before.now) (tree_of c.args.x.now))) c.from_residual-in_err-shape-in-Measure.result c.in_err-shape-in-Measure.field-0.0 c.from_residual-in_err-shape-in-Measure.ensures.1
    (given_refused (wanted c.args.call.now.function c.args.call.now.before.now) (call_seen c.args.call.now) c.args.name.now.bytes c.args.place (tree_of c.args.x.now) (break_of (inside c.args.scope.now c.args.call.now.function c.args.call.now.before.now) (tree_of c.args.x.now)) c.in_err-shape-in-Measure.field-0.0 (measure_meant (wanted c.args.call.now.function c.args.call.now.before.now) (frames_among c.in-Measure.frames.now) (tree_of c.args.x.now) c.in-Measure.ensures (sym c.is_measure.ensures ∙ c.if-is_measure.false)) c.in_err-shape-in-Measure.ensures.told)

pub arguments::named-returns-in_ok-shape-in-Measure-clause-told : goal.arguments::named-returns-in_ok-shape-in-Measure-clause-told
arguments::named-returns-in_ok-shape-in-Measure-clause-told t c =
    given_tested (wanted c.args.call.now.function c.args.call.now.before.now) (call_seen c.args.call.now) c.args.name.now c.args.place (tree_of c.args.x.now) (break_of (inside c.args.scope.now c.args.call.now.function c.args.call.now.before.now) (tree_of c.args.x.now)) (shape_of (inside c.args.scope.now c.args.call.now.function c.args.call.now.before.now) (tree_of c.args.x.now)) c.in_ok-shape-in-Measure.shape c.given-in-Measure.result (measure_meant (wanted c.args.call.now.function c.args.call.now.before.now) (frames_among c.in-Measure.frames.now) (tree_of c.args.x.now) c.in-Measure.ensures (sym c.is_measure.ensures ∙ c.if-is_measure.false)) c.in_ok-shape-in-Measure.ensures.told c.given-in-Measure.ensures

pub arguments::named-returns-in_ok-shape-in-Measure-clause-grew : goal.arguments::named-returns-in_ok-shape-in-Measure-clause-grew
arguments::named-returns-in_ok-shape-in-Measure-clause-grew t c =
    let g = (measure_meant (wanted c.args.call.now.function c.args.call.now.before.now) (frames_among c.in-Measure.frames.now) (tree_of c.args.x.now) c.in-Measure.ensures (sym c.is_measure.ensures ∙ c.if-is_measure.false)) in grew_always c.given-in-Measure.result c.args.found.now c.operand-in-Measure.new.found _ (entries_of (inside c.args.scope.now c.args.call.now.function c.args.call.now.before.now) (tree_of c.args.x.now)) (files_in (tree_of c.args.x.now)) (g.entries (entries_of (inside c.args.scope.now c.args.call.now.function c.args.call.now.before.now) (tree_of c.args.x.now))) c.in_ok-shape-in-Measure.ensures.grew

pub arguments::operand-returns-in_ok-inner-in-Filter-clause-told : goal.arguments::operand-returns-in_ok-inner-in-Filter-clause-told
arguments::operand-returns-in_ok-inner-in-Filter-clause-told t c =
    told_inside (inside c.args.scope.now c.args.call.now.function c.args.call.now.before.now) c.in_ok-inner-in-Filter.inner (tree_of c.args.x.now) c.expression.result (inside_mask c.args.scope.now c.in_ok-inner-in-Filter.inner c.args.call.now.function c.args.call.now.before.now c.is_empty.result _ c.in-Filter.is c.is_empty.ensures c.if-not-is_empty.true c.columns_for_mask.ensures c.in_ok-inner-in-Filter.ensures) c.expression.ensures.told

pub arguments::operand-returns-in_ok-inner-in-Filter-clause-grew : goal.arguments::operand-returns-in_ok-inner-in-Filter-clause-grew
arguments::operand-returns-in_ok-inner-in-Filter-clause-grew t c =
    grew_inside (inside c.args.scope.now c.args.call.now.function c.args.call.now.before.now) c.in_ok-inner-in-Filter.inner (tree_of c.args.x.now) c.args.found.now c.expression.new.found (files_in (tree_of c.args.x.now)) c.expression.result (inside_mask c.args.scope.now c.in_ok-inner-in-Filter.inner c.args.call.now.function c.args.call.now.before.now c.is_empty.result _ c.in-Filter.is c.is_empty.ensures c.if-not-is_empty.true c.columns_for_mask.ensures c.in_ok-inner-in-Filter.ensures) c.expression.ensures.grew

pub arguments::operand-returns-in_default-clause-told : goal.arguments::operand-returns-in_default-clause-told
arguments::operand-returns-in_default-clause-told t c =
    let i : inside c.args.scope.now c.args.call.now.function c.args.call.now.before.now ≡ c.args.scope.now = elim c.in_default.branch [ arguments::operand-in_default-via-in-Filter+else-not-is_empty w ↦ inside_first c.args.scope.now c.args.call.now.function c.args.call.now.before.now w.is_empty.result w.in-Filter.is w.is_empty.ensures w.if-not-is_empty.false | arguments::operand-in_default-via-in_default w ↦ inside_other c.args.scope.now c.args.call.now.function c.args.call.now.before.now w.in_default.not-Filter ] in
    told_inside (inside c.args.scope.now c.args.call.now.function c.args.call.now.before.now) c.args.scope.now (tree_of c.args.x.now) c.expression-in_default.result i c.expression-in_default.ensures.told

pub arguments::operand-returns-in_default-clause-grew : goal.arguments::operand-returns-in_default-clause-grew
arguments::operand-returns-in_default-clause-grew t c =
    let i : inside c.args.scope.now c.args.call.now.function c.args.call.now.before.now ≡ c.args.scope.now = elim c.in_default.branch [ arguments::operand-in_default-via-in-Filter+else-not-is_empty w ↦ inside_first c.args.scope.now c.args.call.now.function c.args.call.now.before.now w.is_empty.result w.in-Filter.is w.is_empty.ensures w.if-not-is_empty.false | arguments::operand-in_default-via-in_default w ↦ inside_other c.args.scope.now c.args.call.now.function c.args.call.now.before.now w.in_default.not-Filter ] in
    grew_inside (inside c.args.scope.now c.args.call.now.function c.args.call.now.before.now) c.args.scope.now (tree_of c.args.x.now) c.args.found.now c.expression-in_default.new.found (files_in (tree_of c.args.x.now)) c.expression-in_default.result i c.expression-in_default.ensures.grew

pub arguments::arguments-returns-in-Map-clause-told : goal.arguments::arguments-returns-in-Map-clause-told
arguments::arguments-returns-in-Map-clause-told t c = map_told c.args.scope.now c.args.at c.args.function (args_of c.args.args.now) c.array_first.result c.in-Map.is c.array_first.ensures.told

pub arguments::arguments-returns-in-Map-clause-grew : goal.arguments::arguments-returns-in-Map-clause-grew
arguments::arguments-returns-in-Map-clause-grew t c = map_added c.args.scope.now c.args.at c.args.function (args_of c.args.args.now) c.args.found.now c.array_first.new.found c.array_first.result (files_among (args_of c.args.args.now)) c.in-Map.is c.array_first.ensures.grew

pub arguments::arguments-returns-in_default-clause-told : goal.arguments::arguments-returns-in_default-clause-told
arguments::arguments-returns-in_default-clause-told t c = text_told c.args.scope.now c.args.at c.args.function (args_of c.args.args.now) c.among.result c.in_default.not-Map c.among.ensures.told

pub arguments::arguments-returns-in_default-clause-grew : goal.arguments::arguments-returns-in_default-clause-grew
arguments::arguments-returns-in_default-clause-grew t c = text_added c.args.scope.now c.args.at c.args.function (args_of c.args.args.now) c.args.found.now c.among.new.found c.among.result (files_among (args_of c.args.args.now)) c.in_default.not-Map c.among.ensures.grew
