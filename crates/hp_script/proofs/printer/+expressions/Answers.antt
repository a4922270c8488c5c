-- What is added by one call after the other is the text of the form.
use Rattle.std.proofs.Common.{append_assoc, append-nil, sym, ◌∙◌, ◌++◌, ◌∷◌, [], ◌+◌, ap, ℕ, List, Vec, Global}
use Rattle.hp_script.specs.Mirror.{tree_of, args_of}
use Rattle.hp_script.specs.Printing.{bracketed, text_in, text_among}
use Rattle.hp_script.proofs.PrintLemmas.{added, text_column, text_field, text_unary, text_binary, text_index, text_call, text_range, text_lambda, text_named, no_arguments, first_argument, next_argument}
use Rattle.hp_script.proofs.printer.+expressions.Goals as goal
use Rattle.hp_script.proofs.printer.+expressions.Goals.{add_args-then-i-gt0+in_ok-add, add_args-else-i-gt0}

pub add_expr-returns-in_ok-add-in-Column : goal.add_expr-returns-in_ok-add-in-Column
add_expr-returns-in_ok-add-in-Column t c =
    added c.add-in-Column-2.result c.args.out.now.items c.add-in-Column.new.out.items c.add-in-Column-2.new.out.items (c.as_slice-in-Column-2.result.now) (text_in (tree_of c.args.x.now))
    (λ last. simp (last, c.in_ok-add-in-Column.ensures, c.as_slice-in-Column.ensures, c.as_slice-in-Column-2.ensures, text_column c.args.x.now c.in-Column.name c.in-Column.is, append_assoc)) c.add-in-Column-2.ensures

pub add_expr-returns-in_ok-add-in-Field-2 : goal.add_expr-returns-in_ok-add-in-Field-2
add_expr-returns-in_ok-add-in-Field-2 t c =
    added c.add-in-Field-3.result c.args.out.now.items c.add-in-Field-2.new.out.items c.add-in-Field-3.new.out.items (c.as_slice-in-Field-3.result.now) (text_in (tree_of c.args.x.now))
    (λ last. simp (last, c.in_ok-add-in-Field-2.ensures, c.in_ok-add-in-Field.ensures, c.as_slice-in-Field.ensures, c.as_slice-in-Field-2.ensures, c.as_slice-in-Field-3.ensures, text_field c.args.x.now c.in-Field.name c.in-Field.column c.in-Field.is, append_assoc)) c.add-in-Field-3.ensures

pub add_expr-returns-in_ok-add-in-Unary-2 : goal.add_expr-returns-in_ok-add-in-Unary-2
add_expr-returns-in_ok-add-in-Unary-2 t c =
    added c.add_operand.result c.args.out.now.items c.add-in-Unary-2.new.out.items c.add_operand.new.out.items (bracketed 5 (tree_of c.get.result.now) (text_in (tree_of c.get.result.now))) (text_in (tree_of c.args.x.now))
    (λ last. simp (last, c.in_ok-add-in-Unary-2.ensures, c.in_ok-add-in-Unary.ensures, c.dot.ensures, c.unary_symbol.ensures, c.get.ensures, text_unary c.args.x.now c.in-Unary.op c.in-Unary.dotted c.in-Unary.operand c.in-Unary.is, append_assoc)) c.add_operand.ensures

pub add_expr-returns-in_ok-add_args-in-Call : goal.add_expr-returns-in_ok-add_args-in-Call
add_expr-returns-in_ok-add_args-in-Call t c =
    added c.add-in-Call-4.result c.args.out.now.items c.add_args.new.out.items c.add-in-Call-4.new.out.items (c.as_slice-in-Call-4.result.now) (text_in (tree_of c.args.x.now))
    (λ last. simp (last, c.in_ok-add_args-in-Call.ensures, c.in_ok-add-in-Call-3.ensures, c.in_ok-add-in-Call-2.ensures, c.in_ok-add-in-Call.ensures, c.as_slice-in-Call.ensures, c.dot-in-Call.ensures, c.as_slice-in-Call-2.ensures, c.as_slice-in-Call-3.ensures, c.as_slice-in-Call-4.ensures, text_call c.args.x.now c.in-Call.function c.in-Call.dotted c.in-Call.args c.in-Call.is, append_assoc)) c.add-in-Call-4.ensures

pub add_expr-returns-in_ok-add_expr-in-Index : goal.add_expr-returns-in_ok-add_expr-in-Index
add_expr-returns-in_ok-add_expr-in-Index t c =
    added c.add-in-Index-2.result c.args.out.now.items c.add_expr.new.out.items c.add-in-Index-2.new.out.items (c.as_slice-in-Index-2.result.now) (text_in (tree_of c.args.x.now))
    (λ last. simp (last, c.in_ok-add_expr-in-Index.ensures, c.in_ok-add-in-Index.ensures, c.in_ok-add_operand-in-Index.ensures, c.get-in-Index.ensures, c.as_slice-in-Index.ensures, c.get-in-Index-2.ensures, c.as_slice-in-Index-2.ensures, text_index c.args.x.now c.in-Index.indexed c.in-Index.index c.in-Index.is, append_assoc)) c.add-in-Index-2.ensures

pub add_expr-returns-in_ok-add_operator-in-Binary : goal.add_expr-returns-in_ok-add_operator-in-Binary
add_expr-returns-in_ok-add_operator-in-Binary t c =
    added c.add_operand-in-Binary-2.result c.args.out.now.items c.add_operator.new.out.items c.add_operand-in-Binary-2.new.out.items (bracketed (c.rank.result + 1) (tree_of c.get-in-Binary-2.result.now) (text_in (tree_of c.get-in-Binary-2.result.now))) (text_in (tree_of c.args.x.now))
    (λ last. simp (last, c.in_ok-add_operator-in-Binary.ensures, c.in_ok-add_operand-in-Binary.ensures, c.get-in-Binary.ensures, c.get-in-Binary-2.ensures, c.left_rank.ensures, c.rank.ensures.value, c.level-level.ensures, text_binary c.args.x.now c.in-Binary.op c.in-Binary.dotted c.in-Binary.left c.in-Binary.right c.in-Binary.is, append_assoc)) c.add_operand-in-Binary-2.ensures

pub add_arg-returns-in_ok-add-in-Lambda-2 : goal.add_arg-returns-in_ok-add-in-Lambda-2
add_arg-returns-in_ok-add-in-Lambda-2 t c =
    added c.add_expr-in-Lambda.result c.args.out.now.items c.add-in-Lambda-2.new.out.items c.add_expr-in-Lambda.new.out.items (text_in (tree_of c.in-Lambda.x)) (text_among (args_of (c.args.arg.now ∷ [])))
    (λ last. simp (last, c.in_ok-add-in-Lambda-2.ensures, c.in_ok-add-in-Lambda.ensures, c.as_slice-in-Lambda.ensures, c.as_slice-in-Lambda-2.ensures, text_lambda c.args.arg.now c.in-Lambda.parameter c.in-Lambda.x c.in-Lambda.is, append_assoc)) c.add_expr-in-Lambda.ensures

pub add_arg-returns-in_ok-add-in-Named-2 : goal.add_arg-returns-in_ok-add-in-Named-2
add_arg-returns-in_ok-add-in-Named-2 t c =
    added c.add_expr-in-Named.result c.args.out.now.items c.add-in-Named-2.new.out.items c.add_expr-in-Named.new.out.items (text_in (tree_of c.in-Named.x)) (text_among (args_of (c.args.arg.now ∷ [])))
    (λ last. simp (last, c.in_ok-add-in-Named-2.ensures, c.in_ok-add-in-Named.ensures, c.as_slice-in-Named.ensures, c.as_slice-in-Named-2.ensures, text_named c.args.arg.now c.in-Named.name c.in-Named.field-1 c.in-Named.x c.in-Named.is, append_assoc)) c.add_expr-in-Named.ensures

pub add_arg-returns-in_ok-add-in-Range : goal.add_arg-returns-in_ok-add-in-Range
add_arg-returns-in_ok-add-in-Range t c =
    added c.add_expr-in-Range-2.result c.args.out.now.items c.add.new.out.items c.add_expr-in-Range-2.new.out.items (text_in (tree_of c.in-Range.last)) (text_among (args_of (c.args.arg.now ∷ [])))
    (λ last. simp (last, c.in_ok-add-in-Range.ensures, c.in_ok-add_expr-in-Range.ensures, c.as_slice.ensures, text_range c.args.arg.now c.in-Range.first c.in-Range.last c.in-Range.is, append_assoc)) c.add_expr-in-Range-2.ensures

pub add_args-loop-i-init : goal.add_args-loop-i-init
add_args-loop-i-init t c = rw no_arguments (sym (append-nil c.args.out.now.items))

pub add_args-loop-i-preserved : goal.add_args-loop-i-preserved
add_args-loop-i-preserved t c =
    elim c.if-i-gt0.branch [
      | add_args-then-i-gt0+in_ok-add w ↦ next_argument c.args.out.now.items c.loop-i.out.items w.add.new.out.items c.add_arg.new.out.items c.args.args.now c.loop-i.i c.index-args-i.result
          w.if-i-gt0.true c.loop-i-test.true c.index-args-i.is c.loop-i.invariant (w.in_ok-add.ensures ∙ ap (λ (t : List ℕ). c.loop-i.out.items ++ t) w.as_slice.ensures)
          (c.in_ok-add_arg.ensures ∙ ap (λ (v : Vec ℕ Global). v.items ++ text_among (args_of (c.index-args-i.result ∷ []))) w.out-is)
      | add_args-else-i-gt0 w ↦ first_argument c.args.out.now.items c.loop-i.out.items c.add_arg.new.out.items c.args.args.now c.loop-i.i c.index-args-i.result
          w.if-i-gt0.false c.loop-i-test.true c.index-args-i.is c.loop-i.invariant
          (c.in_ok-add_arg.ensures ∙ ap (λ (v : Vec ℕ Global). v.items ++ text_among (args_of (c.index-args-i.result ∷ []))) w.out-is)
    ]
