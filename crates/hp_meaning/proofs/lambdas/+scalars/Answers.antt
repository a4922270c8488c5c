-- A body gives what its form does, after its operands; the first operand that has no value stops it.
use Rattle.std.proofs.Common.{◌≡◌, rules}
use Rattle.std.proofs.lemmas.Result.{err_from_is_err_and}
use Rattle.hp_script.specs.declared.function.Function.TheVariants.{Scalar}
use Rattle.hp_meaning.specs.HeldValues.{inside_in}
use Rattle.hp_meaning.proofs.LambdaLemmas.{unary_halts, unary_goes, binary_halts, binary_goes, operated_lazily, operated_halts, operated_goes, index_goes, call_goes, call_first, call_second, call_made, call_others}
use Rattle.hp_meaning.proofs.lambdas.+scalars.Goals as goal

pub call_value-returns-in_err-a : goal.call_value-returns-in_err-a
call_value-returns-in_err-a t c =
    let p = err_from_is_err_and c.from_residual.result c.from_residual.ensures.1 in
    let is_scalar : c.in-Some-Scalar.field-0 ≡ Scalar c.in-Some-Scalar.called = search rules in
    rw (p.1, p.2) (call_first c.args.function c.in-Some-Scalar.field-0 c.in-Some-Scalar.called c.args.dotted c.args.at c.args.args.now c.index-args-0.result (inside_in c.args.inside) c.in_err-a.field-0.0
    c.in-Some-Scalar.is is_scalar c.if-dotted.false c.if-args-ne2.false c.index-args-0.is c.in_err-a.ensures)

pub call_value-returns-in_err-b : goal.call_value-returns-in_err-b
call_value-returns-in_err-b t c =
    let p = err_from_is_err_and c.from_residual-in_err-b.result c.from_residual-in_err-b.ensures.1 in
    let is_scalar : c.in-Some-Scalar.field-0 ≡ Scalar c.in-Some-Scalar.called = search rules in
    rw (p.1, p.2) (call_second c.args.function c.in-Some-Scalar.field-0 c.in-Some-Scalar.called c.args.dotted c.args.at c.args.args.now c.index-args-0.result c.index-args-1.result (inside_in c.args.inside) c.in_ok-a.a c.in_err-b.field-0.0
    c.in-Some-Scalar.is is_scalar c.if-dotted.false c.if-args-ne2.false c.index-args-0.is c.index-args-1.is c.in_ok-a.ensures c.in_err-b.ensures)

pub call_value-returns-then-args-ne2 : goal.call_value-returns-then-args-ne2
call_value-returns-then-args-ne2 t c = search (rules, call_others)

pub call_value-returns : goal.call_value-returns
call_value-returns t c = search (rules, call_made)

pub scalar-returns-in_err-a-in-Unary : goal.scalar-returns-in_err-a-in-Unary
scalar-returns-in_err-a-in-Unary t c =
    let p = err_from_is_err_and c.from_residual.result c.from_residual.ensures.1 in
    rw (p.1, p.2) (unary_halts c.args.x.now c.get.result.now c.in-Unary.operand c.in-Unary.op c.in-Unary.dotted (inside_in c.args.inside) c.in_err-a-in-Unary.field-0.0 c.in-Unary.is c.get.ensures c.in_err-a-in-Unary.ensures)

pub scalar-returns-in_ok-a-in-Unary : goal.scalar-returns-in_ok-a-in-Unary
scalar-returns-in_ok-a-in-Unary t c = search (rules, unary_goes)

pub scalar-returns-in_err-a-in-Binary : goal.scalar-returns-in_err-a-in-Binary
scalar-returns-in_err-a-in-Binary t c =
    let p = err_from_is_err_and c.from_residual-in_err-a-in-Binary.result c.from_residual-in_err-a-in-Binary.ensures.1 in
    rw (p.1, p.2) (binary_halts c.args.x.now c.get-in-Binary.result.now c.in-Binary.left c.in-Binary.right c.in-Binary.op c.in-Binary.dotted (inside_in c.args.inside) c.in_err-a-in-Binary.field-0.0 c.in-Binary.is c.if-dotted.false c.get-in-Binary.ensures c.in_err-a-in-Binary.ensures)

pub scalar-returns-in_ok-a-in-Binary : goal.scalar-returns-in_ok-a-in-Binary
scalar-returns-in_ok-a-in-Binary t c = search (rules, binary_goes)

pub operator_value-returns-then-is_lazy : goal.operator_value-returns-then-is_lazy
operator_value-returns-then-is_lazy t c = search (rules, operated_lazily)

pub operator_value-returns-in_err-b : goal.operator_value-returns-in_err-b
operator_value-returns-in_err-b t c =
    let p = err_from_is_err_and c.from_residual.result c.from_residual.ensures.1 in
    rw (p.1, p.2) (operated_halts c.args.at c.args.op _ _ c.in_err-b.field-0.0 c.if-is_lazy.ensures c.in_err-b.ensures)

pub operator_value-returns : goal.operator_value-returns
operator_value-returns t c = search (rules, operated_goes)

pub scalar-returns-in-Index : goal.scalar-returns-in-Index
scalar-returns-in-Index t c = search (rules, index_goes)

pub scalar-returns-in-Call : goal.scalar-returns-in-Call
scalar-returns-in-Call t c = search (rules, call_goes)
