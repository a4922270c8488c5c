-- A body is an element where its parts are.
use Rattle.std.proofs.Common.{rules, ◌≡◌, ℕ, ℤ, List, [], ◌∷◌, ap, ◌∙◌, FitsSigned, w64}
use Rattle.std.proofs.lemmas.Int.{to_z-of_z}
use Rattle.hp_script.specs.declared.function.Function.TheVariants.{Scalar}
use Rattle.hp_script.specs.Functions.{function_named}
use Rattle.hp_script.specs.Mirror.{tree_of, args_of}
use Rattle.hp_meaning.specs.Elements.{inside_at}
use Rattle.hp_meaning.specs.LambdaRules.{argument_value, scalar}
use Rattle.hp_meaning.proofs.ElementLemmas.{found_is, part_is, literal_element, truth_element, variable_element, argument_element, unary_element, binary_element, index_element, call_element, operation_element}
use Rattle.hp_meaning.proofs.elements.+elements.Goals as goal

pub argument-returns-in-Plain : goal.argument-returns-in-Plain
argument-returns-in-Plain t c = argument_element c.args.arg.now c.in-Plain.x c.args.binding c.element.result c.in-Plain.is c.element.ensures

pub call-returns : goal.call-returns
call-returns t c =
    let binding = c.args.binding in
    let f = λ (xs : List ℤ) (i : ℕ). argument_value (args_of (c.index-args-0.result ∷ [])) (inside_at binding xs i) in
    let g = λ (xs : List ℤ) (i : ℕ). argument_value (args_of (c.index-args-1.result ∷ [])) (inside_at binding xs i) in
    let is_scalar : c.in-Some-Scalar.field-0 ≡ Scalar c.in-Some-Scalar.called = search rules in
    let made = rw (c.scalar_calc.ensures) at c.calculation.ensures in
    operation_element c.args.function c.in-Some-Scalar.field-0 c.in-Some-Scalar.called c.args.dotted c.args.at c.args.args.now c.index-args-0.result c.index-args-1.result binding c.calculation.result
    c.in-Some-Scalar.is is_scalar c.if-dotted.false c.if-args-ne2.false c.index-args-0.is c.index-args-1.is
    (made f g (found_is f c.in_ok-a.field-0 c.in-Some.a c.in-Some.is c.in_ok-a.ensures) (found_is g c.in_ok-b.field-0 c.in-Some-2.b c.in-Some-2.is c.in_ok-b.ensures))

pub element-returns-in-Number : goal.element-returns-in-Number
element-returns-in-Number t c =
    let fits : FitsSigned w64 c.in-Number.value = search rules in
    let made = rw (to_z-of_z w64 c.in-Number.value fits) at c.constant.ensures in
    literal_element c.args.x.now c.in-Number.value c.args.binding c.constant.result c.in-Number.is made

pub element-returns-in-Truth : goal.element-returns-in-Truth
element-returns-in-Truth t c =
    let fits : FitsSigned w64 c.word_of.result = search rules in
    let made = rw (to_z-of_z w64 c.word_of.result fits) at c.constant-in-Truth.ensures in
    truth_element c.args.x.now c.in-Truth.holds c.word_of.result c.args.binding c.constant-in-Truth.result c.in-Truth.is c.word_of.ensures made

pub element-returns-in-Name : goal.element-returns-in-Name
element-returns-in-Name t c =
    let made = rw (c.as_slice.ensures) at c.name_element.ensures in
    variable_element c.args.x.now c.in-Name.name c.args.binding c.name_element.result c.in-Name.is made

pub element-returns-in-Some : goal.element-returns-in-Some
element-returns-in-Some t c =
    let binding = c.args.binding in
    let a = part_is c.in-Unary.operand c.get.result.now binding c.in_ok-a-in-Unary.field-0 c.in-Some.a c.get.ensures c.in-Some.is c.in_ok-a-in-Unary.ensures in
    unary_element c.args.x.now c.in-Unary.operand c.in-Unary.op c.in-Unary.dotted binding c.opposite.result c.in-Unary.is (c.opposite.ensures (λ xs i. scalar (tree_of c.in-Unary.operand) (inside_at binding xs i)) a)

pub element-returns-in-Some-3 : goal.element-returns-in-Some-3
element-returns-in-Some-3 t c =
    let binding = c.args.binding in
    let a = part_is c.in-Binary.left c.get-in-Binary.result.now binding c.in_ok-a-in-Binary.field-0 c.in-Some-2.a c.get-in-Binary.ensures c.in-Some-2.is c.in_ok-a-in-Binary.ensures in
    let b = part_is c.in-Binary.right c.get-in-Binary-2.result.now binding c.in_ok-b-in-Binary.field-0 c.in-Some-3.b c.get-in-Binary-2.ensures c.in-Some-3.is c.in_ok-b-in-Binary.ensures in
    binary_element c.args.x.now c.in-Binary.left c.in-Binary.right c.in-Binary.op c.in-Binary.dotted binding c.operator.result c.in-Binary.is c.if-dotted.false
    (c.operator.ensures (λ xs i. scalar (tree_of c.in-Binary.left) (inside_at binding xs i)) (λ xs i. scalar (tree_of c.in-Binary.right) (inside_at binding xs i)) a b)

pub element-returns-in-Index : goal.element-returns-in-Index
element-returns-in-Index t c =
    index_element c.args.x.now c.in-Index.indexed c.in-Index.index c.get-in-Index.result.now c.get-in-Index-2.result.now c.args.binding c.near_element.result c.in-Index.is c.get-in-Index.ensures c.get-in-Index-2.ensures c.near_element.ensures

pub element-returns-in-Call : goal.element-returns-in-Call
element-returns-in-Call t c =
    let called = c.function_of-called.ensures ∙ ap (λ (bytes : List ℕ). function_named c.in-Call.dotted bytes) c.as_slice-in-Call.ensures in
    call_element c.args.x.now c.in-Call.function c.in-Call.dotted c.in-Call.args c.as_slice-in-Call-2.result.now c.function_of-called.result c.args.binding c.call.result c.in-Call.is called c.as_slice-in-Call-2.ensures c.call.ensures
