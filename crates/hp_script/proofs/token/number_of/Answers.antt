use Rattle.std.proofs.Common.{arith}
use Rattle.hp_script.proofs.Numerals.{digit_is, one_more, grows, none_above}
use Rattle.hp_script.proofs.token.number_of.Goals as goal

pub overflow_sub-units : goal.overflow_sub-units
overflow_sub-units c = (digit_is c.args.digits.now c.loop-digit.digit-index c.requires c.loop-digit-test.true).0

pub returns-then-value-greatest : goal.returns-then-value-greatest
returns-then-value-greatest c =
    let d = digit_is c.args.digits.now c.loop-digit.digit-index c.requires c.loop-digit-test.true in
    let e = c.if-value-greatest.true in
    none_above _ _ (omega (arith, grows c.args.digits.now c.loop-digit.digit-index c.loop-digit.value c.requires c.loop-digit-test.true c.loop-digit.invariant.0))

pub loop-digit-preserved : goal.loop-digit-preserved
loop-digit-preserved c =
    let d = digit_is c.args.digits.now c.loop-digit.digit-index c.requires c.loop-digit-test.true in
    (one_more c.args.digits.now c.loop-digit.digit-index c.loop-digit.value c.requires c.loop-digit-test.true c.loop-digit.invariant.0, omega arith)
