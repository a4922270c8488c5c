-- The place of the parameter is that of its tree.
use Rattle.std.proofs.Common.{rules, ◌≡◌, Err}
use Rattle.hp_types.proofs.ExpressionForms.{told_refused, refused_reach}
use Rattle.hp_types.proofs.expression.near.Goals as goal

pub returns-in_err-test_reach-clause-told : goal.returns-in_err-test_reach-clause-told
returns-in_err-test_reach-clause-told c =
    let is : c.from_residual.result ≡ Err c.in_err-test_reach.field-0.0 = search rules in
    told_refused _ _ c.from_residual.result c.in_err-test_reach.field-0.0 is (refused_reach c.args.array.now c.args.place.now c.args.at c.in_err-test_reach.field-0.0 c.in_err-test_reach.ensures)
