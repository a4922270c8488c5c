-- What the statements tell.
use Rattle.std.proofs.lemmas.Result.{err_from_is_err_and}
use Rattle.hp_types.proofs.check.tested.Goals as goal

pub returns-in_err-test_script-clause-told : goal.returns-in_err-test_script-clause-told
returns-in_err-test_script-clause-told c s at =
    let p = err_from_is_err_and c.from_residual.result c.from_residual.ensures.1 in
    rw (p.1, p.2) (c.in_err-test_script.ensures s at)

pub returns-clause-told : goal.returns-clause-told
returns-clause-told c s at = c.in_ok-test_script.ensures s at
