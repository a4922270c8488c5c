-- Behind the lambda no plain argument stands.
use Rattle.std.proofs.Common.{rules}
use Rattle.std.proofs.lemmas.Result.{err_from_is_err_and}
use Rattle.hp_meaning.proofs.ArgumentLemmas.{lambda_none}
use Rattle.hp_meaning.proofs.args.lambda_and_plain.Goals as goal

pub returns-in_err-x : goal.returns-in_err-x
returns-in_err-x c =
    let p = err_from_is_err_and c.from_residual.result c.from_residual.ensures.1 in
    rw (p.1, p.2) (search (rules, lambda_none, c.in_err-x.ensures))
