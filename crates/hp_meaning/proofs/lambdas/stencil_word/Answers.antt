-- The body has a value, which is a number.
use Rattle.std.proofs.Common.{rules}
use Rattle.std.proofs.lemmas.Result.{err_from_is_err_and}
use Rattle.hp_meaning.specs.LambdaRules.{number_in}
use Rattle.hp_meaning.proofs.LambdaLemmas.{word_halts, number_told}
use Rattle.hp_meaning.proofs.lambdas.stencil_word.Goals as goal

pub returns-in_err-value : goal.returns-in_err-value
returns-in_err-value c =
    let p = err_from_is_err_and c.from_residual.result c.from_residual.ensures.1 in
    rw (p.1, p.2) (word_halts _ number_in c.in_err-value.field-0.0 c.in_err-value.ensures)

pub returns : goal.returns
returns c = search (rules, number_told)
