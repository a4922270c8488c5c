-- The body has a value, which is a word.
use Rattle.std.proofs.Common.{rules, w64}
use Rattle.std.proofs.lemmas.Int.{to_z-of_z}
use Rattle.std.proofs.lemmas.Result.{err_from_is_err_and}
use Rattle.hp_meaning.specs.LambdaRules.{word_in}
use Rattle.hp_meaning.proofs.LambdaLemmas.{word_halts, word_refuses}
use Rattle.hp_meaning.proofs.lambdas.mapped_word.Goals as goal

pub returns-in_err-value : goal.returns-in_err-value
returns-in_err-value c =
    let p = err_from_is_err_and c.from_residual.result c.from_residual.ensures.1 in
    let told = rw (to_z-of_z w64 c.args.x c.ranges.x) at c.in_err-value.ensures in
    rw (p.1, p.2) (word_halts _ word_in c.in_err-value.field-0.0 told)

pub returns-in_err-y : goal.returns-in_err-y
returns-in_err-y c =
    let made = rw (to_z-of_z w64 c.args.x c.ranges.x) at c.in_ok-value.ensures in
    search (rules, word_refuses)
