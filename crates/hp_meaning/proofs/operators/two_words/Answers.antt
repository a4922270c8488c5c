-- Both words, and then the operation on them.
use Rattle.std.proofs.Common.{rules}
use Rattle.std.proofs.lemmas.Result.{err_from_is_err_and}
use Rattle.hp_meaning.specs.Outcomes.{halted}
use Rattle.hp_meaning.specs.WordRules.{calculated_words}
use Rattle.hp_meaning.proofs.OperatorLemmas.{words_left, words_right, words_stop, words_made}
use Rattle.hp_meaning.proofs.operators.two_words.Goals as goal

pub returns-in_err-x : goal.returns-in_err-x
returns-in_err-x c = search (rules, words_left)

pub returns-in_err-y : goal.returns-in_err-y
returns-in_err-y c = search (rules, words_right)

pub returns-in_err-z : goal.returns-in_err-z
unfolding calculated_words halted
returns-in_err-z c =
    let p = err_from_is_err_and c.from_residual-in_err-z.result c.from_residual-in_err-z.ensures.1 in
    rw (p.1, p.2) (search (rules, words_stop, c.in_err-z.ensures))

pub returns : goal.returns
returns c = search (rules, words_made)
