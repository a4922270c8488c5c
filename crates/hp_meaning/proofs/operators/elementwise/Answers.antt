-- Both operands, and then the operation on them.
use Rattle.std.proofs.Common.{rules}
use Rattle.std.proofs.lemmas.Result.{err_from_is_err_and}
use Rattle.hp_meaning.specs.Outcomes.{halted}
use Rattle.hp_meaning.specs.WordRules.{elementwise}
use Rattle.hp_meaning.proofs.OperatorLemmas.{cells_left, cells_right, cells_stop, cells_made}
use Rattle.hp_meaning.proofs.operators.elementwise.Goals as goal

pub returns-in_err-x : goal.returns-in_err-x
returns-in_err-x c = search (rules, cells_left)

pub returns-in_err-y : goal.returns-in_err-y
returns-in_err-y c = search (rules, cells_right)

pub returns-in_err-made : goal.returns-in_err-made
unfolding elementwise halted
returns-in_err-made c =
    let p = err_from_is_err_and c.from_residual-in_err-made.result c.from_residual-in_err-made.ensures.1 in
    rw (p.1, p.2) (search (rules, cells_stop, c.in_err-made.ensures))

pub returns : goal.returns
returns c = search (rules, cells_made)
