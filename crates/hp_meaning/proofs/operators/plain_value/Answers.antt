-- A lazy operator has no value here; any other is one operation.
use Rattle.std.proofs.Common.{rules}
use Rattle.hp_meaning.proofs.OperatorLemmas.{plain_lazy, plain_is, tells_same}
use Rattle.hp_meaning.proofs.operators.plain_value.Goals as goal

pub returns-then-is_lazy : goal.returns-then-is_lazy
returns-then-is_lazy c = search (rules, plain_lazy)

pub returns : goal.returns
returns c = search (rules, tells_same, plain_is)
