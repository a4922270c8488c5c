-- A lazy operator has no value here; any other is one operation.
use Rattle.std.proofs.Common.{rules}
use Rattle.hp_meaning.proofs.OperatorLemmas.{dotted_lazy, dotted_is, tells_same}
use Rattle.hp_meaning.proofs.operators.dotted_value.Goals as goal

pub returns-then-is_lazy : goal.returns-then-is_lazy
returns-then-is_lazy c = search (rules, dotted_lazy)

pub returns : goal.returns
returns c = search (rules, tells_same, dotted_is)
