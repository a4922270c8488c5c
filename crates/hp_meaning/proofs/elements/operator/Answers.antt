-- An operator is lazy, or an operation.
use Rattle.hp_meaning.proofs.ElementLemmas.{lazily, strictly}
use Rattle.hp_meaning.proofs.elements.operator.Goals as goal

pub returns-then-is_lazy : goal.returns-then-is_lazy
returns-then-is_lazy c = λ f g p q. lazily c.args.at c.args.op f g c.guarded.result c.if-is_lazy.ensures (c.guarded.ensures f g p q)

pub returns : goal.returns
returns c =
    let made = rw (c.calc_of.ensures, c.operands_of.ensures, c.result_of.ensures) at c.calculation.ensures in
    λ f g p q. strictly c.args.at c.args.op f g c.calculation.result c.if-is_lazy.ensures (made f g p q)
