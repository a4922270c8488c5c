-- An operation on one word of its kind.
use Rattle.std.proofs.Common.{rules, ◌≡◌, true}
use Rattle.hp_meaning.specs.LambdaRules.{unary_kind}
use Rattle.hp_meaning.specs.Operands.{is_kind}
use Rattle.hp_meaning.proofs.ElementLemmas.{is_opposite}
use Rattle.hp_meaning.proofs.elements.opposite.Goals as goal

pub returns : goal.returns
returns c =
    let is = rw (c.unary_calc.ensures) at c.in_ok-elem.ensures in
    let fits : true ≡ is_kind (unary_kind c.args.op) c.args.a.kind = search rules in
    rw (c.unary_kind-kind.ensures) (λ f p. is_opposite c.args.at c.args.op c.args.dotted f c.args.a c.in_ok-elem.elem c.if-dotted.false fits is p)
