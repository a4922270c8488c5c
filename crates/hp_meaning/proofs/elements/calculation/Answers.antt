-- An operation on two words of its kind.
use Rattle.std.proofs.Common.{rules, ◌≡◌, true}
use Rattle.hp_meaning.specs.Operands.{is_kind}
use Rattle.hp_meaning.proofs.ElementLemmas.{is_calculation}
use Rattle.hp_meaning.proofs.elements.calculation.Goals as goal

pub returns : goal.returns
returns c = λ f g p q.
    let first : true ≡ is_kind c.args.operands c.args.a.kind = search rules in
    let second : true ≡ is_kind c.args.operands c.args.b.kind = search rules in
    is_calculation c.args.at c.args.op c.args.operands c.args.result_kind f g c.args.a c.args.b c.in_ok-elem.elem first second c.in_ok-elem.ensures p q
