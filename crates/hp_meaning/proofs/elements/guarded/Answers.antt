-- The second part counts where the first does not decide.
use Rattle.std.proofs.Common.{rules, ◌≡◌, true, Option, subst}
use Rattle.std.specs.Prelude.{IfSome}
use Rattle.hp_word.specs.declared.elem.Elem.{Elem}
use Rattle.hp_meaning.specs.declared.value.Kind.TheVariants.{Truth}
use Rattle.hp_meaning.specs.Elements.{IsGuard}
use Rattle.hp_meaning.specs.Operands.{is_kind}
use Rattle.hp_meaning.proofs.ElementLemmas.{is_guard}
use Rattle.hp_meaning.proofs.elements.guarded.Goals as goal

pub returns : goal.returns
returns c = λ f g p q.
    let first : true ≡ is_kind Truth c.args.a.kind = search rules in
    let second : true ≡ is_kind Truth c.args.b.kind = search rules in
    let is : IsGuard c.args.op c.args.a.elem c.args.b.elem c.in-Some.elem = subst (λ (o : Option Elem). IfSome o (IsGuard c.args.op c.args.a.elem c.args.b.elem)) c.in-Some.is c.in_ok-elem.ensures in
    is_guard c.args.op f g c.args.a c.args.b c.in-Some.elem first second is p q
