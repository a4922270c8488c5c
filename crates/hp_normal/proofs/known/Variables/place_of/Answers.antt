-- What is held of the name is its first place.
use Rattle.std.proofs.Common.{List, ap, ◌∙◌}
use Rattle.std.specs.Prelude.{bytes_eq, position}
use Rattle.hp_script.specs.declared.typed.Var.{Var}
use Rattle.hp_normal.proofs.known.Variables.place_of.Goals as goal

pub returns : goal.returns
returns c =
    c.copied.ensures ∙ c.get.ensures.value ∙ c.self.invariant c.args.name.now ∙ ap (λ (vars : List Var). position (λ v. bytes_eq c.args.name.now v.name.bytes) vars) c.self.view_is
