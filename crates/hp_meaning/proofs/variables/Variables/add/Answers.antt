-- The set has the new name behind the others, as the list.
use Rattle.std.proofs.Common.{◌∙◌, ap, sym}
use Rattle.hp_meaning.specs.Scopes.{place_named}
use Rattle.hp_word.specs.declared.name.Name.{Name}
use Rattle.hp_meaning.proofs.VariableLemmas.{names_more}
use Rattle.hp_meaning.proofs.variables.Variables.add.Goals as goal

pub invariant_of-self-in-Ok : goal.invariant_of-self-in-Ok
invariant_of-self-in-Ok c =
    names_more c.args.name.now.bytes c.self.inside.list.items c.push.new.self.items c.self.inside.names.keys c.insert.new.self.keys
    (record { name = c.in_ok-name.name; value = c.args.value }) c.in_ok-key.key c.self.invariant
    (ap (place_named c.args.name.now.bytes) c.self.view_is ∙ c.requires)
    (c.in_ok-key.ensures.items ∙ c.as_slice.ensures) (ap (λ (name : Name). name.bytes) c.in_ok-name.ensures) c.in_ok-push.ensures.items c.in-Ok.ensures.keys
