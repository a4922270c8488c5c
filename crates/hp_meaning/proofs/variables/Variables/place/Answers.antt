-- The variable stands where the set has its name.
use Rattle.std.proofs.Common.{◌∙◌, ap, sym}
use Rattle.hp_meaning.specs.Scopes.{place_named}
use Rattle.hp_meaning.proofs.VariableLemmas.{place_by_names}
use Rattle.hp_meaning.proofs.variables.Variables.place.Goals as goal

pub returns : goal.returns
returns c =
    c.get_index_of.ensures.index
    ∙ sym (place_by_names c.args.name.now c.self.inside.list.items c.self.inside.names.keys c.self.invariant)
    ∙ ap (place_named c.args.name.now) c.self.view_is
