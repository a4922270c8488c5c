-- The argument's name is added.
use Rattle.std.proofs.Common.{◌∙◌, ap, List, ℕ, [], ◌∷◌}
use Rattle.hp_script.specs.Breaks.{names_among}
use Rattle.hp_types.proofs.NameSets.{has_named}
use Rattle.hp_types.proofs.before.add_name.Goals as goal

pub returns-in-Some : goal.returns-in-Some
returns-in-Some c =
    has_named c.add.result c.args.names.now c.add.new.self (names_among (c.args.argument.now ∷ [])) c.as_slice.result.now
    (ap (λ (name : List ℕ). name ∷ []) c.as_slice.ensures ∙ c.in-Some.ensures) c.add.ensures
