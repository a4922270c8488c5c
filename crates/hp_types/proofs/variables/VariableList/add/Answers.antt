-- The variable is new, or known already.
use Rattle.std.proofs.Common.{◌≡◌, ◌∙◌, sym}
use Rattle.hp_script.specs.Scope.{shape_among, variables_with}
use Rattle.hp_types.specs.Names.{variables_of}
use Rattle.hp_types.proofs.KnownVariables.{seen_added, seen_kept}
use Rattle.hp_types.proofs.variables.VariableList.add.Goals as goal
use Rattle.hp_types.proofs.variables.VariableList.add.Goals.{in-Some+in-Frame-1, in-Some+in-Int-1, in-None-1}

pub returns-in_ok-insert : goal.returns-in_ok-insert
returns-in_ok-insert c =
    let added : variables_of c.insert.new.self.entries ≡ variables_with (shape_among c.args.self.now c.args.name.now) c.args.self.now c.args.name.now c.args.shape =
    seen_added c.self.inside.types.entries c.insert.new.self.entries c.args.name.now c.in_ok-from_slice.field-0 c.args.shape c.args.self.now c.self.view_is c.in_ok-from_slice.ensures.items
    (sym c.contains_key.ensures ∙ c.if-not-contains_key.true) c.in_ok-insert.ensures.entries in
    elim c.match-branch-3.branch [
      | in-Some+in-Frame-1 w ↦ w.self-is ∙ added
      | in-Some+in-Int-1 w ↦ w.self-is ∙ added
      | in-None-1 w ↦ w.self-is ∙ added
    ]

pub returns-else-not-contains_key : goal.returns-else-not-contains_key
returns-else-not-contains_key c =
    seen_kept c.self.inside.types.entries c.args.name.now c.args.shape c.args.self.now c.self.view_is (sym c.contains_key.ensures ∙ c.if-not-contains_key.false)
