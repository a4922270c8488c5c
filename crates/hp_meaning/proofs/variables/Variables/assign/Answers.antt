-- The variable gets its value in its place, or behind the others.
use Rattle.std.proofs.Common.{◌≡◌, ◌∙◌, ◌++◌, ◌∷◌, [], List, Some, None, OnOk, ap, sym, arith}
use Rattle.hp_meaning.specs.Scopes.{var, place_named, assigned}
use Rattle.hp_meaning.proofs.ScopeLemmas.{place_within, assigned_behind}
use Rattle.hp_meaning.proofs.VariableLemmas.{set_at, names_set, added_as}
use Rattle.hp_meaning.proofs.variables.Variables.assign.Goals as goal

pub index_mut-requires : goal.index_mut-requires
index_mut-requires c =
    let place : Some c.in-Some.place ≡ place_named c.args.name.now.bytes c.self.inside.list.items = cc (c.in-Some.ensures, c.as_slice.ensures, c.self.view_is) in
    omega (arith, place_within c.args.name.now.bytes c.self.inside.list.items c.in-Some.place place, c.self.inside.list.ok)

pub invariant_of-self : goal.invariant_of-self
invariant_of-self c =
    let place : Some c.in-Some.place ≡ place_named c.args.name.now.bytes c.self.inside.list.items = cc (c.in-Some.ensures, c.as_slice.ensures, c.self.view_is) in
    names_set c.self.inside.list.items c.in-Some.place c.index_mut.result.now c.args.value (place_within c.args.name.now.bytes c.self.inside.list.items c.in-Some.place place) c.index_mut.ensures.value ∙ c.self.invariant

pub returns-in-Some : goal.returns-in-Some
returns-in-Some c =
    let place : Some c.in-Some.place ≡ place_named c.args.name.now.bytes c.self.inside.list.items = cc (c.in-Some.ensures, c.as_slice.ensures, c.self.view_is) in
    set_at c.args.name.now.bytes c.args.value c.self.inside.list.items c.in-Some.place c.index_mut.result.now place c.index_mut.ensures.value
    ∙ ap (assigned c.args.name.now.bytes c.args.value) c.self.view_is

pub returns-in-None : goal.returns-in-None
returns-in-None c =
    let place : None ≡ place_named c.args.name.now.bytes c.args.self.now = cc (c.in-None.ensures, c.as_slice.ensures) in
    added_as c.add.result c.add.new.self (assigned_behind c.args.name.now.bytes c.args.value c.args.self.now place) c.add.ensures
