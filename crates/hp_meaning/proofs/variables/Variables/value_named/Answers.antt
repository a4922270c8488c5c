-- The value of the variable at its place.
use Rattle.std.proofs.Common.{◌≡◌, ◌∙◌, ◌<◌, length, Some, None, refl, sym, ap, arith}
use Rattle.std.proofs.lemmas.Option.{slice_get_read}
use Rattle.hp_meaning.specs.Scopes.{place_named}
use Rattle.hp_meaning.proofs.ScopeLemmas.{place_within}
use Rattle.hp_meaning.proofs.VariableLemmas.{value_at, value_nowhere}
use Rattle.hp_meaning.proofs.variables.Variables.value_named.Goals as goal

pub index-requires : goal.index-requires
index-requires c =
    let place : Some c.in-Some.place ≡ place_named c.args.name.now c.self.inside.list.items = cc (c.in-Some.ensures, c.self.view_is) in
    omega (arith, place_within c.args.name.now c.self.inside.list.items c.in-Some.place place, c.self.inside.list.ok)

pub returns-in-Some : goal.returns-in-Some
returns-in-Some c =
    let place : Some c.in-Some.place ≡ place_named c.args.name.now c.self.inside.list.items = cc (c.in-Some.ensures, c.self.view_is) in
    let within = place_within c.args.name.now c.self.inside.list.items c.in-Some.place place in
    let at = slice_get_read c.self.inside.list.items (length c.self.inside.list.items) c.in-Some.place c.index.result.now refl within c.index.ensures in
    let found = value_at c.args.name.now c.self.inside.list.items c.in-Some.place c.index.result.now place at in
    cc (found, c.self.view_is)

pub returns-in-None : goal.returns-in-None
returns-in-None c = (refl, value_nowhere c.args.name.now c.args.self.now c.in-None.ensures)
