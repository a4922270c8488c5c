-- The set has the name at this place.
use Rattle.std.proofs.Common.{◌≡◌, ◌∙◌, ◌<◌, length, true, refl, sym, ap, arith, rules}
use Rattle.std.specs.Prelude.{bytes_eq, slice_get}
use Rattle.std.proofs.lemmas.Option.{slice_get_read}
use Rattle.hp_meaning.specs.Scopes.{place_named}
use Rattle.hp_meaning.proofs.VariableLemmas.{place_at}
use Rattle.hp_meaning.proofs.variables.Variables.is_at.Goals as goal

pub returns-then-place-names : goal.returns-then-place-names
returns-then-place-names c = λ h.
    let within : c.args.place < length c.as_slice-names.result.now = omega (arith, c.if-place-names.true) in
    let same : bytes_eq c.index-names-place.result.items c.args.name.now ≡ true = search rules in
    let at = slice_get_read c.as_slice-names.result.now (length c.as_slice-names.result.now) c.args.place c.index-names-place.result refl within c.index-names-place.is in
    sym (ap (place_named c.args.name.now) c.self.view_is)
    ∙ place_at c.args.name.now c.self.inside.list.items c.self.inside.names.keys c.args.place c.index-names-place.result c.self.invariant c.as_slice-names.ensures.unique (ap (λ ks. slice_get ks c.args.place) (sym c.as_slice-names.ensures.keys) ∙ at) same
