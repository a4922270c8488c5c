-- A field that is not the name leaves the place as it is.
use denote.Ref.{Bor}
use Rattle.std.proofs.Common.{◌≡◌, ◌<◌, ℕ, List, Option, Some, None, false, arith, sym, ap, ◌∙◌, length}
use Rattle.std.specs.Prelude.{bytes_eq, option_map}
use Rattle.csv.specs.Records.{field_at, fields_of}
use Rattle.hp_tables.proofs.ListLemmas.{place_past, place_gone}
use Rattle.hp_tables.proofs.column.place_of.Goals as goal
use Rattle.hp_tables.proofs.column.place_of.Goals.{in-Some+else-eq, in_default}

pub loop-place-preserved : goal.loop-place-preserved
loop-place-preserved c =
    let fields = fields_of c.args.header.now in
    let name = c.args.name.now.bytes in
    elim c.match-get.branch [
      | in-Some+else-eq w ↦
          let there : field_at fields c.loop-place.place ≡ Some w.in-Some.field.now = sym c.get.ensures.value ∙ ap (λ (o : Option (Bor (List ℕ))). option_map (λ s. s.now) o) w.in-Some.is in
          let other : bytes_eq w.in-Some.field.now name ≡ false = ap (bytes_eq w.in-Some.field.now) (sym w.as_slice.ensures) ∙ sym w.eq.ensures ∙ w.if-eq.false in
          place_past name fields c.loop-place.place w.in-Some.field.now there other ∙ c.loop-place.invariant
      | in_default w ↦
          let gone : field_at fields c.loop-place.place ≡ None = sym c.get.ensures.value ∙ ap (λ (o : Option (Bor (List ℕ))). option_map (λ s. s.now) o) w.in_default.is in
          let within : c.loop-place.place < length fields = omega (arith, c.len-place-end.ensures) in
          place_gone name fields c.loop-place.place within gone ∙ c.loop-place.invariant
    ]
