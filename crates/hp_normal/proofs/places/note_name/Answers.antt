-- The name is new, or held already.
use Rattle.std.proofs.Common.{◌∙◌, sym}
use Rattle.hp_normal.proofs.PlaceForms.{noted_new, noted_before}
use Rattle.hp_normal.proofs.places.note_name.Goals as goal

pub returns-in_ok-insert : goal.returns-in_ok-insert
returns-in_ok-insert c =
    noted_new c.args.places.now.entries c.insert.new.self.entries c.args.name.now c.in_ok-from_slice.field-0 c.args.place c.in_ok-from_slice.ensures.items
    (sym c.contains_key.ensures ∙ c.if-not-contains_key.true) c.in_ok-insert.ensures.entries

pub returns-else-not-contains_key : goal.returns-else-not-contains_key
returns-else-not-contains_key c = noted_before c.args.places.now.entries c.args.name.now c.args.place (sym c.contains_key.ensures ∙ c.if-not-contains_key.false)
