-- One more number, and all of them.
use Rattle.std.proofs.Common.{◌==◌, ℕ, get_or}
use Rattle.std.proofs.lemmas.List.{get_or_default}
use Rattle.std.specs.Prelude.{nat_eq}
use Rattle.indexmap.specs.IndexMap.{get}
use Rattle.hp_normal.proofs.PlaceForms.{next_item, noted_number, all_items}
use Rattle.hp_normal.proofs.places.places_of_numbers.Goals as goal

pub loop-place-preserved : goal.loop-place-preserved
loop-place-preserved c =
    let number : ℕ = get_or c.args.numbers.now c.loop-place.place 0 in
    next_item (λ (n k : ℕ). k == n) c.args.numbers.now c.loop-place.place number (get nat_eq c.loop-place.places) (get nat_eq c.note_number.new.places)
    c.loop-place-test.true (get_or_default c.args.numbers.now c.loop-place.place 0 number c.loop-place-test.true) c.loop-place.invariant
    (noted_number (get nat_eq c.loop-place.places) (get nat_eq c.note_number.new.places) number c.loop-place.place c.in_ok-note_number.ensures)

pub returns : goal.returns
returns c = all_items (λ (n k : ℕ). k == n) c.args.numbers.now c.loop-place.place (get nat_eq c.loop-place.places) c.loop-place-test.false c.loop-place.invariant
