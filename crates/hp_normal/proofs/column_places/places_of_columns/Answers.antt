-- One more column, and all of them.
use Rattle.std.proofs.Common.{List, ℕ}
use Rattle.std.specs.Prelude.{bytes_eq}
use Rattle.hp_word.specs.declared.name.Name.{Name}
use Rattle.hp_normal.specs.PlacesFound.{place_in}
use Rattle.hp_normal.proofs.PlaceForms.{next_item, all_items}
use Rattle.hp_normal.proofs.column_places.places_of_columns.Goals as goal

pub loop-place-preserved : goal.loop-place-preserved
loop-place-preserved c =
    next_item (λ (x : List ℕ) (column : Name). bytes_eq x column.bytes) c.args.columns.now c.loop-place.place c.index-columns-place.result (place_in c.loop-place.places.entries) (place_in c.note_name.new.places.entries)
    c.loop-place-test.true c.index-columns-place.is c.loop-place.invariant (rw (c.as_slice.ensures, c.name-name.ensures) at c.in_ok-note_name.ensures)

pub returns : goal.returns
returns c = all_items (λ (x : List ℕ) (column : Name). bytes_eq x column.bytes) c.args.columns.now c.loop-place.place (place_in c.loop-place.places.entries) c.loop-place-test.false c.loop-place.invariant
