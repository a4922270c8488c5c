-- One more variable, and all of them.
use Rattle.std.proofs.Common.{List, ℕ}
use Rattle.std.specs.Prelude.{bytes_eq}
use Rattle.hp_script.specs.declared.typed.Var.{Var}
use Rattle.hp_normal.specs.PlacesFound.{place_in}
use Rattle.hp_normal.proofs.PlaceForms.{next_item, all_items}
use Rattle.hp_normal.proofs.places.places_of_vars.Goals as goal

pub loop-place-preserved : goal.loop-place-preserved
loop-place-preserved c =
    next_item (λ (x : List ℕ) (v : Var). bytes_eq x v.name.bytes) c.args.vars.now c.loop-place.place c.index-vars-place.result (place_in c.loop-place.places.entries) (place_in c.note_name.new.places.entries)
    c.loop-place-test.true c.index-vars-place.is c.loop-place.invariant (rw c.as_slice.ensures at c.in_ok-note_name.ensures)

pub returns : goal.returns
returns c = all_items (λ (x : List ℕ) (v : Var). bytes_eq x v.name.bytes) c.args.vars.now c.loop-place.place (place_in c.loop-place.places.entries) c.loop-place-test.false c.loop-place.invariant
