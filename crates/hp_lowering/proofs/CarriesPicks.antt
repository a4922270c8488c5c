-- The code of picked elements carries them.
use Rattle.std.proofs.Common.{◌≡◌, ◌∙◌, refl, sym, subst, arith, inl, false, ℕ, ◌<◌, ◌≤◌, List, [], ◌∷◌, length, Result, Ok, Err}
use Rattle.std.specs.Prelude.{ℤ}
use Rattle.hp_word.specs.declared.order.Order.{Order}
use Rattle.hp_word.specs.declared.place.Place.{Place}
use Rattle.hp_word.specs.declared.place.Trap.{Trap}
use Rattle.hp_word.specs.declared.table.Tables.{Tables}
use Rattle.hp_word.specs.Lengths.{longest}
use Rattle.hp_word.specs.ListRules.{element_at, elements_at}
use Rattle.hp_lattice.specs.declared.dist.Dist.{Dist}
use Rattle.hp_spmd.specs.declared.code.Code.{Code}
use Rattle.hp_spmd.specs.Store as store
use Rattle.hp_spmd.proofs.GatherLemmas.{HasLength, all_count}
use Rattle.hp_air.specs.declared.slot.Slot.{Slot}
use Rattle.hp_air.specs.declared.what.What.TheVariants as what
use Rattle.hp_air.specs.Arrays.{Pick}
use Rattle.hp_air.specs.Constraints.{Meets, pick_meets}
use Rattle.hp_air.specs.Kept.{is_matrix}
use Rattle.hp_air.specs.Meaning as air
use Rattle.hp_air.specs.Meaning.{does}
use Rattle.hp_air.specs.Placed.{dist_at}
use Rattle.hp_air.specs.Wholes.{cells}
use Rattle.hp_parfor.specs.LoopMeaning.{part_doing, part_does}
use Rattle.hp_parfor.specs.Parts.{Does as DoesPart}
use Rattle.hp_snippet.specs.Moves.{arrays_alone}
use Rattle.hp_alone.specs.Dealing.{array_made}
use Rattle.hp_alone.specs.Picking.{MayPick, elements_picked, pick_code}
use Rattle.hp_alone.proofs.Picked.{pick_performs}
use Rattle.hp_lowering.specs.PartCode.{part_code, whole_code}
use Rattle.hp_lowering.specs.Room.{room_of}
use Rattle.hp_lowering.proofs.ArraysHeld.{at_most_whole, cells_held, one_row}
use Rattle.hp_lowering.proofs.Carrying.{DoesAs, carries_by}
use Rattle.hp_lowering.proofs.CarriesArrays.{IsShort, vector_does}
use Rattle.hp_lowering.proofs.CarriesWords.{IsCarried, performed}
use Rattle.hp_lowering.proofs.PartForm.{steps_straight, steps_work}

-- as many elements as positions
short_by : (n : ℕ) (r : Result (List ℤ) Trap) → HasLength n r → n ≤ longest → IsShort r
short_by n (Ok xs) same le = omega (arith, same, le)
short_by n (Err t) same le = tt

elements_short : (at : Place) (xs positions : List ℤ) → length positions ≤ longest → IsShort (elements_at at xs positions)
unfolding elements_at
elements_short at xs positions le = short_by (length positions) (elements_at at xs positions) (all_count (element_at at xs) positions) le

-- the code's arrays lie as the program's
abbrev pub LieAs : (slots : List Slot) → (dists : List Dist) → Code → Type 0
LieAs slots dists code = (k : ℕ) → k < length slots → store.dist_at code.arrays k ≡ dist_at dists k

pub pick_carried : (slots : List Slot) (words : ℕ) (dists : List Dist) (code : Code) (tables : Tables) (n : ℕ) (orders : List Order) (at : Place) (out array index : ℕ)
    → LieAs slots dists code → out < length slots → array < length slots → index < length slots → is_matrix slots index ≡ false → Meets (dist_at dists) (Pick out array index)
    → IsCarried slots words dists code tables n orders (DoesPart (record { at = at; what = what.Pick out array index }))
unfolding part_code whole_code part_does does
pick_carried slots words dists code tables n orders at out array index lie o a i none (pick_meets whole alike) =
    let room = room_of slots words in
    let part = DoesPart (record { at = at; what = what.Pick out array index }) in
    carries_by (part_doing slots dists tables.list orders) (part_code room slots (dist_at dists)) code tables n room orders part (arrays_alone (out ∷ [])) (steps_straight room slots (dist_at dists) part) (steps_work room slots (dist_at dists) part) (elements_picked out array index at)
    (λ s e h stand.
    let made = elements_at at (cells (e.slots array)) (cells (e.slots index)) in (
      subst (λ xs. DoesAs room e (air.array_made out e made) (array_made out (elements_at at xs (h.env.arrays index).cells) h.env)) (sym (cells_held room array e h.env h.is a))
          (subst (λ ps. DoesAs room e (air.array_made out e made) (array_made out (elements_at at (cells (e.slots array)) ps) h.env)) (sym (cells_held room index e h.env h.is i))
          (vector_does room out e h.env made (elements_short at (cells (e.slots array)) (cells (e.slots index)) (h.is.short index i)) h.is)),
      performed code tables n room (pick_code out array index at) (arrays_alone (out ∷ [])) (MayPick out array index) (elements_picked out array index at) (pick_performs out array index at (pick_code out array index at) refl) s e h stand
          (record {
            whole = lie array a ∙ at_most_whole (dist_at dists array) whole;
            lies = inl (lie out o ∙ alike ∙ sym (lie index i));
            positions = one_row room index e h.env h.is i none;
          }),
    ))
