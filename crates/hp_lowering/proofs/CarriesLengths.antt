-- The codes of lengths and of elements carry them.
use Rattle.std.proofs.Common.{◌≡◌, ◌∙◌, refl, sym, subst, false, ℕ, ◌<◌, ◌≤◌, List, length, Ok, le_trans, lit≤}
use Rattle.std.specs.Prelude.{ℤ, pos}
use Rattle.hp_word.specs.declared.order.Order.{Order}
use Rattle.hp_word.specs.declared.place.Place.{Place}
use Rattle.hp_word.specs.declared.table.Tables.{Tables}
use Rattle.hp_word.specs.Lengths.{longest}
use Rattle.hp_word.specs.ListRules.{element_at}
use Rattle.hp_lattice.specs.declared.dist.Dist.{Dist}
use Rattle.hp_lattice.specs.declared.dist.Dist.TheVariants.{Rep}
use Rattle.hp_spmd.specs.declared.code.Code.{Code}
use Rattle.hp_spmd.specs.Layout as layout
use Rattle.hp_spmd.specs.Scalars.{greatest_count}
use Rattle.hp_air.specs.declared.slot.Slot.{Slot}
use Rattle.hp_air.specs.declared.what.What.TheVariants as what
use Rattle.hp_air.specs.Kept.{is_matrix}
use Rattle.hp_air.specs.Meaning as air
use Rattle.hp_air.specs.Meaning.{does}
use Rattle.hp_air.specs.Placed.{dist_at}
use Rattle.hp_air.specs.Wholes as wholes
use Rattle.hp_air.specs.Wholes.{cells}
use Rattle.hp_parfor.specs.LoopMeaning.{part_does}
use Rattle.hp_parfor.specs.Parts.{Does as DoesPart}
use Rattle.hp_snippet.specs.Values.{value_or_zero}
use Rattle.hp_alone.specs.Scalars.{IsVector, MayCount, MayTake, at_code, counted, element_taken, length_code, word_alone, word_made}
use Rattle.hp_alone.proofs.WordsMade.{at_performs, length_performs}
use Rattle.hp_lowering.specs.PartCode.{part_code, whole_code}
use Rattle.hp_lowering.specs.Room.{Room, room_of}
use Rattle.hp_lowering.specs.Standing.{IsOf}
use Rattle.hp_lowering.proofs.Carrying.{DoesAs}
use Rattle.hp_lowering.proofs.CarriedBy.{LieAsSlots, carried_by}
use Rattle.hp_lowering.proofs.CarriesWords.{IsCarried, has_value, value_is, word_does}
use Rattle.hp_lowering.proofs.ArraysHeld.{cells_held, one_row}

within_counts : longest ≤ greatest_count
within_counts = lit≤ tt

-- no array has more cells than counts go
pub cells_counted : (room : Room) (k : ℕ) (e : wholes.Env) (f : layout.Env) → IsOf room e f → k < room.slots → length (f.arrays k).cells ≤ greatest_count
cells_counted room k e f h lt = subst (λ (xs : List ℤ). length xs ≤ greatest_count) (sym (cells_held room k e f h lt)) (le_trans (h.short k lt) within_counts)

-- an array that is no matrix is a vector, no longer than counts go
pub vector_is : (room : Room) (k : ℕ) (e : wholes.Env) (f : layout.Env) → IsOf room e f → k < room.slots → room.matrix k ≡ false → IsVector (f.arrays k)
vector_is room k e f h lt none = record { one_row = one_row room k e f h lt none; short = cells_counted room k e f h lt }

module _ (slots : List Slot) (words : ℕ) (dists : List Dist) (code : Code) (tables : Tables) (n : ℕ) (orders : List Order) where
  abbrev room : Room
  room = room_of slots words

  pub length_carried : (at : Place) (to array : ℕ) → array < length slots → is_matrix slots array ≡ false → IsCarried slots words dists code tables n orders (DoesPart (record { at = at; what = what.Length to array }))
  unfolding part_code whole_code part_does does
  length_carried at to array lt none =
      let part = DoesPart (record { at = at; what = what.Length to array }) in
      carried_by slots words dists code tables n orders part (length_code to array) refl (word_alone to) (MayCount array) (counted to array) (length_performs to array (length_code to array) refl)
      (λ s e h stand. vector_is room array e h.env h.is lt none)
      (λ s e h. subst (λ (xs : List ℤ). DoesAs room e (air.word_made to e (Ok (pos (length (cells (e.slots array)))))) (word_made to (Ok (pos (length xs))) h.env)) (sym (cells_held room array e h.env h.is lt))
      (word_does room to e h.env (Ok (pos (length (cells (e.slots array))))) h.is))

  pub at_carried : (at : Place) (to array index : ℕ) → LieAsSlots slots dists code → array < length slots → index < words → dist_at dists array ≡ Rep
      → IsCarried slots words dists code tables n orders (DoesPart (record { at = at; what = what.At to array index }))
  unfolding part_code whole_code part_does does
  at_carried at to array index like lt there rep =
      let part = DoesPart (record { at = at; what = what.At to array index }) in
      carried_by slots words dists code tables n orders part (at_code to array index at) refl (word_alone to) (MayTake array index) (element_taken to array index at) (at_performs to array index at (at_code to array index at) refl)
      (λ s e h stand. (like.lies array lt ∙ rep, has_value room index e h.env h.is there))
      (λ s e h.
      subst (λ (xs : List ℤ). DoesAs room e (air.word_made to e (element_at at (cells (e.slots array)) (e.words index))) (word_made to (element_at at xs (value_or_zero (h.env.words index))) h.env)) (sym (cells_held room array e h.env h.is lt))
      (subst (λ (i : ℤ). DoesAs room e (air.word_made to e (element_at at (cells (e.slots array)) (e.words index))) (word_made to (element_at at (cells (e.slots array)) i) h.env)) (sym (value_is room index e h.env h.is there))
      (word_does room to e h.env (element_at at (cells (e.slots array)) (e.words index)) h.is)))
