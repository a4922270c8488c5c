-- Greatest distributions of a program's slots are greatest distributions of its script's arrays.
use Rattle.std.proofs.Common.{◌≡◌, ℕ, zero, suc, ◌<◌, false, List, [], ◌∷◌, map, length, slice_get, option_map, Some, None, IsTrue, refl, sym, ap, ◌∙◌, subst, arith}
use Rattle.std.proofs.lemmas.Option.{slice_get-map}
use Rattle.std.specs.Prelude.{slice_index_or}
use Rattle.std.specs.List.{AllByRecursion, position_or_len}
use Rattle.hp_lattice.specs.declared.dist.Dist.{Dist}
use Rattle.hp_lattice.specs.Lattice.{is_below}
use Rattle.hp_script.specs.declared.typed.Typed.{Typed}
use Rattle.hp_air.specs.declared.slot.Slot.{Slot}
use Rattle.hp_air.specs.Carried.{is_among}
use Rattle.hp_air.specs.Constraints.{Bound, IsSolution, says}
use Rattle.hp_air.specs.Frames.{slot_at}
use Rattle.hp_air.specs.Placed.{program_bounds}
use Rattle.hp_air.specs.Unknowns.{Unknown, of_nothing, same_unknown, unknown_of, known_of, constructs, unknowns}
use Rattle.hp_air.proofs.NamedBounds.{Within, bounds_within}
use Rattle.hp_flat.specs.Flat.{flat_script}
use Rattle.hp_flat.specs.FlatLaws.{GiveGreatest, rebound}
use Rattle.hp_flat.specs.Homes.{homes_of, homes_in, slots_in, slot_of, slot_for, words_in}
use Rattle.hp_flat.proofs.BoundFrames.{apart_place}
use Rattle.hp_flat.proofs.BoundScripts.{ask_the_same, item_array}
use Rattle.hp_flat.proofs.RowScripts.{among_back, stands_at}
use Rattle.hp_flat.proofs.RowSteps.{back}
use Rattle.hp_flat.proofs.SlotBlocks.{all_are_kept}
use Rattle.hp_flat.proofs.SlotLaws.{all_are_arrays, are_found, have_one_each, same_length, slots_are, stands_back}
use Rattle.hp_flat.proofs.SlotValues.{got_below}

got : (us : List Unknown) (k : ℕ) → k < length us → slice_get us k ≡ Some (slice_index_or us k of_nothing)
got [] k less = absurd (omega (arith, less))
got (u ∷ us) zero less = refl
got (u ∷ us) (suc k) less = got us k (omega (arith, less))

-- ---- constraints over other names

-- solutions over names that stand for others, and back
rebound_solution : (f : ℕ → Unknown) (e : Unknown → Dist) (bounds : List (Bound ℕ)) → IsSolution e (map (rebound f) bounds) → IsSolution (λ k. e (f k)) bounds
rebound_solution f e [] all = tt
rebound_solution f e (b ∷ bounds) all = (all.0, rebound_solution f e bounds all.1)

named_solution : (n : ℕ) (f : ℕ → Unknown) (d : ℕ → Dist) (e : Unknown → Dist) → ((k : ℕ) → k < n → d k ≡ e (f k)) → (bounds : List (Bound ℕ)) → AllByRecursion (Within n) bounds → IsSolution d bounds
    → IsSolution e (map (rebound f) bounds)
named_solution n f d e same [] within all = tt
named_solution n f d e same (b ∷ bounds) within all =
    (subst (λ (y : Dist). says b.relation (e (f b.low)) y) (same b.high within.0.1) (subst (λ (x : Dist). says b.relation x (d b.high)) (same b.low within.0.0) all.0), named_solution n f d e same bounds within.1 all.1)

-- ---- scripts

module _ (typed : Typed) where
  abbrev slots : List Slot
  slots = slots_in (homes_of typed)

  abbrev stands : ℕ → Unknown
  stands k = unknown_of (slot_at slots k)

  -- the slot of what a slot stands for is that slot
  own_slot : (k : ℕ) → k < length slots → slot_of (homes_of typed) (stands k) ≡ k
  unfolding slot_of homes_of homes_in unknowns constructs
  own_slot k less =
      let u = slice_index_or (unknowns typed) k of_nothing in
      let many : length slots ≡ length (unknowns typed) = ap length (slots_are typed) ∙ same_length (known_of typed) (unknowns typed) in
      let here : slice_get (unknowns typed) k ≡ Some u = got (unknowns typed) k (omega (arith, less, many)) in
      let is = item_array (unknowns typed) k u (all_are_arrays typed) here in
      let slot : slot_at slots k ≡ slot_for (known_of typed) u =
      ap (λ (l : List Slot). slot_at l k) (slots_are typed)
      ∙ stands_at (map (slot_for (known_of typed)) (unknowns typed)) k (slot_for (known_of typed) u) (record { node = None; var = None; column = 0; matrix = false; balanced = false }) (slice_get-map (slot_for (known_of typed)) (unknowns typed) k ∙ ap (option_map (slot_for (known_of typed))) here) in
      let same : stands k ≡ u = ap unknown_of slot ∙ stands_back (known_of typed) u is in
      ap (λ (v : Unknown). position_or_len (same_unknown v) (unknowns typed)) same ∙ apart_place (unknowns typed) k u is (have_one_each typed).once here

  own_array : (u : Unknown) → IsTrue (is_among (unknowns typed) u) → stands (slot_of (homes_of typed) u) ≡ u
  unfolding back
  own_array u is = among_back typed u is

pub give_greatest : GiveGreatest
give_greatest typed checked d greatest =
    let f = stands typed in
    let h = homes_of typed in
    let n = length (slots_in h) in
    let asks = ask_the_same typed checked in
    record {
      solution =
          subst (IsSolution (λ u. d (slot_of h u))) asks
          (named_solution n f d (λ u. d (slot_of h u)) (λ k less. ap d (sym (own_slot typed k less))) (program_bounds (slots_in h) (flat_script typed))
          (bounds_within (slots_in h) (words_in h) (flat_script typed) (all_are_kept typed checked)) greatest.solution);
      greatest = λ e all u is.
          let below = greatest.greatest (λ k. e (f k)) (rebound_solution f e (program_bounds (slots_in h) (flat_script typed)) (subst (IsSolution e) (sym asks) all)) (slot_of h u) (got_below (slots_in h) (slot_of h u) (slot_for (known_of typed) u) (are_found typed u is)) in
          subst (λ (v : Unknown). IsTrue (is_below (e v) (d (slot_of h u)))) (own_array typed u is) below;
    }
