-- The arrays of the columns of a frame, and of one among them, have their slots.
use Rattle.std.proofs.Common.{◌≡◌, ℕ, zero, suc, ◌<◌, Bool, true, false, cond, nat_lt, bytes_eq, List, [], ◌∷◌, length, map, slice_get, option_map, option_and_then, Option, Some, None, refl, sym, subst, ◌∙◌, arith}
use Rattle.std.proofs.lemmas.Bool.{ltb-true}
use Rattle.std.proofs.lemmas.List.{length-map}
use Rattle.std.proofs.lemmas.List.FromFn.{length-range_with_len}
use Rattle.std.specs.Prelude.{slice_index_or}
use Rattle.std.specs.List.{AllByRecursion, position_or_len, range_with_len}
use Rattle.hp_word.specs.declared.name.Name.{Name}
use Rattle.hp_script.specs.declared.typed.Shape.{Shape}
use Rattle.hp_script.specs.declared.typed.Shape.TheVariants as shape
use Rattle.hp_script.specs.declared.typed.Var.{Var}
use Rattle.hp_script.specs.Mirror.{Tree}
use Rattle.hp_air.specs.declared.slot.Slot.{Slot}
use Rattle.hp_air.specs.Unknowns.{Unknown, of_node, of_variable, of_nothing, Columns, columns_of, column_named, no_frame, at_variable, arrays_at, arrays_named, number_of, shape_at, shape_named, variable_named, width}
use Rattle.hp_flat.specs.Homes.{Homes}
use Rattle.hp_flat.proofs.RowSteps.{Back, HasSlots, node_back, place_back}

module _ (h : Homes) (slots : List Slot) where
  -- the arrays of a frame's columns have slots, and there is one for each name
  pub record Framed (around : Columns) : Type 0 where
    pub are : AllByRecursion (Back h slots) around.arrays
    pub many : length around.arrays ≡ length around.names

  pub none_framed : Framed no_frame
  none_framed = record { are = tt; many = refl }

  item_back : (us : List Unknown) (k : ℕ) → AllByRecursion (Back h slots) us → k < length us → Back h slots (slice_index_or us k of_nothing)
  item_back [] k are less = absurd (omega (arith, less))
  item_back (u ∷ us) zero are less = are.0
  item_back (u ∷ us) (suc k) are less = item_back us k are.1 (omega (arith, less))

  found_back : (b : Bool) (k : ℕ) (us : List Unknown) → (b ≡ true → k < length us) → AllByRecursion (Back h slots) us
      → AllByRecursion (Back h slots) (elim (cond b (Some k) None) [ None ↦ [] | Some k ↦ slice_index_or us k of_nothing ∷ [] ])
  found_back true k us less are = (item_back us k are (less refl), tt)
  found_back false k us less are = tt

  pub column_back : (around : Columns) (c : List ℕ) → Framed around → AllByRecursion (Back h slots) (column_named around c)
  column_back around c framed =
      let place = position_or_len (λ (name : Name). bytes_eq c name.bytes) around.names in
      found_back (nat_lt place (length around.names)) place around.arrays (λ e. subst (λ (n : ℕ). place < n) (sym framed.many) (ltb-true place (length around.names) e)) framed.are

  frame_framed : (made : ℕ → Unknown) (found : Option Shape) → AllByRecursion (Back h slots) (map made (range_with_len 0 (width found))) → Framed (columns_of found (map made (range_with_len 0 (width found))))
  frame_framed made (Some (shape.Frame names)) are = record { are = are; many = length-map (range_with_len 0 (length names)) made ∙ length-range_with_len 0 (length names) }
  frame_framed made None are = none_framed
  frame_framed made (Some shape.Int) are = none_framed
  frame_framed made (Some shape.Bool) are = none_framed
  frame_framed made (Some shape.Ints) are = none_framed
  frame_framed made (Some shape.Bools) are = none_framed
  frame_framed made (Some shape.Matrix) are = none_framed

  module _ (stand : HasSlots h slots) where
    pub value_framed : (x : Tree) → Framed (columns_of (shape_at h.known (number_of x)) (arrays_at h.known x))
    value_framed x = frame_framed (of_node (number_of x)) (shape_at h.known (number_of x)) (node_back h slots stand (number_of x))

    place_framed : (found : Option ℕ) → Framed (columns_of (option_and_then (λ k. option_map (λ (v : Var). v.shape) (slice_get h.known.vars k)) found) (at_variable found (option_and_then (λ k. option_map (λ (v : Var). v.shape) (slice_get h.known.vars k)) found)))
    place_framed None = none_framed
    place_framed (Some k) = frame_framed (of_variable k) (option_map (λ (v : Var). v.shape) (slice_get h.known.vars k)) (place_back h slots stand (Some k))

    pub variable_framed : (d : List ℕ) → Framed (columns_of (shape_named h.known d) (arrays_named h.known d))
    variable_framed d = place_framed (variable_named h.known d)
