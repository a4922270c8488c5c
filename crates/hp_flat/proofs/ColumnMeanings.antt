-- What the columns of a frame come to that are read by name: `d.c`, and `:c` in the mask of a filter.
use Rattle.std.proofs.Common.{◌≡◌, ℕ, ℤ, ◌+◌, Bool, true, false, not, cond, bytes_eq, List, [], ◌∷◌, length, Option, Some, None, refl, sym, ap, subst, ◌∙◌, one-add, option_map}
use Rattle.std.proofs.lemmas.Cmp.{nat_list_eq_equiv}
use Rattle.std.specs.List.{position_or_len}
use Rattle.std.specs.Prelude.{slice_index_or, find, nat_lt}
use Rattle.hp_word.specs.declared.name.Name.{Name}
use Rattle.hp_word.specs.declared.order.Order.{Order}
use Rattle.hp_word.specs.declared.place.Place.{Place}
use Rattle.hp_word.specs.declared.table.Table.{Table}
use Rattle.hp_word.specs.Runs.{State}
use Rattle.hp_script.specs.declared.typed.Shape.{Shape}
use Rattle.hp_script.specs.declared.typed.Shape.TheVariants as shape
use Rattle.hp_script.specs.Mirror.{Head, Tree, field, column}
use Rattle.hp_script.specs.Nodes.{nodes_in}
use Rattle.hp_meaning.specs.declared.seen.Seen.{Seen}
use Rattle.hp_meaning.specs.declared.value.Column.{Column}
use Rattle.hp_meaning.specs.declared.value.Kind.TheVariants.{Number}
use Rattle.hp_meaning.specs.declared.value.Value.{Value}
use Rattle.hp_meaning.specs.declared.value.Value.TheVariants.{Word, List as Listed, Matrix, Frame}
use Rattle.hp_meaning.specs.Fitting.{names_of, HasShape as IsOf, a_frame as of_frame}
use Rattle.hp_meaning.specs.FrameRules.{is_named, column_of, field_value}
use Rattle.hp_meaning.specs.Outcomes.{Gives, given, tick, ended}
use Rattle.hp_meaning.specs.Scopes.{Scope, value_named}
use Rattle.hp_meaning.specs.ValueOf.{value, column_value}
use Rattle.hp_program.specs.Programs.{run}
use Rattle.hp_air.specs.declared.slot.Slot.{Slot}
use Rattle.hp_air.specs.Unknowns.{Unknown, of_nothing, Columns, columns_of, column_named, arrays_at, arrays_named, shape_at, shape_named, width}
use Rattle.hp_air.specs.Wholes.{Vector, Env}
use Rattle.hp_flat.specs.Flat.{flat}
use Rattle.hp_flat.specs.FlatCalls.{array_copy}
use Rattle.hp_flat.specs.Homes.{Homes, slot_of, word_named}
use Rattle.hp_flat.specs.Standing.{Stands, an_array, ColumnsStand, FrameStands, frame_stands, HasMet, ComesToValue, comes_to_none}
use Rattle.hp_flat.proofs.FrameSteps.{columns_stand}
use Rattle.hp_flat.proofs.LastSteps.{AreApart, d}
use Rattle.hp_flat.proofs.NameMeanings.{copied}
use Rattle.hp_flat.proofs.SlotWrites.{outs, AreAmong}
use Rattle.hp_flat.proofs.VariableNames.{place_below}
use Rattle.hp_flat.proofs.WordMeanings.{Means}

module _ (h : Homes) where
  -- where there are such cells, they stand in the only array
  pub data IsFound (e : Env) : List Unknown → Option (List ℤ) → Type 0 where
    found_cells : {u : Unknown} {xs : List ℤ} → e.slots (slot_of h u) ≡ Vector xs → IsFound e (u ∷ []) (Some xs)
    none_found : {us : List Unknown} → IsFound e us None

  abbrev at_place : Option ℕ → List Unknown → List Unknown
  at_place found arrays = elim found [ None ↦ [] | Some k ↦ slice_index_or arrays k of_nothing ∷ [] ]

  column_step : {e : Env} (same other below : Bool) (q : ℕ) (u : Unknown) (us : List Unknown) (x : Column) (found : Option Column) → other ≡ same → e.slots (slot_of h u) ≡ Vector x.cells
      → IsFound e (at_place (cond below (Some q) None) us) (option_map (λ (c : Column). c.cells) found)
      → IsFound e (at_place (cond (cond (not same) below true) (Some (cond (not same) (1 + q) 0)) None) (u ∷ us)) (option_map (λ (c : Column). c.cells) (cond other (Some x) found))
  column_step true true below q u us x found e is rest = found_cells is
  column_step false false true q u us x found e is rest = rw one-add rest
  column_step false false false q u us x found e is rest = rest
  column_step true false below q u us x found e is rest = absurd cc
  column_step false true below q u us x found e is rest = absurd cc

  place_stands : {e : Env} (c : List ℕ) (us : List Unknown) (columns : List Column) → ColumnsStand h e us columns → IsFound e (column_named (record { names = names_of columns; arrays = us }) c) (column_of c columns)
  unfolding column_of
  place_stands c [] [] stand = none_found
  place_stands c [] (x ∷ columns) stand = absurd stand
  place_stands c (u ∷ us) [] stand = none_found
  place_stands {e = e} c (u ∷ us) (x ∷ columns) stand =
      let q = position_or_len (λ (name : Name). bytes_eq c name.bytes) (names_of columns) in
      let same = bytes_eq c x.name.bytes in
      subst (λ (below : Bool). IsFound e (at_place (cond below (Some (cond (not same) (1 + q) 0)) None) (u ∷ us)) (option_map (λ (c : Column). c.cells) (cond (bytes_eq x.name.bytes c) (Some x) (find (is_named c) columns))))
      (sym (place_below same q (length (names_of columns))))
      (column_step same (bytes_eq x.name.bytes c) (nat_lt q (length (names_of columns))) q u us x (find (is_named c) columns) (nat_list_eq_equiv.symm x.name.bytes c) stand.0 (place_stands c us columns stand.1))

  -- the column of a name among those of a frame that stands
  pub column_stands : {e : Env} (c : List ℕ) (around : Columns) (columns : List Column) → around.names ≡ names_of columns → ColumnsStand h e around.arrays columns → IsFound e (column_named around c) (column_of c columns)
  column_stands {e = e} c around columns names stand =
      subst (λ (l : List Name). IsFound e (column_named (record { names = l; arrays = around.arrays }) c) (column_of c columns)) (sym names) (place_stands c around.arrays columns stand)

module _ (h : Homes) (slots : List Slot) (tables : List Table) (orders : List Order) (apart : AreApart h) where
  -- a copy of a column
  column_copied : {z : Tree} {n : Seen} {s : State Env ℕ} (at : Place) (id w : ℕ) (ins : List Unknown) (found : Option (List ℤ)) → IsFound h s.env ins found → arrays_at h.known z ≡ outs h apart id 0 w → nodes_in z ≡ id ∷ [] → w ≡ 1 → AreAmong h apart id 0 w
      → HasMet s.env n.met → ComesToValue h z n s (ended (given found (λ cells. Gives (Listed Number cells))) (tick n)) (run (d h slots tables orders) (array_copy h at (outs h apart id 0 w) ins) s)
  column_copied at id w _ (Some xs) (found_cells {u = u} is) home only wide among met = copied h slots tables orders apart at id w (u ∷ []) (Listed Number xs) home only (sym wide) among (an_array is) met
  column_copied at id w ins None none_found home only wide among met = comes_to_none

  -- `:c`
  pub column_means : (around : Columns) (v : Scope) (n : Head) (c : List ℕ) → width (shape_at h.known n.id) ≡ 1 → AreAmong h apart n.id 0 (width (shape_at h.known n.id)) → Means h slots tables orders around v (column n c)
  unfolding value flat column_value field_value
  column_means around v n c wide among m s vars frame met = in_frame v.frame frame
    where
      in_frame : (found : Option (List Column)) → FrameStands h s.env around found → ComesToValue h (column n c) m s (ended (column_value c found) (tick m)) (run (d h slots tables orders) (flat h around (column n c)) s)
      in_frame None stands = comes_to_none
      in_frame (Some columns) (frame_stands names stand) =
          column_copied n.at n.id (width (shape_at h.known n.id)) (column_named around c) (column_of c columns) (column_stands h c around columns names stand) refl refl wide among met

  -- `d.c`
  pub field_means : (around : Columns) (v : Scope) (n : Head) (x c : List ℕ) (names : List Name) → shape_named h.known x ≡ Some (shape.Frame names) → ((b : Value) → value_named x v.vars ≡ Some b → IsOf (shape.Frame names) b)
      → width (shape_at h.known n.id) ≡ 1 → AreAmong h apart n.id 0 (width (shape_at h.known n.id)) → Means h slots tables orders around v (field n x c)
  unfolding value flat field_value
  field_means around v n x c names known typed wide among m s vars frame met = found (value_named x v.vars) refl
    where
      found : (a : Option Value) → value_named x v.vars ≡ a → ComesToValue h (field n x c) m s (ended (given (value_named x v.vars) (field_value c)) (tick m)) (run (d h slots tables orders) (flat h around (field n x c)) s)
      found None is = subst (λ (b : Option Value). ComesToValue h (field n x c) m s (ended (given b (field_value c)) (tick m)) (run (d h slots tables orders) (flat h around (field n x c)) s)) (sym is) comes_to_none
      found (Some a) is =
          subst (λ (b : Option Value). ComesToValue h (field n x c) m s (ended (given b (field_value c)) (tick m)) (run (d h slots tables orders) (flat h around (field n x c)) s)) (sym is)
          (of_value a (vars x a is) (typed a is))
        where
          of_value : (a : Value) → Stands h s.env (arrays_named h.known x) (word_named h x) a → IsOf (shape.Frame names) a → ComesToValue h (field n x c) m s (ended (field_value c a) (tick m)) (run (d h slots tables orders) (flat h around (field n x c)) s)
          of_value (Frame columns) stands (of_frame _ _ same) =
              let stand = columns_stand stands in
              let own = columns_of (shape_named h.known x) (arrays_named h.known x) in
              let names_are : own.names ≡ names_of columns = ap (λ (o : Option Shape). (columns_of o (arrays_named h.known x)).names) known ∙ sym same in
              let arrays_are : own.arrays ≡ arrays_named h.known x = ap (λ (o : Option Shape). (columns_of o (arrays_named h.known x)).arrays) known in
              column_copied n.at n.id (width (shape_at h.known n.id)) (column_named own c) (column_of c columns) (column_stands h c own columns names_are (subst (λ (us : List Unknown). ColumnsStand h s.env us columns) (sym arrays_are) stand)) refl refl wide among met
          of_value (Word kind z) stands of = elim of [ ]
          of_value (Listed kind xs) stands of = elim of [ ]
          of_value (Matrix grid) stands of = elim of [ ]
