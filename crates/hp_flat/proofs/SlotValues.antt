-- What is known of the slots of a value: they are there, none is balanced, each is a matrix or none is, they are apart and a
-- whole frame.
use Rattle.std.proofs.Common.{◌≡◌, ◌≢◌, ℕ, zero, suc, ◌+◌, ◌<◌, ◌≤◌, ◌==◌, Bool, false, not, ◌||◌, List, [], ◌∷◌, map, length, slice_get, option_map, option_and_then, Option, Some, None, IsTrue, refl, sym, ap, ◌∙◌, arith}
use Rattle.std.proofs.lemmas.Bool.{and_from, lt-ltb, ne_eqb}
use Rattle.std.specs.List.{AllByRecursion, list_any, range_with_len}
use Rattle.hp_word.specs.declared.place.NodeId.{NodeId}
use Rattle.hp_script.specs.declared.typed.Typed.{Typed}
use Rattle.hp_script.specs.declared.typed.Var.{Var}
use Rattle.hp_air.specs.declared.slot.Slot.{Slot}
use Rattle.hp_air.specs.Carried.{is_among}
use Rattle.hp_air.specs.Frames.{slot_at}
use Rattle.hp_air.specs.Kept.{are_below, is_one_of, are_distinct, is_frame, is_side, none_balanced, none_matrix, is_matrix as has_matrix}
use Rattle.hp_air.specs.Unknowns.{Unknown, of_variable, of_node, known_of, shape_at, shape_named, variable_named, width, at_node, at_variable, arrays_named, unknowns}
use Rattle.hp_flat.specs.Homes.{homes_of, slots_in, slot_of, slot_for, is_matrix}
use Rattle.hp_flat.proofs.SlotFrames.{slot_here, node_frame, variable_here, place_frame}
use Rattle.hp_flat.proofs.SlotLaws.{are_apart_slots, are_found, expressions_have}

pub got_below : {X : Type 0} (xs : List X) (k : ℕ) (x : X) → slice_get xs k ≡ Some x → k < length xs
got_below [] k x e = absurd cc
got_below (y ∷ xs) zero x e = omega arith
got_below (y ∷ xs) (suc k) x e = omega (arith, got_below xs k x e)

not_one_of : (ks : List ℕ) (k : ℕ) → AllByRecursion (λ j. j ≢ k) ks → list_any (λ j. j == k) ks ≡ false
not_one_of [] k apart = refl
not_one_of (j ∷ ks) k apart = ap (λ (b : Bool). b || list_any (λ i. i == k) ks) (ne_eqb j k apart.0) ∙ not_one_of ks k apart.1

module _ (typed : Typed) where
  abbrev slots : List Slot
  slots = slots_in (homes_of typed)

  abbrev slot : Unknown → ℕ
  slot u = slot_of (homes_of typed) u

  -- a slot of the program that is no balanced copy
  abbrev pub Fine : ℕ → Type 0
  Fine k = (k < length slots) × ((slot_at slots k).balanced ≡ false)

  -- it is a matrix, or none
  abbrev pub Grid : Bool → ℕ → Type 0
  Grid m k = (slot_at slots k).matrix ≡ m

  -- it is of this expression
  abbrev pub At : ℕ → ℕ → Type 0
  At n k = (slot_at slots k).node ≡ Some (record { 0 = n })

  -- it is not
  abbrev pub Off : ℕ → ℕ → Type 0
  Off n k = (slot_at slots k).node ≢ Some (record { 0 = n })

  pub record Value (m : Bool) (ks : List ℕ) : Type 0 where
    pub fine : AllByRecursion Fine ks
    pub grid : AllByRecursion (Grid m) ks
    pub distinct : IsTrue (are_distinct ks)
    pub frame : IsTrue (is_frame slots ks)

  pub no_value : Value false []
  no_value = record { fine = tt; grid = tt; distinct = refl; frame = refl }

  -- ---- as tests

  pub all_below : (ks : List ℕ) → AllByRecursion Fine ks → IsTrue (are_below (length slots) ks)
  all_below [] are = refl
  all_below (k ∷ ks) are = and_from _ _ (lt-ltb k (length slots) are.0.0) (all_below ks are.1)

  pub all_plain : (ks : List ℕ) → AllByRecursion Fine ks → IsTrue (none_balanced slots ks)
  all_plain ks are = ap not (none ks are)
    where
      none : (ks : List ℕ) → AllByRecursion Fine ks → list_any (λ k. (slot_at slots k).balanced) ks ≡ false
      none [] are = refl
      none (k ∷ ks) are = ap (λ (b : Bool). b || list_any (λ j. (slot_at slots j).balanced) ks) are.0.1 ∙ none ks are.1

  pub no_grid : (ks : List ℕ) → AllByRecursion (Grid false) ks → IsTrue (none_matrix slots ks)
  no_grid ks are = ap not (none ks are)
    where
      none : (ks : List ℕ) → AllByRecursion (Grid false) ks → list_any (has_matrix slots) ks ≡ false
      none [] are = refl
      none (k ∷ ks) are = ap (λ (b : Bool). b || list_any (has_matrix slots) ks) are.0 ∙ none ks are.1

  pub value_side : {m : Bool} (ks : List ℕ) → Value m ks → IsTrue (is_side slots ks)
  value_side [] v = refl
  value_side (k ∷ []) v = refl
  value_side (k ∷ j ∷ ks) v = v.frame

  -- what is of an expression is not among what is of others
  pub none_shared : (n : ℕ) (os rs : List ℕ) → AllByRecursion (At n) os → AllByRecursion (Off n) rs → IsTrue (not (list_any (is_one_of rs) os))
  none_shared n os rs own off = ap not (none os own)
    where
      apart : (o : ℕ) → At n o → (rs : List ℕ) → AllByRecursion (Off n) rs → AllByRecursion (λ r. r ≢ o) rs
      apart o at [] off = tt
      apart o at (r ∷ rs) off = (λ e. off.0 (ap (λ (k : ℕ). (slot_at slots k).node) e ∙ at), apart o at rs off.1)

      none : (os : List ℕ) → AllByRecursion (At n) os → list_any (is_one_of rs) os ≡ false
      none [] own = refl
      none (o ∷ os) own = ap (λ (b : Bool). b || list_any (is_one_of rs) os) (not_one_of rs o (apart o own.0 rs off)) ∙ none os own.1

  -- ---- values

  columns_all : (P : ℕ → Type 0) (made : ℕ → Unknown) (a w : ℕ) → ((c : ℕ) → a ≤ c → c < a + w → P (slot (made c))) → AllByRecursion P (map slot (map made (range_with_len a w)))
  columns_all P made a zero each = tt
  columns_all P made a (suc w) each = (each a (omega arith) (omega arith), columns_all P made (a + 1) w (λ c least less. each c (omega (arith, least)) (omega (arith, less))))

  columns_distinct : (made : ℕ → Unknown) (a w : ℕ) → ((c d : ℕ) → c < a + w → d < a + w → slot (made c) ≡ slot (made d) → c ≡ d) → IsTrue (are_distinct (map slot (map made (range_with_len a w))))
  columns_distinct made a zero one = refl
  columns_distinct made a (suc w) one =
      and_from _ _
      (ap not (not_one_of (map slot (map made (range_with_len (a + 1) w))) (slot (made a))
      (columns_all (λ j. j ≢ slot (made a)) made (a + 1) w (λ c least less e. let same : c ≡ a = one c a (omega (arith, less)) (omega arith) e in omega (arith, least, same)))))
      (columns_distinct made (a + 1) w (λ c d p q e. one c d (omega (arith, p)) (omega (arith, q)) e))

  pub fine_slot : (u : Unknown) → IsTrue (is_among (unknowns typed) u) → (slot_for (known_of typed) u).balanced ≡ false → Fine (slot u)
  fine_slot u is plain = (got_below slots (slot u) (slot_for (known_of typed) u) (are_found typed u is), ap (λ (s : Slot). s.balanced) (slot_here typed u is) ∙ plain)

  node_one : (n c d : ℕ) → of_node n c ≡ of_node n d → c ≡ d
  node_one n c d e = cc

  variable_one : (n c d : ℕ) → of_variable n c ≡ of_variable n d → c ≡ d
  variable_one n c d e = cc

  pub node_value : (n : ℕ) → Value (is_matrix (shape_at (known_of typed) n)) (map slot (at_node (known_of typed) n))
  unfolding slot_for
  node_value n = record {
    fine = columns_all Fine (of_node n) 0 (width (shape_at (known_of typed) n)) (λ c least less. fine_slot (of_node n c) (expressions_have typed n c (omega (arith, less))) refl);
    grid = columns_all (Grid (is_matrix (shape_at (known_of typed) n))) (of_node n) 0 (width (shape_at (known_of typed) n)) (λ c least less. ap (λ (s : Slot). s.matrix) (slot_here typed (of_node n c) (expressions_have typed n c (omega (arith, less)))));
    distinct = columns_distinct (of_node n) 0 (width (shape_at (known_of typed) n)) (λ c d p q e. node_one n c d (are_apart_slots typed (of_node n c) (of_node n d) (expressions_have typed n c (omega (arith, p))) e));
    frame = node_frame typed n;
  }

  pub node_at : (n : ℕ) → AllByRecursion (At n) (map slot (at_node (known_of typed) n))
  unfolding slot_for
  node_at n = columns_all (At n) (of_node n) 0 (width (shape_at (known_of typed) n)) (λ c least less. ap (λ (s : Slot). s.node) (slot_here typed (of_node n c) (expressions_have typed n c (omega (arith, less)))))

  other_node : (s : Slot) (j n : ℕ) → j ≢ n → s.node ≡ Some (record { 0 = j }) → s.node ≢ Some (record { 0 = n })
  other_node s j n apart e f = apart (ap (λ (i : NodeId). i.0) (one_number (record { 0 = j }) (record { 0 = n }) (sym e ∙ f)))
    where
      one_number : (a b : NodeId) → Some a ≡ Some b → a ≡ b
      one_number a b same = cc

  pub node_off : (j n : ℕ) → j ≢ n → AllByRecursion (Off n) (map slot (at_node (known_of typed) j))
  unfolding slot_for
  node_off j n apart =
      columns_all (Off n) (of_node j) 0 (width (shape_at (known_of typed) j))
      (λ c least less. other_node (slot_at slots (slot (of_node j c))) j n apart (ap (λ (s : Slot). s.node) (slot_here typed (of_node j c) (expressions_have typed j c (omega (arith, less))))))

  place_value : (v : ℕ) → Value (is_matrix (option_map (λ (var : Var). var.shape) (slice_get typed.vars v))) (map slot (map (of_variable v) (range_with_len 0 (width (option_map (λ (var : Var). var.shape) (slice_get typed.vars v))))))
  unfolding slot_for
  place_value v =
      let w = width (option_map (λ (var : Var). var.shape) (slice_get typed.vars v)) in
      record {
        fine = columns_all Fine (of_variable v) 0 w (λ c least less. fine_slot (of_variable v c) (variable_here typed v c (omega (arith, less))) refl);
        grid = columns_all (Grid (is_matrix (option_map (λ (var : Var). var.shape) (slice_get typed.vars v)))) (of_variable v) 0 w (λ c least less. ap (λ (s : Slot). s.matrix) (slot_here typed (of_variable v c) (variable_here typed v c (omega (arith, less)))));
        distinct = columns_distinct (of_variable v) 0 w (λ c d p q e. variable_one v c d (are_apart_slots typed (of_variable v c) (of_variable v d) (variable_here typed v c (omega (arith, p))) e));
        frame = place_frame typed v;
      }

  found_value : (place : Option ℕ)
      → Value (is_matrix (option_and_then (λ k. option_map (λ (var : Var). var.shape) (slice_get typed.vars k)) place)) (map slot (at_variable place (option_and_then (λ k. option_map (λ (var : Var). var.shape) (slice_get typed.vars k)) place)))
  found_value None = no_value
  found_value (Some v) = place_value v

  pub named_value : (x : List ℕ) → Value (is_matrix (shape_named (known_of typed) x)) (map slot (arrays_named (known_of typed) x))
  named_value x = found_value (variable_named (known_of typed) x)
