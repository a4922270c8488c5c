-- The operations of constructs on lists, where their operands stand: ranges, folds, one list behind another, and elements.
use Rattle.std.proofs.Common.{◌≡◌, ℕ, ◌≤◌, ℤ, List, [], ◌∷◌, Option, Some, None, Result, refl, ap, ap₂, subst, ◌∙◌}
use Rattle.hp_word.specs.declared.elem.Elem.TheVariants.{Input}
use Rattle.hp_word.specs.declared.fold.FoldKind.{FoldKind}
use Rattle.hp_word.specs.declared.order.Order.{Order}
use Rattle.hp_word.specs.declared.place.Place.{Place}
use Rattle.hp_word.specs.declared.place.Trap.{Trap}
use Rattle.hp_word.specs.declared.table.Table.{Table}
use Rattle.hp_word.specs.ListRules.{range_of, appended, folded_list, element_at, elements_at}
use Rattle.hp_word.specs.Runs.{State}
use Rattle.hp_script.specs.Mirror.{Tree}
use Rattle.hp_meaning.specs.declared.seen.Seen.{Seen}
use Rattle.hp_meaning.specs.declared.value.Kind.TheVariants.{Number}
use Rattle.hp_meaning.specs.declared.value.Value.{Value}
use Rattle.hp_meaning.specs.declared.value.Value.TheVariants.{List as Listed}
use Rattle.hp_meaning.specs.ListRules.{collected, concatenated, fold_kind, folded, indexed, indexed_by}
use Rattle.hp_meaning.specs.Operands.{is_kind, Cells, One}
use Rattle.hp_meaning.specs.Outcomes.{given, told}
use Rattle.hp_meaning.specs.WordRules.{listed, worded}
use Rattle.hp_air.specs.declared.slot.Slot.{Slot}
use Rattle.hp_air.specs.declared.what.What.TheVariants as what
use Rattle.hp_air.specs.Meaning.{does, units, reduced}
use Rattle.hp_air.specs.Unknowns.{Unknown, of_node}
use Rattle.hp_air.specs.Wholes.{Whole, Env, cells}
use Rattle.hp_flat.specs.FlatCalls.{code_of, of_array, of_arrays}
use Rattle.hp_flat.specs.Homes.{Homes, slot_of, word_at, word_of}
use Rattle.hp_flat.specs.Standing.{Stands, a_word, an_array, a_matrix, a_frame, comes_to_none}
use Rattle.hp_flat.proofs.ElementLoops.{fold_is}
use Rattle.hp_flat.proofs.KeptHomes.{word_stands}
use Rattle.hp_flat.proofs.LastSteps.{AreApart, word_step, array_step}
use Rattle.hp_flat.proofs.ListMeanings.{IsOwn, HasArray, Ends, array_of_kind}
use Rattle.hp_flat.proofs.OperandRuns.{Ready}
use Rattle.hp_flat.proofs.WordMeanings.{of_two_words}

module _ (h : Homes) (slots : List Slot) (tables : List Table) (orders : List Order) (apart : AreApart h) where
  -- the numbers from one up to another
  pub collect_last : {z : Tree} {nodes : List ℕ} {n m : Seen} {s : State Env ℕ} {e : Env} {work left : ℕ} (at : Place) (id : ℕ) (us vs : List Unknown) (w q : ℕ) (a b : Value) → Stands h e us w a → Stands h e vs q b
      → HasArray h z id → IsOwn h z id nodes → Ready h nodes n s m e work left → 5 ≤ left
      → Ends h slots tables orders apart z n m s e work (collected at a b) (code_of at (what.Range (slot_of h (of_node id 0)) w q))
  unfolding collected does units
  collect_last {z = z} {n = n} {m = m} {s = s} {e = e} {work = work} at id us vs w q a b first second has is_own ready enough =
      let code = code_of at (what.Range (slot_of h (of_node id 0)) w q) in
      of_two_words (λ answer. Ends h slots tables orders apart z n m s e work answer code) Number a b (λ x y. listed Number (told (range_of at x y))) comes_to_none
      (λ k j x y left_is right_is.
      let x_is : e.words w ≡ x = word_stands h (subst (λ (c : Value). Stands h e us w c) left_is first) in
      let y_is : e.words q ≡ y = word_stands h (subst (λ (c : Value). Stands h e vs q c) right_is second) in
      subst (λ (made : Result (List ℤ) Trap). Ends h slots tables orders apart z n m s e work (listed Number (told made)) code) (ap₂ (λ (x y : ℤ). range_of at x y) x_is y_is)
      (array_step h slots tables orders apart at (what.Range (slot_of h (of_node id 0)) w q) id Number (range_of at (e.words w) (e.words q)) has.home has.among is_own.own is_own.others ready enough refl))

  -- the fold of a list
  pub fold_last : {z : Tree} {nodes : List ℕ} {n m : Seen} {s : State Env ℕ} {e : Env} {work left : ℕ} (kind : FoldKind) (at : Place) (id : ℕ) (us : List Unknown) (w : ℕ) (a : Value) → Stands h e us w a
      → word_of h z ≡ word_at h id → IsOwn h z id nodes → Ready h nodes n s m e work left → 7 ≤ left
      → Ends h slots tables orders apart z n m s e work (folded kind at a) (of_array us (λ array. code_of at (what.Reduce (word_at h id) kind (slot_of h array) (Input 0))))
  unfolding folded does units
  fold_last {z = z} {n = n} {m = m} {s = s} {e = e} {work = work} kind at id us w a (an_array {u = u} {kind = k} {xs = xs} is) home is_own ready enough =
      let code = code_of at (what.Reduce (word_at h id) kind (slot_of h u) (Input 0)) in
      let held = cells (e.slots (slot_of h u)) in
      let told_is : reduced at e.words kind held (Input 0) ≡ folded_list kind at xs = fold_is e.words at kind held ∙ ap (λ (whole : Whole). folded_list kind at (cells whole)) is in
      array_of_kind (λ (found : Option (List ℤ)). Ends h slots tables orders apart z n m s e work (given found (λ xs. worded (fold_kind kind) (told (folded_list kind at xs)))) code) (is_kind (fold_kind kind) k) (Some xs) None
      (subst (λ (made : Result ℤ Trap). Ends h slots tables orders apart z n m s e work (worded (fold_kind kind) (told made)) code) told_is
      (word_step h slots tables orders at (what.Reduce (word_at h id) kind (slot_of h u) (Input 0)) id (fold_kind kind) (reduced at e.words kind held (Input 0)) home is_own.own is_own.others ready enough refl))
      comes_to_none
  fold_last kind at id us w a (a_word is) home is_own ready enough = comes_to_none
  fold_last kind at id us w a (a_matrix is) home is_own ready enough = comes_to_none
  fold_last kind at id us w a (a_frame stand) home is_own ready enough = comes_to_none

  -- one list behind another
  pub vcat_last : {z : Tree} {nodes : List ℕ} {n m : Seen} {s : State Env ℕ} {e : Env} {work left : ℕ} (at : Place) (id : ℕ) (us vs : List Unknown) (w q : ℕ) (a b : Value) → Stands h e us w a → Stands h e vs q b
      → HasArray h z id → IsOwn h z id nodes → Ready h nodes n s m e work left → 7 ≤ left
      → Ends h slots tables orders apart z n m s e work (concatenated at a b) (of_arrays us vs (λ u v. code_of at (what.Concat (slot_of h (of_node id 0)) (slot_of h u) (slot_of h v))))
  unfolding concatenated does units
  vcat_last {z = z} {n = n} {m = m} {s = s} {e = e} {work = work} at id us vs w q a b (an_array {u = u} {kind = k} {xs = xs} is) (an_array {u = v} {kind = j} {xs = ys} other) has is_own ready enough =
      let code = code_of at (what.Concat (slot_of h (of_node id 0)) (slot_of h u) (slot_of h v)) in
      array_of_kind (λ (found : Option (List ℤ)). Ends h slots tables orders apart z n m s e work (given found (λ ys. listed k (told (appended at xs ys)))) code) (is_kind k j) (Some ys) None
      (subst (λ (made : Result (List ℤ) Trap). Ends h slots tables orders apart z n m s e work (listed k (told made)) code) (ap₂ (λ (p q : Whole). appended at (cells p) (cells q)) is other)
      (array_step h slots tables orders apart at (what.Concat (slot_of h (of_node id 0)) (slot_of h u) (slot_of h v)) id k (appended at (cells (e.slots (slot_of h u))) (cells (e.slots (slot_of h v)))) has.home has.among is_own.own is_own.others ready enough refl))
      comes_to_none
  vcat_last at id us vs w q a b (an_array is) (a_word other) has is_own ready enough = comes_to_none
  vcat_last at id us vs w q a b (an_array is) (a_matrix other) has is_own ready enough = comes_to_none
  vcat_last at id us vs w q a b (an_array is) (a_frame other) has is_own ready enough = comes_to_none
  vcat_last at id us vs w q a b (a_word is) other has is_own ready enough = comes_to_none
  vcat_last at id us vs w q a b (a_matrix is) other has is_own ready enough = comes_to_none
  vcat_last at id us vs w q a b (a_frame is) other has is_own ready enough = comes_to_none

  -- an element of a list
  pub element_last : {z : Tree} {nodes : List ℕ} {n m : Seen} {s : State Env ℕ} {e : Env} {work left : ℕ} (at : Place) (id : ℕ) (us : List Unknown) (w q : ℕ) (a b : Value) → Stands h e us w a → Stands h e [] q b
      → word_of h z ≡ word_at h id → IsOwn h z id nodes → Ready h nodes n s m e work left → 5 ≤ left
      → Ends h slots tables orders apart z n m s e work (indexed at a b) (of_array us (λ array. code_of at (what.At (word_at h id) (slot_of h array) q)))
  unfolding indexed indexed_by does units
  element_last {z = z} {n = n} {m = m} {s = s} {e = e} {work = work} at id us w q a b (an_array {u = u} {kind = k} {xs = xs} is) (a_word {kind = j} {x = i} there) home is_own ready enough =
      let code = code_of at (what.At (word_at h id) (slot_of h u) q) in
      array_of_kind (λ (found : Option Cells). Ends h slots tables orders apart z n m s e work (given found (indexed_by at k xs)) code) (is_kind Number j) (Some (One i)) None
      (subst (λ (made : Result ℤ Trap). Ends h slots tables orders apart z n m s e work (worded k (told made)) code) (ap₂ (λ (p : Whole) (i : ℤ). element_at at (cells p) i) is there)
      (word_step h slots tables orders at (what.At (word_at h id) (slot_of h u) q) id k (element_at at (cells (e.slots (slot_of h u))) (e.words q)) home is_own.own is_own.others ready enough refl))
      comes_to_none
  element_last at id us w q a b (an_array is) (a_frame other) home is_own ready enough = comes_to_none
  element_last at id us w q a b (a_word is) other home is_own ready enough = comes_to_none
  element_last at id us w q a b (a_matrix is) other home is_own ready enough = comes_to_none
  element_last at id us w q a b (a_frame is) other home is_own ready enough = comes_to_none

  -- the elements at the positions of a second list
  pub elements_last : {z : Tree} {nodes : List ℕ} {n m : Seen} {s : State Env ℕ} {e : Env} {work left : ℕ} (at : Place) (id : ℕ) (us vs : List Unknown) (w q : ℕ) (a : Value) (positions : List ℤ)
      → Stands h e us w a → Stands h e vs q (Listed Number positions)
      → HasArray h z id → IsOwn h z id nodes → Ready h nodes n s m e work left → 5 ≤ left
      → Ends h slots tables orders apart z n m s e work (indexed at a (Listed Number positions)) (of_array us (λ array. elim vs [
        | [] ↦ code_of at (what.At (word_at h id) (slot_of h array) q)
        | (k ∷ _) ↦ code_of at (what.Pick (slot_of h (of_node id 0)) (slot_of h array) (slot_of h k))
      ]))
  unfolding indexed indexed_by does units
  elements_last {z = z} {n = n} {m = m} {s = s} {e = e} {work = work} at id us vs w q a positions (an_array {u = u} {kind = k} {xs = xs} is) (an_array {u = v} there) has is_own ready enough =
      let code = code_of at (what.Pick (slot_of h (of_node id 0)) (slot_of h u) (slot_of h v)) in
      subst (λ (made : Result (List ℤ) Trap). Ends h slots tables orders apart z n m s e work (listed k (told made)) code) (ap₂ (λ (p q : Whole). elements_at at (cells p) (cells q)) is there)
      (array_step h slots tables orders apart at (what.Pick (slot_of h (of_node id 0)) (slot_of h u) (slot_of h v)) id k (elements_at at (cells (e.slots (slot_of h u))) (cells (e.slots (slot_of h v)))) has.home has.among is_own.own is_own.others ready enough refl)
  elements_last at id us vs w q a positions (a_word is) other has is_own ready enough = comes_to_none
  elements_last at id us vs w q a positions (a_matrix is) other has is_own ready enough = comes_to_none
  elements_last at id us vs w q a positions (a_frame is) other has is_own ready enough = comes_to_none
