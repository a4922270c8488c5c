-- The operations of constructs on matrices, where their operands stand: rows and products.
use Rattle.std.proofs.Common.{ℕ, ◌≤◌, ℤ, List, [], ◌∷◌, Option, Some, None, Result, refl, ap₂, subst}
use Rattle.hp_word.specs.declared.matrix.Matrix.{Matrix as Grid}
use Rattle.hp_word.specs.declared.order.Order.{Order}
use Rattle.hp_word.specs.declared.place.Place.{Place}
use Rattle.hp_word.specs.declared.place.Trap.{Trap}
use Rattle.hp_word.specs.declared.table.Table.{Table}
use Rattle.hp_word.specs.MatrixRules.{product, matrix_row, transposed}
use Rattle.hp_word.specs.Runs.{State}
use Rattle.hp_script.specs.Mirror.{Tree}
use Rattle.hp_meaning.specs.declared.seen.Seen.{Seen}
use Rattle.hp_meaning.specs.declared.value.Kind.TheVariants.{Number}
use Rattle.hp_meaning.specs.declared.value.Value.{Value}
use Rattle.hp_meaning.specs.declared.value.Value.TheVariants.{Matrix}
use Rattle.hp_meaning.specs.MatrixRules.{gridded, row_value, multiplied, flipped_value}
use Rattle.hp_meaning.specs.Operands.{is_kind, as_matrix}
use Rattle.hp_meaning.specs.Outcomes.{given, told}
use Rattle.hp_meaning.specs.WordRules.{listed}
use Rattle.hp_program.specs.Programs.{Prog}
use Rattle.hp_air.specs.declared.slot.Slot.{Slot}
use Rattle.hp_air.specs.declared.what.Op.{Op}
use Rattle.hp_air.specs.declared.what.What.TheVariants as what
use Rattle.hp_air.specs.Meaning.{does, units}
use Rattle.hp_air.specs.Unknowns.{Unknown, of_node}
use Rattle.hp_air.specs.Wholes.{Whole, Env, grid}
use Rattle.hp_flat.specs.FlatCalls.{code_of, of_array, of_arrays}
use Rattle.hp_flat.specs.Homes.{Homes, slot_of}
use Rattle.hp_flat.specs.Standing.{Stands, a_word, an_array, a_matrix, a_frame, comes_to_none}
use Rattle.hp_flat.proofs.LastSteps.{AreApart, array_step, matrix_step}
use Rattle.hp_flat.proofs.ListMeanings.{IsOwn, HasArray, Ends, array_of_kind}
use Rattle.hp_flat.proofs.OperandRuns.{Ready}

module _ (h : Homes) (slots : List Slot) (tables : List Table) (orders : List Order) (apart : AreApart h) where
  -- a row of a matrix
  pub row_last : {z : Tree} {nodes : List ℕ} {n m : Seen} {s : State Env ℕ} {e : Env} {work left : ℕ} (at : Place) (id : ℕ) (us vs : List Unknown) (w q : ℕ) (a b : Value) → Stands h e us w a → Stands h e vs q b
      → HasArray h z id → IsOwn h z id nodes → Ready h nodes n s m e work left → 5 ≤ left
      → Ends h slots tables orders apart z n m s e work (row_value at a b) (of_array us (λ m. code_of at (what.Row (slot_of h (of_node id 0)) (slot_of h m) q)))
  unfolding row_value does units
  row_last {z = z} {n = n} {m = m} {s = s} {e = e} {work = work} at id us vs w q a b (a_matrix {u = u} {m = held} is) (a_word {kind = j} {x = i} there) has is_own ready enough =
      let code = code_of at (what.Row (slot_of h (of_node id 0)) (slot_of h u) q) in
      array_of_kind (λ (found : Option ℤ). Ends h slots tables orders apart z n m s e work (given found (λ i. listed Number (told (matrix_row at held i)))) code) (is_kind Number j) (Some i) None
      (subst (λ (made : Result (List ℤ) Trap). Ends h slots tables orders apart z n m s e work (listed Number (told made)) code) (ap₂ (λ (p : Whole) (i : ℤ). matrix_row at (grid p) i) is there)
      (array_step h slots tables orders apart at (what.Row (slot_of h (of_node id 0)) (slot_of h u) q) id Number (matrix_row at (grid (e.slots (slot_of h u))) (e.words q)) has.home has.among is_own.own is_own.others ready enough refl))
      comes_to_none
  row_last at id us vs w q a b (a_matrix is) (an_array other) has is_own ready enough = comes_to_none
  row_last at id us vs w q a b (a_matrix is) (a_matrix other) has is_own ready enough = comes_to_none
  row_last at id us vs w q a b (a_matrix is) (a_frame other) has is_own ready enough = comes_to_none
  row_last at id us vs w q a b (a_word is) other has is_own ready enough = comes_to_none
  row_last at id us vs w q a b (an_array is) other has is_own ready enough = comes_to_none
  row_last at id us vs w q a b (a_frame is) other has is_own ready enough = comes_to_none

  -- the product of two matrices; where the left side is none, other code stands there
  pub product_last : {z : Tree} {nodes : List ℕ} {n m : Seen} {s : State Env ℕ} {e : Env} {work left : ℕ} (at : Place) (id : ℕ) (us vs : List Unknown) (w q : ℕ) (held : Grid) (b : Value) (words : Prog Op)
      → Stands h e us w (Matrix held) → Stands h e vs q b → HasArray h z id → IsOwn h z id nodes → Ready h nodes n s m e work left → 5 ≤ left
      → Ends h slots tables orders apart z n m s e work (given (as_matrix b) (multiplied at held))
      (elim us as (λ (l : List Unknown). Prog Op) [ [] ↦ words | (_ ∷ _) ↦ of_arrays us vs (λ a b. code_of at (what.Product (slot_of h (of_node id 0)) (slot_of h a) (slot_of h b))) ])
  unfolding multiplied does units
  product_last {z = z} {n = n} {m = m} {s = s} {e = e} {work = work} at id us vs w q held b words (a_matrix {u = u} is) (a_matrix {u = v} other) has is_own ready enough =
      let code = code_of at (what.Product (slot_of h (of_node id 0)) (slot_of h u) (slot_of h v)) in
      subst (λ (made : Result Grid Trap). Ends h slots tables orders apart z n m s e work (gridded (told made)) code) (ap₂ (λ (p q : Whole). product at (grid p) (grid q)) is other)
      (matrix_step h slots tables orders apart at (what.Product (slot_of h (of_node id 0)) (slot_of h u) (slot_of h v)) id (product at (grid (e.slots (slot_of h u))) (grid (e.slots (slot_of h v)))) has.home has.among is_own.own is_own.others ready enough refl)
  product_last at id us vs w q held b words (a_matrix is) (a_word other) has is_own ready enough = comes_to_none
  product_last at id us vs w q held b words (a_matrix is) (an_array other) has is_own ready enough = comes_to_none
  product_last at id us vs w q held b words (a_matrix is) (a_frame other) has is_own ready enough = comes_to_none

  -- the product with a transposed matrix
  pub transposed_last : {z : Tree} {nodes : List ℕ} {n m : Seen} {s : State Env ℕ} {e : Env} {work left : ℕ} (at : Place) (id : ℕ) (us vs : List Unknown) (w q : ℕ) (a b : Value) (words : Prog Op)
      → Stands h e us w a → Stands h e vs q b → HasArray h z id → IsOwn h z id nodes → Ready h nodes n s m e work left → 7 ≤ left
      → Ends h slots tables orders apart z n m s e work (flipped_value at a b)
      (elim us as (λ (l : List Unknown). Prog Op) [ [] ↦ words | (_ ∷ _) ↦ of_arrays us vs (λ a b. code_of at (what.ProductT (slot_of h (of_node id 0)) (slot_of h a) (slot_of h b))) ])
  unfolding flipped_value multiplied does units
  transposed_last {z = z} {n = n} {m = m} {s = s} {e = e} {work = work} at id us vs w q a b words (a_matrix {u = u} is) (a_matrix {u = v} other) has is_own ready enough =
      let code = code_of at (what.ProductT (slot_of h (of_node id 0)) (slot_of h u) (slot_of h v)) in
      subst (λ (made : Result Grid Trap). Ends h slots tables orders apart z n m s e work (gridded (told made)) code) (ap₂ (λ (p q : Whole). product at (grid p) (transposed (grid q))) is other)
      (matrix_step h slots tables orders apart at (what.ProductT (slot_of h (of_node id 0)) (slot_of h u) (slot_of h v)) id (product at (grid (e.slots (slot_of h u))) (transposed (grid (e.slots (slot_of h v))))) has.home has.among is_own.own is_own.others ready enough refl)
  transposed_last at id us vs w q a b words (a_matrix is) (a_word other) has is_own ready enough = comes_to_none
  transposed_last at id us vs w q a b words (a_matrix is) (an_array other) has is_own ready enough = comes_to_none
  transposed_last at id us vs w q a b words (a_matrix is) (a_frame other) has is_own ready enough = comes_to_none
  transposed_last at id us vs w q a b words (a_word is) other has is_own ready enough = comes_to_none
  transposed_last at id us vs w q a b words (an_array is) other has is_own ready enough = comes_to_none
  transposed_last at id us vs w q a b words (a_frame is) other has is_own ready enough = comes_to_none
