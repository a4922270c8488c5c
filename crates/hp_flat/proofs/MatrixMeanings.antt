-- What rows and products of matrices come to, and the elements at several positions of a list.
use Rattle.std.proofs.Common.{◌≡◌, ℕ, ℤ, Bool, true, false, if◌then◌else◌, codes, bytes_eq, List, [], ◌∷◌, ◌++◌, Option, Some, None, refl, sym, ap, subst, ◌∙◌, arith}
use Rattle.std.proofs.lemmas.Option.{none-some}
use Rattle.std.proofs.lemmas.Slice.Eq.{bytes_eq-Decides}
use Rattle.hp_word.specs.declared.matrix.Matrix.{Matrix as Grid}
use Rattle.hp_word.specs.declared.order.Order.{Order}
use Rattle.hp_word.specs.declared.table.Table.{Table}
use Rattle.hp_word.specs.Runs.{State}
use Rattle.hp_script.specs.declared.tree.BinOp.TheVariants.{Mul}
use Rattle.hp_script.specs.declared.typed.Shape.TheVariants as shape
use Rattle.hp_script.specs.Functions.{function_named, scalar_named, fold_named, array_named}
use Rattle.hp_script.specs.Mirror.{Head, Tree, binary, index, call, plain, none}
use Rattle.hp_script.specs.Nodes.{nodes_in}
use Rattle.hp_meaning.specs.declared.seen.Seen.{Seen}
use Rattle.hp_meaning.specs.declared.value.Kind.TheVariants.{Number}
use Rattle.hp_meaning.specs.declared.value.Value.{Value}
use Rattle.hp_meaning.specs.declared.value.Value.TheVariants.{List as Listed, Matrix}
use Rattle.hp_meaning.specs.Fitting.{HasShape as IsOf, numbers, a_matrix}
use Rattle.hp_meaning.specs.ArgumentShapes.{one_plain, two_plain}
use Rattle.hp_meaning.specs.ListRules.{indexed}
use Rattle.hp_meaning.specs.MatrixRules.{row_value, flipped_value}
use Rattle.hp_meaning.specs.Outcomes.{Outcome, tick, followed, ended}
use Rattle.hp_meaning.specs.Scopes.{Scope}
use Rattle.hp_meaning.specs.ValueOf.{Plain, Meaning, value, parts, called_as, two, flipped, transposed_part, operated, strict_operands, flipped_operands, operator_value, index_operands}
use Rattle.hp_program.specs.Programs.{Prog, run, joined, stop}
use Rattle.hp_program.proofs.Replaced.{joined_assoc}
use Rattle.hp_air.specs.declared.slot.Slot.{Slot}
use Rattle.hp_air.specs.declared.what.Op.{Op}
use Rattle.hp_air.specs.declared.what.What.TheVariants as what
use Rattle.hp_air.specs.Unknowns.{Unknown, Columns, of_node, at_node, arrays_at}
use Rattle.hp_air.specs.Wholes.{Env}
use Rattle.hp_flat.specs.Flat.{flat, flat_among}
use Rattle.hp_flat.specs.FlatCalls.{code_of, of_array, of_arrays, call_code, named_call, index_code, binary_code, product_code, calculated_code}
use Rattle.hp_flat.specs.Homes.{Homes, slot_of, word_of}
use Rattle.hp_flat.specs.Standing.{ComesToValue}
use Rattle.hp_flat.proofs.ArrayCalls.{two_call}
use Rattle.hp_flat.proofs.CallMeanings.{arguments_within}
use Rattle.hp_flat.proofs.KeptHomes.{Within, within_same, within_left, within_right, within_both, within_behind, within_first}
use Rattle.hp_flat.proofs.LastSteps.{AreApart, d}
use Rattle.hp_flat.proofs.ListMeanings.{HasArray}
use Rattle.hp_flat.proofs.ListOperations.{elements_last}
use Rattle.hp_flat.proofs.MatrixOperations.{row_last, product_last, transposed_last}
use Rattle.hp_flat.proofs.OperandRuns.{StandsAt, Ready}
use Rattle.hp_flat.proofs.WordMeanings.{g, Means, Sides, two_means, sides_within, Yields, known_means}

-- a value is an array of numbers, or a matrix
data IsNumbers : Value → Type 0 where
  is_numbers : (xs : List ℤ) → IsNumbers (Listed Number xs)

numbers_of : {a : Value} → IsOf shape.Ints a → IsNumbers a
numbers_of (numbers xs) = is_numbers xs

data IsMatrix : Value → Type 0 where
  is_matrix : (m : Grid) → IsMatrix (Matrix m)

matrix_of_shape : {a : Value} → IsOf shape.Matrix a → IsMatrix a
matrix_of_shape (a_matrix m) = is_matrix m

-- ---- the right side of a product

-- a call of `transpose` is turned
turned : (f : List ℕ) (y : Tree) (m : Meaning) → f ≡ codes "transpose" → transposed_part (function_named false f) (Plain y m ∷ []) ≡ None → ⊥
unfolding function_named scalar_named fold_named array_named
turned f y m is not = none-some m (sym (subst (λ (f : List ℕ). transposed_part (function_named false f) (Plain y m ∷ []) ≡ None) is not))

-- two parts with nothing behind them
two_stops : {O : Type 0} (p last : Prog O) → joined (joined (joined p stop) stop) last ≡ joined p last
unfolding joined
two_stops p last = joined_assoc (joined p stop) stop last ∙ joined_assoc p stop last

turned_within : (n k : ℕ) (xs ys : List ℕ) → Within (xs ++ ys) (xs ++ n ∷ k ∷ (ys ++ []))
turned_within n k xs ys = within_both (within_left (n ∷ k ∷ (ys ++ [])) within_same) (within_right xs (within_behind (within_behind (within_left [] within_same))))

module _ (h : Homes) (slots : List Slot) (tables : List Table) (orders : List Order) (apart : AreApart h) where
  -- `row(M, i)`
  pub row_means : (around : Columns) (v : Scope) (n : Head) (x y : Tree) → HasArray h (call n (codes "row") false (plain x (plain y none))) n.id → Sides h slots tables orders around v x y
      → Means h slots tables orders around v x → Means h slots tables orders around v y → Means h slots tables orders around v (call n (codes "row") false (plain x (plain y none)))
  unfolding value parts called_as two function_named scalar_named fold_named array_named flat flat_among named_call call_code one_plain two_plain
  row_means around v n x y has sides first second m s vars frame met =
      two_call h slots tables orders around v x y (row_value n.at) (of_array (arrays_at h.known x) (λ m. code_of n.at (what.Row (slot_of h (of_node n.id 0)) (slot_of h m) (word_of h y)))) sides first second
      (λ n0 k st a b e work left_stands right_stands ready.
      row_last h slots tables orders apart n.at n.id (arrays_at h.known x) (arrays_at h.known y) (word_of h x) (word_of h y) a b left_stands right_stands has
      (record { own = within_first; others = arguments_within h slots tables orders n.id (nodes_in x) (nodes_in y) }) ready (omega arith))
      m s vars frame met

  elements_behind : {n m : Seen} {s : State Env ℕ} {e : Env} {work : ℕ} (c : Head) (x i : Tree) (a b : Value) → IsNumbers b → StandsAt h e x a → StandsAt h e i b → HasArray h (index c x i) c.id
      → Ready h (nodes_in x ++ nodes_in i) n s m e work 24
      → ComesToValue h (index c x i) n s (ended (indexed c.at a b) m) (run (d h slots tables orders) (index_code h c x i) (record s { env = e; seen = work }))
  unfolding index_code
  elements_behind c x i a b (is_numbers xs) left_stands right_stands has ready =
      elements_last h slots tables orders apart c.at c.id (arrays_at h.known x) (arrays_at h.known i) (word_of h x) (word_of h i) a xs left_stands right_stands has
      (record { own = within_right (nodes_in x) within_first; others = sides_within h slots tables orders c.id (nodes_in x) (nodes_in i) }) ready (omega arith)

  -- `a[k]`, where the index is an array of numbers
  pub elements_means : (around : Columns) (v : Scope) (n : Head) (x i : Tree) → HasArray h (index n x i) n.id → Yields h slots tables orders (IsOf shape.Ints) v i → Sides h slots tables orders around v x i
      → Means h slots tables orders around v x → Means h slots tables orders around v i → Means h slots tables orders around v (index n x i)
  unfolding value index_operands flat
  elements_means around v n x i has positions sides first second m s vars frame met =
      known_means h slots tables orders (λ a. Unit {0}) (IsOf shape.Ints) around v x i (λ a b. ended (indexed n.at a b)) (index_code h n x i) sides (λ n k a is. tt) positions first second
      (λ n0 k st a b e work any of_numbers left_stands right_stands ready. elements_behind n x i a b (numbers_of of_numbers) left_stands right_stands has ready)
      m s vars frame met

  -- ---- products

  abbrev product_of : Head → Tree → List Unknown → Prog Op
  product_of n x vs = of_arrays (arrays_at h.known x) vs (λ a b. code_of n.at (what.Product (slot_of h (of_node n.id 0)) (slot_of h a) (slot_of h b)))

  by_name : (n m : Head) (f : List ℕ) (x y : Tree) → bytes_eq f (codes "transpose") ≡ false → product_code h n x (call m f false (plain y none)) ≡ product_of n x (at_node h.known m.id)
  unfolding product_code
  by_name n m f x y other =
      ap (λ (b : Bool). if b then of_arrays (arrays_at h.known x) (arrays_at h.known y) (λ a b. code_of n.at (what.ProductT (slot_of h (of_node n.id 0)) (slot_of h a) (slot_of h b))) else product_of n x (at_node h.known m.id)) other

  other_name : (f : List ℕ) (y : Tree) (m : Meaning) → transposed_part (function_named false f) (Plain y m ∷ []) ≡ None → bytes_eq f (codes "transpose") ≡ false
  other_name f y m not = by (bytes_eq f (codes "transpose")) refl
    where
      by : (b : Bool) → bytes_eq f (codes "transpose") ≡ b → bytes_eq f (codes "transpose") ≡ false
      by false e = e
      by true e = absurd (turned f y m ((bytes_eq-Decides f (codes "transpose")).0 e) not)

  product_is : (n : Head) (x y : Tree) → flipped (g h slots tables orders) y ≡ None → product_code h n x y ≡ product_of n x (arrays_at h.known y)
  unfolding product_code flipped parts
  product_is n x (call m f false (plain y none)) not = by_name n m f x y (other_name f y (value (g h slots tables orders) y) not)
  product_is n x _ not = refl

  product_behind : {n m : Seen} {s : State Env ℕ} {e : Env} {work : ℕ} (c : Head) (x y : Tree) (a b : Value) → IsMatrix a → StandsAt h e x a → StandsAt h e y b → HasArray h (binary c Mul false x y) c.id
      → Ready h (nodes_in x ++ nodes_in y) n s m e work 24
      → ComesToValue h (binary c Mul false x y) n s (ended (operator_value c.at Mul false a b) m)
      (run (d h slots tables orders) (elim (arrays_at h.known x) as (λ (l : List Unknown). Prog Op) [ [] ↦ calculated_code h c Mul x y | (_ ∷ _) ↦ product_of c x (arrays_at h.known y) ]) (record s { env = e; seen = work }))
  unfolding operator_value
  product_behind c x y a b (is_matrix held) left_stands right_stands has ready =
      product_last h slots tables orders apart c.at c.id (arrays_at h.known x) (arrays_at h.known y) (word_of h x) (word_of h y) held b (calculated_code h c Mul x y) left_stands right_stands has
      (record { own = within_right (nodes_in x) within_first; others = sides_within h slots tables orders c.id (nodes_in x) (nodes_in y) }) ready (omega arith)

  -- `A * B`
  pub product_means : (around : Columns) (v : Scope) (n : Head) (x y : Tree) → HasArray h (binary n Mul false x y) n.id → Yields h slots tables orders (IsOf shape.Matrix) v x → flipped (g h slots tables orders) y ≡ None
      → Sides h slots tables orders around v x y → Means h slots tables orders around v x → Means h slots tables orders around v y → Means h slots tables orders around v (binary n Mul false x y)
  unfolding value operated strict_operands flat binary_code
  product_means around v n x y has left not sides first second m s vars frame met =
      let gs = g h slots tables orders in
      let z = binary n Mul false x y in
      let words = calculated_code h n Mul x y in
      subst (λ (o : Outcome Value). ComesToValue h z m s o (run (d h slots tables orders) (flat h around z) s)) (sym (ap (λ (found : Option Meaning). operated n.at Mul false (value gs x) (value gs y) found v (tick m)) not))
      (subst (λ (p : Prog Op). ComesToValue h z m s (followed (value gs x v (tick m)) (λ a k. followed (value gs y v k) (λ b. ended (operator_value n.at Mul false a b))))
      (run (d h slots tables orders) (joined (flat h around x) (joined (flat h around y) (elim (arrays_at h.known x) as (λ (l : List Unknown). Prog Op) [ [] ↦ words | (_ ∷ _) ↦ p ]))) s)) (sym (product_is n x y not))
      (known_means h slots tables orders (IsOf shape.Matrix) (λ b. Unit {0}) around v x y (λ a b. ended (operator_value n.at Mul false a b))
      (elim (arrays_at h.known x) as (λ (l : List Unknown). Prog Op) [ [] ↦ words | (_ ∷ _) ↦ product_of n x (arrays_at h.known y) ]) sides left (λ n k b is. tt) first second
      (λ n0 k st a b e work of_it any left_stands right_stands ready. product_behind n x y a b (matrix_of_shape of_it) left_stands right_stands has ready)
      m s vars frame met))

  -- `A * transpose(B)`
  pub transposed_means : (around : Columns) (v : Scope) (n k : Head) (x y : Tree) → HasArray h (binary n Mul false x (call k (codes "transpose") false (plain y none))) n.id → Sides h slots tables orders around v x y
      → Means h slots tables orders around v x → Means h slots tables orders around v y → Means h slots tables orders around v (binary n Mul false x (call k (codes "transpose") false (plain y none)))
  unfolding value flipped parts operated flipped_operands flat flat_among binary_code product_code named_call call_code function_named scalar_named fold_named array_named
  transposed_means around v n k x y has sides first second m s vars frame met =
      let gs = g h slots tables orders in
      let z = binary n Mul false x (call k (codes "transpose") false (plain y none)) in
      let words = calculated_code h n Mul x (call k (codes "transpose") false (plain y none)) in
      let last = elim (arrays_at h.known x) as (λ (l : List Unknown). Prog Op)
      [ [] ↦ words | (_ ∷ _) ↦ of_arrays (arrays_at h.known x) (arrays_at h.known y) (λ a b. code_of n.at (what.ProductT (slot_of h (of_node n.id 0)) (slot_of h a) (slot_of h b))) ] in
      subst (λ (p : Prog Op). ComesToValue h z m s (followed (value gs x v (tick m)) (λ a k. followed (value gs y v k) (λ b. ended (flipped_value n.at a b)))) (run (d h slots tables orders) (joined (flat h around x) p) s))
      (sym (two_stops (flat h around y) last))
      (two_means h slots tables orders around v x y (flipped_value n.at) last sides first second
      (λ n0 j st a b e work left_stands right_stands ready.
      transposed_last h slots tables orders apart n.at n.id (arrays_at h.known x) (arrays_at h.known y) (word_of h x) (word_of h y) a b words left_stands right_stands has
      (record { own = within_right (nodes_in x) within_first; others = turned_within n.id k.id (nodes_in x) (nodes_in y) }) ready (omega arith))
      m s vars frame met)
