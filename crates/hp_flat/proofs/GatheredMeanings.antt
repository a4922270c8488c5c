-- What is made of a list of arrays: a matrix of rows, and a frame of columns.
use Rattle.std.proofs.Common.{◌≡◌, ℕ, suc, ◌+◌, ◌*◌, ◌≤◌, ℤ, false, if◌then◌else◌, Bool, true, codes, List, [], ◌∷◌, ◌++◌, map, length, Option, Result, Ok, Err, refl, sym, ap, subst, ◌∙◌, arith}
use Rattle.std.proofs.lemmas.List.{length-map}
use Rattle.std.specs.List.{AllByRecursion, range_with_len}
use Rattle.hp_word.specs.declared.matrix.Matrix.{Matrix as Grid}
use Rattle.hp_word.specs.declared.name.Name.{Name}
use Rattle.hp_word.specs.declared.order.Order.{Order}
use Rattle.hp_word.specs.declared.place.Place.{Place}
use Rattle.hp_word.specs.declared.place.Trap.{Trap}
use Rattle.hp_word.specs.declared.place.TrapKind.TheVariants.{Mismatch}
use Rattle.hp_word.specs.declared.table.Table.{Table}
use Rattle.hp_word.specs.Lengths.{trap}
use Rattle.hp_word.specs.MatrixRules.{stack}
use Rattle.hp_word.specs.RowRules.{are_level, level}
use Rattle.hp_word.specs.Runs.{State, Ran}
use Rattle.hp_script.specs.declared.typed.Shape.{Shape}
use Rattle.hp_script.specs.Functions.{function_named, scalar_named, fold_named, array_named, frame_named}
use Rattle.hp_script.specs.Mirror.{Head, Tree, Args, call}
use Rattle.hp_script.specs.Nodes.{nodes_in_args}
use Rattle.hp_script.specs.Scope.{Scope as Point}
use Rattle.hp_script.specs.Shaped.{AreGiven, no_more_given, one_given}
use Rattle.hp_meaning.specs.declared.seen.Seen.{Seen}
use Rattle.hp_meaning.specs.declared.value.Column.{Column}
use Rattle.hp_meaning.specs.declared.value.Value.{Value}
use Rattle.hp_meaning.specs.declared.value.Value.TheVariants.{Frame}
use Rattle.hp_meaning.specs.FrameRules.{cells_of, framed}
use Rattle.hp_meaning.specs.MatrixRules.{gridded, stacked}
use Rattle.hp_meaning.specs.Outcomes.{Gives, also, told, Outcome, tick, followed, ended}
use Rattle.hp_meaning.specs.Scopes.{Scope}
use Rattle.hp_meaning.specs.ValueOf.{value, parts, called_as, rows_among, columns_among}
use Rattle.hp_program.specs.Programs.{Prog, run}
use Rattle.hp_program.proofs.Replaced.{run_joined}
use Rattle.hp_air.specs.declared.slot.Slot.{Slot}
use Rattle.hp_air.specs.declared.what.Op.{Op}
use Rattle.hp_air.specs.declared.what.What.TheVariants as what
use Rattle.hp_air.specs.Meaning.{does, units, frame_made}
use Rattle.hp_air.specs.Unknowns.{Columns, of_node, at_node, arguments_of, number_of, width, all}
use Rattle.hp_air.specs.Wholes.{cells, Env, lists_at}
use Rattle.hp_flat.specs.Flat.{flat, flat_among}
use Rattle.hp_flat.specs.FlatCalls.{code_of, call_code, named_call}
use Rattle.hp_flat.specs.Homes.{Homes, slot_of, slots_of}
use Rattle.hp_flat.specs.Standing.{ComesToValue, comes_to_none}
use Rattle.hp_flat.proofs.FrameSteps.{HasFrame, frame_step}
use Rattle.hp_flat.proofs.KeptHomes.{Differ, IsNotOf, AreOfScript, within_same, within_behind, within_first}
use Rattle.hp_flat.proofs.LastSteps.{AreApart, d, matrix_step, last_trap}
use Rattle.hp_flat.proofs.ListMeanings.{HasArray, IsOwn, Ends}
use Rattle.hp_flat.proofs.ManyOperands.{AllMean, rows_run, columns_run, many_operands}
use Rattle.hp_flat.proofs.OperandRuns.{Ready}
use Rattle.hp_flat.proofs.ToldTypes.{ToldGiven}
use Rattle.hp_flat.proofs.WordMeanings.{g, Means}

same_lists : (lists : List (List ℤ)) → map (λ (cells : List ℤ). cells) lists ≡ lists
same_lists [] = refl
same_lists (xs ∷ lists) = ap (λ (rest : List (List ℤ)). xs ∷ rest) (same_lists lists)

-- as many slots as items
as_many_slots : {A : Type 0} (cells_in : A → List ℤ) (e : Env) (ks : List ℕ) (items : List A) → lists_at e ks ≡ map cells_in items → length ks ≡ length items
as_many_slots cells_in e ks items lists = sym (length-map ks (λ (k : ℕ). cells (e.slots k))) ∙ (ap length lists ∙ length-map items cells_in)

module _ (h : Homes) (slots : List Slot) (tables : List Table) (orders : List Order) (apart : AreApart h) where
  -- ---- stack

  stack_last : {z : Tree} {nodes : List ℕ} {n m : Seen} {s : State Env ℕ} {e : Env} {work : ℕ} (at : Place) (id : ℕ) (ks : List ℕ) (rows : List (List ℤ)) → lists_at e ks ≡ map (λ (cells : List ℤ). cells) rows
      → HasArray h z id → IsOwn h z id nodes → Ready h nodes n s m e work (4 * length rows + 16) → Ends h slots tables orders apart z n m s e work (stacked at rows) (code_of at (what.Stack (slot_of h (of_node id 0)) ks))
  unfolding stacked does units
  stack_last at id ks [] lists has is_own ready = comes_to_none
  stack_last {z = z} {n = n} {m = m} {s = s} {e = e} {work = work} at id ks (row ∷ rows) lists has is_own ready =
      let code = code_of at (what.Stack (slot_of h (of_node id 0)) ks) in
      let many : length ks ≡ suc (length rows) = as_many_slots (λ (cells : List ℤ). cells) e ks (row ∷ rows) lists in
      subst (λ (made : Result Grid Trap). Ends h slots tables orders apart z n m s e work (gridded (told made)) code) (ap (stack at) (lists ∙ same_lists (row ∷ rows)))
      (matrix_step h slots tables orders apart at (what.Stack (slot_of h (of_node id 0)) ks) id (stack at (lists_at e ks)) has.home has.among is_own.own is_own.others ready (omega (arith, many)) refl)

  -- `stack(a, b)`
  pub stack_means : (around : Columns) (v : Scope) (c : Head) (xs : Args) → HasArray h (call c (codes "stack") false xs) c.id → AreOfScript h v.vars → Differ (nodes_in_args xs) → AllByRecursion (IsNotOf h (nodes_in_args xs)) around.arrays
      → AllMean h slots tables orders around v xs → Means h slots tables orders around v (call c (codes "stack") false xs)
  unfolding value called_as function_named scalar_named fold_named array_named flat named_call call_code
  stack_means around v c xs has script differ away mean n s vars frame met =
      let z = call c (codes "stack") false xs in
      let last : Prog Op = code_of c.at (what.Stack (slot_of h (of_node c.id 0)) (slots_of h (all (arguments_of h.known xs)))) in
      let rule : List (List ℤ) → Seen → Outcome Value = λ rows. ended (stacked c.at rows) in
      subst (λ (ran : Ran Env ℕ). ComesToValue h z n s (followed (rows_among (parts (g h slots tables orders) xs) v (tick n)) rule) ran)
      (sym (run_joined (d h slots tables orders) (flat_among h around around xs) last s))
      (many_operands h rule (run (d h slots tables orders) last) (rows_run h slots tables orders around v xs script differ away mean (tick n) s vars frame met)
      (λ rows m e work lists ready. stack_last c.at c.id (slots_of h (all (arguments_of h.known xs))) rows lists has (record { own = within_first; others = within_behind within_same }) ready))

  -- ---- frames of columns

  frame_made_of : {z : Tree} {nodes : List ℕ} {n m : Seen} {s : State Env ℕ} {e : Env} {work left : ℕ} (at : Place) (id : ℕ) (ks : List ℕ) (names : List Name) (columns : List Column) (b : Bool)
      → number_of z ≡ id → HasFrame h id names → length columns ≡ length names → IsOwn h z id nodes → Ready h nodes n s m e work left → units slots (what.Frame (slots_of h (at_node h.known id)) ks) + 4 ≤ left
      → does tables orders at (what.Frame (slots_of h (at_node h.known id)) ks) e ≡ frame_made (slots_of h (at_node h.known id)) e (if b then Ok (cells_of columns) else Err (trap at Mismatch))
      → Ends h slots tables orders apart z n m s e work (also (told (if b then Ok (cells_of columns) else Err (trap at Mismatch))) (λ cells. Gives (Frame columns))) (code_of at (what.Frame (slots_of h (at_node h.known id)) ks))
  frame_made_of {e = e} at id ks names columns true number has many is_own ready enough does_it =
      frame_step h slots tables orders apart at (what.Frame (slots_of h (at_node h.known id)) ks) id names columns e.executed e.bad number has many is_own ready enough refl does_it (let met = ready.met in met.executed) (let met = ready.met in met.bad)
  frame_made_of at id ks names columns false number has many is_own ready enough does_it =
      last_trap h slots tables orders at (what.Frame (slots_of h (at_node h.known id)) ks) (trap at Mismatch) ready (omega (arith, enough)) refl does_it

  frame_last : {z : Tree} {nodes : List ℕ} {n m : Seen} {s : State Env ℕ} {e : Env} {work : ℕ} (at : Place) (id : ℕ) (ks : List ℕ) (names : List Name) (columns : List Column) → lists_at e ks ≡ cells_of columns
      → number_of z ≡ id → HasFrame h id names → length columns ≡ length names → IsOwn h z id nodes → Ready h nodes n s m e work (4 * length columns + 16)
      → Ends h slots tables orders apart z n m s e work (framed at columns) (code_of at (what.Frame (slots_of h (at_node h.known id)) ks))
  unfolding framed does units level
  frame_last at id ks names [] lists number has many is_own ready = comes_to_none
  frame_last {e = e} at id ks names (c ∷ columns) lists number has many is_own ready =
      let counted : length ks ≡ suc (length columns) = as_many_slots (λ (c : Column). c.cells) e ks (c ∷ columns) lists in
      frame_made_of at id ks names (c ∷ columns) (are_level (cells_of (c ∷ columns))) number has many is_own ready (omega (arith, counted)) (ap (λ (l : List (List ℤ)). frame_made (slots_of h (at_node h.known id)) e (level at l)) lists)

  -- each given column is one array
  as_many_given : {p : Point} {before : List (List ℕ)} {xs : Args} {names : List Name} (given : AreGiven p before xs names) → ToldGiven h.known given → length (all (arguments_of h.known xs)) ≡ length names
  as_many_given no_more_given told = refl
  as_many_given (one_given {a = x} {rest = rest} fits new more) told =
      ap (λ (found : Option Shape). length (map (of_node (number_of x)) (range_with_len 0 (width found)) ++ all (arguments_of h.known rest))) told.0.0 ∙ ap suc (as_many_given more told.1)

  -- `DataFrame(c = a, d = b)`
  pub frame_means : (around : Columns) (v : Scope) (c : Head) (xs : Args) {p : Point} (names : List Name) (given : AreGiven p [] xs names) → ToldGiven h.known given → HasFrame h c.id names → AreOfScript h v.vars → Differ (nodes_in_args xs)
      → AllByRecursion (IsNotOf h (nodes_in_args xs)) around.arrays → AllMean h slots tables orders around v xs → Means h slots tables orders around v (call c (codes "DataFrame") false xs)
  unfolding value called_as function_named scalar_named fold_named array_named frame_named flat named_call call_code
  frame_means around v c xs names given told has script differ away mean n s vars frame met =
      let z = call c (codes "DataFrame") false xs in
      let ks : List ℕ = slots_of h (all (arguments_of h.known xs)) in
      let last : Prog Op = code_of c.at (what.Frame (slots_of h (at_node h.known c.id)) ks) in
      let rule : List Column → Seen → Outcome Value = λ columns. ended (framed c.at columns) in
      subst (λ (ran : Ran Env ℕ). ComesToValue h z n s (followed (columns_among (parts (g h slots tables orders) xs) v (tick n)) rule) ran)
      (sym (run_joined (d h slots tables orders) (flat_among h around around xs) last s))
      (many_operands h rule (run (d h slots tables orders) last) (columns_run h slots tables orders around v xs script differ away mean (tick n) s vars frame met)
      (λ columns m e work lists ready.
      frame_last c.at c.id ks names columns lists refl has
      (sym (as_many_slots (λ (c : Column). c.cells) e ks columns lists) ∙ (length-map (all (arguments_of h.known xs)) (slot_of h) ∙ as_many_given given told))
      (record { own = within_first; others = within_behind within_same }) ready))
