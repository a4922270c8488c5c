-- What filters come to: the mask sees the columns of the frame, and the rows where it is true are kept.
use Rattle.std.proofs.Common.{◌≡◌, ℕ, ◌+◌, ◌*◌, ◌≤◌, ◌==◌, Bool, true, false, if◌then◌else◌, codes, List, map, length, Option, Some, None, Ok, Err, refl, sym, ap, ap₂, subst, ◌∙◌, ℤ, arith}
use Rattle.hp_word.specs.declared.name.Name.{Name}
use Rattle.hp_word.specs.declared.order.Order.{Order}
use Rattle.hp_word.specs.declared.place.Place.{Place}
use Rattle.hp_word.specs.declared.place.TrapKind.TheVariants.{Mismatch}
use Rattle.hp_word.specs.declared.table.Table.{Table}
use Rattle.hp_word.specs.Lengths.{trap}
use Rattle.hp_word.specs.RowRules.{filter_rows}
use Rattle.hp_word.specs.Runs.{State, Ran, behind}
use Rattle.hp_script.specs.declared.typed.Shape.{Shape}
use Rattle.hp_script.specs.declared.typed.Shape.TheVariants as shape
use Rattle.hp_script.specs.Functions.{function_named, scalar_named, fold_named, array_named, frame_named}
use Rattle.hp_script.specs.Mirror.{Head, Tree, call, plain, none}
use Rattle.hp_script.specs.Nodes.{nodes_in}
use Rattle.hp_meaning.specs.declared.seen.Seen.{Seen}
use Rattle.hp_meaning.specs.declared.value.Column.{Column}
use Rattle.hp_meaning.specs.declared.value.Kind.TheVariants.{Truth}
use Rattle.hp_meaning.specs.declared.value.Value.{Value}
use Rattle.hp_meaning.specs.declared.value.Value.TheVariants.{Frame}
use Rattle.hp_meaning.specs.Fitting.{names_of, HasShape as IsOf}
use Rattle.hp_meaning.specs.FrameRules.{cells_of, rows_of, changed, filtered}
use Rattle.hp_meaning.specs.Operands.{is_kind}
use Rattle.hp_meaning.specs.Outcomes.{Gives, Traps, given, tick, followed, ended}
use Rattle.hp_meaning.specs.Scopes.{Scope, within}
use Rattle.hp_meaning.specs.ValueOf.{value, parts, called_as, filter_call, filtered_by}
use Rattle.hp_program.specs.Programs.{Prog, run}
use Rattle.hp_air.specs.declared.slot.Slot.{Slot}
use Rattle.hp_air.specs.declared.what.Op.{Op}
use Rattle.hp_air.specs.declared.what.What.TheVariants as what
use Rattle.hp_air.specs.Meaning.{does, units, frame_made, silent}
use Rattle.hp_air.specs.Meaning as air
use Rattle.hp_air.specs.Unknowns.{Unknown, Columns, columns_of, at_node, arrays_at, number_of, shape_at}
use Rattle.hp_air.specs.Wholes.{Whole, Vector, cells, Env, lists_at, with_slots}
use Rattle.hp_flat.specs.Flat.{flat, flat_among}
use Rattle.hp_flat.specs.FlatCalls.{code_of, of_array, frame_at, call_code, named_call}
use Rattle.hp_flat.specs.Homes.{Homes, slot_of, slots_of, word_of}
use Rattle.hp_flat.specs.Standing.{Stands, a_word, an_array, a_matrix, a_frame, ColumnsStand, KeepsOthers, is_node_of, HasMet, VarsStand, FrameStands, frame_stands, comes_to_none, ComesToValue}
use Rattle.hp_flat.proofs.CallMeanings.{two_arguments, arguments_within}
use Rattle.hp_flat.proofs.FrameSteps.{cells_changed, same_columns, HasFrame, IsFrameAt, is_frame, frame_of_shape, columns_stand, as_many_columns, held_columns, frame_step}
use Rattle.hp_flat.proofs.KeptHomes.{AreOfScript, HasWord, vars_kept, value_kept, keeps_both, keeps_within, within_same, within_left, within_right, within_first}
use Rattle.hp_flat.proofs.LastSteps.{AreApart, d, last_trap}
use Rattle.hp_flat.proofs.ListMeanings.{IsOwn, Ends, array_of_kind}
use Rattle.hp_flat.proofs.OperandRuns.{Ready, operand, run_two, known_operand}
use Rattle.hp_flat.proofs.ShortScopes.{AreShortColumns, IsShort}
use Rattle.hp_flat.proofs.WordMeanings.{g, Means, Yields}

module _ (h : Homes) (slots : List Slot) (tables : List Table) (orders : List Order) (apart : AreApart h) where
  filter_made : {z : Tree} {nodes : List ℕ} {n m : Seen} {s : State Env ℕ} {e : Env} {work left : ℕ} (at : Place) (id u : ℕ) (us : List Unknown) (names : List Name) (columns : List Column) (mask : List ℤ)
      → number_of z ≡ id → HasFrame h id names → length columns ≡ length names → IsOwn h z id nodes → Ready h nodes n s m e work left → 7 ≤ left → (b : Bool)
      → does tables orders at (what.Filter (slots_of h (at_node h.known id)) (slots_of h us) u) e ≡ frame_made (slots_of h (at_node h.known id)) e (if b then Ok (map (filter_rows mask) (cells_of columns)) else Err (trap at Mismatch))
      → Ends h slots tables orders apart z n m s e work (if b then Gives (Frame (changed (filter_rows mask) columns)) else Traps (trap at Mismatch)) (code_of at (what.Filter (slots_of h (at_node h.known id)) (slots_of h us) u))
  unfolding units
  filter_made {e = e} at id u us names columns mask number has many is_own ready enough true does_it =
      let outs = slots_of h (at_node h.known id) in
      frame_step h slots tables orders apart at (what.Filter outs (slots_of h us) u) id names (changed (filter_rows mask) columns) e.executed e.bad number has (same_columns (filter_rows mask) columns ∙ many) is_own ready enough refl
      (does_it ∙ ap (λ (lists : List (List ℤ)). silent (with_slots outs (map Vector lists) e)) (sym (cells_changed (filter_rows mask) columns))) (let met = ready.met in met.executed) (let met = ready.met in met.bad)
  filter_made at id u us names columns mask number has many is_own ready enough false does_it =
      last_trap h slots tables orders at (what.Filter (slots_of h (at_node h.known id)) (slots_of h us) u) (trap at Mismatch) ready (omega (arith, enough)) refl does_it

  -- the rows where the mask is true
  pub filter_last : {z : Tree} {nodes : List ℕ} {n m : Seen} {s : State Env ℕ} {e : Env} {work left : ℕ} (at : Place) (id : ℕ) (us vs : List Unknown) (q : ℕ) (names : List Name) (columns : List Column) (b : Value)
      → ColumnsStand h e us columns → Stands h e vs q b → number_of z ≡ id → HasFrame h id names → length columns ≡ length names → IsOwn h z id nodes → Ready h nodes n s m e work left → 7 ≤ left
      → Ends h slots tables orders apart z n m s e work (filtered at columns b) (of_array vs (λ mask. code_of at (what.Filter (slots_of h (at_node h.known id)) (slots_of h us) (slot_of h mask))))
  unfolding does filtered air.filtered
  filter_last {z = z} {n = n} {m = m} {s = s} {e = e} {work = work} at id us vs q names columns b stand (an_array {u = u} {kind = k} {xs = mask} is) number has many is_own ready enough =
      let outs = slots_of h (at_node h.known id) in
      let code = code_of at (what.Filter outs (slots_of h us) (slot_of h u)) in
      let same : air.filtered at (lists_at e (slots_of h us)) (cells (e.slots (slot_of h u))) ≡ air.filtered at (cells_of columns) mask =
      ap₂ (λ (lists : List (List ℤ)) (whole : Whole). air.filtered at lists (cells whole)) (held_columns h e us columns stand) is in
      array_of_kind (λ (found : Option (List ℤ)). Ends h slots tables orders apart z n m s e work (given found (λ mask. if length mask == rows_of columns then Gives (Frame (changed (filter_rows mask) columns)) else Traps (trap at Mismatch))) code)
      (is_kind Truth k) (Some mask) None
      (filter_made at id (slot_of h u) us names columns mask number has many is_own ready enough (length mask == rows_of columns) (ap (frame_made outs e) same))
      comes_to_none
  filter_last at id us vs q names columns b stand (a_word is) number has many is_own ready enough = comes_to_none
  filter_last at id us vs q names columns b stand (a_matrix is) number has many is_own ready enough = comes_to_none
  filter_last at id us vs q names columns b stand (a_frame is) number has many is_own ready enough = comes_to_none

  -- the mask, behind the frame
  filter_second : {n : Seen} {s : State Env ℕ} {e : Env} (k : Seen) (work : ℕ) (v : Scope) (c : Head) (x y : Tree) (names : List Name) (a : Value)
      → shape_at h.known (number_of x) ≡ Some (shape.Frame names) → HasFrame h c.id names → AreOfScript h v.vars → HasWord h x → is_node_of (nodes_in y) (number_of x) ≡ false
      → ((columns : List Column) → names_of columns ≡ names → AreShortColumns columns → Means h slots tables orders (frame_at h x) (within columns v) y)
      → IsShort a → IsFrameAt h e (arrays_at h.known x) names a → VarsStand h s.env v.vars → KeepsOthers h (nodes_in x) s.env e → HasMet e k.met → work + 4 + 16 * (tick n).ticks ≤ s.seen + 16 * k.ticks
      → ComesToValue h (call c (codes "filter") false (plain x (plain y none))) n s (filtered_by c.at a (value (g h slots tables orders) y) v k)
      (behind (run (d h slots tables orders) (flat h (frame_at h x) y) (record s { env = e; seen = work }))
      (run (d h slots tables orders) (of_array (arrays_at h.known y) (λ mask. code_of c.at (what.Filter (slots_of h (at_node h.known c.id)) (slots_of h (arrays_at h.known x)) (slot_of h mask))))))
  filter_second {n = n} {s = s} {e = e} k work v c x y names a known has script word away second short (is_frame {columns = columns} is stand) vars keeps met paid =
      let last = of_array (arrays_at h.known y) (λ mask. code_of c.at (what.Filter (slots_of h (at_node h.known c.id)) (slots_of h (arrays_at h.known x)) (slot_of h mask))) in
      let there : FrameStands h e (frame_at h x) (Some columns) =
      subst (λ (found : Option Shape). FrameStands h e (columns_of found (arrays_at h.known x)) (Some columns)) (sym known) (frame_stands (sym is) stand) in
      operand h {m = k} (λ b. ended (filtered c.at columns b)) (run (d h slots tables orders) last) (omega (arith, paid))
      (second columns is short k (record s { env = e; seen = work }) (vars_kept h v.vars script keeps vars) there met)
      (λ b after f done mask keeps_more met_then paid_then.
      filter_last {left = 24} c.at c.id (arrays_at h.known x) (arrays_at h.known y) (word_of h y) names columns b (columns_stand (value_kept h x word away keeps_more (a_frame stand))) mask refl has (as_many_columns columns names is)
      (record { own = within_first; others = arguments_within h slots tables orders c.id (nodes_in x) (nodes_in y) })
      (record {
        keeps = keeps_both h (keeps_within h (within_left (nodes_in y) within_same) keeps) (keeps_within h (within_right (nodes_in x) within_same) keeps_more);
        met = met_then;
        paid = omega (arith, paid, paid_then);
      }) (omega arith))

  -- `filter(d, m)`
  pub filter_means : (around : Columns) (v : Scope) (c : Head) (x y : Tree) (names : List Name)
      → shape_at h.known (number_of x) ≡ Some (shape.Frame names) → HasFrame h c.id names → AreOfScript h v.vars → HasWord h x → is_node_of (nodes_in y) (number_of x) ≡ false
      → Yields h slots tables orders (IsOf (shape.Frame names)) v x → Yields h slots tables orders IsShort v x → Means h slots tables orders around v x
      → ((columns : List Column) → names_of columns ≡ names → AreShortColumns columns → Means h slots tables orders (frame_at h x) (within columns v) y)
      → Means h slots tables orders around v (call c (codes "filter") false (plain x (plain y none)))
  unfolding value parts called_as filter_call function_named scalar_named fold_named array_named frame_named flat flat_among named_call call_code
  filter_means around v c x y names known has script word away typed short first second n s vars frame met =
      let last = of_array (arrays_at h.known y) (λ mask. code_of c.at (what.Filter (slots_of h (at_node h.known c.id)) (slots_of h (arrays_at h.known x)) (slot_of h mask))) in
      let runs = ap (λ (p : Prog Op). run (d h slots tables orders) p s) (two_arguments (flat h around x) (flat h (frame_at h x) y) last) ∙ run_two (d h slots tables orders) (flat h around x) (flat h (frame_at h x) y) last s in
      subst (λ (ran : Ran Env ℕ). ComesToValue h (call c (codes "filter") false (plain x (plain y none))) n s (followed (value (g h slots tables orders) x v (tick n)) (λ a. filtered_by c.at a (value (g h slots tables orders) y) v)) ran)
      (sym runs)
      (known_operand h (λ a. filtered_by c.at a (value (g h slots tables orders) y) v) (λ t. behind (run (d h slots tables orders) (flat h (frame_at h x) y) t) (run (d h slots tables orders) last)) (omega arith)
      (first (tick n) s vars frame met)
      (λ a k e work is stands keeps now paid. filter_second k work v c x y names a known has script word away second (short (tick n) k a is) (frame_of_shape (typed (tick n) k a is) stands) vars keeps now paid))
