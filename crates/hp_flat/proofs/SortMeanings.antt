-- What the sort of a frame comes to, and the number of its rows: the key is found by its name in the value, and by its place
-- in the type.
use Rattle.std.proofs.Common.{◌≡◌, ℕ, ◌≤◌, ℤ, pos, false, true, codes, List, [], ◌∷◌, map, length, Option, Some, Ok, refl, sym, ap, ap₂, subst, ◌∙◌, arith}
use Rattle.hp_word.specs.declared.name.Name.{Name}
use Rattle.hp_word.specs.declared.order.Order.{Order}
use Rattle.hp_word.specs.declared.place.Place.{Place}
use Rattle.hp_word.specs.declared.table.Table.{Table}
use Rattle.hp_word.specs.LoopRules.{word_at}
use Rattle.hp_word.specs.RowRules.{column_at, sorted_places}
use Rattle.hp_word.specs.Runs.{State, Ran}
use Rattle.hp_script.specs.declared.typed.Shape.{Shape}
use Rattle.hp_script.specs.declared.typed.Shape.TheVariants as shape
use Rattle.hp_script.specs.Breaks.{repeats}
use Rattle.hp_script.specs.Functions.{function_named, scalar_named, fold_named, array_named, frame_named}
use Rattle.hp_script.specs.Mirror.{Head, Tree, call, column, plain, none}
use Rattle.hp_script.specs.Nodes.{nodes_in}
use Rattle.hp_script.specs.Scope.{has_column}
use Rattle.hp_meaning.specs.declared.seen.Seen.{Seen}
use Rattle.hp_meaning.specs.declared.value.Column.{Column}
use Rattle.hp_meaning.specs.declared.value.Kind.TheVariants.{Number}
use Rattle.hp_meaning.specs.declared.value.Value.{Value}
use Rattle.hp_meaning.specs.declared.value.Value.TheVariants.{Word, Frame}
use Rattle.hp_meaning.specs.Fitting.{names_of, HasShape as IsOf}
use Rattle.hp_meaning.specs.FrameRules.{cells_of, rows_of, without, picked, sorted_frame, sorted_value, rows_value}
use Rattle.hp_meaning.specs.Outcomes.{Gives, given, Outcome, tick, followed, ended}
use Rattle.hp_meaning.specs.Scopes.{Scope}
use Rattle.hp_meaning.specs.ValueOf.{value, parts, called_as, sort_call, one}
use Rattle.hp_program.specs.Programs.{Prog, run, joined, stop}
use Rattle.hp_air.specs.declared.slot.Slot.{Slot}
use Rattle.hp_air.specs.declared.what.Op.{Op}
use Rattle.hp_air.specs.declared.what.What.TheVariants as what
use Rattle.hp_air.specs.Meaning.{does, units, silent, sorted_by}
use Rattle.hp_air.specs.Unknowns.{Unknown, Columns, columns_of, at_node, arrays_at, number_of, shape_at}
use Rattle.hp_air.specs.Wholes.{Whole, Vector, cells, Env, lists_at, with_slots}
use Rattle.hp_flat.specs.Flat.{flat, flat_among}
use Rattle.hp_flat.specs.FlatCalls.{code_of, of_first, frame_at, key_in, call_code, named_call}
use Rattle.hp_flat.specs.Homes.{Homes, slot_of, slots_of, word_at as home_at, word_of}
use Rattle.hp_flat.specs.Standing.{Stands, a_word, an_array, a_matrix, a_frame, ComesToValue, comes_to_none}
use Rattle.hp_flat.proofs.ArrayCalls.{one_call}
use Rattle.hp_flat.proofs.CodeOfNames.{column_code}
use Rattle.hp_flat.proofs.ColumnPlaces.{place_of, column_is, others_are}
use Rattle.hp_flat.proofs.FrameSteps.{cells_changed, same_columns, HasFrame, IsFrameAt, is_frame, frame_of_shape, as_many_columns, held_columns, frame_step}
use Rattle.hp_flat.proofs.KeptHomes.{within_same, within_left, within_behind, within_first}
use Rattle.hp_flat.proofs.LastSteps.{AreApart, d, word_step}
use Rattle.hp_flat.proofs.ListMeanings.{IsOwn, Ends}
use Rattle.hp_flat.proofs.OperandRuns.{Ready, run_one, known_one}
use Rattle.hp_flat.proofs.ToldTypes.{IsUntold}
use Rattle.hp_flat.proofs.WordMeanings.{g, Means, Yields}

-- the place of a key in the type of its frame
pub key_is : (h : Homes) (x : Tree) (names : List Name) (key : List ℕ) → shape_at h.known (number_of x) ≡ Some (shape.Frame names) → key_in (frame_at h x) key ≡ place_of key names
unfolding key_in
key_is h x names key known = ap (λ (found : Option Shape). place_of key (columns_of found (arrays_at h.known x)).names) known

-- the rows of a frame, sorted, are those of its columns by the place of the key
sorted_lists : (key : List ℕ) (columns : List Column) → has_column key (names_of columns) ≡ true → repeats (names_of columns) ≡ false
    → cells_of (sorted_frame key columns (column_at (place_of key (names_of columns)) (cells_of columns))) ≡ sorted_by (place_of key (names_of columns)) (cells_of columns)
unfolding sorted_frame sorted_by picked
sorted_lists key columns has once =
    let keys : List ℤ = column_at (place_of key (names_of columns)) (cells_of columns) in
    cells_changed (picked (sorted_places (keys ∷ cells_of (without key columns)) (rows_of columns))) columns
    ∙ ap (λ (others : List (List ℤ)). map (λ column. map (word_at column) (sorted_places (keys ∷ others) (rows_of columns))) (cells_of columns)) (others_are key columns has once)

as_many_sorted : (key : List ℕ) (columns : List Column) (keys : List ℤ) → length (sorted_frame key columns keys) ≡ length columns
unfolding sorted_frame
as_many_sorted key columns keys = same_columns (picked (sorted_places (keys ∷ cells_of (without key columns)) (rows_of columns))) columns

module _ (h : Homes) (slots : List Slot) (tables : List Table) (orders : List Order) (apart : AreApart h) where
  -- ---- rows

  nrow_last : {z : Tree} {nodes : List ℕ} {n m : Seen} {s : State Env ℕ} {e : Env} {work left : ℕ} (at : Place) (id : ℕ) (u : Unknown) (us : List Unknown) (w : ℕ) (a : Value) → Stands h e (u ∷ us) w a
      → word_of h z ≡ home_at h id → IsOwn h z id nodes → Ready h nodes n s m e work left → 5 ≤ left
      → Ends h slots tables orders apart z n m s e work (rows_value a) (code_of at (what.Length (home_at h id) (slot_of h u)))
  unfolding rows_value does units
  nrow_last {z = z} {n = n} {m = m} {s = s} {e = e} {work = work} at id u us w a (a_frame {columns = c ∷ columns} stand) home is_own ready enough =
      subst (λ (whole : Whole). Ends h slots tables orders apart z n m s e work (Gives (Word Number (pos (length (cells whole))))) (code_of at (what.Length (home_at h id) (slot_of h u)))) stand.0
      (word_step h slots tables orders at (what.Length (home_at h id) (slot_of h u)) id Number (Ok (pos (length (cells (e.slots (slot_of h u)))))) home is_own.own is_own.others ready enough refl)
  nrow_last at id u us w a (a_frame {columns = []} stand) home is_own ready enough = absurd stand
  nrow_last at id u us w a (a_word is) home is_own ready enough = comes_to_none
  nrow_last at id u us w a (an_array is) home is_own ready enough = comes_to_none
  nrow_last at id u us w a (a_matrix is) home is_own ready enough = comes_to_none

  -- `nrow(d)`, where the frame has a column
  pub nrow_means : (around : Columns) (v : Scope) (c : Head) (x : Tree) (u : Unknown) (us : List Unknown) → arrays_at h.known x ≡ u ∷ us → Means h slots tables orders around v x
      → Means h slots tables orders around v (call c (codes "nrow") false (plain x none))
  unfolding value parts called_as one function_named scalar_named fold_named array_named frame_named flat flat_among named_call call_code home_at word_of
  nrow_means around v c x u us filled first n s vars frame met =
      one_call h slots tables orders around v x rows_value (of_first (arrays_at h.known x) (λ array. code_of c.at (what.Length (home_at h c.id) (slot_of h array)))) first
      (λ n0 k st a e work stands ready.
      subst (λ (all : List Unknown). ComesToValue h (call c (codes "nrow") false (plain x none)) n0 st (ended (rows_value a) k)
      (run (d h slots tables orders) (of_first all (λ array. code_of c.at (what.Length (home_at h c.id) (slot_of h array)))) (record st { env = e; seen = work }))) (sym filled)
      (nrow_last c.at c.id u us (word_of h x) a (subst (λ (all : List Unknown). Stands h e all (word_of h x) a) filled stands) refl (record { own = within_first; others = within_behind (within_left [] within_same) }) ready (omega arith)))
      n s vars frame met

  -- ---- sorted rows

  sort_last : {n m : Seen} {s : State Env ℕ} {e : Env} {work : ℕ} (c k : Head) (x : Tree) (key : List ℕ) (names : List Name) (a : Value)
      → IsFrameAt h e (arrays_at h.known x) names a → shape_at h.known (number_of x) ≡ Some (shape.Frame names) → HasFrame h c.id names → has_column key names ≡ true → repeats names ≡ false
      → Ready h (nodes_in x) n s m e work 20
      → Ends h slots tables orders apart (call c (codes "sort") false (plain x (plain (column k key) none))) n m s e work (sorted_value key a)
      (code_of c.at (what.Sort (slots_of h (at_node h.known c.id)) (slots_of h (arrays_at h.known x)) (key_in (frame_at h x) key)))
  unfolding sorted_value does units
  sort_last {n = n} {m = m} {s = s} {e = e} {work = work} c k x key names a (is_frame {columns = columns} is stand) known has has_key once ready =
      let outs = slots_of h (at_node h.known c.id) in
      let keys : List ℤ = column_at (place_of key (names_of columns)) (cells_of columns) in
      let there : has_column key (names_of columns) ≡ true = ap (has_column key) is ∙ has_key in
      let place : key_in (frame_at h x) key ≡ place_of key (names_of columns) = key_is h x names key known ∙ ap (place_of key) (sym is) in
      let lists : sorted_by (key_in (frame_at h x) key) (lists_at e (slots_of h (arrays_at h.known x))) ≡ cells_of (sorted_frame key columns keys) =
      ap₂ (λ (p : ℕ) (lists : List (List ℤ)). sorted_by p lists) place (held_columns h e (arrays_at h.known x) columns stand) ∙ sym (sorted_lists key columns there (ap repeats is ∙ once)) in
      subst (λ (found : Option (List ℤ)). Ends h slots tables orders apart (call c (codes "sort") false (plain x (plain (column k key) none))) n m s e work (given found (λ keys. Gives (Frame (sorted_frame key columns keys))))
      (code_of c.at (what.Sort outs (slots_of h (arrays_at h.known x)) (key_in (frame_at h x) key)))) (sym (column_is key columns there))
      (frame_step h slots tables orders apart c.at (what.Sort outs (slots_of h (arrays_at h.known x)) (key_in (frame_at h x) key)) c.id names (sorted_frame key columns keys) e.executed e.bad refl has
      (as_many_sorted key columns keys ∙ as_many_columns columns names is) (record { own = within_first; others = within_behind (within_left (k.id ∷ []) within_same) }) ready (omega arith) refl
      (ap (λ (made : List (List ℤ)). silent (with_slots outs (map Vector made) e)) lists) (let met = ready.met in met.executed) (let met = ready.met in met.bad))

  -- `sort(d, :k)`
  pub sort_means : (around : Columns) (v : Scope) (c k : Head) (x : Tree) (key : List ℕ) (names : List Name)
      → shape_at h.known (number_of x) ≡ Some (shape.Frame names) → IsUntold h.known k → HasFrame h c.id names → has_column key names ≡ true → repeats names ≡ false
      → Yields h slots tables orders (IsOf (shape.Frame names)) v x → Means h slots tables orders around v x → Means h slots tables orders around v (call c (codes "sort") false (plain x (plain (column k key) none)))
  unfolding value parts called_as sort_call function_named scalar_named fold_named array_named frame_named flat_among named_call call_code joined
  sort_means around v c k x key names known untold has has_key once typed first n s vars frame met =
      let z = call c (codes "sort") false (plain x (plain (column k key) none)) in
      let last : Prog Op = code_of c.at (what.Sort (slots_of h (at_node h.known c.id)) (slots_of h (arrays_at h.known x)) (key_in (frame_at h x) key)) in
      let outcome : Outcome Value = followed (value (g h slots tables orders) x v (tick n)) (λ a. ended (sorted_value key a)) in
      subst (λ (p : Prog Op). ComesToValue h z n s outcome (run (d h slots tables orders) (joined (joined (flat h around x) (joined p stop)) last) s)) (sym (column_code h around k key untold))
      (subst (λ (ran : Ran Env ℕ). ComesToValue h z n s outcome ran) (sym (run_one (d h slots tables orders) (flat h around x) last s))
      (known_one h (λ a. ended (sorted_value key a)) (run (d h slots tables orders) last) (first (tick n) s vars frame met)
      (λ a m e work is stands ready. sort_last c k x key names a (frame_of_shape (typed (tick n) m a is) stands) known has has_key once ready)))
