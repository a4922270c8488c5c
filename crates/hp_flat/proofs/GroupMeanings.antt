-- What an aggregate comes to: the groups of a frame's rows, in the order that is given for it.
use Rattle.std.proofs.Common.{◌≡◌, ℕ, suc, ◌+◌, ℤ, true, false, if◌then◌else◌, codes, List, [], ◌∷◌, ◌++◌, map, length, Option, Some, refl, sym, ap, subst, ◌∙◌, arith}
use Rattle.hp_word.specs.declared.name.Name.{Name}
use Rattle.hp_word.specs.declared.order.Order.{Order}
use Rattle.hp_word.specs.declared.order.RowPlace.{RowPlace}
use Rattle.hp_word.specs.declared.table.Table.{Table}
use Rattle.hp_word.specs.RowRules.{column_at, by_left, groups, Taken, order_taken}
use Rattle.hp_word.specs.Runs.{State, Ran}
use Rattle.hp_script.specs.declared.typed.Shape.TheVariants as shape
use Rattle.hp_script.specs.Functions.{function_named, scalar_named, fold_named, array_named, frame_named}
use Rattle.hp_script.specs.Mirror.{Head, Tree, Args, call, column, plain}
use Rattle.hp_script.specs.Nodes.{nodes_in, nodes_in_args}
use Rattle.hp_script.specs.Scope.{has_column}
use Rattle.hp_script.specs.Shaped.{AreMeasures}
use Rattle.hp_script.specs.Trees as trees
use Rattle.hp_meaning.specs.declared.seen.Seen.{Seen}
use Rattle.hp_meaning.specs.declared.value.Column.{Column}
use Rattle.hp_meaning.specs.declared.value.Value.{Value}
use Rattle.hp_meaning.specs.declared.value.Value.TheVariants.{Frame}
use Rattle.hp_meaning.specs.ArgumentShapes.{all_written}
use Rattle.hp_meaning.specs.Fitting.{names_of, HasShape as IsOf}
use Rattle.hp_meaning.specs.FrameRules.{cells_of, column_of, Measured, measure_column, grouped_rows, grouped_keys, grouped}
use Rattle.hp_meaning.specs.FrameRules as frames
use Rattle.hp_meaning.specs.Outcomes.{Answer, Gives, also, Outcome, tick, followed, needed, ended, meeting}
use Rattle.hp_meaning.specs.Scopes.{Scope}
use Rattle.hp_meaning.specs.ValueOf.{value, parts, as_written, measures_in, called_as, aggregate_call, grouped_by, group_in}
use Rattle.hp_meaning.proofs.FineFrames.{AllMeasure}
use Rattle.hp_program.specs.Programs.{Prog, run, joined, stop}
use Rattle.hp_air.specs.declared.slot.Slot.{Slot}
use Rattle.hp_air.specs.declared.what.Op.{Op}
use Rattle.hp_air.specs.declared.what.What.TheVariants as what
use Rattle.hp_air.specs.Meaning.{does, units, silent, executed, in_order, next_order}
use Rattle.hp_air.specs.Meaning as air
use Rattle.hp_air.specs.Unknowns.{Columns, at_node, arrays_at, number_of, shape_at}
use Rattle.hp_air.specs.Wholes.{Vector, Env, lists_at, with_slots}
use Rattle.hp_flat.specs.Flat.{flat, flat_among}
use Rattle.hp_flat.specs.FlatCalls.{code_of, where_some, frame_at, key_in, measure_at, call_code, named_call}
use Rattle.hp_flat.specs.Homes.{Homes, slots_of}
use Rattle.hp_flat.specs.Standing.{VarsStand, FrameStands, HasMet, ComesToValue, comes_to_none}
use Rattle.hp_flat.proofs.CodeOfNames.{column_code, measures_code}
use Rattle.hp_flat.proofs.ColumnPlaces.{place_of, column_is}
use Rattle.hp_flat.proofs.FrameSteps.{HasFrame, IsFrameAt, is_frame, frame_of_shape, held_columns, frame_step}
use Rattle.hp_flat.proofs.KeptHomes.{within_same, within_left, within_behind, within_first}
use Rattle.hp_flat.proofs.LastSteps.{AreApart, d}
use Rattle.hp_flat.proofs.ListMeanings.{IsOwn}
use Rattle.hp_flat.proofs.MeasureLists.{written_as, found_measures, made_column, all_made, made_cells, as_many_made}
use Rattle.hp_flat.proofs.OperandRuns.{Ready, run_one, known_one}
use Rattle.hp_flat.proofs.SortMeanings.{key_is}
use Rattle.hp_flat.proofs.ToldTypes.{IsUntold, ToldMeasures}
use Rattle.hp_flat.proofs.WordMeanings.{g, Means, Yields}

-- the groups of a frame's rows, by names
rows_made : (cs : Columns) (key : List ℕ) (columns : List Column) (keys : List ℤ) (ms : List Measured) (places : List RowPlace) → ((c : List ℕ) → key_in cs c ≡ place_of c (names_of columns)) → AllMeasure (names_of columns) ms
    → grouped_rows key columns keys ms places ≡ Gives (Frame (frames.column key (by_left keys places) ∷ map (made_column cs columns keys places) ms))
unfolding grouped_rows
rows_made cs key columns keys ms places same known = ap (λ (made : Answer (List Column)). also made (λ made. Gives (Frame (frames.column key (by_left keys places) ∷ made)))) (all_made cs columns keys places same ms known)

-- and by places
lists_made : (cs : Columns) (key : List ℕ) (columns : List Column) (ms : List Measured) (places : List RowPlace) (p : ℕ)
    → air.grouped_rows (cells_of columns) p (map (measure_at cs) ms) places ≡ cells_of (frames.column key (by_left (column_at p (cells_of columns)) places) ∷ map (made_column cs columns (column_at p (cells_of columns)) places) ms)
unfolding air.grouped_rows
lists_made cs key columns ms places p = ap (λ (made : List (List ℤ)). by_left (column_at p (cells_of columns)) places ∷ made) (made_cells cs columns (column_at p (cells_of columns)) places ms)

module _ (h : Homes) (slots : List Slot) (tables : List Table) (orders : List Order) (apart : AreApart h) where
  abbrev code_for : Head → Tree → List ℕ → List Measured → Prog Op
  code_for c x key ms = code_of c.at (what.Group (slots_of h (at_node h.known c.id)) (slots_of h (arrays_at h.known x)) (key_in (frame_at h x) key) (map (measure_at (frame_at h x)) ms))

  group_last : {z : Tree} {n m : Seen} {s : State Env ℕ} {e : Env} {work : ℕ} (c : Head) (x : Tree) (key : List ℕ) (columns names : List Name) (ms : List Measured) (a : Value)
      → number_of z ≡ c.id → IsFrameAt h e (arrays_at h.known x) columns a → shape_at h.known (number_of x) ≡ Some (shape.Frame columns) → HasFrame h c.id (trees.named key ∷ names) → has_column key columns ≡ true
      → length ms ≡ length names → AllMeasure columns ms → IsOwn h z c.id (nodes_in x) → Ready h (nodes_in x) n s m e work 20
      → ComesToValue h z n s (group_in (g h slots tables orders) key ms a m) (run (d h slots tables orders) (code_for c x key ms) (record s { env = e; seen = work }))
  unfolding grouped grouped_keys does units in_order
  group_last {z = z} {n = n} {m = m} {s = s} {e = e} {work = work} c x key columns names ms a number (is_frame {columns = lists} is stand) known has has_key many measures is_own ready =
      let outs = slots_of h (at_node h.known c.id) in
      let cs : Columns = frame_at h x in
      let there : has_column key (names_of lists) ≡ true = ap (has_column key) is ∙ has_key in
      let same : (k : List ℕ) → key_in cs k ≡ place_of k (names_of lists) = λ k. key_is h x columns k known ∙ ap (place_of k) (sym is) in
      let p : ℕ = place_of key (names_of lists) in
      let keys : List ℤ = column_at p (cells_of lists) in
      let held : lists_at e (slots_of h (arrays_at h.known x)) ≡ cells_of lists = held_columns h e (arrays_at h.known x) lists stand in
      let own : Taken = order_taken (e.executed + 1) orders (groups keys) in
      let order : Taken = order_taken (m.met.executed + 1) orders (groups keys) in
      let as_many : e.executed ≡ m.met.executed = (let met = ready.met in met.executed) in
      let as_bad : e.bad ≡ m.met.bad = (let met = ready.met in met.bad) in
      let taken : own ≡ order = ap (λ (k : ℕ). order_taken (k + 1) orders (groups keys)) as_many in
      let made : List Column = frames.column key (by_left keys order.places) ∷ map (made_column cs lists keys order.places) ms in
      let measured : AllMeasure (names_of lists) ms = subst (λ (names : List Name). AllMeasure names ms) (sym is) measures in
      let w = what.Group outs (slots_of h (arrays_at h.known x)) (key_in cs key) (map (measure_at cs) ms) in
      let met_then = frames.executed order.is_bad m.met in
      subst (λ (found : Option (List ℤ)). ComesToValue h z n s (meeting (needed found (λ keys. grouped_keys orders key lists ms keys m.met)) m) (run (d h slots tables orders) (code_for c x key ms) (record s { env = e; seen = work }))) (sym (column_is key lists there))
      (subst (λ (answer : Answer Value). ComesToValue h z n s (meeting (ended answer met_then) m) (run (d h slots tables orders) (code_for c x key ms) (record s { env = e; seen = work }))) (sym (rows_made cs key lists keys ms order.places same measured))
      (frame_step h slots tables orders apart c.at w c.id (trees.named key ∷ names) made (e.executed + 1) (if own.is_bad then e.bad ++ (e.executed + 1) ∷ [] else e.bad) number has
      (ap suc (as_many_made cs lists keys order.places ms ∙ many)) is_own ready (omega arith) refl
      ((λ i. in_order outs e (next_order orders e (groups (column_at (same key i) (held i)))) (air.grouped_rows (held i) (same key i) (map (measure_at cs) ms)))
      ∙ ap (λ (rows : List (List ℤ)). silent (with_slots outs (map Vector rows) (executed own.is_bad e)))
      (ap (λ (o : Taken). air.grouped_rows (cells_of lists) p (map (measure_at cs) ms) o.places) taken ∙ lists_made cs key lists ms order.places p))
      (ap (λ (k : ℕ). k + 1) as_many) (λ i. if (taken i).is_bad then as_bad i ++ (as_many i + 1) ∷ [] else as_bad i)))

  measured_means : (around : Columns) (v : Scope) (c k : Head) (x : Tree) (key : List ℕ) (xs : Args) (columns names : List Name) (ms : List Measured)
      → shape_at h.known (number_of x) ≡ Some (shape.Frame columns) → HasFrame h c.id (trees.named key ∷ names) → has_column key columns ≡ true → length ms ≡ length names → AllMeasure columns ms
      → Yields h slots tables orders (IsOf (shape.Frame columns)) v x → Means h slots tables orders around v x → (n : Seen) (s : State Env ℕ) → VarsStand h s.env v.vars → FrameStands h s.env around v.frame → HasMet s.env n.met
      → ComesToValue h (call c (codes "aggregate") false (plain x (plain (column k key) xs))) n s (grouped_by (g h slots tables orders) (Some key) (Some ms) (value (g h slots tables orders) x v (tick n)))
      (run (d h slots tables orders) (joined (joined (flat h around x) stop) (code_for c x key ms)) s)
  measured_means around v c k x key xs columns names [] known has has_key many measures typed first n s vars frame met = comes_to_none
  measured_means around v c k x key xs columns names (one ∷ ms) known has has_key many measures typed first n s vars frame met =
      let z = call c (codes "aggregate") false (plain x (plain (column k key) xs)) in
      let rest : Value → Seen → Outcome Value = group_in (g h slots tables orders) key (one ∷ ms) in
      subst (λ (ran : Ran Env ℕ). ComesToValue h z n s (followed (value (g h slots tables orders) x v (tick n)) rest) ran)
      (sym (run_one (d h slots tables orders) (flat h around x) (code_for c x key (one ∷ ms)) s))
      (known_one h rest (run (d h slots tables orders) (code_for c x key (one ∷ ms))) (first (tick n) s vars frame met)
      (λ a m e work is stands ready.
      group_last c x key columns names (one ∷ ms) a refl (frame_of_shape (typed (tick n) m a is) stands) known has has_key many measures
      (record { own = within_first; others = within_behind (within_left (k.id ∷ nodes_in_args xs) within_same) }) ready))

  -- `aggregate(d, :k, c = f, e = g)`
  pub aggregate_means : (around : Columns) (v : Scope) (c k : Head) (x : Tree) (key : List ℕ) (xs : Args) (columns names : List Name) (p : AreMeasures columns (key ∷ []) xs names)
      → shape_at h.known (number_of x) ≡ Some (shape.Frame columns) → IsUntold h.known k → ToldMeasures h.known p → HasFrame h c.id (trees.named key ∷ names) → has_column key columns ≡ true
      → Yields h slots tables orders (IsOf (shape.Frame columns)) v x → Means h slots tables orders around v x → Means h slots tables orders around v (call c (codes "aggregate") false (plain x (plain (column k key) xs)))
  unfolding value parts called_as aggregate_call function_named scalar_named fold_named array_named frame_named flat_among named_call call_code joined
  aggregate_means around v c k x key xs columns names p known untold told has has_key typed first n s vars frame met =
      let gs = g h slots tables orders in
      let z = call c (codes "aggregate") false (plain x (plain (column k key) xs)) in
      let of_it = found_measures p in
      let meant : measures_in (map as_written (parts gs xs)) ≡ Some of_it.found = ap measures_in (written_as gs xs) ∙ of_it.is in
      subst (λ (found : Option (List Measured)). ComesToValue h z n s (grouped_by gs (Some key) found (value gs x v (tick n)))
      (run (d h slots tables orders) (joined (joined (flat h around x) (joined (flat h around (column k key)) (flat_among h around around xs))) (where_some (measures_in (all_written xs)) (code_for c x key))) s)) (sym meant)
      (subst (λ (found : Option (List Measured)). ComesToValue h z n s (grouped_by gs (Some key) (Some of_it.found) (value gs x v (tick n)))
      (run (d h slots tables orders) (joined (joined (flat h around x) (joined (flat h around (column k key)) (flat_among h around around xs))) (where_some found (code_for c x key))) s)) (sym of_it.is)
      (subst (λ (q : Prog Op). ComesToValue h z n s (grouped_by gs (Some key) (Some of_it.found) (value gs x v (tick n)))
      (run (d h slots tables orders) (joined (joined (flat h around x) (joined q (flat_among h around around xs))) (code_for c x key of_it.found)) s)) (sym (column_code h around k key untold))
      (subst (λ (q : Prog Op). ComesToValue h z n s (grouped_by gs (Some key) (Some of_it.found) (value gs x v (tick n)))
      (run (d h slots tables orders) (joined (joined (flat h around x) q) (code_for c x key of_it.found)) s)) (sym (measures_code h around p told))
      (measured_means around v c k x key xs columns names of_it.found known has has_key of_it.many of_it.known typed first n s vars frame met))))
