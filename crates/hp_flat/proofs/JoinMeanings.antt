-- What the join of two frames comes to: its pairs of rows, in the order that is given for it.
use Rattle.std.proofs.Common.{◌≡◌, ℕ, ◌+◌, ◌≤◌, ℤ, Bool, true, false, not, cond, if◌then◌else◌, bytes_eq, codes, List, [], ◌∷◌, ◌++◌, map, length, Option, Some, Result, Ok, Err, refl, sym, ap, ap₂, subst, ◌∙◌, arith}
use Rattle.std.specs.Prelude.{filter}
use Rattle.std.proofs.lemmas.Cmp.{nat_list_eq_equiv}
use Rattle.std.proofs.lemmas.List.{length-map, map-append, length-append}
use Rattle.hp_word.specs.declared.name.Name.{Name}
use Rattle.hp_word.specs.declared.order.Order.{Order}
use Rattle.hp_word.specs.declared.order.RowPlace.{RowPlace}
use Rattle.hp_word.specs.declared.place.Place.{Place}
use Rattle.hp_word.specs.declared.place.Trap.{Trap}
use Rattle.hp_word.specs.declared.table.Table.{Table}
use Rattle.hp_word.specs.LoopRules.{and_then}
use Rattle.hp_word.specs.RowRules.{column_at, by_left, by_right, join_pairs, Taken, order_taken}
use Rattle.hp_word.specs.Runs.{State}
use Rattle.hp_script.specs.declared.typed.Shape.TheVariants as shape
use Rattle.hp_script.specs.Breaks.{repeats}
use Rattle.hp_script.specs.Functions.{function_named, scalar_named, fold_named, array_named, frame_named}
use Rattle.hp_script.specs.Mirror.{Head, Tree, call, column, plain, none}
use Rattle.hp_script.specs.Nodes.{nodes_in}
use Rattle.hp_script.specs.Results as results
use Rattle.hp_script.specs.Scope.{has_column}
use Rattle.hp_script.specs.Trees as trees
use Rattle.hp_meaning.specs.declared.seen.Seen.{Seen}
use Rattle.hp_meaning.specs.declared.value.Column.{Column}
use Rattle.hp_meaning.specs.declared.value.Value.{Value}
use Rattle.hp_meaning.specs.ArgumentShapes.{three_plain, two_plain, one_plain}
use Rattle.hp_meaning.specs.Fitting.{names_of, HasShape as IsOf}
use Rattle.hp_meaning.specs.FrameRules.{cells_of, column_of, is_named, without, changed, joined_rows, joined_keys, joined as joined_value}
use Rattle.hp_meaning.specs.FrameRules as frames
use Rattle.hp_meaning.specs.Outcomes.{told, Outcome, tick, followed, needed, ended, meeting}
use Rattle.hp_meaning.specs.Scopes.{Scope}
use Rattle.hp_meaning.specs.ValueOf.{value, parts, called_as, join_call, join_in}
use Rattle.hp_program.specs.Programs.{Prog, run, joined, stop}
use Rattle.hp_air.specs.declared.slot.Slot.{Slot}
use Rattle.hp_air.specs.declared.what.Op.{Op}
use Rattle.hp_air.specs.declared.what.What.TheVariants as what
use Rattle.hp_air.specs.Meaning.{does, units, silent, executed, in_order, next_order}
use Rattle.hp_air.specs.Meaning as air
use Rattle.hp_air.specs.Unknowns.{Unknown, Columns, at_node, arrays_at, number_of, shape_at}
use Rattle.hp_air.specs.Wholes.{Vector, Env, lists_at, with_slots}
use Rattle.hp_flat.specs.Flat.{flat, flat_among}
use Rattle.hp_flat.specs.FlatCalls.{code_of, frame_at, key_in, call_code, named_call}
use Rattle.hp_flat.specs.Homes.{Homes, slots_of}
use Rattle.hp_flat.specs.Standing.{ComesToValue}
use Rattle.hp_flat.proofs.CallMeanings.{two_arguments}
use Rattle.hp_flat.proofs.CodeOfNames.{column_code}
use Rattle.hp_flat.proofs.ColumnPlaces.{place_of, column_is, others_are}
use Rattle.hp_flat.proofs.FrameSteps.{cells_changed, same_columns, HasFrame, IsFrameAt, is_frame, frame_of_shape, held_columns, frame_step}
use Rattle.hp_flat.proofs.KeptHomes.{within_same, within_left, within_right, within_both, within_behind, within_first}
use Rattle.hp_flat.proofs.LastSteps.{AreApart, d, last_trap}
use Rattle.hp_flat.proofs.ListMeanings.{IsOwn}
use Rattle.hp_flat.proofs.OperandRuns.{Ready}
use Rattle.hp_flat.proofs.SortMeanings.{key_is}
use Rattle.hp_flat.proofs.ToldTypes.{IsUntold}
use Rattle.hp_flat.proofs.WordMeanings.{g, Means, Sides, Yields, known_means}

-- ---- the columns of a join

-- the columns of other names are as many as the other names
kept_step : (same other : Bool) (x : Column) (rest : List Column) (name : Name) (names : List Name) → other ≡ same → length rest ≡ length names
    → length (cond (not other) (x ∷ rest) rest) ≡ length (cond (not same) (name ∷ names) names)
kept_step true true x rest name names e many = many
kept_step false false x rest name names e many = omega (arith, many)
kept_step true false x rest name names e many = absurd cc
kept_step false true x rest name names e many = absurd cc

as_many_others : (key : List ℕ) (columns : List Column) → length (without key columns) ≡ length (results.without (trees.named key) (names_of columns))
unfolding without
as_many_others key [] = refl
as_many_others key (x ∷ columns) =
    kept_step (bytes_eq key x.name.bytes) (bytes_eq x.name.bytes key) x (filter (λ d. not (is_named key d)) columns) x.name (results.without (trees.named key) (names_of columns))
    (nat_list_eq_equiv.symm x.name.bytes key) (as_many_others key columns)

as_many_joined : (key : List ℕ) (left right : List Column) (places : List RowPlace) → length (joined_rows key left right places) ≡ length (names_of left ++ results.without (trees.named key) (names_of right))
unfolding joined_rows
as_many_joined key left right places =
    let lefts : List Column = changed (λ cells. by_left cells places) left in
    let rights : List Column = changed (λ cells. by_right cells places) (without key right) in
    omega (
      arith,
      length-append lefts rights,
      same_columns (λ cells. by_left cells places) left,
      same_columns (λ cells. by_right cells places) (without key right),
      as_many_others key right,
      length-append (names_of left) (results.without (trees.named key) (names_of right)),
      length-map left (λ (c : Column). c.name),
    )

-- the rows of a join, by names and by places
joined_lists : (key : List ℕ) (left right : List Column) (places : List RowPlace) → has_column key (names_of right) ≡ true → repeats (names_of right) ≡ false
    → air.joined_rows (cells_of left) (cells_of right) (place_of key (names_of right)) places ≡ cells_of (joined_rows key left right places)
unfolding air.joined_rows joined_rows
joined_lists key left right places has once =
    let lefts : List Column = changed (λ cells. by_left cells places) left in
    let rights : List Column = changed (λ cells. by_right cells places) (without key right) in
    ap (λ (others : List (List ℤ)). map (λ column. by_left column places) (cells_of left) ++ map (λ column. by_right column places) others) (sym (others_are key right has once))
    ∙ ap₂ (λ (a b : List (List ℤ)). a ++ b) (sym (cells_changed (λ cells. by_left cells places) left)) (sym (cells_changed (λ cells. by_right cells places) (without key right)))
    ∙ sym (map-append (λ (c : Column). c.cells) lefts rights)

module _ (h : Homes) (slots : List Slot) (tables : List Table) (orders : List Order) (apart : AreApart h) where
  join_made : {z : Tree} {nodes : List ℕ} {n m : Seen} {s : State Env ℕ} {e : Env} {work left : ℕ} (at : Place) (id p q : ℕ) (us vs : List Unknown) (key : List ℕ) (names : List Name) (lefts rights : List Column) (pairs : Result (List RowPlace) Trap)
      → number_of z ≡ id → HasFrame h id names → ((places : List RowPlace) → length (joined_rows key lefts rights places) ≡ length names) → has_column key (names_of rights) ≡ true → repeats (names_of rights) ≡ false
      → IsOwn h z id nodes → Ready h nodes n s m e work left → 8 ≤ left
      → does tables orders at (what.Join (slots_of h (at_node h.known id)) (slots_of h us) p (slots_of h vs) q) e
      ≡ and_then pairs (λ plain. in_order (slots_of h (at_node h.known id)) e (next_order orders e plain) (air.joined_rows (cells_of lefts) (cells_of rights) (place_of key (names_of rights))))
      → ComesToValue h z n s (meeting (followed (ended (told pairs) m.met) (λ plain n. frames.in_order (order_taken (n.executed + 1) orders plain) (joined_rows key lefts rights) n)) m)
      (run (d h slots tables orders) (code_of at (what.Join (slots_of h (at_node h.known id)) (slots_of h us) p (slots_of h vs) q)) (record s { env = e; seen = work }))
  unfolding units in_order
  join_made {m = m} {e = e} at id p q us vs key names lefts rights (Ok found) number has many has_key once is_own ready enough does_it =
      let outs = slots_of h (at_node h.known id) in
      let own : Taken = order_taken (e.executed + 1) orders found in
      let order : Taken = order_taken (m.met.executed + 1) orders found in
      let as_many : e.executed ≡ m.met.executed = (let met = ready.met in met.executed) in
      let as_bad : e.bad ≡ m.met.bad = (let met = ready.met in met.bad) in
      let same : own ≡ order = ap (λ (k : ℕ). order_taken (k + 1) orders found) as_many in
      frame_step h slots tables orders apart at (what.Join outs (slots_of h us) p (slots_of h vs) q) id names (joined_rows key lefts rights order.places) (e.executed + 1)
      (if own.is_bad then e.bad ++ (e.executed + 1) ∷ [] else e.bad) number has (many order.places) is_own ready enough refl
      (does_it ∙ ap (λ (made : List (List ℤ)). silent (with_slots outs (map Vector made) (executed own.is_bad e)))
      (ap (λ (o : Taken). air.joined_rows (cells_of lefts) (cells_of rights) (place_of key (names_of rights)) o.places) same ∙ joined_lists key lefts rights order.places has_key once))
      (ap (λ (k : ℕ). k + 1) as_many) (λ i. if (same i).is_bad then as_bad i ++ (as_many i + 1) ∷ [] else as_bad i)
  join_made at id p q us vs key names lefts rights (Err t) number has many has_key once is_own ready enough does_it =
      last_trap h slots tables orders at (what.Join (slots_of h (at_node h.known id)) (slots_of h us) p (slots_of h vs) q) t ready (omega (arith, enough)) refl does_it

  abbrev call_of : Head → Head → Tree → Tree → List ℕ → Tree
  call_of c k x y key = call c (codes "join") false (plain x (plain y (plain (column k key) none)))

  abbrev code_for : Head → Tree → Tree → List ℕ → Prog Op
  code_for c x y key =
      code_of c.at (what.Join (slots_of h (at_node h.known c.id)) (slots_of h (arrays_at h.known x)) (key_in (frame_at h x) key) (slots_of h (arrays_at h.known y)) (key_in (frame_at h y) key))

  own_join : (c k : Head) (x y : Tree) (key : List ℕ) → IsOwn h (call_of c k x y key) c.id (nodes_in x ++ nodes_in y)
  own_join c k x y key = record {
    own = within_first;
    others = within_behind (within_both (within_left (nodes_in y ++ k.id ∷ []) within_same) (within_right (nodes_in x) (within_left (k.id ∷ []) within_same)));
  }

  join_last : {n m : Seen} {s : State Env ℕ} {e : Env} {work : ℕ} (c k : Head) (x y : Tree) (key : List ℕ) (left right : List Name) (a b : Value)
      → IsFrameAt h e (arrays_at h.known x) left a → IsFrameAt h e (arrays_at h.known y) right b
      → shape_at h.known (number_of x) ≡ Some (shape.Frame left) → shape_at h.known (number_of y) ≡ Some (shape.Frame right) → HasFrame h c.id (left ++ results.without (trees.named key) right)
      → has_column key left ≡ true → has_column key right ≡ true → repeats right ≡ false → Ready h (nodes_in x ++ nodes_in y) n s m e work 24
      → ComesToValue h (call_of c k x y key) n s (join_in (g h slots tables orders) c.at key a b m) (run (d h slots tables orders) (code_for c x y key) (record s { env = e; seen = work }))
  unfolding joined_value joined_keys does
  join_last {n = n} {m = m} {s = s} {e = e} {work = work} c k x y key left right a b (is_frame {columns = lefts} is_left left_stand) (is_frame {columns = rights} is_right right_stand) known_left known_right has has_left has_right once ready =
      let outs = slots_of h (at_node h.known c.id) in
      let in_left : has_column key (names_of lefts) ≡ true = ap (has_column key) is_left ∙ has_left in
      let in_right : has_column key (names_of rights) ≡ true = ap (has_column key) is_right ∙ has_right in
      let p_is : key_in (frame_at h x) key ≡ place_of key (names_of lefts) = key_is h x left key known_left ∙ ap (place_of key) (sym is_left) in
      let q_is : key_in (frame_at h y) key ≡ place_of key (names_of rights) = key_is h y right key known_right ∙ ap (place_of key) (sym is_right) in
      let lefts_are : lists_at e (slots_of h (arrays_at h.known x)) ≡ cells_of lefts = held_columns h e (arrays_at h.known x) lefts left_stand in
      let rights_are : lists_at e (slots_of h (arrays_at h.known y)) ≡ cells_of rights = held_columns h e (arrays_at h.known y) rights right_stand in
      let pairs = join_pairs c.at (column_at (place_of key (names_of lefts)) (cells_of lefts)) (column_at (place_of key (names_of rights)) (cells_of rights)) in
      let made = join_made {z = call_of c k x y key} c.at c.id (key_in (frame_at h x) key) (key_in (frame_at h y) key) (arrays_at h.known x) (arrays_at h.known y) key (left ++ results.without (trees.named key) right) lefts rights pairs refl has
      (λ places. as_many_joined key lefts rights places ∙ ap₂ (λ (a b : List Name). length (a ++ results.without (trees.named key) b)) is_left is_right) in_right (ap repeats is_right ∙ once) (own_join c k x y key) ready (omega arith)
      (λ i. and_then (join_pairs c.at (column_at (p_is i) (lefts_are i)) (column_at (q_is i) (rights_are i))) (λ found. in_order outs e (next_order orders e found) (air.joined_rows (lefts_are i) (rights_are i) (q_is i)))) in
      subst (λ (found : Option (List ℤ)). ComesToValue h (call_of c k x y key) n s (meeting (needed found (λ lk. needed (column_of key rights) (λ rk. joined_keys orders c.at key lefts rights lk rk m.met))) m)
      (run (d h slots tables orders) (code_for c x y key) (record s { env = e; seen = work }))) (sym (column_is key lefts in_left))
      (subst (λ (found : Option (List ℤ)). ComesToValue h (call_of c k x y key) n s (meeting (needed found (λ rk. joined_keys orders c.at key lefts rights (column_at (place_of key (names_of lefts)) (cells_of lefts)) rk m.met)) m)
      (run (d h slots tables orders) (code_for c x y key) (record s { env = e; seen = work }))) (sym (column_is key rights in_right)) made)

  -- `join(l, r, :k)`
  pub join_means : (around : Columns) (v : Scope) (c k : Head) (x y : Tree) (key : List ℕ) (left right : List Name)
      → shape_at h.known (number_of x) ≡ Some (shape.Frame left) → shape_at h.known (number_of y) ≡ Some (shape.Frame right) → IsUntold h.known k → HasFrame h c.id (left ++ results.without (trees.named key) right)
      → has_column key left ≡ true → has_column key right ≡ true → repeats right ≡ false
      → Yields h slots tables orders (IsOf (shape.Frame left)) v x → Yields h slots tables orders (IsOf (shape.Frame right)) v y → Sides h slots tables orders around v x y
      → Means h slots tables orders around v x → Means h slots tables orders around v y → Means h slots tables orders around v (call c (codes "join") false (plain x (plain y (plain (column k key) none))))
  unfolding value parts called_as join_call function_named scalar_named fold_named array_named frame_named flat_among named_call call_code joined three_plain two_plain one_plain
  join_means around v c k x y key left right known_left known_right untold has has_left has_right once left_typed right_typed sides first second n s vars frame met =
      let gs = g h slots tables orders in
      let outcome : Outcome Value = followed (value gs x v (tick n)) (λ a n. followed (value gs y v n) (join_in gs c.at key a)) in
      subst (λ (p : Prog Op). ComesToValue h (call_of c k x y key) n s outcome (run (d h slots tables orders) (joined (joined (flat h around x) (joined (flat h around y) (joined p stop))) (code_for c x y key)) s)) (sym (column_code h around k key untold))
      (subst (λ (p : Prog Op). ComesToValue h (call_of c k x y key) n s outcome (run (d h slots tables orders) p s)) (sym (two_arguments (flat h around x) (flat h around y) (code_for c x y key)))
      (known_means h slots tables orders (IsOf (shape.Frame left)) (IsOf (shape.Frame right)) around v x y (join_in gs c.at key) (code_for c x y key) sides left_typed right_typed first second
      (λ n0 m st a b e work of_left of_right left_stands right_stands ready. join_last c k x y key left right a b (frame_of_shape of_left left_stands) (frame_of_shape of_right right_stands) known_left known_right has has_left has_right once ready)
      n s vars frame met))
