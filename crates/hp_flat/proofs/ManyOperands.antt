-- A list of operands before the operation of a construct, each of which is an array of numbers.
use Rattle.std.proofs.Common.{◌≡◌, ℕ, ◌+◌, ◌*◌, ◌≤◌, ℤ, false, List, [], ◌∷◌, ◌++◌, map, length, refl, sym, ap, ap₂, subst, ◌∙◌, arith}
use Rattle.std.specs.List.{AllByRecursion}
use Rattle.hp_word.specs.declared.order.Order.{Order}
use Rattle.hp_word.specs.declared.place.Trap.{Trap}
use Rattle.hp_word.specs.declared.table.Table.{Table}
use Rattle.hp_word.specs.Runs.{State, Ran, Went, Trapped, behind, Runs}
use Rattle.hp_script.specs.Mirror.{Tree, Args, none, plain, range, lambda, named}
use Rattle.hp_script.specs.Nodes.{nodes_in, nodes_in_args}
use Rattle.hp_meaning.specs.declared.seen.Seen.{Seen}
use Rattle.hp_meaning.specs.declared.value.Column.{Column}
use Rattle.hp_meaning.specs.declared.value.Kind.TheVariants.{Number, Truth}
use Rattle.hp_meaning.specs.declared.value.Value.{Value}
use Rattle.hp_meaning.specs.FrameRules.{column}
use Rattle.hp_meaning.specs.Operands.{as_numbers}
use Rattle.hp_meaning.specs.Outcomes.{Outcome, Is, Stops, Wrong, tick, followed, needed}
use Rattle.hp_meaning.specs.Scopes.{Scope}
use Rattle.hp_meaning.specs.ValueOf.{parts, rows_among, columns_among}
use Rattle.hp_program.specs.Programs.{run}
use Rattle.hp_program.proofs.Replaced.{run_joined}
use Rattle.hp_air.specs.declared.slot.Slot.{Slot}
use Rattle.hp_air.specs.Unknowns.{Unknown, Columns, arrays_at, arguments_of, number_of, all}
use Rattle.hp_air.specs.Wholes.{cells, Env, lists_at}
use Rattle.hp_flat.specs.Flat.{flat, flat_among}
use Rattle.hp_flat.specs.Homes.{Homes, slots_of, word_of}
use Rattle.hp_flat.specs.Standing.{Stands, a_word, an_array, a_matrix, a_frame, VarsStand, FrameStands, KeepsOthers, is_node_of, HasMet, ComesToValue, comes_to, comes_to_trap, comes_to_none}
use Rattle.hp_flat.proofs.KeptHomes.{Within, within_same, within_left, within_right, Differ, differ_both, own_number, not_of, IsNotOf, arrays_apart, AreOfScript, keeps_all, keeps_within, keeps_both, vars_kept, frame_kept}
use Rattle.hp_flat.proofs.LastSteps.{d}
use Rattle.hp_flat.proofs.OperandRuns.{Ready}
use Rattle.hp_flat.proofs.WordMeanings.{g, Means}

module _ (h : Homes) where
  -- These arrays, of expressions with these numbers, hold the cells of the items that the expressions come to; or the run
  -- trapped as one of them did. Four units of work are left for each item.
  pub data ComesToAll {A : Type 0} (cells_in : A → List ℤ) (nodes : List ℕ) (us : List Unknown) (n : Seen) (s : State Env ℕ) : Outcome (List A) → Ran Env ℕ → Type 0 where
    all_stand : {items : List A} {after : Seen} {e : Env} {work : ℕ} → lists_at e (slots_of h us) ≡ map cells_in items
        → KeepsOthers h nodes s.env e → HasMet e after.met → work + 4 * length items + 16 * n.ticks ≤ s.seen + 16 * after.ticks
        → ComesToAll cells_in nodes us n s (Is items after) (Went (record s { env = e; seen = work }))
    one_traps : {t : Trap} {after : Seen} {e : Env} {work : ℕ} → work + 16 * n.ticks ≤ s.seen + 16 * after.ticks → ComesToAll cells_in nodes us n s (Stops t after) (Trapped t (record s { env = e; seen = work }))
    one_is_wrong : {ran : Ran Env ℕ} → ComesToAll cells_in nodes us n s Wrong ran

  -- the value of an expression, before those behind it
  one_item : {A : Type 0} (cells_in : A → List ℤ) (item : List ℤ → A) → ((xs : List ℤ) → cells_in (item xs) ≡ xs) → {n m : Seen} {s : State Env ℕ} {e : Env} {work : ℕ} {outcome : Outcome (List A)} {ran : Ran Env ℕ} (xs ys : List ℕ) (us vs : List Unknown) (w : ℕ) (a : Value)
      → Stands h e us w a → AllByRecursion (IsNotOf h ys) us → KeepsOthers h xs s.env e → work + 4 + 16 * n.ticks ≤ s.seen + 16 * m.ticks → ComesToAll cells_in ys vs m (record s { env = e; seen = work }) outcome ran
      → ComesToAll cells_in (xs ++ ys) (us ++ vs) n s (needed (as_numbers a) (λ xs. followed outcome (λ items. Is (item xs ∷ items)))) ran
  one_item cells_in item same xs ys us vs w a (an_array {u = u} {kind = Number} {xs = held} is) away keeps paid (all_stand lists keeps_more met paid_then) =
      all_stand (ap₂ (λ (one : List ℤ) (rest : List (List ℤ)). one ∷ rest) (ap cells (keeps_more.slots u away.0 ∙ is) ∙ sym (same held)) lists)
      (keeps_both h (keeps_within h (within_left ys within_same) keeps) (keeps_within h (within_right xs within_same) keeps_more)) met (omega (arith, paid, paid_then))
  one_item cells_in item same xs ys us vs w a (an_array {kind = Number} is) away keeps paid (one_traps paid_then) = one_traps (omega (arith, paid, paid_then))
  one_item cells_in item same xs ys us vs w a (an_array {kind = Number} is) away keeps paid one_is_wrong = one_is_wrong
  one_item cells_in item same xs ys us vs w a (an_array {kind = Truth} is) away keeps paid rest = one_is_wrong
  one_item cells_in item same xs ys us vs w a (a_word is) away keeps paid rest = one_is_wrong
  one_item cells_in item same xs ys us vs w a (a_matrix is) away keeps paid rest = one_is_wrong
  one_item cells_in item same xs ys us vs w a (a_frame is) away keeps paid rest = one_is_wrong

  one_more : {A : Type 0} (cells_in : A → List ℤ) (item : List ℤ → A) → ((xs : List ℤ) → cells_in (item xs) ≡ xs) → {n : Seen} {s : State Env ℕ} {outcome : Outcome Value} {ran : Ran Env ℕ} (x : Tree) (ys : List ℕ) (vs : List Unknown) (more : Seen → Outcome (List A)) (code : Runs Env ℕ)
      → is_node_of ys (number_of x) ≡ false → ComesToValue h x n s outcome ran
      → ((m : Seen) (e : Env) (work : ℕ) → KeepsOthers h (nodes_in x) s.env e → HasMet e m.met → ComesToAll cells_in ys vs m (record s { env = e; seen = work }) (more m) (code (record s { env = e; seen = work })))
      → ComesToAll cells_in (nodes_in x ++ ys) (arrays_at h.known x ++ vs) n s (followed outcome (λ a m. needed (as_numbers a) (λ xs. followed (more m) (λ items. Is (item xs ∷ items))))) (behind ran code)
  one_more cells_in item same x ys vs more code away (comes_to {a = a} {after = m} {e = e} {work = work} stands keeps met paid) next =
      one_item cells_in item same (nodes_in x) ys (arrays_at h.known x) vs (word_of h x) a stands (arrays_apart h ys x away) keeps paid (next m e work keeps met)
  one_more cells_in item same x ys vs more code away (comes_to_trap paid) next = one_traps paid
  one_more cells_in item same x ys vs more code away comes_to_none next = one_is_wrong

  -- all the operands, and what is done behind them
  pub many_operands : {A : Type 0} {cells_in : A → List ℤ} {nodes : List ℕ} {us : List Unknown} {z : Tree} {n : Seen} {s : State Env ℕ} {outcome : Outcome (List A)} {ran : Ran Env ℕ} (rest : List A → Seen → Outcome Value) (code : Runs Env ℕ)
      → ComesToAll cells_in nodes us (tick n) s outcome ran
      → ((items : List A) (m : Seen) (e : Env) (work : ℕ) → lists_at e (slots_of h us) ≡ map cells_in items → Ready h nodes n s m e work (4 * length items + 16) → ComesToValue h z n s (rest items m) (code (record s { env = e; seen = work })))
      → ComesToValue h z n s (followed outcome rest) (behind ran code)
  many_operands rest code (all_stand {items = items} {after = m} {e = e} {work = work} lists keeps met paid) next = next items m e work lists (record { keeps = keeps; met = met; paid = omega (arith, paid) })
  many_operands rest code (one_traps paid) next = comes_to_trap (omega (arith, paid))
  many_operands rest code one_is_wrong next = comes_to_none

  module _ (slots : List Slot) (tables : List Table) (orders : List Order) where
    -- the expressions of these arguments come to their values
    abbrev pub AllMean : Columns → Scope → Args → Type 0
    AllMean around v none = Unit {0}
    AllMean around v (plain x xs) = Means h slots tables orders around v x × AllMean around v xs
    AllMean around v (named name at x xs) = Means h slots tables orders around v x × AllMean around v xs
    AllMean around v (range x y xs) = Unit {0}
    AllMean around v (lambda parameter x xs) = Unit {0}

    pub rows_run : (around : Columns) (v : Scope) (xs : Args) → AreOfScript h v.vars → Differ (nodes_in_args xs) → AllByRecursion (IsNotOf h (nodes_in_args xs)) around.arrays → AllMean around v xs
        → (n : Seen) (s : State Env ℕ) → VarsStand h s.env v.vars → FrameStands h s.env around v.frame → HasMet s.env n.met
        → ComesToAll (λ (cells : List ℤ). cells) (nodes_in_args xs) (all (arguments_of h.known xs)) n s (rows_among (parts (g h slots tables orders) xs) v n) (run (d h slots tables orders) (flat_among h around around xs) s)
    unfolding rows_among parts flat_among run
    rows_run around v none script differ away mean n s vars frame met = all_stand refl (keeps_all h) met (omega arith)
    rows_run around v (plain x xs) script differ away mean n s vars frame met =
        let apart = differ_both (nodes_in x) (nodes_in_args xs) differ in
        let gs = g h slots tables orders in
        let first : AllByRecursion (IsNotOf h (nodes_in x)) around.arrays = not_of h (within_left (nodes_in_args xs) within_same) around.arrays away in
        let others : AllByRecursion (IsNotOf h (nodes_in_args xs)) around.arrays = not_of h (within_right (nodes_in x) within_same) around.arrays away in
        subst (λ (ran : Ran Env ℕ). ComesToAll (λ (cells : List ℤ). cells) (nodes_in_args (plain x xs)) (all (arguments_of h.known (plain x xs))) n s (rows_among (parts gs (plain x xs)) v n) ran)
        (sym (run_joined (d h slots tables orders) (flat h around x) (flat_among h around around xs) s))
        (one_more (λ (cells : List ℤ). cells) (λ (cells : List ℤ). cells) (λ cells. refl) x (nodes_in_args xs) (all (arguments_of h.known xs)) (rows_among (parts gs xs) v) (run (d h slots tables orders) (flat_among h around around xs))
        (apart.none (number_of x) (own_number x)) (mean.0 n s vars frame met)
        (λ m e work keeps now. rows_run around v xs script apart.second others mean.1 m (record s { env = e; seen = work }) (vars_kept h v.vars script keeps vars) (frame_kept h first keeps frame) now))
    rows_run around v (named name at x xs) script differ away mean n s vars frame met = one_is_wrong
    rows_run around v (range x y xs) script differ away mean n s vars frame met = one_is_wrong
    rows_run around v (lambda parameter x xs) script differ away mean n s vars frame met = one_is_wrong

    pub columns_run : (around : Columns) (v : Scope) (xs : Args) → AreOfScript h v.vars → Differ (nodes_in_args xs) → AllByRecursion (IsNotOf h (nodes_in_args xs)) around.arrays → AllMean around v xs
        → (n : Seen) (s : State Env ℕ) → VarsStand h s.env v.vars → FrameStands h s.env around v.frame → HasMet s.env n.met
        → ComesToAll (λ (c : Column). c.cells) (nodes_in_args xs) (all (arguments_of h.known xs)) n s (columns_among (parts (g h slots tables orders) xs) v n) (run (d h slots tables orders) (flat_among h around around xs) s)
    unfolding columns_among parts flat_among run
    columns_run around v none script differ away mean n s vars frame met = all_stand refl (keeps_all h) met (omega arith)
    columns_run around v (named name at x xs) script differ away mean n s vars frame met =
        let apart = differ_both (nodes_in x) (nodes_in_args xs) differ in
        let gs = g h slots tables orders in
        let first : AllByRecursion (IsNotOf h (nodes_in x)) around.arrays = not_of h (within_left (nodes_in_args xs) within_same) around.arrays away in
        let others : AllByRecursion (IsNotOf h (nodes_in_args xs)) around.arrays = not_of h (within_right (nodes_in x) within_same) around.arrays away in
        subst (λ (ran : Ran Env ℕ). ComesToAll (λ (c : Column). c.cells) (nodes_in_args (named name at x xs)) (all (arguments_of h.known (named name at x xs))) n s (columns_among (parts gs (named name at x xs)) v n) ran)
        (sym (run_joined (d h slots tables orders) (flat h around x) (flat_among h around around xs) s))
        (one_more (λ (c : Column). c.cells) (column name) (λ cells. refl) x (nodes_in_args xs) (all (arguments_of h.known xs)) (columns_among (parts gs xs) v) (run (d h slots tables orders) (flat_among h around around xs))
        (apart.none (number_of x) (own_number x)) (mean.0 n s vars frame met)
        (λ m e work keeps now. columns_run around v xs script apart.second others mean.1 m (record s { env = e; seen = work }) (vars_kept h v.vars script keeps vars) (frame_kept h first keeps frame) now))
    columns_run around v (plain x xs) script differ away mean n s vars frame met = one_is_wrong
    columns_run around v (range x y xs) script differ away mean n s vars frame met = one_is_wrong
    columns_run around v (lambda parameter x xs) script differ away mean n s vars frame met = one_is_wrong
