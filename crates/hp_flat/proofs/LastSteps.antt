-- The operation of a construct, which puts its value into its own place.
use Rattle.std.proofs.Common.{◌≡◌, ℕ, ◌+◌, ◌≤◌, ◌==◌, ◌||◌, ℤ, Bool, true, false, cond, List, [], ◌∷◌, length, Result, Ok, Err, IsTrue, refl, sym, ap, subst, ◌∙◌, append-nil, arith}
use Rattle.std.proofs.lemmas.Bool.{eqb-true, eq-eqb}
use Rattle.hp_word.specs.declared.matrix.Matrix.{Matrix as Grid}
use Rattle.hp_word.specs.declared.order.Order.{Order}
use Rattle.hp_word.specs.declared.place.Place.{Place}
use Rattle.hp_word.specs.declared.place.Trap.{Trap}
use Rattle.hp_word.specs.declared.table.Table.{Table}
use Rattle.hp_word.specs.Runs.{State, Ran, Went, Trapped, behind}
use Rattle.hp_script.specs.Mirror.{Tree}
use Rattle.hp_script.specs.Nodes.{nodes_in}
use Rattle.hp_meaning.specs.declared.seen.Seen.{Seen}
use Rattle.hp_meaning.specs.declared.value.Kind.{Kind}
use Rattle.hp_meaning.specs.declared.value.Value.{Value}
use Rattle.hp_meaning.specs.declared.value.Value.TheVariants.{Word, List as Listed, Matrix}
use Rattle.hp_meaning.specs.MatrixRules.{gridded}
use Rattle.hp_meaning.specs.Outcomes.{Is, Stops, told, ended}
use Rattle.hp_meaning.specs.WordRules.{worded, listed}
use Rattle.hp_program.specs.Programs.{Effect, Doing, run, step, stop, worked}
use Rattle.hp_program.specs.Programs as programs
use Rattle.hp_air.specs.declared.slot.Slot.{Slot}
use Rattle.hp_air.specs.declared.what.Op.{Op}
use Rattle.hp_air.specs.declared.what.What.{What}
use Rattle.hp_air.specs.Carried.{is_among}
use Rattle.hp_air.specs.Meaning.{does, doing, units, silent, word_made, array_made, matrix_made}
use Rattle.hp_air.specs.Unknowns.{Unknown, of_node, of_variable, balanced_of, of_nothing, arrays_at}
use Rattle.hp_air.specs.Wholes.{Whole, Vector, Grid as matrix_of, Env, changed_at, changed_all, with_word, with_slots}
use Rattle.hp_flat.specs.FlatCalls.{code_of}
use Rattle.hp_flat.specs.Homes.{Homes, slot_of, word_at, word_of}
use Rattle.hp_flat.specs.Standing.{Stands, a_word, an_array, a_matrix, KeepsOthers, is_node_of, is_array_of, HasMet, ComesToValue, comes_to, comes_to_trap}
use Rattle.hp_flat.proofs.KeptHomes.{Within, keeps_within, keeps_both}
use Rattle.hp_flat.proofs.OperandRuns.{Ready}

-- ---- what is changed

if_same : {A : Type 0} (b : Bool) (x y : A) → b ≡ true → cond b x y ≡ x
if_same true x y e = refl
if_same false x y e = absurd cc

if_other : {A : Type 0} (b : Bool) (x y : A) → b ≡ false → cond b x y ≡ y
if_other true x y e = absurd cc
if_other false x y e = refl

pub changed_there : {A : Type 0} (k : ℕ) (x : A) (held : ℕ → A) → changed_at k x held k ≡ x
changed_there k x held = if_same (k == k) x (held k) (eq-eqb k k refl)

pub changed_elsewhere : {A : Type 0} (k j : ℕ) (x : A) (held : ℕ → A) → (j ≡ k → ⊥) → changed_at k x held j ≡ held j
changed_elsewhere k j x held other = pass (j == k) refl
  where
    pass : (b : Bool) → (j == k) ≡ b → changed_at k x held j ≡ held j
    pass true e = absurd (other (eqb-true j k e))
    pass false e = if_other (j == k) x (held j) e

node_of : Unknown → ℕ
node_of (of_node k c) = k
node_of _ = 0

pub not_both : (b : Bool) → b ≡ true → (b || false) ≡ false → ⊥
not_both true e not = absurd cc
not_both false e not = absurd cc

-- an array that is not of an expression is none of its columns
pub not_its_own : (id c : ℕ) (u : Unknown) → is_array_of (id ∷ []) u ≡ false → of_node id c ≡ u → ⊥
unfolding node_of
not_its_own id c (of_node k b) not same = not_both (id == k) (eq-eqb id k (ap node_of same)) not
not_its_own id c (of_variable v b) not same = absurd cc
not_its_own id c (balanced_of v) not same = absurd cc
not_its_own id c of_nothing not same = absurd cc

module _ (h : Homes) where
  -- a write to the word of an expression keeps all others
  pub word_keeps : (id : ℕ) (x : ℤ) (e : Env) → KeepsOthers h (id ∷ []) e (with_word (word_at h id) x e)
  unfolding word_at
  word_keeps id x e = record {
    slots = λ u not. refl;
    variables = λ v less. changed_elsewhere (length h.known.vars + id) v x e.words (λ same. omega (arith, less, same));
    words = λ k not. changed_elsewhere (length h.known.vars + id) (length h.known.vars + k) x e.words (λ same. other k not same);
  }
    where
      other : (k : ℕ) → is_node_of (id ∷ []) k ≡ false → length h.known.vars + k ≡ length h.known.vars + id → ⊥
      other k not same = not_both (id == k) (eq-eqb id k (omega (arith, same))) not

  -- and so does a write to the slot of its array, where no other array has that slot
  abbrev pub AreApart : Type 0
  AreApart = (u v : Unknown) → IsTrue (is_among h.arrays u) → slot_of h u ≡ slot_of h v → u ≡ v

  pub slot_keeps : AreApart → (id c : ℕ) (whole : Whole) (e : Env) → IsTrue (is_among h.arrays (of_node id c)) → KeepsOthers h (id ∷ []) e (with_slots (slot_of h (of_node id c) ∷ []) (whole ∷ []) e)
  unfolding changed_all
  slot_keeps apart id c whole e among = record {
    slots = λ u not. changed_elsewhere (slot_of h (of_node id c)) (slot_of h u) whole e.slots (λ same. not_its_own id c u not (apart (of_node id c) u among (sym same)));
    variables = λ v less. refl;
    words = λ k not. refl;
  }

  module _ (slots : List Slot) (tables : List Table) (orders : List Order) where
    abbrev pub d : Doing Op Env
    d = doing slots tables orders

    -- ---- runs of one operation

    pub op_went : (at : Place) (w : What) (s : State Env ℕ) (f : Env) → does tables orders at w s.env ≡ silent f → run d (code_of at w) s ≡ Went (record s { env = f; seen = s.seen + units slots w })
    unfolding run programs.told
    op_went at w s f e =
        ap (λ (r : Result (Effect Env) Trap). behind (programs.told r (worked (units slots w) s)) (run d stop)) e
        ∙ ap (λ (out : List ℕ). Went (record s { env = f; seen = s.seen + units slots w; out = out })) (append-nil s.out)

    pub op_trapped : (at : Place) (w : What) (s : State Env ℕ) (t : Trap) → does tables orders at w s.env ≡ Err t → run d (code_of at w) s ≡ Trapped t (record s { seen = s.seen + units slots w })
    unfolding run programs.told
    op_trapped at w s t e = ap (λ (r : Result (Effect Env) Trap). behind (programs.told r (worked (units slots w) s)) (run d stop)) e

    -- ---- the last operation of a construct

    -- it makes a value
    pub last_value : {z : Tree} {nodes : List ℕ} {n m after : Seen} {s : State Env ℕ} {e : Env} {work left : ℕ} (at : Place) (w : What) (id : ℕ) (a : Value) (f : Env)
        → Within (id ∷ []) (nodes_in z) → Within nodes (nodes_in z) → Ready h nodes n s m e work left → units slots w + 4 ≤ left → after.ticks ≡ m.ticks
        → does tables orders at w e ≡ silent f → Stands h f (arrays_at h.known z) (word_of h z) a → KeepsOthers h (id ∷ []) e f → HasMet f after.met
        → ComesToValue h z n s (Is a after) (run d (code_of at w) (record s { env = e; seen = work }))
    last_value {z = z} {n = n} {after = after} {s = s} {e = e} {work = work} at w id a f own others ready enough same does_it stands keeps met =
        subst (λ (ran : Ran Env ℕ). ComesToValue h z n s (Is a after) ran) (sym (op_went at w (record s { env = e; seen = work }) f does_it))
        (comes_to stands (keeps_both h (keeps_within h others ready.keeps) (keeps_within h own keeps)) met (let paid = ready.paid in omega (arith, paid, enough, same)))

    -- it traps
    pub last_trap : {z : Tree} {nodes : List ℕ} {n m after : Seen} {s : State Env ℕ} {e : Env} {work left : ℕ} (at : Place) (w : What) (t : Trap)
        → Ready h nodes n s m e work left → units slots w ≤ left → after.ticks ≡ m.ticks
        → does tables orders at w e ≡ Err t → ComesToValue h z n s (Stops t after) (run d (code_of at w) (record s { env = e; seen = work }))
    last_trap {z = z} {n = n} {after = after} {s = s} {e = e} {work = work} at w t ready enough same does_it =
        subst (λ (ran : Ran Env ℕ). ComesToValue h z n s (Stops t after) ran) (sym (op_trapped at w (record s { env = e; seen = work }) t does_it))
        (comes_to_trap (let paid = ready.paid in omega (arith, paid, enough, same)))

    -- it makes a word
    pub word_step : {z : Tree} {nodes : List ℕ} {n m : Seen} {s : State Env ℕ} {e : Env} {work left : ℕ} (at : Place) (w : What) (id : ℕ) (kind : Kind) (made : Result ℤ Trap)
        → word_of h z ≡ word_at h id → Within (id ∷ []) (nodes_in z) → Within nodes (nodes_in z) → Ready h nodes n s m e work left → units slots w + 4 ≤ left
        → does tables orders at w e ≡ word_made (word_at h id) e made
        → ComesToValue h z n s (ended (worded kind (told made)) m) (run d (code_of at w) (record s { env = e; seen = work }))
    word_step {m = m} {e = e} at w id kind (Ok x) home own others ready enough does_it =
        last_value at w id (Word kind x) (with_word (word_at h id) x e) own others ready enough refl does_it
        (a_word (ap (with_word (word_at h id) x e).words home ∙ changed_there (word_at h id) x e.words)) (word_keeps id x e) (let met = ready.met in record { executed = met.executed; bad = met.bad })
    word_step at w id kind (Err t) home own others ready enough does_it = last_trap at w t ready (omega (arith, enough)) refl does_it

    module _ (apart : AreApart) where
      -- it makes an array, or a matrix
      pub array_step : {z : Tree} {nodes : List ℕ} {n m : Seen} {s : State Env ℕ} {e : Env} {work left : ℕ} (at : Place) (w : What) (id : ℕ) (kind : Kind) (made : Result (List ℤ) Trap)
          → arrays_at h.known z ≡ of_node id 0 ∷ [] → IsTrue (is_among h.arrays (of_node id 0)) → Within (id ∷ []) (nodes_in z) → Within nodes (nodes_in z) → Ready h nodes n s m e work left
          → units slots w + 4 ≤ left → does tables orders at w e ≡ array_made (slot_of h (of_node id 0)) e made
          → ComesToValue h z n s (ended (listed kind (told made)) m) (run d (code_of at w) (record s { env = e; seen = work }))
      unfolding changed_all
      array_step {z = z} {e = e} at w id kind (Ok xs) home among own others ready enough does_it =
          let f = with_slots (slot_of h (of_node id 0) ∷ []) (Vector xs ∷ []) e in
          last_value at w id (Listed kind xs) f own others ready enough refl does_it
          (subst (λ (us : List Unknown). Stands h f us (word_of h z) (Listed kind xs)) (sym home) (an_array (changed_there (slot_of h (of_node id 0)) (Vector xs) e.slots)))
          (slot_keeps apart id 0 (Vector xs) e among) (let met = ready.met in record { executed = met.executed; bad = met.bad })
      array_step at w id kind (Err t) home among own others ready enough does_it = last_trap at w t ready (omega (arith, enough)) refl does_it

      pub matrix_step : {z : Tree} {nodes : List ℕ} {n m : Seen} {s : State Env ℕ} {e : Env} {work left : ℕ} (at : Place) (w : What) (id : ℕ) (made : Result Grid Trap)
          → arrays_at h.known z ≡ of_node id 0 ∷ [] → IsTrue (is_among h.arrays (of_node id 0)) → Within (id ∷ []) (nodes_in z) → Within nodes (nodes_in z) → Ready h nodes n s m e work left
          → units slots w + 4 ≤ left → does tables orders at w e ≡ matrix_made (slot_of h (of_node id 0)) e made
          → ComesToValue h z n s (ended (gridded (told made)) m) (run d (code_of at w) (record s { env = e; seen = work }))
      unfolding changed_all
      matrix_step {z = z} {e = e} at w id (Ok g) home among own others ready enough does_it =
          let f = with_slots (slot_of h (of_node id 0) ∷ []) (matrix_of g ∷ []) e in
          last_value at w id (Matrix g) f own others ready enough refl does_it
          (subst (λ (us : List Unknown). Stands h f us (word_of h z) (Matrix g)) (sym home) (a_matrix (changed_there (slot_of h (of_node id 0)) (matrix_of g) e.slots)))
          (slot_keeps apart id 0 (matrix_of g) e among) (let met = ready.met in record { executed = met.executed; bad = met.bad })
      matrix_step at w id (Err t) home among own others ready enough does_it = last_trap at w t ready (omega (arith, enough)) refl does_it
