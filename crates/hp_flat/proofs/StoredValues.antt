-- An assignment: the value of its expression stands in the place of the variable, and all other variables as before.
use Rattle.std.proofs.Common.{◌≡◌, ℕ, zero, suc, ◌+◌, ◌*◌, ◌≤◌, ◌<◌, ℤ, Bool, true, false, cond, nat_lt, bytes_eq, List, [], ◌∷◌, map, length, slice_get, Option, Some, None, IsTrue, refl, sym, ap, subst, ◌∙◌, arith}
use Rattle.std.proofs.lemmas.Option.{same_Some}
use Rattle.std.proofs.lemmas.List.{length-map}
use Rattle.std.proofs.lemmas.List.FromFn.{length-range_with_len}
use Rattle.std.specs.List.{position_or_len, range_with_len}
use Rattle.hp_word.specs.declared.order.Order.{Order}
use Rattle.hp_word.specs.declared.place.Place.{Place}
use Rattle.hp_word.specs.declared.table.Table.{Table}
use Rattle.hp_word.specs.declared.word.CalcOp.TheVariants as calc
use Rattle.hp_word.specs.Runs as runs
use Rattle.hp_word.specs.Runs.{Went}
use Rattle.hp_script.specs.declared.typed.Shape.{Shape}
use Rattle.hp_script.specs.declared.typed.Var.{Var as Declared}
use Rattle.hp_script.specs.Mirror.{Tree}
use Rattle.hp_script.proofs.TestLemmas.{bytes_same, not_both}
use Rattle.hp_meaning.specs.declared.seen.Seen.{Seen}
use Rattle.hp_meaning.specs.declared.value.Column.{Column}
use Rattle.hp_meaning.specs.declared.value.Value.{Value}
use Rattle.hp_meaning.specs.declared.value.Value.TheVariants.{Frame}
use Rattle.hp_meaning.specs.declared.value.Var.{Var}
use Rattle.hp_meaning.specs.Fitting.{HasShape, a_number, a_truth, numbers, truths, a_matrix as matrix_of_type, a_frame as frame_of_type, names_of}
use Rattle.hp_meaning.specs.Run.{State, store}
use Rattle.hp_meaning.specs.Scopes.{value_named, assigned}
use Rattle.hp_meaning.proofs.NamedVariables.{same_bytes, value_stored, value_kept}
use Rattle.hp_program.specs.Programs.{Prog, run}
use Rattle.hp_air.specs.declared.slot.Slot.{Slot}
use Rattle.hp_air.specs.declared.what.Op.{Op}
use Rattle.hp_air.specs.declared.what.What.TheVariants as what
use Rattle.hp_air.specs.Carried.{is_among}
use Rattle.hp_air.specs.Meaning.{does, units, silent}
use Rattle.hp_air.specs.Unknowns.{Unknown, of_node, of_variable, at_variable, arrays_at, arrays_named, number_of, shape_at, shape_named, width}
use Rattle.hp_air.specs.Wholes.{Env, with_word, with_slots}
use Rattle.hp_flat.specs.Flat.{store_code}
use Rattle.hp_flat.specs.FlatCalls.{array_copy, word_copy}
use Rattle.hp_flat.specs.Homes.{Homes, slot_of, slots_of, word_named, word_of}
use Rattle.hp_flat.specs.Standing.{Stands, a_word, an_array, a_matrix, a_frame, VarsStand, HasMet}
use Rattle.hp_flat.proofs.AlikeRuns.{EndsAlike, both_went}
use Rattle.hp_flat.proofs.ColumnWrites.{ColumnsAreAmong, others_as_before, columns_written}
use Rattle.hp_flat.proofs.LastSteps.{AreApart, d, op_went, changed_there, changed_elsewhere}
use Rattle.hp_flat.proofs.LazyMeanings.{max_itself}
use Rattle.hp_flat.proofs.OperandRuns.{StandsAt}
use Rattle.hp_flat.proofs.SlotWrites.{AreCopied, copy_stands, copy_units}
use Rattle.hp_flat.proofs.VariablePlaces.{HasPlace, has_place, one_name}

-- ---- arrays of variables

variable_column : Unknown → ℕ
variable_column (of_variable v c) = c
variable_column _ = 0

variable_place : Unknown → ℕ
variable_place (of_variable v c) = v
variable_place _ = 0

one_column : (v b c : ℕ) → of_variable v b ≡ of_variable v c → b ≡ c
unfolding variable_column
one_column v b c same = ap variable_column same

other_place : (v w b c : ℕ) → (w ≡ v → ⊥) → of_variable v b ≡ of_variable w c → ⊥
unfolding variable_place
other_place v w b c other same = other (sym (ap variable_place same))

counted : (made : ℕ → Unknown) (w : ℕ) → length (map made (range_with_len 0 w)) ≡ w
counted made w = length-map (range_with_len 0 w) made ∙ length-range_with_len 0 w

-- each column of a variable of the script has a slot
abbrev pub VariablesAreAmong : Homes → Type 0
VariablesAreAmong h = (k : ℕ) (var : Declared) (c : ℕ) → slice_get h.known.vars k ≡ Some var → c < width (Some var.shape) → IsTrue (is_among h.arrays (of_variable k c))

module _ (h : Homes) where
  -- ---- values that stand in another place

  no_columns : {e : Env} {w : ℕ} (columns : List Column) → length (names_of columns) ≡ 0 → Stands h e [] w (Frame columns)
  no_columns [] none = a_frame tt
  no_columns (c ∷ columns) none = absurd (omega (arith, none))

  -- a value without arrays, in another word
  word_stored : {kind : Shape} {a : Value} {e f : Env} {us : List Unknown} {w to : ℕ} → HasShape kind a → width (Some kind) ≡ 0 → f.words to ≡ e.words w → Stands h e us w a → Stands h f [] to a
  word_stored (a_number x) none same (a_word is) = a_word (same ∙ is)
  word_stored (a_truth x t) none same (a_word is) = a_word (same ∙ is)
  word_stored (numbers xs) none same stands = absurd (omega (arith, none))
  word_stored (truths xs t) none same stands = absurd (omega (arith, none))
  word_stored (matrix_of_type m) none same stands = absurd (omega (arith, none))
  word_stored (frame_of_type names columns is) none same stands = no_columns columns (ap length is ∙ none)

  -- a value of arrays stands whatever its word is
  any_word : {kind : Shape} {a : Value} {e : Env} {us : List Unknown} {w v : ℕ} (n : ℕ) → HasShape kind a → width (Some kind) ≡ suc n → Stands h e us w a → Stands h e us v a
  any_word n (a_number x) some stands = absurd (omega (arith, some))
  any_word n (a_truth x t) some stands = absurd (omega (arith, some))
  any_word n (numbers xs) some (an_array is) = an_array is
  any_word n (truths xs t) some (an_array is) = an_array is
  any_word n (matrix_of_type m) some (a_matrix is) = a_matrix is
  any_word n (frame_of_type names columns e) some (a_frame stand) = a_frame stand

  -- ---- variables

  -- the value of a variable stands in its place, and what is of others is as before
  pub record IsStored (x : List ℕ) (a : Value) (e f : Env) : Type 0 where
    pub own : Stands h f (arrays_named h.known x) (word_named h x) a
    pub slots : (v c : ℕ) → (v ≡ word_named h x → ⊥) → f.slots (slot_of h (of_variable v c)) ≡ e.slots (slot_of h (of_variable v c))
    pub words : (v : ℕ) → (v ≡ word_named h x → ⊥) → f.words v ≡ e.words v

  variable_same : (e f : Env) (v a w : ℕ) → ((c : ℕ) → f.slots (slot_of h (of_variable v c)) ≡ e.slots (slot_of h (of_variable v c)))
      → AreCopied h e f (map (of_variable v) (range_with_len a w)) (map (of_variable v) (range_with_len a w))
  variable_same e f v a zero same = tt
  variable_same e f v a (suc w) same = (same a, variable_same e f v (a + 1) w same)

  place_same : (e f : Env) (v : ℕ) (found : Option Shape) (b : Bool) → ((c : ℕ) → f.slots (slot_of h (of_variable v c)) ≡ e.slots (slot_of h (of_variable v c)))
      → AreCopied h e f (at_variable (cond b (Some v) None) found) (at_variable (cond b (Some v) None) found)
  place_same e f v found true same = variable_same e f v 0 (width found) same
  place_same e f v found false same = tt

  named_same : (e f : Env) (y : List ℕ) → ((c : ℕ) → f.slots (slot_of h (of_variable (word_named h y) c)) ≡ e.slots (slot_of h (of_variable (word_named h y) c)))
      → AreCopied h e f (arrays_named h.known y) (arrays_named h.known y)
  unfolding word_named
  named_same e f y same =
      let place = position_or_len (λ (v : Declared). bytes_eq y v.name.bytes) h.known.vars in
      place_same e f place (shape_named h.known y) (nat_lt place (length h.known.vars)) same

  -- the variable itself, and another one
  own_stored : (x y : List ℕ) (a b : Value) (e f : Env) (vars : List Var) → IsStored x a e f → x ≡ y → value_named y (assigned x a vars) ≡ Some b → Stands h f (arrays_named h.known y) (word_named h y) b
  own_stored x y a b e f vars stored same is =
      let value : a ≡ b = same_Some a b (sym (value_stored x a vars) ∙ ap (λ (n : List ℕ). value_named n (assigned x a vars)) same ∙ is) in
      subst (λ (n : List ℕ). Stands h f (arrays_named h.known n) (word_named h n) b) same
      (subst (λ (v : Value). Stands h f (arrays_named h.known x) (word_named h x) v) value stored.own)

  -- two variables have two places
  two_places : (x y : List ℕ) → bytes_eq x y ≡ false → word_named h x < length h.known.vars → word_named h y ≡ word_named h x → ⊥
  unfolding word_named
  two_places x y differ less same = not_both (bytes_eq x y) (bytes_same x y (sym (one_name h.known.vars y x same less))) differ

  other_stored : (x y : List ℕ) (a b : Value) (e f : Env) (vars : List Var) → IsStored x a e f → VarsStand h e vars → word_named h x < length h.known.vars → bytes_eq x y ≡ false
      → value_named y (assigned x a vars) ≡ Some b → Stands h f (arrays_named h.known y) (word_named h y) b
  other_stored x y a b e f vars stored stand less differ is =
      let other = two_places x y differ less in
      copy_stands h e f (arrays_named h.known y) (arrays_named h.known y) (word_named h y) b (named_same e f y (λ c. stored.slots (word_named h y) c other)) (stored.words (word_named h y) other)
      (stand y b (sym (value_kept x y a vars differ) ∙ is))

  by_name : (x y : List ℕ) (a b : Value) (e f : Env) (vars : List Var) (same : Bool) → bytes_eq x y ≡ same → IsStored x a e f → VarsStand h e vars → word_named h x < length h.known.vars
      → value_named y (assigned x a vars) ≡ Some b → Stands h f (arrays_named h.known y) (word_named h y) b
  by_name x y a b e f vars true own stored stand less is = own_stored x y a b e f vars stored (same_bytes x y own) is
  by_name x y a b e f vars false differ stored stand less is = other_stored x y a b e f vars stored stand less differ is

  pub vars_stored : (x : List ℕ) (a : Value) (e f : Env) (vars : List Var) → IsStored x a e f → VarsStand h e vars → word_named h x < length h.known.vars → VarsStand h f (assigned x a vars)
  vars_stored x a e f vars stored stand less y b is = by_name x y a b e f vars (bytes_eq x y) refl stored stand less is

  -- ---- the operation of an assignment

  module _ (slots : List Slot) (tables : List Table) (orders : List Order) (apart : AreApart h) (stand : VariablesAreAmong h) where
    -- a value without arrays
    word_is_stored : {kind : Shape} {a : Value} {e : Env} {us : List Unknown} (x : List ℕ) (w : ℕ) → HasShape kind a → width (Some kind) ≡ 0 → arrays_named h.known x ≡ [] → Stands h e us w a
        → IsStored x a e (with_word (word_named h x) (e.words w) e)
    word_is_stored {a = a} {e = e} x w typed none home stands =
        let f = with_word (word_named h x) (e.words w) e in
        record {
          own = subst (λ (us : List Unknown). Stands h f us (word_named h x) a) (sym home) (word_stored typed none (changed_there (word_named h x) (e.words w) e.words) stands);
          slots = λ v c other. refl;
          words = λ v other. changed_elsewhere (word_named h x) v (e.words w) e.words other;
        }

    -- a value of arrays
    abbrev IsCopiedTo : (us ins : List Unknown) (x : List ℕ) (a : Value) (e : Env) → Type 0
    IsCopiedTo us ins x a e =
        Stands h (with_slots (slots_of h us) (map e.slots (slots_of h ins)) e) us (word_named h x) a
        × ((v c : ℕ) → (v ≡ word_named h x → ⊥) → (with_slots (slots_of h us) (map e.slots (slots_of h ins)) e).slots (slot_of h (of_variable v c)) ≡ e.slots (slot_of h (of_variable v c)))

    arrays_are_stored : {kind : Shape} {a : Value} {e : Env} {w : ℕ} (x : List ℕ) (n : ℕ) (ins : List Unknown) → HasShape kind a → width (Some kind) ≡ suc n → length ins ≡ width (Some kind) → HasPlace h x kind → Stands h e ins w a
        → IsStored x a e (with_slots (slots_of h (arrays_named h.known x)) (map e.slots (slots_of h ins)) e)
    arrays_are_stored {kind = kind} {a = a} {e = e} {w = w} x n ins typed some many place stands =
        let v = word_named h x in
        let outs = map (of_variable v) (range_with_len 0 (width (Some kind))) in
        let wholes = map e.slots (slots_of h ins) in
        let f = with_slots (slots_of h outs) wholes e in
        let among : ColumnsAreAmong h apart (of_variable v) (one_column v) 0 (width (Some kind)) = λ c low high. stand v place.var c place.at (subst (λ (k : Shape). c < width (Some k)) (sym place.of_kind) (omega (arith, high))) in
        let counted : length wholes ≡ width (Some kind) = length-map (slots_of h ins) e.slots ∙ (length-map ins (slot_of h) ∙ many) in
        let copied : IsCopiedTo (arrays_named h.known x) ins x a e = subst (λ (us : List Unknown). IsCopiedTo us ins x a e) (sym place.arrays) (
          any_word n typed some (copy_stands h e f outs ins w a (columns_written h apart (of_variable v) (one_column v) (width (Some kind)) wholes e among counted) refl stands),
          λ u c other. others_as_before h apart (of_variable v) (one_column v) 0 (width (Some kind)) wholes e.slots among (of_variable u c) (λ b. other_place v u b c other),
        ) in
        record { own = copied.0; slots = copied.1; words = λ u other. refl }

    copied_word : (at : Place) (to from : ℕ) (s : runs.State Env ℕ) → run (d h slots tables orders) (word_copy at to from) s ≡ Went (record s { env = with_word to (s.env.words from) s.env; seen = s.seen + 1 })
    unfolding word_copy does units
    copied_word at to from s =
        op_went h slots tables orders at (what.Calc to calc.Max from from) s (with_word to (s.env.words from) s.env) (ap (λ (x : ℤ). silent (with_word to x s.env)) (max_itself (s.env.words from)))

    copied_arrays : (at : Place) (outs ins : List Unknown) (n : ℕ) (s : runs.State Env ℕ) → length outs ≡ suc n
        → run (d h slots tables orders) (array_copy h at outs ins) s
        ≡ Went (record s { env = with_slots (slots_of h outs) (map s.env.slots (slots_of h ins)) s.env; seen = s.seen + units slots (what.Copy (slots_of h outs) (slots_of h ins)) })
    unfolding array_copy does
    copied_arrays at [] ins n s many = absurd (omega (arith, many))
    copied_arrays at (u ∷ us) ins n s many =
        op_went h slots tables orders at (what.Copy (slots_of h (u ∷ us)) (slots_of h ins)) s (with_slots (slots_of h (u ∷ us)) (map s.env.slots (slots_of h ins)) s.env) refl

    -- behind an assignment the states are alike
    assigned_alike : {P : State → Type 0} {a : Value} {kind : Shape} {e f : Env} {ran : runs.Ran Env ℕ} (st : State) (t : runs.State Env ℕ) (m : Seen) (work spent : ℕ) (x : List ℕ) → IsStored x a e f → HasPlace h x kind
        → P (store x a (record st { seen = m })) → VarsStand h e st.env → HasMet f m.met → work + 4 ≤ 16 * (m.ticks + 1) → spent ≤ 4 → t.out ≡ st.out → t.fuel ≡ st.fuel
        → ran ≡ Went (record t { env = f; seen = work + spent }) → EndsAlike h 0 P (Went (store x a (record st { seen = m }))) ran
    assigned_alike {P = P} {a = a} {e = e} {f = f} st t m work spent x stored place holds vars met paid few out fuel is =
        subst (λ (ran : runs.Ran Env ℕ). EndsAlike h 0 P (Went (store x a (record st { seen = m }))) ran) (sym is)
        (both_went holds (record { vars = vars_stored x a e f st.env stored vars place.below; met = met; out = out; fuel = fuel; paid = omega (arith, paid, few) }))

    -- the operation for a value of these arrays
    abbrev stored_by : Place → List ℕ → Tree → List Unknown → Prog Op
    stored_by at x tree us = elim us [ [] ↦ word_copy at (word_named h x) (word_of h tree) | (_ ∷ _) ↦ array_copy h at (arrays_named h.known x) (arrays_at h.known tree) ]

    node_arrays : (tree : Tree) (kind : Shape) → shape_at h.known (number_of tree) ≡ Some kind → arrays_at h.known tree ≡ map (of_node (number_of tree)) (range_with_len 0 (width (Some kind)))
    node_arrays tree kind e = ap (λ (o : Option Shape). map (of_node (number_of tree)) (range_with_len 0 (width o))) e

    -- a statement's value goes to the place of its variable
    pub stored_alike : {P : State → Type 0} {a : Value} {kind : Shape} (st : State) (t : runs.State Env ℕ) (m : Seen) (e : Env) (work : ℕ) (at : Place) (x : List ℕ) (tree : Tree)
        → HasShape kind a → shape_at h.known (number_of tree) ≡ Some kind → shape_named h.known x ≡ Some kind → P (store x a (record st { seen = m }))
        → StandsAt h e tree a → VarsStand h e st.env → HasMet e m.met → work + 4 ≤ 16 * (m.ticks + 1) → t.out ≡ st.out → t.fuel ≡ st.fuel
        → EndsAlike h 0 P (Went (store x a (record st { seen = m }))) (run (d h slots tables orders) (store_code h at x tree) (record t { env = e; seen = work }))
    unfolding store_code
    stored_alike {P = P} {a = a} {kind = kind} st t m e work at x tree typed told named holds stands vars met paid out fuel =
        subst (λ (us : List Unknown). EndsAlike h 0 P (Went (store x a (record st { seen = m }))) (run (d h slots tables orders) (stored_by at x tree us) (record t { env = e; seen = work }))) (sym (node_arrays tree kind told))
        (by_width (width (Some kind)) refl)
      where
        by_width : (w : ℕ) → width (Some kind) ≡ w
            → EndsAlike h 0 P (Went (store x a (record st { seen = m }))) (run (d h slots tables orders) (stored_by at x tree (map (of_node (number_of tree)) (range_with_len 0 w))) (record t { env = e; seen = work }))
        by_width zero none =
            let place = has_place h x kind named in
            let home : arrays_named h.known x ≡ [] = place.arrays ∙ ap (λ (w : ℕ). map (of_variable (word_named h x)) (range_with_len 0 w)) none in
            assigned_alike st t m work 1 x (word_is_stored x (word_of h tree) typed none home stands) place holds vars (record { executed = met.executed; bad = met.bad }) paid (omega arith) out fuel
            (copied_word at (word_named h x) (word_of h tree) (record t { env = e; seen = work }))
        by_width (suc n) some =
            let place = has_place h x kind named in
            let os = slots_of h (arrays_named h.known x) in
            let is = slots_of h (arrays_at h.known tree) in
            let wide : length (arrays_named h.known x) ≡ suc n = ap length place.arrays ∙ (counted (of_variable (word_named h x)) (width (Some kind)) ∙ some) in
            let many : length (arrays_at h.known tree) ≡ width (Some kind) = ap length (node_arrays tree kind told) ∙ counted (of_node (number_of tree)) (width (Some kind)) in
            assigned_alike st t m work (units slots (what.Copy os is)) x (arrays_are_stored x n (arrays_at h.known tree) typed some many place stands) place holds vars (record { executed = met.executed; bad = met.bad }) paid
            (let few = copy_units slots os is in omega (arith, few)) out fuel (copied_arrays at (arrays_named h.known x) (arrays_at h.known tree) n (record t { env = e; seen = work }) wide)
