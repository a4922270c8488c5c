-- What expressions come to that go element by element: `map`, `stencil`, and operators on arrays.
use Rattle.std.proofs.Common.{◌≡◌, ℕ, ◌==◌, ◌||◌, ℤ, Bool, true, false, codes, List, [], ◌∷◌, length, Result, Ok, Err, IsTrue, refl, sym, ap, subst, ◌∙◌, arith}
use Rattle.std.proofs.lemmas.Bool.{eq-eqb}
use Rattle.hp_word.specs.declared.elem.Elem.{Elem}
use Rattle.hp_word.specs.declared.order.Order.{Order}
use Rattle.hp_word.specs.declared.place.Trap.{Trap}
use Rattle.hp_word.specs.declared.table.Table.{Table}
use Rattle.hp_word.specs.Runs.{State, Ran}
use Rattle.hp_script.specs.declared.typed.Shape.{Shape}
use Rattle.hp_script.specs.declared.typed.Shape.TheVariants.{Int}
use Rattle.hp_script.specs.Functions.{function_named, scalar_named, fold_named, array_named}
use Rattle.hp_script.specs.Mirror.{Head, Tree, call, lambda, plain, none}
use Rattle.hp_script.specs.Nodes.{nodes_in}
use Rattle.hp_script.specs.Scope.{Scope as Point, element, window, with_parameter}
use Rattle.hp_script.specs.Shaped.{IsOutside, IsArrayOf, array_of_numbers, array_of_truths, HasShape}
use Rattle.hp_meaning.specs.declared.seen.Seen.{Seen}
use Rattle.hp_meaning.specs.declared.value.Kind.{Kind}
use Rattle.hp_meaning.specs.declared.value.Kind.TheVariants as kinds
use Rattle.hp_meaning.specs.declared.value.Value.{Value}
use Rattle.hp_meaning.specs.declared.value.Value.TheVariants.{Word, List as Listed, Matrix, Frame}
use Rattle.hp_meaning.specs.Fitting.{Keeps, numbers, truths, HasShape as IsOf}
use Rattle.hp_meaning.specs.LambdaRules.{kind_of, mapped_words, mapped as mapped_value, stencil_words, stencilled as stencil_value}
use Rattle.hp_meaning.specs.Outcomes.{Answer, told, tick, followed, ended}
use Rattle.hp_meaning.specs.Scopes.{Scope}
use Rattle.hp_meaning.specs.ValueOf.{value, parts, called_as, with_lambda}
use Rattle.hp_meaning.specs.WordRules.{listed}
use Rattle.hp_meaning.specs.ArgumentShapes.{one_plain, lambda_and_plain}
use Rattle.hp_program.specs.Programs.{Prog, run}
use Rattle.hp_air.specs.declared.slot.Slot.{Slot}
use Rattle.hp_air.specs.declared.what.Op.{Op}
use Rattle.hp_air.specs.declared.what.What.TheVariants as what
use Rattle.hp_air.specs.Carried.{is_among}
use Rattle.hp_air.specs.Meaning.{does, units, mapped, stencilled, array_made}
use Rattle.hp_air.specs.Unknowns.{Unknown, of_node, balanced_of, Columns, arrays_at}
use Rattle.hp_air.specs.Wholes.{Whole, Vector, cells, Env, lists_at, changed_all, with_slots}
use Rattle.hp_flat.specs.Elements.{elem_of, reach_of}
use Rattle.hp_flat.specs.Flat.{flat, flat_among}
use Rattle.hp_flat.specs.FlatCalls.{code_of, of_array, ins_of, out_of, call_code, named_call}
use Rattle.hp_flat.specs.Homes.{Homes, slot_of, slots_of, word_of}
use Rattle.hp_flat.specs.Standing.{Stands, an_array, VarsStand, KeepsOthers, is_array_of, ComesToValue, comes_to_none}
use Rattle.hp_flat.proofs.ElementBodies.{IsKind, number_kind, truth_kind}
use Rattle.hp_flat.proofs.ElementLoops.{map_is, stencil_is}
use Rattle.hp_flat.proofs.KeptHomes.{AreOfScript, vars_kept, Within, within_same, within_left, within_right, within_behind, within_first, keeps_both}
use Rattle.hp_flat.proofs.LastSteps.{AreApart, d, array_step, last_value, last_trap, slot_keeps, changed_there, changed_elsewhere, not_both}
use Rattle.hp_flat.proofs.OperandRuns.{StandsAt, Ready, one_operand, known_one, run_one}
use Rattle.hp_flat.proofs.WordMeanings.{g, Means, Yields}

-- ---- arrays that stand

-- an array stands in the slot of the only array
pub record IsArrayAt (h : Homes) (e : Env) (us : List Unknown) (xs : List ℤ) : Type 0 where
  pub array : Unknown
  pub only : us ≡ array ∷ []
  pub is : e.slots (slot_of h array) ≡ Vector xs

pub array_at : {h : Homes} {e : Env} {us : List Unknown} {w : ℕ} {kind : Kind} {xs : List ℤ} → Stands h e us w (Listed kind xs) → IsArrayAt h e us xs
array_at (an_array {u = u} is) = record { array = u; only = refl; is = is }

pub list_at : {h : Homes} {e : Env} {us : List Unknown} {xs : List ℤ} → IsArrayAt h e us xs → lists_at e (slots_of h us) ≡ xs ∷ []
list_at {h = h} {e = e} at = ap (λ (us : List Unknown). lists_at e (slots_of h us)) at.only ∙ ap (λ (w : Whole). cells w ∷ []) at.is

pub one_slot : {h : Homes} {e : Env} {us : List Unknown} {xs : List ℤ} → IsArrayAt h e us xs → length (slots_of h us) ≡ 1
one_slot {h = h} at = ap (λ (us : List Unknown). length (slots_of h us)) at.only

-- the kind of the elements of an array
kind_of_array : {one many : Shape} {kind : Kind} {xs : List ℤ} → IsArrayOf one many → IsOf many (Listed kind xs) → IsKind one kind
kind_of_array array_of_numbers (numbers xs) = number_kind
kind_of_array array_of_truths (truths xs are) = truth_kind

module _ (h : Homes) (slots : List Slot) (tables : List Table) (orders : List Order) (apart : AreApart h) where
  -- ---- map

  map_last : {n m : Seen} {s : State Env ℕ} {e : Env} {work : ℕ} (v : Scope) (c : Head) (p : List ℕ) (body x : Tree) (point : Point) {one many made : Shape} (b : Value)
      → IsOutside point → Keeps point v.vars → VarsStand h e v.vars → IsArrayOf one many → HasShape (with_parameter point p (element one)) body made
      → arrays_at h.known (call c (codes "map") false (lambda p body (plain x none))) ≡ of_node c.id 0 ∷ [] → IsTrue (is_among h.arrays (of_node c.id 0))
      → IsOf many b → StandsAt h e x b → Ready h (nodes_in x) n s m e work 20
      → ComesToValue h (call c (codes "map") false (lambda p body (plain x none))) n s (ended (mapped_value v.vars p body b) m)
      (run (d h slots tables orders) (code_of c.at (what.Map (out_of h c) (ins_of h x) (elem_of h p body))) (record s { env = e; seen = work }))
  unfolding mapped_value does units
  map_last {n = n} {m = m} {s = s} {e = e} {work = work} v c p body x point (Listed kind xs) outside keeps vars array fits home among typed stands ready =
      let at = array_at stands in
      let w = what.Map (out_of h c) (ins_of h x) (elem_of h p body) in
      let made = mapped c.at e.words (lists_at e (ins_of h x)) (elem_of h p body) in
      let words : told made ≡ mapped_words v.vars p body kind xs =
      ap (λ (lists : List (List ℤ)). told (mapped c.at e.words lists (elem_of h p body))) (list_at at) ∙ map_is h e c.at point v.vars p body kind xs outside keeps vars (kind_of_array array typed) fits in
      let few : length (ins_of h x) ≡ 1 = one_slot at in
      subst (λ (answer : Answer (List ℤ)). ComesToValue h (call c (codes "map") false (lambda p body (plain x none))) n s (ended (listed (kind_of body p kind v.vars) answer) m) (run (d h slots tables orders) (code_of c.at w) (record s { env = e; seen = work }))) words
      (array_step h slots tables orders apart c.at w c.id (kind_of body p kind v.vars) made home among within_first (within_behind (within_right (nodes_in body) (within_left [] within_same))) ready (omega (arith, few)) refl)
  map_last v c p body x point (Word kind z) outside keeps vars array fits home among typed stands ready = comes_to_none
  map_last v c p body x point (Matrix grid) outside keeps vars array fits home among typed stands ready = comes_to_none
  map_last v c p body x point (Frame columns) outside keeps vars array fits home among typed stands ready = comes_to_none

  pub map_means : (around : Columns) (v : Scope) (c : Head) (p : List ℕ) (body x : Tree) (point : Point) {one many made : Shape} → IsOutside point → Keeps point v.vars → AreOfScript h v.vars
      → IsArrayOf one many → HasShape (with_parameter point p (element one)) body made
      → arrays_at h.known (call c (codes "map") false (lambda p body (plain x none))) ≡ of_node c.id 0 ∷ [] → IsTrue (is_among h.arrays (of_node c.id 0))
      → Yields h slots tables orders (IsOf many) v x → Means h slots tables orders around v x → Means h slots tables orders around v (call c (codes "map") false (lambda p body (plain x none)))
  unfolding value parts called_as with_lambda flat flat_among named_call call_code function_named scalar_named fold_named array_named lambda_and_plain one_plain
  map_means around v c p body x point {many = many} outside keeps script array fits home among typed first n s vars frame met =
      let code = code_of c.at (what.Map (out_of h c) (ins_of h x) (elem_of h p body)) in
      subst (λ (ran : Ran Env ℕ). ComesToValue h (call c (codes "map") false (lambda p body (plain x none))) n s (followed (value (g h slots tables orders) x v (tick n)) (λ a. ended (mapped_value v.vars p body a))) ran)
      (sym (run_one (d h slots tables orders) (flat h around x) code s))
      (known_one h (λ a. ended (mapped_value v.vars p body a)) (run (d h slots tables orders) code) (first (tick n) s vars frame met)
      (λ b k e work is stands ready. map_last v c p body x point b outside keeps (vars_kept h v.vars script ready.keeps vars) array fits home among (typed (tick n) k b is) stands ready))

  -- ---- stencil

  copy_keeps : (id : ℕ) (whole : Whole) (e : Env) → IsTrue (is_among h.arrays (balanced_of id)) → KeepsOthers h (id ∷ []) e (with_slots (slot_of h (balanced_of id) ∷ []) (whole ∷ []) e)
  unfolding changed_all
  copy_keeps id whole e among = record {
    slots = λ u not. changed_elsewhere (slot_of h (balanced_of id)) (slot_of h u) whole e.slots (λ same. other u not (apart (balanced_of id) u among (sym same)));
    variables = λ v less. refl;
    words = λ k not. refl;
  }
    where
      other : (u : Unknown) → is_array_of (id ∷ []) u ≡ false → balanced_of id ≡ u → ⊥
      other u not same = not_both (id == id) (eq-eqb id id refl) (ap (is_array_of (id ∷ [])) same ∙ not)

  stencil_step : {z : Tree} {nodes : List ℕ} {n m : Seen} {s : State Env ℕ} {e : Env} {work : ℕ} (c : Head) (array : Unknown) (reach : ℕ) (elem : Elem) (made : Result (List ℤ) Trap)
      → arrays_at h.known z ≡ of_node c.id 0 ∷ [] → IsTrue (is_among h.arrays (of_node c.id 0)) → IsTrue (is_among h.arrays (balanced_of c.id)) → Within (c.id ∷ []) (nodes_in z) → Within nodes (nodes_in z) → Ready h nodes n s m e work 20
      → stencilled e.words (cells (e.slots (slot_of h array))) elem ≡ made
      → ComesToValue h z n s (ended (listed kinds.Number (told made)) m) (run (d h slots tables orders) (code_of c.at (what.Stencil (out_of h c) (slot_of h array) (slot_of h (balanced_of c.id)) reach elem)) (record s { env = e; seen = work }))
  unfolding does units changed_all
  stencil_step {z = z} {e = e} c array reach elem (Ok ys) home among balanced own others ready is =
      let before = with_slots (slot_of h (balanced_of c.id) ∷ []) (e.slots (slot_of h array) ∷ []) e in
      let behind_it = with_slots (slot_of h (of_node c.id 0) ∷ []) (Vector ys ∷ []) before in
      last_value h slots tables orders c.at (what.Stencil (out_of h c) (slot_of h array) (slot_of h (balanced_of c.id)) reach elem) c.id (Listed kinds.Number ys) behind_it own others ready (omega arith) refl
      (ap (array_made (out_of h c) before) is)
      (subst (λ (us : List Unknown). Stands h behind_it us (word_of h z) (Listed kinds.Number ys)) (sym home) (an_array (changed_there (slot_of h (of_node c.id 0)) (Vector ys) before.slots)))
      (keeps_both h (copy_keeps c.id (e.slots (slot_of h array)) e balanced) (slot_keeps h apart c.id 0 (Vector ys) before among)) (let met = ready.met in record { executed = met.executed; bad = met.bad })
  stencil_step {e = e} c array reach elem (Err t) home among balanced own others ready is =
      last_trap h slots tables orders c.at (what.Stencil (out_of h c) (slot_of h array) (slot_of h (balanced_of c.id)) reach elem) t ready (omega arith) refl
      (ap (array_made (out_of h c) (with_slots (slot_of h (balanced_of c.id) ∷ []) (e.slots (slot_of h array) ∷ []) e)) is)

  abbrev stencil_code : Head → List ℕ → Tree → List Unknown → Prog Op
  stencil_code c p body us = of_array us (λ array. code_of c.at (what.Stencil (out_of h c) (slot_of h array) (slot_of h (balanced_of c.id)) (reach_of body) (elem_of h p body)))

  stencil_last : {n m : Seen} {s : State Env ℕ} {e : Env} {work : ℕ} (v : Scope) (c : Head) (p : List ℕ) (body x : Tree) (point : Point) (b : Value)
      → IsOutside point → Keeps point v.vars → VarsStand h e v.vars → HasShape (with_parameter point p window) body Int
      → arrays_at h.known (call c (codes "stencil") false (lambda p body (plain x none))) ≡ of_node c.id 0 ∷ [] → IsTrue (is_among h.arrays (of_node c.id 0)) → IsTrue (is_among h.arrays (balanced_of c.id))
      → StandsAt h e x b → Ready h (nodes_in x) n s m e work 20
      → ComesToValue h (call c (codes "stencil") false (lambda p body (plain x none))) n s (ended (stencil_value v.vars p body b) m)
      (run (d h slots tables orders) (stencil_code c p body (arrays_at h.known x)) (record s { env = e; seen = work }))
  unfolding stencil_value
  stencil_last {n = n} {m = m} {s = s} {e = e} {work = work} v c p body x point (Listed kinds.Number xs) outside keeps vars fits home among balanced stands ready =
      let at = array_at stands in
      let z = call c (codes "stencil") false (lambda p body (plain x none)) in
      let made = stencilled e.words (cells (e.slots (slot_of h at.array))) (elem_of h p body) in
      let words : told made ≡ stencil_words v.vars p body xs =
      ap (λ (w : Whole). told (stencilled e.words (cells w) (elem_of h p body))) at.is ∙ stencil_is h e point v.vars p body xs outside keeps vars fits in
      subst (λ (us : List Unknown). ComesToValue h z n s (ended (listed kinds.Number (stencil_words v.vars p body xs)) m) (run (d h slots tables orders) (stencil_code c p body us) (record s { env = e; seen = work }))) (sym at.only)
      (subst (λ (answer : Answer (List ℤ)). ComesToValue h z n s (ended (listed kinds.Number answer) m) (run (d h slots tables orders) (stencil_code c p body (at.array ∷ [])) (record s { env = e; seen = work }))) words
      (stencil_step c at.array (reach_of body) (elem_of h p body) made home among balanced within_first (within_behind (within_right (nodes_in body) (within_left [] within_same))) ready refl))
  stencil_last v c p body x point (Listed kinds.Truth xs) outside keeps vars fits home among balanced stands ready = comes_to_none
  stencil_last v c p body x point (Word kind z) outside keeps vars fits home among balanced stands ready = comes_to_none
  stencil_last v c p body x point (Matrix grid) outside keeps vars fits home among balanced stands ready = comes_to_none
  stencil_last v c p body x point (Frame columns) outside keeps vars fits home among balanced stands ready = comes_to_none

  pub stencil_means : (around : Columns) (v : Scope) (c : Head) (p : List ℕ) (body x : Tree) (point : Point) → IsOutside point → Keeps point v.vars → AreOfScript h v.vars
      → HasShape (with_parameter point p window) body Int
      → arrays_at h.known (call c (codes "stencil") false (lambda p body (plain x none))) ≡ of_node c.id 0 ∷ [] → IsTrue (is_among h.arrays (of_node c.id 0)) → IsTrue (is_among h.arrays (balanced_of c.id))
      → Means h slots tables orders around v x → Means h slots tables orders around v (call c (codes "stencil") false (lambda p body (plain x none)))
  unfolding value parts called_as with_lambda flat flat_among named_call call_code function_named scalar_named fold_named array_named lambda_and_plain one_plain
  stencil_means around v c p body x point outside keeps script fits home among balanced first n s vars frame met =
      let code = stencil_code c p body (arrays_at h.known x) in
      subst (λ (ran : Ran Env ℕ). ComesToValue h (call c (codes "stencil") false (lambda p body (plain x none))) n s (followed (value (g h slots tables orders) x v (tick n)) (λ a. ended (stencil_value v.vars p body a))) ran)
      (sym (run_one (d h slots tables orders) (flat h around x) code s))
      (one_operand h (λ a. ended (stencil_value v.vars p body a)) (run (d h slots tables orders) code) (first (tick n) s vars frame met)
      (λ b k e work stands ready. stencil_last v c p body x point b outside keeps (vars_kept h v.vars script ready.keeps vars) fits home among balanced stands ready))
