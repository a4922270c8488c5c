-- What statements come to behind the value of their expression: outputs, and branches by a truth value.
use Rattle.std.proofs.Common.{◌≡◌, ℕ, ◌+◌, ◌*◌, ◌≤◌, ℤ, Bool, true, false, cond, List, [], ◌∷◌, map, Option, Some, refl, sym, ap, ap₂, subst, ◌∙◌, arith}
use Rattle.std.specs.List.{range_with_len}
use Rattle.hp_word.specs.declared.name.Name.{Name}
use Rattle.hp_word.specs.declared.order.Order.{Order}
use Rattle.hp_word.specs.declared.place.Place.{Place}
use Rattle.hp_word.specs.declared.table.Table.{Table}
use Rattle.hp_word.specs.Runs as runs
use Rattle.hp_word.specs.Text.{csv}
use Rattle.hp_word.specs.Words.{is_true}
use Rattle.hp_script.specs.declared.typed.Shape.{Shape}
use Rattle.hp_script.specs.declared.typed.Shape.TheVariants as shape
use Rattle.hp_script.specs.Fitting.{CanPrint, print_number, print_truth, print_numbers, print_truths}
use Rattle.hp_script.specs.Mirror.{Tree}
use Rattle.hp_meaning.specs.declared.seen.Seen.{Seen}
use Rattle.hp_meaning.specs.declared.value.Column.{Column}
use Rattle.hp_meaning.specs.declared.value.Kind.TheVariants.{Number, Truth}
use Rattle.hp_meaning.specs.declared.value.Value.{Value}
use Rattle.hp_meaning.specs.declared.value.Value.TheVariants.{Word}
use Rattle.hp_meaning.specs.Fitting.{HasShape, a_number, a_truth, numbers, truths, a_frame as frame_of_type}
use Rattle.hp_meaning.specs.Fitting as fitting
use Rattle.hp_meaning.specs.Printouts.{printout, export_text, frame_text, names_of}
use Rattle.hp_meaning.specs.Run.{State, Ran, written, branch}
use Rattle.hp_program.specs.Programs.{Prog, run, by_word}
use Rattle.hp_program.specs.Programs as programs
use Rattle.hp_air.specs.declared.slot.Slot.{Slot}
use Rattle.hp_air.specs.declared.what.Op.{Op}
use Rattle.hp_air.specs.declared.what.What.TheVariants as what
use Rattle.hp_air.specs.Meaning.{does, units}
use Rattle.hp_air.specs.Meaning as air
use Rattle.hp_air.specs.Unknowns.{Unknown, of_node, columns_of, arrays_at, number_of, shape_at, width}
use Rattle.hp_air.specs.Wholes.{Env}
use Rattle.hp_flat.specs.Flat.{print_code, export_code, is_truths}
use Rattle.hp_flat.specs.FlatCalls.{code_of, ins_of}
use Rattle.hp_flat.specs.Homes.{Homes, slot_of, slots_of, word_of}
use Rattle.hp_flat.specs.Standing.{Stands, a_word, an_array, a_frame, VarsStand, HasMet}
use Rattle.hp_flat.proofs.AlikeRuns.{EndsAlike, if_alike}
use Rattle.hp_flat.proofs.FrameSteps.{held_columns}
use Rattle.hp_flat.proofs.LastSteps.{d}
use Rattle.hp_flat.proofs.OperandRuns.{StandsAt}
use Rattle.hp_flat.proofs.PrintMeanings.{wrote_alike, word_printed, list_printed}

-- the states before the operation of a statement, behind its expression
pub record IsReady (h : Homes) (st : State) (t : runs.State Env ℕ) (m : Seen) (e : Env) (work : ℕ) : Type 0 where
  pub vars : VarsStand h e st.env
  pub met : HasMet e m.met
  pub paid : work + 4 ≤ 16 * (m.ticks + 1)
  pub out : t.out ≡ st.out
  pub fuel : t.fuel ≡ st.fuel

module _ (h : Homes) (slots : List Slot) (tables : List Table) (orders : List Order) where
  -- ---- `println`

  -- the operation for a value of these arrays, whose elements or word are truth values or not
  abbrev printed_by : Place → Tree → Bool → List Unknown → Prog Op
  printed_by at x truth us = elim us [ [] ↦ code_of at (what.PrintWord (word_of h x) truth) | (u ∷ _) ↦ code_of at (what.PrintList (slot_of h u) truth) ]

  abbrev Prints : (P : State → Type 0) (st : State) (t : runs.State Env ℕ) (m : Seen) (e : Env) (work : ℕ) → Value → Prog Op → Type 0
  Prints P st t m e work a code = EndsAlike h 0 P (written (printout a) (record st { seen = m })) (run (d h slots tables orders) code (record t { env = e; seen = work }))

  by_kind : {P : State → Type 0} {kind : Shape} {a : Value} (st : State) (t : runs.State Env ℕ) (m : Seen) (e : Env) (work : ℕ) (at : Place) (x : Tree) (w : ℕ) (us : List Unknown)
      → us ≡ map (of_node w) (range_with_len 0 (width (Some kind))) → CanPrint kind → HasShape kind a → Stands h e us (word_of h x) a → ((out : List ℕ) → P (record st { seen = m; out = out })) → IsReady h st t m e work
      → Prints P st t m e work a (printed_by at x (is_truths (Some kind)) us)
  by_kind {P = P} st t m e work at x w us home print_number (a_number z) (a_word is) holds ready =
      subst (λ (us : List Unknown). Prints P st t m e work (Word Number z) (printed_by at x false us)) (sym home)
      (word_printed h slots tables orders P st t m e work at (word_of h x) false z is holds ready.vars ready.met ready.paid ready.out ready.fuel)
  by_kind {P = P} st t m e work at x w us home print_truth (a_truth z truth) (a_word is) holds ready =
      subst (λ (us : List Unknown). Prints P st t m e work (Word Truth z) (printed_by at x true us)) (sym home)
      (word_printed h slots tables orders P st t m e work at (word_of h x) true z is holds ready.vars ready.met ready.paid ready.out ready.fuel)
  by_kind {P = P} st t m e work at x w us home print_numbers (numbers xs) (an_array {u = u} is) holds ready =
      list_printed h slots tables orders P st t m e work at (slot_of h u) false xs is holds ready.vars ready.met ready.paid ready.out ready.fuel
  by_kind {P = P} st t m e work at x w us home print_truths (truths xs truth) (an_array {u = u} is) holds ready =
      list_printed h slots tables orders P st t m e work at (slot_of h u) true xs is holds ready.vars ready.met ready.paid ready.out ready.fuel

  pub value_printed : {P : State → Type 0} {kind : Shape} {a : Value} (st : State) (t : runs.State Env ℕ) (m : Seen) (e : Env) (work : ℕ) (at : Place) (x : Tree)
      → CanPrint kind → HasShape kind a → shape_at h.known (number_of x) ≡ Some kind → StandsAt h e x a → ((out : List ℕ) → P (record st { seen = m; out = out })) → IsReady h st t m e work
      → Prints P st t m e work a (print_code h at x)
  unfolding print_code
  value_printed {P = P} {kind = kind} {a = a} st t m e work at x can typed told stands holds ready =
      subst (λ (o : Option Shape). Prints P st t m e work a (printed_by at x (is_truths o) (arrays_at h.known x))) (sym told)
      (by_kind st t m e work at x (number_of x) (arrays_at h.known x) (ap (λ (o : Option Shape). map (of_node (number_of x)) (range_with_len 0 (width o))) told) can typed stands holds ready)

  -- ---- `write_csv`

  names_as_bytes : (columns : List Column) → map (λ (n : Name). n.bytes) (fitting.names_of columns) ≡ names_of columns
  names_as_bytes [] = refl
  names_as_bytes (c ∷ columns) = ap (λ (names : List (List ℕ)). c.name.bytes ∷ names) (names_as_bytes columns)

  abbrev Exports : (P : State → Type 0) (st : State) (t : runs.State Env ℕ) (m : Seen) (e : Env) (work : ℕ) → Value → Prog Op → Type 0
  Exports P st t m e work a code = EndsAlike h 0 P (written (export_text a) (record st { seen = m })) (run (d h slots tables orders) code (record t { env = e; seen = work }))

  exported_by : {P : State → Type 0} {names : List Name} {a : Value} (st : State) (t : runs.State Env ℕ) (m : Seen) (e : Env) (work : ℕ) (at : Place) (us : List Unknown) (w : ℕ)
      → HasShape (shape.Frame names) a → Stands h e us w a → ((out : List ℕ) → P (record st { seen = m; out = out })) → IsReady h st t m e work
      → Exports P st t m e work a (code_of at (what.Export (slots_of h us) names))
  unfolding does units
  exported_by {P = P} st t m e work at us w (frame_of_type names columns named) (a_frame stand) holds ready =
      wrote_alike h slots tables orders P st t m e work at (what.Export (slots_of h us) names) (frame_text columns) holds ready.vars ready.met ready.paid ready.out ready.fuel (omega arith)
      (ap₂ (λ (heads : List (List ℕ)) (lists : List (List ℤ)). air.written (csv heads lists) e) (ap (λ (ns : List Name). map (λ (n : Name). n.bytes) ns) (sym named) ∙ names_as_bytes columns) (held_columns h e us columns stand))

  pub frame_exported : {P : State → Type 0} {names : List Name} {a : Value} (st : State) (t : runs.State Env ℕ) (m : Seen) (e : Env) (work : ℕ) (at : Place) (x : Tree)
      → HasShape (shape.Frame names) a → shape_at h.known (number_of x) ≡ Some (shape.Frame names) → StandsAt h e x a → ((out : List ℕ) → P (record st { seen = m; out = out })) → IsReady h st t m e work
      → Exports P st t m e work a (export_code h at x)
  unfolding export_code
  frame_exported {P = P} {a = a} st t m e work at x typed told stands holds ready =
      subst (λ (o : Option Shape). Exports P st t m e work a (code_of at (what.Export (ins_of h x) (columns_of o (arrays_at h.known x)).names))) (sym told)
      (exported_by st t m e work at (arrays_at h.known x) (word_of h x) typed stands holds ready)

  -- ---- branches

  -- a look at a word is one unit
  pub branch_alike : {Q : State → Type 0} {a : Value} (st : State) (t : runs.State Env ℕ) (us : List Unknown) (w : ℕ) (first second : State → Ran) (own_first own_second : runs.State Env ℕ → runs.Ran Env ℕ)
      → HasShape shape.Bool a → Stands h t.env us w a → EndsAlike h 0 Q (first st) (own_first (programs.worked 1 t)) → EndsAlike h 0 Q (second st) (own_second (programs.worked 1 t))
      → EndsAlike h 0 Q (branch a first second st) (by_word (d h slots tables orders) w own_first own_second t)
  unfolding by_word
  branch_alike {Q = Q} st t us w first second own_first own_second (a_truth x truth) (a_word is) if_true if_false =
      subst (λ (z : ℤ). EndsAlike h 0 Q (branch (Word Truth x) first second st) (cond (is_true z) (own_first (programs.worked 1 t)) (own_second (programs.worked 1 t)))) (sym is) (if_alike h (is_true x) if_true if_false)
