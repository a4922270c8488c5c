-- What `println` writes, where the value of its expression stands.
use Rattle.std.proofs.Common.{◌≡◌, ℕ, ◌+◌, ◌*◌, ◌≤◌, ℤ, Bool, List, ◌++◌, Some, Result, sym, ap, subst, arith}
use Rattle.hp_word.specs.declared.order.Order.{Order}
use Rattle.hp_word.specs.declared.place.Place.{Place}
use Rattle.hp_word.specs.declared.place.Trap.{Trap}
use Rattle.hp_word.specs.declared.table.Table.{Table}
use Rattle.hp_word.specs.Runs as runs
use Rattle.hp_word.specs.Runs.{Went, behind}
use Rattle.hp_word.specs.Text.{printed, list_line}
use Rattle.hp_meaning.specs.declared.seen.Seen.{Seen}
use Rattle.hp_meaning.specs.Run.{State, written}
use Rattle.hp_program.specs.Programs.{Prog, Effect, run, stop, worked}
use Rattle.hp_program.specs.Programs as programs
use Rattle.hp_air.specs.declared.slot.Slot.{Slot}
use Rattle.hp_air.specs.declared.what.What.{What}
use Rattle.hp_air.specs.declared.what.What.TheVariants as what
use Rattle.hp_air.specs.Meaning.{does, units}
use Rattle.hp_air.specs.Meaning as air
use Rattle.hp_air.specs.Wholes.{Env, Whole, Vector, cells}
use Rattle.hp_flat.specs.FlatCalls.{code_of}
use Rattle.hp_flat.specs.Homes.{Homes}
use Rattle.hp_flat.specs.Standing.{VarsStand, HasMet}
use Rattle.hp_flat.proofs.AlikeRuns.{EndsAlike, both_went}
use Rattle.hp_flat.proofs.LastSteps.{d}

module _ (h : Homes) (slots : List Slot) (tables : List Table) (orders : List Order) where
  -- a run of one operation that writes
  pub op_wrote : (at : Place) (w : What) (s : runs.State Env ℕ) (text : List ℕ) → does tables orders at w s.env ≡ air.written text s.env
      → run (d h slots tables orders) (code_of at w) s ≡ Went (record s { seen = s.seen + units slots w; out = s.out ++ text })
  unfolding run programs.told
  op_wrote at w s text e = ap (λ (r : Result (Effect Env) Trap). behind (programs.told r (worked (units slots w) s)) (run (d h slots tables orders) stop)) e

  -- the states behind a line that both have written
  pub wrote_alike : (P : State → Type 0) (s : State) (t : runs.State Env ℕ) (m : Seen) (e : Env) (work : ℕ) (at : Place) (w : What) (text : List ℕ) → ((out : List ℕ) → P (record s { seen = m; out = out }))
      → VarsStand h e s.env → HasMet e m.met → work + 4 ≤ 16 * (m.ticks + 1) → t.out ≡ s.out → t.fuel ≡ s.fuel → units slots w ≤ 4
      → does tables orders at w e ≡ air.written text e → EndsAlike h 0 P (written (Some text) (record s { seen = m })) (run (d h slots tables orders) (code_of at w) (record t { env = e; seen = work }))
  wrote_alike P s t m e work at w text holds vars met paid same fuel few is =
      subst (λ (ran : runs.Ran Env ℕ). EndsAlike h 0 P (written (Some text) (record s { seen = m })) ran) (sym (op_wrote at w (record t { env = e; seen = work }) text is))
      (both_went (holds (s.out ++ text)) (record { vars = vars; met = met; out = ap (λ (out : List ℕ). out ++ text) same; fuel = fuel; paid = omega (arith, paid, few) }))

  pub word_printed : (P : State → Type 0) (s : State) (t : runs.State Env ℕ) (m : Seen) (e : Env) (work : ℕ) (at : Place) (w : ℕ) (truth : Bool) (x : ℤ) → e.words w ≡ x → ((out : List ℕ) → P (record s { seen = m; out = out }))
      → VarsStand h e s.env → HasMet e m.met → work + 4 ≤ 16 * (m.ticks + 1) → t.out ≡ s.out → t.fuel ≡ s.fuel
      → EndsAlike h 0 P (written (Some (printed truth x)) (record s { seen = m })) (run (d h slots tables orders) (code_of at (what.PrintWord w truth)) (record t { env = e; seen = work }))
  unfolding does units
  word_printed P s t m e work at w truth x is holds vars met paid same fuel =
      wrote_alike P s t m e work at (what.PrintWord w truth) (printed truth x) holds vars met paid same fuel (omega arith) (ap (λ (x : ℤ). air.written (printed truth x) e) is)

  pub list_printed : (P : State → Type 0) (s : State) (t : runs.State Env ℕ) (m : Seen) (e : Env) (work : ℕ) (at : Place) (k : ℕ) (truth : Bool) (xs : List ℤ) → e.slots k ≡ Vector xs → ((out : List ℕ) → P (record s { seen = m; out = out }))
      → VarsStand h e s.env → HasMet e m.met → work + 4 ≤ 16 * (m.ticks + 1) → t.out ≡ s.out → t.fuel ≡ s.fuel
      → EndsAlike h 0 P (written (Some (list_line truth xs)) (record s { seen = m })) (run (d h slots tables orders) (code_of at (what.PrintList k truth)) (record t { env = e; seen = work }))
  unfolding does units
  list_printed P s t m e work at k truth xs is holds vars met paid same fuel =
      wrote_alike P s t m e work at (what.PrintList k truth) (list_line truth xs) holds vars met paid same fuel (omega arith) (ap (λ (whole : Whole). air.written (list_line truth (cells whole)) e) is)
