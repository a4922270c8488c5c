-- What the code's runs stand for.
use Rattle.std.specs.Prelude.{◌≡◌, ◌≢◌, ℕ, Bool, if◌then◌else◌, List, IsSomeAnd, Option, None, Result, Ok, Err}
use Rattle.hp_script.specs.Mirror.{Tree}
use Rattle.hp_meaning.specs.declared.seen.Stop.{Stop}
use Rattle.hp_meaning.specs.declared.seen.Stop.TheVariants as stop
use Rattle.hp_meaning.specs.declared.seq.SeqEnd.{SeqEnd}
use Rattle.hp_meaning.specs.declared.seq.SeqStatus.{SeqStatus}
use Rattle.hp_meaning.specs.declared.seq.SeqStatus.TheVariants as status
use Rattle.hp_meaning.specs.declared.stmts.Halt.{Halt}
use Rattle.hp_meaning.specs.declared.stmts.Halt.TheVariants as halt
use Rattle.hp_meaning.specs.declared.stmts.State.{State as Reached}
use Rattle.hp_meaning.specs.Printouts.{printout, export_text}
use Rattle.hp_meaning.specs.Run.{State, Ran, decided, store, written, evaluated, End}
use Rattle.hp_word.specs.Runs.{Went, Trapped, Spent, Mistaken}
use Rattle.hp_meaning.specs.ValueOf.{Supply, value}

-- the code's state
abbrev pub state_in : Reached → State
state_in s = record { env = s.vars; seen = s.seen; out = s.out.items; fuel = s.fuel }

-- what the code's error stands for; want of memory stands for nothing
unfoldable pub halted_at : Halt → State → Ran
halted_at (halt.Trap t) s = Trapped t s
halted_at halt.Fuel s = Spent s
halted_at halt.Wrong s = Mistaken
halted_at halt.NoMemory s = Mistaken

-- the code runs to where the meaning does, unless memory was refused
abbrev pub RunsTo : {A : Type 0} → Ran → Result A Halt → State → Type 0
RunsTo ran (Ok a) s = ran ≡ Went s
RunsTo ran (Err e) s = e ≢ halt.NoMemory → ran ≡ halted_at e s

-- the statements with an expression
unfoldable pub assign_run : Supply → List ℕ → Tree → State → Ran
assign_run g name x s = evaluated g (value g x) s (λ a s. Went (store name a s))

unfoldable pub print_run : Supply → Tree → State → Ran
print_run g x s = evaluated g (value g x) s (λ a. written (printout a))

unfoldable pub export_run : Supply → Tree → State → Ran
export_run g x s = evaluated g (value g x) s (λ a. written (export_text a))

-- a branch by the value of an expression
unfoldable pub tested : Supply → Tree → (first second : State → Ran) → State → Ran
tested g x first second s = decided (value g x) first second s

-- the code has the truth value of a test, and each branch by it goes on from there
abbrev pub TestsTo : Supply → Tree → State → Result Bool Halt → State → Type 0
TestsTo g x s (Ok holds) now = (first second : State → Ran) → tested g x first second s ≡ (if holds then first now else second now)
TestsTo g x s (Err e) now = e ≢ halt.NoMemory → (first second : State → Ran) → tested g x first second s ≡ halted_at e now

-- the status of a run's end
abbrev pub status_by : {A : Type 0} → Result A Halt → Result SeqStatus Stop
status_by (Ok a) = Ok status.Done
status_by (Err (halt.Trap t)) = Ok (status.Trap t.at t.kind)
status_by (Err halt.Fuel) = Ok status.Fuel
status_by (Err halt.Wrong) = Err stop.Wrong
status_by (Err halt.NoMemory) = Err stop.NoMemory

-- what is told is the end: its status, what was written, the ticks and the bad orders
abbrev pub IsEndOf : Option End → SeqEnd → Type 0
IsEndOf end e = IsSomeAnd end (λ found. (found.status ≡ e.status) × (found.at.out ≡ e.out) × (found.at.seen.ticks ≡ e.ticks) × (found.at.seen.met.bad ≡ e.bad))

-- the code tells the end of a script, or that it has none
abbrev pub EndsAs : Option End → Result SeqEnd Stop → Type 0
EndsAs end (Ok e) = IsEndOf end e
EndsAs end (Err e) = e ≢ stop.NoMemory → (e ≡ stop.Wrong) × (end ≡ None)
