-- How far the lockstep of a whole code comes, beside what its program means, whatever the operations are: what is asked of the
-- code of each step, and what then holds of every run.
use Rattle.std.specs.Prelude.{◌≡◌, ℕ, suc, ◌+◌, ◌*◌, ◌<◌, ◌≤◌, if◌then◌else◌, Some, None, List, length, Option, Result, Ok, Err}
use Rattle.std.specs.List.{AllByRecursion}
use Rattle.hp_word.specs.declared.place.Trap.{Trap}
use Rattle.hp_word.specs.declared.table.Tables.{Tables}
use Rattle.hp_word.specs.Runs as runs
use Rattle.hp_word.specs.Runs.{Ran, Writes}
use Rattle.hp_word.specs.Words.{is_true}
use Rattle.hp_spmd.specs.declared.code.Code.{Code}
use Rattle.hp_spmd.specs.declared.instr.Instr.{Instr}
use Rattle.hp_spmd.specs.declared.instr.Instr.TheVariants as instr
use Rattle.hp_spmd.specs.Kinds.{Kind, Jumps}
use Rattle.hp_spmd.specs.Lockstep.{State, Reached, Ended, Trapped, Limit, place_of_first, position_of, run, state_of}
use Rattle.hp_spmd.specs.Store.{instr_at}
use Rattle.hp_program.specs.Programs.{Prog, Doing, Effect, operations, tests}
use Rattle.hp_snippet.specs.Laws.{once_jumped}
use Rattle.hp_snippet.specs.Leads.{IsLimit, paid}
use Rattle.hp_snippet.specs.Outcomes.{After, Does}
use Rattle.hp_snippet.specs.Promises.{StandAt, price_of}
use Rattle.hp_air.specs.Meaning.{work_of}

-- ---- what is asked

-- what an operation comes to, as that of a piece of code
abbrev pub comes_to : {E : Type 0} → Result (Effect E) Trap → Result (After E) Trap
comes_to (Ok effect) = Ok (record { env = effect.env; text = effect.text })
comes_to (Err t) = Err t

-- The instructions of an operation carry it: ranks that have come to them, and stand for an environment, go behind them and
-- stand for what is after the operation, or trip with its very trap; `I` holds at each of them. They are at most 16 for each
-- unit of the operation's work, and cost at most `most` for each.
pub record Carries {Op E : Type 0} (d : Doing Op E) (steps : Op → List Instr) (code : Code) (tables : Tables) (price : Kind → ℕ) (most : ℕ) (I Agrees : State → Type 0) (StandsFor : State → E → Type 0) (op : Op) : Type 0 where
  pub few : length (steps op) ≤ 16 * d.units op
  pub cheap : price_of price (steps op) ≤ most * d.units op
  pub does : (s : State) (e : E) → StandsFor s e → StandAt code.list (position_of s.ranks) (steps op)
      → Does code tables price (λ t. Unit {0}) Agrees E StandsFor (length (steps op)) (price_of price (steps op)) (position_of s.ranks + length (steps op)) s (comes_to (d.does op e))
  pub keeps : (s : State) (e : E) → StandsFor s e → StandAt code.list (position_of s.ranks) (steps op) → (k : ℕ) → k < length (steps op) → I (state_of (run code tables k s))

-- What is asked of a look at a word: all ranks go where the program goes on, and `I` holds where they have come to it.
pub record Looks {Op E : Type 0} (d : Doing Op E) (code : Code) (I : State → Type 0) (StandsFor : State → E → Type 0) (w : ℕ) : Type 0 where
  pub goes : (s : State) (e : E) (target : ℕ) → StandsFor s e → place_of_first target (Some w) s.ranks ≡ (if is_true (d.word e w) then suc (position_of s.ranks) else target)
  pub keeps : (s : State) (e : E) (target : ℕ) → StandsFor s e → instr_at code.list (position_of s.ranks) ≡ instr.Jump target (Some w) → I s

-- What is asked besides, whatever the operations are: a jump leaves what the ranks stand for; `I` holds where they have come to
-- a jump that goes ahead in any case, or to the end; two jumps cost no more than a unit of work; and orders that agree with what is
-- logged later agree with what is logged now.
pub record CarriesJumps {E : Type 0} (code : Code) (tables : Tables) (price : Kind → ℕ) (most : ℕ) (I Agrees : State → Type 0) (StandsFor : State → E → Type 0) : Type 0 where
  pub some : (s : State) (e : E) → StandsFor s e → 1 ≤ length s.ranks
  pub jumped : (s : State) (e : E) (target : ℕ) (unless : Option ℕ) → StandsFor s e → StandsFor (once_jumped target unless s.ranks s.out) e
  pub keeps : (s : State) (e : E) (target : ℕ) → StandsFor s e → instr_at code.list (position_of s.ranks) ≡ instr.Jump target None → I s
  pub ended : (s : State) (e : E) → StandsFor s e → instr_at code.list (position_of s.ranks) ≡ instr.Halt → I s
  pub cheap : (target : ℕ) (unless : Option ℕ) → 2 * price (Jumps target unless) ≤ most
  pub earlier : (k : ℕ) (s : State) → Agrees (state_of (run code tables k s)) → Agrees s

-- the code of each operation of a program carries it, and so do its looks at words
pub record CarriesAll {Op E : Type 0} (d : Doing Op E) (steps : Op → List Instr) (code : Code) (tables : Tables) (price : Kind → ℕ) (most : ℕ) (I Agrees : State → Type 0) (StandsFor : State → E → Type 0) (p : Prog Op) : Type 0 where
  pub each : AllByRecursion (Carries d steps code tables price most I Agrees StandsFor) (operations p)
  pub looks : AllByRecursion (Looks d code I StandsFor) (tests p)
  pub jumps : CarriesJumps code tables price most I Agrees StandsFor

-- ---- what then holds

-- How far the lockstep has come, beside a run of the program. Where it has ended, so has the program, with the same output,
-- and the ranks stand for what is there then; where it has trapped, so has the program, with that very trap, and what was written
-- is all of its output; and at the limit what was written is a front of what the program writes.
pub data Meets {E : Type 0} (StandsFor : State → E → Type 0) : Reached → Ran E ℕ → Type 0 where
  ends : {end : State} {t : runs.State E ℕ} → end.out ≡ t.out → StandsFor end t.env → Meets StandsFor (Ended end) (runs.Went t)
  trips : {trap : Trap} {end : State} {t : runs.State E ℕ} → end.out ≡ t.out → Meets StandsFor (Trapped trap end) (runs.Trapped trap t)
  passes : {s : State} {ran : Ran E ℕ} → Writes s.out ran → Meets StandsFor (Limit s) ran

-- At most k instructions from a state on come as far as a run of the program does, `I` holds there, and they cost no more
-- than so much for each unit of the run's work. At the limit there is still work to be done: so more than 16 for each unit are never
-- done. So many instructions, and so much of the cost, were done and paid before.
pub record Comes {E : Type 0} (code : Code) (tables : Tables) (price : Kind → ℕ) (most : ℕ) (I : State → Type 0) (StandsFor : State → E → Type 0) (k : ℕ) (s : State) (before paid_before : ℕ) (ran : Ran E ℕ) : Type 0 where
  pub meets : Meets StandsFor (run code tables k s) ran
  pub keeps : I (state_of (run code tables k s))
  pub cost : paid code tables price k s + paid_before ≤ most * work_of ran
  pub more : IsLimit (run code tables k s) → suc k + before ≤ 16 * work_of ran
