-- What the ranks' run of a code has to do with the meaning of a script.
use Rattle.std.specs.Prelude.{ℕ, ◌+◌, ◌*◌, ◌≡◌, ◌==◌, ◌≤◌, ℤ, List, [], ◌∷◌, length, None, Result, Ok, Err, All, if◌then◌else◌}
use Rattle.hp_word.specs.declared.order.Orders.{Orders}
use Rattle.hp_word.specs.declared.table.Tables.{Tables}
use Rattle.hp_word.specs.declared.place.Place.{Place}
use Rattle.hp_meaning.specs.declared.forms.FormError.{FormError}
use Rattle.hp_meaning.specs.declared.forms.FormError.TheVariants as errors
use Rattle.hp_script.specs.declared.tree.Stmt.{Stmt}
use Rattle.hp_script.specs.Mirror.{block_of}
use Rattle.hp_meaning.specs.declared.line.Line.{Line}
use Rattle.hp_meaning.specs.Forms.{built}
use Rattle.hp_meaning.specs.declared.seq.SeqStatus.{SeqStatus}
use Rattle.hp_meaning.specs.declared.seq.SeqStatus.TheVariants as status
use Rattle.hp_word.specs.Runs.{IsFrontOf}
use Rattle.hp_meaning.specs.LinesLaw.{EndsAlike}
use Rattle.hp_meaning.specs.Meaning.{Binding, Ending, ints_of, eval}
use Rattle.hp_meaning.specs.Run.{eval as script_eval}
use Rattle.hp_spmd.specs.declared.code.Code.{Code}
use Rattle.hp_spmd.specs.Exchanges.{HasForm}
use Rattle.hp_spmd.specs.Layout.{Share, Env, vector, Layout}
use Rattle.hp_spmd.specs.Lockstep.{IsOver, Reached, Ended, Trapped, Limit, state_of, lockstep_of}

abbrev pub IsTrap : SeqStatus → Type 0
IsTrap status.Done = ⊥
IsTrap (status.Trap at kind) = Unit {0}
IsTrap status.Fuel = ⊥

-- the array of a slot: that of the assignment with this number, from 0, the newest assignments coming first; before it is
-- assigned a slot has no elements
abbrev pub slot_value : List Binding → ℕ → List ℤ
slot_value [] slot = []
slot_value (b ∷ bs) slot = if slot == length bs then ints_of b.value else slot_value bs slot

-- what the arrays of all slots stand for; of the words, the ranks need agree on none
abbrev pub env_of : List Binding → Env
env_of bs = record { arrays = λ slot. vector (slot_value bs slot); words = λ word. None }

-- A run ends only where the meaning is done, with its output and its arrays laid on the ranks; it traps only where
-- the meaning traps; and what it has written is always a front of the meaning's output.
abbrev pub Agrees : Code → Reached → Ending → Type 0
Agrees code (Ended s) e = (e.status ≡ status.Done) × (s.out ≡ e.at.out) × Layout code s.ranks (env_of e.at.env)
Agrees code (Trapped t s) e = IsTrap e.status × IsFrontOf s.out e.at.out
Agrees code (Limit s) e = IsFrontOf s.out e.at.out

-- the instructions that are enough for so many ticks on n ranks that take turns; lockstep counts as one rank
abbrev pub budget : ℕ → ℕ → ℕ
budget ticks n = n * (ticks + 1) * (256 + 32 * n)

-- The code runs the statements of a script, each of which is of a form that is built: for all tables, orders, fuel,
-- limits and 1 to 32 ranks the lockstep agrees with the meaning of these statements, which is that of the script, and
-- each rank's arrays are shared as the code says after each instruction. The budget of the meaning's ticks is enough for the lockstep to end or trap, under all
-- orders.
pub record Runs (body : List Stmt) (code : Code) : Type 0 where
  pub lines : List Line
  pub are_built : built [] (block_of body) ≡ Ok lines
  pub means : (tables : Tables) (orders : Orders) (fuel : ℕ) → EndsAlike (eval lines tables orders fuel) (script_eval (block_of body) tables.list orders.list fuel)
  pub agrees : (tables : Tables) (orders : Orders) (ranks limit fuel : ℕ) → 1 ≤ ranks → ranks ≤ 32 → Agrees code (lockstep_of code tables ranks limit) (eval lines tables orders fuel)
  pub shared : (tables : Tables) (ranks limit : ℕ) → 1 ≤ ranks → ranks ≤ 32 → All (Share code) (state_of (lockstep_of code tables ranks limit)).ranks
  pub bound : (tables : Tables) (orders : Orders) (ranks limit fuel : ℕ) → 1 ≤ ranks → ranks ≤ 32 → budget (eval lines tables orders fuel).at.ticks 1 ≤ limit → IsOver (lockstep_of code tables ranks limit)
  pub form : HasForm code.list

-- The error says where the first statement stands that is not built, unless memory was refused.
abbrev pub TellsNotBuilt : List Stmt → FormError → Type 0
TellsNotBuilt body (errors.NotBuilt at) = built [] (block_of body) ≡ Err at
TellsNotBuilt body errors.NoMemory = Unit {0}

-- the error is this one, unless memory was refused
abbrev pub IsNotBuiltAt : Place → FormError → Type 0
IsNotBuiltAt at (errors.NotBuilt at2) = at2 ≡ at
IsNotBuiltAt at errors.NoMemory = Unit {0}
