-- What a script means: its statements one after another over whole values, with no ranks, messages or pieces.
use Rattle.std.specs.Prelude.{ℕ, suc, if◌then◌else◌, List, [], ◌++◌, Option, Some, None}
use Rattle.hp_word.specs.declared.order.Order.{Order}
use Rattle.hp_word.specs.declared.table.Table.{Table}
use Rattle.hp_word.specs.Runs as runs
use Rattle.hp_word.specs.Runs.{Went, Trapped, Spent, Mistaken, behind, turns}
use Rattle.hp_word.specs.Words.{is_true}
use Rattle.hp_script.specs.Mirror.{Block, done, assign, print, export, choose, loop}
use Rattle.hp_meaning.specs.declared.seen.Seen.{Seen}
use Rattle.hp_meaning.specs.declared.seq.SeqStatus.{SeqStatus}
use Rattle.hp_meaning.specs.declared.seq.SeqStatus.TheVariants as status
use Rattle.hp_meaning.specs.declared.value.Value.{Value}
use Rattle.hp_meaning.specs.declared.value.Var.{Var}
use Rattle.hp_meaning.specs.Outcomes.{tick, Outcome, Is, Stops, Wrong}
use Rattle.hp_meaning.specs.Operands.{as_truth}
use Rattle.hp_meaning.specs.Printouts.{printout, export_text}
use Rattle.hp_meaning.specs.ReadCalls.{reads_of}
use Rattle.hp_meaning.specs.Scopes.{outside, assigned}
use Rattle.hp_meaning.specs.ValueOf.{Supply, supply, Meaning, value}

-- ---- states

-- how far a script has come: its variables, what was seen, what was written, and how many loop turns are left
abbrev pub State : Type 0
State = runs.State (List Var) Seen

-- what a run of statements comes to
abbrev pub Ran : Type 0
Ran = runs.Ran (List Var) Seen

-- one more statement or loop turn has begun
abbrev pub begun : State → State
begun s = record s { seen = tick s.seen }

-- what is done with the value of an expression
abbrev pub using_value : State → Outcome Value → (Value → State → Ran) → Ran
using_value s (Is a n) more = more a (record s { seen = n })
using_value s (Stops t n) more = Trapped t (record s { seen = n })
using_value s Wrong more = Mistaken

-- ---- statements

-- an assignment copies the value
abbrev pub store : List ℕ → Value → State → State
store name a s = record s { env = assigned name a s.env }

-- one write, of a value that can be written
abbrev pub written : Option (List ℕ) → State → Ran
written (Some bytes) s = Went (record s { out = s.out ++ bytes })
written None s = Mistaken

-- a branch by a truth value
abbrev pub branch : Value → (first second : State → Ran) → State → Ran
branch a first second s = elim (as_truth a) [ None ↦ Mistaken | Some x ↦ if is_true x then first s else second s ]

-- a test: it goes on by the truth value of an expression
abbrev pub decided : Meaning → (first second : State → Ran) → State → Ran
decided test first second s = using_value s (test (outside s.env) s.seen) (λ a. branch a first second)

-- a loop turn, before the statements of the loop
abbrev pub in_turn : (State → Ran) → State → Ran
in_turn body s = body (begun s)

-- the value of an expression that a statement holds
abbrev pub evaluated : Supply → Meaning → State → (Value → State → Ran) → Ran
evaluated g m s more = using_value (begun s) (m (outside s.env) (tick s.seen)) more

unfoldable pub run : Supply → Block → State → Ran
run g done s = Went s
run g (assign at name x rest) s = behind (evaluated g (value g x) s (λ a s. Went (store name a s))) (run g rest)
run g (print at x rest) s = behind (evaluated g (value g x) s (λ a. written (printout a))) (run g rest)
run g (export at x rest) s = behind (evaluated g (value g x) s (λ a. written (export_text a))) (run g rest)
run g (choose at test body other rest) s = behind (evaluated g (value g test) s (λ a. branch a (run g body) (run g other))) (run g rest)
run g (loop at test body rest) s = behind (turns (suc s.fuel) (decided (value g test)) (in_turn (run g body)) (begun s)) (run g rest)

-- ---- scripts

-- how a script ends: its status, and how far it has come
pub record End : Type 0 where
  pub status : SeqStatus
  pub at : State

abbrev pub end : SeqStatus → State → Option End
end status s = Some (record { status = status; at = s })

-- how a run of a whole script ends; a wrong one has no end
abbrev pub end_of : Ran → Option End
end_of (Went s) = end status.Done s
end_of (Trapped t s) = end (status.Trap t.at t.kind) s
end_of (Spent s) = end status.Fuel s
end_of Mistaken = None

-- before the first statement
abbrev pub start : (fuel : ℕ) → State
start fuel = record { env = []; seen = record { met = record { executed = 0; bad = [] }; ticks = 0 }; out = []; fuel = fuel }

-- the meaning of a script over these tables, under these orders, with so many loop turns
unfoldable pub eval : Block → List Table → List Order → (fuel : ℕ) → Option End
eval body tables orders fuel = end_of (run (supply tables (reads_of body) orders) body (start fuel))
