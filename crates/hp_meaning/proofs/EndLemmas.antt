-- How scripts end.
use Rattle.std.proofs.Common.{◌≡◌, ◌≢◌, ℕ, List, [], ◌++◌, None, Result, Ok, Err, ap, sym, ◌∙◌, subst}
use Rattle.std.specs.Prelude.{IsSomeAnd}
use Rattle.hp_word.specs.declared.order.Order.{Order}
use Rattle.hp_word.specs.declared.table.Table.{Table}
use Rattle.hp_script.specs.declared.tree.Stmt.{Stmt}
use Rattle.hp_script.specs.Mirror.{block_of}
use Rattle.hp_meaning.specs.declared.seen.Stop.{Stop}
use Rattle.hp_meaning.specs.declared.seen.Stop.TheVariants as stop
use Rattle.hp_meaning.specs.declared.seq.SeqEnd.{SeqEnd}
use Rattle.hp_meaning.specs.declared.seq.SeqStatus.{SeqStatus}
use Rattle.hp_meaning.specs.declared.stmts.Halt.{Halt}
use Rattle.hp_meaning.specs.declared.stmts.Halt.TheVariants as halt
use Rattle.hp_meaning.specs.ReadCalls.{reads_of}
use Rattle.hp_meaning.specs.Run.{State, Ran, run, End, end_of, start, eval}
use Rattle.hp_meaning.specs.Running.{halted_at, RunsTo, status_by, EndsAs}
use Rattle.hp_meaning.specs.ValueOf.{supply}

-- the calls that are added to none
pub reads_are : (reads now before : List ℕ) (a body : List Stmt) → reads ≡ now → now ≡ before ++ reads_of (block_of a) → before ≡ [] → a ≡ body → reads ≡ reads_of (block_of body)
reads_are reads now before a body value added none same = value ∙ added ∙ ap (λ before. before ++ reads_of (block_of a)) none ∙ ap (λ a. reads_of (block_of a)) same

-- what the code runs is the script, over its tables and under its orders
eval_is : (body ran_body : List Stmt) (tables ts : List Table) (reads : List ℕ) (orders os : List Order) (fuel : ℕ) (first : State)
    → ran_body ≡ body → ts ≡ tables → reads ≡ reads_of (block_of body) → os ≡ orders → first ≡ start fuel → eval (block_of body) tables orders fuel ≡ end_of (run (supply ts reads os) (block_of ran_body) first)
unfolding eval
eval_is body ran_body tables ts reads orders os fuel first same tabled read ordered begins =
    sym (ap (λ b. end_of (run (supply ts reads os) (block_of b) first)) same ∙ ap (λ ts. end_of (run (supply ts reads os) (block_of body) first)) tabled
    ∙ ap (λ reads. end_of (run (supply tables reads os) (block_of body) first)) read ∙ ap (λ os. end_of (run (supply tables (reads_of (block_of body)) os) (block_of body) first)) ordered
    ∙ ap (λ first. end_of (run (supply tables (reads_of (block_of body)) orders) (block_of body) first)) begins)

stops : (r : Ran) (ran : Result (Unit {0}) Halt) (now : State) (e : Stop) → RunsTo r ran now → Err e ≡ status_by ran → e ≢ stop.NoMemory → (e ≡ stop.Wrong) × (end_of r ≡ None)
unfolding halted_at
stops r (Ok x) now e h is ne = absurd cc
stops r (Err (halt.Trap t)) now e h is ne = absurd cc
stops r (Err halt.Fuel) now e h is ne = absurd cc
stops r (Err halt.Wrong) now e h is ne = let wrong : e ≡ stop.Wrong = cc in (wrong, ap end_of (h (λ e. absurd cc)))
stops r (Err halt.NoMemory) now e h is ne = let none : e ≡ stop.NoMemory = cc in absurd (ne none)

-- the end that the code tells
abbrev Told : SeqEnd → End → Type 0
Told e found = (found.status ≡ e.status) × (found.at.out ≡ e.out) × (found.at.seen.ticks ≡ e.ticks) × (found.at.seen.met.bad ≡ e.bad)

ends : (r : Ran) (ran : Result (Unit {0}) Halt) (now : State) (status : SeqStatus) (e : SeqEnd) → RunsTo r ran now → Ok status ≡ status_by ran
    → e.status ≡ status → e.out ≡ now.out → e.ticks ≡ now.seen.ticks → e.bad ≡ now.seen.met.bad → IsSomeAnd (end_of r) (Told e)
unfolding halted_at
ends r (Ok x) now status e h is how out ticks bad = subst (λ r. IsSomeAnd (end_of r) (Told e)) (sym h) (cc, sym out, sym ticks, sym bad)
ends r (Err (halt.Trap t)) now status e h is how out ticks bad = subst (λ r. IsSomeAnd (end_of r) (Told e)) (sym (h (λ e. absurd cc))) (cc, sym out, sym ticks, sym bad)
ends r (Err halt.Fuel) now status e h is how out ticks bad = subst (λ r. IsSomeAnd (end_of r) (Told e)) (sym (h (λ e. absurd cc))) (cc, sym out, sym ticks, sym bad)
ends r (Err halt.Wrong) now status e h is how out ticks bad = absurd cc
ends r (Err halt.NoMemory) now status e h is how out ticks bad = absurd cc

pub eval_stops : (body ran_body : List Stmt) (tables ts : List Table) (reads : List ℕ) (orders os : List Order) (fuel : ℕ) (first now : State) (ran : Result (Unit {0}) Halt) (e : Stop)
    → ran_body ≡ body → ts ≡ tables → reads ≡ reads_of (block_of body) → os ≡ orders → first ≡ start fuel → RunsTo (run (supply ts reads os) (block_of ran_body) first) ran now → Err e ≡ status_by ran
    → EndsAs (eval (block_of body) tables orders fuel) (Err e)
eval_stops body ran_body tables ts reads orders os fuel first now ran e same tabled read ordered begins h is = λ ne.
    let told = stops (run (supply ts reads os) (block_of ran_body) first) ran now e h is ne in
    (told.0, eval_is body ran_body tables ts reads orders os fuel first same tabled read ordered begins ∙ told.1)

pub eval_ends : (body ran_body : List Stmt) (tables ts : List Table) (reads : List ℕ) (orders os : List Order) (fuel : ℕ) (first now : State) (ran : Result (Unit {0}) Halt) (status : SeqStatus) (e : SeqEnd)
    → ran_body ≡ body → ts ≡ tables → reads ≡ reads_of (block_of body) → os ≡ orders → first ≡ start fuel → RunsTo (run (supply ts reads os) (block_of ran_body) first) ran now → Ok status ≡ status_by ran
    → e.status ≡ status → e.out ≡ now.out → e.ticks ≡ now.seen.ticks → e.bad ≡ now.seen.met.bad → EndsAs (eval (block_of body) tables orders fuel) (Ok e)
eval_ends body ran_body tables ts reads orders os fuel first now ran status e same tabled read ordered begins h is how out ticks bad =
    subst (λ found. IsSomeAnd found (Told e)) (sym (eval_is body ran_body tables ts reads orders os fuel first same tabled read ordered begins))
    (ends (run (supply ts reads os) (block_of ran_body) first) ran now status e h is how out ticks bad)
