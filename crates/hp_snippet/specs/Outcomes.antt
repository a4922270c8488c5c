-- How a piece of code comes out: it has gone to its end, or it trips.
use Rattle.std.specs.Prelude.{ℕ, suc, ◌≤◌, ◌≡◌, List, [], ◌++◌, Result, Ok, Err}
use Rattle.hp_word.specs.declared.place.Trap.{Trap}
use Rattle.hp_word.specs.declared.table.Tables.{Tables}
use Rattle.hp_word.specs.LoopRules.{and_then}
use Rattle.hp_spmd.specs.declared.code.Code.{Code}
use Rattle.hp_spmd.specs.Kinds.{Kind}
use Rattle.hp_spmd.specs.Lockstep.{State, Step, position_of, step}
use Rattle.hp_spmd.specs.Lockstep as lock
use Rattle.hp_snippet.specs.Leads.{Leads}

-- what an operation comes to where it does not trap: what the arrays and words stand for then, and what it wrote
pub record After (E : Type 0) : Type 0 where
  pub env : E
  pub text : List ℕ

-- The code has gone from a state to the place `until`, within so many instructions and at so much at most, and written
-- the operation's text. Where `Agrees` holds of the state that it came to (that the orders of rows are those which the ranks
-- have logged there, say), the ranks stand for what is after the operation.
pub record Went (code : Code) (tables : Tables) (price : Kind → ℕ) (I Agrees : State → Type 0) (E : Type 0) (StandsFor : State → E → Type 0) (most most_cost until : ℕ) (s : State) (after : After E) : Type 0 where
  pub count : ℕ
  pub cost : ℕ
  pub to : State
  pub leads : Leads code tables price I count cost s to
  pub count_within : count ≤ most
  pub cost_within : cost ≤ most_cost
  pub place : position_of to.ranks ≡ until
  pub out : to.out ≡ s.out ++ after.text
  pub stands : Agrees to → StandsFor to after.env

-- The code has come to an instruction that traps, so at that place and of that kind, and has written nothing; that
-- instruction counts among those that it is within.
pub record Trips (code : Code) (tables : Tables) (price : Kind → ℕ) (I : State → Type 0) (most most_cost : ℕ) (s : State) (t : Trap) : Type 0 where
  pub count : ℕ
  pub cost : ℕ
  pub to : State
  pub leads : Leads code tables price I count cost s to
  pub count_within : suc count ≤ most
  pub cost_within : cost ≤ most_cost
  pub out : to.out ≡ s.out
  pub trips : step code tables to ≡ lock.Trips t

-- the code does what an operation does: it goes to its end with what is after it, or trips with its very trap
abbrev pub Does : (code : Code) (tables : Tables) (price : Kind → ℕ) (I Agrees : State → Type 0) (E : Type 0) (StandsFor : State → E → Type 0) (most most_cost until : ℕ) (s : State) → Result (After E) Trap → Type 0
Does code tables price I Agrees E StandsFor most most_cost until s (Ok after) = Went code tables price I Agrees E StandsFor most most_cost until s after
Does code tables price I Agrees E StandsFor most most_cost until s (Err t) = Trips code tables price I most most_cost s t

-- ---- one operation after another

-- what is after both, the second of which began with what was after the first
abbrev pub after_both : {E : Type 0} → After E → After E → After E
after_both a b = record { env = b.env; text = a.text ++ b.text }

-- what two operations come to, of which the second begins where the first does not trap
abbrev pub one_after : {E : Type 0} → Result (After E) Trap → (E → Result (After E) Trap) → Result (After E) Trap
one_after (Ok a) f = and_then (f a.env) (λ b. Ok (after_both a b))
one_after (Err t) f = Err t

-- the operation writes nothing
abbrev pub IsSilent : {E : Type 0} → Result (After E) Trap → Type 0
IsSilent (Ok a) = a.text ≡ []
IsSilent (Err t) = Unit {0}
