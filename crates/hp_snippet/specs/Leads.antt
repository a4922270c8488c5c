-- How a run of all ranks comes from one state to another: by how many instructions, at what price, and with what holds at
-- each state in between.
use Rattle.std.specs.Prelude.{ℕ, zero, suc, ◌+◌, ◌<◌, ◌≤◌, ◌≡◌, List, [], ◌∷◌, ◌⊎◌}
use Rattle.hp_word.specs.declared.table.Tables.{Tables}
use Rattle.hp_spmd.specs.declared.code.Code.{Code}
use Rattle.hp_spmd.specs.Kinds.{Kind, kind_of}
use Rattle.hp_spmd.specs.Lockstep.{State, Step, Ends, Trips, Steps, Reached, Ended, Trapped, Limit, position_of, run, state_of, step}
use Rattle.hp_spmd.specs.Store.{instr_at}

-- ---- prices

-- the price of an instruction that was done, before that of those behind it; one that ends or traps is not paid
abbrev pub price_then : ℕ → (State → ℕ) → Step → ℕ
price_then here rest Ends = 0
price_then here rest (Trips t) = 0
price_then here rest (Steps s) = here + rest s

-- What at most k instructions of the lockstep cost, where each kind of instruction has a price: how many instructions of a
-- kind there are, or how many actions of each rank, is the price that counts them.
unfoldable pub paid : Code → Tables → (price : Kind → ℕ) → ℕ → State → ℕ
paid code tables price zero s = 0
paid code tables price (suc k) s = price_then (price (kind_of (instr_at code.list (position_of s.ranks)))) (paid code tables price k) (step code tables s)

-- ---- leading

-- the run has come to its limit, and neither ended nor trapped
abbrev pub IsLimit : Reached → Type 0
IsLimit (Ended s) = ⊥
IsLimit (Trapped t s) = ⊥
IsLimit (Limit s) = Unit {0}

-- From the first state a run comes to the second by exactly `count` instructions, which cost exactly `cost`; it does not
-- end or trap on the way; and `I` holds at each state from the first to the second.
pub record Leads (code : Code) (tables : Tables) (price : Kind → ℕ) (I : State → Type 0) (count cost : ℕ) (s t : State) : Type 0 where
  pub by : (k : ℕ) → run code tables (count + k) s ≡ run code tables k t
  pub pays : (k : ℕ) → paid code tables price (count + k) s ≡ cost + paid code tables price k t
  pub goes : (k : ℕ) → k < count → IsLimit (run code tables k s)
  pub keeps : (k : ℕ) → k ≤ count → I (state_of (run code tables k s))

-- a state is one of these
abbrev pub IsOneOf : List State → State → Type 0
IsOneOf [] s = ⊥
IsOneOf (x ∷ way) s = (s ≡ x) ⊎ IsOneOf way s

-- the same, where these are all of the states from the first to the second: what holds of each of them holds on the way
abbrev pub LeadsBy : (code : Code) (tables : Tables) (price : Kind → ℕ) (way : List State) (count cost : ℕ) (s t : State) → Type 0
LeadsBy code tables price way count cost s t = Leads code tables price (IsOneOf way) count cost s t
