-- What every order of turns has in common with the lockstep, where the code keeps some promises.
use Rattle.std.specs.Prelude.{◌≡◌, ℕ, zero, suc, ◌+◌, ◌<◌, ◌≤◌, List, ◌++◌, All, length, slice_index_or, Some, ◌⊎◌}
use Rattle.hp_word.specs.declared.order.Order.{Order}
use Rattle.hp_word.specs.declared.place.Trap.{Trap}
use Rattle.hp_word.specs.declared.table.Tables.{Tables}
use Rattle.hp_word.specs.RowRules.{AgreeUpTo}
use Rattle.hp_word.specs.Runs.{IsFrontOf}
use Rattle.hp_network.specs.Network.{Room, HasEnded, IsStuck, rounds}
use Rattle.hp_spmd.specs.declared.code.Code.{Code}
use Rattle.hp_spmd.specs.declared.store.Store.{Store}
use Rattle.hp_spmd.specs.Exchanges.{Packed, HasForm, leaves}
use Rattle.hp_spmd.specs.Kinds.{Kind, Computes, Jumps, Posts, Takes, TakesRoot, Unpacks, kind_of}
use Rattle.hp_spmd.specs.Local.{local_next, next_place}
use Rattle.hp_spmd.specs.Lockstep.{State, Step, Ends, Trips, Steps, Ended, Trapped, IsOver, first_state, lockstep_of, place_of_first, position_of, state_of, step}
use Rattle.hp_spmd.specs.Next.{Next, Goes, Traps}
use Rattle.hp_spmd.specs.Ranks.{AreNumbered}
use Rattle.hp_spmd.specs.Spread.{IsPlaced}
use Rattle.hp_spmd.specs.Store.{instr_at}
use Rattle.hp_turns.specs.Turns.{machine, run, kept_orders}

-- ---- what a code promises

abbrev pub IsTrap : Next → Type 0
IsTrap (Goes x) = ⊥
IsTrap (Traps t) = Unit {0}

abbrev pub IsGo : Next → Type 0
IsGo (Goes x) = Unit {0}
IsGo (Traps t) = ⊥

-- from a Jump all ranks go where the first one goes; at an Unpack all ranks trap, or all go on
abbrev pub AgreeBy : Kind → (Store → Next) → List Store → Type 0
AgreeBy (Jumps target unless) f ranks = All (λ x. next_place target unless x.words x.position ≡ place_of_first target unless ranks) ranks
AgreeBy (Unpacks what) f ranks = All (λ x. IsTrap (f x)) ranks ⊎ All (λ x. IsGo (f x)) ranks
AgreeBy _ f ranks = Unit {0}

abbrev pub Agree : Code → Tables → List Store → Type 0
Agree code tables ranks = let i = instr_at code.list (position_of ranks) in AgreeBy (kind_of i) (local_next code.arrays tables i) ranks

-- a rank's log, with orders behind it whose numbers are greater than those of all that the rank had executed
pub record LogGrows (x y : Store) : Type 0 where
  pub rest : List Order
  pub log : y.log.list ≡ x.log.list ++ rest
  pub later : All (λ o. x.executed < o.number) rest

-- What a rank keeps by the instruction at a place that it does alone: its number among so many ranks, that its arrays are
-- shared as the code says, and its log but for later orders; where it logs one, all ranks pack messages for all next.
pub record Keeps (code : Code) (ranks place : ℕ) (x y : Store) : Type 0 where
  pub number : y.number ≡ x.number
  pub placed : IsPlaced code ranks y
  pub logs : LogGrows x y
  pub executed : x.executed ≤ y.executed
  pub packs : (y.log ≡ x.log) ⊎ (leaves (kind_of (instr_at code.list (suc place))) ≡ Packed)

-- An Unpack is made of what all ranks posted: of a rank alone nothing is asked there.
abbrev pub KeepsBy : Code → (ranks place : ℕ) → Kind → Store → Next → Type 0
KeepsBy code ranks place Computes x (Goes y) = Keeps code ranks place x y
KeepsBy code ranks place _ x next = Unit {0}

-- A code whose ranks may run apart over these tables: it has the form of exchanges; wherever the lockstep comes to, the ranks agree
-- at Jumps and on traps at Unpacks, and share their arrays as the code says; and what a rank computes keeps that.
pub record MayRunApart (code : Code) (tables : Tables) (ranks : ℕ) : Type 0 where
  pub some : 1 ≤ ranks
  pub few : ranks ≤ 32
  pub form : HasForm code.list
  pub agree : (k : ℕ) → Agree code tables (state_of (lockstep_of code tables ranks k)).ranks
  pub shared : (k : ℕ) → All (IsPlaced code ranks) (state_of (lockstep_of code tables ranks k)).ranks
  pub keeps : (place : ℕ) (x : Store) → IsPlaced code ranks x → KeepsBy code ranks place (kind_of (instr_at code.list place)) x (local_next code.arrays tables (instr_at code.list place) x)

-- ---- what every order of turns has in common with the lockstep

-- each rank has executed at least so many joins and aggregates
abbrev pub HaveExecuted : ℕ → List Store → Type 0
HaveExecuted last ranks = All (λ x. last ≤ x.executed) ranks

-- up to a number the kept orders of some ranks are those of others
abbrev pub OrdersAgree : ℕ → (first second : List Store) → Type 0
OrdersAgree last first second = AgreeUpTo last (kept_orders first).list (kept_orders second).list

-- no order of turns gets stuck
abbrev pub NeverStuck : Type 0
NeverStuck =
    (code : Code) (tables : Tables) (room : Room) (ranks : ℕ) (turns : List ℕ) → MayRunApart code tables ranks → IsStuck (machine code tables room) (run code tables room ranks turns) → ⊥

-- what was written is a front of what the lockstep has written after at least as many instructions
abbrev pub WritesFront : Type 0
WritesFront =
    (code : Code) (tables : Tables) (room : Room) (ranks : ℕ) (turns : List ℕ) (k : ℕ) → MayRunApart code tables ranks → length turns ≤ k
    → IsFrontOf (run code tables room ranks turns).out (state_of (lockstep_of code tables ranks k)).out

-- What was written belongs to the orders that the ranks have logged: after some instructions, at most as many as turns, the
-- lockstep has written at least as much, and each rank's log is that of the lockstep there, or it and orders of greater
-- numbers. So up to each number that all ranks have executed there, the kept orders are those of the lockstep.
pub record LogsAsLockstep (code : Code) (tables : Tables) (room : Room) (ranks : ℕ) (turns : List ℕ) : Type 0 where
  pub limit : ℕ
  pub least : limit ≤ length turns
  pub count : length (state_of (lockstep_of code tables ranks limit)).ranks ≡ ranks
  pub count_apart : length (run code tables room ranks turns).ranks ≡ ranks
  pub out : IsFrontOf (run code tables room ranks turns).out (state_of (lockstep_of code tables ranks limit)).out
  pub logs : (r : ℕ) (d : Store) → r < ranks → LogGrows (slice_index_or (state_of (lockstep_of code tables ranks limit)).ranks r d) (slice_index_or (run code tables room ranks turns).ranks r d)
  pub orders : (last : ℕ) → HaveExecuted last (state_of (lockstep_of code tables ranks limit)).ranks → OrdersAgree last (state_of (lockstep_of code tables ranks limit)).ranks (run code tables room ranks turns).ranks

abbrev pub LogsWithOutput : Type 0
LogsWithOutput =
    (code : Code) (tables : Tables) (room : Room) (ranks : ℕ) (turns : List ℕ) → MayRunApart code tables ranks → LogsAsLockstep code tables room ranks turns

-- all ranks have halted only where the lockstep ends, with its stores and output
pub record EndsAsLockstep (code : Code) (tables : Tables) (room : Room) (ranks : ℕ) (turns : List ℕ) : Type 0 where
  pub limit : ℕ
  pub least : limit ≤ length turns
  pub end : State
  pub ends : lockstep_of code tables ranks limit ≡ Ended end
  pub stores : (run code tables room ranks turns).ranks ≡ end.ranks
  pub out : (run code tables room ranks turns).out ≡ end.out

abbrev pub EndsOnly : Type 0
EndsOnly =
    (code : Code) (tables : Tables) (room : Room) (ranks : ℕ) (turns : List ℕ) → MayRunApart code tables ranks → HasEnded (machine code tables room) (run code tables room ranks turns)
    → EndsAsLockstep code tables room ranks turns

-- a rank traps only where the lockstep traps; each rank's log is that of the lockstep, or it and orders of greater numbers
pub record TrapsAsLockstep (code : Code) (tables : Tables) (room : Room) (ranks : ℕ) (turns : List ℕ) : Type 0 where
  pub limit : ℕ
  pub least : limit ≤ length turns
  pub trap : Trap
  pub end : State
  pub traps : lockstep_of code tables ranks limit ≡ Trapped trap end
  pub count : length end.ranks ≡ ranks
  pub count_apart : length (run code tables room ranks turns).ranks ≡ ranks
  pub logs : (r : ℕ) (d : Store) → r < ranks → LogGrows (slice_index_or end.ranks r d) (slice_index_or (run code tables room ranks turns).ranks r d)
  pub orders : (last : ℕ) → HaveExecuted last end.ranks → OrdersAgree last end.ranks (run code tables room ranks turns).ranks

abbrev pub TrapsOnly : Type 0
TrapsOnly =
    (code : Code) (tables : Tables) (room : Room) (ranks : ℕ) (turns : List ℕ) (t : Trap) → MayRunApart code tables ranks → (run code tables room ranks turns).trap ≡ Some t
    → TrapsAsLockstep code tables room ranks turns

-- There are so many ranks, each at its number, with its arrays shared as the code says.
pub record ArePlaced (code : Code) (ranks : ℕ) (xs : List Store) : Type 0 where
  pub count : length xs ≡ ranks
  pub numbers : AreNumbered xs
  pub shared : All (IsPlaced code ranks) xs

-- so it is after any turns
abbrev pub SharesAlways : Type 0
SharesAlways =
    (code : Code) (tables : Tables) (room : Room) (ranks : ℕ) (turns : List ℕ) → MayRunApart code tables ranks → ArePlaced code ranks (run code tables room ranks turns).ranks

-- two orders after which all ranks have halted leave equal stores, output and kept orders; of any code
pub record AreSame (code : Code) (tables : Tables) (room : Room) (ranks : ℕ) (first second : List ℕ) : Type 0 where
  pub stores : (run code tables room ranks first).ranks ≡ (run code tables room ranks second).ranks
  pub out : (run code tables room ranks first).out ≡ (run code tables room ranks second).out
  pub orders : kept_orders (run code tables room ranks first).ranks ≡ kept_orders (run code tables room ranks second).ranks

abbrev pub OneEnd : Type 0
OneEnd =
    (code : Code) (tables : Tables) (room : Room) (ranks : ℕ) (first second : List ℕ) → HasEnded (machine code tables room) (run code tables room ranks first) → HasEnded (machine code tables room) (run code tables room ranks second)
    → AreSame code tables room ranks first second

-- ---- turns in rounds

-- how many actions an instruction costs a rank at most
abbrev pub price : (ranks : ℕ) → Kind → ℕ
price ranks Posts = ranks
price ranks Takes = ranks
price ranks TakesRoot = ranks
price ranks _ = 1

-- what an instruction that was done is paid, before what the others are
abbrev pub paid_then : ℕ → (State → ℕ) → Step → ℕ
paid_then here rest Ends = 0
paid_then here rest (Trips t) = 0
paid_then here rest (Steps s) = here + rest s

-- the actions that at most k instructions of the lockstep cost a rank at most
unfoldable pub paid : Code → Tables → (ranks k : ℕ) → State → ℕ
paid code tables ranks zero s = 0
paid code tables ranks (suc k) s = paid_then (price ranks (kind_of (instr_at code.list (position_of s.ranks)))) (paid code tables ranks k) (step code tables s)

-- Turns in rounds are over, by a trap or as all ranks have halted, within a round more than the actions that the lockstep costs a
-- rank until it is over; and they are over after any turns behind these.
abbrev pub RoundsEnd : Type 0
RoundsEnd =
    (code : Code) (tables : Tables) (room : Room) (ranks k count : ℕ) (more : List ℕ) → MayRunApart code tables ranks → IsOver (lockstep_of code tables ranks k) → paid code tables ranks k (first_state code ranks) < count
    → ((t : Trap) × ((run code tables room ranks (rounds ranks count ++ more)).trap ≡ Some t)) ⊎ HasEnded (machine code tables room) (run code tables room ranks (rounds ranks count ++ more))

-- what the ranks have logged is what the lockstep has after so many instructions, and orders of greater numbers
pub record LogsPast (code : Code) (tables : Tables) (room : Room) (ranks k : ℕ) (turns : List ℕ) : Type 0 where
  pub logs : (r : ℕ) (d : Store) → r < ranks → LogGrows (slice_index_or (state_of (lockstep_of code tables ranks k)).ranks r d) (slice_index_or (run code tables room ranks turns).ranks r d)
  pub orders : (last : ℕ) → HaveExecuted last (state_of (lockstep_of code tables ranks k)).ranks → OrdersAgree last (state_of (lockstep_of code tables ranks k)).ranks (run code tables room ranks turns).ranks

-- After as many rounds of turns as so many instructions of the lockstep cost a rank, and any turns behind these, a rank has trapped,
-- or each has come as far as the lockstep has by these instructions.
abbrev pub RoundsPass : Type 0
RoundsPass =
    (code : Code) (tables : Tables) (room : Room) (ranks k count : ℕ) (more : List ℕ) → MayRunApart code tables ranks → paid code tables ranks k (first_state code ranks) ≤ count
    → ((t : Trap) × ((run code tables room ranks (rounds ranks count ++ more)).trap ≡ Some t)) ⊎ LogsPast code tables room ranks k (rounds ranks count ++ more)
