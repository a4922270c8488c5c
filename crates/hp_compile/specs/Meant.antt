-- What ranks that take turns in any order have in common with a meaning, be it that of a program or of a script.
use Rattle.std.specs.Prelude.{◌≡◌, ℕ, ◌+◌, ◌*◌, ◌≤◌, List, ◌++◌, length, Some, ◌⊎◌}
use Rattle.hp_word.specs.declared.order.Order.{Order}
use Rattle.hp_word.specs.declared.place.Trap.{Trap}
use Rattle.hp_word.specs.declared.table.Tables.{Tables}
use Rattle.hp_word.specs.Runs.{IsFrontOf}
use Rattle.hp_network.specs.Network.{Machine, Room, State, HasEnded, IsStuck, rounds}
use Rattle.hp_spmd.specs.declared.code.Code.{Code}
use Rattle.hp_spmd.specs.declared.store.Store.{Store}
use Rattle.hp_turns.specs.Apart.{ArePlaced}
use Rattle.hp_turns.specs.Turns.{kept_orders, machine, run}
use Rattle.hp_air.specs.Meaning.{Ending, Done, Stopped, OutOfFuel, NoEnd}

-- ---- meanings

-- how what is meant ends over some tables, under orders of rows and with so many loop turns
abbrev pub Meant : Type 0
Meant = List Order → (fuel : ℕ) → Ending

-- its output begins with these bytes
abbrev pub BeginsWith : List ℕ → Ending → Type 0
BeginsWith text (Done out bad) = IsFrontOf text out
BeginsWith text (Stopped out) = IsFrontOf text out
BeginsWith text (OutOfFuel out) = IsFrontOf text out
BeginsWith text NoEnd = ⊥

-- it is done, and these bytes are its output
abbrev pub IsDoneWith : List ℕ → Ending → Type 0
IsDoneWith text (Done out bad) = text ≡ out
IsDoneWith text _ = ⊥

-- it traps, and its output begins with these bytes
abbrev pub IsStoppedWith : List ℕ → Ending → Type 0
IsStoppedWith text (Stopped out) = IsFrontOf text out
IsStoppedWith text _ = ⊥

-- it is done or traps, and is not out of loop turns
abbrev pub Stops : Ending → Type 0
Stops (Done out bad) = Unit {0}
Stops (Stopped out) = Unit {0}
Stops _ = ⊥

-- ---- ranks

-- so many ranks of a code, over these tables and with this room in each queue
pub record Ranks : Type 0 where
  pub code : Code
  pub tables : Tables
  pub room : Room
  pub count : ℕ

abbrev pub machine_of : Ranks → Machine Store
machine_of r = machine r.code r.tables r.room

-- what they have come to by these turns, in order
abbrev pub after : Ranks → (turns : List ℕ) → State Store
after r turns = run r.code r.tables r.room r.count turns

-- the orders of rows that they have kept by then
abbrev pub orders_after : Ranks → (turns : List ℕ) → List Order
orders_after r turns = (kept_orders (after r turns).ranks).list

abbrev pub HaveHalted : Ranks → (turns : List ℕ) → Type 0
HaveHalted r turns = HasEnded (machine_of r) (after r turns)

-- one of them has trapped
abbrev pub HasTrapped : Ranks → (turns : List ℕ) → Type 0
HasTrapped r turns = (t : Trap) × ((after r turns).trap ≡ Some t)

-- ---- what is said of them

-- They are not stuck, and each, standing at its number, has its arrays shared as the code says.
pub record Stand (r : Ranks) (turns : List ℕ) : Type 0 where
  pub going : IsStuck (machine_of r) (after r turns) → ⊥
  pub placed : ArePlaced r.code r.count (after r turns).ranks

-- What they have written is what is meant under the orders that they have kept, with as many loop turns as they had turns, or
-- more: a front of its output; where all have halted, the whole of it, and then it is done; and where one has trapped, it traps.
pub record WriteAsMeant (r : Ranks) (meant : Meant) (turns : List ℕ) : Type 0 where
  pub front : (fuel : ℕ) → length turns ≤ fuel → BeginsWith (after r turns).out (meant (orders_after r turns) fuel)
  pub done : (fuel : ℕ) → length turns ≤ fuel → HaveHalted r turns → IsDoneWith (after r turns).out (meant (orders_after r turns) fuel)
  pub stopped : (fuel : ℕ) → length turns ≤ fuel → HasTrapped r turns → IsStoppedWith (after r turns).out (meant (orders_after r turns) fuel)

-- Turns in rounds, and any turns behind them: where what is meant under the orders kept by then is done or traps, and there were
-- 2 n + 14 rounds for each unit of its work and n more, all of the n ranks have halted, or one has trapped.
abbrev pub RoundsAreOver : Ranks → Meant → (work : List Order → (fuel : ℕ) → ℕ) → Type 0
RoundsAreOver r meant work =
    (count : ℕ) (more : List ℕ) (fuel : ℕ) → Stops (meant (orders_after r (rounds r.count count ++ more)) fuel)
    → (2 * r.count + 14) * work (orders_after r (rounds r.count count ++ more)) fuel + r.count ≤ count
    → HasTrapped r (rounds r.count count ++ more) ⊎ HaveHalted r (rounds r.count count ++ more)
