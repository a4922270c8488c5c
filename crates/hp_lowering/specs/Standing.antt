-- What the ranks have on the way stands for where the program has come to, and what holds at every instruction.
use Rattle.std.specs.Prelude.{◌≡◌, ℕ, ◌<◌, ◌≤◌, All, false, Some, List, [], length}
use Rattle.std.specs.List.{AllByRecursion}
use Rattle.hp_word.specs.declared.order.Order.{Order}
use Rattle.hp_word.specs.declared.table.Tables.{Tables}
use Rattle.hp_word.specs.Lengths.{longest}
use Rattle.hp_word.specs.MatrixRules.{flat}
use Rattle.hp_word.specs.RowRules.{AgreeUpTo}
use Rattle.hp_spmd.specs.declared.code.Code.{Code}
use Rattle.hp_spmd.specs.declared.store.Store.{Store}
use Rattle.hp_spmd.specs.Layout as layout
use Rattle.hp_spmd.specs.Layout.{Layout}
use Rattle.hp_spmd.specs.Lockstep.{State, position_of}
use Rattle.hp_turns.specs.Apart.{Agree, HaveExecuted}
use Rattle.hp_turns.specs.Turns.{kept_orders}
use Rattle.hp_air.specs.Wholes as wholes
use Rattle.hp_air.specs.Wholes.{Vector, Grid, cells}
use Rattle.hp_snippet.specs.Promises.{IsRankOf}
use Rattle.hp_lowering.specs.Room.{Room}

-- what the ranks' pieces of an array or a matrix are pieces of
abbrev pub whole_of : wholes.Whole → layout.Whole
whole_of (Vector xs) = layout.vector xs
whole_of (Grid m) = record { rows = m.rows; cells = flat m }

-- an array, and no matrix
abbrev pub IsArray : wholes.Whole → Type 0
IsArray (Vector xs) = Unit {0}
IsArray (Grid m) = ⊥

-- What all ranks stand for is what the slots and words of a program hold; no slot holds more than an array may have, and none but a
-- matrix holds one. What stands behind these may be anything.
pub record IsOf (room : Room) (e : wholes.Env) (f : layout.Env) : Type 0 where
  pub slots : (k : ℕ) → k < room.slots → f.arrays k ≡ whole_of (e.slots k)
  pub words : (w : ℕ) → w < room.words → f.words w ≡ Some (e.words w)
  pub short : (k : ℕ) → k < room.slots → length (cells (e.slots k)) ≤ longest
  pub arrays : (k : ℕ) → k < room.slots → room.matrix k ≡ false → IsArray (e.slots k)

-- each order that a rank has logged is that of a join or an aggregate that it has executed
abbrev pub LogsExecuted : Store → Type 0
LogsExecuted x = AllByRecursion (λ (o : Order). (1 ≤ o.number) × (o.number ≤ x.executed)) x.log.list

-- So many ranks of a code, all at one instruction, stand for where a program has come to: each has executed as many joins and
-- aggregates as that, and none of these was in a bad order.
pub record StandFor (code : Code) (room : Room) (ranks : ℕ) (s : State) (e : wholes.Env) : Type 0 where
  pub some : 1 ≤ ranks
  pub count : length s.ranks ≡ ranks
  pub each : All (IsRankOf code ranks) s.ranks
  pub at_one : All (λ x. x.position ≡ position_of s.ranks) s.ranks
  pub executed : All (λ x. x.executed ≡ e.executed) s.ranks
  pub logged : All LogsExecuted s.ranks
  pub bad : e.bad ≡ []
  pub env : layout.Env
  pub lays : Layout code s.ranks env
  pub is : IsOf room e env

-- What holds at every instruction: the ranks are those of the code, each with its arrays shared as it says; at a Jump all go where
-- the first one goes, and at an Unpack all trap, or all go on.
pub record AreSound (code : Code) (tables : Tables) (ranks : ℕ) (s : State) : Type 0 where
  pub each : All (IsRankOf code ranks) s.ranks
  pub agree : Agree code tables s.ranks

-- at each number that all ranks have executed, the order is the one that they have logged
abbrev pub HasLogged : List Order → State → Type 0
HasLogged orders s = (last : ℕ) → HaveExecuted last s.ranks → AgreeUpTo last (kept_orders s.ranks).list orders
