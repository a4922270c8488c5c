-- The laws of ranks that run the code of a program with loops.
use Rattle.std.specs.Prelude.{◌≡◌, ℕ, ◌≤◌, List, length, IsTrue}
use Rattle.std.specs.List.{AllByRecursion}
use Rattle.hp_word.specs.declared.order.Order.{Order}
use Rattle.hp_word.specs.declared.table.Tables.{Tables}
use Rattle.hp_word.specs.Runs as runs
use Rattle.hp_word.specs.Runs.{Went}
use Rattle.hp_lattice.specs.declared.dist.Dist.{Dist}
use Rattle.hp_network.specs.Network.{Room}
use Rattle.hp_spmd.specs.Layout as layout
use Rattle.hp_spmd.specs.Layout.{Layout}
use Rattle.hp_turns.specs.Apart.{MayRunApart}
use Rattle.hp_program.specs.Programs.{Prog, operations}
use Rattle.hp_air.specs.declared.slot.Slot.{Slot}
use Rattle.hp_air.specs.Meaning.{ending, work_of}
use Rattle.hp_air.specs.Wholes.{Env}
use Rattle.hp_parfor.specs.KeptParts.{are_parts}
use Rattle.hp_parfor.specs.LoopMeaning.{parts_mean}
use Rattle.hp_parfor.specs.Parts.{Part}
use Rattle.hp_parfor.specs.PlacedParts.{PlacedParts}
use Rattle.hp_lowering.specs.CodeOf.{code_list}
use Rattle.hp_lowering.specs.PartCode.{is_part_built}
use Rattle.hp_lowering.specs.Room.{code_arrays, room_of}
use Rattle.hp_lowering.specs.RunLaws.{PartsAreCarried}
use Rattle.hp_lowering.specs.Standing.{IsOf}
use Rattle.hp_compile.specs.Meant.{Meant, Ranks, RoundsAreOver, HaveHalted, Stand, WriteAsMeant, after, orders_after}

-- ---- programs and their code

-- A program with loops: its slots, how many words it has, its steps, and how its slots lie.
pub record Program : Type 0 where
  pub slots : List Slot
  pub words : ℕ
  pub steps : Prog Part
  pub dists : List Dist

-- how it ends over tables, as far as meanings are compared, and its work until then
abbrev pub program_meant : Program → Tables → Meant
program_meant p tables orders fuel = ending (parts_mean p.slots p.dists p.steps tables.list orders fuel)

abbrev pub program_work : Program → Tables → List Order → (fuel : ℕ) → ℕ
program_work p tables orders fuel = work_of (parts_mean p.slots p.dists p.steps tables.list orders fuel)

-- Ranks that run the code of a program: 1 to 32 of them, of a program that keeps its laws and can run by its distributions. The code has
-- its steps' instructions and an array for each slot, and the instructions of each step do the step, under all orders.
pub record RunProgram (p : Program) (r : Ranks) : Type 0 where
  pub some : 1 ≤ r.count
  pub few : r.count ≤ 32
  pub kept : IsTrue (are_parts p.slots p.words p.steps)
  pub lies : PlacedParts p.slots p.steps p.dists
  pub list : r.code.list ≡ code_list p.slots p.words p.steps p.dists
  pub arrays : r.code.arrays ≡ code_arrays p.slots p.steps p.dists
  pub carried : (orders : List Order) → PartsAreCarried p.slots p.words p.steps p.dists r.code r.tables r.count orders

-- ---- laws

-- they may run apart
abbrev pub ProgramsRunApart : Type 0
ProgramsRunApart = (p : Program) (r : Ranks) → RunProgram p r → MayRunApart r.code r.tables r.count

-- after any turns they stand
abbrev pub ProgramsStand : Type 0
ProgramsStand = (p : Program) (r : Ranks) (turns : List ℕ) → RunProgram p r → Stand r turns

-- and what they have written is what the program means
abbrev pub ProgramsWrite : Type 0
ProgramsWrite = (p : Program) (r : Ranks) (turns : List ℕ) → RunProgram p r → WriteAsMeant r (program_meant p r.tables) turns

-- What all ranks have is what the program's slots and words hold where it is done.
pub record HoldEnd (p : Program) (r : Ranks) (turns : List ℕ) (fuel : ℕ) : Type 0 where
  pub end : runs.State Env ℕ
  pub done : parts_mean p.slots p.dists p.steps r.tables.list (orders_after r turns) fuel ≡ Went end
  pub env : layout.Env
  pub lays : Layout r.code (after r turns).ranks env
  pub is : IsOf (room_of p.slots p.words) end.env env

-- where all have halted, they hold the program's end
abbrev pub ProgramsHoldEnd : Type 0
ProgramsHoldEnd = (p : Program) (r : Ranks) (turns : List ℕ) (fuel : ℕ) → RunProgram p r → length turns ≤ fuel → HaveHalted r turns → HoldEnd p r turns fuel

-- turns in rounds are over soon
abbrev pub ProgramsAreOver : Type 0
ProgramsAreOver = (p : Program) (r : Ranks) → RunProgram p r → RoundsAreOver r (program_meant p r.tables) (program_work p r.tables)

-- Two orders of turns after which all ranks have halted leave the same, whatever room the queues have in each.
pub record LeaveTheSame (r : Ranks) (room : Room) (first second : List ℕ) : Type 0 where
  pub stores : (after r first).ranks ≡ (after (record r { room = room }) second).ranks
  pub out : (after r first).out ≡ (after (record r { room = room }) second).out
  pub orders : orders_after r first ≡ orders_after (record r { room = room }) second

abbrev pub ProgramsEndAlike : Type 0
ProgramsEndAlike =
    (p : Program) (r : Ranks) (room : Room) (first second : List ℕ) → RunProgram p r → HaveHalted r first → HaveHalted (record r { room = room }) second → LeaveTheSame r room first second

-- ---- programs that hang on no promise

-- where each step is one whose instructions are shown to do it, nothing is asked of them
abbrev pub ProgramsAreCarried : Type 0
ProgramsAreCarried =
    (p : Program) (r : Ranks) → 1 ≤ r.count → r.count ≤ 32 → IsTrue (are_parts p.slots p.words p.steps) → PlacedParts p.slots p.steps p.dists
    → r.code.list ≡ code_list p.slots p.words p.steps p.dists → r.code.arrays ≡ code_arrays p.slots p.steps p.dists → AllByRecursion (λ part. IsTrue (is_part_built part)) (operations p.steps) → RunProgram p r
