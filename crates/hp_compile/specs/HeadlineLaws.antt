-- The headline: what ranks that take turns in any order have in common with a program of the array IR, and with a script.
use Rattle.std.specs.Prelude.{◌≡◌, ℕ, ◌+◌, ◌*◌, ◌≤◌, List, ◌++◌, length, Option, Some, IsTrue, ◌⊎◌}
use Rattle.hp_word.specs.declared.order.Order.{Order}
use Rattle.hp_word.specs.declared.table.Tables.{Tables}
use Rattle.hp_word.specs.Runs as runs
use Rattle.hp_word.specs.Runs.{Went}
use Rattle.hp_lattice.specs.declared.dist.Dist.{Dist}
use Rattle.hp_network.specs.Network.{rounds}
use Rattle.hp_spmd.specs.Layout as layout
use Rattle.hp_spmd.specs.Layout.{Layout}
use Rattle.hp_turns.specs.Turns.{budget}
use Rattle.hp_script.specs.declared.typed.Typed.{Typed}
use Rattle.hp_script.specs.Checked.{Checked}
use Rattle.hp_script.specs.Mirror.{block_of}
use Rattle.hp_meaning.specs.declared.seq.SeqStatus.{SeqStatus}
use Rattle.hp_meaning.specs.declared.seq.SeqStatus.TheVariants as status
use Rattle.hp_meaning.specs.Fitting.{Serves as GoWith}
use Rattle.hp_meaning.specs.Run.{End, eval}
use Rattle.hp_program.specs.Programs.{Prog, replaced}
use Rattle.hp_air.specs.declared.slot.Slot.{Slot}
use Rattle.hp_air.specs.declared.what.Op.{Op}
use Rattle.hp_air.specs.Kept.{are_kept}
use Rattle.hp_air.specs.Meaning.{ending, mean, work_of}
use Rattle.hp_air.specs.Wholes.{Env}
use Rattle.hp_parfor.specs.Built.{built}
use Rattle.hp_parfor.specs.LoopMeaning.{parts_mean}
use Rattle.hp_lowering.specs.Room.{room_of}
use Rattle.hp_lowering.specs.Standing.{IsOf}
use Rattle.hp_flat.specs.Flat.{flat_script}
use Rattle.hp_flat.specs.FlatLaws.{endings_of}
use Rattle.hp_flat.specs.Homes.{homes_of, slots_in, words_in}
use Rattle.hp_compile.specs.Meant.{HasTrapped, HaveHalted, Meant, Ranks, RoundsAreOver, Stand, WriteAsMeant, after, orders_after}
use Rattle.hp_compile.specs.RanksLaws.{HoldEnd, Program, RunProgram, program_meant, program_work}

-- ---- programs of the array IR

-- how such a program with these slots ends over tables, as far as meanings are compared, and its work until then
abbrev pub air_meant : List Slot → Prog Op → Tables → Meant
air_meant slots air tables orders fuel = ending (mean slots air tables.list orders fuel)

abbrev pub air_work : List Slot → Prog Op → Tables → List Order → (fuel : ℕ) → ℕ
air_work slots air tables orders fuel = work_of (mean slots air tables.list orders fuel)

-- A program with loops means over these tables what one of the array IR with its slots means: both end in the same way, in the
-- same environment where they are done, and it has no more work. Which trap comes may differ.
pub record MeansAsAir (p : Program) (air : Prog Op) (tables : Tables) : Type 0 where
  pub endings : (orders : List Order) (fuel : ℕ) → program_meant p tables orders fuel ≡ air_meant p.slots air tables orders fuel
  pub envs : (orders : List Order) (fuel : ℕ) (s t : runs.State Env ℕ) → parts_mean p.slots p.dists p.steps tables.list orders fuel ≡ Went s → mean p.slots air tables.list orders fuel ≡ Went t → s.env ≡ t.env
  pub work : (orders : List Order) (fuel : ℕ) → program_work p tables orders fuel ≤ air_work p.slots air tables orders fuel

-- what the ranks have written is what it means
abbrev pub AirIsWritten : Type 0
AirIsWritten = (p : Program) (air : Prog Op) (r : Ranks) (turns : List ℕ) → RunProgram p r → MeansAsAir p air r.tables → WriteAsMeant r (air_meant p.slots air r.tables) turns

-- what all ranks have is what its slots and words hold where it is done
pub record HoldAirEnd (p : Program) (air : Prog Op) (r : Ranks) (turns : List ℕ) (fuel : ℕ) : Type 0 where
  pub end : runs.State Env ℕ
  pub done : mean p.slots air r.tables.list (orders_after r turns) fuel ≡ Went end
  pub env : layout.Env
  pub lays : Layout r.code (after r turns).ranks env
  pub is : IsOf (room_of p.slots p.words) end.env env

abbrev pub AirEndIsHeld : Type 0
AirEndIsHeld =
    (p : Program) (air : Prog Op) (r : Ranks) (turns : List ℕ) (fuel : ℕ) → RunProgram p r → MeansAsAir p air r.tables → length turns ≤ fuel → HaveHalted r turns → HoldAirEnd p air r turns fuel

-- turns in rounds are over soon
abbrev pub AirIsOver : Type 0
AirIsOver = (p : Program) (air : Prog Op) (r : Ranks) → RunProgram p r → MeansAsAir p air r.tables → RoundsAreOver r (air_meant p.slots air r.tables) (air_work p.slots air r.tables)

-- the program with loops that is built of one of the array IR means the same, whatever its slots' distributions are
abbrev pub with_loops : List Slot → (words : ℕ) → Prog Op → List Dist → Program
with_loops slots words air dists = record { slots = slots; words = words; steps = replaced built air; dists = dists }

abbrev pub BuiltMeansAsAir : Type 0
BuiltMeansAsAir = (slots : List Slot) (words : ℕ) (air : Prog Op) (dists : List Dist) (tables : Tables) → IsTrue (are_kept slots words air) → MeansAsAir (with_loops slots words air dists) air tables

-- ---- scripts

-- how a script ends over tables, as far as meanings are compared
abbrev pub script_meant : Typed → Tables → Meant
script_meant typed tables orders fuel = endings_of typed tables.list orders fuel

-- what a script comes to
abbrev pub script_end : Typed → Tables → List Order → (fuel : ℕ) → Option End
script_end typed tables orders fuel = eval (block_of typed.script.body) tables.list orders fuel

-- A program with loops means over these tables what a script means: both end in the same way, and its work is at most 16 for each of the
-- script's ticks and 16 more. Which trap comes may differ.
pub record MeansAsScript (p : Program) (typed : Typed) (tables : Tables) : Type 0 where
  pub endings : (orders : List Order) (fuel : ℕ) → program_meant p tables orders fuel ≡ script_meant typed tables orders fuel
  pub work : (orders : List Order) (fuel : ℕ) (e : End) → script_end typed tables orders fuel ≡ Some e → program_work p tables orders fuel ≤ 16 * (e.at.seen.ticks + 1)

-- what the ranks have written is what the script means
abbrev pub ScriptIsWritten : Type 0
ScriptIsWritten = (p : Program) (typed : Typed) (r : Ranks) (turns : List ℕ) → RunProgram p r → MeansAsScript p typed r.tables → WriteAsMeant r (script_meant typed r.tables) turns

-- done, or trapped
abbrev pub IsStop : SeqStatus → Type 0
IsStop status.Done = Unit {0}
IsStop (status.Trap at kind) = Unit {0}
IsStop status.Fuel = ⊥

-- Turns in rounds, and any turns behind them: where the script under the orders kept by then is done or traps after some ticks,
-- and there were as many turns in rounds as its budget, all ranks have halted, or one has trapped.
abbrev pub ScriptIsOver : Type 0
ScriptIsOver =
    (p : Program) (typed : Typed) (r : Ranks) (count : ℕ) (more : List ℕ) (fuel : ℕ) (e : End) → RunProgram p r → MeansAsScript p typed r.tables
    → script_end typed r.tables (orders_after r (rounds r.count count ++ more)) fuel ≡ Some e → IsStop e.status → budget e.at.seen.ticks r.count ≤ length (rounds r.count count)
    → HasTrapped r (rounds r.count count ++ more) ⊎ HaveHalted r (rounds r.count count ++ more)

-- the program with loops of a script whose slots have these distributions
abbrev pub script_program : Typed → List Dist → Program
script_program typed dists = with_loops (slots_in (homes_of typed)) (words_in (homes_of typed)) (flat_script typed) dists

-- It means what the script means, where no rule breaks in that, over tables that go with its files.
abbrev pub ScriptProgramsMean : Type 0
ScriptProgramsMean = (typed : Typed) (dists : List Dist) (tables : Tables) → Checked typed → GoWith tables.list typed.reads → MeansAsScript (script_program typed dists) typed tables

-- ---- the headline

-- What holds of a script on ranks, after any turns: the ranks are not stuck, and their arrays are shared as the code says; what they have
-- written is what the script means; and where all have halted, they hold what its program has made.
pub record HoldsOnRanks (typed : Typed) (dists : List Dist) (r : Ranks) (turns : List ℕ) : Type 0 where
  pub stand : Stand r turns
  pub write : WriteAsMeant r (script_meant typed r.tables) turns
  pub ends : (fuel : ℕ) → length turns ≤ fuel → HaveHalted r turns → HoldEnd (script_program typed dists) r turns fuel

-- So it is of each script in which no rule breaks, over tables that go with its files, on 1 to 32 ranks, in every room and every order of
-- turns, where the ranks run the code of its program with loops.
abbrev pub Headline : Type 0
Headline = (typed : Typed) (dists : List Dist) (r : Ranks) (turns : List ℕ) → Checked typed → GoWith r.tables.list typed.reads → RunProgram (script_program typed dists) r → HoldsOnRanks typed dists r turns
