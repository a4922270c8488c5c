-- Which answer of the program comes with which cause.
--
-- From the call to the theorem, in the order of reading:
-- 1. `hpat` (src/hpat.rt): its clauses say all that follows. What the words ask for is `asked_by` (Command).
-- 2. `Answered` and `Did`, below: the cause of each answer, and what was done. All functions that `hpat` calls have these.
-- 3. `IsRefusal`, `IsBadTable`, `HasToAnswer`, below: which answer has to come; it follows of 2 by `OneOfTwo` (hp_script).
-- 4. `Fits` and `Refuses` (hp_reader, Reading), and `RefusesRun` (Reading): which bytes fit, and how others are refused.
-- 5. `AreTables` and `IsFirstBad` (TablesRead): the tables of the script's files, by `answer_of` (hp_tables, Contents).
-- 6. `Means` and `WroteMeaning`, below: how the meaning of a script ends, by `eval` (hp_meaning, Run), and what is written.
-- 7. `KeepsRun`, below: the code runs the script, by `IsCompiled` (Reading) and `Runs` (hp_lower, Correct).
-- 8. `AnswersRun`, below: how the ranks' run ends, by `lockstep_of` (hp_spmd, Lockstep).
-- 9. `HasCause` (hp_outside, Outside): a fault is told only where a count of faults rose.
-- 10. `status_of` and `status_line` (Answers): the exit status of an answer, and its line on standard error.
use Rattle.std.specs.Prelude.{◌≡◌, ◌⊎◌, ℕ, ◌<◌, ◌≤◌, ◌^◌, Bool, true, false, List, [], length, take, codes, Option, Some, None, Err}
use Rattle.hp_word.specs.declared.place.Place.{Place}
use Rattle.hp_word.specs.Lengths.{trap}
use Rattle.hp_script.specs.declared.rule.Rule.{Rule}
use Rattle.hp_script.specs.declared.rule.Rule.TheVariants as rules
use Rattle.hp_script.specs.declared.tree.Stmt.{Stmt}
use Rattle.hp_script.specs.declared.typed.Typed.{Typed}
use Rattle.hp_script.specs.Mirror.{block_of}
use Rattle.hp_meaning.specs.Forms.{built}
use Rattle.hp_word.specs.declared.name.Name.{Name}
use Rattle.hp_word.specs.declared.table.Table.{Table}
use Rattle.hp_tables.specs.declared.bad.Bad.{Bad}
use Rattle.hp_meaning.specs.declared.seq.SeqStatus.{SeqStatus}
use Rattle.hp_meaning.specs.declared.seq.SeqStatus.TheVariants as status
use Rattle.hp_meaning.specs.Run.{End, eval}
use Rattle.hp_spmd.specs.declared.code.Code.{Code}
use Rattle.hp_spmd.specs.declared.lockstep.LockStatus.{LockStatus}
use Rattle.hp_spmd.specs.declared.lockstep.LockStatus.TheVariants as lock
use Rattle.hp_spmd.specs.Lockstep.{Reached, Ended, Trapped, Limit, IsOver, state_of, lockstep_of}
use Rattle.std.specs.Bool.{OnFalse}
use Rattle.hp_command.specs.declared.answer.Answer.{Answer}
use Rattle.hp_command.specs.declared.answer.Answer.TheVariants as answer
use Rattle.hp_command.specs.declared.kept.Kept.{Kept}
use Rattle.hp_outside.specs.Outside.{Rose, Grew, HasCause}
use Rattle.hp_command.specs.Command.{Asked, checks, evaluates, runs}
use Rattle.hp_reader.specs.Reading.{Refuses}
use Rattle.hp_command.specs.Reading.{RefusesRun, FitsWhereTold, IsCompiled}
use Rattle.hp_command.specs.TablesRead.{Holding, MayGive, DoesGive, AreTables, IsFirstBad, IsReached}

-- how many instructions the lockstep may do
abbrev pub instruction_limit : ℕ
instruction_limit = 2 ^ 24

-- the lockstep run of what was kept
abbrev pub run_of : Kept → Reached
run_of kept = lockstep_of kept.code kept.tables kept.ranks instruction_limit

-- ---- which answer

abbrev pub is_sink_fault : Answer → Bool
is_sink_fault answer.SinkFault = true
is_sink_fault a = false

-- where no put failed, the answer is that of the run's end
abbrev pub AnswersRun : Reached → Answer → Type 0
AnswersRun (Ended s) answer.Done = Unit {0}
AnswersRun (Trapped t s) (answer.Trapped at kind) = t ≡ trap at kind
AnswersRun (Limit s) answer.TurnsSpent = Unit {0}
AnswersRun r answer.NoMemory = Unit {0}
AnswersRun r answer.SinkFault = Unit {0}
AnswersRun r a = ⊥

-- the answer of a run's status
abbrev pub answer_of : LockStatus → Answer
answer_of lock.Ended = answer.Done
answer_of (lock.Trapped at kind) = answer.Trapped at kind
answer_of lock.Limit = answer.TurnsSpent

-- an answer that comes before any run
abbrev pub ComesEarly : Answer → Type 0
ComesEarly (answer.Refused at rule) = Unit {0}
ComesEarly (answer.FileFault name) = Unit {0}
ComesEarly answer.NoMemory = Unit {0}
ComesEarly a = ⊥

-- how bytes are refused by what is asked: `run` also refuses what is not built, and words of no form look at no bytes
abbrev pub RefusesFor : Option Asked → List ℕ → Place → Rule → Type 0
RefusesFor None bytes at rule = ⊥
RefusesFor (Some checks) bytes at rule = Refuses bytes at rule
RefusesFor (Some (evaluates turns)) bytes at rule = Refuses bytes at rule
RefusesFor (Some (runs ranks)) bytes at rule = RefusesRun bytes at rule

-- a refusal is a right one
abbrev pub RefusesAs : (Place → Rule → Type 0) → Answer → Type 0
RefusesAs P (answer.Refused at rule) = P at rule
RefusesAs P a = Unit {0}

-- an answer is a refusal that is right, or memory was refused
abbrev pub RefusedBy : (Place → Rule → Type 0) → Answer → Type 0
RefusedBy P (answer.Refused at rule) = P at rule
RefusedBy P answer.NoMemory = Unit {0}
RefusedBy P a = ⊥

abbrev pub IsNoMemory : Answer → Type 0
IsNoMemory answer.NoMemory = Unit {0}
IsNoMemory a = ⊥

-- the answer is this one, unless memory was refused
abbrev pub IsOrNoMemory : Answer → Answer → Type 0
IsOrNoMemory wanted a = (a ≡ wanted) ⊎ (a ≡ answer.NoMemory)

-- the file was not read, or memory was refused
abbrev pub IsUnread : Answer → Type 0
IsUnread (answer.FileFault name) = Unit {0}
IsUnread answer.NoMemory = Unit {0}
IsUnread a = ⊥

-- the answer is this refusal, unless the file was not read or memory was refused
abbrev pub IsRefusal : Place → Rule → Answer → Type 0
IsRefusal at rule (answer.Refused at2 rule2) = (at2 ≡ at) × (rule2 ≡ rule)
IsRefusal at rule (answer.FileFault name) = Unit {0}
IsRefusal at rule answer.NoMemory = Unit {0}
IsRefusal at rule a = ⊥

-- A call of a script that fits is of the file of this name, and no call before it of a file that has a fault.
pub record NamesFile (holds : Holding) (file name : List ℕ) : Type 0 where
  pub script : FitsWhereTold (holds file)
  pub reached : IsReached (MayGive holds) script.typed.reads name

-- the files that a command reads: FILE, and for `seq` those of the script's calls up to the first that has a fault
abbrev pub MayRead : Holding → List ℕ → Option Asked → List ℕ → Type 0
MayRead holds file (Some (evaluates turns)) name = (name ≡ file) ⊎ NamesFile holds file name
MayRead holds file asked name = name ≡ file

-- A file's fault is that of a file that is read, and the files' count of faults rose in the call. Where memory was
-- refused it may have risen before; else it stays.
abbrev pub FaultOf : (List ℕ → Type 0) → ℕ → ℕ → Option (List ℕ) → Answer → Type 0
FaultOf IsRead before now failed (answer.FileFault name) = IsRead name.bytes × (before ≤ now) × Rose before now × (failed ≡ Some name.bytes)
FaultOf IsRead before now failed answer.NoMemory = before ≤ now
FaultOf IsRead before now failed a = now ≡ before

-- What is so of each answer to what is asked on the file of a name, by what the files hold and by their counts of faults
-- before and after the call: a refusal is that of the file's bytes, and a file's fault has its cause.
pub record Answered (holds : Holding) (file : List ℕ) (asked : Option Asked) (before now : ℕ) (failed : Option (List ℕ)) (a : Answer) : Type 0 where
  pub refused : (bytes : List ℕ) → holds file ≡ Some bytes → RefusesAs (RefusesFor asked bytes) a
  pub fault : FaultOf (MayRead holds file asked) before now failed a

-- an answer for want of tables: a fault of a table that is there, a fault of a file, or want of memory
abbrev pub RefusesTable : (Name → Bad → Type 0) → Answer → Type 0
RefusesTable P (answer.BadTable name bad) = P name bad
RefusesTable P (answer.FileFault name) = Unit {0}
RefusesTable P answer.NoMemory = Unit {0}
RefusesTable P a = ⊥

-- the answer is this fault of this table's file, unless a file was not read or memory was refused
abbrev pub IsBadTable : Name → Bad → Answer → Type 0
IsBadTable name bad (answer.BadTable name2 bad2) = (name2 ≡ name) × (bad2 ≡ bad)
IsBadTable name bad (answer.FileFault name2) = Unit {0}
IsBadTable name bad answer.NoMemory = Unit {0}
IsBadTable name bad a = ⊥

-- the first statement that is not built stands at this place
abbrev pub not_built : List Stmt → Place → Rule → Type 0
not_built body at rules.NotBuilt = built [] (block_of body) ≡ Err at
not_built body at rule = ⊥

-- ---- what was written

-- a sink took these bytes; or a put failed, and it took a front of them that is shorter
abbrev pub Wrote : Bool → Option (List ℕ) → Option (List ℕ) → List ℕ → Type 0
Wrote false before now bytes = Grew before now bytes
Wrote true before now bytes = (k : ℕ) × (k < length bytes) × Grew before now (take k bytes)

-- some put may have failed, which the count of faults shows
pub record Put (before now : Option (List ℕ)) (faults faults2 : ℕ) (bytes : List ℕ) : Type 0 where
  pub fails : Bool
  pub cause : HasCause faults faults2 fails
  pub wrote : Wrote fails before now bytes

-- ---- what was kept

-- The code that was kept runs the script that the bytes spell, where they are told, on the ranks that were asked for, and
-- the instructions that they may do are enough.
pub record KeepsRun (bytes : Option (List ℕ)) (ranks : ℕ) (kept : Kept) : Type 0 where
  pub compiled : IsCompiled bytes kept.code
  pub asked : kept.ranks ≡ ranks
  pub tables : kept.tables.list ≡ []
  pub over : IsOver (run_of kept)

-- What a run of this code did: nothing where memory was refused; else the run's output, or where a put failed a front of it.
abbrev pub Played : Code → ℕ → Option (List ℕ) → Option (List ℕ) → ℕ → ℕ → Answer → Option Kept → Type 0
Played code ranks before now faults faults2 a None = (a ≡ answer.NoMemory) × (now ≡ before) × (faults2 ≡ faults)
Played code ranks before now faults faults2 a (Some kept) =
    (kept.code ≡ code) × (kept.ranks ≡ ranks) × (kept.tables.list ≡ []) × AnswersRun (run_of kept) a × HasCause faults faults2 (is_sink_fault a)
    × Wrote (is_sink_fault a) before now (state_of (run_of kept)).out

-- what `check` writes
abbrev pub ok_line : List ℕ
ok_line = codes "ok\n"

-- What `check` did: where the script fits it wrote that, or where the put failed a front of it; else nothing.
abbrev pub DidCheck : Option (List ℕ) → Option (List ℕ) → Option (List ℕ) → ℕ → ℕ → Answer → Type 0
DidCheck bytes before now faults faults2 answer.Done = FitsWhereTold bytes × Wrote false before now ok_line × (faults2 ≡ faults)
DidCheck bytes before now faults faults2 answer.SinkFault = FitsWhereTold bytes × Wrote true before now ok_line × HasCause faults faults2 true
DidCheck bytes before now faults faults2 a = ComesEarly a × (now ≡ before) × (faults2 ≡ faults)

-- What `run` did with its output: before any run nothing; else the run's output, or where a put failed a front of it.
abbrev pub DidRun : Option (List ℕ) → ℕ → Option (List ℕ) → Option (List ℕ) → ℕ → ℕ → Answer → Option Kept → Type 0
DidRun bytes ranks before now faults faults2 a None = ComesEarly a × (now ≡ before) × (faults2 ≡ faults)
DidRun bytes ranks before now faults faults2 a (Some kept) =
    KeepsRun bytes ranks kept × AnswersRun (run_of kept) a × HasCause faults faults2 (is_sink_fault a)
    × Wrote (is_sink_fault a) before now (state_of (run_of kept)).out

-- a script that fits, whose first table that has a fault is that of this name, with this fault
pub record HasBadTable (holds : Holding) (file : List ℕ) (name : Name) (bad : Bad) : Type 0 where
  pub script : FitsWhereTold (holds file)
  pub first : IsFirstBad (MayGive holds) script.typed.reads name bad

-- How the meaning of a script that fits ends, over the tables of its files, under the plain orders and with so many
-- loop turns.
pub record Means (holds : Holding) (file : List ℕ) (turns : ℕ) : Type 0 where
  pub script : FitsWhereTold (holds file)
  pub tables : List Table
  pub given : AreTables (MayGive holds) script.typed.reads tables
  pub end : End
  pub ends : eval (block_of script.typed.script.body) tables [] turns ≡ Some end

-- the answer of the meaning's status
abbrev pub meant : SeqStatus → Answer
meant status.Done = answer.Done
meant (status.Trap at kind) = answer.Trapped at kind
meant status.Fuel = answer.TurnsSpent

-- A meaning's output was written, or where a put failed a front of it; and the answer is by how the meaning ends.
pub record WroteMeaning (end : End) (before now : Option (List ℕ)) (faults faults2 : ℕ) (a : Answer) : Type 0 where
  pub answers : OnFalse (is_sink_fault a) (a ≡ meant end.status)
  pub cause : HasCause faults faults2 (is_sink_fault a)
  pub wrote : Wrote (is_sink_fault a) before now end.at.out

-- What an evaluation did: nothing where memory was refused; else the meaning's output was written.
abbrev pub Evaluated : Option End → Option (List ℕ) → Option (List ℕ) → ℕ → ℕ → Answer → Type 0
Evaluated found before now faults faults2 answer.NoMemory = (now ≡ before) × (faults2 ≡ faults)
Evaluated found before now faults faults2 a = (end : End) × (found ≡ Some end) × WroteMeaning end before now faults faults2 a

-- What `seq` did: where there is no meaning, nothing; else the meaning's output was written.
abbrev pub DidSeq : Holding → List ℕ → ℕ → Option (List ℕ) → Option (List ℕ) → ℕ → ℕ → Answer → Type 0
DidSeq holds file turns before now faults faults2 (answer.BadTable name bad) = HasBadTable holds file name bad × (now ≡ before) × (faults2 ≡ faults)
DidSeq holds file turns before now faults faults2 a = (ComesEarly a × (now ≡ before) × (faults2 ≡ faults))
    ⊎ ((meaning : Means holds file turns) × WroteMeaning meaning.end before now faults faults2 a)

-- What the call did: of words of no form nothing; `check` and `seq` keep nothing.
abbrev pub Did : Holding → List ℕ → Option Asked → Option (List ℕ) → Option (List ℕ) → ℕ → ℕ → Answer → Option Kept → Type 0
Did holds file None before now faults faults2 a kept = (a ≡ answer.Usage) × (kept ≡ None) × (now ≡ before) × (faults2 ≡ faults)
Did holds file (Some checks) before now faults faults2 a kept = (kept ≡ None) × DidCheck (holds file) before now faults faults2 a
Did holds file (Some (evaluates turns)) before now faults faults2 a kept = (kept ≡ None) × DidSeq holds file turns before now faults faults2 a
Did holds file (Some (runs ranks)) before now faults faults2 a kept = DidRun (holds file) ranks before now faults faults2 a kept

-- ---- which answer has to come

-- no fault was told between these two counts: the count did not rise, nor stand at its last value
abbrev pub NoFault : ℕ → ℕ → Type 0
NoFault before now = ¬ Rose before now

-- tables are read for `seq` alone
abbrev pub ReadsTables : Option Asked → Type 0
ReadsTables (Some (evaluates turns)) = Unit {0}
ReadsTables asked = ⊥

-- What has to be answered of a script that fits where no fault was told, unless memory was refused: `check` says that it
-- fits, and `seq` answers by the end of its meaning over the tables that its files are told to have.
abbrev pub HasToAnswer : Holding → Option Asked → Typed → Answer → Type 0
HasToAnswer holds (Some checks) typed a = IsOrNoMemory answer.Done a
HasToAnswer holds (Some (evaluates turns)) typed a = (tables : List Table) (end : End) → AreTables (DoesGive holds) typed.reads tables
    → eval (block_of typed.script.body) tables [] turns ≡ Some end → IsOrNoMemory (meant end.status) a
HasToAnswer holds asked typed a = Unit {0}
