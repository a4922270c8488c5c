-- The answers of the program, their statuses, and their lines on standard error.
use Rattle.std.specs.Prelude.{◌≡◌, ◌⊎◌, ℕ, Bool, true, false, List, [], ◌++◌, codes}
use Rattle.std.specs.Fmt.{decimal}
use Rattle.hp_word.specs.declared.place.Place.{Place}
use Rattle.hp_word.specs.declared.place.TrapKind.{TrapKind}
use Rattle.hp_word.specs.declared.place.TrapKind.TheVariants as trap
use Rattle.hp_script.specs.Rules.{rule_name}
use Rattle.hp_tables.specs.Texts.{bad_text}
use Rattle.hp_command.specs.declared.answer.Answer.{Answer}
use Rattle.hp_command.specs.declared.answer.Answer.TheVariants as answer
use Rattle.hp_command.specs.declared.answer.Line.{Line}
use Rattle.hp_command.specs.declared.answer.Line.TheVariants as line

abbrev pub status_of : Answer → ℕ
status_of answer.Done = 0
status_of answer.Usage = 1
status_of (answer.Refused at rule) = 2
status_of (answer.FileFault name) = 3
status_of (answer.BadTable name bad) = 4
status_of (answer.Trapped at kind) = 5
status_of answer.TurnsSpent = 6
status_of answer.SinkFault = 7
status_of answer.NoMemory = 8

abbrev pub kind_name : TrapKind → List ℕ
kind_name trap.Divide = codes "Divide"
kind_name trap.Index = codes "Index"
kind_name trap.Mismatch = codes "Mismatch"
kind_name trap.BadLength = codes "BadLength"
kind_name trap.Empty = codes "Empty"
kind_name trap.TooLong = codes "TooLong"

-- a place as it is printed, and what stands behind it
abbrev pub placed : Place → List ℕ → List ℕ
placed at text = decimal at.line ++ (codes ":" ++ (decimal at.col ++ text))

abbrev pub usage_line : List ℕ
usage_line = codes "usage: hpat check FILE, dist FILE, code FILE, seq FILE [--turns T], run FILE --ranks N [--order K] [--turns T] [--report], gen K --ranks N\n"

-- the line of a trap
abbrev pub trap_line : Place → TrapKind → List ℕ
trap_line at kind = placed at (codes ": trap " ++ (kind_name kind ++ codes "\n"))

-- the line on standard error
abbrev pub status_line : Answer → List ℕ
status_line answer.Done = []
status_line answer.Usage = usage_line
status_line (answer.Refused at rule) = placed at (codes ": " ++ (rule_name rule ++ codes "\n"))
status_line (answer.FileFault name) = name.bytes ++ codes ": cannot be read\n"
status_line (answer.BadTable name bad) = name.bytes ++ (codes ": " ++ (bad_text bad ++ codes "\n"))
status_line (answer.Trapped at kind) = trap_line at kind
status_line answer.TurnsSpent = codes "turns spent\n"
status_line answer.SinkFault = []
status_line answer.NoMemory = codes "out of memory\n"

-- the bytes of a line
abbrev pub line_text : Line → List ℕ
line_text (line.Fixed bytes) = bytes.now
line_text (line.Trap at kind) = trap_line at kind
line_text (line.Made bytes) = bytes.items

-- an answer whose line has to be made, which takes memory
abbrev pub takes_memory : Answer → Bool
takes_memory (answer.Refused at rule) = true
takes_memory (answer.FileFault name) = true
takes_memory (answer.BadTable name bad) = true
takes_memory a = false

-- the same answer; or want of memory, where its line had to be made
abbrev pub SameOrNoMemory : Answer → Answer → Type 0
SameOrNoMemory a told = (told ≡ a) ⊎ ((told ≡ answer.NoMemory) × (takes_memory a ≡ true))
