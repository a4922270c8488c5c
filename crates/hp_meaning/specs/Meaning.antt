-- What a script means: its statements one after another over whole lists, with no ranks, messages or pieces.
use Rattle.std.specs.Prelude.{ℕ, ◌+◌, ℤ, List, [], ◌∷◌, ◌++◌, false, Result, Ok, Err, if◌then◌else◌}
use Rattle.std.specs.Str.{bytes_eq}
use Rattle.hp_word.specs.declared.fold.FoldKind.TheVariants.{Sum}
use Rattle.hp_word.specs.declared.name.Name.{Name}
use Rattle.hp_word.specs.declared.order.Orders.{Orders}
use Rattle.hp_word.specs.declared.place.Trap.{Trap}
use Rattle.hp_word.specs.declared.table.Tables.{Tables}
use Rattle.hp_word.specs.Folds.{fold_of}
use Rattle.hp_word.specs.ListRules.{filled}
use Rattle.hp_word.specs.Text.{printed}
use Rattle.hp_meaning.specs.declared.line.Line.{Line}
use Rattle.hp_meaning.specs.declared.line.Line.TheVariants.{Fill, PrintSum, AddArrays, AddNumber}
use Rattle.hp_meaning.specs.Arrays.{added_number, sum_of}
use Rattle.hp_meaning.specs.declared.seq.SeqStatus.{SeqStatus}
use Rattle.hp_meaning.specs.declared.seq.SeqStatus.TheVariants as status

-- what a variable holds
pub data Value : Type 0 where
  Ints : List ℤ → Value

-- an assignment that was executed
pub record Binding : Type 0 where
  pub name : List ℕ
  pub value : Value

abbrev pub binding : List ℕ → Value → Binding
binding name value = record { name = name; value = value }

abbrev pub ints_of : Value → List ℤ
ints_of (Ints xs) = xs

-- the array that a name stands for under these assignments, the newest first
abbrev pub array_of : List Binding → List ℕ → List ℤ
array_of [] name = []
array_of (b ∷ bs) name = if bytes_eq b.name name then ints_of b.value else array_of bs name

-- how far a script has come: the assignments, the newest first, what was written, and the ticks, which count the
-- statements and the expressions that were begun
pub record Seen : Type 0 where
  pub env : List Binding
  pub out : List ℕ
  pub ticks : ℕ

abbrev pub seen : List Binding → List ℕ → ℕ → Seen
seen env out ticks = record { env = env; out = out; ticks = ticks }

-- how a script ends: its status, what it has come to, and the orders that it was given and that fit no operation
pub record Ending : Type 0 where
  pub status : SeqStatus
  pub at : Seen
  pub bad : List ℕ

abbrev pub ending : SeqStatus → Seen → Ending
ending s at = record { status = s; at = at; bad = [] }

-- a line that assigns an array; it has begun its statement and three expressions: four ticks
abbrev pub assigned : Name → Result (List ℤ) Trap → Seen → Result Seen Trap
assigned name (Ok xs) s = Ok (seen (binding name.bytes (Ints xs) ∷ s.env) s.out (s.ticks + 4))
assigned name (Err t) s = Err t

-- a line: a new assignment, a trap, or an output, which has begun its statement and two expressions
abbrev pub line_meaning : Line → Seen → Result Seen Trap
line_meaning (Fill name at value count) s = assigned name (filled at count value) s
line_meaning (PrintSum name) s = Ok (seen s.env (s.out ++ printed false (fold_of Sum (array_of s.env name.bytes))) (s.ticks + 3))
line_meaning (AddArrays name at left right) s = assigned name (sum_of at (array_of s.env left.bytes) (array_of s.env right.bytes)) s
line_meaning (AddNumber name at left n) s = assigned name (Ok (added_number (array_of s.env left.bytes) n)) s

-- a line that traps has begun its statement and its three expressions
abbrev pub trapped : Trap → Seen → Ending
trapped t s = ending (status.Trap t.at t.kind) (seen s.env s.out (s.ticks + 4))

abbrev pub then_lines : Result Seen Trap → Seen → (Seen → Ending) → Ending
then_lines (Ok next) s rest = rest next
then_lines (Err t) s rest = trapped t s

abbrev pub lines_meaning : List Line → Seen → Ending
lines_meaning [] s = ending status.Done s
lines_meaning (l ∷ ls) s = then_lines (line_meaning l s) s (lines_meaning ls)

-- the meaning of a script's statements over these tables, under these orders, with so many loop turns
unfoldable pub eval : List Line → Tables → Orders → ℕ → Ending
eval lines tables orders fuel = lines_meaning lines (seen [] [] 0)
