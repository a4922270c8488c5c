-- The statements that are built, and which statements of a script are such.
use Rattle.std.specs.Prelude.{ℕ, ◌≡◌, ℤ, Bool, true, false, ◌&&◌, if◌then◌else◌, List, [], ◌∷◌, ◌++◌, codes, bytes_eq, Contains, flat_map, Option, Some, None, IfSome, Result, Ok, Err}
use Rattle.std.specs.Option.{option_map, option_or}
use Rattle.std.specs.List.{AllByRecursion, list_any}
use Rattle.hp_word.specs.declared.place.Place.{Place}
use Rattle.hp_script.specs.declared.tree.BinOp.{BinOp}
use Rattle.hp_script.specs.declared.tree.BinOp.TheVariants.{Add}
use Rattle.hp_script.specs.declared.tree.Stmt.{Stmt}
use Rattle.hp_script.specs.declared.tree.Stmt.TheVariants as stmts
use Rattle.hp_script.specs.Trees.{named}
use Rattle.hp_script.specs.Mirror.{Tree, Args, Block, tree_of, number, variable, call, binary, done, assign, print, export, choose, loop}
use Rattle.hp_meaning.specs.ArgumentShapes.{one_plain, two_plain}
use Rattle.hp_meaning.specs.declared.line.Line.{Line}
use Rattle.hp_meaning.specs.declared.line.Lines.{Lines}
use Rattle.hp_meaning.specs.declared.forms.FormError.{FormError}
use Rattle.hp_meaning.specs.declared.forms.FormError.TheVariants as errors
use Rattle.hp_meaning.specs.declared.line.Line.TheVariants.{Fill, PrintSum, AddArrays, AddNumber}

infixl 10 ◌>>=◌
abbrev pub ◌>>=◌ : {A B : Type 0} → Option A → (A → Option B) → Option B
None >>= f = None
(Some x) >>= f = f x

-- ---- forms of expressions

unfoldable pub number_of : Tree → Option ℤ
number_of (number h value) = Some value
number_of tree = None

unfoldable pub variable_of : Tree → Option (List ℕ)
variable_of (variable h name) = Some name
variable_of tree = None

-- a call without a dot: its place, its function and its arguments
unfoldable pub plain_call : Tree → Option (Place × List ℕ × Args)
plain_call (call h function false args) = Some (h.at, function, args)
plain_call tree = None

abbrev pub is_add : BinOp → Bool
is_add Add = true
is_add op = false

-- a sum of elements: the place of its sign, and its operands
unfoldable pub dotted_sum : Tree → Option (Place × Tree × Tree)
dotted_sum (binary h op dotted left right) = if dotted && is_add op then Some (h.at, left, right) else None
dotted_sum tree = None

-- ---- forms of statements

-- a call of this function: its place and its arguments
abbrev pub call_named : List ℕ → Option (Place × List ℕ × Args) → Option (Place × Args)
call_named name None = None
call_named name (Some x) = if bytes_eq x.1 name then Some (x.0, x.2) else None

-- `fill(NUMBER, NUMBER)`: the place of the call, and the numbers
unfoldable pub fill_call : Tree → Option (Place × ℤ × ℤ)
fill_call tree = do
  asked ← call_named (codes "fill") (plain_call tree)
  both ← two_plain asked.1
  value ← number_of both.0
  count ← number_of both.1
  Some (asked.0, value, count)

-- `sum(NAME)`
unfoldable pub sum_call : Tree → Option (List ℕ)
sum_call tree = do
  asked ← call_named (codes "sum") (plain_call tree)
  x ← one_plain asked.1
  variable_of x

-- `NAME .+ X`: the place of the sign, the name, and what is added
unfoldable pub added_name : Tree → Option (Place × List ℕ × Tree)
added_name tree = do
  both ← dotted_sum tree
  left ← variable_of both.1
  Some (both.0, left, both.2)

-- `NAME = NAME .+ NAME` and `NAME = NAME .+ NUMBER`
unfoldable pub added_form : List ℕ → (Place × List ℕ × Tree) → Option Line
added_form name x =
    option_or (option_map (λ right. AddArrays (named name) x.0 (named x.1) (named right)) (variable_of x.2))
    (option_map (λ n. AddNumber (named name) x.0 (named x.1) n) (number_of x.2))

-- a statement that assigns: `NAME = fill(NUMBER, NUMBER)` or one of the sums
unfoldable pub assigned_form : List ℕ → Tree → Option Line
assigned_form name tree = option_or (option_map (λ x. Fill (named name) x.0 x.1 x.2) (fill_call tree)) (added_name tree >>= added_form name)

-- `println(sum(NAME))`, by what is printed
unfoldable pub printed_form : Tree → Option Line
printed_form tree = option_map (λ name. PrintSum (named name)) (sum_call tree)

-- ---- statements that read only what is assigned

-- the names that a line assigns
abbrev pub assigned_by : Line → List (List ℕ)
assigned_by (Fill name at value count) = name.bytes ∷ []
assigned_by (PrintSum name) = []
assigned_by (AddArrays name at left right) = name.bytes ∷ []
assigned_by (AddNumber name at left value) = name.bytes ∷ []

-- the names that a line reads
abbrev pub read_by : Line → List (List ℕ)
read_by (Fill name at value count) = []
read_by (PrintSum name) = name.bytes ∷ []
read_by (AddArrays name at left right) = left.bytes ∷ right.bytes ∷ []
read_by (AddNumber name at left value) = left.bytes ∷ []

-- the line reads no name but these
abbrev pub ReadsOnly : List (List ℕ) → Line → Type 0
ReadsOnly names line = AllByRecursion (λ name. Contains names name) (read_by line)

-- Each line reads only names that are among `names` or that a line before it assigns.
abbrev pub ReadsAssigned : List (List ℕ) → List Line → Type 0
ReadsAssigned names [] = Unit {0}
ReadsAssigned names (line ∷ lines) = ReadsOnly names line × ReadsAssigned (names ++ assigned_by line) lines

-- the names that lines assign
abbrev pub assigned : List Line → List (List ℕ)
assigned lines = flat_map assigned_by lines

-- whether a line assigns the name
abbrev pub assigns : List ℕ → Line → Bool
assigns name (Fill other at value count) = bytes_eq name other.bytes
assigns name (PrintSum other) = false
assigns name (AddArrays other at left right) = bytes_eq name other.bytes
assigns name (AddNumber other at left value) = bytes_eq name other.bytes

-- whether one of the lines assigns the name
unfoldable pub is_assigned : List Line → List ℕ → Bool
is_assigned lines name = list_any (assigns name) lines

-- whether these lines assign what another reads
abbrev pub reads_assigned : List Line → Line → Bool
reads_assigned before (Fill name at value count) = true
reads_assigned before (PrintSum name) = is_assigned before name.bytes
reads_assigned before (AddArrays name at left right) = is_assigned before left.bytes && is_assigned before right.bytes
reads_assigned before (AddNumber name at left value) = is_assigned before left.bytes

-- ---- the statements of a script

abbrev pub with_line : Line → Result (List Line) Place → Result (List Line) Place
with_line line (Ok lines) = Ok (line ∷ lines)
with_line line (Err at) = Err at

-- a statement of a form that reads only what is assigned before it, and those behind it; or else its place
abbrev pub built_next : List Line → Place → Option Line → (List Line → Result (List Line) Place) → Result (List Line) Place
built_next before at None rest = Err at
built_next before at (Some line) rest = if reads_assigned before line then with_line line (rest (before ++ line ∷ [])) else Err at

-- The statements behind some others by what they ask for; or else the place of the first that is of no form that is
-- built, or that reads a name which nothing before it assigns.
unfoldable pub built : List Line → Block → Result (List Line) Place
built before done = Ok []
built before (assign at name x rest) = built_next before at (assigned_form name x) (λ lines. built lines rest)
built before (print at x rest) = built_next before at (printed_form x) (λ lines. built lines rest)
built before (export at x rest) = Err at
built before (choose at test body other rest) = Err at
built before (loop at test body rest) = Err at

-- ---- a statement of the code's tree

abbrev pub place_of : Stmt → Place
place_of (stmts.Assign at name x) = at
place_of (stmts.Print at x) = at
place_of (stmts.Export at x) = at
place_of (stmts.If' at test p body q other) = at
place_of (stmts.While' at test p body) = at

unfoldable pub form_of_stmt : Stmt → Option Line
form_of_stmt (stmts.Assign at name x) = assigned_form name.bytes (tree_of x)
form_of_stmt (stmts.Print at x) = printed_form (tree_of x)
form_of_stmt (stmts.Export at x) = None
form_of_stmt (stmts.If' at test p body q other) = None
form_of_stmt (stmts.While' at test p body) = None

-- lines, and what stands behind them
abbrev pub behind_lines : List Line → Result (List Line) Place → Result (List Line) Place
behind_lines front (Ok lines) = Ok (front ++ lines)
behind_lines front (Err at) = Err at

-- The answer says what the statements are, or where the first stands that is not built, unless memory was refused.
abbrev pub TellsLines : Result (List Line) Place → Result Lines FormError → Type 0
TellsLines read (Ok lines) = read ≡ Ok lines.list
TellsLines read (Err (errors.NotBuilt at)) = read ≡ Err at
TellsLines read (Err errors.NoMemory) = Unit {0}

-- The answer of a step is this line, or none, unless memory was refused.
abbrev pub FindsLine : Option Line → Result (Option Line) FormError → Type 0
FindsLine found (Ok line) = found ≡ line
FindsLine found (Err (errors.NotBuilt at)) = ⊥
FindsLine found (Err errors.NoMemory) = Unit {0}

-- The answer is the line that the statement is behind others, or its place where it is none, unless memory was refused.
abbrev pub FindsNext : List Line → Stmt → Result Line FormError → Type 0
FindsNext before stmt (Ok line) = (form_of_stmt stmt ≡ Some line) × (reads_assigned before line ≡ true)
FindsNext before stmt (Err (errors.NotBuilt at)) = (at ≡ place_of stmt) × IfSome (form_of_stmt stmt) (λ line. reads_assigned before line ≡ false)
FindsNext before stmt (Err errors.NoMemory) = Unit {0}
