-- A machine that reads tokens and builds the tree, one small step at a time. Nobody need believe it: it is the
-- bridge between the code, whose functions are described by its steps, and the grammar.
use Rattle.std.specs.Prelude.{ℕ, zero, suc, ℤ, ◌≡◌, Bool, true, false, if◌then◌else◌, List, [], ◌∷◌, ◌++◌, Option, Some, None, nat_lt}
use Rattle.hp_word.specs.declared.place.Place.{Place}
use Rattle.hp_script.specs.declared.rule.Rule.{Rule}
use Rattle.hp_script.specs.declared.rule.Rule.TheVariants.{Syntax, TooDeep}
use Rattle.hp_script.specs.declared.tree.UnOp.{UnOp}
use Rattle.hp_script.specs.declared.tree.BinOp.{BinOp}
use Rattle.hp_script.specs.declared.tree.Level.{Level}
use Rattle.hp_script.specs.declared.tree.Level.TheVariants.{Disjunction, Conjunction, Comparison, Sum, Product}
use Rattle.hp_script.specs.declared.tree.Expr.{Expr}
use Rattle.hp_script.specs.declared.tree.Arg.{Arg}
use Rattle.hp_script.specs.declared.tree.Arg.TheViews.{Plain, Range, Lambda, Named}
use Rattle.hp_script.specs.declared.tree.Stmt.{Stmt}
use Rattle.hp_script.specs.declared.tree.Stmt.TheViews as stmt_views
use Rattle.hp_script.specs.declared.tree.Stmt.TheVariants as stmt_kinds
use Rattle.hp_script.specs.declared.token.Keyword.TheVariants as keywords
use Rattle.hp_script.specs.declared.token.Sign.{Sign}
use Rattle.hp_script.specs.declared.token.Sign.TheVariants as signs
use Rattle.hp_script.specs.Lexemes.{Lexeme, Numeral, Identifier, Quoted, Word, Mark, Newline, Lexed}
use Rattle.hp_script.specs.Trees.{named, number_node, truth_node, text_node, name_node, column_node, field_node, unary_node, binary_node, index_node, call_node}
use Rattle.hp_script.specs.Grammar.{level_of, tighter, unary_of}
use Rattle.hp_script.specs.Depth.{deepest}

-- ---- what the machine has yet to do, and what it has made

-- What is wanted next. A phrase that closes something holds the depth that comes back then; one behind a token that
-- is read holds what that token gave.
pub data Phrase : Type 0 where
  Chain : Level → Phrase
  Tail : Level → Phrase
  Unary : Phrase
  Indexed : Phrase
  Primary : Phrase
  ColumnName : ℕ → Place → Phrase
  AfterName : ℕ → Place → List ℕ → Phrase
  AfterDot : ℕ → Place → List ℕ → Phrase
  Arguments : ℕ → Phrase
  MoreArguments : ℕ → Phrase
  Argument : Phrase
  AfterArgumentName : Place → List ℕ → Phrase
  AfterArgument : Phrase
  Bracket : Phrase
  Close : ℕ → Phrase
  CloseIndex : ℕ → Phrase
  AssignSign : Phrase
  Line : Phrase
  Statement : Phrase
  AfterBlock : ℕ → Place → Phrase
  End : ℕ → Phrase
  EndLine : ℕ → Phrase
  Block : Phrase
  Body : Phrase
  AfterStatement : ℕ → Phrase

-- what is made of the newest values
pub data Action : Type 0 where
  MakeUnary : ℕ → Place → UnOp → Bool → Action
  MakeBinary : ℕ → Place → BinOp → Bool → Action
  MakeIndex : ℕ → Place → Action
  MakeCall : ℕ → Place → List ℕ → Bool → Action
  MakePlain : Action
  MakeRange : Action
  MakeLambda : List ℕ → Action
  MakeNamed : List ℕ → Place → Action
  AppendArgument : Action
  MakeAssign : Place → List ℕ → Action
  MakePrint : Place → Action
  MakeExport : Place → Action
  MakeIf : Place → Action
  MakeWhile : Place → Action
  EmptyBlock : Action
  AppendStatement : Action

pub data Goal : Type 0 where
  want : Phrase → Goal
  make : Action → Goal

pub data Value : Type 0 where
  expr : Expr → Value
  arg : Arg → Value
  args : List Arg → Value
  stmt : Stmt → Value
  stmts : List Stmt → Value

-- the values after an action, the newest first
abbrev pub made : Action → List Value → List Value
made (MakeUnary k at op dotted) (expr x ∷ values) = expr (unary_node k at op dotted x) ∷ values
made (MakeBinary k at op dotted) (expr y ∷ expr x ∷ values) = expr (binary_node k at op dotted x y) ∷ values
made (MakeIndex k at) (expr y ∷ expr x ∷ values) = expr (index_node k at x y) ∷ values
made (MakeCall k at bytes dotted) (args xs ∷ values) = expr (call_node k at bytes dotted xs) ∷ values
made MakePlain (expr x ∷ values) = arg (Plain x) ∷ values
made MakeRange (expr y ∷ expr x ∷ values) = arg (Range x y) ∷ values
made (MakeLambda bytes) (expr x ∷ values) = arg (Lambda (named bytes) x) ∷ values
made (MakeNamed bytes at) (expr x ∷ values) = arg (Named (named bytes) at x) ∷ values
made AppendArgument (arg x ∷ args xs ∷ values) = args (xs ++ x ∷ []) ∷ values
made (MakeAssign at bytes) (expr x ∷ values) = stmt (stmt_kinds.Assign at (named bytes) x) ∷ values
made (MakePrint at) (expr x ∷ values) = stmt (stmt_kinds.Print at x) ∷ values
made (MakeExport at) (expr x ∷ values) = stmt (stmt_kinds.Export at x) ∷ values
made (MakeIf at) (stmts other ∷ stmts body ∷ expr test ∷ values) = stmt (stmt_views.If at test body other) ∷ values
made (MakeWhile at) (stmts body ∷ expr test ∷ values) = stmt (stmt_views.While at test body) ∷ values
made EmptyBlock values = stmts [] ∷ values
made AppendStatement (stmt x ∷ stmts xs ∷ values) = stmts (xs ++ x ∷ []) ∷ values
made _ values = values

-- ---- moves

-- What a wanted phrase does at the next token, or at the end: with the next node's number and the depth after it,
-- what is wanted then in its place, and what it gives. `Deepens` takes a token that may make the depth too great.
pub data Move : Type 0 where
  Takes : (number depth : ℕ) → List Goal → List Value → Move
  Deepens : (number depth : ℕ) → List Goal → List Value → Move
  Passes : (number : ℕ) → List Goal → List Value → Move
  Refuses : Move

-- what stands for an operand of an operator of this level
abbrev pub operand_at : Option Level → Goal
operand_at (Some level) = want (Chain level)
operand_at None = want Unary

abbrev pub operand : Level → Goal
operand level = operand_at (tighter level)

abbrev pub level_eq : Level → Level → Bool
level_eq Disjunction Disjunction = true
level_eq Conjunction Conjunction = true
level_eq Comparison Comparison = true
level_eq Sum Sum = true
level_eq Product Product = true
level_eq _ _ = false

-- what may follow an operator of the level and its right operand
abbrev pub rest_of_chain : Level → List Goal
rest_of_chain Comparison = []
rest_of_chain level = want (Tail level) ∷ []

abbrev pub tail : Level → Option Lexeme → Place → (k d : ℕ) → Move
tail level (Some (Mark (signs.Operator op dotted))) at k d =
    if level_eq (level_of op) level then Deepens (suc k) (suc d) (operand level ∷ make (MakeBinary k at op dotted) ∷ rest_of_chain level) [] else Passes k [] []
tail level what at k d = Passes k [] []

abbrev pub operand_or : Option (UnOp × Bool) → Place → (k d : ℕ) → Move
operand_or (Some x) at k d = Deepens (suc k) (suc d) (want Unary ∷ make (MakeUnary k at x.0 x.1) ∷ []) []
operand_or None at k d = Passes k (want Primary ∷ want Indexed ∷ []) []

abbrev pub unary : Option Lexeme → Place → (k d : ℕ) → Move
unary (Some (Mark sign)) at k d = operand_or (unary_of sign) at k d
unary what at k d = Passes k (want Primary ∷ want Indexed ∷ []) []

abbrev pub indexed : Option Lexeme → Place → (k d : ℕ) → Move
indexed (Some (Mark signs.OpenIndex)) at k d =
    Deepens (suc k) (suc (suc d)) (want (Chain Disjunction) ∷ want (CloseIndex (suc d)) ∷ make (MakeIndex k at) ∷ want Indexed ∷ []) []
indexed what at k d = Passes k [] []

abbrev pub primary : Option Lexeme → Place → (k d : ℕ) → Move
primary (Some (Numeral value)) at k d = Takes (suc k) d [] (expr (number_node k at value) ∷ [])
primary (Some (Quoted bytes)) at k d = Takes (suc k) d [] (expr (text_node k at bytes) ∷ [])
primary (Some (Word keywords.True)) at k d = Takes (suc k) d [] (expr (truth_node k at true) ∷ [])
primary (Some (Word keywords.False)) at k d = Takes (suc k) d [] (expr (truth_node k at false) ∷ [])
primary (Some (Mark signs.Colon)) at k d = Takes (suc k) d (want (ColumnName k at) ∷ []) []
primary (Some (Mark signs.Open)) at k d = Deepens k (suc d) (want (Chain Disjunction) ∷ want (Close d) ∷ []) []
primary (Some (Identifier bytes)) at k d = Takes (suc k) d (want (AfterName k at bytes) ∷ []) []
primary what at k d = Refuses

abbrev pub column_name : ℕ → Place → Option Lexeme → (k d : ℕ) → Move
column_name id at (Some (Identifier bytes)) k d = Takes k d [] (expr (column_node id at bytes) ∷ [])
column_name id at what k d = Refuses

-- behind the bracket that opens the arguments of a call
abbrev pub calls : ℕ → Place → List ℕ → Bool → (k d : ℕ) → Move
calls id at bytes dotted k d = Deepens k (suc d) (want (Arguments d) ∷ make (MakeCall id at bytes dotted) ∷ []) (args [] ∷ [])

abbrev pub after_name : ℕ → Place → List ℕ → Option Lexeme → (k d : ℕ) → Move
after_name id at bytes (Some (Mark signs.Dot)) k d = Takes k d (want (AfterDot id at bytes) ∷ []) []
after_name id at bytes (Some (Mark signs.Open)) k d = calls id at bytes false k d
after_name id at bytes what k d = Passes k [] (expr (name_node id at bytes) ∷ [])

abbrev pub after_dot : ℕ → Place → List ℕ → Option Lexeme → (k d : ℕ) → Move
after_dot id at bytes (Some (Identifier column)) k d = Takes k d [] (expr (field_node id at bytes column) ∷ [])
after_dot id at bytes (Some (Mark signs.Open)) k d = calls id at bytes true k d
after_dot id at bytes what k d = Refuses

abbrev pub next_argument : ℕ → List Goal
next_argument before = want Argument ∷ make AppendArgument ∷ want (MoreArguments before) ∷ []

abbrev pub arguments : ℕ → Option Lexeme → (k d : ℕ) → Move
arguments before (Some (Mark signs.Close)) k d = Takes k before [] []
arguments before what k d = Passes k (next_argument before) []

abbrev pub more_arguments : ℕ → Option Lexeme → (k d : ℕ) → Move
more_arguments before (Some (Mark signs.Comma)) k d = Takes k (suc before) (next_argument before) []
more_arguments before (Some (Mark signs.Close)) k d = Takes k before [] []
more_arguments before what k d = Refuses

abbrev pub argument : Option Lexeme → Place → (k d : ℕ) → Move
argument (Some (Identifier bytes)) at k d = Takes k d (want (AfterArgumentName at bytes) ∷ []) []
argument what at k d = Passes k (want (Chain Disjunction) ∷ want AfterArgument ∷ []) []

-- the name begins an expression
abbrev pub goes_on_from_name : ℕ → Place → List ℕ → List Goal
goes_on_from_name id at bytes =
    want (AfterName id at bytes) ∷ want Indexed ∷ want (Tail Product) ∷ want (Tail Sum) ∷ want (Tail Comparison) ∷ want (Tail Conjunction)
    ∷ want (Tail Disjunction) ∷ want AfterArgument ∷ []

abbrev pub after_argument_name : Place → List ℕ → Option Lexeme → (k d : ℕ) → Move
after_argument_name at bytes (Some (Mark signs.Arrow)) k d = Takes k d (want (Chain Disjunction) ∷ make (MakeLambda bytes) ∷ []) []
after_argument_name at bytes (Some (Mark signs.Assign)) k d = Takes k d (want (Chain Disjunction) ∷ make (MakeNamed bytes at) ∷ []) []
after_argument_name at bytes what k d = Passes (suc k) (goes_on_from_name k at bytes) []

abbrev pub after_argument : Option Lexeme → (k d : ℕ) → Move
after_argument (Some (Mark signs.Colon)) k d = Takes k d (want (Chain Disjunction) ∷ make MakeRange ∷ []) []
after_argument what k d = Passes k (make MakePlain ∷ []) []

abbrev pub bracket : Option Lexeme → (k d : ℕ) → Move
bracket (Some (Mark signs.Open)) k d = Deepens k (suc d) (want (Chain Disjunction) ∷ want (Close d) ∷ []) []
bracket what k d = Refuses

abbrev pub close : ℕ → Option Lexeme → (k d : ℕ) → Move
close before (Some (Mark signs.Close)) k d = Takes k before [] []
close before what k d = Refuses

abbrev pub close_index : ℕ → Option Lexeme → (k d : ℕ) → Move
close_index before (Some (Mark signs.CloseIndex)) k d = Takes k before [] []
close_index before what k d = Refuses

abbrev pub assign_sign : Option Lexeme → (k d : ℕ) → Move
assign_sign (Some (Mark signs.Assign)) k d = Takes k d [] []
assign_sign what k d = Refuses

abbrev pub line : Option Lexeme → (k d : ℕ) → Move
line (Some Newline) k d = Takes k d [] []
line what k d = Refuses

abbrev pub end_line : ℕ → Option Lexeme → (k d : ℕ) → Move
end_line before (Some Newline) k d = Takes k before [] []
end_line before what k d = Refuses

abbrev pub statement : Option Lexeme → Place → (k d : ℕ) → Move
statement (Some (Identifier bytes)) at k d = Takes k d (want AssignSign ∷ want (Chain Disjunction) ∷ make (MakeAssign at bytes) ∷ []) []
statement (Some (Word keywords.Println)) at k d = Takes k d (want Bracket ∷ make (MakePrint at) ∷ []) []
statement (Some (Word keywords.WriteCsv)) at k d = Takes k d (want Bracket ∷ make (MakeExport at) ∷ []) []
statement (Some (Word keywords.If)) at k d =
    Deepens k (suc d) (want (Chain Disjunction) ∷ want Line ∷ make EmptyBlock ∷ want Block ∷ want (AfterBlock d at) ∷ []) []
statement (Some (Word keywords.While)) at k d =
    Deepens k (suc d) (want (Chain Disjunction) ∷ want Line ∷ make EmptyBlock ∷ want Block ∷ want (End d) ∷ make (MakeWhile at) ∷ []) []
statement what at k d = Refuses

abbrev pub after_block : ℕ → Place → Option Lexeme → (k d : ℕ) → Move
after_block before at (Some (Word keywords.Else)) k d =
    Takes k d (want Line ∷ make EmptyBlock ∷ want Block ∷ want (End before) ∷ make (MakeIf at) ∷ []) []
after_block before at (Some (Word keywords.End)) k d = Takes k before (make EmptyBlock ∷ make (MakeIf at) ∷ []) []
after_block before at what k d = Refuses

abbrev pub end_word : ℕ → Option Lexeme → (k d : ℕ) → Move
end_word before (Some (Word keywords.End)) k d = Takes k before [] []
end_word before what k d = Refuses

-- a statement of a block, and what follows it
abbrev pub next_statement : (k d : ℕ) → Move
next_statement k d = Passes k (want Statement ∷ want (EndLine d) ∷ make AppendStatement ∷ want Block ∷ []) []

abbrev pub block : Option Lexeme → (k d : ℕ) → Move
block (Some Newline) k d = Takes k d (want Block ∷ []) []
block (Some (Identifier bytes)) k d = next_statement k d
block (Some (Word keywords.Println)) k d = next_statement k d
block (Some (Word keywords.WriteCsv)) k d = next_statement k d
block (Some (Word keywords.If)) k d = next_statement k d
block (Some (Word keywords.While)) k d = next_statement k d
block what k d = Passes k [] []

abbrev pub body : Option Lexeme → (k d : ℕ) → Move
body None k d = Passes k [] []
body (Some Newline) k d = Takes k d (want Body ∷ []) []
body what k d = Passes k (want Statement ∷ want (AfterStatement d) ∷ []) []

abbrev pub after_statement : ℕ → Option Lexeme → (k d : ℕ) → Move
after_statement before None k d = Passes k (make AppendStatement ∷ []) []
after_statement before (Some Newline) k d = Takes k before (make AppendStatement ∷ want Body ∷ []) []
after_statement before what k d = Refuses

-- what a wanted phrase does at the next token, which stands at `at`, or at the end
unfoldable pub enter : Phrase → Option Lexeme → (at : Place) → (k d : ℕ) → Move
enter (Chain level) what at k d = Passes k (operand level ∷ want (Tail level) ∷ []) []
enter (Tail level) what at k d = tail level what at k d
enter Unary what at k d = unary what at k d
enter Indexed what at k d = indexed what at k d
enter Primary what at k d = primary what at k d
enter (ColumnName id start) what at k d = column_name id start what k d
enter (AfterName id start bytes) what at k d = after_name id start bytes what k d
enter (AfterDot id start bytes) what at k d = after_dot id start bytes what k d
enter (Arguments before) what at k d = arguments before what k d
enter (MoreArguments before) what at k d = more_arguments before what k d
enter Argument what at k d = argument what at k d
enter (AfterArgumentName start bytes) what at k d = after_argument_name start bytes what k d
enter AfterArgument what at k d = after_argument what k d
enter Bracket what at k d = bracket what k d
enter (Close before) what at k d = close before what k d
enter (CloseIndex before) what at k d = close_index before what k d
enter AssignSign what at k d = assign_sign what k d
enter Line what at k d = line what k d
enter Statement what at k d = statement what at k d
enter (AfterBlock before start) what at k d = after_block before start what k d
enter (End before) what at k d = end_word before what k d
enter (EndLine before) what at k d = end_line before what k d
enter Block what at k d = block what k d
enter Body what at k d = body what k d
enter (AfterStatement before) what at k d = after_statement before what k d

-- ---- runs

-- Where the machine is: at some tokens, with the number of the next node, the depth, what it has yet to do, and the
-- values that it made; or it has refused, or read a script.
pub data Config : Type 0 where
  At : List Lexed → (number depth : ℕ) → List Goal → List Value → Config
  Refused : Place → Rule → Config
  Accepted : List Stmt → ℕ → Config

abbrev pub finished : List Value → ℕ → Config
finished (stmts body ∷ []) k = Accepted body k
finished values k = At [] k 0 [] values

-- the machine after a move at a token
abbrev pub moved : (is_deep : ℕ → Bool) → Lexed → List Lexed → Move → (d : ℕ) → List Goal → List Value → Config
moved is_deep token rest (Takes k d goals made) depth stack values = At rest k d (goals ++ stack) (made ++ values)
moved is_deep token rest (Deepens k d goals made) depth stack values = if is_deep d then Refused token.at TooDeep else At rest k d (goals ++ stack) (made ++ values)
moved is_deep token rest (Passes k goals made) depth stack values = At (token ∷ rest) k depth (goals ++ stack) (made ++ values)
moved is_deep token rest Refuses depth stack values = Refused token.at Syntax

-- the machine after a move at the end of the script
abbrev pub moved_at_end : (end : Place) → Move → (d : ℕ) → List Goal → List Value → Config
moved_at_end end (Passes k goals made) depth stack values = At [] k depth (goals ++ stack) (made ++ values)
moved_at_end end _ depth stack values = Refused end Syntax

-- one step; the script ends at `end`
unfoldable pub step : (is_deep : ℕ → Bool) (end : Place) → Config → Config
step is_deep end (At tokens k d [] values) = finished values k
step is_deep end (At tokens k d (make action ∷ stack) values) = At tokens k d stack (made action values)
step is_deep end (At [] k d (want phrase ∷ stack) values) = moved_at_end end (enter phrase None end k d) d stack values
step is_deep end (At (token ∷ rest) k d (want phrase ∷ stack) values) = moved is_deep token rest (enter phrase (Some token.what) token.at k d) d stack values
step is_deep end config = config

-- so many steps
unfoldable pub run : (is_deep : ℕ → Bool) (end : Place) → ℕ → Config → Config
run is_deep end zero config = config
run is_deep end (suc n) config = run is_deep end n (step is_deep end config)

-- some number of steps leads from one configuration to another
pub record Leads (is_deep : ℕ → Bool) (end : Place) (old new : Config) : Type 0 where
  pub steps : ℕ
  pub run_is : run is_deep end steps old ≡ new

-- the limit on the depth, and none
abbrev pub too_deep : ℕ → Bool
too_deep depth = nat_lt deepest depth

abbrev pub never : ℕ → Bool
never depth = false

-- before the first token
abbrev pub start : List Lexed → Config
start tokens = At tokens 0 0 (want Body ∷ []) (stmts [] ∷ [])
