-- What the machine would have to read yet: each phrase that it wants by its shortest text. And which values belong to
-- what it has yet to do.
use Rattle.std.proofs.Common.{◌≡◌, List, [], ◌∷◌, ◌++◌, Option, Some, None}
use Rattle.hp_word.specs.declared.place.Place.{Place}
use Rattle.hp_script.specs.declared.token.Keyword.TheVariants as keywords
use Rattle.hp_script.specs.declared.token.Sign.TheVariants as signs
use Rattle.hp_script.specs.Lexemes.{Lexeme, Identifier, Word, Mark, Newline, Lexed}
use Rattle.hp_parse.specs.Machine.{Phrase, Action, Goal, Value, want, make, expr, arg, args, stmt, stmts, Chain, Tail, Unary, Indexed, Primary, ColumnName, AfterName, AfterDot, Arguments, MoreArguments, Argument, AfterArgumentName, AfterArgument, Bracket, Close, CloseIndex, AssignSign, Line, Statement, AfterBlock, End, EndLine, Block, Body, AfterStatement, MakeUnary, MakeBinary, MakeIndex, MakeCall, MakePlain, MakeRange, MakeLambda, MakeNamed, AppendArgument, MakeAssign, MakePrint, MakeExport, MakeIf, MakeWhile, EmptyBlock, AppendStatement}

-- ---- the shortest text

-- the place of tokens that stand in no script
abbrev pub nowhere : Place
nowhere = record { line = 0; col = 0 }

abbrev pub made_up : Lexeme → Lexed
made_up what = record { what = what; at = nowhere }

-- the shortest expression
abbrev pub shortest : Lexed
shortest = made_up (Word keywords.True)

-- a shortest text of a phrase
abbrev pub short : Phrase → List Lexed
short (Chain level) = shortest ∷ []
short Unary = shortest ∷ []
short Primary = shortest ∷ []
short (ColumnName id at) = made_up (Identifier []) ∷ []
short (AfterDot id at bytes) = made_up (Identifier []) ∷ []
short (Arguments before) = made_up (Mark signs.Close) ∷ []
short (MoreArguments before) = made_up (Mark signs.Close) ∷ []
short Argument = shortest ∷ []
short Bracket = made_up (Mark signs.Open) ∷ shortest ∷ made_up (Mark signs.Close) ∷ []
short (Close before) = made_up (Mark signs.Close) ∷ []
short (CloseIndex before) = made_up (Mark signs.CloseIndex) ∷ []
short AssignSign = made_up (Mark signs.Assign) ∷ []
short Line = made_up Newline ∷ []
short Statement = made_up (Identifier []) ∷ made_up (Mark signs.Assign) ∷ shortest ∷ []
short (AfterBlock before at) = made_up (Word keywords.End) ∷ []
short (End before) = made_up (Word keywords.End) ∷ []
short (EndLine before) = made_up Newline ∷ []
short _ = []

-- the shortest texts of all that is wanted
abbrev pub completed : List Goal → List Lexed
completed [] = []
completed (make action ∷ stack) = completed stack
completed (want phrase ∷ stack) = short phrase ++ completed stack

abbrev pub first : List Lexed → Option Lexeme
first [] = None
first (token ∷ tokens) = Some token.what

-- no expression and no argument goes on with this
abbrev pub Stops : Option Lexeme → Type 0
Stops None = Unit {0}
Stops (Some (Mark signs.Close)) = Unit {0}
Stops (Some (Mark signs.CloseIndex)) = Unit {0}
Stops (Some Newline) = Unit {0}
Stops _ = ⊥

-- no block goes on with this
abbrev pub Closes : Option Lexeme → Type 0
Closes (Some (Word keywords.End)) = Unit {0}
Closes _ = ⊥

-- ---- the sorts of values

pub data Sort : Type 0 where
  AnExpr : Sort
  AnArg : Sort
  SomeArgs : Sort
  AStmt : Sort
  SomeStmts : Sort

abbrev pub sort_of : Value → Sort
sort_of (expr x) = AnExpr
sort_of (arg x) = AnArg
sort_of (args xs) = SomeArgs
sort_of (stmt x) = AStmt
sort_of (stmts xs) = SomeStmts

abbrev pub sorts : List Value → List Sort
sorts [] = []
sorts (value ∷ values) = sort_of value ∷ sorts values

-- the sorts of the values after an action
abbrev pub after_action : Action → List Sort → Option (List Sort)
after_action (MakeUnary k at op dotted) (AnExpr ∷ ks) = Some (AnExpr ∷ ks)
after_action (MakeBinary k at op dotted) (AnExpr ∷ AnExpr ∷ ks) = Some (AnExpr ∷ ks)
after_action (MakeIndex k at) (AnExpr ∷ AnExpr ∷ ks) = Some (AnExpr ∷ ks)
after_action (MakeCall k at bytes dotted) (SomeArgs ∷ ks) = Some (AnExpr ∷ ks)
after_action MakePlain (AnExpr ∷ ks) = Some (AnArg ∷ ks)
after_action MakeRange (AnExpr ∷ AnExpr ∷ ks) = Some (AnArg ∷ ks)
after_action (MakeLambda bytes) (AnExpr ∷ ks) = Some (AnArg ∷ ks)
after_action (MakeNamed bytes at) (AnExpr ∷ ks) = Some (AnArg ∷ ks)
after_action AppendArgument (AnArg ∷ SomeArgs ∷ ks) = Some (SomeArgs ∷ ks)
after_action (MakeAssign at bytes) (AnExpr ∷ ks) = Some (AStmt ∷ ks)
after_action (MakePrint at) (AnExpr ∷ ks) = Some (AStmt ∷ ks)
after_action (MakeExport at) (AnExpr ∷ ks) = Some (AStmt ∷ ks)
after_action (MakeIf at) (SomeStmts ∷ SomeStmts ∷ AnExpr ∷ ks) = Some (AStmt ∷ ks)
after_action (MakeWhile at) (SomeStmts ∷ AnExpr ∷ ks) = Some (AStmt ∷ ks)
after_action EmptyBlock ks = Some (SomeStmts ∷ ks)
after_action AppendStatement (AStmt ∷ SomeStmts ∷ ks) = Some (SomeStmts ∷ ks)
after_action _ _ = None

-- the sorts of the values after a phrase
abbrev pub after_phrase : Phrase → List Sort → Option (List Sort)
after_phrase (Chain level) ks = Some (AnExpr ∷ ks)
after_phrase (Tail level) (AnExpr ∷ ks) = Some (AnExpr ∷ ks)
after_phrase Unary ks = Some (AnExpr ∷ ks)
after_phrase Indexed (AnExpr ∷ ks) = Some (AnExpr ∷ ks)
after_phrase Primary ks = Some (AnExpr ∷ ks)
after_phrase (ColumnName id at) ks = Some (AnExpr ∷ ks)
after_phrase (AfterName id at bytes) ks = Some (AnExpr ∷ ks)
after_phrase (AfterDot id at bytes) ks = Some (AnExpr ∷ ks)
after_phrase (Arguments before) (SomeArgs ∷ ks) = Some (SomeArgs ∷ ks)
after_phrase (MoreArguments before) (SomeArgs ∷ ks) = Some (SomeArgs ∷ ks)
after_phrase Argument ks = Some (AnArg ∷ ks)
after_phrase (AfterArgumentName at bytes) ks = Some (AnArg ∷ ks)
after_phrase AfterArgument (AnExpr ∷ ks) = Some (AnArg ∷ ks)
after_phrase Bracket ks = Some (AnExpr ∷ ks)
after_phrase (Close before) ks = Some ks
after_phrase (CloseIndex before) ks = Some ks
after_phrase AssignSign ks = Some ks
after_phrase Line ks = Some ks
after_phrase Statement ks = Some (AStmt ∷ ks)
after_phrase (AfterBlock before at) (SomeStmts ∷ AnExpr ∷ ks) = Some (AStmt ∷ ks)
after_phrase (End before) ks = Some ks
after_phrase (EndLine before) ks = Some ks
after_phrase Block (SomeStmts ∷ ks) = Some (SomeStmts ∷ ks)
after_phrase Body (SomeStmts ∷ ks) = Some (SomeStmts ∷ ks)
after_phrase (AfterStatement before) (AStmt ∷ SomeStmts ∷ ks) = Some (SomeStmts ∷ ks)
after_phrase _ _ = None

-- ---- what belongs together

-- something is wanted yet
abbrev pub Wants : List Goal → Type 0
Wants [] = ⊥
Wants (make action ∷ stack) = Wants stack
Wants (want phrase ∷ stack) = Unit {0}

-- an expression or an argument ends before what is wanted behind it
abbrev pub Ends : List Goal → Type 0
Ends stack = Stops (first (completed stack)) × Wants stack

-- what has to stand behind a phrase
abbrev pub Needs : Phrase → List Goal → Type 0
Needs (Chain level) stack = Ends stack
Needs (Tail level) stack = Ends stack
Needs Unary stack = Ends stack
Needs Indexed stack = Ends stack
Needs Primary stack = Ends stack
Needs (ColumnName id at) stack = Ends stack
Needs (AfterName id at bytes) stack = Ends stack
Needs (AfterDot id at bytes) stack = Ends stack
Needs Argument stack = Ends stack
Needs (AfterArgumentName at bytes) stack = Ends stack
Needs AfterArgument stack = Ends stack
Needs Statement stack = Ends stack
Needs Block stack = Closes (first (completed stack)) × Wants stack
Needs Body stack = stack ≡ []
Needs (AfterStatement before) stack = stack ≡ []
Needs _ stack = Wants stack

abbrev pub WithSome : (List Sort → Type 0) → Option (List Sort) → Type 0
WithSome P None = ⊥
WithSome P (Some ks) = P ks

-- Values of these sorts belong to what the machine has yet to do.
abbrev pub Fits : List Goal → List Sort → Type 0
Fits [] ks = ks ≡ SomeStmts ∷ []
Fits (make action ∷ stack) ks = WithSome (Fits stack) (after_action action ks)
Fits (want phrase ∷ stack) ks = Needs phrase stack × WithSome (Fits stack) (after_phrase phrase ks)
