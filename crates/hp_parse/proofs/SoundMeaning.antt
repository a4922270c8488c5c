-- What the machine's goals say of the tokens that it has yet to read: the grammar's phrases, one after the other, and
-- the script that comes of them. Nobody need believe it: it is what is carried through a run, from its end to its
-- beginning, to show that the machine reads only what the grammar spells.
use Rattle.std.proofs.Common.{◌≡◌, ℕ, suc, List, [], ◌∷◌, ◌++◌}
use Rattle.hp_word.specs.declared.place.Place.{Place}
use Rattle.hp_script.specs.declared.tree.Expr.{Expr}
use Rattle.hp_script.specs.declared.tree.Arg.{Arg}
use Rattle.hp_script.specs.declared.tree.Stmt.{Stmt}
use Rattle.hp_script.specs.declared.tree.Stmt.TheViews.{If}
use Rattle.hp_script.specs.declared.tree.Level.{Level}
use Rattle.hp_script.specs.declared.tree.Level.TheVariants.{Disjunction}
use Rattle.hp_script.specs.declared.token.Keyword.TheVariants as keywords
use Rattle.hp_script.specs.declared.token.Sign.TheVariants as signs
use Rattle.hp_script.specs.Lexemes.{Lexeme, Identifier, Word, Mark, Newline, Lexed}
use Rattle.hp_script.specs.Trees.{column_node}
use Rattle.hp_script.specs.Grammar.{token, mark, IsChain, IsTail, IsUnary, IsIndexed, IsPrimary, IsArgs, IsMoreArgs, IsArg, IsStmt, IsBlock, IsBody}
use Rattle.hp_parse.specs.Machine.{Phrase, Chain, Tail, Unary, Indexed, Primary, ColumnName, AfterName, AfterDot, Arguments, MoreArguments, Argument, AfterArgumentName, AfterArgument, Bracket, Close, CloseIndex, AssignSign, Line, Statement, AfterBlock, End, EndLine, Block, Body, AfterStatement, Goal, want, make, made, Value, expr, arg, args, stmt, stmts, Config, At, Refused, Accepted, finished, step, never}

-- ---- phrases of the machine that the grammar has no name for

-- an expression in brackets
pub data IsBracket : (a : List Lexed) (k : ℕ) → Expr → (b : List Lexed) (l : ℕ) → Type 0 where
  in_brackets : {x : Expr} {open_ close : Place} {a b : List Lexed} {k l : ℕ}
      → IsChain Disjunction a k x (mark signs.Close close ∷ b) l → IsBracket (mark signs.Open open_ ∷ a) k x b l

-- what follows the first block of an `if`, with the statements of its second
pub data IsElse : (a : List Lexed) (k : ℕ) → List Stmt → (b : List Lexed) (l : ℕ) → Type 0 where
  else_none : {end : Place} {a : List Lexed} {k : ℕ} → IsElse (token (Word keywords.End) end ∷ a) k [] a k
  else_some : {other : List Stmt} {at line end : Place} {a b : List Lexed} {k l : ℕ}
      → IsBlock a k other (token (Word keywords.End) end ∷ b) l
      → IsElse (token (Word keywords.Else) at ∷ token Newline line ∷ a) k other b l

-- what follows a statement of the whole script, up to the end
pub data IsAfter : (a : List Lexed) (k : ℕ) → List Stmt → (l : ℕ) → Type 0 where
  after_last : {k : ℕ} → IsAfter [] k [] k
  after_line : {stmts : List Stmt} {line : Place} {a : List Lexed} {k l : ℕ} → IsBody a k stmts l → IsAfter (token Newline line ∷ a) k stmts l

-- ---- phrases

-- what is said of the tokens, the number of the next node and the values, where the machine goes on
abbrev pub Rest : Type 1
Rest = List Lexed → ℕ → List Value → Type 0

-- the tokens begin with this one
abbrev pub takes : Lexeme → Rest → Rest
takes what rest a k values = (at : Place) × (b : List Lexed) × (a ≡ token what at ∷ b) × rest b k values

abbrev pub tail_means : Level → Rest → Rest
tail_means level rest a k (expr x ∷ values) = (y : Expr) × (b : List Lexed) × (l : ℕ) × IsTail level x a k y b l × rest b l (expr y ∷ values)
tail_means level rest a k _ = Unit {0}

abbrev pub indexed_means : Rest → Rest
indexed_means rest a k (expr x ∷ values) = (y : Expr) × (b : List Lexed) × (l : ℕ) × IsIndexed x a k y b l × rest b l (expr y ∷ values)
indexed_means rest a k _ = Unit {0}

abbrev pub arguments_mean : Rest → Rest
arguments_mean rest a k (args xs ∷ values) = (ys : List Arg) × (b : List Lexed) × (l : ℕ) × IsArgs a k ys b l × rest b l (args (xs ++ ys) ∷ values)
arguments_mean rest a k _ = Unit {0}

abbrev pub more_arguments_mean : Rest → Rest
more_arguments_mean rest a k (args xs ∷ values) = (ys : List Arg) × (b : List Lexed) × (l : ℕ) × IsMoreArgs a k ys b l × rest b l (args (xs ++ ys) ∷ values)
more_arguments_mean rest a k _ = Unit {0}

-- the expression that an argument begins with stands before these tokens
abbrev pub after_argument_means : Rest → Rest
after_argument_means rest a k (expr x ∷ values) =
    (before : List Lexed) (first : ℕ) → IsChain Disjunction before first x a k
    → (y : Arg) × (b : List Lexed) × (l : ℕ) × IsArg before first y b l × rest b l (arg y ∷ values)
after_argument_means rest a k _ = Unit {0}

abbrev pub block_means : Rest → Rest
block_means rest a k (stmts xs ∷ values) = (ys : List Stmt) × (b : List Lexed) × (l : ℕ) × IsBlock a k ys b l × rest b l (stmts (xs ++ ys) ∷ values)
block_means rest a k _ = Unit {0}

abbrev pub after_block_means : Place → Rest → Rest
after_block_means at rest a k (stmts body ∷ expr test ∷ values) =
    (other : List Stmt) × (b : List Lexed) × (l : ℕ) × IsElse a k other b l × rest b l (stmt (If at test body other) ∷ values)
after_block_means at rest a k _ = Unit {0}

abbrev pub body_means : Rest → Rest
body_means rest a k (stmts xs ∷ values) = (ys : List Stmt) × (l : ℕ) × IsBody a k ys l × rest [] l (stmts (xs ++ ys) ∷ values)
body_means rest a k _ = Unit {0}

abbrev pub after_statement_means : Rest → Rest
after_statement_means rest a k (stmt x ∷ stmts xs ∷ values) = (ys : List Stmt) × (l : ℕ) × IsAfter a k ys l × rest [] l (stmts (xs ++ x ∷ ys) ∷ values)
after_statement_means rest a k _ = Unit {0}

-- what a wanted phrase says of the tokens, before what is said behind it
abbrev pub phrase_means : Phrase → Rest → Rest
phrase_means (Chain level) rest a k values = (x : Expr) × (b : List Lexed) × (l : ℕ) × IsChain level a k x b l × rest b l (expr x ∷ values)
phrase_means (Tail level) rest a k values = tail_means level rest a k values
phrase_means Unary rest a k values = (x : Expr) × (b : List Lexed) × (l : ℕ) × IsUnary a k x b l × rest b l (expr x ∷ values)
phrase_means Indexed rest a k values = indexed_means rest a k values
phrase_means Primary rest a k values = (x : Expr) × (b : List Lexed) × (l : ℕ) × IsPrimary a k x b l × rest b l (expr x ∷ values)
phrase_means (ColumnName id start) rest a k values =
    (bytes : List ℕ) × (at : Place) × (b : List Lexed) × (a ≡ token (Identifier bytes) at ∷ b) × rest b k (expr (column_node id start bytes) ∷ values)
phrase_means (AfterName id start bytes) rest a k values =
    k ≡ suc id → (x : Expr) × (b : List Lexed) × (l : ℕ) × IsPrimary (token (Identifier bytes) start ∷ a) id x b l × rest b l (expr x ∷ values)
phrase_means (AfterDot id start bytes) rest a k values =
    (dot : Place) → k ≡ suc id
    → (x : Expr) × (b : List Lexed) × (l : ℕ) × IsPrimary (token (Identifier bytes) start ∷ mark signs.Dot dot ∷ a) id x b l × rest b l (expr x ∷ values)
phrase_means (Arguments before) rest a k values = arguments_mean rest a k values
phrase_means (MoreArguments before) rest a k values = more_arguments_mean rest a k values
phrase_means Argument rest a k values = (x : Arg) × (b : List Lexed) × (l : ℕ) × IsArg a k x b l × rest b l (arg x ∷ values)
phrase_means (AfterArgumentName start bytes) rest a k values =
    (x : Arg) × (b : List Lexed) × (l : ℕ) × IsArg (token (Identifier bytes) start ∷ a) k x b l × rest b l (arg x ∷ values)
phrase_means AfterArgument rest a k values = after_argument_means rest a k values
phrase_means Bracket rest a k values = (x : Expr) × (b : List Lexed) × (l : ℕ) × IsBracket a k x b l × rest b l (expr x ∷ values)
phrase_means (Close before) rest a k values = takes (Mark signs.Close) rest a k values
phrase_means (CloseIndex before) rest a k values = takes (Mark signs.CloseIndex) rest a k values
phrase_means AssignSign rest a k values = takes (Mark signs.Assign) rest a k values
phrase_means Line rest a k values = takes Newline rest a k values
phrase_means Statement rest a k values = (x : Stmt) × (b : List Lexed) × (l : ℕ) × IsStmt a k x b l × rest b l (stmt x ∷ values)
phrase_means (AfterBlock before start) rest a k values = after_block_means start rest a k values
phrase_means (End before) rest a k values = takes (Word keywords.End) rest a k values
phrase_means (EndLine before) rest a k values = takes Newline rest a k values
phrase_means Block rest a k values = block_means rest a k values
phrase_means Body rest a k values = body_means rest a k values
phrase_means (AfterStatement before) rest a k values = after_statement_means rest a k values

-- ---- goals and configurations

-- what the goals say: each wanted phrase in turn, and behind the last the script that is made
abbrev pub goals_mean : (body : List Stmt) (nodes : ℕ) → List Goal → Rest
goals_mean body nodes [] a k values = finished values k ≡ Accepted body nodes
goals_mean body nodes (want phrase ∷ goals) a k values = phrase_means phrase (goals_mean body nodes goals) a k values
goals_mean body nodes (make action ∷ goals) a k values = goals_mean body nodes goals a k (made action values)

abbrev pub config_means : (body : List Stmt) (nodes : ℕ) → Config → Type 0
config_means body nodes (At tokens k d goals values) = goals_mean body nodes goals tokens k values
config_means body nodes (Refused place rule) = ⊥
config_means body nodes (Accepted read count) = Accepted read count ≡ Accepted body nodes

-- ---- steps

-- what is said of a wanted phrase holds before its step, if what is said behind the step holds there
abbrev pub Back : (end : Place) (body : List Stmt) (nodes : ℕ) → List Goal → Phrase → Type 0
Back end body nodes goals phrase = (a : List Lexed) (k d : ℕ) (values : List Value)
    → config_means body nodes (step never end (At a k d (want phrase ∷ goals) values)) → phrase_means phrase (goals_mean body nodes goals) a k values

-- the same at a token
abbrev pub BackAt : (end : Place) (body : List Stmt) (nodes : ℕ) → List Goal → Phrase → Type 0
BackAt end body nodes goals phrase = (what : Lexeme) (at : Place) (a : List Lexed) (k d : ℕ) (values : List Value)
    → config_means body nodes (step never end (At (token what at ∷ a) k d (want phrase ∷ goals) values))
    → phrase_means phrase (goals_mean body nodes goals) (token what at ∷ a) k values
