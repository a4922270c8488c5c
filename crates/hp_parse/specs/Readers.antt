-- What the parser's functions say: how they lead the machine on, and where it refuses. Nobody need believe it.
use Rattle.std.specs.Prelude.{ℕ, zero, suc, Bool, true, false, ◌≡◌, ◌≢◌, ◌≤◌, List, [], ◌∷◌, ◌++◌, length, drop, Option, Some, None, if◌then◌else◌}
use Rattle.hp_word.specs.declared.place.Place.{Place}
use Rattle.hp_word.specs.declared.place.NodeId.{NodeId}
use Rattle.hp_script.specs.declared.rule.Rule.{Rule}
use Rattle.hp_script.specs.declared.rule.Rule.TheVariants.{Syntax, TooDeep}
use Rattle.hp_script.specs.declared.rule.Refusal.{Refusal}
use Rattle.hp_script.specs.declared.tree.UnOp.{UnOp}
use Rattle.hp_script.specs.declared.tree.BinOp.{BinOp}
use Rattle.hp_script.specs.declared.tree.Level.{Level}
use Rattle.hp_script.specs.declared.tree.Expr.{Expr}
use Rattle.hp_script.specs.declared.tree.Stmt.{Stmt}
use Rattle.hp_script.specs.declared.tree.Stmt.TheViews as stmt_views
use Rattle.hp_script.specs.declared.tree.Level.TheVariants.{Disjunction}
use Rattle.hp_script.specs.declared.token.Token.{Token}
use Rattle.hp_script.specs.declared.token.Sign.{Sign}
use Rattle.hp_script.specs.declared.token.Sign.TheVariants as signs
use Rattle.hp_script.specs.declared.token.Keyword.{Keyword}
use Rattle.hp_script.specs.declared.token.Keyword.TheVariants as keywords
use Rattle.hp_script.specs.Lexemes.{Lexeme, Word, Mark, Newline, Identifier, Lexed, lexed}
use Rattle.hp_script.specs.Grammar.{level_of, unary_of}
use Rattle.hp_script.specs.Tokens.{first_place, HasTokens}
use Rattle.hp_script.specs.Depth.{deepest}
use Rattle.hp_parse.specs.declared.error.ParseError.{ParseError}
use Rattle.hp_parse.specs.declared.error.ParseError.TheVariants as errors
use Rattle.hp_parse.specs.Machine.{Goal, Value, Phrase, Chain, Close, AfterBlock, Body, expr, stmt, stmts, start, Accepted, want, enter, Deepens, Config, At, Leads, too_deep, level_eq}
use Rattle.hp_parse.specs.Machine.{Refused as off}
use Rattle.hp_parse.specs.Parsing.{end_of}

-- ---- a reader of tokens

-- the tokens that are left, the number of the next node, the depth, and the place where the script ends
pub record Reader : Type 0 where
  pub rest : List Lexed
  pub number : ℕ
  pub depth : ℕ
  pub end : Place

abbrev pub first_of : List Lexed → Option Lexeme
first_of [] = None
first_of (token ∷ tokens) = Some token.what

-- what the next token says, and the one behind it; nothing at the end
abbrev pub next : Reader → Option Lexeme
next r = first_of r.rest

abbrev pub second : Reader → Option Lexeme
second r = first_of (drop 1 r.rest)

abbrev pub first_place_of : List Lexed → Place → Place
first_place_of [] end = end
first_place_of (token ∷ tokens) end = token.at

-- the place of the next token, or of the end
abbrev pub here : Reader → Place
here r = first_place_of r.rest r.end

-- the reader behind its next token, with this number and depth
abbrev pub behind_at : Reader → (number depth : ℕ) → Reader
behind_at r number depth = record { rest = drop 1 r.rest; number = number; depth = depth; end = r.end }

abbrev pub behind : Reader → Reader
behind r = behind_at r r.number r.depth

-- behind a token that is a node's own
abbrev pub numbered : Reader → Reader
numbered r = behind_at r (suc r.number) r.depth

-- with this depth
abbrev pub restored : Reader → ℕ → Reader
restored r depth = record { rest = r.rest; number = r.number; depth = depth; end = r.end }

-- a depth with so much more
abbrev pub raised : (by depth : ℕ) → ℕ
raised zero depth = depth
raised (suc by) depth = suc (raised by depth)

-- the sign that a token is
abbrev pub sign_in : Option Lexeme → Option Sign
sign_in (Some (Mark sign)) = Some sign
sign_in _ = None

-- the word that a token is
abbrev pub word_in : Option Lexeme → Option Keyword
word_in (Some (Word word)) = Some word
word_in _ = None

-- the name that a token is
abbrev pub name_in : Option Lexeme → Option (List ℕ)
name_in (Some (Identifier bytes)) = Some bytes
name_in _ = None

-- behind the next token, where that is a name, this sign does not stand
abbrev pub NoNameBefore : Sign → Reader → Type 0
NoNameBefore sign r = (bytes : List ℕ) → next r ≡ Some (Identifier bytes) → sign_in (second r) ≢ Some sign

-- the operator of this level that a sign is
abbrev pub operator_in : Level → Option Sign → Option (BinOp × Bool)
operator_in level (Some (signs.Operator op dotted)) = if level_eq (level_of op) level then Some (op, dotted) else None
operator_in level _ = None

-- the operator with one operand that a sign is
abbrev pub unary_in : Option Sign → Option (UnOp × Bool)
unary_in (Some sign) = unary_of sign
unary_in None = None

-- whether the token begins a statement
abbrev pub begins_statement : Option Lexeme → Bool
begins_statement (Some (Identifier bytes)) = true
begins_statement (Some (Word keywords.Println)) = true
begins_statement (Some (Word keywords.WriteCsv)) = true
begins_statement (Some (Word keywords.If)) = true
begins_statement (Some (Word keywords.While)) = true
begins_statement _ = false

-- ---- refusals

abbrev pub refusal : Place → Rule → ParseError
refusal at rule = errors.Refused (record { at = at; rule = rule })

abbrev pub syntax_at : Reader → ParseError
syntax_at r = refusal (here r) Syntax

abbrev pub too_deep_at : Reader → ParseError
too_deep_at r = refusal (here r) TooDeep

-- ---- what a function did

abbrev pub config : Reader → List Goal → List Value → Config
config r goals values = At r.rest r.number r.depth goals values

-- The machine leads from these goals on these values at the old reader to what is left of the goals and the values
-- made at the new one, whatever else it has to do and has made.
pub record Reaches (old : Reader) (goals : List Goal) (given : List Value) (new : Reader) (left : List Goal) (made : List Value) : Type 0 where
  pub leads : (stack : List Goal) (values : List Value) → Leads too_deep old.end (config old (goals ++ stack) (given ++ values)) (config new (left ++ stack) (made ++ values))
  pub same_end : new.end ≡ old.end
  pub no_longer : length new.rest ≤ length old.rest

-- A refusal is the machine's; want of memory says nothing.
pub record Stops (old : Reader) (goals : List Goal) (given : List Value) (error : ParseError) : Type 0 where
  pub leads : (at : Place) (rule : Rule) → error ≡ refusal at rule → (stack : List Goal) (values : List Value)
      → Leads too_deep old.end (config old (goals ++ stack) (given ++ values)) (off at rule)

-- The machine reads all the tokens that are left, and accepts a body of so many nodes.
pub record Finishes (old : Reader) (body : List Stmt) (nodes : ℕ) : Type 0 where
  pub leads : Leads too_deep old.end (config old (want Body ∷ []) (stmts [] ∷ [])) (Accepted body nodes)

-- The machine on these tokens refuses as the error says.
abbrev pub TurnsDown : (end : Place) → List Lexed → ParseError → Type 0
TurnsDown end tokens error = (at : Place) (rule : Rule) → error ≡ refusal at rule → Leads too_deep end (start tokens) (off at rule)

-- The phrase takes a bracket that opens, and wants what stands in it and the one that closes it.
abbrev pub Brackets : Phrase → Reader → Type 0
Brackets phrase r = enter phrase (next r) (here r) r.number r.depth ≡ Deepens r.number (suc r.depth) (want (Chain Disjunction) ∷ want (Close r.depth) ∷ []) []

-- What stands behind the block of an `if` was read, and gave these statements for its `else`: the machine makes the
-- conditional with them, at whatever place, of whatever test and block.
abbrev pub EndsConditional : (before : ℕ) (old : Reader) (other : List Stmt) (new : Reader) → Type 0
EndsConditional before old other new = (at : Place) (test : Expr) (body : List Stmt)
    → Reaches old (want (AfterBlock before at) ∷ []) (stmts body ∷ expr test ∷ []) new [] (stmt (stmt_views.If at test body other) ∷ [])

-- the machine refuses there
abbrev pub StopsConditional : (before : ℕ) (old : Reader) → ParseError → Type 0
StopsConditional before old error = (at : Place) → Stops old (want (AfterBlock before at) ∷ []) [] error

-- ---- the cursor

-- the reader at a position of a list of tokens
abbrev pub reader_at : (source : List ℕ) (list : List Token) (position number depth : ℕ) → Reader
reader_at source list position number depth = record { rest = drop position (lexed source list); number = number; depth = depth; end = end_of list }

-- each node has a token of its own
pub record IsAmong (source : List ℕ) (list : List Token) (position number depth : ℕ) : Type 0 where
  pub has : HasTokens source list
  pub within : position ≤ length (lexed source list)
  pub numbers : number ≤ position
  pub shallow : depth ≤ deepest
