-- How deep a script nests, by a scan of its tokens that knows no grammar.
use Rattle.std.specs.Prelude.{ℕ, suc, ◌≤◌, List, [], ◌∷◌}
use Rattle.hp_script.specs.declared.token.Keyword.TheVariants as keywords
use Rattle.hp_script.specs.declared.token.Sign.TheVariants as signs
use Rattle.hp_script.specs.Lexemes.{Lexeme, Word, Mark, Newline, Lexed}

-- the greatest depth that a script may have
abbrev pub deepest : ℕ
deepest = 64

-- What is open, with the depth that comes back when it ends: a bracket; the condition of an `if` or `while`, which
-- counts up to the `end` of its statement; any other statement, which ends with its line.
pub data Open : Type 0 where
  Bracket : ℕ → Open
  Condition : ℕ → Open
  Statement : ℕ → Open

-- the depth behind some tokens, and what is open there, the innermost first
pub record Nesting : Type 0 where
  pub depth : ℕ
  pub opened : List Open

abbrev pub nesting : ℕ → List Open → Nesting
nesting depth opened = record { depth = depth; opened = opened }

-- before the first token
abbrev pub outermost : Nesting
outermost = nesting 0 (Statement 0 ∷ [])

-- behind a comma: an argument has ended, and its bracket stays open
abbrev pub next_argument : ℕ → List Open → Nesting
next_argument depth (Bracket before ∷ opened) = nesting (suc before) (Bracket before ∷ opened)
next_argument depth opened = nesting depth opened

-- behind a bracket that closes
abbrev pub closed : ℕ → List Open → Nesting
closed depth (Bracket before ∷ opened) = nesting before opened
closed depth opened = nesting depth opened

-- behind a newline: a statement has ended and the next begins, or a condition is whole and its block begins
abbrev pub next_line : ℕ → List Open → Nesting
next_line depth (Condition before ∷ opened) = nesting depth (Statement depth ∷ Condition before ∷ opened)
next_line depth (Statement before ∷ opened) = nesting before (Statement before ∷ opened)
next_line depth opened = nesting depth opened

-- behind an `end`
abbrev pub ended : ℕ → List Open → Nesting
ended depth (Statement last ∷ Condition before ∷ opened) = nesting before opened
ended depth opened = nesting depth opened

-- The nesting behind one more token. An `if` or `while`, a bracket, and an operator with one or two operands add
-- one each; `[` is both a bracket and an operator.
abbrev pub nested : Nesting → Lexeme → Nesting
nested n (Mark (signs.Operator op dotted)) = nesting (suc n.depth) n.opened
nested n (Mark (signs.Not dotted)) = nesting (suc n.depth) n.opened
nested n (Mark signs.Open) = nesting (suc n.depth) (Bracket n.depth ∷ n.opened)
nested n (Mark signs.OpenIndex) = nesting (suc (suc n.depth)) (Bracket (suc n.depth) ∷ n.opened)
nested n (Mark signs.Close) = closed n.depth n.opened
nested n (Mark signs.CloseIndex) = closed n.depth n.opened
nested n (Mark signs.Comma) = next_argument n.depth n.opened
nested n (Word keywords.If) = nesting (suc n.depth) (Condition n.depth ∷ n.opened)
nested n (Word keywords.While) = nesting (suc n.depth) (Condition n.depth ∷ n.opened)
nested n (Word keywords.End) = ended n.depth n.opened
nested n Newline = next_line n.depth n.opened
nested n _ = n

-- the nesting behind some tokens
abbrev pub nesting_behind : Nesting → List Lexed → Nesting
nesting_behind n [] = n
nesting_behind n (token ∷ tokens) = nesting_behind (nested n token.what) tokens

-- behind none of the tokens the depth is greater than it may be
abbrev pub IsShallow : Nesting → List Lexed → Type 0
IsShallow n [] = Unit {0}
IsShallow n (token ∷ tokens) = ((nested n token.what).depth ≤ deepest) × IsShallow (nested n token.what) tokens
