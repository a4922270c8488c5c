-- Which bytes are a script that fits, and how and where others are refused.
use Rattle.std.specs.Prelude.{◌≡◌, ℕ, List, Option, Some}
use Rattle.hp_word.specs.declared.place.Place.{Place}
use Rattle.hp_script.specs.declared.rule.Rule.{Rule}
use Rattle.hp_script.specs.declared.rule.Refusal.{Refusal}
use Rattle.hp_script.specs.declared.token.Token.{Token}
use Rattle.hp_script.specs.declared.tree.Stmt.{Stmt}
use Rattle.hp_script.specs.declared.typed.ReadSpec.{ReadSpec}
use Rattle.hp_script.specs.declared.typed.Shape.{Shape}
use Rattle.hp_script.specs.declared.typed.Typed.{Typed}
use Rattle.hp_script.specs.declared.typed.Var.{Var}
use Rattle.hp_script.specs.Tokens.{HasTokens, HasNoTokens}
use Rattle.hp_script.specs.Checked.{Checked, first_break}
use Rattle.hp_script.specs.Mirror.{block_of}
use Rattle.hp_parse.specs.Parsing.{AreScript, AreNoScript}

-- the bytes spell these statements, which have so many nodes: they have tokens, which spell them
pub record SpellScript (bytes : List ℕ) (body : List Stmt) (nodes : ℕ) : Type 0 where
  pub list : List Token
  pub tokens : HasTokens bytes list
  pub script : AreScript bytes list body nodes

-- the bytes have tokens, which are no script
pub record SpellNoScript (bytes : List ℕ) (at : Place) (rule : Rule) : Type 0 where
  pub list : List Token
  pub tokens : HasTokens bytes list
  pub no_script : AreNoScript bytes list at rule

-- the bytes have no tokens, or their tokens are no script
pub data SpellNone (bytes : List ℕ) (at : Place) (rule : Rule) : Type 0 where
  NoTokens : HasNoTokens bytes at rule → SpellNone bytes at rule
  NoScript : SpellNoScript bytes at rule → SpellNone bytes at rule

-- this rule breaks first in the statements, at this place
abbrev pub breaks_in : List Stmt → Place → Rule → Type 0
breaks_in body at rule = first_break (block_of body) ≡ Some (record { at = at; rule = rule })

-- the bytes spell a script, in which this rule breaks first, at this place
pub record SpellBreak (bytes : List ℕ) (at : Place) (rule : Rule) : Type 0 where
  pub body : List Stmt
  pub nodes : ℕ
  pub spelled : SpellScript bytes body nodes
  pub breaks : breaks_in body at rule

-- the bytes are refused at this place by this rule: they spell no script, or a rule of the language breaks
pub data Refuses (bytes : List ℕ) (at : Place) (rule : Rule) : Type 0 where
  Unspelled : SpellNone bytes at rule → Refuses bytes at rule
  Breaks : SpellBreak bytes at rule → Refuses bytes at rule

-- the bytes spell a script that fits, and this is said of it
pub record Fits (bytes : List ℕ) (typed : Typed) : Type 0 where
  pub spelled : SpellScript bytes typed.script.body typed.script.nodes
  pub checked : Checked typed

-- ---- one of two

-- the bytes spell these statements, with so many nodes
abbrev pub IsSpelled : List ℕ → List Stmt × ℕ → Type 0
IsSpelled bytes script = SpellScript bytes script.0 script.1

-- the bytes spell no script, for this refusal
abbrev pub IsUnspelled : List ℕ → Refusal → Type 0
IsUnspelled bytes refusal = SpellNone bytes refusal.at refusal.rule

-- the bytes are no script that fits, for this refusal
abbrev pub IsRefused : List ℕ → Refusal → Type 0
IsRefused bytes refusal = Refuses bytes refusal.at refusal.rule

-- all that is said of a script that fits
pub record Content : Type 0 where
  pub body : List Stmt
  pub nodes : ℕ
  pub vars : List Var
  pub shapes : List (Option Shape)
  pub reads : List ReadSpec

abbrev pub content_of : Typed → Content
content_of typed = record { body = typed.script.body; nodes = typed.script.nodes; vars = typed.vars; shapes = typed.shapes; reads = typed.reads }

-- the bytes spell a script that fits, of which this is said
pub record FitsAs (bytes : List ℕ) (content : Content) : Type 0 where
  pub typed : Typed
  pub fits : Fits bytes typed
  pub said : content_of typed ≡ content
