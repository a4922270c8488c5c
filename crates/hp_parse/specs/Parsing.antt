-- The answers of the parser.
use Rattle.std.specs.Prelude.{◌≡◌, ℕ, List, [], ◌∷◌, Result, Ok, Err}
use Rattle.hp_word.specs.declared.place.Place.{Place}
use Rattle.hp_script.specs.declared.rule.Rule.{Rule}
use Rattle.hp_script.specs.declared.rule.Refusal.{Refusal}
use Rattle.hp_script.specs.declared.token.Token.{Token}
use Rattle.hp_script.specs.declared.tree.Stmt.{Stmt}
use Rattle.hp_script.specs.declared.tree.Script.{Script}
use Rattle.hp_script.specs.Lexemes.{Lexed, lexed}
use Rattle.hp_script.specs.Tokens.{first_place}
use Rattle.hp_script.specs.Grammar.{Spells}
use Rattle.hp_script.specs.Depth.{outermost, IsShallow}
use Rattle.hp_script.specs.Refusals.{IsNoScript}
use Rattle.hp_parse.specs.Machine.{Leads, too_deep, start, Accepted, Refused}
use Rattle.hp_parse.specs.declared.error.ParseError.{ParseError}
use Rattle.hp_parse.specs.declared.error.ParseError.TheVariants as errors

-- the place of the last token, which is the end of the script
abbrev pub end_of : List Token → Place
end_of [] = first_place
end_of (token ∷ []) = token.at
end_of (token ∷ next ∷ tokens) = end_of (next ∷ tokens)

-- The tokens of a source spell these statements, which have so many nodes, and none of them is too deep.
pub record AreScript (source : List ℕ) (list : List Token) (body : List Stmt) (nodes : ℕ) : Type 0 where
  pub spelled : Spells (lexed source list) body nodes
  pub shallow : IsShallow outermost (lexed source list)

-- the tokens of a source are no script, which shows at this place
abbrev pub AreNoScript : List ℕ → List Token → Place → Rule → Type 0
AreNoScript source list at rule = IsNoScript (lexed source list) (end_of list) at rule

-- the tokens of a source spell these statements, with so many nodes
abbrev pub IsParsed : List ℕ → List Token → List Stmt × ℕ → Type 0
IsParsed source list script = AreScript source list script.0 script.1

-- the tokens of a source are no script, for this refusal
abbrev pub IsUnparsed : List ℕ → List Token → Refusal → Type 0
IsUnparsed source list refusal = AreNoScript source list refusal.at refusal.rule

-- the script is what the tokens spell
abbrev pub IsScriptOf : List ℕ → List Token → Script → Type 0
IsScriptOf source list script = AreScript source list script.body script.nodes

-- the error is a refusal that is right, or memory was refused
abbrev pub RefusedBy : (Place → Rule → Type 0) → ParseError → Type 0
RefusedBy P (errors.Refused refusal) = P refusal.at refusal.rule
RefusedBy P errors.NoMemory = Unit {0}

-- the answer is this script, unless memory was refused
abbrev pub IsParsedAs : List Stmt → ℕ → Result Script ParseError → Type 0
IsParsedAs body nodes (Ok script) = (script.body ≡ body) × (script.nodes ≡ nodes)
IsParsedAs body nodes (Err (errors.Refused refusal)) = ⊥
IsParsedAs body nodes (Err errors.NoMemory) = Unit {0}

-- the answer is this refusal, unless memory was refused
abbrev pub IsRefusedAs : Place → Rule → Result Script ParseError → Type 0
IsRefusedAs at rule (Ok script) = ⊥
IsRefusedAs at rule (Err (errors.Refused refusal)) = (refusal.at ≡ at) × (refusal.rule ≡ rule)
IsRefusedAs at rule (Err errors.NoMemory) = Unit {0}

-- ---- by the machine; nobody need believe it

-- the machine reads this script from the tokens
abbrev pub ReadsScript : List ℕ → List Token → Script → Type 0
ReadsScript source list script = Leads too_deep (end_of list) (start (lexed source list)) (Accepted script.body script.nodes)

-- the machine refuses the tokens so, or memory was refused
abbrev pub StopsAs : List ℕ → List Token → ParseError → Type 0
StopsAs source list (errors.Refused refusal) = Leads too_deep (end_of list) (start (lexed source list)) (Refused refusal.at refusal.rule)
StopsAs source list errors.NoMemory = Unit {0}
