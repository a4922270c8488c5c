-- Which tokens are no script, and at which of them that shows.
use Rattle.std.specs.Prelude.{ℕ, ◌≡◌, ◌<◌, List, [], ◌∷◌, ◌++◌}
use Rattle.hp_word.specs.declared.place.Place.{Place}
use Rattle.hp_script.specs.declared.tree.Stmt.{Stmt}
use Rattle.hp_script.specs.declared.rule.Rule.{Rule}
use Rattle.hp_script.specs.declared.rule.Rule.TheVariants as rules
use Rattle.hp_script.specs.Lexemes.{Lexed}
use Rattle.hp_script.specs.Grammar.{Spells, Begins}
use Rattle.hp_script.specs.Depth.{outermost, nested, nesting_behind, IsShallow, deepest}

-- The tokens go wrong at this place: no script's tokens go on like this, or the script ends too early, which
-- counts at `end`.
abbrev pub GoesWrong : (front rest : List Lexed) (end place : Place) → Type 0
GoesWrong front [] end place = ((body : List Stmt) (nodes : ℕ) → ¬ Spells front body nodes) × (place ≡ end)
GoesWrong front (token ∷ rest) end place = ¬ Begins (front ++ token ∷ []) × (place ≡ token.at)

-- Syntax: some script's tokens begin with `front`, none of which is too deep, and then the tokens go wrong.
pub record BreaksOff (tokens : List Lexed) (end place : Place) : Type 0 where
  pub front : List Lexed
  pub rest : List Lexed
  pub parts : tokens ≡ front ++ rest
  pub begins : Begins front
  pub shallow : IsShallow outermost front
  pub wrong : GoesWrong front rest end place

-- TooDeep: some script's tokens begin with `front` and `token`, and this token is the first that is too deep.
pub record GoesTooDeep (tokens : List Lexed) (place : Place) : Type 0 where
  pub front : List Lexed
  pub token : Lexed
  pub rest : List Lexed
  pub parts : tokens ≡ front ++ token ∷ rest
  pub begins : Begins (front ++ token ∷ [])
  pub shallow : IsShallow outermost front
  pub deep : deepest < (nested (nesting_behind outermost front) token.what).depth
  pub placed : place ≡ token.at

-- The tokens, behind which the script ends at `end`, are no script, which shows at this place.
abbrev pub IsNoScript : List Lexed → (end : Place) → Place → Rule → Type 0
IsNoScript tokens end place rules.Syntax = BreaksOff tokens end place
IsNoScript tokens end place rules.TooDeep = GoesTooDeep tokens place
IsNoScript tokens end place _ = ⊥
