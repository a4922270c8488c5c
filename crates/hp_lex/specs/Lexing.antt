-- The answers of the lexer.
use Rattle.std.specs.Prelude.{◌≡◌, ℕ, List, Result, Ok, Err}
use Rattle.hp_word.specs.declared.place.Place.{Place}
use Rattle.hp_script.specs.declared.rule.Rule.{Rule}
use Rattle.hp_script.specs.declared.rule.Refusal.{Refusal as Refused}
use Rattle.hp_script.specs.declared.token.Token.{Token}
use Rattle.hp_script.specs.declared.token.Tokens.{Tokens}
use Rattle.hp_script.specs.Tokens.{HasTokens, HasNoTokens}
use Rattle.hp_lex.specs.declared.lexer.LexError.{LexError}
use Rattle.hp_lex.specs.declared.lexer.LexError.TheVariants as errors

-- the tokens are those of the bytes
pub record AreTokensOf (bytes : List ℕ) (tokens : Tokens) : Type 0 where
  pub source : tokens.source ≡ bytes
  pub list : HasTokens bytes tokens.list

-- the error is a refusal that is right, or memory was refused
abbrev pub RefusedBy : (Place → Rule → Type 0) → LexError → Type 0
RefusedBy P (errors.Refused refusal) = P refusal.at refusal.rule
RefusedBy P errors.NoMemory = Unit {0}

-- the answer is these tokens, unless memory was refused
abbrev pub IsLexedAs : List Token → Result Tokens LexError → Type 0
IsLexedAs list (Ok tokens) = tokens.list ≡ list
IsLexedAs list (Err (errors.Refused refusal)) = ⊥
IsLexedAs list (Err errors.NoMemory) = Unit {0}

-- the answer is this refusal, unless memory was refused
abbrev pub IsRefusedAs : Place → Rule → Result Tokens LexError → Type 0
IsRefusedAs at rule (Ok tokens) = ⊥
IsRefusedAs at rule (Err (errors.Refused refusal)) = (refusal.at ≡ at) × (refusal.rule ≡ rule)
IsRefusedAs at rule (Err errors.NoMemory) = Unit {0}

-- the bytes have no tokens, for this refusal
abbrev pub IsUnlexed : List ℕ → Refused → Type 0
IsUnlexed bytes refusal = HasNoTokens bytes refusal.at refusal.rule
