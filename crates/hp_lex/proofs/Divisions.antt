-- A script has one list of tokens, or is refused in one way.
use Rattle.std.proofs.Common.{◌≡◌, ℕ, ◌+◌, ◌<◌, ◌≤◌, inl, inr, ◌⊎◌, List, [], ◌++◌, length, refl, sym, ap, subst, ◌∙◌, arith}
use Rattle.std.specs.Prelude.{IfOk, IfErr, Result, Ok, Err}
use Rattle.std.proofs.lemmas.Bool.{cases_order}
use Rattle.hp_word.specs.declared.place.Place.{Place}
use Rattle.hp_script.specs.declared.rule.Rule.{Rule}
use Rattle.hp_script.specs.declared.rule.Rule.TheVariants as rules
use Rattle.hp_script.specs.declared.token.Token.{Token}
use Rattle.hp_script.specs.declared.token.Tokens.{Tokens}
use Rattle.hp_script.specs.Lexemes.{AreReadable}
use Rattle.hp_script.proofs.TokenLemmas.{are_readable}
use Rattle.hp_script.specs.Tokens.{Piece, StandsFirst, IsWide, token_of, behind, first_place, Divides, Ends, GoesOn, StopsAt, NoPiece, TooWide, Later, HasTokens, HasNoTokens}
use Rattle.hp_lex.specs.declared.lexer.LexError.{LexError}
use Rattle.hp_lex.specs.declared.lexer.LexError.TheVariants as errors
use Rattle.hp_lex.specs.Lexing.{AreTokensOf, RefusedBy, IsLexedAs, IsRefusedAs}
use Rattle.hp_lex.proofs.Longest.{one_first, no_first, no_none}

-- ---- one list of tokens

follow : {from : ℕ} {at : Place} {bytes : List ℕ} {b : List Token} (piece : Piece) (front rest : List ℕ) (tokens : List Token) → StandsFirst bytes piece front rest
    → ((c : List Token) → Divides (from + length front) (behind at front) rest c → tokens ≡ c) → Divides from at bytes b
    → token_of piece at from (from + length front) ++ tokens ≡ b
follow piece front rest tokens first same (Ends from at) = absurd (no_first piece front rest first)
follow piece front rest tokens first same (GoesOn from at bytes other others_front others_rest others_tokens others_first narrow more) =
    let one = one_first bytes piece other front others_front rest others_rest first others_first in
    let level : Divides (from + length front) (behind at front) others_rest others_tokens =
    subst (λ (f : List ℕ). Divides (from + length f) (behind at f) others_rest others_tokens) (sym one.same_front) more in
    let here : Divides (from + length front) (behind at front) rest others_tokens = subst (λ (r : List ℕ). Divides (from + length front) (behind at front) r others_tokens) (sym one.same_rest) level in
    ap (λ (ts : List Token). token_of piece at from (from + length front) ++ ts) (same others_tokens here)
    ∙ ap (λ (p : Piece). token_of p at from (from + length front) ++ others_tokens) one.same_piece
    ∙ ap (λ (f : List ℕ). token_of other at from (from + length f) ++ others_tokens) one.same_front

pub one_division : {from : ℕ} {at : Place} {bytes : List ℕ} {a b : List Token} → Divides from at bytes a → Divides from at bytes b → a ≡ b
one_division (Ends from at) (Ends from' at') = refl
one_division (Ends from at) (GoesOn from' at' bytes piece front rest tokens first narrow more) = absurd (no_first piece front rest first)
one_division (GoesOn from at bytes piece front rest tokens first narrow more) k = follow piece front rest tokens first (λ c d. one_division more d) k

-- ---- one place and rule

wide_or_narrow : (bytes : List ℕ) (piece other : Piece) (front others_front rest others_rest : List ℕ) → StandsFirst bytes piece front rest → StandsFirst bytes other others_front others_rest
    → IsWide piece front → ¬ IsWide other others_front → ⊥
wide_or_narrow bytes piece other front others_front rest others_rest first others_first wide narrow =
    let one = one_first bytes piece other front others_front rest others_rest first others_first in
    let here : IsWide other front = subst (λ (p : Piece). IsWide p front) one.same_piece wide in
    narrow (subst (λ (f : List ℕ). IsWide other f) one.same_front here)

-- what stops behind one piece stops behind the other that stands first
stops_behind : (bytes : List ℕ) (piece other : Piece) (front others_front rest others_rest : List ℕ) (at stop : Place) (rule : Rule)
    → StandsFirst bytes piece front rest → StandsFirst bytes other others_front others_rest → StopsAt (behind at others_front) others_rest stop rule → StopsAt (behind at front) rest stop rule
stops_behind bytes piece other front others_front rest others_rest at stop rule first others_first more =
    let one = one_first bytes piece other front others_front rest others_rest first others_first in
    let level : StopsAt (behind at front) others_rest stop rule = subst (λ (f : List ℕ). StopsAt (behind at f) others_rest stop rule) (sym one.same_front) more in
    subst (λ (r : List ℕ). StopsAt (behind at front) r stop rule) (sym one.same_rest) level

-- two refusals are one
pub record IsSameStop (at : Place) (rule : Rule) (others_at : Place) (others_rule : Rule) : Type 0 where
  pub same_at : at ≡ others_at
  pub same_rule : rule ≡ others_rule

follow_stop : {at : Place} {bytes : List ℕ} {others_stop : Place} {others_rule : Rule} (piece : Piece) (front rest : List ℕ) (stop : Place) (rule : Rule) → StandsFirst bytes piece front rest → ¬ IsWide piece front
    → ((s : Place) (r : Rule) → StopsAt (behind at front) rest s r → IsSameStop stop rule s r) → StopsAt at bytes others_stop others_rule → IsSameStop stop rule others_stop others_rule
follow_stop piece front rest stop rule first narrow same (NoPiece at bytes none) = absurd (no_none bytes piece front rest first none)
follow_stop piece front rest stop rule first narrow same (TooWide at bytes other others_front others_rest others_first wide) =
    absurd (wide_or_narrow bytes other piece others_front front others_rest rest others_first first wide narrow)
follow_stop piece front rest stop rule first narrow same (Later at bytes other others_front others_rest s r others_first others_narrow more) =
    same s r (stops_behind bytes piece other front others_front rest others_rest at s r first others_first more)

one_stop : {at : Place} {bytes : List ℕ} {stop : Place} {rule : Rule} {others_stop : Place} {others_rule : Rule} → StopsAt at bytes stop rule → StopsAt at bytes others_stop others_rule → IsSameStop stop rule others_stop others_rule
one_stop (NoPiece at bytes none) (NoPiece at' bytes' none') = record { same_at = refl; same_rule = refl }
one_stop (NoPiece at bytes none) (TooWide at' bytes' piece front rest first wide) = absurd (no_none bytes piece front rest first none)
one_stop (NoPiece at bytes none) (Later at' bytes' piece front rest stop rule first narrow more) = absurd (no_none bytes piece front rest first none)
one_stop (TooWide at bytes piece front rest first wide) (NoPiece at' bytes' none) = absurd (no_none bytes piece front rest first none)
one_stop (TooWide at bytes piece front rest first wide) (TooWide at' bytes' piece' front' rest' first' wide') = record { same_at = refl; same_rule = refl }
one_stop (TooWide at bytes piece front rest first wide) (Later at' bytes' other others_front others_rest stop rule others_first narrow more) =
    absurd (wide_or_narrow bytes piece other front others_front rest others_rest first others_first wide narrow)
one_stop (Later at bytes piece front rest stop rule first narrow more) k = follow_stop piece front rest stop rule first narrow (λ s r d. one_stop more d) k

-- ---- tokens or a refusal

follow_none : {at : Place} {bytes : List ℕ} {stop : Place} {rule : Rule} (piece : Piece) (front rest : List ℕ) → StandsFirst bytes piece front rest → ¬ IsWide piece front
    → ((s : Place) (r : Rule) → ¬ StopsAt (behind at front) rest s r) → ¬ StopsAt at bytes stop rule
follow_none piece front rest first narrow none (NoPiece at bytes nothing) = no_none bytes piece front rest first nothing
follow_none piece front rest first narrow none (TooWide at bytes other others_front others_rest others_first wide) =
    wide_or_narrow bytes other piece others_front front others_rest rest others_first first wide narrow
follow_none piece front rest first narrow none (Later at bytes other others_front others_rest s r others_first others_narrow more) =
    none s r (stops_behind bytes piece other front others_front rest others_rest at s r first others_first more)

stops_at_end : {at : Place} {stop : Place} {rule : Rule} → ¬ StopsAt at [] stop rule
stops_at_end (NoPiece at bytes none) = none.0 refl
stops_at_end (TooWide at bytes piece front rest first wide) = no_first piece front rest first
stops_at_end (Later at bytes piece front rest stop rule first narrow more) = no_first piece front rest first

pub divided_or_stopped : {from : ℕ} {at : Place} {bytes : List ℕ} {tokens : List Token} {stop : Place} {rule : Rule} → Divides from at bytes tokens → ¬ StopsAt at bytes stop rule
divided_or_stopped (Ends from at) k = stops_at_end k
divided_or_stopped (GoesOn from at bytes piece front rest tokens first narrow more) k = follow_none piece front rest first narrow (λ s r d. divided_or_stopped more d) k

-- ---- the answers

pub stopped_short : (bytes : List ℕ) (at : Place) (rule : Rule) → HasNoTokens bytes at rule → length bytes ≤ 65536 → StopsAt first_place bytes at rule
stopped_short bytes at rules.TooLongScript h short = absurd (omega (arith, h.0))
stopped_short bytes at _ h short = h.1

stopped_long : (bytes : List ℕ) (at : Place) (rule : Rule) → HasNoTokens bytes at rule → 65536 < length bytes → IsSameStop at rule first_place rules.TooLongScript
stopped_long bytes at rules.TooLongScript h long = record { same_at = h.1; same_rule = refl }
stopped_long bytes at _ h long = absurd (omega (arith, h.0))

pub fits_or_not : (a b : ℕ) → (a ≤ b) ⊎ (b < a)
fits_or_not a b = elim (cases_order a b) [ inl e ↦ inl (omega arith) | inr o ↦ elim o [ inl lt ↦ inl (omega arith) | inr gt ↦ inr gt ] ]

pub one_refusal : (bytes : List ℕ) (at others_at : Place) (rule others_rule : Rule) → HasNoTokens bytes at rule → HasNoTokens bytes others_at others_rule → IsSameStop at rule others_at others_rule
one_refusal bytes at others_at rule others_rule h k =
    elim (fits_or_not (length bytes) 65536) [
      | inl short ↦ one_stop (stopped_short bytes at rule h short) (stopped_short bytes others_at others_rule k short)
      | inr long ↦ let a = stopped_long bytes at rule h long in let b = stopped_long bytes others_at others_rule k long in
          record { same_at = a.same_at ∙ sym b.same_at; same_rule = a.same_rule ∙ sym b.same_rule }
    ]

pub lexed_as : (bytes : List ℕ) (result : Result Tokens LexError) → IfOk result (AreTokensOf bytes) → IfErr result (RefusedBy (HasNoTokens bytes)) → (list : List Token) → HasTokens bytes list → IsLexedAs list result
lexed_as bytes (Ok tokens) ok refused list h = one_division ok.list.divided h.divided
lexed_as bytes (Err (errors.Refused refusal)) ok refused list h = divided_or_stopped h.divided (stopped_short bytes refusal.at refusal.rule refused h.short)
lexed_as bytes (Err errors.NoMemory) ok refused list h = tt

pub refused_as : (bytes : List ℕ) (result : Result Tokens LexError) → IfOk result (AreTokensOf bytes) → IfErr result (RefusedBy (HasNoTokens bytes)) → (at : Place) (rule : Rule) → HasNoTokens bytes at rule → IsRefusedAs at rule result
refused_as bytes (Ok tokens) ok refused at rule h = divided_or_stopped ok.list.divided (stopped_short bytes at rule h ok.list.short)
refused_as bytes (Err (errors.Refused refusal)) ok refused at rule h = let one = one_refusal bytes refusal.at at refusal.rule rule refused h in (one.same_at, one.same_rule)
refused_as bytes (Err errors.NoMemory) ok refused at rule h = tt

pub readable_as : (bytes : List ℕ) (result : Result Tokens LexError) → IfOk result (AreTokensOf bytes) → IfOk result (λ tokens. AreReadable tokens.source tokens.list)
readable_as bytes (Ok tokens) ok = subst (λ (source : List ℕ). AreReadable source tokens.list) (sym ok.source) (are_readable bytes tokens.list ok.list)
readable_as bytes (Err error) ok = tt
