-- Each list of bytes has tokens, or a first place that has none.
use Rattle.std.proofs.Common.{◌≡◌, ℕ, zero, suc, ◌+◌, ◌<◌, ◌≤◌, inl, inr, Bool, true, false, List, [], ◌∷◌, ◌++◌, length, take, drop, Option, Some, None, refl, arith}
use Rattle.std.specs.Prelude.{◌≢◌}
use Rattle.std.proofs.lemmas.List.{length-drop}
use Rattle.hp_word.specs.declared.place.Place.{Place}
use Rattle.hp_script.specs.declared.rule.Rule.{Rule}
use Rattle.hp_script.specs.declared.rule.Rule.TheVariants as rules
use Rattle.hp_script.specs.declared.rule.Refusal.{Refusal}
use Rattle.hp_script.specs.declared.token.Token.{Token}
use Rattle.hp_script.specs.declared.token.Kind.TheVariants as kinds
use Rattle.hp_script.specs.OneOfTwo.{OneOfTwo, first_alone, second_alone}
use Rattle.hp_script.specs.Tokens.{Piece, StandsFirst, IsWide, token_of, behind, first_place, Divides, Ends, GoesOn, StopsAt, NoPiece, TooWide, Later, HasTokens}
use Rattle.hp_lex.specs.Fronts.{front_at, is_wide}
use Rattle.hp_lex.specs.Lexing.{IsUnlexed}
use Rattle.hp_lex.proofs.Divisions.{IsSameStop, one_division, divided_or_stopped, stopped_short, one_refusal, fits_or_not}
use Rattle.hp_lex.proofs.Longest.{stands, stands_none, wide, narrow}
use Rattle.hp_lex.proofs.Scan.{scan_further}

-- The bytes from here on divide into pieces, or stop at some place.
data Ended (from : ℕ) (at : Place) (bytes : List ℕ) : Type 0 where
  divides : (tokens : List Token) → Divides from at bytes tokens → Ended from at bytes
  stops : (stop : Place) (rule : Rule) → StopsAt at bytes stop rule → Ended from at bytes

-- behind a piece that stands first and is not too wide
behind_piece : (from : ℕ) (at : Place) (bytes : List ℕ) (piece : Piece) (front rest : List ℕ) → StandsFirst bytes piece front rest → ¬ IsWide piece front
    → Ended (from + length front) (behind at front) rest → Ended from at bytes
behind_piece from at bytes piece front rest first slim (divides tokens d) =
    divides (token_of piece at from (from + length front) ++ tokens) (GoesOn from at bytes piece front rest tokens first slim d)
behind_piece from at bytes piece front rest first slim (stops stop rule d) = stops stop rule (Later at bytes piece front rest stop rule first slim d)

-- by whether the piece is too wide a number
piece_ends : (from : ℕ) (at : Place) (bytes : List ℕ) (piece : Piece) (front rest : List ℕ) (b : Bool) → is_wide piece front ≡ b → StandsFirst bytes piece front rest
    → Ended (from + length front) (behind at front) rest → Ended from at bytes
piece_ends from at bytes piece front rest true large first more = stops at rules.WideNumber (TooWide at bytes piece front rest first (wide piece front large))
piece_ends from at bytes piece front rest false fits first more = behind_piece from at bytes piece front rest first (narrow piece front fits) more

-- by the piece that is computed at the front, with what is known of shorter bytes
front_ends : (from : ℕ) (at : Place) (bytes : List ℕ) (found : Option (Piece × ℕ)) → front_at bytes ≡ found → bytes ≢ []
    → ((from : ℕ) (at : Place) (rest : List ℕ) → length rest < length bytes → Ended from at rest) → Ended from at bytes
front_ends from at bytes None e some shorter = stops at rules.BadByte (NoPiece at bytes (stands_none bytes some e))
front_ends from at bytes (Some (piece, size)) e some shorter =
    let text : List ℕ = take size bytes in
    let less : length (drop size bytes) < length bytes = omega (arith, length-drop size bytes, scan_further bytes piece size e, some_byte bytes some) in
    piece_ends from at bytes piece text (drop size bytes) (is_wide piece text) refl (stands bytes piece size e) (shorter (from + length text) (behind at text) (drop size bytes) less)
  where
    some_byte : (bytes : List ℕ) → bytes ≢ [] → 0 < length bytes
    some_byte [] some = absurd (some refl)
    some_byte (byte ∷ rest) some = omega arith

not_none : (byte : ℕ) (rest : List ℕ) → (byte ∷ rest) ≢ []
not_none byte rest e = cc

-- bytes of fewer than so many
ends : (n : ℕ) (from : ℕ) (at : Place) (bytes : List ℕ) → length bytes < n → Ended from at bytes
ends zero from at bytes less = absurd (omega (arith, less))
ends (suc n) from at [] less = divides (record { kind = kinds.Eof; at = at; from = from; until = from } ∷ []) (Ends from at)
ends (suc n) from at (byte ∷ rest) less =
    front_ends from at (byte ∷ rest) (front_at (byte ∷ rest)) refl (not_none byte rest)
    (λ from at others shorter. ends n from at others (omega (arith, less, shorter)))

-- ---- the law

same_refusal : (at others_at : Place) (rule others_rule : Rule) → IsSameStop at rule others_at others_rule
    → ◌≡◌ {A = Refusal} (record { at = at; rule = rule }) (record { at = others_at; rule = others_rule })
same_refusal at others_at rule others_rule same = rw (same.same_at, same.same_rule) refl

-- bytes that have tokens
with_tokens : (bytes : List ℕ) (tokens : List Token) → HasTokens bytes tokens → OneOfTwo (HasTokens bytes) (IsUnlexed bytes)
with_tokens bytes tokens has =
    first_alone tokens has (λ other h. one_division h.divided has.divided)
    (λ refusal none. divided_or_stopped has.divided (stopped_short bytes refusal.at refusal.rule none has.short))

-- bytes that have none
without_tokens : (bytes : List ℕ) (refusal : Refusal) → IsUnlexed bytes refusal → ((tokens : List Token) → ¬ HasTokens bytes tokens)
    → OneOfTwo (HasTokens bytes) (IsUnlexed bytes)
without_tokens bytes refusal none no_tokens =
    second_alone refusal none
    (λ other h. same_refusal other.at refusal.at other.rule refusal.rule (one_refusal bytes other.at refusal.at other.rule refusal.rule h none))
    no_tokens

-- the stop of bytes that are not too long is why they have no tokens
stop_counts : (bytes : List ℕ) (at : Place) (rule : Rule) → length bytes ≤ 65536 → StopsAt first_place bytes at rule → IsUnlexed bytes (record { at = at; rule = rule })
stop_counts bytes at rules.TooLongScript short d = absurd (no_length d refl)
  where
    no_length : {place : Place} {bytes : List ℕ} {stop : Place} {rule : Rule} → StopsAt place bytes stop rule → rule ≡ rules.TooLongScript → ⊥
    no_length (NoPiece at bytes none) e = cc
    no_length (TooWide at bytes piece front rest first wide) e = cc
    no_length (Later at bytes piece front rest stop rule first narrow more) e = no_length more e
stop_counts bytes at _ short d = (short, d)

-- bytes that are not too long
short_ends : (bytes : List ℕ) → length bytes ≤ 65536 → Ended 0 first_place bytes → OneOfTwo (HasTokens bytes) (IsUnlexed bytes)
short_ends bytes short (divides tokens d) = with_tokens bytes tokens (record { short = short; divided = d })
short_ends bytes short (stops stop rule d) =
    without_tokens bytes (record { at = stop; rule = rule }) (stop_counts bytes stop rule short d) (λ tokens has. divided_or_stopped has.divided d)

-- Each list of bytes has one list of tokens, or one refusal.
pub one_of_two : (bytes : List ℕ) → OneOfTwo (HasTokens bytes) (IsUnlexed bytes)
one_of_two bytes =
    elim (fits_or_not (length bytes) 65536) [
      | inl short ↦ short_ends bytes short (ends (suc (length bytes)) 0 first_place bytes (omega arith))
      | inr long ↦ without_tokens bytes (record { at = first_place; rule = rules.TooLongScript }) (long, refl)
          (λ tokens has. absurd (omega (arith, long, has.short)))
    ]
