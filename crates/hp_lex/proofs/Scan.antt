-- What a scan of the bytes has found, piece by piece.
use Rattle.std.proofs.Common.{◌≡◌, ℕ, ◌+◌, ◌-◌, ◌<◌, ◌≤◌, Bool, true, false, List, [], ◌∷◌, ◌++◌, length, take, drop, Option, Some, None, sym, ap, subst, ◌∙◌, append_assoc, arith}
use Rattle.std.specs.Prelude.{◌≢◌, if◌then◌else◌, nat_eq}
use Rattle.std.proofs.lemmas.List.{drop-drop, drop_all, length-drop, length-take-le, take_rest}
use Rattle.hp_word.specs.declared.place.Place.{Place}
use Rattle.hp_script.specs.declared.rule.Rule.{Rule}
use Rattle.hp_script.specs.declared.rule.Rule.TheVariants as rules
use Rattle.hp_script.specs.declared.token.Kind.TheVariants as kinds
use Rattle.hp_script.specs.declared.token.Token.{Token}
use Rattle.hp_script.specs.Tokens.{Piece, IsPiece, token_of, behind, first_place, Divides, Ends, GoesOn, StopsAt, NoPiece, TooWide, Later, HasTokens, HasNoTokens}
use Rattle.hp_script.proofs.TokenLemmas.{some_piece}
use Rattle.hp_lex.specs.Fronts.{front_at, is_wide}
use Rattle.hp_lex.proofs.Pieces.{found}
use Rattle.hp_lex.proofs.Longest.{stands, stands_none, wide, narrow}

-- The first `from` bytes are divided into pieces with these tokens, and the scan stands at this place.
pub record HasScanned (bytes : List ℕ) (from : ℕ) (at : Place) (list : List Token) : Type 0 where
  pub within : from ≤ length bytes
  pub line : at.line ≤ from + 1
  pub col : at.col ≤ from + 1
  pub divided : (more : List Token) → Divides from at (drop from bytes) more → Divides 0 first_place bytes (list ++ more)
  pub stopped : (stop : Place) (rule : Rule) → StopsAt at (drop from bytes) stop rule → StopsAt first_place bytes stop rule

pub scan_none : (bytes : List ℕ) → HasScanned bytes 0 first_place []
scan_none bytes = record { within = omega arith; line = omega arith; col = omega arith; divided = λ more d. d; stopped = λ stop rule d. d }

-- ---- places

-- no place counts more than the bytes before it
abbrev IsNear : Place → List ℕ → Type 0
IsNear at text = ((behind at text).line ≤ at.line + length text) × ((behind at text).col ≤ at.col + length text)

-- the place behind a byte, by whether it is a newline
abbrev next_place : Place → Bool → Place
next_place at newline = if newline then record { line = at.line + 1; col = 1 } else record { line = at.line; col = at.col + 1 }

next_near : (at : Place) (newline : Bool) → ((next_place at newline).line ≤ at.line + 1) × ((next_place at newline).col ≤ at.col + 1)
next_near at true = (omega arith, omega arith)
next_near at false = (omega arith, omega arith)

pub behind_near : (at : Place) (text : List ℕ) → IsNear at text
behind_near at [] = (omega arith, omega arith)
behind_near at (byte ∷ text) =
    let n = behind_near (next_place at (nat_eq byte 10)) text in
    let s = next_near at (nat_eq byte 10) in
    (omega arith, omega arith)

-- ---- a piece more

left_over : (bytes : List ℕ) (from : ℕ) → from < length bytes → drop from bytes ≢ []
left_over bytes from lt e = absurd (omega (arith, length-drop from bytes, ap length e))

-- what the code computes of the bytes from a position on
pub front_from : (bytes : List ℕ) (from : ℕ) (x : Option (Piece × ℕ)) → x ≡ front_at (take (length bytes - from) (drop from bytes)) → front_at (drop from bytes) ≡ x
front_from bytes from x e = ap front_at (sym (take_rest bytes from)) ∙ sym e

-- the piece that is computed, with its text
pub front_text : (bytes : List ℕ) (from : ℕ) (piece : Piece) (size : ℕ) → front_at (drop from bytes) ≡ Some (piece, size) → IsPiece piece (take size (drop from bytes))
front_text bytes from piece size e = (found (drop from bytes) (piece, size) e).is_piece

pub scan_more : (bytes : List ℕ) (from : ℕ) (at : Place) (list : List Token) (piece : Piece) (size : ℕ) → HasScanned bytes from at list → front_at (drop from bytes) ≡ Some (piece, size)
    → is_wide piece (take size (drop from bytes)) ≡ false
    → HasScanned bytes (from + size) (behind at (take size (drop from bytes))) (list ++ token_of piece at from (from + size))
scan_more bytes from at list piece size h e fits =
    let rest : List ℕ = drop from bytes in
    let text : List ℕ = take size rest in
    let f = found rest (piece, size) e in
    let long : length text ≡ size = length-take-le size rest f.within in
    let left = length-drop from bytes in
    let near = behind_near at text in
    let first = stands rest piece size e in
    let slim = narrow piece text fits in
    let after : drop size rest ≡ drop (from + size) bytes = drop-drop size from bytes in
    record {
      within = omega (arith, h.within, f.within);
      line = omega (arith, h.line, near.0);
      col = omega (arith, h.col, near.1);
      divided = λ more d.
          let level : Divides (from + size) (behind at text) (drop size rest) more = subst (λ (r : List ℕ). Divides (from + size) (behind at text) r more) (sym after) d in
          let here : Divides (from + length text) (behind at text) (drop size rest) more = subst (λ (n : ℕ). Divides (from + n) (behind at text) (drop size rest) more) (sym long) level in
          let whole : Divides from at rest (token_of piece at from (from + length text) ++ more) = GoesOn from at rest piece text (drop size rest) more first slim here in
          let sized : Divides from at rest (token_of piece at from (from + size) ++ more) = subst (λ (n : ℕ). Divides from at rest (token_of piece at from (from + n) ++ more)) long whole in
          subst (λ (ts : List Token). Divides 0 first_place bytes ts) (sym (append_assoc list (token_of piece at from (from + size)) more)) (h.divided (token_of piece at from (from + size) ++ more) sized);
      stopped = λ stop rule d.
          let level : StopsAt (behind at text) (drop size rest) stop rule = subst (λ (r : List ℕ). StopsAt (behind at text) r stop rule) (sym after) d in
          h.stopped stop rule (Later at rest piece text (drop size rest) stop rule first slim level);
    }

-- ---- the end, and where a scan stops

pub scan_ends : (bytes : List ℕ) (from : ℕ) (at : Place) (list : List Token) → HasScanned bytes from at list → length bytes ≤ from → length bytes ≤ 65536
    → HasTokens bytes (list ++ record { kind = kinds.Eof; at = at; from = from; until = from } ∷ [])
scan_ends bytes from at list h end short =
    let here : Divides from at (drop from bytes) (record { kind = kinds.Eof; at = at; from = from; until = from } ∷ []) =
    subst (λ (r : List ℕ). Divides from at r (record { kind = kinds.Eof; at = at; from = from; until = from } ∷ [])) (sym (drop_all from bytes end)) (Ends from at) in
    record { short = short; divided = h.divided (record { kind = kinds.Eof; at = at; from = from; until = from } ∷ []) here }

pub scan_bad : (bytes : List ℕ) (from : ℕ) (at : Place) (list : List Token) → HasScanned bytes from at list → from < length bytes → length bytes ≤ 65536
    → front_at (drop from bytes) ≡ None → HasNoTokens bytes at rules.BadByte
scan_bad bytes from at list h lt short e = (short, h.stopped at rules.BadByte (NoPiece at (drop from bytes) (stands_none (drop from bytes) (left_over bytes from lt) e)))

pub scan_wide : (bytes : List ℕ) (from : ℕ) (at : Place) (list : List Token) (piece : Piece) (size : ℕ) → HasScanned bytes from at list → length bytes ≤ 65536
    → front_at (drop from bytes) ≡ Some (piece, size) → is_wide piece (take size (drop from bytes)) ≡ true → HasNoTokens bytes at rules.WideNumber
scan_wide bytes from at list piece size h short e large =
    (short, h.stopped at rules.WideNumber (TooWide at (drop from bytes) piece (take size (drop from bytes)) (drop size (drop from bytes)) (stands (drop from bytes) piece size e) (wide piece (take size (drop from bytes)) large)))

-- a piece takes a byte at least
pub scan_further : (bytes : List ℕ) (piece : Piece) (size : ℕ) → front_at bytes ≡ Some (piece, size) → 0 < size
scan_further bytes piece size e =
    let f = found bytes (piece, size) e in
    omega (arith, some_piece piece (take size bytes) f.is_piece, length-take-le size bytes f.within)
