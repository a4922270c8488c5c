-- Which bytes of a script are which token.
use Rattle.std.specs.Prelude.{ℕ, ◌+◌, ◌<◌, ◌≤◌, ◌≡◌, ◌≢◌, ◌||◌, ◌&&◌, if◌then◌else◌, Bool, List, [], ◌∷◌, ◌++◌, length, codes, IsTrue, nat_eq, nat_lt, nat_le, Contains}
use Rattle.std.specs.List.{AllByRecursion}
use Rattle.std.specs.Char.{is_ascii_alphabetic, is_ascii_digit}
use Rattle.std.specs.Str.Parse.{IsNumeral, digits_value}
use Rattle.hp_word.specs.declared.place.Place.{Place}
use Rattle.hp_script.specs.Lexemes.{words, signs}
use Rattle.hp_script.specs.declared.rule.Rule.{Rule}
use Rattle.hp_script.specs.declared.rule.Rule.TheVariants as rules
use Rattle.hp_script.specs.declared.token.Kind.{Kind}
use Rattle.hp_script.specs.declared.token.Kind.TheVariants as kinds
use Rattle.hp_script.specs.declared.token.Token.{Token}

-- ---- bytes

-- a letter or `_`
abbrev pub begins_name : ℕ → Bool
begins_name byte = is_ascii_alphabetic byte || nat_eq byte 95

-- a letter, a digit or `_`
abbrev pub goes_on_name : ℕ → Bool
goes_on_name byte = begins_name byte || is_ascii_digit byte

-- a blank, a tab or a carriage return
abbrev pub is_blank : ℕ → Bool
is_blank byte = nat_eq byte 32 || (nat_eq byte 9 || nat_eq byte 13)

-- a byte from 32 to 126 other than `"` and `\`
abbrev pub is_plain : ℕ → Bool
is_plain byte = (nat_lt 31 byte && nat_lt byte 127) && ((nat_lt byte 34 || nat_lt 34 byte) && (nat_lt byte 92 || nat_lt 92 byte))

-- no newline
abbrev pub is_inline : ℕ → Bool
is_inline byte = nat_lt byte 10 || nat_lt 10 byte

-- ---- texts of tokens

-- a letter or `_`, then letters, digits and `_`
pub record IsIdentifier (text : List ℕ) : Type 0 where
  pub first : ℕ
  pub rest : List ℕ
  pub parts : text ≡ first ∷ rest
  pub begins : IsTrue (begins_name first)
  pub goes_on : AllByRecursion (λ byte. IsTrue (goes_on_name byte)) rest

-- 1 to 255 plain bytes in quotes
pub record IsQuoted (text : List ℕ) : Type 0 where
  pub body : List ℕ
  pub parts : text ≡ 34 ∷ body ++ 34 ∷ []
  pub some : 0 < length body
  pub short : length body < 256
  pub plain : AllByRecursion (λ byte. IsTrue (is_plain byte)) body

-- The bytes are the text of a token of this kind.
abbrev pub IsTextOf : Kind → List ℕ → Type 0
IsTextOf kinds.Number text = IsNumeral 10 text
IsTextOf kinds.Name text = IsIdentifier text × ¬ Contains words text
IsTextOf kinds.Text text = IsQuoted text
IsTextOf kinds.Word text = Contains words text
IsTextOf kinds.Sign text = Contains signs text
IsTextOf kinds.Line text = text ≡ codes "\n"
IsTextOf kinds.Eof text = ⊥

-- `#` and bytes without a newline
pub record IsComment (text : List ℕ) : Type 0 where
  pub body : List ℕ
  pub parts : text ≡ 35 ∷ body
  pub inline : AllByRecursion (λ byte. IsTrue (is_inline byte)) body

-- one byte that parts tokens
pub record IsBlank (text : List ℕ) : Type 0 where
  pub byte : ℕ
  pub parts : text ≡ byte ∷ []
  pub blank : IsTrue (is_blank byte)

-- a piece of a script: what stands between tokens, or a token
pub data Piece : Type 0 where
  Blank : Piece
  Comment : Piece
  Holds : Kind → Piece

abbrev pub IsPiece : Piece → List ℕ → Type 0
IsPiece Blank text = IsBlank text
IsPiece Comment text = IsComment text
IsPiece (Holds kind) text = IsTextOf kind text

-- The longest piece counts: `front` is this piece, and no longer front of the bytes is a piece.
pub record StandsFirst (bytes : List ℕ) (piece : Piece) (front rest : List ℕ) : Type 0 where
  pub parts : bytes ≡ front ++ rest
  pub is_piece : IsPiece piece front
  pub longest : (other : Piece) (longer others_rest : List ℕ) → bytes ≡ longer ++ others_rest → IsPiece other longer → length longer ≤ length front

-- the bytes begin with no piece
abbrev pub BeginsWithNoPiece : List ℕ → Type 0
BeginsWithNoPiece bytes = (bytes ≢ []) × ((piece : Piece) (front rest : List ℕ) → bytes ≡ front ++ rest → ¬ IsPiece piece front)

-- ---- places

-- the place behind a text that begins at a place: columns count bytes, and a newline begins the next line
abbrev pub behind : Place → List ℕ → Place
behind at [] = at
behind at (byte ∷ text) = behind (if nat_eq byte 10 then record { line = at.line + 1; col = 1 } else record { line = at.line; col = at.col + 1 }) text

-- the place of the first byte
abbrev pub first_place : Place
first_place = record { line = 1; col = 1 }

-- ---- the tokens of a script

-- a number above 2^63 - 1
abbrev pub IsWide : Piece → List ℕ → Type 0
IsWide (Holds kinds.Number) text = 9223372036854775807 < digits_value 10 text
IsWide _ text = ⊥

-- the token that a piece is, where it is one
abbrev pub token_of : Piece → Place → (from until : ℕ) → List Token
token_of (Holds kind) at from until = record { kind = kind; at = at; from = from; until = until } ∷ []
token_of _ at from until = []

-- The bytes, which begin at the byte `from` of the script and at this place, divide into pieces with these
-- tokens, of which the last is the end of the script.
pub data Divides : (from : ℕ) (at : Place) → List ℕ → List Token → Type 0 where
  Ends : (from : ℕ) (at : Place) → Divides from at [] (record { kind = kinds.Eof; at = at; from = from; until = from } ∷ [])
  GoesOn : (from : ℕ) (at : Place) (bytes : List ℕ) (piece : Piece) (front rest : List ℕ) (tokens : List Token)
      → StandsFirst bytes piece front rest → ¬ IsWide piece front
      → Divides (from + length front) (behind at front) rest tokens
      → Divides from at bytes (token_of piece at from (from + length front) ++ tokens)

-- The bytes, which begin at this place, divide into pieces up to `stop`, where no piece begins, or a number
-- that is too wide.
pub data StopsAt : (at : Place) → List ℕ → (stop : Place) → Rule → Type 0 where
  NoPiece : (at : Place) (bytes : List ℕ) → BeginsWithNoPiece bytes → StopsAt at bytes at rules.BadByte
  TooWide : (at : Place) (bytes : List ℕ) (piece : Piece) (front rest : List ℕ) → StandsFirst bytes piece front rest → IsWide piece front
      → StopsAt at bytes at rules.WideNumber
  Later : (at : Place) (bytes : List ℕ) (piece : Piece) (front rest : List ℕ) (stop : Place) (rule : Rule)
      → StandsFirst bytes piece front rest → ¬ IsWide piece front
      → StopsAt (behind at front) rest stop rule → StopsAt at bytes stop rule

-- A script of at most 65,536 bytes has these tokens.
pub record HasTokens (bytes : List ℕ) (tokens : List Token) : Type 0 where
  pub short : length bytes ≤ 65536
  pub divided : Divides 0 first_place bytes tokens

-- A script has no tokens: it is too long, which counts at its first byte, or some place holds no piece or too
-- wide a number.
abbrev pub HasNoTokens : List ℕ → Place → Rule → Type 0
HasNoTokens bytes at rules.TooLongScript = (65536 < length bytes) × (at ≡ first_place)
HasNoTokens bytes at rule = (length bytes ≤ 65536) × StopsAt first_place bytes at rule

-- ---- spans

-- whether the tokens' texts stand one after the other in the bytes from `from` up to `until`
abbrev pub are_spans : (from until : ℕ) → List Token → Bool
are_spans from until [] = nat_le from until
are_spans from until (token ∷ tokens) = (nat_le from token.from && nat_le token.from token.until) && are_spans token.until until tokens
