-- The piece at the front of bytes, computed from its first byte. Nobody need believe this file: `lex` says what
-- it gives in the words of hp_script's Tokens.
use Rattle.std.specs.Prelude.{ℕ, ◌+◌, Bool, false, ◌||◌, ◌&&◌, nat_eq, nat_lt, nat_le, if◌then◌else◌, List, [], ◌∷◌, length, take, Option, Some, None, is_some, not}
use Rattle.std.specs.Option.{option_map}
use Rattle.std.specs.List.{prefix_len, slice_index}
use Rattle.std.specs.Char.{is_ascii_digit}
use Rattle.std.specs.Str.Parse.{digits_value}
use Rattle.hp_script.specs.declared.token.Kind.TheVariants as kinds
use Rattle.hp_script.specs.Lexemes.{keyword_of, sign_of}
use Rattle.hp_script.specs.Tokens.{is_blank, begins_name, goes_on_name, is_plain, is_inline, Piece, Blank, Comment, Holds}
use Rattle.hp_lex.specs.declared.front.Class.{Class}
use Rattle.hp_lex.specs.declared.front.Class.TheVariants as classes
use Rattle.hp_lex.specs.declared.front.Front.{Front}
use Rattle.hp_lex.specs.declared.front.Piece.{Piece as SeenPiece}
use Rattle.hp_lex.specs.declared.front.Piece.TheVariants as pieces

-- what a byte begins
abbrev pub class_of : ℕ → Class
class_of byte =
    if is_blank byte then classes.Blank else (if nat_eq byte 35 then classes.Comment else (if begins_name byte then classes.Word else (
    if is_ascii_digit byte then classes.Number else (if nat_eq byte 34 then classes.Text else (if nat_eq byte 10 then classes.Line else classes.Other)))))

-- the code's pieces and fronts
abbrev pub piece_of : SeenPiece → Piece
piece_of pieces.Blank = Blank
piece_of pieces.Comment = Comment
piece_of (pieces.Token kind) = Holds kind

abbrev pub front_of : Front → Piece × ℕ
front_of front = (piece_of front.piece, front.size)

-- the word or name at the front
unfoldable pub word_at : List ℕ → Piece × ℕ
word_at bytes =
    let size = prefix_len goes_on_name bytes in
    (Holds (if is_some (keyword_of (take size bytes)) then kinds.Word else kinds.Name), size)

-- whether a quote stands at a position
abbrev pub is_quote : List ℕ → ℕ → Bool
is_quote bytes at = nat_lt at (length bytes) && nat_eq (slice_index bytes at) 34

-- how long a text is with so many plain bytes behind its first quote, by whether a quote follows them
abbrev pub quoted_by : ℕ → Bool → Option ℕ
quoted_by size quote = if (nat_eq size 0 || nat_lt 255 size) || not quote then None else Some (size + 2)

-- how long the text is whose first quote stands before the bytes
unfoldable pub quoted_at : List ℕ → Option ℕ
quoted_at bytes = quoted_by (prefix_len is_plain bytes) (is_quote bytes (prefix_len is_plain bytes))

-- whether so many bytes at the front are a sign
unfoldable pub is_sign_at : List ℕ → ℕ → Bool
is_sign_at bytes size = nat_le size (length bytes) && is_some (sign_of (take size bytes))

-- how long the longest sign is, by whether three bytes are one, two and one
abbrev pub sign_by : Bool → Bool → Bool → Option ℕ
sign_by three two one = if three then Some 3 else (if two then Some 2 else (if one then Some 1 else None))

-- how long the longest sign at the front is
unfoldable pub sign_at : List ℕ → Option ℕ
sign_at bytes = sign_by (is_sign_at bytes 3) (is_sign_at bytes 2) (is_sign_at bytes 1)

abbrev pub front_by : Class → (bytes rest : List ℕ) → Option (Piece × ℕ)
front_by classes.Blank bytes rest = Some (Blank, 1)
front_by classes.Comment bytes rest = Some (Comment, 1 + prefix_len is_inline rest)
front_by classes.Word bytes rest = Some (word_at bytes)
front_by classes.Number bytes rest = Some (Holds kinds.Number, prefix_len is_ascii_digit bytes)
front_by classes.Text bytes rest = option_map (λ size. (Holds kinds.Text, size)) (quoted_at rest)
front_by classes.Line bytes rest = Some (Holds kinds.Line, 1)
front_by classes.Other bytes rest = option_map (λ size. (Holds kinds.Sign, size)) (sign_at bytes)

-- the longest piece at the front, with its length
unfoldable pub front_at : List ℕ → Option (Piece × ℕ)
front_at [] = None
front_at (byte ∷ rest) = front_by (class_of byte) (byte ∷ rest) rest

-- whether a piece is a number above 2^63 - 1
abbrev pub is_wide : Piece → List ℕ → Bool
is_wide (Holds kinds.Number) text = nat_lt 9223372036854775807 (digits_value 10 text)
is_wide _ text = false
