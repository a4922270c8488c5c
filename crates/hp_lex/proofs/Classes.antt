-- What a byte begins, against the texts of pieces.
use Rattle.std.proofs.Common.{◌≡◌, ℕ, ◌<◌, List, [], ◌∷◌, refl, arith, rules}
use Rattle.std.specs.Prelude.{IsTrue}
use Rattle.std.specs.List.{AllByRecursion}
use Rattle.std.specs.Char.{is_ascii_digit, digit_value}
use Rattle.std.proofs.lemmas.Str.Parse.{digit_from_value}
use Rattle.hp_script.specs.declared.token.Kind.TheVariants as kinds
use Rattle.hp_script.specs.Lexemes.{words, signs}
use Rattle.hp_script.specs.Tokens.{is_blank, begins_name, Piece, Blank, Comment, Holds, IsPiece}
use Rattle.hp_script.proofs.TokenLemmas.{contained}
use Rattle.hp_lex.specs.declared.front.Class.{Class}
use Rattle.hp_lex.specs.declared.front.Class.TheVariants as classes
use Rattle.hp_lex.specs.Fronts.{class_of}

-- what the first byte of a piece begins
abbrev pub class_of_piece : Piece → Class
class_of_piece Blank = classes.Blank
class_of_piece Comment = classes.Comment
class_of_piece (Holds kinds.Number) = classes.Number
class_of_piece (Holds kinds.Name) = classes.Word
class_of_piece (Holds kinds.Text) = classes.Text
class_of_piece (Holds kinds.Word) = classes.Word
class_of_piece (Holds kinds.Sign) = classes.Other
class_of_piece (Holds kinds.Line) = classes.Line
class_of_piece (Holds kinds.Eof) = classes.Other

-- what the first byte of a text begins
abbrev pub first_class : List ℕ → Class
first_class [] = classes.Other
first_class (byte ∷ text) = class_of byte

blank_class : (byte : ℕ) → IsTrue (is_blank byte) → class_of byte ≡ classes.Blank
blank_class byte h = grind arith

name_class : (byte : ℕ) → IsTrue (begins_name byte) → class_of byte ≡ classes.Word
name_class byte h = grind arith

number_class : (byte : ℕ) → digit_value byte < 10 → class_of byte ≡ classes.Number
number_class byte h = let d = digit_from_value byte h in grind arith

word_classes : AllByRecursion (λ text. first_class text ≡ classes.Word) words
word_classes = search rules

sign_classes : AllByRecursion (λ text. first_class text ≡ classes.Other) signs
sign_classes = search rules

first_digit : (text : List ℕ) → IsPiece (Holds kinds.Number) text → first_class text ≡ classes.Number
first_digit [] h = absurd (omega (arith, h.0))
first_digit (byte ∷ text) h = number_class byte h.1.0

-- The first byte of a piece tells its class.
pub class_of_first : (piece : Piece) (text : List ℕ) → IsPiece piece text → first_class text ≡ class_of_piece piece
class_of_first Blank text h = rw h.parts (blank_class h.byte h.blank)
class_of_first Comment text h = rw h.parts refl
class_of_first (Holds kinds.Number) text h = first_digit text h
class_of_first (Holds kinds.Name) text h = rw h.0.parts (name_class h.0.first h.0.begins)
class_of_first (Holds kinds.Text) text h = rw h.parts refl
class_of_first (Holds kinds.Word) text h = contained (λ text. first_class text ≡ classes.Word) words text h.0 word_classes h.1 h.2
class_of_first (Holds kinds.Sign) text h = contained (λ text. first_class text ≡ classes.Other) signs text h.0 sign_classes h.1 h.2
class_of_first (Holds kinds.Line) text h = rw h refl
class_of_first (Holds kinds.Eof) text h = absurd h

-- ---- from the class to the byte

pub blank_byte : (byte : ℕ) → class_of byte ≡ classes.Blank → IsTrue (is_blank byte)
blank_byte byte e = grind arith

pub comment_byte : (byte : ℕ) → class_of byte ≡ classes.Comment → byte ≡ 35
comment_byte byte e = grind arith

pub name_byte : (byte : ℕ) → class_of byte ≡ classes.Word → IsTrue (begins_name byte)
name_byte byte e = grind arith

pub number_byte : (byte : ℕ) → class_of byte ≡ classes.Number → IsTrue (is_ascii_digit byte)
number_byte byte e = grind arith

pub text_byte : (byte : ℕ) → class_of byte ≡ classes.Text → byte ≡ 34
text_byte byte e = grind arith

pub line_byte : (byte : ℕ) → class_of byte ≡ classes.Line → byte ≡ 10
line_byte byte e = grind arith
