-- The piece that stands first is the one that is computed, and no other.
use Rattle.std.proofs.Common.{◌≡◌, ℕ, ◌<◌, ◌≤◌, Bool, true, false, List, [], ◌++◌, length, take, drop, Option, Some, None, refl, sym, ap, subst, ◌∙◌, arith}
use Rattle.std.specs.Prelude.{is_some, if◌then◌else◌, Contains, ◌≢◌, nat_lt}
use Rattle.std.specs.Str.Parse.{digits_value}
use Rattle.std.proofs.lemmas.List.{take_at, drop_at, length-append, take-append-drop, length-take-le}
use Rattle.std.proofs.lemmas.Option.{none-some}
use Rattle.hp_script.specs.declared.token.Kind.TheVariants as kinds
use Rattle.hp_script.specs.Lexemes.{words, keyword_of}
use Rattle.hp_script.specs.Tokens.{Piece, Blank, Comment, Holds, IsPiece, IsWide, StandsFirst, BeginsWithNoPiece}
use Rattle.hp_script.proofs.TokenLemmas.{word_found, found_word, some_piece}
use Rattle.hp_lex.specs.declared.front.Class.{Class}
use Rattle.hp_lex.specs.declared.front.Class.TheVariants as classes
use Rattle.hp_lex.specs.Fronts.{front_at, is_wide}
use Rattle.hp_lex.proofs.Classes.{class_of_piece, class_of_first}
use Rattle.hp_lex.proofs.Pieces.{caught, found}

-- ---- one text is one piece

-- the piece that a text can be
piece_by : Class → List ℕ → Piece
piece_by classes.Blank text = Blank
piece_by classes.Comment text = Comment
piece_by classes.Word text = Holds (if is_some (keyword_of text) then kinds.Word else kinds.Name)
piece_by classes.Number text = Holds kinds.Number
piece_by classes.Text text = Holds kinds.Text
piece_by classes.Line text = Holds kinds.Line
piece_by classes.Other text = Holds kinds.Sign

no_word : (text : List ℕ) (b : Bool) → is_some (keyword_of text) ≡ b → ¬ Contains words text → Holds (if b then kinds.Word else kinds.Name) ≡ Holds kinds.Name
no_word text true e free = absurd (free (found_word text e))
no_word text false e free = refl

named : (piece : Piece) (text : List ℕ) → IsPiece piece text → piece_by (class_of_piece piece) text ≡ piece
unfolding piece_by
named Blank text h = refl
named Comment text h = refl
named (Holds kinds.Number) text h = refl
named (Holds kinds.Name) text h = no_word text (is_some (keyword_of text)) refl h.1
named (Holds kinds.Text) text h = refl
named (Holds kinds.Word) text h = rw (word_found text h) refl
named (Holds kinds.Sign) text h = refl
named (Holds kinds.Line) text h = refl
named (Holds kinds.Eof) text h = absurd h

one_piece : (a b : Piece) (text : List ℕ) → IsPiece a text → IsPiece b text → a ≡ b
one_piece a b text h k =
    sym (named a text h) ∙ ap (λ (c : Class). piece_by c text) (sym (class_of_first a text h) ∙ class_of_first b text k) ∙ named b text k

-- ---- the piece that stands first

some_same : {X : Type 0} {x y : X} → Some x ≡ Some y → x ≡ y
some_same e = cc

-- What is computed stands first.
pub stands : (bytes : List ℕ) (piece : Piece) (size : ℕ) → front_at bytes ≡ Some (piece, size) → StandsFirst bytes piece (take size bytes) (drop size bytes)
stands bytes piece size e =
    let f = found bytes (piece, size) e in
    let long : length (take size bytes) ≡ size = length-take-le size bytes f.within in
    record {
      parts = sym (take-append-drop size bytes);
      is_piece = f.is_piece;
      longest = λ other longer others_rest parts is. rw long (no_longer other longer others_rest parts is);
    }
  where
    no_longer : (other : Piece) (longer others_rest : List ℕ) → bytes ≡ longer ++ others_rest → IsPiece other longer → length longer ≤ size
    no_longer other longer others_rest parts is =
        let c = caught other longer others_rest is in
        let both : ◌≡◌ {A = Option (Piece × ℕ)} (Some (c.piece, c.whole)) (Some (piece, size)) = sym c.found ∙ ap front_at (sym parts) ∙ e in
        let same : c.whole ≡ size = ap (λ (x : Piece × ℕ). x.1) (some_same both) in
        omega (arith, c.long)

-- Where nothing is computed, no piece stands.
pub stands_none : (bytes : List ℕ) → bytes ≢ [] → front_at bytes ≡ None → BeginsWithNoPiece bytes
stands_none bytes some e = (
  some,
  λ piece front rest parts is.
      let c = caught piece front rest is in
      none-some _ (sym e ∙ ap front_at parts ∙ c.found),
)

-- What stands first is computed.
pub first_is : (bytes : List ℕ) (piece : Piece) (front rest : List ℕ) → StandsFirst bytes piece front rest → front_at bytes ≡ Some (piece, length front)
first_is bytes piece front rest h =
    let c = caught piece front rest h.is_piece in
    let at : front_at bytes ≡ Some (c.piece, c.whole) = ap front_at h.parts ∙ c.found in
    let f = found bytes (c.piece, c.whole) at in
    let long : length (take c.whole bytes) ≡ c.whole = length-take-le c.whole bytes f.within in
    let le = h.longest c.piece (take c.whole bytes) (drop c.whole bytes) (sym (take-append-drop c.whole bytes)) f.is_piece in
    let same : c.whole ≡ length front = omega (arith, c.long) in
    let text : take c.whole bytes ≡ front = ap (λ (n : ℕ). take n bytes) same ∙ ap (take (length front)) h.parts ∙ take_at front rest (length front) refl in
    let is : IsPiece c.piece front = subst (IsPiece c.piece) text f.is_piece in
    at ∙ rw (one_piece c.piece piece front is h.is_piece, same) refl

-- where one piece stands first, some piece does
pub no_none : (bytes : List ℕ) (piece : Piece) (front rest : List ℕ) → StandsFirst bytes piece front rest → BeginsWithNoPiece bytes → ⊥
no_none bytes piece front rest h none = none.1 piece front rest h.parts h.is_piece

-- two pieces that stand first are one
pub record IsSameFirst (piece other : Piece) (front others_front rest others_rest : List ℕ) : Type 0 where
  pub same_piece : piece ≡ other
  pub same_front : front ≡ others_front
  pub same_rest : rest ≡ others_rest

pub one_first : (bytes : List ℕ) (piece other : Piece) (front others_front rest others_rest : List ℕ)
    → StandsFirst bytes piece front rest → StandsFirst bytes other others_front others_rest → IsSameFirst piece other front others_front rest others_rest
one_first bytes piece other front others_front rest others_rest h k =
    let both : ◌≡◌ {A = Option (Piece × ℕ)} (Some (piece, length front)) (Some (other, length others_front)) = sym (first_is bytes piece front rest h) ∙ first_is bytes other others_front others_rest k in
    let same : piece ≡ other = ap (λ (x : Piece × ℕ). x.0) (some_same both) in
    let size : length front ≡ length others_front = ap (λ (x : Piece × ℕ). x.1) (some_same both) in
    let f : take (length front) bytes ≡ front = ap (take (length front)) h.parts ∙ take_at front rest (length front) refl in
    let g : take (length others_front) bytes ≡ others_front = ap (take (length others_front)) k.parts ∙ take_at others_front others_rest (length others_front) refl in
    let r : drop (length front) bytes ≡ rest = ap (drop (length front)) h.parts ∙ drop_at front rest (length front) refl in
    let s : drop (length others_front) bytes ≡ others_rest = ap (drop (length others_front)) k.parts ∙ drop_at others_front others_rest (length others_front) refl in
    record {
      same_piece = same;
      same_front = sym f ∙ ap (λ (n : ℕ). take n bytes) size ∙ g;
      same_rest = sym r ∙ ap (λ (n : ℕ). drop n bytes) size ∙ s;
    }

-- no piece stands first in no bytes
pub no_first : (piece : Piece) (front rest : List ℕ) → StandsFirst [] piece front rest → ⊥
no_first piece front rest h = absurd (omega (arith, some_piece piece front h.is_piece, ap length h.parts, length-append front rest))

-- ---- wide numbers

pub wide : (piece : Piece) (text : List ℕ) → is_wide piece text ≡ true → IsWide piece text
wide (Holds kinds.Number) text e = above 9223372036854775807 (digits_value 10 text) e
  where
    above : (greatest value : ℕ) → nat_lt greatest value ≡ true → greatest < value
    above greatest value e = grind arith
wide (Holds kinds.Name) text e = absurd cc
wide (Holds kinds.Text) text e = absurd cc
wide (Holds kinds.Word) text e = absurd cc
wide (Holds kinds.Sign) text e = absurd cc
wide (Holds kinds.Line) text e = absurd cc
wide (Holds kinds.Eof) text e = absurd cc
wide Blank text e = absurd cc
wide Comment text e = absurd cc

pub narrow : (piece : Piece) (text : List ℕ) → is_wide piece text ≡ false → ¬ IsWide piece text
narrow (Holds kinds.Number) text e = below 9223372036854775807 (digits_value 10 text) e
  where
    below : (greatest value : ℕ) → nat_lt greatest value ≡ false → ¬ (greatest < value)
    below greatest value e = λ h. grind arith
narrow (Holds kinds.Name) text e = λ h. absurd h
narrow (Holds kinds.Text) text e = λ h. absurd h
narrow (Holds kinds.Word) text e = λ h. absurd h
narrow (Holds kinds.Sign) text e = λ h. absurd h
narrow (Holds kinds.Line) text e = λ h. absurd h
narrow (Holds kinds.Eof) text e = λ h. absurd h
narrow Blank text e = λ h. absurd h
narrow Comment text e = λ h. absurd h
