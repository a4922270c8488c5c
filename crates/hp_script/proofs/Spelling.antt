-- How each lexeme is spelled in the canonical text, and that its spelling is the longest piece at its place. Nobody
-- need believe the definitions here.
use Rattle.std.proofs.Common.{◌≡◌, ℕ, zero, suc, ◌^◌, ◌<◌, ◌≤◌, ℤ, pos, Bool, true, false, List, [], ◌∷◌, ◌++◌, length, get_or, Some, refl, sym, ap, subst, ◌∙◌, append_assoc, arith, rules}
use Rattle.std.specs.Prelude.{IsTrue, Contains, codes, nat_eq, nat_lt, if◌then◌else◌}
use Rattle.std.specs.List.{AllByRecursion}
use Rattle.std.specs.Fmt.{signed_decimal}
use Rattle.std.specs.Char.{is_ascii_digit, digit_value}
use Rattle.std.specs.Str.Parse.{AllDigits, IsNumeral, digits_value}
use Rattle.std.proofs.lemmas.Str.Parse.{digit_from_value}
use Rattle.std.proofs.lemmas.Fmt.{decimal_is_IsNumeral}
use Rattle.std.proofs.lemmas.List.{length-append}
use Rattle.hp_script.specs.declared.token.Kind.{Kind}
use Rattle.hp_script.specs.declared.token.Kind.TheVariants as kinds
use Rattle.hp_script.specs.declared.token.Keyword.{Keyword}
use Rattle.hp_script.specs.declared.token.Keyword.TheVariants as keywords
use Rattle.hp_script.specs.declared.token.Sign.{Sign}
use Rattle.hp_script.specs.declared.token.Sign.TheVariants as marks
use Rattle.hp_script.specs.Lexemes.{words, signs, sign_of, Lexeme, Numeral, Identifier, Quoted, Word, Mark, Newline}
use Rattle.hp_script.specs.Tokens.{is_blank, begins_name, goes_on_name, is_plain, Piece, Blank, Comment, Holds, IsPiece, IsIdentifier, IsTextOf, StandsFirst}
use Rattle.hp_script.specs.Printing.{symbol, dot}
use Rattle.hp_script.proofs.TestLemmas.{not_both}

-- ---- spellings

abbrev pub sign_text : Sign → List ℕ
sign_text (marks.Operator op dotted) = dot dotted ++ symbol op
sign_text (marks.Not dotted) = dot dotted ++ codes "!"
sign_text marks.Assign = codes "="
sign_text marks.Arrow = codes "->"
sign_text marks.Open = codes "("
sign_text marks.Close = codes ")"
sign_text marks.OpenIndex = codes "["
sign_text marks.CloseIndex = codes "]"
sign_text marks.Comma = codes ","
sign_text marks.Colon = codes ":"
sign_text marks.Dot = codes "."

abbrev pub keyword_text : Keyword → List ℕ
keyword_text keywords.If = codes "if"
keyword_text keywords.Else = codes "else"
keyword_text keywords.End = codes "end"
keyword_text keywords.While = codes "while"
keyword_text keywords.True = codes "true"
keyword_text keywords.False = codes "false"
keyword_text keywords.Println = codes "println"
keyword_text keywords.WriteCsv = codes "write_csv"

abbrev pub spelling : Lexeme → List ℕ
spelling (Numeral value) = signed_decimal value
spelling (Identifier bytes) = bytes
spelling (Quoted bytes) = codes "\"" ++ bytes ++ codes "\""
spelling (Word word) = keyword_text word
spelling (Mark sign) = sign_text sign
spelling Newline = codes "\n"

abbrev pub kind_of : Lexeme → Kind
kind_of (Numeral value) = kinds.Number
kind_of (Identifier bytes) = kinds.Name
kind_of (Quoted bytes) = kinds.Text
kind_of (Word word) = kinds.Word
kind_of (Mark sign) = kinds.Sign
kind_of Newline = kinds.Line

-- a sign that a token can be
pub record IsSigned (sign : Sign) : Type 0 where
  pub is_sign : Contains signs (sign_text sign)
  pub back : sign_of (sign_text sign) ≡ Some sign

-- what a token of a source can say
abbrev pub Sayable : Lexeme → Type 0
Sayable (Numeral value) = (n : ℕ) × (value ≡ pos n) × (n ≤ 9223372036854775807)
Sayable (Identifier bytes) = IsIdentifier bytes × ¬ Contains words bytes
Sayable (Quoted bytes) = (0 < length bytes) × (length bytes < 256) × AllByRecursion (λ byte. IsTrue (is_plain byte)) bytes
Sayable (Word word) = Unit {0}
Sayable (Mark sign) = IsSigned sign
Sayable Newline = Unit {0}

-- ---- classes of bytes

pub data Class : Type 0 where
  Letter : Class
  Digit : Class
  Quote : Class
  Hash : Class
  Gap : Class
  Break : Class
  Other : Class

abbrev pub class_of : ℕ → Class
class_of byte =
    if is_blank byte then Gap
    else (if nat_eq byte 10 then Break
    else (if nat_eq byte 34 then Quote
    else (if nat_eq byte 35 then Hash
    else (if is_ascii_digit byte then Digit
    else (if begins_name byte then Letter else Other)))))

abbrev pub first_class : List ℕ → Class
first_class [] = Other
first_class (byte ∷ text) = class_of byte

abbrev class_of_piece : Piece → Class
class_of_piece Blank = Gap
class_of_piece Comment = Hash
class_of_piece (Holds kinds.Number) = Digit
class_of_piece (Holds kinds.Name) = Letter
class_of_piece (Holds kinds.Text) = Quote
class_of_piece (Holds kinds.Word) = Letter
class_of_piece (Holds kinds.Sign) = Other
class_of_piece (Holds kinds.Line) = Break
class_of_piece (Holds kinds.Eof) = Other

pub of_all : {X : Type 0} (P : X → Type 0) (xs : List X) (x : X) (k : ℕ) → AllByRecursion P xs → k < length xs → get_or xs k x ≡ x → P x
of_all P [] x k all lt e = absurd (omega arith)
of_all P (y ∷ xs) x zero all lt e = subst P e all.0
of_all P (y ∷ xs) x (suc k) all lt e = of_all P xs x k all.1 (omega arith) e

gap_class : (byte : ℕ) → IsTrue (is_blank byte) → class_of byte ≡ Gap
gap_class byte h = grind arith

name_class : (byte : ℕ) → IsTrue (begins_name byte) → class_of byte ≡ Letter
name_class byte h = grind arith

number_class : (byte : ℕ) → digit_value byte < 10 → class_of byte ≡ Digit
number_class byte h = let d = digit_from_value byte h in grind arith

word_classes : AllByRecursion (λ text. first_class text ≡ Letter) words
word_classes = search rules

sign_classes : AllByRecursion (λ text. first_class text ≡ Other) signs
sign_classes = search rules

first_digit : (text : List ℕ) → IsNumeral 10 text → first_class text ≡ Digit
first_digit [] h = absurd (omega (arith, h.0))
first_digit (byte ∷ text) h = number_class byte h.1.0

class_of_first : (piece : Piece) (text : List ℕ) → IsPiece piece text → first_class text ≡ class_of_piece piece
class_of_first Blank text h = rw h.parts (gap_class h.byte h.blank)
class_of_first Comment text h = rw h.parts refl
class_of_first (Holds kinds.Number) text h = first_digit text h
class_of_first (Holds kinds.Name) text h = rw h.0.parts (name_class h.0.first h.0.begins)
class_of_first (Holds kinds.Text) text h = rw h.parts refl
class_of_first (Holds kinds.Word) text h = of_all (λ text. first_class text ≡ Letter) words text h.0 word_classes h.1 h.2
class_of_first (Holds kinds.Sign) text h = of_all (λ text. first_class text ≡ Other) signs text h.0 sign_classes h.1 h.2
class_of_first (Holds kinds.Line) text h = rw h refl
class_of_first (Holds kinds.Eof) text h = absurd h

-- ---- no longer front

tails : (x y : ℕ) (xs ys : List ℕ) → ◌≡◌ {A = List ℕ} (x ∷ xs) (y ∷ ys) → xs ≡ ys
tails x y xs ys e = cc

heads : (x y : ℕ) (xs ys : List ℕ) → ◌≡◌ {A = List ℕ} (x ∷ xs) (y ∷ ys) → x ≡ y
heads x y xs ys e = cc

none_some : (y : ℕ) (ys : List ℕ) → ◌≡◌ {A = List ℕ} [] (y ∷ ys) → ⊥
none_some y ys e = absurd cc

-- the next byte, where there is one, does not pass
abbrev pub CutBy : (ℕ → Bool) → List ℕ → Type 0
CutBy p [] = Unit {0}
CutBy p (byte ∷ rest) = p byte ≡ false

no_longer : (p : ℕ → Bool) (front rest longer others : List ℕ) → AllByRecursion (λ x. IsTrue (p x)) longer → CutBy p rest → front ++ rest ≡ longer ++ others → length longer ≤ length front
no_longer p front rest [] others all cut e = omega arith
no_longer p [] [] (x ∷ longer) others all cut e = absurd (none_some x (longer ++ others) e)
no_longer p [] (b ∷ rest) (x ∷ longer) others all cut e =
    let same : b ≡ x = heads b x rest (longer ++ others) e in
    absurd (not_both (p x) all.0 (ap p (sym same) ∙ cut))
no_longer p (y ∷ front) rest (x ∷ longer) others all cut e =
    let least = no_longer p front rest longer others all.1 cut (tails y x (front ++ rest) (longer ++ others) e) in
    omega (arith, least)

-- only pieces of the class of the first byte count
longest_by : (front rest : List ℕ) → 0 < length front
    → ((other : Piece) (longer others : List ℕ) → class_of_piece other ≡ first_class front → front ++ rest ≡ longer ++ others → IsPiece other longer → length longer ≤ length front)
    → (other : Piece) (longer others : List ℕ) → front ++ rest ≡ longer ++ others → IsPiece other longer → length longer ≤ length front
longest_by [] rest some f other longer others e h = absurd (omega (arith, some))
longest_by (x ∷ front) rest some f other [] others e h = omega arith
longest_by (x ∷ front) rest some f other (y ∷ longer) others e h =
    f other (y ∷ longer) others (sym (class_of_first other (y ∷ longer) h) ∙ ap class_of (sym (heads x y (front ++ rest) (longer ++ others) e))) e h

-- ---- the longest piece, by its class

pub letter_passes : (byte : ℕ) → IsTrue (begins_name byte) → IsTrue (goes_on_name byte)
letter_passes byte h = grind arith

words_pass : AllByRecursion (λ text. AllByRecursion (λ c. IsTrue (goes_on_name c)) text) words
words_pass = search rules

digits_pass : (ds : List ℕ) → AllDigits 10 ds → AllByRecursion (λ c. IsTrue (goes_on_name c)) ds
digits_pass [] all = tt
digits_pass (d ∷ ds) all = let r = digit_from_value d all.0 in (grind arith, digits_pass ds all.1)

pub name_passes : (text : List ℕ) → IsIdentifier text → AllByRecursion (λ c. IsTrue (goes_on_name c)) text
name_passes text h = rw h.parts (letter_passes h.first h.begins, h.goes_on)

letter_longest : (front rest : List ℕ) → CutBy goes_on_name rest → (other : Piece) (longer others : List ℕ) → class_of_piece other ≡ Letter → front ++ rest ≡ longer ++ others → IsPiece other longer → length longer ≤ length front
letter_longest front rest cut Blank longer others c e h = absurd cc
letter_longest front rest cut Comment longer others c e h = absurd cc
letter_longest front rest cut (Holds kinds.Number) longer others c e h = absurd cc
letter_longest front rest cut (Holds kinds.Name) longer others c e h = no_longer goes_on_name front rest longer others (name_passes longer h.0) cut e
letter_longest front rest cut (Holds kinds.Text) longer others c e h = absurd cc
letter_longest front rest cut (Holds kinds.Word) longer others c e h =
    no_longer goes_on_name front rest longer others (of_all (λ text. AllByRecursion (λ c. IsTrue (goes_on_name c)) text) words longer h.0 words_pass h.1 h.2) cut e
letter_longest front rest cut (Holds kinds.Sign) longer others c e h = absurd cc
letter_longest front rest cut (Holds kinds.Line) longer others c e h = absurd cc
letter_longest front rest cut (Holds kinds.Eof) longer others c e h = absurd h

digit_longest : (front rest : List ℕ) → CutBy goes_on_name rest → (other : Piece) (longer others : List ℕ) → class_of_piece other ≡ Digit → front ++ rest ≡ longer ++ others → IsPiece other longer → length longer ≤ length front
digit_longest front rest cut Blank longer others c e h = absurd cc
digit_longest front rest cut Comment longer others c e h = absurd cc
digit_longest front rest cut (Holds kinds.Number) longer others c e h = no_longer goes_on_name front rest longer others (digits_pass longer h.1) cut e
digit_longest front rest cut (Holds kinds.Name) longer others c e h = absurd cc
digit_longest front rest cut (Holds kinds.Text) longer others c e h = absurd cc
digit_longest front rest cut (Holds kinds.Word) longer others c e h = absurd cc
digit_longest front rest cut (Holds kinds.Sign) longer others c e h = absurd cc
digit_longest front rest cut (Holds kinds.Line) longer others c e h = absurd cc
digit_longest front rest cut (Holds kinds.Eof) longer others c e h = absurd h

-- a text ends at the first quote
quote_longest : (bytes rest : List ℕ) → (other : Piece) (longer others : List ℕ) → class_of_piece other ≡ Quote → (34 ∷ bytes ++ 34 ∷ []) ++ rest ≡ longer ++ others → IsPiece other longer
    → length longer ≤ length (34 ∷ bytes ++ 34 ∷ [])
quote_longest bytes rest Blank longer others c e h = absurd cc
quote_longest bytes rest Comment longer others c e h = absurd cc
quote_longest bytes rest (Holds kinds.Number) longer others c e h = absurd cc
quote_longest bytes rest (Holds kinds.Name) longer others c e h = absurd cc
quote_longest bytes rest (Holds kinds.Text) longer others c e h =
    let same : (bytes ++ 34 ∷ []) ++ rest ≡ (h.body ++ 34 ∷ []) ++ others = tails 34 34 ((bytes ++ 34 ∷ []) ++ rest) ((h.body ++ 34 ∷ []) ++ others) (e ∙ ap (λ (t : List ℕ). t ++ others) h.parts) in
    let along : bytes ++ 34 ∷ rest ≡ h.body ++ 34 ∷ others = sym (append_assoc bytes (34 ∷ []) rest) ∙ same ∙ append_assoc h.body (34 ∷ []) others in
    let least = no_longer is_plain bytes (34 ∷ rest) h.body (34 ∷ others) h.plain refl along in
    let one = length-append bytes (34 ∷ []) in
    let two = length-append h.body (34 ∷ []) in
    let whole : length longer ≡ length (34 ∷ h.body ++ 34 ∷ []) = ap length h.parts in
    omega arith
quote_longest bytes rest (Holds kinds.Word) longer others c e h = absurd cc
quote_longest bytes rest (Holds kinds.Sign) longer others c e h = absurd cc
quote_longest bytes rest (Holds kinds.Line) longer others c e h = absurd cc
quote_longest bytes rest (Holds kinds.Eof) longer others c e h = absurd h

break_longest : (rest : List ℕ) → (other : Piece) (longer others : List ℕ) → class_of_piece other ≡ Break → 10 ∷ rest ≡ longer ++ others → IsPiece other longer → length longer ≤ 1
break_longest rest Blank longer others c e h = absurd cc
break_longest rest Comment longer others c e h = absurd cc
break_longest rest (Holds kinds.Number) longer others c e h = absurd cc
break_longest rest (Holds kinds.Name) longer others c e h = absurd cc
break_longest rest (Holds kinds.Text) longer others c e h = absurd cc
break_longest rest (Holds kinds.Word) longer others c e h = absurd cc
break_longest rest (Holds kinds.Sign) longer others c e h = absurd cc
break_longest rest (Holds kinds.Line) longer others c e h = rw h (omega arith)
break_longest rest (Holds kinds.Eof) longer others c e h = absurd h

gap_longest : (rest : List ℕ) → (other : Piece) (longer others : List ℕ) → class_of_piece other ≡ Gap → 32 ∷ rest ≡ longer ++ others → IsPiece other longer → length longer ≤ 1
gap_longest rest Blank longer others c e h = rw h.parts (omega arith)
gap_longest rest Comment longer others c e h = absurd cc
gap_longest rest (Holds kinds.Number) longer others c e h = absurd cc
gap_longest rest (Holds kinds.Name) longer others c e h = absurd cc
gap_longest rest (Holds kinds.Text) longer others c e h = absurd cc
gap_longest rest (Holds kinds.Word) longer others c e h = absurd cc
gap_longest rest (Holds kinds.Sign) longer others c e h = absurd cc
gap_longest rest (Holds kinds.Line) longer others c e h = absurd cc
gap_longest rest (Holds kinds.Eof) longer others c e h = absurd h

-- ---- where a spelling ends

-- no longer sign stands in the place of this one
abbrev pub EndsSign : Sign → List ℕ → Type 0
EndsSign sign rest = (longer others : List ℕ) → Contains signs longer → sign_text sign ++ rest ≡ longer ++ others → length longer ≤ length (sign_text sign)

-- what follows does not go on a spelling
abbrev pub Stops : Lexeme → List ℕ → Type 0
Stops (Numeral value) rest = CutBy goes_on_name rest
Stops (Identifier bytes) rest = CutBy goes_on_name rest
Stops (Quoted bytes) rest = Unit {0}
Stops (Word word) rest = CutBy goes_on_name rest
Stops (Mark sign) rest = EndsSign sign rest
Stops Newline rest = Unit {0}

other_longest : (sign : Sign) (rest : List ℕ) → EndsSign sign rest → (other : Piece) (longer others : List ℕ) → class_of_piece other ≡ Other → sign_text sign ++ rest ≡ longer ++ others → IsPiece other longer
    → length longer ≤ length (sign_text sign)
other_longest sign rest ends Blank longer others c e h = absurd cc
other_longest sign rest ends Comment longer others c e h = absurd cc
other_longest sign rest ends (Holds kinds.Number) longer others c e h = absurd cc
other_longest sign rest ends (Holds kinds.Name) longer others c e h = absurd cc
other_longest sign rest ends (Holds kinds.Text) longer others c e h = absurd cc
other_longest sign rest ends (Holds kinds.Word) longer others c e h = absurd cc
other_longest sign rest ends (Holds kinds.Sign) longer others c e h = ends longer others h e
other_longest sign rest ends (Holds kinds.Line) longer others c e h = absurd cc
other_longest sign rest ends (Holds kinds.Eof) longer others c e h = absurd h

-- ---- the spelling of a lexeme is a piece

word_there : (word : Keyword) → Contains words (keyword_text word)
word_there keywords.If = (0, omega arith, refl)
word_there keywords.Else = (1, omega arith, refl)
word_there keywords.End = (2, omega arith, refl)
word_there keywords.While = (3, omega arith, refl)
word_there keywords.True = (4, omega arith, refl)
word_there keywords.False = (5, omega arith, refl)
word_there keywords.Println = (6, omega arith, refl)
word_there keywords.WriteCsv = (7, omega arith, refl)

small : (n : ℕ) → n ≤ 9223372036854775807 → n < 2 ^ 64
small n le = omega (arith, le)

pub numeral_of : (value : ℤ) (n : ℕ) → value ≡ pos n → n ≤ 9223372036854775807 → IsNumeral 10 (signed_decimal value) × (digits_value 10 (signed_decimal value) ≡ n)
numeral_of value n e le = rw e (decimal_is_IsNumeral n (small n le))

pub is_text_of : (what : Lexeme) → Sayable what → IsTextOf (kind_of what) (spelling what)
is_text_of (Numeral value) h = (numeral_of value h.0 h.1 h.2).0
is_text_of (Identifier bytes) h = h
is_text_of (Quoted bytes) h = record { body = bytes; parts = refl; some = h.0; short = h.1; plain = h.2 }
is_text_of (Word word) h = word_there word
is_text_of (Mark sign) h = h.is_sign
is_text_of Newline h = refl

some_text : (text : List ℕ) → (first_class text ≡ Other → ⊥) → 0 < length text
some_text [] never = absurd (never refl)
some_text (x ∷ text) never = omega arith

signs_some : AllByRecursion (λ text. 0 < length text) signs
signs_some = search rules

class_of_what : (what : Lexeme) (h : Sayable what) → first_class (spelling what) ≡ class_of_piece (Holds (kind_of what))
class_of_what what h = class_of_first (Holds (kind_of what)) (spelling what) (is_text_of what h)

longest : (what : Lexeme) (h : Sayable what) (rest : List ℕ) → Stops what rest
    → (other : Piece) (longer others : List ℕ) → spelling what ++ rest ≡ longer ++ others → IsPiece other longer → length longer ≤ length (spelling what)
longest (Numeral value) h rest cut =
    let c = class_of_what (Numeral value) h in
    longest_by (signed_decimal value) rest (some_text (signed_decimal value) (λ f. absurd cc)) (λ other longer others e. digit_longest (signed_decimal value) rest cut other longer others (e ∙ c))
longest (Identifier bytes) h rest cut =
    let c = class_of_what (Identifier bytes) h in
    longest_by bytes rest (some_text bytes (λ f. absurd cc)) (λ other longer others e. letter_longest bytes rest cut other longer others (e ∙ c))
longest (Quoted bytes) h rest cut = longest_by (34 ∷ bytes ++ 34 ∷ []) rest (omega arith) (quote_longest bytes rest)
longest (Word word) h rest cut =
    let c = class_of_what (Word word) h in
    longest_by (keyword_text word) rest (some_text (keyword_text word) (λ f. absurd cc)) (λ other longer others e. letter_longest (keyword_text word) rest cut other longer others (e ∙ c))
longest (Mark sign) h rest ends =
    let c = class_of_what (Mark sign) h in
    longest_by (sign_text sign) rest (of_all (λ text. 0 < length text) signs (sign_text sign) h.is_sign.0 signs_some h.is_sign.1 h.is_sign.2) (λ other longer others e. other_longest sign rest ends other longer others (e ∙ c))
longest Newline h rest cut = longest_by (10 ∷ []) rest (omega arith) (break_longest rest)

-- the spelling of a lexeme stands first
pub stands_first : (what : Lexeme) → Sayable what → (rest : List ℕ) → Stops what rest → StandsFirst (spelling what ++ rest) (Holds (kind_of what)) (spelling what) rest
stands_first what h rest stops = record { parts = refl; is_piece = is_text_of what h; longest = longest what h rest stops }

pub blank_first : (rest : List ℕ) → StandsFirst (32 ∷ rest) Blank (32 ∷ []) rest
blank_first rest = record { parts = refl; is_piece = record { byte = 32; parts = refl; blank = refl }; longest = longest_by (32 ∷ []) rest (omega arith) (gap_longest rest) }

-- ---- where a sign ends

-- a byte that signs may have: beyond the blank, and of no name
abbrev pub is_sign_byte : ℕ → Bool
is_sign_byte byte = if goes_on_name byte then false else nat_lt 32 byte

signs_pass : AllByRecursion (λ text. AllByRecursion (λ c. IsTrue (is_sign_byte c)) text) signs
signs_pass = search rules

pub ends_by_byte : (sign : Sign) (rest : List ℕ) → CutBy is_sign_byte rest → EndsSign sign rest
ends_by_byte sign rest cut longer others h e =
    no_longer is_sign_byte (sign_text sign) rest longer others (of_all (λ text. AllByRecursion (λ c. IsTrue (is_sign_byte c)) text) signs longer h.0 signs_pass h.1 h.2) cut e

pub name_ends : (byte : ℕ) → IsTrue (goes_on_name byte) → is_sign_byte byte ≡ false
name_ends byte h = rw h refl

-- the byte by which a text goes on another, where it does
abbrev after : (front text : List ℕ) → List ℕ
after [] [] = []
after [] (c ∷ text) = c ∷ []
after (x ∷ front) [] = []
after (x ∷ front) (c ∷ text) = if nat_eq x c then after front text else []

-- the bytes by which signs go on a text
abbrev pub nexts : List (List ℕ) → List ℕ → List ℕ
nexts [] front = []
nexts (text ∷ texts) front = after front text ++ nexts texts front

abbrev pub AvoidsFirst : List ℕ → List ℕ → Type 0
AvoidsFirst bytes [] = Unit {0}
AvoidsFirst bytes (b ∷ rest) = AllByRecursion (λ c. c ≡ b → ⊥) bytes

both_parts : (P : ℕ → Type 0) (xs ys : List ℕ) → AllByRecursion P (xs ++ ys) → AllByRecursion P xs × AllByRecursion P ys
both_parts P [] ys all = (tt, all)
both_parts P (x ∷ xs) ys all = let r = both_parts P xs ys all.1 in ((all.0, r.0), r.1)

after_same : (x c : ℕ) (front text : List ℕ) → x ≡ c → after (x ∷ front) (c ∷ text) ≡ after front text
after_same x c front text e =
    let t : nat_eq x c ≡ true = grind arith in
    rw t refl

no_longer_text : (front rest text others : List ℕ) → AvoidsFirst (after front text) rest → front ++ rest ≡ text ++ others → length text ≤ length front
no_longer_text front rest [] others avoids e = omega arith
no_longer_text [] [] (c ∷ text) others avoids e = absurd (none_some c (text ++ others) e)
no_longer_text [] (b ∷ rest) (c ∷ text) others avoids e = absurd (avoids.0 (sym (heads b c rest (text ++ others) e)))
no_longer_text (x ∷ front) rest (c ∷ text) others avoids e =
    let same = after_same x c front text (heads x c (front ++ rest) (text ++ others) e) in
    let least = no_longer_text front rest text others (subst (λ (bytes : List ℕ). AvoidsFirst bytes rest) same avoids) (tails x c (front ++ rest) (text ++ others) e) in
    omega (arith, least)

avoids_one : (front text : List ℕ) (texts : List (List ℕ)) (rest : List ℕ) → AvoidsFirst (nexts (text ∷ texts) front) rest → AvoidsFirst (after front text) rest × AvoidsFirst (nexts texts front) rest
avoids_one front text texts [] avoids = (tt, tt)
avoids_one front text texts (b ∷ rest) avoids = both_parts (λ c. c ≡ b → ⊥) (after front text) (nexts texts front) avoids

no_longer_of : (texts : List (List ℕ)) (front rest longer others : List ℕ) (k : ℕ) → AvoidsFirst (nexts texts front) rest → k < length texts → get_or texts k longer ≡ longer → front ++ rest ≡ longer ++ others
    → length longer ≤ length front
no_longer_of [] front rest longer others k avoids lt at e = absurd (omega arith)
no_longer_of (text ∷ texts) front rest longer others zero avoids lt at e =
    no_longer_text front rest longer others (subst (λ (t : List ℕ). AvoidsFirst (after front t) rest) at (avoids_one front text texts rest avoids).0) e
no_longer_of (text ∷ texts) front rest longer others (suc k) avoids lt at e = no_longer_of texts front rest longer others k (avoids_one front text texts rest avoids).1 (omega arith) at e

pub ends_by_nexts : (sign : Sign) (rest : List ℕ) → AvoidsFirst (nexts signs (sign_text sign)) rest → EndsSign sign rest
ends_by_nexts sign rest avoids longer others h e = no_longer_of signs (sign_text sign) rest longer others h.0 avoids h.1 h.2 e

no_bytes : (rest : List ℕ) → AvoidsFirst [] rest
no_bytes [] = tt
no_bytes (b ∷ rest) = tt

-- no sign goes on these
pub open_ends : (rest : List ℕ) → EndsSign marks.Open rest
open_ends rest = ends_by_nexts marks.Open rest (no_bytes rest)

pub close_ends : (rest : List ℕ) → EndsSign marks.Close rest
close_ends rest = ends_by_nexts marks.Close rest (no_bytes rest)

pub open_index_ends : (rest : List ℕ) → EndsSign marks.OpenIndex rest
open_index_ends rest = ends_by_nexts marks.OpenIndex rest (no_bytes rest)

pub close_index_ends : (rest : List ℕ) → EndsSign marks.CloseIndex rest
close_index_ends rest = ends_by_nexts marks.CloseIndex rest (no_bytes rest)

pub comma_ends : (rest : List ℕ) → EndsSign marks.Comma rest
comma_ends rest = ends_by_nexts marks.Comma rest (no_bytes rest)

pub colon_ends : (rest : List ℕ) → EndsSign marks.Colon rest
colon_ends rest = ends_by_nexts marks.Colon rest (no_bytes rest)

-- the dot of a call
pub dot_ends : (rest : List ℕ) → EndsSign marks.Dot (40 ∷ rest)
dot_ends rest = ends_by_nexts marks.Dot (40 ∷ rest) (search rules)
