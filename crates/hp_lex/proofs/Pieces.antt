-- The piece at the front: what is computed is the longest piece, and the longest piece is what is computed.
use Rattle.std.proofs.Common.{◌≡◌, ℕ, suc, ◌+◌, ◌<◌, ◌≤◌, Bool, true, false, List, [], ◌∷◌, ◌++◌, length, get_or, take, Option, Some, None, refl, sym, ap, subst, ◌∙◌, append_assoc, arith, rules}
use Rattle.std.specs.Prelude.{IsTrue, is_some, if◌then◌else◌, Contains, nat_le, ◌&&◌}
use Rattle.std.specs.Option.{option_map}
use Rattle.std.specs.List.{prefix_len, AllByRecursion}
use Rattle.std.specs.Char.{is_ascii_digit, digit_value}
use Rattle.std.specs.Str.Parse.{AllDigits}
use Rattle.std.proofs.lemmas.Str.Parse.{digit_from_value}
use Rattle.std.proofs.lemmas.List.{get_or_at, take_at, length-append, take_more}
use Rattle.std.proofs.lemmas.List.Folds.{length-prefix_len}
use Rattle.std.proofs.lemmas.List.Sums.{prefix_len-le-length}
use Rattle.hp_script.specs.declared.token.Kind.TheVariants as kinds
use Rattle.hp_script.specs.Lexemes.{words, signs, keyword_of, sign_of}
use Rattle.hp_script.specs.Tokens.{begins_name, goes_on_name, is_plain, is_inline, Piece, Blank, Comment, Holds, IsPiece, IsBlank, IsComment, IsIdentifier, IsQuoted}
use Rattle.hp_script.proofs.TokenLemmas.{contained, word_found, found_word, sign_found, found_sign, some_piece}
use Rattle.hp_lex.specs.declared.front.Class.{Class}
use Rattle.hp_lex.specs.declared.front.Class.TheVariants as classes
use Rattle.hp_lex.specs.Fronts.{class_of, front_by, front_at, word_at, quoted_at, quoted_by, is_quote, is_sign_at, sign_at, sign_by}
use Rattle.hp_lex.proofs.Classes.{first_class, class_of_first, blank_byte, comment_byte, name_byte, number_byte, text_byte, line_byte}
use Rattle.hp_lex.proofs.Prefixes.{step_true, covers, ends_at, passes}

-- ---- a piece is found, or a longer one

-- the piece that is computed is as long as this
pub record IsCaught (bytes : List ℕ) (size : ℕ) : Type 0 where
  pub piece : Piece
  pub whole : ℕ
  pub found : front_at bytes ≡ Some (piece, whole)
  pub long : size ≤ whole

front_of_class : (byte : ℕ) (rest : List ℕ) (class : Class) → class_of byte ≡ class → front_at (byte ∷ rest) ≡ front_by class (byte ∷ rest) rest
unfolding front_at
front_of_class byte rest class e = ap (λ (k : Class). front_by k (byte ∷ rest) rest) e

digits_pass : (ds : List ℕ) → AllDigits 10 ds → AllByRecursion (λ c. IsTrue (is_ascii_digit c)) ds
digits_pass [] all = tt
digits_pass (d ∷ ds) all = let r = digit_from_value d all.0 in (grind arith, digits_pass ds all.1)

words_pass : AllByRecursion (λ text. AllByRecursion (λ c. IsTrue (goes_on_name c)) text) words
words_pass = search rules

-- a letter goes on a name
letter_passes : (byte : ℕ) → IsTrue (begins_name byte) → IsTrue (goes_on_name byte)
letter_passes byte h = grind arith

word_caught : (text rest : List ℕ) → first_class text ≡ classes.Word → AllByRecursion (λ c. IsTrue (goes_on_name c)) text → IsCaught (text ++ rest) (length text)
unfolding word_at
word_caught [] rest class all = absurd cc
word_caught (byte ∷ text) rest class all =
    record { piece = (word_at (byte ∷ (text ++ rest))).0; whole = prefix_len goes_on_name (byte ∷ (text ++ rest)); found = front_of_class byte (text ++ rest) classes.Word class; long = covers goes_on_name (byte ∷ text) rest all }

number_caught : (text rest : List ℕ) → first_class text ≡ classes.Number → AllDigits 10 text → IsCaught (text ++ rest) (length text)
number_caught [] rest class all = absurd cc
number_caught (byte ∷ text) rest class all =
    record { piece = Holds kinds.Number; whole = prefix_len is_ascii_digit (byte ∷ (text ++ rest)); found = front_of_class byte (text ++ rest) classes.Number class; long = covers is_ascii_digit (byte ∷ text) rest (digits_pass (byte ∷ text) all) }

quote_no_plain : is_plain 34 ≡ false
quote_no_plain = refl

quoted_fits : (size : ℕ) → 0 < size → size < 256 → quoted_by size true ≡ Some (size + 2)
quoted_fits size some short = grind arith

quote_there : (body rest : List ℕ) → is_quote (body ++ 34 ∷ rest) (length body) ≡ true
quote_there body rest =
    let byte = get_or_at body 34 rest 0 (length body) refl in
    let size = length-append body (34 ∷ rest) in
    grind arith

-- what is computed of a text's bytes
quoted_again : (body rest : List ℕ) → 0 < length body → length body < 256 → AllByRecursion (λ c. IsTrue (is_plain c)) body → quoted_at (body ++ 34 ∷ rest) ≡ Some (length body + 2)
unfolding quoted_at
quoted_again body rest some short plain =
    let whole : List ℕ = body ++ 34 ∷ rest in
    let size : prefix_len is_plain whole ≡ length body = ends_at is_plain body 34 rest plain quote_no_plain in
    ap (λ (n : ℕ). quoted_by n (is_quote whole n)) size ∙ ap (quoted_by (length body)) (quote_there body rest) ∙ quoted_fits (length body) some short

text_caught : (body rest : List ℕ) → 0 < length body → length body < 256 → AllByRecursion (λ c. IsTrue (is_plain c)) body → IsCaught (34 ∷ (body ++ 34 ∷ rest)) (length body + 2)
text_caught body rest some short plain =
    record { piece = Holds kinds.Text; whole = length body + 2; found = front_of_class 34 (body ++ 34 ∷ rest) classes.Text refl ∙ ap (option_map (λ size. (Holds kinds.Text, size))) (quoted_again body rest some short plain); long = omega arith }

signs_short : AllByRecursion (λ text. length text ≤ 3) signs
signs_short = search rules

sign_there : (text rest : List ℕ) → Contains signs text → is_sign_at (text ++ rest) (length text) ≡ true
unfolding is_sign_at
sign_there text rest h =
    let same : take (length text) (text ++ rest) ≡ text = take_at text rest (length text) refl in
    let size = length-append text rest in
    let fits : nat_le (length text) (length (text ++ rest)) ≡ true = grind arith in
    let found : is_some (sign_of (take (length text) (text ++ rest))) ≡ true = rw same (sign_found text h) in
    rw (fits, found) refl

-- a sign of this length is found, or a longer one
record IsSized (size : ℕ) (found : Option ℕ) : Type 0 where
  pub whole : ℕ
  pub is : found ≡ Some whole
  pub long : size ≤ whole

sized_three : (b c : Bool) (a : Bool) → a ≡ true → IsSized 3 (sign_by a b c)
sized_three b c a e = rw e (record { whole = 3; is = refl; long = omega arith })

sized_two : (a c : Bool) (b : Bool) → b ≡ true → IsSized 2 (sign_by a b c)
sized_two true c b e = record { whole = 3; is = refl; long = omega arith }
sized_two false c b e = rw e (record { whole = 2; is = refl; long = omega arith })

sized_one : (a b : Bool) (c : Bool) → c ≡ true → IsSized 1 (sign_by a b c)
sized_one true b c e = record { whole = 3; is = refl; long = omega arith }
sized_one false true c e = record { whole = 2; is = refl; long = omega arith }
sized_one false false c e = rw e (record { whole = 1; is = refl; long = omega arith })

sign_sized : (text rest : List ℕ) → Contains signs text → 0 < length text → length text ≤ 3 → IsSized (length text) (sign_at (text ++ rest))
unfolding sign_at
sign_sized [] rest h some short = absurd (omega arith)
sign_sized (x ∷ []) rest h some short = sized_one (is_sign_at (x ∷ rest) 3) (is_sign_at (x ∷ rest) 2) (is_sign_at (x ∷ rest) 1) (sign_there (x ∷ []) rest h)
sign_sized (x ∷ y ∷ []) rest h some short = sized_two (is_sign_at (x ∷ y ∷ rest) 3) (is_sign_at (x ∷ y ∷ rest) 1) (is_sign_at (x ∷ y ∷ rest) 2) (sign_there (x ∷ y ∷ []) rest h)
sign_sized (x ∷ y ∷ z ∷ []) rest h some short =
    sized_three (is_sign_at (x ∷ y ∷ z ∷ rest) 2) (is_sign_at (x ∷ y ∷ z ∷ rest) 1) (is_sign_at (x ∷ y ∷ z ∷ rest) 3) (sign_there (x ∷ y ∷ z ∷ []) rest h)
sign_sized (x ∷ y ∷ z ∷ t ∷ more) rest h some short = absurd (omega arith)

sign_caught : (text rest : List ℕ) → first_class text ≡ classes.Other → Contains signs text → IsCaught (text ++ rest) (length text)
sign_caught text rest class h =
    let some = some_piece (Holds kinds.Sign) text h in
    let sized = sign_sized text rest h some (contained (λ text. length text ≤ 3) signs text h.0 signs_short h.1 h.2) in
    caught_by text some class sized.whole sized.is sized.long
  where
    caught_by : (t : List ℕ) → 0 < length t → first_class t ≡ classes.Other → (whole : ℕ) → sign_at (t ++ rest) ≡ Some whole → length t ≤ whole → IsCaught (t ++ rest) (length t)
    caught_by [] some c whole e long = absurd (omega arith)
    caught_by (byte ∷ t) some c whole e long =
        record { piece = Holds kinds.Sign; whole = whole; found = front_of_class byte (t ++ rest) classes.Other c ∙ ap (option_map (λ size. (Holds kinds.Sign, size))) e; long = long }

caught_along : (bytes others : List ℕ) (size other : ℕ) → bytes ≡ others → other ≤ size → IsCaught bytes size → IsCaught others other
caught_along bytes others size other e le h = record { piece = h.piece; whole = h.whole; found = ap front_at (sym e) ∙ h.found; long = omega (arith, h.long) }

one_caught : (byte : ℕ) (rest : List ℕ) (piece : Piece) (class : Class) → class_of byte ≡ class → front_by class (byte ∷ rest) rest ≡ Some (piece, 1) → IsCaught (byte ∷ rest) 1
one_caught byte rest piece class e made = record { piece = piece; whole = 1; found = front_of_class byte rest class e ∙ made; long = omega arith }

blank_caught : (text rest : List ℕ) → IsBlank text → IsCaught (text ++ rest) (length text)
blank_caught text rest h =
    subst (λ (t : List ℕ). IsCaught (t ++ rest) (length t)) (sym h.parts)
    (one_caught h.byte rest Blank classes.Blank (class_of_first Blank (h.byte ∷ []) (record { byte = h.byte; parts = refl; blank = h.blank })) refl)

comment_caught : (text rest : List ℕ) → IsComment text → IsCaught (text ++ rest) (length text)
comment_caught text rest h =
    let found : IsCaught (35 ∷ (h.body ++ rest)) (length (35 ∷ h.body)) =
    record { piece = Comment; whole = 1 + prefix_len is_inline (h.body ++ rest); found = front_of_class 35 (h.body ++ rest) classes.Comment refl; long = omega (arith, covers is_inline h.body rest h.inline) } in
    subst (λ (t : List ℕ). IsCaught (t ++ rest) (length t)) (sym h.parts) found

name_passes : (text : List ℕ) (h : IsIdentifier text) → AllByRecursion (λ c. IsTrue (goes_on_name c)) text
name_passes text h = rw h.parts (letter_passes h.first h.begins, h.goes_on)

quoted_caught : (text rest : List ℕ) → IsQuoted text → IsCaught (text ++ rest) (length text)
quoted_caught text rest h =
    let found = text_caught h.body rest h.some h.short h.plain in
    let bytes : 34 ∷ (h.body ++ 34 ∷ rest) ≡ text ++ rest = sym (ap (λ (t : List ℕ). t ++ rest) h.parts ∙ ap (λ (t : List ℕ). 34 ∷ t) (append_assoc h.body (34 ∷ []) rest)) in
    let size = length-append h.body (34 ∷ []) in
    let whole : length text ≡ suc (length (h.body ++ 34 ∷ [])) = ap length h.parts in
    caught_along (34 ∷ (h.body ++ 34 ∷ rest)) (text ++ rest) (length h.body + 2) (length text) bytes (omega arith) found

-- Whatever piece stands at the front, one is computed that is as long.
pub caught : (piece : Piece) (text rest : List ℕ) → IsPiece piece text → IsCaught (text ++ rest) (length text)
caught Blank text rest h = blank_caught text rest h
caught Comment text rest h = comment_caught text rest h
caught (Holds kinds.Number) text rest h = number_caught text rest (class_of_first (Holds kinds.Number) text h) h.1
caught (Holds kinds.Name) text rest h = word_caught text rest (class_of_first (Holds kinds.Name) text h) (name_passes text h.0)
caught (Holds kinds.Text) text rest h = quoted_caught text rest h
caught (Holds kinds.Word) text rest h = word_caught text rest (class_of_first (Holds kinds.Word) text h) (contained (λ text. AllByRecursion (λ c. IsTrue (goes_on_name c)) text) words text h.0 words_pass h.1 h.2)
caught (Holds kinds.Sign) text rest h = sign_caught text rest (class_of_first (Holds kinds.Sign) text h) h
caught (Holds kinds.Line) text rest h =
    subst (λ (t : List ℕ). IsCaught (t ++ rest) (length t)) (sym h) (one_caught 10 rest (Holds kinds.Line) classes.Line refl refl)
caught (Holds kinds.Eof) text rest h = absurd h

-- ---- what is computed is a piece

-- so many bytes at the front are this piece
pub record IsFound (bytes : List ℕ) (x : Piece × ℕ) : Type 0 where
  pub within : x.1 ≤ length bytes
  pub is_piece : IsPiece x.0 (take x.1 bytes)

some_along : {X : Type 0} (P : X → Type 0) (x y : X) → Some x ≡ Some y → P x → P y
some_along P x y e h = let same : x ≡ y = cc in subst P same h

map_cases : (piece : Piece) (o : Option ℕ) (x : Piece × ℕ) → option_map (λ size. (piece, size)) o ≡ Some x → (n : ℕ) × (o ≡ Some n) × (◌≡◌ {A = Piece × ℕ} (piece, n) x)
map_cases piece None x e = absurd cc
map_cases piece (Some n) x e = (n, refl, cc)

prefix_within : (p : ℕ → Bool) (bytes : List ℕ) → prefix_len p bytes ≤ length bytes
prefix_within p bytes = prefix_len-le-length p bytes

one_more : (n : ℕ) → 1 + n ≡ suc n
one_more n = omega arith

found_comment : (rest : List ℕ) → IsFound (35 ∷ rest) (Comment, 1 + prefix_len is_inline rest)
found_comment rest =
    let k = prefix_len is_inline rest in
    let le = prefix_within is_inline rest in
    record { within = omega arith; is_piece = record { body = take k rest; parts = rw one_more refl; inline = passes is_inline rest } }

found_digits : (ds : List ℕ) → AllByRecursion (λ c. IsTrue (is_ascii_digit c)) ds → AllDigits 10 ds
found_digits [] all = tt
found_digits (d ∷ ds) all = (digit_small d all.0, found_digits ds all.1)
  where
    digit_small : (c : ℕ) → IsTrue (is_ascii_digit c) → digit_value c < 10
    digit_small c h = grind arith

found_number : (byte : ℕ) (rest : List ℕ) → IsTrue (is_ascii_digit byte) → IsFound (byte ∷ rest) (Holds kinds.Number, prefix_len is_ascii_digit (byte ∷ rest))
found_number byte rest h =
    let bytes : List ℕ = byte ∷ rest in
    let size = length-prefix_len is_ascii_digit bytes in
    let some = step_true is_ascii_digit byte rest h in
    record { within = prefix_within is_ascii_digit bytes; is_piece = (omega arith, found_digits (take (prefix_len is_ascii_digit bytes) bytes) (passes is_ascii_digit bytes)) }

word_text_by : (byte : ℕ) (rest text : List ℕ) (size : ℕ) (b : Bool) → is_some (keyword_of text) ≡ b → text ≡ take (suc size) (byte ∷ rest) → IsTrue (begins_name byte)
    → AllByRecursion (λ c. IsTrue (goes_on_name c)) (take size rest) → IsPiece (Holds (if b then kinds.Word else kinds.Name)) text
word_text_by byte rest text size true e parts begins goes = found_word text e
word_text_by byte rest text size false e parts begins goes =
    let named : IsIdentifier text = record { first = byte; rest = take size rest; parts = parts; begins = begins; goes_on = goes } in
    (named, λ h. differ (sym (word_found text h) ∙ e))
  where
    differ : true ≡ false → ⊥
    differ e = cc

found_letters : (byte : ℕ) (rest : List ℕ) → IsTrue (begins_name byte) → IsFound (byte ∷ rest) (word_at (byte ∷ rest))
unfolding word_at
found_letters byte rest h =
    let bytes : List ℕ = byte ∷ rest in
    let size = prefix_len goes_on_name bytes in
    let step : size ≡ suc (prefix_len goes_on_name rest) = step_true goes_on_name byte rest (letter_passes byte h) in
    record {
      within = prefix_within goes_on_name bytes;
      is_piece = word_text_by byte rest (take size bytes) (prefix_len goes_on_name rest) (is_some (keyword_of (take size bytes))) refl (ap (λ (n : ℕ). take n bytes) step) h (passes goes_on_name rest);
    }

record QuotedParts (rest : List ℕ) (size : ℕ) : Type 0 where
  pub some : 0 < prefix_len is_plain rest
  pub short : prefix_len is_plain rest < 256
  pub quote : is_quote rest (prefix_len is_plain rest) ≡ true
  pub whole : size ≡ prefix_len is_plain rest + 2

quoted_parts : (size : ℕ) (quote : Bool) (n : ℕ) → quoted_by size quote ≡ Some n → (0 < size) × (size < 256) × (quote ≡ true) × (n ≡ size + 2)
quoted_parts size quote n e = grind arith

quoted_takes : (rest : List ℕ) (size : ℕ) → quoted_at rest ≡ Some size → QuotedParts rest size
unfolding quoted_at
quoted_takes rest size e =
    let p = quoted_parts (prefix_len is_plain rest) (is_quote rest (prefix_len is_plain rest)) size e in
    record { some = p.0; short = p.1; quote = p.2; whole = p.3 }

quote_at : (bytes : List ℕ) (at : ℕ) → is_quote bytes at ≡ true → (at < length bytes) × (get_or bytes at 0 ≡ 34)
quote_at bytes at e = grind arith

found_text : (rest : List ℕ) (size : ℕ) → quoted_at rest ≡ Some size → IsFound (34 ∷ rest) (Holds kinds.Text, size)
found_text rest size e =
    let p = quoted_takes rest size e in
    let n = prefix_len is_plain rest in
    let q = quote_at rest n p.quote in
    let body : List ℕ = take n rest in
    let long : length body ≡ n = length-prefix_len is_plain rest in
    let more : take (n + 1) rest ≡ body ++ 34 ∷ [] = take_more rest n 0 q.0 ∙ ap (λ (b : ℕ). body ++ b ∷ []) q.1 in
    let sized : size ≡ suc (n + 1) = omega (arith, p.whole) in
    let parts : take size (34 ∷ rest) ≡ 34 ∷ body ++ 34 ∷ [] = ap (λ (k : ℕ). take k (34 ∷ rest)) sized ∙ ap (λ (t : List ℕ). 34 ∷ t) more in
    record { within = omega (arith, p.whole, q.0); is_piece = record { body = body; parts = parts; some = rw long p.some; short = rw long p.short; plain = passes is_plain rest } }

sign_parts : (a b c : Bool) (n : ℕ) (P : ℕ → Bool) → P 3 ≡ a → P 2 ≡ b → P 1 ≡ c → sign_by a b c ≡ Some n → P n ≡ true
sign_parts true b c n P e3 e2 e1 h = some_along (λ k. P k ≡ true) 3 n h e3
sign_parts false true c n P e3 e2 e1 h = some_along (λ k. P k ≡ true) 2 n h e2
sign_parts false false true n P e3 e2 e1 h = some_along (λ k. P k ≡ true) 1 n h e1
sign_parts false false false n P e3 e2 e1 h = absurd cc

sign_takes : (bytes : List ℕ) (size : ℕ) → sign_at bytes ≡ Some size → is_sign_at bytes size ≡ true
unfolding sign_at
sign_takes bytes size e = sign_parts (is_sign_at bytes 3) (is_sign_at bytes 2) (is_sign_at bytes 1) size (is_sign_at bytes) refl refl refl e

both_true : (a b : Bool) → (a && b) ≡ true → (a ≡ true) × (b ≡ true)
both_true true b e = (refl, e)
both_true false b e = absurd cc

found_mark : (bytes : List ℕ) (size : ℕ) → sign_at bytes ≡ Some size → IsFound bytes (Holds kinds.Sign, size)
unfolding is_sign_at
found_mark bytes size e =
    let p = both_true (nat_le size (length bytes)) (is_some (sign_of (take size bytes))) (sign_takes bytes size e) in
    let le : size ≤ length bytes = grind arith in
    record { within = le; is_piece = found_sign (take size bytes) p.1 }

found_by : (byte : ℕ) (rest : List ℕ) (class : Class) (x : Piece × ℕ) → class_of byte ≡ class → front_by class (byte ∷ rest) rest ≡ Some x → IsFound (byte ∷ rest) x
found_by byte rest classes.Blank x e h =
    let found : IsFound (byte ∷ rest) (Blank, 1) = record { within = omega arith; is_piece = record { byte = byte; parts = refl; blank = blank_byte byte e } } in
    some_along (IsFound (byte ∷ rest)) (Blank, 1) x h found
found_by byte rest classes.Comment x e h =
    let found = found_comment rest in
    let here : IsFound (byte ∷ rest) (Comment, 1 + prefix_len is_inline rest) = subst (λ (b : ℕ). IsFound (b ∷ rest) (Comment, 1 + prefix_len is_inline rest)) (sym (comment_byte byte e)) found in
    some_along (IsFound (byte ∷ rest)) (Comment, 1 + prefix_len is_inline rest) x h here
found_by byte rest classes.Word x e h = some_along (IsFound (byte ∷ rest)) (word_at (byte ∷ rest)) x h (found_letters byte rest (name_byte byte e))
found_by byte rest classes.Number x e h = some_along (IsFound (byte ∷ rest)) (Holds kinds.Number, prefix_len is_ascii_digit (byte ∷ rest)) x h (found_number byte rest (number_byte byte e))
found_by byte rest classes.Text x e h =
    let m = map_cases (Holds kinds.Text) (quoted_at rest) x h in
    let here : IsFound (byte ∷ rest) (Holds kinds.Text, m.0) = subst (λ (b : ℕ). IsFound (b ∷ rest) (Holds kinds.Text, m.0)) (sym (text_byte byte e)) (found_text rest m.0 m.1) in
    subst (IsFound (byte ∷ rest)) m.2 here
found_by byte rest classes.Line x e h =
    let found : IsFound (10 ∷ rest) (Holds kinds.Line, 1) = record { within = omega arith; is_piece = refl } in
    let here : IsFound (byte ∷ rest) (Holds kinds.Line, 1) = subst (λ (b : ℕ). IsFound (b ∷ rest) (Holds kinds.Line, 1)) (sym (line_byte byte e)) found in
    some_along (IsFound (byte ∷ rest)) (Holds kinds.Line, 1) x h here
found_by byte rest classes.Other x e h =
    let m = map_cases (Holds kinds.Sign) (sign_at (byte ∷ rest)) x h in
    subst (IsFound (byte ∷ rest)) m.2 (found_mark (byte ∷ rest) m.0 m.1)

-- What is computed is a piece at the front.
pub found : (bytes : List ℕ) (x : Piece × ℕ) → front_at bytes ≡ Some x → IsFound bytes x
unfolding front_at
found [] x h = absurd cc
found (byte ∷ rest) x h = found_by byte rest (class_of byte) x refl h
