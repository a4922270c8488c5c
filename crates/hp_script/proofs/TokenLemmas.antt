-- Facts on the tokens of a script that other crates cite.
use Rattle.std.proofs.Common.{◌≡◌, ℕ, zero, suc, ◌+◌, ◌-◌, ◌<◌, ◌≤◌, Bool, true, false, cond, List, [], ◌∷◌, ◌++◌, length, get_or, drop, rules, Option, Some, None, refl, sym, ap, subst, ◌∙◌, append_assoc, arith, inl, inr}
use Rattle.std.specs.Prelude.{IsTrue, nat_le, ◌&&◌, ◌≢◌, Contains, bytes_eq, map, IsSome, ◌⊎◌, ◌||◌}
use Rattle.std.specs.Option.{option_map, option_and_then, option_or}
use Rattle.std.specs.List.{slice_get, slice_range, filter_map, cons_option, list_any, AllByRecursion}
use Rattle.std.proofs.lemmas.Cmp.{nat_list_eq_equiv}
use Rattle.std.proofs.lemmas.Map.Views.{list_any-from_Contains, Contains-from_any}
use Rattle.std.proofs.lemmas.List.Elements.{Contains-append_cases, Contains-append_left, Contains-append_right}
use Rattle.std.proofs.lemmas.Slice.Eq.{bytes_eq-Decides}
use Rattle.std.proofs.lemmas.List.{take_at, drop_at, length-append}
use Rattle.hp_word.specs.declared.place.Place.{Place}
use Rattle.hp_script.specs.declared.token.Kind.{Kind}
use Rattle.hp_script.specs.declared.token.Kind.TheVariants as kinds
use Rattle.hp_script.specs.declared.token.Token.{Token}
use Rattle.hp_script.specs.Lexemes.{Lexed, Lexeme, Word, Mark, words, signs, word_table, plain_table, dotted_table, mark_table, entry, keyword_of, sign_of, text_of, lexeme_of, lexed_of, lexed, IsReadable, AreReadable}
use Rattle.hp_script.specs.Tokens.{Piece, Blank, Comment, Holds, IsPiece, IsTextOf, IsWide, token_of, Divides, Ends, GoesOn, HasTokens, are_spans}
use Rattle.hp_script.proofs.TestLemmas.{and_both, and_left, and_right, le_true, true_le}

-- ---- a token of the list

-- what holds of each item holds of the one at a position
pub at_position : {X : Type 0} (P : X → Type 0) (xs : List X) (i : ℕ) (x : X) → AllByRecursion P xs → slice_get xs i ≡ Some x → P x
at_position P [] i x all e = absurd cc
at_position P (y ∷ xs) zero x all e = let same : y ≡ x = cc in subst P same all.0
at_position P (y ∷ xs) (suc i) x all e = at_position P xs i x all.1 e

-- each token's text lies in the source
pub record IsSpan (from until : ℕ) (token : Token) : Type 0 where
  pub begins : from ≤ token.from
  pub order : token.from ≤ token.until
  pub within : token.until ≤ until

spans_order : (from until : ℕ) (tokens : List Token) → IsTrue (are_spans from until tokens) → from ≤ until
spans_order from until [] h = true_le from until h
spans_order from until (token ∷ tokens) h =
    omega (arith, true_le from token.from (and_left _ _ (and_left _ _ h)), true_le token.from token.until (and_right _ _ (and_left _ _ h)), spans_order token.until until tokens (and_right _ _ h))

pub span_at : (from until : ℕ) (tokens : List Token) (i : ℕ) (token : Token) → IsTrue (are_spans from until tokens) → slice_get tokens i ≡ Some token → IsSpan from until token
span_at from until [] i token h e = absurd cc
span_at from until (first ∷ tokens) zero token h e =
    let same : first ≡ token = cc in
    let found : IsSpan from until first = record { begins = true_le from first.from (and_left _ _ (and_left _ _ h)); order = true_le first.from first.until (and_right _ _ (and_left _ _ h)); within = spans_order first.until until tokens (and_right _ _ h) } in
    subst (λ (t : Token). IsSpan from until t) same found
span_at from until (first ∷ tokens) (suc i) token h e =
    let a = true_le from first.from (and_left _ _ (and_left _ _ h)) in
    let b = true_le first.from first.until (and_right _ _ (and_left _ _ h)) in
    let found = span_at first.until until tokens i token (and_right _ _ h) e in
    record { begins = omega (arith, found.begins); order = found.order; within = found.within }

-- a number that is known to be one
pub readable_number : (kind : Kind) (text : List ℕ) → kind ≡ kinds.Number → IsReadable kind text → IsReadable kinds.Number text
readable_number kind text e h = subst (λ (k : Kind). IsReadable k text) e h

-- ---- a text says something

found_next : {A : Type 0} (is rest : Bool) (value : A) (others : Option A) → (is || rest) ≡ true → (rest ≡ true → IsSome others) → IsSome (cond is (Some value) others)
found_next true rest value others h next = refl
found_next false rest value others h next = next h

entry_any : {A : Type 0} (table : List (List ℕ × A)) (text : List ℕ) → list_any (bytes_eq text) (map (λ x. x.0) table) ≡ true → IsSome (entry table text)
entry_any [] text h = absurd cc
entry_any (x ∷ table) text h = found_next (bytes_eq text x.0) (list_any (bytes_eq text) (map (λ y. y.0) table)) x.1 (entry table text) h (entry_any table text)

-- what a table has for a text that is one of its texts
entry_found : {A : Type 0} (table : List (List ℕ × A)) (text : List ℕ) → Contains (map (λ x. x.0) table) text → IsSome (entry table text)
entry_found table text h = entry_any table text (list_any-from_Contains nat_list_eq_equiv text (map (λ x. x.0) table) h)

-- a word is found, and what is found is a word
pub word_found : (text : List ℕ) → Contains words text → IsSome (keyword_of text)
unfolding keyword_of
word_found text h = entry_found word_table text h

or_some : {A : Type 0} (a b : Option A) → IsSome a ⊎ IsSome b → IsSome (option_or a b)
or_some (Some x) b h = refl
or_some None b (inl h) = absurd cc
or_some None b (inr h) = h

-- a sign is found, and what is found is a sign
pub sign_found : (text : List ℕ) → Contains signs text → IsSome (sign_of text)
unfolding sign_of
sign_found text h =
    let plain : List (List ℕ) = map (λ x. x.0) plain_table in
    let dotted : List (List ℕ) = map (λ x. x.0) dotted_table in
    let marks : List (List ℕ) = map (λ x. x.0) mark_table in
    elim (Contains-append_cases (plain ++ dotted) marks text h) [
      | inl a ↦ elim (Contains-append_cases plain dotted text a) [
        | inl b ↦ or_some (entry plain_table text) _ (inl (entry_found plain_table text b))
        | inr b ↦ or_some (entry plain_table text) _ (inr (or_some (entry dotted_table text) _ (inl (entry_found dotted_table text b))))
      ]
      | inr a ↦ or_some (entry plain_table text) _ (inr (or_some (entry dotted_table text) _ (inr (entry_found mark_table text a))))
    ]

any_next : {A : Type 0} (is rest : Bool) (value : A) (others : Option A) → IsSome (cond is (Some value) others) → (IsSome others → rest ≡ true) → (is || rest) ≡ true
any_next true rest value others h next = refl
any_next false rest value others h next = next h

any_entry : {A : Type 0} (table : List (List ℕ × A)) (text : List ℕ) → IsSome (entry table text) → list_any (bytes_eq text) (map (λ x. x.0) table) ≡ true
any_entry [] text h = absurd cc
any_entry (x ∷ table) text h = any_next (bytes_eq text x.0) (list_any (bytes_eq text) (map (λ y. y.0) table)) x.1 (entry table text) h (any_entry table text)

found_entry : {A : Type 0} (table : List (List ℕ × A)) (text : List ℕ) → IsSome (entry table text) → Contains (map (λ x. x.0) table) text
found_entry table text h = Contains-from_any (λ x y e. (bytes_eq-Decides x y).0 e) text (map (λ x. x.0) table) (any_entry table text h)

pub found_word : (text : List ℕ) → IsSome (keyword_of text) → Contains words text
unfolding keyword_of
found_word text h = found_entry word_table text h

some_or : {A : Type 0} (a b : Option A) → IsSome (option_or a b) → IsSome a ⊎ IsSome b
some_or (Some x) b h = inl refl
some_or None b h = inr h

pub found_sign : (text : List ℕ) → IsSome (sign_of text) → Contains signs text
unfolding sign_of
found_sign text h =
    let plain : List (List ℕ) = map (λ x. x.0) plain_table in
    let dotted : List (List ℕ) = map (λ x. x.0) dotted_table in
    let marks : List (List ℕ) = map (λ x. x.0) mark_table in
    elim (some_or (entry plain_table text) (option_or (entry dotted_table text) (entry mark_table text)) h) [
      | inl a ↦ Contains-append_left (plain ++ dotted) marks text (Contains-append_left plain dotted text (found_entry plain_table text a))
      | inr a ↦ elim (some_or (entry dotted_table text) (entry mark_table text) a) [
        | inl b ↦ Contains-append_left (plain ++ dotted) marks text (Contains-append_right plain dotted text (found_entry dotted_table text b))
        | inr b ↦ Contains-append_right (plain ++ dotted) marks text (found_entry mark_table text b)
      ]
    ]

map_some : {A B : Type 0} (f : A → B) (o : Option A) → IsSome o → IsSome (option_map f o)
map_some f None h = absurd cc
map_some f (Some x) h = refl

-- each text of a token says something
pub says : (kind : Kind) (text : List ℕ) → IsTextOf kind text → IsSome (lexeme_of kind text)
says kinds.Number text h = refl
says kinds.Name text h = refl
says kinds.Text text h = refl
says kinds.Word text h = map_some Word (keyword_of text) (word_found text h)
says kinds.Sign text h = map_some Mark (sign_of text) (sign_found text h)
says kinds.Line text h = refl
says kinds.Eof text h = absurd h

-- ---- the tokens that a script divides into

-- the text between two lengths is what stands there
text_between : (source before front rest : List ℕ) (from : ℕ) → source ≡ before ++ (front ++ rest) → from ≡ length before
    → slice_range source from (from + length front) ≡ front
text_between source before front rest from e n =
    let dropped : drop from source ≡ front ++ rest = ap (λ (s : List ℕ). drop from s) e ∙ drop_at before (front ++ rest) from (sym n) in
    let size : (from + length front) - from ≡ length front = omega arith in
    rw (dropped, size) (take_at front rest (length front) refl)

-- the bytes of the source behind a front
parts_behind : (source before bytes front rest : List ℕ) → source ≡ before ++ bytes → bytes ≡ front ++ rest → source ≡ (before ++ front) ++ rest
parts_behind source before bytes front rest e parts = e ∙ ap (λ (b : List ℕ). before ++ b) parts ∙ sym (append_assoc before front rest)

length_behind : (before front : List ℕ) (from : ℕ) → from ≡ length before → from + length front ≡ length (before ++ front)
length_behind before front from n = simp length-append (omega arith)

text_here : (source before bytes front rest : List ℕ) (from : ℕ) → source ≡ before ++ bytes → from ≡ length before → bytes ≡ front ++ rest
    → slice_range source from (from + length front) ≡ front
text_here source before bytes front rest from e n parts = text_between source before front rest from (e ∙ ap (λ (b : List ℕ). before ++ b) parts) n

readable_text : (kind : Kind) (text : List ℕ) → IsTextOf kind text → ¬ IsWide (Holds kind) text → IsReadable kind text
readable_text kinds.Number text h narrow = (h, omega arith)
readable_text kinds.Name text h narrow = tt
readable_text kinds.Text text h narrow = tt
readable_text kinds.Word text h narrow = tt
readable_text kinds.Sign text h narrow = tt
readable_text kinds.Line text h narrow = tt
readable_text kinds.Eof text h narrow = absurd h

readable_more : (source : List ℕ) (piece : Piece) (at : Place) (from until : ℕ) (front : List ℕ) (tokens : List Token)
    → IsPiece piece front → ¬ IsWide piece front → slice_range source from until ≡ front → AreReadable source tokens → AreReadable source (token_of piece at from until ++ tokens)
readable_more source Blank at from until front tokens is narrow e more = more
readable_more source Comment at from until front tokens is narrow e more = more
readable_more source (Holds kind) at from until front tokens is narrow e more = (rw e (readable_text kind front is narrow), more)

readable_from : (source before : List ℕ) {from : ℕ} {at : Place} {bytes : List ℕ} {tokens : List Token} → Divides from at bytes tokens
    → source ≡ before ++ bytes → from ≡ length before → AreReadable source tokens
readable_from source before (Ends from at) e n = (tt, tt)
readable_from source before (GoesOn from at bytes piece front rest tokens first narrow more) e n =
    let later = readable_from source (before ++ front) more (parts_behind source before bytes front rest e first.parts) (length_behind before front from n) in
    readable_more source piece at from (from + length front) front tokens first.is_piece narrow (text_here source before bytes front rest from e n first.parts) later

-- The numbers of a script's tokens can be read.
pub are_readable : (bytes : List ℕ) (tokens : List Token) → HasTokens bytes tokens → AreReadable bytes tokens
are_readable bytes tokens h = readable_from bytes [] h.divided refl refl

-- ---- what the tokens say, position by position

position_more : {X Y : Type 0} (f : X → Option Y) (x : X) (xs : List X) (i : ℕ) → IsSome (f x)
    → ((j : ℕ) → slice_get (filter_map f xs) j ≡ option_and_then f (slice_get xs j))
    → slice_get (filter_map f (x ∷ xs)) i ≡ option_and_then f (slice_get (x ∷ xs) i)
position_more {Y = Y} f x xs i some more = position_of (f x) refl some i
  where
    position_of : (o : Option Y) → f x ≡ o → IsSome o → (k : ℕ) → slice_get (cons_option o (filter_map f xs)) k ≡ option_and_then f (slice_get (x ∷ xs) k)
    position_of None e h k = absurd cc
    position_of (Some y) e h zero = sym e
    position_of (Some y) e h (suc k) = more k

lexed_some : (source : List ℕ) (kind : Kind) (at : Place) (from until : ℕ) (front : List ℕ) → IsTextOf kind front → slice_range source from until ≡ front
    → IsSome (lexed_of source (record { kind = kind; at = at; from = from; until = until }))
lexed_some source kind at from until front is e = rw e (map_some (λ what. record { what = what; at = at }) (lexeme_of kind front) (says kind front is))

-- the entry at each position is what the token there says
abbrev SaysInOrder : List ℕ → List Token → Type 0
SaysInOrder source tokens = (i : ℕ) → slice_get (filter_map (lexed_of source) tokens) i ≡ option_and_then (lexed_of source) (slice_get tokens i)

order_end : (source : List ℕ) (at : Place) (from : ℕ) → SaysInOrder source (record { kind = kinds.Eof; at = at; from = from; until = from } ∷ [])
order_end source at from zero = refl
order_end source at from (suc i) = refl

order_more : (source : List ℕ) (piece : Piece) (at : Place) (from until : ℕ) (front : List ℕ) (tokens : List Token)
    → IsPiece piece front → slice_range source from until ≡ front → SaysInOrder source tokens → SaysInOrder source (token_of piece at from until ++ tokens)
order_more source Blank at from until front tokens is e more = more
order_more source Comment at from until front tokens is e more = more
order_more source (Holds kind) at from until front tokens is e more =
    λ i. position_more (lexed_of source) (record { kind = kind; at = at; from = from; until = until }) tokens i (lexed_some source kind at from until front is e) more

order_from : (source before : List ℕ) {from : ℕ} {at : Place} {bytes : List ℕ} {tokens : List Token} → Divides from at bytes tokens
    → source ≡ before ++ bytes → from ≡ length before → SaysInOrder source tokens
order_from source before (Ends from at) e n = order_end source at from
order_from source before (GoesOn from at bytes piece front rest tokens first narrow more) e n =
    let later = order_from source (before ++ front) more (parts_behind source before bytes front rest e first.parts) (length_behind before front from n) in
    order_more source piece at from (from + length front) front tokens first.is_piece (text_here source before bytes front rest from e n first.parts) later

-- Entry by entry, what the tokens of a script say is what the token at that position says.
pub lexed_at : (bytes : List ℕ) (tokens : List Token) → HasTokens bytes tokens → (i : ℕ)
    → slice_get (lexed bytes tokens) i ≡ option_and_then (lexed_of bytes) (slice_get tokens i)
unfolding lexed
lexed_at bytes tokens h i = order_from bytes [] h.divided refl refl i

-- What a token says stands at its position and its place.
pub lexed_here : (bytes : List ℕ) (tokens : List Token) (i : ℕ) (token : Token) (what : Lexeme) → HasTokens bytes tokens → slice_get tokens i ≡ Some token
    → lexeme_of token.kind (text_of bytes token) ≡ Some what → slice_get (lexed bytes tokens) i ≡ Some (record { what = what; at = token.at })
lexed_here bytes tokens i token what h at says_it = lexed_at bytes tokens h i ∙ rw (at, says_it) refl

-- the answer of `Tokens::lexeme` by the list of what the tokens say
pub said_at : (bytes : List ℕ) (tokens : List Token) (i : ℕ) → HasTokens bytes tokens
    → option_and_then (λ token. lexeme_of token.kind (text_of bytes token)) (slice_get tokens i) ≡ option_map (λ x. x.what) (slice_get (lexed bytes tokens) i)
said_at bytes tokens i h = what_of (slice_get tokens i) ∙ ap (option_map (λ (x : Lexed). x.what)) (sym (lexed_at bytes tokens h i))
  where
    without_place : (o : Option Lexeme) (at : Place) → o ≡ option_map (λ (x : Lexed). x.what) (option_map (λ what. record { what = what; at = at }) o)
    without_place None at = refl
    without_place (Some what) at = refl

    what_of : (o : Option Token) → option_and_then (λ token. lexeme_of token.kind (text_of bytes token)) o ≡ option_map (λ (x : Lexed). x.what) (option_and_then (lexed_of bytes) o)
    what_of None = refl
    what_of (Some token) = without_place (lexeme_of token.kind (text_of bytes token)) token.at

-- ---- the end of the script

-- The last token is the end of the script, and no other is.
pub record IsClosed (tokens : List Token) : Type 0 where
  pub front : List Token
  pub end : Token
  pub parts : tokens ≡ front ++ end ∷ []
  pub ends : end.kind ≡ kinds.Eof
  pub inner : AllByRecursion (λ token. token.kind ≢ kinds.Eof) front

no_eof : (kind : Kind) (text : List ℕ) → IsTextOf kind text → kind ≢ kinds.Eof
no_eof kind text is e = absurd (subst (λ (k : Kind). IsTextOf k text) e is)

closed_more : (piece : Piece) (at : Place) (from until : ℕ) (front : List ℕ) (tokens : List Token) → IsPiece piece front → IsClosed tokens → IsClosed (token_of piece at from until ++ tokens)
closed_more Blank at from until front tokens is more = more
closed_more Comment at from until front tokens is more = more
closed_more (Holds kind) at from until front tokens is more =
    let token : Token = record { kind = kind; at = at; from = from; until = until } in
    record { front = token ∷ more.front; end = more.end; parts = ap (λ (ts : List Token). token ∷ ts) more.parts; ends = more.ends; inner = (no_eof kind front is, more.inner) }

closed_from : {from : ℕ} {at : Place} {bytes : List ℕ} {tokens : List Token} → Divides from at bytes tokens → IsClosed tokens
closed_from (Ends from at) = record { front = []; end = record { kind = kinds.Eof; at = at; from = from; until = from }; parts = refl; ends = refl; inner = tt }
closed_from (GoesOn from at bytes piece front rest tokens first narrow more) = closed_more piece at from (from + length front) front tokens first.is_piece (closed_from more)

-- The tokens of a script end with the end of the script.
pub are_closed : (bytes : List ℕ) (tokens : List Token) → HasTokens bytes tokens → IsClosed tokens
are_closed bytes tokens h = closed_from h.divided

-- each token but the last says something
said_by : (source : List ℕ) (kind : Kind) (at : Place) (from until : ℕ) (front : List ℕ) → IsTextOf kind front → slice_range source from until ≡ front
    → (lexed_tokens : List Lexed) → suc (length lexed_tokens) ≡ length (cons_option (lexed_of source (record { kind = kind; at = at; from = from; until = until })) lexed_tokens)
said_by source kind at from until front is e xs = counted (lexed_of source (record { kind = kind; at = at; from = from; until = until })) xs (lexed_some source kind at from until front is e)
  where
    counted : (o : Option Lexed) (ys : List Lexed) → IsSome o → suc (length ys) ≡ length (cons_option o ys)
    counted None ys h = absurd cc
    counted (Some y) ys h = refl

count_more : (source : List ℕ) (piece : Piece) (at : Place) (from until : ℕ) (front : List ℕ) (tokens : List Token)
    → IsPiece piece front → slice_range source from until ≡ front → suc (length (filter_map (lexed_of source) tokens)) ≡ length tokens
    → suc (length (filter_map (lexed_of source) (token_of piece at from until ++ tokens))) ≡ length (token_of piece at from until ++ tokens)
count_more source Blank at from until front tokens is e more = more
count_more source Comment at from until front tokens is e more = more
count_more source (Holds kind) at from until front tokens is e more =
    ap suc (sym (said_by source kind at from until front is e (filter_map (lexed_of source) tokens)) ∙ more)

count_from : (source before : List ℕ) {from : ℕ} {at : Place} {bytes : List ℕ} {tokens : List Token} → Divides from at bytes tokens
    → source ≡ before ++ bytes → from ≡ length before → suc (length (filter_map (lexed_of source) tokens)) ≡ length tokens
count_from source before (Ends from at) e n = refl
count_from source before (GoesOn from at bytes piece front rest tokens first narrow more) e n =
    let later = count_from source (before ++ front) more (parts_behind source before bytes front rest e first.parts) (length_behind before front from n) in
    count_more source piece at from (from + length front) front tokens first.is_piece (text_here source before bytes front rest from e n first.parts) later

-- What the tokens of a script say has one entry for each token but the last.
pub lexed_length : (bytes : List ℕ) (tokens : List Token) → HasTokens bytes tokens → length (lexed bytes tokens) + 1 ≡ length tokens
unfolding lexed
lexed_length bytes tokens h = let n = count_from bytes [] h.divided refl refl in omega arith

-- ---- no piece is empty

-- what holds of each item holds of one that the list contains
pub contained : {X : Type 0} (P : X → Type 0) (xs : List X) (x : X) (k : ℕ) → AllByRecursion P xs → k < length xs → get_or xs k x ≡ x → P x
contained P [] x k all lt e = absurd (omega arith)
contained P (y ∷ xs) x zero all lt e = subst P e all.0
contained P (y ∷ xs) x (suc k) all lt e = contained P xs x k all.1 (omega arith) e

abbrev IsSomeText : List ℕ → Type 0
IsSomeText text = 0 < length text

some_words : AllByRecursion IsSomeText words
some_words = search rules

some_signs : AllByRecursion IsSomeText signs
some_signs = search rules

some_token : (kind : Kind) (text : List ℕ) → IsTextOf kind text → 0 < length text
some_token kinds.Number text h = h.0
some_token kinds.Name text h = rw h.0.parts (omega arith)
some_token kinds.Text text h = rw h.parts (omega arith)
some_token kinds.Word text h = contained IsSomeText words text h.0 some_words h.1 h.2
some_token kinds.Sign text h = contained IsSomeText signs text h.0 some_signs h.1 h.2
some_token kinds.Line text h = rw h (omega arith)
some_token kinds.Eof text h = absurd h

pub some_piece : (piece : Piece) (text : List ℕ) → IsPiece piece text → 0 < length text
some_piece Blank text h = rw h.parts (omega arith)
some_piece Comment text h = rw h.parts (omega arith)
some_piece (Holds kind) text h = some_token kind text h

few_more : (piece : Piece) (at : Place) (from until count : ℕ) (tokens : List Token) → length tokens ≤ count → length (token_of piece at from until ++ tokens) ≤ count + 1
few_more Blank at from until count tokens le = omega arith
few_more Comment at from until count tokens le = omega arith
few_more (Holds kind) at from until count tokens le = omega arith

few_from : {from : ℕ} {at : Place} {bytes : List ℕ} {tokens : List Token} → Divides from at bytes tokens → length tokens ≤ length bytes + 1
few_from (Ends from at) = omega arith
few_from (GoesOn from at bytes piece front rest tokens first narrow more) =
    let some = some_piece piece front first.is_piece in
    let size : length bytes ≡ length front + length rest = ap length first.parts ∙ length-append front rest in
    let le : length tokens ≤ (length front + length rest) = omega (arith, few_from more) in
    rw size (few_more piece at from (from + length front) (length front + length rest) tokens le)

-- A script has at most one token more than bytes.
pub are_few : (bytes : List ℕ) (tokens : List Token) → HasTokens bytes tokens → length tokens ≤ 65537
are_few bytes tokens h = omega (arith, few_from h.divided, h.short)

-- ---- the spans

spans_sooner : (a b until : ℕ) (tokens : List Token) → a ≤ b → IsTrue (are_spans b until tokens) → IsTrue (are_spans a until tokens)
spans_sooner a b until [] le h = le_true a until (omega (arith, true_le b until h))
spans_sooner a b until (token ∷ tokens) le h =
    and_both (nat_le a token.from && nat_le token.from token.until) _ (and_both (nat_le a token.from) _ (le_true a token.from (omega (arith, true_le b token.from (and_left _ _ (and_left _ _ h))))) (and_right _ _ (and_left _ _ h))) (and_right _ _ h)

spans_more : (piece : Piece) (at : Place) (from size until : ℕ) (tokens : List Token) → IsTrue (are_spans (from + size) until tokens) → IsTrue (are_spans from until (token_of piece at from (from + size) ++ tokens))
spans_more Blank at from size until tokens more = spans_sooner from (from + size) until tokens (omega arith) more
spans_more Comment at from size until tokens more = spans_sooner from (from + size) until tokens (omega arith) more
spans_more (Holds kind) at from size until tokens more =
    and_both (nat_le from from && nat_le from (from + size)) _ (and_both (nat_le from from) _ (le_true from from (omega arith)) (le_true from (from + size) (omega arith))) more

spans_from : {from : ℕ} {at : Place} {bytes : List ℕ} {tokens : List Token} → Divides from at bytes tokens → IsTrue (are_spans from (from + length bytes) tokens)
spans_from (Ends from at) =
    and_both (nat_le from from && nat_le from from) _ (and_both (nat_le from from) _ (le_true from from (omega arith)) (le_true from from (omega arith))) (le_true from (from + 0) (omega arith))
spans_from (GoesOn from at bytes piece front rest tokens first narrow more) =
    let size : length bytes ≡ length front + length rest = ap length first.parts ∙ length-append front rest in
    let end : (from + length front) + length rest ≡ from + length bytes = omega arith in
    let later : IsTrue (are_spans (from + length front) (from + length bytes) tokens) = subst (λ (n : ℕ). IsTrue (are_spans (from + length front) n tokens)) end (spans_from more) in
    spans_more piece at from (length front) (from + length bytes) tokens later

-- The tokens of a script stand one after the other in it.
pub are_spans_of : (bytes : List ℕ) (tokens : List Token) → HasTokens bytes tokens → IsTrue (are_spans 0 (length bytes) tokens)
are_spans_of bytes tokens h =
    let end : 0 + length bytes ≡ length bytes = omega arith in
    subst (λ (n : ℕ). IsTrue (are_spans 0 n tokens)) end (spans_from h.divided)
