-- What a cursor sees at a position of a script's tokens.
use Rattle.std.proofs.Common.{◌≡◌, ℕ, zero, suc, ◌+◌, ◌<◌, ◌≤◌, List, [], ◌∷◌, length, drop, Option, Some, None, refl, sym, ap, ◌∙◌, arith, get_or, subst, ◌⊎◌, inl, inr}
use Rattle.std.specs.Prelude.{IsSome}
use Rattle.std.specs.Option.{option_map, option_and_then}
use Rattle.std.specs.List.{slice_get}
use Rattle.std.proofs.lemmas.List.{drop-drop, length-drop}
use Rattle.std.proofs.lemmas.Option.{slice_get_cases, slice_get-get_or}
use Rattle.hp_word.specs.declared.place.Place.{Place}
use Rattle.hp_script.specs.declared.token.Token.{Token}
use Rattle.hp_script.specs.Lexemes.{Lexed, Lexeme, lexed, lexed_of, lexeme_of, text_of}
use Rattle.hp_script.specs.Tokens.{HasTokens}
use Rattle.hp_script.proofs.TokenLemmas.{said_at, lexed_at, lexed_length, are_few}
use Rattle.hp_parse.specs.Parsing.{end_of}
use Rattle.hp_parse.specs.Readers.{Reader, reader_at, IsAmong, next, second, here, first_of, first_place_of, behind, numbered, restored, raised}

-- ---- what the next token says

first_of_drop : (xs : List Lexed) (i : ℕ) → option_map (λ (x : Lexed). x.what) (slice_get xs i) ≡ first_of (drop i xs)
first_of_drop [] zero = refl
first_of_drop [] (suc i) = refl
first_of_drop (x ∷ xs) zero = refl
first_of_drop (x ∷ xs) (suc i) = first_of_drop xs i

pub peeked : (source : List ℕ) (list : List Token) (i : ℕ) → HasTokens source list
    → option_and_then (λ token. lexeme_of token.kind (text_of source token)) (slice_get list i) ≡ first_of (drop i (lexed source list))
peeked source list i has = said_at source list i has ∙ first_of_drop (lexed source list) i

pub behind_drop : (xs : List Lexed) (i : ℕ) → drop 1 (drop i xs) ≡ drop (i + 1) xs
behind_drop xs i = drop-drop 1 i xs

pub peeked_next : {source : List ℕ} {list : List Token} {i number depth : ℕ} {self : Reader} {o : Option Lexeme} → IsAmong source list i number depth
    → reader_at source list i number depth ≡ self → o ≡ option_and_then (λ token. lexeme_of token.kind (text_of source token)) (slice_get list i) → o ≡ next self
peeked_next {source} {list} {i} h view e = e ∙ peeked source list i h.has ∙ ap next view

pub peeked_second : {source : List ℕ} {list : List Token} {i number depth : ℕ} {self : Reader} {o : Option Lexeme} → IsAmong source list i number depth
    → reader_at source list i number depth ≡ self → o ≡ option_and_then (λ token. lexeme_of token.kind (text_of source token)) (slice_get list (i + 1)) → o ≡ second self
peeked_second {source} {list} {i} h view e =
    e ∙ peeked source list (i + 1) h.has ∙ ap first_of (sym (behind_drop (lexed source list) i)) ∙ ap second view

-- some token is left
pub some_left : (xs : List Lexed) (i : ℕ) → IsSome (first_of (drop i xs)) → i < length xs
some_left [] zero h = absurd cc
some_left [] (suc i) h = absurd cc
some_left (x ∷ xs) zero h = omega arith
some_left (x ∷ xs) (suc i) h = let more = some_left xs i h in omega arith

-- ---- where it stands

end_is : (list : List Token) (i : ℕ) (token : Token) → slice_get list i ≡ Some token → i + 1 ≡ length list → end_of list ≡ token.at
end_is [] i token e n = absurd cc
end_is (first ∷ []) zero token e n = let same : first ≡ token = cc in ap (λ (t : Token). t.at) same
end_is (first ∷ []) (suc i) token e n = absurd cc
end_is (first ∷ next ∷ list) zero token e n = absurd (omega arith)
end_is (first ∷ next ∷ list) (suc i) token e n = end_is (next ∷ list) i token e (omega arith)

place_in : (xs : List Lexed) (i : ℕ) (x : Lexed) (end : Place) → slice_get xs i ≡ Some x → first_place_of (drop i xs) end ≡ x.at
place_in [] i x end e = absurd cc
place_in (y ∷ xs) zero x end e = let same : y ≡ x = cc in ap (λ (z : Lexed). z.at) same
place_in (y ∷ xs) (suc i) x end e = place_in xs i x end e

none_left : (xs : List Lexed) (i : ℕ) (end : Place) → length xs ≤ i → first_place_of (drop i xs) end ≡ end
none_left [] zero end le = refl
none_left [] (suc i) end le = refl
none_left (y ∷ xs) zero end le = absurd (omega arith)
none_left (y ∷ xs) (suc i) end le = none_left xs i end (omega arith)

lexed_place : (o : Option Lexeme) (at : Place) (x : Lexed) → option_map (λ (what : Lexeme). let y : Lexed = record { what = what; at = at } in y) o ≡ Some x → at ≡ x.at
lexed_place None at x e = absurd cc
lexed_place (Some what) at x e =
    let y : Lexed = record { what = what; at = at } in
    let same : y ≡ x = cc in ap (λ (z : Lexed). z.at) same

pub placed : (source : List ℕ) (list : List Token) (i : ℕ) (token : Token) → HasTokens source list → i ≤ length (lexed source list)
    → slice_get list i ≡ Some token → token.at ≡ first_place_of (drop i (lexed source list)) (end_of list)
placed source list i token has within e =
    let xs = lexed source list in
    let size = lexed_length source list has in
    elim (slice_get_cases xs i).1 [
      | inl found ↦
          let says : option_and_then (lexed_of source) (slice_get list i) ≡ Some found.0 = sym (lexed_at source list has i) ∙ found.2 in
          let here_too : option_map (λ what. record { what = what; at = token.at }) (lexeme_of token.kind (text_of source token)) ≡ Some found.0 = ap (option_and_then (lexed_of source)) (sym e) ∙ says in
          lexed_place (lexeme_of token.kind (text_of source token)) token.at found.0 here_too ∙ sym (place_in xs i found.0 (end_of list) found.2)
      | inr past ↦ sym (none_left xs i (end_of list) past.0 ∙ end_is list i token e (omega arith))
    ]

pub placed_here : {source : List ℕ} {list xs : List Token} {i number depth : ℕ} {self : Reader} (d : Token) → IsAmong source list i number depth
    → reader_at source list i number depth ≡ self → xs ≡ list → (get_or xs i d).at ≡ here self
placed_here {source} {list} {xs} {i} d h view e =
    let size = lexed_length source list h.has in
    let within : i < length list = omega (arith, h.within) in
    ap (λ (ts : List Token). (get_or ts i d).at) e ∙ placed source list i (get_or list i d) h.has h.within (slice_get-get_or list i d within) ∙ ap here view

-- ---- the invariant

-- no position or number is too great
pub record IsSmall (list : List Token) (position number : ℕ) : Type 0 where
  pub within : position < length list
  pub few : length list ≤ 65537
  pub numbers : number ≤ position

pub are_small : {source : List ℕ} {list : List Token} {position number depth : ℕ} → IsAmong source list position number depth → IsSmall list position number
are_small {source} {list} {position} {number} {depth} h =
    let size = lexed_length source list h.has in
    record { within = omega (arith, h.within); few = are_few source list h.has; numbers = h.numbers }

-- a token taken
pub taken : {source : List ℕ} {list : List Token} {i number depth : ℕ} {self : Reader} → IsAmong source list i number depth
    → reader_at source list i number depth ≡ self → IsSome (next self) → (more : ℕ) → more ≤ number + 1 → IsAmong source list (i + 1) more depth
taken {source} {list} {i} {number} {depth} {self} h view some more le =
    let here_too : IsSome (first_of (drop i (lexed source list))) = subst (λ (r : Reader). IsSome (next r)) (sym view) some in
    let lt = some_left (lexed source list) i here_too in
    record { has = h.has; within = omega arith; numbers = omega (arith, h.numbers); shallow = h.shallow }

pub view_behind : {source : List ℕ} {list : List Token} {i number depth : ℕ} {self : Reader} → IsAmong source list i number depth → reader_at source list i number depth ≡ self
    → reader_at source list (i + 1) number depth ≡ behind self
view_behind {source} {list} {i} {number} {depth} {self} h view =
    ap (λ (xs : List Lexed). let r : Reader = record { rest = xs; number = number; depth = depth; end = end_of list } in r) (sym (behind_drop (lexed source list) i)) ∙ ap behind view

pub view_numbered : {source : List ℕ} {list : List Token} {i number depth : ℕ} {self : Reader} → IsAmong source list i number depth → reader_at source list i number depth ≡ self
    → reader_at source list (i + 1) (number + 1) depth ≡ numbered self
view_numbered {source} {list} {i} {number} {depth} {self} h view =
    let n : number + 1 ≡ suc number = omega arith in
    rw n (ap (λ (xs : List Lexed). let r : Reader = record { rest = xs; number = suc number; depth = depth; end = end_of list } in r) (sym (behind_drop (lexed source list) i)) ∙ ap numbered view)

-- ---- the depth

pub raised_by : (by depth : ℕ) → raised by depth ≡ depth + by
raised_by zero depth = omega arith
raised_by (suc by) depth = let more = raised_by by depth in omega arith

pub view_raised : {source : List ℕ} {list : List Token} {i number depth : ℕ} {self : Reader} (by : ℕ) → IsAmong source list i number depth → reader_at source list i number depth ≡ self → depth + by ≤ 64
    → (reader_at source list i number (depth + by) ≡ restored self (raised by self.depth)) × (raised by self.depth ≤ 64)
view_raised {source} {list} {i} {number} {depth} {self} by h view le =
    let d : depth ≡ self.depth = ap (λ (r : Reader). r.depth) view in
    let more : depth + by ≡ raised by self.depth = sym (raised_by by depth) ∙ ap (raised by) d in
    (rw more (ap (λ (r : Reader). restored r (raised by self.depth)) view), omega arith)
