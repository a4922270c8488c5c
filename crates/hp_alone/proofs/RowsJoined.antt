-- The rows of the parts of a whole, part after part, are the rows of the whole, or its first trap.
use Rattle.std.proofs.Common.{◌≡◌, ◌+◌, ◌<◌, zero, suc, ℕ, ℤ, List, [], ◌∷◌, ◌++◌, Result, Ok, Err, refl, ap, sym, ◌∙◌, arith}
use Rattle.std.proofs.lemmas.List.{append_assoc, append-nil, map-append}
use Rattle.hp_word.specs.declared.place.Trap.{Trap}
use Rattle.hp_word.specs.LoopRules.{and_then, column_of, rows_below, word_at}
use Rattle.hp_alone.specs.Looping.{places_in, rows_from, rows_of_parts}

-- ---- two parts

none_behind : (r : Result (List (List ℤ)) Trap) → r ≡ and_then r (λ above. Ok (above ++ []))
none_behind (Ok rows) = ap Ok (sym (append-nil rows))
none_behind (Err t) = refl

one_behind : (above rows : Result (List (List ℤ)) Trap) (last : Result (List ℤ) Trap)
    → and_then (and_then above (λ a. and_then rows (λ b. Ok (a ++ b)))) (λ ab. and_then last (λ x. Ok (ab ++ x ∷ [])))
    ≡ and_then above (λ a. and_then (and_then rows (λ b. and_then last (λ x. Ok (b ++ x ∷ [])))) (λ bx. Ok (a ++ bx)))
one_behind (Err t) rows last = refl
one_behind (Ok a) (Err t) last = refl
one_behind (Ok a) (Ok b) (Err t) = refl
one_behind (Ok a) (Ok b) (Ok x) = ap Ok (append_assoc a b (x ∷ []))

-- the rows of the first places, and behind them those of the others
pub rows_joined : (row : ℕ → Result (List ℤ) Trap) (first n : ℕ)
    → rows_below row (first + n) ≡ and_then (rows_below row first) (λ above. and_then (rows_from row first n) (λ rows. Ok (above ++ rows)))
rows_joined row first zero = ap (rows_below row) (let z : first + 0 ≡ first = omega arith in z) ∙ none_behind (rows_below row first)
rows_joined row first (suc n) =
    let one : first + suc n ≡ suc (first + n) = omega arith in
    ap (rows_below row) one
    ∙ ap (λ r. and_then r (λ ab. and_then (row (first + n)) (λ x. Ok (ab ++ x ∷ [])))) (rows_joined row first n)
    ∙ one_behind (rows_below row first) (rows_from row first n) (row (first + n))

-- ---- all parts

joined_thrice : (above rows more : Result (List (List ℤ)) Trap)
    → and_then above (λ a. and_then (and_then rows (λ b. and_then more (λ c. Ok (b ++ c)))) (λ bc. Ok (a ++ bc)))
    ≡ and_then (and_then above (λ a. and_then rows (λ b. Ok (a ++ b)))) (λ ab. and_then more (λ c. Ok (ab ++ c)))
joined_thrice (Err t) rows more = refl
joined_thrice (Ok a) (Err t) more = refl
joined_thrice (Ok a) (Ok b) (Err t) = refl
joined_thrice (Ok a) (Ok b) (Ok c) = ap Ok (sym (append_assoc a b c))

-- behind the rows of the first places those of all parts
pub parts_behind : (row : ℕ → Result (List ℤ) Trap) (from : ℕ) (places : List ℕ)
    → and_then (rows_below row from) (λ above. and_then (rows_of_parts row from places) (λ rows. Ok (above ++ rows))) ≡ rows_below row (from + places_in places)
parts_behind row from [] = sym (none_behind (rows_below row from)) ∙ ap (rows_below row) (let z : from ≡ from + 0 = omega arith in z)
parts_behind row from (n ∷ ns) =
    let more : (from + n) + places_in ns ≡ from + (n + places_in ns) = omega arith in
    joined_thrice (rows_below row from) (rows_from row from n) (rows_of_parts row (from + n) ns)
    ∙ ap (λ r. and_then r (λ above. and_then (rows_of_parts row (from + n) ns) (λ rows. Ok (above ++ rows)))) (sym (rows_joined row from n))
    ∙ parts_behind row (from + n) ns
    ∙ ap (rows_below row) more

as_they_are : (r : Result (List (List ℤ)) Trap) → r ≡ and_then r (λ rows. Ok ([] ++ rows))
as_they_are (Ok rows) = refl
as_they_are (Err t) = refl

-- The parts' rows in order are the rows of the whole; where a part traps, the lowest such part's first trap is the first of the
-- whole.
pub rows_are_parts : (row : ℕ → Result (List ℤ) Trap) (places : List ℕ) → rows_of_parts row 0 places ≡ rows_below row (places_in places)
rows_are_parts row places = as_they_are (rows_of_parts row 0 places) ∙ parts_behind row 0 places ∙ ap (rows_below row) (let z : 0 + places_in places ≡ places_in places = omega arith in z)

-- ---- rows that are alike

-- places below a number that have the same rows have them together
pub rows_alike : (row other : ℕ → Result (List ℤ) Trap) (n : ℕ) → ((i : ℕ) → i < n → row i ≡ other i) → rows_below row n ≡ rows_below other n
rows_alike row other zero e = refl
rows_alike row other (suc n) e =
    let last : n < suc n = omega arith in
    ap (λ r. and_then r (λ rows. and_then (row n) (λ x. Ok (rows ++ x ∷ [])))) (rows_alike row other n (λ i l. (let less : i < suc n = omega arith in e i less)))
    ∙ ap (λ r. and_then (rows_below other n) (λ rows. and_then r (λ x. Ok (rows ++ x ∷ [])))) (e n last)

-- a column of the rows of parts is the parts' columns, one behind the other
pub columns_joined : (k : ℕ) (above rows : List (List ℤ)) → column_of k (above ++ rows) ≡ column_of k above ++ column_of k rows
columns_joined k above rows = map-append (λ row. word_at row k) above rows
