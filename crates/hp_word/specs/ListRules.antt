-- The constructs of arrays, over plain lists: a value, or a trap at the construct's place.
use Rattle.std.specs.Prelude.{◌≡◌, ℕ, ◌+◌, ℤ, pos, negsuc, ◌+ℤ◌, ◌-ℤ◌, ◌&&◌, if◌then◌else◌, List, [], ◌∷◌, ◌++◌, map, length, replicate, nat_le, int_le, Result, Ok, Err, refl}
use Rattle.std.specs.Int.{int_wrap}
use Rattle.std.specs.List.{range_with_len}
use Rattle.hp_word.specs.declared.fold.FoldKind.{FoldKind}
use Rattle.hp_word.specs.declared.fold.FoldKind.TheVariants.{Sum, Min, Max}
use Rattle.hp_word.specs.declared.place.Place.{Place}
use Rattle.hp_word.specs.declared.place.Trap.{Trap}
use Rattle.hp_word.specs.declared.place.TrapKind.TheVariants.{BadLength, Index, Empty, TooLong}
use Rattle.hp_word.specs.Folds.{fold_of}
use Rattle.hp_word.specs.Lengths.{trap, longest, length_of}
use Rattle.hp_word.specs.LoopRules.{and_then, all_ok, word_at}
use Rattle.hp_word.specs.Words.{wrap}

-- ---- making arrays

-- a word as often as another says
unfoldable pub filled : Place → (count value : ℤ) → Result (List ℤ) Trap
filled at count value = and_then (length_of at count) (λ n. Ok (replicate n value))

-- a whole number, and 0 for one below
abbrev pub at_least_zero : ℤ → ℕ
at_least_zero (pos n) = n
at_least_zero (negsuc n) = 0

-- how many numbers there are from one up to another
abbrev pub count_from : (first last : ℤ) → ℕ
count_from first last = at_least_zero ((last -ℤ first) +ℤ pos 1)

-- the same, where there are at most 1,048,576
unfoldable pub range_count : Place → (first last : ℤ) → Result ℕ Trap
range_count at first last = if nat_le (count_from first last) longest then Ok (count_from first last) else Err (trap at TooLong)

-- so many numbers from one on
unfoldable pub span : (first : ℤ) (count : ℕ) → List ℤ
span first count = map (λ k. first +ℤ pos k) (range_with_len 0 count)

-- the numbers from one up to another
unfoldable pub range_of : Place → (first last : ℤ) → Result (List ℤ) Trap
range_of at first last = and_then (range_count at first last) (λ n. Ok (span first n))

-- one array behind another, at most 1,048,576 elements
unfoldable pub appended : Place → (first second : List ℤ) → Result (List ℤ) Trap
appended at first second = if nat_le (length first + length second) longest then Ok (first ++ second) else Err (trap at TooLong)

-- ---- folds and scans

-- the fold of an array; the least and the greatest of no elements are traps
unfoldable pub folded_list : FoldKind → Place → List ℤ → Result ℤ Trap
folded_list Min at [] = Err (trap at Empty)
folded_list Max at [] = Err (trap at Empty)
folded_list kind at xs = Ok (fold_of kind xs)

-- the sum of the words up to each one and of what comes before them all, wrapped
unfoldable pub sums_after : (before : ℤ) → List ℤ → List ℤ
sums_after before [] = []
sums_after before (x ∷ xs) = wrap (before +ℤ x) ∷ sums_after (before +ℤ x) xs

-- the wrapped sums of the words up to each one
abbrev pub prefix_sums : List ℤ → List ℤ
prefix_sums xs = sums_after (pos 0) xs

-- ---- elements

-- the element at a position from 1
unfoldable pub element_at : Place → List ℤ → ℤ → Result ℤ Trap
element_at at xs i = if int_le (pos 1) i && int_le i (pos (length xs)) then Ok (word_at xs (at_least_zero (i -ℤ pos 1))) else Err (trap at Index)

-- the elements at these positions, from the first on
unfoldable pub elements_at : Place → List ℤ → (positions : List ℤ) → Result (List ℤ) Trap
elements_at at xs positions = all_ok (map (element_at at xs) positions)

-- ---- worked rows

filled_rows : (at : Place) → (filled at (pos 2) (pos 7) ≡ Ok (pos 7 ∷ pos 7 ∷ [])) × (filled at (negsuc 0) (pos 7) ≡ Err (trap at BadLength)) × (filled at (pos 1048577) (pos 7) ≡ Err (trap at TooLong))
unfolding filled
filled_rows at = (refl, refl, refl)

range_rows : (at : Place) → (range_of at (negsuc 0) (pos 2) ≡ Ok (negsuc 0 ∷ pos 0 ∷ pos 1 ∷ pos 2 ∷ [])) × (range_of at (pos 2) (pos 1) ≡ Ok []) × (range_of at (pos 1) (pos 1048577) ≡ Err (trap at TooLong))
unfolding range_of range_count span
range_rows at = (refl, refl, refl)

appended_row : (at : Place) → appended at (pos 1 ∷ []) (pos 2 ∷ pos 3 ∷ []) ≡ Ok (pos 1 ∷ pos 2 ∷ pos 3 ∷ [])
unfolding appended
appended_row at = refl

folded_rows : (at : Place) → (folded_list Min at [] ≡ Err (trap at Empty)) × (folded_list Max at (pos 1 ∷ pos 3 ∷ []) ≡ Ok (pos 3)) × (folded_list Sum at [] ≡ Ok (pos 0))
unfolding folded_list int_wrap
folded_rows at = (refl, refl, refl)

sums_row : prefix_sums (pos 1 ∷ pos 2 ∷ pos 3 ∷ []) ≡ pos 1 ∷ pos 3 ∷ pos 6 ∷ []
unfolding sums_after int_wrap
sums_row = refl

element_rows : (at : Place) → (element_at at (pos 7 ∷ pos 8 ∷ []) (pos 2) ≡ Ok (pos 8)) × (element_at at (pos 7 ∷ pos 8 ∷ []) (pos 0) ≡ Err (trap at Index)) × (element_at at (pos 7 ∷ pos 8 ∷ []) (pos 3) ≡ Err (trap at Index))
unfolding element_at
element_rows at = (refl, refl, refl)

elements_row : (at : Place) → elements_at at (pos 7 ∷ pos 8 ∷ []) (pos 2 ∷ pos 2 ∷ pos 1 ∷ []) ≡ Ok (pos 8 ∷ pos 8 ∷ pos 7 ∷ [])
unfolding elements_at element_at all_ok
elements_row at = refl
