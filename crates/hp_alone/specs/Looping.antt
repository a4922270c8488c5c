-- A loop of which each rank does its own places: the rows of the parts of a whole, part after part.
use Rattle.std.specs.Prelude.{◌≡◌, ℕ, zero, suc, ◌+◌, ℤ, pos, List, [], ◌∷◌, ◌++◌, Result, Ok, Err, refl}
use Rattle.hp_word.specs.declared.place.Place.{Place}
use Rattle.hp_word.specs.declared.place.Trap.{Trap}
use Rattle.hp_word.specs.declared.place.TrapKind.TheVariants.{Divide, TooLong}
use Rattle.hp_word.specs.Lengths.{trap}
use Rattle.hp_word.specs.LoopRules.{and_then, rows_below}

-- the rows of the places of one part, which begins at this place of the whole
abbrev pub rows_from : (ℕ → Result (List ℤ) Trap) → (from places : ℕ) → Result (List (List ℤ)) Trap
rows_from row from places = rows_below (λ i. row (from + i)) places

-- The rows of parts of these numbers of places, one behind the other from this place on; a part may have none. Where a part
-- traps, the first such part's first trap counts.
abbrev pub rows_of_parts : (ℕ → Result (List ℤ) Trap) → (from : ℕ) → (places : List ℕ) → Result (List (List ℤ)) Trap
rows_of_parts row from [] = Ok []
rows_of_parts row from (n ∷ ns) = and_then (rows_from row from n) (λ rows. and_then (rows_of_parts row (from + n) ns) (λ more. Ok (rows ++ more)))

-- the places of all parts
abbrev pub places_in : List ℕ → ℕ
places_in [] = 0
places_in (n ∷ ns) = n + places_in ns

-- ---- worked rows

-- three parts, the second of which has no place
parts_row : rows_of_parts (λ i. Ok (pos i ∷ [])) 4 (2 ∷ 0 ∷ 1 ∷ []) ≡ Ok ((pos 4 ∷ []) ∷ (pos 5 ∷ []) ∷ (pos 6 ∷ []) ∷ [])
parts_row = refl

-- every place traps, by its own kind: the lowest part that has a place counts
abbrev trap_of : Place → ℕ → Result (List ℤ) Trap
trap_of at zero = Err (trap at Divide)
trap_of at (suc i) = Err (trap at TooLong)

parts_trap_row : (at : Place) → (rows_of_parts (trap_of at) 0 (0 ∷ 1 ∷ 1 ∷ []) ≡ Err (trap at Divide)) × (rows_below (trap_of at) 2 ≡ Err (trap at Divide))
parts_trap_row at = (refl, refl)
