-- Operations on whole arrays.
use Rattle.std.specs.Prelude.{◌+ℤ◌, ◌==◌, ℤ, List, [], ◌∷◌, length, map, if◌then◌else◌, Result, Ok, Err}
use Rattle.hp_word.specs.declared.place.Place.{Place}
use Rattle.hp_word.specs.declared.place.Trap.{Trap}
use Rattle.hp_word.specs.declared.place.TrapKind.TheVariants.{Mismatch}
use Rattle.hp_word.specs.Lengths.{trap}
use Rattle.hp_word.specs.Words.{wrap}

-- the wrapped sums of the elements of two arrays, place by place
abbrev pub added : List ℤ → List ℤ → List ℤ
added [] ys = []
added (x ∷ xs) [] = []
added (x ∷ xs) (y ∷ ys) = wrap (x +ℤ y) ∷ added xs ys

-- the sum of two arrays of one length, or a trap
abbrev pub sum_of : Place → List ℤ → List ℤ → Result (List ℤ) Trap
sum_of at xs ys = if length xs == length ys then Ok (added xs ys) else Err (trap at Mismatch)

-- each element and a number
abbrev pub added_number : List ℤ → ℤ → List ℤ
added_number xs n = map (λ x. wrap (x +ℤ n)) xs
