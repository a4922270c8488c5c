-- Rows whose places count from 0, as the kernels find them, by the places from 1 of the rules of rows.
use Rattle.std.specs.Prelude.{ℕ, ◌+◌, ◌-◌, ◌<◌, ℤ, List, length, All}
use Rattle.hp_word.specs.declared.order.RowPlace.{RowPlace}
use Rattle.hp_word.specs.RowRules.{row_place}

-- a pair of rows and the first row of a group by their places from 1
abbrev pub next_place : RowPlace → RowPlace
next_place p = row_place (p.left + 1) (p.right + 1)

abbrev pub first_place : (first : ℕ) → RowPlace
first_place first = row_place (first + 1) 0

-- the left places are of rows with these keys
abbrev pub AreRows : (keys : List ℤ) → List RowPlace → Type 0
AreRows keys places = All (λ p. p.left - 1 < length keys) places
