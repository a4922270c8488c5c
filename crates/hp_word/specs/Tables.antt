-- Tables of numbers.
use Rattle.std.specs.Prelude.{◌≡◌, ℕ, ℤ, List, [], ◌∷◌, length, All, ◌≤◌}
use Rattle.hp_word.specs.Lengths.{longest}

-- how many rows a table with these columns has
abbrev pub row_count : List (List ℤ) → ℕ
row_count [] = 0
row_count (column ∷ rest) = length column

-- the columns have one length
abbrev pub AreEven : List (List ℤ) → Type 0
AreEven columns = All (λ column. length column ≡ row_count columns) columns

-- the columns have at most 1,048,576 rows
abbrev pub AreShort : List (List ℤ) → Type 0
AreShort columns = row_count columns ≤ longest
