-- What the code knows between two rows. It stands between the code and Contents.antt; nobody need believe it.
use Rattle.std.specs.Prelude.{◌≡◌, ◌==◌, ◌^◌, ⊤, ℕ, ℤ, pos, List, [], ◌∷◌, ◌++◌, length, map, Option, Some, None, is_none, option_and_then, unwrap_or, nat_lt, if◌then◌else◌}
use Rattle.hp_word.specs.Lengths.{longest}
use Rattle.hp_word.specs.declared.name.Name.{Name}
use Rattle.hp_tables.specs.declared.bad.Bad.{Bad}
use Rattle.hp_tables.specs.declared.bad.Bad.TheVariants as bad
use Rattle.hp_tables.specs.declared.bad.TableError.{TableError}
use Rattle.hp_tables.specs.declared.bad.TableError.TheVariants as error
use Rattle.hp_tables.specs.Cells.{numeral_value}
use Rattle.hp_tables.specs.declared.column.Column.{Column}
use Rattle.hp_tables.specs.Contents.{Record, first_of, place_of, number_at, numbers_at}

-- a column of a header before its first row
unfoldable pub new_column : Record → Name → Column
new_column header name = record { name = name; place = place_of header name; cells = [] }

-- a column after one more row
unfoldable pub grown : Record → Column → Column
grown row column = record column { cells = column.cells ++ unwrap_or (number_at column.place row) (pos 0) ∷ [] }

-- the cells of a column after these rows
unfoldable pub cells_after : List Record → Column → List ℤ
cells_after rows column = column.cells ++ numbers_at column.place rows

-- a cell with no number
unfoldable pub bad_in : ℕ → Record → Column → Option Bad
bad_in number row column = if is_none (number_at column.place row) then Some (bad.BadCell number column.name) else None

-- the defect of a row, which comes with its number, under a header with so many fields
unfoldable pub row_bad : ℕ → List Column → ℕ × Record → Option Bad
row_bad width columns (number, row) =
    if nat_lt longest number then Some bad.TooManyRows
    else if length row == width then first_of (map (bad_in number row) columns)
    else Some (bad.Ragged number)

-- an error is want of memory, or tells the defect
abbrev pub TellsDefect : Option Bad → TableError → Type 0
TellsDefect defect error.NoMemory = ⊤
TellsDefect defect (error.Bad told) = defect ≡ Some told

-- the number that digits spell, below 2^64
unfoldable pub numeral_within : List ℕ → Option ℕ
numeral_within text = option_and_then (λ n. if nat_lt n (2 ^ 64) then Some n else None) (numeral_value text)
