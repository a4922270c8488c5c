-- The table that a text has, or its first defect, said of all records of the text at once.
use Rattle.std.specs.Prelude.{◌≡◌, ◌==◌, ℕ, ℤ, pos, negsuc, List, [], ◌∷◌, length, map, slice_get, Option, Some, None, is_none, unwrap_or, option_and_then, nat_lt, if◌then◌else◌, bytes_eq, Result, Ok, Err, ⊤, codes, refl}
use Rattle.std.specs.Option.{option_or}
use Rattle.std.specs.List.{position_or_len, enumerate_from}
use Rattle.csv.specs.Reading.{records, default_config, strip_bom}
use Rattle.hp_word.specs.Lengths.{longest}
use Rattle.hp_word.specs.declared.name.Name.{Name}
use Rattle.hp_tables.specs.declared.bad.Bad.{Bad}
use Rattle.hp_tables.specs.declared.bad.Bad.TheVariants as bad
use Rattle.hp_tables.specs.declared.bad.TableError.{TableError}
use Rattle.hp_tables.specs.declared.bad.TableError.TheVariants as error
use Rattle.csv.proofs.OnLiterals.{csv_on_literals}
use Rattle.hp_tables.specs.Cells.{cell_value, numeral_value, signed_value}

-- a record, as the bytes of its fields; the first one is the header, and the others are the rows
abbrev pub Record : Type 0
Record = List (List ℕ)

-- the first defect that is there
abbrev pub first_of : {A : Type 0} → List (Option A) → Option A
first_of [] = None
first_of (found ∷ rest) = option_or found (first_of rest)

-- ---- columns

-- the place of a name in a header: how many fields stand before the first that is the name
abbrev pub place_of : Record → Name → ℕ
place_of header name = position_or_len (λ field. bytes_eq field name.bytes) header

-- the number in the cell of a row at a place
abbrev pub number_at : ℕ → Record → Option ℤ
number_at place row = option_and_then cell_value (slice_get row place)

-- the numbers of the rows at a place; 0 stands where there is none, which no row of a table has
abbrev pub numbers_at : ℕ → List Record → List ℤ
numbers_at place rows = map (λ row. unwrap_or (number_at place row) (pos 0)) rows

-- for each name the numbers of its column, from the first row on
unfoldable pub columns_of : List Name → List Record → List (List ℤ)
columns_of names [] = []
columns_of names (header ∷ rows) = map (λ name. numbers_at (place_of header name) rows) names

-- ---- defects

-- a name that no field of the header is
abbrev pub missing : Record → Name → Option Bad
missing header name = if place_of header name == length header then Some (bad.MissingColumn name) else None

-- a cell with no number
abbrev pub bad_cell : Record → ℕ → Record → Name → Option Bad
bad_cell header number row name = if is_none (number_at (place_of header name) row) then Some (bad.BadCell number name) else None

-- the defect of a row, which comes with its number, counted from 1
unfoldable pub row_defect : Record → List Name → ℕ × Record → Option Bad
row_defect header names (number, row) =
    if nat_lt longest number then Some bad.TooManyRows
    else if length row == length header then first_of (map (bad_cell header number row) names)
    else Some (bad.Ragged number)

-- the defect of the first row that has one
abbrev pub rows_defect : Record → List Name → List Record → Option Bad
rows_defect header names rows = first_of (map (row_defect header names) (enumerate_from 1 rows))

-- the first defect of all records: names that are missing count before rows
unfoldable pub defect_of : List Name → List Record → Option Bad
defect_of names [] = Some bad.NoHeader
defect_of names (header ∷ rows) = option_or (first_of (map (missing header) names)) (rows_defect header names rows)

-- ---- the answer

-- the most bytes of a text
abbrev pub largest : ℕ
largest = 67108864

-- columns, unless there is a defect
abbrev pub unless : {A B : Type 0} → Option B → A → Result A B
unless None columns = Ok columns
unless (Some defect) columns = Err defect

-- the columns of these names in a list of records, or the first defect
abbrev pub table_of : List Name → List Record → Result (List (List ℤ)) Bad
table_of names list = unless (defect_of names list) (columns_of names list)

-- the same of a text, with the records that `csv` reads by its default rules, a mark of byte order at the start left out
unfoldable pub answer_of : List Name → List ℕ → Result (List (List ℤ)) Bad
answer_of names text = if nat_lt largest (length text) then Err bad.TooBig else table_of names (records default_config (strip_bom text))

-- an error is want of memory, or tells the defect that the answer is
abbrev pub Tells : {A : Type 0} → Result A Bad → TableError → Type 0
Tells answer error.NoMemory = ⊤
Tells answer (error.Bad defect) = answer ≡ Err defect

-- ---- worked rows

abbrev id_and_amount : List Name
id_and_amount = record { bytes = codes "id" } ∷ record { bytes = codes "amount" } ∷ []

abbrev amount : Name
amount = record { bytes = codes "amount" }

no_byte_row : answer_of id_and_amount [] ≡ Err bad.NoHeader
unfolding answer_of defect_of csv_on_literals
no_byte_row = refl

missing_row : answer_of id_and_amount (codes "id,cost\n") ≡ Err (bad.MissingColumn amount)
unfolding answer_of defect_of csv_on_literals
missing_row = refl

ragged_row : answer_of id_and_amount (codes "id,amount\n1,10\n2\n") ≡ Err (bad.Ragged 2)
unfolding answer_of defect_of row_defect cell_value signed_value numeral_value csv_on_literals
ragged_row = refl

-- the first row with a defect counts
first_row : answer_of id_and_amount (codes "id,amount\n1,x\n2\n") ≡ Err (bad.BadCell 1 amount)
unfolding answer_of defect_of row_defect cell_value signed_value numeral_value csv_on_literals
first_row = refl

-- of two fields that are the name the first one counts, and columns that are not named are not read
table_row : answer_of id_and_amount (codes "amount,note,id,id\n10,\"a, b\",1,x") ≡ Ok ((pos 1 ∷ []) ∷ (pos 10 ∷ []) ∷ [])
unfolding answer_of defect_of columns_of row_defect cell_value signed_value numeral_value csv_on_literals
table_row = refl

header_row : answer_of id_and_amount (codes "id,amount\n") ≡ Ok ([] ∷ [] ∷ [])
unfolding answer_of defect_of columns_of csv_on_literals
header_row = refl

-- a row with too few cells is ragged, whatever they spell
ragged_first_row : answer_of id_and_amount (codes "id,amount,note\n1,10,\nx,y\n") ≡ Err (bad.Ragged 2)
unfolding answer_of defect_of row_defect cell_value signed_value numeral_value csv_on_literals
ragged_first_row = refl

-- a mark of byte order is no part of a name
marked_row : answer_of id_and_amount (239 ∷ 187 ∷ 191 ∷ codes "amount,id\r\n-7,8\r\n") ≡ Ok ((pos 8 ∷ []) ∷ (negsuc 6 ∷ []) ∷ [])
unfolding answer_of defect_of columns_of row_defect cell_value signed_value numeral_value csv_on_literals
marked_row = refl
