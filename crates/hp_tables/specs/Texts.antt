-- The words of a defect.
use Rattle.std.specs.Prelude.{◌≡◌, ℕ, List, ◌++◌, codes, decimal, refl}
use Rattle.std.specs.Fmt.{digits}
use Rattle.hp_tables.specs.declared.bad.Bad.{Bad}
use Rattle.hp_tables.specs.declared.bad.Bad.TheVariants as bad

-- one line without its newline; a name stands as its bytes, a row by its number in decimal
abbrev pub bad_text : Bad → List ℕ
bad_text bad.TooBig = codes "too big"
bad_text bad.NoHeader = codes "no header"
bad_text (bad.MissingColumn name) = codes "no column " ++ name.bytes
bad_text (bad.BadCell row name) = codes "row " ++ decimal row ++ codes ": bad cell in " ++ name.bytes
bad_text (bad.Ragged row) = codes "row " ++ decimal row ++ codes ": ragged"
bad_text bad.TooManyRows = codes "too many rows"

-- ---- a worked row

cell_row : bad_text (bad.BadCell 12 (record { bytes = codes "amount" })) ≡ codes "row 12: bad cell in amount"
unfolding digits
cell_row = refl
