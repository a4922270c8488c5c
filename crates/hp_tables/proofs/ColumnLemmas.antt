-- A row that is read into the columns.
use Rattle.std.proofs.Common.{◌≡◌, ℕ, ◌+◌, ◌<◌, List, [], ◌∷◌, ◌++◌, length, get_or, set, drop, take, map, Option, Some, None, refl, ap, append_assoc, arith}
use Rattle.std.specs.Prelude.{ℤ, pos, unwrap_or}
use Rattle.std.specs.List.{enumerate_from}
use Rattle.std.proofs.lemmas.List.{append-nil}
use Rattle.std.proofs.lemmas.List.Edits.{map_over_more}
use Rattle.std.proofs.lemmas.Grind.{common_steps}
use Rattle.hp_tables.specs.declared.bad.Bad.{Bad}
use Rattle.hp_tables.specs.declared.column.Column.{Column}
use Rattle.hp_tables.specs.declared.bad.TableError.{TableError}
use Rattle.hp_tables.specs.declared.bad.TableError.TheVariants as error
use Rattle.hp_tables.specs.Contents.{Record, first_of, number_at, numbers_at}
use Rattle.hp_tables.specs.Running.{TellsDefect, bad_in, cells_after, grown, row_bad}
use Rattle.hp_tables.proofs.ListLemmas.{first_past}

-- what is not yet changed is as it was
same_at : {A : Type 0} (f : A → A) (old now : List A) (i : ℕ) (x : A) → i < length old → now ≡ map f (take i old) ++ drop i old → x ≡ get_or now i x → x ≡ get_or old i x
same_at f old now i x h e is = grind (arith, common_steps)

pub grow_step : (row : Record) (old now : List Column) (i : ℕ) (x : Column) (value : ℤ) (cells : List ℤ) → i < length old
    → now ≡ map (grown row) (take i old) ++ drop i old → x ≡ get_or now i x → number_at x.place row ≡ Some value → cells ≡ x.cells ++ value ∷ []
    → set now i (record { name = x.name; place = x.place; cells = cells }) ≡ map (grown row) (take (i + 1) old) ++ drop (i + 1) old
unfolding grown
grow_step row old now i x value cells h e is number made =
    let grows : cells ≡ x.cells ++ unwrap_or (number_at x.place row) (pos 0) ∷ [] = rw number made in
    rw grows (map_over_more (grown row) old now i x h e is)

pub good_step : (row : Record) (number : ℕ) (old now : List Column) (i : ℕ) (x : Column) (value : ℤ) → i < length old
    → now ≡ map (grown row) (take i old) ++ drop i old → x ≡ get_or now i x → number_at x.place row ≡ Some value
    → first_of (map (bad_in number row) (drop (i + 1) old)) ≡ first_of (map (bad_in number row) (drop i old))
unfolding bad_in
good_step row number old now i x value h e is there =
    first_past (bad_in number row) old i x h (same_at (grown row) old now i x h e is) (rw there refl)

-- ---- rows one after the other

pub after_grown : (row : Record) (rest : List Record) (columns : List Column) → map (cells_after rest) (map (grown row) columns) ≡ map (cells_after (row ∷ rest)) columns
unfolding grown cells_after
after_grown row rest [] = refl
after_grown row rest (column ∷ columns) =
    rw (append_assoc column.cells (unwrap_or (number_at column.place row) (pos 0) ∷ []) (numbers_at column.place rest))
    (ap (λ (cs : List (List ℤ)). (column.cells ++ numbers_at column.place (row ∷ rest)) ∷ cs) (after_grown row rest columns))

pub after_none : (columns : List Column) → map (λ column. column.cells) columns ≡ map (cells_after []) columns
unfolding cells_after
after_none [] = refl
after_none (column ∷ columns) = rw (append-nil column.cells) (ap (λ (cs : List (List ℤ)). column.cells ∷ cs) (after_none columns))

bad_grown : (number : ℕ) (row before : Record) (columns : List Column) → map (bad_in number row) (map (grown before) columns) ≡ map (bad_in number row) columns
unfolding bad_in grown
bad_grown number row before [] = refl
bad_grown number row before (column ∷ columns) = ap (λ (ds : List (Option Bad)). bad_in number row column ∷ ds) (bad_grown number row before columns)

-- cells so far have no part in a defect
row_bad_grown : (width : ℕ) (before : Record) (columns : List Column) (numbered : ℕ × Record) → row_bad width (map (grown before) columns) numbered ≡ row_bad width columns numbered
unfolding row_bad
row_bad_grown width before columns (number, row) = rw (bad_grown number row before columns) refl

rows_bad_grown : (width : ℕ) (before : Record) (columns : List Column) (rows : List (ℕ × Record)) → map (row_bad width (map (grown before) columns)) rows ≡ map (row_bad width columns) rows
rows_bad_grown width before columns [] = refl
rows_bad_grown width before columns (row ∷ rows) = rw (row_bad_grown width before columns row) (ap (λ (ds : List (Option Bad)). row_bad width columns row ∷ ds) (rows_bad_grown width before columns rows))

-- after a row with no defect the first defect is that of the rows after it
pub rows_step : (width number : ℕ) (row : Record) (rest : List Record) (columns : List Column) → row_bad width columns (number, row) ≡ None
    → first_of (map (row_bad width (map (grown row) columns)) (enumerate_from (number + 1) rest)) ≡ first_of (map (row_bad width columns) (enumerate_from number (row ∷ rest)))
rows_step width number row rest columns good = rw (rows_bad_grown width row columns (enumerate_from (number + 1) rest), good) refl

-- the first row with a defect
pub rows_found : (width number : ℕ) (row : Record) (rest : List Record) (columns : List Column) (stop : TableError) → TellsDefect (row_bad width columns (number, row)) stop
    → TellsDefect (first_of (map (row_bad width columns) (enumerate_from number (row ∷ rest)))) stop
rows_found width number row rest columns error.NoMemory told = tt
rows_found width number row rest columns (error.Bad bad) told = rw told refl

pub ruleset rows_read = (after_grown, after_none, rows_step, rows_found)
