-- What the code makes of a text is what Contents.antt says of it.
use Rattle.std.proofs.Common.{◌≡◌, ℕ, zero, suc, ◌+◌, ◌<◌, ◌≤◌, Bool, true, false, List, [], ◌∷◌, ◌++◌, length, get_or, drop, take, map, Option, Some, None, Ok, Err, refl, ap, sym, ◌∙◌, arith}
use Rattle.std.specs.Prelude.{ℤ, pos, unwrap_or, nat_lt, if◌then◌else◌, ◌==◌}
use Rattle.std.specs.List.{enumerate_from}
use Rattle.std.proofs.lemmas.List.{append-nil, drop_all, length-map, take_all}
use Rattle.std.proofs.lemmas.Bool.Decides.{nat_tests}
use Rattle.csv.specs.Reading.{default_config, records, strip_bom}
use Rattle.hp_word.specs.Lengths.{longest}
use Rattle.hp_word.specs.Tables.{AreEven, AreShort}
use Rattle.hp_word.specs.declared.name.Name.{Name}
use Rattle.hp_tables.specs.declared.bad.Bad.{Bad}
use Rattle.hp_tables.specs.declared.bad.Bad.TheVariants as bad
use Rattle.hp_tables.specs.declared.bad.TableError.{TableError}
use Rattle.hp_tables.specs.declared.bad.TableError.TheVariants as error
use Rattle.hp_tables.specs.declared.column.Column.{Column}
use Rattle.hp_tables.specs.Contents.{Record, Tells, answer_of, bad_cell, columns_of, defect_of, first_of, largest, missing, number_at, numbers_at, place_of, row_defect, rows_defect, table_of}
use Rattle.hp_tables.specs.Running.{TellsDefect, bad_in, cells_after, new_column, row_bad}

-- ---- the answer, case by case

big_test : (n : ℕ) → largest < n → nat_lt largest n ≡ true
big_test n h = grind (arith, nat_tests)

fit_test : (n : ℕ) → n ≤ largest → nat_lt largest n ≡ false
fit_test n h = grind (arith, nat_tests)

pub answer_big : (names : List Name) (text : List ℕ) → largest < length text → answer_of names text ≡ Err bad.TooBig
unfolding answer_of
answer_big names text h = rw (big_test (length text) h) refl

pub answer_fits : (names : List Name) (text : List ℕ) (list : List Record) → length text ≤ largest → records default_config (strip_bom text) ≡ list → answer_of names text ≡ table_of names list
unfolding answer_of
answer_fits names text list h e = rw (fit_test (length text) h, e) refl

pub table_empty : (names : List Name) → table_of names [] ≡ Err bad.NoHeader
unfolding defect_of
table_empty names = refl

-- an error that tells the missing name
pub table_missing : (names : List Name) (header : Record) (rows : List Record) (stop : TableError) → TellsDefect (first_of (map (missing header) names)) stop
    → Tells (table_of names (header ∷ rows)) stop
unfolding defect_of
table_missing names header rows error.NoMemory told = tt
table_missing names header rows (error.Bad defect) told = rw told refl

-- ---- columns and names

bad_named : (header : Record) (number : ℕ) (row : Record) (names : List Name) → map (bad_in number row) (map (new_column header) names) ≡ map (bad_cell header number row) names
unfolding bad_in new_column
bad_named header number row [] = refl
bad_named header number row (name ∷ names) = ap (λ (ds : List (Option Bad)). bad_cell header number row name ∷ ds) (bad_named header number row names)

row_named : (header : Record) (names : List Name) (numbered : ℕ × Record) → row_bad (length header) (map (new_column header) names) numbered ≡ row_defect header names numbered
unfolding row_bad row_defect
row_named header names (number, row) = rw (bad_named header number row names) refl

rows_named : (header : Record) (names : List Name) (rows : List (ℕ × Record)) → map (row_bad (length header) (map (new_column header) names)) rows ≡ map (row_defect header names) rows
rows_named header names [] = refl
rows_named header names (row ∷ rows) = rw (row_named header names row) (ap (λ (ds : List (Option Bad)). row_defect header names row ∷ ds) (rows_named header names rows))

pub rows_same : (header : Record) (names : List Name) (rows : List Record) (columns : List Column) → columns ≡ map (new_column header) names
    → first_of (map (row_bad (length header) columns) (enumerate_from 1 rows)) ≡ rows_defect header names rows
rows_same header names rows columns e = rw (e, rows_named header names (enumerate_from 1 rows)) refl

cells_named : (header : Record) (rows : List Record) (names : List Name) → map (cells_after rows) (map (new_column header) names) ≡ map (λ name. numbers_at (place_of header name) rows) names
unfolding cells_after new_column
cells_named header rows [] = refl
cells_named header rows (name ∷ names) = ap (λ (cs : List (List ℤ)). numbers_at (place_of header name) rows ∷ cs) (cells_named header rows names)

-- ---- a row's defect, and the table where there is none

pub table_defect : (names : List Name) (header : Record) (rows : List Record) (columns : List Column) (stop : TableError) → columns ≡ map (new_column header) names
    → first_of (map (missing header) names) ≡ None → TellsDefect (first_of (map (row_bad (length header) columns) (enumerate_from 1 rows))) stop
    → Tells (table_of names (header ∷ rows)) stop
unfolding defect_of
table_defect names header rows columns error.NoMemory e all told = tt
table_defect names header rows columns (error.Bad defect) e all told = rw (all, sym (rows_same header names rows columns e) ∙ told) refl

pub table_whole : (names : List Name) (header : Record) (rows : List Record) (columns : List Column) (cells : List (List ℤ)) → columns ≡ map (new_column header) names
    → first_of (map (missing header) names) ≡ None → first_of (map (row_bad (length header) columns) (enumerate_from 1 rows)) ≡ None
    → cells ≡ map (cells_after rows) columns → table_of names (header ∷ rows) ≡ Ok cells
unfolding defect_of columns_of
table_whole names header rows columns cells e all good made =
    rw (all, sym (rows_same header names rows columns e) ∙ good) (ap (λ (cs : List (List ℤ)). Ok cs) (sym (made ∙ ap (map (cells_after rows)) e ∙ cells_named header rows names)))

-- ---- what a table keeps

large_test : (n : ℕ) → longest < n → nat_lt longest n ≡ true
large_test n h = grind (arith, nat_tests)

good_first : {A : Type 0} (o : Option A) (rest : List (Option A)) → first_of (o ∷ rest) ≡ None → (o ≡ None) × (first_of rest ≡ None)
good_first None rest e = (refl, e)
good_first (Some x) rest e = cc e

in_bound : (header : Record) (names : List Name) (number : ℕ) (row : Record) → row_defect header names (number, row) ≡ None → number ≤ longest
unfolding row_defect
in_bound header names number row e = by (nat_lt longest number) refl e
  where
    by : (b : Bool) → nat_lt longest number ≡ b
        → (if b then Some bad.TooManyRows else if length row == length header then first_of (map (bad_cell header number row) names) else Some (bad.Ragged number)) ≡ None
        → number ≤ longest
    by true t f = cc f
    by false t f = grind (arith, nat_tests)

few_rows : (header : Record) (names : List Name) (number : ℕ) (rows : List Record) → first_of (map (row_defect header names) (enumerate_from number rows)) ≡ None
    → number ≤ longest + 1 → number + length rows ≤ longest + 1
few_rows header names number [] e h = omega arith
few_rows header names number (row ∷ rows) e h =
    let first = good_first (row_defect header names (number, row)) (map (row_defect header names) (enumerate_from (number + 1) rows)) e in
    let small = in_bound header names number row first.0 in
    let more = few_rows header names (number + 1) rows first.1 (omega arith) in
    omega arith

each_length : (f : Name → List ℤ) (n : ℕ) → ((name : Name) → length (f name) ≡ n) → (names : List Name) (k : ℕ) (d : List ℤ) → k < length (map f names) → length (get_or (map f names) k d) ≡ n
each_length f n same [] k d h = absurd (omega arith)
each_length f n same (name ∷ names) zero d h = same name
each_length f n same (name ∷ names) (suc k) d h = each_length f n same names k d (omega arith)

pub even_cells : (names : List Name) (header : Record) (rows : List Record) (columns : List Column) (cells : List (List ℤ)) → columns ≡ map (new_column header) names
    → cells ≡ map (cells_after rows) columns → AreEven cells
even_cells names header rows columns cells e made = rw (made ∙ ap (map (cells_after rows)) e ∙ cells_named header rows names) (by names)
  where
    long : (name : Name) → length (numbers_at (place_of header name) rows) ≡ length rows
    long name = length-map rows (λ row. unwrap_or (number_at (place_of header name) row) (pos 0))

    by : (ns : List Name) → AreEven (map (λ name. numbers_at (place_of header name) rows) ns)
    by [] = λ k d h. absurd (omega arith)
    by (n ∷ ns) = each_length (λ name. numbers_at (place_of header name) rows) (length (numbers_at (place_of header n) rows)) (λ name. long name ∙ sym (long n)) (n ∷ ns)

pub short_cells : (names : List Name) (header : Record) (rows : List Record) (columns : List Column) (cells : List (List ℤ)) → columns ≡ map (new_column header) names
    → first_of (map (row_bad (length header) columns) (enumerate_from 1 rows)) ≡ None → cells ≡ map (cells_after rows) columns → AreShort cells
short_cells names header rows columns cells e good made = rw (made ∙ ap (map (cells_after rows)) e ∙ cells_named header rows names) (by names)
  where
    few : length rows ≤ longest
    few = let more = few_rows header names 1 rows (sym (rows_same header names rows columns e) ∙ good) (omega arith) in omega arith

    by : (ns : List Name) → AreShort (map (λ name. numbers_at (place_of header name) rows) ns)
    by [] = omega arith
    by (n ∷ ns) = omega (arith, few, length-map rows (λ row. unwrap_or (number_at (place_of header n) row) (pos 0)))

pub wide_cells : (names : List Name) (header : Record) (rows : List Record) (columns : List Column) (cells : List (List ℤ)) → columns ≡ map (new_column header) names
    → cells ≡ map (cells_after rows) columns → length cells ≡ length names
wide_cells names header rows columns cells e made = ap length made ∙ length-map columns (cells_after rows) ∙ ap length e ∙ length-map names (new_column header)

-- what a loan of all items of a vector leaves, where it keeps their count
pub kept_whole : {A : Type 0} (n : ℕ) (new old : List A) → n ≡ length old → length new ≡ length old → take n (new ++ drop (length new) old) ≡ new
kept_whole n new old e h = rw (drop_all (length new) old (omega arith), append-nil new) (take_all n new (omega arith))

-- the answer is that of the records
pub tells_fits : (names : List Name) (text : List ℕ) (list : List Record) (stop : TableError) → length text ≤ largest → records default_config (strip_bom text) ≡ list
    → Tells (table_of names list) stop → Tells (answer_of names text) stop
tells_fits names text list stop h e told = rw (answer_fits names text list h e) told

pub ruleset answers = (answer_big, answer_fits, tells_fits)
