-- Rules of frames whose rows are picked from one frame or table make columns of at most as many cells as an array may
-- have.
use Rattle.std.proofs.Common.{◌≡◌, ℕ, suc, ◌≤◌, ◌==◌, ℤ, pos, Bool, true, false, cond, if◌then◌else◌, List, [], ◌∷◌, map, length, All, Option, Some, None, Result, Ok, Err, refl, ap, subst, ◌∙◌, arith}
use Rattle.std.specs.Prelude.{zip, find, slice_index_or}
use Rattle.std.specs.Option.{option_map}
use Rattle.std.proofs.lemmas.List.{length-map}
use Rattle.std.proofs.lemmas.List.Elements.{All-head, All-tail}
use Rattle.std.specs.List.{AllByRecursion, range_with_len}
use Rattle.std.proofs.lemmas.List.FromFn.{length-range_with_len}
use Rattle.hp_word.specs.declared.place.Place.{Place}
use Rattle.hp_word.specs.declared.place.Trap.{Trap}
use Rattle.hp_word.specs.declared.place.TrapKind.TheVariants.{Mismatch}
use Rattle.hp_word.specs.declared.table.Table.{Table}
use Rattle.hp_word.specs.Lengths.{longest, trap}
use Rattle.hp_word.specs.RowRules.{level, filter_rows, inserted, sorted, sorted_places, is_before, row_at}
use Rattle.hp_word.specs.Tables.{row_count}
use Rattle.hp_word.specs.Words.{is_true}
use Rattle.hp_meaning.specs.declared.value.Column.{Column}
use Rattle.hp_meaning.specs.declared.value.Kind.TheVariants.{Number}
use Rattle.hp_meaning.specs.declared.value.Value.{Value}
use Rattle.hp_meaning.specs.declared.value.Value.TheVariants.{List as Listed, Frame}
use Rattle.hp_meaning.specs.FrameRules.{column, is_named, column_of, cells_of, changed, field_value, framed, named_columns, tabled, filtered, picked, sorted_frame, sorted_value, without, rows_of}
use Rattle.hp_meaning.specs.Operands.{as_truths}
use Rattle.hp_meaning.specs.Outcomes.{Gives, Traps, told}
use Rattle.hp_flat.proofs.ShortLists.{also_only, given_only, only_if}
use Rattle.hp_flat.proofs.ShortScopes.{IsShort, AreShortColumns, OnlyGives, gives_such, traps_so, refuses_so}

-- a column of a frame is as short as all
found_short : (c : List ℕ) (columns : List Column) (xs : List ℤ) → AreShortColumns columns → option_map (λ (x : Column). x.cells) (find (is_named c) columns) ≡ Some xs → length xs ≤ longest
found_short c [] xs are e = absurd cc
found_short c (x ∷ columns) xs are e = step (is_named c x) (found_short c columns xs are.1) e
  where
    step : (b : Bool) → (option_map (λ (x : Column). x.cells) (find (is_named c) columns) ≡ Some xs → length xs ≤ longest)
        → option_map (λ (x : Column). x.cells) (cond b (Some x) (find (is_named c) columns)) ≡ Some xs → length xs ≤ longest
    step true later e = let same : x.cells ≡ xs = cc in subst (λ (l : List ℤ). length l ≤ longest) same are.0
    step false later e = later e

pub column_short : (c : List ℕ) (columns : List Column) (xs : List ℤ) → AreShortColumns columns → column_of c columns ≡ Some xs → length xs ≤ longest
unfolding column_of
column_short c columns xs are e = found_short c columns xs are e

pub field_short : (c : List ℕ) (a : Value) → IsShort a → OnlyGives IsShort (field_value c a)
unfolding field_value
field_short c (Frame columns) are = given_only (column_of c columns) (λ cells. Gives (Listed Number cells)) (λ cells e. gives_such (column_short c columns cells are e))
field_short c _ are = refuses_so

any_told : {A : Type 0} (result : Result A Trap) → OnlyGives (λ (a : A). Unit {0}) (told result)
any_told (Ok a) = gives_such tt
any_told (Err t) = traps_so

pub framed_short : (at : Place) (columns : List Column) → AreShortColumns columns → OnlyGives IsShort (framed at columns)
unfolding framed
framed_short at [] are = refuses_so
framed_short at (c ∷ columns) are = also_only (λ cells. Gives (Frame (c ∷ columns))) (any_told (level at (cells_of (c ∷ columns)))) (λ cells any. gives_such are)

-- ---- tables

named_short : (names : List (List ℕ)) (lists : List (List ℤ)) → AllByRecursion (λ xs. length xs ≤ longest) lists → AreShortColumns (map (λ p. column p.0 p.1) (zip names lists))
named_short [] lists are = tt
named_short (name ∷ names) [] are = tt
named_short (name ∷ names) (xs ∷ lists) are = (are.0, named_short names lists are.1)

even_short : (rows : ℕ) (lists : List (List ℤ)) → rows ≤ longest → All (λ (xs : List ℤ). length xs ≡ rows) lists → AllByRecursion (λ xs. length xs ≤ longest) lists
even_short rows [] few even = tt
even_short rows (xs ∷ lists) few even =
    let one = All-head (λ (xs : List ℤ). length xs ≡ rows) xs lists even in
    (omega (arith, one, few), even_short rows lists few (All-tail (λ (xs : List ℤ). length xs ≡ rows) xs lists even))

pub tabled_short : (names : List (List ℕ)) (found : Option Table) → OnlyGives IsShort (tabled names found)
unfolding tabled named_columns
tabled_short names None = refuses_so
tabled_short names (Some table) =
    only_if (length names == length table.columns) (gives_such (named_short names table.columns (even_short (row_count table.columns) table.columns table.short table.even))) refuses_so

-- ---- rows of one frame

pub changed_short : (change : List ℤ → List ℤ) (columns : List Column) → AllByRecursion (λ c. length (change c.cells) ≤ longest) columns → AreShortColumns (changed change columns)
changed_short change [] are = tt
changed_short change (c ∷ columns) are = (are.0, changed_short change columns are.1)

fewer_rows : (mask xs : List ℤ) → length (filter_rows mask xs) ≤ length xs
unfolding filter_rows
fewer_rows [] xs = omega arith
fewer_rows (m ∷ mask) [] = omega arith
fewer_rows (m ∷ mask) (x ∷ xs) = step (is_true m) (fewer_rows mask xs)
  where
    step : (b : Bool) → length (filter_rows mask xs) ≤ length xs → length (cond b (x ∷ filter_rows mask xs) (filter_rows mask xs)) ≤ suc (length xs)
    step true le = omega (arith, le)
    step false le = omega (arith, le)

filtered_all : (mask : List ℤ) (columns : List Column) → AreShortColumns columns → AllByRecursion (λ c. length (filter_rows mask c.cells) ≤ longest) columns
filtered_all mask [] are = tt
filtered_all mask (c ∷ columns) are = (let few = fewer_rows mask c.cells in let all = are.0 in omega (arith, few, all), filtered_all mask columns are.1)

pub filtered_short : (at : Place) (columns : List Column) (b : Value) → AreShortColumns columns → OnlyGives IsShort (filtered at columns b)
unfolding filtered
filtered_short at columns b are =
    given_only (as_truths b) (λ mask. if length mask == rows_of columns then Gives (Frame (changed (filter_rows mask) columns)) else Traps (trap at Mismatch))
    (λ mask e. only_if (length mask == rows_of columns) (gives_such (changed_short (filter_rows mask) columns (filtered_all mask columns are))) traps_so)

picked_all : (places : List ℕ) (columns : List Column) → length places ≤ longest → AllByRecursion (λ c. length (picked places c.cells) ≤ longest) columns
unfolding picked
picked_all places [] few = tt
picked_all places (c ∷ columns) few =
    let many : length (map (λ p. slice_index_or c.cells p (pos 0)) places) ≡ length places = length-map places (λ (p : ℕ). slice_index_or c.cells p (pos 0)) in
    (omega (arith, many, few), picked_all places columns few)

inserted_once : (columns : List (List ℤ)) (p : ℕ) (places : List ℕ) → length (inserted columns p places) ≡ suc (length places)
unfolding inserted
inserted_once columns p [] = refl
inserted_once columns p (q ∷ places) = step (is_before (row_at columns q) (row_at columns p)) (inserted_once columns p places)
  where
    step : (b : Bool) → length (inserted columns p places) ≡ suc (length places) → length (cond b (q ∷ inserted columns p places) (p ∷ q ∷ places)) ≡ suc (suc (length places))
    step true e = ap suc e
    step false e = refl

sorted_as_many : (columns : List (List ℤ)) (places : List ℕ) → length (sorted columns places) ≡ length places
unfolding sorted
sorted_as_many columns [] = refl
sorted_as_many columns (p ∷ places) = inserted_once columns p (sorted columns places) ∙ ap suc (sorted_as_many columns places)

places_as_many : (columns : List (List ℤ)) (rows : ℕ) → length (sorted_places columns rows) ≡ rows
unfolding sorted_places
places_as_many columns rows = sorted_as_many columns (range_with_len 0 rows) ∙ length-range_with_len 0 rows

rows_short : (columns : List Column) → AreShortColumns columns → rows_of columns ≤ longest
rows_short [] are = omega arith
rows_short (c ∷ columns) are = are.0

pub sorted_short : (key : List ℕ) (a : Value) → IsShort a → OnlyGives IsShort (sorted_value key a)
unfolding sorted_value sorted_frame
sorted_short key (Frame columns) are =
    given_only (column_of key columns) (λ keys. Gives (Frame (sorted_frame key columns keys)))
    (λ keys e. gives_such (changed_short (picked (sorted_places (keys ∷ cells_of (without key columns)) (rows_of columns))) columns
    (picked_all (sorted_places (keys ∷ cells_of (without key columns)) (rows_of columns)) columns
    (let many = places_as_many (keys ∷ cells_of (without key columns)) (rows_of columns) in let few = rows_short columns are in omega (arith, many, few)))))
sorted_short key _ are = refuses_so
