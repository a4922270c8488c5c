-- The columns of a frame by their names, and by the positions of these.
use Rattle.std.proofs.Common.{◌≡◌, ℕ, ℤ, suc, ◌+◌, Bool, true, false, not, ◌||◌, cond, bytes_eq, take, drop, List, [], ◌∷◌, ◌++◌, Option, Some, refl, ap, ◌∙◌, one-add, option_map}
use Rattle.std.proofs.lemmas.Cmp.{nat_list_eq_equiv}
use Rattle.std.proofs.lemmas.Slice.Eq.{bytes_eq-Decides}
use Rattle.std.specs.Prelude.{slice_index_or, remove, find, filter}
use Rattle.std.specs.List.{position_or_len}
use Rattle.hp_word.specs.declared.name.Name.{Name}
use Rattle.hp_word.specs.RowRules.{column_at}
use Rattle.hp_script.specs.Breaks.{repeats}
use Rattle.hp_script.specs.Scope.{has_column}
use Rattle.hp_meaning.specs.declared.value.Column.{Column}
use Rattle.hp_meaning.specs.Fitting.{names_of}
use Rattle.hp_meaning.specs.FrameRules.{cells_of, is_named, column_of, without}
use Rattle.hp_flat.proofs.KeptHomes.{neither}

-- the position of the first of these names that is this one
abbrev pub place_of : List ℕ → List Name → ℕ
place_of c names = position_or_len (λ (name : Name). bytes_eq c name.bytes) names

found_step : (same other later : Bool) (x : Column) (found : Option Column) (lists : List (List ℤ)) (place : ℕ) → other ≡ same → (later ≡ true → option_map (λ (c : Column). c.cells) found ≡ Some (slice_index_or lists place []))
    → (same || later) ≡ true → option_map (λ (c : Column). c.cells) (cond other (Some x) found) ≡ Some (slice_index_or (x.cells ∷ lists) (cond (not same) (1 + place) 0) [])
found_step true true later x found lists place e next h = refl
found_step false false later x found lists place e next h = rw one-add (next h)
found_step true false later x found lists place e next h = absurd cc
found_step false true later x found lists place e next h = absurd cc

-- the column of a name that the frame has
pub column_is : (c : List ℕ) (columns : List Column) → has_column c (names_of columns) ≡ true → column_of c columns ≡ Some (column_at (place_of c (names_of columns)) (cells_of columns))
unfolding column_of
column_is c [] h = absurd cc
column_is c (x ∷ columns) h =
    found_step (bytes_eq c x.name.bytes) (bytes_eq x.name.bytes c) (has_column c (names_of columns)) x (find (is_named c) columns) (cells_of columns) (place_of c (names_of columns))
    (nat_list_eq_equiv.symm x.name.bytes c) (λ later. column_is c columns later) h

kept_step : (other : Bool) (x : Column) (rest kept : List Column) → other ≡ false → kept ≡ rest → cond (not other) (x ∷ kept) kept ≡ x ∷ rest
kept_step false x rest kept e same = ap (λ (l : List Column). x ∷ l) same
kept_step true x rest kept e same = absurd cc

-- where no column has the name, all stay
all_kept : (c : List ℕ) (columns : List Column) → has_column c (names_of columns) ≡ false → without c columns ≡ columns
unfolding without
all_kept c [] none_has = refl
all_kept c (x ∷ columns) none_has =
    let parts = neither (bytes_eq c x.name.bytes) (has_column c (names_of columns)) none_has in
    kept_step (bytes_eq x.name.bytes c) x columns (filter (λ d. not (is_named c d)) columns) (nat_list_eq_equiv.symm x.name.bytes c ∙ parts.0) (all_kept c columns parts.1)

others_step : (same other : Bool) (x : Column) (rest kept : List Column) (lists : List (List ℤ)) (place : ℕ) → other ≡ same
    → (same ≡ true → cells_of kept ≡ lists) → (same ≡ false → cells_of kept ≡ take place lists ++ drop (suc place) lists)
    → cells_of (cond (not other) (x ∷ kept) kept) ≡ take (cond (not same) (1 + place) 0) (x.cells ∷ lists) ++ drop (suc (cond (not same) (1 + place) 0)) (x.cells ∷ lists)
others_step true true x rest kept lists place e first later = first refl
others_step false false x rest kept lists place e first later = rw one-add (ap (λ (l : List (List ℤ)). x.cells ∷ l) (later refl))
others_step true false x rest kept lists place e first later = absurd cc
others_step false true x rest kept lists place e first later = absurd cc

found_later : (same later : Bool) → same ≡ false → (same || later) ≡ true → later ≡ true
found_later false later e h = h
found_later true later e h = absurd cc

-- the columns of other names, where none stands twice
pub others_are : (c : List ℕ) (columns : List Column) → has_column c (names_of columns) ≡ true → repeats (names_of columns) ≡ false
    → cells_of (without c columns) ≡ remove (cells_of columns) (place_of c (names_of columns))
unfolding without
others_are c [] h once = absurd cc
others_are c (x ∷ columns) h once =
    let parts = neither (has_column x.name.bytes (names_of columns)) (repeats (names_of columns)) once in
    others_step (bytes_eq c x.name.bytes) (bytes_eq x.name.bytes c) x columns (filter (λ d. not (is_named c d)) columns) (cells_of columns) (place_of c (names_of columns))
    (nat_list_eq_equiv.symm x.name.bytes c)
    (λ same. ap cells_of (all_kept c columns (ap (λ (k : List ℕ). has_column k (names_of columns)) ((bytes_eq-Decides c x.name.bytes).0 same) ∙ parts.0)))
    (λ differ. others_are c columns (found_later (bytes_eq c x.name.bytes) (has_column c (names_of columns)) differ h) parts.1)
