-- The rows of a column that have a key.
use Rattle.std.specs.Prelude.{◌≡◌, ℕ, ◌+◌, ◌<◌, ◌≤◌, ℤ, pos, if◌then◌else◌, List, [], ◌∷◌, Option, None, Some, length, slice_index_or, slice_set, refl}
use Rattle.std.specs.Ordering.{int_eq}
use Rattle.std.proofs.Common.{lit≤, lit<}
use Rattle.indexmap.specs.IndexMap.{get}
use Rattle.hp_kernels.specs.declared.key_rows.KeyRows.{KeyRows}

-- the rows whose key is this, by their places, where the first row has this place
unfoldable pub rows_from : (place : ℕ) → (key : ℤ) → List ℤ → List ℕ
rows_from place key [] = []
rows_from place key (x ∷ column) = if int_eq key x then place ∷ rows_from (place + 1) key column else rows_from (place + 1) key column

-- the rows of a column whose key is this, by their places from 0
abbrev pub rows_with : (key : ℤ) → List ℤ → List ℕ
rows_with key column = rows_from 0 key column

-- these rows are linked: the first of them is the one that is given, each names the next, the last names none, and none
-- stands before the place `from` or behind the next
unfoldable pub Linked : (next : List (Option ℕ)) (from : ℕ) (rows : List ℕ) (first : Option ℕ) → Type 0
Linked next from [] first = first ≡ None
Linked next from (row ∷ rows) first = (first ≡ Some row) × (from ≤ row) × (row < length next) × Linked next (row + 1) rows (slice_index_or next row None)

-- of each key the rows of this column are linked
abbrev pub HasRowsOf : List ℤ → KeyRows → Type 0
HasRowsOf column it = (key : ℤ) → Linked it.next.items 0 (rows_with key column) (get int_eq it.first key)

-- one more row is linked, before those of its key
abbrev pub AddsRow : (key : ℤ) (row : ℕ) (old new : KeyRows) → Type 0
AddsRow key row old new = (new.next.items ≡ slice_set old.next.items row (get int_eq old.first key)) × ((k : ℤ) → get int_eq new.first k ≡ (if int_eq key k then Some row else get int_eq old.first k))

-- ---- worked rows

rows_row : rows_with (pos 5) (pos 5 ∷ pos 7 ∷ pos 5 ∷ []) ≡ 0 ∷ 2 ∷ []
unfolding rows_from
rows_row = refl

linked_row : Linked (Some 2 ∷ None ∷ None ∷ []) 0 (0 ∷ 2 ∷ []) (Some 0)
unfolding Linked
linked_row = (refl, lit≤ tt, lit< tt, (refl, lit≤ tt, lit< tt, refl))
