-- What Seal makes of a loose column.
use Rattle.std.specs.Prelude.{ℕ, ℤ, List, [], slice_index_or}
use Rattle.hp_spmd.specs.declared.store.Piece.{Piece}

-- one of these loose columns as an array with these cuts
abbrev pub sealed : List (List ℤ) → List ℕ → (column : ℕ) → Piece
sealed columns cuts k = record { rows = 1; cuts = cuts; cells = slice_index_or columns k [] }
