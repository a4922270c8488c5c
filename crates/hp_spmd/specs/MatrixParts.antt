-- Parts of what a product does, as the functions that do them promise.
use Rattle.std.specs.Prelude.{ℕ, ◌*◌, ◌==◌, nat_le, if◌then◌else◌, Bool, true, false, Option, Some, None}
use Rattle.hp_word.specs.declared.place.TrapKind.{TrapKind}
use Rattle.hp_word.specs.declared.place.TrapKind.TheVariants.{Mismatch, TooLong}
use Rattle.hp_word.specs.Lengths.{longest}
use Rattle.hp_spmd.specs.declared.store.Piece.{Piece}
use Rattle.hp_spmd.specs.Matrices.{partial_cells, product_piece, whole_piece}
use Rattle.hp_spmd.specs.Scalars.{piece_length}

-- why sides do not meet, or a matrix of this size has too many cells
abbrev pub size_fault : (meets : Bool) → (size : ℕ) → Option TrapKind
size_fault meets size = if meets then (if nat_le size longest then None else Some TooLong) else Some Mismatch

-- the same of the sides of two matrices of which the product is made, or with `flip` of the one with the other transposed
abbrev pub sides_fit : (flip : Bool) → (left right : Piece) → Option TrapKind
sides_fit false a b = size_fault (piece_length a == b.rows) (a.rows * piece_length b)
sides_fit true a b = size_fault (piece_length a == piece_length b) (a.rows * b.rows)

-- the product, or with `flip` the rank's part of the sums
abbrev pub multiplied : (flip : Bool) → (left right : Piece) → Piece
multiplied false a b = product_piece a b
multiplied true a b = whole_piece a.rows (partial_cells a b)
