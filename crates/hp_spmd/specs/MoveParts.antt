-- What the unpack of a Move reads of each message, array by array.
use Rattle.std.specs.Prelude.{ℕ, min, List, map, slice_index, sum, take}
use Rattle.std.specs.List.{range_with_len}
use Rattle.hp_word.specs.declared.table.Message.{Message}
use Rattle.hp_lattice.specs.declared.dist.Dist.{Dist}
use Rattle.hp_spmd.specs.declared.instr.Need.{Need}
use Rattle.hp_spmd.specs.declared.store.Piece.{Piece}
use Rattle.hp_spmd.specs.Needs.{need_cuts}
use Rattle.hp_spmd.specs.Scalars.{piece_length}
use Rattle.hp_spmd.specs.Store.{piece_at}
use Rattle.hp_spmd.specs.Unpacks.{moved_cells, moved_count}

-- a count of words above this one counts as it
abbrev pub most_counted : ℕ
most_counted = 18446744073709551615

-- how many words a message has of each of the moved arrays
abbrev pub lengths_from : List Dist → List ℕ → Need → (number ranks : ℕ) → List Piece → (sender : ℕ) → List ℕ
lengths_from dists from need number ranks pieces sender = map (λ k. moved_count dists need number ranks pieces k sender) from

-- where in each message the words of the j-th moved array begin
abbrev pub begins_of : (lengths : ℕ → List ℕ) → (j messages : ℕ) → List ℕ
begins_of lengths j messages = map (λ r. min (sum (take j (lengths r))) most_counted) (range_with_len 0 messages)

-- the array that is made of the j-th moved one
abbrev pub moved_at : List Dist → List ℕ → Need → (number ranks : ℕ) → List Message → List Piece → ℕ → Piece
moved_at dists from need number ranks inbox pieces j =
    let p = piece_at pieces (slice_index from j) in
    record { rows = p.rows; cuts = need_cuts need pieces (piece_length p) ranks; cells = moved_cells dists from need number ranks inbox pieces j }
