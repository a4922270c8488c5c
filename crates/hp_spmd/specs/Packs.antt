-- The messages of each kind of pack: for each rank, from the rank that packs.
use Rattle.std.specs.Prelude.{ℕ, zero, suc, ◌*◌, ◌==◌, if◌then◌else◌, ℤ, pos, List, [], ◌∷◌, length, map, flat_map, replicate, slice_index_or}
use Rattle.std.specs.List.{range_with_len}
use Rattle.hp_word.specs.declared.table.Message.{Message}
use Rattle.hp_word.specs.LoopRules.{word_at}
use Rattle.hp_word.specs.RowRules.{column_at}
use Rattle.hp_word.specs.Tables.{row_count}
use Rattle.hp_cuts.specs.declared.cuts.Span.{Span}
use Rattle.hp_cuts.specs.Targets.{target_of}
use Rattle.hp_lattice.specs.declared.dist.Dist.{Dist}
use Rattle.hp_lattice.specs.declared.dist.Dist.TheVariants.{Rep, Var, Block}
use Rattle.hp_spmd.specs.declared.instr.Need.{Need}
use Rattle.hp_spmd.specs.declared.instr.Rows.TheVariants.{Own}
use Rattle.hp_spmd.specs.declared.store.Piece.{Piece}
use Rattle.hp_spmd.specs.Frames.{Placed, rows_read}
use Rattle.hp_spmd.specs.Messages.{message_of}
use Rattle.hp_spmd.specs.Needs.{need_span, own_span}
use Rattle.hp_spmd.specs.Scalars.{count_word, piece_length}
use Rattle.hp_spmd.specs.Store.{Data, dist_at, kept, piece_at}

-- one message for each rank
abbrev pub for_each : (ranks : ℕ) → (ℕ → List ℤ) → List Message
for_each ranks words = map (λ rank. message_of (words rank)) (range_with_len 0 ranks)

-- the length of a loose column, and its cells
unfoldable pub sizes_packed : (loose ranks : ℕ) → Data → List Message
sizes_packed loose ranks d = replicate ranks (message_of (count_word (length (slice_index_or d.loose loose [])) ∷ []))

unfoldable pub partial_packed : (loose ranks : ℕ) → Data → List Message
partial_packed loose ranks d = replicate ranks (message_of (slice_index_or d.loose loose []))

-- the own cells of a piece that stand in a range of columns
abbrev pub cells_in : Dist → (number : ℕ) → Piece → Span → List ℤ
cells_in dist number p s = kept (p.rows * s.from) (p.rows * s.until) (p.rows * (own_span dist p.cuts number).from) p.cells

-- for each array in order, the own cells that another rank needs
unfoldable pub move_packed : List Dist → List ℕ → Need → (number ranks : ℕ) → Data → List Message
move_packed dists arrays need number ranks d =
    for_each ranks
    (λ rank. flat_map (λ k. let p = piece_at d.arrays k in cells_in (dist_at dists k) number p (need_span need dists d.arrays rank (piece_length p) ranks)) arrays)

-- a row, by its place from 0 among those that are read, with its place in the whole before it
abbrev pub placed_row : Placed → ℕ → List ℤ
placed_row rows i = pos (rows.place (suc i)) ∷ map (λ cells. word_at cells i) rows.columns

-- for each own row in order whose key has that rank as its target: its place, then its cells
unfoldable pub hash_packed : List Dist → List ℕ → (key : ℕ) → (number ranks : ℕ) → Data → List Message
hash_packed dists arrays key number ranks d =
    let rows = rows_read dists number (Own arrays) d in
    let keys = column_at key rows.columns in
    for_each ranks (λ rank. flat_map (λ i. if target_of ranks (word_at keys i) == rank then placed_row rows i else []) (range_with_len 0 (row_count rows.columns)))

-- ---- for rank 0

-- a rank's part of an array for rank 0: of one that all ranks have, rank 0's alone
abbrev pub cells_for_root : Dist → (number : ℕ) → List ℤ → List ℤ
cells_for_root Rep zero cells = cells
cells_for_root Rep (suc number) cells = []
cells_for_root Var number cells = cells
cells_for_root Block number cells = cells

abbrev pub parts_for_root : List Dist → List ℕ → (number : ℕ) → Data → List ℤ
parts_for_root dists arrays number d = flat_map (λ k. cells_for_root (dist_at dists k) number (piece_at d.arrays k).cells) arrays
