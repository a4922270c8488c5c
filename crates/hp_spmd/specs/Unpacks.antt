-- What each kind of unpack makes of the messages that a rank took, one from each rank in order.
use Rattle.std.specs.Prelude.{ℕ, suc, ◌+◌, ◌-◌, ◌*◌, ◌/◌, ◌&&◌, min, max, nat_le, nat_lt, sum, if◌then◌else◌, ℤ, pos, List, [], ◌∷◌, ◌++◌, length, map, flat_map, take, drop, slice_index, slice_index_or, slice_set, Result, Ok, Err}
use Rattle.std.specs.List.{range_with_len}
use Rattle.hp_word.specs.declared.fold.FoldKind.TheVariants.{Sum}
use Rattle.hp_word.specs.declared.place.Place.{Place}
use Rattle.hp_word.specs.declared.place.Trap.{Trap}
use Rattle.hp_word.specs.declared.place.TrapKind.TheVariants.{TooLong}
use Rattle.hp_word.specs.declared.table.Message.{Message}
use Rattle.hp_word.specs.Folds.{fold_of}
use Rattle.hp_word.specs.Lengths.{longest, trap}
use Rattle.hp_word.specs.ListRules.{at_least_zero}
use Rattle.hp_word.specs.LoopRules.{word_at}
use Rattle.hp_cuts.specs.declared.cuts.Span.{Span}
use Rattle.hp_cuts.specs.Blocks.{block_cuts}
use Rattle.hp_lattice.specs.declared.dist.Dist.{Dist}
use Rattle.hp_spmd.specs.declared.instr.Need.{Need}
use Rattle.hp_spmd.specs.declared.store.Piece.{Piece}
use Rattle.hp_spmd.specs.Arrays.{with_array, with_arrays}
use Rattle.hp_spmd.specs.Matrices.{whole_piece}
use Rattle.hp_spmd.specs.Messages.{words_across}
use Rattle.hp_spmd.specs.Needs.{block_span, both_lengths, need_cuts, need_span, own_span}
use Rattle.hp_spmd.specs.Scalars.{piece_length, with_word}
use Rattle.hp_spmd.specs.Setting.{with_all}
use Rattle.hp_spmd.specs.Store.{Data, dist_at, message_at, piece_at}

abbrev pub with_loose : ℕ → List ℤ → Data → Data
with_loose to cells d = record d { loose = slice_set d.loose to cells }

-- all words, in rank order
abbrev pub joined_words : List Message → List ℤ
joined_words inbox = flat_map (λ m. m.words) inbox

-- the wrapped sum of the first words of the ranks below this one
unfoldable pub below_data : ℕ → (number : ℕ) → List Message → Data → Result Data Trap
below_data to number inbox d = Ok (with_word to (fold_of Sum (words_across 0 (take number inbox))) d)

-- ---- sizes and cuts

-- the first words as sizes
abbrev pub sizes_of : List Message → List ℕ
sizes_of inbox = map at_least_zero (words_across 0 inbox)

-- where each of so many parts begins, and then the sum
abbrev pub running : (sizes : List ℕ) → List ℕ
running sizes = map (λ k. sum (take k sizes)) (range_with_len 0 (suc (length sizes)))

-- loose columns become arrays that are cut by the sizes of all ranks' parts
unfoldable pub seal_data : (to loose : List ℕ) → Place → List Message → Data → Result Data Trap
seal_data to loose at inbox d =
    let sizes = sizes_of inbox in
    if nat_le (sum sizes) longest
    then Ok (with_arrays to (map (λ k. record { rows = 1; cuts = running sizes; cells = slice_index_or d.loose k [] }) loose) d)
    else Err (trap at TooLong)

-- how many words the longest message has
abbrev pub most_words : List Message → ℕ
most_words [] = 0
most_words (m ∷ inbox) = max (length m.words) (most_words inbox)

-- the wrapped sums of the messages, place by place, as a matrix with as many rows as an array has, whole on each rank
unfoldable pub total_data : ℕ → (left : ℕ) → List Message → Data → Result Data Trap
total_data to left inbox d =
    let cells = map (λ k. fold_of Sum (words_across k inbox)) (range_with_len 0 (most_words inbox)) in
    Ok (with_array to (whole_piece (piece_at d.arrays left).rows cells) d)

-- ---- moves

-- how many places two ranges share
abbrev pub shared_count : Span → Span → ℕ
shared_count a b = min a.until b.until - max a.from b.from

-- how many cells of an array came from another rank, which moved what this rank needs
abbrev pub moved_count : List Dist → Need → (number ranks : ℕ) → List Piece → ℕ → (sender : ℕ) → ℕ
moved_count dists need number ranks pieces k sender =
    let p = piece_at pieces k in
    p.rows * shared_count (own_span (dist_at dists k) p.cuts sender) (need_span need dists pieces number (piece_length p) ranks)

-- the j-th of parts of these lengths, behind one another, as far as there are words
abbrev pub part_at : (lengths : List ℕ) → ℕ → List ℤ → List ℤ
part_at lengths j words = take (slice_index lengths j) (drop (sum (take j lengths)) words)

-- the cells of the j-th moved array, in rank order
abbrev pub moved_cells : List Dist → (from : List ℕ) → Need → (number ranks : ℕ) → List Message → List Piece → ℕ → List ℤ
moved_cells dists from need number ranks inbox pieces j =
    flat_map (λ r. part_at (map (λ k. moved_count dists need number ranks pieces k r) from) j (message_at inbox r).words) (range_with_len 0 (length inbox))

-- the arrays that are made of those that were moved, with their rows and the cuts of the need
unfoldable pub moved_data : List Dist → (to from : List ℕ) → Need → (number ranks : ℕ) → List Message → Data → Result Data Trap
moved_data dists to from need number ranks inbox d =
    Ok
    (with_arrays to
    (map
    (λ j.
    let p = piece_at d.arrays (slice_index from j) in
    record { rows = p.rows; cuts = need_cuts need d.arrays (piece_length p) ranks; cells = moved_cells dists from need number ranks inbox d.arrays j })
    (range_with_len 0 (length from)))
    d)

-- the cell at a place, counted from so many before the array's first, of an array of this length of which we have the cells from a place on
abbrev pub cell_round : (reach length from : ℕ) → List ℤ → ℕ → ℤ
cell_round reach len from cells place = if nat_le reach place && nat_lt place (len + reach) then word_at cells (place - reach - from) else pos 0

-- the rank's block of a moved array with so many cells more at both ends, 0 outside of the array
unfoldable pub halo_data : ℕ → (array reach : ℕ) → (number ranks : ℕ) → List Message → Data → Result Data Trap
halo_data to array reach number ranks inbox d =
    let len = piece_length (piece_at d.arrays array) in
    let block = block_span number len ranks in
    Ok (with_loose to (map (λ k. cell_round reach len (block.from - reach) (joined_words inbox) (block.from + k)) (range_with_len 0 (block.until - block.from + 2 * reach))) d)

unfoldable pub into_data : ℕ → List Message → Data → Result Data Trap
into_data to inbox d = Ok (with_loose to (joined_words inbox) d)

-- a loose column and the messages' cells behind it are the rank's block of two arrays, one behind the other
unfoldable pub glued_data : ℕ → (loose left right : ℕ) → (ranks : ℕ) → List Message → Data → Result Data Trap
glued_data to loose left right ranks inbox d =
    let len = both_lengths (piece_length (piece_at d.arrays left)) (piece_length (piece_at d.arrays right)) in
    Ok (with_array to (record { rows = 1; cuts = block_cuts len ranks; cells = slice_index_or d.loose loose [] ++ joined_words inbox }) d)

-- ---- rows

-- the j-th of the cells of each whole row, of rows of so many cells one behind the other
abbrev pub row_cells : (width j : ℕ) → List ℤ → List ℤ
row_cells width j words = map (λ i. word_at words (i * width + j)) (range_with_len 0 (length words / max width 1))

-- the rows in rank order: their places, then each column
unfoldable pub got_data : List ℕ → List Message → Data → Result Data Trap
got_data columns inbox d =
    let width = length columns in
    Ok (record d { loose = with_all columns (map (λ j. flat_map (λ m. row_cells width j m.words) inbox) (range_with_len 0 width)) d.loose })
