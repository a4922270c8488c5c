-- Which places of an array each rank needs, as ranges of its columns, from 0.
use Rattle.std.specs.Prelude.{ℕ, suc, ◌+◌, ◌-◌, ◌==◌, min, if◌then◌else◌, List, [], ◌∷◌, map}
use Rattle.std.specs.List.{range_with_len}
use Rattle.hp_cuts.specs.declared.cuts.Span.{Span}
use Rattle.hp_cuts.specs.Blocks.{block_cuts, block_start}
use Rattle.hp_lattice.specs.declared.dist.Dist.{Dist}
use Rattle.hp_spmd.specs.declared.instr.Need.{Need}
use Rattle.hp_spmd.specs.declared.instr.Need.TheVariants.{Like, Blocks, Wide, Whole, First, Second}
use Rattle.hp_spmd.specs.declared.store.Piece.{Piece}
use Rattle.hp_spmd.specs.Cuts.{own_from, own_until}
use Rattle.hp_spmd.specs.Scalars.{greatest_count, piece_length}
use Rattle.hp_spmd.specs.Store.{dist_at, piece_at}

abbrev pub span : (from until : ℕ) → Span
span from until = record { from = from; until = until }

-- the columns that a rank has of an array that lies so; a cut above the greatest count counts as that
abbrev pub own_span : Dist → List ℕ → (rank : ℕ) → Span
own_span dist cuts rank = span (min (own_from dist cuts rank) greatest_count) (min (own_until dist cuts rank) greatest_count)

-- the length of an array with another one behind it; one above the greatest count counts as that
abbrev pub both_lengths : (first second : ℕ) → ℕ
both_lengths first second = min (first + second) greatest_count

-- the block of a rank in an array of this length
abbrev pub block_span : (rank length ranks : ℕ) → Span
block_span rank len ranks = span (block_start rank len ranks) (block_start (suc rank) len ranks)

-- a range widened at both ends, as far as the array goes; an empty one is not widened
abbrev pub widened : (reach length : ℕ) → Span → Span
widened reach len s = if s.from == s.until then s else span (s.from - reach) (min (s.until + reach) len)

-- a range as far as an array goes
abbrev pub cut_to : (length : ℕ) → Span → Span
cut_to len s = span (min s.from len) (min s.until len)

-- a range so many places further back
abbrev pub back : (places : ℕ) → Span → Span
back places s = span (s.from - places) (s.until - places)

-- what a rank needs of an array of this length; `pieces` are the arrays of the rank that asks, all of which agree on cuts
unfoldable pub need_span : Need → List Dist → List Piece → (rank length ranks : ℕ) → Span
need_span (Like array) dists pieces rank len ranks = own_span (dist_at dists array) (piece_at pieces array).cuts rank
need_span Blocks dists pieces rank len ranks = block_span rank len ranks
need_span (Wide reach) dists pieces rank len ranks = widened reach len (block_span rank len ranks)
need_span Whole dists pieces rank len ranks = span 0 len
need_span (First other) dists pieces rank len ranks = cut_to len (block_span rank (both_lengths len (piece_length (piece_at pieces other))) ranks)
need_span (Second other) dists pieces rank len ranks =
    let before = piece_length (piece_at pieces other) in
    cut_to len (back before (block_span rank (both_lengths before len) ranks))

-- the cuts of an array that each rank has got what it needs of; a block that is widened keeps the cuts of the blocks
unfoldable pub need_cuts : Need → List Piece → (length ranks : ℕ) → List ℕ
need_cuts (Like array) pieces len ranks = (piece_at pieces array).cuts
need_cuts Blocks pieces len ranks = block_cuts len ranks
need_cuts (Wide reach) pieces len ranks = block_cuts len ranks
need_cuts Whole pieces len ranks = 0 ∷ len ∷ []
need_cuts (First other) pieces len ranks = map (λ r. min (block_start r (both_lengths len (piece_length (piece_at pieces other))) ranks) len) (range_with_len 0 (suc ranks))
need_cuts (Second other) pieces len ranks =
    let before = piece_length (piece_at pieces other) in
    map (λ r. min (block_start r (both_lengths before len) ranks - before) len) (range_with_len 0 (suc ranks))
