-- Even blocks: where each begins, and whose block holds a place. Places and ranks count from 0.
use Rattle.std.specs.Prelude.{◌≡◌, ℕ, suc, ◌+◌, ◌*◌, ◌/◌, ◌%◌, ◌<◌, ◌≤◌, min, nat_le, nat_lt, Bool, ◌&&◌, List, [], ◌∷◌, map, refl}
use Rattle.std.specs.List.{range_with_len}
use Rattle.hp_cuts.specs.declared.cuts.Span.{Span}

-- where the block of a rank begins: the first `length % ranks` blocks have one place more than the others
abbrev pub block_start : (rank length ranks : ℕ) → ℕ
block_start rank len ranks = rank * (len / ranks) + min rank (len % ranks)

-- where each rank's block begins, and then the length
unfoldable pub block_cuts : (length ranks : ℕ) → List ℕ
block_cuts len ranks = map (λ r. block_start r len ranks) (range_with_len 0 (suc ranks))

-- the block of this rank holds the place
pub record Owns (place len ranks rank : ℕ) : Type 0 where
  pub is_rank : rank < ranks
  pub from : block_start rank len ranks ≤ place
  pub until : place < block_start (suc rank) len ranks

-- The blocks of all ranks cover the array one after the other: they rise from 0 to the length, and each place is in one
-- of them and in no other.
pub record AreBlocks (len ranks : ℕ) : Type 0 where
  pub begin : block_start 0 len ranks ≡ 0
  pub end : block_start ranks len ranks ≡ len
  pub rise : (rank : ℕ) → block_start rank len ranks ≤ block_start (suc rank) len ranks
  pub cover : (place : ℕ) → place < len → (rank : ℕ) × Owns place len ranks rank
  pub disjoint : (place one other : ℕ) → Owns place len ranks one → Owns place len ranks other → one ≡ other

-- the range has the place
abbrev pub holds : Span → ℕ → Bool
holds range place = nat_le range.from place && nat_lt place range.until

-- ---- worked rows

-- ten places on four ranks: 3, 3, 2 and 2
cuts_row : block_cuts 10 4 ≡ 0 ∷ 3 ∷ 6 ∷ 8 ∷ 10 ∷ []
unfolding block_cuts
cuts_row = refl

-- two places on four ranks: 1, 1, 0 and 0
few_row : block_cuts 2 4 ≡ 0 ∷ 1 ∷ 2 ∷ 2 ∷ 2 ∷ []
unfolding block_cuts
few_row = refl

none_row : block_cuts 0 3 ≡ 0 ∷ 0 ∷ 0 ∷ 0 ∷ []
unfolding block_cuts
none_row = refl
