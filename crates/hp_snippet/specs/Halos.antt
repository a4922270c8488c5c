-- What a rank needs round its block of a vector.
use Rattle.std.specs.Prelude.{ℕ, ◌+◌, ◌-◌, ◌*◌, ◌==◌, ◌≡◌, if◌then◌else◌, ℤ, pos, ◌-ℤ◌, List, [], ◌∷◌, length, map, replicate, refl}
use Rattle.std.specs.List.{range_with_len}
use Rattle.hp_word.specs.LoopRules.{cell_at}
use Rattle.hp_spmd.specs.Needs.{block_span}

-- The cells from so many places before a rank's block to so many behind it, 0 outside of the vector; a rank without a block
-- has no use for them, and gets 0 for each.
abbrev pub halo_of : (reach : ℕ) → (cells : List ℤ) → (number ranks : ℕ) → List ℤ
halo_of reach cells number ranks =
    let block = block_span number (length cells) ranks in
    if block.from == block.until
    then replicate (2 * reach) (pos 0)
    else map (λ k. cell_at cells (pos (block.from + k) -ℤ pos reach)) (range_with_len 0 (block.until - block.from + 2 * reach))

-- ---- worked rows

-- five elements on three ranks, of which the last one has the fifth: two places round it reach past its neighbour
far_row : halo_of 2 (pos 1 ∷ pos 2 ∷ pos 3 ∷ pos 4 ∷ pos 5 ∷ []) 2 3 ≡ pos 3 ∷ pos 4 ∷ pos 5 ∷ pos 0 ∷ pos 0 ∷ []
far_row = refl

-- four elements on four ranks: the first one gets cells of the second and the third
near_row : halo_of 2 (pos 1 ∷ pos 2 ∷ pos 3 ∷ pos 4 ∷ []) 0 4 ≡ pos 0 ∷ pos 0 ∷ pos 1 ∷ pos 2 ∷ pos 3 ∷ []
near_row = refl

-- one element on two ranks: the second one has none
empty_row : halo_of 1 (pos 7 ∷ []) 1 2 ≡ pos 0 ∷ pos 0 ∷ []
empty_row = refl
