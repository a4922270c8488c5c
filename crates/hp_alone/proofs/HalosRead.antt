-- What a rank reads round its own places of a vector is what stands there in the whole.
use Rattle.std.proofs.Common.{◌≡◌, ◌∙◌, refl, ap, arith, Bool, true, false, cond, ℕ, suc, ◌+◌, ◌-◌, ◌*◌, ◌<◌, ◌≤◌, ℤ, pos, negsuc, ◌+ℤ◌, List, map, replicate}
use Rattle.std.specs.Prelude.{◌==◌, ◌≤ℤ◌, ◌-ℤ◌, neg_ℤ, length}
use Rattle.std.specs.List.{range_with_len}
use Rattle.std.proofs.lemmas.Int.{ints}
use Rattle.std.proofs.lemmas.Bool.{eqb-true}
use Rattle.std.proofs.lemmas.List.FromFn.{get_or-map-range_with_len}
use Rattle.hp_word.specs.LoopRules.{cell_at}
use Rattle.hp_spmd.specs.Needs.{block_span}
use Rattle.hp_snippet.specs.Halos.{halo_of}

-- where a cell so far from a rank's place stands in its halo, which begins `reach` places before the rank's first one
record Stands (from i reach : ℕ) (by : ℤ) : Type 0 where
  place : ℕ
  is : pos (i + reach) +ℤ by ≡ pos place
  within : place ≤ i + 2 * reach
  cell : pos (from + place) -ℤ pos reach ≡ pos (from + i) +ℤ by

stands : (from i reach : ℕ) (by : ℤ) → by ≤ℤ pos reach → neg_ℤ by ≤ℤ pos reach → Stands from i reach by
stands from i reach (pos d) up down = record { place = i + reach + d; is = omega (arith, ints); within = omega (arith, ints, up); cell = omega (arith, ints) }
stands from i reach (negsuc d) up down = record { place = i + reach - suc d; is = omega (arith, ints, down); within = omega arith; cell = omega (arith, ints, down) }

-- a cell of the halo of a rank that has a block
cell_in : (from until reach : ℕ) (cells : List ℤ) (t : Bool) (i : ℕ) (by : ℤ) → (from == until) ≡ t → i < until - from → by ≤ℤ pos reach → neg_ℤ by ≤ℤ pos reach
    → cell_at (cond t (replicate (2 * reach) (pos 0)) (map (λ k. cell_at cells (pos (from + k) -ℤ pos reach)) (range_with_len 0 (until - from + 2 * reach)))) (pos (i + reach) +ℤ by) ≡ cell_at cells (pos (from + i) +ℤ by)
cell_in from until reach cells true i by test lt up down = let same = eqb-true from until test in absurd (omega (arith, same, lt))
cell_in from until reach cells false i by test lt up down =
    let f = λ (k : ℕ). cell_at cells (pos (from + k) -ℤ pos reach) in
    let n = until - from + 2 * reach in
    let there = stands from i reach by up down in
    let j = there.place in
    let bound = there.within in
    let within : j < n = omega (arith, lt, bound) in
    let none : 0 + j ≡ j = omega arith in
    ap (cell_at (map f (range_with_len 0 n))) there.is ∙ get_or-map-range_with_len f 0 n j j (pos 0) within none ∙ ap (cell_at cells) there.cell

-- a cell of a rank's halo
pub cell_of_halo : (reach number ranks : ℕ) (cells : List ℤ) (i : ℕ) (by : ℤ) → (let block = block_span number (length cells) ranks in i < block.until - block.from) → by ≤ℤ pos reach → neg_ℤ by ≤ℤ pos reach
    → cell_at (halo_of reach cells number ranks) (pos (i + reach) +ℤ by) ≡ (let block = block_span number (length cells) ranks in cell_at cells (pos (block.from + i) +ℤ by))
cell_of_halo reach number ranks cells i by lt up down =
    let block = block_span number (length cells) ranks in
    cell_in block.from block.until reach cells (block.from == block.until) i by refl lt up down

-- a cell of the whole, where the rank's places begin with the first
pub cell_of_all : (mine cells : List ℤ) (from i : ℕ) (by : ℤ) → mine ≡ cells → from ≡ 0 → cell_at mine (pos i +ℤ by) ≡ cell_at cells (pos (from + i) +ℤ by)
cell_of_all mine cells from i by same first =
    let place : i ≡ from + i = omega (arith, first) in
    ap (λ l. cell_at l (pos i +ℤ by)) same ∙ ap (λ k. cell_at cells (pos k +ℤ by)) place
