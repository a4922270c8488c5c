-- The cells round a rank's block, as the unpack of a halo reads them.
use Rattle.std.proofs.Common.{◌≡◌, ◌∙◌, refl, sym, ap, arith, inl, inr, Bool, true, false, cond, ℕ, suc, ◌+◌, ◌-◌, ◌*◌, ◌<◌, ◌≤◌, ℤ, pos, negsuc, min, List, [], length, map, take, drop, get_or-drop, get_or-take, replicate}
use Rattle.std.specs.Prelude.{◌==◌, ◌&&◌, ◌-ℤ◌, nat_le, nat_lt}
use Rattle.std.specs.List.{range_with_len}
use Rattle.std.proofs.lemmas.Int.{ints}
use Rattle.std.proofs.lemmas.Bool.{cases_lt, eqb-true, le-leb, le-ltb, lt-leb, lt-ltb}
use Rattle.std.proofs.lemmas.List.{get_or-replicate, length-replicate}
use Rattle.std.proofs.lemmas.List.FromFn.{fill_by_all, get_or-map-range_with_len, length-map-range_with_len}
use Rattle.std.proofs.Math.ListN.{get_or-eq_default}
use Rattle.hp_word.specs.LoopRules.{cell_at, word_at}
use Rattle.hp_spmd.specs.Needs.{block_span, span, widened}
use Rattle.hp_spmd.specs.Store.{kept}
use Rattle.hp_spmd.specs.Unpacks.{cell_round}
use Rattle.hp_spmd.proofs.LocalCuts.{kept_part}
use Rattle.hp_cuts.proofs.BlockLemmas.{start_rises}
use Rattle.hp_snippet.specs.Halos.{halo_of}

-- ---- a cell so many places back

back_within : (cells : List ℤ) (at back : ℕ) → back ≤ at → cell_at cells (pos at -ℤ pos back) ≡ word_at cells (at - back)
back_within cells at back h = let e : pos at -ℤ pos back ≡ pos (at - back) = omega (arith, ints) in ap (cell_at cells) e

back_before : (cells : List ℤ) (at back : ℕ) → at < back → cell_at cells (pos at -ℤ pos back) ≡ pos 0
back_before cells at back h = let e : pos at -ℤ pos back ≡ negsuc (back - suc at) = omega (arith, ints) in ap (cell_at cells) e

-- ---- a list by its places

map_places : {X : Type 0} (f g : ℕ → X) (n : ℕ) (d : X) → ((k : ℕ) → k < n → f k ≡ g k) → map f (range_with_len 0 n) ≡ map g (range_with_len 0 n)
map_places {X} f g n d h =
    fill_by_all g (map f (range_with_len 0 n)) n d (length-map-range_with_len f 0 n)
    (λ k lt.
    let none : 0 + k ≡ k = omega arith in
    get_or-map-range_with_len f 0 n k k d lt none ∙ h k lt)

-- ---- a rank without a block

no_cell : (reach len from place : ℕ) → cell_round reach len from [] place ≡ pos 0
no_cell reach len from place = either (nat_le reach place && nat_lt place (len + reach))
  where
    either : (t : Bool) → cond t (pos 0) (pos 0) ≡ pos 0
    either true = refl
    either false = refl

none_round : (reach len from n : ℕ) → n ≡ 2 * reach → map (λ k. cell_round reach len (from - reach) [] (from + k)) (range_with_len 0 n) ≡ replicate (2 * reach) (pos 0)
none_round reach len from n e =
    let count : length (replicate (2 * reach) (pos 0)) ≡ n = length-replicate (2 * reach) (pos 0) ∙ sym e in
    sym (fill_by_all (λ k. cell_round reach len (from - reach) [] (from + k)) (replicate (2 * reach) (pos 0)) n (pos 0) count
    (λ k lt.
    let within : k < 2 * reach = omega (arith, lt, e) in
    get_or-replicate (2 * reach) k (pos 0) (pos 0) within ∙ sym (no_cell reach len (from - reach) (from + k))))

-- ---- a rank with one

-- a cell of those from one place up to another
cell_of_part : (lo hi j : ℕ) (cells : List ℤ) → j < hi - lo → word_at (kept lo hi 0 cells) j ≡ word_at cells (lo + j)
cell_of_part lo hi j cells lt = ap (λ l. word_at l j) (kept_part lo hi cells) ∙ get_or-take (hi - lo) (drop lo cells) j (pos 0) lt ∙ get_or-drop lo cells j (pos 0)

-- each cell round a block
cell_there : (reach from until place : ℕ) (cells : List ℤ) → from ≤ place → place < until + 2 * reach
    → cell_round reach (length cells) (from - reach) (kept (from - reach) (min (until + reach) (length cells)) 0 cells) place ≡ cell_at cells (pos place -ℤ pos reach)
cell_there reach from until place cells le lt =
    let part = kept (from - reach) (min (until + reach) (length cells)) 0 cells in
    elim (cases_lt place reach) [
      | inl before ↦ ap (λ b. cond (b && nat_lt place (length cells + reach)) (word_at part (place - reach - (from - reach))) (pos 0)) (lt-leb reach place before) ∙ sym (back_before cells place reach before)
      | inr since ↦
          ap (λ b. cond (b && nat_lt place (length cells + reach)) (word_at part (place - reach - (from - reach))) (pos 0)) (le-leb reach place since)
          ∙ elim (cases_lt place (length cells + reach)) as (λ _. cond (nat_lt place (length cells + reach)) (word_at part (place - reach - (from - reach))) (pos 0) ≡ word_at cells (place - reach)) [
            | inl inside ↦
                ap (λ b. cond b (word_at part (place - reach - (from - reach))) (pos 0)) (lt-ltb place (length cells + reach) inside)
                ∙ cell_of_part (from - reach) (min (until + reach) (length cells)) (place - reach - (from - reach)) cells (omega (arith, since, inside, lt, le))
                ∙ ap (word_at cells) (omega (arith, since, le))
            | inr behind ↦
                ap (λ b. cond b (word_at part (place - reach - (from - reach))) (pos 0)) (le-ltb place (length cells + reach) behind)
                ∙ sym (get_or-eq_default cells (pos 0) (omega (arith, behind)))
          ]
          ∙ sym (back_within cells place reach since)
    ]

-- by whether the rank has a block
halo_cells : (from until reach : ℕ) (cells got : List ℤ) (t : Bool) → from ≤ until → (from == until) ≡ t
    → got ≡ (let w = cond t (span from until) (span (from - reach) (min (until + reach) (length cells))) in kept w.from w.until 0 cells)
    → map (λ k. cell_round reach (length cells) (from - reach) got (from + k)) (range_with_len 0 (until - from + 2 * reach)) ≡ cond t (replicate (2 * reach) (pos 0)) (map (λ k. cell_at cells (pos (from + k) -ℤ pos reach)) (range_with_len 0 (until - from + 2 * reach)))
halo_cells from until reach cells got true rises test e =
    let same = eqb-true from until test in
    let none : until - from ≡ 0 = omega (arith, same) in
    let many : until - from + 2 * reach ≡ 2 * reach = omega (arith, same) in
    let empty : got ≡ [] = e ∙ kept_part from until cells ∙ ap (λ n. take n (drop from cells)) none in
    ap (λ l. map (λ k. cell_round reach (length cells) (from - reach) l (from + k)) (range_with_len 0 (until - from + 2 * reach))) empty
    ∙ none_round reach (length cells) from (until - from + 2 * reach) many
halo_cells from until reach cells got false rises test e =
    ap (λ l. map (λ k. cell_round reach (length cells) (from - reach) l (from + k)) (range_with_len 0 (until - from + 2 * reach))) e
    ∙ map_places {X = ℤ} (λ k. cell_round reach (length cells) (from - reach) (kept (from - reach) (min (until + reach) (length cells)) 0 cells) (from + k)) (λ k. cell_at cells (pos (from + k) -ℤ pos reach)) (until - from + 2 * reach) (pos 0)
    (λ k lt.
    let le : from ≤ from + k = omega arith in
    let below : from + k < until + 2 * reach = omega (arith, lt, rises) in
    cell_there reach from until (from + k) cells le below)

-- what the unpack makes of the cells that a rank needed is its halo
pub halo_read : (reach number ranks : ℕ) (cells got : List ℤ) → (let w = widened reach (length cells) (block_span number (length cells) ranks) in got ≡ kept w.from w.until 0 cells)
    → (let block = block_span number (length cells) ranks in map (λ k. cell_round reach (length cells) (block.from - reach) got (block.from + k)) (range_with_len 0 (block.until - block.from + 2 * reach))) ≡ halo_of reach cells number ranks
halo_read reach number ranks cells got e =
    let block = block_span number (length cells) ranks in
    let next : number ≤ suc number = omega arith in
    halo_cells block.from block.until reach cells got (block.from == block.until) (start_rises number (suc number) (length cells) ranks next) refl e
