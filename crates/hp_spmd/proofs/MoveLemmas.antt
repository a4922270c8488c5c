-- Parts of lists by counts that stand still at the greatest number, and the cells of a range of columns.
use Rattle.std.proofs.Common.{◌≡◌, ◌∙◌, refl, sym, ap, arith, inl, inr, ℕ, suc, ◌+◌, ◌-◌, ◌*◌, ◌≤◌, min, max, ℤ, List, [], ◌∷◌, length, map, take, drop}
use Rattle.std.specs.List.{range_with_len}
use Rattle.std.proofs.Math.Nat.{mul-sub, mul-le-mul_left}
use Rattle.std.proofs.lemmas.Bool.{cases_lt}
use Rattle.std.proofs.lemmas.List.{drop_min, take_min, length-drop}
use Rattle.hp_cuts.specs.Blocks.{block_start}
use Rattle.hp_spmd.specs.Store.{kept}
use Rattle.hp_spmd.proofs.LocalCuts.{kept_part_from}

-- so many items behind so many others, as far as there are any
pub part_is : {X : Type 0} (xs : List X) (skipped count len from until : ℕ) → len ≡ length xs → from ≡ min skipped len → until ≡ from + min count (len - from)
    → take (until - from) (drop from xs) ≡ take count (drop skipped xs)
part_is xs skipped count len from until l f u =
    let rest = length-drop from xs in
    let many : until - from ≡ min count (length (drop from xs)) = omega (arith, l, u, rest) in
    let whole : from ≡ min skipped (length xs) = f ∙ ap (min skipped) l in
    ap (λ n. take n (drop from xs)) many ∙ take_min count (drop from xs) ∙ ap (λ n. take count (drop n xs)) whole ∙ ap (take count) (drop_min skipped xs)

-- a count that stands still at a number that is no less than there are items
pub part_still : {X : Type 0} (xs : List X) (skipped count most : ℕ) → length xs ≤ most → take (min count most) (drop (min skipped most) xs) ≡ take count (drop skipped xs)
part_still xs skipped count most le =
    let same : min (min skipped most) (length xs) ≡ min skipped (length xs) = omega (arith, le) in
    let dropped : drop (min skipped most) xs ≡ drop skipped xs = sym (drop_min (min skipped most) xs) ∙ ap (λ n. drop n xs) same ∙ drop_min skipped xs in
    let rest = length-drop skipped xs in
    let few : min (min count most) (length (drop skipped xs)) ≡ min count (length (drop skipped xs)) = omega (arith, le, rest) in
    ap (take (min count most)) dropped ∙ sym (take_min (min count most) (drop skipped xs)) ∙ ap (λ n. take n (drop skipped xs)) few ∙ take_min count (drop skipped xs)

times_max : (k m n : ℕ) → k * max m n ≡ max (k * m) (k * n)
times_max k m n =
    elim (cases_lt m n) [
      | inl h ↦
          let le : m ≤ n = omega (arith, h) in
          let more = mul-le-mul_left k le in
          let greater : max m n ≡ n = omega (arith, h) in
          let product : max (k * m) (k * n) ≡ k * n = omega (arith, more) in
          ap (λ z. k * z) greater ∙ sym product
      | inr h ↦
          let more = mul-le-mul_left k h in
          let greater : max m n ≡ m = omega (arith, h) in
          let product : max (k * m) (k * n) ≡ k * m = omega (arith, more) in
          ap (λ z. k * z) greater ∙ sym product
    ]

-- the cells of a range of columns, of cells with so many rows that begin at a column
pub kept_rows : (cells : List ℤ) (rows first from until skipped count most : ℕ) → length cells ≤ most → skipped ≡ min (rows * (from - first)) most → count ≡ min (rows * (until - max from first)) most
    → take count (drop skipped cells) ≡ kept (rows * from) (rows * until) (rows * first) cells
kept_rows cells rows first from until skipped count most le s c =
    ap (λ n. take n (drop skipped cells)) c ∙ ap (λ n. take (min (rows * (until - max from first)) most) (drop n cells)) s
    ∙ part_still cells (rows * (from - first)) (rows * (until - max from first)) most le
    ∙ ap (λ n. take n (drop (rows * (from - first)) cells)) (mul-sub rows until (max from first) ∙ ap (λ n. rows * until - n) (times_max rows from first))
    ∙ ap (λ n. take (rows * until - max (rows * from) (rows * first)) (drop n cells)) (mul-sub rows from first)
    ∙ sym (kept_part_from (rows * from) (rows * until) (rows * first) cells)

-- cuts that nothing stands before
cuts_before_from : (both len ranks : ℕ) (rs : List ℕ) → map (λ r. min (block_start r both ranks - 0) len) rs ≡ map (λ r. min (block_start r both ranks) len) rs
cuts_before_from both len ranks [] = refl
cuts_before_from both len ranks (r ∷ rs) =
    let same : block_start r both ranks - 0 ≡ block_start r both ranks = omega arith in
    ap (λ c. min c len ∷ map (λ r. min (block_start r both ranks - 0) len) rs) same ∙ ap (λ l. min (block_start r both ranks) len ∷ l) (cuts_before_from both len ranks rs)

pub cuts_before : (both len ranks : ℕ) → map (λ r. min (block_start r both ranks - 0) len) (range_with_len 0 (suc ranks)) ≡ map (λ r. min (block_start r both ranks) len) (range_with_len 0 (suc ranks))
cuts_before both len ranks = cuts_before_from both len ranks (range_with_len 0 (suc ranks))
