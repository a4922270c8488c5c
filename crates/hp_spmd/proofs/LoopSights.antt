-- A whole array as a halo that begins at its first place.
use Rattle.std.proofs.Common.{◌≡◌, ℕ, ◌+◌, ℤ, pos, ◌+ℤ◌, List, ap, arith}
use Rattle.hp_word.specs.LoopRules.{cell_at}

pub near_whole : (cells : List ℤ) (i : ℕ) (by : ℤ) → cell_at cells (pos i +ℤ by) ≡ cell_at cells (pos (i + 0) +ℤ by)
near_whole cells i by = let e : i ≡ i + 0 = omega arith in ap (λ n. cell_at cells (pos n +ℤ by)) e
