-- The rank to which the rows of a key go.
use Rattle.std.specs.Prelude.{◌≡◌, ℕ, ◌*◌, ◌/◌, ◌%◌, ◌^◌, ℤ, pos, negsuc, refl}
use Rattle.std.specs.Int.{w64, cast_unsigned}

-- 0x9E3779B97F4A7C15: 2^64 by the golden ratio, an odd number, so that neighbouring keys are spread
abbrev pub spreading : ℕ
spreading = 11400714819323198485

-- the upper half of the product's low 64 bits, modulo the ranks; the key is taken modulo 2^64
abbrev pub target_of : (ranks : ℕ) → (key : ℤ) → ℕ
target_of ranks key = cast_unsigned w64 key * spreading % 2 ^ 64 / 2 ^ 32 % ranks

-- ---- worked rows

zero_row : target_of 32 (pos 0) ≡ 0
zero_row = refl

one_row : target_of 4 (pos 1) ≡ 1
one_row = refl

two_row : target_of 4 (pos 2) ≡ 2
two_row = refl

least_row : target_of 4 (negsuc 0) ≡ 2
least_row = refl

three_ranks_row : target_of 3 (pos 1) ≡ 0
three_ranks_row = refl

second_of_three_row : target_of 3 (pos 2) ≡ 2
second_of_three_row = refl
