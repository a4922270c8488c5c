-- Counts of calls and of faults.
use Rattle.std.specs.Prelude.{ℕ, zero, suc, ◌+◌, ◌-◌, ◌^◌, min}

-- the last value of a count, where it stays
abbrev pub last_count : ℕ
last_count = 2 ^ 64 - 1

-- one more, or the last value
abbrev pub counted : ℕ → ℕ
counted n = min (n + 1) last_count

-- the count after so many more
abbrev pub counted_on : (count more : ℕ) → ℕ
counted_on count zero = count
counted_on count (suc k) = counted (counted_on count k)
