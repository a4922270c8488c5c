-- Orders of turns: which rank the k-th turn goes to, from 0 on.
use Rattle.std.specs.Prelude.{◌≡◌, ℕ, zero, suc, ◌+◌, ◌*◌, ◌/◌, ◌%◌, ◌^◌, List, [], ◌∷◌, length, map, slice_index_or, refl}
use Rattle.std.specs.List.{range_with_len}

-- the numbers of a list, modulo the ranks, again and again; 0 of an empty list
abbrev pub cycled : List ℕ → (k ranks : ℕ) → ℕ
cycled list k ranks = slice_index_or list (k % length list) 0 % ranks

-- ---- orders of a seed

-- a step of the state, modulo 2^64
unfoldable pub stepped : ℕ → ℕ
stepped s = (s * 6364136223846793005 + 1442695040888963407) % 2 ^ 64

-- the state after so many steps from a seed
unfoldable pub state_after : (seed k : ℕ) → ℕ
state_after seed zero = seed
state_after seed (suc k) = stepped (state_after seed k)

-- the rank that a state names: its bits from the 33rd on, modulo the ranks
unfoldable pub chosen : (state ranks : ℕ) → ℕ
chosen s ranks = s / 2 ^ 33 % ranks

-- Seed 0 names the ranks in rounds; any other names that of its state after a step more than there were turns before.
unfoldable pub seeded : (seed k ranks : ℕ) → ℕ
seeded zero k ranks = k % ranks
seeded (suc s) k ranks = chosen (state_after (suc s) (suc k)) ranks

-- ---- worked rows

-- so many turns of an order
abbrev turns : (ℕ → ℕ) → (count : ℕ) → List ℕ
turns order count = map order (range_with_len 0 count)

rounds_row : turns (λ k. seeded 0 k 3) 5 ≡ 0 ∷ 1 ∷ 2 ∷ 0 ∷ 1 ∷ []
unfolding seeded
rounds_row = refl

list_row : turns (λ k. cycled (2 ∷ 5 ∷ 0 ∷ []) k 4) 5 ≡ 2 ∷ 1 ∷ 0 ∷ 2 ∷ 1 ∷ []
list_row = refl

none_row : turns (λ k. cycled [] k 4) 2 ≡ 0 ∷ 0 ∷ []
none_row = refl

first_state_row : (state_after 1 1 ≡ 7806831264735756412) × (state_after 17 1 ≡ 17399290477736686412)
unfolding state_after stepped
first_state_row = (refl, refl)

seeds_row : (turns (λ k. seeded 1 k 4) 6 ≡ 2 ∷ 1 ∷ 0 ∷ 2 ∷ 2 ∷ 3 ∷ []) × (turns (λ k. seeded 17 k 8) 6 ≡ 0 ∷ 1 ∷ 4 ∷ 3 ∷ 5 ∷ 3 ∷ [])
unfolding seeded chosen state_after stepped
seeds_row = (refl, refl)
