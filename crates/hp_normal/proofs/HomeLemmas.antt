-- The first place at which a test passes, or the length.
use Rattle.std.proofs.Common.{◌≡◌, ◌≤◌, ◌<◌, ℕ, Bool, true, false, cond, ltb, length, List, Option, Some, None, refl, sym, arith}
use Rattle.std.proofs.lemmas.List.Sums.{prefix_len-le-length}
use Rattle.std.specs.Prelude.{position, not}
use Rattle.std.specs.List.{position_or_len}

some_place : (b : Bool) (n k : ℕ) → cond b (Some n) None ≡ Some k → k ≡ n
some_place true n k e = cc
some_place false n k e = absurd cc

pub place_found : {X : Type 0} (p : X → Bool) (xs : List X) (k : ℕ) → position p xs ≡ Some k → k ≡ position_or_len p xs
place_found p xs k e = some_place _ (position_or_len p xs) k e

no_place : (b : Bool) (n : ℕ) → cond b (Some n) None ≡ None → b ≡ false
no_place true n e = absurd cc
no_place false n e = refl

at_end : (n l : ℕ) → n ≤ l → ltb n l ≡ false → l ≡ n
at_end n l le e = grind arith

pub place_missing : {X : Type 0} (p : X → Bool) (xs : List X) → position p xs ≡ None → length xs ≡ position_or_len p xs
place_missing p xs e = at_end (position_or_len p xs) (length xs) (prefix_len-le-length (λ x. not (p x)) xs) (no_place _ (position_or_len p xs) e)
