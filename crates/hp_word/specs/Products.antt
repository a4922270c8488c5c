-- Products of whole numbers are associative.
use Rattle.std.proofs.Common.{◌≡◌, ℕ, ◌*◌, ◌*ℤ◌, ℤ, ap, arith}
use Rattle.std.proofs.lemmas.Int.{ints}
use borrow.Author.Differences.{up, down, product_is}

times : (k m n : ℕ) → m ≡ n → m * k ≡ n * k
times k m n e = ap (λ x. x * k) e

-- `up z - down z` is z
pub product_assoc : (a b c : ℤ) → (a *ℤ b) *ℤ c ≡ a *ℤ (b *ℤ c)
product_assoc a b c =
    let ab = product_is a b in
    let bc = product_is b c in
    omega (arith, ints, times (up c) _ _ ab.0, times (down c) _ _ ab.1, times (down c) _ _ ab.0, times (up c) _ _ ab.1, times (up a) _ _ bc.0, times (down a) _ _ bc.1, times (down a) _ _ bc.0, times (up a) _ _ bc.1)
