-- Turns one after the other, as an order of turns names them.
use Rattle.std.specs.Prelude.{◌≡◌, ◌++◌, ◌∷◌, ◌<◌, ℕ, suc, List, [], length, All, Option, IfSome}
use Rattle.hp_outside.specs.Counts.{last_count}
use Rattle.hp_network.specs.Network.{Machine, State, run, turn}

-- these are the numbers that an order names from the k-th on, where it tells them and is not at its last count
abbrev pub AreNamed : (ℕ → Option ℕ) → (k : ℕ) → List ℕ → Type 0
AreNamed order k [] = Unit {0}
AreNamed order k (r ∷ rs) = (k < last_count → IfSome (order k) (λ n. r ≡ n)) × AreNamed order (suc k) rs

-- One more turn, of the rank that the order names next: behind the turns before it stands that number, and the state is the one
-- after its turn.
pub record Takes {X : Type 0} (m : Machine X) (order : ℕ → Option ℕ) (asked : ℕ) (s later : State X) (before after : List ℕ) : Type 0 where
  pub rank : ℕ
  pub appended : after ≡ before ++ rank ∷ []
  pub among : rank < length s.ranks
  pub named : asked < last_count → IfSome (order asked) (λ n. rank ≡ n)
  pub state : later ≡ turn m s rank

-- The turns of a call: behind those before it stand the numbers that were named from the `asked`-th on, the state is the one
-- after them, and before the last of them nothing was written.
pub record Follows {X : Type 0} (m : Machine X) (order : ℕ → Option ℕ) (asked : ℕ) (s later : State X) (before after : List ℕ) : Type 0 where
  pub turns : List ℕ
  pub appended : after ≡ before ++ turns
  pub among : All (λ r. r < length s.ranks) turns
  pub named : AreNamed order asked turns
  pub state : later ≡ run m s turns
  pub quiet : (front : List ℕ) (last : ℕ) → turns ≡ front ++ last ∷ [] → (run m s front).out ≡ s.out
