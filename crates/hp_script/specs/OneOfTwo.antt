-- Exactly one of two, and of one value.
use Rattle.std.specs.Prelude.{◌≡◌}

-- One value alone has `P`, and none has `Q`; or one value alone has `Q`, and none has `P`.
pub data OneOfTwo {A B : Type 0} (P : A → Type 0) (Q : B → Type 0) : Type 0 where
  first_alone : (x : A) → P x → ((other : A) → P other → other ≡ x) → ((y : B) → ¬ Q y) → OneOfTwo P Q
  second_alone : (y : B) → Q y → ((other : B) → Q other → other ≡ y) → ((x : A) → ¬ P x) → OneOfTwo P Q
