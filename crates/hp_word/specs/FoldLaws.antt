-- What lets a list be folded over any cut into pieces.
use Rattle.std.specs.Prelude.{◌≡◌, ℤ, pos, Bool, ◌&&◌, ◌||◌, IsTrue, int_le}
use Rattle.std.specs.Ordering.{int_eq}
use Rattle.hp_word.specs.Words.{least_word, greatest_word}

-- over allowed words a join is associative, gives allowed words, and leaves a word as it is beside the unit
pub record FoldLaws (unit : ℤ) (op : ℤ → ℤ → ℤ) (is_allowed : ℤ → Bool) : Type 0 where
  pub unit_allowed : IsTrue (is_allowed unit)
  pub closed : (a b : ℤ) → IsTrue (is_allowed a) → IsTrue (is_allowed b) → IsTrue (is_allowed (op a b))
  pub associative : (a b c : ℤ) → IsTrue (is_allowed a) → IsTrue (is_allowed b) → IsTrue (is_allowed c) → op (op a b) c ≡ op a (op b c)
  pub unit_left : (a : ℤ) → IsTrue (is_allowed a) → op unit a ≡ a
  pub unit_right : (a : ℤ) → IsTrue (is_allowed a) → op a unit ≡ a

-- the numbers of 64 bits
abbrev pub is_word : ℤ → Bool
is_word z = int_le least_word z && int_le z greatest_word

-- the words of truth values
abbrev pub is_truth : ℤ → Bool
is_truth z = int_eq z (pos 0) || int_eq z (pos 1)
