-- Environments: the arrays of slots as wholes, the words, and what the orders of rows hang on.
use Rattle.std.specs.Prelude.{◌≡◌, ℕ, ◌==◌, ℤ, pos, if◌then◌else◌, List, [], ◌∷◌, map, refl}
use Rattle.hp_word.specs.declared.matrix.Matrix.{Matrix}
use Rattle.hp_word.specs.MatrixRules.{matrix, flat}

-- ---- arrays

-- an array, or a matrix
pub data Whole : Type 0 where
  Vector : List ℤ → Whole
  Grid : Matrix → Whole

-- the elements of an array
abbrev pub cells : Whole → List ℤ
cells (Vector xs) = xs
cells (Grid m) = flat m

-- a matrix; an array counts as one of one row
abbrev pub grid : Whole → Matrix
grid (Vector xs) = matrix 1 (map (λ x. x ∷ []) xs)
grid (Grid m) = m

-- ---- environments

-- What slots and words hold; how many joins and aggregates were executed, and those of them whose order was bad.
pub record Env : Type 0 where
  pub slots : ℕ → Whole
  pub words : ℕ → ℤ
  pub executed : ℕ
  pub bad : List ℕ

-- before the first operation: a slot counts as the empty array, and a word as 0
abbrev pub unset : Env
unset = record { slots = λ k. Vector []; words = λ w. pos 0; executed = 0; bad = [] }

-- the same, but for the value at one number
abbrev pub changed_at : {A : Type 0} → ℕ → A → (ℕ → A) → ℕ → A
changed_at k x held j = if j == k then x else held j

-- the same, but for these values at these numbers, one for one
unfoldable pub changed_all : {A : Type 0} → List ℕ → List A → (ℕ → A) → ℕ → A
changed_all [] xs held = held
changed_all (k ∷ ks) [] held = held
changed_all (k ∷ ks) (x ∷ xs) held = changed_at k x (changed_all ks xs held)

abbrev pub with_word : ℕ → ℤ → Env → Env
with_word w x e = record e { words = changed_at w x e.words }

abbrev pub with_slots : List ℕ → List Whole → Env → Env
with_slots ks xs e = record e { slots = changed_all ks xs e.slots }

-- the elements of the arrays of these slots
abbrev pub lists_at : Env → List ℕ → List (List ℤ)
lists_at e ks = map (λ k. cells (e.slots k)) ks

-- ---- worked rows

-- a matrix that has no value yet is of one row and no column
unset_row : grid (unset.slots 3) ≡ matrix 1 []
unset_row = refl

changed_row : (e : Env) → (with_slots (1 ∷ 2 ∷ []) (Vector [] ∷ Vector (pos 7 ∷ []) ∷ []) e).slots 2 ≡ Vector (pos 7 ∷ [])
unfolding changed_all
changed_row e = refl
