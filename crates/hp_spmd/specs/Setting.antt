-- Setting several items of a list, and items by their numbers.
use Rattle.std.specs.Prelude.{◌≡◌, ℕ, List, [], ◌∷◌, slice_set, refl}

-- the items at these positions become these others, one for one; a position for which there is none is left as it is
abbrev pub with_all : {X : Type 0} → List ℕ → List X → List X → List X
with_all [] made xs = xs
with_all (to ∷ tos) [] xs = xs
with_all (to ∷ tos) (m ∷ made) xs = with_all tos made (slice_set xs to m)

-- ---- a worked row

set_row : with_all {X = ℕ} (2 ∷ 0 ∷ []) (7 ∷ 8 ∷ []) (1 ∷ 2 ∷ 3 ∷ []) ≡ 8 ∷ 2 ∷ 7 ∷ []
set_row = refl
