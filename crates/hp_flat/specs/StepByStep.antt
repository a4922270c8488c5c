-- A program whose operations follow the constructs of its script.
use Rattle.std.specs.Prelude.{Bool, true, false, List, [], ◌∷◌, ◌++◌, map, IsTrue, refl}
use Rattle.hp_air.specs.Arrays.{Arrays, Scalar, Length, Map, Reduce, At}
use Rattle.hp_air.specs.Unknowns.{Unknown, of_node}
use Rattle.hp_word.specs.declared.fold.FoldKind.TheVariants.{Sum}

-- an operation that is neither scalar work nor a length
abbrev pub is_step : Arrays Unknown → Bool
is_step Scalar = false
is_step (Length array) = false
is_step _ = true

-- Apart from scalar work there is one operation for each construct, the same over the same arrays, in their order; of the
-- lengths of a frame's columns the first is taken.
pub data Follows : (operations constructs : List (Arrays Unknown)) → Type 0 where
  both_end : Follows [] []
  scalar_work : {rows cs : List (Arrays Unknown)} → Follows rows cs → Follows (Scalar ∷ rows) cs
  same_step : {a : Arrays Unknown} {rows cs : List (Arrays Unknown)} → IsTrue (is_step a) → Follows rows cs → Follows (a ∷ rows) (a ∷ cs)
  first_length : {rows cs : List (Arrays Unknown)} (u : Unknown) (us : List Unknown) → Follows rows cs → Follows (Length u ∷ rows) (map Length (u ∷ us) ++ cs)

-- ---- a worked row

-- `a[i] + 1` and a map, of which the second is the sum's array
follows_row : Follows (At (of_node 0 0) ∷ Scalar ∷ Map (of_node 3 0) (of_node 0 0 ∷ []) ∷ Reduce Sum (of_node 3 0) ∷ []) (At (of_node 0 0) ∷ Map (of_node 3 0) (of_node 0 0 ∷ []) ∷ Reduce Sum (of_node 3 0) ∷ [])
follows_row = same_step refl (scalar_work (same_step refl (same_step refl both_end)))
