-- What a script asks of its arrays' distributions, without a program: the unknowns, and construct by construct their
-- constraints; and that the slots of a program are these unknowns.
use Rattle.std.specs.Prelude.{◌≡◌, ℕ, if◌then◌else◌, List, [], ◌∷◌, ◌++◌, flat_map, count_by, IsTrue, refl}
use Rattle.std.specs.List.{list_any, AllByRecursion}
use Rattle.hp_script.specs.declared.typed.Typed.{Typed}
use Rattle.hp_lattice.specs.declared.dist.Dist.TheVariants.{Var}
use Rattle.hp_air.specs.declared.slot.Slot.{Slot}
use Rattle.hp_air.specs.Arrays.{Arrays, Filter, Scan}
use Rattle.hp_air.specs.Constraints.{Bound, same, up_to, at_most, equal, bounds_of}
use Rattle.hp_air.specs.Frames.{node_slot, var_slot, balanced_slot}
use Rattle.hp_air.specs.Unknowns.{Unknown, of_variable, of_node, balanced_of, of_nothing, same_unknown, unknown_of, constructs, unknowns}

-- ---- constraints

-- the first column of an array's frame; a balanced copy is a frame by itself
abbrev pub first_column : Unknown → Unknown
first_column (of_variable var column) = of_variable var 0
first_column (of_node node column) = of_node node 0
first_column u = u

-- a column after the first is equal to the first
unfoldable pub column_bounds : Unknown → List (Bound Unknown)
column_bounds u = if same_unknown u (first_column u) then [] else equal u (first_column u)

-- the constraints of these unknowns and of these constructs over them
unfoldable pub bounds_among : List Unknown → List (Arrays Unknown) → List (Bound Unknown)
bounds_among us cs = flat_map column_bounds us ++ flat_map bounds_of cs

-- the constraints of a script; every construct counts, whether or not it is ever run
unfoldable pub script_bounds : Typed → List (Bound Unknown)
script_bounds typed = bounds_among (unknowns typed) (constructs typed)

-- ---- slots

-- how many slots stand for this unknown
abbrev pub slots_for : List Slot → Unknown → ℕ
slots_for slots u = count_by (λ s. same_unknown u (unknown_of s)) slots

-- Each of these unknowns has exactly one slot, and no other slot is: two of one unknown are none.
pub record AreSlotsOf (us : List Unknown) (slots : List Slot) : Type 0 where
  pub one : AllByRecursion (λ u. slots_for slots u ≡ 1) us
  pub only : AllByRecursion (λ s. IsTrue (list_any (same_unknown (unknown_of s)) us)) slots

-- the slots of a program are the unknowns of this script
abbrev pub HasSlots : Typed → List Slot → Type 0
HasSlots typed slots = AreSlotsOf (unknowns typed) slots

-- ---- worked rows

-- the two columns of a variable, of which the second is equal to the first, and the running sums of its first
bounds_row : bounds_among (of_variable 0 0 ∷ of_variable 0 1 ∷ of_node 4 0 ∷ []) (Scan (of_node 4 0) (of_variable 0 0) ∷ [])
    ≡ equal (of_variable 0 1) (of_variable 0 0) ++ equal (of_node 4 0) (of_variable 0 0)
unfolding bounds_among column_bounds bounds_of same_unknown
bounds_row = refl

-- a frame of two columns, and the filtered frame
filter_row : bounds_among [] (Filter (of_node 5 0 ∷ of_node 5 1 ∷ []) (of_variable 0 0 ∷ of_variable 0 1 ∷ []) (of_node 4 0) ∷ [])
    ≡ equal (of_node 4 0) (of_variable 0 0) ++ at_most (of_node 5 0) Var ∷ up_to (of_node 5 0) (of_variable 0 0) ∷ up_to (of_variable 0 0) (of_node 5 0) ∷ []
unfolding bounds_among bounds_of
filter_row = refl

-- a stencil's result and its balanced copy
slots_row : AreSlotsOf (of_variable 0 0 ∷ of_node 4 0 ∷ balanced_of 4 ∷ []) (balanced_slot 4 ∷ var_slot 0 0 ∷ node_slot 4 0 ∷ [])
unfolding same_unknown
slots_row = record { one = (refl, (refl, (refl, tt))); only = (refl, (refl, (refl, tt))) }

-- two balanced copies of one stencil
twice_row : AreSlotsOf (balanced_of 4 ∷ []) (balanced_slot 4 ∷ balanced_slot 4 ∷ []) → ⊥
unfolding same_unknown
twice_row slots = absurd cc

-- a slot that stands for no unknown
other_row : AreSlotsOf (balanced_of 4 ∷ []) (balanced_slot 4 ∷ node_slot 4 1 ∷ []) → ⊥
unfolding same_unknown
other_row slots = absurd cc
