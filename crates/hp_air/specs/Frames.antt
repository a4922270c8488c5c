-- Frames of slots: the columns of one expression, or of one variable.
use Rattle.std.specs.Prelude.{◌≡◌, ℕ, ◌==◌, Bool, true, false, not, ◌&&◌, ◌||◌, if◌then◌else◌, List, [], ◌∷◌, filter, length, position, slice_index_or, unwrap_or, Option, Some, None, refl}
use Rattle.std.specs.List.{range_with_len}
use Rattle.hp_word.specs.declared.place.NodeId.{NodeId}
use Rattle.hp_air.specs.declared.slot.Slot.{Slot}

-- the numbers of the slots of a program
abbrev pub numbers_of : List Slot → List ℕ
numbers_of slots = range_with_len 0 (length slots)

-- a slot of a program; one that it has not stands for nothing
abbrev pub slot_at : List Slot → ℕ → Slot
slot_at slots k = slice_index_or slots k (record { node = None; var = None; column = 0; matrix = false; balanced = false })

-- both are of this expression
abbrev pub is_one_node : Option NodeId → Option NodeId → Bool
is_one_node (Some a) (Some b) = a.0 == b.0
is_one_node _ _ = false

-- both are of this variable
abbrev pub is_one_var : Option ℕ → Option ℕ → Bool
is_one_var (Some a) (Some b) = a == b
is_one_var _ _ = false

-- two slots are columns of one frame; a balanced copy, which is a frame by itself, is with none, not even itself
abbrev pub is_one_frame : Slot → Slot → Bool
is_one_frame a b = not (a.balanced || b.balanced) && (is_one_node a.node b.node || is_one_var a.var b.var)

-- the slots of a slot's frame, in the order of the columns
abbrev pub frame_of : List Slot → ℕ → List ℕ
frame_of slots k = if (slot_at slots k).balanced then k ∷ [] else filter (λ j. is_one_frame (slot_at slots k) (slot_at slots j)) (numbers_of slots)

-- the first slot of a slot's frame
unfoldable pub first_of : List Slot → ℕ → ℕ
first_of slots k = unwrap_or (position (is_one_frame (slot_at slots k)) slots) k

-- the numbers of the balanced copies
abbrev pub balanced_copies : List Slot → List ℕ
balanced_copies slots = filter (λ k. (slot_at slots k).balanced) (numbers_of slots)

-- ---- short forms

-- a column of the value of an expression, and of a variable; and the balanced copy of a stencil
abbrev pub node_slot : ℕ → ℕ → Slot
node_slot node column = record { node = Some (record { 0 = node }); var = None; column = column; matrix = false; balanced = false }

abbrev pub var_slot : ℕ → ℕ → Slot
var_slot var column = record { node = None; var = Some var; column = column; matrix = false; balanced = false }

abbrev pub balanced_slot : ℕ → Slot
balanced_slot node = record (node_slot node 1) { balanced = true }

-- ---- a worked row

-- the second column of a variable, and a stencil's balanced copy
first_rows : (first_of (node_slot 4 0 ∷ var_slot 0 0 ∷ var_slot 0 1 ∷ balanced_slot 4 ∷ []) 2 ≡ 1) × (first_of (node_slot 4 0 ∷ var_slot 0 0 ∷ var_slot 0 1 ∷ balanced_slot 4 ∷ []) 3 ≡ 3)
unfolding first_of
first_rows = (refl, refl)
