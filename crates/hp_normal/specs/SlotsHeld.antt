-- The slots of a script, value after value.
use Rattle.std.specs.Prelude.{ℕ, ◌+◌, List, [], ◌∷◌, ◌++◌, map, Option, Some}
use Rattle.std.specs.List.{range_with_len}
use Rattle.hp_script.specs.declared.typed.Shape.{Shape}
use Rattle.hp_script.specs.declared.typed.Var.{Var}
use Rattle.hp_air.specs.declared.slot.Slot.{Slot}
use Rattle.hp_air.specs.Frames.{node_slot, var_slot}
use Rattle.hp_air.specs.Unknowns.{width}
use Rattle.hp_flat.specs.Homes.{is_matrix}

-- the slots of the columns of a value, by that of the first
abbrev pub columns_for : Slot → Option Shape → List Slot
columns_for first found = map (λ c. record first { column = c; matrix = is_matrix found }) (range_with_len 0 (width found))

-- the slots of the variables from this number on
unfoldable pub var_slots : ℕ → List Var → List Slot
var_slots v [] = []
var_slots v (var ∷ vars) = columns_for (var_slot v 0) (Some var.shape) ++ var_slots (v + 1) vars

-- the slots of the expressions from this number on
unfoldable pub node_slots : ℕ → List (Option Shape) → List Slot
node_slots node [] = []
node_slots node (found ∷ shapes) = columns_for (node_slot node 0) found ++ node_slots (node + 1) shapes
