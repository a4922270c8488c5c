-- The first slots of expressions and of variables, as they are found by a hash.
use Rattle.std.specs.Prelude.{◌≡◌, ℕ, nat_eq, Bool, not, ◌&&◌, List, position, Some}
use Rattle.indexmap.specs.IndexMap.{get}
use Rattle.hp_air.specs.declared.slot.Slot.{Slot}
use Rattle.hp_air.specs.Frames.{is_one_node, is_one_var}
use Rattle.hp_constrain.specs.declared.firsts.Firsts.{Firsts}

-- a column of the value of this expression
abbrev pub is_of_node : ℕ → Slot → Bool
is_of_node node s = not s.balanced && is_one_node (Some (record { 0 = node })) s.node

-- a column of this variable
abbrev pub is_of_var : ℕ → Slot → Bool
is_of_var var s = not s.balanced && is_one_var (Some var) s.var

-- of each expression and each variable the first of these slots that is of it, by its place
pub record HasFirsts (slots : List Slot) (it : Firsts) : Type 0 where
  pub nodes : (node : ℕ) → get nat_eq it.nodes node ≡ position (is_of_node node) slots
  pub vars : (var : ℕ) → get nat_eq it.vars var ≡ position (is_of_var var) slots
