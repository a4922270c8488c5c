-- What an expression can name: the variables, and in the mask of a filter the columns of its frame.
use Rattle.std.specs.Prelude.{ℕ, if◌then◌else◌, List, [], ◌∷◌, find, position, bytes_eq, Option, Some, None}
use Rattle.std.specs.Option.{option_map}
use Rattle.hp_script.specs.Trees.{named}
use Rattle.hp_meaning.specs.declared.value.Column.{Column}
use Rattle.hp_meaning.specs.declared.value.Value.{Value}
use Rattle.hp_meaning.specs.declared.value.Var.{Var}

abbrev pub var : List ℕ → Value → Var
var name value = record { name = named name; value = value }

-- the value of the variable with this name
unfoldable pub value_named : List ℕ → List Var → Option Value
value_named name vars = option_map (λ v. v.value) (find (λ v. bytes_eq v.name.bytes name) vars)

-- its place among the variables
unfoldable pub place_named : List ℕ → List Var → Option ℕ
place_named name vars = position (λ v. bytes_eq v.name.bytes name) vars

-- the variables after an assignment: in the place of the variable's earlier value, or at the end
unfoldable pub assigned : List ℕ → Value → List Var → List Var
assigned name value [] = var name value ∷ []
assigned name value (v ∷ vars) = if bytes_eq v.name.bytes name then var name value ∷ vars else v ∷ assigned name value vars

-- the variables, and the frame of the innermost filter in whose mask an expression stands
pub record Scope : Type 0 where
  pub vars : List Var
  pub frame : Option (List Column)

-- outside of all masks
abbrev pub outside : List Var → Scope
outside vars = record { vars = vars; frame = None }

-- in the mask of a filter of this frame
abbrev pub within : List Column → Scope → Scope
within columns scope = record { vars = scope.vars; frame = Some columns }
