-- What is known of names at one point of a script.
use Rattle.std.specs.Prelude.{ℕ, Bool, true, false, if◌then◌else◌, List, [], ◌∷◌, ◌++◌, map, bytes_eq, Option, Some, None}
use Rattle.std.specs.List.{list_any, list_all}
use Rattle.hp_word.specs.declared.name.Name.{Name}
use Rattle.hp_script.specs.declared.typed.Shape.{Shape}
use Rattle.hp_script.specs.declared.typed.Var.{Var}
use Rattle.hp_script.specs.Trees.{named}

-- What a lambda's parameter is: an element, of the type of a number or of a truth value; or a place of an array, of
-- which only `p[d]` has a value, as in a stencil.
pub data Role : Type 0 where
  element : Shape → Role
  window : Role

pub record Parameter : Type 0 where
  pub name : List ℕ
  pub role : Role

-- A point of a script.
pub record Scope : Type 0 where
  -- the names that the script assigns anywhere
  pub assigned : List (List ℕ)
  -- the variables that are assigned before in the text, each with the type of the first assignment, in their order
  pub vars : List Var
  -- For each way that leads here from the start, the names that it assigns. A loop's body is passed over or run once:
  -- to run it again assigns nothing less.
  pub ways : List (List (List ℕ))
  -- the columns of the frame that the innermost filter around filters, in its second argument
  pub around : Option (List Name)
  -- the parameters of the lambdas around, the innermost first
  pub parameters : List Parameter

-- ---- names

abbrev pub has : List ℕ → List (List ℕ) → Bool
has x names = list_any (bytes_eq x) names

-- a frame of these columns has this one
abbrev pub has_column : List ℕ → List Name → Bool
has_column x columns = list_any (λ column. bytes_eq x column.bytes) columns

-- each way assigns the name
abbrev pub is_set : List (List (List ℕ)) → List ℕ → Bool
is_set ways x = list_all (λ way. has x way) ways

-- the type of a variable
abbrev pub shape_among : List Var → List ℕ → Option Shape
shape_among [] x = None
shape_among (var ∷ vars) x = if bytes_eq x var.name.bytes then Some var.shape else shape_among vars x

-- what the innermost parameter of a name is
abbrev pub role_of : List Parameter → List ℕ → Option Role
role_of [] x = None
role_of (parameter ∷ parameters) x = if bytes_eq x parameter.name then Some parameter.role else role_of parameters x

abbrev pub are_some : List Parameter → Bool
are_some [] = false
are_some (parameter ∷ parameters) = true

abbrev pub is_in_lambda : Scope → Bool
is_in_lambda s = are_some s.parameters

-- ---- scopes

-- inside a lambda
abbrev pub with_parameter : Scope → List ℕ → Role → Scope
with_parameter s x role = record s { parameters = record { name = x; role = role } ∷ s.parameters }

-- inside the second argument of a filter, whose first is of this type
abbrev pub with_columns : Scope → Option (List Name) → Scope
with_columns s columns = record s { around = columns }

-- the variables after an assignment of a value of this type, by the type of the first assignment
abbrev pub variables_with : (first : Option Shape) → List Var → List ℕ → Shape → List Var
variables_with (Some first) vars x shape = vars
variables_with None vars x shape = vars ++ record { name = named x; shape = shape } ∷ []

-- after an assignment
abbrev pub after_assignment : Scope → List ℕ → Option Shape → Scope
after_assignment s x None = s
after_assignment s x (Some shape) = record s { vars = variables_with (shape_among s.vars x) s.vars x shape; ways = map (λ way. x ∷ way) s.ways }
