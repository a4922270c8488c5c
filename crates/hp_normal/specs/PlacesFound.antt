-- What is found by a hash: the first place of a name, and of a number, and the columns of a frame.
use Rattle.std.specs.Prelude.{◌≡◌, ◌==◌, ℕ, List, [], Option, Some, Vec, bytes_eq, position, slice_get, IfSome}
use Rattle.std.specs.declared.alloc.Global.{Global}
use Rattle.std.specs.Map.{lookup}
use Rattle.std.specs.Option.{option_and_then, option_map}
use Rattle.hp_word.specs.declared.name.Name.{Name}
use Rattle.hp_script.specs.declared.typed.Shape.{Shape}
use Rattle.hp_script.specs.declared.typed.Shape.TheVariants as shape
use Rattle.hp_script.specs.declared.typed.Var.{Var}

-- the place that is held of a name
abbrev pub place_in : List (Vec ℕ Global × ℕ) → List ℕ → Option ℕ
place_in entries x = lookup (λ (name : Vec ℕ Global). bytes_eq x name.items) entries

-- of each name the first variable that has it
abbrev pub HasNames : List Var → List (Vec ℕ Global × ℕ) → Type 0
HasNames vars entries = (x : List ℕ) → place_in entries x ≡ position (λ v. bytes_eq x v.name.bytes) vars

-- the type of the variable with a name
abbrev pub named_shape : List Var → List ℕ → Option Shape
named_shape vars x = option_and_then (λ k. option_map (λ v. v.shape) (slice_get vars k)) (position (λ v. bytes_eq x v.name.bytes) vars)

-- of each number its first place
abbrev pub HasNumbers : List ℕ → (held : ℕ → Option ℕ) → Type 0
HasNumbers numbers held = (n : ℕ) → held n ≡ position (λ k. k == n) numbers

-- of each name the first column that has it
abbrev pub HasColumns : List Name → List (Vec ℕ Global × ℕ) → Type 0
HasColumns columns entries = (x : List ℕ) → place_in entries x ≡ position (λ column. bytes_eq x column.bytes) columns

-- the names of the columns of a frame
abbrev pub columns_in : Option Shape → List Name
columns_in (Some (shape.Frame names)) = names
columns_in _ = []

-- the position of one of them
abbrev pub column_place : Option Shape → List ℕ → Option ℕ
column_place found x = position (λ column. bytes_eq x column.bytes) (columns_in found)

-- what is held of a value's number are the columns of that value
abbrev pub HasFrames : (ℕ → Option Shape) → (held : ℕ → Option (List Name)) → Type 0
HasFrames found held = (n : ℕ) → IfSome (held n) (λ names. names ≡ columns_in (found n))
