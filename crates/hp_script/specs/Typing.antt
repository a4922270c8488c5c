-- The types of names, and what is meant where an argument of a call stands.
use Rattle.std.specs.Prelude.{ℕ, Bool, true, false, ◌&&◌, if◌then◌else◌, List, [], ◌∷◌, Option, Some, None}
use Rattle.hp_word.specs.declared.name.Name.{Name}
use Rattle.hp_script.specs.declared.typed.Shape.{Shape}
use Rattle.hp_script.specs.declared.typed.Shape.TheVariants as shape
use Rattle.hp_script.specs.declared.argument.Argument.{Argument}
use Rattle.hp_script.specs.declared.argument.Argument.TheVariants.{Value, Interval, Body, Text, Column, Given, Measure, Misfit}
use Rattle.hp_script.specs.declared.function.Function.{Function}
use Rattle.hp_script.specs.declared.function.Function.TheVariants as function
use Rattle.hp_script.specs.Mirror.{Tree, text, variable, column}
use Rattle.hp_script.specs.Scope.{Role, element, window, Scope, role_of, with_columns}
use Rattle.hp_script.specs.Trees as trees
use Rattle.hp_script.specs.Valued.{is_measure}

-- ---- names

-- the type of a parameter, or else of the variable
abbrev pub name_shape : Option Role → Option Shape → Option Shape
name_shape (Some (element kind)) found = Some kind
name_shape (Some window) found = None
name_shape None found = found

abbrev pub is_window_role : Option Role → Bool
is_window_role (Some window) = true
is_window_role _ = false

-- the parameter of a stencil's lambda
abbrev pub is_window : Scope → Tree → Bool
is_window s (variable h x) = is_window_role (role_of s.parameters x)
is_window s _ = false

-- ---- what is meant where an argument stands

pub data Wanted : Type 0 where
  a_value : Wanted
  -- `a:b`
  an_interval : Wanted
  -- a lambda with such a parameter
  a_lambda : Role → Wanted
  a_text : Wanted
  -- the name of a column that each of these frames has
  a_column : List (List Name) → Wanted
  -- a name with a value
  a_given : Wanted
  -- a name with a measure of a column that each of these frames has
  a_measure : List (List Name) → Wanted
  -- the call fits already no row
  nothing : Wanted

-- the columns of those arguments that are frames
abbrev pub frames_among : List Argument → List (List Name)
frames_among [] = []
frames_among (Value (shape.Frame columns) ∷ rest) = columns ∷ frames_among rest
frames_among (_ ∷ rest) = frames_among rest

-- the lambda of `map` is tested behind its array
abbrev pub wanted_by_map : List Argument → Wanted
wanted_by_map [] = a_value
wanted_by_map (Value shape.Ints ∷ rest) = a_lambda (element shape.Int)
wanted_by_map (Value shape.Bools ∷ rest) = a_lambda (element shape.Bool)
wanted_by_map _ = nothing

abbrev pub wanted_by_stencil : List Argument → Wanted
wanted_by_stencil [] = a_lambda window
wanted_by_stencil _ = a_value

abbrev pub wanted_by_read : List Argument → Wanted
wanted_by_read [] = a_text
wanted_by_read _ = a_column []

abbrev pub wanted_by_join : List Argument → Wanted
wanted_by_join (left ∷ right ∷ rest) = a_column (frames_among (left ∷ right ∷ []))
wanted_by_join _ = a_value

abbrev pub wanted_by_aggregate : List Argument → Wanted
wanted_by_aggregate [] = a_value
wanted_by_aggregate (frame ∷ []) = a_column (frames_among (frame ∷ []))
wanted_by_aggregate (frame ∷ key ∷ rest) = a_measure (frames_among (frame ∷ []))

abbrev pub wanted_by_sort : List Argument → Wanted
wanted_by_sort [] = a_value
wanted_by_sort (frame ∷ rest) = a_column (frames_among (frame ∷ []))

-- what a function wants behind the arguments that are tested before
unfoldable pub wanted : Function → (before : List Argument) → Wanted
wanted function.Map before = wanted_by_map before
wanted function.Stencil before = wanted_by_stencil before
wanted function.Collect before = an_interval
wanted function.DataFrame before = a_given
wanted function.ReadCsv before = wanted_by_read before
wanted function.Join before = wanted_by_join before
wanted function.Aggregate before = wanted_by_aggregate before
wanted function.Sort before = wanted_by_sort before
wanted _ before = a_value

-- the parameter of a lambda where this is meant
abbrev pub role_wanted : Wanted → Role
role_wanted (a_lambda role) = role
role_wanted _ = window

-- the second argument of a filter sees the columns of the first
abbrev pub columns_for_mask : List Argument → Option (List Name)
columns_for_mask (Value (shape.Frame columns) ∷ rest) = Some columns
columns_for_mask _ = None

-- where the next argument of a filter stands, and of any other call
abbrev pub within_filter : Scope → (before : List Argument) → Scope
within_filter s [] = s
within_filter s (x ∷ before) = with_columns s (columns_for_mask (x ∷ before))

unfoldable pub inside : Scope → Function → (before : List Argument) → Scope
inside s function.Filter before = within_filter s before
inside s _ before = s

-- ---- what an argument is, by the type of its expression

abbrev pub value_or_misfit : Option Shape → Argument
value_or_misfit (Some found) = Value found
value_or_misfit None = Misfit

unfoldable pub plain_argument : Wanted → Tree → Option Shape → Argument
plain_argument a_text (text h bytes) found = Text (trees.named bytes)
plain_argument (a_column frames) (column h name) found = Column (trees.named name)
plain_argument _ x found = value_or_misfit found

abbrev pub range_argument : Option Shape → Option Shape → Argument
range_argument (Some shape.Int) (Some shape.Int) = Interval
range_argument _ _ = Misfit

abbrev pub lambda_argument : Option Shape → Argument
lambda_argument (Some made) = Body made
lambda_argument None = Misfit

abbrev pub given_or_misfit : List ℕ → Option Shape → Argument
given_or_misfit name (Some found) = Given (trees.named name) found
given_or_misfit name None = Misfit

abbrev pub is_measure_wanted : Wanted → Bool
is_measure_wanted (a_measure frames) = true
is_measure_wanted _ = false

unfoldable pub named_argument : Wanted → List ℕ → Tree → Option Shape → Argument
named_argument meant name x found =
    if is_measure_wanted meant && is_measure x then Measure (trees.named name) else given_or_misfit name found
