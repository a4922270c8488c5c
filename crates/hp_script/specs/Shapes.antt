-- Facts on the shapes of a script's variables and expressions.
use Rattle.std.specs.Prelude.{Bool, true, length, nat_le, Option, Some, None}
use Rattle.hp_script.specs.declared.typed.Shape.{Shape}
use Rattle.hp_script.specs.declared.typed.Shape.TheVariants.{Frame}

-- a frame has at most 1,024 columns
abbrev pub is_narrow : Shape → Bool
is_narrow (Frame columns) = nat_le (length columns) 1024
is_narrow _ = true

-- the same of the shape of a node that may have none
abbrev pub is_narrow_entry : Option Shape → Bool
is_narrow_entry (Some shape) = is_narrow shape
is_narrow_entry None = true
