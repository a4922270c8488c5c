-- Lists of names, each once, and what is seen of names and variables that are found by a hash.
use Rattle.std.specs.Prelude.{ℕ, if◌then◌else◌, List, [], ◌∷◌, ◌++◌, Vec}
use Rattle.std.specs.declared.alloc.Global.{Global}
use Rattle.hp_script.specs.Scope.{has}
use Rattle.hp_script.specs.Trees.{named}
use Rattle.hp_script.specs.declared.typed.Shape.{Shape}
use Rattle.hp_script.specs.declared.typed.Var.{Var}

-- the names with one more, unless it is among them
abbrev pub with_name : List ℕ → List (List ℕ) → List (List ℕ)
with_name x names = if has x names then names else names ++ x ∷ []

-- the names, with those of `second` that are among `first`
abbrev pub with_common : (first second names : List (List ℕ)) → List (List ℕ)
with_common first [] names = names
with_common first (x ∷ second) names = with_common first second (if has x first then with_name x names else names)

-- the bytes of each name
abbrev pub bytes_of : List (Vec ℕ Global) → List (List ℕ)
bytes_of [] = []
bytes_of (name ∷ names) = name.items ∷ bytes_of names

-- variables, by their names and types
abbrev pub variables_of : List (Vec ℕ Global × Shape) → List Var
variables_of [] = []
variables_of (entry ∷ entries) = record { name = named entry.0.items; shape = entry.1 } ∷ variables_of entries
