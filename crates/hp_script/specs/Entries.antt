-- Which parts of a call have types, and the files that a script reads.
use Rattle.std.specs.Prelude.{ℕ, Bool, true, false, ◌&&◌, if◌then◌else◌, List, [], ◌∷◌, ◌++◌, map, codes, bytes_eq, Option, Some, None}
use Rattle.hp_word.specs.declared.name.Name.{Name}
use Rattle.hp_script.specs.declared.typed.Shape.{Shape}
use Rattle.hp_script.specs.declared.typed.ReadSpec.{ReadSpec}
use Rattle.hp_script.specs.declared.function.Function.{Function}
use Rattle.hp_script.specs.declared.function.Function.TheVariants as function
use Rattle.hp_script.specs.Mirror.{Tree, Args, number, truth, text, variable, column, field, unary, binary, index, call, none, plain, range, lambda, named}
use Rattle.hp_script.specs.Nodes.{nodes_in}
use Rattle.hp_script.specs.Trees as trees
use Rattle.hp_script.specs.Typing.{Wanted, a_column, is_measure_wanted}
use Rattle.hp_script.specs.Valued.{is_column, is_measure}

-- a call of `transpose` has no value of its own
abbrev pub own_shape : Function → Option Shape → Option Shape
own_shape function.Transpose found = None
own_shape _ found = found

abbrev pub known_shape : Option Function → Option Shape → Option Shape
known_shape None found = None
known_shape (Some f) found = own_shape f found

abbrev pub is_column_wanted : Wanted → Bool
is_column_wanted (a_column frames) = true
is_column_wanted _ = false

-- what is said of a call where its function is known
abbrev pub of_known : {A : Type 0} → Option Function → (Function → List A) → List A
of_known None entries = []
of_known (Some f) entries = entries f

-- no part of an expression has a type
abbrev pub no_shapes : Tree → List (Option Shape)
no_shapes x = map (λ id. None) (nodes_in x)

-- the parts of a plain argument, and those of a named one; the name of a column has no value, nor has a measure
unfoldable pub plain_entries : Wanted → Tree → List (Option Shape) → List (Option Shape)
plain_entries meant x entries = if is_column_wanted meant && is_column x then no_shapes x else entries

unfoldable pub named_entries : Wanted → Tree → List (Option Shape) → List (Option Shape)
named_entries meant x entries = if is_measure_wanted meant && is_measure x then no_shapes x else entries

-- ---- files

-- the names of columns among the arguments of `read_csv` behind its file
abbrev pub columns_among : Args → List Name
columns_among none = []
columns_among (plain (column h c) xs) = trees.named c ∷ columns_among xs
columns_among (plain _ xs) = columns_among xs
columns_among (range x y xs) = columns_among xs
columns_among (lambda p x xs) = columns_among xs
columns_among (named name at x xs) = columns_among xs

-- the file of a call, if it reads one
abbrev pub file_of_call : List ℕ → (dotted : Bool) → Args → List ReadSpec
file_of_call name false (plain (text h bytes) xs) =
    if bytes_eq name (codes "read_csv") then record { file = trees.named bytes; columns = columns_among xs } ∷ [] else []
file_of_call name _ _ = []

-- the files that an expression reads, in the order of the text
unfoldable mutual
  pub files_in : Tree → List ReadSpec
  files_in (number h value) = []
  files_in (truth h holds) = []
  files_in (text h bytes) = []
  files_in (variable h x) = []
  files_in (column h c) = []
  files_in (field h x c) = []
  files_in (unary h op dotted x) = files_in x
  files_in (binary h op dotted x y) = files_in x ++ files_in y
  files_in (index h x i) = files_in x ++ files_in i
  files_in (call h name dotted xs) = file_of_call name dotted xs ++ files_among xs

  pub files_among : Args → List ReadSpec
  files_among none = []
  files_among (plain x xs) = files_in x ++ files_among xs
  files_among (range x y xs) = (files_in x ++ files_in y) ++ files_among xs
  files_among (lambda p x xs) = files_in x ++ files_among xs
  files_among (named name at x xs) = files_in x ++ files_among xs
