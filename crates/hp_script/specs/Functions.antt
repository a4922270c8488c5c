-- The functions that a script can call: their names, and how many arguments a call has.
use Rattle.std.specs.Prelude.{ℕ, ◌==◌, nat_le, Bool, if◌then◌else◌, List, [], ◌∷◌, codes, Option, None}
use Rattle.std.specs.Option.{option_map, option_or}
use Rattle.hp_word.specs.declared.fold.FoldKind.{FoldKind}
use Rattle.hp_word.specs.declared.fold.FoldKind.TheVariants as fold
use Rattle.hp_script.specs.declared.function.ScalarFunction.{ScalarFunction}
use Rattle.hp_script.specs.declared.function.ScalarFunction.TheVariants as scalar
use Rattle.hp_script.specs.declared.function.Function.{Function}
use Rattle.hp_script.specs.declared.function.Function.TheVariants as function
use Rattle.hp_script.specs.Lexemes.{entry}

-- ---- names

abbrev pub scalar_table : List (List ℕ × ScalarFunction)
scalar_table = (codes "div", scalar.Div) ∷ (codes "rem", scalar.Rem) ∷ (codes "min", scalar.Min) ∷ (codes "max", scalar.Max) ∷ []

abbrev pub fold_table : List (List ℕ × FoldKind)
fold_table =
    (codes "sum", fold.Sum) ∷ (codes "prod", fold.Prod) ∷ (codes "minimum", fold.Min) ∷ (codes "maximum", fold.Max)
    ∷ (codes "any", fold.Any) ∷ (codes "all", fold.All) ∷ []

abbrev pub array_table : List (List ℕ × Function)
array_table =
    (codes "count", function.Count) ∷ (codes "length", function.Length) ∷ (codes "fill", function.Fill) ∷ (codes "collect", function.Collect)
    ∷ (codes "cumsum", function.Cumsum) ∷ (codes "map", function.Map) ∷ (codes "stencil", function.Stencil) ∷ (codes "vcat", function.Vcat)
    ∷ (codes "stack", function.Stack) ∷ (codes "row", function.Row) ∷ (codes "transpose", function.Transpose) ∷ []

abbrev pub frame_table : List (List ℕ × Function)
frame_table =
    (codes "DataFrame", function.DataFrame) ∷ (codes "read_csv", function.ReadCsv) ∷ (codes "nrow", function.Nrow) ∷ (codes "filter", function.Filter)
    ∷ (codes "join", function.Join) ∷ (codes "aggregate", function.Aggregate) ∷ (codes "sort", function.Sort) ∷ []

unfoldable pub scalar_named : List ℕ → Option ScalarFunction
scalar_named name = entry scalar_table name

unfoldable pub fold_named : List ℕ → Option FoldKind
fold_named name = entry fold_table name

unfoldable pub array_named : List ℕ → Option Function
array_named name = entry array_table name

unfoldable pub frame_named : List ℕ → Option Function
frame_named name = entry frame_table name

-- the function of a name; a dotted name is that of a scalar function
unfoldable pub function_named : (dotted : Bool) → List ℕ → Option Function
function_named dotted name =
    option_or (option_map function.Scalar (scalar_named name))
    (if dotted then None else option_or (option_map function.Fold (fold_named name)) (option_or (array_named name) (frame_named name)))

-- ---- counts

-- a call of the function can have so many arguments
abbrev pub takes_count : Function → ℕ → Bool
takes_count function.DataFrame n = nat_le 1 n
takes_count function.Stack n = nat_le 1 n
takes_count function.ReadCsv n = nat_le 2 n
takes_count function.Aggregate n = nat_le 3 n
takes_count function.Join n = n == 3
takes_count (function.Scalar f) n = n == 2
takes_count function.Fill n = n == 2
takes_count function.Map n = n == 2
takes_count function.Stencil n = n == 2
takes_count function.Vcat n = n == 2
takes_count function.Filter n = n == 2
takes_count function.Sort n = n == 2
takes_count function.Row n = n == 2
takes_count _ n = n == 1
