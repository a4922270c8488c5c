-- The types of the results of operators and calls, by the types of their operands; where there is none, they fit no
-- row of the language.
use Rattle.std.specs.Prelude.{Bool, true, false, not, if◌then◌else◌, List, [], ◌∷◌, ◌++◌, bytes_eq, Option, Some, None}
use Rattle.std.specs.List.{filter}
use Rattle.std.specs.Option.{option_map}
use Rattle.hp_word.specs.declared.name.Name.{Name}
use Rattle.hp_word.specs.declared.fold.FoldKind.{FoldKind}
use Rattle.hp_word.specs.declared.fold.FoldKind.TheVariants as fold
use Rattle.hp_script.specs.declared.tree.UnOp.{UnOp}
use Rattle.hp_script.specs.declared.tree.UnOp.TheVariants.{Neg, Not}
use Rattle.hp_script.specs.declared.tree.BinOp.{BinOp}
use Rattle.hp_script.specs.declared.tree.BinOp.TheVariants.{Or, And, Eq, Ne, Lt, Le, Gt, Ge, Add, Sub, BitOr, Mul, BitAnd}
use Rattle.hp_script.specs.declared.typed.Shape.{Shape}
use Rattle.hp_script.specs.declared.typed.Shape.TheVariants as shape
use Rattle.hp_script.specs.declared.argument.Argument.{Argument}
use Rattle.hp_script.specs.declared.argument.Argument.TheVariants.{Value, Interval, Body, Text, Column, Given, Measure}
use Rattle.hp_script.specs.declared.function.Function.{Function}
use Rattle.hp_script.specs.declared.function.Function.TheVariants as function

-- ---- operators

-- two arrays of numbers, or one and a number
abbrev pub spreads_numbers : Shape → Shape → Bool
spreads_numbers shape.Ints shape.Ints = true
spreads_numbers shape.Ints shape.Int = true
spreads_numbers shape.Int shape.Ints = true
spreads_numbers _ _ = false

-- two arrays of truth values, or one and a truth value
abbrev pub spreads_truths : Shape → Shape → Bool
spreads_truths shape.Bools shape.Bools = true
spreads_truths shape.Bools shape.Bool = true
spreads_truths shape.Bool shape.Bools = true
spreads_truths _ _ = false

abbrev pub are_numbers : Shape → Shape → Bool
are_numbers shape.Int shape.Int = true
are_numbers _ _ = false

abbrev pub are_truths : Shape → Shape → Bool
are_truths shape.Bool shape.Bool = true
are_truths _ _ = false

abbrev pub are_matrices : Shape → Shape → Bool
are_matrices shape.Matrix shape.Matrix = true
are_matrices _ _ = false

abbrev pub some_if : Bool → Shape → Option Shape
some_if holds result = if holds then Some result else None

abbrev pub arithmetic_result : (dotted : Bool) → Shape → Shape → Option Shape
arithmetic_result false a b = some_if (are_numbers a b) shape.Int
arithmetic_result true a b = some_if (spreads_numbers a b) shape.Ints

abbrev pub comparison_result : (dotted : Bool) → Shape → Shape → Option Shape
comparison_result false a b = some_if (are_numbers a b) shape.Bool
comparison_result true a b = some_if (spreads_numbers a b) shape.Bools

-- `&&` and `||`
abbrev pub logic_result : (dotted : Bool) → Shape → Shape → Option Shape
logic_result false a b = some_if (are_truths a b) shape.Bool
logic_result true a b = None

-- `.&` and `.|`
abbrev pub mask_result : (dotted : Bool) → Shape → Shape → Option Shape
mask_result false a b = None
mask_result true a b = some_if (spreads_truths a b) shape.Bools

-- `*` of numbers or matrices, and `.*`
abbrev pub product_result : (dotted : Bool) → Shape → Shape → Option Shape
product_result false a b = if are_matrices a b then Some shape.Matrix else some_if (are_numbers a b) shape.Int
product_result true a b = some_if (spreads_numbers a b) shape.Ints

abbrev pub binary_result : BinOp → (dotted : Bool) → Shape → Shape → Option Shape
binary_result Or = logic_result
binary_result And = logic_result
binary_result Eq = comparison_result
binary_result Ne = comparison_result
binary_result Lt = comparison_result
binary_result Le = comparison_result
binary_result Gt = comparison_result
binary_result Ge = comparison_result
binary_result Add = arithmetic_result
binary_result Sub = arithmetic_result
binary_result BitOr = mask_result
binary_result Mul = product_result
binary_result BitAnd = mask_result

abbrev pub unary_result : UnOp → (dotted : Bool) → Shape → Option Shape
unary_result Neg false shape.Int = Some shape.Int
unary_result Not false shape.Bool = Some shape.Bool
unary_result Not true shape.Bools = Some shape.Bools
unary_result _ _ _ = None

-- an element by a number, or those of an array of places
abbrev pub index_result : Shape → Shape → Option Shape
index_result shape.Ints shape.Int = Some shape.Int
index_result shape.Bools shape.Int = Some shape.Bool
index_result shape.Ints shape.Ints = Some shape.Ints
index_result shape.Bools shape.Ints = Some shape.Bools
index_result _ _ = None

-- of operands that may have no type
abbrev pub of_both : (Shape → Shape → Option Shape) → Option Shape → Option Shape → Option Shape
of_both result (Some a) (Some b) = result a b
of_both result _ _ = None

-- ---- functions of values

abbrev pub one_value : (Shape → Option Shape) → List Argument → Option Shape
one_value result (Value a ∷ []) = result a
one_value result _ = None

abbrev pub two_values : (Shape → Shape → Option Shape) → List Argument → Option Shape
two_values result (Value a ∷ Value b ∷ []) = result a b
two_values result _ = None

-- the array of elements of a type
abbrev pub array_of : Shape → Option Shape
array_of shape.Int = Some shape.Ints
array_of shape.Bool = Some shape.Bools
array_of _ = None

abbrev pub fill_result : Shape → Shape → Option Shape
fill_result a shape.Int = array_of a
fill_result a _ = None

abbrev pub length_result : Shape → Option Shape
length_result shape.Ints = Some shape.Int
length_result shape.Bools = Some shape.Int
length_result _ = None

abbrev pub of_ints : (result : Shape) → Shape → Option Shape
of_ints result shape.Ints = Some result
of_ints result _ = None

abbrev pub of_bools : (result : Shape) → Shape → Option Shape
of_bools result shape.Bools = Some result
of_bools result _ = None

abbrev pub fold_result : FoldKind → Shape → Option Shape
fold_result fold.Any = of_bools shape.Bool
fold_result fold.All = of_bools shape.Bool
fold_result _ = of_ints shape.Int

abbrev pub vcat_result : Shape → Shape → Option Shape
vcat_result shape.Ints shape.Ints = Some shape.Ints
vcat_result shape.Bools shape.Bools = Some shape.Bools
vcat_result _ _ = None

abbrev pub nrow_result : Shape → Option Shape
nrow_result (shape.Frame columns) = Some shape.Int
nrow_result _ = None

abbrev pub filter_result : Shape → Shape → Option Shape
filter_result (shape.Frame columns) shape.Bools = Some (shape.Frame columns)
filter_result _ _ = None

abbrev pub row_result : Shape → Shape → Option Shape
row_result shape.Matrix shape.Int = Some shape.Ints
row_result _ _ = None

abbrev pub matrix_result : Shape → Option Shape
matrix_result shape.Matrix = Some shape.Matrix
matrix_result _ = None

-- all arguments are arrays of numbers
abbrev pub are_arrays : List Argument → Bool
are_arrays [] = true
are_arrays (Value shape.Ints ∷ rest) = are_arrays rest
are_arrays _ = false

-- ---- functions with a lambda, in the order in which their arguments are tested

-- the array, and what is made of an element
abbrev pub map_result : List Argument → Option Shape
map_result (Value a ∷ Body made ∷ []) = array_of made
map_result _ = None

abbrev pub stencil_result : List Argument → Option Shape
stencil_result (Body shape.Int ∷ Value shape.Ints ∷ []) = Some shape.Ints
stencil_result _ = None

abbrev pub collect_result : List Argument → Option Shape
collect_result (Interval ∷ []) = Some shape.Ints
collect_result _ = None

-- ---- functions of frames

-- the names of the columns, where all arguments are given arrays of numbers
abbrev pub given_names : List Argument → Option (List Name)
given_names [] = Some []
given_names (Given x shape.Ints ∷ rest) = option_map (λ names. x ∷ names) (given_names rest)
given_names _ = None

-- the names, where all arguments are names of columns
abbrev pub column_names : List Argument → Option (List Name)
column_names [] = Some []
column_names (Column x ∷ rest) = option_map (λ names. x ∷ names) (column_names rest)
column_names _ = None

-- the names, where all arguments are measures
abbrev pub measure_names : List Argument → Option (List Name)
measure_names [] = Some []
measure_names (Measure x ∷ rest) = option_map (λ names. x ∷ names) (measure_names rest)
measure_names _ = None

abbrev pub read_result : List Argument → Option Shape
read_result (Text file ∷ columns) = option_map shape.Frame (column_names columns)
read_result _ = None

-- the columns but for the key
abbrev pub without : Name → List Name → List Name
without key columns = filter (λ column. not (bytes_eq key.bytes column.bytes)) columns

abbrev pub join_result : List Argument → Option Shape
join_result (Value (shape.Frame left) ∷ Value (shape.Frame right) ∷ Column key ∷ []) = Some (shape.Frame (left ++ without key right))
join_result _ = None

abbrev pub aggregate_result : List Argument → Option Shape
aggregate_result (Value (shape.Frame columns) ∷ Column key ∷ measures) = option_map (λ names. shape.Frame (key ∷ names)) (measure_names measures)
aggregate_result _ = None

abbrev pub sort_result : List Argument → Option Shape
sort_result (Value (shape.Frame columns) ∷ Column key ∷ []) = Some (shape.Frame columns)
sort_result _ = None

-- ---- calls

-- The type of a call's result. A transposed matrix is one; that it stands only on the right of a product is tested
-- apart. The arguments stand in the order in which they are tested.
unfoldable pub call_result : Function → (dotted : Bool) → List Argument → Option Shape
call_result (function.Scalar f) dotted xs = two_values (arithmetic_result dotted) xs
call_result (function.Fold kind) dotted xs = one_value (fold_result kind) xs
call_result function.Count dotted xs = one_value (of_bools shape.Int) xs
call_result function.Length dotted xs = one_value length_result xs
call_result function.Fill dotted xs = two_values fill_result xs
call_result function.Collect dotted xs = collect_result xs
call_result function.Cumsum dotted xs = one_value (of_ints shape.Ints) xs
call_result function.Map dotted xs = map_result xs
call_result function.Stencil dotted xs = stencil_result xs
call_result function.Vcat dotted xs = two_values vcat_result xs
call_result function.DataFrame dotted xs = option_map shape.Frame (given_names xs)
call_result function.ReadCsv dotted xs = read_result xs
call_result function.Nrow dotted xs = one_value nrow_result xs
call_result function.Filter dotted xs = two_values filter_result xs
call_result function.Join dotted xs = join_result xs
call_result function.Aggregate dotted xs = aggregate_result xs
call_result function.Sort dotted xs = sort_result xs
call_result function.Stack dotted xs = some_if (are_arrays xs) shape.Matrix
call_result function.Row dotted xs = two_values row_result xs
call_result function.Transpose dotted xs = one_value matrix_result xs
