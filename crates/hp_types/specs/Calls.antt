-- Parts of the results of calls, as the checker works them out: bridges that nobody need believe.
use Rattle.std.specs.Prelude.{Bool, true, false, List, [], ◌∷◌, Option, Some, None}
use Rattle.hp_word.specs.declared.name.Name.{Name}
use Rattle.hp_script.specs.declared.argument.Argument.{Argument}
use Rattle.hp_script.specs.declared.argument.Argument.TheVariants.{Value, Column}
use Rattle.hp_script.specs.declared.function.Function.{Function}
use Rattle.hp_script.specs.declared.function.Function.TheVariants as function
use Rattle.hp_script.specs.declared.typed.Shape.{Shape}
use Rattle.hp_script.specs.declared.typed.Shape.TheVariants as shape
use Rattle.hp_script.specs.Results.{arithmetic_result, fill_result, vcat_result, row_result, fold_result, of_bools, of_ints, length_result, nrow_result, matrix_result, sort_result, two_values, filter_result, call_result}

abbrev pub only_value : List Argument → Option Shape
only_value (Value a ∷ []) = Some a
only_value _ = None

abbrev pub both_values : List Argument → Option (Shape × Shape)
both_values (Value a ∷ Value b ∷ []) = Some (a, b)
both_values _ = None

abbrev pub result_of_one : Function → Shape → Option Shape
result_of_one (function.Fold kind) = fold_result kind
result_of_one function.Count = of_bools shape.Int
result_of_one function.Length = length_result
result_of_one function.Cumsum = of_ints shape.Ints
result_of_one function.Nrow = nrow_result
result_of_one function.Transpose = matrix_result
result_of_one _ = λ value. None

abbrev pub result_of_two : Function → (dotted : Bool) → Shape → Shape → Option Shape
result_of_two (function.Scalar f) dotted = arithmetic_result dotted
result_of_two function.Fill dotted = fill_result
result_of_two function.Vcat dotted = vcat_result
result_of_two function.Row dotted = row_result
result_of_two _ dotted = λ a b. None

-- the result of a call of a function that gives no frame
abbrev pub plain_result : Function → (dotted : Bool) → List Argument → Option Shape
plain_result function.DataFrame dotted xs = None
plain_result function.ReadCsv dotted xs = None
plain_result function.Filter dotted xs = None
plain_result function.Sort dotted xs = None
plain_result function.Join dotted xs = None
plain_result function.Aggregate dotted xs = None
plain_result f dotted xs = call_result f dotted xs

-- the columns of the first argument and the arguments behind it
abbrev pub frame_first : List Argument → Option (List Name × List Argument)
frame_first (Value (shape.Frame columns) ∷ rest) = Some (columns, rest)
frame_first _ = None

abbrev pub column_first : List Argument → Option (Name × List Argument)
column_first (Column name ∷ rest) = Some (name, rest)
column_first _ = None

-- the result of `sort` or of `filter`
abbrev pub same_columns : (is_sort : Bool) → List Argument → Option Shape
same_columns true xs = sort_result xs
same_columns false xs = two_values filter_result xs
