-- Which construct of the language an expression or a statement is.
use Rattle.std.specs.Prelude.{ℕ, Bool, if◌then◌else◌, List, slice_index_or, Option, Some, None}
use Rattle.hp_script.specs.declared.function.Function.{Function}
use Rattle.hp_script.specs.declared.function.Function.TheVariants as function
use Rattle.hp_script.specs.declared.tree.BinOp.{BinOp}
use Rattle.hp_script.specs.declared.tree.BinOp.TheVariants.{Or, And, Add, Sub, BitOr, Mul, BitAnd}
use Rattle.hp_script.specs.declared.tree.UnOp.{UnOp}
use Rattle.hp_script.specs.declared.tree.UnOp.TheVariants.{Neg, Not}
use Rattle.hp_script.specs.declared.typed.Shape.{Shape}
use Rattle.hp_script.specs.declared.typed.Shape.TheVariants as shape
use Rattle.hp_script.specs.Functions.{function_named}
use Rattle.hp_script.specs.Mirror.{Tree, column, field, unary, binary, index, call}
use Rattle.hp_air.specs.Unknowns.{number_of}
use Rattle.hp_built.specs.declared.construct.Construct.{Construct}
use Rattle.hp_built.specs.declared.construct.Construct.TheVariants as construct

-- ---- the types of expressions

-- the type of the expression with this number, where it has a value
abbrev pub shape_at : List (Option Shape) → ℕ → Option Shape
shape_at shapes node = slice_index_or shapes node None

-- ---- operators

abbrev pub dotted_or : (dotted : Bool) → (with_dot without : Construct) → Construct
dotted_or dotted with_dot without = if dotted then with_dot else without

abbrev pub unary_construct : UnOp → (dotted : Bool) → Construct
unary_construct Neg dotted = construct.Arithmetic
unary_construct Not dotted = dotted_or dotted construct.DottedLogic construct.Negation

-- but for the products of matrices
abbrev pub binary_construct : BinOp → (dotted : Bool) → Construct
binary_construct Or dotted = construct.Lazy
binary_construct And dotted = construct.Lazy
binary_construct BitOr dotted = construct.DottedLogic
binary_construct BitAnd dotted = construct.DottedLogic
binary_construct Add dotted = dotted_or dotted construct.DottedArithmetic construct.Arithmetic
binary_construct Sub dotted = dotted_or dotted construct.DottedArithmetic construct.Arithmetic
binary_construct Mul dotted = dotted_or dotted construct.DottedArithmetic construct.Arithmetic
binary_construct _ dotted = dotted_or dotted construct.DottedComparison construct.Comparison

-- `A * B`, or `A * transpose(B)`: a call of `transpose` has no value of its own
abbrev pub product_construct : (right : Option Shape) → Construct
product_construct (Some found) = construct.Product
product_construct None = construct.TransposedProduct

-- an operator with two operands by the type of its value
abbrev pub operator_construct : BinOp → (dotted : Bool) → (right : Option Shape) → Shape → Construct
operator_construct op dotted right shape.Matrix = product_construct right
operator_construct op dotted right _ = binary_construct op dotted

-- `p[d]` of a stencil, where the parameter has no value, is no construct
abbrev pub index_construct : (indexed by : Option Shape) → Option Construct
index_construct None at = None
index_construct (Some found) (Some shape.Ints) = Some construct.Elements
index_construct (Some found) _ = Some construct.Element

-- ---- calls

abbrev pub call_construct : Option Function → (dotted : Bool) → Option Construct
call_construct (Some (function.Scalar f)) dotted = Some (dotted_or dotted construct.DottedArithmetic construct.ScalarCall)
call_construct (Some (function.Fold kind)) dotted = Some construct.Reduction
call_construct (Some function.Count) dotted = Some construct.Count
call_construct (Some function.Length) dotted = Some construct.Length
call_construct (Some function.Fill) dotted = Some construct.Fill
call_construct (Some function.Collect) dotted = Some construct.Collect
call_construct (Some function.Cumsum) dotted = Some construct.Cumsum
call_construct (Some function.Map) dotted = Some construct.Map
call_construct (Some function.Stencil) dotted = Some construct.Stencil
call_construct (Some function.Vcat) dotted = Some construct.Vcat
call_construct (Some function.DataFrame) dotted = Some construct.DataFrame
call_construct (Some function.ReadCsv) dotted = Some construct.ReadCsv
call_construct (Some function.Nrow) dotted = Some construct.Nrow
call_construct (Some function.Filter) dotted = Some construct.Filter
call_construct (Some function.Join) dotted = Some construct.Join
call_construct (Some function.Aggregate) dotted = Some construct.Aggregate
call_construct (Some function.Sort) dotted = Some construct.Sort
call_construct (Some function.Stack) dotted = Some construct.Stack
call_construct (Some function.Row) dotted = Some construct.Row
call_construct _ dotted = None

-- ---- expressions

-- the construct of an expression that has a value of this type
abbrev pub valued_construct : List (Option Shape) → Shape → Tree → Option Construct
valued_construct shapes found (column h name) = Some construct.Column
valued_construct shapes found (field h name of_it) = Some construct.Field
valued_construct shapes found (unary h op dotted x) = Some (unary_construct op dotted)
valued_construct shapes found (binary h op dotted x y) = Some (operator_construct op dotted (shape_at shapes (number_of y)) found)
valued_construct shapes found (index h x i) = index_construct (shape_at shapes (number_of x)) (shape_at shapes (number_of i))
valued_construct shapes found (call h name dotted xs) = call_construct (function_named dotted name) dotted
valued_construct shapes found _ = None

abbrev pub of_valued : List (Option Shape) → Option Shape → Tree → Option Construct
of_valued shapes (Some found) x = valued_construct shapes found x
of_valued shapes None x = None

-- the construct that an expression is, by the types of all expressions; what has no value is none
unfoldable pub construct_of : List (Option Shape) → Tree → Option Construct
construct_of shapes x = of_valued shapes (shape_at shapes (number_of x)) x

-- ---- statements, by the types of their values

abbrev pub assigned_construct : Option Shape → Option Construct
assigned_construct (Some shape.Int) = Some construct.AssignWord
assigned_construct (Some shape.Bool) = Some construct.AssignWord
assigned_construct (Some shape.Ints) = Some construct.AssignArray
assigned_construct (Some shape.Bools) = Some construct.AssignArray
assigned_construct (Some shape.Matrix) = Some construct.AssignMatrix
assigned_construct (Some (shape.Frame columns)) = Some construct.AssignFrame
assigned_construct None = None

abbrev pub printed_construct : Option Shape → Option Construct
printed_construct (Some shape.Int) = Some construct.PrintWord
printed_construct (Some shape.Bool) = Some construct.PrintWord
printed_construct (Some shape.Ints) = Some construct.PrintArray
printed_construct (Some shape.Bools) = Some construct.PrintArray
printed_construct _ = None
