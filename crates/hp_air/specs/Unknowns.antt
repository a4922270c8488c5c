-- The arrays of a script: the unknowns whose distributions are sought, and what each construct does with them.
use Rattle.std.specs.Prelude.{ℕ, ◌+◌, ◌==◌, Bool, true, false, ◌&&◌, if◌then◌else◌, List, [], ◌∷◌, ◌++◌, map, flat_map, length, codes, bytes_eq, position, slice_get, slice_index_or, Option, Some, None}
use Rattle.std.specs.List.{range_with_len}
use Rattle.std.specs.Option.{option_and_then, option_map}
use Rattle.hp_word.specs.declared.fold.FoldKind.TheVariants as folds
use Rattle.hp_word.specs.declared.name.Name.{Name}
use Rattle.hp_word.specs.declared.place.NodeId.{NodeId}
use Rattle.hp_script.specs.declared.function.Function.{Function}
use Rattle.hp_script.specs.declared.function.Function.TheVariants as function
use Rattle.hp_script.specs.declared.tree.BinOp.{BinOp}
use Rattle.hp_script.specs.declared.tree.BinOp.TheVariants.{Mul}
use Rattle.hp_script.specs.declared.typed.Shape.{Shape}
use Rattle.hp_script.specs.declared.typed.Shape.TheVariants as shape
use Rattle.hp_script.specs.declared.typed.Typed.{Typed}
use Rattle.hp_script.specs.declared.typed.Var.{Var}
use Rattle.hp_script.specs.Functions.{function_named}
use Rattle.hp_script.specs.Mirror.{Tree, Args, Block, number, truth, text, variable, column, field, unary, binary, index, call, none, plain, range, lambda, named, done, assign, print, export, choose, loop, block_of}
use Rattle.hp_air.specs.declared.slot.Slot.{Slot}
use Rattle.hp_air.specs.Arrays.{Arrays, Length, Fill, Range, Read, Copy, Map, Reduce, Scan, Stencil, Filter, Join, Group, Concat, Sort, At, Pick, Frame, Stack, Row, Product, ProductT, PrintWord, PrintList, Export}

-- ---- unknowns

-- An array of a script, by the number of its variable or expression and its column; of an array or a matrix the only
-- column is 0.
pub data Unknown : Type 0 where
  of_variable : (variable column : ℕ) → Unknown
  of_node : (node column : ℕ) → Unknown
  -- the balanced copy of the array of this `stencil`
  balanced_of : (node : ℕ) → Unknown
  -- no array of the script
  of_nothing : Unknown

unfoldable pub same_unknown : Unknown → Unknown → Bool
same_unknown (of_variable v c) (of_variable w d) = (v == w) && (c == d)
same_unknown (of_node v c) (of_node w d) = (v == w) && (c == d)
same_unknown (balanced_of v) (balanced_of w) = v == w
same_unknown _ _ = false

-- what a slot stands for
abbrev pub stands_for : Option NodeId → Option ℕ → (column : ℕ) → (balanced : Bool) → Unknown
stands_for (Some node) var c true = balanced_of node.0
stands_for (Some node) var c false = of_node node.0 c
stands_for None (Some var) c balanced = of_variable var c
stands_for None None c balanced = of_nothing

abbrev pub unknown_of : Slot → Unknown
unknown_of slot = stands_for slot.node slot.var slot.column slot.balanced

-- how many arrays a value of a type is
abbrev pub width : Option Shape → ℕ
width (Some shape.Ints) = 1
width (Some shape.Bools) = 1
width (Some shape.Matrix) = 1
width (Some (shape.Frame names)) = length names
width _ = 0

-- ---- what is known of a script's names and expressions

-- the types of its expressions by their numbers, and its variables
pub record Known : Type 0 where
  pub shapes : List (Option Shape)
  pub vars : List Var

abbrev pub known_of : Typed → Known
known_of typed = record { shapes = typed.shapes; vars = typed.vars }

-- the number of an expression
abbrev pub number_of : Tree → ℕ
number_of (number h value) = h.id
number_of (truth h holds) = h.id
number_of (text h bytes) = h.id
number_of (variable h name) = h.id
number_of (column h name) = h.id
number_of (field h name of_it) = h.id
number_of (unary h op dotted x) = h.id
number_of (binary h op dotted x y) = h.id
number_of (index h x i) = h.id
number_of (call h function dotted xs) = h.id

abbrev pub shape_at : Known → ℕ → Option Shape
shape_at g node = slice_index_or g.shapes node None

-- the arrays of an expression's value
abbrev pub at_node : Known → ℕ → List Unknown
at_node g node = map (of_node node) (range_with_len 0 (width (shape_at g node)))

abbrev pub arrays_at : Known → Tree → List Unknown
arrays_at g x = at_node g (number_of x)

-- the arrays of a variable
abbrev pub at_variable : Option ℕ → Option Shape → List Unknown
at_variable (Some v) found = map (of_variable v) (range_with_len 0 (width found))
at_variable None found = []

abbrev pub variable_named : Known → List ℕ → Option ℕ
variable_named g x = position (λ v. bytes_eq x v.name.bytes) g.vars

abbrev pub shape_named : Known → List ℕ → Option Shape
shape_named g x = option_and_then (λ k. option_map (λ v. v.shape) (slice_get g.vars k)) (variable_named g x)

abbrev pub arrays_named : Known → List ℕ → List Unknown
arrays_named g x = at_variable (variable_named g x) (shape_named g x)

-- the arrays of a frame beside the names of its columns
pub record Columns : Type 0 where
  pub names : List Name
  pub arrays : List Unknown

abbrev pub columns_of : Option Shape → List Unknown → Columns
columns_of (Some (shape.Frame names)) arrays = record { names = names; arrays = arrays }
columns_of _ arrays = record { names = []; arrays = [] }

-- the column with this name
abbrev pub column_named : Columns → List ℕ → List Unknown
column_named columns c = elim (position (λ name. bytes_eq c name.bytes) columns.names) [ None ↦ [] | Some k ↦ slice_index_or columns.arrays k of_nothing ∷ [] ]

-- ---- what a construct does

-- a copy, where what is copied is of arrays
abbrev pub copied : (outs ins : List Unknown) → List (Arrays Unknown)
copied [] ins = []
copied (out ∷ outs) ins = Copy (out ∷ outs) ins ∷ []

-- a construct with one array as an operand, and with two
abbrev pub of_one : List Unknown → (Unknown → Arrays Unknown) → List (Arrays Unknown)
of_one (x ∷ []) made = made x ∷ []
of_one _ made = []

abbrev pub of_two : List Unknown → List Unknown → (Unknown → Unknown → Arrays Unknown) → List (Arrays Unknown)
of_two (x ∷ []) (y ∷ []) made = made x y ∷ []
of_two _ _ made = []

-- the arrays of the arguments of a call that are values
abbrev pub arguments_of : Known → Args → List (List Unknown)
arguments_of g none = []
arguments_of g (plain x xs) = arrays_at g x ∷ arguments_of g xs
arguments_of g (range x y xs) = arguments_of g xs
arguments_of g (lambda parameter x xs) = arguments_of g xs
arguments_of g (named name at x xs) = arrays_at g x ∷ arguments_of g xs

-- the first and the second of them
abbrev pub first : List (List Unknown) → List Unknown
first sides = slice_index_or sides 0 []

abbrev pub second : List (List Unknown) → List Unknown
second sides = slice_index_or sides 1 []

abbrev pub all : List (List Unknown) → List Unknown
all sides = flat_map (λ side. side) sides

-- a call, by the arrays of its value and of its arguments
unfoldable pub call_arrays : (node : ℕ) (value : List Unknown) → Function → List (List Unknown) → List (Arrays Unknown)
call_arrays node value function.Map sides = Map (of_node node 0) (first sides) ∷ []
call_arrays node value function.Fill sides = Fill (of_node node 0) ∷ []
call_arrays node value function.Collect sides = Range (of_node node 0) ∷ []
call_arrays node value function.ReadCsv sides = Read value ∷ []
call_arrays node value function.Length sides = map Length (first sides)
call_arrays node value function.Nrow sides = map Length (first sides)
call_arrays node value (function.Fold kind) sides = of_one (first sides) (Reduce kind)
-- a truth value is 0 or 1
call_arrays node value function.Count sides = of_one (first sides) (Reduce folds.Sum)
call_arrays node value function.Cumsum sides = of_one (first sides) (Scan (of_node node 0))
call_arrays node value function.Stencil sides = of_one (first sides) (λ array. Stencil (of_node node 0) array (balanced_of node))
call_arrays node value function.Filter sides = of_one (second sides) (Filter value (first sides))
call_arrays node value function.Join sides = Join value (first sides) (second sides) ∷ []
call_arrays node value function.Aggregate sides = Group value (first sides) ∷ []
call_arrays node value function.Vcat sides = of_two (first sides) (second sides) (Concat (of_node node 0))
call_arrays node value function.Sort sides = Sort value (first sides) ∷ []
call_arrays node value function.DataFrame sides = Frame value (all sides) ∷ []
call_arrays node value function.Stack sides = Stack (of_node node 0) (all sides) ∷ []
call_arrays node value function.Row sides = of_one (first sides) (Row (of_node node 0))
-- a scalar function, and `transpose`, which has no value of its own
call_arrays node value _ sides = []

-- a call of a dotted name is a map over the arrays among its arguments
abbrev pub call_of : (node : ℕ) (value : List Unknown) → (dotted : Bool) → Option Function → List (List Unknown) → List (Arrays Unknown)
call_of node value true f sides = Map (of_node node 0) (all sides) ∷ []
call_of node value false (Some f) sides = call_arrays node value f sides
call_of node value false None sides = []

-- `A * B` of matrices, or `A * transpose(B)`, whose right side is the value of B
abbrev pub product_of : Known → (node : ℕ) → Tree → Tree → List (Arrays Unknown)
product_of g node x (call h function false (plain y none)) =
    if bytes_eq function (codes "transpose") then of_two (arrays_at g x) (arrays_at g y) (ProductT (of_node node 0)) else of_two (arrays_at g x) (at_node g h.id) (Product (of_node node 0))
product_of g node x y = of_two (arrays_at g x) (arrays_at g y) (Product (of_node node 0))

-- a dotted operator is a map over the arrays among its operands; of the others those on matrices have arrays
abbrev pub binary_of : Known → (node : ℕ) → BinOp → (dotted : Bool) → Tree → Tree → List (Arrays Unknown)
binary_of g node op true x y = Map (of_node node 0) (arrays_at g x ++ arrays_at g y) ∷ []
binary_of g node Mul false x y = product_of g node x y
binary_of g node _ false x y = []

-- `a[i]`, or `a[k]`, where the index is an array
abbrev pub index_of : (node : ℕ) → (array index : List Unknown) → List (Arrays Unknown)
index_of node array [] = of_one array At
index_of node array (k ∷ ks) = of_one array (λ x. Pick (of_node node 0) x k)

-- the frame of a filter's first argument
abbrev pub filtered_frame : Known → Args → Columns
filtered_frame g (plain x xs) = columns_of (shape_at g (number_of x)) (arrays_at g x)
filtered_frame g _ = columns_of None []

-- the frame whose columns the arguments behind the first see
abbrev pub frame_around : Known → List ℕ → Args → Columns → Columns
frame_around g function xs around = if bytes_eq function (codes "filter") then filtered_frame g xs else around

-- ---- what an expression and a script do

-- The constructs of an expression with arrays, each after its operands; `around` is the frame that the innermost filter
-- around filters. A lambda has none.
unfoldable mutual
  pub constructs_in : Known → (around : Columns) → Tree → List (Arrays Unknown)
  constructs_in g around (number h value) = []
  constructs_in g around (truth h holds) = []
  constructs_in g around (text h bytes) = []
  constructs_in g around (variable h x) = copied (at_node g h.id) (arrays_named g x)
  constructs_in g around (column h c) = copied (at_node g h.id) (column_named around c)
  constructs_in g around (field h d c) = copied (at_node g h.id) (column_named (columns_of (shape_named g d) (arrays_named g d)) c)
  constructs_in g around (unary h op dotted x) = constructs_in g around x ++ (if dotted then Map (of_node h.id 0) (arrays_at g x) ∷ [] else [])
  constructs_in g around (binary h op dotted x y) = constructs_in g around x ++ constructs_in g around y ++ binary_of g h.id op dotted x y
  constructs_in g around (index h x i) = constructs_in g around x ++ constructs_in g around i ++ index_of h.id (arrays_at g x) (arrays_at g i)
  constructs_in g around (call h function dotted xs) =
      constructs_among g around (frame_around g function xs around) xs ++ call_of h.id (at_node g h.id) dotted (function_named dotted function) (arguments_of g xs)

  -- those of the first argument, and those of the arguments behind it
  pub constructs_among : Known → (around behind : Columns) → Args → List (Arrays Unknown)
  constructs_among g around behind none = []
  constructs_among g around behind (plain x xs) = constructs_in g around x ++ constructs_among g behind behind xs
  constructs_among g around behind (range x y xs) = constructs_in g around x ++ constructs_in g around y ++ constructs_among g behind behind xs
  constructs_among g around behind (lambda parameter x xs) = constructs_among g behind behind xs
  constructs_among g around behind (named name at x xs) = constructs_in g around x ++ constructs_among g behind behind xs

-- outside of all filters
abbrev pub no_frame : Columns
no_frame = record { names = []; arrays = [] }

abbrev pub constructs_at : Known → Tree → List (Arrays Unknown)
constructs_at g x = constructs_in g no_frame x

-- `println` of an array, or of a word
abbrev pub print_of : List Unknown → Arrays Unknown
print_of [] = PrintWord
print_of (x ∷ xs) = PrintList x

unfoldable pub constructs_of : Known → Block → List (Arrays Unknown)
constructs_of g done = []
constructs_of g (assign at x e rest) = constructs_at g e ++ copied (arrays_named g x) (arrays_at g e) ++ constructs_of g rest
constructs_of g (print at e rest) = constructs_at g e ++ print_of (arrays_at g e) ∷ constructs_of g rest
constructs_of g (export at e rest) = constructs_at g e ++ Export (arrays_at g e) ∷ constructs_of g rest
constructs_of g (choose at test body other rest) = constructs_at g test ++ constructs_of g body ++ constructs_of g other ++ constructs_of g rest
constructs_of g (loop at test body rest) = constructs_at g test ++ constructs_of g body ++ constructs_of g rest

-- what a script does with its arrays, in the order of the text
unfoldable pub constructs : Typed → List (Arrays Unknown)
constructs typed = constructs_of (known_of typed) (block_of typed.script.body)

-- ---- the unknowns of a script

-- the arrays of the variables from this number on
unfoldable pub variables_from : ℕ → List Var → List Unknown
variables_from v [] = []
variables_from v (var ∷ vars) = map (of_variable v) (range_with_len 0 (width (Some var.shape))) ++ variables_from (v + 1) vars

-- the arrays of the values of the expressions from this number on
unfoldable pub nodes_from : ℕ → List (Option Shape) → List Unknown
nodes_from node [] = []
nodes_from node (found ∷ shapes) = map (of_node node) (range_with_len 0 (width found)) ++ nodes_from (node + 1) shapes

-- the balanced copy of a stencil
abbrev pub balanced_by : Arrays Unknown → List Unknown
balanced_by (Stencil out array balanced) = balanced ∷ []
balanced_by _ = []

-- each array of a variable, each of the value of an expression, and a balanced copy for each stencil
abbrev pub unknowns_among : Known → List (Arrays Unknown) → List Unknown
unknowns_among g cs = variables_from 0 g.vars ++ nodes_from 0 g.shapes ++ flat_map balanced_by cs

unfoldable pub unknowns : Typed → List Unknown
unknowns typed = unknowns_among (known_of typed) (constructs typed)
