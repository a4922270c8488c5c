-- The steps that are made, as a program, and single constructs by the slots of their operands.
use Rattle.std.specs.Prelude.{ℕ, Bool, true, false, not, ◌&&◌, if◌then◌else◌, List, [], ◌∷◌, map, bytes_eq, codes, slice_index_or, Option, Some, None}
use Rattle.std.specs.List.{range_with_len}
use Rattle.hp_word.specs.declared.elem.Elem.{Elem}
use Rattle.hp_word.specs.declared.elem.Elem.TheVariants.{Input}
use Rattle.hp_word.specs.declared.fold.FoldKind.{FoldKind}
use Rattle.hp_word.specs.declared.place.NodeId.{NodeId}
use Rattle.hp_word.specs.declared.place.Place.{Place}
use Rattle.hp_word.specs.declared.table.MeasureKind.{MeasureKind}
use Rattle.hp_word.specs.declared.table.MeasureKind.TheVariants.{Count}
use Rattle.hp_script.specs.declared.tree.BinOp.{BinOp}
use Rattle.hp_script.specs.declared.tree.BinOp.TheVariants as binary_op
use Rattle.hp_script.specs.Mirror.{Head, head, Tree, Args, call}
use Rattle.hp_program.specs.Programs.{Prog, stop}
use Rattle.hp_air.specs.declared.what.Op.{Op}
use Rattle.hp_air.specs.declared.what.What.{What}
use Rattle.hp_air.specs.declared.what.What.TheVariants as what
use Rattle.hp_air.specs.Nodes.{program_of}
use Rattle.hp_air.specs.Unknowns.{Unknown, Known, Columns, columns_of, shape_at, at_node, no_frame, arrays_at, balanced_of, first, second, all}
use Rattle.hp_meaning.specs.ArgumentShapes.{one_plain, two_plain, lambda_and_plain}
use Rattle.hp_meaning.specs.WordRules.{calc_of}
use Rattle.hp_flat.specs.Homes.{Homes, slot_of, slots_of, word_at, word_of}
use Rattle.hp_flat.specs.Elements.{operand_elem, dotted_elem, elem_of, reach_of}
use Rattle.hp_flat.specs.Flat.{holds_truths}
use Rattle.hp_flat.specs.FlatCalls.{code_of, where_some, ins_of, of_first, of_array, of_arrays, out_of, outs_of, table_of, key_in, dotted_code, multiplied, calculated_code}
use Rattle.hp_normal.specs.declared.homes.Site.{Site}
use Rattle.hp_normal.specs.declared.spans.Span.{Span}
use Rattle.hp_normal.specs.declared.steps.Steps.{Steps}

abbrev pub program_in : Steps → Prog Op
program_in steps = program_of steps.list.items

-- the operation that a construct is, where it is one
abbrev pub code_in : Place → Option What → Prog Op
code_in at None = stop
code_in at (Some w) = code_of at w

-- the number and the place of an expression
abbrev pub head_in : Site → Head
head_in site = head site.id.0 site.at

-- ---- slots

-- slots side by side
abbrev pub slots_from : Span → List ℕ
slots_from span = range_with_len span.first span.count

-- the only one of some slots
abbrev pub only_of : List ℕ → Option ℕ
only_of (k ∷ []) = Some k
only_of _ = None

-- the first of some slots
abbrev pub first_of : List ℕ → Option ℕ
first_of (k ∷ ks) = Some k
first_of [] = None

-- the slot at a place of some, where there is such a place
abbrev pub slots_there : Option ℕ → List ℕ → List ℕ
slots_there None slots = []
slots_there (Some k) slots = slice_index_or slots k 0 ∷ []

-- a copy, where what is copied is of arrays
abbrev pub copy_of : (outs ins : List ℕ) → Option What
copy_of [] ins = None
copy_of (k ∷ ks) ins = Some (what.Copy (k ∷ ks) ins)

-- ---- operands

-- the arrays of the values of expressions, by their numbers
abbrev pub sides_at : Known → List ℕ → List (List Unknown)
sides_at g nodes = map (at_node g) nodes

-- the frame that is the value of an expression, or none
abbrev pub frame_at_node : Known → Option NodeId → Columns
frame_at_node g None = no_frame
frame_at_node g (Some id) = columns_of (shape_at g id.0) (at_node g id.0)

-- ---- operators

-- the second side is made in a branch
abbrev pub is_lazy : BinOp → (dotted : Bool) → Bool
is_lazy op true = false
is_lazy binary_op.And false = true
is_lazy binary_op.Or false = true
is_lazy op false = false

-- the operation of an operator behind both its sides
unfoldable pub eager_code : Homes → Head → BinOp → (dotted : Bool) → Tree → Tree → Prog Op
eager_code h n op true x y = dotted_code h n (dotted_elem h n.at (calc_of op) x y) x y
eager_code h n binary_op.Mul false x y = multiplied h n x y (calculated_code h n binary_op.Mul x y)
eager_code h n op false x y = calculated_code h n op x y

abbrev pub is_transpose : (dotted : Bool) → List ℕ → Bool
is_transpose dotted function = not dotted && bytes_eq function (codes "transpose")

-- `A * transpose(B)`: what is transposed
abbrev pub flipped : Tree → Option Tree
flipped (call h function dotted xs) = if is_transpose dotted function then one_plain xs else None
flipped _ = None

-- ---- what is made of the slots of operands

-- of the only slot of an operand, of those of two, and of the first
unfoldable pub on_array : Homes → List Unknown → (ℕ → Prog Op) → Prog Op
on_array h us made = of_array us (λ u. made (slot_of h u))

unfoldable pub on_arrays : Homes → List Unknown → List Unknown → (ℕ → ℕ → Prog Op) → Prog Op
on_arrays h us vs made = of_arrays us vs (λ u v. made (slot_of h u) (slot_of h v))

unfoldable pub on_first : Homes → List Unknown → (ℕ → Prog Op) → Prog Op
on_first h us made = of_first us (λ u. made (slot_of h u))

-- `A * B` of matrices, and `A * transpose(B)`, of A and B
abbrev pub product_plain : Homes → Head → (a b : Tree) → Prog Op
product_plain h n a b = on_arrays h (arrays_at h.known a) (arrays_at h.known b) (λ left right. code_of n.at (what.Product (out_of h n) left right))

abbrev pub product_flipped : Homes → Head → (a b : Tree) → Prog Op
product_flipped h n a b = on_arrays h (arrays_at h.known a) (arrays_at h.known b) (λ left right. code_of n.at (what.ProductT (out_of h n) left right))

-- an operand of a dotted construct
unfoldable pub operand_at : Homes → (inputs : ℕ) → Tree → Elem
operand_at h inputs x = operand_elem h inputs x

-- an index behind its array, by the slots of the index
abbrev pub index_by : Homes → Head → (array : ℕ) → Tree → Prog Op
index_by h n array i = elim (first_of (ins_of h i)) [
  | None ↦ code_of n.at (what.At (word_at h n.id) array (word_of h i))
  | Some k ↦ code_of n.at (what.Pick (out_of h n) array k)
]

abbrev pub print_by : Homes → Place → Tree → Prog Op
print_by h at e = elim (first_of (ins_of h e)) [ None ↦ code_of at (what.PrintWord (word_of h e) (holds_truths h e)) | Some k ↦ code_of at (what.PrintList k (holds_truths h e)) ]

-- ---- calls, by the arrays of their arguments

abbrev pub folded_code : Homes → Head → FoldKind → List (List Unknown) → Prog Op
folded_code h n kind sides = on_array h (first sides) (λ a. code_of n.at (what.Reduce (word_at h n.id) kind a (Input 0)))

abbrev pub length_code : Homes → Head → List (List Unknown) → Prog Op
length_code h n sides = on_first h (first sides) (λ a. code_of n.at (what.Length (word_at h n.id) a))

abbrev pub scan_code : Homes → Head → List (List Unknown) → Prog Op
scan_code h n sides = on_array h (first sides) (λ a. code_of n.at (what.Scan (out_of h n) a))

abbrev pub stencilled_code : Homes → Head → Args → Prog Op
stencilled_code h n xs = where_some (lambda_and_plain xs) (λ p. on_array h (arrays_at h.known p.2) (λ a.
    code_of n.at (what.Stencil (out_of h n) a (slot_of h (balanced_of n.id)) (reach_of p.1) (elem_of h p.0 p.1))))

abbrev pub matrix_row_code : Homes → Head → Args → Prog Op
matrix_row_code h n xs = where_some (two_plain xs) (λ p. on_array h (arrays_at h.known p.0) (λ m. code_of n.at (what.Row (out_of h n) m (word_of h p.1))))

abbrev pub concat_code : Homes → Head → List (List Unknown) → Prog Op
concat_code h n sides = on_arrays h (first sides) (second sides) (λ a b. code_of n.at (what.Concat (out_of h n) a b))

abbrev pub frame_code : Homes → Head → List (List Unknown) → Prog Op
frame_code h n sides = code_of n.at (what.Frame (outs_of h n) (slots_of h (all sides)))

abbrev pub stack_code : Homes → Head → List (List Unknown) → Prog Op
stack_code h n sides = code_of n.at (what.Stack (out_of h n) (slots_of h (all sides)))

abbrev pub read_code : Homes → Head → Prog Op
read_code h n = code_of n.at (what.Read (outs_of h n) (table_of h n.id))

abbrev pub filter_code : Homes → Head → List (List Unknown) → Prog Op
filter_code h n sides = on_array h (second sides) (λ mask. code_of n.at (what.Filter (outs_of h n) (slots_of h (first sides)) mask))

-- the position of the column of a measure
abbrev pub column_for : Columns → MeasureKind → List ℕ → ℕ
column_for columns Count of_it = 0
column_for columns _ of_it = key_in columns of_it
