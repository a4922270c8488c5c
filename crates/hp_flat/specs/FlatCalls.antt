-- The operations of single constructs, by the places of their operands: the arrays and words of parts that were
-- flattened before.
use Rattle.std.specs.Prelude.{ℕ, ◌==◌, pos, Bool, true, false, if◌then◌else◌, List, [], ◌∷◌, ◌++◌, map, bytes_eq, codes, Option, Some, None}
use Rattle.std.specs.List.{position_or_len}
use Rattle.hp_word.specs.declared.elem.Elem.{Elem}
use Rattle.hp_word.specs.declared.elem.Elem.TheVariants.{Number, Input}
use Rattle.hp_word.specs.declared.elem.Elem.TheViews.{Calc as calc_elem}
use Rattle.hp_word.specs.declared.fold.FoldKind.{FoldKind}
use Rattle.hp_word.specs.declared.fold.FoldKind.TheVariants as folds
use Rattle.hp_word.specs.declared.place.Place.{Place}
use Rattle.hp_word.specs.declared.table.Measure.{Measure}
use Rattle.hp_word.specs.declared.table.MeasureKind.TheVariants.{Count}
use Rattle.hp_word.specs.declared.word.CalcOp.TheVariants as calc
use Rattle.hp_script.specs.declared.function.Function.{Function}
use Rattle.hp_script.specs.declared.function.Function.TheVariants as function
use Rattle.hp_script.specs.declared.function.ScalarFunction.{ScalarFunction}
use Rattle.hp_script.specs.declared.tree.BinOp.{BinOp}
use Rattle.hp_script.specs.declared.tree.BinOp.TheVariants as binary_op
use Rattle.hp_script.specs.declared.tree.UnOp.{UnOp}
use Rattle.hp_script.specs.Mirror.{Head, Tree, Args, call, none, plain}
use Rattle.hp_program.specs.Programs.{Prog, stop, plain as step, choose, joined}
use Rattle.hp_air.specs.declared.what.Op.{Op}
use Rattle.hp_air.specs.declared.what.What.{What}
use Rattle.hp_air.specs.declared.what.What.TheVariants as what
use Rattle.hp_air.specs.Unknowns.{Unknown, of_node, balanced_of, Columns, columns_of, shape_at, number_of, at_node, arrays_at, arguments_of, first, second, all}
use Rattle.hp_meaning.specs.ArgumentShapes.{first_plain, two_plain, three_plain, one_range, lambda_and_plain, all_written}
use Rattle.hp_meaning.specs.FrameRules.{Measured}
use Rattle.hp_meaning.specs.ValueOf.{column_name, measures_in}
use Rattle.hp_meaning.specs.WordRules.{calc_of, scalar_calc}
use Rattle.hp_flat.specs.Homes.{Homes, slot_of, slots_of, word_at, word_of}
use Rattle.hp_flat.specs.Elements.{elem_of, reach_of, unary_calc, dotted_elem}

-- ---- short forms

-- one operation, at the place of its construct
abbrev pub code_of : Place → What → Prog Op
code_of at w = step (record { at = at; what = w }) stop

-- what is made where there is something; nothing is made of what a script that fits does not have
abbrev pub where_some : {A : Type 0} → Option A → (A → Prog Op) → Prog Op
where_some (Some a) made = made a
where_some None made = stop

-- what is made of one array, of two arrays, and of the first of some
abbrev pub of_array : List Unknown → (Unknown → Prog Op) → Prog Op
of_array (x ∷ []) made = made x
of_array _ made = stop

abbrev pub of_arrays : List Unknown → List Unknown → (Unknown → Unknown → Prog Op) → Prog Op
of_arrays (x ∷ []) (y ∷ []) made = made x y
of_arrays _ _ made = stop

abbrev pub of_first : List Unknown → (Unknown → Prog Op) → Prog Op
of_first (x ∷ xs) made = made x
of_first [] made = stop

-- a copy, where what is copied is of arrays
unfoldable pub array_copy : Homes → Place → (outs ins : List Unknown) → Prog Op
array_copy h at [] ins = stop
array_copy h at (out ∷ outs) ins = code_of at (what.Copy (slots_of h (out ∷ outs)) (slots_of h ins))

-- a copied word is the greater one of itself and itself
unfoldable pub word_copy : Place → (to from : ℕ) → Prog Op
word_copy at to from = code_of at (what.Calc to calc.Max from from)

-- the slot of the only array of an expression
abbrev pub out_of : Homes → Head → ℕ
out_of h n = slot_of h (of_node n.id 0)

-- the slots of the value of an expression
abbrev pub outs_of : Homes → Head → List ℕ
outs_of h n = slots_of h (at_node h.known n.id)

abbrev pub ins_of : Homes → Tree → List ℕ
ins_of h x = slots_of h (arrays_at h.known x)

-- the columns of the frame that an expression is, and the position of one among them
abbrev pub frame_at : Homes → Tree → Columns
frame_at h x = columns_of (shape_at h.known (number_of x)) (arrays_at h.known x)

unfoldable pub key_in : Columns → List ℕ → ℕ
key_in columns c = position_or_len (λ name. bytes_eq c name.bytes) columns.names

-- ---- operators

unfoldable pub unary_code : Homes → Head → UnOp → (dotted : Bool) → Tree → Prog Op
unary_code h n op false x = code_of n.at (what.Calc (word_at h n.id) (unary_calc op) (word_of h x) (word_of h x))
unary_code h n op true x = code_of n.at (what.Map (out_of h n) (ins_of h x) (calc_elem (unary_calc op) n.at (Input 0) (Number (pos 0))))

-- a dotted operator or call of two operands
unfoldable pub dotted_code : Homes → Head → (elem : Elem) → Tree → Tree → Prog Op
dotted_code h n elem x y = code_of n.at (what.Map (out_of h n) (slots_of h (arrays_at h.known x ++ arrays_at h.known y)) elem)

-- `A * B` of matrices, or `A * transpose(B)`, whose right side is the value of B
unfoldable pub product_code : Homes → Head → Tree → Tree → Prog Op
product_code h n x (call m f false (plain y none)) =
    if bytes_eq f (codes "transpose") then of_arrays (arrays_at h.known x) (arrays_at h.known y) (λ a b. code_of n.at (what.ProductT (out_of h n) (slot_of h a) (slot_of h b)))
    else of_arrays (arrays_at h.known x) (at_node h.known m.id) (λ a b. code_of n.at (what.Product (out_of h n) (slot_of h a) (slot_of h b)))
product_code h n x y = of_arrays (arrays_at h.known x) (arrays_at h.known y) (λ a b. code_of n.at (what.Product (out_of h n) (slot_of h a) (slot_of h b)))

-- `*` is on matrices where the left side is one
abbrev pub multiplied : Homes → Head → Tree → Tree → (words : Prog Op) → Prog Op
multiplied h n x y words = elim (arrays_at h.known x) [ [] ↦ words | (_ ∷ _) ↦ product_code h n x y ]

abbrev pub calculated_code : Homes → Head → BinOp → Tree → Tree → Prog Op
calculated_code h n op x y = code_of n.at (what.Calc (word_at h n.id) (calc_of op) (word_of h x) (word_of h y))

-- `&&` and `||` behind the first side: a branch by its word, in which the second side is made, or the word that the
-- first side decides
unfoldable pub lazy_code : Homes → Head → BinOp → Tree → Tree → (second : Prog Op) → Prog Op
lazy_code h n binary_op.And x y second =
    choose (word_of h x) (joined second (word_copy n.at (word_at h n.id) (word_of h y))) (code_of n.at (what.Const (word_at h n.id) (pos 0))) stop
lazy_code h n op x y second =
    choose (word_of h x) (code_of n.at (what.Const (word_at h n.id) (pos 1))) (joined second (word_copy n.at (word_at h n.id) (word_of h y))) stop

-- an operator behind its first side, with the code of its second one
unfoldable pub binary_code : Homes → Head → BinOp → (dotted : Bool) → Tree → Tree → (second : Prog Op) → Prog Op
binary_code h n op true x y second = joined second (dotted_code h n (dotted_elem h n.at (calc_of op) x y) x y)
binary_code h n binary_op.And false x y second = lazy_code h n binary_op.And x y second
binary_code h n binary_op.Or false x y second = lazy_code h n binary_op.Or x y second
binary_code h n binary_op.Mul false x y second = joined second (multiplied h n x y (calculated_code h n binary_op.Mul x y))
binary_code h n op false x y second = joined second (calculated_code h n op x y)

-- `a[i]`, or `a[k]`, where the index is an array
unfoldable pub index_code : Homes → Head → Tree → Tree → Prog Op
index_code h n x i = of_array (arrays_at h.known x) (λ array. elim (arrays_at h.known i) [
  | [] ↦ code_of n.at (what.At (word_at h n.id) (slot_of h array) (word_of h i))
  | (k ∷ _) ↦ code_of n.at (what.Pick (out_of h n) (slot_of h array) (slot_of h k))
])

-- ---- calls

-- the table of a call: its place among the calls that read
abbrev pub table_of : Homes → (node : ℕ) → ℕ
table_of h node = position_or_len (λ k. k == node) h.reads

-- a measure by the position of its column; a count has none, and 0 stands there
abbrev pub measure_at : Columns → Measured → Measure
measure_at columns m = record { kind = m.kind; column = elim m.kind [ Count ↦ 0 | _ ↦ key_in columns m.of_it ] }

-- `fill`, of two words
abbrev pub fill_code : Homes → Head → Args → Prog Op
fill_code h n xs = where_some (two_plain xs) (λ p. code_of n.at (what.Fill (out_of h n) (word_of h p.0) (word_of h p.1)))

abbrev pub range_code : Homes → Head → Args → Prog Op
range_code h n xs = where_some (one_range xs) (λ p. code_of n.at (what.Range (out_of h n) (word_of h p.0) (word_of h p.1)))

abbrev pub map_code : Homes → Head → Args → Prog Op
map_code h n xs = where_some (lambda_and_plain xs) (λ p. code_of n.at (what.Map (out_of h n) (ins_of h p.2) (elem_of h p.0 p.1)))

-- a stencil reads its array by a balanced copy of its own
abbrev pub stencil_code : Homes → Head → Args → Prog Op
stencil_code h n xs = where_some (lambda_and_plain xs) (λ p. of_array (arrays_at h.known p.2) (λ array.
    code_of n.at (what.Stencil (out_of h n) (slot_of h array) (slot_of h (balanced_of n.id)) (reach_of p.1) (elem_of h p.0 p.1))))

abbrev pub join_code : Homes → Head → Args → Prog Op
join_code h n xs = where_some (three_plain xs) (λ p. where_some (column_name p.2) (λ key.
    code_of n.at (what.Join (outs_of h n) (ins_of h p.0) (key_in (frame_at h p.0) key) (ins_of h p.1) (key_in (frame_at h p.1) key))))

-- a frame and the name of a column, and the arguments behind
abbrev pub keyed : Args → (Tree → List ℕ → Args → Prog Op) → Prog Op
keyed xs made = where_some (first_plain xs) (λ p. where_some (first_plain p.1) (λ q. where_some (column_name q.0) (λ key. made p.0 key q.1)))

abbrev pub group_code : Homes → Head → Args → Prog Op
group_code h n xs = keyed xs (λ x key rest. where_some (measures_in (all_written rest)) (λ measures.
    code_of n.at (what.Group (outs_of h n) (ins_of h x) (key_in (frame_at h x) key) (map (measure_at (frame_at h x)) measures))))

abbrev pub sort_code : Homes → Head → Args → Prog Op
sort_code h n xs = keyed xs (λ x key rest. code_of n.at (what.Sort (outs_of h n) (ins_of h x) (key_in (frame_at h x) key)))

abbrev pub row_code : Homes → Head → Args → Prog Op
row_code h n xs = where_some (two_plain xs) (λ p. of_array (arrays_at h.known p.0) (λ m. code_of n.at (what.Row (out_of h n) (slot_of h m) (word_of h p.1))))

-- `div`, `rem`, `min` and `max`
abbrev pub scalar_code : Homes → Head → ScalarFunction → Args → Prog Op
scalar_code h n f xs = where_some (two_plain xs) (λ p. code_of n.at (what.Calc (word_at h n.id) (scalar_calc f) (word_of h p.0) (word_of h p.1)))

-- the fold of the elements of an array
abbrev pub fold_code : Homes → Head → FoldKind → List (List Unknown) → Prog Op
fold_code h n kind sides = of_array (first sides) (λ array. code_of n.at (what.Reduce (word_at h n.id) kind (slot_of h array) (Input 0)))

-- a call by its arguments and the arrays of those that are values
unfoldable pub call_code : Homes → Head → Function → Args → (sides : List (List Unknown)) → Prog Op
call_code h n (function.Scalar f) xs sides = scalar_code h n f xs
call_code h n (function.Fold kind) xs sides = fold_code h n kind sides
-- a truth value is 0 or 1
call_code h n function.Count xs sides = fold_code h n folds.Sum sides
call_code h n function.Length xs sides = of_first (first sides) (λ array. code_of n.at (what.Length (word_at h n.id) (slot_of h array)))
call_code h n function.Nrow xs sides = of_first (first sides) (λ array. code_of n.at (what.Length (word_at h n.id) (slot_of h array)))
call_code h n function.Fill xs sides = fill_code h n xs
call_code h n function.Collect xs sides = range_code h n xs
call_code h n function.Cumsum xs sides = of_array (first sides) (λ array. code_of n.at (what.Scan (out_of h n) (slot_of h array)))
call_code h n function.Map xs sides = map_code h n xs
call_code h n function.Stencil xs sides = stencil_code h n xs
call_code h n function.Vcat xs sides = of_arrays (first sides) (second sides) (λ a b. code_of n.at (what.Concat (out_of h n) (slot_of h a) (slot_of h b)))
call_code h n function.DataFrame xs sides = code_of n.at (what.Frame (outs_of h n) (slots_of h (all sides)))
call_code h n function.ReadCsv xs sides = code_of n.at (what.Read (outs_of h n) (table_of h n.id))
call_code h n function.Filter xs sides = of_array (second sides) (λ mask. code_of n.at (what.Filter (outs_of h n) (slots_of h (first sides)) (slot_of h mask)))
call_code h n function.Join xs sides = join_code h n xs
call_code h n function.Aggregate xs sides = group_code h n xs
call_code h n function.Sort xs sides = sort_code h n xs
call_code h n function.Stack xs sides = code_of n.at (what.Stack (out_of h n) (slots_of h (all sides)))
call_code h n function.Row xs sides = row_code h n xs
-- the value of `transpose` is none of its own
call_code h n function.Transpose xs sides = stop

-- a dotted call of a scalar function
abbrev pub dotted_call : Homes → Head → Function → Args → Prog Op
dotted_call h n (function.Scalar f) xs = where_some (two_plain xs) (λ p. dotted_code h n (dotted_elem h n.at (scalar_calc f) p.0 p.1) p.0 p.1)
dotted_call h n _ xs = stop

unfoldable pub named_call : Homes → Head → (dotted : Bool) → Option Function → Args → Prog Op
named_call h n true f xs = where_some f (λ f. dotted_call h n f xs)
named_call h n false f xs = where_some f (λ f. call_code h n f xs (arguments_of h.known xs))
