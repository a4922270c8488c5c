-- Worked rows: what scripts are flattened into.
use Rattle.std.specs.Prelude.{◌≡◌, ℕ, pos, negsuc, true, false, List, [], ◌∷◌, map, codes, Option, Some, None, refl}
use Rattle.std.specs.Int.{int_wrap}
use Rattle.hp_word.specs.declared.elem.Elem.TheVariants.{Word, Input, Near}
use Rattle.hp_word.specs.declared.elem.Elem.TheViews.{Calc as calc_elem}
use Rattle.hp_word.specs.declared.fold.FoldKind.TheVariants.{Sum}
use Rattle.hp_word.specs.declared.place.Place.{Place}
use Rattle.hp_word.specs.declared.table.MeasureKind.TheVariants as measure
use Rattle.hp_word.specs.declared.word.CalcOp.TheVariants as calc
use Rattle.hp_script.specs.declared.tree.BinOp.TheVariants.{And, Add, Eq, Gt, Ge, Mul}
use Rattle.hp_script.specs.declared.tree.UnOp.TheVariants.{Neg}
use Rattle.hp_script.specs.declared.typed.Shape.{Shape}
use Rattle.hp_script.specs.declared.typed.Shape.TheVariants as shape
use Rattle.hp_script.specs.declared.typed.Var.{Var}
use Rattle.hp_script.specs.Functions.{function_named, scalar_named, fold_named, array_named, frame_named}
use Rattle.hp_script.specs.Mirror.{Head, head, Tree, Block, number, truth, text, variable, column, field, unary, binary, index, call, none, plain, range, lambda, named, done, assign, print, export}
use Rattle.hp_script.specs.Trees as trees
use Rattle.hp_program.specs.Programs.{Prog, choose, joined, operations}
use Rattle.hp_air.specs.declared.what.Op.{Op}
use Rattle.hp_air.specs.declared.what.What.{What}
use Rattle.hp_air.specs.declared.what.What.TheVariants.{Const, Calc, Fill, Range, Read, Copy, Map, Reduce, Stencil, Filter, Join, Group, Sort, At, Frame, Stack, Row, Product, ProductT, PrintWord, PrintList, Export}
use Rattle.hp_air.specs.Unknowns.{constructs_of, constructs_in, constructs_among, call_arrays, variables_from, nodes_from, same_unknown}
use Rattle.hp_meaning.specs.ArgumentShapes.{one_plain, two_plain, three_plain, one_range, lambda_and_plain}
use Rattle.hp_meaning.specs.ReadCalls.{reads_of, reads_in, reads_among}
use Rattle.hp_meaning.specs.ValueOf.{measure_of, measures_in}
use Rattle.hp_flat.specs.Homes.{homes_in, slot_of, word_at, word_of}
use Rattle.hp_flat.specs.Elements.{elem_of, reach_of, dotted_elem}
use Rattle.hp_flat.specs.FlatCalls.{code_of, array_copy, word_copy, key_in, dotted_code, product_code, lazy_code, binary_code, index_code, call_code, named_call}
use Rattle.hp_flat.specs.Flat.{flat, flat_among, store_code, print_code, export_code, flat_block}

-- ---- short forms

abbrev at : Place
at = record { line = 1; col = 1 }

abbrev h : ℕ → Head
h id = head id at

abbrev int : ℕ → ℕ → Tree
int id n = number (h id) (pos n)

abbrev name_of : ℕ → List ℕ → Tree
name_of id x = variable (h id) x

abbrev var : List ℕ → Shape → Var
var name found = record { name = trees.named name; shape = found }

abbrev frame : List (List ℕ) → Option Shape
frame names = Some (shape.Frame (map trees.named names))

abbrev frame_var : List ℕ → List (List ℕ) → Var
frame_var name names = var name (shape.Frame (map trees.named names))

abbrev ints : Option Shape
ints = Some shape.Ints

abbrev bools : Option Shape
bools = Some shape.Bools

abbrev an_int : Option Shape
an_int = Some shape.Int

abbrev matrix : Option Shape
matrix = Some shape.Matrix

-- what a script with these types is flattened into
abbrev program_of : List (Option Shape) → List Var → Block → Prog Op
program_of shapes vars body = flat_block (homes_in (record { shapes = shapes; vars = vars }) body) body

abbrev operations_of : List (Option Shape) → List Var → Block → List What
operations_of shapes vars body = map (λ op. op.what) (operations (program_of shapes vars body))

abbrev one : ℕ → List ℕ
one k = k ∷ []

abbrev two : ℕ → ℕ → List ℕ
two j k = j ∷ k ∷ []

abbrev three : ℕ → ℕ → ℕ → List ℕ
three i j k = i ∷ j ∷ k ∷ []

-- ---- the sum of an array: `x = fill(3, 10)`, `println(sum(x))`

abbrev sum_script : Block
sum_script =
    assign at (codes "x") (call (h 0) (codes "fill") false (plain (int 1 3) (plain (int 2 10) none)))
    (print at (call (h 3) (codes "sum") false (plain (name_of 4 (codes "x")) none)) done)

sum_row : operations_of (ints ∷ an_int ∷ an_int ∷ an_int ∷ ints ∷ []) (var (codes "x") shape.Ints ∷ []) sum_script
    ≡ Const 2 (pos 3) ∷ Const 3 (pos 10) ∷ Fill 1 2 3 ∷ Copy (one 0) (one 1) ∷ Copy (one 2) (one 0) ∷ Reduce 4 Sum 2 (Input 0) ∷ PrintWord 4 false ∷ []
unfolding flat_block flat flat_among store_code print_code array_copy named_call call_code two_plain one_plain homes_in slot_of word_at word_of constructs_of constructs_in constructs_among call_arrays variables_from nodes_from same_unknown reads_of reads_in reads_among function_named scalar_named fold_named array_named joined operations
sum_row = refl

-- ---- an element: `x = fill(1, 4)`, `y = x .+ 1`, `println(y[2])`

abbrev element_script : Block
element_script =
    assign at (codes "x") (call (h 0) (codes "fill") false (plain (int 1 1) (plain (int 2 4) none)))
    (assign at (codes "y") (binary (h 4) Add true (name_of 3 (codes "x")) (int 5 1))
    (print at (index (h 7) (name_of 6 (codes "y")) (int 8 2)) done))

element_row : operations_of (ints ∷ an_int ∷ an_int ∷ ints ∷ ints ∷ an_int ∷ ints ∷ an_int ∷ an_int ∷ []) (var (codes "x") shape.Ints ∷ var (codes "y") shape.Ints ∷ []) element_script
    ≡ Const 3 (pos 1) ∷ Const 4 (pos 4) ∷ Fill 2 3 4 ∷ Copy (one 0) (one 2)
    ∷ Copy (one 3) (one 0) ∷ Const 7 (pos 1) ∷ Map 4 (one 3) (calc_elem calc.Add at (Input 0) (Word 7)) ∷ Copy (one 1) (one 4)
    ∷ Copy (one 5) (one 1) ∷ Const 10 (pos 2) ∷ At 9 5 10 ∷ PrintWord 9 false ∷ []
unfolding flat_block flat flat_among store_code print_code array_copy binary_code dotted_code dotted_elem index_code named_call call_code two_plain one_plain homes_in slot_of word_at word_of constructs_of constructs_in constructs_among call_arrays variables_from nodes_from same_unknown reads_of reads_in reads_among function_named scalar_named fold_named array_named joined operations
element_row = refl

-- ---- `println(false && div(1, 0) == 0)`: the second side stands in the branch

abbrev lazy_script : Block
lazy_script =
    print at (binary (h 1) And false (truth (h 0) false) (binary (h 5) Eq false (call (h 2) (codes "div") false (plain (int 3 1) (plain (int 4 0) none))) (int 6 0))) done

lazy_row : program_of (Some shape.Bool ∷ Some shape.Bool ∷ an_int ∷ an_int ∷ an_int ∷ Some shape.Bool ∷ an_int ∷ []) [] lazy_script
    ≡ joined (code_of at (Const 0 (pos 0)))
    (choose 0
    (joined (code_of at (Const 3 (pos 1))) (joined (code_of at (Const 4 (pos 0))) (joined (code_of at (Calc 2 calc.Div 3 4)) (joined (code_of at (Const 6 (pos 0))) (joined (code_of at (Calc 5 calc.Eq 2 6)) (code_of at (Calc 1 calc.Max 5 5)))))))
    (code_of at (Const 1 (pos 0)))
    (code_of at (PrintWord 1 true)))
unfolding flat_block flat flat_among print_code word_copy binary_code lazy_code named_call call_code two_plain one_plain homes_in word_at word_of constructs_of constructs_in constructs_among call_arrays variables_from nodes_from reads_of reads_in reads_among function_named scalar_named joined
lazy_row = refl

-- ---- a filter and a stencil: `f = DataFrame(v = collect(1:8))`, `g = filter(f, :v .> 4)`,
-- `s = stencil(x -> x[-1] + x[0] + x[1], g.v)`, `println(s)`

abbrev v : List ℕ
v = codes "v"

abbrev filter_script : Block
filter_script =
    assign at (codes "f") (call (h 0) (codes "DataFrame") false (named v at (call (h 1) (codes "collect") false (range (int 2 1) (int 3 8) none)) none))
    (assign at (codes "g") (call (h 4) (codes "filter") false (plain (name_of 5 (codes "f")) (plain (binary (h 7) Gt true (column (h 6) v) (int 8 4)) none)))
    (assign at (codes "s") (call (h 9) (codes "stencil") false (lambda (codes "x")
    (binary (h 18) Add false
    (binary (h 14) Add false (index (h 11) (name_of 10 (codes "x")) (unary (h 12) Neg false (int 13 1))) (index (h 16) (name_of 15 (codes "x")) (int 17 0)))
    (index (h 20) (name_of 19 (codes "x")) (int 21 1)))
    (plain (field (h 22) (codes "g") v) none)))
    (print at (name_of 23 (codes "s")) done)))

abbrev filter_types : List (Option Shape)
filter_types =
    frame (v ∷ []) ∷ ints ∷ an_int ∷ an_int ∷ frame (v ∷ []) ∷ frame (v ∷ []) ∷ ints ∷ bools ∷ an_int ∷ ints
    ∷ None ∷ an_int ∷ an_int ∷ an_int ∷ an_int ∷ None ∷ an_int ∷ an_int ∷ an_int ∷ None ∷ an_int ∷ an_int ∷ ints ∷ ints ∷ []

filter_row : operations_of filter_types (frame_var (codes "f") (v ∷ []) ∷ frame_var (codes "g") (v ∷ []) ∷ var (codes "s") shape.Ints ∷ []) filter_script
    ≡ Const 5 (pos 1) ∷ Const 6 (pos 8) ∷ Range 4 5 6 ∷ Frame (one 3) (one 4) ∷ Copy (one 0) (one 3)
    ∷ Copy (one 6) (one 0) ∷ Copy (one 7) (one 6) ∷ Const 11 (pos 4) ∷ Map 8 (one 7) (calc_elem calc.Gt at (Input 0) (Word 11)) ∷ Filter (one 5) (one 6) 8 ∷ Copy (one 1) (one 5)
    ∷ Copy (one 10) (one 1) ∷ Stencil 9 10 12 1 (calc_elem calc.Add at (calc_elem calc.Add at (Near 0 (negsuc 0)) (Near 0 (pos 0))) (Near 0 (pos 1))) ∷ Copy (one 2) (one 9)
    ∷ Copy (one 11) (one 2) ∷ PrintList 11 false ∷ []
unfolding flat_block flat flat_among store_code print_code array_copy binary_code dotted_code dotted_elem named_call call_code one_range lambda_and_plain one_plain elem_of reach_of homes_in slot_of word_at word_of constructs_of constructs_in constructs_among call_arrays variables_from nodes_from same_unknown reads_of reads_in reads_among function_named scalar_named fold_named array_named frame_named joined operations int_wrap
filter_row = refl

-- ---- a join: `l = read_csv("l.csv", :id, :a)`, `r = read_csv("r.csv", :id, :b)`, `j = join(l, r, :id)`, `write_csv(sort(j, :id))`

abbrev id : List ℕ
id = codes "id"

abbrev join_script : Block
join_script =
    assign at (codes "l") (call (h 0) (codes "read_csv") false (plain (text (h 1) (codes "l.csv")) (plain (column (h 2) id) (plain (column (h 3) (codes "a")) none))))
    (assign at (codes "r") (call (h 4) (codes "read_csv") false (plain (text (h 5) (codes "r.csv")) (plain (column (h 6) id) (plain (column (h 7) (codes "b")) none))))
    (assign at (codes "j") (call (h 8) (codes "join") false (plain (name_of 9 (codes "l")) (plain (name_of 10 (codes "r")) (plain (column (h 11) id) none))))
    (export at (call (h 12) (codes "sort") false (plain (name_of 13 (codes "j")) (plain (column (h 14) id) none))) done)))

abbrev left_names : List (List ℕ)
left_names = id ∷ codes "a" ∷ []

abbrev right_names : List (List ℕ)
right_names = id ∷ codes "b" ∷ []

abbrev joined_names : List (List ℕ)
joined_names = id ∷ codes "a" ∷ codes "b" ∷ []

join_row : operations_of
    (frame left_names ∷ None ∷ None ∷ None ∷ frame right_names ∷ None ∷ None ∷ None ∷ frame joined_names ∷ frame left_names ∷ frame right_names ∷ None ∷ frame joined_names ∷ frame joined_names ∷ None ∷ [])
    (frame_var (codes "l") left_names ∷ frame_var (codes "r") right_names ∷ frame_var (codes "j") joined_names ∷ [])
    join_script
    ≡ Read (two 7 8) 0 ∷ Copy (two 0 1) (two 7 8) ∷ Read (two 9 10) 1 ∷ Copy (two 2 3) (two 9 10)
    ∷ Copy (two 14 15) (two 0 1) ∷ Copy (two 16 17) (two 2 3) ∷ Join (three 11 12 13) (two 14 15) 0 (two 16 17) 0 ∷ Copy (three 4 5 6) (three 11 12 13)
    ∷ Copy (three 21 22 23) (three 4 5 6) ∷ Sort (three 18 19 20) (three 21 22 23) 0 ∷ Export (three 18 19 20) (map trees.named joined_names) ∷ []
unfolding flat_block flat flat_among store_code export_code array_copy key_in named_call call_code three_plain two_plain one_plain homes_in slot_of word_at word_of constructs_of constructs_in constructs_among call_arrays variables_from nodes_from same_unknown reads_of reads_in reads_among function_named scalar_named fold_named array_named frame_named joined operations
join_row = refl

-- ---- a report: `s = read_csv("sales.csv", :store, :amount)`, `d = sort(read_csv("stores.csv", :store, :region), :store)`,
-- `big = filter(s, :amount .>= 50)`, `j = join(big, d, :store)`,
-- `a = aggregate(j, :region, total = sum(:amount), n = count())`, `write_csv(sort(a, :region))`

abbrev store : List ℕ
store = codes "store"

abbrev amount : List ℕ
amount = codes "amount"

abbrev region : List ℕ
region = codes "region"

abbrev report_script : Block
report_script =
    assign at (codes "s") (call (h 0) (codes "read_csv") false (plain (text (h 1) (codes "sales.csv")) (plain (column (h 2) store) (plain (column (h 3) amount) none))))
    (assign at (codes "d") (call (h 4) (codes "sort") false
    (plain (call (h 5) (codes "read_csv") false (plain (text (h 6) (codes "stores.csv")) (plain (column (h 7) store) (plain (column (h 8) region) none)))) (plain (column (h 9) store) none)))
    (assign at (codes "big") (call (h 10) (codes "filter") false (plain (name_of 11 (codes "s")) (plain (binary (h 13) Ge true (column (h 12) amount) (int 14 50)) none)))
    (assign at (codes "j") (call (h 15) (codes "join") false (plain (name_of 16 (codes "big")) (plain (name_of 17 (codes "d")) (plain (column (h 18) store) none))))
    (assign at (codes "a") (call (h 19) (codes "aggregate") false (plain (name_of 20 (codes "j")) (plain (column (h 21) region)
    (named (codes "total") at (call (h 22) (codes "sum") false (plain (column (h 23) amount) none)) (named (codes "n") at (call (h 24) (codes "count") false none) none)))))
    (export at (call (h 25) (codes "sort") false (plain (name_of 26 (codes "a")) (plain (column (h 27) region) none))) done)))))

abbrev sales_names : List (List ℕ)
sales_names = store ∷ amount ∷ []

abbrev stores_names : List (List ℕ)
stores_names = store ∷ region ∷ []

abbrev sold_names : List (List ℕ)
sold_names = store ∷ amount ∷ region ∷ []

abbrev total_names : List (List ℕ)
total_names = region ∷ codes "total" ∷ codes "n" ∷ []

abbrev report_types : List (Option Shape)
report_types =
    frame sales_names ∷ None ∷ None ∷ None ∷ frame stores_names ∷ frame stores_names ∷ None ∷ None ∷ None ∷ None
    ∷ frame sales_names ∷ frame sales_names ∷ ints ∷ bools ∷ an_int ∷ frame sold_names ∷ frame sales_names ∷ frame stores_names ∷ None
    ∷ frame total_names ∷ frame sold_names ∷ None ∷ None ∷ None ∷ None ∷ frame total_names ∷ frame total_names ∷ None ∷ []

abbrev report_vars : List Var
report_vars =
    frame_var (codes "s") sales_names ∷ frame_var (codes "d") stores_names ∷ frame_var (codes "big") sales_names ∷ frame_var (codes "j") sold_names
    ∷ frame_var (codes "a") total_names ∷ []

report_row : operations_of report_types report_vars report_script
    ≡ Read (two 12 13) 0 ∷ Copy (two 0 1) (two 12 13)
    ∷ Read (two 16 17) 1 ∷ Sort (two 14 15) (two 16 17) 0 ∷ Copy (two 2 3) (two 14 15)
    ∷ Copy (two 20 21) (two 0 1) ∷ Copy (one 22) (one 21) ∷ Const 19 (pos 50) ∷ Map 23 (one 22) (calc_elem calc.Ge at (Input 0) (Word 19)) ∷ Filter (two 18 19) (two 20 21) 23
    ∷ Copy (two 4 5) (two 18 19)
    ∷ Copy (two 27 28) (two 4 5) ∷ Copy (two 29 30) (two 2 3) ∷ Join (three 24 25 26) (two 27 28) 0 (two 29 30) 0 ∷ Copy (three 6 7 8) (three 24 25 26)
    ∷ Copy (three 34 35 36) (three 6 7 8)
    ∷ Group (three 31 32 33) (three 34 35 36) 2 (record { kind = measure.Sum; column = 1 } ∷ record { kind = measure.Count; column = 0 } ∷ [])
    ∷ Copy (three 9 10 11) (three 31 32 33)
    ∷ Copy (three 40 41 42) (three 9 10 11) ∷ Sort (three 37 38 39) (three 40 41 42) 0 ∷ Export (three 37 38 39) (map trees.named total_names) ∷ []
unfolding flat_block flat flat_among store_code export_code array_copy key_in binary_code dotted_code dotted_elem named_call call_code three_plain two_plain one_plain measure_of measures_in homes_in slot_of word_at word_of constructs_of constructs_in constructs_among call_arrays variables_from nodes_from same_unknown reads_of reads_in reads_among function_named scalar_named fold_named array_named frame_named joined operations
report_row = refl

-- ---- matrices: `a = collect(1:3)`, `b = fill(2, 3)`, `m = stack(a, b)`, `g = m * transpose(m)`, `println(row(g, 1))`,
-- `h = g * m`, `println(row(h, 2))`

abbrev matrix_script : Block
matrix_script =
    assign at (codes "a") (call (h 0) (codes "collect") false (range (int 1 1) (int 2 3) none))
    (assign at (codes "b") (call (h 3) (codes "fill") false (plain (int 4 2) (plain (int 5 3) none)))
    (assign at (codes "m") (call (h 6) (codes "stack") false (plain (name_of 7 (codes "a")) (plain (name_of 8 (codes "b")) none)))
    (assign at (codes "g") (binary (h 10) Mul false (name_of 9 (codes "m")) (call (h 11) (codes "transpose") false (plain (name_of 12 (codes "m")) none)))
    (print at (call (h 13) (codes "row") false (plain (name_of 14 (codes "g")) (plain (int 15 1) none)))
    (assign at (codes "h") (binary (h 17) Mul false (name_of 16 (codes "g")) (name_of 18 (codes "m")))
    (print at (call (h 19) (codes "row") false (plain (name_of 20 (codes "h")) (plain (int 21 2) none))) done))))))

abbrev matrix_types : List (Option Shape)
matrix_types =
    ints ∷ an_int ∷ an_int ∷ ints ∷ an_int ∷ an_int ∷ matrix ∷ ints ∷ ints ∷ matrix ∷ matrix ∷ None ∷ matrix ∷ ints ∷ matrix ∷ an_int ∷ matrix ∷ matrix ∷ matrix
    ∷ ints ∷ matrix ∷ an_int ∷ []

abbrev matrix_vars : List Var
matrix_vars =
    var (codes "a") shape.Ints ∷ var (codes "b") shape.Ints ∷ var (codes "m") shape.Matrix ∷ var (codes "g") shape.Matrix ∷ var (codes "h") shape.Matrix ∷ []

matrix_row : operations_of matrix_types matrix_vars matrix_script
    ≡ Const 6 (pos 1) ∷ Const 7 (pos 3) ∷ Range 5 6 7 ∷ Copy (one 0) (one 5)
    ∷ Const 9 (pos 2) ∷ Const 10 (pos 3) ∷ Fill 6 9 10 ∷ Copy (one 1) (one 6)
    ∷ Copy (one 8) (one 0) ∷ Copy (one 9) (one 1) ∷ Stack 7 (two 8 9) ∷ Copy (one 2) (one 7)
    ∷ Copy (one 10) (one 2) ∷ Copy (one 12) (one 2) ∷ ProductT 11 10 12 ∷ Copy (one 3) (one 11)
    ∷ Copy (one 14) (one 3) ∷ Const 20 (pos 1) ∷ Row 13 14 20 ∷ PrintList 13 false
    ∷ Copy (one 15) (one 3) ∷ Copy (one 17) (one 2) ∷ Product 16 15 17 ∷ Copy (one 4) (one 16)
    ∷ Copy (one 19) (one 4) ∷ Const 26 (pos 2) ∷ Row 18 19 26 ∷ PrintList 18 false ∷ []
unfolding flat_block flat flat_among store_code print_code array_copy product_code binary_code named_call call_code one_range two_plain one_plain homes_in slot_of word_at word_of constructs_of constructs_in constructs_among call_arrays variables_from nodes_from same_unknown reads_of reads_in reads_among function_named scalar_named fold_named array_named joined operations
matrix_row = refl
