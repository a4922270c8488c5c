-- Worked rows: what one operation of each variant does, and what a short program comes to.
use Rattle.std.specs.Prelude.{◌≡◌, ℕ, ℤ, pos, negsuc, true, false, List, [], ◌∷◌, codes, slice_index_or, Result, Ok, Err, refl}
use Rattle.std.specs.Fmt.{digits}
use Rattle.std.specs.Int.{int_wrap}
use Rattle.hp_word.specs.declared.elem.Elem.{Elem}
use Rattle.hp_word.specs.declared.elem.Elem.TheVariants.{Input, Near, Number}
use Rattle.hp_word.specs.declared.elem.Elem.TheViews.{Calc}
use Rattle.hp_word.specs.declared.elem.Elem.TheBlock as block
use Rattle.hp_word.specs.declared.fold.FoldKind.TheVariants.{Sum, Min}
use Rattle.hp_word.specs.declared.place.Place.{Place}
use Rattle.hp_word.specs.declared.place.Trap.{Trap}
use Rattle.hp_word.specs.declared.place.TrapKind.TheVariants.{Divide, Empty, Mismatch}
use Rattle.hp_word.specs.declared.table.MeasureKind.TheVariants as measure
use Rattle.hp_word.specs.declared.table.Table.{Table}
use Rattle.hp_word.specs.declared.word.CalcOp.TheVariants.{Add, Div}
use Rattle.hp_word.specs.Elem as elems
use Rattle.hp_word.specs.Lengths.{trap}
use Rattle.hp_word.specs.ListRules.{filled, range_of, range_count, span, appended, folded_list, sums_after, element_at, elements_at}
use Rattle.hp_word.specs.LoopRules.{all_ok}
use Rattle.hp_word.specs.MatrixRules.{matrix, stack, transposed, rows_of, matrix_row, product, products_of}
use Rattle.hp_word.specs.RowRules as rules
use Rattle.hp_word.specs.RowRules.{row_place}
use Rattle.hp_word.specs.Runs.{Ran, Went, Trapped}
use Rattle.hp_word.specs.Text.{list_line, joined_by, csv, row_line}
use Rattle.hp_program.specs.Programs.{Prog, stop, plain, Effect, run, told}
use Rattle.hp_air.specs.declared.what.Op.{Op}
use Rattle.hp_air.specs.declared.what.What.{What}
use Rattle.hp_air.specs.declared.what.What.TheVariants as what
use Rattle.hp_air.specs.Wholes.{Whole, Vector, Grid, Env, unset, changed_all}
use Rattle.hp_air.specs.Meaning.{does, units, mean, work_of, ending, looped, values_of, mapped, reduced, stencilled, filtered, sorted_by, joined_rows, grouped_rows, in_order}

-- ---- short forms

abbrev at : Place
at = record { line = 1; col = 1 }

-- numbers as an array
abbrev two : ℕ → ℕ → List ℤ
two a b = pos a ∷ pos b ∷ []

abbrev three : ℕ → ℕ → ℕ → List ℤ
three a b c = pos a ∷ pos b ∷ pos c ∷ []

-- slots and words of these values
abbrev held : List Whole → List ℤ → Env
held slots words = record { slots = λ k. slice_index_or slots k (Vector []); words = λ w. slice_index_or words w (pos 0); executed = 0; bad = [] }

-- two arrays, and the words 1, 2 and 0
abbrev arrays : List ℤ → List ℤ → Env
arrays xs ys = held (Vector xs ∷ Vector ys ∷ []) (pos 1 ∷ pos 2 ∷ pos 0 ∷ [])

-- what a slot and a word hold behind an operation, and what it wrote; or its trap
abbrev slot_of : ℕ → Result (Effect Env) Trap → Result Whole Trap
slot_of k (Ok effect) = Ok (effect.env.slots k)
slot_of k (Err t) = Err t

abbrev word_of : ℕ → Result (Effect Env) Trap → Result ℤ Trap
word_of w (Ok effect) = Ok (effect.env.words w)
word_of w (Err t) = Err t

abbrev text_of : Result (Effect Env) Trap → List ℕ
text_of (Ok effect) = effect.text
text_of (Err t) = []

abbrev array : List ℤ → Result Whole Trap
array xs = Ok (Vector xs)

abbrev done : What → Env → Result (Effect Env) Trap
done op e = does [] [] at op e

-- the cell and one, and 8 divided by the cell
abbrev next : Elem
next = Calc Add at (Input 0) (Number (pos 1))

abbrev part : Elem
part = Calc Div at (Number (pos 8)) (Input 0)

-- ---- words

const_row : word_of 1 (done (what.Const 1 (pos 7)) unset) ≡ Ok (pos 7)
unfolding does
const_row = refl

calc_rows : (word_of 5 (done (what.Calc 5 Add 0 1) (arrays [] [])) ≡ Ok (pos 3)) × (word_of 5 (done (what.Calc 5 Div 0 2) (arrays [] [])) ≡ Err (trap at Divide))
unfolding does int_wrap
calc_rows = (refl, refl)

length_row : word_of 5 (done (what.Length 5 0) (arrays (two 7 8) [])) ≡ Ok (pos 2)
unfolding does
length_row = refl

-- ---- arrays

fill_row : slot_of 3 (done (what.Fill 3 0 1) (arrays [] [])) ≡ array (two 1 1)
unfolding does changed_all filled
fill_row = refl

range_row : slot_of 3 (done (what.Range 3 0 1) (arrays [] [])) ≡ array (two 1 2)
unfolding does changed_all range_of range_count span
range_row = refl

read_row : (t : Table) → t.columns ≡ two 1 2 ∷ two 3 4 ∷ [] → slot_of 4 (does (t ∷ []) [] at (what.Read (3 ∷ 4 ∷ []) 0) unset) ≡ array (two 3 4)
unfolding does changed_all
read_row t e = rw e refl

-- what is copied is what stood there before
copy_row : slot_of 1 (done (what.Copy (0 ∷ 1 ∷ []) (1 ∷ 0 ∷ [])) (arrays (two 7 8) (two 1 2))) ≡ array (two 7 8)
unfolding does changed_all
copy_row = refl

map_row : slot_of 3 (done (what.Map 3 (0 ∷ []) next) (arrays (two 7 8) [])) ≡ array (two 8 9)
unfolding does changed_all mapped values_of looped rules.level elems.elem_value elems.only_value elems.calc_of block.hidden-the_row-Elem-0 denote.Hole.Carrier.hidden int_wrap
map_row = refl

-- arrays of different length are a trap before an element is
mismatch_row : slot_of 3 (done (what.Map 3 (0 ∷ 1 ∷ []) part) (arrays (pos 0 ∷ []) (two 1 2))) ≡ Err (trap at Mismatch)
unfolding does changed_all mapped values_of looped rules.level elems.elem_value elems.only_value elems.calc_of block.hidden-the_row-Elem-0 denote.Hole.Carrier.hidden
mismatch_row = refl

reduce_row : word_of 5 (done (what.Reduce 5 Sum 0 next) (arrays (two 7 8) [])) ≡ Ok (pos 17)
unfolding does reduced folded_list values_of looped elems.elem_value elems.only_value elems.calc_of block.hidden-the_row-Elem-0 denote.Hole.Carrier.hidden int_wrap
reduce_row = refl

-- the least of no element is a trap
empty_row : word_of 5 (done (what.Reduce 5 Min 0 (Input 0)) (arrays [] [])) ≡ Err (trap at Empty)
unfolding does reduced folded_list values_of looped
empty_row = refl

scan_row : slot_of 3 (done (what.Scan 3 0) (arrays (three 1 2 3) [])) ≡ array (three 1 3 6)
unfolding does changed_all sums_after int_wrap
scan_row = refl

-- each element with its neighbours, and the balanced copy
stencil_rows : (slot_of 3 (done (what.Stencil 3 0 4 1 (Calc Add at (Near 0 (negsuc 0)) (Near 0 (pos 1)))) (arrays (three 1 2 3) [])) ≡ array (three 2 4 2))
    × (slot_of 4 (done (what.Stencil 3 0 4 1 (Near 0 (pos 1))) (arrays (three 1 2 3) [])) ≡ array (three 1 2 3))
unfolding does changed_all stencilled values_of looped elems.elem_value elems.only_value elems.calc_of block.hidden-the_row-Elem-0 denote.Hole.Carrier.hidden int_wrap
stencil_rows = (refl, refl)

concat_row : slot_of 3 (done (what.Concat 3 0 1) (arrays (pos 7 ∷ []) (two 8 9))) ≡ array (three 7 8 9)
unfolding does changed_all appended
concat_row = refl

at_row : word_of 5 (done (what.At 5 0 1) (arrays (two 7 8) [])) ≡ Ok (pos 8)
unfolding does element_at
at_row = refl

pick_row : slot_of 3 (done (what.Pick 3 0 1) (arrays (two 7 8) (two 2 1))) ≡ array (two 8 7)
unfolding does changed_all elements_at element_at all_ok
pick_row = refl

-- ---- frames

frame_rows : (slot_of 4 (done (what.Frame (3 ∷ 4 ∷ []) (0 ∷ 1 ∷ [])) (arrays (two 7 8) (two 1 2))) ≡ array (two 1 2))
    × (slot_of 4 (done (what.Frame (3 ∷ 4 ∷ []) (0 ∷ 1 ∷ [])) (arrays (two 7 8) (pos 1 ∷ []))) ≡ Err (trap at Mismatch))
unfolding does changed_all rules.level
frame_rows = (refl, refl)

filter_row : slot_of 3 (done (what.Filter (3 ∷ []) (0 ∷ []) 1) (arrays (three 7 8 9) (three 1 0 1))) ≡ array (two 7 9)
unfolding does changed_all filtered rules.filter_rows
filter_row = refl

-- the right column that is no key, of the pairs of equal keys
join_row : slot_of 3 (done (what.Join (2 ∷ 3 ∷ []) (0 ∷ []) 0 (1 ∷ 2 ∷ []) 0) (held (Vector (two 1 2) ∷ Vector (two 2 1) ∷ Vector (two 20 10) ∷ []) [])) ≡ array (two 10 20)
unfolding does changed_all in_order joined_rows rules.join_pairs rules.pairs_from rules.matches_of rules.order_taken rules.order_named rules.by_left rules.by_right
join_row = refl

-- in another order
ordered_row : slot_of 2 (does [] (record { number = 1; places = row_place 2 1 ∷ row_place 1 2 ∷ [] } ∷ []) at (what.Join (2 ∷ 3 ∷ []) (0 ∷ []) 0 (1 ∷ 2 ∷ []) 0) (held (Vector (two 1 2) ∷ Vector (two 2 1) ∷ Vector (two 20 10) ∷ []) []))
    ≡ array (two 2 1)
unfolding does changed_all in_order joined_rows rules.join_pairs rules.pairs_from rules.matches_of rules.order_taken rules.order_named rules.is_order rules.by_left rules.by_right
ordered_row = refl

group_row : slot_of 4 (done (what.Group (3 ∷ 4 ∷ []) (0 ∷ 1 ∷ []) 0 (record { kind = measure.Sum; column = 1 } ∷ [])) (arrays (three 5 7 5) (three 1 2 3))) ≡ array (two 4 2)
unfolding does changed_all in_order grouped_rows rules.firsts_from rules.order_taken rules.order_named rules.by_left rules.measures_by_left rules.with_key rules.filter_rows int_wrap
group_row = refl

sort_row : slot_of 3 (done (what.Sort (2 ∷ 3 ∷ []) (0 ∷ 1 ∷ []) 1) (arrays (two 7 8) (two 2 1))) ≡ array (two 1 2)
unfolding does changed_all sorted_by rules.sorted_places rules.sorted rules.inserted rules.row_order
sort_row = refl

-- ---- matrices

-- the rows 1, 2 and 3, 4
abbrev square : Whole
square = Grid (matrix 2 (two 1 3 ∷ two 2 4 ∷ []))

stack_row : slot_of 3 (done (what.Stack 3 (0 ∷ 1 ∷ [])) (arrays (two 1 2) (two 3 4))) ≡ Ok square
unfolding does changed_all stack transposed rows_of
stack_row = refl

row_row : slot_of 3 (done (what.Row 3 0 1) (held (square ∷ []) (two 1 2))) ≡ array (two 3 4)
unfolding does changed_all matrix_row
row_row = refl

product_row : slot_of 3 (done (what.Product 3 0 0) (held (square ∷ []) [])) ≡ Ok (Grid (matrix 2 (two 7 15 ∷ two 10 22 ∷ [])))
unfolding does changed_all product products_of rows_of int_wrap
product_row = refl

transposed_row : slot_of 3 (done (what.ProductT 3 0 0) (held (square ∷ []) [])) ≡ Ok (Grid (matrix 2 (two 5 11 ∷ two 11 25 ∷ [])))
unfolding does changed_all product products_of transposed rows_of int_wrap
transposed_row = refl

-- ---- outputs

print_rows : (text_of (done (what.PrintWord 1 false) (arrays [] [])) ≡ codes "2\n") × (text_of (done (what.PrintList 0 true) (arrays (two 1 0) [])) ≡ codes "[true, false]\n")
unfolding does list_line joined_by digits
print_rows = (refl, refl)

export_row : text_of (done (what.Export (0 ∷ 1 ∷ []) (record { bytes = codes "a" } ∷ record { bytes = codes "b" } ∷ [])) (arrays (two 1 2) (two 3 4))) ≡ codes "a,b\n1,3\n2,4\n"
unfolding does csv row_line joined_by digits
export_row = refl

-- ---- work

-- a stencil counts six
stencil_units : units [] (what.Stencil 3 0 4 1 (Near 0 (pos 1))) ≡ 6
unfolding units
stencil_units = refl

-- a map of two arrays
map_units : units [] (what.Map 3 (0 ∷ 1 ∷ []) next) ≡ 4
unfolding units
map_units = refl

-- ---- programs

abbrev op : What → Prog Op → Prog Op
op w rest = plain (record { at = at; what = w }) rest

-- `x = fill(3, 10)`, `println(sum(x))`
abbrev first : Prog Op
first =
    op (what.Const 0 (pos 3)) (op (what.Const 1 (pos 10)) (op (what.Fill 0 0 1) (op (what.Copy (1 ∷ []) (0 ∷ [])) (op (what.Copy (2 ∷ []) (1 ∷ []))
    (op (what.Reduce 2 Sum 2 (Input 0)) (op (what.PrintWord 2 false) stop))))))

abbrev output_of : Ran Env ℕ → List ℕ
output_of (Went s) = s.out
output_of (Trapped t s) = s.out
output_of _ = []

first_rows : (output_of (mean [] first [] [] 0) ≡ codes "30\n") × (work_of (mean [] first [] [] 0) ≡ 10)
unfolding mean run told does changed_all units filled reduced values_of looped folded_list elems.elem_value int_wrap digits
first_rows = (refl, refl)

-- two programs that trap mean the same, whatever the traps are
trap_row : ending (mean [] (op (what.Calc 1 Div 0 0) stop) [] [] 0) ≡ ending (mean [] (op (what.Reduce 0 Min 0 (Input 0)) stop) [] [] 0)
unfolding mean run told does changed_all units reduced values_of looped folded_list
trap_row = refl
