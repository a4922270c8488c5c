-- Worked rows: the constraints of short scripts, as programs of the array IR written by hand. The slots are those of the
-- variables in the order of the text, then those of the expressions.
use Rattle.std.specs.Prelude.{◌≡◌, ℕ, pos, negsuc, Bool, true, false, ◌&&◌, List, [], ◌∷◌, map, refl}
use Rattle.hp_word.specs.declared.elem.Elem.{Elem}
use Rattle.hp_word.specs.declared.elem.Elem.TheVariants.{Input, Near, Word}
use Rattle.hp_word.specs.declared.elem.Elem.TheViews.{Calc}
use Rattle.hp_word.specs.declared.place.Place.{Place}
use Rattle.hp_word.specs.declared.table.MeasureKind.TheVariants as measures
use Rattle.hp_word.specs.declared.word.CalcOp.TheVariants.{Add, Gt, Ge}
use Rattle.hp_lattice.specs.declared.dist.Dist.TheVariants.{Rep, Var}
use Rattle.hp_program.specs.Programs.{Prog, stop, plain, operations}
use Rattle.hp_air.specs.declared.slot.Slot.{Slot}
use Rattle.hp_air.specs.declared.what.Op.{Op}
use Rattle.hp_air.specs.declared.what.What.{What}
use Rattle.hp_air.specs.declared.what.What.TheVariants as what
use Rattle.hp_air.specs.Arrays.{arrays_of}
use Rattle.hp_air.specs.Constraints.{same, up_to, at_most, bounds_of}
use Rattle.hp_air.specs.Frames.{node_slot, var_slot, balanced_slot, first_of}
use Rattle.hp_air.specs.Kept.{are_slots, are_kept}
use Rattle.hp_air.specs.Placed.{frame_bounds, program_bounds}
use Rattle.hp_constrain.specs.Listed.{constraint_of, constraints_of}

abbrev at : Place
at = record { line = 1; col = 1 }

abbrev op : What → Prog Op → Prog Op
op w rest = plain (record { at = at; what = w }) rest

abbrev matrix : Slot → Slot
matrix s = record s { matrix = true }

-- the slots and the operations are those of a program
abbrev is_program : List Slot → (words : ℕ) → Prog Op → Bool
is_program slots words p = are_slots slots && are_kept slots words p

-- sums of neighbours in filtered rows: f = DataFrame(v = collect(1:8)); g = filter(f, :v .> 4); s = stencil(x -> x[-1] + x[0] + x[1], g.v); println(s)
abbrev neighbours_slots : List Slot
neighbours_slots =
    var_slot 0 0 ∷ var_slot 1 0 ∷ var_slot 2 0 ∷ node_slot 1 0 ∷ node_slot 0 0 ∷ node_slot 5 0 ∷ node_slot 6 0 ∷ node_slot 7 0 ∷ node_slot 4 0 ∷
    node_slot 22 0 ∷ node_slot 9 0 ∷ balanced_slot 9 ∷ node_slot 23 0 ∷ []

abbrev neighbours_program : Prog Op
neighbours_program =
    op (what.Const 0 (pos 1)) (op (what.Const 1 (pos 8)) (op (what.Range 3 0 1) (op (what.Frame (4 ∷ []) (3 ∷ [])) (
    op (what.Copy (0 ∷ []) (4 ∷ [])) (op (what.Copy (5 ∷ []) (0 ∷ [])) (op (what.Copy (6 ∷ []) (5 ∷ [])) (op (what.Const 2 (pos 4)) (
    op (what.Map 7 (6 ∷ []) (Calc Gt at (Input 0) (Word 2))) (op (what.Filter (8 ∷ []) (5 ∷ []) 7) (op (what.Copy (1 ∷ []) (8 ∷ [])) (
    op (what.Copy (9 ∷ []) (1 ∷ [])) (op (what.Stencil 10 9 11 1 (Calc Add at (Calc Add at (Near 0 (negsuc 0)) (Near 0 (pos 0))) (Near 0 (pos 1)))) (
    op (what.Copy (2 ∷ []) (10 ∷ [])) (op (what.Copy (12 ∷ []) (2 ∷ [])) (op (what.PrintList 12 false) (stop))))))))))))))))

neighbours_is_program : is_program neighbours_slots 3 neighbours_program ≡ true
unfolding Rattle.hp_air.specs.Arrays.arrays_of Rattle.hp_air.specs.Arrays.outs Rattle.hp_air.specs.Arrays.sides Rattle.hp_air.specs.Kept.elem_fits Rattle.hp_air.specs.Kept.part_fits Rattle.hp_air.specs.Kept.has_lists operations Rattle.hp_program.specs.Programs.tests Rattle.hp_word.specs.declared.elem.Elem.TheBlock.hidden-the_row-Elem-0 denote.Hole.Carrier.hidden
neighbours_is_program = refl

neighbours_constraints : constraints_of neighbours_slots neighbours_program ≡ map constraint_of (
    same 4 3 ∷ same 3 4 ∷ same 0 4 ∷ same 4 0 ∷ same 5 0 ∷ same 0 5 ∷ same 6 5 ∷ same 5 6 ∷ same 7 6 ∷ same 6 7 ∷ same 7 5 ∷ same 5 7 ∷
    at_most 8 Var ∷ up_to 8 5 ∷ up_to 5 8 ∷ same 1 8 ∷ same 8 1 ∷ same 9 1 ∷ same 1 9 ∷ up_to 11 9 ∷ up_to 9 11 ∷ up_to 10 11 ∷ up_to 11 10 ∷
    same 2 10 ∷ same 10 2 ∷ same 12 2 ∷ same 2 12 ∷ [])
unfolding Rattle.hp_air.specs.Frames.first_of Rattle.hp_air.specs.Placed.frame_bounds Rattle.hp_air.specs.Placed.program_bounds Rattle.hp_air.specs.Arrays.arrays_of bounds_of operations
neighbours_constraints = refl

-- one element of a sum: x = fill(1, 4); y = x .+ 1; println(y[2])
abbrev element_slots : List Slot
element_slots =
    var_slot 0 0 ∷ var_slot 1 0 ∷ node_slot 0 0 ∷ node_slot 3 0 ∷ node_slot 4 0 ∷ node_slot 6 0 ∷ []

abbrev element_program : Prog Op
element_program =
    op (what.Const 0 (pos 1)) (op (what.Const 1 (pos 4)) (op (what.Fill 2 0 1) (op (what.Copy (0 ∷ []) (2 ∷ [])) (
    op (what.Copy (3 ∷ []) (0 ∷ [])) (op (what.Const 2 (pos 1)) (op (what.Map 4 (3 ∷ []) (Calc Add at (Input 0) (Word 2))) (
    op (what.Copy (1 ∷ []) (4 ∷ [])) (op (what.Copy (5 ∷ []) (1 ∷ [])) (op (what.Const 3 (pos 2)) (op (what.At 4 5 3) (
    op (what.PrintWord 4 false) (stop))))))))))))

element_is_program : is_program element_slots 5 element_program ≡ true
unfolding Rattle.hp_air.specs.Arrays.arrays_of Rattle.hp_air.specs.Arrays.outs Rattle.hp_air.specs.Arrays.sides Rattle.hp_air.specs.Kept.elem_fits Rattle.hp_air.specs.Kept.part_fits Rattle.hp_air.specs.Kept.has_lists operations Rattle.hp_program.specs.Programs.tests Rattle.hp_word.specs.declared.elem.Elem.TheBlock.hidden-the_row-Elem-0 denote.Hole.Carrier.hidden
element_is_program = refl

element_constraints : constraints_of element_slots element_program ≡ map constraint_of (
    same 0 2 ∷ same 2 0 ∷ same 3 0 ∷ same 0 3 ∷ same 4 3 ∷ same 3 4 ∷ same 1 4 ∷ same 4 1 ∷ same 5 1 ∷ same 1 5 ∷ at_most 5 Rep ∷ [])
unfolding Rattle.hp_air.specs.Frames.first_of Rattle.hp_air.specs.Placed.frame_bounds Rattle.hp_air.specs.Placed.program_bounds Rattle.hp_air.specs.Arrays.arrays_of bounds_of operations
element_constraints = refl

-- a report of sales: s = read_csv("sales.csv", :store, :amount); d = sort(read_csv("stores.csv", :store, :region), :store); big = filter(s, :amount .>= 50); j = join(big, d, :store); a = aggregate(j, :region, total = sum(:amount), n = count()); write_csv(sort(a, :region))
abbrev sales_slots : List Slot
sales_slots =
    var_slot 0 0 ∷ var_slot 0 1 ∷ var_slot 1 0 ∷ var_slot 1 1 ∷ var_slot 2 0 ∷ var_slot 2 1 ∷ var_slot 3 0 ∷ var_slot 3 1 ∷ var_slot 3 2 ∷
    var_slot 4 0 ∷ var_slot 4 1 ∷ var_slot 4 2 ∷ node_slot 0 0 ∷ node_slot 0 1 ∷ node_slot 5 0 ∷ node_slot 5 1 ∷ node_slot 4 0 ∷ node_slot 4 1 ∷
    node_slot 11 0 ∷ node_slot 11 1 ∷ node_slot 12 0 ∷ node_slot 13 0 ∷ node_slot 10 0 ∷ node_slot 10 1 ∷ node_slot 16 0 ∷ node_slot 16 1 ∷
    node_slot 17 0 ∷ node_slot 17 1 ∷ node_slot 15 0 ∷ node_slot 15 1 ∷ node_slot 15 2 ∷ node_slot 20 0 ∷ node_slot 20 1 ∷ node_slot 20 2 ∷
    node_slot 19 0 ∷ node_slot 19 1 ∷ node_slot 19 2 ∷ node_slot 26 0 ∷ node_slot 26 1 ∷ node_slot 26 2 ∷ node_slot 25 0 ∷ node_slot 25 1 ∷
    node_slot 25 2 ∷ []

abbrev sales_program : Prog Op
sales_program =
    op (what.Read (12 ∷ 13 ∷ []) 0) (op (what.Copy (0 ∷ 1 ∷ []) (12 ∷ 13 ∷ [])) (op (what.Read (14 ∷ 15 ∷ []) 1) (
    op (what.Sort (16 ∷ 17 ∷ []) (14 ∷ 15 ∷ []) 0) (op (what.Copy (2 ∷ 3 ∷ []) (16 ∷ 17 ∷ [])) (op (what.Copy (18 ∷ 19 ∷ []) (0 ∷ 1 ∷ [])) (
    op (what.Copy (20 ∷ []) (19 ∷ [])) (op (what.Const 0 (pos 50)) (op (what.Map 21 (20 ∷ []) (Calc Ge at (Input 0) (Word 0))) (
    op (what.Filter (22 ∷ 23 ∷ []) (18 ∷ 19 ∷ []) 21) (op (what.Copy (4 ∷ 5 ∷ []) (22 ∷ 23 ∷ [])) (op (what.Copy (24 ∷ 25 ∷ []) (4 ∷ 5 ∷ [])) (
    op (what.Copy (26 ∷ 27 ∷ []) (2 ∷ 3 ∷ [])) (op (what.Join (28 ∷ 29 ∷ 30 ∷ []) (24 ∷ 25 ∷ []) 0 (26 ∷ 27 ∷ []) 0) (
    op (what.Copy (6 ∷ 7 ∷ 8 ∷ []) (28 ∷ 29 ∷ 30 ∷ [])) (op (what.Copy (31 ∷ 32 ∷ 33 ∷ []) (6 ∷ 7 ∷ 8 ∷ [])) (
    op (what.Group (34 ∷ 35 ∷ 36 ∷ []) (31 ∷ 32 ∷ 33 ∷ []) 2 (record { kind = measures.Sum; column = 1 } ∷ record { kind = measures.Count; column = 0 } ∷ [])) (
    op (what.Copy (9 ∷ 10 ∷ 11 ∷ []) (34 ∷ 35 ∷ 36 ∷ [])) (op (what.Copy (37 ∷ 38 ∷ 39 ∷ []) (9 ∷ 10 ∷ 11 ∷ [])) (
    op (what.Sort (40 ∷ 41 ∷ 42 ∷ []) (37 ∷ 38 ∷ 39 ∷ []) 0) (op (what.Export (40 ∷ 41 ∷ 42 ∷ []) (record { bytes = [] } ∷ record { bytes = [] } ∷ record { bytes = [] } ∷ [])) (stop)))))))))))))))))))))

sales_is_program : is_program sales_slots 1 sales_program ≡ true
unfolding Rattle.hp_air.specs.Arrays.arrays_of Rattle.hp_air.specs.Arrays.outs Rattle.hp_air.specs.Arrays.sides Rattle.hp_air.specs.Kept.elem_fits Rattle.hp_air.specs.Kept.part_fits Rattle.hp_air.specs.Kept.has_lists operations Rattle.hp_program.specs.Programs.tests Rattle.hp_word.specs.declared.elem.Elem.TheBlock.hidden-the_row-Elem-0 denote.Hole.Carrier.hidden
sales_is_program = refl

sales_constraints : constraints_of sales_slots sales_program ≡ map constraint_of (
    same 1 0 ∷ same 0 1 ∷ same 3 2 ∷ same 2 3 ∷ same 5 4 ∷ same 4 5 ∷ same 7 6 ∷ same 6 7 ∷ same 8 6 ∷ same 6 8 ∷ same 10 9 ∷ same 9 10 ∷ same 11 9 ∷
    same 9 11 ∷ same 13 12 ∷ same 12 13 ∷ same 15 14 ∷ same 14 15 ∷ same 17 16 ∷ same 16 17 ∷ same 19 18 ∷ same 18 19 ∷ same 23 22 ∷ same 22 23 ∷
    same 25 24 ∷ same 24 25 ∷ same 27 26 ∷ same 26 27 ∷ same 29 28 ∷ same 28 29 ∷ same 30 28 ∷ same 28 30 ∷ same 32 31 ∷ same 31 32 ∷ same 33 31 ∷
    same 31 33 ∷ same 35 34 ∷ same 34 35 ∷ same 36 34 ∷ same 34 36 ∷ same 38 37 ∷ same 37 38 ∷ same 39 37 ∷ same 37 39 ∷ same 41 40 ∷ same 40 41 ∷
    same 42 40 ∷ same 40 42 ∷ same 12 13 ∷ same 13 12 ∷ same 0 12 ∷ same 12 0 ∷ same 1 13 ∷ same 13 1 ∷ same 14 15 ∷ same 15 14 ∷ at_most 16 Rep ∷
    same 2 16 ∷ same 16 2 ∷ same 3 17 ∷ same 17 3 ∷ same 18 0 ∷ same 0 18 ∷ same 19 1 ∷ same 1 19 ∷ same 20 19 ∷ same 19 20 ∷ same 21 20 ∷
    same 20 21 ∷ same 21 18 ∷ same 18 21 ∷ at_most 22 Var ∷ up_to 22 18 ∷ up_to 18 22 ∷ same 4 22 ∷ same 22 4 ∷ same 5 23 ∷ same 23 5 ∷ same 24 4 ∷
    same 4 24 ∷ same 25 5 ∷ same 5 25 ∷ same 26 2 ∷ same 2 26 ∷ same 27 3 ∷ same 3 27 ∷ at_most 28 Var ∷ up_to 28 24 ∷ up_to 24 28 ∷ up_to 26 24 ∷
    same 6 28 ∷ same 28 6 ∷ same 7 29 ∷ same 29 7 ∷ same 8 30 ∷ same 30 8 ∷ same 31 6 ∷ same 6 31 ∷ same 32 7 ∷ same 7 32 ∷ same 33 8 ∷ same 8 33 ∷
    at_most 34 Var ∷ up_to 34 31 ∷ up_to 31 34 ∷ same 9 34 ∷ same 34 9 ∷ same 10 35 ∷ same 35 10 ∷ same 11 36 ∷ same 36 11 ∷ same 37 9 ∷ same 9 37 ∷
    same 38 10 ∷ same 10 38 ∷ same 39 11 ∷ same 11 39 ∷ at_most 40 Rep ∷ [])
unfolding Rattle.hp_air.specs.Frames.first_of Rattle.hp_air.specs.Placed.frame_bounds Rattle.hp_air.specs.Placed.program_bounds Rattle.hp_air.specs.Arrays.arrays_of bounds_of operations
sales_constraints = refl

-- one array behind another, and elements by positions: println(vcat(collect(1:2), collect(5:7))); x = collect(1:3); println(x[collect(2:3)])
abbrev pieces_slots : List Slot
pieces_slots =
    var_slot 0 0 ∷ node_slot 1 0 ∷ node_slot 4 0 ∷ node_slot 0 0 ∷ node_slot 7 0 ∷ node_slot 10 0 ∷ node_slot 12 0 ∷ node_slot 11 0 ∷ []

abbrev pieces_program : Prog Op
pieces_program =
    op (what.Const 0 (pos 1)) (op (what.Const 1 (pos 2)) (op (what.Range 1 0 1) (op (what.Const 2 (pos 5)) (op (what.Const 3 (pos 7)) (
    op (what.Range 2 2 3) (op (what.Concat 3 1 2) (op (what.PrintList 3 false) (op (what.Const 4 (pos 1)) (
    op (what.Const 5 (pos 3)) (op (what.Range 4 4 5) (op (what.Copy (0 ∷ []) (4 ∷ [])) (op (what.Copy (5 ∷ []) (0 ∷ [])) (
    op (what.Const 6 (pos 2)) (op (what.Const 7 (pos 3)) (op (what.Range 6 6 7) (op (what.Pick 7 5 6) (
    op (what.PrintList 7 false) (stop))))))))))))))))))

pieces_is_program : is_program pieces_slots 8 pieces_program ≡ true
unfolding Rattle.hp_air.specs.Arrays.arrays_of Rattle.hp_air.specs.Arrays.outs Rattle.hp_air.specs.Arrays.sides Rattle.hp_air.specs.Kept.elem_fits Rattle.hp_air.specs.Kept.part_fits Rattle.hp_air.specs.Kept.has_lists operations Rattle.hp_program.specs.Programs.tests Rattle.hp_word.specs.declared.elem.Elem.TheBlock.hidden-the_row-Elem-0 denote.Hole.Carrier.hidden
pieces_is_program = refl

pieces_constraints : constraints_of pieces_slots pieces_program ≡ map constraint_of (
    up_to 3 1 ∷ up_to 3 2 ∷ up_to 1 3 ∷ up_to 2 3 ∷ same 0 4 ∷ same 4 0 ∷ same 5 0 ∷ same 0 5 ∷ at_most 5 Rep ∷ same 7 6 ∷ same 6 7 ∷ [])
unfolding Rattle.hp_air.specs.Frames.first_of Rattle.hp_air.specs.Placed.frame_bounds Rattle.hp_air.specs.Placed.program_bounds Rattle.hp_air.specs.Arrays.arrays_of bounds_of operations
pieces_constraints = refl

-- products of matrices: a = collect(1:3); b = fill(2, 3); m = stack(a, b); g = m * transpose(m); println(row(g, 1)); h = g * m; println(row(h, 2))
abbrev matrices_slots : List Slot
matrices_slots =
    var_slot 0 0 ∷ var_slot 1 0 ∷ matrix (var_slot 2 0) ∷ matrix (var_slot 3 0) ∷ matrix (var_slot 4 0) ∷ node_slot 0 0 ∷ node_slot 3 0 ∷
    node_slot 7 0 ∷ node_slot 8 0 ∷ matrix (node_slot 6 0) ∷ matrix (node_slot 9 0) ∷ matrix (node_slot 12 0) ∷ matrix (node_slot 10 0) ∷
    matrix (node_slot 14 0) ∷ node_slot 13 0 ∷ matrix (node_slot 16 0) ∷ matrix (node_slot 18 0) ∷ matrix (node_slot 17 0) ∷ matrix (node_slot 20 0) ∷
    node_slot 19 0 ∷ []

abbrev matrices_program : Prog Op
matrices_program =
    op (what.Const 0 (pos 1)) (op (what.Const 1 (pos 3)) (op (what.Range 5 0 1) (op (what.Copy (0 ∷ []) (5 ∷ [])) (op (what.Const 2 (pos 2)) (
    op (what.Const 3 (pos 3)) (op (what.Fill 6 2 3) (op (what.Copy (1 ∷ []) (6 ∷ [])) (op (what.Copy (7 ∷ []) (0 ∷ [])) (
    op (what.Copy (8 ∷ []) (1 ∷ [])) (op (what.Stack 9 (7 ∷ 8 ∷ [])) (op (what.Copy (2 ∷ []) (9 ∷ [])) (op (what.Copy (10 ∷ []) (2 ∷ [])) (
    op (what.Copy (11 ∷ []) (2 ∷ [])) (op (what.ProductT 12 10 11) (op (what.Copy (3 ∷ []) (12 ∷ [])) (op (what.Copy (13 ∷ []) (3 ∷ [])) (
    op (what.Const 4 (pos 1)) (op (what.Row 14 13 4) (op (what.PrintList 14 false) (op (what.Copy (15 ∷ []) (3 ∷ [])) (
    op (what.Copy (16 ∷ []) (2 ∷ [])) (op (what.Product 17 15 16) (op (what.Copy (4 ∷ []) (17 ∷ [])) (op (what.Copy (18 ∷ []) (4 ∷ [])) (
    op (what.Const 5 (pos 2)) (op (what.Row 19 18 5) (op (what.PrintList 19 false) (stop))))))))))))))))))))))))))))

matrices_is_program : is_program matrices_slots 6 matrices_program ≡ true
unfolding Rattle.hp_air.specs.Arrays.arrays_of Rattle.hp_air.specs.Arrays.outs Rattle.hp_air.specs.Arrays.sides Rattle.hp_air.specs.Kept.elem_fits Rattle.hp_air.specs.Kept.part_fits Rattle.hp_air.specs.Kept.has_lists operations Rattle.hp_program.specs.Programs.tests Rattle.hp_word.specs.declared.elem.Elem.TheBlock.hidden-the_row-Elem-0 denote.Hole.Carrier.hidden
matrices_is_program = refl

matrices_constraints : constraints_of matrices_slots matrices_program ≡ map constraint_of (
    same 0 5 ∷ same 5 0 ∷ same 1 6 ∷ same 6 1 ∷ same 7 0 ∷ same 0 7 ∷ same 8 1 ∷ same 1 8 ∷ same 9 7 ∷ same 7 9 ∷ same 9 8 ∷ same 8 9 ∷ same 2 9 ∷
    same 9 2 ∷ same 10 2 ∷ same 2 10 ∷ same 11 2 ∷ same 2 11 ∷ same 10 11 ∷ same 11 10 ∷ at_most 12 Rep ∷ same 3 12 ∷ same 12 3 ∷ same 13 3 ∷
    same 3 13 ∷ same 14 13 ∷ same 13 14 ∷ same 15 3 ∷ same 3 15 ∷ same 16 2 ∷ same 2 16 ∷ at_most 15 Rep ∷ same 17 16 ∷ same 16 17 ∷ same 4 17 ∷
    same 17 4 ∷ same 18 4 ∷ same 4 18 ∷ same 19 18 ∷ same 18 19 ∷ [])
unfolding Rattle.hp_air.specs.Frames.first_of Rattle.hp_air.specs.Placed.frame_bounds Rattle.hp_air.specs.Placed.program_bounds Rattle.hp_air.specs.Arrays.arrays_of bounds_of operations
matrices_constraints = refl
