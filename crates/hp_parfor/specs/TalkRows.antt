-- Worked rows: what the ranks send each other for short scripts, as programs with loops written by hand. The slots are
-- those of the variables in the order of the text, then those of the expressions.
use Rattle.std.specs.Prelude.{◌≡◌, ℕ, pos, negsuc, Bool, true, false, ◌&&◌, List, [], ◌∷◌, refl}
use Rattle.hp_word.specs.declared.elem.Elem.{Elem}
use Rattle.hp_word.specs.declared.elem.Elem.TheVariants.{Input, Near, Word}
use Rattle.hp_word.specs.declared.elem.Elem.TheViews.{Calc}
use Rattle.hp_word.specs.declared.fold.FoldKind.TheVariants.{Sum}
use Rattle.hp_word.specs.declared.place.Place.{Place}
use Rattle.hp_word.specs.declared.table.MeasureKind.TheVariants as measures
use Rattle.hp_word.specs.declared.word.CalcOp.TheVariants.{Add, Gt, Lt, Ge}
use Rattle.hp_lattice.specs.declared.dist.Dist.TheVariants.{Rep, Var, Block}
use Rattle.hp_spmd.specs.declared.instr.Folding.{Folding}
use Rattle.hp_spmd.specs.declared.instr.Need.TheVariants.{Like, Blocks, Wide, Whole}
use Rattle.hp_spmd.specs.declared.instr.Out.{Out}
use Rattle.hp_program.specs.Programs.{Prog, stop, plain, operations, tests}
use Rattle.hp_air.specs.declared.slot.Slot.{Slot}
use Rattle.hp_air.specs.declared.what.What.{What}
use Rattle.hp_air.specs.declared.what.What.TheVariants as what
use Rattle.hp_air.specs.Arrays.{arrays_of, outs, sides}
use Rattle.hp_air.specs.Frames.{node_slot, var_slot, balanced_slot}
use Rattle.hp_air.specs.Kept.{are_slots, elem_fits, part_fits, has_lists}
use Rattle.hp_parfor.specs.KeptParts.{are_parts}
use Rattle.hp_parfor.specs.Parts.{Part, Does, Loops}
use Rattle.hp_parfor.specs.Talk.{Words, Sizes, Moves, Hashes, GathersWord, GathersList, GathersTable, Talk, part_sends, loop_sends, whole_sends, output_sends}

-- ---- short forms

abbrev pub at : Place
at = record { line = 1; col = 1 }

abbrev pub op : What → Prog Part → Prog Part
op w rest = plain (Does (record { at = at; what = w })) rest

-- a loop over the places of the first input
abbrev pub over : (inputs : List ℕ) → List Elem → List Out → List Folding → Prog Part → Prog Part
over [] lets outs folds rest = rest
over (x ∷ xs) lets outs folds rest = plain (Loops (record { leader = x; inputs = x ∷ xs; halos = []; lets = lets; outs = outs; folds = folds; at = at })) rest

-- a loop round the places of an array
abbrev round : (array reach : ℕ) → List Elem → List Out → Prog Part → Prog Part
round k reach lets outs rest =
    plain (Loops (record { leader = k; inputs = []; halos = record { array = k; reach = reach } ∷ []; lets = lets; outs = outs; folds = []; at = at })) rest

abbrev pub to : ℕ → List Out
to k = record { array = k; value = 0 } ∷ []

abbrev pub sum_to : ℕ → (value : ℕ) → List Folding
sum_to w value = record { word = w; kind = Sum; value = value } ∷ []

-- the slots and the steps are those of a program
abbrev pub is_program : List Slot → (words : ℕ) → Prog Part → Bool
is_program slots words p = are_slots slots && are_parts slots words p

-- ---- the sum of an array: x = fill(3, 10); println(sum(x))

abbrev sum_slots : List Slot
sum_slots =
    var_slot 0 0 ∷ node_slot 0 0 ∷ node_slot 4 0 ∷ []

abbrev sum_program : Prog Part
sum_program =
    op (what.Const 0 (pos 3)) (op (what.Const 1 (pos 10)) (op (what.Fill 1 0 1) (op (what.Copy (0 ∷ []) (1 ∷ [])) (
    op (what.Copy (2 ∷ []) (0 ∷ [])) (over (2 ∷ []) (Input 0 ∷ []) [] (sum_to 2 0) (op (what.PrintWord 2 false) (stop)))))))

sum_is_program : is_program sum_slots 3 sum_program ≡ true
unfolding operations tests arrays_of outs sides elem_fits part_fits has_lists Rattle.hp_word.specs.declared.elem.Elem.TheBlock.hidden-the_row-Elem-0 denote.Hole.Carrier.hidden
sum_is_program = refl

sum_talk : Talk sum_slots sum_program (Block ∷ Block ∷ Block ∷ [])
    ≡ Words (2 ∷ []) ∷ GathersWord 2 false ∷ []
unfolding Talk part_sends loop_sends whole_sends output_sends operations arrays_of outs sides
sum_talk = refl

-- ---- a reach longer than a block: println(stencil(x -> x[-3] + x[3], collect(1:4)))

abbrev far_slots : List Slot
far_slots =
    node_slot 9 0 ∷ node_slot 0 0 ∷ balanced_slot 0 ∷ []

abbrev far_program : Prog Part
far_program =
    op (what.Const 0 (pos 1)) (op (what.Const 1 (pos 4)) (op (what.Range 0 0 1) (op (what.Copy (2 ∷ []) (0 ∷ [])) (
    round 2 3 (Calc Add at (Near 0 (negsuc 2)) (Near 0 (pos 3)) ∷ []) (to 1) (op (what.PrintList 1 false) (stop))))))

far_is_program : is_program far_slots 2 far_program ≡ true
unfolding operations tests arrays_of outs sides elem_fits part_fits has_lists Rattle.hp_word.specs.declared.elem.Elem.TheBlock.hidden-the_row-Elem-0 denote.Hole.Carrier.hidden
far_is_program = refl

far_talk : Talk far_slots far_program (Block ∷ Block ∷ Block ∷ [])
    ≡ Moves (2 ∷ []) (Wide 3) ∷ GathersList 1 false ∷ []
unfolding Talk part_sends loop_sends whole_sends output_sends operations arrays_of outs sides
far_talk = refl

-- ---- sums of neighbours in filtered rows: f = DataFrame(v = collect(1:8)); g = filter(f, :v .> 4); s = stencil(x -> x[-1] + x[0] + x[1], g.v); println(s)

abbrev neighbours_slots : List Slot
neighbours_slots =
    var_slot 0 0 ∷ var_slot 1 0 ∷ var_slot 2 0 ∷ node_slot 1 0 ∷ node_slot 0 0 ∷ node_slot 5 0 ∷ node_slot 6 0 ∷ node_slot 7 0 ∷ node_slot 4 0 ∷
    node_slot 22 0 ∷ node_slot 9 0 ∷ balanced_slot 9 ∷ node_slot 23 0 ∷ []

abbrev neighbours_program : Prog Part
neighbours_program =
    op (what.Const 0 (pos 1)) (op (what.Const 1 (pos 8)) (op (what.Range 3 0 1) (op (what.Frame (4 ∷ []) (3 ∷ [])) (
    op (what.Copy (0 ∷ []) (4 ∷ [])) (op (what.Copy (5 ∷ []) (0 ∷ [])) (op (what.Copy (6 ∷ []) (5 ∷ [])) (op (what.Const 2 (pos 4)) (
    over (6 ∷ []) (Calc Gt at (Input 0) (Word 2) ∷ []) (to 7) [] (op (what.Filter (8 ∷ []) (5 ∷ []) 7) (op (what.Copy (1 ∷ []) (8 ∷ [])) (
    op (what.Copy (9 ∷ []) (1 ∷ [])) (op (what.Copy (11 ∷ []) (9 ∷ [])) (
    round 11 1 (Calc Add at (Calc Add at (Near 0 (negsuc 0)) (Near 0 (pos 0))) (Near 0 (pos 1)) ∷ []) (to 10) (op (what.Copy (2 ∷ []) (10 ∷ [])) (
    op (what.Copy (12 ∷ []) (2 ∷ [])) (op (what.PrintList 12 false) (stop)))))))))))))))))

neighbours_is_program : is_program neighbours_slots 3 neighbours_program ≡ true
unfolding operations tests arrays_of outs sides elem_fits part_fits has_lists Rattle.hp_word.specs.declared.elem.Elem.TheBlock.hidden-the_row-Elem-0 denote.Hole.Carrier.hidden
neighbours_is_program = refl

neighbours_talk : Talk neighbours_slots neighbours_program (Block ∷ Var ∷ Block ∷ Block ∷ Block ∷ Block ∷ Block ∷ Block ∷ Var ∷ Var ∷ Block ∷ Block ∷ Block ∷ [])
    ≡ Sizes ∷ Moves (9 ∷ []) Blocks ∷ Moves (11 ∷ []) (Wide 1) ∷ GathersList 12 false ∷ []
unfolding Talk part_sends loop_sends whole_sends output_sends operations arrays_of outs sides
neighbours_talk = refl

-- ---- two filtered halves: f = DataFrame(v = collect(1:8)); g = filter(f, :v .> 4); h = filter(f, :v .< 5); println(g.v .+ h.v)

abbrev halves_slots : List Slot
halves_slots =
    var_slot 0 0 ∷ var_slot 1 0 ∷ var_slot 2 0 ∷ node_slot 1 0 ∷ node_slot 0 0 ∷ node_slot 5 0 ∷ node_slot 6 0 ∷ node_slot 7 0 ∷ node_slot 4 0 ∷
    node_slot 10 0 ∷ node_slot 11 0 ∷ node_slot 12 0 ∷ node_slot 9 0 ∷ node_slot 14 0 ∷ node_slot 16 0 ∷ node_slot 15 0 ∷ []

abbrev halves_program : Prog Part
halves_program =
    op (what.Const 0 (pos 1)) (op (what.Const 1 (pos 8)) (op (what.Range 3 0 1) (op (what.Frame (4 ∷ []) (3 ∷ [])) (
    op (what.Copy (0 ∷ []) (4 ∷ [])) (op (what.Copy (5 ∷ []) (0 ∷ [])) (op (what.Copy (6 ∷ []) (5 ∷ [])) (op (what.Const 2 (pos 4)) (
    over (6 ∷ []) (Calc Gt at (Input 0) (Word 2) ∷ []) (to 7) [] (op (what.Filter (8 ∷ []) (5 ∷ []) 7) (op (what.Copy (1 ∷ []) (8 ∷ [])) (
    op (what.Copy (9 ∷ []) (0 ∷ [])) (op (what.Copy (10 ∷ []) (9 ∷ [])) (op (what.Const 3 (pos 5)) (
    over (10 ∷ []) (Calc Lt at (Input 0) (Word 3) ∷ []) (to 11) [] (op (what.Filter (12 ∷ []) (9 ∷ []) 11) (op (what.Copy (2 ∷ []) (12 ∷ [])) (
    op (what.Copy (13 ∷ []) (1 ∷ [])) (op (what.Copy (14 ∷ []) (2 ∷ [])) (over (13 ∷ 14 ∷ []) (Calc Add at (Input 0) (Input 1) ∷ []) (to 15) [] (
    op (what.PrintList 15 false) (stop)))))))))))))))))))))

halves_is_program : is_program halves_slots 4 halves_program ≡ true
unfolding operations tests arrays_of outs sides elem_fits part_fits has_lists Rattle.hp_word.specs.declared.elem.Elem.TheBlock.hidden-the_row-Elem-0 denote.Hole.Carrier.hidden
halves_is_program = refl

halves_talk : Talk halves_slots halves_program (Block ∷ Var ∷ Var ∷ Block ∷ Block ∷ Block ∷ Block ∷ Block ∷ Var ∷ Block ∷ Block ∷ Block ∷ Var ∷ Var ∷ Var ∷ Var ∷ [])
    ≡ Sizes ∷ Sizes ∷ Moves (14 ∷ []) (Like 13) ∷ GathersList 15 false ∷ []
unfolding Talk part_sends loop_sends whole_sends output_sends operations arrays_of outs sides
halves_talk = refl

-- ---- a join of two tables: l = read_csv("l.csv", :id, :a); r = read_csv("r.csv", :id, :b); j = join(l, r, :id); write_csv(sort(j, :id))

abbrev joined_slots : List Slot
joined_slots =
    var_slot 0 0 ∷ var_slot 0 1 ∷ var_slot 1 0 ∷ var_slot 1 1 ∷ var_slot 2 0 ∷ var_slot 2 1 ∷ var_slot 2 2 ∷ node_slot 0 0 ∷ node_slot 0 1 ∷
    node_slot 4 0 ∷ node_slot 4 1 ∷ node_slot 9 0 ∷ node_slot 9 1 ∷ node_slot 10 0 ∷ node_slot 10 1 ∷ node_slot 8 0 ∷ node_slot 8 1 ∷ node_slot 8 2 ∷
    node_slot 13 0 ∷ node_slot 13 1 ∷ node_slot 13 2 ∷ node_slot 12 0 ∷ node_slot 12 1 ∷ node_slot 12 2 ∷ []

abbrev joined_program : Prog Part
joined_program =
    op (what.Read (7 ∷ 8 ∷ []) 0) (op (what.Copy (0 ∷ 1 ∷ []) (7 ∷ 8 ∷ [])) (op (what.Read (9 ∷ 10 ∷ []) 1) (
    op (what.Copy (2 ∷ 3 ∷ []) (9 ∷ 10 ∷ [])) (op (what.Copy (11 ∷ 12 ∷ []) (0 ∷ 1 ∷ [])) (op (what.Copy (13 ∷ 14 ∷ []) (2 ∷ 3 ∷ [])) (
    op (what.Join (15 ∷ 16 ∷ 17 ∷ []) (11 ∷ 12 ∷ []) 0 (13 ∷ 14 ∷ []) 0) (op (what.Copy (4 ∷ 5 ∷ 6 ∷ []) (15 ∷ 16 ∷ 17 ∷ [])) (
    op (what.Copy (18 ∷ 19 ∷ 20 ∷ []) (4 ∷ 5 ∷ 6 ∷ [])) (op (what.Sort (21 ∷ 22 ∷ 23 ∷ []) (18 ∷ 19 ∷ 20 ∷ []) 0) (
    op (what.Export (21 ∷ 22 ∷ 23 ∷ []) (record { bytes = [] } ∷ record { bytes = [] } ∷ record { bytes = [] } ∷ [])) (stop)))))))))))

joined_is_program : is_program joined_slots 0 joined_program ≡ true
unfolding operations tests arrays_of outs sides elem_fits part_fits has_lists Rattle.hp_word.specs.declared.elem.Elem.TheBlock.hidden-the_row-Elem-0 denote.Hole.Carrier.hidden
joined_is_program = refl

joined_talk : Talk joined_slots joined_program (Block ∷ Block ∷ Block ∷ Block ∷ Var ∷ Var ∷ Var ∷ Block ∷ Block ∷ Block ∷ Block ∷ Block ∷ Block ∷ Block ∷ Block ∷ Var ∷ Var ∷ Var ∷ Var ∷ Var ∷ Var ∷ Rep ∷ Rep ∷ Rep ∷ [])
    ≡ Hashes (11 ∷ 12 ∷ []) 0 ∷ Hashes (13 ∷ 14 ∷ []) 0 ∷ Sizes ∷ Moves (18 ∷ 19 ∷ 20 ∷ []) Whole ∷
    GathersTable (21 ∷ 22 ∷ 23 ∷ []) (record { bytes = [] } ∷ record { bytes = [] } ∷ record { bytes = [] } ∷ []) ∷ []
unfolding Talk part_sends loop_sends whole_sends output_sends operations arrays_of outs sides
joined_talk = refl

-- ---- a report of sales, with a right side that lies whole: s = read_csv("sales.csv", :store, :amount); d = sort(read_csv("stores.csv", :store, :region), :store); big = filter(s, :amount .>= 50); j = join(big, d, :store); a = aggregate(j, :region, total = sum(:amount), n = count()); write_csv(sort(a, :region))

abbrev sales_slots : List Slot
sales_slots =
    var_slot 0 0 ∷ var_slot 0 1 ∷ var_slot 1 0 ∷ var_slot 1 1 ∷ var_slot 2 0 ∷ var_slot 2 1 ∷ var_slot 3 0 ∷ var_slot 3 1 ∷ var_slot 3 2 ∷
    var_slot 4 0 ∷ var_slot 4 1 ∷ var_slot 4 2 ∷ node_slot 0 0 ∷ node_slot 0 1 ∷ node_slot 5 0 ∷ node_slot 5 1 ∷ node_slot 4 0 ∷ node_slot 4 1 ∷
    node_slot 11 0 ∷ node_slot 11 1 ∷ node_slot 12 0 ∷ node_slot 13 0 ∷ node_slot 10 0 ∷ node_slot 10 1 ∷ node_slot 16 0 ∷ node_slot 16 1 ∷
    node_slot 17 0 ∷ node_slot 17 1 ∷ node_slot 15 0 ∷ node_slot 15 1 ∷ node_slot 15 2 ∷ node_slot 20 0 ∷ node_slot 20 1 ∷ node_slot 20 2 ∷
    node_slot 19 0 ∷ node_slot 19 1 ∷ node_slot 19 2 ∷ node_slot 26 0 ∷ node_slot 26 1 ∷ node_slot 26 2 ∷ node_slot 25 0 ∷ node_slot 25 1 ∷
    node_slot 25 2 ∷ []

abbrev sales_program : Prog Part
sales_program =
    op (what.Read (12 ∷ 13 ∷ []) 0) (op (what.Copy (0 ∷ 1 ∷ []) (12 ∷ 13 ∷ [])) (op (what.Read (14 ∷ 15 ∷ []) 1) (
    op (what.Sort (16 ∷ 17 ∷ []) (14 ∷ 15 ∷ []) 0) (op (what.Copy (2 ∷ 3 ∷ []) (16 ∷ 17 ∷ [])) (op (what.Copy (18 ∷ 19 ∷ []) (0 ∷ 1 ∷ [])) (
    op (what.Copy (20 ∷ []) (19 ∷ [])) (op (what.Const 0 (pos 50)) (over (20 ∷ []) (Calc Ge at (Input 0) (Word 0) ∷ []) (to 21) [] (
    op (what.Filter (22 ∷ 23 ∷ []) (18 ∷ 19 ∷ []) 21) (op (what.Copy (4 ∷ 5 ∷ []) (22 ∷ 23 ∷ [])) (op (what.Copy (24 ∷ 25 ∷ []) (4 ∷ 5 ∷ [])) (
    op (what.Copy (26 ∷ 27 ∷ []) (2 ∷ 3 ∷ [])) (op (what.Join (28 ∷ 29 ∷ 30 ∷ []) (24 ∷ 25 ∷ []) 0 (26 ∷ 27 ∷ []) 0) (
    op (what.Copy (6 ∷ 7 ∷ 8 ∷ []) (28 ∷ 29 ∷ 30 ∷ [])) (op (what.Copy (31 ∷ 32 ∷ 33 ∷ []) (6 ∷ 7 ∷ 8 ∷ [])) (
    op (what.Group (34 ∷ 35 ∷ 36 ∷ []) (31 ∷ 32 ∷ 33 ∷ []) 2 (record { kind = measures.Sum; column = 1 } ∷ record { kind = measures.Count; column = 0 } ∷ [])) (
    op (what.Copy (9 ∷ 10 ∷ 11 ∷ []) (34 ∷ 35 ∷ 36 ∷ [])) (op (what.Copy (37 ∷ 38 ∷ 39 ∷ []) (9 ∷ 10 ∷ 11 ∷ [])) (
    op (what.Sort (40 ∷ 41 ∷ 42 ∷ []) (37 ∷ 38 ∷ 39 ∷ []) 0) (
    op (what.Export (40 ∷ 41 ∷ 42 ∷ []) (record { bytes = [] } ∷ record { bytes = [] } ∷ record { bytes = [] } ∷ [])) (stop)))))))))))))))))))))

sales_is_program : is_program sales_slots 1 sales_program ≡ true
unfolding operations tests arrays_of outs sides elem_fits part_fits has_lists Rattle.hp_word.specs.declared.elem.Elem.TheBlock.hidden-the_row-Elem-0 denote.Hole.Carrier.hidden
sales_is_program = refl

sales_talk : Talk sales_slots sales_program (Block ∷ Block ∷ Rep ∷ Rep ∷ Var ∷ Var ∷ Var ∷ Var ∷ Var ∷ Var ∷ Var ∷ Var ∷ Block ∷ Block ∷ Block ∷ Block ∷ Rep ∷ Rep ∷ Block ∷ Block ∷ Block ∷ Block ∷ Var ∷ Var ∷ Var ∷ Var ∷ Rep ∷ Rep ∷ Var ∷ Var ∷ Var ∷ Var ∷ Var ∷ Var ∷ Var ∷ Var ∷ Var ∷ Var ∷ Var ∷ Var ∷ Rep ∷ Rep ∷ Rep ∷ [])
    ≡ Moves (14 ∷ 15 ∷ []) Whole ∷ Sizes ∷ Sizes ∷ Hashes (31 ∷ 32 ∷ 33 ∷ []) 2 ∷ Sizes ∷ Moves (37 ∷ 38 ∷ 39 ∷ []) Whole ∷
    GathersTable (40 ∷ 41 ∷ 42 ∷ []) (record { bytes = [] } ∷ record { bytes = [] } ∷ record { bytes = [] } ∷ []) ∷ []
unfolding Talk part_sends loop_sends whole_sends output_sends operations arrays_of outs sides
sales_talk = refl
