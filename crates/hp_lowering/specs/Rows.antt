-- Worked rows: the codes of short scripts, as programs with loops written by hand. The slots are those of the variables in the
-- order of the text, then those of the expressions.
use Rattle.std.specs.Prelude.{◌≡◌, ℕ, pos, true, false, List, [], ◌∷◌, refl}
use Rattle.hp_word.specs.declared.elem.Elem.TheVariants.{Input}
use Rattle.hp_word.specs.declared.fold.FoldKind.{FoldKind}
use Rattle.hp_word.specs.declared.fold.FoldKind.TheVariants.{Sum, Min}
use Rattle.hp_word.specs.declared.place.Place.{Place}
use Rattle.hp_lattice.specs.declared.dist.Dist.TheVariants.{Rep, Var, Block}
use Rattle.hp_spmd.specs.declared.instr.CheckRule.TheVariants as check
use Rattle.hp_spmd.specs.declared.instr.Folding.{Folding}
use Rattle.hp_spmd.specs.declared.instr.Instr.TheVariants as instr
use Rattle.hp_spmd.specs.declared.instr.Need.TheVariants.{Like}
use Rattle.hp_spmd.specs.declared.instr.Output.TheVariants as output
use Rattle.hp_spmd.specs.declared.instr.Packing.TheVariants as packing
use Rattle.hp_spmd.specs.declared.instr.Unpacking.TheVariants as unpacking
use Rattle.hp_program.specs.Programs.{Prog, stop}
use Rattle.hp_air.specs.declared.slot.Slot.{Slot}
use Rattle.hp_air.specs.declared.what.What.TheVariants as what
use Rattle.hp_air.specs.Arrays.{arrays_of, outs, sides}
use Rattle.hp_air.specs.Frames.{node_slot, var_slot}
use Rattle.hp_parfor.specs.Parts.{Part, Loops}
use Rattle.hp_parfor.specs.TalkRows.{op, over}
use Rattle.hp_lowering.specs.CodeOf.{code_from, code_list}
use Rattle.hp_lowering.specs.PartCode.{loop_code, part_code, whole_code}

abbrev at : Place
at = record { line = 1; col = 1 }

abbrev fold : (word : ℕ) → FoldKind → Folding
fold word kind = record { word = word; kind = kind; value = 0 }

-- ---- x = fill(3, 10); println(sum(x))

abbrev sum_slots : List Slot
sum_slots = var_slot 0 0 ∷ node_slot 0 0 ∷ node_slot 4 0 ∷ []

abbrev sum_program : Prog Part
sum_program =
    op (what.Const 0 (pos 3)) (op (what.Const 1 (pos 10)) (op (what.Fill 1 0 1) (op (what.Copy (0 ∷ []) (1 ∷ [])) (
    op (what.Copy (2 ∷ []) (0 ∷ [])) (over (2 ∷ []) (Input 0 ∷ []) [] (fold 2 Sum ∷ []) (op (what.PrintWord 2 false) stop))))))

sum_code : code_list sum_slots 3 sum_program (Block ∷ Block ∷ Block ∷ [])
    ≡ instr.Const 0 (pos 3) ∷ instr.Const 1 (pos 10) ∷ instr.Fill 1 0 1 at ∷ instr.Copy (0 ∷ []) (1 ∷ []) ∷ instr.Copy (2 ∷ []) (0 ∷ [])
    ∷ instr.Check (2 ∷ 2 ∷ []) check.Equal at
    ∷ instr.Loop (record { leader = 2; inputs = 2 ∷ []; halos = []; lets = Input 0 ∷ []; outs = []; folds = fold 2 Sum ∷ [] })
    ∷ instr.Pack (packing.Words (2 ∷ [])) ∷ instr.Post false ∷ instr.Take false ∷ instr.Unpack (unpacking.Folds ((2, Sum) ∷ []))
    ∷ instr.Pack (packing.Gather (output.Word 2 false)) ∷ instr.Post true ∷ instr.Take true ∷ instr.Write (output.Word 2 false) ∷ instr.Halt ∷ []
unfolding code_list code_from part_code whole_code loop_code arrays_of outs sides
sum_code = refl

-- ---- println(minimum(collect(5:6))): whether there is a place is looked at before the loop

abbrev least_slots : List Slot
least_slots = node_slot 2 0 ∷ []

abbrev least_program : Prog Part
least_program = op (what.Const 0 (pos 5)) (op (what.Const 1 (pos 6)) (op (what.Range 0 0 1) (over (0 ∷ []) (Input 0 ∷ []) [] (fold 2 Min ∷ []) (op (what.PrintWord 2 false) stop))))

least_code : code_list least_slots 3 least_program (Block ∷ [])
    ≡ instr.Const 0 (pos 5) ∷ instr.Const 1 (pos 6) ∷ instr.Range 0 0 1 at
    ∷ instr.Check (0 ∷ 0 ∷ []) check.Equal at ∷ instr.Check (0 ∷ []) check.Some at
    ∷ instr.Loop (record { leader = 0; inputs = 0 ∷ []; halos = []; lets = Input 0 ∷ []; outs = []; folds = fold 2 Min ∷ [] })
    ∷ instr.Pack (packing.Words (2 ∷ [])) ∷ instr.Post false ∷ instr.Take false ∷ instr.Unpack (unpacking.Folds ((2, Min) ∷ []))
    ∷ instr.Pack (packing.Gather (output.Word 2 false)) ∷ instr.Post true ∷ instr.Take true ∷ instr.Write (output.Word 2 false) ∷ instr.Halt ∷ []
unfolding code_list code_from part_code whole_code loop_code arrays_of outs sides
least_code = refl

-- ---- the same loop over an array that is whole on each rank sends nothing

alone_code : part_code (record { slots = 1; words = 3; matrix = λ k. false }) least_slots (λ k. Rep) (Loops (record { leader = 0; inputs = 0 ∷ []; halos = []; lets = Input 0 ∷ []; outs = []; folds = fold 2 Sum ∷ []; at = at }))
    ≡ instr.Check (0 ∷ 0 ∷ []) check.Equal at ∷ instr.Loop (record { leader = 0; inputs = 0 ∷ []; halos = []; lets = Input 0 ∷ []; outs = []; folds = fold 2 Sum ∷ [] }) ∷ []
unfolding part_code loop_code
alone_code = refl

-- ---- the second of two arrays in uneven pieces is moved to the pieces of the first, into the spare array of its place behind three slots

moved_code : part_code (record { slots = 3; words = 0; matrix = λ k. false }) [] (λ k. Var) (Loops (record { leader = 0; inputs = 0 ∷ 1 ∷ []; halos = []; lets = Input 1 ∷ []; outs = record { array = 2; value = 0 } ∷ []; folds = []; at = at }))
    ≡ instr.Check (0 ∷ 0 ∷ 1 ∷ []) check.Equal at
    ∷ instr.Pack (packing.Move (1 ∷ []) (Like 0)) ∷ instr.Post false ∷ instr.Take false ∷ instr.Unpack (unpacking.Moved (4 ∷ []) (1 ∷ []) (Like 0))
    ∷ instr.Loop (record { leader = 0; inputs = 0 ∷ 4 ∷ []; halos = []; lets = Input 1 ∷ []; outs = record { array = 2; value = 0 } ∷ []; folds = [] }) ∷ []
unfolding part_code loop_code
moved_code = refl
