-- Worked rows: `println(sum(fill(1, 4) .+ 1))` as two loops, and as one.
use Rattle.std.proofs.Common.{arith}
use Rattle.std.specs.Prelude.{◌≡◌, pos, true, false, List, [], ◌∷◌, refl}
use Rattle.hp_word.specs.declared.elem.Elem.{Elem}
use Rattle.hp_word.specs.declared.elem.Elem.TheVariants.{Input, Earlier, Word}
use Rattle.hp_word.specs.declared.elem.Elem.TheViews.{Calc}
use Rattle.hp_word.specs.declared.word.CalcOp.TheVariants.{Add}
use Rattle.hp_lattice.specs.declared.dist.Dist.{Dist}
use Rattle.hp_lattice.specs.declared.dist.Dist.TheVariants.{Block}
use Rattle.hp_program.specs.Programs.{Prog, stop}
use Rattle.hp_air.specs.declared.what.What.TheVariants as what
use Rattle.hp_air.specs.Placed.{dist_at}
use Rattle.hp_parfor.specs.Fusion.{is_fusable, is_fused, words_read, part_words, Shrunk, no_step, operation, run_of_loops}
use Rattle.hp_parfor.specs.LoopMeaning.{loop_moves}
use Rattle.hp_parfor.specs.Parts.{Part}
use Rattle.hp_parfor.specs.TalkRows.{at, op, over, to, sum_to}

-- the words 0 to 2 are 1, 4 and the 1 that is added, the word 3 is the sum; the slots 0 and 1 are the filled array and
-- what is added up
abbrev filled : Prog Part → Prog Part
filled rest = op (what.Const 0 (pos 1)) (op (what.Const 1 (pos 4)) (op (what.Fill 0 0 1) (op (what.Const 2 (pos 1)) rest)))

abbrev printed : Prog Part
printed = op (what.PrintWord 3 false) stop

abbrev one_more : Elem
one_more = Calc Add at (Input 0) (Word 2)

abbrev two_loops : Prog Part
two_loops = filled (over (0 ∷ []) (one_more ∷ []) (to 1) [] (over (1 ∷ []) (Input 0 ∷ []) [] (sum_to 3 0) printed))

abbrev one_loop : Prog Part
one_loop = filled (over (0 ∷ []) (one_more ∷ Earlier 0 ∷ []) (to 1) (sum_to 3 1) printed)

abbrev blocks : List Dist
blocks = Block ∷ Block ∷ []

fused_rows : (is_fused (dist_at blocks) two_loops ≡ false) × (is_fused (dist_at blocks) one_loop ≡ true)
unfolding is_fused is_fusable loop_moves words_read part_words Rattle.hp_word.specs.declared.elem.Elem.TheBlock.hidden-the_row-Elem-0 denote.Hole.Carrier.hidden
fused_rows = (refl, refl)

shrunk_row : Shrunk two_loops one_loop
shrunk_row =
    operation (operation (operation (operation
    (run_of_loops (_ ∷ _ ∷ []) (_ ∷ []) (omega arith) (omega arith) refl (operation no_step)))))
