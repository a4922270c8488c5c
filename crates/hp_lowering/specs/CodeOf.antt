-- The instructions of a program, where each step has its own: branches and loops are jumps between them.
use Rattle.std.specs.Prelude.{◌≡◌, ℕ, ◌+◌, pos, Some, None, List, [], ◌∷◌, ◌++◌, length, refl}
use Rattle.hp_lattice.specs.declared.dist.Dist.{Dist}
use Rattle.hp_spmd.specs.declared.instr.Instr.{Instr}
use Rattle.hp_spmd.specs.declared.instr.Instr.TheVariants as instr
use Rattle.hp_program.specs.Programs.{Prog, stop, plain, choose, loop}
use Rattle.hp_air.specs.declared.slot.Slot.{Slot}
use Rattle.hp_air.specs.Placed.{dist_at}
use Rattle.hp_parfor.specs.Parts.{Part}
use Rattle.hp_lowering.specs.PartCode.{part_code}
use Rattle.hp_lowering.specs.Room.{room_of}

-- The instructions of a program from a place on. A branch whose word is 0 goes to its second steps, and the first steps go
-- behind those. A loop makes its test's word; where that is 0 it goes behind its steps, and these go back to the test.
unfoldable pub code_from : {Op : Type 0} → (Op → List Instr) → (place : ℕ) → Prog Op → List Instr
code_from steps place stop = []
code_from steps place (plain op p) = steps op ++ code_from steps (place + length (steps op)) p
code_from steps place (choose w first second p) =
    let yes = code_from steps (place + 1) first in
    let other = place + length yes + 2 in
    let no = code_from steps other second in
    let behind = other + length no in
    instr.Jump other (Some w) ∷ (yes ++ (instr.Jump behind None ∷ (no ++ code_from steps behind p)))
code_from steps place (loop test w body p) =
    let look = code_from steps place test in
    let inside = place + length look + 1 in
    let turn = code_from steps inside body in
    let behind = inside + length turn + 1 in
    look ++ (instr.Jump behind (Some w) ∷ (turn ++ (instr.Jump place None ∷ code_from steps behind p)))

-- the whole code of a program with loops, whose slots have these distributions
unfoldable pub code_list : List Slot → (words : ℕ) → Prog Part → List Dist → List Instr
code_list slots words p dists = code_from (part_code (room_of slots words) slots (dist_at dists)) 0 p ++ (instr.Halt ∷ [])

-- ---- worked rows: each step is one instruction, which sets the word of its number

abbrev setting : ℕ → List Instr
setting w = instr.Const w (pos 1) ∷ []

branch_row : code_from setting 5 (choose 0 (plain 1 stop) (plain 2 (plain 3 stop)) (plain 4 stop))
    ≡ instr.Jump 8 (Some 0) ∷ instr.Const 1 (pos 1) ∷ instr.Jump 10 None ∷ instr.Const 2 (pos 1) ∷ instr.Const 3 (pos 1) ∷ instr.Const 4 (pos 1) ∷ []
unfolding code_from
branch_row = refl

loop_row : code_from setting 5 (loop (plain 0 stop) 0 (plain 1 (plain 2 stop)) (plain 3 stop))
    ≡ instr.Const 0 (pos 1) ∷ instr.Jump 10 (Some 0) ∷ instr.Const 1 (pos 1) ∷ instr.Const 2 (pos 1) ∷ instr.Jump 5 None ∷ instr.Const 3 (pos 1) ∷ []
unfolding code_from
loop_row = refl
