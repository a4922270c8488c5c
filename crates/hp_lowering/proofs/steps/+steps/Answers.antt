use Rattle.std.proofs.Common.{◌≡◌, ◌∙◌, ap, List, ◌+◌, ◌∷◌, ◌++◌, [], length, Some, None}
use Rattle.std.proofs.lemmas.Result.{IfOk-weaker}
use Rattle.hp_air.specs.Placed.{dist_at}
use Rattle.hp_spmd.specs.declared.instr.Instr.{Instr}
use Rattle.hp_spmd.specs.declared.instr.Instr.TheVariants as instr
use Rattle.hp_lowering.specs.CodeOf.{code_from}
use Rattle.hp_lowering.specs.PartCode.{part_code}
use Rattle.hp_lowering.specs.Room.{room_of}
use Rattle.hp_parfor.specs.Parts.{Does, Loops, program_of}
use Rattle.hp_lowering.proofs.StepCodes.{branch_step, loop_step, next_step, no_steps, plain_step, turns_step}
use Rattle.hp_lowering.proofs.steps.+steps.Goals as goal

pub step_code-returns-in-Plain : goal.step_code-returns-in-Plain
step_code-returns-in-Plain t c =
    let code = part_code (room_of c.args.plan.now.slots.now c.args.plan.now.words) c.args.plan.now.slots.now (dist_at c.args.plan.now.dists.now) in
    IfOk-weaker c.operation_code.result (λ (l : List Instr). l ≡ code (Does c.in-Plain.op)) (λ (l : List Instr). l ≡ code_from code c.args.place (program_of (c.args.step.now ∷ []))) (λ l e. e ∙ plain_step code c.args.place c.in-Plain.op c.args.step.now c.in-Plain.is) c.operation_code.ensures

pub step_code-returns-in-Loop : goal.step_code-returns-in-Loop
step_code-returns-in-Loop t c =
    let code = part_code (room_of c.args.plan.now.slots.now c.args.plan.now.words) c.args.plan.now.slots.now (dist_at c.args.plan.now.dists.now) in
    IfOk-weaker c.loop_code.result (λ (l : List Instr). l ≡ code (Loops c.in-Loop.p)) (λ (l : List Instr). l ≡ code_from code c.args.place (program_of (c.args.step.now ∷ []))) (λ l e. e ∙ loop_step code c.args.place c.in-Loop.p c.args.step.now c.in-Loop.is) c.loop_code.ensures

pub steps_code-loop-step-preserved : goal.steps_code-loop-step-preserved
steps_code-loop-step-preserved t c =
    let code = part_code (room_of c.args.plan.now.slots.now c.args.plan.now.words) c.args.plan.now.slots.now (dist_at c.args.plan.now.dists.now) in
    next_step code c.args.place c.args.steps.now c.loop-step.step-index c.step-item.result c.loop-step.list c.in_ok-code.code c.append.new.list c.in_ok-here.here c.loop-step-test.true c.step-item.is c.loop-step.invariant
    (c.in_ok-here.ensures ∙ ap (λ n. c.args.place + n) c.len.ensures) c.in_ok-code.ensures c.in_ok-append.ensures

pub step_code-returns-in_ok-second-in-If : goal.step_code-returns-in_ok-second-in-If
step_code-returns-in_ok-second-in-If t c =
    let code = part_code (room_of c.args.plan.now.slots.now c.args.plan.now.words) c.args.plan.now.slots.now (dist_at c.args.plan.now.dists.now) in
    let ones = c.in_ok-first-in-If.first in
    let others = c.in_ok-second-in-If.second in
    let other = c.in_ok-other-in-If.other in
    IfOk-weaker c.branch-alloc.result (λ (l : List Instr). l ≡ instr.Jump other (Some c.in-If.word) ∷ (ones ++ (instr.Jump (other + length others) None ∷ others))) (λ (l : List Instr). l ≡ code_from code c.args.place (program_of (c.args.step.now ∷ [])))
    (λ l e. branch_step code c.args.place c.in-If.word other c.in-If.first c.in-If.second c.args.step.now ones others l c.in-If.is
    ((rw c.as_slice.ensures at c.in_ok-first-in-If.ensures) ∙ ap (λ k. code_from code k (program_of c.in-If.first)) c.in_ok-within-in-If.ensures)
    (c.in_ok-other-in-If.ensures ∙ ap (λ k. k + 2) (c.in_ok-last-in-If.ensures ∙ ap (λ n. c.args.place + n) c.len.ensures))
    (rw c.as_slice-in-If.ensures at c.in_ok-second-in-If.ensures) e)
    c.branch-alloc.ensures

pub step_code-returns-in_ok-body-in-While : goal.step_code-returns-in_ok-body-in-While
step_code-returns-in_ok-body-in-While t c =
    let code = part_code (room_of c.args.plan.now.slots.now c.args.plan.now.words) c.args.plan.now.slots.now (dist_at c.args.plan.now.dists.now) in
    let look = c.in_ok-test-in-While.test in
    let turn = c.in_ok-body-in-While.body in
    let inside = c.in_ok-inside-in-While.inside in
    IfOk-weaker c.turns.result (λ (l : List Instr). l ≡ look ++ (instr.Jump (inside + length turn + 1) (Some c.in-While.word) ∷ (turn ++ (instr.Jump c.args.place None ∷ [])))) (λ (l : List Instr). l ≡ code_from code c.args.place (program_of (c.args.step.now ∷ [])))
    (λ l e. turns_step code c.args.place c.in-While.word inside c.in-While.test c.in-While.body c.args.step.now look turn l c.in-While.is (rw c.as_slice-in-While.ensures at c.in_ok-test-in-While.ensures)
    (c.in_ok-inside-in-While.ensures ∙ ap (λ k. k + 1) (c.in_ok-look-in-While.ensures ∙ ap (λ n. c.args.place + n) c.len-in-While.ensures))
    (rw c.as_slice-in-While-2.ensures at c.in_ok-body-in-While.ensures) e)
    c.turns.ensures

pub steps_code-loop-step-init : goal.steps_code-loop-step-init
steps_code-loop-step-init t c = no_steps (part_code (room_of c.args.plan.now.slots.now c.args.plan.now.words) c.args.plan.now.slots.now (dist_at c.args.plan.now.dists.now)) c.args.place c.new-list.result c.new-list.ensures
