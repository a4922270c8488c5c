-- The code of steps that follow each other, and of one step with steps in it.
use Rattle.std.proofs.Common.{◌≡◌, ◌∙◌, refl, sym, ap, ℕ, ◌+◌, ◌<◌, List, [], ◌∷◌, ◌++◌, take, get_or, append-nil, length, Some, None}
use Rattle.std.proofs.lemmas.List.{take_more}
use Rattle.hp_spmd.specs.declared.instr.Instr.{Instr}
use Rattle.hp_spmd.specs.declared.instr.Instr.TheVariants as instr
use Rattle.hp_air.specs.declared.what.Op.{Op}
use Rattle.hp_program.specs.Programs.{stop, choose, loop}
use Rattle.hp_parfor.specs.declared.parfor.Parfor.{Parfor}
use Rattle.hp_parfor.specs.declared.parfor.Step.{Step}
use Rattle.hp_parfor.specs.declared.parfor.Step.TheVariants as step
use Rattle.hp_parfor.specs.declared.parfor.Step.TheViews.{If, While}
use Rattle.hp_parfor.specs.Parts.{Part, Does, Loops, program_of, step_of}
use Rattle.hp_parfor.proofs.StepLemmas.{row_steps, steps_joined}
use Rattle.hp_lowering.specs.CodeOf.{code_from}
use Rattle.hp_lowering.proofs.CodeNames.{code_joined}

module _ (code : Part → List Instr) where
  pub no_steps : (place : ℕ) (list : List Instr) → list ≡ [] → list ≡ code_from code place (program_of [])
  unfolding code_from program_of
  no_steps place list is = is

  -- one step more
  pub next_step : (place : ℕ) (steps : List Step) (i : ℕ) (s : Step) (list more new : List Instr) (here : ℕ) → i < length steps → s ≡ get_or steps i s → list ≡ code_from code place (program_of (take i steps))
      → here ≡ place + length list → more ≡ code_from code here (program_of (s ∷ [])) → new ≡ list ++ more → new ≡ code_from code place (program_of (take (i + 1) steps))
  next_step place steps i s list more new here lt is so at it both =
      both
      ∙ ap (λ l. list ++ l) (it ∙ ap (λ k. code_from code k (program_of (s ∷ []))) (at ∙ ap (λ l. place + length l) so))
      ∙ ap (λ l. l ++ code_from code (place + length (code_from code place (program_of (take i steps)))) (program_of (s ∷ []))) so
      ∙ sym (code_joined code place (program_of (take i steps)) (program_of (s ∷ [])))
      ∙ ap (code_from code place) (sym (steps_joined (take i steps) (s ∷ [])))
      ∙ ap (λ (l : List Step). code_from code place (program_of l)) (ap (λ (x : Step). take i steps ++ x ∷ []) is ∙ sym (take_more steps i s lt))

  pub plain_step : (place : ℕ) (op : Op) (s : Step) → s ≡ step.Plain op → code (Does op) ≡ code_from code place (program_of (s ∷ []))
  unfolding code_from program_of step_of
  plain_step place op s is = sym (ap (λ (x : Step). code_from code place (program_of (x ∷ []))) is ∙ append-nil (code (Does op)))

  pub loop_step : (place : ℕ) (p : Parfor) (s : Step) → s ≡ step.Loop p → code (Loops p) ≡ code_from code place (program_of (s ∷ []))
  unfolding code_from program_of step_of
  loop_step place p s is = sym (ap (λ (x : Step). code_from code place (program_of (x ∷ []))) is ∙ append-nil (code (Loops p)))

  choice_code : (place word : ℕ) (first second : List Step) → code_from code place (program_of (If word first second ∷ []))
      ≡ code_from code place (choose word (program_of first) (program_of second) stop)
  unfolding program_of step_of
  choice_code place word first second = rw (row_steps first, row_steps second) refl

  turns_code : (place word : ℕ) (test body : List Step) → code_from code place (program_of (While test word body ∷ []))
      ≡ code_from code place (loop (program_of test) word (program_of body) stop)
  unfolding program_of step_of
  turns_code place word test body = rw (row_steps test, row_steps body) refl

  -- a branch, of the code of its steps
  pub branch_step : (place word other : ℕ) (first second : List Step) (s : Step) (ones others list : List Instr) → s ≡ If word first second → ones ≡ code_from code (place + 1) (program_of first) → other ≡ place + length ones + 2
      → others ≡ code_from code other (program_of second) → list ≡ instr.Jump other (Some word) ∷ (ones ++ (instr.Jump (other + length others) None ∷ others)) → list ≡ code_from code place (program_of (s ∷ []))
  unfolding code_from
  branch_step place word other first second s ones others list is a b c made =
      let first_code = code_from code (place + 1) (program_of first) in
      let there = place + length first_code + 2 in
      let second_code = code_from code there (program_of second) in
      let at : other ≡ there = b ∙ ap (λ (l : List Instr). place + length l + 2) a in
      let second_is : others ≡ second_code = c ∙ ap (λ k. code_from code k (program_of second)) at in
      made
      ∙ ap (λ k. instr.Jump k (Some word) ∷ (ones ++ (instr.Jump (k + length others) None ∷ others))) at
      ∙ ap (λ (l : List Instr). instr.Jump there (Some word) ∷ (l ++ (instr.Jump (there + length others) None ∷ others))) a
      ∙ ap (λ (l : List Instr). instr.Jump there (Some word) ∷ (first_code ++ (instr.Jump (there + length l) None ∷ l))) second_is
      ∙ ap (λ (l : List Instr). instr.Jump there (Some word) ∷ (first_code ++ (instr.Jump (there + length second_code) None ∷ l))) (sym (append-nil second_code))
      ∙ sym (ap (λ (x : Step). code_from code place (program_of (x ∷ []))) is ∙ choice_code place word first second)

  -- turns, of the code of their test and body
  pub turns_step : (place word inside : ℕ) (test body : List Step) (s : Step) (look turn list : List Instr) → s ≡ While test word body → look ≡ code_from code place (program_of test) → inside ≡ place + length look + 1
      → turn ≡ code_from code inside (program_of body) → list ≡ look ++ (instr.Jump (inside + length turn + 1) (Some word) ∷ (turn ++ (instr.Jump place None ∷ []))) → list ≡ code_from code place (program_of (s ∷ []))
  unfolding code_from
  turns_step place word inside test body s look turn list is a b c made =
      let look_is = code_from code place (program_of test) in
      let there = place + length look_is + 1 in
      let turn_is = code_from code there (program_of body) in
      let at : inside ≡ there = b ∙ ap (λ (l : List Instr). place + length l + 1) a in
      let body_is : turn ≡ turn_is = c ∙ ap (λ k. code_from code k (program_of body)) at in
      made
      ∙ ap (λ (l : List Instr). l ++ (instr.Jump (inside + length turn + 1) (Some word) ∷ (turn ++ (instr.Jump place None ∷ [])))) a
      ∙ ap (λ k. look_is ++ (instr.Jump (k + length turn + 1) (Some word) ∷ (turn ++ (instr.Jump place None ∷ [])))) at
      ∙ ap (λ (l : List Instr). look_is ++ (instr.Jump (there + length l + 1) (Some word) ∷ (l ++ (instr.Jump place None ∷ [])))) body_is
      ∙ sym (ap (λ (x : Step). code_from code place (program_of (x ∷ []))) is ∙ turns_code place word test body)
