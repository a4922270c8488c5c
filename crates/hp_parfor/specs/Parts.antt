-- The steps of a program with loops, seen as a program.
use Rattle.std.specs.Prelude.{ℕ, List, [], ◌∷◌, ◌++◌, map}
use Rattle.hp_program.specs.Programs.{Prog, stop, plain, choose, loop}
use Rattle.hp_air.specs.declared.what.Op.{Op}
use Rattle.hp_air.specs.Arrays.{arrays_of, outs, reads}
use Rattle.hp_parfor.specs.declared.parfor.Parfor.{Parfor}
use Rattle.hp_parfor.specs.declared.parfor.Step.{Step}
use Rattle.hp_parfor.specs.declared.parfor.Step.TheVariants as steps
use Rattle.hp_parfor.specs.declared.parfor.Step.TheBlock.{Row_of-Step, end_of-Step, more_of-Step}

-- ---- parts

-- a step that has no steps in it: an operation on whole arrays, or a loop
pub data Part : Type 0 where
  Does : Op → Part
  Loops : Parfor → Part

unfoldable mutual
  -- a step, with the steps behind it
  pub step_of : Step → Prog Part → Prog Part
  step_of (steps.Plain op) rest = plain (Does op) rest
  step_of (steps.Loop parfor) rest = plain (Loops parfor) rest
  step_of (steps.If' word p first q second) rest = choose word (row_of first) (row_of second) rest
  step_of (steps.While' p test word q body) rest = loop (row_of test) word (row_of body) rest

  pub row_of : {n : _} → Row_of-Step n → Prog Part
  row_of end_of-Step = stop
  row_of (more_of-Step step rest) = step_of step (row_of rest)

-- the steps of a body
unfoldable pub program_of : List Step → Prog Part
program_of [] = stop
program_of (step ∷ rest) = step_of step (program_of rest)

-- ---- the arrays of a loop

-- those that it reads: its leader, its inputs and its halos'
abbrev pub loop_reads : Parfor → List ℕ
loop_reads p = p.leader ∷ p.inputs ++ map (λ h. h.array) p.halos

-- those that it writes
abbrev pub loop_writes : Parfor → List ℕ
loop_writes p = map (λ o. o.array) p.outs

-- the words that its folds write
abbrev pub loop_words : Parfor → List ℕ
loop_words p = map (λ f. f.word) p.folds

-- the arrays that a part writes or reads
abbrev pub part_arrays : Part → List ℕ
part_arrays (Does op) = outs (arrays_of op.what) ++ reads (arrays_of op.what)
part_arrays (Loops p) = loop_writes p ++ loop_reads p
