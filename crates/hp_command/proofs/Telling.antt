-- What is so of an answer is so of the answer that is told: the same, or want of memory for its line.
use Rattle.std.proofs.Common.{◌≡◌, ℕ, true, false, List, Option, Some, None, inl, sym, subst, ⊎_elim}
use Rattle.hp_command.specs.declared.answer.Answer.{Answer}
use Rattle.hp_command.specs.declared.answer.Answer.TheVariants as answer
use Rattle.hp_command.specs.declared.kept.Kept.{Kept}
use Rattle.hp_command.specs.Answers.{takes_memory, SameOrNoMemory}
use Rattle.hp_command.specs.Command.{Asked, checks, evaluates, runs}
use Rattle.hp_command.specs.Session.{Answered, RefusesAs, RefusesFor, MayRead, FaultOf, run_of, DidCheck, DidSeq, DidRun, Did}
use Rattle.hp_command.specs.TablesRead.{Holding}
use Rattle.hp_command.proofs.Answering.{run_plain}
use Rattle.hp_command.proofs.Evaluating.{fault_later, not_meant}

-- whatever is so of the answer, and of want of memory where the answer's line has to be made
told_of : (P : Answer → Type 0) (a told : Answer) → SameOrNoMemory a told → (takes_memory a ≡ true → P a → P answer.NoMemory) → P a → P told
told_of P a told same to h = ⊎_elim (λ e. subst P (sym e) h) (λ e. subst P (sym e.0) (to e.1 h)) same

fault_untold : (IsRead : List ℕ → Type 0) (before now : ℕ) (failed : Option (List ℕ)) (a told : Answer) → SameOrNoMemory a told → FaultOf IsRead before now failed a → FaultOf IsRead before now failed told
fault_untold IsRead before now failed a told same h = told_of (FaultOf IsRead before now failed) a told same (λ takes. fault_later IsRead before now failed a) h

pub answered_told : (holds : Holding) (file : List ℕ) (asked : Option Asked) (before now : ℕ) (failed : Option (List ℕ)) (a told : Answer) → SameOrNoMemory a told
    → Answered holds file asked before now failed a → Answered holds file asked before now failed told
answered_told holds file asked before now failed a told same h = record {
  refused = λ bytes is. told_of (RefusesAs (RefusesFor asked bytes)) a told same (λ takes h. tt) (h.refused bytes is);
  fault = fault_untold (MayRead holds file asked) before now failed a told same h.fault;
}

module _ (before now : Option (List ℕ)) (faults faults2 : ℕ) where
  check_untold : (bytes : Option (List ℕ)) (a : Answer) → takes_memory a ≡ true → DidCheck bytes before now faults faults2 a → DidCheck bytes before now faults faults2 answer.NoMemory
  check_untold bytes (answer.Refused at rule) takes h = (tt, h.1, h.2)
  check_untold bytes (answer.FileFault name) takes h = (tt, h.1, h.2)
  check_untold bytes (answer.BadTable name bad) takes h = (tt, h.1, h.2)
  check_untold bytes _ takes h = absurd (cc)

  seq_untold : (holds : Holding) (file : List ℕ) (turns : ℕ) (a : Answer) → takes_memory a ≡ true → DidSeq holds file turns before now faults faults2 a → DidSeq holds file turns before now faults faults2 answer.NoMemory
  seq_untold holds file turns (answer.BadTable name bad) takes h = inl (tt, h.1, h.2)
  seq_untold holds file turns (answer.Refused at rule) takes h = ⊎_elim (λ early. inl (tt, early.1, early.2)) (λ wrote. absurd (not_meant _ _ wrote.1.answers tt)) h
  seq_untold holds file turns (answer.FileFault name) takes h = ⊎_elim (λ early. inl (tt, early.1, early.2)) (λ wrote. absurd (not_meant _ _ wrote.1.answers tt)) h
  seq_untold holds file turns _ takes h = absurd (cc)

  not_plain : (a : Answer) → takes_memory a ≡ true → takes_memory a ≡ false → ⊥
  not_plain a takes plain = cc

  run_untold : (bytes : Option (List ℕ)) (ranks : ℕ) (a : Answer) (kept : Option Kept) → takes_memory a ≡ true → DidRun bytes ranks before now faults faults2 a kept → DidRun bytes ranks before now faults faults2 answer.NoMemory kept
  run_untold bytes ranks a None takes h = (tt, h.1, h.2)
  run_untold bytes ranks a (Some kept) takes h = absurd (not_plain a takes (run_plain (run_of kept) a h.1))

  usage_takes : (a : Answer) → takes_memory a ≡ true → a ≡ answer.Usage → ⊥
  usage_takes answer.Usage takes e = cc
  usage_takes _ takes e = cc

  untold : (holds : Holding) (file : List ℕ) (asked : Option Asked) (kept : Option Kept) (a : Answer) → takes_memory a ≡ true
      → Did holds file asked before now faults faults2 a kept → Did holds file asked before now faults faults2 answer.NoMemory kept
  untold holds file None kept a takes h = absurd (usage_takes a takes h.0)
  untold holds file (Some checks) kept a takes h = (h.0, check_untold (holds file) a takes h.1)
  untold holds file (Some (evaluates turns)) kept a takes h = (h.0, seq_untold holds file turns a takes h.1)
  untold holds file (Some (runs ranks)) kept a takes h = run_untold (holds file) ranks a kept takes h

  pub did_told : (holds : Holding) (file : List ℕ) (asked : Option Asked) (kept : Option Kept) (a told : Answer) → SameOrNoMemory a told
      → Did holds file asked before now faults faults2 a kept → Did holds file asked before now faults faults2 told kept
  did_told holds file asked kept a told same h = told_of (λ a. Did holds file asked before now faults faults2 a kept) a told same (untold holds file asked kept a) h

-- ---- by the words

pub answered_by : (holds : Holding) (file file2 : List ℕ) (asked asked2 : Option Asked) (before now : ℕ) (failed : Option (List ℕ)) (a : Answer) → file ≡ file2 → asked ≡ asked2
    → Answered holds file2 asked2 before now failed a → Answered holds file asked before now failed a
answered_by holds file file2 asked asked2 before now failed a named is h =
    subst (λ (name : List ℕ). Answered holds name asked before now failed a) (sym named) (subst (λ (o : Option Asked). Answered holds file2 o before now failed a) (sym is) h)

pub did_by : (holds : Holding) (file file2 : List ℕ) (asked asked2 : Option Asked) (before now : Option (List ℕ)) (faults faults2 : ℕ) (a : Answer) (kept : Option Kept) → file ≡ file2 → asked ≡ asked2
    → Did holds file2 asked2 before now faults faults2 a kept → Did holds file asked before now faults faults2 a kept
did_by holds file file2 asked asked2 before now faults faults2 a kept named is h =
    subst (λ (name : List ℕ). Did holds name asked before now faults faults2 a kept) (sym named) (subst (λ (o : Option Asked). Did holds file2 o before now faults faults2 a kept) (sym is) h)
