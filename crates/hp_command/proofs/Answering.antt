-- Which answers name no cause of their own, and what is so of those that come before anything is written.
use Rattle.std.proofs.Common.{◌≡◌, ℕ, false, List, Option, None, Result, Ok, Err, refl, inl, arith}
use Rattle.std.specs.Prelude.{IfErr}
use Rattle.std.specs.Bool.{OnFalse}
use Rattle.hp_word.specs.declared.place.Place.{Place}
use Rattle.hp_script.specs.declared.rule.Rule.{Rule}
use Rattle.hp_meaning.specs.Run.{End}
use Rattle.hp_spmd.specs.Lockstep.{Reached, Ended, Trapped, Limit}
use Rattle.hp_command.specs.declared.answer.Answer.{Answer}
use Rattle.hp_command.specs.declared.answer.Answer.TheVariants as answer
use Rattle.hp_command.specs.Answers.{takes_memory}
use Rattle.hp_command.specs.Command.{Asked}
use Rattle.hp_command.specs.Session.{Answered, AnswersRun, ComesEarly, DidCheck, DidRun, DidSeq, Evaluated, RefusedBy, is_sink_fault}
use Rattle.hp_command.specs.TablesRead.{Holding}
use Rattle.hp_command.proofs.Evaluating.{not_meant}

-- ---- answers of what was done

-- that of a script that fits
pub said_plain : (a : Answer) → OnFalse (is_sink_fault a) (a ≡ answer.Done) → takes_memory a ≡ false
said_plain answer.SinkFault h = refl
said_plain answer.Done h = refl
said_plain _ h = absurd (cc)

-- that of an evaluation
pub evaluated_plain : (found : Option End) (before now : Option (List ℕ)) (faults faults2 : ℕ) (a : Answer) → Evaluated found before now faults faults2 a → takes_memory a ≡ false
evaluated_plain found before now faults faults2 (answer.Refused at rule) h = absurd (not_meant (answer.Refused at rule) h.0.status h.2.answers tt)
evaluated_plain found before now faults faults2 (answer.FileFault name) h = absurd (not_meant (answer.FileFault name) h.0.status h.2.answers tt)
evaluated_plain found before now faults faults2 (answer.BadTable name bad) h = absurd (not_meant (answer.BadTable name bad) h.0.status h.2.answers tt)
evaluated_plain found before now faults faults2 _ h = refl

-- that of a run
pub run_plain : (r : Reached) (a : Answer) → AnswersRun r a → takes_memory a ≡ false
run_plain (Ended s) (answer.Refused at rule) h = absurd h
run_plain (Trapped t s) (answer.Refused at rule) h = absurd h
run_plain (Limit s) (answer.Refused at rule) h = absurd h
run_plain (Ended s) (answer.FileFault name) h = absurd h
run_plain (Trapped t s) (answer.FileFault name) h = absurd h
run_plain (Limit s) (answer.FileFault name) h = absurd h
run_plain (Ended s) (answer.BadTable name bad) h = absurd h
run_plain (Trapped t s) (answer.BadTable name bad) h = absurd h
run_plain (Limit s) (answer.BadTable name bad) h = absurd h
run_plain r _ h = refl

-- ---- answers and their causes

module _ (holds : Holding) (file : List ℕ) (asked : Option Asked) (before now : ℕ) (failed : Option (List ℕ)) (kept : now ≡ before) where
  -- an answer that names no cause
  pub plain_answered : (a : Answer) → takes_memory a ≡ false → Answered holds file asked before now failed a
  plain_answered (answer.Refused at rule) plain = absurd (cc)
  plain_answered (answer.FileFault name) plain = absurd (cc)
  plain_answered answer.NoMemory plain = record { refused = λ bytes e. tt; fault = omega (arith, kept) }
  plain_answered _ plain = record { refused = λ bytes e. tt; fault = kept }

-- ---- before anything is written

pub early_refused : (P : Place → Rule → Type 0) (a : Answer) → RefusedBy P a → ComesEarly a
early_refused P (answer.Refused at rule) h = tt
early_refused P answer.NoMemory h = tt
early_refused P _ h = absurd h

pub refused_early : {A : Type 0} (P : Place → Rule → Type 0) (r : Result A Answer) → IfErr r (RefusedBy P) → IfErr r ComesEarly
refused_early P (Ok x) h = h
refused_early P (Err a) h = early_refused P a h

module _ (out : Option (List ℕ)) (faults : ℕ) where
  pub check_early : (bytes : Option (List ℕ)) (a : Answer) → ComesEarly a → DidCheck bytes out out faults faults a
  check_early bytes answer.Done h = absurd h
  check_early bytes answer.SinkFault h = absurd h
  check_early bytes _ h = (h, refl, refl)

  pub seq_early : (holds : Holding) (file : List ℕ) (turns : ℕ) (a : Answer) → ComesEarly a → DidSeq holds file turns out out faults faults a
  seq_early holds file turns (answer.BadTable name bad) h = absurd h
  seq_early holds file turns _ h = inl (h, refl, refl)

  pub run_early : (bytes : Option (List ℕ)) (ranks : ℕ) (a : Answer) → ComesEarly a → DidRun bytes ranks out out faults faults a None
  run_early bytes ranks a h = (h, refl, refl)
