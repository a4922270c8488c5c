-- What the lowering says of a script that fits, said of its file, and what a run of the code does.
use Rattle.std.proofs.Common.{◌≡◌, ℕ, ◌≤◌, false, List, Option, Some, None, refl, sym, subst, arith}
use Rattle.hp_word.specs.declared.place.Place.{Place}
use Rattle.hp_script.specs.declared.rule.Rule.{Rule}
use Rattle.hp_script.specs.declared.rule.Rule.TheVariants as rules
use Rattle.hp_script.specs.declared.typed.Typed.{Typed}
use Rattle.hp_spmd.specs.declared.code.Code.{Code}
use Rattle.hp_lower.specs.Correct.{Runs}
use Rattle.hp_command.specs.declared.answer.Answer.{Answer}
use Rattle.hp_command.specs.declared.answer.Answer.TheVariants as answer
use Rattle.hp_command.specs.declared.kept.Kept.{Kept}
use Rattle.hp_command.specs.Answers.{takes_memory}
use Rattle.hp_command.specs.Command.{runs}
use Rattle.hp_command.specs.Reading.{RefusesRun, NotBuilt, FitsFile, IsCompiled}
use Rattle.hp_command.specs.Session.{Answered, ComesEarly, DidRun, Played, RefusedBy, not_built}
use Rattle.hp_command.specs.TablesRead.{Holding}
use Rattle.hp_command.proofs.Answering.{run_plain}
use Rattle.hp_command.proofs.NeverSpent.{over}

-- ---- a script that fits, and its code

module _ (holds : Holding) (file : List ℕ) (typed : Typed) (fits : FitsFile (holds file) typed) where
  pub compiled : (code : Code) → Runs typed.script.body code → IsCompiled (holds file) code
  compiled code is = record { script = record { typed = typed; fits = fits }; runs = is }

  unbuilt : (at : Place) (rule : Rule) → not_built typed.script.body at rule → (bytes : List ℕ) → holds file ≡ Some bytes → RefusesRun bytes at rule
  unbuilt at rules.NotBuilt h bytes e = NotBuilt (record { typed = typed; fits = fits.fits_told bytes e; not_built = h })
  unbuilt at _ h bytes e = absurd h

  -- there is no code
  pub uncompiled : (ranks before now : ℕ) (failed : Option (List ℕ)) → now ≡ before → (a : Answer) → RefusedBy (not_built typed.script.body) a
      → Answered holds file (Some (runs ranks)) before now failed a
  uncompiled ranks before now failed kept (answer.Refused at rule) h = record { refused = λ bytes e. unbuilt at rule h bytes e; fault = kept }
  uncompiled ranks before now failed kept answer.NoMemory h = record { refused = λ bytes e. tt; fault = omega (arith, kept) }
  uncompiled ranks before now failed kept _ h = absurd h

-- ---- a run of the code

module _ (code : Code) (ranks : ℕ) (before now : Option (List ℕ)) (faults faults2 : ℕ) where
  pub played_plain : (a : Answer) (kept : Option Kept) → Played code ranks before now faults faults2 a kept → takes_memory a ≡ false
  played_plain a None h = subst (λ told. takes_memory told ≡ false) (sym h.0) refl
  played_plain a (Some kept) h = run_plain _ a h.3

  pub did_play : (told : Option (List ℕ)) → IsCompiled told code → 1 ≤ ranks → ranks ≤ 32 → (a : Answer) (kept : Option Kept)
      → Played code ranks before now faults faults2 a kept → DidRun told ranks before now faults faults2 a kept
  did_play told is some few a None h = (subst ComesEarly (sym h.0) tt, h.1, h.2)
  did_play told is some few a (Some kept) h =
      let runs_it = subst (IsCompiled told) (sym h.0) is in (
        record {
          compiled = runs_it;
          asked = h.1;
          tables = h.2;
          over = over told kept.code kept.tables kept.ranks 16777216 runs_it (subst (λ (n : ℕ). 1 ≤ n) (sym h.1) some) (subst (λ (n : ℕ). n ≤ 32) (sym h.1) few) (omega arith);
        },
        h.3,
        h.4,
        h.5,
      )
