-- What `seq` does, out of what its parts do.
use Rattle.std.proofs.Common.{◌≡◌, ◌⊎◌, ℕ, ◌≤◌, inl, inr, true, false, List, [], Option, Some, None, refl, sym, ap, ◌∙◌, subst, arith}
use Rattle.hp_word.specs.declared.table.Table.{Table}
use Rattle.hp_script.specs.declared.typed.ReadSpec.{ReadSpec}
use Rattle.hp_script.specs.declared.typed.Typed.{Typed}
use Rattle.hp_script.specs.Mirror.{block_of}
use Rattle.hp_meaning.specs.declared.seq.SeqEnd.{SeqEnd}
use Rattle.hp_meaning.specs.declared.seq.SeqStatus.{SeqStatus}
use Rattle.hp_meaning.specs.declared.seq.SeqStatus.TheVariants as status
use Rattle.hp_meaning.specs.Run.{End, eval}
use Rattle.hp_meaning.specs.Running.{IsEndOf}
use Rattle.hp_command.specs.declared.answer.Answer.{Answer}
use Rattle.hp_command.specs.declared.answer.Answer.TheVariants as answer
use Rattle.hp_command.specs.Command.{checks, evaluates, runs}
use Rattle.hp_outside.specs.Outside.{HasCause}
use Rattle.hp_reader.specs.Reading.{Refuses}
use Rattle.hp_command.specs.Reading.{RefusesRun, NoFit, FitsFile}
use Rattle.hp_command.specs.Session.{Answered, RefusesAs, RefusesFor, RefusesTable, NamesFile, FaultOf, meant, Wrote, Evaluated, DidSeq}
use Rattle.hp_command.specs.TablesRead.{Holding, MayGive, AreTables, IsFirstBad, IsReached}
use Rattle.hp_command.proofs.Carried.{are_tables, is_first_bad, is_reached, may_give}

-- ---- faults of files

-- whatever the answer, the count of faults has not fallen
pub fault_later : (IsRead : List ℕ → Type 0) (before now : ℕ) (failed : Option (List ℕ)) (a : Answer) → FaultOf IsRead before now failed a → before ≤ now
fault_later IsRead before now failed (answer.FileFault name) h = h.1
fault_later IsRead before now failed answer.NoMemory h = h
fault_later IsRead before now failed _ h = omega (arith, h)

-- a file that is read by the one is read by the other
pub fault_as : (P Q : List ℕ → Type 0) → ((name : List ℕ) → P name → Q name) → (before now : ℕ) (failed : Option (List ℕ)) (a : Answer) → FaultOf P before now failed a → FaultOf Q before now failed a
fault_as P Q to before now failed (answer.FileFault name) h = (to name.bytes h.0, h.1, h.2, h.3)
fault_as P Q to before now failed answer.NoMemory h = h
fault_as P Q to before now failed _ h = h

-- what is so of the answer to `check` is so of the answers to the others, which look at the same bytes
pub answered_seq : (holds : Holding) (file : List ℕ) (turns before now : ℕ) (failed : Option (List ℕ)) (a : Answer)
    → Answered holds file (Some checks) before now failed a → Answered holds file (Some (evaluates turns)) before now failed a
answered_seq holds file turns before now failed a h =
    record { refused = h.refused; fault = fault_as (λ name. name ≡ file) (λ name. (name ≡ file) ⊎ NamesFile holds file name) (λ name is. inl is) before now failed a h.fault }

refuses_run : (bytes : List ℕ) (a : Answer) → RefusesAs (Refuses bytes) a → RefusesAs (RefusesRun bytes) a
refuses_run bytes (answer.Refused at rule) h = NoFit h
refuses_run bytes _ h = tt

pub answered_run : (holds : Holding) (file : List ℕ) (ranks before now : ℕ) (failed : Option (List ℕ)) (a : Answer)
    → Answered holds file (Some checks) before now failed a → Answered holds file (Some (runs ranks)) before now failed a
answered_run holds file ranks before now failed a h = record { refused = λ bytes told. refuses_run bytes a (h.refused bytes told); fault = h.fault }

-- ---- answers of an evaluation

-- an answer that is of no meaning's status
abbrev pub IsOfNone : Answer → Type 0
IsOfNone answer.Done = ⊥
IsOfNone (answer.Trapped at kind) = ⊥
IsOfNone answer.TurnsSpent = ⊥
IsOfNone a = Unit {0}

meant_by_none : (s : SeqStatus) → IsOfNone (meant s) → ⊥
meant_by_none status.Done h = h
meant_by_none (status.Trap at kind) h = h
meant_by_none status.Fuel h = h

pub not_meant : (a : Answer) (s : SeqStatus) → a ≡ meant s → IsOfNone a → ⊥
not_meant a s e h = meant_by_none s (subst IsOfNone e h)

-- what was told is the meaning's end, and the sink took a front of its output that is shorter
pub evaluated_short : (found : Option End) (e : SeqEnd) → IsEndOf found e → (before now : Option (List ℕ)) (faults faults2 : ℕ)
    → HasCause faults faults2 true → Wrote true before now e.out → Evaluated found before now faults faults2 answer.SinkFault
evaluated_short (Some end) e is before now faults faults2 cause wrote =
    (end, refl, record { answers = tt; cause = cause; wrote = subst (Wrote true before now) (sym is.1) wrote })
evaluated_short None e is before now faults faults2 cause wrote = absurd is

-- and the sink took all of its output
pub evaluated_whole : (found : Option End) (e : SeqEnd) → IsEndOf found e → (before now : Option (List ℕ)) (faults faults2 : ℕ) (a : Answer)
    → a ≡ meant e.status → HasCause faults faults2 false → Wrote false before now e.out → Evaluated found before now faults faults2 a
evaluated_whole (Some end) e is before now faults faults2 answer.NoMemory answers cause wrote = absurd (not_meant answer.NoMemory e.status answers tt)
evaluated_whole (Some end) e is before now faults faults2 answer.SinkFault answers cause wrote = absurd (not_meant answer.SinkFault e.status answers tt)
evaluated_whole (Some end) e is before now faults faults2 _ answers cause wrote =
    (end, refl, record { answers = answers ∙ ap meant (sym is.0); cause = cause; wrote = subst (Wrote false before now) (sym is.1) wrote })
evaluated_whole None e is before now faults faults2 a answers cause wrote = absurd is

-- ---- over the tables of the files in a middle state

module _ (old mid : Holding) (same : (other : List ℕ) → mid other ≡ old other) (given : List ReadSpec) where
  module _ (file : List ℕ) (typed : Typed) (fits : FitsFile (old file) typed) (is : given ≡ typed.reads) where
    named : (name : List ℕ) → IsReached (MayGive mid) given name → (name ≡ file) ⊎ NamesFile old file name
    named name h = inr (record {
      script = record { typed = typed; fits = fits };
      reached = subst (λ calls. IsReached (MayGive old) calls name) is (is_reached (MayGive mid) (MayGive old) (may_give old mid same) h);
    })

    untabled_refused : (turns : ℕ) (a : Answer) → RefusesTable (IsFirstBad (MayGive mid) given) a → (bytes : List ℕ) → old file ≡ Some bytes
        → RefusesAs (RefusesFor (Some (evaluates turns)) bytes) a
    untabled_refused turns (answer.Refused at rule) r bytes told = absurd r
    untabled_refused turns _ r bytes told = tt

    -- the fault of a table's file
    untabled_fault : (before between now : ℕ) (failed : Option (List ℕ)) (a : Answer) → between ≡ before → FaultOf (IsReached (MayGive mid) given) between now failed a
        → FaultOf (λ name. (name ≡ file) ⊎ NamesFile old file name) before now failed a
    untabled_fault before between now failed a kept h =
        fault_as (IsReached (MayGive mid) given) (λ name. (name ≡ file) ⊎ NamesFile old file name) named before now failed a
        (subst (λ count. FaultOf (IsReached (MayGive mid) given) count now failed a) kept h)

    -- what is so of the answer where there are no tables
    pub untabled_answered : (turns before between now : ℕ) (failed : Option (List ℕ)) (a : Answer) → between ≡ before → RefusesTable (IsFirstBad (MayGive mid) given) a
        → FaultOf (IsReached (MayGive mid) given) between now failed a → Answered old file (Some (evaluates turns)) before now failed a
    untabled_answered turns before between now failed a kept r h =
        record { refused = untabled_refused turns a r; fault = untabled_fault before between now failed a kept h }

    module _ (turns : ℕ) (before now : Option (List ℕ)) (faults faults2 : ℕ) where
      -- nothing was done for want of tables
      pub did_untabled : (a : Answer) → RefusesTable (IsFirstBad (MayGive mid) given) a → now ≡ before → faults2 ≡ faults → DidSeq old file turns before now faults faults2 a
      did_untabled (answer.BadTable name bad) h kept count = (
        record {
          script = record { typed = typed; fits = fits };
          first = subst (λ calls. IsFirstBad (MayGive old) calls name bad) is (is_first_bad (MayGive mid) (MayGive old) (may_give old mid same) h);
        },
        kept,
        count,
      )
      did_untabled (answer.FileFault name) h kept count = inl (tt, kept, count)
      did_untabled answer.NoMemory h kept count = inl (tt, kept, count)
      did_untabled _ h kept count = absurd h

      -- the meaning's output was written
      pub did_evaluate : (tables : List Table) → AreTables (MayGive mid) given tables → (a : Answer)
          → Evaluated (eval (block_of typed.script.body) tables [] turns) before now faults faults2 a → DidSeq old file turns before now faults faults2 a
      did_evaluate tables are answer.NoMemory h = inl (tt, h.0, h.1)
      did_evaluate tables are (answer.BadTable name bad) h = absurd (not_meant (answer.BadTable name bad) h.0.status h.2.answers tt)
      did_evaluate tables are _ h =
          inr (
            record {
              script = record { typed = typed; fits = fits };
              tables = tables;
              given = subst (λ calls. AreTables (MayGive old) calls tables) is (are_tables (MayGive mid) (MayGive old) (may_give old mid same) given tables are);
              end = h.0;
              ends = h.1;
            },
            h.2,
          )
