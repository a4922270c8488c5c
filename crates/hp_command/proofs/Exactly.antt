-- Which answer has to come: it follows of what each answer means, since bytes fit or are refused, in one way.
use Rattle.std.proofs.Common.{◌≡◌, ℕ, inl, inr, List, [], Option, Some, None, refl, sym, ap, ◌∙◌, subst, ⊎_elim}
use Rattle.std.specs.Prelude.{◌↔◌}
use Rattle.hp_word.specs.declared.name.Name.{Name}
use Rattle.hp_word.specs.declared.place.Place.{Place}
use Rattle.hp_word.specs.declared.table.Table.{Table}
use Rattle.hp_script.specs.declared.rule.Rule.{Rule}
use Rattle.hp_script.specs.declared.tree.Stmt.{Stmt}
use Rattle.hp_script.specs.declared.typed.ReadSpec.{ReadSpec}
use Rattle.hp_script.specs.declared.typed.Typed.{Typed}
use Rattle.hp_script.specs.Mirror.{block_of}
use Rattle.hp_script.specs.OneOfTwo.{OneOfTwo}
use Rattle.hp_tables.specs.declared.bad.Bad.{Bad}
use Rattle.hp_meaning.specs.Run.{End, eval}
use Rattle.hp_reader.specs.Reading.{Refuses, Fits, FitsAs, IsRefused, Content}
use Rattle.hp_command.specs.declared.answer.Answer.{Answer}
use Rattle.hp_command.specs.declared.answer.Answer.TheVariants as answer
use Rattle.hp_command.specs.declared.kept.Kept.{Kept}
use Rattle.hp_command.specs.Command.{Asked, checks, evaluates, runs}
use Rattle.hp_command.specs.Reading.{RefusesRun}
use Rattle.hp_command.specs.Session.{Answered, AnswersRun, RefusesAs, RefusesFor, IsRefusal, IsBadTable, IsOrNoMemory, ReadsTables, NoFault, HasToAnswer, meant, run_of, DidCheck, DidSeq, DidRun, Did}
use Rattle.hp_command.specs.TablesRead.{Holding, MayGive, DoesGive, AreTables, IsFirstBad}
use Rattle.hp_spmd.specs.Lockstep.{Reached, Ended, Trapped, Limit}
use Rattle.hp_command.proofs.Evaluating.{not_meant}
use Rattle.hp_command.proofs.NeverSpent.{never_spent}
use Rattle.hp_command.proofs.OneReading.{not_both, one_content, one_body, refused_so, run_refused_so, not_run_and_refused}
use Rattle.hp_command.proofs.OneTables.{one_first, none_first, all_good, one_tables}

run_not_usage : (r : Reached) → AnswersRun r answer.Usage → ⊥
run_not_usage (Ended s) h = h
run_not_usage (Trapped t s) h = h
run_not_usage (Limit s) h = h

some_same : {A : Type 0} (a b : A) → ◌≡◌ {A = Option A} (Some a) (Some b) → a ≡ b
some_same a b e = cc

module _ (holds : Holding) (file : List ℕ) (before now : Option (List ℕ)) (faults faults2 : ℕ) where
  -- ---- words of no form, and runs

  usage_none : (asked : Option Asked) (kept : Option Kept) → Did holds file asked before now faults faults2 answer.Usage kept → asked ≡ None
  usage_none None kept h = refl
  usage_none (Some checks) kept h = absurd h.1.0
  usage_none (Some (evaluates turns)) kept h = ⊎_elim (λ early. absurd early.0) (λ wrote. absurd (not_meant answer.Usage wrote.0.end.status wrote.1.answers tt)) h.1
  usage_none (Some (runs ranks)) None h = absurd h.0
  usage_none (Some (runs ranks)) (Some kept) h = absurd (run_not_usage (run_of kept) h.1)

  -- Usage is the answer exactly where the words are of no form.
  pub usage_exactly : (asked : Option Asked) (kept : Option Kept) (a : Answer) → Did holds file asked before now faults faults2 a kept → (a ≡ answer.Usage) ↔ (asked ≡ None)
  usage_exactly asked kept a h = (
    λ e. usage_none asked kept (subst (λ (told : Answer). Did holds file asked before now faults faults2 told kept) e h),
    λ e. (subst (λ (o : Option Asked). Did holds file o before now faults faults2 a kept) e h).0,
  )

  -- No run spends all the instructions that its ranks may do.
  spent_by_none : (ranks : ℕ) (kept : Option Kept) → DidRun (holds file) ranks before now faults faults2 answer.TurnsSpent kept → ⊥
  spent_by_none ranks None h = h.0
  spent_by_none ranks (Some kept) h = never_spent (run_of kept) h.0.over h.1

  pub never_exactly : (asked : Option Asked) (kept : Option Kept) (a : Answer) (ranks : ℕ) → Did holds file asked before now faults faults2 a kept → asked ≡ Some (runs ranks) → a ≡ answer.TurnsSpent → ⊥
  never_exactly asked kept a ranks h is e =
      spent_by_none ranks kept
      (subst (λ (told : Answer). DidRun (holds file) ranks before now faults faults2 told kept) e (subst (λ (o : Option Asked). Did holds file o before now faults faults2 a kept) is h))

  -- ---- the file tells its bytes, which fit or are refused in one way

  module _ (bytes : List ℕ) (told : holds file ≡ Some bytes) (law : OneOfTwo (FitsAs bytes) (IsRefused bytes)) where
    -- bytes that are refused

    check_exact : (at : Place) (rule : Rule) → Refuses bytes at rule → (a : Answer) → RefusesAs (Refuses bytes) a → DidCheck (holds file) before now faults faults2 a → IsRefusal at rule a
    check_exact at rule r (answer.Refused at2 rule2) refused did = refused_so bytes law at2 at rule2 rule refused r
    check_exact at rule r (answer.FileFault name) refused did = tt
    check_exact at rule r answer.NoMemory refused did = tt
    check_exact at rule r answer.Done refused did = absurd (not_both bytes law did.0.typed at rule (did.0.fits.fits_told bytes told) r)
    check_exact at rule r answer.SinkFault refused did = absurd (not_both bytes law did.0.typed at rule (did.0.fits.fits_told bytes told) r)
    check_exact at rule r _ refused did = absurd did.0

    seq_exact : (turns : ℕ) (at : Place) (rule : Rule) → Refuses bytes at rule → (a : Answer) → RefusesAs (Refuses bytes) a → DidSeq holds file turns before now faults faults2 a → IsRefusal at rule a
    seq_exact turns at rule r (answer.Refused at2 rule2) refused did = refused_so bytes law at2 at rule2 rule refused r
    seq_exact turns at rule r (answer.FileFault name) refused did = tt
    seq_exact turns at rule r answer.NoMemory refused did = tt
    seq_exact turns at rule r (answer.BadTable name bad) refused did = absurd (not_both bytes law did.0.script.typed at rule (did.0.script.fits.fits_told bytes told) r)
    seq_exact turns at rule r _ refused did =
        ⊎_elim (λ early. absurd early.0) (λ wrote. absurd (not_both bytes law wrote.0.script.typed at rule (wrote.0.script.fits.fits_told bytes told) r)) did

    run_exact : (ranks : ℕ) (at : Place) (rule : Rule) → RefusesRun bytes at rule → (a : Answer) (kept : Option Kept) → RefusesAs (RefusesRun bytes) a
        → DidRun (holds file) ranks before now faults faults2 a kept → IsRefusal at rule a
    run_exact ranks at rule r (answer.Refused at2 rule2) None refused did = run_refused_so bytes law at2 at rule2 rule refused r
    run_exact ranks at rule r (answer.FileFault name) None refused did = tt
    run_exact ranks at rule r answer.NoMemory None refused did = tt
    run_exact ranks at rule r _ None refused did = absurd did.0
    run_exact ranks at rule r a (Some kept) refused did =
        let is = did.0.compiled in
        absurd (not_run_and_refused bytes law is.script.typed kept.code at rule (is.script.fits.fits_told bytes told) is.runs r)

    -- Bytes that are to be refused are.
    pub refused_exactly : (asked : Option Asked) (at : Place) (rule : Rule) → RefusesFor asked bytes at rule → (a : Answer) (kept : Option Kept) → RefusesAs (RefusesFor asked bytes) a
        → Did holds file asked before now faults faults2 a kept → IsRefusal at rule a
    refused_exactly None at rule r a kept refused did = absurd r
    refused_exactly (Some checks) at rule r a kept refused did = check_exact at rule r a refused did.1
    refused_exactly (Some (evaluates turns)) at rule r a kept refused did = seq_exact turns at rule r a refused did.1
    refused_exactly (Some (runs ranks)) at rule r a kept refused did = run_exact ranks at rule r a kept refused did

    -- bytes that fit

    module _ (typed : Typed) (fits : Fits bytes typed) where
      same_reads : (other : Typed) → Fits bytes other → other.reads ≡ typed.reads
      same_reads other f = ap (λ (content : Content). content.reads) (one_content bytes law other typed f fits)

      bad_exact : (turns : ℕ) (name : Name) (bad : Bad) → IsFirstBad (DoesGive holds) typed.reads name bad → (a : Answer) → RefusesAs (Refuses bytes) a
          → DidSeq holds file turns before now faults faults2 a → IsBadTable name bad a
      bad_exact turns name bad first (answer.BadTable name2 bad2) refused did =
          one_first holds name bad did.0.first
          (subst (λ (reads : List ReadSpec). IsFirstBad (DoesGive holds) reads name bad) (sym (same_reads did.0.script.typed (did.0.script.fits.fits_told bytes told))) first)
      bad_exact turns name bad first (answer.FileFault name2) refused did = tt
      bad_exact turns name bad first answer.NoMemory refused did = tt
      bad_exact turns name bad first (answer.Refused at rule) refused did = absurd (not_both bytes law typed at rule fits refused)
      bad_exact turns name bad first _ refused did =
          ⊎_elim (λ early. absurd early.0)
          (λ wrote. absurd
          (none_first holds wrote.0.script.typed.reads wrote.0.tables name bad wrote.0.given
          (subst (λ (reads : List ReadSpec). IsFirstBad (DoesGive holds) reads name bad) (sym (same_reads wrote.0.script.typed (wrote.0.script.fits.fits_told bytes told))) first)))
          did

      -- Of the tables, the first that has a fault is named.
      pub table_exactly : (asked : Option Asked) → ReadsTables asked → (name : Name) (bad : Bad) → IsFirstBad (DoesGive holds) typed.reads name bad → (a : Answer) (kept : Option Kept)
          → RefusesAs (RefusesFor asked bytes) a → Did holds file asked before now faults faults2 a kept → IsBadTable name bad a
      table_exactly (Some (evaluates turns)) reads name bad first a kept refused did = bad_exact turns name bad first a refused did.1
      table_exactly None reads name bad first a kept refused did = absurd reads
      table_exactly (Some checks) reads name bad first a kept refused did = absurd reads
      table_exactly (Some (runs ranks)) reads name bad first a kept refused did = absurd reads

      -- ---- and no fault was told

      module _ (reads reads2 : ℕ) (failed : Option (List ℕ)) (read : NoFault reads reads2) (put : NoFault faults faults2) where
        check_complete : (a : Answer) → Answered holds file (Some checks) reads reads2 failed a → DidCheck (holds file) before now faults faults2 a → IsOrNoMemory answer.Done a
        check_complete answer.Done answered did = inl refl
        check_complete answer.NoMemory answered did = inr refl
        check_complete answer.SinkFault answered did = absurd (put did.2.failed)
        check_complete (answer.FileFault name) answered did = absurd (read answered.fault.2)
        check_complete (answer.Refused at rule) answered did = absurd (not_both bytes law typed at rule fits (answered.refused bytes told))
        check_complete _ answered did = absurd did.0

        module _ (turns : ℕ) (tables : List Table) (end : End) (given : AreTables (DoesGive holds) typed.reads tables)
            (ends : eval (block_of typed.script.body) tables [] turns ≡ Some end) where
          same_end : (other : Typed) → Fits bytes other → (tables2 : List Table) → AreTables (MayGive holds) other.reads tables2 → (end2 : End)
              → eval (block_of other.script.body) tables2 [] turns ≡ Some end2 → end2 ≡ end
          same_end other f tables2 given2 end2 ends2 =
              let bodies = one_body bytes law other typed f fits in
              let same = one_tables holds typed.reads tables tables2 given (subst (λ (reads : List ReadSpec). AreTables (MayGive holds) reads tables2) (same_reads other f) given2) in
              some_same end2 end
              (sym ends2
              ∙ ap (λ (body : List Stmt). eval (block_of body) tables2 [] turns) bodies
              ∙ ap (λ (ts : List Table). eval (block_of typed.script.body) ts [] turns) same
              ∙ ends)

          seq_complete : (a : Answer) → Answered holds file (Some (evaluates turns)) reads reads2 failed a → DidSeq holds file turns before now faults faults2 a → IsOrNoMemory (meant end.status) a
          seq_complete answer.NoMemory answered did = inr refl
          seq_complete answer.SinkFault answered did = ⊎_elim (λ early. absurd early.0) (λ wrote. absurd (put wrote.1.cause.failed)) did
          seq_complete (answer.FileFault name) answered did = absurd (read answered.fault.2)
          seq_complete (answer.Refused at rule) answered did = absurd (not_both bytes law typed at rule fits (answered.refused bytes told))
          seq_complete (answer.BadTable name bad) answered did =
              absurd
              (all_good holds tables given
              (subst (λ (reads : List ReadSpec). IsFirstBad (MayGive holds) reads name bad) (same_reads did.0.script.typed (did.0.script.fits.fits_told bytes told)) did.0.first))
          seq_complete _ answered did =
              ⊎_elim (λ early. absurd early.0)
              (λ wrote. inl
              (wrote.1.answers
              ∙ ap (λ (e : End). meant e.status)
              (same_end wrote.0.script.typed (wrote.0.script.fits.fits_told bytes told) wrote.0.tables wrote.0.given wrote.0.end wrote.0.ends)))
              did

        -- A script that fits is answered as it has to be.
        pub completely : (asked : Option Asked) (a : Answer) (kept : Option Kept) → Answered holds file asked reads reads2 failed a
            → Did holds file asked before now faults faults2 a kept → HasToAnswer holds asked typed a
        completely None a kept answered did = tt
        completely (Some checks) a kept answered did = check_complete a answered did.1
        completely (Some (evaluates turns)) a kept answered did = λ tables end given ends. seq_complete turns tables end given ends a answered did.1
        completely (Some (runs ranks)) a kept answered did = tt
