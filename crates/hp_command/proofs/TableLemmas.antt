-- The tables of calls, one call after the other.
use Rattle.std.proofs.Common.{◌≡◌, ℕ, suc, ◌+◌, ◌<◌, ◌≤◌, List, [], ◌∷◌, ◌++◌, length, get_or, drop, drop-cons, Bool, refl, sym, ap, ◌∙◌, subst, arith, append_assoc, append-nil, Option, Result, Ok, Err}
use Rattle.std.specs.Prelude.{IfErr, IsErr, MatchResult, IsTrue, ◌==◌, ◌&&◌}
use Rattle.std.specs.Result.{IsErrAnd}
use Rattle.std.proofs.lemmas.List.{drop_all}
use Rattle.hp_word.specs.declared.name.Name.{Name}
use Rattle.hp_word.specs.declared.table.Table.{Table}
use Rattle.hp_script.specs.declared.typed.ReadSpec.{ReadSpec}
use Rattle.hp_tables.specs.declared.bad.Bad.{Bad}
use Rattle.hp_meaning.specs.Fitting.{serves, Serves}
use Rattle.hp_command.specs.declared.answer.Answer.{Answer}
use Rattle.hp_command.specs.declared.answer.Answer.TheVariants as answer
use Rattle.hp_command.specs.Session.{FaultOf, RefusesTable}
use Rattle.hp_command.specs.TablesRead.{Holding, Columns, MayGive, AreTables, IsFirstBad, bad_here, bad_later, IsReached, reached_here, reached_later}

module _ (holds : Holding) where
  -- ---- the calls before this one

  -- The tables so far are of the calls before the rest: what holds of the rest holds of the whole.
  pub record Progress (reads rest : List ReadSpec) (list : List Table) : Type 0 where
    pub tables : (more : List Table) → AreTables (MayGive holds) rest more → AreTables (MayGive holds) reads (list ++ more)
    pub serve : (more : List Table) → Serves more rest → Serves (list ++ more) reads
    pub bad : (name : Name) (bad : Bad) → IsFirstBad (MayGive holds) rest name bad → IsFirstBad (MayGive holds) reads name bad
    pub reached : (name : List ℕ) → IsReached (MayGive holds) rest name → IsReached (MayGive holds) reads name

  pub starts : (reads : List ReadSpec) → Progress reads reads []
  starts reads = record {
    tables = λ more h. h;
    serve = λ more h. h;
    bad = λ name bad h. h;
    reached = λ name h. h;
  }

  serves_more : (read : ReadSpec) (rest : List ReadSpec) (table : Table) (more : List Table) → length table.columns ≡ length read.columns
      → Serves more rest → Serves (table ∷ more) (read ∷ rest)
  serves_more read rest table more wide h = subst (λ (n : ℕ). IsTrue ((length table.columns == n) && serves more rest)) wide (same_length (length table.columns) (serves more rest) h)
    where
      same_length : (n : ℕ) (b : Bool) → IsTrue b → IsTrue ((n == n) && b)
      same_length n b h = grind arith

  -- one call more
  pub goes_on : (reads rest : List ReadSpec) (list : List Table) (read : ReadSpec) (table : Table) → Progress reads (read ∷ rest) list
      → MayGive holds read (Ok table.columns) → length table.columns ≡ length read.columns → Progress reads rest (list ++ table ∷ [])
  goes_on reads rest list read table h may wide = record {
    tables = λ more t. subst (AreTables (MayGive holds) reads) (sym (append_assoc list (table ∷ []) more)) (h.tables (table ∷ more) (may, t));
    serve = λ more s. subst (λ ts. Serves ts reads) (sym (append_assoc list (table ∷ []) more)) (h.serve (table ∷ more) (serves_more read rest table more wide s));
    bad = λ name bad b. h.bad name bad (bad_later may b);
    reached = λ name r. h.reached name (reached_later may r);
  }

  -- ---- the end

  pub all_tables : (reads : List ReadSpec) (list : List Table) → Progress reads [] list → AreTables (MayGive holds) reads list
  all_tables reads list h = subst (AreTables (MayGive holds) reads) (append-nil list) (h.tables [] tt)

  none_serve : Serves [] []
  none_serve = refl

  pub all_serve : (reads : List ReadSpec) (list : List Table) → Progress reads [] list → Serves list reads
  all_serve reads list h = subst (λ ts. Serves ts reads) (append-nil list) (h.serve [] none_serve)

  -- ---- a call with no table

  first_here : (read : ReadSpec) (rest : List ReadSpec) (name : Name) (bad : Bad) → name ≡ read.file → MayGive holds read (Err bad)
      → IsFirstBad (MayGive holds) (read ∷ rest) name bad
  first_here read rest name bad is may = subst (λ n. IsFirstBad (MayGive holds) (read ∷ rest) n bad) (sym is) (bad_here may)

  module _ (reads rest : List ReadSpec) (list : List Table) (read : ReadSpec) (h : Progress reads (read ∷ rest) list) where
    pub ends_bad : (a : Answer) → RefusesTable (λ name bad. (name ≡ read.file) × MayGive holds read (Err bad)) a → RefusesTable (IsFirstBad (MayGive holds) reads) a
    ends_bad (answer.BadTable name bad) r = h.bad name bad (first_here read rest name bad r.0 r.1)
    ends_bad (answer.FileFault name) r = tt
    ends_bad answer.NoMemory r = tt
    ends_bad _ r = absurd r

    pub ends_fault : (before now : ℕ) (failed : Option (List ℕ)) (a : Answer) → FaultOf (λ name. name ≡ read.file.bytes) before now failed a
        → FaultOf (IsReached (MayGive holds) reads) before now failed a
    ends_fault before now failed (answer.FileFault name) f =
        (h.reached name.bytes (subst (IsReached (MayGive holds) (read ∷ rest)) (sym f.0) reached_here), f.1, f.2, f.3)
    ends_fault before now failed _ f = f

  -- ---- the calls of a slice

  pub at_read : (reads : List ReadSpec) (i : ℕ) (read : ReadSpec) (list : List Table) → i < length reads → read ≡ get_or reads i read
      → Progress reads (drop i reads) list → Progress reads (read ∷ drop (i + 1) reads) list
  at_read reads i read list within is h =
      subst (λ rest. Progress reads rest list)
      (drop-cons reads i read within ∙ ap (λ r. r ∷ drop (suc i) reads) (sym is) ∙ ap (λ n. read ∷ drop n reads) next)
      h
    where
      next : suc i ≡ i + 1
      next = omega arith

  pub at_end : (reads : List ReadSpec) (i : ℕ) (list : List Table) → length reads ≤ i → Progress reads (drop i reads) list → Progress reads [] list
  at_end reads i list past h = subst (λ rest. Progress reads rest list) (drop_all i reads past) h

-- ---- files that still hold what they held

module _ (now before : Holding) (same : (other : List ℕ) → now other ≡ before other) where
  pub moved_gives : (read : ReadSpec) (columns : Columns) → MayGive now read columns → MayGive before read columns
  moved_gives read columns may = λ bytes told. may bytes (same read.file.bytes ∙ told)

  pub moved_refuses : (read : ReadSpec) (a : Answer) → RefusesTable (λ name bad. (name ≡ read.file) × MayGive now read (Err bad)) a
      → RefusesTable (λ name bad. (name ≡ read.file) × MayGive before read (Err bad)) a
  moved_refuses read (answer.BadTable name bad) r = (r.0, moved_gives read (Err bad) r.1)
  moved_refuses read (answer.FileFault name) r = tt
  moved_refuses read answer.NoMemory r = tt
  moved_refuses read _ r = absurd r

-- ---- an answer that is handed on

pub thrown : {A : Type 0} (P : Answer → Type 0) (a : Answer) (r : Result A Answer) → IsErr r × IsErrAnd r (λ e. e ≡ a) → P a → IfErr r P
thrown P a (Ok x) h p = tt
thrown P a (Err e) h p = subst P (sym h.1) p

pub thrown_match : {A : Type 0} (Q : A → Type 0) (P : Answer → Type 0) (a : Answer) (r : Result A Answer) → IsErr r × IsErrAnd r (λ e. e ≡ a) → P a → MatchResult r Q P
thrown_match Q P a (Ok x) h p = absurd h.1
thrown_match Q P a (Err e) h p = subst P (sym h.1) p
