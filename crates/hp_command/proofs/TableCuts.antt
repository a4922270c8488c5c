-- Files that were read for tables: what is read of the front of a file is what is read of the whole.
use Rattle.std.proofs.Common.{◌≡◌, ℕ, ◌<◌, ◌⊎◌, inl, inr, Bool, true, false, cond, List, [], ◌∷◌, length, take, refl, sym, ap, ◌∙◌, subst, arith, ⊎_elim, Option, Some, Result, Ok, Err, ℤ}
use Rattle.std.specs.Prelude.{IfOk, IfErr, IfSome, find, bytes_eq}
use Rattle.std.proofs.lemmas.List.{take_all, length-take}
use Rattle.std.proofs.lemmas.Bool.{cases_lt}
use Rattle.hp_word.specs.declared.name.Name.{Name}
use Rattle.hp_word.specs.declared.table.Table.{Table}
use Rattle.hp_script.specs.declared.typed.ReadSpec.{ReadSpec}
use Rattle.hp_script.proofs.TestLemmas.{same_bytes}
use Rattle.hp_tables.specs.declared.bad.Bad.{Bad}
use Rattle.hp_tables.specs.Contents.{answer_of}
use Rattle.hp_tables.proofs.ContentLemmas.{answer_big}
use Rattle.hp_command.specs.declared.answer.Answer.{Answer}
use Rattle.hp_command.specs.declared.answer.Answer.TheVariants as answer
use Rattle.hp_command.specs.declared.tables.FileText.{FileText}
use Rattle.hp_command.specs.Session.{RefusesTable}
use Rattle.hp_command.specs.TableTexts.{AreTexts, HasNoTable, StandsFor}
use Rattle.hp_command.specs.TablesRead.{Holding, MayGive}

-- ---- a front of a file

-- either the front is the whole file, or both are too long
front_answers : (m : ℕ) (names : List Name) (bytes front : List ℕ) → 67108864 < m → front ≡ take m bytes → answer_of names front ≡ answer_of names bytes
front_answers m names bytes front above is =
    ⊎_elim
    (λ long.
    let len = ap length is ∙ length-take m bytes in
    answer_big names front (omega (arith, len, above, long)) ∙ sym (answer_big names bytes (omega (arith, above, long))))
    (λ short. ap (answer_of names) (is ∙ take_all m bytes short))
    (cases_lt m (length bytes))

pub front_stands : (m : ℕ) (holds : Holding) (name front : List ℕ) → 67108864 < m → IfSome (holds name) (λ file. front ≡ take m file) → StandsFor holds name front
unfolding StandsFor
front_stands m holds name front above is =
    λ bytes names told. front_answers m names bytes front above (subst (λ o. IfSome o (λ file. front ≡ take m file)) told is)

-- ---- files that still hold what they held

module _ (now before : Holding) (same : (other : List ℕ) → now other ≡ before other) where
  moved_stands : (name front : List ℕ) → StandsFor now name front → StandsFor before name front
  unfolding StandsFor
  moved_stands name front stands = λ bytes names told. stands bytes names (same name ∙ told)

  pub moved_texts : (texts : List FileText) → AreTexts now texts → AreTexts before texts
  moved_texts [] all = tt
  moved_texts (text ∷ texts) all = (moved_stands text.name.bytes text.bytes all.0, moved_texts texts all.1)

-- ---- the file of a name

here_or_later : (b : Bool) (first text : FileText) (rest : Option FileText) → cond b (Some first) rest ≡ Some text → ((b ≡ true) × (first ≡ text)) ⊎ (rest ≡ Some text)
here_or_later true first text rest e = let same : first ≡ text = cc in inl (refl, same)
here_or_later false first text rest e = inr e

found_stands : (holds : Holding) (texts : List FileText) (name : List ℕ) (text : FileText) → AreTexts holds texts
    → find (λ t. bytes_eq t.name.bytes name) texts ≡ Some text → StandsFor holds name text.bytes
found_stands holds [] name text all e = absurd cc
found_stands holds (first ∷ texts) name text all e =
    ⊎_elim
    (λ h. subst (λ (t : FileText). StandsFor holds name t.bytes) h.1 (subst (λ n. StandsFor holds n first.bytes) (same_bytes first.name.bytes name h.0) all.0))
    (λ later. found_stands holds texts name text all.1 later)
    (here_or_later (bytes_eq first.name.bytes name) first text (find (λ t. bytes_eq t.name.bytes name) texts) e)

pub front_found : (holds : Holding) (texts list : List FileText) (name front : List ℕ) (text : FileText) → AreTexts holds texts
    → Some text ≡ find (λ t. bytes_eq t.name.bytes name) list → list ≡ texts → front ≡ text.bytes → StandsFor holds name front
front_found holds texts list name front text all found is bytes =
    subst (λ front. StandsFor holds name front) (sym bytes)
    (found_stands holds texts name text all (subst (λ list. find (λ t. bytes_eq t.name.bytes name) list ≡ Some text) is (sym found)))

-- ---- what is said of the front, said of the file

module _ (holds : Holding) (read : ReadSpec) (front : List ℕ) (stands : StandsFor holds read.file.bytes front) where
  gives : (columns : Result (List (List ℤ)) Bad) → answer_of read.columns front ≡ columns → MayGive holds read columns
  unfolding StandsFor
  gives columns is = λ bytes told. sym (stands bytes read.columns told) ∙ is

  pub gives_table : (table : Table) → answer_of read.columns front ≡ Ok table.columns → MayGive holds read (Ok table.columns)
  gives_table table is = gives (Ok table.columns) is

  pub gives_fault : (a : Answer) → HasNoTable (λ name bad. (name ≡ read.file) × (answer_of read.columns front ≡ Err bad)) a
      → RefusesTable (λ name bad. (name ≡ read.file) × MayGive holds read (Err bad)) a
  gives_fault (answer.BadTable name bad) h = (h.0, gives (Err bad) h.1)
  gives_fault answer.NoMemory h = tt
  gives_fault _ h = absurd h

  pub gives_or_table : (r : Result Table Answer) → IfOk r (λ table. answer_of read.columns front ≡ Ok table.columns) → IfOk r (λ table. MayGive holds read (Ok table.columns))
  gives_or_table (Ok table) h = gives_table table h
  gives_or_table (Err a) h = tt

  pub gives_or_fault : (r : Result Table Answer) → IfErr r (HasNoTable (λ name bad. (name ≡ read.file) × (answer_of read.columns front ≡ Err bad)))
      → IfErr r (RefusesTable (λ name bad. (name ≡ read.file) × MayGive holds read (Err bad)))
  gives_or_fault (Ok table) h = tt
  gives_or_fault (Err a) h = gives_fault a h
