-- What the calls of a script read of files that tell what they hold: tables of one kind only, or a first fault, and not both.
use Rattle.std.proofs.Common.{◌≡◌, ℤ, List, [], ◌∷◌, refl, ap, ◌∙◌, subst, Result, Ok, Err}
use denote.Struct.Props.{props}
use Rattle.hp_word.specs.declared.name.Name.{Name}
use Rattle.hp_word.specs.declared.table.Table.{Table}
use Rattle.hp_word.specs.Tables.{AreEven, AreShort}
use Rattle.hp_script.specs.declared.typed.ReadSpec.{ReadSpec}
use Rattle.hp_tables.specs.declared.bad.Bad.{Bad}
use Rattle.hp_tables.specs.Contents.{answer_of}
use Rattle.hp_command.specs.TablesRead.{Holding, Columns, MayGive, DoesGive, AreTables, IsFirstBad, bad_here, bad_later}

ok_err : {A B : Type 0} (a : A) (b : B) (r : Result A B) → r ≡ Ok a → r ≡ Err b → ⊥
ok_err a b r e f = cc

ok_same : {A B : Type 0} (a b : A) (r : Result A B) → r ≡ Ok a → r ≡ Ok b → a ≡ b
ok_same a b r e f = cc

err_same : {A B : Type 0} (a b : B) (r : Result A B) → r ≡ Err a → r ≡ Err b → a ≡ b
err_same a b r e f = cc

-- ---- tables of the same columns

one_even : (columns : List (List ℤ)) → IsProp (AreEven columns)
one_even columns = hlevel props

one_short : (columns : List (List ℤ)) → IsProp (AreShort columns)
one_short columns = hlevel props

proofs_same : (a : Table) (even : AreEven a.columns) (short : AreShort a.columns) → ◌≡◌ {A = Table} a (record { columns = a.columns; even = even; short = short })
proofs_same a even short =
    ap (λ (e : AreEven a.columns). let t : Table = record { columns = a.columns; even = e; short = a.short } in t) (one_even a.columns a.even even)
    ∙ ap (λ (s : AreShort a.columns). let t : Table = record { columns = a.columns; even = even; short = s } in t) (one_short a.columns a.short short)

-- tables of the same columns are one
same_table : (a b : Table) → a.columns ≡ b.columns → a ≡ b
same_table a b e = subst (λ columns. (even : AreEven columns) (short : AreShort columns) → ◌≡◌ {A = Table} a (record { columns = columns; even = even; short = short })) e (proofs_same a) b.even b.short

module _ (holds : Holding) where
  -- what is read, said twice
  same_read : (read : ReadSpec) (a b : Columns) → DoesGive holds read a → MayGive holds read b → (r : Columns) × (r ≡ a) × (r ≡ b)
  same_read read a b does may = (answer_of read.columns does.0, does.2, may does.0 does.1)

  -- a call whose file may have a table has no fault that is told
  good_first : (read : ReadSpec) (rest : List ReadSpec) (columns : List (List ℤ)) (name : Name) (bad : Bad) → MayGive holds read (Ok columns)
      → IsFirstBad (DoesGive holds) (read ∷ rest) name bad → IsFirstBad (DoesGive holds) rest name bad
  good_first read rest columns name bad may (bad_here does) = let s = same_read read (Err bad) (Ok columns) does may in absurd (ok_err columns bad s.0 s.2 s.1)
  good_first read rest columns name bad may (bad_later does first) = first

  -- a call whose file may have a fault has that one, if any is told
  bad_first : (read : ReadSpec) (rest : List ReadSpec) (bad2 : Bad) (name : Name) (bad : Bad) → MayGive holds read (Err bad2)
      → IsFirstBad (DoesGive holds) (read ∷ rest) name bad → (read.file ≡ name) × (bad2 ≡ bad)
  bad_first read rest bad2 name bad may (bad_here does) = let s = same_read read (Err bad) (Err bad2) does may in (refl, err_same bad2 bad s.0 s.2 s.1)
  bad_first read rest bad2 name bad may (bad_later {columns = columns} does first) =
      let s = same_read read (Ok columns) (Err bad2) does may in absurd (ok_err columns bad2 s.0 s.1 s.2)

  -- the first fault that is told is the one
  pub one_first : {reads : List ReadSpec} {name2 : Name} {bad2 : Bad} (name : Name) (bad : Bad) → IsFirstBad (MayGive holds) reads name2 bad2
      → IsFirstBad (DoesGive holds) reads name bad → (name2 ≡ name) × (bad2 ≡ bad)
  one_first name bad (bad_here {read = read} {reads = rest} {bad = bad2} may) first = bad_first read rest bad2 name bad may first
  one_first name bad (bad_later {read = read} {reads = rest} {columns = columns} may later) first =
      one_first name bad later (good_first read rest columns name bad may first)

  -- calls that may have tables have no first fault that is told
  pub none_first : (reads : List ReadSpec) (tables : List Table) (name : Name) (bad : Bad) → AreTables (MayGive holds) reads tables
      → IsFirstBad (DoesGive holds) reads name bad → ⊥
  none_first [] tables name bad h first = elim first [ ]
  none_first (read ∷ reads) (table ∷ tables) name bad h first = none_first reads tables name bad h.1 (good_first read reads table.columns name bad h.0 first)
  none_first (read ∷ reads) [] name bad h first = absurd h

  -- calls whose tables are told may have no fault
  pub all_good : {reads : List ReadSpec} {name : Name} {bad : Bad} (tables : List Table) → AreTables (DoesGive holds) reads tables
      → IsFirstBad (MayGive holds) reads name bad → ⊥
  all_good [] h (bad_here may) = absurd h
  all_good [] h (bad_later may later) = absurd h
  all_good (table ∷ tables) h (bad_here {read = read} {bad = bad} may) =
      let s = same_read read (Ok table.columns) (Err bad) h.0 may in ok_err table.columns bad s.0 s.1 s.2
  all_good (table ∷ tables) h (bad_later may later) = all_good tables h.1 later

  -- the tables that are told are the ones
  pub one_tables : (reads : List ReadSpec) (a b : List Table) → AreTables (DoesGive holds) reads a → AreTables (MayGive holds) reads b → b ≡ a
  one_tables [] [] [] does may = refl
  one_tables (read ∷ reads) (x ∷ a) (y ∷ b) does may =
      let s = same_read read (Ok x.columns) (Ok y.columns) does.0 may.0 in
      let first = same_table y x (ok_same y.columns x.columns s.0 s.2 s.1) in
      ap (λ (t : Table). t ∷ b) first ∙ ap (λ (ts : List Table). x ∷ ts) (one_tables reads a b does.1 may.1)
  one_tables [] (x ∷ a) b does may = absurd does
  one_tables [] [] (y ∷ b) does may = absurd may
  one_tables (read ∷ reads) [] b does may = absurd does
  one_tables (read ∷ reads) (x ∷ a) [] does may = absurd may
