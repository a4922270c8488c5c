-- What is said of the tables of files in one state, said of them in another that holds the same.
use Rattle.std.proofs.Common.{◌≡◌, ℕ, List, [], ◌∷◌, Ok, ◌∙◌}
use Rattle.hp_word.specs.declared.name.Name.{Name}
use Rattle.hp_word.specs.declared.table.Table.{Table}
use Rattle.hp_script.specs.declared.typed.ReadSpec.{ReadSpec}
use Rattle.hp_tables.specs.declared.bad.Bad.{Bad}
use Rattle.hp_command.specs.TablesRead.{Holding, Columns, MayGive, AreTables, IsFirstBad, bad_here, bad_later, IsReached, reached_here, reached_later}

-- whatever one gives, the other gives
module _ (P Q : ReadSpec → Columns → Type 0) (to : (read : ReadSpec) (columns : Columns) → P read columns → Q read columns) where
  pub are_tables : (reads : List ReadSpec) (tables : List Table) → AreTables P reads tables → AreTables Q reads tables
  are_tables [] [] h = h
  are_tables (read ∷ reads) (table ∷ tables) h = (to read (Ok table.columns) h.0, are_tables reads tables h.1)
  are_tables [] (table ∷ tables) h = h
  are_tables (read ∷ reads) [] h = h

  pub is_first_bad : {reads : List ReadSpec} {name : Name} {bad : Bad} → IsFirstBad P reads name bad → IsFirstBad Q reads name bad
  is_first_bad (bad_here h) = bad_here (to _ _ h)
  is_first_bad (bad_later h later) = bad_later (to _ _ h) (is_first_bad later)

  pub is_reached : {reads : List ReadSpec} {name : List ℕ} → IsReached P reads name → IsReached Q reads name
  is_reached reached_here = reached_here
  is_reached (reached_later h later) = reached_later (to _ _ h) (is_reached later)

-- the files hold in one state what they hold in the other
module _ (old mid : Holding) (same : (other : List ℕ) → mid other ≡ old other) where
  pub may_give : (read : ReadSpec) (columns : Columns) → MayGive mid read columns → MayGive old read columns
  may_give read columns h = λ bytes told. h bytes (same read.file.bytes ∙ told)
