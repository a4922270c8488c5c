-- The tables that a script reads, of the files that hold them.
use Rattle.std.specs.Prelude.{◌≡◌, ℕ, ℤ, List, [], ◌∷◌, Option, Some, Result, Ok, Err}
use Rattle.hp_word.specs.declared.name.Name.{Name}
use Rattle.hp_word.specs.declared.table.Table.{Table}
use Rattle.hp_script.specs.declared.typed.ReadSpec.{ReadSpec}
use Rattle.hp_tables.specs.declared.bad.Bad.{Bad}
use Rattle.hp_tables.specs.Contents.{answer_of}

-- the bytes of the file of each name, where they are told
abbrev pub Holding : Type 0
Holding = List ℕ → Option (List ℕ)

-- the columns that are read of a file, or its first fault
abbrev pub Columns : Type 0
Columns = Result (List (List ℤ)) Bad

-- what a call reads of its file, unless the file's bytes are told to be others
abbrev pub MayGive : Holding → ReadSpec → Columns → Type 0
MayGive holds read columns = (bytes : List ℕ) → holds read.file.bytes ≡ Some bytes → answer_of read.columns bytes ≡ columns

-- what a call reads of its file, whose bytes are told
abbrev pub DoesGive : Holding → ReadSpec → Columns → Type 0
DoesGive holds read columns = (bytes : List ℕ) × (holds read.file.bytes ≡ Some bytes) × (answer_of read.columns bytes ≡ columns)

-- One table for each call, in the order of the text, of what the calls read of their files.
abbrev pub AreTables : (ReadSpec → Columns → Type 0) → List ReadSpec → List Table → Type 0
AreTables Gives [] [] = Unit {0}
AreTables Gives (read ∷ reads) (table ∷ tables) = Gives read (Ok table.columns) × AreTables Gives reads tables
AreTables Gives _ _ = ⊥

-- the first call whose file has a fault is of the file of this name, which has this fault
pub data IsFirstBad (Gives : ReadSpec → Columns → Type 0) : List ReadSpec → Name → Bad → Type 0 where
  bad_here : {read : ReadSpec} {reads : List ReadSpec} {bad : Bad} → Gives read (Err bad) → IsFirstBad Gives (read ∷ reads) read.file bad
  bad_later : {read : ReadSpec} {reads : List ReadSpec} {columns : List (List ℤ)} {name : Name} {bad : Bad}
      → Gives read (Ok columns) → IsFirstBad Gives reads name bad → IsFirstBad Gives (read ∷ reads) name bad

-- some call is of the file of this name, and no call before it is of a file that has a fault
pub data IsReached (Gives : ReadSpec → Columns → Type 0) : List ReadSpec → List ℕ → Type 0 where
  reached_here : {read : ReadSpec} {reads : List ReadSpec} → IsReached Gives (read ∷ reads) read.file.bytes
  reached_later : {read : ReadSpec} {reads : List ReadSpec} {columns : List (List ℤ)} {name : List ℕ}
      → Gives read (Ok columns) → IsReached Gives reads name → IsReached Gives (read ∷ reads) name
