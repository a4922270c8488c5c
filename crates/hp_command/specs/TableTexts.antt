-- Files that were read for tables, and what is answered where one of them has none.
use Rattle.std.specs.Prelude.{◌≡◌, ℕ, List, Some}
use Rattle.std.specs.List.{AllByRecursion}
use Rattle.hp_word.specs.declared.name.Name.{Name}
use Rattle.hp_tables.specs.declared.bad.Bad.{Bad}
use Rattle.hp_tables.specs.Contents.{answer_of}
use Rattle.hp_command.specs.declared.answer.Answer.{Answer}
use Rattle.hp_command.specs.declared.answer.Answer.TheVariants as answer
use Rattle.hp_command.specs.declared.tables.FileText.{FileText}
use Rattle.hp_command.specs.TablesRead.{Holding}

-- What is read of these bytes is what is read of the whole file of this name, where its bytes are told.
unfoldable pub StandsFor : Holding → List ℕ → List ℕ → Type 0
StandsFor holds name front = (bytes : List ℕ) (names : List Name) → holds name ≡ Some bytes → answer_of names front ≡ answer_of names bytes

-- files that were read, or fronts of them, each standing for its own
abbrev pub AreTexts : Holding → List FileText → Type 0
AreTexts holds texts = AllByRecursion (λ text. StandsFor holds text.name.bytes text.bytes) texts

-- an answer for want of a table in a file that was read: the file's fault, or want of memory
abbrev pub HasNoTable : (Name → Bad → Type 0) → Answer → Type 0
HasNoTable P (answer.BadTable name bad) = P name bad
HasNoTable P answer.NoMemory = Unit {0}
HasNoTable P a = ⊥
