-- Values whose arrays have at most as many elements as an array may have, which each value of a script is.
use Rattle.std.proofs.Common.{◌≡◌, ℕ, ◌*◌, ◌≤◌, List, length, Some}
use Rattle.std.specs.List.{AllByRecursion}
use Rattle.hp_word.specs.declared.place.Trap.{Trap}
use Rattle.hp_word.specs.Lengths.{longest}
use Rattle.hp_meaning.specs.declared.value.Column.{Column}
use Rattle.hp_meaning.specs.declared.value.Value.{Value}
use Rattle.hp_meaning.specs.declared.value.Value.TheVariants.{Word, List as Listed, Matrix, Frame}
use Rattle.hp_meaning.specs.declared.value.Var.{Var}
use Rattle.hp_meaning.specs.Outcomes.{Answer, Gives, Traps, Refuses, Course, Is, Stops, Wrong}
use Rattle.hp_meaning.specs.Scopes.{Scope, value_named}

-- the columns of a frame
abbrev pub AreShortColumns : List Column → Type 0
AreShortColumns columns = AllByRecursion (λ c. length c.cells ≤ longest) columns

-- of a matrix all of its elements count
abbrev pub IsShort : Value → Type 0
IsShort (Word kind x) = Unit {0}
IsShort (Listed kind xs) = length xs ≤ longest
IsShort (Matrix m) = m.rows * length m.columns ≤ longest
IsShort (Frame columns) = AreShortColumns columns

abbrev pub AreShortVars : List Var → Type 0
AreShortVars vars = (x : List ℕ) (a : Value) → value_named x vars ≡ Some a → IsShort a

pub record ShortScope (v : Scope) : Type 0 where
  pub vars : AreShortVars v.vars
  pub frame : (columns : List Column) → v.frame ≡ Some columns → AreShortColumns columns

-- an answer that is such, where it is one
pub data OnlyGives {A : Type 0} (P : A → Type 0) : Answer A → Type 0 where
  gives_such : {a : A} → P a → OnlyGives P (Gives a)
  traps_so : {t : Trap} → OnlyGives P (Traps t)
  refuses_so : OnlyGives P Refuses

-- an outcome whose value is such, where there is one
pub data Only {N A : Type 0} (P : A → Type 0) : Course N A → Type 0 where
  is_such : {a : A} {n : N} → P a → Only P (Is a n)
  stops_so : {t : Trap} {n : N} → Only P (Stops t n)
  wrong_so : Only P Wrong
