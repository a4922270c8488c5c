-- What goes with the types of a script: values, and the tables for its files.
use Rattle.std.specs.Prelude.{◌≡◌, ℕ, ℤ, pos, ◌==◌, Bool, true, false, ◌&&◌, List, [], ◌∷◌, map, length, IsTrue, codes, Option, Some, refl}
use Rattle.std.specs.List.{list_all}
use Rattle.hp_word.specs.declared.name.Name.{Name}
use Rattle.hp_word.specs.declared.table.Table.{Table}
use Rattle.hp_word.specs.FoldLaws.{is_truth}
use Rattle.hp_script.specs.declared.typed.ReadSpec.{ReadSpec}
use Rattle.hp_script.specs.declared.typed.Shape.{Shape}
use Rattle.hp_script.specs.declared.typed.Shape.TheVariants as shape
use Rattle.hp_script.specs.Checked.{start_of, after}
use Rattle.hp_script.specs.Mirror.{Block}
use Rattle.hp_script.specs.Scope.{Scope, is_set, shape_among}
use Rattle.hp_script.specs.Trees.{named}
use Rattle.hp_meaning.specs.declared.seq.SeqStatus.TheVariants.{Done}
use Rattle.hp_meaning.specs.declared.value.Column.{Column}
use Rattle.hp_meaning.specs.declared.value.Kind.TheVariants.{Number, Truth}
use Rattle.hp_word.specs.declared.matrix.Matrix.{Matrix as Grid}
use Rattle.hp_meaning.specs.declared.value.Value.{Value}
use Rattle.hp_meaning.specs.declared.value.Value.TheVariants.{Word, List as Listed, Matrix, Frame}
use Rattle.hp_meaning.specs.declared.value.Var.{Var}
use Rattle.hp_meaning.specs.FrameRules.{column}
use Rattle.hp_meaning.specs.Run.{End}
use Rattle.hp_meaning.specs.Scopes.{value_named}

-- the names of columns, in their order
abbrev pub names_of : List Column → List Name
names_of columns = map (λ c. c.name) columns

-- A value is of a type: a word or an array of the type's kind, where truth values are the words 0 and 1, a matrix, or a
-- frame whose columns have just the names of the type, in their order.
pub data HasShape : Shape → Value → Type 0 where
  a_number : (x : ℤ) → HasShape shape.Int (Word Number x)
  a_truth : (x : ℤ) → is_truth x ≡ true → HasShape shape.Bool (Word Truth x)
  numbers : (xs : List ℤ) → HasShape shape.Ints (Listed Number xs)
  truths : (xs : List ℤ) → list_all is_truth xs ≡ true → HasShape shape.Bools (Listed Truth xs)
  a_matrix : (m : Grid) → HasShape shape.Matrix (Matrix m)
  a_frame : (names : List Name) (columns : List Column) → names_of columns ≡ names → HasShape (shape.Frame names) (Frame columns)

-- ---- variables

-- a variable has a type and a value of it
pub data Bound : Option Shape → Option Value → Type 0 where
  bound : {kind : Shape} {a : Value} → HasShape kind a → Bound (Some kind) (Some a)

-- at a point of a script each variable that is surely set has a value of its type
pub record Keeps (s : Scope) (vars : List Var) : Type 0 where
  pub known : (x : List ℕ) → is_set s.ways x ≡ true → Bound (shape_among s.vars x) (value_named x vars)

-- each variable that has a value has a type, and the value is of it
pub record AreTyped (s : Scope) (vars : List Var) : Type 0 where
  pub typed : (x : List ℕ) (a : Value) → value_named x vars ≡ Some a → Bound (shape_among s.vars x) (Some a)

-- Where a script is done, the variables are those of the point behind it: each that every path assigns has a value, and
-- each value is of its variable's type, whatever path assigned it.
abbrev pub EndsTyped : Block → End → Type 0
EndsTyped body e = e.status ≡ Done → Keeps (after (start_of body) body) e.at.env × AreTyped (after (start_of body) body) e.at.env

-- ---- tables

-- as many tables as files, each with as many columns as are read of its file
abbrev pub serves : List Table → List ReadSpec → Bool
serves [] [] = true
serves (table ∷ tables) (file ∷ files) = (length table.columns == length file.columns) && serves tables files
serves _ _ = false

-- The tables go with the files that a script reads, the first with the first.
abbrev pub Serves : List Table → List ReadSpec → Type 0
Serves tables files = IsTrue (serves tables files)

-- ---- worked rows

abbrev a : List ℕ
a = codes "a"

abbrev b : List ℕ
b = codes "b"

-- a truth value is no number
truth_row : (x : ℤ) → HasShape shape.Int (Word Truth x) → ⊥
truth_row x h = elim h [ ]

-- and it is no word but 0 and 1
two_row : HasShape shape.Bool (Word Truth (pos 2)) → ⊥
two_row (a_truth _ h) = absurd cc

-- a frame has the names of its columns, in their order
frame_row : (xs ys : List ℤ) → HasShape (shape.Frame (named a ∷ named b ∷ [])) (Frame (column a xs ∷ column b ys ∷ []))
frame_row xs ys = a_frame _ _ refl

swapped_row : (xs ys : List ℤ) → names_of (column b ys ∷ column a xs ∷ []) ≡ named b ∷ named a ∷ []
swapped_row xs ys = refl

-- one table for one file of two columns, if it has two; and none for one file
wide_row : (file : Name) (table : Table) → serves (table ∷ []) (record { file = file; columns = named a ∷ named b ∷ [] } ∷ []) ≡ (length table.columns == 2) && true
wide_row file table = refl

missing_row : (file : ReadSpec) → serves [] (file ∷ []) ≡ false
missing_row file = refl
