-- The arguments of a call as the rules see them, beside what they mean; and the tables of the files that are read.
use Rattle.std.proofs.Common.{◌≡◌, ℕ, true, List, [], ◌∷◌, ◌++◌, length, Option, Some}
use Rattle.std.specs.List.{list_all}
use Rattle.hp_word.specs.declared.name.Name.{Name}
use Rattle.hp_word.specs.declared.table.MeasureKind.{MeasureKind}
use Rattle.hp_word.specs.declared.table.MeasureKind.TheVariants.{Count}
use Rattle.hp_word.specs.declared.table.Table.{Table}
use Rattle.hp_script.specs.declared.argument.Argument.{Argument}
use Rattle.hp_script.specs.declared.argument.Argument.TheVariants as argument
use Rattle.hp_script.specs.declared.function.Function.{Function}
use Rattle.hp_script.specs.declared.typed.ReadSpec.{ReadSpec}
use Rattle.hp_script.specs.declared.typed.Shape.{Shape}
use Rattle.hp_script.specs.declared.typed.Shape.TheVariants as shape
use Rattle.hp_script.specs.Mirror.{Head, Tree}
use Rattle.hp_script.specs.Mirror as trees
use Rattle.hp_script.specs.Scope.{Role, Scope, has_column, with_parameter}
use Rattle.hp_script.specs.Trees.{named}
use Rattle.hp_script.specs.Typing.{Wanted, a_lambda, a_column, a_measure, wanted, inside}
use Rattle.hp_meaning.specs.LambdaRules.{scalar, kind_of}
use Rattle.hp_meaning.specs.ReadCalls.{table_for}
use Rattle.hp_meaning.specs.ValueOf.{Supply, Meaning, Part, Plain, Range, Lambda, Named, is_text, measure_of}
use Rattle.hp_meaning.proofs.Bodies.{BodyAs}
use Rattle.hp_meaning.proofs.Safe.{Safe}

-- ---- tables

-- the table of a call
abbrev pub finds : Supply → ℕ → Option Table
finds g id = table_for g.reads id g.tables

-- a call finds a table of so many columns
pub record Found (find : ℕ → Option Table) (id count : ℕ) : Type 0 where
  pub table : Table
  pub found : find id ≡ Some table
  pub wide : length table.columns ≡ count

-- the calls find tables as wide as what is read of their files, as far as there are files
abbrev pub Supplies : (ℕ → Option Table) → List ℕ → List ReadSpec → Type 0
Supplies find [] files = Unit {0}
Supplies find (id ∷ ids) [] = Unit {0}
Supplies find (id ∷ ids) (file ∷ files) = Found find id (length file.columns) × Supplies find ids files

-- ---- arguments

-- a measure counts, or is of a column that each of these frames has
pub data KnownMeasure (frames : List (List Name)) : MeasureKind → List ℕ → Type 0 where
  counts : {c : List ℕ} → KnownMeasure frames Count c
  measures : {kind : MeasureKind} {c : List ℕ} → list_all (has_column c) frames ≡ true → KnownMeasure frames kind c

pub record MeasuresBy (frames : List (List Name)) (x : Tree) : Type 0 where
  pub kind : MeasureKind
  pub of_it : List ℕ
  pub is : measure_of x ≡ Some (kind, of_it)
  pub known : KnownMeasure frames kind of_it

-- a lambda makes values of this type
pub record Makes (s : Scope) (role : Role) (p : List ℕ) (x : Tree) (made : Shape) : Type 0 where
  pub body : BodyAs (with_parameter s p role) p role (Some made) (scalar x) (kind_of x p)

-- An argument and what it means agree, where this is meant; a plain one is in the inner scope.
pub data Accords (meant : Wanted) (inner s : Scope) : Argument → Part → Type 0 where
  a_value : {kind : Shape} {x : Tree} {m : Meaning} → Safe inner kind m → Accords meant inner s (argument.Value kind) (Plain x m)
  an_interval : {m k : Meaning} → Safe s shape.Int m → Safe s shape.Int k → Accords meant inner s argument.Interval (Range m k)
  a_body : {made : Shape} {p : List ℕ} {x : Tree} (role : Role) → meant ≡ a_lambda role → Makes s role p x made
      → Accords meant inner s (argument.Body made) (Lambda p x)
  a_text : {name : Name} {x : Tree} {m : Meaning} → is_text x ≡ true → Accords meant inner s (argument.Text name) (Plain x m)
  a_name : {h : Head} {c : List ℕ} {m : Meaning} (frames : List (List Name)) → meant ≡ a_column frames → list_all (has_column c) frames ≡ true
      → Accords meant inner s (argument.Column (named c)) (Plain (trees.column h c) m)
  a_gift : {name : List ℕ} {kind : Shape} {x : Tree} {m : Meaning} → Safe s kind m → Accords meant inner s (argument.Given (named name) kind) (Named name x m)
  a_measured : {name : List ℕ} {x : Tree} {m : Meaning} (frames : List (List Name)) → meant ≡ a_measure frames → MeasuresBy frames x → Accords meant inner s (argument.Measure (named name)) (Named name x m)
  a_misfit : {part : Part} → Accords meant inner s argument.Misfit part

-- the arguments behind others
pub data Agree (s : Scope) (f : Function) : List Argument → List Argument → List Part → Type 0 where
  end : {before : List Argument} → Agree s f before [] []
  more : {before : List Argument} {x : Argument} {rest : List Argument} {part : Part} {parts : List Part}
      → Accords (wanted f before) (inside s f before) s x part → Agree s f (before ++ x ∷ []) rest parts → Agree s f before (x ∷ rest) (part ∷ parts)
