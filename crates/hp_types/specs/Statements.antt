-- What the checker knows of variables behind some statements, and what it tells of statements.
use Rattle.std.specs.Prelude.{ℕ, ◌≡◌, true, List, [], ◌++◌, Option, Some, None, Result, Ok, Err}
use Rattle.std.specs.Option.{is_some, option_or}
use Rattle.hp_word.specs.declared.place.Place.{Place}
use Rattle.hp_script.specs.declared.rule.Refusal.{Refusal}
use Rattle.hp_script.specs.declared.rule.Rule.TheVariants.{WrongType}
use Rattle.hp_script.specs.declared.typed.Shape.{Shape}
use Rattle.hp_script.specs.declared.typed.ReadSpec.{ReadSpec}
use Rattle.hp_script.specs.Breaks.{unless}
use Rattle.hp_script.specs.Checked.{is_test, second_branch, behind_branches, behind_loop, after, break_in, entries_in, files_of}
use Rattle.hp_script.specs.Entries.{files_in}
use Rattle.hp_script.specs.Mirror.{Tree, Block}
use Rattle.hp_script.specs.Scope.{Scope, has, is_set, shape_among}
use Rattle.hp_types.specs.Answers.{Refuses, Grew}
use Rattle.hp_types.specs.declared.error.CheckError.{CheckError}
use Rattle.hp_types.specs.declared.found.Found.{Found}
use Rattle.hp_types.specs.declared.variables.Variables.{Variables}
use Rattle.hp_script.specs.Walk.{break_of, entries_of, shape_of}

-- these names, and more behind them
pub record Begins (front names : List (List ℕ)) : Type 0 where
  pub more : List (List ℕ)
  pub is : names ≡ front ++ more

-- These variables are those of a point of a script that assigns these names, outside of filters and lambdas.
pub record IsAt (s : Scope) (names : List (List ℕ)) (variables : Variables) : Type 0 where
  pub assigned : s.assigned ≡ names
  pub vars : s.vars ≡ variables.list
  pub sure : (x : List ℕ) → is_set s.ways x ≡ has x variables.sure
  pub known : (x : List ℕ) → has x variables.sure ≡ true → is_some (shape_among variables.list x) ≡ true
  pub around : s.around ≡ None
  pub parameters : s.parameters ≡ []

-- an expression at a point
abbrev pub TellsValue : Scope → Tree → Found → Found → Result Shape CheckError → Type 0
TellsValue s x before now (Ok shape) = (break_of s x ≡ None) × (shape_of s x ≡ Some shape) × Grew before now (entries_of s x) (files_in x)
TellsValue s x before now (Err e) = Refuses (break_of s x) e

-- the condition of a statement at this place
abbrev pub TellsTest : {A : Type 0} → Scope → Place → Tree → Found → Found → Result A CheckError → Type 0
TellsTest s at x before now (Ok a) = (break_of s x ≡ None) × (unless (is_test (shape_of s x)) at WrongType ≡ None) × Grew before now (entries_of s x) (files_in x)
TellsTest s at x before now (Err e) = Refuses (option_or (break_of s x) (unless (is_test (shape_of s x)) at WrongType)) e

-- Statements that begin at the point s: behind them the script stands at the point `behind`.
abbrev pub TellsPart : {A : Type 0} → (names : List (List ℕ)) (behind : Scope) → Option Refusal → List (Option Shape) → List ReadSpec → Found → Variables → Found → Result A CheckError → Type 0
TellsPart names behind first entries files before variables now (Ok a) = (first ≡ None) × IsAt behind names variables × Grew before now entries files
TellsPart names behind first entries files before variables now (Err e) = Refuses first e

abbrev pub TellsBlock : {A : Type 0} → Scope → List (List ℕ) → (block : Block) → Found → Variables → Found → Result A CheckError → Type 0
TellsBlock s names block = TellsPart names (after s block) (break_in s block) (entries_in s block) (files_of block)

-- the branches of an `if`
abbrev pub TellsBranches : {A : Type 0} → Scope → List (List ℕ) → (first second : Block) → Found → Variables → Found → Result A CheckError → Type 0
TellsBranches s names first second =
    TellsPart names (behind_branches (after s first) (after (second_branch s (after s first)) second))
    (option_or (break_in s first) (break_in (second_branch s (after s first)) second))
    (entries_in s first ++ entries_in (second_branch s (after s first)) second) (files_of first ++ files_of second)

-- the body of a `while`
abbrev pub TellsLoop : {A : Type 0} → Scope → List (List ℕ) → (inner : Block) → Found → Variables → Found → Result A CheckError → Type 0
TellsLoop s names inner = TellsPart names (behind_loop s (after s inner)) (break_in s inner) (entries_in s inner) (files_of inner)
