-- Which scripts fit, and what is said of one that does: its variables, the types of its expressions and its files.
use Rattle.std.specs.Prelude.{ℕ, ◌≡◌, Bool, true, false, ◌&&◌, List, [], ◌∷◌, ◌++◌, bytes_eq, Option, Some, None}
use Rattle.std.specs.Option.{option_or}
use Rattle.hp_word.specs.declared.name.Name.{Name}
use Rattle.hp_script.specs.declared.rule.Refusal.{Refusal}
use Rattle.hp_script.specs.declared.rule.Rule.TheVariants.{WrongType, TypeChanged}
use Rattle.hp_script.specs.declared.typed.Shape.{Shape}
use Rattle.hp_script.specs.declared.typed.Shape.TheVariants as shape
use Rattle.hp_script.specs.declared.typed.ReadSpec.{ReadSpec}
use Rattle.hp_script.specs.declared.typed.Typed.{Typed}
use Rattle.hp_script.specs.Breaks.{unless, is_frame}
use Rattle.hp_script.specs.Entries.{files_in}
use Rattle.hp_script.specs.Mirror.{Block, done, assign, print, export, choose, loop, block_of}
use Rattle.hp_script.specs.Scope.{Scope, shape_among, after_assignment}
use Rattle.hp_script.specs.Walk.{shape_of, break_of, entries_of}

-- ---- types that agree

abbrev pub same_names : List Name → List Name → Bool
same_names [] [] = true
same_names (x ∷ xs) (y ∷ ys) = bytes_eq x.bytes y.bytes && same_names xs ys
same_names _ _ = false

-- one type; frames differ where their columns do
abbrev pub same_shape : Shape → Shape → Bool
same_shape shape.Int shape.Int = true
same_shape shape.Bool shape.Bool = true
same_shape shape.Ints shape.Ints = true
same_shape shape.Bools shape.Bools = true
same_shape shape.Matrix shape.Matrix = true
same_shape (shape.Frame xs) (shape.Frame ys) = same_names xs ys
same_shape _ _ = false

-- a value of this type where the first assignment, if there was one, had that type
abbrev pub keeps_shape : (first : Option Shape) → Option Shape → Bool
keeps_shape (Some first) (Some found) = same_shape first found
keeps_shape _ _ = true

abbrev pub is_printed : Option Shape → Bool
is_printed (Some shape.Int) = true
is_printed (Some shape.Bool) = true
is_printed (Some shape.Ints) = true
is_printed (Some shape.Bools) = true
is_printed _ = false

abbrev pub is_test : Option Shape → Bool
is_test (Some shape.Bool) = true
is_test _ = false

-- ---- statements

-- the names that a block assigns
unfoldable pub assigned_in : Block → List (List ℕ)
assigned_in done = []
assigned_in (assign at x e rest) = x ∷ assigned_in rest
assigned_in (print at e rest) = assigned_in rest
assigned_in (export at e rest) = assigned_in rest
assigned_in (choose at test body other rest) = assigned_in body ++ assigned_in other ++ assigned_in rest
assigned_in (loop at test body rest) = assigned_in body ++ assigned_in rest

-- the second branch of an `if`, behind the first in the text, and reached by the ways that led to the `if`
abbrev pub second_branch : (before first : Scope) → Scope
second_branch before first = record first { ways = before.ways }

-- behind an `if`: each way went through one of the branches
abbrev pub behind_branches : (first second : Scope) → Scope
behind_branches first second = record second { ways = first.ways ++ second.ways }

-- behind a `while`, whose body may be passed over
abbrev pub behind_loop : (before body : Scope) → Scope
behind_loop before body = record body { ways = before.ways ++ body.ways }

-- where a script stands behind a block
unfoldable pub after : Scope → Block → Scope
after s done = s
after s (assign at x e rest) = after (after_assignment s x (shape_of s e)) rest
after s (print at e rest) = after s rest
after s (export at e rest) = after s rest
after s (choose at test body other rest) = after (behind_branches (after s body) (after (second_branch s (after s body)) other)) rest
after s (loop at test body rest) = after (behind_loop s (after s body)) rest

-- the tests of a block's statements
unfoldable pub break_in : Scope → Block → Option Refusal
break_in s done = None
break_in s (assign at x e rest) =
    option_or (break_of s e)
    (option_or (unless (keeps_shape (shape_among s.vars x) (shape_of s e)) at TypeChanged) (break_in (after_assignment s x (shape_of s e)) rest))
break_in s (print at e rest) = option_or (break_of s e) (option_or (unless (is_printed (shape_of s e)) at WrongType) (break_in s rest))
break_in s (export at e rest) = option_or (break_of s e) (option_or (unless (is_frame (shape_of s e)) at WrongType) (break_in s rest))
break_in s (choose at test body other rest) =
    option_or (break_of s test)
    (option_or (unless (is_test (shape_of s test)) at WrongType)
    (option_or (break_in s body)
    (option_or (break_in (second_branch s (after s body)) other)
    (break_in (behind_branches (after s body) (after (second_branch s (after s body)) other)) rest))))
break_in s (loop at test body rest) =
    option_or (break_of s test)
    (option_or (unless (is_test (shape_of s test)) at WrongType)
    (option_or (break_in s body) (break_in (behind_loop s (after s body)) rest)))

-- the types of the expressions of a block, in the order of the text
unfoldable pub entries_in : Scope → Block → List (Option Shape)
entries_in s done = []
entries_in s (assign at x e rest) = entries_of s e ++ entries_in (after_assignment s x (shape_of s e)) rest
entries_in s (print at e rest) = entries_of s e ++ entries_in s rest
entries_in s (export at e rest) = entries_of s e ++ entries_in s rest
entries_in s (choose at test body other rest) =
    entries_of s test ++ entries_in s body ++ entries_in (second_branch s (after s body)) other
    ++ entries_in (behind_branches (after s body) (after (second_branch s (after s body)) other)) rest
entries_in s (loop at test body rest) = entries_of s test ++ entries_in s body ++ entries_in (behind_loop s (after s body)) rest

-- the files that a block reads, in the order of the text
unfoldable pub files_of : Block → List ReadSpec
files_of done = []
files_of (assign at x e rest) = files_in e ++ files_of rest
files_of (print at e rest) = files_in e ++ files_of rest
files_of (export at e rest) = files_in e ++ files_of rest
files_of (choose at test body other rest) = files_in test ++ files_of body ++ files_of other ++ files_of rest
files_of (loop at test body rest) = files_in test ++ files_of body ++ files_of rest

-- ---- scripts

-- the start of a script: one way leads here, which assigns nothing
abbrev pub start_of : Block → Scope
start_of body = record { assigned = assigned_in body; vars = []; ways = [] ∷ []; around = None; parameters = [] }

-- the first test of a script that fails
unfoldable pub first_break : Block → Option Refusal
first_break body = break_in (start_of body) body

-- No rule breaks, and what is said of the script is so.
pub record Checked (typed : Typed) : Type 0 where
  pub fits : first_break (block_of typed.script.body) ≡ None
  pub vars : typed.vars ≡ (after (start_of (block_of typed.script.body)) (block_of typed.script.body)).vars
  pub shapes : typed.shapes ≡ entries_in (start_of (block_of typed.script.body)) (block_of typed.script.body)
  pub reads : typed.reads ≡ files_of (block_of typed.script.body)
