-- Which blocks and scripts fit, by the relations, and what is said of one that does.
use Rattle.std.specs.Prelude.{ℕ, pos, ◌≡◌, false, List, [], ◌∷◌, codes, Some, None, refl}
use Rattle.hp_word.specs.declared.name.Name.{Name}
use Rattle.hp_word.specs.declared.place.Place.{Place}
use Rattle.hp_script.specs.declared.typed.Shape.{Shape}
use Rattle.hp_script.specs.declared.typed.Shape.TheVariants.{Int, Bool as Truth, Ints, Bools, Frame}
use Rattle.hp_script.specs.declared.typed.Typed.{Typed}
use Rattle.hp_script.specs.Checked.{start_of, second_branch, behind_branches, behind_loop, entries_in, files_of}
use Rattle.hp_script.specs.Mirror.{Head, Tree, number, variable, call, plain, none, Block, done, assign, print, export, choose, loop, block_of}
use Rattle.hp_script.specs.Scope.{Scope, shape_among, after_assignment}
use Rattle.hp_script.specs.Shaped.{HasShape, of_number, of_variable, of_fill, of_length, array_of_numbers}
use Rattle.hp_script.specs.Trees.{named}

-- what `println` prints
pub data CanPrint : Shape → Type 0 where
  print_number : CanPrint Int
  print_truth : CanPrint Truth
  print_numbers : CanPrint Ints
  print_truths : CanPrint Bools

-- `FitsBlock s block t`: the block fits at the point `s` of a script, and `t` is the point behind it.
pub data FitsBlock : Scope → Block → Scope → Type 0 where
  fits_done : {s : Scope} → FitsBlock s done s
  -- `x = e`, the first assignment of `x` in the text
  fits_first : {s t : Scope} {at : Place} {x : List ℕ} {e : Tree} {rest : Block} {a : Shape}
      → HasShape s e a → shape_among s.vars x ≡ None → FitsBlock (after_assignment s x (Some a)) rest t → FitsBlock s (assign at x e rest) t
  -- `x = e`, where `x` has this type already
  fits_again : {s t : Scope} {at : Place} {x : List ℕ} {e : Tree} {rest : Block} {a : Shape}
      → HasShape s e a → shape_among s.vars x ≡ Some a → FitsBlock (after_assignment s x (Some a)) rest t → FitsBlock s (assign at x e rest) t
  -- `println(e)`
  fits_print : {s t : Scope} {at : Place} {e : Tree} {rest : Block} {a : Shape} → HasShape s e a → CanPrint a → FitsBlock s rest t → FitsBlock s (print at e rest) t
  -- `write_csv(d)`
  fits_export : {s t : Scope} {at : Place} {d : Tree} {rest : Block} {columns : List Name} → HasShape s d (Frame columns) → FitsBlock s rest t → FitsBlock s (export at d rest) t
  -- `if c`: the second branch stands behind the first in the text, and the ways that lead to the `if` lead to it; behind
  -- the `if` each way went through one of the branches
  fits_if : {s first second t : Scope} {at : Place} {c : Tree} {body other rest : Block}
      → HasShape s c Truth → FitsBlock s body first → FitsBlock (second_branch s first) other second → FitsBlock (behind_branches first second) rest t
      → FitsBlock s (choose at c body other rest) t
  -- `while c`, whose body may be passed over
  fits_while : {s turn t : Scope} {at : Place} {c : Tree} {body rest : Block}
      → HasShape s c Truth → FitsBlock s body turn → FitsBlock (behind_loop s turn) rest t → FitsBlock s (loop at c body rest) t

-- A script that fits, and what is said of it is so: its variables, the types that the walk finds of its expressions, and
-- its files.
pub record IsSound (typed : Typed) : Type 0 where
  pub behind : Scope
  pub fits : FitsBlock (start_of (block_of typed.script.body)) (block_of typed.script.body) behind
  pub vars : typed.vars ≡ behind.vars
  pub shapes : typed.shapes ≡ entries_in (start_of (block_of typed.script.body)) (block_of typed.script.body)
  pub reads : typed.reads ≡ files_of (block_of typed.script.body)

-- ---- a worked row

-- the point behind `x = fill(3, 10)`, where `x` is an array of numbers on the only way
behind_fill : Scope
behind_fill = record { assigned = codes "x" ∷ []; vars = record { name = named (codes "x"); shape = Ints } ∷ []; ways = (codes "x" ∷ []) ∷ []; around = None; parameters = [] }

-- `x = fill(3, 10)` and `println(length(x))`
row_of_blocks : (at : Place) (h : Head)
    → FitsBlock (record { assigned = codes "x" ∷ []; vars = []; ways = [] ∷ []; around = None; parameters = [] })
    (assign at (codes "x") (call h (codes "fill") false (plain (number h (pos 3)) (plain (number h (pos 10)) none))) (print at (call h (codes "length") false (plain (variable h (codes "x")) none)) done))
    behind_fill
unfolding behind_fill
row_of_blocks at h =
    let array : HasShape behind_fill (variable h (codes "x")) Ints = of_variable refl (record { bare = refl; known = refl; set = refl; shape = refl }) in
    let length : HasShape behind_fill (call h (codes "length") false (plain (variable h (codes "x")) none)) Int = of_length refl array_of_numbers array in
    fits_first (of_fill refl array_of_numbers of_number of_number) refl (fits_print length print_number fits_done)
