-- The arguments of calls that are values, and the stencils of a script, each of which has a balanced copy of its array.
use Rattle.std.specs.Prelude.{ℕ, ◌==◌, Bool, true, false, if◌then◌else◌, List, [], ◌∷◌, ◌++◌, slice_index_or, Option, Some, None}
use Rattle.hp_script.specs.declared.function.Function.{Function}
use Rattle.hp_script.specs.declared.function.Function.TheVariants as function
use Rattle.hp_script.specs.declared.typed.Shape.{Shape}
use Rattle.hp_script.specs.Functions.{function_named}
use Rattle.hp_script.specs.Mirror.{Tree, Args, Block, number, truth, text, variable, column, field, unary, binary, index, call, none, plain, range, lambda, named, done, assign, print, export, choose, loop}
use Rattle.hp_air.specs.Unknowns.{width, number_of}

-- the numbers of the arguments of a call that are values
unfoldable pub values_among : Args → List ℕ
values_among none = []
values_among (plain x xs) = number_of x ∷ values_among xs
values_among (range x y xs) = values_among xs
values_among (lambda parameter x xs) = values_among xs
values_among (named name at x xs) = number_of x ∷ values_among xs

-- of how many arrays the first of them is, by the types of the script's expressions
abbrev pub first_width : List (Option Shape) → List ℕ → ℕ
first_width shapes [] = 0
first_width shapes (node ∷ nodes) = width (slice_index_or shapes node None)

-- a call that is a stencil of one array
abbrev pub copy_by : List (Option Shape) → (node : ℕ) → (dotted : Bool) → Option Function → (values : List ℕ) → List ℕ
copy_by shapes node false (Some function.Stencil) values = if first_width shapes values == 1 then node ∷ [] else []
copy_by shapes node _ _ values = []

-- the stencils of an expression, each after those of its arguments; a lambda has none
unfoldable mutual
  pub copies_in : List (Option Shape) → Tree → List ℕ
  copies_in g (number h value) = []
  copies_in g (truth h holds) = []
  copies_in g (text h bytes) = []
  copies_in g (variable h x) = []
  copies_in g (column h c) = []
  copies_in g (field h d c) = []
  copies_in g (unary h op dotted x) = copies_in g x
  copies_in g (binary h op dotted x y) = copies_in g x ++ copies_in g y
  copies_in g (index h x i) = copies_in g x ++ copies_in g i
  copies_in g (call h function dotted xs) = copies_among g xs ++ copy_by g h.id dotted (function_named dotted function) (values_among xs)

  pub copies_among : List (Option Shape) → Args → List ℕ
  copies_among g none = []
  copies_among g (plain x xs) = copies_in g x ++ copies_among g xs
  copies_among g (range x y xs) = (copies_in g x ++ copies_in g y) ++ copies_among g xs
  copies_among g (lambda parameter x xs) = copies_among g xs
  copies_among g (named name at x xs) = copies_in g x ++ copies_among g xs

-- those of statements
unfoldable pub copies_of : List (Option Shape) → Block → List ℕ
copies_of g done = []
copies_of g (assign at x e rest) = copies_in g e ++ copies_of g rest
copies_of g (print at e rest) = copies_in g e ++ copies_of g rest
copies_of g (export at e rest) = copies_in g e ++ copies_of g rest
copies_of g (choose at test body other rest) = ((copies_in g test ++ copies_of g body) ++ copies_of g other) ++ copies_of g rest
copies_of g (loop at test body rest) = (copies_in g test ++ copies_of g body) ++ copies_of g rest
