-- What an operation asks of its arrays' distributions: the table as a relation with one case for each variant, and the
-- same as constraints. A list of arrays that is a frame's stands for its first column, except for the pairs of a copy
-- and for the single arrays that a frame or a matrix is made of.
use Rattle.std.specs.Prelude.{◌≡◌, ℕ, zero, suc, List, [], ◌∷◌, ◌++◌, flat_map, zip, IsTrue, refl}
use Rattle.std.specs.List.{AllByRecursion, AllZip}
use Rattle.hp_word.specs.declared.fold.FoldKind.{FoldKind}
use Rattle.hp_lattice.specs.declared.dist.Dist.{Dist}
use Rattle.hp_lattice.specs.declared.dist.Dist.TheVariants.{Rep, Var, Block}
use Rattle.hp_lattice.specs.Lattice.{is_below, raised}
use Rattle.hp_air.specs.declared.constraint.Relation.{Relation}
use Rattle.hp_air.specs.declared.constraint.Relation.TheVariants.{Same, Up, AtMost}
use Rattle.hp_air.specs.Arrays.{Arrays, Scalar, Length, Fill, Range, Read, Copy, Map, Reduce, Scan, Stencil, Filter, Join, Group, Concat, Sort, At, Pick, Frame, Stack, Row, Product, ProductT, PrintWord, PrintList, Export}

-- ---- the table as a relation

-- an array lies at most so: whole, or in pieces
abbrev pub IsAtMost : {X : Type 0} → (X → Dist) → X → Dist → Type 0
IsAtMost d x limit = IsTrue (is_below (d x) limit)

-- an array lies at most as another may where that is dealt out anew
abbrev pub IsUpTo : {X : Type 0} → (X → Dist) → X → X → Type 0
IsUpTo d x y = IsTrue (is_below (d x) (raised (d y)))

-- two arrays lie alike
abbrev pub LieAlike : {X : Type 0} → (X → Dist) → X → X → Type 0
LieAlike d x y = d x ≡ d y

-- `Meets d a`: under these distributions the arrays of the operation lie as it asks.
pub data Meets {X : Type 0} (d : X → Dist) : Arrays X → Type 0 where
  -- Const, Calc
  scalar_meets : Meets d Scalar
  -- Length
  length_meets : {array : X} → Meets d (Length array)
  -- Fill
  fill_meets : {out : X} → Meets d (Fill out)
  -- Range
  range_meets : {out : X} → Meets d (Range out)
  -- Read: the outs are equal
  read_meets : {out : X} {outs : List X} → AllByRecursion (LieAlike d out) outs → Meets d (Read (out ∷ outs))
  -- Copy: each out is its in
  copy_meets : {outs ins : List X} → AllZip (LieAlike d) outs ins → Meets d (Copy outs ins)
  -- Map: the out is each in
  map_meets : {out : X} {ins : List X} → AllByRecursion (LieAlike d out) ins → Meets d (Map out ins)
  -- Reduce
  reduce_meets : {kind : FoldKind} {array : X} → Meets d (Reduce kind array)
  -- Scan: the out is the array
  scan_meets : {out array : X} → LieAlike d out array → Meets d (Scan out array)
  -- Stencil: the balanced copy and the array, and the out and the balanced copy, are up to each other
  stencil_meets : {out array balanced : X}
      → IsUpTo d balanced array → IsUpTo d array balanced → IsUpTo d out balanced → IsUpTo d balanced out → Meets d (Stencil out array balanced)
  -- Filter: the mask is the in; the out is at most in pieces; the out and the in are up to each other
  filter_meets : {out x mask : X} {outs ins : List X}
      → LieAlike d mask x → IsAtMost d out Var → IsUpTo d out x → IsUpTo d x out → Meets d (Filter (out ∷ outs) (x ∷ ins) mask)
  -- Join: the out is at most in pieces; the out and the left are up to each other; the right is up to the left
  join_meets : {out left right : X} {outs lefts rights : List X}
      → IsAtMost d out Var → IsUpTo d out left → IsUpTo d left out → IsUpTo d right left → Meets d (Join (out ∷ outs) (left ∷ lefts) (right ∷ rights))
  -- Group: the out is at most in pieces; the out and the in are up to each other
  group_meets : {out x : X} {outs ins : List X}
      → IsAtMost d out Var → IsUpTo d out x → IsUpTo d x out → Meets d (Group (out ∷ outs) (x ∷ ins))
  -- Concat: the out and the left, and the out and the right, are up to each other
  concat_meets : {out left right : X}
      → IsUpTo d out left → IsUpTo d out right → IsUpTo d left out → IsUpTo d right out → Meets d (Concat out left right)
  -- Sort: the out is whole
  sort_meets : {out : X} {outs ins : List X} → IsAtMost d out Rep → Meets d (Sort (out ∷ outs) ins)
  -- At: the array is whole
  at_meets : {array : X} → IsAtMost d array Rep → Meets d (At array)
  -- Pick: the array is whole; the out is the index
  pick_meets : {out array index : X} → IsAtMost d array Rep → LieAlike d out index → Meets d (Pick out array index)
  -- Frame: the first out is each in
  frame_meets : {out : X} {outs ins : List X} → AllByRecursion (LieAlike d out) ins → Meets d (Frame (out ∷ outs) ins)
  -- Stack: the out is each in
  stack_meets : {out : X} {ins : List X} → AllByRecursion (LieAlike d out) ins → Meets d (Stack out ins)
  -- Row: the out is the matrix
  row_meets : {out matrix : X} → LieAlike d out matrix → Meets d (Row out matrix)
  -- Product: the left is whole; the out is the right
  product_meets : {out left right : X} → IsAtMost d left Rep → LieAlike d out right → Meets d (Product out left right)
  -- ProductT: the left is the right; the out is whole
  transposed_meets : {out left right : X} → LieAlike d left right → IsAtMost d out Rep → Meets d (ProductT out left right)
  -- PrintWord
  print_word_meets : Meets d PrintWord
  -- PrintList
  print_list_meets : {array : X} → Meets d (PrintList array)
  -- Export
  export_meets : {arrays : List X} → Meets d (Export arrays)

-- ---- the table as constraints

-- a constraint on two arrays: the low one lies at most so
pub record Bound (X : Type 0) : Type 0 where
  pub low : X
  pub relation : Relation
  pub high : X

abbrev pub same : {X : Type 0} → X → X → Bound X
same x y = record { low = x; relation = Same; high = y }

abbrev pub up_to : {X : Type 0} → X → X → Bound X
up_to x y = record { low = x; relation = Up; high = y }

abbrev pub at_most : {X : Type 0} → X → Dist → Bound X
at_most x limit = record { low = x; relation = AtMost limit; high = x }

-- an equality is two constraints
abbrev pub equal : {X : Type 0} → X → X → List (Bound X)
equal x y = same x y ∷ same y x ∷ []

-- an array is equal to each of these
abbrev pub equal_all : {X : Type 0} → X → List X → List (Bound X)
equal_all x ys = flat_map (equal x) ys

-- the constraints of an operation; an operation has no empty list
unfoldable pub bounds_of : {X : Type 0} → Arrays X → List (Bound X)
bounds_of (Read (out ∷ outs)) = equal_all out outs
bounds_of (Copy outs ins) = flat_map (λ p. equal p.0 p.1) (zip outs ins)
bounds_of (Map out ins) = equal_all out ins
bounds_of (Scan out array) = equal out array
bounds_of (Stencil out array balanced) = up_to balanced array ∷ up_to array balanced ∷ up_to out balanced ∷ up_to balanced out ∷ []
bounds_of (Filter (out ∷ outs) (x ∷ ins) mask) = equal mask x ++ at_most out Var ∷ up_to out x ∷ up_to x out ∷ []
bounds_of (Join (out ∷ outs) (left ∷ lefts) (right ∷ rights)) = at_most out Var ∷ up_to out left ∷ up_to left out ∷ up_to right left ∷ []
bounds_of (Group (out ∷ outs) (x ∷ ins)) = at_most out Var ∷ up_to out x ∷ up_to x out ∷ []
bounds_of (Concat out left right) = up_to out left ∷ up_to out right ∷ up_to left out ∷ up_to right out ∷ []
bounds_of (Sort (out ∷ outs) ins) = at_most out Rep ∷ []
bounds_of (At array) = at_most array Rep ∷ []
bounds_of (Pick out array index) = at_most array Rep ∷ equal out index
bounds_of (Frame (out ∷ outs) ins) = equal_all out ins
bounds_of (Stack out ins) = equal_all out ins
bounds_of (Row out matrix) = equal out matrix
bounds_of (Product out left right) = at_most left Rep ∷ equal out right
bounds_of (ProductT out left right) = equal left right ++ at_most out Rep ∷ []
bounds_of _ = []

-- what a constraint says of the low array's distribution
abbrev pub says : Relation → (low high : Dist) → Type 0
says Same low high = IsTrue (is_below low high)
says Up low high = IsTrue (is_below low (raised high))
says (AtMost limit) low high = IsTrue (is_below low limit)

abbrev pub Holds : {X : Type 0} → (X → Dist) → Bound X → Type 0
Holds d b = says b.relation (d b.low) (d b.high)

-- all constraints hold
abbrev pub IsSolution : {X : Type 0} → (X → Dist) → List (Bound X) → Type 0
IsSolution d bounds = AllByRecursion (Holds d) bounds

-- ---- worked rows

abbrev first_in_pieces : ℕ → Dist
first_in_pieces zero = Var
first_in_pieces (suc k) = Block

abbrev in_blocks : ℕ → Dist
in_blocks k = Block

-- what is filtered may lie in blocks, and its result in pieces; but not in blocks too
filter_row : Meets first_in_pieces (Filter (0 ∷ []) (1 ∷ []) 2)
filter_row = filter_meets refl refl refl refl

blocks_row : Meets in_blocks (Filter (0 ∷ []) (1 ∷ []) 2) → ⊥
blocks_row (filter_meets mask limit out x) = absurd cc

product_row : bounds_of {X = ℕ} (Product 0 1 2) ≡ at_most 1 Rep ∷ same 0 2 ∷ same 2 0 ∷ []
unfolding bounds_of
product_row = refl
