-- Which arrays an operation writes and reads: the rows of the table of operations over any names of arrays, be they slots
-- of a program or the unknowns of a script.
use Rattle.std.specs.Prelude.{◌≡◌, ℕ, Bool, true, false, List, [], ◌∷◌, map, flat_map, refl}
use Rattle.hp_word.specs.declared.fold.FoldKind.{FoldKind}
use Rattle.hp_air.specs.declared.what.What.{What}
use Rattle.hp_air.specs.declared.what.What.TheVariants as what

-- An operation by its arrays. What it writes stands first, then what it reads, side by side; a frame is the list of its
-- columns.
pub data Arrays (X : Type 0) : Type 0 where
  -- scalar work
  Scalar : Arrays X
  Length : X → Arrays X
  Fill : X → Arrays X
  Range : X → Arrays X
  Read : List X → Arrays X
  Copy : List X → List X → Arrays X
  Map : X → List X → Arrays X
  Reduce : FoldKind → X → Arrays X
  Scan : X → X → Arrays X
  -- the result, the array, and the balanced copy of the array, which it makes too
  Stencil : X → X → X → Arrays X
  -- the kept rows, the rows, and the mask
  Filter : List X → List X → X → Arrays X
  Join : List X → List X → List X → Arrays X
  Group : List X → List X → Arrays X
  Concat : X → X → X → Arrays X
  Sort : List X → List X → Arrays X
  At : X → Arrays X
  -- the elements, the array, and the positions
  Pick : X → X → X → Arrays X
  Frame : List X → List X → Arrays X
  Stack : X → List X → Arrays X
  Row : X → X → Arrays X
  Product : X → X → X → Arrays X
  ProductT : X → X → X → Arrays X
  PrintWord : Arrays X
  PrintList : X → Arrays X
  Export : List X → Arrays X

-- an operation of the array IR by its slots
unfoldable pub arrays_of : What → Arrays ℕ
arrays_of (what.Const to value) = Scalar
arrays_of (what.Calc to op left right) = Scalar
arrays_of (what.Length to array) = Length array
arrays_of (what.Fill out value count) = Fill out
arrays_of (what.Range out first last) = Range out
arrays_of (what.Read outs table) = Read outs
arrays_of (what.Copy outs ins) = Copy outs ins
arrays_of (what.Map out ins elem) = Map out ins
arrays_of (what.Reduce to kind array elem) = Reduce kind array
arrays_of (what.Scan out array) = Scan out array
arrays_of (what.Stencil out array balanced reach elem) = Stencil out array balanced
arrays_of (what.Filter outs ins mask) = Filter outs ins mask
arrays_of (what.Join outs lefts left_key rights right_key) = Join outs lefts rights
arrays_of (what.Group outs ins key measures) = Group outs ins
arrays_of (what.Concat out left right) = Concat out left right
arrays_of (what.Sort outs ins key) = Sort outs ins
arrays_of (what.At to array index) = At array
arrays_of (what.Pick out array index) = Pick out array index
arrays_of (what.Frame outs ins) = Frame outs ins
arrays_of (what.Stack out ins) = Stack out ins
arrays_of (what.Row out matrix index) = Row out matrix
arrays_of (what.Product out left right) = Product out left right
arrays_of (what.ProductT out left right) = ProductT out left right
arrays_of (what.PrintWord word truth) = PrintWord
arrays_of (what.PrintList array truth) = PrintList array
arrays_of (what.Export arrays names) = Export arrays

-- the arrays that an operation writes, in order
unfoldable pub outs : {X : Type 0} → Arrays X → List X
outs (Fill out) = out ∷ []
outs (Range out) = out ∷ []
outs (Read os) = os
outs (Copy os ins) = os
outs (Map out ins) = out ∷ []
outs (Scan out array) = out ∷ []
outs (Stencil out array balanced) = out ∷ balanced ∷ []
outs (Filter os ins mask) = os
outs (Join os lefts rights) = os
outs (Group os ins) = os
outs (Concat out left right) = out ∷ []
outs (Sort os ins) = os
outs (Pick out array index) = out ∷ []
outs (Frame os ins) = os
outs (Stack out ins) = out ∷ []
outs (Row out matrix) = out ∷ []
outs (Product out left right) = out ∷ []
outs (ProductT out left right) = out ∷ []
outs _ = []

-- the arrays that an operation reads, one list for each side
unfoldable pub sides : {X : Type 0} → Arrays X → List (List X)
sides (Length array) = (array ∷ []) ∷ []
sides (Copy os ins) = ins ∷ []
sides (Map out ins) = ins ∷ []
sides (Reduce kind array) = (array ∷ []) ∷ []
sides (Scan out array) = (array ∷ []) ∷ []
sides (Stencil out array balanced) = (array ∷ []) ∷ []
sides (Filter os ins mask) = ins ∷ (mask ∷ []) ∷ []
sides (Join os lefts rights) = lefts ∷ rights ∷ []
sides (Group os ins) = ins ∷ []
sides (Concat out left right) = (left ∷ []) ∷ (right ∷ []) ∷ []
sides (Sort os ins) = ins ∷ []
sides (At array) = (array ∷ []) ∷ []
sides (Pick out array index) = (array ∷ []) ∷ (index ∷ []) ∷ []
sides (Frame os ins) = ins ∷ []
sides (Stack out ins) = ins ∷ []
sides (Row out matrix) = (matrix ∷ []) ∷ []
sides (Product out left right) = (left ∷ []) ∷ (right ∷ []) ∷ []
sides (ProductT out left right) = (left ∷ []) ∷ (right ∷ []) ∷ []
sides (PrintList array) = (array ∷ []) ∷ []
sides (Export arrays) = arrays ∷ []
sides _ = []

-- the arrays that an operation reads
abbrev pub reads : {X : Type 0} → Arrays X → List X
reads a = flat_map (λ side. side) (sides a)

-- the same operation over other names of its arrays
unfoldable pub renamed : {X Y : Type 0} → (X → Y) → Arrays X → Arrays Y
renamed f Scalar = Scalar
renamed f (Length array) = Length (f array)
renamed f (Fill out) = Fill (f out)
renamed f (Range out) = Range (f out)
renamed f (Read os) = Read (map f os)
renamed f (Copy os ins) = Copy (map f os) (map f ins)
renamed f (Map out ins) = Map (f out) (map f ins)
renamed f (Reduce kind array) = Reduce kind (f array)
renamed f (Scan out array) = Scan (f out) (f array)
renamed f (Stencil out array balanced) = Stencil (f out) (f array) (f balanced)
renamed f (Filter os ins mask) = Filter (map f os) (map f ins) (f mask)
renamed f (Join os lefts rights) = Join (map f os) (map f lefts) (map f rights)
renamed f (Group os ins) = Group (map f os) (map f ins)
renamed f (Concat out left right) = Concat (f out) (f left) (f right)
renamed f (Sort os ins) = Sort (map f os) (map f ins)
renamed f (At array) = At (f array)
renamed f (Pick out array index) = Pick (f out) (f array) (f index)
renamed f (Frame os ins) = Frame (map f os) (map f ins)
renamed f (Stack out ins) = Stack (f out) (map f ins)
renamed f (Row out matrix) = Row (f out) (f matrix)
renamed f (Product out left right) = Product (f out) (f left) (f right)
renamed f (ProductT out left right) = ProductT (f out) (f left) (f right)
renamed f PrintWord = PrintWord
renamed f (PrintList array) = PrintList (f array)
renamed f (Export arrays) = Export (map f arrays)

-- two operations are of one variant
unfoldable pub is_variant : {X Y : Type 0} → Arrays X → Arrays Y → Bool
is_variant Scalar Scalar = true
is_variant (Length array) (Length _) = true
is_variant (Fill out) (Fill _) = true
is_variant (Range out) (Range _) = true
is_variant (Read os) (Read _) = true
is_variant (Copy os ins) (Copy _ _) = true
is_variant (Map out ins) (Map _ _) = true
is_variant (Reduce kind array) (Reduce _ _) = true
is_variant (Scan out array) (Scan _ _) = true
is_variant (Stencil out array balanced) (Stencil _ _ _) = true
is_variant (Filter os ins mask) (Filter _ _ _) = true
is_variant (Join os lefts rights) (Join _ _ _) = true
is_variant (Group os ins) (Group _ _) = true
is_variant (Concat out left right) (Concat _ _ _) = true
is_variant (Sort os ins) (Sort _ _) = true
is_variant (At array) (At _) = true
is_variant (Pick out array index) (Pick _ _ _) = true
is_variant (Frame os ins) (Frame _ _) = true
is_variant (Stack out ins) (Stack _ _) = true
is_variant (Row out matrix) (Row _ _) = true
is_variant (Product out left right) (Product _ _ _) = true
is_variant (ProductT out left right) (ProductT _ _ _) = true
is_variant PrintWord PrintWord = true
is_variant (PrintList array) (PrintList _) = true
is_variant (Export arrays) (Export _) = true
is_variant _ _ = false

-- ---- a worked row

filter_row : (outs {X = ℕ} (Filter (1 ∷ 2 ∷ []) (3 ∷ 4 ∷ []) 5) ≡ 1 ∷ 2 ∷ []) × (reads {X = ℕ} (Filter (1 ∷ 2 ∷ []) (3 ∷ 4 ∷ []) 5) ≡ 3 ∷ 4 ∷ 5 ∷ [])
unfolding outs sides
filter_row = (refl, refl)
