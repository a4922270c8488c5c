-- The typing of expressions as one relation, a row of the language a case. It says what fits; the tests and their order
-- are not in it.
use Rattle.std.specs.Prelude.{ℕ, ℤ, pos, ◌≡◌, ◌≤◌, Bool, true, false, List, [], ◌∷◌, ◌++◌, length, codes, Some, None, int_le, refl, negsuc, ◌&&◌}
use Rattle.hp_word.specs.declared.name.Name.{Name}
use Rattle.hp_word.specs.declared.place.Place.{Place}
use Rattle.hp_script.specs.declared.tree.UnOp.TheVariants.{Neg, Not}
use Rattle.hp_script.specs.declared.tree.BinOp.{BinOp}
use Rattle.hp_script.specs.declared.tree.BinOp.TheVariants.{Or, And, Eq, Ne, Lt, Le, Gt, Ge, Add, Sub, BitOr, Mul, BitAnd}
use Rattle.hp_script.specs.declared.typed.Shape.{Shape}
use Rattle.hp_script.specs.declared.typed.Shape.TheVariants.{Int, Bool as Truth, Ints, Bools, Matrix, Frame}
use Rattle.hp_script.specs.Mirror.{Head, Tree, Args, number, truth, text, variable, column, field, unary, binary, index, call, none, plain, range, lambda, named}
use Rattle.hp_script.specs.Scope.{element, window, Scope, has, has_column, is_set, shape_among, role_of, is_in_lambda, with_parameter, with_columns}
use Rattle.hp_script.specs.Results.{without}
use Rattle.hp_script.specs.Breaks.{repeats}
use Rattle.hp_script.specs.Trees as trees

-- ---- classes of types

-- numbers and truth values
pub data IsScalar : Shape → Type 0 where
  scalar_number : IsScalar Int
  scalar_truth : IsScalar Truth

-- the array of elements of a type
pub data IsArrayOf : (element array : Shape) → Type 0 where
  array_of_numbers : IsArrayOf Int Ints
  array_of_truths : IsArrayOf Truth Bools

-- the operands of what goes element by element: two arrays, or one and an element, in either order
pub data AreSpread : (element array : Shape) → Shape → Shape → Type 0 where
  two_arrays : {e a : Shape} → AreSpread e a a a
  array_and_element : {e a : Shape} → AreSpread e a a e
  element_and_array : {e a : Shape} → AreSpread e a e a

-- a frame of these columns has at most 1,024
abbrev pub IsNarrow : List Name → Type 0
IsNarrow columns = length columns ≤ 1024

-- ---- classes of operators and functions

pub data IsArithmetic : BinOp → Type 0 where
  addition : IsArithmetic Add
  subtraction : IsArithmetic Sub
  multiplication : IsArithmetic Mul

pub data IsComparison : BinOp → Type 0 where
  equal : IsComparison Eq
  not_equal : IsComparison Ne
  less : IsComparison Lt
  at_most : IsComparison Le
  greater : IsComparison Gt
  at_least : IsComparison Ge

-- `&&` and `||`
pub data IsLogic : BinOp → Type 0 where
  conjunction : IsLogic And
  disjunction : IsLogic Or

-- `.&` and `.|`
pub data IsMask : BinOp → Type 0 where
  mask_conjunction : IsMask BitAnd
  mask_disjunction : IsMask BitOr

-- the functions of two numbers
pub data IsScalarName : List ℕ → Type 0 where
  named_div : IsScalarName (codes "div")
  named_rem : IsScalarName (codes "rem")
  named_min : IsScalarName (codes "min")
  named_max : IsScalarName (codes "max")

-- the folds of an array of numbers
pub data IsNumberFold : List ℕ → Type 0 where
  named_sum : IsNumberFold (codes "sum")
  named_prod : IsNumberFold (codes "prod")
  named_minimum : IsNumberFold (codes "minimum")
  named_maximum : IsNumberFold (codes "maximum")

-- the folds of an array of truth values
pub data IsTruthFold : List ℕ → Type 0 where
  named_any : IsTruthFold (codes "any")
  named_all : IsTruthFold (codes "all")

-- ---- points of a script

-- the point is in no lambda
abbrev pub IsOutside : Scope → Type 0
IsOutside s = is_in_lambda s ≡ false

-- The name is a variable of this type: no parameter hides it, the script assigns it, and does so on every way that leads
-- here. Its type is that of the first assignment in the text.
pub record IsVariable (s : Scope) (x : List ℕ) (a : Shape) : Type 0 where
  pub bare : role_of s.parameters x ≡ None
  pub known : has x s.assigned ≡ true
  pub set : is_set s.ways x ≡ true
  pub shape : shape_among s.vars x ≡ Some a

-- ---- arguments that are not values

-- the distance of `p[d]`: a number, or `-` and a number
pub data IsDistance : Tree → ℤ → Type 0 where
  -- `p[3]`
  ahead : {h : Head} {value : ℤ} → IsDistance (number h value) value
  -- `p[-3]`
  behind : {h g : Head} {value : ℤ} → IsDistance (unary h Neg false (number g value)) value

-- Columns by their names, `:c, :d`; none has a name of those before.
pub data AreColumns : (before : List (List ℕ)) → Args → List Name → Type 0 where
  no_more_columns : {before : List (List ℕ)} → AreColumns before none []
  one_column : {before : List (List ℕ)} {h : Head} {c : List ℕ} {rest : Args} {names : List Name}
      → has c before ≡ false → AreColumns (before ++ c ∷ []) rest names → AreColumns before (plain (column h c) rest) (trees.named c ∷ names)

-- a measured column of a frame of these columns
pub data IsMeasure (columns : List Name) : Tree → Type 0 where
  -- `sum(:b)`
  measured_sum : {h g : Head} {b : List ℕ} → has_column b columns ≡ true → IsMeasure columns (call h (codes "sum") false (plain (column g b) none))
  -- `minimum(:b)`
  measured_minimum : {h g : Head} {b : List ℕ} → has_column b columns ≡ true → IsMeasure columns (call h (codes "minimum") false (plain (column g b) none))
  -- `maximum(:b)`
  measured_maximum : {h g : Head} {b : List ℕ} → has_column b columns ≡ true → IsMeasure columns (call h (codes "maximum") false (plain (column g b) none))
  -- `count()`
  measured_count : {h : Head} → IsMeasure columns (call h (codes "count") false none)

-- Named measures, `c = sum(:b), n = count()`; none has a name of those before.
pub data AreMeasures (columns : List Name) : (before : List (List ℕ)) → Args → List Name → Type 0 where
  no_more_measures : {before : List (List ℕ)} → AreMeasures columns before none []
  one_measure : {before : List (List ℕ)} {x : List ℕ} {at : Place} {m : Tree} {rest : Args} {names : List Name}
      → IsMeasure columns m → has x before ≡ false → AreMeasures columns (before ++ x ∷ []) rest names
      → AreMeasures columns before (named x at m rest) (trees.named x ∷ names)

-- ---- expressions

-- `HasShape s t a`: at the point `s` of a script the expression `t` fits, and its value has the type `a`.
mutual
  pub data HasShape : Scope → Tree → Shape → Type 0 where
    -- `7`
    of_number : {s : Scope} {h : Head} {value : ℤ} → HasShape s (number h value) Int
    -- `true`
    of_truth : {s : Scope} {h : Head} {holds : Bool} → HasShape s (truth h holds) Truth
    -- `p`, the parameter of a lambda of `map`
    of_parameter : {s : Scope} {h : Head} {p : List ℕ} {a : Shape} → role_of s.parameters p ≡ Some (element a) → HasShape s (variable h p) a
    -- `v`
    of_variable : {s : Scope} {h : Head} {v : List ℕ} {a : Shape} → IsOutside s → IsVariable s v a → HasShape s (variable h v) a
    -- `v` in a lambda, where variables are scalars
    of_scalar_variable : {s : Scope} {h : Head} {v : List ℕ} {a : Shape} → IsScalar a → IsVariable s v a → HasShape s (variable h v) a
    -- `d.c`
    of_field : {s : Scope} {h : Head} {d c : List ℕ} {columns : List Name}
        → IsOutside s → IsVariable s d (Frame columns) → has_column c columns ≡ true → HasShape s (field h d c) Ints
    -- `:c` inside the second argument of `filter`
    of_column : {s : Scope} {h : Head} {c : List ℕ} {columns : List Name}
        → IsOutside s → s.around ≡ Some columns → has_column c columns ≡ true → HasShape s (column h c) Ints
    -- `-a`
    of_negation : {s : Scope} {h : Head} {a : Tree} → HasShape s a Int → HasShape s (unary h Neg false a) Int
    -- `!a`
    of_not : {s : Scope} {h : Head} {a : Tree} → HasShape s a Truth → HasShape s (unary h Not false a) Truth
    -- `.!a`
    of_nots : {s : Scope} {h : Head} {a : Tree} → HasShape s a Bools → HasShape s (unary h Not true a) Bools
    -- `a + b`, `a - b`, `a * b`
    of_arithmetic : {s : Scope} {h : Head} {op : BinOp} {a b : Tree} → IsArithmetic op → HasShape s a Int → HasShape s b Int → HasShape s (binary h op false a b) Int
    -- `a .+ b`, `a .- b`, `a .* b`
    of_arithmetics : {s : Scope} {h : Head} {op : BinOp} {a b : Tree} {one other : Shape}
        → IsArithmetic op → AreSpread Int Ints one other → HasShape s a one → HasShape s b other → HasShape s (binary h op true a b) Ints
    -- `a == b` and the other five
    of_comparison : {s : Scope} {h : Head} {op : BinOp} {a b : Tree} → IsComparison op → HasShape s a Int → HasShape s b Int → HasShape s (binary h op false a b) Truth
    -- `a .== b` and the other five
    of_comparisons : {s : Scope} {h : Head} {op : BinOp} {a b : Tree} {one other : Shape}
        → IsComparison op → AreSpread Int Ints one other → HasShape s a one → HasShape s b other → HasShape s (binary h op true a b) Bools
    -- `a && b`, `a || b`
    of_logic : {s : Scope} {h : Head} {op : BinOp} {a b : Tree} → IsLogic op → HasShape s a Truth → HasShape s b Truth → HasShape s (binary h op false a b) Truth
    -- `a .& b`, `a .| b`
    of_mask : {s : Scope} {h : Head} {op : BinOp} {a b : Tree} {one other : Shape}
        → IsMask op → AreSpread Truth Bools one other → HasShape s a one → HasShape s b other → HasShape s (binary h op true a b) Bools
    -- `A * B`
    of_product : {s : Scope} {h : Head} {a b : Tree} → HasShape s a Matrix → HasShape s b Matrix → HasShape s (binary h Mul false a b) Matrix
    -- `A * transpose(B)`
    of_transposed : {s : Scope} {h g : Head} {a b : Tree}
        → IsOutside s → HasShape s a Matrix → HasShape s b Matrix → HasShape s (binary h Mul false a (call g (codes "transpose") false (plain b none))) Matrix
    -- `a[i]`
    of_element : {s : Scope} {h : Head} {a i : Tree} {one many : Shape}
        → IsOutside s → IsArrayOf one many → HasShape s a many → HasShape s i Int → HasShape s (index h a i) one
    -- `a[k]`
    of_elements : {s : Scope} {h : Head} {a k : Tree} {one many : Shape}
        → IsOutside s → IsArrayOf one many → HasShape s a many → HasShape s k Ints → HasShape s (index h a k) many
    -- `p[d]`, where `p` is the parameter of a lambda of `stencil`
    of_window : {s : Scope} {h g : Head} {p : List ℕ} {d : Tree} {distance : ℤ}
        → role_of s.parameters p ≡ Some window → IsDistance d distance → (int_le (negsuc 63) distance && int_le distance (pos 64)) ≡ true → HasShape s (index h (variable g p) d) Int
    -- `div(a, b)`, `rem(a, b)`, `min(a, b)`, `max(a, b)`
    of_scalar_call : {s : Scope} {h : Head} {f : List ℕ} {a b : Tree}
        → IsScalarName f → HasShape s a Int → HasShape s b Int → HasShape s (call h f false (plain a (plain b none))) Int
    -- `div.(a, b)`, `rem.(a, b)`, `min.(a, b)`, `max.(a, b)`
    of_scalar_calls : {s : Scope} {h : Head} {f : List ℕ} {a b : Tree} {one other : Shape}
        → IsScalarName f → AreSpread Int Ints one other → HasShape s a one → HasShape s b other → HasShape s (call h f true (plain a (plain b none))) Ints
    -- `map(p -> e, a)`
    of_map : {s : Scope} {h : Head} {p : List ℕ} {e a : Tree} {one many made result : Shape}
        → IsOutside s → IsArrayOf one many → HasShape s a many → IsArrayOf made result → HasShape (with_parameter s p (element one)) e made
        → HasShape s (call h (codes "map") false (lambda p e (plain a none))) result
    -- `stencil(p -> e, a)`
    of_stencil : {s : Scope} {h : Head} {p : List ℕ} {e a : Tree}
        → IsOutside s → HasShape (with_parameter s p window) e Int → HasShape s a Ints → HasShape s (call h (codes "stencil") false (lambda p e (plain a none))) Ints
    -- `fill(v, k)`
    of_fill : {s : Scope} {h : Head} {v k : Tree} {one many : Shape}
        → IsOutside s → IsArrayOf one many → HasShape s v one → HasShape s k Int → HasShape s (call h (codes "fill") false (plain v (plain k none))) many
    -- `collect(a:b)`
    of_collect : {s : Scope} {h : Head} {a b : Tree}
        → IsOutside s → HasShape s a Int → HasShape s b Int → HasShape s (call h (codes "collect") false (range a b none)) Ints
    -- `length(a)`
    of_length : {s : Scope} {h : Head} {a : Tree} {one many : Shape}
        → IsOutside s → IsArrayOf one many → HasShape s a many → HasShape s (call h (codes "length") false (plain a none)) Int
    -- `sum(a)`, `prod(a)`, `minimum(a)`, `maximum(a)`
    of_fold : {s : Scope} {h : Head} {f : List ℕ} {a : Tree}
        → IsOutside s → IsNumberFold f → HasShape s a Ints → HasShape s (call h f false (plain a none)) Int
    -- `any(a)`, `all(a)`
    of_truth_fold : {s : Scope} {h : Head} {f : List ℕ} {a : Tree}
        → IsOutside s → IsTruthFold f → HasShape s a Bools → HasShape s (call h f false (plain a none)) Truth
    -- `count(a)`
    of_count : {s : Scope} {h : Head} {a : Tree} → IsOutside s → HasShape s a Bools → HasShape s (call h (codes "count") false (plain a none)) Int
    -- `cumsum(a)`
    of_cumsum : {s : Scope} {h : Head} {a : Tree} → IsOutside s → HasShape s a Ints → HasShape s (call h (codes "cumsum") false (plain a none)) Ints
    -- `vcat(a, b)`
    of_vcat : {s : Scope} {h : Head} {a b : Tree} {one many : Shape}
        → IsOutside s → IsArrayOf one many → HasShape s a many → HasShape s b many → HasShape s (call h (codes "vcat") false (plain a (plain b none))) many
    -- `stack(a, b)`, one or more
    of_stack : {s : Scope} {h : Head} {a : Tree} {rest : Args}
        → IsOutside s → HasShape s a Ints → AreArrays s rest → HasShape s (call h (codes "stack") false (plain a rest)) Matrix
    -- `row(M, i)`
    of_row : {s : Scope} {h : Head} {m i : Tree}
        → IsOutside s → HasShape s m Matrix → HasShape s i Int → HasShape s (call h (codes "row") false (plain m (plain i none))) Ints
    -- `DataFrame(c = a, d = b)`, one or more
    of_frame : {s : Scope} {h : Head} {c : List ℕ} {at : Place} {a : Tree} {rest : Args} {names : List Name}
        → IsOutside s → AreGiven s [] (named c at a rest) names → IsNarrow names
        → HasShape s (call h (codes "DataFrame") false (named c at a rest)) (Frame names)
    -- `read_csv("f", :c, :d)`, one or more columns
    of_read : {s : Scope} {h g k : Head} {f c : List ℕ} {rest : Args} {names : List Name}
        → IsOutside s → AreColumns [] (plain (column k c) rest) names → IsNarrow names
        → HasShape s (call h (codes "read_csv") false (plain (text g f) (plain (column k c) rest))) (Frame names)
    -- `nrow(d)`
    of_nrow : {s : Scope} {h : Head} {d : Tree} {columns : List Name}
        → IsOutside s → HasShape s d (Frame columns) → HasShape s (call h (codes "nrow") false (plain d none)) Int
    -- `filter(d, m)`, at most as wide as `d` is
    of_filter : {s : Scope} {h : Head} {d m : Tree} {columns : List Name}
        → IsOutside s → HasShape s d (Frame columns) → HasShape (with_columns s (Some columns)) m Bools → IsNarrow columns
        → HasShape s (call h (codes "filter") false (plain d (plain m none))) (Frame columns)
    -- `join(l, r, :k)`
    of_join : {s : Scope} {h g : Head} {l r : Tree} {k : List ℕ} {left right : List Name}
        → IsOutside s → HasShape s l (Frame left) → HasShape s r (Frame right) → has_column k left ≡ true → has_column k right ≡ true
        → repeats (left ++ without (trees.named k) right) ≡ false → IsNarrow (left ++ without (trees.named k) right)
        → HasShape s (call h (codes "join") false (plain l (plain r (plain (column g k) none)))) (Frame (left ++ without (trees.named k) right))
    -- `aggregate(d, :k, c = f, e = g)`, one or more
    of_aggregate : {s : Scope} {h g : Head} {d m : Tree} {k c : List ℕ} {at : Place} {rest : Args} {columns names : List Name}
        → IsOutside s → HasShape s d (Frame columns) → has_column k columns ≡ true → AreMeasures columns (k ∷ []) (named c at m rest) names
        → IsNarrow (trees.named k ∷ names)
        → HasShape s (call h (codes "aggregate") false (plain d (plain (column g k) (named c at m rest)))) (Frame (trees.named k ∷ names))
    -- `sort(d, :k)`, as wide as `d` is
    of_sort : {s : Scope} {h g : Head} {d : Tree} {k : List ℕ} {columns : List Name}
        → IsOutside s → HasShape s d (Frame columns) → has_column k columns ≡ true → IsNarrow columns
        → HasShape s (call h (codes "sort") false (plain d (plain (column g k) none))) (Frame columns)

  -- the arrays of `stack` behind the first
  pub data AreArrays : Scope → Args → Type 0 where
    no_more_arrays : {s : Scope} → AreArrays s none
    one_array : {s : Scope} {a : Tree} {rest : Args} → HasShape s a Ints → AreArrays s rest → AreArrays s (plain a rest)

  -- Given columns, `c = a, d = b`; none has a name of those before.
  pub data AreGiven : Scope → (before : List (List ℕ)) → Args → List Name → Type 0 where
    no_more_given : {s : Scope} {before : List (List ℕ)} → AreGiven s before none []
    one_given : {s : Scope} {before : List (List ℕ)} {c : List ℕ} {at : Place} {a : Tree} {rest : Args} {names : List Name}
        → HasShape s a Ints → has c before ≡ false → AreGiven s (before ++ c ∷ []) rest names → AreGiven s before (named c at a rest) (trees.named c ∷ names)

-- ---- worked rows

-- `sum(fill(3, 10) .+ 5)` is a number
row_of_sums : (s : Scope) (h : Head) → IsOutside s
    → HasShape s (call h (codes "sum") false (plain (binary h Add true (call h (codes "fill") false (plain (number h (pos 3)) (plain (number h (pos 10)) none))) (number h (pos 5))) none)) Int
row_of_sums s h out = of_fold out named_sum (of_arithmetics addition array_and_element (of_fill out array_of_numbers of_number of_number) of_number)

-- `filter(d, :v .>= 50)` is a frame of the columns of `d`
row_of_filters : (s : Scope) (h : Head) (v : List ℕ) (d : Tree) → IsOutside s → HasShape s d (Frame (trees.named v ∷ [])) → has_column v (trees.named v ∷ []) ≡ true → IsNarrow (trees.named v ∷ [])
    → HasShape s (call h (codes "filter") false (plain d (plain (binary h Ge true (column h v) (number h (pos 50))) none))) (Frame (trees.named v ∷ []))
row_of_filters s h v d out frame known narrow = of_filter out frame (of_comparisons at_least array_and_element (of_column out refl known) of_number) narrow

-- `stencil(p -> p[-1] + p[1], a)` is an array of numbers
row_of_stencils : (s : Scope) (h : Head) (a : Tree) → IsOutside s → HasShape s a Ints
    → HasShape s (call h (codes "stencil") false (lambda (codes "p") (binary h Add false (index h (variable h (codes "p")) (unary h Neg false (number h (pos 1)))) (index h (variable h (codes "p")) (number h (pos 1)))) (plain a none))) Ints
row_of_stencils s h a out array = of_stencil out (of_arithmetic addition (of_window refl behind refl) (of_window refl ahead refl)) array
