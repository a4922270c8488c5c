-- Worked rows: the construct of an expression, and the first place that is not built.
use Rattle.std.specs.Prelude.{◌≡◌, ℕ, pos, Bool, true, false, [], ◌∷◌, codes, Some, None, refl}
use Rattle.hp_word.specs.declared.place.Place.{Place}
use Rattle.hp_script.specs.declared.tree.BinOp.TheVariants.{Mul}
use Rattle.hp_script.specs.declared.typed.Shape.TheVariants as shape
use Rattle.hp_script.specs.Functions.{function_named, scalar_named, fold_named, array_named}
use Rattle.hp_script.specs.Mirror.{head, Tree, number, variable, binary, index, call, none, plain, done, assign, print}
use Rattle.hp_built.specs.declared.construct.Construct.{Construct}
use Rattle.hp_built.specs.declared.construct.Construct.TheVariants as construct
use Rattle.hp_built.specs.Constructs.{construct_of}
use Rattle.hp_built.specs.Unbuilt.{least, unbuilt_in, unbuilt_among, unbuilt_of}

-- a place of a line
abbrev at : ℕ → ℕ → Place
at line col = record { line = line; col = col }

abbrev m : ℕ → Tree
m id = variable (head id (at 1 1)) (codes "m")

-- `m * m`, and `m * transpose(m)`
product_rows : (construct_of (Some shape.Matrix ∷ Some shape.Matrix ∷ Some shape.Matrix ∷ []) (binary (head 1 (at 1 3)) Mul false (m 0) (m 2)) ≡ Some construct.Product)
    × (construct_of (Some shape.Matrix ∷ Some shape.Matrix ∷ None ∷ Some shape.Matrix ∷ []) (binary (head 1 (at 1 3)) Mul false (m 0) (call (head 2 (at 1 5)) (codes "transpose") false (plain (m 3) none)))
    ≡ Some construct.TransposedProduct)
unfolding construct_of
product_rows = (refl, refl)

-- `p[1]` in a stencil, and `x[1]`
index_rows : (construct_of (None ∷ Some shape.Int ∷ Some shape.Int ∷ []) (index (head 1 (at 1 2)) (variable (head 0 (at 1 1)) (codes "p")) (number (head 2 (at 1 3)) (pos 1))) ≡ None)
    × (construct_of (Some shape.Ints ∷ Some shape.Int ∷ Some shape.Int ∷ []) (index (head 1 (at 1 2)) (variable (head 0 (at 1 1)) (codes "x")) (number (head 2 (at 1 3)) (pos 1))) ≡ Some construct.Element)
unfolding construct_of
index_rows = (refl, refl)

-- all but `cumsum` and `println` of arrays
abbrev most : Construct → Bool
most construct.Cumsum = false
most construct.PrintArray = false
most _ = true

-- in `x = fill(1, 2)` and `println(cumsum(x))` the statement in the second line is the first of the two
first_row : least (unbuilt_of most (Some shape.Ints ∷ Some shape.Int ∷ Some shape.Int ∷ Some shape.Ints ∷ Some shape.Ints ∷ [])
    (assign (at 1 1) (codes "x") (call (head 0 (at 1 5)) (codes "fill") false (plain (number (head 1 (at 1 10)) (pos 1)) (plain (number (head 2 (at 1 13)) (pos 2)) none)))
    (print (at 2 1) (call (head 3 (at 2 9)) (codes "cumsum") false (plain (variable (head 4 (at 2 16)) (codes "x")) none)) done)))
    ≡ Some (at 2 1)
unfolding least unbuilt_of unbuilt_in unbuilt_among construct_of function_named scalar_named fold_named array_named
first_row = refl
