-- The constructs of matrices: the rules of plain lists and matrices, for values.
use Rattle.std.specs.Prelude.{◌≡◌, ℤ, pos, List, [], ◌∷◌, refl}
use Rattle.std.specs.Int.{int_wrap}
use Rattle.hp_word.specs.declared.matrix.Matrix.{Matrix}
use Rattle.hp_word.specs.declared.place.Place.{Place}
use Rattle.hp_word.specs.MatrixRules as rules
use Rattle.hp_word.specs.MatrixRules.{matrix, transposed, stack, matrix_row, product}
use Rattle.hp_meaning.specs.declared.value.Kind.TheVariants.{Number}
use Rattle.hp_meaning.specs.declared.value.Value.{Value}
use Rattle.hp_meaning.specs.declared.value.Value.TheVariants.{Matrix as Grid}
use Rattle.hp_meaning.specs.Outcomes.{Answer, Gives, Refuses, also, given, told}
use Rattle.hp_meaning.specs.Operands.{as_number, as_matrix}
use Rattle.hp_meaning.specs.WordRules.{listed}

abbrev pub gridded : Answer Matrix → Answer Value
gridded answer = also answer (λ m. Gives (Grid m))

-- the arrays, one or more, are the rows
unfoldable pub stacked : Place → List (List ℤ) → Answer Value
stacked at [] = Refuses
stacked at (row ∷ rows) = gridded (told (stack at (row ∷ rows)))

-- the row at a position from 1
unfoldable pub row_value : Place → Value → Value → Answer Value
row_value at a b = given (as_matrix a) (λ m. given (as_number b) (λ i. listed Number (told (matrix_row at m i))))

-- a matrix times one that has as many rows as it has columns
unfoldable pub multiplied : Place → Matrix → Matrix → Answer Value
multiplied at a b = gridded (told (product at a b))

-- `A * transpose(B)`
unfoldable pub flipped_value : Place → Value → Value → Answer Value
flipped_value at a b = given (as_matrix a) (λ m. given (as_matrix b) (λ n. multiplied at m (transposed n)))

-- ---- worked rows

-- `m = stack(collect(1:3), fill(2, 3))` has three columns, `m * transpose(m)` two
stacked_row : (at : Place) → stacked at ((pos 1 ∷ pos 2 ∷ pos 3 ∷ []) ∷ (pos 2 ∷ pos 2 ∷ pos 2 ∷ []) ∷ []) ≡ Gives (Grid (matrix 2 ((pos 1 ∷ pos 2 ∷ []) ∷ (pos 2 ∷ pos 2 ∷ []) ∷ (pos 3 ∷ pos 2 ∷ []) ∷ [])))
unfolding stacked rules.stack rules.transposed rules.rows_of
stacked_row at = refl

flipped_row : (at : Place) → (let m = matrix 2 ((pos 1 ∷ pos 2 ∷ []) ∷ (pos 2 ∷ pos 2 ∷ []) ∷ (pos 3 ∷ pos 2 ∷ []) ∷ []) in flipped_value at (Grid m) (Grid m)) ≡ Gives (Grid (matrix 2 ((pos 14 ∷ pos 12 ∷ []) ∷ (pos 12 ∷ pos 12 ∷ []) ∷ [])))
unfolding flipped_value multiplied rules.product rules.products_of rules.transposed rules.rows_of int_wrap
flipped_row at = refl
