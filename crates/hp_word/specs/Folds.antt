-- The fold of a whole list of words, the join of two words, and the laws that make any cut into pieces lawful.
use Rattle.std.specs.Prelude.{◌≡◌, ◌+ℤ◌, ◌*ℤ◌, ℤ, pos, negsuc, ◌&&◌, ◌||◌, List, [], ◌∷◌, refl}
use Rattle.std.specs.Int.{int_wrap, int_min, int_max}
use Rattle.std.specs.List.{list_any, list_all}
use Rattle.hp_word.specs.declared.fold.FoldKind.{FoldKind}
use Rattle.hp_word.specs.declared.fold.FoldKind.TheVariants.{Sum, Prod, Min, Max, Any, All}
use Rattle.hp_word.specs.Words.{wrap, truth, is_true, least_word, greatest_word}

-- the sum and the product of whole numbers
abbrev pub sum_z : List ℤ → ℤ
sum_z [] = pos 0
sum_z (x ∷ xs) = x +ℤ sum_z xs

abbrev pub product_z : List ℤ → ℤ
product_z [] = pos 1
product_z (x ∷ xs) = x *ℤ product_z xs

-- the least of the words, and the greatest word of none
abbrev pub least_of : List ℤ → ℤ
least_of [] = greatest_word
least_of (x ∷ xs) = int_min x (least_of xs)

-- the greatest of the words, and the least word of none
abbrev pub greatest_of : List ℤ → ℤ
greatest_of [] = least_word
greatest_of (x ∷ xs) = int_max x (greatest_of xs)

-- the fold of a whole list; sums and products are wrapped once, at the end
abbrev pub fold_of : FoldKind → List ℤ → ℤ
fold_of Sum xs = wrap (sum_z xs)
fold_of Prod xs = wrap (product_z xs)
fold_of Min xs = least_of xs
fold_of Max xs = greatest_of xs
fold_of Any xs = truth (list_any is_true xs)
fold_of All xs = truth (list_all is_true xs)

-- the fold of two words
abbrev pub joined : FoldKind → ℤ → ℤ → ℤ
joined Sum a b = wrap (a +ℤ b)
joined Prod a b = wrap (a *ℤ b)
joined Min a b = int_min a b
joined Max a b = int_max a b
joined Any a b = truth (is_true a || is_true b)
joined All a b = truth (is_true a && is_true b)

-- the fold of no words
abbrev pub unit_of : FoldKind → ℤ
unit_of Sum = pos 0
unit_of Prod = pos 1
unit_of Min = greatest_word
unit_of Max = least_word
unit_of Any = pos 0
unit_of All = pos 1

-- ---- worked rows

sum_row : fold_of Sum (pos 9223372036854775807 ∷ pos 9223372036854775807 ∷ []) ≡ negsuc 1
unfolding int_wrap
sum_row = refl

product_row : fold_of Prod (pos 3 ∷ pos 4 ∷ []) ≡ pos 12
unfolding int_wrap
product_row = refl

least_row : fold_of Min (pos 4 ∷ negsuc 2 ∷ pos 0 ∷ []) ≡ negsuc 2
least_row = refl

none_row : fold_of Max [] ≡ negsuc 9223372036854775807
none_row = refl

greatest_row : fold_of Max (pos 3 ∷ negsuc 6 ∷ []) ≡ pos 3
greatest_row = refl

some_row : fold_of Any (pos 0 ∷ pos 2 ∷ []) ≡ pos 1
some_row = refl

joined_row : joined All (pos 7) (pos 0) ≡ pos 0
joined_row = refl

every_row : fold_of All (pos 4 ∷ negsuc 2 ∷ pos 0 ∷ []) ≡ pos 0
every_row = refl
