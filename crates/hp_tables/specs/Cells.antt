-- The number that a cell spells.
use Rattle.std.specs.Prelude.{◌≡◌, ◌==◌, ℕ, ℤ, pos, negsuc, neg_ℤ, List, [], ◌∷◌, Option, Some, None, option_map, option_and_then, if◌then◌else◌, codes, refl}
use Rattle.std.specs.List.{list_all}
use Rattle.std.specs.Char.{is_ascii_digit}
use Rattle.std.specs.Str.Parse.{digits_value}
use Rattle.hp_word.specs.FoldLaws.{is_word}

-- the number that one or more decimal digits spell; any other text spells none
unfoldable pub numeral_value : List ℕ → Option ℕ
numeral_value [] = None
numeral_value (c ∷ rest) = if list_all is_ascii_digit (c ∷ rest) then Some (digits_value 10 (c ∷ rest)) else None

-- the minus sign
abbrev pub minus : ℕ
minus = 45

-- the number that decimal digits spell after an optional minus
unfoldable pub signed_value : List ℕ → Option ℤ
signed_value [] = None
signed_value (c ∷ rest) =
    if c == minus then option_map (λ n. neg_ℤ (pos n)) (numeral_value rest)
    else option_map (λ n. pos n) (numeral_value (c ∷ rest))

-- the number of a cell, which is from -2^63 to 2^63 - 1
unfoldable pub cell_value : List ℕ → Option ℤ
cell_value cell = option_and_then (λ z. if is_word z then Some z else None) (signed_value cell)

-- ---- worked rows

edge_rows : (cell_value (codes "-9223372036854775808") ≡ Some (negsuc 9223372036854775807)) × (cell_value (codes "-9223372036854775809") ≡ None)
    × (cell_value (codes "9223372036854775807") ≡ Some (pos 9223372036854775807)) × (cell_value (codes "9223372036854775808") ≡ None)
unfolding cell_value signed_value numeral_value
edge_rows = (refl, refl, refl, refl)

sign_rows : (cell_value (codes "-0") ≡ Some (pos 0)) × (cell_value (codes "007") ≡ Some (pos 7)) × (cell_value (codes "+1") ≡ None) × (cell_value (codes "-") ≡ None)
unfolding cell_value signed_value numeral_value
sign_rows = (refl, refl, refl, refl)

other_rows : (cell_value [] ≡ None) × (cell_value (codes " 1") ≡ None) × (cell_value (codes "1 ") ≡ None) × (cell_value (255 ∷ []) ≡ None)
unfolding cell_value signed_value numeral_value
other_rows = (refl, refl, refl, refl)
