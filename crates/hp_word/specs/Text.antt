-- How words, arrays and tables are printed.
use Rattle.std.specs.Prelude.{◌≡◌, ℕ, ℤ, pos, negsuc, Bool, true, false, List, [], ◌∷◌, ◌++◌, map, flat_map, codes, if◌then◌else◌, refl}
use Rattle.std.specs.Fmt.{signed_decimal, digits}
use Rattle.std.specs.List.{range_with_len}
use Rattle.hp_word.specs.RowRules.{row_at}
use Rattle.hp_word.specs.Tables.{row_count}
use Rattle.hp_word.specs.Words.{is_true}

-- a number in decimal, or a truth value, where the flag is set, by its name
abbrev pub word_text : (truth : Bool) → ℤ → List ℕ
word_text false value = signed_decimal value
word_text true value = if is_true value then codes "true" else codes "false"

-- the line of a word
abbrev pub printed : (truth : Bool) → ℤ → List ℕ
printed truth value = word_text truth value ++ codes "\n"

-- texts with a separator between each two
unfoldable pub joined_by : (separator : List ℕ) → List (List ℕ) → List ℕ
joined_by separator [] = []
joined_by separator (x ∷ []) = x
joined_by separator (x ∷ y ∷ rest) = x ++ separator ++ joined_by separator (y ∷ rest)

-- the line of an array: its elements joined by `, ` in brackets
unfoldable pub list_line : (truth : Bool) → List ℤ → List ℕ
list_line truth xs = codes "[" ++ joined_by (codes ", ") (map (word_text truth) xs) ++ codes "]\n"

-- the line of a row of these columns, by its place from 0
unfoldable pub row_line : List (List ℤ) → ℕ → List ℕ
row_line columns place = joined_by (codes ",") (map signed_decimal (row_at columns place)) ++ codes "\n"

-- a table: the names of its columns, and then its rows
unfoldable pub csv : (names : List (List ℕ)) → (columns : List (List ℤ)) → List ℕ
csv names columns = joined_by (codes ",") names ++ codes "\n" ++ flat_map (row_line columns) (range_with_len 0 (row_count columns))

-- ---- worked rows

printed_row : printed false (pos 30) ≡ codes "30\n"
unfolding digits
printed_row = refl

printed_negative_row : printed false (negsuc 8446744073709551625) ≡ codes "-8446744073709551626\n"
unfolding digits
printed_negative_row = refl

printed_truth_row : printed true (pos 7) ≡ codes "true\n"
printed_truth_row = refl

list_row : list_line false (pos 4 ∷ negsuc 0 ∷ []) ≡ codes "[4, -1]\n"
unfolding list_line joined_by digits
list_row = refl

truths_row : list_line true (pos 1 ∷ pos 0 ∷ []) ≡ codes "[true, false]\n"
unfolding list_line joined_by
truths_row = refl

empty_row : list_line false [] ≡ codes "[]\n"
unfolding list_line joined_by
empty_row = refl

csv_row : csv (codes "id" ∷ codes "n" ∷ []) ((pos 1 ∷ pos 2 ∷ []) ∷ (pos 20 ∷ negsuc 2 ∷ []) ∷ []) ≡ codes "id,n\n1,20\n2,-3\n"
unfolding csv row_line joined_by digits
csv_row = refl
