-- What is written for a value, and for a frame.
use Rattle.std.specs.Prelude.{◌≡◌, ℕ, pos, negsuc, List, [], ◌∷◌, map, codes, Option, Some, None, refl}
use Rattle.std.specs.Fmt.{digits}
use Rattle.hp_word.specs.Text as texts
use Rattle.hp_word.specs.Text.{printed, list_line, csv}
use Rattle.hp_meaning.specs.declared.value.Column.{Column}
use Rattle.hp_meaning.specs.declared.value.Kind.TheVariants.{Number, Truth}
use Rattle.hp_meaning.specs.declared.value.Value.{Value}
use Rattle.hp_meaning.specs.declared.value.Value.TheVariants.{Word, List as Listed, Frame}
use Rattle.hp_meaning.specs.FrameRules.{column, cells_of}
use Rattle.hp_meaning.specs.Operands.{is_kind}

-- what `println` writes
abbrev pub printout : Value → Option (List ℕ)
printout (Word kind x) = Some (printed (is_kind Truth kind) x)
printout (Listed kind xs) = Some (list_line (is_kind Truth kind) xs)
printout _ = None

-- the names of columns
abbrev pub names_of : List Column → List (List ℕ)
names_of columns = map (λ c. c.name.bytes) columns

-- what is written of a frame
abbrev pub frame_text : List Column → List ℕ
frame_text columns = csv (names_of columns) (cells_of columns)

-- what `write_csv` writes
abbrev pub export_text : Value → Option (List ℕ)
export_text (Frame columns) = Some (frame_text columns)
export_text _ = None

-- ---- worked rows

list_row : printout (Listed Number (pos 4 ∷ negsuc 0 ∷ [])) ≡ Some (codes "[4, -1]\n")
unfolding texts.list_line texts.joined_by digits
list_row = refl

truths_row : printout (Listed Truth (pos 1 ∷ pos 0 ∷ [])) ≡ Some (codes "[true, false]\n")
unfolding texts.list_line texts.joined_by
truths_row = refl

empty_row : printout (Listed Number []) ≡ Some (codes "[]\n")
unfolding texts.list_line texts.joined_by
empty_row = refl

csv_row : frame_text (column (codes "id") (pos 1 ∷ pos 2 ∷ []) ∷ column (codes "n") (pos 20 ∷ negsuc 2 ∷ []) ∷ []) ≡ codes "id,n\n1,20\n2,-3\n"
unfolding texts.csv texts.row_line texts.joined_by digits
csv_row = refl
