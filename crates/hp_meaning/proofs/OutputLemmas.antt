-- The text of a frame, one more row at a time.
use Rattle.std.proofs.Common.{◌≡◌, ℕ, ◌+◌, List, [], ◌∷◌, ◌++◌, map, pos, refl, sym, ap, ◌∙◌, append_assoc, append-nil}
use Rattle.std.specs.Fmt.{signed_decimal}
use Rattle.std.specs.Prelude.{codes, flat_map, slice_index_or}
use Rattle.std.specs.List.{range_with_len}
use Rattle.std.proofs.lemmas.Grind.{flat_map-append}
use Rattle.hp_word.specs.RowRules.{row_at}
use Rattle.hp_word.specs.Text.{joined_by, row_line, csv}
use Rattle.hp_meaning.specs.declared.value.Column.{Column}
use Rattle.hp_meaning.specs.FrameRules.{cells_of, rows_of}
use Rattle.hp_meaning.specs.Printouts.{names_of, frame_text}
use Rattle.hp_kernels.proofs.SortLemmas.{places_more}

-- the texts of a row's cells
row_cells : (columns : List Column) (place : ℕ) → map signed_decimal (row_at (cells_of columns) place) ≡ map (λ (c : Column). signed_decimal (slice_index_or c.cells place (pos 0))) columns
row_cells [] place = refl
row_cells (c ∷ columns) place = ap (λ l. signed_decimal (slice_index_or c.cells place (pos 0)) ∷ l) (row_cells columns place)

pub row_text : (columns : List Column) (place : ℕ) (old mid new : List ℕ) → mid ≡ old ++ joined_by (codes ",") (map (λ (c : Column). signed_decimal (slice_index_or c.cells place (pos 0))) columns)
    → new ≡ mid ++ codes "\n" → new ≡ old ++ row_line (cells_of columns) place
unfolding row_line
row_text columns place old mid new m e =
    let cells : List ℕ = joined_by (codes ",") (map signed_decimal (row_at (cells_of columns) place)) in
    e ∙ ap (λ (t : List ℕ). t ++ codes "\n") (m ∙ ap (λ l. old ++ joined_by (codes ",") l) (sym (row_cells columns place))) ∙ append_assoc old cells (codes "\n")

-- one more row
pub rows_more : (columns : List Column) (k : ℕ) (old now new : List ℕ) → now ≡ old ++ flat_map (row_line (cells_of columns)) (range_with_len 0 k) → new ≡ now ++ row_line (cells_of columns) k
    → new ≡ old ++ flat_map (row_line (cells_of columns)) (range_with_len 0 (k + 1))
rows_more columns k old now new n e =
    let line = row_line (cells_of columns) in
    let before : List ℕ = flat_map line (range_with_len 0 k) in
    let more : flat_map line (range_with_len 0 (k + 1)) ≡ before ++ line k =
    ap (flat_map line) (sym (places_more (range_with_len 0 k) (range_with_len 0 k ++ k ∷ []) k refl refl))
    ∙ flat_map-append line (range_with_len 0 k) (k ∷ []) ∙ ap (λ (l : List ℕ). before ++ l) (append-nil (line k)) in
    e ∙ ap (λ (l : List ℕ). l ++ line k) n ∙ append_assoc old before (line k) ∙ ap (λ (l : List ℕ). old ++ l) (sym more)

-- the names and all rows
pub csv_all : (columns : List Column) (k : ℕ) (old names line now : List ℕ) → names ≡ old ++ joined_by (codes ",") (names_of columns) → line ≡ names ++ codes "\n"
    → now ≡ line ++ flat_map (row_line (cells_of columns)) (range_with_len 0 k) → k ≡ rows_of columns → now ≡ old ++ frame_text columns
unfolding csv
csv_all columns k old names line now n l e last =
    let title : List ℕ = joined_by (codes ",") (names_of columns) in
    let rows : List ℕ = flat_map (row_line (cells_of columns)) (range_with_len 0 (rows_of columns)) in
    e ∙ ap (λ (n : ℕ). line ++ flat_map (row_line (cells_of columns)) (range_with_len 0 n)) last ∙ ap (λ (t : List ℕ). t ++ rows) l
    ∙ ap (λ (t : List ℕ). (t ++ codes "\n") ++ rows) n ∙ ap (λ (t : List ℕ). t ++ rows) (append_assoc old title (codes "\n")) ∙ append_assoc old (title ++ codes "\n") rows
