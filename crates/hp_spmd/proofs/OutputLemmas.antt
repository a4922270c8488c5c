-- The text of a table, one more row at a time.
use Rattle.std.proofs.Common.{◌≡◌, ◌∙◌, sym, ap, arith, ℕ, ◌+◌, ◌*◌, ◌/◌, ◌≤◌, min, max, ℤ, List, ◌++◌, append_assoc, length, map, take, drop}
use Rattle.std.specs.Fmt.{signed_decimal}
use Rattle.std.specs.Prelude.{codes, flat_map}
use Rattle.std.specs.List.{range_with_len}
use Rattle.std.proofs.Math.Nat.{div-le_self, mul_comm}
use Rattle.hp_word.specs.LoopRules.{word_at}
use Rattle.hp_word.specs.Tables.{row_count}
use Rattle.hp_word.specs.Text.{joined_by, row_line, csv}
use Rattle.hp_spmd.specs.Outputs.{column_in}
use Rattle.hp_spmd.proofs.HashLemmas.{flat_more, map_map}
use Rattle.hp_spmd.proofs.MoveLemmas.{part_still}

-- ---- columns

-- of words of so many columns, a column by its number of rows and where it begins, which stands still at the greatest number
pub column_is : (words : List ℤ) (width column rows begin most : ℕ) → length words ≤ most → rows ≡ length words / max width 1 → begin ≡ min (rows * column) most → take rows (drop begin words) ≡ column_in width column words
column_is words width column rows begin most le r b =
    let few : rows ≡ min rows most = omega (arith, r, le, div-le_self (length words) (max width 1)) in
    ap (λ n. take rows (drop n words)) b ∙ ap (λ n. take n (drop (min (rows * column) most) words)) few ∙ part_still words (rows * column) rows most le
    ∙ ap (λ n. take rows (drop n words)) (mul_comm rows column) ∙ ap (λ n. take n (drop (column * n) words)) r

-- ---- rows

pub row_text : (columns : List (List ℤ)) (place : ℕ) (old mid new : List ℕ) → mid ≡ old ++ joined_by (codes ",") (map (λ (cells : List ℤ). signed_decimal (word_at cells place)) columns) → new ≡ mid ++ codes "\n" → new ≡ old ++ row_line columns place
unfolding row_line
row_text columns place old mid new m e =
    let texts : List ℕ = joined_by (codes ",") (map (λ (cells : List ℤ). signed_decimal (word_at cells place)) columns) in
    e ∙ ap (λ (t : List ℕ). t ++ codes "\n") m ∙ append_assoc old texts (codes "\n")
    ∙ ap (λ (l : List (List ℕ)). old ++ (joined_by (codes ",") l ++ codes "\n")) (sym (map_map (λ (cells : List ℤ). word_at cells place) signed_decimal columns))

-- one more row
pub rows_more : (columns : List (List ℤ)) (k : ℕ) (old now new : List ℕ) → now ≡ old ++ flat_map (row_line columns) (range_with_len 0 k) → new ≡ now ++ row_line columns k → new ≡ old ++ flat_map (row_line columns) (range_with_len 0 (k + 1))
rows_more columns k old now new n e =
    let before : List ℕ = flat_map (row_line columns) (range_with_len 0 k) in
    e ∙ ap (λ (l : List ℕ). l ++ row_line columns k) n ∙ append_assoc old before (row_line columns k) ∙ ap (λ (l : List ℕ). old ++ l) (sym (flat_more (row_line columns) k))

-- the names and all rows
pub csv_all : (texts : List (List ℕ)) (columns : List (List ℤ)) (k : ℕ) (old names line now : List ℕ) → names ≡ old ++ joined_by (codes ",") texts → line ≡ names ++ codes "\n"
    → now ≡ line ++ flat_map (row_line columns) (range_with_len 0 k) → k ≡ row_count columns → now ≡ old ++ csv texts columns
unfolding csv
csv_all texts columns k old names line now n l e last =
    let title : List ℕ = joined_by (codes ",") texts in
    let rows : List ℕ = flat_map (row_line columns) (range_with_len 0 (row_count columns)) in
    e ∙ ap (λ (n : ℕ). line ++ flat_map (row_line columns) (range_with_len 0 n)) last ∙ ap (λ (t : List ℕ). t ++ rows) l
    ∙ ap (λ (t : List ℕ). (t ++ codes "\n") ++ rows) n ∙ ap (λ (t : List ℕ). t ++ rows) (append_assoc old title (codes "\n")) ∙ append_assoc old (title ++ codes "\n") rows
