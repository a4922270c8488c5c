-- The rows of joins and aggregates by places that count from 0, as the kernels find them, are those of the rules.
use Rattle.std.proofs.Common.{◌≡◌, ◌∙◌, refl, sym, ap, arith, ℕ, ◌+◌, ◌-◌, ◌<◌, ◌≤◌, ℤ, Bool, true, false, if◌then◌else◌, List, [], ◌∷◌, ◌++◌, length, map, Some, None, Result, Ok, Err}
use Rattle.std.specs.Prelude.{nat_le, remove}
use Rattle.std.proofs.lemmas.Bool.{le-leb, lt-leb}
use Rattle.std.proofs.lemmas.List.{length-map}
use Rattle.hp_word.specs.declared.order.RowPlace.{RowPlace}
use Rattle.hp_word.specs.declared.place.Place.{Place}
use Rattle.hp_word.specs.declared.place.Trap.{Trap}
use Rattle.hp_word.specs.declared.place.TrapKind.TheVariants.{TooLong}
use Rattle.hp_word.specs.declared.table.Measure.{Measure}
use Rattle.hp_word.specs.Lengths.{longest, trap}
use Rattle.hp_word.specs.LoopRules.{and_then, word_at}
use Rattle.hp_word.specs.RowRules.{by_left, by_right, cell_of, column_at, firsts_from_0, group_keys, groups, join_pairs, measure_cells, measured, measures_by_left, pairs, pairs_from_0, row_place}
use Rattle.hp_kernels.proofs.PlaceLemmas.{one_later, first_later, later_pairs, later_groups}
use Rattle.hp_lattice.specs.declared.dist.Dist.{Dist}
use Rattle.hp_spmd.specs.declared.instr.Join.{Join}
use Rattle.hp_spmd.specs.declared.instr.Rows.{Rows}
use Rattle.hp_spmd.specs.declared.instr.Rows.TheVariants.{Own, Got}
use Rattle.hp_spmd.specs.declared.local.columns.Ordered.{Ordered}
use Rattle.hp_spmd.specs.Frames.{Placed, columns_to, group_data, join_data, joined_columns, rows_read, with_order}
use Rattle.hp_spmd.specs.RowParts.{IsGrouped, IsJoined, columns_read}
use Rattle.hp_spmd.specs.Store.{Data}
use Rattle.hp_spmd.proofs.RowNext.{map_twice}

pub cell_later : (cells : List ℤ) (n : ℕ) → cell_of cells (n + 1) ≡ word_at cells n
cell_later cells n = let same : (n + 1) - 1 ≡ n = omega arith in ap (word_at cells) same

read_columns : (dists : List Dist) (number : ℕ) (rows : Rows) (d : Data) → (rows_read dists number rows d).columns ≡ columns_read rows d
read_columns dists number (Own arrays) d = refl
read_columns dists number (Got []) d = refl
read_columns dists number (Got (c ∷ cs)) d = refl

-- ---- pairs

left_later : (cells : List ℤ) (found : List RowPlace) → map (λ p. word_at cells p.left) found ≡ by_left cells (map one_later found)
unfolding by_left
left_later cells found = sym (map_twice (λ p. cell_of cells p.left) one_later found ∙ (λ j. map (λ p. cell_later cells p.left j) found))

right_later : (cells : List ℤ) (found : List RowPlace) → map (λ p. word_at cells p.right) found ≡ by_right cells (map one_later found)
unfolding by_right
right_later cells found = sym (map_twice (λ p. cell_of cells p.right) one_later found ∙ (λ j. map (λ p. cell_later cells p.right j) found))

if_yes : {X : Type 0} (b : Bool) (x y : X) → b ≡ true → (if b then x else y) ≡ x
if_yes true x y e = refl
if_yes false x y e = absurd (cc)

if_no : {X : Type 0} (b : Bool) (x y : X) → b ≡ false → (if b then x else y) ≡ y
if_no true x y e = absurd (cc)
if_no false x y e = refl

pairs_few : (at : Place) (left right : List ℤ) → length (pairs_from_0 left right) ≤ longest → join_pairs at left right ≡ Ok (map one_later (pairs_from_0 left right))
unfolding join_pairs
pairs_few at left right few =
    let fits : length (pairs left right) ≤ longest = omega (arith, few, length-map (pairs_from_0 left right) one_later, ap length (later_pairs left right)) in
    if_yes (nat_le (length (pairs left right)) longest) (Ok (pairs left right)) (Err (trap at TooLong)) (le-leb (length (pairs left right)) longest fits) ∙ ap Ok (sym (later_pairs left right))

pairs_many : (at : Place) (left right : List ℤ) → longest < length (pairs_from_0 left right) → join_pairs at left right ≡ Err (trap at TooLong)
unfolding join_pairs
pairs_many at left right many =
    let more : longest < length (pairs left right) = omega (arith, many, length-map (pairs_from_0 left right) one_later, ap length (later_pairs left right)) in
    if_no (nat_le (length (pairs left right)) longest) (Ok (pairs left right)) (Err (trap at TooLong)) (lt-leb (length (pairs left right)) longest more)

-- ---- joins

module _ (dists : List Dist) (number : ℕ) (j : Join) (d : Data) (left right : List (List ℤ)) (left_keys right_keys : List ℤ) where
  -- the columns and keys that were read
  pub record AreRead : Type 0 where
    pub left_is : left ≡ columns_read j.left d
    pub right_is : right ≡ columns_read j.right d
    pub left_key : left_keys ≡ column_at j.left_key left
    pub right_key : right_keys ≡ column_at j.right_key right

  abbrev at_left : Placed
  at_left = rows_read dists number j.left d

  abbrev at_right : Placed
  at_right = rows_read dists number j.right d

  -- what is made of pairs
  abbrev made_of : List RowPlace → Result Data Trap
  made_of found = Ok (with_order j.to (map (λ p. row_place (at_left.place p.left) (at_right.place p.right)) found) (columns_to j.to (joined_columns at_left at_right j.right_key found) d))

  keys_read : AreRead → join_pairs j.at (column_at j.left_key at_left.columns) (column_at j.right_key at_right.columns) ≡ join_pairs j.at left_keys right_keys
  keys_read h =
      let l : column_at j.left_key at_left.columns ≡ left_keys = ap (column_at j.left_key) (read_columns dists number j.left d ∙ sym h.left_is) ∙ sym h.left_key in
      let r : column_at j.right_key at_right.columns ≡ right_keys = ap (column_at j.right_key) (read_columns dists number j.right d ∙ sym h.right_is) ∙ sym h.right_key in
      λ i. join_pairs j.at (l i) (r i)

  pub joined_none : AreRead → longest < length (pairs_from_0 left_keys right_keys) → IsJoined dists number j d None
  unfolding join_data
  joined_none h many = ap (λ pairs. and_then pairs made_of) (keys_read h ∙ pairs_many j.at left_keys right_keys many)

  pub joined_some : (found : List RowPlace) (made : Ordered) → AreRead → found ≡ pairs_from_0 left_keys right_keys → length (pairs_from_0 left_keys right_keys) ≤ longest
      → made.columns.items ≡ map (λ cells. map (λ p. word_at cells p.left) found) left ++ map (λ cells. map (λ p. word_at cells p.right) found) (remove right j.right_key)
      → made.places ≡ map (λ p. row_place (at_left.place (p.left + 1)) (at_right.place (p.right + 1))) found
      → IsJoined dists number j d (Some made)
  unfolding join_data
  joined_some found made h f few columns places =
      let l : at_left.columns ≡ left = read_columns dists number j.left d ∙ sym h.left_is in
      let r : at_right.columns ≡ right = read_columns dists number j.right d ∙ sym h.right_is in
      let same : joined_columns at_left at_right j.right_key (map one_later found) ≡ made.columns.items =
      (λ i. map (λ cells. sym (left_later cells found) i) (l i) ++ map (λ cells. sym (right_later cells found) i) (remove (r i) j.right_key)) ∙ sym columns in
      let whole : map (λ p. row_place (at_left.place p.left) (at_right.place p.right)) (map one_later found) ≡ made.places =
      map_twice (λ p. row_place (at_left.place p.left) (at_right.place p.right)) one_later found ∙ sym places in
      ap (λ pairs. and_then pairs made_of) (keys_read h ∙ pairs_few j.at left_keys right_keys few ∙ ap (λ l. Ok (map one_later l)) (sym f))
      ∙ (λ i. Ok (with_order j.to (whole i) (columns_to j.to (same i) d)))

-- ---- groups

first_keys : (keys : List ℤ) (firsts : List ℕ) → by_left keys (map first_later firsts) ≡ map (word_at keys) firsts
unfolding by_left
first_keys keys firsts = map_twice (λ p. cell_of keys p.left) first_later firsts ∙ (λ i. map (λ first. cell_later keys first i) firsts)

first_measures : (m : Measure) (keys : List ℤ) (columns : List (List ℤ)) → measure_cells m keys columns (map first_later (firsts_from_0 keys)) ≡ map (measured m.kind keys (column_at m.column columns)) (group_keys keys)
unfolding measures_by_left
first_measures m keys columns =
    let firsts = firsts_from_0 keys in
    let one = measured m.kind keys (column_at m.column columns) in
    map_twice (λ p. one (cell_of keys p.left)) first_later firsts ∙ (λ i. map (λ first. one (cell_later keys first i)) firsts) ∙ sym (map_twice one (word_at keys) firsts)

pub grouped_made : (dists : List Dist) (number : ℕ) (from : Rows) (key : ℕ) (measures : List Measure) (d : Data) (columns : List (List ℤ)) (keys : List ℤ) (firsts : List ℕ) (made : Ordered) → columns ≡ columns_read from d → keys ≡ column_at key columns → firsts ≡ firsts_from_0 keys
    → made.columns.items ≡ map (word_at keys) (firsts_from_0 keys) ∷ map (λ m. map (measured m.kind keys (column_at m.column columns)) (group_keys keys)) measures
    → made.places ≡ map (λ first. row_place ((rows_read dists number from d).place (first + 1)) 0) firsts
    → IsGrouped dists number from key measures d made
unfolding group_data
grouped_made dists number from key measures d columns keys firsts made c k f made_columns places =
    let rows = rows_read dists number from d in
    let all : rows.columns ≡ columns = read_columns dists number from d ∙ sym c in
    let same : column_at key rows.columns ≡ keys = ap (column_at key) all ∙ sym k in
    let found : groups (column_at key rows.columns) ≡ map first_later firsts = ap groups same ∙ sym (later_groups keys) ∙ ap (map first_later) (sym f) in
    let cells : by_left (column_at key rows.columns) (groups (column_at key rows.columns)) ∷ map (λ m. measure_cells m (column_at key rows.columns) rows.columns (groups (column_at key rows.columns))) measures ≡ made.columns.items =
    (λ i. by_left (same i) (found i) ∷ map (λ m. measure_cells m (same i) (all i) (found i)) measures)
    ∙ (λ i. by_left keys (map first_later (f i)) ∷ map (λ m. measure_cells m keys columns (map first_later (f i))) measures)
    ∙ (λ i. first_keys keys (firsts_from_0 keys) i ∷ map (λ m. first_measures m keys columns i) measures) ∙ sym made_columns in
    let whole : map (λ p. row_place (rows.place p.left) 0) (groups (column_at key rows.columns)) ≡ made.places =
    ap (map (λ p. row_place (rows.place p.left) 0)) found ∙ map_twice (λ p. row_place (rows.place p.left) 0) first_later firsts ∙ sym places in
    λ to i. Ok (with_order to (whole i) (columns_to to (cells i) d))
