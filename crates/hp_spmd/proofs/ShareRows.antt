-- Rows of tables and matrices that are made leave the arrays of a rank shared.
use Rattle.std.proofs.Common.{◌≡◌, ◌∙◌, refl, sym, subst, ap, arith, mul_comm, one-mul, mul-div_cancel, mul-suc, ℕ, zero, suc, ◌+◌, ◌-◌, ◌*◌, ◌<◌, ◌≤◌, List, [], ◌∷◌, length, length-append, map, set, Bool, true, false, if◌then◌else◌, Result, Ok, Err}
use Rattle.std.specs.Bool.{IsTrue}
use Rattle.std.specs.Prelude.{ℤ, pos, ◌-ℤ◌, int_le, ◌&&◌, ◌/◌, ◌==◌, nat_le, nat_lt, flat_map}
use Rattle.std.specs.List.{list_all, range_with_len}
use Rattle.std.proofs.lemmas.Bool.{and_parts, ltb-true}
use Rattle.std.proofs.lemmas.List.{length-map}
use Rattle.std.proofs.lemmas.List.Elements.{All-head, All-tail}
use Rattle.std.proofs.lemmas.List.FromFn.{length-map-range_with_len}
use Rattle.hp_word.specs.declared.matrix.Matrix.{Matrix}
use Rattle.hp_word.specs.declared.order.RowPlace.{RowPlace}
use Rattle.hp_word.specs.declared.place.Place.{Place}
use Rattle.hp_word.specs.declared.place.Trap.{Trap}
use Rattle.hp_word.specs.declared.place.TrapKind.TheVariants.{Index, TooLong}
use Rattle.hp_word.specs.Lengths.{longest, trap}
use Rattle.hp_word.specs.ListRules.{at_least_zero}
use Rattle.hp_word.specs.LoopRules.{and_then, word_at}
use Rattle.hp_word.specs.MatrixRules.{matrix_row, products_of, rows_of}
use Rattle.hp_word.specs.RowRules.{row_at}
use Rattle.hp_lattice.specs.declared.dist.Dist.{Dist}
use Rattle.hp_lattice.specs.declared.dist.Dist.TheVariants.{Rep}
use Rattle.hp_spmd.specs.declared.instr.Target.{Target}
use Rattle.hp_spmd.specs.declared.instr.Target.TheVariants.{Whole, Loose}
use Rattle.hp_spmd.specs.declared.store.Piece.{Piece}
use Rattle.hp_spmd.specs.Arrays.{with_array}
use Rattle.hp_spmd.specs.Cuts.{own_from, own_until}
use Rattle.hp_spmd.specs.Frames.{columns_to}
use Rattle.hp_spmd.specs.Layout.{IsShared, AreShared}
use Rattle.hp_spmd.specs.Matrices.{cells_to, column_count, interleaved, own_matrix, partial_cells, piece_to, product_piece, product_data, sized, stack_data, stacked, stacked_size, whole_piece}
use Rattle.hp_spmd.specs.Setting.{with_all}
use Rattle.hp_spmd.specs.Spread.{AllLie, IsReplicated, Lies, LiesAs, ProductsAlike, StacksAlike}
use Rattle.hp_spmd.specs.Store.{Data, dist_at, piece_at}
use Rattle.hp_spmd.specs.Scalars.{piece_length}
use Rattle.hp_spmd.proofs.MatrixNext.{cells_as_piece}
use Rattle.hp_spmd.proofs.RowNext.{map_twice}
use Rattle.hp_spmd.proofs.ShareCuts.{lies_shared, set_shared, shared_at}
use Rattle.hp_spmd.proofs.SumLemmas.{nothing_set}

-- the arrays of a rank's next data, if there are any, are shared
abbrev pub SharesNext : List Dist → (ranks number : ℕ) → Result Data Trap → Type 0
SharesNext dists ranks number (Ok d) = AreShared dists ranks number d.arrays
SharesNext dists ranks number (Err t) = Unit {0}

-- ---- arrays that are whole on each rank

column_whole : (rows k : ℕ) (cells : List ℤ) → 1 ≤ rows → length cells ≡ rows * k → column_count rows cells ≡ k
column_whole zero k cells some e = absurd (omega arith)
column_whole (suc rows) k cells some e = ap (λ n. n / suc rows) (e ∙ mul_comm (suc rows) k) ∙ mul-div_cancel k (omega arith)

whole_shared : (ranks number rows k : ℕ) (cells : List ℤ) → 1 ≤ rows → length cells ≡ rows * k → IsShared Rep ranks number (whole_piece rows cells)
whole_shared ranks number rows k cells some e =
    let all : column_count rows cells ≡ column_count rows cells - 0 = omega arith in
    record {
      some = some;
      len = column_count rows cells;
      cut = refl;
      filled = e ∙ ap (λ n. rows * n) (sym (column_whole rows k cells some e) ∙ all);
    }

vector_shared : (ranks number : ℕ) (cells : List ℤ) → IsShared Rep ranks number (whole_piece 1 cells)
vector_shared ranks number cells = whole_shared ranks number 1 (length cells) cells (omega arith) (sym (one-mul (length cells)))

vectors_share : (dists : List Dist) (ranks number : ℕ) (to : List ℕ) (columns : List (List ℤ)) (pieces : List Piece) → 1 ≤ ranks → AllLie dists Rep to → AreShared dists ranks number pieces → AreShared dists ranks number (with_all to (map (whole_piece 1) columns) pieces)
vectors_share dists ranks number [] columns pieces some lie h = h
vectors_share dists ranks number (t ∷ to) [] pieces some lie h = h
vectors_share dists ranks number (t ∷ to) (c ∷ columns) pieces some lie h =
    let here = lies_shared Rep (dist_at dists t) ranks number (whole_piece 1 c) some (All-head (λ k. LiesAs Rep (dist_at dists k)) t to lie) (vector_shared ranks number c) in
    vectors_share dists ranks number to columns (set pieces t (whole_piece 1 c)) some (All-tail (λ k. LiesAs Rep (dist_at dists k)) t to lie) (set_shared dists ranks number pieces t (whole_piece 1 c) h here)

pub columns_share : (dists : List Dist) (ranks number : ℕ) (to : Target) (columns : List (List ℤ)) (d : Data) → 1 ≤ ranks → IsReplicated dists to → AreShared dists ranks number d.arrays → AreShared dists ranks number (columns_to to columns d).arrays
columns_share dists ranks number (Whole arrays) columns d some lie h = vectors_share dists ranks number arrays columns d.arrays some lie h
columns_share dists ranks number (Loose loose) columns d some lie h = h

-- columns that are each changed so
pub changed_share : (dists : List Dist) (ranks number : ℕ) (to : List ℕ) (change : List ℤ → List ℤ) (columns : List (List ℤ)) (pieces : List Piece) → 1 ≤ ranks → AllLie dists Rep to → AreShared dists ranks number pieces
    → AreShared dists ranks number (with_all to (map (λ cells. whole_piece 1 (change cells)) columns) pieces)
changed_share dists ranks number to change columns pieces some lie h =
    subst (λ made. AreShared dists ranks number (with_all to made pieces)) (map_twice (whole_piece 1) change columns) (vectors_share dists ranks number to (map change columns) pieces some lie h)

pub pairs_share : (dists : List Dist) (ranks number : ℕ) (to : Target) (r : Result (List RowPlace) Trap) (f : List RowPlace → Data) → ((found : List RowPlace) → AreShared dists ranks number (f found).arrays) → SharesNext dists ranks number (and_then r (λ found. Ok (f found)))
pairs_share dists ranks number to (Ok found) f h = h found
pairs_share dists ranks number to (Err t) f h = tt

-- ---- matrices

flat_length : {A : Type 0} (f : A → List ℤ) (k : ℕ) (xs : List A) → ((x : A) → length (f x) ≡ k) → length (flat_map f xs) ≡ k * length xs
flat_length f k [] all = omega arith
flat_length f k (x ∷ xs) all =
    let rest = flat_length f k xs all in
    let here = all x in
    let whole = length-append (f x) (flat_map f xs) in
    let more = mul-suc k (length xs) in
    omega (arith, rest, here, whole, more)

range_length : (a n : ℕ) → length (range_with_len a n) ≡ n
range_length a zero = refl
range_length a (suc n) = ap suc (range_length (a + 1) n)

interleaved_length : (places : ℕ) (lists : List (List ℤ)) → length (interleaved places lists) ≡ length lists * places
interleaved_length places lists =
    flat_length (λ j. map (λ cells. word_at cells j) lists) (length lists) (range_with_len 0 places) (λ j. length-map lists (λ cells. word_at cells j)) ∙ ap (λ n. length lists * n) (range_length 0 places)

-- how many columns a rank has of its own
own_columns : (dist : Dist) (ranks number : ℕ) (p : Piece) → (h : IsShared dist ranks number p) → length (own_matrix p).columns ≡ own_until dist p.cuts number - own_from dist p.cuts number
own_columns dist ranks number p h =
    length-map-range_with_len _ 0 (column_count p.rows p.cells) ∙ column_whole p.rows (own_until dist p.cuts number - own_from dist p.cuts number) p.cells h.some h.filled

-- one own cell in each own column
row_shared : (dist : Dist) (ranks number : ℕ) (p : Piece) (cells : List ℤ) → IsShared dist ranks number p → length cells ≡ length (own_matrix p).columns → IsShared dist ranks number (record { rows = 1; cuts = p.cuts; cells = cells })
row_shared dist ranks number p cells h e =
    record { some = omega arith; len = h.len; cut = h.cut; filled = e ∙ own_columns dist ranks number p h ∙ sym (one-mul (own_until dist p.cuts number - own_from dist p.cuts number)) }

pub row_shares : (dists : List Dist) (ranks number to m : ℕ) (at : Place) (i : ℤ) (d : Data) → 1 ≤ ranks → LiesAs (dist_at dists m) (dist_at dists to) → m < length dists → AreShared dists ranks number d.arrays
    → SharesNext dists ranks number (and_then (matrix_row at (own_matrix (piece_at d.arrays m)) i) (λ cells. Ok (with_array to (record { rows = 1; cuts = (piece_at d.arrays m).cuts; cells = cells }) d)))
unfolding matrix_row
row_shares dists ranks number to m at i d some alike within h =
    let p = piece_at d.arrays m in
    by p (shared_at dists ranks number d.arrays m h within) (int_le (pos 1) i && int_le i (pos p.rows)) (at_least_zero (i -ℤ pos 1))
  where
    by : (p : Piece) → IsShared (dist_at dists m) ranks number p → (b : Bool) (n : ℕ)
        → SharesNext dists ranks number (and_then (if b then Ok (row_at (own_matrix p).columns n) else Err (trap at Index)) (λ cells. Ok (with_array to (record { rows = 1; cuts = p.cuts; cells = cells }) d)))
    by p is false n = tt
    by p is true n =
        let cells = row_at (own_matrix p).columns n in
        let piece : Piece = record { rows = 1; cuts = p.cuts; cells = cells } in
        set_shared dists ranks number d.arrays to piece h
        (lies_shared (dist_at dists m) (dist_at dists to) ranks number piece some alike (row_shared (dist_at dists m) ranks number p cells is (length-map (own_matrix p).columns (λ column. word_at column n))))

products_length : (rows : List (List ℤ)) (column : List ℤ) → length (products_of rows column) ≡ length rows
unfolding products_of
products_length rows column = length-map rows _

rows_length : (m : Matrix) → length (rows_of m) ≡ m.rows
unfolding rows_of
rows_length m = length-map-range_with_len (row_at m.columns) 0 m.rows

flat_products : (rows columns : List (List ℤ)) → length (flat_map (products_of rows) columns) ≡ length rows * length columns
flat_products rows columns = flat_length (products_of rows) (length rows) columns (products_length rows)

product_shared : (dist : Dist) (ranks number : ℕ) (a b : Piece) → 1 ≤ a.rows → IsShared dist ranks number b → IsShared dist ranks number (product_piece a b)
product_shared dist ranks number a b some h =
    record {
      some = some;
      len = h.len;
      cut = h.cut;
      filled = flat_products (rows_of (own_matrix a)) (own_matrix b).columns ∙ ap (λ n. n * length (own_matrix b).columns) (rows_length (own_matrix a)) ∙ ap (λ n. a.rows * n) (own_columns dist ranks number b h);
    }

partial_shared : (ranks number : ℕ) (a b : Piece) → 1 ≤ a.rows → IsShared Rep ranks number (whole_piece a.rows (partial_cells a b))
partial_shared ranks number a b some =
    whole_shared ranks number a.rows b.rows (partial_cells a b) some
    (flat_products (rows_of (own_matrix a)) (rows_of (own_matrix b)) ∙ (λ i. rows_length (own_matrix a) i * rows_length (own_matrix b) i))

piece_share : (dists : List Dist) (ranks number : ℕ) (dist : Dist) (to : Target) (piece : Piece) (d : Data) → 1 ≤ ranks → Lies dists dist to → IsShared dist ranks number piece → AreShared dists ranks number d.arrays → AreShared dists ranks number (piece_to to piece d).arrays
piece_share dists ranks number dist (Loose columns) piece d some lie is h = h
piece_share dists ranks number dist (Whole []) piece d some lie is h = h
piece_share dists ranks number dist (Whole (t ∷ to)) piece d some lie is h =
    let here = lies_shared dist (dist_at dists t) ranks number piece some (All-head (λ k. LiesAs dist (dist_at dists k)) t to lie) is in
    subst (AreShared dists ranks number) (sym (nothing_set to [] (set d.arrays t piece) refl)) (set_shared dists ranks number d.arrays t piece h here)

sized_shares : (dists : List Dist) (ranks number : ℕ) (at : Place) (meets : Bool) (size : ℕ) (d : Data) → AreShared dists ranks number d.arrays → SharesNext dists ranks number (sized at meets size d)
sized_shares dists ranks number at false size d h = tt
sized_shares dists ranks number at true size d h = by (nat_le size longest)
  where
    by : (b : Bool) → SharesNext dists ranks number (if b then Ok d else Err (trap at TooLong))
    by true = h
    by false = tt

pub product_shares : (dists : List Dist) (ranks number : ℕ) (to : Target) (left right : ℕ) (flip : Bool) (at : Place) (d : Data) → 1 ≤ ranks → ProductsAlike dists to right flip → left < length dists → right < length dists
    → AreShared dists ranks number d.arrays → SharesNext dists ranks number (product_data to left right flip at d)
unfolding product_data
product_shares dists ranks number to left right false at d some lie l r h =
    let a = piece_at d.arrays left in
    let b = piece_at d.arrays right in
    let first = shared_at dists ranks number d.arrays left h l in
    let second = shared_at dists ranks number d.arrays right h r in
    sized_shares dists ranks number at (piece_length a == b.rows) (a.rows * piece_length b) (piece_to to (product_piece a b) d)
    (piece_share dists ranks number (dist_at dists right) to (product_piece a b) d some lie (product_shared (dist_at dists right) ranks number a b first.some second) h)
product_shares dists ranks number to left right true at d some lie l r h =
    let a = piece_at d.arrays left in
    let b = piece_at d.arrays right in
    let first = shared_at dists ranks number d.arrays left h l in
    let cells = partial_cells a b in
    sized_shares dists ranks number at (piece_length a == piece_length b) (a.rows * b.rows) (cells_to to a.rows cells d)
    (subst (λ e. AreShared dists ranks number e.arrays) (sym (cells_as_piece to a.rows cells d)) (piece_share dists ranks number Rep to (whole_piece a.rows cells) d some lie (partial_shared ranks number a b first.some) h))

rows_shared : (dist : Dist) (ranks number : ℕ) (p : Piece) (ps : List Piece) → IsShared dist ranks number p → IsShared dist ranks number (stacked false (p ∷ ps))
rows_shared dist ranks number p ps h =
    let places = column_count p.rows p.cells in
    let lists = map (λ (q : Piece). q.cells) (p ∷ ps) in
    record {
      some = omega arith;
      len = h.len;
      cut = h.cut;
      filled = interleaved_length places lists ∙ ap (λ n. n * places) (length-map (p ∷ ps) (λ q. q.cells)) ∙ ap (λ n. length (p ∷ ps) * n) (column_whole p.rows (own_until dist p.cuts number - own_from dist p.cuts number) p.cells h.some h.filled);
    }

stacked_shared : (dists : List Dist) (ranks number to : ℕ) (from : List ℕ) (flat : Bool) (pieces : List Piece) → 1 ≤ ranks → StacksAlike dists to from flat → IsTrue (list_all (λ k. nat_lt k (length dists)) from) → AreShared dists ranks number pieces
    → IsShared (dist_at dists to) ranks number (stacked flat (map (piece_at pieces) from))
stacked_shared dists ranks number to from true pieces some alike within h =
    let cells = flat_map (λ (q : Piece). q.cells) (map (piece_at pieces) from) in
    subst (λ d. IsShared d ranks number (whole_piece 1 cells)) (sym alike) (vector_shared ranks number cells)
stacked_shared dists ranks number to [] false pieces some alike within h = absurd alike
stacked_shared dists ranks number to (f ∷ from) false pieces some alike within h =
    let there = ltb-true f (length dists) (and_parts (nat_lt f (length dists)) (list_all (λ k. nat_lt k (length dists)) from) within).0 in
    let p = piece_at pieces f in
    let ps = map (piece_at pieces) from in
    lies_shared (dist_at dists f) (dist_at dists to) ranks number (stacked false (p ∷ ps)) some alike (rows_shared (dist_at dists f) ranks number p ps (shared_at dists ranks number pieces f h there))

pub stack_shares : (dists : List Dist) (ranks number to : ℕ) (from : List ℕ) (flat : Bool) (at : Place) (d : Data) → 1 ≤ ranks → StacksAlike dists to from flat → IsTrue (list_all (λ k. nat_lt k (length dists)) from) → AreShared dists ranks number d.arrays
    → SharesNext dists ranks number (stack_data to from flat at d)
unfolding stack_data
stack_shares dists ranks number to from flat at d some alike within h = by (nat_le (stacked_size flat (map (piece_at d.arrays) from)) longest)
  where
    by : (b : Bool) → SharesNext dists ranks number (if b then Ok (with_array to (stacked flat (map (piece_at d.arrays) from)) d) else Err (trap at TooLong))
    by true = set_shared dists ranks number d.arrays to (stacked flat (map (piece_at d.arrays) from)) h (stacked_shared dists ranks number to from flat d.arrays some alike within h)
    by false = tt
