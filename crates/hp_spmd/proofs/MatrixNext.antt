-- Columns and rows of matrices, step by step.
use Rattle.std.proofs.Common.{◌≡◌, ◌∙◌, refl, sym, ap, arith, mul_comm, ℕ, zero, suc, ◌+◌, ◌*◌, ◌<◌, ◌≤◌, ℤ, Bool, true, false, if◌then◌else◌, Option, Some, None, Result, Ok, Err, List, [], ◌∷◌, ◌++◌, append-nil, length, length-append, map, get_or, take}
use Rattle.std.specs.Prelude.{◌/◌, ◌==◌, nat_le, flat_map, slice_set, IfOk}
use Rattle.std.specs.List.{range_with_len}
use Rattle.std.proofs.lemmas.Bool.{lt-leb}
use Rattle.std.proofs.lemmas.Grind.{flat_map-append}
use Rattle.std.proofs.lemmas.List.{length-map, map-append, take_more}
use Rattle.std.proofs.lemmas.List.Folds.{flat_map-map}
use Rattle.std.proofs.lemmas.Nat.{column_fits}
use Rattle.hp_word.specs.declared.place.Place.{Place}
use Rattle.hp_word.specs.declared.place.TrapKind.{TrapKind}
use Rattle.hp_word.specs.declared.place.TrapKind.TheVariants.{Mismatch, TooLong}
use Rattle.hp_word.specs.Lengths.{longest, trap}
use Rattle.hp_word.specs.LoopRules.{word_at}
use Rattle.hp_kernels.proofs.SortLemmas.{places_more}
use Rattle.hp_spmd.specs.declared.instr.Target.{Target}
use Rattle.hp_spmd.specs.declared.instr.Target.TheVariants.{Whole, Loose}
use Rattle.hp_spmd.specs.declared.store.Piece.{Piece}
use Rattle.hp_spmd.specs.Arrays.{cells_at}
use Rattle.hp_spmd.specs.MatrixParts.{multiplied, sides_fit, size_fault}
use Rattle.hp_spmd.specs.Matrices.{cells_to, column_count, interleaved, partial_cells, piece_to, product_data, product_piece, sized, stacked, stacked_size, whole_piece}
use Rattle.hp_spmd.specs.Scalars.{piece_length}
use Rattle.hp_spmd.specs.Setting.{with_all}
use Rattle.hp_spmd.specs.Store.{Data, piece_at}
use Rattle.hp_spmd.proofs.GatherLemmas.{made_more}
use Rattle.hp_spmd.proofs.RowNext.{map_twice}
use Rattle.hp_spmd.proofs.SumLemmas.{nothing_set}

-- a column that there is lies within the cells
pub column_within : (rows number : ℕ) (cells : List ℤ) → number < column_count rows cells → number * rows + rows ≤ length cells
column_within zero number cells lt = absurd (omega arith)
column_within (suc rows) number cells lt =
    let count = length cells / suc rows in
    let within = column_fits (suc rows) number (suc rows) count lt (omega arith) in
    let turned = mul_comm number (suc rows) in
    let whole : suc rows * count ≤ length cells = omega arith in
    omega (arith, within, turned, whole)

-- one more column
pub columns_more : {A X : Type 0} (see : A → X) (f : ℕ → X) (k : ℕ) (made now : List A) (x : A) → map see made ≡ map f (range_with_len 0 k) → see x ≡ f k → now ≡ made ++ x ∷ [] → map see now ≡ map f (range_with_len 0 (k + 1))
columns_more see f k made now x m is n = made_more f k (map see made) (map see now) (see x) m (ap (map see) n ∙ map-append see made (x ∷ [])) is

-- the cells of one more place
pub interleaved_more : (lists : List (List ℤ)) (k : ℕ) (made now : List ℤ) → made ≡ interleaved k lists → now ≡ made ++ map (λ cells. word_at cells k) lists → now ≡ interleaved (k + 1) lists
interleaved_more lists k made now m n =
    let row = λ (j : ℕ). map (λ cells. word_at cells j) lists in
    n ∙ ap (λ l. l ++ row k) m ∙ ap (λ l. flat_map row (range_with_len 0 k) ++ l) (sym (append-nil (row k)))
    ∙ sym (flat_map-append row (range_with_len 0 k) (k ∷ [])) ∙ ap (flat_map row) (places_more (range_with_len 0 k) (range_with_len 0 k ++ k ∷ []) k refl refl)

-- the cells of the first arrays
first_cells : {A : Type 0} (f : A → List ℤ) (xs : List A) (i : ℕ) (d : A) → i < length xs → length (flat_map f (take (i + 1) xs)) ≡ length (flat_map f (take i xs)) + length (f (get_or xs i d))
first_cells f xs i d lt =
    ap (λ l. length (flat_map f l)) (take_more xs i d lt) ∙ ap length (flat_map-append f (take i xs) (get_or xs i d ∷ []) ∙ ap (λ l. flat_map f (take i xs) ++ l) (append-nil (f (get_or xs i d))))
    ∙ length-append (flat_map f (take i xs)) (f (get_or xs i d))

firsts_within : {A : Type 0} (f : A → List ℤ) (i : ℕ) (xs : List A) → length (flat_map f (take i xs)) ≤ length (flat_map f xs)
firsts_within f zero xs = omega arith
firsts_within f (suc i) [] = omega arith
firsts_within f (suc i) (x ∷ xs) =
    let rest = firsts_within f i xs in
    let here = length-append (f x) (flat_map f (take i xs)) in
    let all = length-append (f x) (flat_map f xs) in
    omega (arith, rest, here, all)

pub ends_break : {A : Type 0} (f : A → List ℤ) (xs : List A) (i left : ℕ) (d : A) → i < length xs → length (flat_map f (take i xs)) + left ≡ longest → left < length (f (get_or xs i d)) → false ≡ nat_le (length (flat_map f xs)) longest
ends_break f xs i left d lt h more =
    let here = first_cells f xs i d lt in
    let within = firsts_within f (i + 1) xs in
    sym (lt-leb (length (flat_map f xs)) longest (omega (arith, here, within, h, more)))

pub flat_fits : (pieces : List Piece) (from : List ℕ) (flat fits : Bool) → flat ≡ true → fits ≡ nat_le (length (flat_map (cells_at pieces) from)) longest → fits ≡ nat_le (stacked_size flat (map (piece_at pieces) from)) longest
flat_fits pieces from true fits e h = h ∙ ap (λ l. nat_le (length l) longest) (sym (flat_map-map (λ q. q.cells) (piece_at pieces) from))
flat_fits pieces from false fits e h = absurd (cc)

pub flat_piece : {E : Type 0} (r : Result Piece E) (pieces : List Piece) (from : List ℕ) (flat : Bool) (cells : List ℤ) → flat ≡ true → IfOk r (λ piece. piece ≡ whole_piece 1 cells) → cells ≡ flat_map (cells_at pieces) from → IfOk r (λ piece. piece ≡ stacked flat (map (piece_at pieces) from))
flat_piece (Ok piece) pieces from true cells e h c = h ∙ ap (whole_piece 1) (c ∙ sym (flat_map-map (λ q. q.cells) (piece_at pieces) from))
flat_piece (Err x) pieces from true cells e h c = tt
flat_piece r pieces from false cells e h c = absurd (cc)

pub none_stacked : (pieces : List Piece) (from : List ℕ) → length from ≡ 0 → record { rows = 0; cuts = []; cells = [] } ≡ stacked false (map (piece_at pieces) from)
none_stacked pieces [] e = refl
none_stacked pieces (f ∷ from) e = absurd (omega arith)

pub rows_stacked : (pieces : List Piece) (from : List ℕ) (lists : List (List ℤ)) (rows places : ℕ) (cuts : List ℕ) (cells : List ℤ) → 1 ≤ length from → rows ≡ length from → cuts ≡ (piece_at pieces (get_or from 0 0)).cuts → places ≡ column_count (piece_at pieces (get_or from 0 0)).rows (cells_at pieces (get_or from 0 0))
    → lists ≡ map (cells_at pieces) from → cells ≡ interleaved places lists → record { rows = rows; cuts = cuts; cells = cells } ≡ stacked false (map (piece_at pieces) from)
rows_stacked pieces [] lists rows places cuts cells some r c p l e = absurd (omega arith)
rows_stacked pieces (f ∷ from) lists rows places cuts cells some r c p l e =
    let first = piece_at pieces f in
    let count : rows ≡ suc (length (map (piece_at pieces) from)) = r ∙ ap suc (sym (length-map from (piece_at pieces))) in
    let all : lists ≡ first.cells ∷ map (λ q. q.cells) (map (piece_at pieces) from) = l ∙ ap (λ x. first.cells ∷ x) (sym (map_twice (λ q. q.cells) (piece_at pieces) from)) in
    let whole : cells ≡ interleaved (column_count first.rows first.cells) (first.cells ∷ map (λ q. q.cells) (map (piece_at pieces) from)) = e ∙ (λ i. interleaved (p i) (all i)) in
    λ i. record { rows = count i; cuts = c i; cells = whole i }

pub size_fits : (rows columns size : ℕ) → size ≡ rows * columns → nat_le size longest ≡ nat_le (rows * columns) longest
size_fits rows columns size e = ap (λ n. nat_le n longest) e

pub size_breaks : (rows columns : ℕ) → 18446744073709551615 < rows * columns → false ≡ nat_le (rows * columns) longest
size_breaks rows columns lt = sym (lt-leb (rows * columns) longest (omega arith))

-- ---- what is put

pub first_set : {X : Type 0} (to : List ℕ) (m : X) (xs : List X) → 1 ≤ length to → slice_set xs (get_or to 0 0) m ≡ with_all to (m ∷ []) xs
first_set [] m xs some = absurd (omega arith)
first_set (t ∷ to) m xs some = sym (nothing_set to [] (slice_set xs t m) refl)

abbrev size_refused : Bool → Option TrapKind
size_refused fits = if fits then None else Some TooLong

-- where sides meet, what is put is what the product makes, and else there is a trap
sized_none : (at : Place) (meets : Bool) (size : ℕ) (d : Data) → size_fault meets size ≡ None → sized at meets size d ≡ Ok d
sized_none at false size d e = absurd (cc)
sized_none at true size d e = by (nat_le size longest) e
  where
    by : (b : Bool) → size_refused b ≡ None → (if b then Ok d else Err (trap at TooLong)) ≡ Ok d
    by true e = refl
    by false e = absurd (cc)

sized_some : (at : Place) (meets : Bool) (size : ℕ) (d : Data) (kind : TrapKind) → size_fault meets size ≡ Some kind → sized at meets size d ≡ Err (trap at kind)
sized_some at false size d kind e = let same : Mismatch ≡ kind = cc in ap (λ k. Err (trap at k)) same
sized_some at true size d kind e = by (nat_le size longest) e
  where
    by : (b : Bool) → size_refused b ≡ Some kind → (if b then Ok d else Err (trap at TooLong)) ≡ Err (trap at kind)
    by true e = absurd (cc)
    by false e = let same : TooLong ≡ kind = cc in ap (λ k. Err (trap at k)) same

-- cells that go as an array that is whole on each rank, or as a loose column
pub cells_as_piece : (to : Target) (rows : ℕ) (cells : List ℤ) (d : Data) → cells_to to rows cells d ≡ piece_to to (whole_piece rows cells) d
cells_as_piece (Whole arrays) rows cells d = refl
cells_as_piece (Loose columns) rows cells d = refl

pub product_made : (to : Target) (left right : ℕ) (flip : Bool) (at : Place) (d : Data) → sides_fit flip (piece_at d.arrays left) (piece_at d.arrays right) ≡ None
    → product_data to left right flip at d ≡ Ok (piece_to to (multiplied flip (piece_at d.arrays left) (piece_at d.arrays right)) d)
unfolding product_data
product_made to left right false at d e =
    let a = piece_at d.arrays left in
    let b = piece_at d.arrays right in
    sized_none at (piece_length a == b.rows) (a.rows * piece_length b) (piece_to to (product_piece a b) d) e
product_made to left right true at d e =
    let a = piece_at d.arrays left in
    let b = piece_at d.arrays right in
    sized_none at (piece_length a == piece_length b) (a.rows * b.rows) (cells_to to a.rows (partial_cells a b) d) e ∙ ap Ok (cells_as_piece to a.rows (partial_cells a b) d)

pub product_trapped : (to : Target) (left right : ℕ) (flip : Bool) (at : Place) (d : Data) (kind : TrapKind) → sides_fit flip (piece_at d.arrays left) (piece_at d.arrays right) ≡ Some kind
    → product_data to left right flip at d ≡ Err (trap at kind)
unfolding product_data
product_trapped to left right false at d kind e =
    let a = piece_at d.arrays left in
    let b = piece_at d.arrays right in
    sized_some at (piece_length a == b.rows) (a.rows * piece_length b) (piece_to to (product_piece a b) d) kind e
product_trapped to left right true at d kind e =
    let a = piece_at d.arrays left in
    let b = piece_at d.arrays right in
    sized_some at (piece_length a == piece_length b) (a.rows * b.rows) (cells_to to a.rows (partial_cells a b) d) kind e
