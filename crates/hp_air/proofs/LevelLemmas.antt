-- Along a program that keeps its laws, over tables that serve it, the columns of each frame have one length.
use Rattle.std.proofs.Common.{◌≡◌, ℕ, zero, suc, ◌+◌, ◌<◌, ◌==◌, ℤ, Bool, true, false, ◌&&◌, cond, List, [], ◌∷◌, ◌++◌, map, length, remove, slice_get, Option, Some, None, Result, Ok, Err, IsTrue, refl, sym, subst, ◌∙◌, arith}
use Rattle.std.proofs.lemmas.Bool.{eqb-true, ltb-true}
use Rattle.std.proofs.lemmas.List.{length-map, length-append}
use Rattle.std.proofs.lemmas.List.Edits.{length-remove}
use Rattle.std.proofs.lemmas.List.FromFn.{length-map-range_with_len}
use Rattle.std.specs.List.{AllByRecursion, list_all, range_with_len}
use Rattle.hp_word.specs.declared.matrix.Matrix.{Matrix}
use Rattle.hp_word.specs.declared.order.Order.{Order}
use Rattle.hp_word.specs.declared.order.RowPlace.{RowPlace}
use Rattle.hp_word.specs.declared.place.Place.{Place}
use Rattle.hp_word.specs.declared.place.Trap.{Trap}
use Rattle.hp_word.specs.declared.place.TrapKind.TheVariants.{Mismatch}
use Rattle.hp_word.specs.declared.table.Measure.{Measure}
use Rattle.hp_word.specs.declared.table.Table.{Table}
use Rattle.hp_word.specs.Lengths.{trap}
use Rattle.hp_word.specs.LoopRules.{and_then, word_at}
use Rattle.hp_word.specs.RowRules.{are_level, level, column_at, key_first, filter_rows, measure_cells, measures_by_left, Taken, by_left, by_right, sorted_places}
use Rattle.hp_word.specs.Runs.{Ran}
use Rattle.hp_word.specs.Tables.{row_count}
use Rattle.hp_word.specs.Words.{is_true}
use Rattle.hp_program.specs.Programs.{Prog, operations, start}
use Rattle.hp_program.proofs.Keeping.{first_holds, second_holds, EndsIn, Gives, run_keeps}
use Rattle.hp_program.proofs.Keeping as keeping
use Rattle.hp_air.specs.declared.slot.Slot.{Slot}
use Rattle.hp_air.specs.declared.what.Op.{Op}
use Rattle.hp_air.specs.declared.what.What.{What}
use Rattle.hp_air.specs.declared.what.What.TheVariants as what
use Rattle.hp_air.specs.Arrays.{arrays_of, outs}
use Rattle.hp_air.specs.Frames.{numbers_of}
use Rattle.hp_air.specs.Kept.{are_slots, has_lists, values, frame_sides, is_side, has_frames, has_copy, is_kept, are_kept, stands_for_one}
use Rattle.hp_air.specs.Meaning.{does, doing, mean, word_made, array_made, matrix_made, frame_made, in_order, filtered, sorted_by, joined_rows, grouped_rows, serves, Serves}
use Rattle.hp_air.specs.RunLaws.{AreLevel, EndsWith}
use Rattle.hp_air.specs.Wholes.{Vector, Grid, cells, Env, unset, with_slots, lists_at}
use Rattle.hp_air.proofs.BoundLemmas.{even_of}
use Rattle.hp_air.proofs.FrameLemmas.{IsClosed, copy_closed, frame_is_closed, AreEven, AreOf, stays_even, side_even, first_even}

-- ---- lists of one length

-- lists of this length
abbrev Long : ℕ → List (List ℤ) → Type 0
Long n columns = AllByRecursion (λ column. length column ≡ n) columns

-- lists of one length
abbrev Level : List (List ℤ) → Type 0
Level columns = (n : ℕ) × Long n columns

vectors : (n : ℕ) (columns : List (List ℤ)) → Long n columns → AreOf n (map Vector columns)
vectors n [] all = tt
vectors n (column ∷ columns) all = (all.0, vectors n columns all.1)

read_long : (n : ℕ) (e : Env) (ks : List ℕ) → AreOf n (map e.slots ks) → Long n (lists_at e ks)
read_long n e [] all = tt
read_long n e (k ∷ ks) all = (all.0, read_long n e ks all.1)

each_long : {X : Type 0} (f : X → List ℤ) (n : ℕ) → ((x : X) → length (f x) ≡ n) → (xs : List X) → Long n (map f xs)
each_long f n same [] = tt
each_long f n same (x ∷ xs) = (same x, each_long f n same xs)

join_long : (n : ℕ) (xs ys : List (List ℤ)) → Long n xs → Long n ys → Long n (xs ++ ys)
join_long n [] ys p q = q
join_long n (x ∷ xs) ys p q = (p.0, join_long n xs ys p.1 q)

-- ---- filters

filter_next : (holds : Bool) (x y : ℤ) (xs ys : List ℤ) → length xs ≡ length ys → length (cond holds (x ∷ xs) xs) ≡ length (cond holds (y ∷ ys) ys)
filter_next true x y xs ys same = omega arith
filter_next false x y xs ys same = same

-- what a filter keeps of two lists of one length is of one length
filter_long : (mask xs ys : List ℤ) → length xs ≡ length ys → length (filter_rows mask xs) ≡ length (filter_rows mask ys)
unfolding filter_rows
filter_long [] xs ys same = refl
filter_long (m ∷ mask) [] [] same = refl
filter_long (m ∷ mask) [] (y ∷ ys) same = absurd (omega arith)
filter_long (m ∷ mask) (x ∷ xs) [] same = absurd (omega arith)
filter_long (m ∷ mask) (x ∷ xs) (y ∷ ys) same = filter_next (is_true m) x y (filter_rows mask xs) (filter_rows mask ys) (filter_long mask xs ys (omega arith))

all_filtered : (mask first : List ℤ) (columns : List (List ℤ)) → Long (length first) columns → Long (length (filter_rows mask first)) (map (filter_rows mask) columns)
all_filtered mask first [] all = tt
all_filtered mask first (column ∷ columns) all = (filter_long mask column first all.0, all_filtered mask first columns all.1)

filter_level : (mask : List ℤ) (columns : List (List ℤ)) → Level columns → Level (map (filter_rows mask) columns)
filter_level mask [] even = (0, tt)
filter_level mask (column ∷ columns) even =
    (length (filter_rows mask column), (refl, all_filtered mask column columns (subst (λ n. Long n columns) (sym even.1.0) even.1.1)))

-- ---- tables

table_long : (columns : List (List ℤ)) (n : ℕ) → ((k : ℕ) → k < length columns → length (column_at k columns) ≡ n) → (a m : ℕ) → a + m ≡ length columns → Long n (map (λ k. column_at k columns) (range_with_len a m))
table_long columns n each a zero e = tt
table_long columns n each a (suc m) e = (each a (omega arith), table_long columns n each (a + 1) m (omega arith))

-- ---- tests

level_of : (n : ℕ) (columns : List (List ℤ)) → IsTrue (list_all (λ xs. length xs == n) columns) → Long n columns
level_of n [] pass = tt
level_of n (column ∷ columns) pass = (eqb-true _ _ (first_holds _ _ pass), level_of n columns (second_holds _ _ pass))

-- ---- what operations make

-- what holds of an environment in which the columns of each frame have one length
abbrev IsEven : List Slot → Env → Type 0
IsEven slots e = AreEven slots e.slots

word_keeps : (slots : List Slot) (to : ℕ) (e : Env) (made : Result ℤ Trap) → IsEven slots e → Gives (IsEven slots) (word_made to e made)
word_keeps slots to e (Ok x) even = even
word_keeps slots to e (Err t) even = tt

array_keeps : (slots : List Slot) (out : ℕ) (e : Env) (made : Result (List ℤ) Trap) → IsClosed slots (out ∷ []) → IsEven slots e → Gives (IsEven slots) (array_made out e made)
array_keeps slots out e (Ok xs) closed even = stays_even slots (out ∷ []) (Vector xs ∷ []) (length xs) e.slots closed refl (refl, tt) even
array_keeps slots out e (Err t) closed even = tt

matrix_keeps : (slots : List Slot) (out : ℕ) (e : Env) (made : Result Matrix Trap) → IsClosed slots (out ∷ []) → IsEven slots e → Gives (IsEven slots) (matrix_made out e made)
matrix_keeps slots out e (Ok m) closed even = stays_even slots (out ∷ []) (Grid m ∷ []) (length (cells (Grid m))) e.slots closed refl (refl, tt) even
matrix_keeps slots out e (Err t) closed even = tt

columns_keep : (slots : List Slot) (os : List ℕ) (e : Env) (columns : List (List ℤ)) → IsClosed slots os → length os ≡ length columns → Level columns → IsEven slots e → AreEven slots (with_slots os (map Vector columns) e).slots
columns_keep slots os e columns closed even level before =
    stays_even slots os (map Vector columns) level.0 e.slots closed (even ∙ sym (length-map columns Vector)) (vectors level.0 columns level.1) before

order_keeps : (slots : List Slot) (os : List ℕ) (e : Env) (order : Taken) (rows : List RowPlace → List (List ℤ)) → IsClosed slots os → ((places : List RowPlace) → length os ≡ length (rows places)) → ((places : List RowPlace) → Level (rows places))
    → IsEven slots e → Gives (IsEven slots) (in_order os e order rows)
unfolding in_order
order_keeps slots os e order rows closed even level before = columns_keep slots os e (rows order.places) closed (even order.places) (level order.places) before

-- ---- operations

-- the columns that are read as a frame
side_level : (slots : List Slot) (e : Env) (ks : List ℕ) → IsTrue (is_side slots ks) → IsEven slots e → Level (lists_at e ks)
side_level slots e ks side even = let long : (n : ℕ) × AreOf n (map e.slots ks) = side_even slots ks e.slots side even in (long.0, read_long long.0 e ks long.1)

as_many : (e : Env) (ks : List ℕ) → length (lists_at e ks) ≡ length ks
as_many e ks = length-map ks (λ k. cells (e.slots k))

read_keeps : (slots : List Slot) (os : List ℕ) (e : Env) (found : Option Table) → IsClosed slots os → IsTrue (elim found [ None ↦ false | Some t ↦ length t.columns == length os ]) → IsEven slots e
    → Gives (IsEven slots) (frame_made os e (Ok (map (λ k. column_at k (elim found [ None ↦ [] | Some t ↦ t.columns ])) (range_with_len 0 (length os)))))
read_keeps slots os e None closed served even = absurd cc
read_keeps slots os e (Some t) closed served even =
    let made : List (List ℤ) = map (λ k. column_at k t.columns) (range_with_len 0 (length os)) in
    let many : length t.columns ≡ length os = eqb-true (length t.columns) (length os) served in
    columns_keep slots os e made closed (sym (length-map-range_with_len (λ k. column_at k t.columns) 0 (length os)))
    (row_count t.columns, table_long t.columns (row_count t.columns) (λ k lt. t.even k [] lt) 0 (length os) (omega arith)) even

filter_keeps : (slots : List Slot) (os ins : List ℕ) (mask : List ℤ) (at : Place) (e : Env) → IsClosed slots os → length os ≡ length ins → IsTrue (is_side slots ins) → IsEven slots e
    → Gives (IsEven slots) (frame_made os e (filtered at (lists_at e ins) mask))
unfolding filtered
filter_keeps slots os ins mask at e closed even side before = by (length mask == row_count (lists_at e ins))
  where
    by : (test : Bool) → Gives (IsEven slots) (frame_made os e (cond test (Ok (map (filter_rows mask) (lists_at e ins))) (Err (trap at Mismatch))))
    by true =
        columns_keep slots os e (map (filter_rows mask) (lists_at e ins)) closed (even ∙ sym (as_many e ins) ∙ sym (length-map (lists_at e ins) (filter_rows mask)))
        (filter_level mask (lists_at e ins) (side_level slots e ins side before)) before
    by false = tt

frame_keeps : (slots : List Slot) (os ins : List ℕ) (at : Place) (e : Env) → IsClosed slots os → length os ≡ length ins → IsEven slots e → Gives (IsEven slots) (frame_made os e (level at (lists_at e ins)))
unfolding level
frame_keeps slots os ins at e closed even before = by (are_level (lists_at e ins)) refl
  where
    by : (test : Bool) → are_level (lists_at e ins) ≡ test → Gives (IsEven slots) (frame_made os e (cond test (Ok (lists_at e ins)) (Err (trap at Mismatch))))
    by true same = columns_keep slots os e (lists_at e ins) closed (even ∙ sym (as_many e ins)) (row_count (lists_at e ins), level_of (row_count (lists_at e ins)) (lists_at e ins) same) before
    by false same = tt

sort_keeps : (slots : List Slot) (os ins : List ℕ) (key : ℕ) (e : Env) → IsClosed slots os → length os ≡ length ins → IsEven slots e → Gives (IsEven slots) (frame_made os e (Ok (sorted_by key (lists_at e ins))))
unfolding sorted_by
sort_keeps slots os ins key e closed even before =
    let places : List ℕ = sorted_places (key_first key (lists_at e ins)) (row_count (lists_at e ins)) in
    let made : List ℤ → List ℤ = λ column. map (word_at column) places in
    columns_keep slots os e (map made (lists_at e ins)) closed (even ∙ sym (as_many e ins) ∙ sym (length-map (lists_at e ins) made))
    (length places, each_long made (length places) (λ column. length-map places (word_at column)) (lists_at e ins)) before

left_long : (column : List ℤ) (places : List RowPlace) → length (by_left column places) ≡ length places
unfolding by_left
left_long column places = length-map places _

right_long : (column : List ℤ) (places : List RowPlace) → length (by_right column places) ≡ length places
unfolding by_right
right_long column places = length-map places _

measure_long : (keys : List ℤ) (columns : List (List ℤ)) (places : List RowPlace) (m : Measure) → length (measure_cells m keys columns places) ≡ length places
unfolding measures_by_left
measure_long keys columns places m = length-map places _

joined_level : (lefts rights : List (List ℤ)) (key : ℕ) (places : List RowPlace) → Level (joined_rows lefts rights key places)
unfolding joined_rows
joined_level lefts rights key places = (
  length places,
  join_long (length places) (map (λ column. by_left column places) lefts) (map (λ column. by_right column places) (remove rights key))
      (each_long (λ column. by_left column places) (length places) (λ column. left_long column places) lefts)
      (each_long (λ column. by_right column places) (length places) (λ column. right_long column places) (remove rights key)),
)

joined_many : (lefts rights : List (List ℤ)) (key : ℕ) (places : List RowPlace) → key < length rights → length (joined_rows lefts rights key places) + 1 ≡ length lefts + length rights
unfolding joined_rows
joined_many lefts rights key places lt =
    let left : List ℤ → List ℤ = λ column. by_left column places in
    let right : List ℤ → List ℤ = λ column. by_right column places in
    omega (arith, length-append (map left lefts) (map right (remove rights key)), length-map lefts left, length-map (remove rights key) right, length-remove rights key lt)

-- one out for each column of a join
joined_outs : (e : Env) (os lefts rights : List ℕ) (key : ℕ) → length os + 1 ≡ length lefts + length rights → key < length rights → (places : List RowPlace) → length os ≡ length (joined_rows (lists_at e lefts) (lists_at e rights) key places)
joined_outs e os lefts rights key one_fewer below places =
    let inside : key < length (lists_at e rights) = omega (arith, as_many e rights) in
    omega (arith, as_many e lefts, as_many e rights, joined_many (lists_at e lefts) (lists_at e rights) key places inside)

grouped_level : (columns : List (List ℤ)) (key : ℕ) (measures : List Measure) (places : List RowPlace) → Level (grouped_rows columns key measures places)
unfolding grouped_rows
grouped_level columns key measures places =
    (length places, (left_long (column_at key columns) places, each_long (λ m. measure_cells m (column_at key columns) columns places) (length places) (measure_long (column_at key columns) columns places) measures))

grouped_many : (columns : List (List ℤ)) (key : ℕ) (measures : List Measure) (places : List RowPlace) → length measures + 1 ≡ length (grouped_rows columns key measures places)
unfolding grouped_rows
grouped_many columns key measures places = omega (arith, length-map measures (λ m. measure_cells m (column_at key columns) columns places))

join_keeps : (slots : List Slot) (os : List ℕ) (e : Env) (pairs : Result (List RowPlace) Trap) (order : List RowPlace → Taken) (rows : List RowPlace → List (List ℤ)) → IsClosed slots os
    → ((places : List RowPlace) → length os ≡ length (rows places)) → ((places : List RowPlace) → Level (rows places)) → IsEven slots e → Gives (IsEven slots) (and_then pairs (λ places. in_order os e (order places) rows))
join_keeps slots os e (Ok places) order rows closed even level before = order_keeps slots os e (order places) rows closed even level before
join_keeps slots os e (Err t) order rows closed even level before = tt

copy_keeps : (slots : List Slot) (os ins : List ℕ) (e : Env) → IsClosed slots os → length os ≡ length ins → IsTrue (is_side slots ins) → IsEven slots e → AreEven slots (with_slots os (map e.slots ins) e).slots
copy_keeps slots os ins e closed even side before =
    let long : (n : ℕ) × AreOf n (map e.slots ins) = side_even slots ins e.slots side before in
    stays_even slots os (map e.slots ins) long.0 e.slots closed (even ∙ sym (length-map ins e.slots)) long.1 before

-- an operation that keeps its laws, over tables that serve it
op_keeps : (slots : List Slot) (tables : List Table) (orders : List Order) (at : Place) (op : What) (e : Env) → IsClosed slots (values (arrays_of op)) → IsTrue (list_all (is_side slots) (frame_sides (arrays_of op))) → IsTrue (has_lists op)
    → IsTrue (has_copy slots (arrays_of op)) → IsTrue (serves tables op) → IsEven slots e → Gives (IsEven slots) (does tables orders at op e)
unfolding does arrays_of outs has_lists
op_keeps slots tables orders at (what.Const to value) e closed sides full copy served even = even
op_keeps slots tables orders at (what.Calc to op left right) e closed sides full copy served even = word_keeps slots to e _ even
op_keeps slots tables orders at (what.Length to array) e closed sides full copy served even = even
op_keeps slots tables orders at (what.Fill out value count) e closed sides full copy served even = array_keeps slots out e _ closed even
op_keeps slots tables orders at (what.Range out first last) e closed sides full copy served even = array_keeps slots out e _ closed even
op_keeps slots tables orders at (what.Read os table) e closed sides full copy served even = read_keeps slots os e (slice_get tables table) closed served even
op_keeps slots tables orders at (what.Copy os ins) e closed sides full copy served even = copy_keeps slots os ins e closed (even_of os ins full) (first_holds _ _ sides) even
op_keeps slots tables orders at (what.Map out ins elem) e closed sides full copy served even = array_keeps slots out e _ closed even
op_keeps slots tables orders at (what.Reduce to kind array elem) e closed sides full copy served even = word_keeps slots to e _ even
op_keeps slots tables orders at (what.Scan out array) e closed sides full copy served even = array_keeps slots out e (Ok _) closed even
op_keeps slots tables orders at (what.Stencil out array balanced reach elem) e closed sides full copy served even =
    array_keeps slots out (with_slots (balanced ∷ []) (e.slots array ∷ []) e) _ closed
    (stays_even slots (balanced ∷ []) (e.slots array ∷ []) (length (cells (e.slots array))) e.slots (copy_closed slots balanced (first_holds _ _ (first_holds _ _ copy))) refl (refl, tt) even)
op_keeps slots tables orders at (what.Filter os ins mask) e closed sides full copy served even =
    filter_keeps slots os ins (cells (e.slots mask)) at e closed (even_of os ins full) (first_holds _ _ sides) even
op_keeps slots tables orders at (what.Join os lefts left_key rights right_key) e closed sides full copy served even =
    join_keeps slots os e _ _ (joined_rows (lists_at e lefts) (lists_at e rights) right_key) closed
    (joined_outs e os lefts rights right_key (eqb-true _ _ (first_holds _ _ (first_holds _ _ full))) (ltb-true _ _ (second_holds _ _ full))) (joined_level (lists_at e lefts) (lists_at e rights) right_key) even
op_keeps slots tables orders at (what.Group os ins key measures) e closed sides full copy served even =
    let one_more : length os ≡ length measures + 1 = eqb-true _ _ (second_holds _ _ (first_holds _ _ (first_holds _ _ full))) in
    order_keeps slots os e _ (grouped_rows (lists_at e ins) key measures) closed (λ places. one_more ∙ grouped_many (lists_at e ins) key measures places) (grouped_level (lists_at e ins) key measures) even
op_keeps slots tables orders at (what.Concat out left right) e closed sides full copy served even = array_keeps slots out e _ closed even
op_keeps slots tables orders at (what.Sort os ins key) e closed sides full copy served even = sort_keeps slots os ins key e closed (even_of os ins (first_holds _ _ full)) even
op_keeps slots tables orders at (what.At to array index) e closed sides full copy served even = word_keeps slots to e _ even
op_keeps slots tables orders at (what.Pick out array index) e closed sides full copy served even = array_keeps slots out e _ closed even
op_keeps slots tables orders at (what.Frame os ins) e closed sides full copy served even = frame_keeps slots os ins at e closed (even_of os ins full) even
op_keeps slots tables orders at (what.Stack out ins) e closed sides full copy served even = matrix_keeps slots out e _ closed even
op_keeps slots tables orders at (what.Row out matrix index) e closed sides full copy served even = array_keeps slots out e _ closed even
op_keeps slots tables orders at (what.Product out left right) e closed sides full copy served even = matrix_keeps slots out e _ closed even
op_keeps slots tables orders at (what.ProductT out left right) e closed sides full copy served even = matrix_keeps slots out e _ closed even
op_keeps slots tables orders at (what.PrintWord word truth) e closed sides full copy served even = even
op_keeps slots tables orders at (what.PrintList array truth) e closed sides full copy served even = even
op_keeps slots tables orders at (what.Export arrays names) e closed sides full copy served even = even

-- ---- programs

kept_keeps : (slots : List Slot) (words : ℕ) (tables : List Table) (orders : List Order) (op : Op) (e : Env) → IsTrue (list_all stands_for_one slots) → IsTrue (is_kept slots words op.what) → IsTrue (serves tables op.what)
    → IsEven slots e → Gives (IsEven slots) (does tables orders op.at op.what e)
kept_keeps slots words tables orders op e standing kept served even =
    let with_copy : _ = first_holds _ _ kept in
    let with_frames : _ = first_holds _ _ with_copy in
    let frames : IsTrue (has_frames slots (arrays_of op.what)) = second_holds _ _ with_frames in
    let full : IsTrue (has_lists op.what) = second_holds _ _ (first_holds _ _ (first_holds _ _ with_frames)) in
    op_keeps slots tables orders op.at op.what e (frame_is_closed slots standing (values (arrays_of op.what)) (first_holds _ _ frames)) (second_holds _ _ frames) full (second_holds _ _ with_copy) served even

both_hold : (a b : Bool) → IsTrue a → IsTrue b → IsTrue (a && b)
both_hold true b p q = q
both_hold false b p q = absurd cc

both_tests : {X : Type 0} (f g : X → Bool) (xs : List X) → IsTrue (list_all f xs) → IsTrue (list_all g xs) → IsTrue (list_all (λ x. f x && g x) xs)
both_tests f g [] p q = refl
both_tests f g (x ∷ xs) p q =
    both_hold (f x && g x) (list_all (λ y. f y && g y) xs) (both_hold (f x) (g x) (first_holds (f x) (list_all f xs) p) (first_holds (g x) (list_all g xs) q))
    (both_tests f g xs (second_holds (f x) (list_all f xs) p) (second_holds (g x) (list_all g xs) q))

ends_level : (slots : List Slot) (ran : Ran Env ℕ) → EndsIn (IsEven slots) ran → EndsWith (AreLevel slots) ran
ends_level slots ran (keeping.went {s = s} even) = first_even slots s.env.slots even (numbers_of slots)
ends_level slots ran (keeping.trapped {s = s} even) = first_even slots s.env.slots even (numbers_of slots)
ends_level slots ran (keeping.spent {s = s} even) = first_even slots s.env.slots even (numbers_of slots)

pub level_frames : (slots : List Slot) (words : ℕ) (p : Prog Op) (tables : List Table) (orders : List Order) (fuel : ℕ) → IsTrue (are_slots slots) → IsTrue (are_kept slots words p) → Serves p tables
    → EndsWith (AreLevel slots) (mean slots p tables orders fuel)
unfolding mean
level_frames slots words p tables orders fuel are kept served =
    let test : Op → Bool = λ op. is_kept slots words op.what && serves tables op.what in
    let pass : IsTrue (list_all test (operations p)) = both_tests (λ (op : Op). is_kept slots words op.what) (λ (op : Op). serves tables op.what) (operations p) (first_holds _ _ kept) served in
    ends_level slots _
    (run_keeps (IsEven slots) (doing slots tables orders) test (λ op h e even. kept_keeps slots words tables orders op e (first_holds _ _ are) (first_holds _ _ h) (second_holds _ _ h) even) p pass (start unset fuel) (λ j k one. refl))
