-- Joins and aggregates make columns of at most as many cells as an array may have, in any order.
use Rattle.std.proofs.Common.{◌≡◌, ℕ, suc, ◌+◌, ◌≤◌, nat_le, ℤ, Bool, true, false, cond, List, [], ◌∷◌, ◌++◌, map, length, Ok, Err, refl, arith}
use Rattle.std.proofs.lemmas.List.{length-map}
use Rattle.hp_word.specs.declared.order.Order.{Order}
use Rattle.hp_word.specs.declared.order.RowPlace.{RowPlace}
use Rattle.hp_word.specs.declared.place.Place.{Place}
use Rattle.hp_word.specs.declared.place.TrapKind.TheVariants.{TooLong}
use Rattle.hp_word.specs.declared.table.MeasureKind.{MeasureKind}
use Rattle.hp_word.specs.Lengths.{trap, longest}
use Rattle.hp_word.specs.RowRules.{row_place, pairs, join_pairs, has, firsts_from, groups, by_left, by_right, measures_by_left, order_taken}
use Rattle.hp_script.proofs.TestLemmas.{true_le}
use Rattle.hp_meaning.specs.declared.seen.Met.{Met}
use Rattle.hp_meaning.specs.declared.seen.Seen.{Seen}
use Rattle.hp_meaning.specs.declared.value.Column.{Column}
use Rattle.hp_meaning.specs.declared.value.Value.{Value}
use Rattle.hp_meaning.specs.declared.value.Value.TheVariants.{Word, List as Listed, Matrix, Frame}
use Rattle.hp_meaning.specs.FrameRules.{column, cells_of, is_named, column_of, without, changed, field_value, framed, named_columns, tabled, filtered, picked, sorted_frame, sorted_value, joined_rows, joined_keys, joined, Measured, cells_for, measure_column, grouped_rows, grouped_keys, grouped}
use Rattle.hp_meaning.specs.FrameRules as frames
use Rattle.hp_meaning.specs.Operands.{as_frame}
use Rattle.hp_meaning.specs.Outcomes.{told, all_of, Course, Is, Stops, Wrong, followed, ended, meeting}
use Rattle.hp_meaning.specs.ValueOf.{Supply, join_in, group_in}
use Rattle.hp_flat.proofs.OrderLengths.{order_few}
use Rattle.hp_flat.proofs.ShortColumns.{column_short}
use Rattle.hp_flat.proofs.ShortLists.{also_only, given_only, as_many, no_more, needed_only, ended_only}
use Rattle.hp_flat.proofs.ShortScopes.{AreShortColumns, IsShort, OnlyGives, gives_such, Only, is_such, stops_so, wrong_so}

-- each column changed into one that is short
changed_to : (change : List ℤ → List ℤ) (columns : List Column) → ((cells : List ℤ) → length (change cells) ≤ longest) → AreShortColumns (changed change columns)
changed_to change [] short = tt
changed_to change (c ∷ columns) short = (short c.cells, changed_to change columns short)

both_short : (left right : List Column) → AreShortColumns left → AreShortColumns right → AreShortColumns (left ++ right)
both_short [] right first second = second
both_short (c ∷ left) right first second = (first.0, both_short left right first.1 second)

-- ---- joins and aggregates

met_only : (P : Value → Type 0) (o : Course Met Value) (n : Seen) → Only P o → Only P (meeting o n)
met_only P (Is a m) n (is_such p) = is_such p
met_only P (Stops t m) n stops_so = stops_so
met_only P Wrong n wrong_so = wrong_so

as_placed : (cells : List ℤ) (places : List RowPlace) → length (by_left cells places) ≡ length places
unfolding by_left
as_placed cells places = length-map places _

as_right : (cells : List ℤ) (places : List RowPlace) → length (by_right cells places) ≡ length places
unfolding by_right
as_right cells places = length-map places _

rows_joined : (key : List ℕ) (left right : List Column) (places : List RowPlace) → length places ≤ longest → AreShortColumns (joined_rows key left right places)
unfolding joined_rows
rows_joined key left right places few =
    both_short (changed (λ cells. by_left cells places) left) (changed (λ cells. by_right cells places) (without key right))
    (changed_to (λ cells. by_left cells places) left (λ cells. as_many (length (by_left cells places)) (length places) longest (as_placed cells places) few))
    (changed_to (λ cells. by_right cells places) (without key right) (λ cells. as_many (length (by_right cells places)) (length places) longest (as_right cells places) few))

pairs_short : (orders : List Order) (at : Place) (key : List ℕ) (left right : List Column) (plain : List RowPlace) (n : Met) (b : Bool) → nat_le (length plain) longest ≡ b
    → Only IsShort (followed (ended (told (cond b (Ok plain) (Err (trap at TooLong)))) n) (λ plain n. frames.in_order (order_taken (n.executed + 1) orders plain) (joined_rows key left right) n))
pairs_short orders at key left right plain n true fits =
    is_such (rows_joined key left right (order_taken (n.executed + 1) orders plain).places
    (no_more (length (order_taken (n.executed + 1) orders plain).places) (length plain) longest (order_few (n.executed + 1) orders plain) (true_le (length plain) longest fits)))
pairs_short orders at key left right plain n false fits = stops_so

keys_short : (orders : List Order) (at : Place) (key : List ℕ) (left right : List Column) (left_keys right_keys : List ℤ) (n : Met) → Only IsShort (joined_keys orders at key left right left_keys right_keys n)
unfolding joined_keys join_pairs
keys_short orders at key left right left_keys right_keys n = pairs_short orders at key left right (pairs left_keys right_keys) n (nat_le (length (pairs left_keys right_keys)) longest) refl

pub join_short : (g : Supply) (at : Place) (key : List ℕ) (a b : Value) (n : Seen) → Only IsShort (join_in g at key a b n)
unfolding joined
join_short g at key a b n =
    met_only IsShort (joined g.orders at key a b n.met) n
    (needed_only {Q = IsShort} (as_frame a) _ (λ left first. needed_only {Q = IsShort} (as_frame b) _ (λ right second.
    needed_only {Q = IsShort} (column_of key left) _ (λ left_keys third. needed_only {Q = IsShort} (column_of key right) _ (λ right_keys fourth. keys_short g.orders at key left right left_keys right_keys n.met)))))

groups_step : (b : Bool) (i : ℕ) (these others : List ℕ) (xs : List ℤ) → length these ≤ length xs → length others ≤ length xs → length (cond b these (i ∷ others)) ≤ suc (length xs)
groups_step true i these others xs first second = omega (arith, first)
groups_step false i these others xs first second = omega (arith, second)

firsts_few : (i : ℕ) (before xs : List ℤ) → length (firsts_from i before xs) ≤ length xs
unfolding firsts_from
firsts_few i before [] = omega arith
firsts_few i before (x ∷ xs) =
    groups_step (has before x) i (firsts_from (i + 1) before xs) (firsts_from (i + 1) (before ++ x ∷ []) xs) xs (firsts_few (i + 1) before xs) (firsts_few (i + 1) (before ++ x ∷ []) xs)

groups_few : (keys : List ℤ) → length (groups keys) ≤ length keys
groups_few keys = omega (arith, length-map (firsts_from 1 [] keys) (λ (first : ℕ). row_place first 0), firsts_few 1 [] keys)

as_measured : (kind : MeasureKind) (keys cells : List ℤ) (places : List RowPlace) → length (measures_by_left kind keys cells places) ≡ length places
unfolding measures_by_left
as_measured kind keys cells places = length-map places _

measure_short : (columns : List Column) (keys : List ℤ) (places : List RowPlace) (m : Measured) → length places ≤ longest → OnlyGives (λ (c : Column). length c.cells ≤ longest) (measure_column columns keys places m)
unfolding measure_column
measure_short columns keys places m few =
    given_only (cells_for m.kind m.of_it columns keys) _ (λ cells found. gives_such (as_many (length (measures_by_left m.kind keys cells places)) (length places) longest (as_measured m.kind keys cells places) few))

measures_short : (columns : List Column) (keys : List ℤ) (places : List RowPlace) (ms : List Measured) → length places ≤ longest → OnlyGives AreShortColumns (all_of (map (measure_column columns keys places) ms))
unfolding all_of
measures_short columns keys places [] few = gives_such tt
measures_short columns keys places (m ∷ ms) few =
    also_only {P = λ (c : Column). length c.cells ≤ longest} _ (measure_short columns keys places m few) (λ c short. also_only {P = AreShortColumns} _ (measures_short columns keys places ms few) (λ made shorts. gives_such (short, shorts)))

rows_grouped : (key : List ℕ) (columns : List Column) (keys : List ℤ) (ms : List Measured) (places : List RowPlace) → length places ≤ longest → OnlyGives IsShort (grouped_rows key columns keys ms places)
unfolding grouped_rows
rows_grouped key columns keys ms places few =
    also_only {P = AreShortColumns} _ (measures_short columns keys places ms few) (λ made shorts. gives_such (as_many (length (by_left keys places)) (length places) longest (as_placed keys places) few, shorts))

groups_short : (orders : List Order) (key : List ℕ) (columns : List Column) (ms : List Measured) (keys : List ℤ) (n : Met) → length keys ≤ longest → Only IsShort (grouped_keys orders key columns ms keys n)
unfolding grouped_keys
groups_short orders key columns ms keys n few =
    let order = order_taken (n.executed + 1) orders (groups keys) in
    let fewer = order_few (n.executed + 1) orders (groups keys) in
    let some = groups_few keys in
    ended_only (frames.executed order.is_bad n)
    (rows_grouped key columns keys ms order.places (no_more (length order.places) (length keys) longest (omega (arith, fewer, some)) few))

pub group_short : (g : Supply) (key : List ℕ) (measures : List Measured) (a : Value) (n : Seen) → IsShort a → Only IsShort (group_in g key measures a n)
unfolding grouped
group_short g key measures (Frame columns) n short =
    met_only IsShort (grouped g.orders key measures (Frame columns) n.met) n
    (needed_only {Q = IsShort} (column_of key columns) _ (λ keys found. groups_short g.orders key columns measures keys n.met (column_short key columns keys short found)))
group_short g key measures (Word kind x) n short = wrong_so
group_short g key measures (Listed kind xs) n short = wrong_so
group_short g key measures (Matrix m) n short = wrong_so
