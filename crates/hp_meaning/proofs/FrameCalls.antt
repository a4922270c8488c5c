-- Calls of functions of frames and of several arrays are safe where their arguments are.
use Rattle.std.proofs.Common.{◌≡◌, ℕ, suc, ℤ, Bool, true, false, List, [], ◌∷◌, ◌++◌, map, length, Option, Some, None, option_map, option_and_then, refl, sym, ap, subst, ◌∙◌, append_assoc, append-nil, arith}
use Rattle.std.specs.List.{list_all}
use Rattle.hp_word.specs.declared.name.Name.{Name}
use Rattle.hp_word.specs.declared.place.Place.{Place}
use Rattle.hp_word.specs.declared.table.MeasureKind.{MeasureKind}
use Rattle.hp_script.specs.declared.argument.Argument.{Argument}
use Rattle.hp_script.specs.declared.argument.Argument.TheVariants as argument
use Rattle.hp_script.specs.declared.function.Function.TheVariants as function
use Rattle.hp_script.specs.declared.typed.Shape.{Shape}
use Rattle.hp_script.specs.declared.typed.Shape.TheVariants as shape
use Rattle.hp_script.specs.Mirror.{Head, Tree}
use Rattle.hp_script.specs.Mirror as trees
use Rattle.hp_script.specs.Results.{some_if, are_arrays, given_names, column_names, measure_names, read_result, two_values, filter_result, join_result, aggregate_result, sort_result}
use Rattle.hp_script.specs.Results as results
use Rattle.hp_script.specs.Scope.{Scope, has_column, with_columns}
use Rattle.hp_script.specs.Trees.{named}
use Rattle.hp_script.specs.Typing.{a_column, a_measure, wanted, columns_for_mask, inside}
use Rattle.hp_meaning.specs.declared.seen.Met.{Met}
use Rattle.hp_meaning.specs.declared.seen.Seen.{Seen}
use Rattle.hp_meaning.specs.declared.value.Column.{Column}
use Rattle.hp_meaning.specs.declared.value.Value.{Value}
use Rattle.hp_meaning.specs.declared.value.Value.TheVariants.{Frame}
use Rattle.hp_meaning.specs.Fitting.{names_of, HasShape, a_frame, numbers}
use Rattle.hp_meaning.specs.FrameRules.{column, Measured, framed, filtered, sorted_value, joined, grouped}
use Rattle.hp_meaning.specs.MatrixRules.{stacked}
use Rattle.hp_meaning.specs.Operands.{as_numbers}
use Rattle.hp_meaning.specs.Outcomes.{Is, followed, needed, ended}
use Rattle.hp_meaning.specs.Scopes as values
use Rattle.hp_meaning.specs.ValueOf.{Supply, Meaning, Part, Plain, Named, is_text, rows_among, columns_among, as_written, names_in, measures_in, table_read, filtered_by, filter_call, join_call, grouped_by, aggregate_call, sort_call}
use Rattle.hp_meaning.proofs.Fine.{Right, Fine, is, followed_fine, ended_fine, RightAs, right_of, meeting_fine}
use Rattle.hp_meaning.proofs.FineFrames.{framed_right, tabled_right, filter_as, joined_fine, sort_right, Measures, none, of_column, AllMeasure, grouped_fine}
use Rattle.hp_meaning.proofs.FineLists.{stack_right}
use Rattle.hp_meaning.proofs.Parts.{finds, Found, KnownMeasure, counts, measures, MeasuresBy, a_value, a_text, a_name, a_gift, a_measured, Agree, end, more}
use Rattle.hp_meaning.proofs.Safe.{Fit, within, Safe, SafeAs, safe, untyped}
use Rattle.hp_script.proofs.TestLemmas.{and_left, and_right}

-- ---- rows

-- the arguments are arrays of numbers, if they are
data RowsAs (s : Scope) : Bool → List Part → Type 0 where
  are_rows : {parts : List Part} → ((v : values.Scope) (n : Seen) → Fit s v → Fine (List (List ℤ)) (λ found. length found ≡ length parts) (rows_among parts v n)) → RowsAs s true parts
  no_rows : {parts : List Part} → RowsAs s false parts

abbrev RowsFine : List Part → values.Scope → Type 0
RowsFine parts v = (n : Seen) → Fine (List (List ℤ)) (λ found. length found ≡ length parts) (rows_among parts v n)

one_row : {a : Value} (parts : List Part) (v : values.Scope) (n : Seen) → HasShape shape.Ints a → RowsFine parts v
    → Fine (List (List ℤ)) (λ found. length found ≡ suc (length parts)) (needed (as_numbers a) (λ xs. followed (rows_among parts v n) (λ xss. Is (xs ∷ xss))))
one_row parts v n (numbers xs) next = followed_fine _ (next n) (λ xss n e. is (ap suc e))

row_fine : {s : Scope} {m : Meaning} (parts : List Part) (x : Tree) (v : values.Scope) → Safe s shape.Ints m → Fit s v → RowsFine parts v → RowsFine (Plain x m ∷ parts) v
unfolding rows_among
row_fine parts x v first fit next n = followed_fine _ (first.fine v n fit) (λ a n h. one_row parts v n h next)

row_next : {s : Scope} {m : Meaning} {parts : List Part} {all : Bool} (x : Tree) → Safe s shape.Ints m → RowsAs s all parts → RowsAs s all (Plain x m ∷ parts)
row_next x h (are_rows {parts = parts} each) = are_rows (λ v n fit. row_fine parts x v h fit (λ n. each v n fit) n)
row_next x h no_rows = no_rows

rows_agree : {s : Scope} {before later : List Argument} {parts : List Part} → Agree s function.Stack before later parts → RowsAs s (are_arrays later) parts
unfolding inside rows_among
rows_agree end = are_rows (λ v n fit. is refl)
rows_agree (more (a_value {kind = shape.Ints} {x = x} h) rest) = row_next x h (rows_agree rest)
rows_agree (more _ rest) = no_rows

stacked_fine : (at : Place) (count : ℕ) (n : Seen) (found : List (List ℤ)) → length found ≡ suc count → Fine Value (HasShape shape.Matrix) (ended (stacked at found) n)
stacked_fine at count n [] e = absurd (omega arith)
stacked_fine at count n (row ∷ more_rows) e = ended_fine n (stack_right at row more_rows)

stack_as : {s : Scope} {all : Bool} {parts : List Part} (at : Place) (part : Part) → RowsAs s all (part ∷ parts) → SafeAs s (some_if all shape.Matrix) (λ v n. followed (rows_among (part ∷ parts) v n) (λ rows. ended (stacked at rows)))
stack_as {parts = parts} at part (are_rows each) = safe (record { fine = λ v n fit. followed_fine _ (each v n fit) (λ found n e. stacked_fine at (length parts) n found e) })
stack_as at part no_rows = untyped

pub stack_safe : {s : Scope} {later : List Argument} {part : Part} {parts : List Part} (at : Place) → Agree s function.Stack [] later (part ∷ parts)
    → SafeAs s (some_if (are_arrays later) shape.Matrix) (λ v n. followed (rows_among (part ∷ parts) v n) (λ rows. ended (stacked at rows)))
stack_safe {part = part} at agree = stack_as at part (rows_agree agree)

-- ---- columns that are given

abbrev ColumnsFine : List Part → List Name → values.Scope → Type 0
ColumnsFine parts names v = (n : Seen) → Fine (List Column) (λ columns. names_of columns ≡ names) (columns_among parts v n)

data GivenAs (s : Scope) : Option (List Name) → List Part → Type 0 where
  are_given : {parts : List Part} (names : List Name) → length names ≡ length parts → ((v : values.Scope) (n : Seen) → Fit s v → Fine (List Column) (λ columns. names_of columns ≡ names) (columns_among parts v n)) → GivenAs s (Some names) parts
  not_given : {parts : List Part} → GivenAs s None parts

one_column : {a : Value} (parts : List Part) (names : List Name) (name : List ℕ) (v : values.Scope) (n : Seen) → HasShape shape.Ints a → ColumnsFine parts names v
    → Fine (List Column) (λ columns. names_of columns ≡ named name ∷ names) (needed (as_numbers a) (λ xs. followed (columns_among parts v n) (λ columns. Is (column name xs ∷ columns))))
one_column parts names name v n (numbers xs) next = followed_fine _ (next n) (λ columns n e. is (ap (λ names. named name ∷ names) e))

column_fine : {s : Scope} {m : Meaning} (parts : List Part) (names : List Name) (name : List ℕ) (x : Tree) (v : values.Scope) → Safe s shape.Ints m → Fit s v
    → ColumnsFine parts names v → ColumnsFine (Named name x m ∷ parts) (named name ∷ names) v
unfolding columns_among
column_fine parts names name x v first fit next n = followed_fine _ (first.fine v n fit) (λ a n h. one_column parts names name v n h next)

column_next : {s : Scope} {m : Meaning} {parts : List Part} {found : Option (List Name)} (name : List ℕ) (x : Tree) → Safe s shape.Ints m → GivenAs s found parts
    → GivenAs s (option_map (λ names. named name ∷ names) found) (Named name x m ∷ parts)
column_next name x h (are_given {parts = parts} names many each) = are_given (named name ∷ names) (ap suc many) (λ v n fit. column_fine parts names name x v h fit (λ n. each v n fit) n)
column_next name x h not_given = not_given

given_agree : {s : Scope} {before later : List Argument} {parts : List Part} → Agree s function.DataFrame before later parts → GivenAs s (given_names later) parts
unfolding columns_among
given_agree end = are_given [] refl (λ v n fit. is refl)
given_agree (more (a_gift {name = name} {kind = shape.Ints} {x = x} h) rest) = column_next name x h (given_agree rest)
given_agree (more _ rest) = not_given

framed_fine : {names : List Name} (at : Place) (name : Name) (n : Seen) (columns : List Column) → names_of columns ≡ name ∷ names → Fine Value (HasShape (shape.Frame (name ∷ names))) (ended (framed at columns) n)
framed_fine at name n [] e = absurd cc
framed_fine at name n (c ∷ columns) e = ended_fine n (subst (λ names. Right Value (HasShape (shape.Frame names)) (framed at (c ∷ columns))) e (framed_right at c columns))

-- one or more columns
frame_as : {s : Scope} {found : Option (List Name)} {parts : List Part} (at : Place) (part : Part) → GivenAs s found (part ∷ parts)
    → SafeAs s (option_map shape.Frame found) (λ v n. followed (columns_among (part ∷ parts) v n) (λ columns. ended (framed at columns)))
frame_as at part (are_given [] many each) = absurd (omega arith)
frame_as at part (are_given (name ∷ names) many each) = safe (record { fine = λ v n fit. followed_fine _ (each v n fit) (λ columns n e. framed_fine at name n columns e) })
frame_as at part not_given = untyped

pub frame_safe : {s : Scope} {later : List Argument} {part : Part} {parts : List Part} (at : Place) → Agree s function.DataFrame [] later (part ∷ parts)
    → SafeAs s (option_map shape.Frame (given_names later)) (λ v n. followed (columns_among (part ∷ parts) v n) (λ columns. ended (framed at columns)))
frame_safe {part = part} at agree = frame_as at part (given_agree agree)

-- ---- tables

-- the names of columns among parts
abbrev pub part_columns : List Part → List Name
part_columns [] = []
part_columns (Plain (trees.column h c) m ∷ parts) = named c ∷ part_columns parts
part_columns (_ ∷ parts) = part_columns parts

data NamesAs : Option (List Name) → List Part → Type 0 where
  are_names : {parts : List Part} (found : List (List ℕ)) → names_in (map as_written parts) ≡ Some found → length (part_columns parts) ≡ length found → NamesAs (Some (map named found)) parts
  no_names : {parts : List Part} → NamesAs None parts

names_more : (h : Head) (c : List ℕ) (m : Meaning) (parts : List Part) (found : List (List ℕ)) → names_in (map as_written parts) ≡ Some found → names_in (map as_written (Plain (trees.column h c) m ∷ parts)) ≡ Some (c ∷ found)
unfolding names_in
names_more h c m parts found e = ap (option_map (λ names. c ∷ names)) e

name_next : {m : Meaning} {parts : List Part} {found : Option (List Name)} (h : Head) (c : List ℕ) → NamesAs found parts → NamesAs (option_map (λ names. named c ∷ names) found) (Plain (trees.column h c) m ∷ parts)
name_next {m = m} h c (are_names {parts = parts} found all many) = are_names (c ∷ found) (names_more h c m parts found all) (ap suc many)
name_next h c no_names = no_names

names_agree : {s : Scope} {before later : List Argument} {parts : List Part} → Agree s function.ReadCsv before later parts → NamesAs (column_names later) parts
unfolding names_in
names_agree end = are_names [] refl refl
names_agree (more (a_name {h = h} {c = c} frames meant known) rest) = name_next h c (names_agree rest)
names_agree (more _ rest) = no_names

-- a table that is there, by one or more columns
read_as : {s : Scope} {found : Option (List Name)} {parts : List Part} (g : Supply) (id : ℕ) (x : Tree) (m : Meaning) (y : Part) → is_text x ≡ true → Found (finds g) id (length (part_columns (y ∷ parts))) → NamesAs found (y ∷ parts)
    → SafeAs s (option_map shape.Frame found) (λ v n. table_read g id (Plain x m ∷ y ∷ parts) n)
unfolding table_read
read_as g id x m y text there no_names = untyped
read_as g id x m y text there (are_names found all many) =
    safe (record { fine = λ v n fit. rw (text, all, there.found) (ended_fine n (tabled_right found there.table (sym many ∙ sym there.wide))) })

pub read_safe : {s : Scope} {later : List Argument} {x y : Part} {parts : List Part} (g : Supply) (id : ℕ) → Agree s function.ReadCsv [] later (x ∷ y ∷ parts) → Found (finds g) id (length (part_columns (y ∷ parts)))
    → SafeAs s (read_result later) (λ v n. table_read g id (x ∷ y ∷ parts) n)
read_safe {y = y} g id (more (a_text {x = x} {m = m} t) rest) there = read_as g id x m y t there (names_agree rest)
read_safe g id (more _ rest) there = untyped

-- ---- filters

filtered_fine : {s : Scope} {names : List Name} {kind made : Shape} {mask : Meaning} {a : Value} (at : Place) (v : values.Scope) (n : Seen) → filter_result (shape.Frame names) kind ≡ Some made → Safe (with_columns s (Some names)) kind mask → Fit s v
    → HasShape (shape.Frame names) a → Fine Value (HasShape made) (filtered_by at a mask v n)
filtered_fine at v n e y fit (a_frame names columns is_so) =
    followed_fine _ (y.fine (values.within columns v) n (record { keeps = record { known = fit.keeps.known }; surrounds = within is_so }))
    (λ b n h. ended_fine n (right_of (subst (λ found. RightAs found (filtered at columns b)) e (filter_as at names columns is_so h))))

filter_made : {s : Scope} {m mask : Meaning} (at : Place) (names : List Name) (kind : Shape) (found : Option Shape) → filter_result (shape.Frame names) kind ≡ found → Safe s (shape.Frame names) m → Safe (with_columns s (Some names)) kind mask
    → SafeAs s found (λ v n. followed (m v n) (λ a. filtered_by at a mask v))
filter_made at names kind None e x y = untyped
filter_made at names kind (Some made) e x y = safe (record { fine = λ v n fit. followed_fine _ (x.fine v n fit) (λ a n h. filtered_fine at v n e y fit h) })

filter_of : {s : Scope} {m mask : Meaning} (at : Place) (ka kb : Shape) → Safe s ka m → Safe (with_columns s (columns_for_mask (argument.Value ka ∷ []))) kb mask → SafeAs s (filter_result ka kb) (λ v n. followed (m v n) (λ a. filtered_by at a mask v))
filter_of at (shape.Frame names) kb x y = filter_made at names kb (filter_result (shape.Frame names) kb) refl x y
filter_of at _ kb x y = untyped

pub filter_safe : {s : Scope} {later : List Argument} {parts : List Part} (at : Place) → Agree s function.Filter [] later parts → SafeAs s (two_values filter_result later) (λ v n. filter_call at parts v n)
unfolding filter_call inside
filter_safe at (more (a_value {kind = ka} x) (more (a_value {kind = kb} y) end)) = filter_of at ka kb x y
filter_safe at _ = untyped

-- ---- joins

-- the frames that a column is of
frames_are : {xs ys : List (List Name)} → a_column xs ≡ a_column ys → xs ≡ ys
frames_are e = cc

joined_frames : {a b : Value} {left right : List Name} (g : Supply) (at : Place) (key : List ℕ) (n : Met) → has_column key left ≡ true → has_column key right ≡ true → HasShape (shape.Frame left) a → HasShape (shape.Frame right) b
    → Fine Value (HasShape (shape.Frame (left ++ results.without (named key) right))) (joined g.orders at key a b n)
joined_frames g at key n h k (a_frame left xs e) (a_frame right ys d) =
    subst (λ l. has_column key l ≡ true → Fine Value (HasShape (shape.Frame (l ++ results.without (named key) right))) (joined g.orders at key (Frame xs) (Frame ys) n)) e
    (λ h. subst (λ r. has_column key r ≡ true → Fine Value (HasShape (shape.Frame (names_of xs ++ results.without (named key) r))) (joined g.orders at key (Frame xs) (Frame ys) n)) d
    (λ k. joined_fine g.orders at key xs ys n h k) k) h

pub join_safe : {s : Scope} {later : List Argument} {parts : List Part} (g : Supply) (at : Place) → Agree s function.Join [] later parts → SafeAs s (join_result later) (λ v n. join_call g at parts v n)
unfolding join_call inside wanted
join_safe g at (more (a_value {kind = shape.Frame left} x) (more (a_value {kind = shape.Frame right} y) (more (a_name {c = key} frames meant known) end))) =
    let all : list_all (has_column key) (left ∷ right ∷ []) ≡ true = ap (list_all (has_column key)) (frames_are meant) ∙ known in
    safe (record {
      fine = λ v n fit. followed_fine _ (x.fine v n fit) (λ a n h. followed_fine _ (y.fine v n fit) (λ b n k.
          meeting_fine n (joined_frames g at key n.met (and_left (has_column key left) _ all) (and_left (has_column key right) _ (and_right (has_column key left) _ all)) h k)));
    })
join_safe g at _ = untyped

-- ---- sorting

sorted_fine : {names : List Name} {a : Value} (key : List ℕ) (n : Seen) → has_column key names ≡ true → HasShape (shape.Frame names) a → Fine Value (HasShape (shape.Frame names)) (ended (sorted_value key a) n)
sorted_fine key n h (a_frame names columns e) = ended_fine n (sort_right key names columns e h)

pub sort_safe : {s : Scope} {later : List Argument} {parts : List Part} → Agree s function.Sort [] later parts → SafeAs s (sort_result later) (λ v n. sort_call parts v n)
unfolding sort_call inside wanted
sort_safe (more (a_value {kind = shape.Frame names} x) (more (a_name {c = key} frames meant known) end)) =
    let all : list_all (has_column key) (names ∷ []) ≡ true = ap (list_all (has_column key)) (frames_are meant) ∙ known in
    safe (record { fine = λ v n fit. followed_fine _ (x.fine v n fit) (λ a n h. sorted_fine key n (and_left (has_column key names) _ all) h) })
sort_safe _ = untyped

-- ---- aggregates

data MeasuredAs (columns : List Name) : Option (List Name) → List Part → Type 0 where
  are_measured : {parts : List Part} (found : List Measured) → measures_in (map as_written parts) ≡ Some found → length found ≡ length parts → AllMeasure columns found → MeasuredAs columns (Some (map (λ m. named m.name) found)) parts
  not_measured : {parts : List Part} → MeasuredAs columns None parts

measure_known : {columns : List Name} {kind : MeasureKind} {c : List ℕ} → KnownMeasure (columns ∷ []) kind c → Measures columns kind c
measure_known counts = none
measure_known {columns} (measures {c = c} h) = of_column (and_left (has_column c columns) _ h)

measures_more : {frames : List (List Name)} (name : List ℕ) (x : Tree) (m : Meaning) (parts : List Part) (found : List Measured) (by : MeasuresBy frames x) → measures_in (map as_written parts) ≡ Some found
    → measures_in (map as_written (Named name x m ∷ parts)) ≡ Some (record { name = name; kind = by.kind; of_it = by.of_it } ∷ found)
unfolding measures_in
measures_more name x m parts found by all =
    let first : Measured = record { name = name; kind = by.kind; of_it = by.of_it } in
    subst (λ (of_x : Option (MeasureKind × List ℕ)).
    option_and_then (λ (found : MeasureKind × List ℕ). option_map (λ more. record { name = name; kind = found.0; of_it = found.1 } ∷ more) (measures_in (map as_written parts))) of_x ≡ Some (first ∷ found)) (sym by.is)
    (ap (option_map (λ more. first ∷ more)) all)

measure_next : {columns : List Name} {m : Meaning} {parts : List Part} {found : Option (List Name)} (name : List ℕ) (x : Tree) → MeasuresBy (columns ∷ []) x → MeasuredAs columns found parts
    → MeasuredAs columns (option_map (λ names. named name ∷ names) found) (Named name x m ∷ parts)
measure_next {m = m} name x by (are_measured {parts = parts} found all many known) =
    are_measured (record { name = name; kind = by.kind; of_it = by.of_it } ∷ found) (measures_more name x m parts found by all) (ap suc many) (measure_known by.known, known)
measure_next name x by not_measured = not_measured

measures_are : {xs ys : List (List Name)} → a_measure xs ≡ a_measure ys → xs ≡ ys
measures_are e = cc

measures_agree : {s : Scope} {before later : List Argument} {parts : List Part} (columns : List Name) → ((behind : List Argument) → wanted function.Aggregate (before ++ behind) ≡ a_measure (columns ∷ []))
    → Agree s function.Aggregate before later parts → MeasuredAs columns (measure_names later) parts
unfolding measures_in
measures_agree columns each end = are_measured [] refl refl tt
measures_agree {before = before} columns each (more {x = first} (a_measured {name = name} {x = x} frames meant by) rest) =
    let same : frames ≡ columns ∷ [] = measures_are (sym meant ∙ ap (wanted function.Aggregate) (sym (append-nil before)) ∙ each []) in
    measure_next name x (subst (λ frames. MeasuresBy frames x) same by)
    (measures_agree columns (λ behind. ap (wanted function.Aggregate) (append_assoc before (first ∷ []) behind) ∙ each (first ∷ behind)) rest)
measures_agree columns each (more _ rest) = not_measured

grouped_frames : {columns : List Name} {a : Value} (g : Supply) (key : List ℕ) (found : List Measured) (n : Met) → has_column key columns ≡ true → AllMeasure columns found → HasShape (shape.Frame columns) a
    → Fine Value (HasShape (shape.Frame (named key ∷ map (λ m. named m.name) found))) (grouped g.orders key found a n)
grouped_frames g key found n h k (a_frame columns xs e) =
    subst (λ names. has_column key names ≡ true → AllMeasure names found → Fine Value (HasShape (shape.Frame (named key ∷ map (λ m. named m.name) found))) (grouped g.orders key found (Frame xs) n)) e
    (λ h k. grouped_fine g.orders key xs found n h k) h k

aggregate_as : {s : Scope} {names : Option (List Name)} {m : Meaning} {columns : List Name} {parts : List Part} (g : Supply) (key : List ℕ) (part : Part) → has_column key columns ≡ true → Safe s (shape.Frame columns) m → MeasuredAs columns names (part ∷ parts)
    → SafeAs s (option_map (λ names. shape.Frame (named key ∷ names)) names) (λ v n. grouped_by g (Some key) (measures_in (map as_written (part ∷ parts))) (m v n))
aggregate_as g key part h x not_measured = untyped
aggregate_as g key part h x (are_measured [] all many known) = absurd (omega arith)
aggregate_as g key part h x (are_measured (first ∷ found) all many known) =
    safe (record { fine = λ v n fit. rw all (followed_fine _ (x.fine v n fit) (λ a n k. meeting_fine n (grouped_frames g key (first ∷ found) n.met h known k))) })

pub aggregate_safe : {s : Scope} {later : List Argument} {x y part : Part} {parts : List Part} (g : Supply) → Agree s function.Aggregate [] later (x ∷ y ∷ part ∷ parts) → SafeAs s (aggregate_result later) (λ v n. aggregate_call g (x ∷ y ∷ part ∷ parts) v n)
unfolding aggregate_call inside wanted
aggregate_safe {part = part} g (more (a_value {kind = shape.Frame columns} x) (more (a_name {c = key} frames meant known) rest)) =
    let all : list_all (has_column key) (columns ∷ []) ≡ true = ap (list_all (has_column key)) (frames_are meant) ∙ known in
    aggregate_as g key part (and_left (has_column key columns) _ all) x (measures_agree columns (λ behind. refl) rest)
aggregate_safe g _ = untyped
