-- The constructs of frames have a value or trap where their operands are of the types that they are for, and the
-- columns of what they make are those of its type.
use Rattle.std.proofs.Common.{◌≡◌, ℕ, ℤ, Ok, Err, Bool, true, false, not, ◌||◌, cond, eqb, bytes_eq, List, [], ◌∷◌, ◌++◌, length, map, zip, filter, find, Option, Some, None, option_map, IsSome, refl, ap, ◌∙◌, arith, eq-eqb}
use Rattle.std.specs.Prelude.{Result}
use Rattle.std.proofs.lemmas.Cmp.{nat_list_eq_equiv}
use Rattle.std.proofs.lemmas.List.{map-append}
use Rattle.hp_word.specs.declared.name.Name.{Name}
use Rattle.hp_word.specs.declared.order.Order.{Order}
use Rattle.hp_word.specs.declared.order.RowPlace.{RowPlace}
use Rattle.hp_word.specs.declared.place.Place.{Place}
use Rattle.hp_word.specs.declared.place.Trap.{Trap}
use Rattle.hp_word.specs.declared.table.MeasureKind.{MeasureKind}
use Rattle.hp_word.specs.declared.table.MeasureKind.TheVariants.{Count}
use Rattle.hp_word.specs.declared.table.Table.{Table}
use Rattle.hp_script.specs.declared.typed.Shape.{Shape}
use Rattle.hp_script.specs.declared.typed.Shape.TheVariants as shape
use Rattle.hp_script.specs.Results.{filter_result, nrow_result}
use Rattle.hp_script.specs.Results as results
use Rattle.hp_script.specs.Scope.{has_column}
use Rattle.hp_script.specs.Trees.{named}
use Rattle.hp_meaning.specs.declared.seen.Met.{Met}
use Rattle.hp_meaning.specs.declared.value.Column.{Column}
use Rattle.hp_meaning.specs.declared.value.Value.{Value}
use Rattle.hp_meaning.specs.declared.value.Value.TheVariants.{Frame}
use Rattle.hp_meaning.specs.Fitting.{names_of, HasShape, a_number, numbers, truths, a_frame}
use Rattle.hp_meaning.specs.FrameRules.{column, cells_of, is_named, column_of, without, changed, field_value, rows_value, framed, named_columns, tabled, filtered, sorted_frame, sorted_value, joined_rows, joined_keys, joined, Measured, cells_for, measure_column, grouped_rows, grouped_keys, grouped}
use Rattle.hp_meaning.specs.Outcomes.{Answer, Gives, Refuses, given, told, all_of, Course, followed, needed, ended}
use Rattle.hp_word.specs.RowRules.{level, join_pairs, by_left, by_right}
use Rattle.hp_meaning.proofs.Fine.{Right, gives, traps, also_right, right_if, told_told, Fine, is, stops, ended_fine, RightAs, so, no}

-- ---- what there is

given_there : {A B : Type 0} {P : B → Type 0} (found : Option A) (rule : A → Answer B) → IsSome found → ((a : A) → Right B P (rule a)) → Right B P (given found rule)
given_there None rule h next = absurd cc
given_there (Some a) rule h next = next a

needed_there : {N A B : Type 0} {P : B → Type 0} (found : Option A) (rule : A → Course N B) → IsSome found → ((a : A) → Fine B P (rule a)) → Fine B P (needed found rule)
needed_there None rule h next = absurd cc
needed_there (Some a) rule h next = next a

there_step : {A B : Type 0} (f : A → B) (same other later : Bool) (a : A) (rest : Option A) → other ≡ same → (later ≡ true → IsSome (option_map f rest)) → (same || later) ≡ true → IsSome (option_map f (cond other (Some a) rest))
there_step f true true later a rest e next h = refl
there_step f false false later a rest e next h = next h
there_step f _ _ later a rest e next h = absurd cc

-- a frame has a column of each of its names
pub column_there : (c : List ℕ) (columns : List Column) → has_column c (names_of columns) ≡ true → IsSome (column_of c columns)
unfolding column_of
column_there c [] h = absurd cc
column_there c (x ∷ columns) h =
    there_step (λ (x : Column). x.cells) (bytes_eq c x.name.bytes) (bytes_eq x.name.bytes c) (has_column c (names_of columns)) x (find (is_named c) columns)
    (nat_list_eq_equiv.symm x.name.bytes c) (column_there c columns) h

-- ---- names of columns

changed_names : (change : List ℤ → List ℤ) (columns : List Column) → names_of (changed change columns) ≡ names_of columns
changed_names change [] = refl
changed_names change (c ∷ columns) = ap (λ names. c.name ∷ names) (changed_names change columns)

without_step : (same other : Bool) (c : Column) (rest : List Column) (names : List Name) → other ≡ same → names_of rest ≡ names
    → names_of (cond (not other) (c ∷ rest) rest) ≡ cond (not same) (c.name ∷ names) names
without_step true true c rest names e h = h
without_step false false c rest names e h = ap (λ names. c.name ∷ names) h
without_step _ _ c rest names e h = absurd cc

without_names : (key : List ℕ) (columns : List Column) → names_of (without key columns) ≡ results.without (named key) (names_of columns)
unfolding without
without_names key [] = refl
without_names key (c ∷ columns) =
    without_step (bytes_eq key c.name.bytes) (bytes_eq c.name.bytes key) c (filter (λ x. not (is_named key x)) columns) (results.without (named key) (names_of columns))
    (nat_list_eq_equiv.symm c.name.bytes key) (without_names key columns)

-- ---- one frame

pub field_right : (c : List ℕ) (columns : List Column) → has_column c (names_of columns) ≡ true → Right Value (HasShape shape.Ints) (field_value c (Frame columns))
unfolding field_value
field_right c columns h = given_there (column_of c columns) _ (column_there c columns h) (λ cells. gives (numbers cells))

pub nrow_as : {k : Shape} {a : Value} → HasShape k a → RightAs (nrow_result k) (rows_value a)
unfolding rows_value
nrow_as (a_frame names columns e) = so (gives (a_number _))
nrow_as _ = no

pub filter_as : (at : Place) (names : List Name) (columns : List Column) → names_of columns ≡ names → {k : Shape} {a : Value} → HasShape k a
    → RightAs (filter_result (shape.Frame names) k) (filtered at columns a)
unfolding filtered
filter_as at names columns e (truths mask h) = so (right_if _ (gives (a_frame names _ (changed_names _ columns ∙ e))) traps)
filter_as at names columns e _ = no

pub sort_right : (key : List ℕ) (names : List Name) (columns : List Column) → names_of columns ≡ names → has_column key names ≡ true
    → Right Value (HasShape (shape.Frame names)) (sorted_value key (Frame columns))
unfolding sorted_value sorted_frame
sort_right key names columns e h =
    given_there (column_of key columns) _ (column_there key columns (ap (has_column key) e ∙ h)) (λ keys. gives (a_frame names _ (changed_names _ columns ∙ e)))

-- ---- making frames

pub framed_right : (at : Place) (c : Column) (columns : List Column) → Right Value (HasShape (shape.Frame (names_of (c ∷ columns)))) (framed at (c ∷ columns))
unfolding framed
framed_right at c columns = also_right {P = λ cells. Unit {0}} _ (told_told (level at (cells_of (c ∷ columns)))) (λ cells h. gives (a_frame _ _ refl))

zipped_names : (names : List (List ℕ)) (cells : List (List ℤ)) → length names ≡ length cells → names_of (map (λ p. column p.0 p.1) (zip names cells)) ≡ map named names
zipped_names [] cells e = refl
zipped_names (name ∷ names) [] e = absurd (omega arith)
zipped_names (name ∷ names) (xs ∷ cells) e = ap (λ rest. named name ∷ rest) (zipped_names names cells (omega arith))

pub tabled_right : (names : List (List ℕ)) (table : Table) → length names ≡ length table.columns → Right Value (HasShape (shape.Frame (map named names))) (tabled names (Some table))
unfolding tabled named_columns
tabled_right names table e =
    tabled_if (eqb (length names) (length table.columns)) (eq-eqb _ _ e) (a_frame _ _ (zipped_names names table.columns e))
  where
    tabled_if : {k : Shape} {a : Value} (same : Bool) → same ≡ true → HasShape k a → Right Value (HasShape k) (cond same (Gives a) Refuses)
    tabled_if true s h = gives h
    tabled_if false s h = absurd cc

-- ---- joins

joined_names : (key : List ℕ) (left right : List Column) (places : List RowPlace) → names_of (joined_rows key left right places) ≡ names_of left ++ results.without (named key) (names_of right)
unfolding joined_rows
joined_names key left right places =
    map-append (λ (c : Column). c.name) (changed (λ cells. by_left cells places) left) (changed (λ cells. by_right cells places) (without key right))
    ∙ ap (λ names. names ++ names_of (changed (λ cells. by_right cells places) (without key right))) (changed_names (λ cells. by_left cells places) left)
    ∙ ap (λ names. names_of left ++ names) (changed_names (λ cells. by_right cells places) (without key right) ∙ without_names key right)

pub fine_if : {N A : Type 0} {P : A → Type 0} (holds : Bool) {a b : Course N A} → Fine A P a → Fine A P b → Fine A P (cond holds a b)
fine_if true h k = h
fine_if false h k = k

-- rows in an order of pairs that are not too many
pairs_fine : {N A B : Type 0} {P : B → Type 0} (plain : Result A Trap) (n : N) (rule : A → N → Course N B) → ((a : A) → Fine B P (rule a n)) → Fine B P (followed (ended (told plain) n) rule)
pairs_fine (Ok a) n rule h = h a
pairs_fine (Err t) n rule h = stops

joined_keys_fine : (orders : List Order) (at : Place) (key : List ℕ) (left right : List Column) (left_keys right_keys : List ℤ) (n : Met)
    → Fine Value (HasShape (shape.Frame (names_of left ++ results.without (named key) (names_of right)))) (joined_keys orders at key left right left_keys right_keys n)
unfolding joined_keys
joined_keys_fine orders at key left right left_keys right_keys n =
    pairs_fine (join_pairs at left_keys right_keys) n _ (λ plain. is (a_frame _ _ (joined_names key left right _)))

pub joined_fine : (orders : List Order) (at : Place) (key : List ℕ) (left right : List Column) (n : Met)
    → has_column key (names_of left) ≡ true → has_column key (names_of right) ≡ true
    → Fine Value (HasShape (shape.Frame (names_of left ++ results.without (named key) (names_of right)))) (joined orders at key (Frame left) (Frame right) n)
unfolding joined
joined_fine orders at key left right n h k =
    needed_there (column_of key left) _ (column_there key left h) (λ left_keys.
    needed_there (column_of key right) _ (column_there key right k) (λ right_keys. joined_keys_fine orders at key left right left_keys right_keys n))

-- ---- aggregates

-- a measure is of no column, or of one of these
pub data Measures (names : List Name) : MeasureKind → List ℕ → Type 0 where
  none : {c : List ℕ} → Measures names Count c
  of_column : {kind : MeasureKind} {c : List ℕ} → has_column c names ≡ true → Measures names kind c

abbrev pub AllMeasure : List Name → List Measured → Type 0
AllMeasure names [] = Unit {0}
AllMeasure names (m ∷ measures) = Measures names m.kind m.of_it × AllMeasure names measures

cells_by_kind : (kind : MeasureKind) (c : List ℕ) (columns : List Column) (keys : List ℤ) → IsSome (column_of c columns) → IsSome (cells_for kind c columns keys)
cells_by_kind Count c columns keys h = refl
cells_by_kind _ c columns keys h = h

cells_there : (columns : List Column) (keys : List ℤ) {kind : MeasureKind} {c : List ℕ} → Measures (names_of columns) kind c → IsSome (cells_for kind c columns keys)
cells_there columns keys none = refl
cells_there columns keys (of_column {kind = kind} {c = c} h) = cells_by_kind kind c columns keys (column_there c columns h)

measure_right : (columns : List Column) (keys : List ℤ) (places : List RowPlace) (m : Measured) → Measures (names_of columns) m.kind m.of_it
    → Right Column (λ c. c.name ≡ named m.name) (measure_column columns keys places m)
unfolding measure_column
measure_right columns keys places m h = given_there (cells_for m.kind m.of_it columns keys) _ (cells_there columns keys h) (λ cells. gives refl)

abbrev measured_names : List Measured → List Name
measured_names measures = map (λ m. named m.name) measures

measures_right : (columns : List Column) (keys : List ℤ) (places : List RowPlace) (measures : List Measured) → AllMeasure (names_of columns) measures
    → Right (List Column) (λ made. names_of made ≡ measured_names measures) (all_of (map (measure_column columns keys places) measures))
unfolding all_of
measures_right columns keys places [] h = gives refl
measures_right columns keys places (m ∷ measures) h =
    also_right {P = λ (c : Column). c.name ≡ named m.name} _ (measure_right columns keys places m h.0) (λ c e.
    also_right {P = λ (made : List Column). names_of made ≡ measured_names measures} _ (measures_right columns keys places measures h.1) (λ made d.
    gives (ap (λ name. name ∷ names_of made) e ∙ ap (λ names. named m.name ∷ names) d)))

grouped_right : (key : List ℕ) (columns : List Column) (keys : List ℤ) (measures : List Measured) (places : List RowPlace) → AllMeasure (names_of columns) measures
    → Right Value (HasShape (shape.Frame (named key ∷ measured_names measures))) (grouped_rows key columns keys measures places)
unfolding grouped_rows
grouped_right key columns keys measures places h =
    also_right {P = λ (made : List Column). names_of made ≡ measured_names measures} _ (measures_right columns keys places measures h) (λ made e. gives (a_frame _ _ (ap (λ names. named key ∷ names) e)))

grouped_keys_fine : (orders : List Order) (key : List ℕ) (columns : List Column) (measures : List Measured) (keys : List ℤ) (n : Met) → AllMeasure (names_of columns) measures
    → Fine Value (HasShape (shape.Frame (named key ∷ measured_names measures))) (grouped_keys orders key columns measures keys n)
unfolding grouped_keys
grouped_keys_fine orders key columns measures keys n h = ended_fine _ (grouped_right key columns keys measures _ h)

pub grouped_fine : (orders : List Order) (key : List ℕ) (columns : List Column) (measures : List Measured) (n : Met) → has_column key (names_of columns) ≡ true → AllMeasure (names_of columns) measures
    → Fine Value (HasShape (shape.Frame (named key ∷ map (λ m. named m.name) measures))) (grouped orders key measures (Frame columns) n)
unfolding grouped
grouped_fine orders key columns measures n h k =
    needed_there (column_of key columns) _ (column_there key columns h) (λ keys. grouped_keys_fine orders key columns measures keys n k)
