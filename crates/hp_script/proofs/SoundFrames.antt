-- A call that passes and has a type fits its row: for the functions with a lambda, and those of frames.
use Rattle.std.proofs.Common.{◌≡◌, ℕ, suc, true, false, ◌&&◌, List, [], ◌∷◌, ◌++◌, length, codes, nat_le, Some, None, refl, sym, ap, subst}
use Rattle.std.specs.List.{list_all}
use Rattle.hp_word.specs.declared.name.Name.{Name}
use Rattle.hp_word.specs.declared.place.Place.{Place}
use Rattle.hp_script.specs.declared.typed.Shape.{Shape}
use Rattle.hp_script.specs.declared.typed.Shape.TheVariants.{Int, Bool as Truth, Ints, Bools, Matrix, Frame}
use Rattle.hp_script.specs.declared.rule.Rule.TheVariants.{DoubleColumn, TooManyColumns}
use Rattle.hp_script.specs.declared.argument.Argument.{Argument}
use Rattle.hp_script.specs.declared.argument.Argument.TheVariants.{Value, Body, Text, Column}
use Rattle.hp_script.specs.declared.function.Function.{Function}
use Rattle.hp_script.specs.declared.function.Function.TheVariants as function
use Rattle.hp_script.specs.Breaks.{lambda_break, call_break, result_break, count_of, is_join, repeats}
use Rattle.hp_script.specs.Mirror.{Head, Tree, Args, text, column, call, none, plain, range, lambda, named}
use Rattle.hp_script.specs.Results.{filter_result, matrix_result, array_of, given_names, column_names, measure_names, without, call_result}
use Rattle.hp_script.specs.Scope.{Scope, element, window, has_column, with_parameter}
use Rattle.hp_script.specs.Shaped.{IsOutside, IsNarrow, array_of_numbers, array_of_truths, AreColumns, no_more_columns, one_column, AreMeasures, no_more_measures, one_measure, AreGiven, no_more_given, one_given, HasShape, of_map, of_stencil, of_frame, of_read, of_filter, of_join, of_aggregate, of_sort}
use Rattle.hp_script.specs.Trees as trees
use Rattle.hp_script.specs.Typing.{wanted, role_wanted, inside, plain_argument, range_argument, lambda_argument, named_argument}
use Rattle.hp_script.specs.Walk.{shape_of, break_of, finds_of, in_turn}
use Rattle.hp_script.proofs.TestLemmas.{passes, not_true, true_le, map_there, or_left, or_right, and_left, and_right}
use Rattle.hp_script.proofs.ResultLemmas.{FilterBack, filter_back, two_back, map_back, array_back, stencil_back, read_back, join_back, aggregate_back, sort_back, one_back, matrix_back, Is}
use Rattle.hp_script.proofs.ArgumentHeads.{Rest, head_of, none_of}
use Rattle.hp_script.proofs.ArgumentKinds.{ValueHead, value_head, value_of, BodyHead, body_head, body_of, lambda_there, not_plain, not_range, not_named, is_text, TextHead, text_head, text_of, is_column_of, ColumnHead, column_head, column_of}
use Rattle.hp_script.proofs.SoundLists.{Sound, SoundArgs, at_shape, given_fit, columns_fit, measures_fit}
use Rattle.hp_script.proofs.SoundRows.{RowOf, outer, starting, OneFit, one_fit, one_fits, TwoFit, two_fit, pair}
use Rattle.hp_script.proofs.Turns.{arguments, breaks_among}

-- ---- `map`

record LastOfTwo (before : List Argument) (a x y : Argument) : Type 0 where
  first : before ≡ x ∷ []
  last : a ≡ y

last_of_two : (before : List Argument) (a x y : Argument) → before ++ a ∷ [] ≡ x ∷ y ∷ [] → LastOfTwo before a x y
last_of_two [] a x y e = absurd cc
last_of_two (b ∷ []) a x y e = let same : b ≡ x = cc in record { first = ap (λ (c : Argument). c ∷ []) same; last = cc }
last_of_two (b ∷ c ∷ []) a x y e = absurd cc
last_of_two (b ∷ c ∷ d ∷ rest) a x y e = absurd cc

-- the lambda behind an array of this type
map_body : (s : Scope) (h : Head) (p : List ℕ) (x y : Tree) (a body r : Shape) → IsOutside s → HasShape s y a → array_of body ≡ Some r
    → lambda_argument (shape_of (with_parameter s p (role_wanted (wanted function.Map (Value a ∷ [])))) x) ≡ Body body
    → lambda_break (wanted function.Map (Value a ∷ [])) h.at (break_of (with_parameter s p (role_wanted (wanted function.Map (Value a ∷ [])))) x) ≡ None
    → Sound x → HasShape s (call h (codes "map") false (lambda p x (plain y none))) r
unfolding wanted lambda_break
map_body s h p x y Ints body r out array is e passed sound =
    of_map out array_of_numbers array (array_back body r is) (sound (with_parameter s p (element Int)) body passed (lambda_there _ body e))
map_body s h p x y Bools body r out array is e passed sound =
    of_map out array_of_truths array (array_back body r is) (sound (with_parameter s p (element Truth)) body passed (lambda_there _ body e))
map_body s h p x y _ body r out array is e passed sound = absurd cc

map_fits : (s : Scope) (h : Head) (p : List ℕ) (x : Tree) (xs : Args) (a body r : Shape) → IsOutside s → OneFit s function.Map a xs → array_of body ≡ Some r
    → lambda_argument (shape_of (with_parameter s p (role_wanted (wanted function.Map (Value a ∷ [])))) x) ≡ Body body
    → lambda_break (wanted function.Map (Value a ∷ [])) h.at (break_of (with_parameter s p (role_wanted (wanted function.Map (Value a ∷ [])))) x) ≡ None
    → Sound x → HasShape s (call h (codes "map") false (lambda p x xs)) r
unfolding inside
map_fits s h p x _ a body r out (one_fit {x = y} array) is e passed sound = map_body s h p x y a body r out array is e passed sound

pub map_row : RowOf function.Map
unfolding call_result call_break finds_of in_turn SoundArgs
map_row s h none r count passed e is sounds = absurd cc
map_row s h (plain x xs) r count passed e is sounds =
    let before = arguments s h.at function.Map [] xs in
    let k = map_back (before ++ plain_argument (wanted function.Map before) x (shape_of s x) ∷ []) r is in
    not_plain (wanted function.Map before) x (shape_of s x) (Body k.body) refl (last_of_two before _ (Value k.array) (Body k.body) k.are).last
map_row s h (range x y xs) r count passed e is sounds =
    let before = arguments s h.at function.Map [] xs in
    let k = map_back (before ++ range_argument (shape_of s x) (shape_of s y) ∷ []) r is in
    not_range (shape_of s x) (shape_of s y) (Body k.body) refl (last_of_two before _ (Value k.array) (Body k.body) k.are).last
map_row s h (named name at x xs) r count passed e is sounds =
    let before = arguments s h.at function.Map [] xs in
    let k = map_back (before ++ named_argument (wanted function.Map before) name x (shape_of s x) ∷ []) r is in
    not_named (wanted function.Map before) name x (shape_of s x) (Body k.body) refl (last_of_two before _ (Value k.array) (Body k.body) k.are).last
map_row s h (lambda p x xs) r count passed e is sounds =
    let before = arguments s h.at function.Map [] xs in
    let k = map_back (before ++ lambda_argument (shape_of (with_parameter s p (role_wanted (wanted function.Map before))) x) ∷ []) r is in
    let t = last_of_two before _ (Value k.array) (Body k.body) k.are in
    map_fits s h p x xs k.array k.body r (outer s h.at _ e).outside (one_fits s h.at function.Map k.array xs before t.first (starting s h.at function.Map xs (or_left _ _ passed)) sounds.1) k.is
    (subst (λ (m : List Argument). lambda_argument (shape_of (with_parameter s p (role_wanted (wanted function.Map m))) x) ≡ Body k.body) t.first t.last)
    (subst (λ (m : List Argument). lambda_break (wanted function.Map m) h.at (break_of (with_parameter s p (role_wanted (wanted function.Map m))) x) ≡ None) t.first (or_right _ _ passed))
    sounds.0

-- ---- `stencil`

stencil_array : (s : Scope) (h : Head) (r : Shape) (p : List ℕ) (x : Tree) (xs : Args) → IsOutside s → Ints ≡ r → HasShape (with_parameter s p window) x Int
    → ValueHead s h.at function.Stencil (Body Int ∷ []) Ints [] xs → SoundArgs xs → HasShape s (call h (codes "stencil") false (lambda p x xs)) r
unfolding SoundArgs inside
stencil_array s h r p x _ out same body (value_head {x = y} {xs = xs} v q) sounds =
    at_shape s _ Ints r same
    (subst (λ (ys : Args). HasShape s (call h (codes "stencil") false (lambda p x (plain y ys))) Ints) (sym (none_of s h.at function.Stencil (Body Int ∷ Value Ints ∷ []) xs q))
    (of_stencil out body (sounds.0 s Ints v.passed v.shape)))

stencil_fits : (s : Scope) (h : Head) (r : Shape) (xs : Args) → IsOutside s → Ints ≡ r → BodyHead s h.at function.Stencil [] Int (Value Ints ∷ []) xs → SoundArgs xs
    → HasShape s (call h (codes "stencil") false xs) r
unfolding SoundArgs wanted
stencil_fits s h r _ out same (body_head {p = p} {x = x} {xs = xs} v q) sounds =
    stencil_array s h r p x xs out same (sounds.0 (with_parameter s p window) Int v.passed v.shape)
    (value_of s h.at function.Stencil (Body Int ∷ []) Ints [] xs (head_of s h.at function.Stencil (Body Int ∷ []) [] (Value Ints) xs q)) sounds.1

pub stencil_row : RowOf function.Stencil
unfolding call_result call_break
stencil_row s h xs r count passed e is sounds =
    let k = stencil_back (arguments s h.at function.Stencil [] xs) r is in
    let q = subst (λ (m : List Argument). Rest s h.at function.Stencil [] m xs) k.are (starting s h.at function.Stencil xs passed) in
    stencil_fits s h r xs (outer s h.at _ e).outside k.is (body_of s h.at function.Stencil [] Int (Value Ints ∷ []) xs (head_of s h.at function.Stencil [] (Value Ints ∷ []) (Body Int) xs q)) sounds

-- ---- frames

-- what is known of a frame that is the result of a call
record Framed (f : Function) (columns : List Name) : Type 0 where
  distinct : (is_join f && repeats columns) ≡ false
  narrow : IsNarrow columns

framed : (f : Function) (at : Place) (columns : List Name) (r : Shape) → Frame columns ≡ r → result_break f at (Some r) ≡ None → Framed f columns
unfolding result_break
framed f at columns r same e =
    let own : result_break f at (Some (Frame columns)) ≡ None = subst (λ (k : Shape). result_break f at (Some k) ≡ None) (sym same) e in
    record { distinct = not_true _ (passes _ at DoubleColumn (or_left _ _ own)); narrow = true_le (length columns) 1024 (passes _ at TooManyColumns (or_right _ _ own)) }

filter_fits : (s : Scope) (h : Head) (a b r : Shape) (xs : Args) → IsOutside s → (k : FilterBack a b r) → IsNarrow k.columns → TwoFit s function.Filter a b xs
    → HasShape s (call h (codes "filter") false xs) r
unfolding inside
filter_fits s h a b r _ out k narrow (two_fit {x = x} {y = y} p q) =
    let mask : HasShape (inside s function.Filter (Value (Frame k.columns) ∷ [])) y b = subst (λ (c : Shape). HasShape (inside s function.Filter (Value c ∷ [])) y b) k.frame q in
    at_shape s _ (Frame k.columns) r k.is (of_filter out (at_shape s x a (Frame k.columns) k.frame p) (at_shape _ y b Bools k.mask mask) narrow)

pub filter_row : RowOf function.Filter
unfolding call_result call_break
filter_row s h xs r count passed e is sounds =
    let k = pair s h.at function.Filter filter_result xs r _ passed e (two_back filter_result _ r is) sounds in
    let t = filter_back k.left k.right r k.is in
    filter_fits s h k.left k.right r xs k.outside t (framed function.Filter h.at t.columns r t.is k.tested).narrow k.fits

frame_fits : (s : Scope) (h : Head) (names : List Name) (xs : Args) → IsOutside s → nat_le 1 (count_of xs) ≡ true → AreGiven s [] xs names → IsNarrow names
    → HasShape s (call h (codes "DataFrame") false xs) (Frame names)
frame_fits s h _ _ out count no_more_given narrow = absurd cc
frame_fits s h _ _ out count (one_given p new rest) narrow = of_frame out (one_given p new rest) narrow

pub frame_row : RowOf function.DataFrame
unfolding call_result call_break
frame_row s h xs r count passed e is sounds =
    let m = map_there Frame (given_names (arguments s h.at function.DataFrame [] xs)) r is in
    let o = outer s h.at _ e in
    at_shape s _ (Frame m.value) r m.is
    (frame_fits s h m.value xs o.outside count
    (given_fit s h.at [] (arguments s h.at function.DataFrame [] xs) m.value xs (starting s h.at function.DataFrame xs passed) m.value_is sounds)
    (framed function.DataFrame h.at m.value r m.is o.result).narrow)

read_columns : (s : Scope) (h g : Head) (f : List ℕ) (names : List Name) (xs : Args) → IsOutside s → nat_le 2 (suc (count_of xs)) ≡ true → AreColumns [] xs names → IsNarrow names
    → HasShape s (call h (codes "read_csv") false (plain (text g f) xs)) (Frame names)
read_columns s h g f _ _ out count no_more_columns narrow = absurd cc
read_columns s h g f _ _ out count (one_column new rest) narrow = of_read out (one_column new rest) narrow

read_fits : (s : Scope) (h : Head) (file : Name) (made : List Argument) (names : List Name) (xs : Args) → IsOutside s → nat_le 2 (count_of xs) ≡ true → IsNarrow names
    → column_names made ≡ Some names → TextHead s h.at function.ReadCsv [] file made xs → HasShape s (call h (codes "read_csv") false xs) (Frame names)
read_fits s h file made names _ out count narrow are (text_head {xs = xs} (is_text {h = g} {bytes = f} e) q) =
    read_columns s h g f names xs out count (columns_fit s h.at (Text file) [] made names xs q are) narrow

pub read_row : RowOf function.ReadCsv
unfolding call_result call_break
read_row s h xs r count passed e is sounds =
    let k = read_back (arguments s h.at function.ReadCsv [] xs) r is in
    let m = map_there Frame (column_names k.rest) r k.is in
    let o = outer s h.at _ e in
    let q = subst (λ (made : List Argument). Rest s h.at function.ReadCsv [] made xs) k.are (starting s h.at function.ReadCsv xs passed) in
    at_shape s _ (Frame m.value) r m.is
    (read_fits s h k.file k.rest m.value xs o.outside count (framed function.ReadCsv h.at m.value r m.is o.result).narrow m.value_is
    (text_of s h.at function.ReadCsv [] k.file k.rest xs (head_of s h.at function.ReadCsv [] k.rest (Text k.file) xs q)))

-- ---- a key behind frames

pub record KeyOf (frames : List (List Name)) (name : Name) (g : Head) (c : List ℕ) : Type 0 where
  pub is : trees.named c ≡ name
  pub known : list_all (has_column c) frames ≡ true

sort_key : (s : Scope) (h : Head) (key : Name) (columns : List Name) (x : Tree) (xs : Args) → IsOutside s → IsNarrow columns → HasShape s x (Frame columns)
    → ColumnHead (columns ∷ []) s h.at function.Sort (Value (Frame columns) ∷ []) key [] xs → HasShape s (call h (codes "sort") false (plain x xs)) (Frame columns)
sort_key s h key columns x _ out narrow frame (column_head {xs = xs} (is_column_of {h = g} {c = c} e known new) q) =
    subst (λ (ys : Args). HasShape s (call h (codes "sort") false (plain x (plain (column g c) ys))) (Frame columns)) (sym (none_of s h.at function.Sort (Value (Frame columns) ∷ Column key ∷ []) xs q))
    (of_sort out frame (and_left (has_column c columns) true known) narrow)

sort_fits : (s : Scope) (h : Head) (key : Name) (columns : List Name) (xs : Args) → IsOutside s → IsNarrow columns
    → ValueHead s h.at function.Sort [] (Frame columns) (Column key ∷ []) xs → SoundArgs xs → HasShape s (call h (codes "sort") false xs) (Frame columns)
unfolding SoundArgs inside wanted
sort_fits s h key columns _ out narrow (value_head {x = x} {xs = xs} v q) sounds =
    sort_key s h key columns x xs out narrow (sounds.0 s (Frame columns) v.passed v.shape)
    (column_of (columns ∷ []) s h.at function.Sort (Value (Frame columns) ∷ []) key [] xs refl (head_of s h.at function.Sort (Value (Frame columns) ∷ []) [] (Column key) xs q))

pub sort_row : RowOf function.Sort
unfolding call_result call_break
sort_row s h xs r count passed e is sounds =
    let k = sort_back (arguments s h.at function.Sort [] xs) r is in
    let o = outer s h.at _ e in
    let q = subst (λ (made : List Argument). Rest s h.at function.Sort [] made xs) k.are (starting s h.at function.Sort xs passed) in
    at_shape s _ (Frame k.columns) r k.is
    (sort_fits s h k.key k.columns xs o.outside (framed function.Sort h.at k.columns r k.is o.result).narrow
    (value_of s h.at function.Sort [] (Frame k.columns) (Column k.key ∷ []) xs (head_of s h.at function.Sort [] (Column k.key ∷ []) (Value (Frame k.columns)) xs q)) sounds)

join_key : (s : Scope) (h : Head) (key : Name) (left right : List Name) (x y : Tree) (xs : Args) → IsOutside s → HasShape s x (Frame left) → HasShape s y (Frame right)
    → Framed function.Join (left ++ without key right)
    → ColumnHead (left ∷ right ∷ []) s h.at function.Join (Value (Frame left) ∷ Value (Frame right) ∷ []) key [] xs
    → HasShape s (call h (codes "join") false (plain x (plain y xs))) (Frame (left ++ without key right))
join_key s h key left right x y _ out first second known_of (column_head {xs = xs} (is_column_of {h = g} {c = c} e known new) q) =
    let f = subst (λ (m : Name). Framed function.Join (left ++ without m right)) (sym e) known_of in
    subst (λ (m : Name). HasShape s (call h (codes "join") false (plain x (plain y (plain (column g c) xs)))) (Frame (left ++ without m right))) e
    (subst (λ (ys : Args). HasShape s (call h (codes "join") false (plain x (plain y (plain (column g c) ys)))) (Frame (left ++ without (trees.named c) right)))
    (sym (none_of s h.at function.Join (Value (Frame left) ∷ Value (Frame right) ∷ Column key ∷ []) xs q))
    (of_join out first second (and_left _ _ known) (and_left (has_column c right) true (and_right _ _ known)) f.distinct f.narrow))

join_second : (s : Scope) (h : Head) (key : Name) (left right : List Name) (x : Tree) (xs : Args) → IsOutside s → HasShape s x (Frame left)
    → Framed function.Join (left ++ without key right)
    → ValueHead s h.at function.Join (Value (Frame left) ∷ []) (Frame right) (Column key ∷ []) xs → SoundArgs xs
    → HasShape s (call h (codes "join") false (plain x xs)) (Frame (left ++ without key right))
unfolding SoundArgs inside wanted
join_second s h key left right x _ out first known_of (value_head {x = y} {xs = xs} v q) sounds =
    let before = Value (Frame left) ∷ Value (Frame right) ∷ [] in
    join_key s h key left right x y xs out first (sounds.0 s (Frame right) v.passed v.shape) known_of
    (column_of (left ∷ right ∷ []) s h.at function.Join (Value (Frame left) ∷ Value (Frame right) ∷ []) key [] xs refl
    (head_of s h.at function.Join (Value (Frame left) ∷ Value (Frame right) ∷ []) [] (Column key) xs q))

join_fits : (s : Scope) (h : Head) (key : Name) (left right : List Name) (xs : Args) → IsOutside s → Framed function.Join (left ++ without key right)
    → ValueHead s h.at function.Join [] (Frame left) (Value (Frame right) ∷ Column key ∷ []) xs → SoundArgs xs
    → HasShape s (call h (codes "join") false xs) (Frame (left ++ without key right))
unfolding SoundArgs inside
join_fits s h key left right _ out known_of (value_head {x = x} {xs = xs} v q) sounds =
    join_second s h key left right x xs out (sounds.0 s (Frame left) v.passed v.shape) known_of
    (value_of s h.at function.Join (Value (Frame left) ∷ []) (Frame right) (Column key ∷ []) xs
    (head_of s h.at function.Join (Value (Frame left) ∷ []) (Column key ∷ []) (Value (Frame right)) xs q)) sounds.1

pub join_row : RowOf function.Join
unfolding call_result call_break
join_row s h xs r count passed e is sounds =
    let k = join_back (arguments s h.at function.Join [] xs) r is in
    let o = outer s h.at _ e in
    let rest = Value (Frame k.right) ∷ Column k.key ∷ [] in
    let q = subst (λ (made : List Argument). Rest s h.at function.Join [] made xs) k.are (starting s h.at function.Join xs passed) in
    at_shape s _ (Frame (k.left ++ without k.key k.right)) r k.is
    (join_fits s h k.key k.left k.right xs o.outside (framed function.Join h.at (k.left ++ without k.key k.right) r k.is o.result)
    (value_of s h.at function.Join [] (Frame k.left) (Value (Frame k.right) ∷ Column k.key ∷ []) xs
    (head_of s h.at function.Join [] (Value (Frame k.right) ∷ Column k.key ∷ []) (Value (Frame k.left)) xs q)) sounds)

aggregate_measures : (s : Scope) (h g : Head) (c : List ℕ) (columns names : List Name) (x : Tree) (xs : Args) → IsOutside s → nat_le 3 (suc (suc (count_of xs))) ≡ true
    → HasShape s x (Frame columns) → has_column c columns ≡ true → AreMeasures columns (c ∷ []) xs names → IsNarrow (trees.named c ∷ names)
    → HasShape s (call h (codes "aggregate") false (plain x (plain (column g c) xs))) (Frame (trees.named c ∷ names))
aggregate_measures s h g c columns _ x _ out count frame known no_more_measures narrow = absurd cc
aggregate_measures s h g c columns _ x _ out count frame known (one_measure m new rest) narrow = of_aggregate out frame known (one_measure m new rest) narrow

aggregate_key : (s : Scope) (h : Head) (key : Name) (columns : List Name) (made : List Argument) (names : List Name) (x : Tree) (xs : Args) → IsOutside s
    → nat_le 3 (suc (count_of xs)) ≡ true → IsNarrow (key ∷ names) → measure_names made ≡ Some names → HasShape s x (Frame columns)
    → ColumnHead (columns ∷ []) s h.at function.Aggregate (Value (Frame columns) ∷ []) key made xs
    → HasShape s (call h (codes "aggregate") false (plain x xs)) (Frame (key ∷ names))
aggregate_key s h key columns made names x _ out count narrow are frame (column_head {xs = xs} (is_column_of {h = g} {c = c} e known new) q) =
    let measures : AreMeasures columns (key.bytes ∷ []) xs names = measures_fit s h.at columns (Column key) [] made names xs q are in
    let own : AreMeasures columns (c ∷ []) xs names = subst (λ (m : Name). AreMeasures columns (m.bytes ∷ []) xs names) (sym e) measures in
    subst (λ (m : Name). HasShape s (call h (codes "aggregate") false (plain x (plain (column g c) xs))) (Frame (m ∷ names))) e
    (aggregate_measures s h g c columns names x xs out count frame (and_left (has_column c columns) true known) own narrow)

aggregate_fits : (s : Scope) (h : Head) (key : Name) (columns : List Name) (made : List Argument) (names : List Name) (xs : Args) → IsOutside s
    → nat_le 3 (count_of xs) ≡ true → IsNarrow (key ∷ names) → measure_names made ≡ Some names
    → ValueHead s h.at function.Aggregate [] (Frame columns) (Column key ∷ made) xs → SoundArgs xs
    → HasShape s (call h (codes "aggregate") false xs) (Frame (key ∷ names))
unfolding SoundArgs inside wanted
aggregate_fits s h key columns made names _ out count narrow are (value_head {x = x} {xs = xs} v q) sounds =
    aggregate_key s h key columns made names x xs out count narrow are (sounds.0 s (Frame columns) v.passed v.shape)
    (column_of (columns ∷ []) s h.at function.Aggregate (Value (Frame columns) ∷ []) key made xs refl
    (head_of s h.at function.Aggregate (Value (Frame columns) ∷ []) made (Column key) xs q))

pub aggregate_row : RowOf function.Aggregate
unfolding call_result call_break
aggregate_row s h xs r count passed e is sounds =
    let k = aggregate_back (arguments s h.at function.Aggregate [] xs) r is in
    let m = map_there (λ (names : List Name). Frame (k.key ∷ names)) (measure_names k.rest) r k.is in
    let o = outer s h.at _ e in
    let q = subst (λ (made : List Argument). Rest s h.at function.Aggregate [] made xs) k.are (starting s h.at function.Aggregate xs passed) in
    at_shape s _ (Frame (k.key ∷ m.value)) r m.is
    (aggregate_fits s h k.key k.columns k.rest m.value xs o.outside count (framed function.Aggregate h.at (k.key ∷ m.value) r m.is o.result).narrow m.value_is
    (value_of s h.at function.Aggregate [] (Frame k.columns) (Column k.key ∷ k.rest) xs (head_of s h.at function.Aggregate [] (Column k.key ∷ k.rest) (Value (Frame k.columns)) xs q)) sounds)

-- ---- `transpose` on the right of a product

-- the operand of a transposed right side, which is a matrix
pub data TransposedFit (s : Scope) (b : Shape) : Args → Type 0 where
  transposed_fit : {x : Tree} → HasShape s x Matrix → Matrix ≡ b → TransposedFit s b (plain x none)

transposed_step : (s : Scope) (a b : Shape) (xs : Args) → Is a Matrix b Matrix → OneFit s function.Transpose a xs → TransposedFit s b xs
unfolding inside
transposed_step s a b _ k (one_fit {x = x} p) = transposed_fit (at_shape s x a Matrix k.operand p) k.is

pub transposed_fits : (s : Scope) (at : Place) (b : Shape) (xs : Args) → breaks_among s at function.Transpose [] xs ≡ None
    → call_result function.Transpose false (arguments s at function.Transpose [] xs) ≡ Some b → SoundArgs xs → TransposedFit s b xs
unfolding call_result
transposed_fits s at b xs passed is sounds =
    let k = one_back matrix_result (arguments s at function.Transpose [] xs) b is in
    transposed_step s k.value b xs (matrix_back k.value b k.is) (one_fits s at function.Transpose k.value xs (arguments s at function.Transpose [] xs) k.are (starting s at function.Transpose xs passed) sounds)
