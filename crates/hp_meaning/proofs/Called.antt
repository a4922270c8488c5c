-- A call of any function but `map` and `transpose` is safe where its arguments are; and the tables of calls that read.
use Rattle.std.proofs.Common.{◌≡◌, ℕ, suc, Bool, true, false, cond, nat_le, List, [], ◌∷◌, ◌++◌, length, Option, Some, None, IsSome, refl, sym, ap, subst, subst₂, append_assoc}
use Rattle.hp_word.specs.declared.name.Name.{Name}
use Rattle.hp_word.specs.declared.place.Place.{Place}
use Rattle.hp_word.specs.declared.table.Table.{Table}
use Rattle.hp_script.specs.declared.argument.Argument.{Argument}
use Rattle.hp_script.specs.declared.argument.Argument.TheVariants as argument
use Rattle.hp_script.specs.declared.function.Function.{Function}
use Rattle.hp_script.specs.declared.function.Function.TheVariants as function
use Rattle.hp_script.specs.declared.typed.ReadSpec.{ReadSpec}
use Rattle.hp_script.specs.declared.typed.Shape.{Shape}
use Rattle.hp_script.specs.declared.typed.Shape.TheVariants as shape
use Rattle.hp_script.specs.Breaks.{count_of}
use Rattle.hp_script.specs.Entries.{columns_among, file_of_call}
use Rattle.hp_script.specs.Functions.{takes_count}
use Rattle.hp_script.specs.Mirror.{Head, Tree, Args, none, plain, range, lambda, named}
use Rattle.hp_script.specs.Mirror as trees
use Rattle.hp_script.specs.Results.{arithmetic_result, fold_result, of_bools, of_ints, length_result, fill_result, vcat_result, nrow_result, row_result, read_result, aggregate_result, are_arrays, some_if, one_value, matrix_result, call_result}
use Rattle.hp_script.specs.Scope.{Scope, with_parameter}
use Rattle.hp_script.specs.Trees.{named as labelled}
use Rattle.hp_script.specs.Typing.{a_text, wanted, inside, value_or_misfit, plain_argument, range_argument, lambda_argument, named_argument, given_or_misfit, role_wanted}
use Rattle.hp_script.specs.Walk.{shape_of, finds_of, in_turn}
use Rattle.hp_script.proofs.FunctionNames.{is_transpose}
use Rattle.hp_script.proofs.Turns.{arguments}
use Rattle.hp_meaning.specs.FrameRules.{framed, rows_value}
use Rattle.hp_meaning.specs.ListRules.{filled, concatenated, length_value, folded, counted, summed}
use Rattle.hp_meaning.specs.MatrixRules.{stacked, row_value}
use Rattle.hp_meaning.specs.Outcomes.{followed, ended}
use Rattle.hp_meaning.specs.ReadCalls.{is_read}
use Rattle.hp_meaning.specs.ValueOf.{Supply, Meaning, Part, columns_among as columns_meant, rows_among, table_read, aggregate_call, transposed_part, called_as, parts}
use Rattle.hp_meaning.specs.WordRules.{scalar_value}
use Rattle.hp_meaning.proofs.CallSafety.{one_safe, two_safe, collect_safe, stencil_safe}
use Rattle.hp_meaning.proofs.FineFrames.{nrow_as}
use Rattle.hp_meaning.proofs.FineLists.{fill_as, vcat_as, length_as, fold_as, count_as, cumsum_as, row_as}
use Rattle.hp_meaning.proofs.FineWords.{scalar_as}
use Rattle.hp_meaning.proofs.FrameCalls.{stack_safe, frame_safe, part_columns, read_safe, filter_safe, join_safe, sort_safe, aggregate_safe}
use Rattle.hp_meaning.proofs.Parts.{finds, Found, Supplies, a_value, Agree, end, more}
use Rattle.hp_meaning.proofs.ReadNames.{reads, no_file}
use Rattle.hp_meaning.proofs.Safe.{Safe, SafeAs}
use Rattle.hp_meaning.proofs.SafeForms.{Flips, flips, flips_not}

-- ---- counts

pub parts_many : (g : Supply) (xs : Args) → length (parts g xs) ≡ count_of xs
unfolding parts
parts_many g none = refl
parts_many g (plain x xs) = ap suc (parts_many g xs)
parts_many g (range x y xs) = ap suc (parts_many g xs)
parts_many g (lambda p x xs) = ap suc (parts_many g xs)
parts_many g (named name at x xs) = ap suc (parts_many g xs)

-- ---- functions with several arguments

abbrev pub behind_first : List Part → List Part
behind_first [] = []
behind_first (part ∷ parts) = parts

stack_call : {s : Scope} {later : List Argument} (ps : List Part) (h : Head) → nat_le 1 (length ps) ≡ true → Agree s function.Stack [] later ps
    → SafeAs s (some_if (are_arrays later) shape.Matrix) (λ v n. followed (rows_among ps v n) (λ rows. ended (stacked h.at rows)))
stack_call [] h count agree = absurd cc
stack_call (part ∷ ps) h count agree = stack_safe h.at agree

frame_call : {s : Scope} {later : List Argument} (ps : List Part) (h : Head) → nat_le 1 (length ps) ≡ true → Agree s function.DataFrame [] later ps
    → SafeAs s (call_result function.DataFrame false later) (λ v n. followed (columns_meant ps v n) (λ columns. ended (framed h.at columns)))
unfolding call_result
frame_call [] h count agree = absurd cc
frame_call (part ∷ ps) h count agree = frame_safe h.at agree

read_call : {s : Scope} {later : List Argument} (g : Supply) (ps : List Part) (id : ℕ) → nat_le 2 (length ps) ≡ true → Agree s function.ReadCsv [] later ps → Found (finds g) id (length (part_columns (behind_first ps)))
    → SafeAs s (read_result later) (λ v n. table_read g id ps n)
read_call g [] id count agree there = absurd cc
read_call g (x ∷ []) id count agree there = absurd cc
read_call g (x ∷ y ∷ ps) id count agree there = read_safe g id agree there

aggregated_call : {s : Scope} {later : List Argument} (g : Supply) (ps : List Part) → nat_le 3 (length ps) ≡ true → Agree s function.Aggregate [] later ps
    → SafeAs s (aggregate_result later) (λ v n. aggregate_call g ps v n)
aggregated_call g [] count agree = absurd cc
aggregated_call g (x ∷ []) count agree = absurd cc
aggregated_call g (x ∷ y ∷ []) count agree = absurd cc
aggregated_call g (x ∷ y ∷ part ∷ ps) count agree = aggregate_safe g agree

-- ---- all functions

abbrev pub is_map : Function → Bool
is_map function.Map = true
is_map _ = false

pub called_safe : {s : Scope} {later : List Argument} (g : Supply) (f : Function) (h : Head) (dotted : Bool) (ps : List Part) → is_transpose f ≡ false → is_map f ≡ false → takes_count f (length ps) ≡ true
    → Agree s f [] later ps → (reads f ≡ true → Found (finds g) h.id (length (part_columns (behind_first ps)))) → SafeAs s (call_result f dotted later) (λ v n. called_as g f h dotted ps v n)
unfolding call_result called_as inside
called_safe g (function.Scalar k) h dotted ps t m count agree there = two_safe (arithmetic_result dotted) (scalar_value k dotted h.at) (λ b. refl) (λ ka kb a b x y. scalar_as k dotted h.at x y) agree
called_safe g (function.Fold kind) h dotted ps t m count agree there = one_safe (fold_result kind) (folded kind h.at) (λ b. refl) (λ k a x. fold_as kind h.at x) agree
called_safe g function.Count h dotted ps t m count agree there = one_safe (of_bools shape.Int) counted (λ b. refl) (λ k a x. count_as x) agree
called_safe g function.Length h dotted ps t m count agree there = one_safe length_result length_value (λ b. refl) (λ k a x. length_as x) agree
called_safe g function.Fill h dotted ps t m count agree there = two_safe fill_result (filled h.at) (λ b. refl) (λ ka kb a b x y. fill_as h.at x y) agree
called_safe g function.Collect h dotted ps t m count agree there = collect_safe h.at agree
called_safe g function.Cumsum h dotted ps t m count agree there = one_safe (of_ints shape.Ints) summed (λ b. refl) (λ k a x. cumsum_as x) agree
called_safe g function.Map h dotted ps t m count agree there = absurd cc
called_safe g function.Stencil h dotted ps t m count agree there = stencil_safe agree
called_safe g function.Vcat h dotted ps t m count agree there = two_safe vcat_result (concatenated h.at) (λ b. refl) (λ ka kb a b x y. vcat_as h.at x y) agree
called_safe g function.DataFrame h dotted ps t m count agree there = frame_call ps h count agree
called_safe g function.ReadCsv h dotted ps t m count agree there = read_call g ps h.id count agree (there refl)
called_safe g function.Nrow h dotted ps t m count agree there = one_safe nrow_result rows_value (λ b. refl) (λ k a x. nrow_as x) agree
called_safe g function.Filter h dotted ps t m count agree there = filter_safe h.at agree
called_safe g function.Join h dotted ps t m count agree there = join_safe g h.at agree
called_safe g function.Aggregate h dotted ps t m count agree there = aggregated_call g ps count agree
called_safe g function.Sort h dotted ps t m count agree there = sort_safe agree
called_safe g function.Stack h dotted ps t m count agree there = stack_call ps h count agree
called_safe g function.Row h dotted ps t m count agree there = two_safe row_result (row_value h.at) (λ b. refl) (λ ka kb a b x y. row_as h.at x y) agree
called_safe g function.Transpose h dotted ps t m count agree there = absurd cc

-- ---- what is transposed

matrix_flips : {s : Scope} {m : Meaning} (kind : Shape) → Safe s kind m → Flips s (matrix_result kind) (Some m)
matrix_flips shape.Matrix x = flips x
matrix_flips _ x = flips_not

pub transpose_flips : {s : Scope} {later : List Argument} {ps : List Part} → Agree s function.Transpose [] later ps → Flips s (one_value matrix_result later) (transposed_part (Some function.Transpose) ps)
unfolding inside
transpose_flips (more (a_value {kind = kind} x) end) = matrix_flips kind x
transpose_flips _ = flips_not

-- ---- files

-- the names of columns that a call of `read_csv` has
abbrev pub read_columns : Args → List Name
read_columns (plain x xs) = columns_among xs
read_columns _ = []

columns_meant_same : (g : Supply) (xs : Args) → part_columns (parts g xs) ≡ columns_among xs
unfolding parts
columns_meant_same g none = refl
columns_meant_same g (plain (trees.column h c) xs) = ap (λ names. labelled c ∷ names) (columns_meant_same g xs)
columns_meant_same g (plain _ xs) = columns_meant_same g xs
columns_meant_same g (range x y xs) = columns_meant_same g xs
columns_meant_same g (lambda p x xs) = columns_meant_same g xs
columns_meant_same g (named name at x xs) = columns_meant_same g xs

-- the first argument is a text
pub data FirstText : Args → Type 0 where
  first_text : {h : Head} {bytes : List ℕ} {xs : Args} → FirstText (plain (trees.text h bytes) xs)

pub found_columns : {find : ℕ → Option Table} {id : ℕ} {xs : Args} (g : Supply) → FirstText xs → Found find id (length (read_columns xs)) → Found find id (length (part_columns (behind_first (parts g xs))))
unfolding parts
found_columns {find} {id} g (first_text {xs = xs}) there = subst (λ columns. Found find id (length columns)) (sym (columns_meant_same g xs)) there

-- a call that reads takes the first table and file
pub record Served (find : ℕ → Option Table) (f : Function) (id : ℕ) (xs : Args) (ids : List ℕ) (files : List ReadSpec) : Type 0 where
  pub there : reads f ≡ true → Found find id (length (read_columns xs))
  pub rest : Supplies find ids files

served_yes : (find : ℕ → Option Table) (name : List ℕ) (dotted : Bool) (id : ℕ) (ids : List ℕ) (files : List ReadSpec) {xs : Args} → FirstText xs → is_read name dotted ≡ true
    → Supplies find (cond (is_read name dotted) (id ∷ []) [] ++ ids) (file_of_call name dotted xs ++ files) → Found find id (length (read_columns xs)) × Supplies find ids files
served_yes find name true id ids files text e supplies = absurd cc
served_yes find name false id ids files (first_text {bytes = bytes} {xs = xs}) e supplies =
    subst (λ b. Supplies find (cond b (id ∷ []) [] ++ ids) (cond b (record { file = labelled bytes; columns = columns_among xs } ∷ []) [] ++ files)) e supplies

served_no : (find : ℕ → Option Table) (name : List ℕ) (dotted : Bool) (id : ℕ) (xs : Args) (ids : List ℕ) (files : List ReadSpec) → is_read name dotted ≡ false
    → Supplies find (cond (is_read name dotted) (id ∷ []) [] ++ ids) (file_of_call name dotted xs ++ files) → Supplies find ids files
served_no find name dotted id xs ids files e supplies =
    subst₂ (λ b own. Supplies find (cond b (id ∷ []) [] ++ ids) (own ++ files)) e (no_file name dotted xs e) supplies

pub served : (find : ℕ → Option Table) (f : Function) (name : List ℕ) (dotted : Bool) (id : ℕ) (xs : Args) (ids : List ℕ) (files : List ReadSpec) (own : Bool) → reads f ≡ own → is_read name dotted ≡ own → (reads f ≡ true → FirstText xs)
    → Supplies find (cond (is_read name dotted) (id ∷ []) [] ++ ids) (file_of_call name dotted xs ++ files) → Served find f id xs ids files
served find f name dotted id xs ids files true is_own e text supplies =
    let both = served_yes find name dotted id ids files (text is_own) e supplies in
    record { there = λ h. both.0; rest = both.1 }
served find f name dotted id xs ids files false is_own e text supplies =
    record { there = λ h. absurd cc; rest = served_no find name dotted id xs ids files e supplies }

-- the tables and files of the parts, one after the other
pub supplies_apart : (find : ℕ → Option Table) (as_ids bs ids : List ℕ) (as_files cs files : List ReadSpec) → Supplies find ((as_ids ++ bs) ++ ids) ((as_files ++ cs) ++ files) → Supplies find (as_ids ++ (bs ++ ids)) (as_files ++ (cs ++ files))
supplies_apart find as_ids bs ids as_files cs files h = subst₂ (λ xs ys. Supplies find xs ys) (append_assoc as_ids bs ids) (append_assoc as_files cs files) h

-- ---- the file of a call that has a result

data IsText : Argument → Type 0 where
  is_text : {name : Name} → IsText (argument.Text name)

read_text : (x : Argument) (later all : List Argument) → all ≡ x ∷ later → IsSome (read_result all) → IsText x
read_text x later all e some = read_first x later (subst (λ xs. IsSome (read_result xs)) e some)
  where
    read_first : (x : Argument) (later : List Argument) → IsSome (read_result (x ∷ later)) → IsText x
    read_first (argument.Text name) later h = is_text
    read_first _ later h = absurd cc

begins_with : (s : Scope) (at : Place) (f : Function) (a : Argument) (before : List Argument) (xs : Args) → (later : List Argument) × (arguments s at f (a ∷ before) xs ≡ a ∷ later)
unfolding finds_of in_turn
begins_with s at f a before none = (before, refl)
begins_with s at f a before (plain x xs) = begins_with s at f a (before ++ plain_argument (wanted f (a ∷ before)) x (shape_of (inside s f (a ∷ before)) x) ∷ []) xs
begins_with s at f a before (range x y xs) = begins_with s at f a (before ++ range_argument (shape_of s x) (shape_of s y) ∷ []) xs
begins_with s at f a before (lambda p x xs) = begins_with s at f a (before ++ lambda_argument (shape_of (with_parameter s p (role_wanted (wanted f (a ∷ before)))) x) ∷ []) xs
begins_with s at f a before (named name place x xs) = begins_with s at f a (before ++ named_argument (wanted f (a ∷ before)) name x (shape_of (inside s f (a ∷ before)) x) ∷ []) xs

no_text_value : (found : Option Shape) → IsText (value_or_misfit found) → ⊥
no_text_value (Some k) h = elim h [ ]
no_text_value None h = elim h [ ]

no_text_range : (a b : Option Shape) → IsText (range_argument a b) → ⊥
no_text_range (Some shape.Int) (Some shape.Int) h = elim h [ ]
no_text_range (Some shape.Int) (Some _) h = elim h [ ]
no_text_range (Some shape.Int) None h = elim h [ ]
no_text_range _ _ h = elim h [ ]

no_text_lambda : (found : Option Shape) → IsText (lambda_argument found) → ⊥
no_text_lambda (Some k) h = elim h [ ]
no_text_lambda None h = elim h [ ]

no_text_given : (name : List ℕ) (found : Option Shape) → IsText (given_or_misfit name found) → ⊥
no_text_given name (Some k) h = elim h [ ]
no_text_given name None h = elim h [ ]

text_argument : (x : Tree) (xs : Args) (found : Option Shape) → IsText (plain_argument a_text x found) → FirstText (plain x xs)
unfolding plain_argument
text_argument (trees.text h bytes) xs found t = first_text
text_argument _ xs found t = absurd (no_text_value found t)

pub first_is_text : (s : Scope) (at : Place) (dotted : Bool) (xs : Args) → IsSome (call_result function.ReadCsv dotted (arguments s at function.ReadCsv [] xs)) → FirstText xs
unfolding call_result finds_of in_turn wanted inside named_argument
first_is_text s at dotted none some = absurd cc
first_is_text s at dotted (plain x xs) some =
    let begins = begins_with s at function.ReadCsv (plain_argument a_text x (shape_of s x)) [] xs in
    text_argument x xs (shape_of s x) (read_text _ begins.0 _ begins.1 some)
first_is_text s at dotted (range x y xs) some =
    let begins = begins_with s at function.ReadCsv (range_argument (shape_of s x) (shape_of s y)) [] xs in
    absurd (no_text_range (shape_of s x) (shape_of s y) (read_text _ begins.0 _ begins.1 some))
first_is_text s at dotted (lambda p x xs) some =
    let begins = begins_with s at function.ReadCsv (lambda_argument (shape_of (with_parameter s p (role_wanted a_text)) x)) [] xs in
    absurd (no_text_lambda (shape_of (with_parameter s p (role_wanted a_text)) x) (read_text _ begins.0 _ begins.1 some))
first_is_text s at dotted (named name place x xs) some =
    let begins = begins_with s at function.ReadCsv (given_or_misfit name (shape_of s x)) [] xs in
    absurd (no_text_given name (shape_of s x) (read_text _ begins.0 _ begins.1 some))
