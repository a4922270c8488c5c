-- Each value that an expression comes to is of arrays that have at most as many elements as an array may have, where those of
-- the variables and of the frame around are such.
use Rattle.std.proofs.Common.{◌≡◌, ℕ, ℤ, Bool, true, false, cond, List, [], ◌∷◌, map, Option, Some, None, subst}
use Rattle.std.proofs.lemmas.Option.{same_Some}
use Rattle.std.specs.List.{AllByRecursion}
use Rattle.hp_word.specs.declared.place.Place.{Place}
use Rattle.hp_word.specs.MatrixRules.{transposed}
use Rattle.hp_script.specs.declared.function.Function.{Function}
use Rattle.hp_script.specs.declared.function.Function.TheVariants as functions
use Rattle.hp_script.specs.declared.tree.BinOp.{BinOp}
use Rattle.hp_script.specs.Functions.{function_named}
use Rattle.hp_script.specs.Mirror.{Head, Tree, Args, number, truth, text, variable, column, field, unary, binary, index, call, none, plain, range, lambda, named}
use Rattle.hp_meaning.specs.declared.seen.Seen.{Seen}
use Rattle.hp_meaning.specs.declared.value.Column.{Column}
use Rattle.hp_meaning.specs.declared.value.Kind.TheVariants.{Number, Truth}
use Rattle.hp_meaning.specs.declared.value.Value.{Value}
use Rattle.hp_meaning.specs.declared.value.Value.TheVariants.{Word, List as Listed, Matrix, Frame}
use Rattle.hp_meaning.specs.FrameRules.{Measured, field_value, sorted_value, rows_value, rows_of, tabled}
use Rattle.hp_meaning.specs.MatrixRules.{multiplied, flipped_value}
use Rattle.hp_meaning.specs.Operands.{as_truth, as_numbers, as_matrix, as_frame}
use Rattle.hp_meaning.specs.Outcomes.{Answer, Gives, given, Course, Is, Wrong, tick, Outcome, followed, ended}
use Rattle.hp_meaning.specs.ReadCalls.{table_for}
use Rattle.hp_meaning.specs.Scopes.{Scope, value_named, within}
use Rattle.hp_meaning.specs.ValueOf.{Supply, Meaning, Part, Plain, Range, Lambda, Named, as_written, one, two, ends, with_lambda, rows_among, columns_among, names_in, measures_in, column_name, is_text, table_read, filter_call, join_in, join_call, grouped_by, aggregate_call, sort_call, called_as, called, is_product, undotted_value, operator_value, second_side, lazily, strict_operands, lazy_operands, flipped_operands, operated, index_operands, transposed_part, column_value, value, parts, flipped}
use Rattle.hp_meaning.specs.WordRules.{is_lazy, decides, decision}
use Rattle.hp_flat.proofs.ShortColumns.{field_short, framed_short, tabled_short, filtered_short, sorted_short}
use Rattle.hp_flat.proofs.ShortFrames.{join_short, group_short}
use Rattle.hp_flat.proofs.ShortLists.{given_only, only_if, filled_short, collected_short, concatenated_short, length_short, folded_short, counted_short, summed_short, indexed_short, unary_short, plain_short, dotted_short, scalar_short, mapped_short, stencilled_short, list_of, followed_only, ended_only, needed_only}
use Rattle.hp_flat.proofs.ShortMatrices.{stacked_short, row_short, multiplied_short}
use Rattle.hp_flat.proofs.ShortScopes.{IsShort, AreShortColumns, ShortScope, OnlyGives, gives_such, refuses_so, Only, is_such, stops_so, wrong_so}

-- ---- outcomes

if_only : {N A : Type 0} {P : A → Type 0} {a b : Course N A} (holds : Bool) → Only P a → Only P b → Only P (cond holds a b)
if_only true p q = p
if_only false p q = q

any_outcome : {N A : Type 0} (course : Course N A) → Only (λ a. Unit {0}) course
any_outcome (Is a n) = is_such tt
any_outcome (Course.Stops t n) = stops_so
any_outcome Wrong = wrong_so

-- ---- meanings

-- what comes to short values wherever the scope is short
abbrev MeansShort : Meaning → Type 0
MeansShort m = (v : Scope) (n : Seen) → ShortScope v → Only IsShort (m v n)

-- of an operand that is made into an answer, and of two
of_one : {m : Meaning} (rule : Value → Answer Value) → MeansShort m → ((a : Value) → IsShort a → OnlyGives IsShort (rule a)) → (v : Scope) (n : Seen) → ShortScope v → Only IsShort (followed (m v n) (λ a. ended (rule a)))
of_one rule first each v n short = followed_only _ (first v n short) (λ a k few. ended_only k (each a few))

of_two : {m k : Meaning} (rule : Value → Value → Answer Value) → MeansShort m → MeansShort k → ((a b : Value) → IsShort a → IsShort b → OnlyGives IsShort (rule a b)) → (v : Scope) (n : Seen) → ShortScope v
    → Only IsShort (followed (m v n) (λ a n. followed (k v n) (λ b. ended (rule a b))))
of_two rule first second each v n short = followed_only _ (first v n short) (λ a i few. followed_only _ (second v i short) (λ b j less. ended_only j (each a b few less)))

abbrev PartIsShort : Part → Type 0
PartIsShort (Plain x m) = MeansShort m
PartIsShort (Range m k) = MeansShort m × MeansShort k
PartIsShort (Lambda p body) = Unit {0}
PartIsShort (Named name x m) = MeansShort m

abbrev AreShortParts : List Part → Type 0
AreShortParts ps = AllByRecursion PartIsShort ps

-- ---- arguments

one_short : (ps : List Part) → AreShortParts ps → (rule : Value → Answer Value) → ((a : Value) → IsShort a → OnlyGives IsShort (rule a)) → (v : Scope) (n : Seen) → ShortScope v → Only IsShort (one ps v n rule)
unfolding one
one_short (Plain x m ∷ []) short rule each v n scope = of_one rule short.0 each v n scope
one_short _ short rule each v n scope = wrong_so

two_short : (ps : List Part) → AreShortParts ps → (rule : Value → Value → Answer Value) → ((a b : Value) → IsShort a → IsShort b → OnlyGives IsShort (rule a b)) → (v : Scope) (n : Seen) → ShortScope v → Only IsShort (two ps v n rule)
unfolding two
two_short (Plain x m ∷ Plain y k ∷ []) short rule each v n scope = of_two rule short.0 short.1.0 each v n scope
two_short _ short rule each v n scope = wrong_so

ends_short : (ps : List Part) → AreShortParts ps → (rule : Value → Value → Answer Value) → ((a b : Value) → IsShort a → IsShort b → OnlyGives IsShort (rule a b)) → (v : Scope) (n : Seen) → ShortScope v → Only IsShort (ends ps v n rule)
unfolding ends
ends_short (Range m k ∷ []) short rule each v n scope = of_two rule short.0.0 short.0.1 each v n scope
ends_short _ short rule each v n scope = wrong_so

lambda_short : (ps : List Part) → AreShortParts ps → (rule : List ℕ → Tree → Value → Answer Value) → ((p : List ℕ) (body : Tree) (a : Value) → IsShort a → OnlyGives IsShort (rule p body a)) → (v : Scope) (n : Seen) → ShortScope v
    → Only IsShort (with_lambda ps v n rule)
unfolding with_lambda
lambda_short (Lambda p body ∷ Plain x m ∷ []) short rule each v n scope = of_one (rule p body) short.1.0 (each p body) v n scope
lambda_short _ short rule each v n scope = wrong_so

-- columns that are given
columns_short : (ps : List Part) → AreShortParts ps → (v : Scope) (n : Seen) → ShortScope v → Only AreShortColumns (columns_among ps v n)
unfolding columns_among
columns_short [] short v n scope = is_such tt
columns_short (Named name x m ∷ rest) short v n scope =
    followed_only _ (short.0 v n scope) (λ a i few.
    needed_only (as_numbers a) _ (λ xs found.
    followed_only _ (columns_short rest short.1 v i scope) (λ columns j all. is_such (list_of Number a xs found few, all))))
columns_short (Plain x m ∷ rest) short v n scope = wrong_so
columns_short (Range m k ∷ rest) short v n scope = wrong_so
columns_short (Lambda p body ∷ rest) short v n scope = wrong_so

-- ---- calls

read_short : (g : Supply) (id : ℕ) (ps : List Part) (n : Seen) → Only IsShort (table_read g id ps n)
unfolding table_read
read_short g id (Plain x m ∷ y ∷ rest) n = if_only (is_text x) (by_names (names_in (map as_written (y ∷ rest)))) wrong_so
  where
    by_names : (found : Option (List (List ℕ))) → Only IsShort (elim found [ None ↦ Wrong | Some names ↦ ended (tabled names (table_for g.reads id g.tables)) n ])
    by_names None = wrong_so
    by_names (Some names) = ended_only n (tabled_short names (table_for g.reads id g.tables))
read_short g id _ n = wrong_so

-- the mask of a filter sees the columns of its frame
within_short : (columns : List Column) (v : Scope) → AreShortColumns columns → ShortScope v → ShortScope (within columns v)
within_short columns v few scope = record { vars = scope.vars; frame = λ other same. subst AreShortColumns (same_Some columns other same) few }

frame_of : (a : Value) (columns : List Column) → as_frame a ≡ Some columns → IsShort a → AreShortColumns columns
frame_of (Frame own) columns found few = subst AreShortColumns (same_Some own columns found) few
frame_of (Word kind x) columns found few = absurd cc
frame_of (Listed kind xs) columns found few = absurd cc
frame_of (Matrix m) columns found few = absurd cc

filter_short : (at : Place) (ps : List Part) → AreShortParts ps → (v : Scope) (n : Seen) → ShortScope v → Only IsShort (filter_call at ps v n)
unfolding filter_call
filter_short at (Plain x m ∷ Plain y mask ∷ []) short v n scope =
    followed_only _ (short.0 v n scope) (λ a i few.
    needed_only (as_frame a) _ (λ columns found.
    followed_only _ (short.1.0 (within columns v) i (within_short columns v (frame_of a columns found few) scope)) (λ b j less. ended_only j (filtered_short at columns b (frame_of a columns found few)))))
filter_short at _ short v n scope = wrong_so

joining_short : (g : Supply) (at : Place) (ps : List Part) → AreShortParts ps → (v : Scope) (n : Seen) → ShortScope v → Only IsShort (join_call g at ps v n)
unfolding join_call
joining_short g at (Plain x m ∷ Plain y k ∷ Plain z j ∷ []) short v n scope = by_key (column_name z)
  where
    by_key : (found : Option (List ℕ)) → Only IsShort (elim found [ None ↦ Wrong | Some key ↦ followed (m v n) (λ a n. followed (k v n) (join_in g at key a)) ])
    by_key None = wrong_so
    by_key (Some key) = followed_only _ (short.0 v n scope) (λ a i few. followed_only _ (short.1.0 v i scope) (λ b j less. join_short g at key a b j))
joining_short g at _ short v n scope = wrong_so

grouped_short : (g : Supply) (key : Option (List ℕ)) (measures : Option (List Measured)) {first : Outcome Value} → Only IsShort first → Only IsShort (grouped_by g key measures first)
grouped_short g (Some key) (Some (m ∷ ms)) first = followed_only _ first (λ a n few. group_short g key (m ∷ ms) a n few)
grouped_short g _ _ first = wrong_so

aggregate_short : (g : Supply) (ps : List Part) → AreShortParts ps → (v : Scope) (n : Seen) → ShortScope v → Only IsShort (aggregate_call g ps v n)
unfolding aggregate_call
aggregate_short g (Plain x m ∷ Plain y k ∷ rest) short v n scope = grouped_short g (column_name y) (measures_in (map as_written rest)) (short.0 v n scope)
aggregate_short g _ short v n scope = wrong_so

sorting_short : (ps : List Part) → AreShortParts ps → (v : Scope) (n : Seen) → ShortScope v → Only IsShort (sort_call ps v n)
unfolding sort_call
sorting_short (Plain x m ∷ Plain y k ∷ []) short v n scope = by_key (column_name y)
  where
    by_key : (found : Option (List ℕ)) → Only IsShort (elim found [ None ↦ Wrong | Some key ↦ followed (m v n) (λ a. ended (sorted_value key a)) ])
    by_key None = wrong_so
    by_key (Some key) = of_one (sorted_value key) short.0 (sorted_short key) v n scope
sorting_short _ short v n scope = wrong_so

rows_short : (a : Value) → OnlyGives IsShort (rows_value a)
unfolding rows_value
rows_short a = given_only (as_frame a) (λ columns. Gives (Word Number (ℤ.pos (rows_of columns)))) (λ columns found. gives_such tt)

-- a call of a function
function_short : (g : Supply) (f : Function) (h : Head) (dotted : Bool) (ps : List Part) → AreShortParts ps → (v : Scope) (n : Seen) → ShortScope v → Only IsShort (called_as g f h dotted ps v n)
unfolding called_as
function_short g (functions.Scalar f) h dotted ps short v n scope = two_short ps short _ (scalar_short f dotted h.at) v n scope
function_short g (functions.Fold kind) h dotted ps short v n scope = one_short ps short _ (λ a few. folded_short kind h.at a) v n scope
function_short g functions.Count h dotted ps short v n scope = one_short ps short _ (λ a few. counted_short a) v n scope
function_short g functions.Length h dotted ps short v n scope = one_short ps short _ (λ a few. length_short a) v n scope
function_short g functions.Fill h dotted ps short v n scope = two_short ps short _ (λ a b few less. filled_short h.at a b) v n scope
function_short g functions.Collect h dotted ps short v n scope = ends_short ps short _ (λ a b few less. collected_short h.at a b) v n scope
function_short g functions.Cumsum h dotted ps short v n scope = one_short ps short _ summed_short v n scope
function_short g functions.Map h dotted ps short v n scope = lambda_short ps short _ (mapped_short v.vars) v n scope
function_short g functions.Stencil h dotted ps short v n scope = lambda_short ps short _ (stencilled_short v.vars) v n scope
function_short g functions.Vcat h dotted ps short v n scope = two_short ps short _ (λ a b few less. concatenated_short h.at a b) v n scope
function_short g functions.DataFrame h dotted ps short v n scope = followed_only _ (columns_short ps short v n scope) (λ columns k few. ended_only k (framed_short h.at columns few))
function_short g functions.ReadCsv h dotted ps short v n scope = read_short g h.id ps n
function_short g functions.Nrow h dotted ps short v n scope = one_short ps short _ (λ a few. rows_short a) v n scope
function_short g functions.Filter h dotted ps short v n scope = filter_short h.at ps short v n scope
function_short g functions.Join h dotted ps short v n scope = joining_short g h.at ps short v n scope
function_short g functions.Aggregate h dotted ps short v n scope = aggregate_short g ps short v n scope
function_short g functions.Sort h dotted ps short v n scope = sorting_short ps short v n scope
function_short g functions.Stack h dotted ps short v n scope = followed_only _ (any_outcome (rows_among ps v n)) (λ rows k any. ended_only k (stacked_short h.at rows))
function_short g functions.Row h dotted ps short v n scope = two_short ps short _ (λ a b few less. row_short h.at a b few) v n scope
function_short g functions.Transpose h dotted ps short v n scope = wrong_so

call_short : (g : Supply) (f : Option Function) (h : Head) (dotted : Bool) (ps : List Part) → AreShortParts ps → (v : Scope) (n : Seen) → ShortScope v → Only IsShort (called g f h dotted ps v n)
call_short g (Some f) h dotted ps short v n scope = function_short g f h dotted ps short v n scope
call_short g None h dotted ps short v n scope = wrong_so

-- ---- operators

undotted_short : (at : Place) (op : BinOp) (a b : Value) → OnlyGives IsShort (undotted_value at op a b)
undotted_short at op (Matrix m) b = only_if (is_product op false) (given_only (as_matrix b) (multiplied at m) (λ k found. multiplied_short at m k)) refuses_so
undotted_short at op (Word kind x) b = plain_short at op (Word kind x) b
undotted_short at op (Listed kind xs) b = plain_short at op (Listed kind xs) b
undotted_short at op (Frame columns) b = plain_short at op (Frame columns) b

operator_short : (at : Place) (op : BinOp) (dotted : Bool) (a b : Value) → IsShort a → IsShort b → OnlyGives IsShort (operator_value at op dotted a b)
unfolding operator_value
operator_short at op false a b few less = undotted_short at op a b
operator_short at op true a b few less = dotted_short at op a b few less

flips_short : (at : Place) (a b : Value) → OnlyGives IsShort (flipped_value at a b)
unfolding flipped_value
flips_short at a b = given_only (as_matrix a) (λ m. given (as_matrix b) (λ n. multiplied at m (transposed n))) (λ m found. given_only (as_matrix b) (λ n. multiplied at m (transposed n)) (λ n other. multiplied_short at m (transposed n)))

side_short : (a : Value) (n : Seen) → Only IsShort (second_side a n)
side_short a n = needed_only (as_truth a) (λ x. Is (Word Truth x) n) (λ x found. is_such tt)

lazy_short : (op : BinOp) (a : Value) {second : Meaning} → MeansShort second → (v : Scope) (n : Seen) → ShortScope v → Only IsShort (lazily op a second v n)
unfolding lazily
lazy_short op a {second = second} short v n scope =
    needed_only (as_truth a) (λ x. cond (decides op x) (Is (Word Truth (decision op)) n) (followed (second v n) second_side)) (λ x found.
    if_only (decides op x) (is_such tt) (followed_only second_side (short v n scope) (λ b k few. side_short b k)))

-- what there may be behind `transpose`
abbrev FlippedShort : Option Meaning → Type 0
FlippedShort (Some m) = MeansShort m
FlippedShort None = Unit {0}

operated_short : (at : Place) (op : BinOp) (dotted : Bool) {first second : Meaning} (found : Option Meaning) → MeansShort first → MeansShort second → FlippedShort found → MeansShort (operated at op dotted first second found)
unfolding operated flipped_operands strict_operands lazy_operands
operated_short at op dotted (Some m) first second third v n scope = of_two (flipped_value at) first third (λ a b few less. flips_short at a b) v n scope
operated_short at op dotted None first second third v n scope =
    if_only (is_lazy op) (if_only dotted wrong_so (followed_only _ (first v n scope) (λ a k few. lazy_short op a second v k scope)))
    (of_two (operator_value at op dotted) first second (operator_short at op dotted) v n scope)

flipped_if : (b : Bool) (found : Option Meaning) → FlippedShort found → FlippedShort (cond b found None)
flipped_if true found short = short
flipped_if false found short = tt

part_flipped : (f : Option Function) (ps : List Part) → AreShortParts ps → FlippedShort (transposed_part f ps)
part_flipped (Some functions.Transpose) (Plain x m ∷ []) short = short.0
part_flipped _ _ short = tt

indexed_operands : (at : Place) {first second : Meaning} → MeansShort first → MeansShort second → MeansShort (index_operands at first second)
unfolding index_operands
indexed_operands at first second v n scope = of_two _ first second (λ a b few less. indexed_short at a b less) v n scope

-- ---- names

column_short : (c : List ℕ) (v : Scope) → ShortScope v → OnlyGives IsShort (column_value c v.frame)
unfolding column_value
column_short c v scope = given_only v.frame (λ columns. field_value c (Frame columns)) (λ columns found. field_short c (Frame columns) (scope.frame columns found))

-- ---- expressions

mutual
  unfolding value parts flipped

  pub short_value : (g : Supply) (x : Tree) (v : Scope) (n : Seen) → ShortScope v → Only IsShort (value g x v n)
  short_value g (number h z) v n scope = is_such tt
  short_value g (truth h holds) v n scope = is_such tt
  short_value g (text h bytes) v n scope = wrong_so
  short_value g (variable h name) v n scope = ended_only (tick n) (given_only (value_named name v.vars) Gives (λ a found. gives_such (scope.vars name a found)))
  short_value g (column h c) v n scope = ended_only (tick n) (column_short c v scope)
  short_value g (field h name c) v n scope = ended_only (tick n) (given_only (value_named name v.vars) (field_value c) (λ a found. field_short c a (scope.vars name a found)))
  short_value g (unary h op dotted x) v n scope = of_one _ (λ w k short. short_value g x w k short) (unary_short op dotted) v (tick n) scope
  short_value g (binary h op dotted x y) v n scope =
      operated_short h.at op dotted (cond (is_product op dotted) (flipped g y) None) (λ w k short. short_value g x w k short) (λ w k short. short_value g y w k short)
      (flipped_if (is_product op dotted) (flipped g y) (short_flipped g y)) v (tick n) scope
  short_value g (index h x i) v n scope = indexed_operands h.at (λ w k short. short_value g x w k short) (λ w k short. short_value g i w k short) v (tick n) scope
  short_value g (call h name dotted xs) v n scope = call_short g (function_named dotted name) h dotted (parts g xs) (short_parts g xs) v (tick n) scope

  short_parts : (g : Supply) (xs : Args) → AreShortParts (parts g xs)
  short_parts g none = tt
  short_parts g (plain x xs) = (λ w k short. short_value g x w k short, short_parts g xs)
  short_parts g (range x y xs) = ((λ w k short. short_value g x w k short, λ w k short. short_value g y w k short), short_parts g xs)
  short_parts g (lambda p body xs) = (tt, short_parts g xs)
  short_parts g (named name at x xs) = (λ w k short. short_value g x w k short, short_parts g xs)

  short_flipped : (g : Supply) (x : Tree) → FlippedShort (flipped g x)
  short_flipped g (call h name dotted xs) = part_flipped (function_named dotted name) (parts g xs) (short_parts g xs)
  short_flipped g _ = tt
