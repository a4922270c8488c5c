-- An expression that passes the tests, and has a type by them, has it by the relation.
use Rattle.std.proofs.Common.{◌≡◌, ℕ, ℤ, pos, Bool, true, false, not, ◌&&◌, ◌||◌, if◌then◌else◌, List, [], codes, int_le, Option, Some, None, refl, sym, ap, ◌∙◌, subst, is_some, negsuc}
use Rattle.std.specs.Option.{option_or}
use Rattle.hp_word.specs.declared.name.Name.{Name}
use Rattle.hp_word.specs.declared.place.Place.{Place}
use Rattle.hp_script.specs.declared.tree.UnOp.{UnOp}
use Rattle.hp_script.specs.declared.tree.UnOp.TheVariants.{Neg, Not}
use Rattle.hp_script.specs.declared.tree.BinOp.{BinOp}
use Rattle.hp_script.specs.declared.tree.BinOp.TheVariants.{Or, And, Eq, Ne, Lt, Le, Gt, Ge, Add, Sub, BitOr, Mul, BitAnd}
use Rattle.hp_script.specs.declared.typed.Shape.{Shape}
use Rattle.hp_script.specs.declared.typed.Shape.TheVariants.{Int, Bool as Truth, Ints, Bools, Matrix, Frame}
use Rattle.hp_script.specs.declared.rule.Refusal.{Refusal}
use Rattle.hp_script.specs.declared.rule.Rule.TheVariants.{UnknownName, MaybeUnset, WrongType, UnknownColumn, WrongCount, ReachTooWide}
use Rattle.hp_script.specs.declared.function.ScalarFunction.{ScalarFunction}
use Rattle.hp_script.specs.declared.function.Function.{Function}
use Rattle.hp_script.specs.declared.function.Function.TheVariants as function
use Rattle.hp_script.specs.Breaks.{unless, variable_break, is_scalar, name_break, is_frame, frame_has, field_break, column_break, place_of, distance_of, reach_break, is_transpose_call, is_flipped, with_function, call_break, count_of}
use Rattle.hp_script.specs.Functions.{function_named, takes_count, scalar_named, fold_named, array_named}
use Rattle.hp_script.specs.Mirror.{Head, Tree, Args, number, truth, text, variable, column, field, unary, binary, index, call, none, plain, range, lambda, named}
use Rattle.hp_script.specs.Results.{of_both, unary_result, binary_result, index_result, are_numbers, are_truths, are_matrices, spreads_numbers, spreads_truths, some_if, product_result, call_result}
use Rattle.hp_script.specs.Scope.{Role, element, window, Scope, has_column, shape_among, role_of, is_in_lambda}
use Rattle.hp_script.specs.Shaped.{IsScalar, scalar_number, scalar_truth, IsArithmetic, addition, subtraction, multiplication, IsComparison, equal, not_equal, less, at_most, greater, at_least, IsLogic, conjunction, disjunction, IsMask, mask_conjunction, mask_disjunction, IsOutside, IsVariable, IsDistance, ahead, behind, HasShape, of_number, of_truth, of_parameter, of_variable, of_scalar_variable, of_field, of_column, of_negation, of_not, of_nots, of_arithmetic, of_arithmetics, of_comparison, of_comparisons, of_logic, of_mask, of_product, of_transposed, of_element, of_elements, of_window}
use Rattle.hp_script.specs.Typing.{name_shape, is_window_role, is_window}
use Rattle.hp_script.specs.Walk.{found_of, shape_of, break_of, parts_break, found_among, finds_of, site}
use Rattle.hp_script.proofs.TestLemmas.{passes, not_true, same_bytes, both_there, then_there, if_there, or_left, or_right, and_left, and_right}
use Rattle.hp_script.proofs.FunctionNames.{IsNameOf, name_back, can_be_dotted}
use Rattle.hp_script.proofs.ResultLemmas.{numbers_back, truths_back, matrices_back, spread_numbers_back, spread_truths_back, IndexBack, by_number, by_array, index_back}
use Rattle.hp_script.proofs.SoundLists.{Sound, SoundArgs, at_shape}
use Rattle.hp_script.proofs.SoundRows.{RowOf, scalar_row, fold_row, count_row, cumsum_row, length_row, nrow_row, fill_row, vcat_row, row_row, collect_row, stack_row}
use Rattle.hp_script.proofs.SoundFrames.{map_row, stencil_row, filter_row, frame_row, read_row, sort_row, join_row, aggregate_row, TransposedFit, transposed_fit, transposed_fits}
use Rattle.hp_script.proofs.Turns.{arguments, array_first, array_first_break, breaks_among, in_order, order_refusal, order_arguments}

-- ---- names

pub assigned_there : (s : Scope) (at : Place) (x : List ℕ) (a : Shape) → role_of s.parameters x ≡ None → variable_break s at x ≡ None → shape_among s.vars x ≡ Some a → IsVariable s x a
assigned_there s at x a bare e shape =
    record { bare = bare; known = passes _ at UnknownName (or_left _ _ e); set = passes _ at MaybeUnset (or_right _ _ e); shape = shape }

scalar_there : (a : Shape) → is_scalar (Some a) ≡ true → IsScalar a
scalar_there Int e = scalar_number
scalar_there Truth e = scalar_truth
scalar_there _ e = absurd cc

variable_in : (b : Bool) (s : Scope) (h : Head) (x : List ℕ) (a : Shape) → is_in_lambda s ≡ b → (not b || is_scalar (Some a)) ≡ true → IsVariable s x a → HasShape s (variable h x) a
variable_in false s h x a out e v = of_variable out v
variable_in true s h x a inner e v = of_scalar_variable (scalar_there a e) v

variable_fits : (role : Option Role) (s : Scope) (h : Head) (x : List ℕ) (a : Shape) → role_of s.parameters x ≡ role → name_break role s h.at x ≡ None
    → name_shape role (shape_among s.vars x) ≡ Some a → HasShape s (variable h x) a
unfolding name_break
variable_fits (Some (element kind)) s h x a is p e =
    let same : kind ≡ a = cc in
    at_shape s (variable h x) kind a same (of_parameter is)
variable_fits (Some window) s h x a is p e = absurd cc
variable_fits None s h x a is p e =
    let scalar : (not (is_in_lambda s) || is_scalar (Some a)) ≡ true =
    subst (λ (o : Option Shape). (not (is_in_lambda s) || is_scalar o) ≡ true) e (passes _ h.at WrongType (or_right _ _ p)) in
    variable_in (is_in_lambda s) s h x a refl scalar (assigned_there s h.at x a is (or_left _ _ p) e)

sound_variable : (h : Head) (x : List ℕ) → Sound (variable h x)
unfolding found_of
sound_variable h x s a p e = variable_fits (role_of s.parameters x) s h x a refl p e

record IsFrame (o : Option Shape) : Type 0 where
  columns : List Name
  is : o ≡ Some (Frame columns)

frame_there : (o : Option Shape) → is_frame o ≡ true → IsFrame o
frame_there (Some (Frame columns)) e = record { columns = columns; is = refl }
frame_there _ e = absurd cc

field_fits : (role : Option Role) (s : Scope) (h : Head) (x c : List ℕ) (a : Shape) → role_of s.parameters x ≡ role → field_break role s h.at x c ≡ None → Some Ints ≡ Some a → HasShape s (field h x c) a
unfolding field_break
field_fits (Some role) s h x c a is p e = absurd cc
field_fits None s h x c a is p e =
    let same : Ints ≡ a = cc in
    let frame = frame_there (shape_among s.vars x) (and_right _ _ (passes _ h.at WrongType (or_left _ _ (or_right _ _ p)))) in
    let known : has_column c frame.columns ≡ true = subst (λ (o : Option Shape). frame_has c o ≡ true) frame.is (passes _ h.at UnknownColumn (or_right _ _ (or_right _ _ p))) in
    at_shape s (field h x c) Ints a same (of_field (not_true (is_in_lambda s) (and_left _ _ (passes _ h.at WrongType (or_left _ _ (or_right _ _ p))))) (assigned_there s h.at x (Frame frame.columns) is (or_left _ _ p) frame.is) known)

sound_field : (h : Head) (x c : List ℕ) → Sound (field h x c)
unfolding found_of
sound_field h x c s a p e = field_fits (role_of s.parameters x) s h x c a refl p e

column_fits : (around : Option (List Name)) (s : Scope) (h : Head) (c : List ℕ) (a : Shape) → s.around ≡ around → column_break around s h.at c ≡ None → Some Ints ≡ Some a → HasShape s (column h c) a
unfolding column_break
column_fits None s h c a is p e = absurd cc
column_fits (Some columns) s h c a is p e =
    let same : Ints ≡ a = cc in
    at_shape s (column h c) Ints a same (of_column (not_true (is_in_lambda s) (passes _ h.at WrongType (or_left _ _ p))) is (passes _ h.at UnknownColumn (or_right _ _ p)))

sound_column : (h : Head) (c : List ℕ) → Sound (column h c)
unfolding found_of
sound_column h c s a p e = column_fits s.around s h c a refl p e

-- ---- operators

unary_fits : (op : UnOp) (dotted : Bool) (s : Scope) (h : Head) (x : Tree) (b a : Shape) → unary_result op dotted b ≡ Some a → HasShape s x b → HasShape s (unary h op dotted x) a
unary_fits Neg false s h x Int a e p = let same : Int ≡ a = cc in at_shape s _ Int a same (of_negation p)
unary_fits Not false s h x Truth a e p = let same : Truth ≡ a = cc in at_shape s _ Truth a same (of_not p)
unary_fits Not true s h x Bools a e p = let same : Bools ≡ a = cc in at_shape s _ Bools a same (of_nots p)
unary_fits _ _ s h x _ a e p = absurd cc

sound_unary : (h : Head) (op : UnOp) (dotted : Bool) (x : Tree) → Sound x → Sound (unary h op dotted x)
unfolding found_of
sound_unary h op dotted x sound s a p e =
    let t = then_there (unary_result op dotted) (shape_of s x) a e in
    unary_fits op dotted s h x t.value a t.is (sound s t.value (or_left _ _ p) t.value_is)

arithmetic_fits : (op : BinOp) (dotted : Bool) (s : Scope) (h : Head) (x y : Tree) (b c a : Shape) → IsArithmetic op
    → (if dotted then some_if (spreads_numbers b c) Ints else some_if (are_numbers b c) Int) ≡ Some a → HasShape s x b → HasShape s y c → HasShape s (binary h op dotted x y) a
arithmetic_fits op false s h x y b c a is e p q =
    let k = if_there (are_numbers b c) Int a e in
    let both = numbers_back b c k.holds in
    at_shape s _ Int a k.is (of_arithmetic is (at_shape s x b Int both.left p) (at_shape s y c Int both.right q))
arithmetic_fits op true s h x y b c a is e p q =
    let k = if_there (spreads_numbers b c) Ints a e in
    at_shape s _ Ints a k.is (of_arithmetics is (spread_numbers_back b c k.holds) p q)

comparison_fits : (op : BinOp) (dotted : Bool) (s : Scope) (h : Head) (x y : Tree) (b c a : Shape) → IsComparison op
    → (if dotted then some_if (spreads_numbers b c) Bools else some_if (are_numbers b c) Truth) ≡ Some a → HasShape s x b → HasShape s y c → HasShape s (binary h op dotted x y) a
comparison_fits op false s h x y b c a is e p q =
    let k = if_there (are_numbers b c) Truth a e in
    let both = numbers_back b c k.holds in
    at_shape s _ Truth a k.is (of_comparison is (at_shape s x b Int both.left p) (at_shape s y c Int both.right q))
comparison_fits op true s h x y b c a is e p q =
    let k = if_there (spreads_numbers b c) Bools a e in
    at_shape s _ Bools a k.is (of_comparisons is (spread_numbers_back b c k.holds) p q)

logic_fits : (op : BinOp) (s : Scope) (h : Head) (x y : Tree) (b c a : Shape) → IsLogic op → some_if (are_truths b c) Truth ≡ Some a
    → HasShape s x b → HasShape s y c → HasShape s (binary h op false x y) a
logic_fits op s h x y b c a is e p q =
    let k = if_there (are_truths b c) Truth a e in
    let both = truths_back b c k.holds in
    at_shape s _ Truth a k.is (of_logic is (at_shape s x b Truth both.left p) (at_shape s y c Truth both.right q))

mask_fits : (op : BinOp) (s : Scope) (h : Head) (x y : Tree) (b c a : Shape) → IsMask op → some_if (spreads_truths b c) Bools ≡ Some a
    → HasShape s x b → HasShape s y c → HasShape s (binary h op true x y) a
mask_fits op s h x y b c a is e p q =
    let k = if_there (spreads_truths b c) Bools a e in
    at_shape s _ Bools a k.is (of_mask is (spread_truths_back b c k.holds) p q)

product_fits : (t : Bool) (s : Scope) (h : Head) (x y : Tree) (b c a : Shape) → are_matrices b c ≡ t → (if t then Some Matrix else some_if (are_numbers b c) Int) ≡ Some a
    → HasShape s x b → HasShape s y c → HasShape s (binary h Mul false x y) a
product_fits true s h x y b c a is e p q =
    let same : Matrix ≡ a = cc in
    let both = matrices_back b c is in
    at_shape s _ Matrix a same (of_product (at_shape s x b Matrix both.left p) (at_shape s y c Matrix both.right q))
product_fits false s h x y b c a is e p q = arithmetic_fits Mul false s h x y b c a multiplication e p q

binary_fits : (op : BinOp) (dotted : Bool) (s : Scope) (h : Head) (x y : Tree) (b c a : Shape) → binary_result op dotted b c ≡ Some a → HasShape s x b → HasShape s y c → HasShape s (binary h op dotted x y) a
binary_fits Or false s h x y b c a e p q = logic_fits Or s h x y b c a disjunction e p q
binary_fits Or true s h x y b c a e p q = absurd cc
binary_fits And false s h x y b c a e p q = logic_fits And s h x y b c a conjunction e p q
binary_fits And true s h x y b c a e p q = absurd cc
binary_fits Eq false s h x y b c a e p q = comparison_fits Eq false s h x y b c a equal e p q
binary_fits Eq true s h x y b c a e p q = comparison_fits Eq true s h x y b c a equal e p q
binary_fits Ne false s h x y b c a e p q = comparison_fits Ne false s h x y b c a not_equal e p q
binary_fits Ne true s h x y b c a e p q = comparison_fits Ne true s h x y b c a not_equal e p q
binary_fits Lt false s h x y b c a e p q = comparison_fits Lt false s h x y b c a less e p q
binary_fits Lt true s h x y b c a e p q = comparison_fits Lt true s h x y b c a less e p q
binary_fits Le false s h x y b c a e p q = comparison_fits Le false s h x y b c a at_most e p q
binary_fits Le true s h x y b c a e p q = comparison_fits Le true s h x y b c a at_most e p q
binary_fits Gt false s h x y b c a e p q = comparison_fits Gt false s h x y b c a greater e p q
binary_fits Gt true s h x y b c a e p q = comparison_fits Gt true s h x y b c a greater e p q
binary_fits Ge false s h x y b c a e p q = comparison_fits Ge false s h x y b c a at_least e p q
binary_fits Ge true s h x y b c a e p q = comparison_fits Ge true s h x y b c a at_least e p q
binary_fits Add false s h x y b c a e p q = arithmetic_fits Add false s h x y b c a addition e p q
binary_fits Add true s h x y b c a e p q = arithmetic_fits Add true s h x y b c a addition e p q
binary_fits Sub false s h x y b c a e p q = arithmetic_fits Sub false s h x y b c a subtraction e p q
binary_fits Sub true s h x y b c a e p q = arithmetic_fits Sub true s h x y b c a subtraction e p q
binary_fits BitOr false s h x y b c a e p q = absurd cc
binary_fits BitOr true s h x y b c a e p q = mask_fits BitOr s h x y b c a mask_disjunction e p q
binary_fits Mul false s h x y b c a e p q = product_fits (are_matrices b c) s h x y b c a refl e p q
binary_fits Mul true s h x y b c a e p q = arithmetic_fits Mul true s h x y b c a multiplication e p q
binary_fits BitAnd false s h x y b c a e p q = absurd cc
binary_fits BitAnd true s h x y b c a e p q = mask_fits BitAnd s h x y b c a mask_conjunction e p q

-- ---- products with a transposed right side

-- the parts of an expression are sound
unfoldable SoundParts : Tree → Type 0
SoundParts (call h name dotted xs) = SoundArgs xs
SoundParts _ = Unit {0}

record MatrixLeft (b a : Shape) : Type 0 where
  left : b ≡ Matrix
  is : Matrix ≡ a

matrix_left : (b a : Shape) → product_result false b Matrix ≡ Some a → MatrixLeft b a
matrix_left Matrix a e = record { left = refl; is = cc }
matrix_left _ a e = absurd cc

flipped_left : (b c a : Shape) → Matrix ≡ c → product_result false b c ≡ Some a → MatrixLeft b a
flipped_left b c a same e = matrix_left b a (subst (λ (k : Shape). product_result false b k ≡ Some a) (sym same) e)

flipped_fits : (s : Scope) (h g : Head) (x : Tree) (b c a : Shape) (xs : Args) → IsOutside s → product_result false b c ≡ Some a → HasShape s x b → TransposedFit s c xs
    → HasShape s (binary h Mul false x (call g (codes "transpose") false xs)) a
flipped_fits s h g x b c a _ out e p (transposed_fit q same) =
    let k = flipped_left b c a same e in
    at_shape s _ Matrix a k.is (of_transposed out (at_shape s x b Matrix k.left p) q)

flipped_transpose : (s : Scope) (h g : Head) (x : Tree) (b c a : Shape) (xs : Args) → IsOutside s → product_result false b c ≡ Some a → HasShape s x b → SoundArgs xs
    → parts_break s (call g (codes "transpose") false xs) ≡ None → shape_of s (call g (codes "transpose") false xs) ≡ Some c
    → HasShape s (binary h Mul false x (call g (codes "transpose") false xs)) a
unfolding parts_break found_of function_named scalar_named fold_named array_named
flipped_transpose s h g x b c a xs out e p sounds passed shape =
    flipped_fits s h g x b c a xs out e p (transposed_fits s g.at c xs (or_right _ _ passed) shape sounds)

flipped_call : (s : Scope) (h : Head) (x y : Tree) (b c a : Shape) → IsOutside s → is_transpose_call y ≡ true → product_result false b c ≡ Some a → HasShape s x b → SoundParts y
    → parts_break s y ≡ None → shape_of s y ≡ Some c → HasShape s (binary h Mul false x y) a
unfolding SoundParts
flipped_call s h x (call g f false xs) b c a out is e p sounds =
    subst (λ (k : List ℕ). parts_break s (call g k false xs) ≡ None → shape_of s (call g k false xs) ≡ Some c → HasShape s (binary h Mul false x (call g k false xs)) a)
    (sym (same_bytes f (codes "transpose") is)) (flipped_transpose s h g x b c a xs out e p sounds)
flipped_call s h x _ b c a out is e p sounds = absurd cc

flipped_only : (op : BinOp) (dotted : Bool) (s : Scope) (h : Head) (x y : Tree) (b c a : Shape) → is_flipped s op dotted y ≡ true → binary_result op dotted b c ≡ Some a
    → HasShape s x b → SoundParts y → parts_break s y ≡ None → shape_of s y ≡ Some c → HasShape s (binary h op dotted x y) a
flipped_only Mul false s h x y b c a is e p sounds passed shape =
    flipped_call s h x y b c a (not_true (is_in_lambda s) (and_left _ _ is)) (and_right _ _ is) e p sounds passed shape
flipped_only _ _ s h x y b c a is e p sounds passed shape = absurd cc

right_fits : (t : Bool) (op : BinOp) (dotted : Bool) (s : Scope) (h : Head) (x y : Tree) (b c a : Shape) → is_flipped s op dotted y ≡ t → binary_result op dotted b c ≡ Some a
    → HasShape s x b → Sound y → SoundParts y → (if t then parts_break s y else break_of s y) ≡ None → shape_of s y ≡ Some c → HasShape s (binary h op dotted x y) a
right_fits true op dotted s h x y b c a is e p sound sounds passed shape = flipped_only op dotted s h x y b c a is e p sounds passed shape
right_fits false op dotted s h x y b c a is e p sound sounds passed shape = binary_fits op dotted s h x y b c a e p (sound s c passed shape)

sound_binary : (h : Head) (op : BinOp) (dotted : Bool) (x y : Tree) → Sound x → Sound y → SoundParts y → Sound (binary h op dotted x y)
unfolding found_of
sound_binary h op dotted x y sound other sounds s a p e =
    let t = both_there (binary_result op dotted) (shape_of s x) (shape_of s y) a e in
    right_fits (is_flipped s op dotted y) op dotted s h x y t.left t.right a refl t.is (sound s t.left (or_left _ _ p) t.left_is) other sounds (or_left _ _ (or_right _ _ p)) t.right_is

-- ---- indices

data WindowOf (s : Scope) : Tree → Type 0 where
  window_of : {g : Head} {p : List ℕ} → role_of s.parameters p ≡ Some window → WindowOf s (variable g p)

pub window_role : (role : Option Role) → is_window_role role ≡ true → role ≡ Some window
window_role (Some window) e = refl
window_role _ e = absurd cc

window_there : (s : Scope) (x : Tree) → is_window s x ≡ true → WindowOf s x
window_there s (variable g p) e = window_of (window_role (role_of s.parameters p) e)
window_there s _ e = absurd cc

distance_there : (i : Tree) (d : ℤ) → distance_of i ≡ Some d → IsDistance i d
distance_there (number h value) d e = let same : value ≡ d = cc in subst (λ (k : ℤ). IsDistance (number h value) k) same ahead
distance_there (unary h Neg false (number g value)) d e = let same : value ≡ d = cc in subst (λ (k : ℤ). IsDistance (unary h Neg false (number g value)) k) same behind
distance_there _ d e = absurd cc

reach_fits : (o : Option ℤ) (s : Scope) (h : Head) (at : Place) (x i : Tree) → distance_of i ≡ o → reach_break at h.at o ≡ None → WindowOf s x → HasShape s (index h x i) Int
reach_fits None s h at x i is p w = absurd cc
reach_fits (Some d) s h at _ i is p (window_of role) = of_window role (distance_there i d is) (passes (int_le (negsuc 63) d && int_le d (pos 64)) h.at ReachTooWide p)

element_fits : (s : Scope) (h : Head) (x i : Tree) (b c a : Shape) → IsOutside s → IndexBack b c a → HasShape s x b → HasShape s i c → HasShape s (index h x i) a
element_fits s h x i b c a out (by_number array place) p q = of_element out array p (at_shape s i c Int place q)
element_fits s h x i b c a out (by_array array places same) p q = at_shape s _ b a same (of_elements out array p (at_shape s i c Ints places q))

index_fits : (t : Bool) (s : Scope) (h : Head) (x i : Tree) (a : Shape) → is_window s x ≡ t
    → (if t then reach_break (place_of x) h.at (distance_of i) else option_or (break_of s x) (option_or (break_of s i) (unless (not (is_in_lambda s) && is_some (shape_of s (index h x i))) h.at WrongType))) ≡ None
    → (if t then Some Int else of_both index_result (shape_of s x) (shape_of s i)) ≡ Some a → Sound x → Sound i → HasShape s (index h x i) a
index_fits true s h x i a is p e sound other =
    let same : Int ≡ a = cc in
    at_shape s _ Int a same (reach_fits (distance_of i) s h (place_of x) x i refl p (window_there s x is))
index_fits false s h x i a is p e sound other =
    let t = both_there index_result (shape_of s x) (shape_of s i) a e in
    element_fits s h x i t.left t.right a (not_true (is_in_lambda s) (and_left _ _ (passes _ h.at WrongType (or_right _ _ (or_right _ _ p))))) (index_back t.left t.right a t.is) (sound s t.left (or_left _ _ p) t.left_is) (other s t.right (or_left _ _ (or_right _ _ p)) t.right_is)

sound_index : (h : Head) (x i : Tree) → Sound x → Sound i → Sound (index h x i)
unfolding found_of
sound_index h x i sound other s a p e = index_fits (is_window s x) s h x i a refl p e sound other

-- ---- calls

pub with_there : (at : Place) (o : Option Function) (f : Function) (tests : Function → Option Refusal) → o ≡ Some f → with_function at o tests ≡ None → tests f ≡ None
with_there at None f tests e p = absurd cc
with_there at (Some g) f tests e p = let same : g ≡ f = cc in subst (λ (k : Function). tests k ≡ None) same p

-- A call of this function, under any name of it, that passes and has a type fits by the relation.
abbrev CallOf : Function → Type 0
CallOf f = (s : Scope) (h : Head) (name : List ℕ) (dotted : Bool) (xs : Args) (a : Shape) → IsNameOf dotted name f
    → takes_count f (count_of xs) ≡ true → in_order f (array_first_break s h.at xs) (breaks_among s h.at f [] xs) ≡ None → call_break s f h.at (Some a) ≡ None
    → call_result f dotted (in_order f (array_first s h.at xs) (arguments s h.at f [] xs)) ≡ Some a → SoundArgs xs → HasShape s (call h name dotted xs) a

row_fits : (f : Function) → RowOf f → can_be_dotted f ≡ false → CallOf f
row_fits f row undotted s h name dotted xs a k count passed own e sounds =
    let plain_one = k.plain undotted in
    let fits = row s h xs a count passed own (subst (λ (d : Bool). call_result f d (in_order f (array_first s h.at xs) (arguments s h.at f [] xs)) ≡ Some a) plain_one e) sounds in
    subst (λ (d : Bool). HasShape s (call h name d xs) a) (sym plain_one) (subst (λ (n : List ℕ). HasShape s (call h n false xs) a) (sym k.is) fits)

scalar_fits : (g : ScalarFunction) → CallOf (function.Scalar g)
scalar_fits g s h name dotted xs a k count passed own e sounds =
    subst (λ (n : List ℕ). HasShape s (call h n dotted xs) a) (sym k.is) (scalar_row g dotted s h xs a passed e sounds)

never : CallOf function.Transpose
unfolding call_break
never s h name dotted xs a k count passed own e sounds = absurd cc

call_fits : (f : Function) → CallOf f
call_fits (function.Scalar g) = scalar_fits g
call_fits (function.Fold kind) = row_fits (function.Fold kind) (fold_row kind) refl
call_fits function.Count = row_fits function.Count count_row refl
call_fits function.Length = row_fits function.Length length_row refl
call_fits function.Fill = row_fits function.Fill fill_row refl
call_fits function.Collect = row_fits function.Collect collect_row refl
call_fits function.Cumsum = row_fits function.Cumsum cumsum_row refl
call_fits function.Map = row_fits function.Map map_row refl
call_fits function.Stencil = row_fits function.Stencil stencil_row refl
call_fits function.Vcat = row_fits function.Vcat vcat_row refl
call_fits function.DataFrame = row_fits function.DataFrame frame_row refl
call_fits function.ReadCsv = row_fits function.ReadCsv read_row refl
call_fits function.Nrow = row_fits function.Nrow nrow_row refl
call_fits function.Filter = row_fits function.Filter filter_row refl
call_fits function.Join = row_fits function.Join join_row refl
call_fits function.Aggregate = row_fits function.Aggregate aggregate_row refl
call_fits function.Sort = row_fits function.Sort sort_row refl
call_fits function.Stack = row_fits function.Stack stack_row refl
call_fits function.Row = row_fits function.Row row_row refl
call_fits function.Transpose = never

sound_call : (h : Head) (name : List ℕ) (dotted : Bool) (xs : Args) → SoundArgs xs → Sound (call h name dotted xs)
unfolding found_of
sound_call h name dotted xs sounds s a p e =
    let t = then_there (λ (f : Function). call_result f dotted (found_among f (finds_of (site s h.at f) xs)).arguments) (function_named dotted name) a e in
    let f = t.value in
    let q = with_there h.at (function_named dotted name) f
    (λ (g : Function). option_or (unless (takes_count g (count_of xs)) h.at WrongCount)
    (option_or (found_among g (finds_of (site s h.at g) xs)).refusal (call_break s g h.at (shape_of s (call h name dotted xs))))) t.value_is p in
    call_fits f s h name dotted xs a (name_back dotted name f t.value_is) (passes _ h.at WrongCount (or_left _ _ q)) (sym (order_refusal s h.at f xs) ∙ (or_left _ _ (or_right _ _ q)))
    (subst (λ (o : Option Shape). call_break s f h.at o ≡ None) e (or_right _ _ (or_right _ _ q))) (ap (call_result f dotted) (sym (order_arguments s h.at f xs)) ∙ t.is) sounds

-- ---- all expressions

sound_number : (h : Head) (value : ℤ) → Sound (number h value)
unfolding found_of
sound_number h value s a p e = let same : Int ≡ a = cc in at_shape s _ Int a same of_number

sound_truth : (h : Head) (holds : Bool) → Sound (truth h holds)
unfolding found_of
sound_truth h holds s a p e = let same : Truth ≡ a = cc in at_shape s _ Truth a same of_truth

sound_text : (h : Head) (bytes : List ℕ) → Sound (text h bytes)
unfolding found_of
sound_text h bytes s a p e = absurd cc

mutual
  unfolding SoundArgs SoundParts

  pub sound : (x : Tree) → Sound x
  sound (number h value) = sound_number h value
  sound (truth h holds) = sound_truth h holds
  sound (text h bytes) = sound_text h bytes
  sound (variable h x) = sound_variable h x
  sound (column h c) = sound_column h c
  sound (field h x c) = sound_field h x c
  sound (unary h op dotted x) = sound_unary h op dotted x (sound x)
  sound (binary h op dotted x y) = sound_binary h op dotted x y (sound x) (sound y) (sound_parts y)
  sound (index h x i) = sound_index h x i (sound x) (sound i)
  sound (call h name dotted xs) = sound_call h name dotted xs (sound_args xs)

  sound_parts : (x : Tree) → SoundParts x
  sound_parts (call h name dotted xs) = sound_args xs
  sound_parts _ = tt

  sound_args : (xs : Args) → SoundArgs xs
  sound_args none = tt
  sound_args (plain x xs) = (sound x, sound_args xs)
  sound_args (range x y xs) = ((sound x, sound y), sound_args xs)
  sound_args (lambda p x xs) = (sound x, sound_args xs)
  sound_args (named name at x xs) = (sound x, sound_args xs)
