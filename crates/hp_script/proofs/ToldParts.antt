-- What the refusal of an expression tells, for the tests of names, columns, operators and indices: each that fails tells its
-- own fact.
use Rattle.std.proofs.Common.{◌≡◌, ℕ, suc, ◌==◌, arith, ℤ, pos, negsuc, Bool, true, false, not, ◌&&◌, ◌||◌, if◌then◌else◌, List, [], ◌∷◌, codes, int_le, Option, Some, None, is_some, refl, sym, subst, true≢false}
use Rattle.std.specs.Option.{option_or, option_and_then}
use Rattle.hp_word.specs.declared.name.Name.{Name}
use Rattle.hp_word.specs.declared.place.Place.{Place}
use Rattle.hp_script.specs.declared.rule.Refusal.{Refusal}
use Rattle.hp_script.specs.declared.rule.Rule.{Rule}
use Rattle.hp_script.specs.declared.rule.Rule.TheVariants.{UnknownName, MaybeUnset, WrongType, UnknownColumn, WrongCount, ReachTooWide}
use Rattle.hp_script.specs.declared.tree.UnOp.{UnOp}
use Rattle.hp_script.specs.declared.tree.BinOp.{BinOp}
use Rattle.hp_script.specs.declared.tree.BinOp.TheVariants.{Mul}
use Rattle.hp_script.specs.declared.typed.Shape.{Shape}
use Rattle.hp_script.specs.declared.typed.Shape.TheVariants.{Frame, Matrix}
use Rattle.hp_script.specs.declared.function.Function.TheVariants as function
use Rattle.hp_script.specs.Breaks.{broken, unless, variable_break, is_scalar, name_break, is_frame, frame_has, field_break, column_break, place_of, distance_of, reach_break, plain_break, range_break, lambda_break, named_break, is_flipped, count_of}
use Rattle.hp_script.specs.Functions.{function_named, scalar_named, fold_named, array_named, takes_count}
use Rattle.hp_script.specs.Mirror.{Head, Tree, Args, variable, column, field, unary, binary, index, call, none, plain, range, lambda, named}
use Rattle.hp_script.specs.Results.{of_both, unary_result, binary_result, index_result, product_result, matrix_result, are_matrices, call_result}
use Rattle.hp_script.specs.Scope.{Role, element, window, Scope, has, has_column, is_set, shape_among, role_of, is_in_lambda}
use Rattle.hp_script.specs.Shaped.{IsOutside, IsVariable}
use Rattle.hp_script.specs.Told.{refusal, Reads, a_variable, a_field, unknown_name, maybe_unset, unknown_field, unknown_column, reach_too_wide, no_distance, place_as_value, no_scalar, field_of_parameter, field_in_lambda, field_of_value, column_outside, column_in_lambda, wrong_operand, wrong_operands, wrong_factors, index_in_lambda, wrong_index, Told, told}
use Rattle.hp_script.specs.Typing.{is_window, wanted, inside, plain_argument, value_or_misfit}
use Rattle.hp_script.specs.Walk.{found_of, shape_of, break_of, parts_break, finds_of, in_turn}
use Rattle.hp_script.proofs.BlockSound.{IsShaped, passing}
use Rattle.hp_script.proofs.ScopeLemmas.{Known, known_shape}
use Rattle.hp_script.proofs.Soundness.{assigned_there, window_role}
use Rattle.hp_script.proofs.TestLemmas.{passes, there, or_left, or_right, and_left, and_right, not_true, not_false, both_false, same_bytes}
use Rattle.hp_script.proofs.Turns.{arguments, breaks_among}

-- ---- tests that fail

pub told_by : (P : Refusal → Type 0) (at : Place) (rule : Rule) (r : Refusal) → P (refusal at rule) → broken at rule ≡ Some r → P r
told_by P at rule r p e = let same : refusal at rule ≡ r = cc in subst P same p

pub unless_told : (P : Refusal → Type 0) (b : Bool) (at : Place) (rule : Rule) (r : Refusal) → (b ≡ false → P (refusal at rule)) → unless b at rule ≡ Some r → P r
unless_told P true at rule r p e = absurd cc
unless_told P false at rule r p e = told_by P at rule r (p refl) e

pub or_told : (P : Refusal → Type 0) (a b : Option Refusal) (r : Refusal) → (a ≡ Some r → P r) → (a ≡ None → b ≡ Some r → P r) → option_or a b ≡ Some r → P r
or_told P None b r first second e = second refl e
or_told P (Some t) b r first second e = first e

pub if_told : (P : Refusal → Type 0) (t : Bool) (a b : Option Refusal) (r : Refusal) → (t ≡ true → a ≡ Some r → P r) → (t ≡ false → b ≡ Some r → P r) → (if t then a else b) ≡ Some r → P r
if_told P true a b r first second e = first refl e
if_told P false a b r first second e = second refl e

-- one of two that both have to hold does not
either_false : (P : Type 0) (a b : Bool) → (a && b) ≡ false → (a ≡ false → P) → (b ≡ false → P) → P
either_false P true b e first second = second e
either_false P false b e first second = first refl

none_there : {A : Type 0} (o : Option A) → is_some o ≡ false → o ≡ None
none_there None e = refl
none_there (Some x) e = absurd cc

-- ---- names

record Variable (s : Scope) (x : List ℕ) : Type 0 where
  type : Shape
  is : IsVariable s x type

variable_there : (s : Scope) (at : Place) (x : List ℕ) → Known s → role_of s.parameters x ≡ None → variable_break s at x ≡ None → Variable s x
variable_there s at x known bare e =
    let o = there (shape_among s.vars x) (known_shape s known x (passes (is_set s.ways x) at MaybeUnset (or_right (unless (has x s.assigned) at UnknownName) _ e))) in
    record { type = o.value; is = assigned_there s at x o.value bare e o.is }

read_told : (s : Scope) (t : Tree) (at : Place) (x : List ℕ) (r : Refusal) → Reads t at x → role_of s.parameters x ≡ None → variable_break s at x ≡ Some r → Told s t r
read_told s t at x r reads bare e =
    or_told (Told s t) (unless (has x s.assigned) at UnknownName) (unless (is_set s.ways x) at MaybeUnset) r
    (unless_told (Told s t) (has x s.assigned) at UnknownName r (λ f. told (unknown_name reads bare f)))
    (λ n. unless_told (Told s t) (is_set s.ways x) at MaybeUnset r (λ f. told (maybe_unset reads bare (passes (has x s.assigned) at UnknownName n) f))) e

scalar_told : (s : Scope) (h : Head) (x : List ℕ) → Variable s x → (not (is_in_lambda s) || is_scalar (shape_among s.vars x)) ≡ false → Told s (variable h x) (refusal h.at WrongType)
scalar_told s h x v e =
    let both = both_false (not (is_in_lambda s)) (is_scalar (shape_among s.vars x)) e in
    told (no_scalar (not_false (is_in_lambda s) both.first) v.is (subst (λ (o : Option Shape). is_scalar o ≡ false) v.is.shape both.second))

pub name_told : (role : Option Role) (s : Scope) (h : Head) (x : List ℕ) (r : Refusal) → Known s → role_of s.parameters x ≡ role → name_break role s h.at x ≡ Some r → Told s (variable h x) r
unfolding name_break
name_told (Some (element kind)) s h x r known bare e = absurd cc
name_told (Some window) s h x r known bare e = told_by (Told s (variable h x)) h.at WrongType r (told (place_as_value bare)) e
name_told None s h x r known bare e =
    or_told (Told s (variable h x)) (variable_break s h.at x) _ r (read_told s (variable h x) h.at x r a_variable bare)
    (λ n. unless_told (Told s (variable h x)) (not (is_in_lambda s) || is_scalar (shape_among s.vars x)) h.at WrongType r (scalar_told s h x (variable_there s h.at x known bare n))) e

value_told : (s : Scope) (h : Head) (x c : List ℕ) → Variable s x → (not (is_in_lambda s) && is_frame (shape_among s.vars x)) ≡ false → Told s (field h x c) (refusal h.at WrongType)
value_told s h x c v e =
    either_false (Told s (field h x c) (refusal h.at WrongType)) (not (is_in_lambda s)) (is_frame (shape_among s.vars x)) e (λ f. told (field_in_lambda (not_false (is_in_lambda s) f)))
    (λ f. told (field_of_value v.is (subst (λ (o : Option Shape). is_frame o ≡ false) v.is.shape f)))

frame_told : (a : Shape) (s : Scope) (h : Head) (x c : List ℕ) → IsVariable s x a → is_frame (shape_among s.vars x) ≡ true → frame_has c (shape_among s.vars x) ≡ false → Told s (field h x c) (refusal h.at UnknownColumn)
frame_told (Frame columns) s h x c v frame f = told (unknown_field v (subst (λ (o : Option Shape). frame_has c o ≡ false) v.shape f))
frame_told _ s h x c v frame f = let no = subst (λ (o : Option Shape). is_frame o ≡ true) v.shape frame in absurd cc

pub field_told : (role : Option Role) (s : Scope) (h : Head) (x c : List ℕ) (r : Refusal) → Known s → role_of s.parameters x ≡ role → field_break role s h.at x c ≡ Some r → Told s (field h x c) r
unfolding field_break
field_told (Some role) s h x c r known bare e = told_by (Told s (field h x c)) h.at WrongType r (told (field_of_parameter bare)) e
field_told None s h x c r known bare e =
    or_told (Told s (field h x c)) (variable_break s h.at x) _ r (read_told s (field h x c) h.at x r a_field bare)
    (λ n.
    let v = variable_there s h.at x known bare n in
    or_told (Told s (field h x c)) (unless (not (is_in_lambda s) && is_frame (shape_among s.vars x)) h.at WrongType) (unless (frame_has c (shape_among s.vars x)) h.at UnknownColumn) r
    (unless_told (Told s (field h x c)) (not (is_in_lambda s) && is_frame (shape_among s.vars x)) h.at WrongType r (value_told s h x c v))
    (λ m. unless_told (Told s (field h x c)) (frame_has c (shape_among s.vars x)) h.at UnknownColumn r
    (frame_told v.type s h x c v.is (and_right (not (is_in_lambda s)) (is_frame (shape_among s.vars x)) (passes _ h.at WrongType m))))) e

pub column_told : (around : Option (List Name)) (s : Scope) (h : Head) (c : List ℕ) (r : Refusal) → s.around ≡ around → column_break around s h.at c ≡ Some r → Told s (column h c) r
unfolding column_break
column_told None s h c r is e = told_by (Told s (column h c)) h.at WrongType r (told (column_outside is)) e
column_told (Some columns) s h c r is e =
    or_told (Told s (column h c)) (unless (not (is_in_lambda s)) h.at WrongType) (unless (has_column c columns) h.at UnknownColumn) r
    (unless_told (Told s (column h c)) (not (is_in_lambda s)) h.at WrongType r (λ f. told (column_in_lambda (not_false (is_in_lambda s) f))))
    (λ n. unless_told (Told s (column h c)) (has_column c columns) h.at UnknownColumn r (λ f. told (unknown_column is f))) e

-- ---- operators

pub operand_told : (s : Scope) (h : Head) (op : UnOp) (dotted : Bool) (x : Tree) → IsShaped s x → is_some (option_and_then (unary_result op dotted) (shape_of s x)) ≡ false
    → Told s (unary h op dotted x) (refusal h.at WrongType)
operand_told s h op dotted x k e =
    told (wrong_operand k.fits (none_there (unary_result op dotted k.shape) (subst (λ (o : Option Shape). is_some (option_and_then (unary_result op dotted) o) ≡ false) k.is e)))

both_wrong : (result : Shape → Shape → Option Shape) (s : Scope) (x y : Tree) (k : IsShaped s x) (l : IsShaped s y) → is_some (of_both result (shape_of s x) (shape_of s y)) ≡ false → result k.shape l.shape ≡ None
both_wrong result s x y k l e =
    let first : is_some (of_both result (Some k.shape) (shape_of s y)) ≡ false = subst (λ (o : Option Shape). is_some (of_both result o (shape_of s y)) ≡ false) k.is e in
    none_there (result k.shape l.shape) (subst (λ (o : Option Shape). is_some (of_both result (Some k.shape) o) ≡ false) l.is first)

factors_wrong : (one other : Shape) → is_some (of_both (product_result false) (Some one) (matrix_result other)) ≡ false → are_matrices one other ≡ false
factors_wrong Matrix Matrix e = absurd cc
factors_wrong _ _ e = refl

two_counted : {A : Type 0} (n : ℕ) → (suc (suc n) == 1) ≡ true → A
two_counted n e = let no : (suc (suc n) == 1) ≡ false = grind arith in absurd cc

-- `A * transpose(B)`, whose parts pass
factors_told : (s : Scope) (h g : Head) (x : Tree) (xs : Args) → Known s → IsOutside s → IsShaped s x → takes_count function.Transpose (count_of xs) ≡ true → breaks_among s g.at function.Transpose [] xs ≡ None
    → is_some (of_both (product_result false) (shape_of s x) (call_result function.Transpose false (arguments s g.at function.Transpose [] xs))) ≡ false
    → Told s (binary h Mul false x (call g (codes "transpose") false xs)) (refusal h.at WrongType)
unfolding finds_of in_turn wanted inside plain_break range_break lambda_break named_break plain_argument call_result
factors_told s h g x none known out k count passed e = absurd cc
factors_told s h g x (plain y none) known out k count passed e =
    let l = passing s y known (or_left (break_of s y) None passed) in
    let first : is_some (of_both (product_result false) (Some k.shape) (call_result function.Transpose false (value_or_misfit (shape_of s y) ∷ []))) ≡ false =
    subst (λ (o : Option Shape). is_some (of_both (product_result false) o (call_result function.Transpose false (value_or_misfit (shape_of s y) ∷ []))) ≡ false) k.is e in
    told (wrong_factors out k.fits l.fits (factors_wrong k.shape l.shape
    (subst (λ (o : Option Shape). is_some (of_both (product_result false) (Some k.shape) (call_result function.Transpose false (value_or_misfit o ∷ []))) ≡ false) l.is first)))
factors_told s h g x (plain y (plain z xs)) known out k count passed e = two_counted (count_of xs) count
factors_told s h g x (plain y (range z w xs)) known out k count passed e = two_counted (count_of xs) count
factors_told s h g x (plain y (lambda p z xs)) known out k count passed e = two_counted (count_of xs) count
factors_told s h g x (plain y (named name place z xs)) known out k count passed e = two_counted (count_of xs) count
factors_told s h g x (range y z xs) known out k count passed e = absurd cc
factors_told s h g x (lambda p y xs) known out k count passed e = absurd cc
factors_told s h g x (named name place y xs) known out k count passed e = let last = or_right (break_of s y) (broken place WrongType) (or_left _ _ passed) in absurd cc

transposed_told : (s : Scope) (h g : Head) (x : Tree) (xs : Args) → Known s → IsOutside s → IsShaped s x → parts_break s (call g (codes "transpose") false xs) ≡ None
    → is_some (of_both (product_result false) (shape_of s x) (shape_of s (call g (codes "transpose") false xs))) ≡ false → Told s (binary h Mul false x (call g (codes "transpose") false xs)) (refusal h.at WrongType)
unfolding parts_break found_of function_named scalar_named fold_named array_named
transposed_told s h g x xs known out k passed e =
    let counted = or_left (unless (takes_count function.Transpose (count_of xs)) g.at WrongCount) (breaks_among s g.at function.Transpose [] xs) passed in
    let fit = or_right (unless (takes_count function.Transpose (count_of xs)) g.at WrongCount) (breaks_among s g.at function.Transpose [] xs) passed in
    factors_told s h g x xs known out k (passes _ g.at WrongCount counted) fit e

flipped_told : (op : BinOp) (dotted : Bool) (y : Tree) (s : Scope) (h : Head) (x : Tree) → Known s → is_flipped s op dotted y ≡ true → IsShaped s x → parts_break s y ≡ None
    → is_some (of_both (binary_result op dotted) (shape_of s x) (shape_of s y)) ≡ false → Told s (binary h op dotted x y) (refusal h.at WrongType)
flipped_told Mul false (call g f false xs) s h x known flips k passed e =
    subst (λ (n : List ℕ). parts_break s (call g n false xs) ≡ None → is_some (of_both (product_result false) (shape_of s x) (shape_of s (call g n false xs))) ≡ false
    → Told s (binary h Mul false x (call g n false xs)) (refusal h.at WrongType)) (sym (same_bytes f (codes "transpose") (and_right (not (is_in_lambda s)) _ flips)))
    (transposed_told s h g x xs known (not_true (is_in_lambda s) (and_left (not (is_in_lambda s)) _ flips)) k) passed e
flipped_told Mul false _ s h x known flips k passed e = absurd (true≢false (sym (and_right (not (is_in_lambda s)) false flips)))
flipped_told _ _ _ s h x known flips k passed e = absurd cc

pub operands_told : (t : Bool) (s : Scope) (h : Head) (op : BinOp) (dotted : Bool) (x y : Tree) → Known s → is_flipped s op dotted y ≡ t → IsShaped s x → (if t then parts_break s y else break_of s y) ≡ None
    → is_some (of_both (binary_result op dotted) (shape_of s x) (shape_of s y)) ≡ false → Told s (binary h op dotted x y) (refusal h.at WrongType)
operands_told true s h op dotted x y known flips k passed e = flipped_told op dotted y s h x known flips k passed e
operands_told false s h op dotted x y known flips k passed e = let l = passing s y known passed in told (wrong_operands k.fits l.fits (both_wrong (binary_result op dotted) s x y k l e))

-- ---- indices

pub reach_told : (o : Option ℤ) (s : Scope) (h : Head) (x i : Tree) (r : Refusal) → is_window s x ≡ true → distance_of i ≡ o → reach_break (place_of x) h.at o ≡ Some r → Told s (index h x i) r
reach_told None s h (variable g p) i r w is e = told_by (Told s (index h (variable g p) i)) g.at WrongType r (told (no_distance (window_role (role_of s.parameters p) w) is)) e
reach_told (Some d) s h (variable g p) i r w is e =
    unless_told (Told s (index h (variable g p) i)) (int_le (negsuc 63) d && int_le d (pos 64)) h.at ReachTooWide r
    (λ f. told (reach_too_wide (window_role (role_of s.parameters p) w) is f)) e
reach_told _ s h _ i r w is e = absurd cc

pub index_told : (s : Scope) (h : Head) (x i : Tree) → is_window s x ≡ false → IsShaped s x → IsShaped s i → (not (is_in_lambda s) && is_some (of_both index_result (shape_of s x) (shape_of s i))) ≡ false
    → Told s (index h x i) (refusal h.at WrongType)
index_told s h x i w k l e =
    either_false (Told s (index h x i) (refusal h.at WrongType)) (not (is_in_lambda s)) (is_some (of_both index_result (shape_of s x) (shape_of s i))) e
    (λ f. told (index_in_lambda (not_false (is_in_lambda s) f) w)) (λ f. told (wrong_index k.fits l.fits (both_wrong index_result s x i k l f)))
