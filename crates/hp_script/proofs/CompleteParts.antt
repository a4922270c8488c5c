-- An expression that fits by the relation passes the tests, and has its type by them: names, operators and indices.
use Rattle.std.proofs.Common.{◌≡◌, ℕ, ℤ, pos, Bool, true, false, not, ◌&&◌, ◌||◌, if◌then◌else◌, List, int_le, Option, Some, None, refl, sym, ap, ap₂, ◌∙◌, subst, is_some, negsuc}
use Rattle.std.specs.Option.{option_or, option_and_then}
use Rattle.hp_word.specs.declared.name.Name.{Name}
use Rattle.hp_word.specs.declared.place.Place.{Place}
use Rattle.hp_script.specs.declared.tree.UnOp.{UnOp}
use Rattle.hp_script.specs.declared.tree.BinOp.{BinOp}
use Rattle.hp_script.specs.declared.typed.Shape.{Shape}
use Rattle.hp_script.specs.declared.typed.Shape.TheVariants.{Int, Bool as Truth, Ints, Bools, Frame}
use Rattle.hp_script.specs.declared.rule.Refusal.{Refusal}
use Rattle.hp_script.specs.declared.rule.Rule.TheVariants.{UnknownName, MaybeUnset, WrongType, UnknownColumn, WrongCount, ReachTooWide}
use Rattle.hp_script.specs.declared.function.Function.{Function}
use Rattle.hp_script.specs.Breaks.{unless, variable_break, is_scalar, name_break, is_frame, frame_has, field_break, column_break, place_of, distance_of, reach_break, is_flipped, with_function, call_break, count_of}
use Rattle.hp_script.specs.Functions.{function_named, takes_count}
use Rattle.hp_script.specs.Mirror.{Head, Tree, number, truth, text, variable, column, field, unary, binary, index, call}
use Rattle.hp_script.specs.Results.{of_both, unary_result, binary_result, index_result, spreads_numbers, spreads_truths, some_if}
use Rattle.hp_script.specs.Scope.{Role, element, window, Scope, has_column, shape_among, role_of, is_in_lambda}
use Rattle.hp_script.specs.Shaped.{IsScalar, scalar_number, scalar_truth, IsArrayOf, array_of_numbers, array_of_truths, AreSpread, two_arrays, array_and_element, element_and_array, IsArithmetic, addition, subtraction, multiplication, IsComparison, equal, not_equal, less, at_most, greater, at_least, IsLogic, conjunction, disjunction, IsMask, mask_conjunction, mask_disjunction, IsOutside, IsVariable, IsDistance, ahead, behind}
use Rattle.hp_script.specs.Typing.{name_shape, is_window_role, is_window}
use Rattle.hp_script.specs.Walk.{found_of, shape_of, break_of, parts_break, found_among, finds_of, site}
use Rattle.hp_script.proofs.TestLemmas.{first_true, second_true, none_both, unless_true, and_both, false_not, or_left, or_right}
use Rattle.hp_script.proofs.ArgumentKinds.{Valued}

-- ---- names

variable_passes : (s : Scope) (at : Place) (x : List ℕ) (a : Shape) → IsVariable s x a → variable_break s at x ≡ None
variable_passes s at x a v = none_both _ _ (unless_true _ at UnknownName v.known) (unless_true _ at MaybeUnset v.set)

pub parameter_valued : {s : Scope} {h : Head} {x : List ℕ} {a : Shape} → role_of s.parameters x ≡ Some (element a) → Valued s (variable h x) a
unfolding found_of name_break
parameter_valued {s = s} {h = h} {x = x} {a = a} role = record {
  passed = subst (λ (r : Option Role). name_break r s h.at x ≡ None) (sym role) refl;
  shape = subst (λ (r : Option Role). name_shape r (shape_among s.vars x) ≡ Some a) (sym role) refl;
}

bare_variable : (s : Scope) (h : Head) (x : List ℕ) (a : Shape) → IsVariable s x a → (not (is_in_lambda s) || is_scalar (shape_among s.vars x)) ≡ true → Valued s (variable h x) a
unfolding found_of name_break
bare_variable s h x a v e = record {
  passed = subst (λ (r : Option Role). name_break r s h.at x ≡ None) (sym v.bare) (none_both _ _ (variable_passes s h.at x a v) (unless_true _ h.at WrongType e));
  shape = subst (λ (r : Option Role). name_shape r (shape_among s.vars x) ≡ Some a) (sym v.bare) v.shape;
}

scalar_found : (a : Shape) → IsScalar a → is_scalar (Some a) ≡ true
scalar_found _ scalar_number = refl
scalar_found _ scalar_truth = refl

pub variable_valued : {s : Scope} {h : Head} {x : List ℕ} {a : Shape} → IsOutside s → IsVariable s x a → Valued s (variable h x) a
variable_valued {s = s} {h = h} {x = x} {a = a} out v = bare_variable s h x a v (first_true (not (is_in_lambda s)) _ (false_not _ out))

pub scalar_variable_valued : {s : Scope} {h : Head} {x : List ℕ} {a : Shape} → IsScalar a → IsVariable s x a → Valued s (variable h x) a
scalar_variable_valued {s = s} {h = h} {x = x} {a = a} is v =
    bare_variable s h x a v (second_true (not (is_in_lambda s)) _ (ap is_scalar v.shape ∙ scalar_found a is))

pub field_valued : {s : Scope} {h : Head} {x c : List ℕ} {columns : List Name} → IsOutside s → IsVariable s x (Frame columns) → has_column c columns ≡ true → Valued s (field h x c) Ints
unfolding found_of field_break
field_valued {s = s} {h = h} {x = x} {c = c} {columns = columns} out v known = record {
  passed = subst (λ (r : Option Role). field_break r s h.at x c ≡ None) (sym v.bare)
      (none_both _ _ (variable_passes s h.at x (Frame columns) v)
      (none_both _ _ (unless_true _ h.at WrongType (and_both _ _ (false_not _ out) (ap is_frame v.shape))) (unless_true _ h.at UnknownColumn (ap (frame_has c) v.shape ∙ known))));
  shape = refl;
}

pub column_valued : {s : Scope} {h : Head} {c : List ℕ} {columns : List Name} → IsOutside s → s.around ≡ Some columns → has_column c columns ≡ true → Valued s (column h c) Ints
unfolding found_of column_break
column_valued {s = s} {h = h} {c = c} {columns = columns} out around known = record {
  passed = subst (λ (o : Option (List Name)). column_break o s h.at c ≡ None) (sym around)
      (none_both _ _ (unless_true _ h.at WrongType (false_not _ out)) (unless_true _ h.at UnknownColumn known));
  shape = refl;
}

pub number_valued : {s : Scope} {h : Head} {value : ℤ} → Valued s (number h value) Int
unfolding found_of
number_valued = record { passed = refl; shape = refl }

pub truth_valued : {s : Scope} {h : Head} {holds : Bool} → Valued s (truth h holds) Truth
unfolding found_of
truth_valued = record { passed = refl; shape = refl }

-- ---- operators

pub unary_valued : {s : Scope} {h : Head} {op : UnOp} {dotted : Bool} {x : Tree} {b a : Shape} → unary_result op dotted b ≡ Some a → Valued s x b → Valued s (unary h op dotted x) a
unfolding found_of
unary_valued {s = s} {h = h} {op = op} {dotted = dotted} e v =
    let shape = ap (option_and_then (unary_result op dotted)) v.shape ∙ e in
    record { passed = none_both _ _ v.passed (unless_true _ h.at WrongType (ap is_some shape)); shape = shape }

with_parts : (at : Place) (o : Option Function) (count own rest : Function → Option Refusal)
    → with_function at o (λ f. option_or (count f) (option_or (own f) (rest f))) ≡ None → with_function at o (λ f. option_or (count f) (own f)) ≡ None
with_parts at None count own rest e = absurd cc
with_parts at (Some f) count own rest e =
    none_both (count f) (own f) (or_left _ _ e) (or_left (own f) (rest f) (or_right _ _ e))

parts_pass : (s : Scope) (y : Tree) → break_of s y ≡ None → parts_break s y ≡ None
unfolding found_of parts_break
parts_pass s (call h name dotted xs) e =
    with_parts h.at (function_named dotted name) (λ (f : Function). unless (takes_count f (count_of xs)) h.at WrongCount)
    (λ (f : Function). (found_among f (finds_of (site s h.at f) xs)).refusal) (λ (f : Function). call_break s f h.at (shape_of s (call h name dotted xs))) e
parts_pass s (number h value) e = refl
parts_pass s (truth h holds) e = refl
parts_pass s (text h bytes) e = refl
parts_pass s (variable h x) e = refl
parts_pass s (column h c) e = refl
parts_pass s (field h x c) e = refl
parts_pass s (unary h op dotted x) e = refl
parts_pass s (binary h op dotted x y) e = refl
parts_pass s (index h x i) e = refl

either_passes : (t : Bool) (s : Scope) (y : Tree) → break_of s y ≡ None → (if t then parts_break s y else break_of s y) ≡ None
either_passes true s y e = parts_pass s y e
either_passes false s y e = e

pub binary_valued : {s : Scope} {h : Head} {op : BinOp} {dotted : Bool} {x y : Tree} {b c a : Shape} → binary_result op dotted b c ≡ Some a → Valued s x b → Valued s y c → Valued s (binary h op dotted x y) a
unfolding found_of
binary_valued {s = s} {h = h} {op = op} {dotted = dotted} {y = y} e v w =
    let shape = ap₂ (of_both (binary_result op dotted)) v.shape w.shape ∙ e in
    record { passed = none_both _ _ v.passed (none_both _ _ (either_passes (is_flipped s op dotted y) s y w.passed) (unless_true _ h.at WrongType (ap is_some shape))); shape = shape }

pub spread_numbers : {b c : Shape} → AreSpread Int Ints b c → spreads_numbers b c ≡ true
spread_numbers two_arrays = refl
spread_numbers array_and_element = refl
spread_numbers element_and_array = refl

pub spread_truths : {b c : Shape} → AreSpread Truth Bools b c → spreads_truths b c ≡ true
spread_truths two_arrays = refl
spread_truths array_and_element = refl
spread_truths element_and_array = refl

pub some_true : (t : Bool) (a : Shape) → t ≡ true → some_if t a ≡ Some a
some_true true a e = refl
some_true false a e = absurd cc

pub arithmetic : {op : BinOp} → IsArithmetic op → binary_result op false Int Int ≡ Some Int
arithmetic addition = refl
arithmetic subtraction = refl
arithmetic multiplication = refl

pub arithmetics : {op : BinOp} {b c : Shape} → IsArithmetic op → AreSpread Int Ints b c → binary_result op true b c ≡ Some Ints
arithmetics {b = b} {c = c} addition e = some_true (spreads_numbers b c) Ints (spread_numbers e)
arithmetics {b = b} {c = c} subtraction e = some_true (spreads_numbers b c) Ints (spread_numbers e)
arithmetics {b = b} {c = c} multiplication e = some_true (spreads_numbers b c) Ints (spread_numbers e)

pub comparison : {op : BinOp} → IsComparison op → binary_result op false Int Int ≡ Some Truth
comparison equal = refl
comparison not_equal = refl
comparison less = refl
comparison at_most = refl
comparison greater = refl
comparison at_least = refl

pub comparisons : {op : BinOp} {b c : Shape} → IsComparison op → AreSpread Int Ints b c → binary_result op true b c ≡ Some Bools
comparisons {b = b} {c = c} equal e = some_true (spreads_numbers b c) Bools (spread_numbers e)
comparisons {b = b} {c = c} not_equal e = some_true (spreads_numbers b c) Bools (spread_numbers e)
comparisons {b = b} {c = c} less e = some_true (spreads_numbers b c) Bools (spread_numbers e)
comparisons {b = b} {c = c} at_most e = some_true (spreads_numbers b c) Bools (spread_numbers e)
comparisons {b = b} {c = c} greater e = some_true (spreads_numbers b c) Bools (spread_numbers e)
comparisons {b = b} {c = c} at_least e = some_true (spreads_numbers b c) Bools (spread_numbers e)

pub logic : {op : BinOp} → IsLogic op → binary_result op false Truth Truth ≡ Some Truth
logic conjunction = refl
logic disjunction = refl

pub mask : {op : BinOp} {b c : Shape} → IsMask op → AreSpread Truth Bools b c → binary_result op true b c ≡ Some Bools
mask {b = b} {c = c} mask_conjunction e = some_true (spreads_truths b c) Bools (spread_truths e)
mask {b = b} {c = c} mask_disjunction e = some_true (spreads_truths b c) Bools (spread_truths e)

-- ---- indices

no_window : (role : Option Role) (s : Scope) (at : Place) (x : List ℕ) → name_break role s at x ≡ None → is_window_role role ≡ false
unfolding name_break
no_window (Some window) s at x e = absurd cc
no_window (Some (element kind)) s at x e = refl
no_window None s at x e = refl

pub is_no_window : (s : Scope) (x : Tree) → break_of s x ≡ None → is_window s x ≡ false
unfolding found_of
is_no_window s (variable h x) e = no_window (role_of s.parameters x) s h.at x e
is_no_window s _ e = refl

pub index_valued : {s : Scope} {h : Head} {x i : Tree} {b c a : Shape} → IsOutside s → index_result b c ≡ Some a → Valued s x b → Valued s i c → Valued s (index h x i) a
unfolding found_of
index_valued {s = s} {h = h} {x = x} {i = i} {b = b} {c = c} {a = a} out e v w =
    let not_one = is_no_window s x v.passed in
    let found : of_both index_result (shape_of s x) (shape_of s i) ≡ Some a = ap₂ (of_both index_result) v.shape w.shape ∙ e in
    let shape : (if is_window s x then Some Int else of_both index_result (shape_of s x) (shape_of s i)) ≡ Some a =
    subst (λ (t : Bool). (if t then Some Int else of_both index_result (shape_of s x) (shape_of s i)) ≡ Some a) (sym not_one) found in
    let own = none_both _ _ v.passed (none_both _ _ w.passed (unless_true _ h.at WrongType (and_both _ _ (false_not _ out) (ap is_some shape)))) in
    record { passed = subst (λ (t : Bool). (if t then reach_break (place_of x) h.at (distance_of i) else option_or (break_of s x) (option_or (break_of s i) (unless (not (is_in_lambda s) && is_some (shape_of s (index h x i))) h.at WrongType))) ≡ None) (sym not_one) own; shape = shape }

pub element_by : {one many : Shape} → IsArrayOf one many → index_result many Int ≡ Some one
element_by array_of_numbers = refl
element_by array_of_truths = refl

pub elements_by : {one many : Shape} → IsArrayOf one many → index_result many Ints ≡ Some many
elements_by array_of_numbers = refl
elements_by array_of_truths = refl

reach_passes : (at bracket : Place) (i : Tree) (d : ℤ) → IsDistance i d → (int_le (negsuc 63) d && int_le d (pos 64)) ≡ true → reach_break at bracket (distance_of i) ≡ None
reach_passes at bracket _ d ahead e = unless_true (int_le (negsuc 63) d && int_le d (pos 64)) bracket ReachTooWide e
reach_passes at bracket _ d behind e = unless_true (int_le (negsuc 63) d && int_le d (pos 64)) bracket ReachTooWide e

pub window_valued : {s : Scope} {h g : Head} {p : List ℕ} {i : Tree} {d : ℤ} → role_of s.parameters p ≡ Some window → IsDistance i d → (int_le (negsuc 63) d && int_le d (pos 64)) ≡ true → Valued s (index h (variable g p) i) Int
unfolding found_of
window_valued {s = s} {h = h} {g = g} {p = p} {i = i} {d = d} role is e =
    let one : is_window s (variable g p) ≡ true = ap is_window_role role in
    record {
      passed = subst (λ (t : Bool). (if t then reach_break g.at h.at (distance_of i) else option_or (break_of s (variable g p)) (option_or (break_of s i) (unless (not (is_in_lambda s) && is_some (shape_of s (index h (variable g p) i))) h.at WrongType))) ≡ None) (sym one) (reach_passes g.at h.at i d is e);
      shape = subst (λ (t : Bool). (if t then Some Int else of_both index_result (shape_of s (variable g p)) (shape_of s i)) ≡ Some Int) (sym one) refl;
    }
