-- An expression whose tests pass has a type, and a frame has not too many columns.
use Rattle.std.proofs.Common.{◌≡◌, ℕ, Bool, true, false, not, ◌&&◌, ◌||◌, cond, nat_le, bytes_eq, List, [], ◌∷◌, length, Option, Some, None, is_some, option_and_then, IsTrue, IsSome, refl}
use Rattle.std.specs.List.{list_all}
use Rattle.std.specs.Option.{option_or}
use Rattle.hp_word.specs.declared.place.Place.{Place}
use Rattle.hp_script.specs.declared.rule.Refusal.{Refusal}
use Rattle.hp_script.specs.declared.rule.Rule.TheVariants.{MaybeUnset, WrongType, TooManyColumns}
use Rattle.hp_script.specs.declared.tree.UnOp.{UnOp}
use Rattle.hp_script.specs.declared.tree.UnOp.TheVariants.{Neg, Not}
use Rattle.hp_script.specs.declared.tree.BinOp.{BinOp}
use Rattle.hp_script.specs.declared.tree.BinOp.TheVariants.{Or, And, Eq, Ne, Lt, Le, Gt, Ge, Add, Sub, BitOr, Mul, BitAnd}
use Rattle.hp_script.specs.declared.typed.Shape.{Shape}
use Rattle.hp_script.specs.declared.typed.Shape.TheVariants as shape
use Rattle.hp_script.specs.declared.typed.Var.{Var}
use Rattle.hp_script.specs.declared.function.Function.{Function}
use Rattle.hp_script.specs.declared.function.Function.TheVariants as function
use Rattle.hp_script.specs.Breaks.{unless, name_break, result_break, call_break, with_function, is_scalar_function}
use Rattle.hp_script.specs.Functions.{function_named}
use Rattle.hp_script.specs.Mirror.{Tree, number, truth, text, variable, column, field, unary, binary, index, call}
use Rattle.hp_script.specs.Results.{some_if, are_numbers, are_truths, are_matrices, spreads_numbers, spreads_truths, arithmetic_result, comparison_result, logic_result, mask_result, product_result, binary_result, unary_result, index_result, of_both}
use Rattle.hp_script.specs.Scope.{Role, element, window, Parameter, Scope, is_set, shape_among, role_of, is_in_lambda}
use Rattle.hp_script.specs.Shapes.{is_narrow, is_narrow_entry}
use Rattle.hp_script.specs.Typing.{name_shape, is_window}
use Rattle.hp_script.specs.Walk.{found_of, shape_of, break_of}
use Rattle.hp_script.proofs.FunctionNames.{is_transpose}
use Rattle.hp_script.proofs.TestLemmas.{passes, or_left, or_right, and_left, and_right}

-- ---- where an expression stands

-- A part of an expression has a type, and a frame has not too many columns.
pub record Shaped (found : Option Shape) : Type 0 where
  pub some : IsSome found
  pub narrow : IsTrue (is_narrow_entry found)

-- At most one lambda is around; the name is that of its parameter where that is an argument of `stencil`.
pub data Stands : List Parameter → Option (List ℕ) → Type 0 where
  outside : Stands [] None
  of_element : {name : List ℕ} {kind : Shape} → IsTrue (is_narrow kind) → Stands (record { name = name; role = element kind } ∷ []) None
  of_window : {name : List ℕ} → Stands (record { name = name; role = window } ∷ []) (Some name)

-- what is kept along a script: what is surely set has a type, frames have not too many columns
pub record Sound (s : Scope) (parameter : Option (List ℕ)) : Type 0 where
  pub known : (x : List ℕ) → is_set s.ways x ≡ true → IsSome (shape_among s.vars x)
  pub narrow : IsTrue (list_all (λ var. is_narrow var.shape) s.vars)
  pub stands : Stands s.parameters parameter

-- ---- names

abbrev is_narrow_role : Option Role → Bool
is_narrow_role (Some (element kind)) = is_narrow kind
is_narrow_role _ = true

role_step : (same : Bool) (role : Role) → IsTrue (is_narrow_role (Some role)) → IsTrue (is_narrow_role (cond same (Some role) None))
role_step true role h = h
role_step false role h = refl

narrow_role : {parameters : List Parameter} {parameter : Option (List ℕ)} → Stands parameters parameter → (x : List ℕ) → IsTrue (is_narrow_role (role_of parameters x))
narrow_role outside x = refl
narrow_role (of_element {name} {kind} h) x = role_step (bytes_eq x name) (element kind) h
narrow_role (of_window {name}) x = role_step (bytes_eq x name) window refl

among_step : (same : Bool) (kind : Shape) (rest : Option Shape) → IsTrue (is_narrow kind) → IsTrue (is_narrow_entry rest) → IsTrue (is_narrow_entry (cond same (Some kind) rest))
among_step true kind rest h k = h
among_step false kind rest h k = k

narrow_among : (vars : List Var) (x : List ℕ) → IsTrue (list_all (λ var. is_narrow var.shape) vars) → IsTrue (is_narrow_entry (shape_among vars x))
narrow_among [] x h = refl
narrow_among (var ∷ vars) x h =
    among_step (bytes_eq x var.name.bytes) var.shape (shape_among vars x) (and_left (is_narrow var.shape) _ h) (narrow_among vars x (and_right (is_narrow var.shape) _ h))

name_shaped : (role : Option Role) (s : Scope) (parameter : Option (List ℕ)) (at : Place) (x : List ℕ)
    → Sound s parameter → IsTrue (is_narrow_role role) → name_break role s at x ≡ None → Shaped (name_shape role (shape_among s.vars x))
unfolding name_break
name_shaped (Some (element kind)) s parameter at x sound narrow h = record { some = refl; narrow = narrow }
name_shaped (Some window) s parameter at x sound narrow h = absurd cc
name_shaped None s parameter at x sound narrow h =
    record { some = sound.known x (passes (is_set s.ways x) at MaybeUnset (or_right _ _ (or_left _ _ h))); narrow = narrow_among s.vars x sound.narrow }

-- ---- operators

some_if_narrow : (holds : Bool) (kind : Shape) → IsTrue (is_narrow kind) → IsTrue (is_narrow_entry (some_if holds kind))
some_if_narrow true kind h = h
some_if_narrow false kind h = refl

arithmetic_narrow : (dotted : Bool) (a b : Shape) → IsTrue (is_narrow_entry (arithmetic_result dotted a b))
arithmetic_narrow false a b = some_if_narrow (are_numbers a b) shape.Int refl
arithmetic_narrow true a b = some_if_narrow (spreads_numbers a b) shape.Ints refl

comparison_narrow : (dotted : Bool) (a b : Shape) → IsTrue (is_narrow_entry (comparison_result dotted a b))
comparison_narrow false a b = some_if_narrow (are_numbers a b) shape.Bool refl
comparison_narrow true a b = some_if_narrow (spreads_numbers a b) shape.Bools refl

logic_narrow : (dotted : Bool) (a b : Shape) → IsTrue (is_narrow_entry (logic_result dotted a b))
logic_narrow false a b = some_if_narrow (are_truths a b) shape.Bool refl
logic_narrow true a b = refl

mask_narrow : (dotted : Bool) (a b : Shape) → IsTrue (is_narrow_entry (mask_result dotted a b))
mask_narrow false a b = refl
mask_narrow true a b = some_if_narrow (spreads_truths a b) shape.Bools refl

product_narrow : (dotted : Bool) (a b : Shape) → IsTrue (is_narrow_entry (product_result dotted a b))
product_narrow false a b = among_step (are_matrices a b) shape.Matrix (some_if (are_numbers a b) shape.Int) refl (some_if_narrow (are_numbers a b) shape.Int refl)
product_narrow true a b = some_if_narrow (spreads_numbers a b) shape.Ints refl

binary_narrow : (op : BinOp) (dotted : Bool) (a b : Shape) → IsTrue (is_narrow_entry (binary_result op dotted a b))
binary_narrow Or = logic_narrow
binary_narrow And = logic_narrow
binary_narrow Eq = comparison_narrow
binary_narrow Ne = comparison_narrow
binary_narrow Lt = comparison_narrow
binary_narrow Le = comparison_narrow
binary_narrow Gt = comparison_narrow
binary_narrow Ge = comparison_narrow
binary_narrow Add = arithmetic_narrow
binary_narrow Sub = arithmetic_narrow
binary_narrow BitOr = mask_narrow
binary_narrow Mul = product_narrow
binary_narrow BitAnd = mask_narrow

both_narrow : (result : Shape → Shape → Option Shape) → ((a b : Shape) → IsTrue (is_narrow_entry (result a b))) → (a b : Option Shape) → IsTrue (is_narrow_entry (of_both result a b))
both_narrow result h (Some a) (Some b) = h a b
both_narrow result h None b = refl
both_narrow result h (Some a) None = refl

unary_narrow : (op : UnOp) (dotted : Bool) (a : Option Shape) → IsTrue (is_narrow_entry (option_and_then (unary_result op dotted) a))
unary_narrow op dotted None = refl
unary_narrow Neg false (Some shape.Int) = refl
unary_narrow Not false (Some shape.Bool) = refl
unary_narrow Not true (Some shape.Bools) = refl
unary_narrow _ _ (Some _) = refl

index_narrow : (a b : Shape) → IsTrue (is_narrow_entry (index_result a b))
index_narrow shape.Ints shape.Int = refl
index_narrow shape.Bools shape.Int = refl
index_narrow shape.Ints shape.Ints = refl
index_narrow shape.Bools shape.Ints = refl
index_narrow _ _ = refl

index_shaped : (is_place in_lambda : Bool) (at : Place) (reach x i : Option Refusal) (a b : Option Shape)
    → cond is_place reach (option_or x (option_or i (unless (not in_lambda && is_some (cond is_place (Some shape.Int) (of_both index_result a b))) at WrongType))) ≡ None
    → Shaped (cond is_place (Some shape.Int) (of_both index_result a b))
index_shaped true in_lambda at reach x i a b h = record { some = refl; narrow = refl }
index_shaped false in_lambda at reach x i a b h =
    record { some = and_right (not in_lambda) _ (passes _ at WrongType (or_right i _ (or_right x _ h))); narrow = both_narrow index_result index_narrow a b }

-- ---- calls

result_shaped : (f : Function) (at : Place) (result : Option Shape) → result_break f at result ≡ None → Shaped result
unfolding result_break
result_shaped f at None h = absurd cc
result_shaped f at (Some (shape.Frame columns)) h = record { some = refl; narrow = passes (nat_le (length columns) 1024) at TooManyColumns (or_right _ _ h) }
result_shaped f at (Some _) h = record { some = refl; narrow = refl }

-- what is so of a call whose own test passes
pub record Passes (s : Scope) (f : Function) (result : Option Shape) : Type 0 where
  pub shaped : Shaped result
  pub flips_not : is_transpose f ≡ false
  pub allowed : (not (is_in_lambda s) || is_scalar_function f) ≡ true

pub call_passes : (s : Scope) (f : Function) (at : Place) (result : Option Shape) → call_break s f at result ≡ None → Passes s f result
unfolding call_break
call_passes s function.Transpose at result h = absurd cc
call_passes s f at result h =
    record { shaped = result_shaped _ at result (or_right _ _ h); flips_not = refl; allowed = passes _ at WrongType (or_left _ _ h) }

-- what follows for each function follows for the function of a name
pub called : (P : Option Function → Type 0) (at : Place) (found : Option Function) (tests : Function → Option Refusal)
    → ((f : Function) → found ≡ Some f → tests f ≡ None → P (Some f)) → with_function at found tests ≡ None → P found
called P at None tests next h = absurd cc
called P at (Some f) tests next h = next f refl h

-- ---- expressions

pub shaped : (s : Scope) (parameter : Option (List ℕ)) (x : Tree) → Sound s parameter → break_of s x ≡ None → Shaped (shape_of s x)
unfolding found_of
shaped s parameter (number h value) sound e = record { some = refl; narrow = refl }
shaped s parameter (truth h holds) sound e = record { some = refl; narrow = refl }
shaped s parameter (text h bytes) sound e = absurd cc
shaped s parameter (variable h x) sound e = name_shaped (role_of s.parameters x) s parameter h.at x sound (narrow_role sound.stands x) e
shaped s parameter (column h c) sound e = record { some = refl; narrow = refl }
shaped s parameter (field h x c) sound e = record { some = refl; narrow = refl }
shaped s parameter (unary h op dotted x) sound e =
    record { some = passes _ h.at WrongType (or_right _ _ e); narrow = unary_narrow op dotted (shape_of s x) }
shaped s parameter (binary h op dotted x y) sound e =
    record { some = passes _ h.at WrongType (or_right _ _ (or_right _ _ e)); narrow = both_narrow (binary_result op dotted) (binary_narrow op dotted) (shape_of s x) (shape_of s y) }
shaped s parameter (index h x i) sound e = index_shaped (is_window s x) (is_in_lambda s) h.at _ (break_of s x) (break_of s i) (shape_of s x) (shape_of s i) e
shaped s parameter (call h name dotted xs) sound e =
    called (λ found. Shaped (shape_of s (call h name dotted xs))) h.at (function_named dotted name) _ (λ f same t. (call_passes s f h.at _ (or_right _ _ (or_right _ _ t))).shaped) e
