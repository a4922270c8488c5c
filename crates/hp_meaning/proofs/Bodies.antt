-- What a lambda makes of an element: a number or a truth value of its type, or a trap. Each form by its parts.
use Rattle.std.proofs.Common.{◌≡◌, ℕ, ℤ, Bool, true, false, not, ◌||◌, cond, bytes_eq, List, [], ◌∷◌, Option, Some, None, option_and_then, is_some, refl, sym, ap, subst, ◌∙◌}
use Rattle.hp_word.specs.declared.place.Place.{Place}
use Rattle.hp_word.specs.FoldLaws.{is_truth}
use Rattle.hp_script.specs.declared.function.Function.TheVariants as function
use Rattle.hp_script.specs.declared.function.ScalarFunction.{ScalarFunction}
use Rattle.hp_script.specs.declared.rule.Rule.TheVariants.{MaybeUnset, WrongType}
use Rattle.hp_script.specs.declared.tree.UnOp.{UnOp}
use Rattle.hp_script.specs.declared.tree.UnOp.TheVariants.{Neg, Not}
use Rattle.hp_script.specs.declared.tree.BinOp.{BinOp}
use Rattle.hp_script.specs.declared.tree.BinOp.TheVariants as binary
use Rattle.hp_script.specs.declared.typed.Shape.{Shape}
use Rattle.hp_script.specs.declared.typed.Shape.TheVariants as shape
use Rattle.hp_script.specs.Breaks.{name_break, is_scalar, distance_of, reach_break}
use Rattle.hp_script.specs.Mirror.{Tree}
use Rattle.hp_script.specs.Mirror as trees
use Rattle.hp_script.specs.Results.{some_if, are_numbers, are_truths, spreads_numbers, spreads_truths, arithmetic_result, logic_result, binary_result, unary_result, of_both}
use Rattle.hp_script.specs.Scope.{Role, element, window, Scope, is_set, shape_among, is_in_lambda}
use Rattle.hp_script.specs.Typing.{name_shape, is_window_role}
use Rattle.hp_meaning.specs.declared.value.Kind.{Kind}
use Rattle.hp_meaning.specs.declared.value.Kind.TheVariants.{Number, Truth}
use Rattle.hp_meaning.specs.declared.value.Value.{Value}
use Rattle.hp_meaning.specs.declared.value.Var.{Var}
use Rattle.hp_meaning.specs.Fitting.{HasShape, a_number, a_truth, Bound, bound, Keeps}
use Rattle.hp_meaning.specs.LambdaRules.{Sight, Element, Around, Inside, scalar_only, parameter_value, name_value, distance, element_near, near_value, lazy_value, strict_value, operator_value, call_value, unary_kind, kind_in}
use Rattle.hp_meaning.specs.Outcomes.{Answer, also}
use Rattle.hp_meaning.specs.Scopes.{value_named}
use Rattle.hp_meaning.specs.ValueOf as outside
use Rattle.hp_meaning.specs.WordRules.{is_lazy, decides, result_of, unary_value, plain_value}
use Rattle.hp_meaning.proofs.Fine.{Right, gives, traps, also_right, right_if, RightAs, so, no, right_of}
use Rattle.hp_meaning.proofs.FineWords.{word_shape, decision_truth, operator_as, unary_as, scalar_as}
use Rattle.hp_script.proofs.TestLemmas.{or_left, or_right, passes}

-- ---- what a body sees

-- what a parameter is
pub data Known : Role → Type 0 where
  of_numbers : Known (element shape.Int)
  of_truths : Known (element shape.Bool)
  of_places : Known window

-- what it stands for
pub data Sees : Role → Sight → Type 0 where
  sees_number : (x : ℤ) → Sees (element shape.Int) (Element Number x)
  sees_truth : (x : ℤ) → is_truth x ≡ true → Sees (element shape.Bool) (Element Truth x)
  sees_place : (xs : List ℤ) (k : ℕ) → Sees window (Around xs k)

pub record Inner (s : Scope) (p : List ℕ) (role : Role) (i : Inside) : Type 0 where
  pub same : i.parameter ≡ p
  pub sees : Sees role i.sight
  pub keeps : Keeps s i.vars

-- the kind of the elements of an array
pub data Of : Role → Kind → Type 0 where
  numbers : Of (element shape.Int) Number
  truths : Of (element shape.Bool) Truth

-- ---- what a body is

-- a number or a truth value, if it has a type
pub data Scalar : Option Shape → Type 0 where
  number : Scalar (Some shape.Int)
  truth : Scalar (Some shape.Bool)
  none : Scalar None

-- the same, of this kind
pub data KindAs : Option Shape → Kind → Type 0 where
  a_kind_of_number : KindAs (Some shape.Int) Number
  a_kind_of_truth : KindAs (Some shape.Bool) Truth
  no_kind : {kind : Kind} → KindAs None kind

pub scalar_of : {found : Option Shape} {kind : Kind} → KindAs found kind → Scalar found
scalar_of a_kind_of_number = number
scalar_of a_kind_of_truth = truth
scalar_of no_kind = none

-- a body of this type, by what it makes of an element and by its kind
pub record BodyAs (s : Scope) (p : List ℕ) (role : Role) (found : Option Shape) (makes : Inside → Answer Value) (kinds : Kind → List Var → Kind) : Type 0 where
  pub scalar : Scalar found
  pub right : (i : Inside) → Inner s p role i → RightAs found (makes i)
  pub kind : (kind : Kind) (vars : List Var) → Of role kind → Keeps s vars → KindAs found (kinds kind vars)

-- ---- names

found_scalar : (found : Option Shape) → is_scalar found ≡ true → Scalar found
found_scalar (Some shape.Int) h = number
found_scalar (Some shape.Bool) h = truth
found_scalar _ h = absurd cc

bound_right : {found : Option Shape} {value : Option Value} → is_scalar found ≡ true → Bound found value → RightAs found (scalar_only value)
bound_right h (bound (a_number x)) = so (gives (a_number x))
bound_right h (bound (a_truth x t)) = so (gives (a_truth x t))
bound_right h (bound _) = absurd cc

bound_kind : {found : Option Shape} {value : Option Value} → is_scalar found ≡ true → Bound found value → KindAs found (kind_in value)
bound_kind h (bound (a_number x)) = a_kind_of_number
bound_kind h (bound (a_truth x t)) = a_kind_of_truth
bound_kind h (bound _) = absurd cc

-- the parameter itself
sight_right : {kind : Shape} {sight : Sight} → Sees (element kind) sight → RightAs (Some kind) (parameter_value sight)
sight_right (sees_number x) = so (gives (a_number x))
sight_right (sees_truth x t) = so (gives (a_truth x t))

sight_kind : {shape : Shape} {kind : Kind} → Of (element shape) kind → KindAs (Some shape) kind
sight_kind numbers = a_kind_of_number
sight_kind truths = a_kind_of_truth

sight_scalar : {kind : Shape} → Known (element kind) → Scalar (Some kind)
sight_scalar of_numbers = number
sight_scalar of_truths = truth

right_where : {found : Option Shape} (wanted same : Bool) (a b : Answer Value) → same ≡ wanted → RightAs found (cond wanted a b) → RightAs found (cond same a b)
right_where wanted same a b e h = rw e h

kind_where : {found : Option Shape} (wanted same : Bool) (a b : Kind) → same ≡ wanted → KindAs found (cond wanted a b) → KindAs found (cond same a b)
kind_where wanted same a b e h = rw e h

scalar_passes : (inside known : Bool) → inside ≡ true → (not inside || known) ≡ true → known ≡ true
scalar_passes true known e h = h
scalar_passes false known e h = absurd cc

role_body : {s : Scope} {p : List ℕ} (role : Role) (at : Place) (x : List ℕ) → Known role → bytes_eq x p ≡ true → name_break (Some role) s at x ≡ None
    → BodyAs s p role (name_shape (Some role) (shape_among s.vars x)) (λ i. name_value x i) (λ kind vars. cond (bytes_eq x p) kind (kind_in (value_named x vars)))
unfolding name_break name_value
role_body {p} (element k) at x known same e = record {
  scalar = sight_scalar known;
  right = λ i inner. right_where true (bytes_eq x i.parameter) _ _ (ap (bytes_eq x) inner.same ∙ same) (sight_right inner.sees);
  kind = λ kind vars of keeps. kind_where true (bytes_eq x p) _ _ same (sight_kind of);
}
role_body window at x known same e = absurd cc

variable_body : {s : Scope} {p : List ℕ} {role : Role} (at : Place) (x : List ℕ) → bytes_eq x p ≡ false → is_in_lambda s ≡ true → name_break None s at x ≡ None
    → BodyAs s p role (shape_among s.vars x) (λ i. name_value x i) (λ kind vars. cond (bytes_eq x p) kind (kind_in (value_named x vars)))
unfolding name_break name_value
variable_body {s} {p} at x other inside e =
    let scalar = scalar_passes (is_in_lambda s) (is_scalar (shape_among s.vars x)) inside (passes _ at WrongType (or_right _ _ e)) in
    let set = passes (is_set s.ways x) at MaybeUnset (or_right _ _ (or_left _ _ e)) in
    record {
      scalar = found_scalar (shape_among s.vars x) scalar;
      right = λ i inner. right_where false (bytes_eq x i.parameter) _ _ (ap (bytes_eq x) inner.same ∙ other) (bound_right scalar (inner.keeps.known x set));
      kind = λ kind vars of keeps. kind_where false (bytes_eq x p) _ _ other (bound_kind scalar (keeps.known x set));
    }

pub name_body : {s : Scope} {p : List ℕ} (role : Role) (found : Option Role) (same : Bool) (at : Place) (x : List ℕ) → Known role → bytes_eq x p ≡ same → found ≡ cond same (Some role) None → is_in_lambda s ≡ true
    → name_break found s at x ≡ None → BodyAs s p role (name_shape found (shape_among s.vars x)) (λ i. name_value x i) (λ kind vars. cond (bytes_eq x p) kind (kind_in (value_named x vars)))
name_body {s} {p} role found true at x known same e inside h =
    subst (λ r. name_break r s at x ≡ None → BodyAs s p role (name_shape r (shape_among s.vars x)) (λ i. name_value x i) (λ kind vars. cond (bytes_eq x p) kind (kind_in (value_named x vars)))) (sym e)
    (λ h. role_body role at x known same h) h
name_body {s} {p} role found false at x known same e inside h =
    subst (λ r. name_break r s at x ≡ None → BodyAs s p role (name_shape r (shape_among s.vars x)) (λ i. name_value x i) (λ kind vars. cond (bytes_eq x p) kind (kind_in (value_named x vars)))) (sym e)
    (λ h. variable_body at x same inside h) h

-- ---- one operand

unary_kinds : (op : UnOp) (dotted : Bool) {found : Option Shape} → Scalar found → KindAs (option_and_then (unary_result op dotted) found) (unary_kind op)
unary_kinds op dotted none = no_kind
unary_kinds Neg false number = a_kind_of_number
unary_kinds Neg true number = no_kind
unary_kinds Not false number = no_kind
unary_kinds Not true number = no_kind
unary_kinds Neg false truth = no_kind
unary_kinds Neg true truth = no_kind
unary_kinds Not false truth = a_kind_of_truth
unary_kinds Not true truth = no_kind

pub also_as : {ka : Shape} (found : Option Shape) {a : Answer Value} (rule : Value → Answer Value) → Right Value (HasShape ka) a → ((v : Value) → HasShape ka v → RightAs found (rule v)) → RightAs found (also a rule)
also_as None rule h each = no
also_as (Some kind) rule h each = so (also_right rule h (λ v k. right_of (each v k)))

unary_right : (op : UnOp) (dotted : Bool) {found : Option Shape} {a : Answer Value} → RightAs found a → RightAs (option_and_then (unary_result op dotted) found) (also a (unary_value op dotted))
unary_right op dotted no = no
unary_right op dotted (so {kind = kind} h) = also_as (unary_result op dotted kind) (unary_value op dotted) h (λ v k. unary_as op dotted k)

pub unary_body : {s : Scope} {p : List ℕ} {role : Role} {found : Option Shape} {makes : Inside → Answer Value} {kinds : Kind → List Var → Kind} (op : UnOp) (dotted : Bool)
    → BodyAs s p role found makes kinds → BodyAs s p role (option_and_then (unary_result op dotted) found) (λ i. also (makes i) (unary_value op dotted)) (λ kind vars. unary_kind op)
unary_body op dotted x = record {
  scalar = scalar_of (unary_kinds op dotted x.scalar);
  right = λ i inner. unary_right op dotted (x.right i inner);
  kind = λ kind vars of keeps. unary_kinds op dotted x.scalar;
}

-- ---- two operands

abbrev numbers_or_not : Kind → Kind → Kind → Option Shape
numbers_or_not result a b = some_if (are_numbers (word_shape a) (word_shape b)) (word_shape result)

kind_itself : (kind : Kind) → KindAs (Some (word_shape kind)) kind
kind_itself Number = a_kind_of_number
kind_itself Truth = a_kind_of_truth

numbers_kind : (result a b : Kind) → KindAs (numbers_or_not result a b) result
numbers_kind result Number Number = kind_itself result
numbers_kind result Number Truth = no_kind
numbers_kind result Truth b = no_kind

truths_kind : (a b : Kind) → KindAs (some_if (are_truths (word_shape a) (word_shape b)) shape.Bool) Truth
truths_kind Truth Truth = a_kind_of_truth
truths_kind Truth Number = no_kind
truths_kind Number b = no_kind

product_kind : (a b : Kind) → KindAs (binary_result binary.Mul false (word_shape a) (word_shape b)) Number
product_kind Number Number = a_kind_of_number
product_kind Number Truth = no_kind
product_kind Truth b = no_kind

undotted_kind : (op : BinOp) (a b : Kind) → KindAs (binary_result op false (word_shape a) (word_shape b)) (result_of op)
undotted_kind binary.Or a b = truths_kind a b
undotted_kind binary.And a b = truths_kind a b
undotted_kind binary.Eq a b = numbers_kind Truth a b
undotted_kind binary.Ne a b = numbers_kind Truth a b
undotted_kind binary.Lt a b = numbers_kind Truth a b
undotted_kind binary.Le a b = numbers_kind Truth a b
undotted_kind binary.Gt a b = numbers_kind Truth a b
undotted_kind binary.Ge a b = numbers_kind Truth a b
undotted_kind binary.Add a b = numbers_kind Number a b
undotted_kind binary.Sub a b = numbers_kind Number a b
undotted_kind binary.BitOr a b = no_kind
undotted_kind binary.Mul a b = product_kind a b
undotted_kind binary.BitAnd a b = no_kind

-- a dotted operator wants an array
no_numbers : (a b : Kind) → spreads_numbers (word_shape a) (word_shape b) ≡ false
no_numbers Number Number = refl
no_numbers Number Truth = refl
no_numbers Truth b = refl

no_truths : (a b : Kind) → spreads_truths (word_shape a) (word_shape b) ≡ false
no_truths Truth Number = refl
no_truths Truth Truth = refl
no_truths Number b = refl

pub dotted_none : (op : BinOp) (a b : Kind) → binary_result op true (word_shape a) (word_shape b) ≡ None
dotted_none binary.Or a b = refl
dotted_none binary.And a b = refl
dotted_none binary.Eq a b = ap (λ h. some_if h shape.Bools) (no_numbers a b)
dotted_none binary.Ne a b = ap (λ h. some_if h shape.Bools) (no_numbers a b)
dotted_none binary.Lt a b = ap (λ h. some_if h shape.Bools) (no_numbers a b)
dotted_none binary.Le a b = ap (λ h. some_if h shape.Bools) (no_numbers a b)
dotted_none binary.Gt a b = ap (λ h. some_if h shape.Bools) (no_numbers a b)
dotted_none binary.Ge a b = ap (λ h. some_if h shape.Bools) (no_numbers a b)
dotted_none binary.Add a b = ap (λ h. some_if h shape.Ints) (no_numbers a b)
dotted_none binary.Sub a b = ap (λ h. some_if h shape.Ints) (no_numbers a b)
dotted_none binary.BitOr a b = ap (λ h. some_if h shape.Bools) (no_truths a b)
dotted_none binary.Mul a b = ap (λ h. some_if h shape.Ints) (no_numbers a b)
dotted_none binary.BitAnd a b = ap (λ h. some_if h shape.Bools) (no_truths a b)

words_kind : (op : BinOp) (dotted : Bool) (a b : Kind) → KindAs (binary_result op dotted (word_shape a) (word_shape b)) (result_of op)
words_kind op false a b = undotted_kind op a b
words_kind op true a b = rw (dotted_none op a b) no_kind

binary_kinds : (op : BinOp) (dotted : Bool) {fa fb : Option Shape} → Scalar fa → Scalar fb → KindAs (of_both (binary_result op dotted) fa fb) (result_of op)
binary_kinds op dotted number number = words_kind op dotted Number Number
binary_kinds op dotted number truth = words_kind op dotted Number Truth
binary_kinds op dotted truth number = words_kind op dotted Truth Number
binary_kinds op dotted truth truth = words_kind op dotted Truth Truth
binary_kinds op dotted number none = no_kind
binary_kinds op dotted truth none = no_kind
binary_kinds op dotted none b = no_kind

-- a word is no matrix
plain_as : (at : Place) (op : BinOp) {kb : Shape} {b : Value} (a : Kind) {v : Value} → is_lazy op ≡ false → HasShape (word_shape a) v → HasShape kb b → RightAs (binary_result op false (word_shape a) kb) (plain_value at op v b)
unfolding outside.operator_value
plain_as at op Number lazy (a_number x) h = operator_as at op false lazy (a_number x) h
plain_as at op Truth lazy (a_truth x t) h = operator_as at op false lazy (a_truth x t) h

lazy_right : (op : BinOp) {a b : Answer Value} → Right Value (HasShape shape.Bool) a → Right Value (HasShape shape.Bool) b → Right Value (HasShape shape.Bool) (lazy_value op a b)
unfolding lazy_value
lazy_right op traps k = traps
lazy_right op (gives (a_truth x t)) traps = right_if (decides op x) (gives (a_truth _ (decision_truth op))) traps
lazy_right op (gives (a_truth x t)) (gives (a_truth y u)) = right_if (decides op x) (gives (a_truth _ (decision_truth op))) (gives (a_truth y u))

logic_right : (op : BinOp) (a b : Kind) {v w : Answer Value} → Right Value (HasShape (word_shape a)) v → Right Value (HasShape (word_shape b)) w
    → RightAs (logic_result false (word_shape a) (word_shape b)) (lazy_value op v w)
logic_right op Truth Truth h k = so (lazy_right op h k)
logic_right op Truth Number h k = no
logic_right op Number b h k = no

lazy_as : (op : BinOp) (a b : Kind) {v w : Answer Value} → is_lazy op ≡ true → Right Value (HasShape (word_shape a)) v → Right Value (HasShape (word_shape b)) w
    → RightAs (binary_result op false (word_shape a) (word_shape b)) (lazy_value op v w)
lazy_as binary.Or a b lazy h k = logic_right binary.Or a b h k
lazy_as binary.And a b lazy h k = logic_right binary.And a b h k
lazy_as _ a b lazy h k = absurd cc

eager_as : (at : Place) (op : BinOp) (a b : Kind) {v w : Answer Value} (lazy : Bool) → is_lazy op ≡ lazy → Right Value (HasShape (word_shape a)) v → Right Value (HasShape (word_shape b)) w
    → RightAs (binary_result op false (word_shape a) (word_shape b)) (cond lazy (lazy_value op v w) (also v (λ x. also w (λ y. plain_value at op x y))))
eager_as at op a b true lazy h k = lazy_as op a b lazy h k
eager_as at op a b false lazy h k =
    also_as (binary_result op false (word_shape a) (word_shape b)) _ h (λ x hx. also_as (binary_result op false (word_shape a) (word_shape b)) _ k (λ y hy. plain_as at op a lazy hx hy))

words_right : (at : Place) (op : BinOp) (dotted : Bool) (a b : Kind) {v w : Answer Value} → Right Value (HasShape (word_shape a)) v → Right Value (HasShape (word_shape b)) w
    → RightAs (binary_result op dotted (word_shape a) (word_shape b)) (operator_value at op dotted v w)
unfolding operator_value strict_value
words_right at op true a b h k = rw (dotted_none op a b) no
words_right at op false a b h k = eager_as at op a b (is_lazy op) refl h k

binary_right : (at : Place) (op : BinOp) (dotted : Bool) {fa fb : Option Shape} {v w : Answer Value} → Scalar fa → Scalar fb → RightAs fa v → RightAs fb w
    → RightAs (of_both (binary_result op dotted) fa fb) (operator_value at op dotted v w)
binary_right at op dotted number number h k = words_right at op dotted Number Number (right_of h) (right_of k)
binary_right at op dotted number truth h k = words_right at op dotted Number Truth (right_of h) (right_of k)
binary_right at op dotted truth number h k = words_right at op dotted Truth Number (right_of h) (right_of k)
binary_right at op dotted truth truth h k = words_right at op dotted Truth Truth (right_of h) (right_of k)
binary_right at op dotted number none h k = no
binary_right at op dotted truth none h k = no
binary_right at op dotted none b h k = no

pub binary_body : {s : Scope} {p : List ℕ} {role : Role} {fa fb : Option Shape} {a b : Inside → Answer Value} {ka kb : Kind → List Var → Kind} (at : Place) (op : BinOp) (dotted : Bool)
    → BodyAs s p role fa a ka → BodyAs s p role fb b kb
    → BodyAs s p role (of_both (binary_result op dotted) fa fb) (λ i. operator_value at op dotted (a i) (b i)) (λ kind vars. result_of op)
binary_body at op dotted x y = record {
  scalar = scalar_of (binary_kinds op dotted x.scalar y.scalar);
  right = λ i inner. binary_right at op dotted x.scalar y.scalar (x.right i inner) (y.right i inner);
  kind = λ kind vars of keeps. binary_kinds op dotted x.scalar y.scalar;
}

-- ---- functions of two numbers

arithmetic_kind : (dotted : Bool) (a b : Kind) → KindAs (arithmetic_result dotted (word_shape a) (word_shape b)) Number
arithmetic_kind dotted a b = words_kind binary.Add dotted a b

arithmetic_kinds : (dotted : Bool) {fa fb : Option Shape} → Scalar fa → Scalar fb → KindAs (of_both (arithmetic_result dotted) fa fb) Number
arithmetic_kinds dotted a b = binary_kinds binary.Add dotted a b

numbers_called : (f : ScalarFunction) (dotted : Bool) (at : Place) (a b : Kind) {v w : Answer Value} → Right Value (HasShape (word_shape a)) v → Right Value (HasShape (word_shape b)) w
    → RightAs (arithmetic_result dotted (word_shape a) (word_shape b)) (call_value (Some (function.Scalar f)) dotted at (v ∷ w ∷ []))
unfolding call_value
numbers_called f true at a b h k = rw (dotted_none binary.Add a b) no
numbers_called f false at a b h k =
    also_as (arithmetic_result false (word_shape a) (word_shape b)) _ h (λ x hx. also_as (arithmetic_result false (word_shape a) (word_shape b)) _ k (λ y hy. scalar_as f false at hx hy))

called_right : (f : ScalarFunction) (dotted : Bool) (at : Place) {fa fb : Option Shape} {v w : Answer Value} → Scalar fa → Scalar fb → RightAs fa v → RightAs fb w
    → RightAs (of_both (arithmetic_result dotted) fa fb) (call_value (Some (function.Scalar f)) dotted at (v ∷ w ∷ []))
called_right f dotted at number number h k = numbers_called f dotted at Number Number (right_of h) (right_of k)
called_right f dotted at number truth h k = numbers_called f dotted at Number Truth (right_of h) (right_of k)
called_right f dotted at truth number h k = numbers_called f dotted at Truth Number (right_of h) (right_of k)
called_right f dotted at truth truth h k = numbers_called f dotted at Truth Truth (right_of h) (right_of k)
called_right f dotted at number none h k = no
called_right f dotted at truth none h k = no
called_right f dotted at none b h k = no

pub called_body : {s : Scope} {p : List ℕ} {role : Role} {fa fb : Option Shape} {a b : Inside → Answer Value} {ka kb : Kind → List Var → Kind} (f : ScalarFunction) (dotted : Bool) (at : Place)
    → BodyAs s p role fa a ka → BodyAs s p role fb b kb
    → BodyAs s p role (of_both (arithmetic_result dotted) fa fb) (λ i. call_value (Some (function.Scalar f)) dotted at (a i ∷ b i ∷ [])) (λ kind vars. Number)
called_body f dotted at x y = record {
  scalar = scalar_of (arithmetic_kinds dotted x.scalar y.scalar);
  right = λ i inner. called_right f dotted at x.scalar y.scalar (x.right i inner) (y.right i inner);
  kind = λ kind vars of keeps. arithmetic_kinds dotted x.scalar y.scalar;
}

-- ---- the places of a stencil

-- a distance that the rules see
distance_there : (at bracket : Place) (d : Tree) → reach_break at bracket (distance_of d) ≡ None → is_some (distance d) ≡ true
distance_there at bracket (trees.number h z) e = refl
distance_there at bracket (trees.unary h Neg false (trees.number g z)) e = refl
distance_there at bracket _ e = absurd cc

near_right : {sight : Sight} (found : Option ℤ) → Sees window sight → is_some found ≡ true → RightAs (Some shape.Int) (element_near sight found)
near_right (Some d) (sees_place xs k) h = so (gives (a_number _))
near_right None (sees_place xs k) h = absurd cc

window_role : (same : Bool) (role : Role) → is_window_role (cond same (Some role) None) ≡ true → (same ≡ true) × (role ≡ window)
window_role true window h = (refl, refl)
window_role true (element kind) h = absurd cc
window_role false role h = absurd cc

-- an element by its distance
pub near_body : {s : Scope} {p : List ℕ} (role : Role) (at bracket : Place) (h : _) (x : List ℕ) (d : Tree)
    → is_window_role (cond (bytes_eq x p) (Some role) None) ≡ true → reach_break at bracket (distance_of d) ≡ None
    → BodyAs s p role (Some shape.Int) (λ i. near_value (trees.variable h x) d i) (λ kind vars. Number)
unfolding near_value
near_body {p} role at bracket h x d near e =
    let is = window_role (bytes_eq x p) role near in
    record {
      scalar = number;
      right = λ i inner. right_where true (bytes_eq x i.parameter) _ _ (ap (bytes_eq x) inner.same ∙ is.0) (near_right (distance d) (subst (λ r. Sees r i.sight) is.1 inner.sees) (distance_there at bracket d e));
      kind = λ kind vars of keeps. a_kind_of_number;
    }
