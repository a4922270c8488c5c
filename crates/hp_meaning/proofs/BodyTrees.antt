-- The body of a lambda whose tests pass makes a number or a truth value of its type of each element, or traps, and
-- reads no file.
use Rattle.std.proofs.Common.{◌≡◌, ℕ, suc, Bool, true, false, not, ◌&&◌, ◌||◌, cond, eqb, bytes_eq, List, [], ◌∷◌, ◌++◌, Option, Some, None, option_and_then, is_some, refl, ap, subst, ◌∙◌, arith, eqb-true}
use Rattle.std.specs.Option.{option_or}
use Rattle.hp_word.specs.declared.name.Name.{Name}
use Rattle.hp_word.specs.declared.place.Place.{Place}
use Rattle.hp_script.specs.declared.function.Function.{Function}
use Rattle.hp_script.specs.declared.function.Function.TheVariants as function
use Rattle.hp_script.specs.declared.function.ScalarFunction.{ScalarFunction}
use Rattle.hp_script.specs.declared.rule.Refusal.{Refusal}
use Rattle.hp_script.specs.declared.rule.Rule.TheVariants.{WrongType, WrongCount}
use Rattle.hp_script.specs.declared.tree.UnOp.TheVariants.{Neg}
use Rattle.hp_script.specs.declared.tree.BinOp.{BinOp}
use Rattle.hp_script.specs.declared.tree.BinOp.TheVariants.{Mul}
use Rattle.hp_script.specs.declared.typed.Shape.{Shape}
use Rattle.hp_script.specs.declared.typed.Shape.TheVariants as shape
use Rattle.hp_script.specs.declared.typed.ReadSpec.{ReadSpec}
use Rattle.hp_script.specs.Breaks.{unless, field_break, column_break, distance_of, reach_break, place_of, is_flipped, is_scalar_function, count_of, plain_break, range_break, lambda_break, named_break}
use Rattle.hp_script.specs.Entries.{file_of_call, files_in, files_among}
use Rattle.hp_script.specs.Functions.{function_named, takes_count}
use Rattle.hp_script.specs.Mirror.{Tree, Args, none, plain, range, lambda, named}
use Rattle.hp_script.specs.Mirror as trees
use Rattle.hp_script.specs.Results.{arithmetic_result, of_both, two_values, call_result}
use Rattle.hp_script.specs.Scope.{Role, Scope, role_of, are_some, is_in_lambda}
use Rattle.hp_script.specs.Typing.{is_window, is_window_role, wanted, inside, value_or_misfit, plain_argument}
use Rattle.hp_script.specs.Walk.{found_of, shape_of, break_of, parts_break, finds_of, in_turn, found_among, site}
use Rattle.hp_script.proofs.Shaped.{called, call_passes}
use Rattle.hp_script.proofs.Turns.{arguments, breaks_among}
use Rattle.hp_meaning.specs.declared.value.Kind.TheVariants.{Number}
use Rattle.hp_meaning.specs.Fitting.{a_number, a_truth}
use Rattle.hp_meaning.specs.LambdaRules.{near_value, call_value, scalar, scalars, kind_of}
use Rattle.hp_meaning.proofs.Fine.{gives, so}
use Rattle.hp_meaning.proofs.FineWords.{truth_of}
use Rattle.hp_meaning.proofs.Bodies.{Known, number, truth, a_kind_of_number, a_kind_of_truth, BodyAs, name_body, unary_body, binary_body, called_body, near_body}
use Rattle.hp_meaning.proofs.ReadNames.{reads_same, no_file}
use Rattle.hp_script.proofs.TestLemmas.{or_left, or_right, passes}

-- the only lambda around has this parameter
pub record In (s : Scope) (p : List ℕ) (role : Role) : Type 0 where
  pub only : s.parameters ≡ record { name = p; role = role } ∷ []
  pub known : Known role

pub record Body (s : Scope) (p : List ℕ) (role : Role) (x : Tree) : Type 0 where
  pub files : files_in x ≡ []
  pub body : BodyAs s p role (shape_of s x) (scalar x) (kind_of x p)

-- the two operands of a call
record Operands (s : Scope) (p : List ℕ) (role : Role) (at : Place) (g : ScalarFunction) (dotted : Bool) (xs : Args) : Type 0 where
  pub files : files_among xs ≡ []
  pub body : BodyAs s p role (two_values (arithmetic_result dotted) (arguments s at (function.Scalar g) [] xs)) (λ i. call_value (Some (function.Scalar g)) dotted at (scalars xs i)) (λ kind vars. Number)

-- ---- in a lambda

role_found : {s : Scope} {p : List ℕ} {role : Role} → In s p role → (x : List ℕ) → role_of s.parameters x ≡ cond (bytes_eq x p) (Some role) None
role_found lam x = ap (λ parameters. role_of parameters x) lam.only

in_lambda : {s : Scope} {p : List ℕ} {role : Role} → In s p role → is_in_lambda s ≡ true
in_lambda lam = ap are_some lam.only

refused : (inside other : Bool) → inside ≡ true → (not inside && other) ≡ true → ⊥
refused true other e h = absurd cc
refused false other e h = absurd cc

column_refused : (around : Option (List Name)) (s : Scope) (at : Place) (c : List ℕ) → is_in_lambda s ≡ true → column_break around s at c ≡ None → ⊥
unfolding column_break
column_refused None s at c inside e = absurd cc
column_refused (Some columns) s at c inside e =
    let out : not (is_in_lambda s) ≡ true = passes (not (is_in_lambda s)) at WrongType (or_left _ _ e) in
    absurd cc

field_refused : (role : Option Role) (s : Scope) (at : Place) (x c : List ℕ) → is_in_lambda s ≡ true → field_break role s at x c ≡ None → ⊥
unfolding field_break
field_refused (Some role) s at x c inside e = absurd cc
field_refused None s at x c inside e = refused (is_in_lambda s) _ inside (passes _ at WrongType (or_left _ _ (or_right _ _ e)))

unflipped : (s : Scope) (op : BinOp) (dotted : Bool) (y : Tree) → is_in_lambda s ≡ true → is_flipped s op dotted y ≡ false
unflipped s Mul false y inside = rw inside refl
unflipped s _ _ y inside = refl

pub else_passes : (holds : Bool) (a b : Option Refusal) → holds ≡ false → cond holds a b ≡ None → b ≡ None
else_passes true a b e h = absurd cc
else_passes false a b e h = h

no_files : {xs ys : List ReadSpec} → xs ≡ [] → ys ≡ [] → xs ++ ys ≡ []
no_files {xs} {ys} e d = ap (λ zs. zs ++ ys) e ∙ d

-- ---- the places of a stencil

distance_files : (at bracket : Place) (d : Tree) → reach_break at bracket (distance_of d) ≡ None → files_in d ≡ []
unfolding files_in
distance_files at bracket (trees.number h z) e = refl
distance_files at bracket (trees.unary h Neg false (trees.number g z)) e = refl
distance_files at bracket _ e = absurd cc

record Near (s : Scope) (p : List ℕ) (role : Role) (x d : Tree) : Type 0 where
  pub files : files_in x ≡ []
  pub body : BodyAs s p role (Some shape.Int) (λ i. near_value x d i) (λ kind vars. Number)

near : {s : Scope} {p : List ℕ} {role : Role} (bracket : Place) (x d : Tree) → In s p role → is_window s x ≡ true → reach_break (place_of x) bracket (distance_of d) ≡ None → Near s p role x d
unfolding files_in
near {role = role} bracket (trees.variable h x) d lam w e =
    record { files = refl; body = near_body role h.at bracket h x d (subst (λ r. is_window_role r ≡ true) (role_found lam x) w) e }
near bracket _ d lam w e = absurd cc

index_body : {s : Scope} {p : List ℕ} {role : Role} (bracket : Place) (x d : Tree) (w : Bool) (found : Option Shape) (tested_x tested_d : Option Refusal) → In s p role → is_window s x ≡ w
    → cond w (reach_break (place_of x) bracket (distance_of d)) (option_or tested_x (option_or tested_d (unless (not (is_in_lambda s) && is_some (cond w (Some shape.Int) found)) bracket WrongType))) ≡ None
    → (files_in x ++ files_in d ≡ []) × BodyAs s p role (cond w (Some shape.Int) found) (λ i. near_value x d i) (λ kind vars. Number)
index_body bracket x d true found tested_x tested_d lam w e =
    let there = near bracket x d lam w e in
    (no_files there.files (distance_files (place_of x) bracket d e), there.body)
index_body {s} bracket x d false found tested_x tested_d lam w e =
    absurd (refused (is_in_lambda s) _ (in_lambda lam) (passes _ bracket WrongType (or_right tested_d _ (or_right tested_x _ e))))

-- ---- calls

two_given : (P : Option Shape → Type 0) (result : Shape → Shape → Option Shape) (a b : Option Shape) → P (of_both result a b) → P (two_values result (value_or_misfit a ∷ value_or_misfit b ∷ []))
two_given P result (Some a) (Some b) h = h
two_given P result (Some a) None h = h
two_given P result None b h = h

too_many : (n : ℕ) → eqb (suc (suc (suc n))) 2 ≡ true → ⊥
too_many n e = let same = eqb-true (suc (suc (suc n))) 2 e in omega arith

-- a test that fails
broken_test : (r : Refusal) → Some r ≡ None → ⊥
broken_test r e = absurd cc

broken_name : (tested : Option Refusal) (r : Refusal) (rest : Option Refusal) → option_or (option_or tested (Some r)) rest ≡ None → ⊥
broken_name None r rest e = absurd cc
broken_name (Some t) r rest e = absurd cc

-- a scalar function is all that is called
scalar_call : {s : Scope} {p : List ℕ} {role : Role} (at : Place) (name : List ℕ) (dotted : Bool) (xs : Args) (f : Function)
    → function_named dotted name ≡ Some f → is_scalar_function f ≡ true → takes_count f (count_of xs) ≡ true → (found_among f (finds_of (site s at f) xs)).refusal ≡ None
    → ((g : ScalarFunction) → takes_count (function.Scalar g) (count_of xs) ≡ true → breaks_among s at (function.Scalar g) [] xs ≡ None → Operands s p role at g dotted xs)
    → (file_of_call name dotted xs ++ files_among xs ≡ []) × BodyAs s p role (call_result f dotted (found_among f (finds_of (site s at f) xs)).arguments) (λ i. call_value (Some f) dotted at (scalars xs i)) (λ kind vars. Number)
unfolding call_result
scalar_call at name dotted xs (function.Scalar g) same scalar count e operands =
    let two = operands g count e in
    (no_files (no_file name dotted xs (reads_same dotted name (function.Scalar g) same)) two.files, two.body)
scalar_call at name dotted xs _ same scalar count e operands = absurd cc

allowed_scalar : (inside scalar : Bool) → inside ≡ true → (not inside || scalar) ≡ true → scalar ≡ true
allowed_scalar true scalar e h = h
allowed_scalar false scalar e h = absurd cc

-- ---- bodies

mutual
  unfolding found_of finds_of in_turn files_in files_among scalar scalars kind_of wanted inside plain_break range_break lambda_break named_break plain_argument

  pub body_safe : (s : Scope) (p : List ℕ) (role : Role) (x : Tree) → In s p role → break_of s x ≡ None → Body s p role x
  body_safe s p role (trees.number h z) lam e = record { files = refl; body = record { scalar = number; right = λ i inner. so (gives (a_number z)); kind = λ kind vars of keeps. a_kind_of_number } }
  body_safe s p role (trees.truth h holds) lam e = record { files = refl; body = record { scalar = truth; right = λ i inner. so (gives (a_truth _ (truth_of holds))); kind = λ kind vars of keeps. a_kind_of_truth } }
  body_safe s p role (trees.text h bytes) lam e = absurd cc
  body_safe s p role (trees.variable h x) lam e =
      record { files = refl; body = name_body role (role_of s.parameters x) (bytes_eq x p) h.at x lam.known refl (role_found lam x) (in_lambda lam) e }
  body_safe s p role (trees.column h c) lam e = absurd (column_refused s.around s h.at c (in_lambda lam) e)
  body_safe s p role (trees.field h x c) lam e = absurd (field_refused (role_of s.parameters x) s h.at x c (in_lambda lam) e)
  body_safe s p role (trees.unary h op dotted x) lam e =
      let inner = body_safe s p role x lam (or_left _ _ e) in
      record { files = inner.files; body = unary_body op dotted inner.body }
  body_safe s p role (trees.binary h op dotted x y) lam e =
      let left = body_safe s p role x lam (or_left _ _ e) in
      let right = body_safe s p role y lam (else_passes (is_flipped s op dotted y) (parts_break s y) (break_of s y) (unflipped s op dotted y (in_lambda lam)) (or_left _ _ (or_right _ _ e))) in
      record { files = no_files left.files right.files; body = binary_body h.at op dotted left.body right.body }
  body_safe s p role (trees.index h x d) lam e =
      let there = index_body h.at x d (is_window s x) _ (break_of s x) (break_of s d) lam refl e in
      record { files = there.0; body = there.1 }
  body_safe s p role (trees.call h name dotted xs) lam e =
      let there = called (λ found. (file_of_call name dotted xs ++ files_among xs ≡ [])
      × BodyAs s p role (option_and_then (λ f. call_result f dotted (found_among f (finds_of (site s h.at f) xs)).arguments) found) (λ i. call_value found dotted h.at (scalars xs i)) (λ kind vars. Number))
      h.at (function_named dotted name) _
      (λ f same t.
      let passed = call_passes s f h.at _ (or_right _ _ (or_right _ _ t)) in
      scalar_call h.at name dotted xs f same (allowed_scalar (is_in_lambda s) (is_scalar_function f) (in_lambda lam) passed.allowed)
      (passes (takes_count f (count_of xs)) h.at WrongCount (or_left _ _ t)) (or_left _ _ (or_right _ _ t))
      (λ g count b. operands_safe s p role h.at g dotted xs lam count b)) e in
      record { files = there.0; body = there.1 }

  operands_safe : (s : Scope) (p : List ℕ) (role : Role) (at : Place) (g : ScalarFunction) (dotted : Bool) (xs : Args) → In s p role → takes_count (function.Scalar g) (count_of xs) ≡ true
      → breaks_among s at (function.Scalar g) [] xs ≡ None → Operands s p role at g dotted xs
  operands_safe s p role at g dotted (plain x (plain y none)) lam count e =
      let left = body_safe s p role x lam (or_left _ _ e) in
      let right = body_safe s p role y lam (or_left _ _ (or_right _ _ e)) in
      record {
        files = no_files left.files (no_files right.files refl);
        body = two_given (λ found. BodyAs s p role found (λ i. call_value (Some (function.Scalar g)) dotted at (scalar x i ∷ scalar y i ∷ [])) (λ kind vars. Number)) (arithmetic_result dotted) (shape_of s x) (shape_of s y)
            (called_body g dotted at left.body right.body);
      }
  operands_safe s p role at g dotted none lam count e = absurd cc
  operands_safe s p role at g dotted (plain x none) lam count e = absurd cc
  operands_safe s p role at g dotted (plain x (plain y (plain z xs))) lam count e = absurd (too_many (count_of xs) count)
  operands_safe s p role at g dotted (plain x (plain y (range z w xs))) lam count e = absurd (too_many (count_of xs) count)
  operands_safe s p role at g dotted (plain x (plain y (lambda own z xs))) lam count e = absurd (too_many (count_of xs) count)
  operands_safe s p role at g dotted (plain x (plain y (named name place z xs))) lam count e = absurd (too_many (count_of xs) count)
  operands_safe s p role at g dotted (plain x (range y z xs)) lam count e = absurd (broken_test _ (or_right _ _ e))
  operands_safe s p role at g dotted (plain x (lambda own y xs)) lam count e = absurd (broken_test _ (or_right _ _ e))
  operands_safe s p role at g dotted (plain x (named name place y xs)) lam count e = absurd (broken_name (break_of s y) _ _ (or_right _ _ e))
  operands_safe s p role at g dotted (range x y xs) lam count e = absurd (broken_test _ e)
  operands_safe s p role at g dotted (lambda own x xs) lam count e = absurd (broken_test _ e)
  operands_safe s p role at g dotted (named name place x xs) lam count e = absurd (broken_name (break_of s x) _ _ e)
