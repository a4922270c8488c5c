-- An expression that fits by the relation passes the tests, and has its type by them: calls.
use Rattle.std.proofs.Common.{◌≡◌, ℕ, Bool, true, false, not, ◌||◌, List, [], ◌∷◌, ◌++◌, codes, Option, Some, None, refl, sym, ap, ap₂, ◌∙◌, subst}
use Rattle.std.specs.Option.{option_or, option_and_then}
use Rattle.hp_word.specs.declared.name.Name.{Name}
use Rattle.hp_word.specs.declared.place.Place.{Place}
use Rattle.hp_word.specs.declared.fold.FoldKind.TheVariants as fold
use Rattle.hp_script.specs.declared.function.ScalarFunction.{ScalarFunction}
use Rattle.hp_script.specs.declared.function.ScalarFunction.TheVariants as scalar
use Rattle.hp_script.specs.declared.typed.Shape.{Shape}
use Rattle.hp_script.specs.declared.typed.Shape.TheVariants.{Int, Bool as Truth, Ints, Bools, Matrix, Frame}
use Rattle.hp_script.specs.declared.rule.Refusal.{Refusal}
use Rattle.hp_script.specs.declared.rule.Rule.TheVariants.{WrongType, WrongCount}
use Rattle.hp_script.specs.declared.argument.Argument.{Argument}
use Rattle.hp_script.specs.declared.argument.Argument.TheVariants.{Value, Interval, Body}
use Rattle.hp_script.specs.declared.function.Function.{Function}
use Rattle.hp_script.specs.declared.function.Function.TheVariants as function
use Rattle.hp_script.specs.Breaks.{unless, call_break, result_break, count_of, with_function, lambda_break}
use Rattle.hp_script.specs.Functions.{function_named, takes_count, scalar_named, fold_named, array_named, frame_named}
use Rattle.hp_script.specs.Mirror.{Head, Tree, Args, call, none, plain, range, lambda}
use Rattle.hp_script.specs.Results.{call_result, array_of, vcat_result, length_result, arithmetic_result, spreads_numbers}
use Rattle.hp_script.specs.Scope.{Scope, element, window, is_in_lambda, with_parameter}
use Rattle.hp_script.specs.Shaped.{IsOutside, IsScalarName, named_div, named_rem, named_min, named_max, IsNumberFold, named_sum, named_prod, named_minimum, named_maximum, IsTruthFold, named_any, named_all, IsArrayOf, array_of_numbers, array_of_truths, AreSpread}
use Rattle.hp_script.specs.Typing.{wanted, role_wanted, inside, lambda_argument}
use Rattle.hp_script.specs.Walk.{found_of, shape_of, break_of, finds_of, in_turn, found_among, site}
use Rattle.hp_script.proofs.TestLemmas.{none_both, unless_true}
use Rattle.hp_script.proofs.ArgumentKinds.{Valued}
use Rattle.hp_script.proofs.ArgumentRests.{one_rest, two_rest, interval_rest, body_made, body_rest, value_rest, rest_none}
use Rattle.hp_script.proofs.CompleteParts.{spread_numbers, some_true}
use Rattle.hp_script.proofs.Turns.{arguments, array_first, array_first_break, breaks_among, in_order, order_refusal, order_arguments}

-- ---- calls by their function

with_passes : (at : Place) (o : Option Function) (f : Function) (tests : Function → Option Refusal) → o ≡ Some f → tests f ≡ None → with_function at o tests ≡ None
with_passes at o f tests e p = subst (λ (k : Option Function). with_function at k tests ≡ None) (sym e) p

pub call_valued : (s : Scope) (h : Head) (name : List ℕ) (dotted : Bool) (xs : Args) (f : Function) (a : Shape) → function_named dotted name ≡ Some f
    → takes_count f (count_of xs) ≡ true → in_order f (array_first_break s h.at xs) (breaks_among s h.at f [] xs) ≡ None → call_break s f h.at (Some a) ≡ None
    → call_result f dotted (in_order f (array_first s h.at xs) (arguments s h.at f [] xs)) ≡ Some a → Valued s (call h name dotted xs) a
unfolding found_of
call_valued s h name dotted xs f a is count passed own e =
    let shape : shape_of s (call h name dotted xs) ≡ Some a =
    ap (option_and_then (λ (g : Function). call_result g dotted (found_among g (finds_of (site s h.at g) xs)).arguments)) is ∙ ap (call_result f dotted) (order_arguments s h.at f xs) ∙ e in
    record {
      passed = with_passes h.at (function_named dotted name) f
          (λ (g : Function). option_or (unless (takes_count g (count_of xs)) h.at WrongCount)
          (option_or (found_among g (finds_of (site s h.at g) xs)).refusal (call_break s g h.at (shape_of s (call h name dotted xs))))) is (none_both _ _ (unless_true _ h.at WrongCount count)
          (none_both _ _ (order_refusal s h.at f xs ∙ passed) (subst (λ (o : Option Shape). call_break s f h.at o ≡ None) (sym shape) own)));
      shape = shape;
    }

pub outside_passes : (s : Scope) (at : Place) (rest : Option Refusal) → IsOutside s → rest ≡ None → option_or (unless (not (is_in_lambda s) || false) at WrongType) rest ≡ None
outside_passes s at rest out e = none_both _ rest (unless_true _ at WrongType (subst (λ (b : Bool). (not b || false) ≡ true) (sym out) refl)) e

-- ---- functions of two numbers

scalar_always : (t : Bool) → (t || true) ≡ true
scalar_always true = refl
scalar_always false = refl

scalar_valued : (f : ScalarFunction) (dotted : Bool) (s : Scope) (h : Head) (name : List ℕ) (x y : Tree) (a b r : Shape) → function_named dotted name ≡ Some (function.Scalar f)
    → arithmetic_result dotted a b ≡ Some r → result_break (function.Scalar f) h.at (Some r) ≡ None → Valued s x a → Valued s y b → Valued s (call h name dotted (plain x (plain y none))) r
unfolding call_break call_result wanted inside
scalar_valued f dotted s h name x y a b r is e own v w =
    let q = two_rest s h.at (function.Scalar f) a b x y refl refl v w in
    call_valued s h name dotted (plain x (plain y none)) (function.Scalar f) r is refl q.passed
    (none_both _ _ (unless_true _ h.at WrongType (scalar_always (not (is_in_lambda s)))) own) (ap (call_result (function.Scalar f) dotted) q.made ∙ e)

pub scalar_call_valued : {s : Scope} {h : Head} {f : List ℕ} {x y : Tree} → IsScalarName f → Valued s x Int → Valued s y Int → Valued s (call h f false (plain x (plain y none))) Int
unfolding function_named scalar_named result_break
scalar_call_valued {s = s} {h = h} {x = x} {y = y} named_div v w = scalar_valued scalar.Div false s h (codes "div") x y Int Int Int refl refl refl v w
scalar_call_valued {s = s} {h = h} {x = x} {y = y} named_rem v w = scalar_valued scalar.Rem false s h (codes "rem") x y Int Int Int refl refl refl v w
scalar_call_valued {s = s} {h = h} {x = x} {y = y} named_min v w = scalar_valued scalar.Min false s h (codes "min") x y Int Int Int refl refl refl v w
scalar_call_valued {s = s} {h = h} {x = x} {y = y} named_max v w = scalar_valued scalar.Max false s h (codes "max") x y Int Int Int refl refl refl v w

pub scalar_calls_valued : {s : Scope} {h : Head} {f : List ℕ} {x y : Tree} {a b : Shape} → IsScalarName f → AreSpread Int Ints a b → Valued s x a → Valued s y b
    → Valued s (call h f true (plain x (plain y none))) Ints
unfolding function_named scalar_named result_break
scalar_calls_valued {s = s} {h = h} {x = x} {y = y} {a = a} {b = b} named_div e v w =
    scalar_valued scalar.Div true s h (codes "div") x y a b Ints refl (some_true (spreads_numbers a b) Ints (spread_numbers e)) refl v w
scalar_calls_valued {s = s} {h = h} {x = x} {y = y} {a = a} {b = b} named_rem e v w =
    scalar_valued scalar.Rem true s h (codes "rem") x y a b Ints refl (some_true (spreads_numbers a b) Ints (spread_numbers e)) refl v w
scalar_calls_valued {s = s} {h = h} {x = x} {y = y} {a = a} {b = b} named_min e v w =
    scalar_valued scalar.Min true s h (codes "min") x y a b Ints refl (some_true (spreads_numbers a b) Ints (spread_numbers e)) refl v w
scalar_calls_valued {s = s} {h = h} {x = x} {y = y} {a = a} {b = b} named_max e v w =
    scalar_valued scalar.Max true s h (codes "max") x y a b Ints refl (some_true (spreads_numbers a b) Ints (spread_numbers e)) refl v w

-- ---- functions of an array

pub array_made : {one many : Shape} → IsArrayOf one many → array_of one ≡ Some many
array_made array_of_numbers = refl
array_made array_of_truths = refl

pub array_passes : {one many : Shape} (f : Function) (at : Place) → IsArrayOf one many → result_break f at (Some many) ≡ None
unfolding result_break
array_passes f at array_of_numbers = refl
array_passes f at array_of_truths = refl

number_fold_valued : (f : _) (s : Scope) (h : Head) (name : List ℕ) (x : Tree) (a r : Shape) → function_named false name ≡ Some (function.Fold f) → IsOutside s
    → call_result (function.Fold f) false (Value a ∷ []) ≡ Some r → result_break (function.Fold f) h.at (Some r) ≡ None → Valued s x a → Valued s (call h name false (plain x none)) r
unfolding call_break wanted inside
number_fold_valued f s h name x a r is out e own v =
    let q = one_rest s h.at (function.Fold f) a x refl v in
    call_valued s h name false (plain x none) (function.Fold f) r is refl q.passed (outside_passes s h.at _ out own) (ap (call_result (function.Fold f) false) q.made ∙ e)

pub fold_valued : {s : Scope} {h : Head} {f : List ℕ} {x : Tree} → IsOutside s → IsNumberFold f → Valued s x Ints → Valued s (call h f false (plain x none)) Int
unfolding function_named scalar_named fold_named call_result result_break
fold_valued {s = s} {h = h} {x = x} out named_sum v = number_fold_valued fold.Sum s h (codes "sum") x Ints Int refl out refl refl v
fold_valued {s = s} {h = h} {x = x} out named_prod v = number_fold_valued fold.Prod s h (codes "prod") x Ints Int refl out refl refl v
fold_valued {s = s} {h = h} {x = x} out named_minimum v = number_fold_valued fold.Min s h (codes "minimum") x Ints Int refl out refl refl v
fold_valued {s = s} {h = h} {x = x} out named_maximum v = number_fold_valued fold.Max s h (codes "maximum") x Ints Int refl out refl refl v

pub truth_fold_valued : {s : Scope} {h : Head} {f : List ℕ} {x : Tree} → IsOutside s → IsTruthFold f → Valued s x Bools → Valued s (call h f false (plain x none)) Truth
unfolding function_named scalar_named fold_named call_result result_break
truth_fold_valued {s = s} {h = h} {x = x} out named_any v = number_fold_valued fold.Any s h (codes "any") x Bools Truth refl out refl refl v
truth_fold_valued {s = s} {h = h} {x = x} out named_all v = number_fold_valued fold.All s h (codes "all") x Bools Truth refl out refl refl v

pub count_valued : {s : Scope} {h : Head} {x : Tree} → IsOutside s → Valued s x Bools → Valued s (call h (codes "count") false (plain x none)) Int
unfolding function_named scalar_named fold_named array_named call_result result_break call_break wanted inside
count_valued {s = s} {h = h} {x = x} out v =
    let q = one_rest s h.at function.Count Bools x refl v in
    call_valued s h (codes "count") false (plain x none) function.Count Int refl refl q.passed (outside_passes s h.at _ out refl) (ap (call_result function.Count false) q.made)

pub cumsum_valued : {s : Scope} {h : Head} {x : Tree} → IsOutside s → Valued s x Ints → Valued s (call h (codes "cumsum") false (plain x none)) Ints
unfolding function_named scalar_named fold_named array_named call_result result_break call_break wanted inside
cumsum_valued {s = s} {h = h} {x = x} out v =
    let q = one_rest s h.at function.Cumsum Ints x refl v in
    call_valued s h (codes "cumsum") false (plain x none) function.Cumsum Ints refl refl q.passed (outside_passes s h.at _ out refl) (ap (call_result function.Cumsum false) q.made)

length_made : {one many : Shape} → IsArrayOf one many → length_result many ≡ Some Int
length_made array_of_numbers = refl
length_made array_of_truths = refl

pub length_valued : {s : Scope} {h : Head} {x : Tree} {one many : Shape} → IsOutside s → IsArrayOf one many → Valued s x many → Valued s (call h (codes "length") false (plain x none)) Int
unfolding function_named scalar_named fold_named array_named call_result result_break call_break wanted inside
length_valued {s = s} {h = h} {x = x} {many = many} out array v =
    let q = one_rest s h.at function.Length many x refl v in
    call_valued s h (codes "length") false (plain x none) function.Length Int refl refl q.passed (outside_passes s h.at _ out refl) (ap (call_result function.Length false) q.made ∙ length_made array)

pub nrow_valued : {s : Scope} {h : Head} {x : Tree} {columns : List Name} → IsOutside s → Valued s x (Frame columns) → Valued s (call h (codes "nrow") false (plain x none)) Int
unfolding function_named scalar_named fold_named array_named frame_named call_result result_break call_break wanted inside
nrow_valued {s = s} {h = h} {x = x} {columns = columns} out v =
    let q = one_rest s h.at function.Nrow (Frame columns) x refl v in
    call_valued s h (codes "nrow") false (plain x none) function.Nrow Int refl refl q.passed (outside_passes s h.at _ out refl) (ap (call_result function.Nrow false) q.made)

-- ---- functions of two values

pub fill_valued : {s : Scope} {h : Head} {x y : Tree} {one many : Shape} → IsOutside s → IsArrayOf one many → Valued s x one → Valued s y Int
    → Valued s (call h (codes "fill") false (plain x (plain y none))) many
unfolding function_named scalar_named fold_named array_named call_result call_break wanted inside
fill_valued {s = s} {h = h} {x = x} {y = y} {one = one} {many = many} out array v w =
    let q = two_rest s h.at function.Fill one Int x y refl refl v w in
    call_valued s h (codes "fill") false (plain x (plain y none)) function.Fill many refl refl q.passed (outside_passes s h.at _ out (array_passes function.Fill h.at array))
    (ap (call_result function.Fill false) q.made ∙ array_made array)

vcat_made : {one many : Shape} → IsArrayOf one many → vcat_result many many ≡ Some many
vcat_made array_of_numbers = refl
vcat_made array_of_truths = refl

pub vcat_valued : {s : Scope} {h : Head} {x y : Tree} {one many : Shape} → IsOutside s → IsArrayOf one many → Valued s x many → Valued s y many
    → Valued s (call h (codes "vcat") false (plain x (plain y none))) many
unfolding function_named scalar_named fold_named array_named call_result call_break wanted inside
vcat_valued {s = s} {h = h} {x = x} {y = y} {many = many} out array v w =
    let q = two_rest s h.at function.Vcat many many x y refl refl v w in
    call_valued s h (codes "vcat") false (plain x (plain y none)) function.Vcat many refl refl q.passed (outside_passes s h.at _ out (array_passes function.Vcat h.at array))
    (ap (call_result function.Vcat false) q.made ∙ vcat_made array)

pub row_valued : {s : Scope} {h : Head} {x y : Tree} → IsOutside s → Valued s x Matrix → Valued s y Int → Valued s (call h (codes "row") false (plain x (plain y none))) Ints
unfolding function_named scalar_named fold_named array_named call_result result_break call_break wanted inside
row_valued {s = s} {h = h} {x = x} {y = y} out v w =
    let q = two_rest s h.at function.Row Matrix Int x y refl refl v w in
    call_valued s h (codes "row") false (plain x (plain y none)) function.Row Ints refl refl q.passed (outside_passes s h.at _ out refl) (ap (call_result function.Row false) q.made)

-- ---- ranges and lambdas

pub collect_valued : {s : Scope} {h : Head} {x y : Tree} → IsOutside s → Valued s x Int → Valued s y Int → Valued s (call h (codes "collect") false (range x y none)) Ints
unfolding function_named scalar_named fold_named array_named call_result result_break call_break wanted
collect_valued {s = s} {h = h} {x = x} {y = y} out v w =
    let q = interval_rest s h.at function.Collect [] [] x y none refl v w (rest_none s h.at function.Collect (Interval ∷ [])) in
    call_valued s h (codes "collect") false (range x y none) function.Collect Ints refl refl q.passed (outside_passes s h.at _ out refl) (ap (call_result function.Collect false) q.made)

pub stencil_valued : {s : Scope} {h : Head} {p : List ℕ} {x y : Tree} → IsOutside s → Valued (with_parameter s p window) x Int → Valued s y Ints
    → Valued s (call h (codes "stencil") false (lambda p x (plain y none))) Ints
unfolding function_named scalar_named fold_named array_named call_result result_break call_break wanted inside
stencil_valued {s = s} {h = h} {p = p} {x = x} {y = y} out v w =
    let q = body_rest s h.at function.Stencil [] (Value Ints ∷ []) window p Int x (plain y none) refl v
    (value_rest s h.at function.Stencil (Body Int ∷ []) [] Ints y none refl w (rest_none s h.at function.Stencil (Body Int ∷ Value Ints ∷ []))) in
    call_valued s h (codes "stencil") false (lambda p x (plain y none)) function.Stencil Ints refl refl q.passed (outside_passes s h.at _ out refl) (ap (call_result function.Stencil false) q.made)

-- the lambda behind an array of this type
record MapBody (s : Scope) (at : Place) (p : List ℕ) (x : Tree) (many made : Shape) : Type 0 where
  is : lambda_argument (shape_of (with_parameter s p (role_wanted (wanted function.Map (Value many ∷ [])))) x) ≡ Body made
  passed : lambda_break (wanted function.Map (Value many ∷ [])) at (break_of (with_parameter s p (role_wanted (wanted function.Map (Value many ∷ [])))) x) ≡ None

map_body : (s : Scope) (at : Place) (p : List ℕ) (x : Tree) (one many made : Shape) → IsArrayOf one many → Valued (with_parameter s p (element one)) x made → MapBody s at p x many made
unfolding wanted lambda_break
map_body s at p x _ _ made array_of_numbers v = record { is = body_made _ made v.shape; passed = v.passed }
map_body s at p x _ _ made array_of_truths v = record { is = body_made _ made v.shape; passed = v.passed }

pub map_valued : {s : Scope} {h : Head} {p : List ℕ} {x y : Tree} {one many made result : Shape} → IsOutside s → IsArrayOf one many → Valued s y many → IsArrayOf made result
    → Valued (with_parameter s p (element one)) x made → Valued s (call h (codes "map") false (lambda p x (plain y none))) result
unfolding function_named scalar_named fold_named array_named call_result call_break finds_of in_turn inside wanted
map_valued {s = s} {h = h} {p = p} {x = x} {y = y} {one = one} {many = many} {made = made} {result = result} out array v becomes w =
    let q = one_rest s h.at function.Map many y refl v in
    let body = map_body s h.at p x one many made array w in
    let before = arguments s h.at function.Map [] (plain y none) in
    let first : lambda_argument (shape_of (with_parameter s p (role_wanted (wanted function.Map before))) x) ≡ Body made =
    subst (λ (m : List Argument). lambda_argument (shape_of (with_parameter s p (role_wanted (wanted function.Map m))) x) ≡ Body made) (sym q.made) body.is in
    let tested : lambda_break (wanted function.Map before) h.at (break_of (with_parameter s p (role_wanted (wanted function.Map before))) x) ≡ None =
    subst (λ (m : List Argument). lambda_break (wanted function.Map m) h.at (break_of (with_parameter s p (role_wanted (wanted function.Map m))) x) ≡ None) (sym q.made) body.passed in
    call_valued s h (codes "map") false (lambda p x (plain y none)) function.Map result refl refl (none_both _ _ q.passed tested)
    (outside_passes s h.at _ out (array_passes function.Map h.at becomes))
    (ap₂ (λ (m : List Argument) (l : Argument). call_result function.Map false (m ++ l ∷ [])) q.made first ∙ array_made becomes)
