-- A call that passes and has a type fits its row: for each function of values.
use Rattle.std.proofs.Common.{◌≡◌, Bool, true, false, not, ◌||◌, List, [], ◌∷◌, codes, nat_le, Option, Some, None, refl, sym, subst}
use Rattle.std.specs.Option.{option_or}
use Rattle.hp_word.specs.declared.place.Place.{Place}
use Rattle.hp_word.specs.declared.fold.FoldKind.{FoldKind}
use Rattle.hp_word.specs.declared.fold.FoldKind.TheVariants as fold
use Rattle.hp_script.specs.declared.function.ScalarFunction.{ScalarFunction}
use Rattle.hp_script.specs.declared.function.ScalarFunction.TheVariants as scalar
use Rattle.hp_script.specs.declared.typed.Shape.{Shape}
use Rattle.hp_script.specs.declared.typed.Shape.TheVariants.{Int, Bool as Truth, Ints, Bools, Matrix, Frame}
use Rattle.hp_script.specs.declared.rule.Refusal.{Refusal}
use Rattle.hp_script.specs.declared.rule.Rule.TheVariants.{WrongType}
use Rattle.hp_script.specs.declared.argument.Argument.{Argument}
use Rattle.hp_script.specs.declared.argument.Argument.TheVariants.{Value, Interval}
use Rattle.hp_script.specs.declared.function.Function.{Function}
use Rattle.hp_script.specs.declared.function.Function.TheVariants as function
use Rattle.hp_script.specs.Breaks.{unless, call_break, count_of}
use Rattle.hp_script.specs.Functions.{takes_count}
use Rattle.hp_script.specs.Mirror.{Head, Tree, Args, call, none, plain, range}
use Rattle.hp_script.specs.Results.{arithmetic_result, spreads_numbers, are_numbers, fold_result, of_bools, of_ints, length_result, fill_result, vcat_result, row_result, nrow_result, are_arrays, call_result}
use Rattle.hp_script.specs.Scope.{Scope, is_in_lambda}
use Rattle.hp_script.specs.Shaped.{IsOutside, IsScalarName, named_div, named_rem, named_min, named_max, IsNumberFold, named_sum, named_prod, named_minimum, named_maximum, IsTruthFold, named_any, named_all, HasShape, of_scalar_call, of_scalar_calls, of_fill, of_collect, of_length, of_fold, of_truth_fold, of_count, of_cumsum, of_vcat, of_stack, of_row, of_nrow, AreArrays, no_more_arrays, one_array}
use Rattle.hp_script.specs.Typing.{inside}
use Rattle.hp_script.proofs.FunctionNames.{name_of, scalar_name, fold_name}
use Rattle.hp_script.proofs.TestLemmas.{passes, if_there, or_left, or_right}
use Rattle.hp_script.proofs.ResultLemmas.{Is, numbers_back, spread_numbers_back, FillBack, fill_back, LengthBack, length_back, ints_back, bools_back, VcatBack, vcat_back, RowBack, row_back, NrowBack, nrow_back, OneValue, one_back, TwoValues, two_back, collect_back}
use Rattle.hp_script.proofs.ArgumentHeads.{Rest, head_of, none_of}
use Rattle.hp_script.proofs.ArgumentKinds.{ValueHead, value_head, value_of, IntervalHead, interval_head, interval_of}
use Rattle.hp_script.proofs.SoundLists.{SoundArgs, at_shape, arrays_fit}
use Rattle.hp_script.proofs.Turns.{arguments, array_first, array_first_break, breaks_among, in_order}

-- ---- what is to show

-- A call of this function that passes and has a type fits by the relation.
abbrev pub RowOf : Function → Type 0
RowOf f = (s : Scope) (h : Head) (xs : Args) (r : Shape) → takes_count f (count_of xs) ≡ true
    → in_order f (array_first_break s h.at xs) (breaks_among s h.at f [] xs) ≡ None → call_break s f h.at (Some r) ≡ None
    → call_result f false (in_order f (array_first s h.at xs) (arguments s h.at f [] xs)) ≡ Some r → SoundArgs xs → HasShape s (call h (name_of f) false xs) r

-- the call is in no lambda, and its result passes
pub record Outer (s : Scope) (rest : Option Refusal) : Type 0 where
  pub outside : IsOutside s
  pub result : rest ≡ None

free : (b : Bool) → (not b || false) ≡ true → b ≡ false
free true e = absurd cc
free false e = refl

pub outer : (s : Scope) (at : Place) (rest : Option Refusal) → option_or (unless (not (is_in_lambda s) || false) at WrongType) rest ≡ None → Outer s rest
outer s at rest e =
    record { outside = free (is_in_lambda s) (passes _ at WrongType (or_left _ _ e)); result = (or_right _ _ e) }

pub starting : (s : Scope) (at : Place) (f : Function) (xs : Args) → breaks_among s at f [] xs ≡ None → Rest s at f [] (arguments s at f [] xs) xs
starting s at f xs e = record { made = refl; passed = e }

-- ---- one value, and two

pub data OneFit (s : Scope) (f : Function) (a : Shape) : Args → Type 0 where
  one_fit : {x : Tree} → HasShape (inside s f []) x a → OneFit s f a (plain x none)

one_step : (s : Scope) (at : Place) (f : Function) (a : Shape) (xs : Args) → ValueHead s at f [] a [] xs → SoundArgs xs → OneFit s f a xs
unfolding SoundArgs
one_step s at f a _ (value_head {x = x} {xs = xs} v r) sounds =
    subst (λ (ys : Args). OneFit s f a (plain x ys)) (sym (none_of s at f (Value a ∷ []) xs r)) (one_fit (sounds.0 (inside s f []) a v.passed v.shape))

pub one_fits : (s : Scope) (at : Place) (f : Function) (a : Shape) (xs : Args) (made : List Argument) → made ≡ Value a ∷ [] → Rest s at f [] made xs → SoundArgs xs → OneFit s f a xs
one_fits s at f a xs made are r sounds =
    one_step s at f a xs (value_of s at f [] a [] xs (head_of s at f [] [] (Value a) xs (subst (λ (m : List Argument). Rest s at f [] m xs) are r))) sounds

pub data TwoFit (s : Scope) (f : Function) (a b : Shape) : Args → Type 0 where
  two_fit : {x y : Tree} → HasShape (inside s f []) x a → HasShape (inside s f (Value a ∷ [])) y b → TwoFit s f a b (plain x (plain y none))

two_inner : (s : Scope) (at : Place) (f : Function) (a b : Shape) (x : Tree) (xs : Args) → HasShape (inside s f []) x a → ValueHead s at f (Value a ∷ []) b [] xs → SoundArgs xs → TwoFit s f a b (plain x xs)
unfolding SoundArgs
two_inner s at f a b x _ first (value_head {x = y} {xs = xs} v r) sounds =
    subst (λ (ys : Args). TwoFit s f a b (plain x (plain y ys))) (sym (none_of s at f (Value a ∷ Value b ∷ []) xs r))
    (two_fit first (sounds.0 (inside s f (Value a ∷ [])) b v.passed v.shape))

two_step : (s : Scope) (at : Place) (f : Function) (a b : Shape) (xs : Args) → ValueHead s at f [] a (Value b ∷ []) xs → SoundArgs xs → TwoFit s f a b xs
unfolding SoundArgs
two_step s at f a b _ (value_head {x = x} {xs = xs} v r) sounds =
    two_inner s at f a b x xs (sounds.0 (inside s f []) a v.passed v.shape) (value_of s at f (Value a ∷ []) b [] xs (head_of s at f (Value a ∷ []) [] (Value b) xs r)) sounds.1

pub two_fits : (s : Scope) (at : Place) (f : Function) (a b : Shape) (xs : Args) (made : List Argument)
    → made ≡ Value a ∷ Value b ∷ [] → Rest s at f [] made xs → SoundArgs xs → TwoFit s f a b xs
two_fits s at f a b xs made are r sounds =
    two_step s at f a b xs (value_of s at f [] a (Value b ∷ []) xs (head_of s at f [] (Value b ∷ []) (Value a) xs (subst (λ (m : List Argument). Rest s at f [] m xs) are r))) sounds

-- ---- functions of two numbers

scalar_is : (f : ScalarFunction) → IsScalarName (scalar_name f)
scalar_is scalar.Div = named_div
scalar_is scalar.Rem = named_rem
scalar_is scalar.Min = named_min
scalar_is scalar.Max = named_max

scalar_fits : (s : Scope) (h : Head) (f : ScalarFunction) (dotted : Bool) (a b r : Shape) (xs : Args) → arithmetic_result dotted a b ≡ Some r → TwoFit s (function.Scalar f) a b xs
    → HasShape s (call h (scalar_name f) dotted xs) r
unfolding inside
scalar_fits s h f false a b r _ e (two_fit {x = x} {y = y} p q) =
    let k = if_there (are_numbers a b) Int r e in
    let both = numbers_back a b k.holds in
    at_shape s _ Int r k.is (of_scalar_call (scalar_is f) (at_shape s x a Int both.left p) (at_shape s y b Int both.right q))
scalar_fits s h f true a b r _ e (two_fit p q) =
    let k = if_there (spreads_numbers a b) Ints r e in
    at_shape s _ Ints r k.is (of_scalar_calls (scalar_is f) (spread_numbers_back a b k.holds) p q)

pub scalar_row : (f : ScalarFunction) (dotted : Bool) (s : Scope) (h : Head) (xs : Args) (r : Shape) → breaks_among s h.at (function.Scalar f) [] xs ≡ None
    → call_result (function.Scalar f) dotted (arguments s h.at (function.Scalar f) [] xs) ≡ Some r → SoundArgs xs → HasShape s (call h (scalar_name f) dotted xs) r
unfolding call_result
scalar_row f dotted s h xs r passed is sounds =
    let made = arguments s h.at (function.Scalar f) [] xs in
    let t = two_back (arithmetic_result dotted) made r is in
    scalar_fits s h f dotted t.left t.right r xs t.is (two_fits s h.at (function.Scalar f) t.left t.right xs made t.are (starting s h.at (function.Scalar f) xs passed) sounds)

-- ---- functions of an array

-- the operand of a function of one value, outside lambdas
record Single (s : Scope) (f : Function) (result : Shape → Option Shape) (xs : Args) (r : Shape) : Type 0 where
  outside : IsOutside s
  value : Shape
  is : result value ≡ Some r
  fits : OneFit s f value xs

single : (s : Scope) (at : Place) (f : Function) (result : Shape → Option Shape) (xs : Args) (r : Shape) (own : Option Refusal) → breaks_among s at f [] xs ≡ None
    → option_or (unless (not (is_in_lambda s) || false) at WrongType) own ≡ None
    → OneValue result (arguments s at f [] xs) r → SoundArgs xs → Single s f result xs r
single s at f result xs r own passed e o sounds =
    record { outside = (outer s at own e).outside; value = o.value; is = o.is; fits = one_fits s at f o.value xs (arguments s at f [] xs) o.are (starting s at f xs passed) sounds }

number_fold : (s : Scope) (h : Head) (f : FoldKind) (a r : Shape) (xs : Args) → IsOutside s → IsNumberFold (fold_name f) → Is a Ints r Int → OneFit s (function.Fold f) a xs
    → HasShape s (call h (fold_name f) false xs) r
unfolding inside
number_fold s h f a r _ out name k (one_fit {x = x} p) = at_shape s _ Int r k.is (of_fold out name (at_shape s x a Ints k.operand p))

truth_fold : (s : Scope) (h : Head) (f : FoldKind) (a r : Shape) (xs : Args) → IsOutside s → IsTruthFold (fold_name f) → Is a Bools r Truth → OneFit s (function.Fold f) a xs
    → HasShape s (call h (fold_name f) false xs) r
unfolding inside
truth_fold s h f a r _ out name k (one_fit {x = x} p) = at_shape s _ Truth r k.is (of_truth_fold out name (at_shape s x a Bools k.operand p))

fold_fits : (s : Scope) (h : Head) (f : FoldKind) (a r : Shape) (xs : Args) → IsOutside s → fold_result f a ≡ Some r → OneFit s (function.Fold f) a xs → HasShape s (call h (fold_name f) false xs) r
fold_fits s h fold.Sum a r xs out e p = number_fold s h fold.Sum a r xs out named_sum (ints_back Int a r e) p
fold_fits s h fold.Prod a r xs out e p = number_fold s h fold.Prod a r xs out named_prod (ints_back Int a r e) p
fold_fits s h fold.Min a r xs out e p = number_fold s h fold.Min a r xs out named_minimum (ints_back Int a r e) p
fold_fits s h fold.Max a r xs out e p = number_fold s h fold.Max a r xs out named_maximum (ints_back Int a r e) p
fold_fits s h fold.Any a r xs out e p = truth_fold s h fold.Any a r xs out named_any (bools_back Truth a r e) p
fold_fits s h fold.All a r xs out e p = truth_fold s h fold.All a r xs out named_all (bools_back Truth a r e) p

pub fold_row : (f : FoldKind) → RowOf (function.Fold f)
unfolding call_result call_break
fold_row f s h xs r count passed e is sounds =
    let k = single s h.at (function.Fold f) (fold_result f) xs r _ passed e (one_back (fold_result f) _ r is) sounds in
    fold_fits s h f k.value r xs k.outside k.is k.fits

count_fits : (s : Scope) (h : Head) (a r : Shape) (xs : Args) → IsOutside s → Is a Bools r Int → OneFit s function.Count a xs → HasShape s (call h (codes "count") false xs) r
unfolding inside
count_fits s h a r _ out k (one_fit {x = x} p) = at_shape s _ Int r k.is (of_count out (at_shape s x a Bools k.operand p))

pub count_row : RowOf function.Count
unfolding call_result call_break
count_row s h xs r count passed e is sounds =
    let k = single s h.at function.Count (of_bools Int) xs r _ passed e (one_back (of_bools Int) _ r is) sounds in
    count_fits s h k.value r xs k.outside (bools_back Int k.value r k.is) k.fits

cumsum_fits : (s : Scope) (h : Head) (a r : Shape) (xs : Args) → IsOutside s → Is a Ints r Ints → OneFit s function.Cumsum a xs → HasShape s (call h (codes "cumsum") false xs) r
unfolding inside
cumsum_fits s h a r _ out k (one_fit {x = x} p) = at_shape s _ Ints r k.is (of_cumsum out (at_shape s x a Ints k.operand p))

pub cumsum_row : RowOf function.Cumsum
unfolding call_result call_break
cumsum_row s h xs r count passed e is sounds =
    let k = single s h.at function.Cumsum (of_ints Ints) xs r _ passed e (one_back (of_ints Ints) _ r is) sounds in
    cumsum_fits s h k.value r xs k.outside (ints_back Ints k.value r k.is) k.fits

length_fits : (s : Scope) (h : Head) (a r : Shape) (xs : Args) → IsOutside s → LengthBack a r → OneFit s function.Length a xs → HasShape s (call h (codes "length") false xs) r
unfolding inside
length_fits s h a r _ out k (one_fit p) = at_shape s _ Int r k.is (of_length out k.array p)

pub length_row : RowOf function.Length
unfolding call_result call_break
length_row s h xs r count passed e is sounds =
    let k = single s h.at function.Length length_result xs r _ passed e (one_back length_result _ r is) sounds in
    length_fits s h k.value r xs k.outside (length_back k.value r k.is) k.fits

nrow_fits : (s : Scope) (h : Head) (a r : Shape) (xs : Args) → IsOutside s → NrowBack a r → OneFit s function.Nrow a xs → HasShape s (call h (codes "nrow") false xs) r
unfolding inside
nrow_fits s h a r _ out k (one_fit {x = x} p) = at_shape s _ Int r k.is (of_nrow out (at_shape s x a (Frame k.columns) k.frame p))

pub nrow_row : RowOf function.Nrow
unfolding call_result call_break
nrow_row s h xs r count passed e is sounds =
    let k = single s h.at function.Nrow nrow_result xs r _ passed e (one_back nrow_result _ r is) sounds in
    nrow_fits s h k.value r xs k.outside (nrow_back k.value r k.is) k.fits

-- ---- functions of two values

-- the operands of a function of two values, outside lambdas
pub record Pair (s : Scope) (f : Function) (result : Shape → Shape → Option Shape) (xs : Args) (r : Shape) (own : Option Refusal) : Type 0 where
  pub outside : IsOutside s
  pub tested : own ≡ None
  pub left : Shape
  pub right : Shape
  pub is : result left right ≡ Some r
  pub fits : TwoFit s f left right xs

pub pair : (s : Scope) (at : Place) (f : Function) (result : Shape → Shape → Option Shape) (xs : Args) (r : Shape) (own : Option Refusal) → breaks_among s at f [] xs ≡ None
    → option_or (unless (not (is_in_lambda s) || false) at WrongType) own ≡ None
    → TwoValues result (arguments s at f [] xs) r → SoundArgs xs → Pair s f result xs r own
pair s at f result xs r own passed e o sounds =
    record { outside = (outer s at own e).outside; tested = (outer s at own e).result; left = o.left; right = o.right; is = o.is; fits = two_fits s at f o.left o.right xs (arguments s at f [] xs) o.are (starting s at f xs passed) sounds }

fill_fits : (s : Scope) (h : Head) (a b r : Shape) (xs : Args) → IsOutside s → FillBack a b r → TwoFit s function.Fill a b xs → HasShape s (call h (codes "fill") false xs) r
unfolding inside
fill_fits s h a b r _ out k (two_fit {x = x} {y = y} p q) = of_fill out k.array p (at_shape s y b Int k.count q)

pub fill_row : RowOf function.Fill
unfolding call_result call_break
fill_row s h xs r count passed e is sounds =
    let k = pair s h.at function.Fill fill_result xs r _ passed e (two_back fill_result _ r is) sounds in
    fill_fits s h k.left k.right r xs k.outside (fill_back k.left k.right r k.is) k.fits

vcat_fits : (s : Scope) (h : Head) (a b r : Shape) (xs : Args) → IsOutside s → VcatBack a b r → TwoFit s function.Vcat a b xs → HasShape s (call h (codes "vcat") false xs) r
unfolding inside
vcat_fits s h a b r _ out k (two_fit {x = x} {y = y} p q) = of_vcat out k.array (at_shape s x a r k.left p) (at_shape s y b r k.right q)

pub vcat_row : RowOf function.Vcat
unfolding call_result call_break
vcat_row s h xs r count passed e is sounds =
    let k = pair s h.at function.Vcat vcat_result xs r _ passed e (two_back vcat_result _ r is) sounds in
    vcat_fits s h k.left k.right r xs k.outside (vcat_back k.left k.right r k.is) k.fits

row_fits : (s : Scope) (h : Head) (a b r : Shape) (xs : Args) → IsOutside s → RowBack a b r → TwoFit s function.Row a b xs → HasShape s (call h (codes "row") false xs) r
unfolding inside
row_fits s h a b r _ out k (two_fit {x = x} {y = y} p q) = at_shape s _ Ints r k.is (of_row out (at_shape s x a Matrix k.matrix p) (at_shape s y b Int k.place q))

pub row_row : RowOf function.Row
unfolding call_result call_break
row_row s h xs r count passed e is sounds =
    let k = pair s h.at function.Row row_result xs r _ passed e (two_back row_result _ r is) sounds in
    row_fits s h k.left k.right r xs k.outside (row_back k.left k.right r k.is) k.fits

-- ---- ranges and stacks

collect_fits : (s : Scope) (h : Head) (r : Shape) (xs : Args) → IsOutside s → Ints ≡ r → IntervalHead s h.at function.Collect [] [] xs → SoundArgs xs
    → HasShape s (call h (codes "collect") false xs) r
unfolding SoundArgs
collect_fits s h r _ out same (interval_head {x = x} {y = y} {xs = xs} v w q) sounds =
    at_shape s _ Ints r same
    (subst (λ (ys : Args). HasShape s (call h (codes "collect") false (range x y ys)) Ints) (sym (none_of s h.at function.Collect (Interval ∷ []) xs q))
    (of_collect out (sounds.0.0 s Int v.passed v.shape) (sounds.0.1 s Int w.passed w.shape)))

pub collect_row : RowOf function.Collect
unfolding call_result call_break
collect_row s h xs r count passed e is sounds =
    let k = collect_back (arguments s h.at function.Collect [] xs) r is in
    let q = subst (λ (m : List Argument). Rest s h.at function.Collect [] m xs) k.are (starting s h.at function.Collect xs passed) in
    collect_fits s h r xs (outer s h.at _ e).outside k.is (interval_of s h.at function.Collect [] [] xs (head_of s h.at function.Collect [] [] Interval xs q)) sounds

stack_fits : (s : Scope) (h : Head) (r : Shape) (xs : Args) → IsOutside s → Matrix ≡ r → nat_le 1 (count_of xs) ≡ true → AreArrays s xs → HasShape s (call h (codes "stack") false xs) r
stack_fits s h r _ out same count no_more_arrays = absurd cc
stack_fits s h r _ out same count (one_array p rest) = at_shape s _ Matrix r same (of_stack out p rest)

pub stack_row : RowOf function.Stack
unfolding call_result call_break
stack_row s h xs r count passed e is sounds =
    let k = if_there (are_arrays (arguments s h.at function.Stack [] xs)) Matrix r is in
    stack_fits s h r xs (outer s h.at _ e).outside k.is count (arrays_fit s h.at [] (arguments s h.at function.Stack [] xs) xs (starting s h.at function.Stack xs passed) k.holds sounds)
