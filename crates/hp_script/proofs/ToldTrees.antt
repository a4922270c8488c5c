-- What the refusal of an expression tells: the walk leads to the place, and what is gone past fits.
use Rattle.std.proofs.Common.{◌≡◌, ℕ, Bool, true, false, not, ◌&&◌, ◌||◌, if◌then◌else◌, List, [], ◌∷◌, ◌++◌, nat_le, length, Option, Some, None, is_some, refl, sym, ap, ◌∙◌, subst}
use Rattle.std.specs.Option.{option_or, option_and_then}
use Rattle.std.specs.List.{list_all}
use Rattle.hp_word.specs.declared.name.Name.{Name}
use Rattle.hp_word.specs.declared.place.Place.{Place}
use Rattle.hp_script.specs.declared.rule.Refusal.{Refusal}
use Rattle.hp_script.specs.declared.rule.Rule.{Rule}
use Rattle.hp_script.specs.declared.rule.Rule.TheVariants.{WrongType, UnknownColumn, DoubleColumn, UnknownCall, WrongCount, TooManyColumns}
use Rattle.hp_script.specs.declared.typed.Shape.{Shape}
use Rattle.hp_script.specs.declared.typed.Shape.TheVariants.{Int, Frame}
use Rattle.hp_script.specs.declared.argument.Argument.{Argument}
use Rattle.hp_script.specs.declared.argument.Argument.TheVariants.{Measure}
use Rattle.hp_script.specs.declared.function.Function.{Function}
use Rattle.hp_script.specs.declared.function.Function.TheVariants as function
use Rattle.hp_script.specs.Breaks.{broken, unless, place_of, distance_of, reach_break, names_among, new_break, column_known, plain_break, range_break, lambda_break, measure_break, named_break, repeats, is_join, result_break, is_scalar_function, call_break, count_of, with_function, is_flipped, CallSoFar, so_far}
use Rattle.hp_script.specs.Functions.{function_named, takes_count}
use Rattle.hp_script.specs.Mirror.{Head, Tree, Args, number, truth, text, variable, column, field, unary, binary, index, call, none, plain, range, lambda, named}
use Rattle.hp_script.specs.Results.{call_result, of_both, index_result, unary_result, binary_result}
use Rattle.hp_script.specs.Scope.{Scope, has, has_column, role_of, is_in_lambda, with_parameter}
use Rattle.hp_script.specs.Told.{refusal, text_as_value, TellsCall, transposed, called_in_lambda, no_result, double_column, too_many_columns, behind, first_behind, tested_args, is_value, is_named_value, IsPlain, by_value, by_text, by_column, IsNamed, by_given, by_measure, AreArguments, no_more, then_plain, then_range, then_lambda, then_named, Told, told, in_operand, in_left, in_right, in_transposed, in_indexed, in_index, in_call, by_call, ToldCall, unknown_call, wrong_count, in_argument, ToldNext, unknown_key, unknown_measured, double_key, double_given, double_measure, column_for_text, name_not_meant, not_meant, in_plain, in_from, in_to, in_lambda, in_named}
use Rattle.hp_script.specs.Trees as trees
use Rattle.hp_script.specs.Typing.{Wanted, an_interval, a_lambda, a_text, a_column, a_given, a_measure, nothing, wanted, role_wanted, within_filter, inside, is_window, plain_argument, value_or_misfit, range_argument, lambda_argument, given_or_misfit, named_argument}
use Rattle.hp_script.specs.Valued.{is_measure}
use Rattle.hp_script.specs.Walk.{FoundArguments, Finds, site, first_last, in_turn, found_among, found_of, shape_of, break_of, parts_break, finds_of}
use Rattle.hp_script.proofs.BlockSound.{IsShaped, passing}
use Rattle.hp_script.proofs.ScopeLemmas.{Known}
use Rattle.hp_script.proofs.TestLemmas.{both_false, or_left, or_right, not_false, false_not}
use Rattle.hp_script.proofs.ToldParts.{told_by, unless_told, or_told, if_told, name_told, field_told, column_told, operand_told, operands_told, reach_told, index_told}
use Rattle.hp_script.proofs.Turns.{turns, arguments, breaks_among}

-- ---- arguments in their order of tests

-- what is to show of an expression
abbrev IsTelling : Tree → Type 0
IsTelling x = (s : Scope) → Known s → (r : Refusal) → break_of s x ≡ Some r → Told s x r

unfoldable AreTelling : Args → Type 0
AreTelling none = Unit {0}
AreTelling (plain x xs) = IsTelling x × AreTelling xs
AreTelling (range x y xs) = (IsTelling x × IsTelling y) × AreTelling xs
AreTelling (lambda p x xs) = IsTelling x × AreTelling xs
AreTelling (named name at x xs) = IsTelling x × AreTelling xs

behind_telling : (xs last : Args) → AreTelling xs → AreTelling last → AreTelling (behind xs last)
unfolding AreTelling
behind_telling none last a b = b
behind_telling (plain x xs) last a b = (a.0, behind_telling xs last a.1 b)
behind_telling (range x y xs) last a b = (a.0, behind_telling xs last a.1 b)
behind_telling (lambda p x xs) last a b = (a.0, behind_telling xs last a.1 b)
behind_telling (named name at x xs) last a b = (a.0, behind_telling xs last a.1 b)

first_telling : (xs : Args) → AreTelling xs → AreTelling (first_behind xs)
unfolding AreTelling
first_telling none a = a
first_telling (plain x xs) a = behind_telling xs (plain x none) a.1 (a.0, tt)
first_telling (range x y xs) a = behind_telling xs (range x y none) a.1 (a.0, tt)
first_telling (lambda p x xs) a = behind_telling xs (lambda p x none) a.1 (a.0, tt)
first_telling (named name at x xs) a = behind_telling xs (named name at x none) a.1 (a.0, tt)

tested_telling : (f : Function) (xs : Args) → AreTelling xs → AreTelling (tested_args f xs)
tested_telling function.Map xs a = first_telling xs a
tested_telling _ xs a = a

cons_same : {t : Finds} {xs ys : List Finds} → xs ≡ ys → t ∷ xs ≡ t ∷ ys
cons_same {t} e = ap (λ (l : List Finds). t ∷ l) e

behind_finds : (s : Scope) (at : Place) (f : Function) (xs last : Args) → finds_of (site s at f) xs ++ finds_of (site s at f) last ≡ finds_of (site s at f) (behind xs last)
unfolding finds_of
behind_finds s at f none last = refl
behind_finds s at f (plain x xs) last = cons_same (behind_finds s at f xs last)
behind_finds s at f (range x y xs) last = cons_same (behind_finds s at f xs last)
behind_finds s at f (lambda p x xs) last = cons_same (behind_finds s at f xs last)
behind_finds s at f (named name place x xs) last = cons_same (behind_finds s at f xs last)

first_finds : (s : Scope) (at : Place) (f : Function) (xs : Args) → first_last (finds_of (site s at f) xs) ≡ finds_of (site s at f) (first_behind xs)
unfolding finds_of
first_finds s at f none = refl
first_finds s at f (plain x xs) = behind_finds s at f xs (plain x none)
first_finds s at f (range x y xs) = behind_finds s at f xs (range x y none)
first_finds s at f (lambda p x xs) = behind_finds s at f xs (lambda p x none)
first_finds s at f (named name place x xs) = behind_finds s at f xs (named name place x none)

tested_turns : (s : Scope) (at : Place) (f : Function) (xs : Args) → found_among f (finds_of (site s at f) xs) ≡ turns s at f [] (tested_args f xs)
tested_turns s at function.Map xs = ap (in_turn []) (first_finds s at function.Map xs)
tested_turns s at _ xs = refl

-- ---- where an argument stands

known_filter : (s : Scope) (before : List Argument) → Known s → Known (within_filter s before)
unfolding Known
known_filter s [] known = known
known_filter s (x ∷ before) known = known

known_inside : (f : Function) (s : Scope) (before : List Argument) → Known s → Known (inside s f before)
unfolding inside
known_inside function.Filter s before known = known_filter s before known
known_inside _ s before known = known

known_parameter : (s : Scope) (p : List ℕ) (w : Wanted) → Known s → Known (with_parameter s p (role_wanted w))
unfolding Known
known_parameter s p w known = known

-- ---- one argument that passes

plain_value : {w : Wanted} {u : Scope} {x : Tree} → Known u → is_value w x ≡ true → break_of u x ≡ None → IsPlain u w x (value_or_misfit (shape_of u x))
plain_value {w} {u} {x} known is e = let k = passing u x known e in subst (λ (o : Option Shape). IsPlain u w x (value_or_misfit o)) (sym k.is) (by_value is k.fits)

plain_is : (w : Wanted) (x : Tree) (u : Scope) (here : CallSoFar) → Known u → plain_break w here x (break_of u x) ≡ None → IsPlain u w x (plain_argument w x (shape_of u x))
unfolding plain_break plain_argument
plain_is nothing x u here known e = absurd cc
plain_is a_text (text h bytes) u here known e = by_text
plain_is a_text (column h c) u here known e = absurd cc
plain_is (a_column frames) (column h c) u here known e = by_column
plain_is _ _ u here known e = plain_value known refl e

given_value : {w : Wanted} {u : Scope} {name : List ℕ} {x : Tree} → Known u → is_named_value w x ≡ true → break_of u x ≡ None → IsNamed u name w x (given_or_misfit name (shape_of u x))
given_value {w} {u} {name} {x} known is e = let k = passing u x known e in subst (λ (o : Option Shape). IsNamed u name w x (given_or_misfit name o)) (sym k.is) (by_given is k.fits)

measured_is : (t : Bool) (frames : List (List Name)) (u : Scope) (name : List ℕ) (x : Tree) → is_measure x ≡ t → Known u → (if t then measure_break frames x else break_of u x) ≡ None
    → IsNamed u name (a_measure frames) x (if t then Measure (trees.named name) else given_or_misfit name (shape_of u x))
measured_is true frames u name x is known e = by_measure is
measured_is false frames u name x is known e = given_value known (false_not (is_measure x) is) e

named_is : (w : Wanted) (u : Scope) (here : CallSoFar) (name : List ℕ) (at : Place) (x : Tree) → Known u → named_break w here name at x (break_of u x) ≡ None
    → IsNamed u name w x (named_argument w name x (shape_of u x))
unfolding named_break named_argument
named_is nothing u here name at x known e = absurd cc
named_is a_given u here name at x known e = given_value known refl (or_left (break_of u x) _ e)
named_is (a_measure frames) u here name at x known e = measured_is (is_measure x) frames u name x refl known (or_left _ (new_break at name here.before) e)
named_is _ u here name at x known e = let last = or_right (break_of u x) (broken at WrongType) e in absurd cc

range_then : (w : Wanted) {s : Scope} {f : Function} {before made : List Argument} {x y : Tree} {xs rest : Args} (at : Place) → Known s → range_break w at (option_or (break_of s x) (break_of s y)) ≡ None
    → AreArguments s f (before ++ range_argument (shape_of s x) (shape_of s y) ∷ []) xs made rest → AreArguments s f before (range x y xs) made rest
unfolding range_break
range_then an_interval {s} {f} {before} {made} {x} {y} {xs} {rest} at known e g =
    let k = passing s x known (or_left (break_of s x) (break_of s y) e) in
    let l = passing s y known (or_right (break_of s x) (break_of s y) e) in
    let first = subst (λ (o : Option Shape). AreArguments s f (before ++ range_argument o (shape_of s y) ∷ []) xs made rest) k.is g in
    then_range k.fits l.fits (subst (λ (o : Option Shape). AreArguments s f (before ++ range_argument (Some k.shape) o ∷ []) xs made rest) l.is first)
range_then _ at known e g = absurd cc

lambda_then : (w : Wanted) {s : Scope} {f : Function} {before made : List Argument} {p : List ℕ} {x : Tree} {xs rest : Args} (at : Place) → wanted f before ≡ w → Known s
    → lambda_break w at (break_of (with_parameter s p (role_wanted w)) x) ≡ None
    → AreArguments s f (before ++ lambda_argument (shape_of (with_parameter s p (role_wanted w)) x) ∷ []) xs made rest → AreArguments s f before (lambda p x xs) made rest
unfolding lambda_break
lambda_then (a_lambda role) {s} {f} {before} {made} {p} {x} {xs} {rest} at is known e g =
    let k = passing (with_parameter s p role) x (known_parameter s p (a_lambda role) known) e in
    then_lambda is k.fits (subst (λ (o : Option Shape). AreArguments s f (before ++ lambda_argument o ∷ []) xs made rest) k.is g)
lambda_then _ at is known e g = absurd cc

-- ---- one argument that does not pass

key_told : (P : Refusal → Type 0) (at : Place) (c : List ℕ) (frames : List (List Name)) (before : List Argument) (r : Refusal)
    → (list_all (has_column c) frames ≡ false → P (refusal at UnknownColumn)) → (has c (names_among before) ≡ true → P (refusal at DoubleColumn))
    → option_or (column_known at c frames) (new_break at c before) ≡ Some r → P r
key_told P at c frames before r unknown double e =
    or_told P (column_known at c frames) (new_break at c before) r (unless_told P (list_all (has_column c) frames) at UnknownColumn r unknown)
    (λ n. unless_told P (not (has c (names_among before))) at DoubleColumn r (λ f. double (not_false (has c (names_among before)) f))) e

plain_told : (w : Wanted) (x : Tree) (s u : Scope) (here : CallSoFar) (xs : Args) (r : Refusal) → (break_of u x ≡ Some r → Told u x r)
    → plain_break w here x (break_of u x) ≡ Some r → ToldNext s u here.at here.before w (plain x xs) r
unfolding plain_break
plain_told nothing x s u here xs r value e = told_by (ToldNext s u here.at here.before nothing (plain x xs)) here.at WrongType r (not_meant refl) e
plain_told a_text (text h bytes) s u here xs r value e = absurd cc
plain_told a_text (column h c) s u here xs r value e = told_by (ToldNext s u here.at here.before a_text (plain (column h c) xs)) h.at WrongType r column_for_text e
plain_told (a_column frames) (column h c) s u here xs r value e =
    key_told (ToldNext s u here.at here.before (a_column frames) (plain (column h c) xs)) h.at c frames here.before r (λ n. unknown_key n) (λ d. double_key d) e
plain_told _ _ s u here xs r value e = in_plain refl (value e)

range_told : (w : Wanted) (x y : Tree) (s u : Scope) (at : Place) (before : List Argument) (xs : Args) (r : Refusal) → (break_of s x ≡ Some r → Told s x r) → (break_of s y ≡ Some r → Told s y r)
    → range_break w at (option_or (break_of s x) (break_of s y)) ≡ Some r → ToldNext s u at before w (range x y xs) r
unfolding range_break
range_told an_interval x y s u at before xs r first last e =
    or_told (ToldNext s u at before an_interval (range x y xs)) (break_of s x) (break_of s y) r (λ t. in_from (first t)) (λ n t. in_to (last t)) e
range_told w x y s u at before xs r first last e = told_by (ToldNext s u at before w (range x y xs)) at WrongType r (not_meant refl) e

lambda_told : (w : Wanted) (p : List ℕ) (x : Tree) (s u : Scope) (at : Place) (before : List Argument) (xs : Args) (r : Refusal)
    → (break_of (with_parameter s p (role_wanted w)) x ≡ Some r → Told (with_parameter s p (role_wanted w)) x r)
    → lambda_break w at (break_of (with_parameter s p (role_wanted w)) x) ≡ Some r → ToldNext s u at before w (lambda p x xs) r
unfolding lambda_break
lambda_told (a_lambda role) p x s u at before xs r body e = in_lambda (body e)
lambda_told w p x s u at before xs r body e = told_by (ToldNext s u at before w (lambda p x xs)) at WrongType r (not_meant refl) e

measured_told : (x : Tree) (frames : List (List Name)) (s u : Scope) (at : Place) (before : List Argument) (name : List ℕ) (place : Place) (xs : Args) (r : Refusal) → is_measure x ≡ true
    → measure_break frames x ≡ Some r → ToldNext s u at before (a_measure frames) (named name place x xs) r
measured_told (call h g dotted (plain (column k c) rest)) frames s u at before name place xs r is e =
    unless_told (ToldNext s u at before (a_measure frames) (named name place (call h g dotted (plain (column k c) rest)) xs)) (list_all (has_column c) frames) k.at UnknownColumn r (λ n. unknown_measured is n) e
measured_told _ frames s u at before name place xs r is e = absurd cc

named_told : (w : Wanted) (s u : Scope) (here : CallSoFar) (name : List ℕ) (place : Place) (x : Tree) (xs : Args) (r : Refusal) → Known u → (break_of u x ≡ Some r → Told u x r)
    → named_break w here name place x (break_of u x) ≡ Some r → ToldNext s u here.at here.before w (named name place x xs) r
unfolding named_break
named_told nothing s u here name place x xs r known value e = told_by (ToldNext s u here.at here.before nothing (named name place x xs)) here.at WrongType r (not_meant refl) e
named_told a_given s u here name place x xs r known value e =
    or_told (ToldNext s u here.at here.before a_given (named name place x xs)) (break_of u x) (new_break place name here.before) r (λ t. in_named refl (value t))
    (λ n. unless_told (ToldNext s u here.at here.before a_given (named name place x xs)) (not (has name (names_among here.before))) place DoubleColumn r (λ d. double_given (not_false (has name (names_among here.before)) d))) e
named_told (a_measure frames) s u here name place x xs r known value e =
    or_told (ToldNext s u here.at here.before (a_measure frames) (named name place x xs)) (if is_measure x then measure_break frames x else break_of u x) (new_break place name here.before) r
    (if_told (ToldNext s u here.at here.before (a_measure frames) (named name place x xs)) (is_measure x) (measure_break frames x) (break_of u x) r (measured_told x frames s u here.at here.before name place xs r)
    (λ f t. in_named (false_not (is_measure x) f) (value t)))
    (λ n. unless_told (ToldNext s u here.at here.before (a_measure frames) (named name place x xs)) (not (has name (names_among here.before))) place DoubleColumn r (λ d. double_measure (not_false (has name (names_among here.before)) d))) e
named_told w s u here name place x xs r known value e =
    or_told (ToldNext s u here.at here.before w (named name place x xs)) (break_of u x) (broken place WrongType) r (λ t. in_named refl (value t))
    (λ n. told_by (ToldNext s u here.at here.before w (named name place x xs)) place WrongType r (name_not_meant refl (passing u x known n).fits)) e

-- ---- all arguments

all_are : (xs : Args) (s : Scope) (at : Place) (f : Function) (before : List Argument) → Known s → breaks_among s at f before xs ≡ None → AreArguments s f before xs (arguments s at f before xs) none
unfolding finds_of in_turn
all_are none s at f before known e = no_more
all_are (plain x xs) s at f before known e =
    then_plain (plain_is (wanted f before) x (inside s f before) (so_far f at before) (known_inside f s before known) (or_left (plain_break (wanted f before) (so_far f at before) x (break_of (inside s f before) x)) _ e))
    (all_are xs s at f (before ++ plain_argument (wanted f before) x (shape_of (inside s f before) x) ∷ []) known (or_right (plain_break (wanted f before) (so_far f at before) x (break_of (inside s f before) x)) _ e))
all_are (range x y xs) s at f before known e =
    range_then (wanted f before) at known (or_left (range_break (wanted f before) at (option_or (break_of s x) (break_of s y))) _ e)
    (all_are xs s at f (before ++ range_argument (shape_of s x) (shape_of s y) ∷ []) known (or_right (range_break (wanted f before) at (option_or (break_of s x) (break_of s y))) _ e))
all_are (lambda p x xs) s at f before known e =
    let u = with_parameter s p (role_wanted (wanted f before)) in
    lambda_then (wanted f before) at refl known (or_left (lambda_break (wanted f before) at (break_of u x)) _ e)
    (all_are xs s at f (before ++ lambda_argument (shape_of u x) ∷ []) known (or_right (lambda_break (wanted f before) at (break_of u x)) _ e))
all_are (named name place x xs) s at f before known e =
    then_named (named_is (wanted f before) (inside s f before) (so_far f at before) name place x (known_inside f s before known) (or_left (named_break (wanted f before) (so_far f at before) name place x (break_of (inside s f before) x)) _ e))
    (all_are xs s at f (before ++ named_argument (wanted f before) name x (shape_of (inside s f before) x) ∷ []) known (or_right (named_break (wanted f before) (so_far f at before) name place x (break_of (inside s f before) x)) _ e))

-- the refusal is told at some argument
record SomeNext (s : Scope) (f : Function) (at : Place) (before : List Argument) (xs : Args) (r : Refusal) : Type 0 where
  made : List Argument
  rest : Args
  are : AreArguments s f before xs made rest
  tells : ToldNext s (inside s f made) at made (wanted f made) rest r

next_here : {s : Scope} {f : Function} {at : Place} {before : List Argument} {xs : Args} {r : Refusal} → ToldNext s (inside s f before) at before (wanted f before) xs r → SomeNext s f at before xs r
next_here {s} {f} {at} {before} {xs} t = record { made = before; rest = xs; are = no_more; tells = t }

next_behind : {s : Scope} {f : Function} {at : Place} {before more : List Argument} {xs ys : Args} {r : Refusal}
    → ((made : List Argument) (rest : Args) → AreArguments s f more ys made rest → AreArguments s f before xs made rest) → SomeNext s f at more ys r → SomeNext s f at before xs r
next_behind move u = record { made = u.made; rest = u.rest; are = move u.made u.rest u.are; tells = u.tells }

among_told : (xs : Args) → AreTelling xs → (s : Scope) (at : Place) (f : Function) (before : List Argument) (r : Refusal) → Known s → breaks_among s at f before xs ≡ Some r → SomeNext s f at before xs r
unfolding AreTelling finds_of in_turn
among_told none tell s at f before r known e = absurd cc
among_told (plain x xs) tell s at f before r known e =
    let u = inside s f before in
    or_told (SomeNext s f at before (plain x xs)) (plain_break (wanted f before) (so_far f at before) x (break_of u x)) _ r
    (λ t. next_here (plain_told (wanted f before) x s u (so_far f at before) xs r (tell.0 u (known_inside f s before known) r) t))
    (λ n k. next_behind (λ made rest g. then_plain (plain_is (wanted f before) x u (so_far f at before) (known_inside f s before known) n) g)
    (among_told xs tell.1 s at f (before ++ plain_argument (wanted f before) x (shape_of u x) ∷ []) r known k)) e
among_told (range x y xs) tell s at f before r known e =
    or_told (SomeNext s f at before (range x y xs)) (range_break (wanted f before) at (option_or (break_of s x) (break_of s y))) _ r
    (λ t. next_here (range_told (wanted f before) x y s (inside s f before) at before xs r (tell.0.0 s known r) (tell.0.1 s known r) t))
    (λ n k. next_behind (λ made rest g. range_then (wanted f before) at known n g)
    (among_told xs tell.1 s at f (before ++ range_argument (shape_of s x) (shape_of s y) ∷ []) r known k)) e
among_told (lambda p x xs) tell s at f before r known e =
    let u = with_parameter s p (role_wanted (wanted f before)) in
    or_told (SomeNext s f at before (lambda p x xs)) (lambda_break (wanted f before) at (break_of u x)) _ r
    (λ t. next_here (lambda_told (wanted f before) p x s (inside s f before) at before xs r (tell.0 u (known_parameter s p (wanted f before) known) r) t))
    (λ n k. next_behind (λ made rest g. lambda_then (wanted f before) at refl known n g)
    (among_told xs tell.1 s at f (before ++ lambda_argument (shape_of u x) ∷ []) r known k)) e
among_told (named name place x xs) tell s at f before r known e =
    let u = inside s f before in
    let inner = known_inside f s before known in
    or_told (SomeNext s f at before (named name place x xs)) (named_break (wanted f before) (so_far f at before) name place x (break_of u x)) _ r
    (λ t. next_here (named_told (wanted f before) s u (so_far f at before) name place x xs r inner (tell.0 u inner r) t))
    (λ n k. next_behind (λ made rest g. then_named (named_is (wanted f before) u (so_far f at before) name place x inner n) g)
    (among_told xs tell.1 s at f (before ++ named_argument (wanted f before) name x (shape_of u x) ∷ []) r known k)) e

-- ---- calls

args_told : (s : Scope) (h : Head) (name : List ℕ) (dotted : Bool) (f : Function) (xs : Args) (r : Refusal) → AreTelling xs → Known s → function_named dotted name ≡ Some f
    → (found_among f (finds_of (site s h.at f) xs)).refusal ≡ Some r → ToldCall s (call h name dotted xs) r
args_told s h name dotted f xs r tell known is e =
    let u = among_told (tested_args f xs) (tested_telling f xs tell) s h.at f [] r known (ap (λ (g : FoundArguments). g.refusal) (sym (tested_turns s h.at f xs)) ∙ e) in
    in_argument is u.are u.tells

count_told : (s : Scope) (h : Head) (name : List ℕ) (dotted : Bool) (f : Function) (xs : Args) (r : Refusal) → function_named dotted name ≡ Some f
    → unless (takes_count f (count_of xs)) h.at WrongCount ≡ Some r → ToldCall s (call h name dotted xs) r
count_told s h name dotted f xs r is e = unless_told (ToldCall s (call h name dotted xs)) (takes_count f (count_of xs)) h.at WrongCount r (λ n. wrong_count is n) e

-- a call, by what its arguments tell
called_told : (P : Refusal → Type 0) (at : Place) (o : Option Function) (tests : Function → Option Refusal) (r : Refusal)
    → (o ≡ None → P (refusal at UnknownCall)) → ((f : Function) → o ≡ Some f → tests f ≡ Some r → P r) → with_function at o tests ≡ Some r → P r
called_told P at None tests r missing next e = told_by P at UnknownCall r (missing refl) e
called_told P at (Some f) tests r missing next e = next f refl e

joined_told : (f : Function) (s : Scope) (dotted : Bool) (made : List Argument) (columns : List Name) → call_result f dotted made ≡ Some (Frame columns) → (is_join f && repeats columns) ≡ true
    → TellsCall s f dotted made DoubleColumn
joined_told function.Join s dotted made columns is e = double_column is e
joined_told _ s dotted made columns is e = absurd cc

result_told : (o : Option Shape) (P : Refusal → Type 0) (f : Function) (s : Scope) (at : Place) (dotted : Bool) (made : List Argument) (r : Refusal) → call_result f dotted made ≡ o
    → ((rule : Rule) → TellsCall s f dotted made rule → P (refusal at rule)) → result_break f at o ≡ Some r → P r
unfolding result_break
result_told None P f s at dotted made r is tell e = told_by P at WrongType r (tell WrongType (no_result is)) e
result_told (Some (Frame columns)) P f s at dotted made r is tell e =
    or_told P (unless (not (is_join f && repeats columns)) at DoubleColumn) (unless (nat_le (length columns) 1024) at TooManyColumns) r
    (unless_told P (not (is_join f && repeats columns)) at DoubleColumn r
    (λ n. tell DoubleColumn (joined_told f s dotted made columns is (not_false (is_join f && repeats columns) n))))
    (λ n. unless_told P (nat_le (length columns) 1024) at TooManyColumns r (λ w. tell TooManyColumns (too_many_columns is w))) e
result_told (Some _) P f s at dotted made r is tell e = absurd cc

own_told : (f : Function) (P : Refusal → Type 0) (s : Scope) (at : Place) (dotted : Bool) (made : List Argument) (r : Refusal)
    → ((rule : Rule) → TellsCall s f dotted made rule → P (refusal at rule)) → call_break s f at (call_result f dotted made) ≡ Some r → P r
unfolding call_break
own_told function.Transpose P s at dotted made r tell e = told_by P at WrongType r (tell WrongType transposed) e
own_told f P s at dotted made r tell e =
    or_told P (unless (not (is_in_lambda s) || is_scalar_function f) at WrongType) (result_break f at (call_result f dotted made)) r
    (unless_told P (not (is_in_lambda s) || is_scalar_function f) at WrongType r
    (λ n.
    let both = both_false (not (is_in_lambda s)) (is_scalar_function f) n in
    tell WrongType (called_in_lambda (not_false (is_in_lambda s) both.first) both.second)))
    (λ n. result_told (call_result f dotted made) P f s at dotted made r refl tell) e

-- the type of a call, by what its arguments give
call_shaped : (s : Scope) (h : Head) (name : List ℕ) (dotted : Bool) (f : Function) (xs : Args) → function_named dotted name ≡ Some f
    → shape_of s (call h name dotted xs) ≡ call_result f dotted (arguments s h.at f [] (tested_args f xs))
unfolding found_of
call_shaped s h name dotted f xs is =
    ap (option_and_then (λ (g : Function). call_result g dotted (found_among g (finds_of (site s h.at g) xs)).arguments)) is
    ∙ ap (λ (g : FoundArguments). call_result f dotted g.arguments) (tested_turns s h.at f xs)

itself_told : (s : Scope) (h : Head) (name : List ℕ) (dotted : Bool) (f : Function) (xs : Args) (r : Refusal) → Known s → function_named dotted name ≡ Some f
    → (found_among f (finds_of (site s h.at f) xs)).refusal ≡ None → call_break s f h.at (shape_of s (call h name dotted xs)) ≡ Some r → Told s (call h name dotted xs) r
itself_told s h name dotted f xs r known is passed e =
    let are = all_are (tested_args f xs) s h.at f [] known (ap (λ (g : FoundArguments). g.refusal) (sym (tested_turns s h.at f xs)) ∙ passed) in
    own_told f (Told s (call h name dotted xs)) s h.at dotted (arguments s h.at f [] (tested_args f xs)) r (λ rule t. by_call is are t)
    (subst (λ (o : Option Shape). call_break s f h.at o ≡ Some r) (call_shaped s h name dotted f xs is) e)

call_told : (h : Head) (name : List ℕ) (dotted : Bool) (xs : Args) → AreTelling xs → IsTelling (call h name dotted xs)
unfolding found_of
call_told h name dotted xs tell s known r e =
    let P = Told s (call h name dotted xs) in
    called_told P h.at (function_named dotted name) _ r (λ n. in_call (unknown_call n))
    (λ f is t. or_told P (unless (takes_count f (count_of xs)) h.at WrongCount) _ r (λ k. in_call (count_told s h name dotted f xs r is k))
    (λ n. or_told P (found_among f (finds_of (site s h.at f) xs)).refusal _ r (λ k. in_call (args_told s h name dotted f xs r tell known is k)) (itself_told s h name dotted f xs r known is)) t) e

-- what is transposed on the right of a product
abbrev IsPartsTelling : Tree → Type 0
IsPartsTelling x = (s : Scope) → Known s → (r : Refusal) → parts_break s x ≡ Some r → ToldCall s x r

parts_told : (h : Head) (name : List ℕ) (dotted : Bool) (xs : Args) → AreTelling xs → IsPartsTelling (call h name dotted xs)
unfolding parts_break
parts_told h name dotted xs tell s known r e =
    let P = ToldCall s (call h name dotted xs) in
    called_told P h.at (function_named dotted name) _ r (λ n. unknown_call n)
    (λ f is t. or_told P (unless (takes_count f (count_of xs)) h.at WrongCount) _ r (count_told s h name dotted f xs r is) (λ n. args_told s h name dotted f xs r tell known is) t) e

-- ---- expressions

indexed_told : (t : Bool) (s : Scope) (h : Head) (x i : Tree) (r : Refusal) → is_window s x ≡ false → IsShaped s x → IsShaped s i → t ≡ false
    → unless (not (is_in_lambda s) && is_some (if t then Some Int else of_both index_result (shape_of s x) (shape_of s i))) h.at WrongType ≡ Some r → Told s (index h x i) r
indexed_told true s h x i r w k l f e = absurd cc
indexed_told false s h x i r w k l f e =
    unless_told (Told s (index h x i)) (not (is_in_lambda s) && is_some (of_both index_result (shape_of s x) (shape_of s i))) h.at WrongType r (index_told s h x i w k l) e

mutual
  unfolding found_of parts_break AreTelling

  pub tells : (x : Tree) → IsTelling x
  tells (number h value) s known r e = absurd cc
  tells (truth h holds) s known r e = absurd cc
  tells (text h bytes) s known r e = told_by (Told s (text h bytes)) h.at WrongType r (told text_as_value) e
  tells (variable h x) s known r e = name_told (role_of s.parameters x) s h x r known refl e
  tells (column h c) s known r e = column_told s.around s h c r refl e
  tells (field h x c) s known r e = field_told (role_of s.parameters x) s h x c r known refl e
  tells (unary h op dotted x) s known r e =
      let P = Told s (unary h op dotted x) in
      or_told P (break_of s x) (unless (is_some (option_and_then (unary_result op dotted) (shape_of s x))) h.at WrongType) r (λ k. in_operand (tells x s known r k))
      (λ n. unless_told P (is_some (option_and_then (unary_result op dotted) (shape_of s x))) h.at WrongType r (operand_told s h op dotted x (passing s x known n))) e
  tells (binary h op dotted x y) s known r e =
      let P = Told s (binary h op dotted x y) in
      let flips = is_flipped s op dotted y in
      or_told P (break_of s x) _ r (λ k. in_left (tells x s known r k))
      (λ n. or_told P (if flips then parts_break s y else break_of s y) _ r
      (if_told P flips (parts_break s y) (break_of s y) r (λ t k. in_transposed t (tells_parts y s known r k)) (λ t k. in_right t (tells y s known r k)))
      (λ m. unless_told P (is_some (of_both (binary_result op dotted) (shape_of s x) (shape_of s y))) h.at WrongType r (operands_told flips s h op dotted x y known refl (passing s x known n) m))) e
  tells (index h x i) s known r e =
      let P = Told s (index h x i) in
      if_told P (is_window s x) (reach_break (place_of x) h.at (distance_of i)) _ r (λ w. reach_told (distance_of i) s h x i r w refl)
      (λ w. or_told P (break_of s x) _ r (λ k. in_indexed w (tells x s known r k))
      (λ n. or_told P (break_of s i) _ r (λ k. in_index w (tells i s known r k))
      (λ m. indexed_told (is_window s x) s h x i r w (passing s x known n) (passing s i known m) w))) e
  tells (call h name dotted xs) s known r e = call_told h name dotted xs (tells_args xs) s known r e

  tells_parts : (x : Tree) → IsPartsTelling x
  tells_parts (call h name dotted xs) s known r e = parts_told h name dotted xs (tells_args xs) s known r e
  tells_parts _ s known r e = absurd cc

  tells_args : (xs : Args) → AreTelling xs
  tells_args none = tt
  tells_args (plain x xs) = (tells x, tells_args xs)
  tells_args (range x y xs) = ((tells x, tells y), tells_args xs)
  tells_args (lambda p x xs) = (tells x, tells_args xs)
  tells_args (named name at x xs) = (tells x, tells_args xs)
