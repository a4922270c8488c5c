-- Types that stand just where there are values: lists of them, and one step for each form of expression.
use Rattle.std.proofs.Common.{◌≡◌, ℕ, Bool, true, false, not, ◌&&◌, ◌||◌, cond, codes, bytes_eq, List, [], ◌∷◌, ◌++◌, map, Option, Some, None, is_some, option_and_then, IsTrue, IsSome, refl, sym, ap, subst, ◌∙◌}
use Rattle.std.specs.List.{list_all}
use Rattle.std.specs.Option.{option_or}
use Rattle.std.proofs.lemmas.Cmp.{nat_list_eq_equiv}
use Rattle.std.proofs.lemmas.List.{map-append}
use Rattle.std.proofs.lemmas.List.Folds.{list_all-append}
use Rattle.hp_word.specs.declared.place.Place.{Place}
use Rattle.hp_script.specs.declared.rule.Refusal.{Refusal}
use Rattle.hp_script.specs.declared.tree.UnOp.TheVariants.{Neg}
use Rattle.hp_script.specs.declared.tree.BinOp.{BinOp}
use Rattle.hp_script.specs.declared.tree.BinOp.TheVariants.{Mul}
use Rattle.hp_script.specs.declared.typed.Shape.{Shape}
use Rattle.hp_script.specs.declared.typed.Shape.TheVariants as shape
use Rattle.hp_script.specs.declared.argument.Argument.{Argument}
use Rattle.hp_script.specs.declared.function.Function.{Function}
use Rattle.hp_script.specs.declared.function.Function.TheVariants as function
use Rattle.hp_script.specs.Breaks.{lambda_break, distance_of, reach_break, is_flipped, is_transpose_call, is_scalar_function}
use Rattle.hp_script.specs.Entries.{own_shape, is_column_wanted, no_shapes}
use Rattle.hp_script.specs.Mirror.{Tree, Args, number, text, variable, unary}
use Rattle.hp_script.specs.Nodes.{nodes_in}
use Rattle.hp_script.specs.Results.{call_result}
use Rattle.hp_script.specs.Scope.{Scope, Parameter, element, window, role_of, is_in_lambda, with_parameter}
use Rattle.hp_script.specs.Shapes.{is_narrow_entry}
use Rattle.hp_script.specs.Typing.{Wanted, is_window, is_window_role, wanted, role_wanted, inside}
use Rattle.hp_script.specs.Valued.{is_parameter, without_value, values_in}
use Rattle.hp_script.specs.Walk.{found_of, entries_of, found_among, finds_of, site}
use Rattle.hp_script.proofs.FunctionNames.{Tells, has_columns, is_transpose}
use Rattle.hp_script.proofs.Shaped.{Shaped, Stands, outside, of_element, of_window, Sound}
use Rattle.hp_script.proofs.Turns.{in_order, arguments}
use Rattle.hp_script.proofs.Wants.{Means, columns, wanted_means, is_text, lambda_stands}
use Rattle.hp_script.proofs.TestLemmas.{or_left, or_right, and_both}

-- ---- lists of types

-- Types where there are values, and no frame with too many columns.
pub record Fits (found : List (Option Shape)) (values : List Bool) : Type 0 where
  pub valued : map is_some found ≡ values
  pub narrow : IsTrue (list_all is_narrow_entry found)

pub fits_nothing : Fits [] []
fits_nothing = record { valued = refl; narrow = refl }

pub fits_append : {xs ys : List (Option Shape)} {vs ws : List Bool} → Fits xs vs → Fits ys ws → Fits (xs ++ ys) (vs ++ ws)
fits_append {xs} {ys} {vs} a b = record {
  valued = map-append is_some xs ys ∙ ap (λ v. v ++ map is_some ys) a.valued ∙ ap (λ w. vs ++ w) b.valued;
  narrow = list_all-append is_narrow_entry xs ys ∙ and_both _ _ a.narrow b.narrow;
}

pub fits_absent : {xs : List (Option Shape)} {vs : List Bool} → Fits xs vs → Fits (None ∷ xs) (false ∷ vs)
fits_absent a = record { valued = ap (λ v. false ∷ v) a.valued; narrow = a.narrow }

pub fits_shaped : {x : Option Shape} {xs : List (Option Shape)} {vs : List Bool} → Shaped x → Fits xs vs → Fits (x ∷ xs) (true ∷ vs)
fits_shaped {x} {xs} {vs} s a = record { valued = ap (λ b. b ∷ map is_some xs) s.some ∙ ap (λ v. true ∷ v) a.valued; narrow = and_both _ _ s.narrow a.narrow }

pub fits_one : {x : Option Shape} → Shaped x → Fits (x ∷ []) (true ∷ [])
fits_one s = fits_shaped s fits_nothing

none_fit : (ids : List ℕ) → Fits (map (λ id. None) ids) (map (λ id. false) ids)
none_fit [] = fits_nothing
none_fit (id ∷ ids) = fits_absent (none_fit ids)

-- in both, an expression has no value where it is what is meant
pub either_fits : (w t c : Bool) (x : Tree) (found : List (Option Shape)) (values : List Bool) → (c ≡ true → w ≡ t) → ((w && c) ≡ false → Fits found values)
    → Fits (cond (w && c) (no_shapes x) found) (cond (t && c) (without_value x) values)
either_fits true true true x found values same h = none_fit (nodes_in x)
either_fits false false true x found values same h = h refl
either_fits true false true x found values same h = let never = same refl in absurd cc
either_fits false true true x found values same h = let never = same refl in absurd cc
either_fits true true false x found values same h = h refl
either_fits true false false x found values same h = h refl
either_fits false true false x found values same h = h refl
either_fits false false false x found values same h = h refl

-- ---- scopes

window_step : (own name : List ℕ) → is_window_role (cond (bytes_eq name own) (Some window) None) ≡ bytes_eq own name
window_step own name = window_same (bytes_eq name own) (bytes_eq own name) (nat_list_eq_equiv.symm name own)
  where
    window_same : (a b : Bool) → a ≡ b → is_window_role (cond a (Some window) None) ≡ b
    window_same true b e = e
    window_same false b e = e

element_step : (same : Bool) (kind : Shape) → is_window_role (cond same (Some (element kind)) None) ≡ false
element_step true kind = refl
element_step false kind = refl

name_agrees : {parameters : List Parameter} {parameter : Option (List ℕ)} → Stands parameters parameter → (h : _) (x : List ℕ) → is_window_role (role_of parameters x) ≡ is_parameter parameter (variable h x)
name_agrees outside h x = refl
name_agrees (of_element {name} {kind} narrow) h x = element_step (bytes_eq x name) kind
name_agrees (of_window {name}) h x = window_step name x

pub window_agrees : (s : Scope) (parameter : Option (List ℕ)) (x : Tree) → Stands s.parameters parameter → is_window s x ≡ is_parameter parameter x
window_agrees s parameter (variable h x) stands = name_agrees stands h x
window_agrees s None _ stands = refl
window_agrees s (Some own) _ stands = refl

pub inside_sound : (s : Scope) (parameter : Option (List ℕ)) (f : Function) (before : List Argument) → Sound s parameter → Sound (inside s f before) parameter
unfolding inside
inside_sound s parameter function.Filter [] sound = sound
inside_sound s parameter function.Filter (x ∷ before) sound = record { known = sound.known; narrow = sound.narrow; stands = sound.stands }
inside_sound s parameter _ before sound = sound

pub lambda_sound : (s : Scope) (parameter : Option (List ℕ)) (f : Function) (name : List ℕ) (before : List Argument) (at : Place) (tested : Option Refusal) (p : List ℕ)
    → Sound s parameter → Tells name f → (not (is_in_lambda s) || is_scalar_function f) ≡ true → lambda_break (wanted f before) at tested ≡ None
    → Sound (with_parameter s p (role_wanted (wanted f before))) (cond (bytes_eq name (codes "stencil")) (Some p) None)
lambda_sound s parameter f name before at tested p sound tells allowed e = record {
  known = sound.known;
  narrow = sound.narrow;
  stands = lambda_stands (wanted_means f before) at tested p s.parameters (bytes_eq name (codes "stencil")) e allowed tells.stencil;
}

-- ---- indices

-- what is indexed, where it is the parameter of a stencil
pub window_absent : (s : Scope) (x : Tree) → is_window s x ≡ true → Fits (None ∷ []) (without_value x)
window_absent s (variable h x) w = fits_absent fits_nothing
window_absent s _ w = absurd cc

pub indexed_fits : (window own : Bool) (x : Tree) (reach tested rest : Option Refusal) (found : List (Option Shape)) (values : List Bool)
    → window ≡ own → (window ≡ true → Fits (None ∷ []) (without_value x)) → (tested ≡ None → Fits found values) → cond window reach (option_or tested rest) ≡ None
    → Fits (cond window (None ∷ []) found) (cond own (without_value x) values)
indexed_fits true true x reach tested rest found values same absent h e = absent refl
indexed_fits false false x reach tested rest found values same absent h e = h (or_left _ _ e)
indexed_fits true false x reach tested rest found values same absent h e = absurd cc
indexed_fits false true x reach tested rest found values same absent h e = absurd cc

pub index_fits : (window : Bool) (reach x i rest : Option Refusal) (found : List (Option Shape)) (values : List Bool)
    → (reach ≡ None → Fits found values) → (i ≡ None → Fits found values) → cond window reach (option_or x (option_or i rest)) ≡ None → Fits found values
index_fits true reach x i rest found values near h e = near e
index_fits false reach x i rest found values near h e = h (or_left _ _ (or_right x _ e))

number_shaped : Shaped (Some shape.Int)
number_shaped = record { some = refl; narrow = refl }

-- a distance is a number, or `-` and a number
pub distance_fits : (s : Scope) (parameter : Option (List ℕ)) (at bracket : Place) (i : Tree) → reach_break at bracket (distance_of i) ≡ None → Fits (entries_of s i) (values_in parameter i)
unfolding found_of
distance_fits s parameter at bracket (number h value) e = fits_one number_shaped
distance_fits s parameter at bracket (unary h Neg false (number g value)) e = fits_shaped number_shaped (fits_one number_shaped)
distance_fits s parameter at bracket _ e = absurd cc

-- ---- operands

pub right_fits : (flipped : Bool) (parts tested : Option Refusal) (found : List (Option Shape)) (values : List Bool)
    → (flipped ≡ true → parts ≡ None → Fits found values) → (tested ≡ None → Fits found values) → cond flipped parts tested ≡ None → Fits found values
right_fits true parts tested found values flips h e = flips refl e
right_fits false parts tested found values flips h e = h e

pub flipped_means : (s : Scope) (op : BinOp) (dotted : Bool) (y : Tree) → is_flipped s op dotted y ≡ true → (not (is_in_lambda s) && is_transpose_call y) ≡ true
flipped_means s Mul false y h = h
flipped_means s _ _ y h = absurd cc

pub text_fits : (s : Scope) (parameter : Option (List ℕ)) (x : Tree) → is_text x ≡ true → Fits (entries_of s x) (values_in parameter x)
unfolding found_of
text_fits s parameter (text h bytes) t = fits_absent fits_nothing
text_fits s parameter _ t = absurd cc

-- ---- calls

-- a call has a value unless it transposes
pub call_fits : (f : Function) (result : Option Shape) (transposes : Bool) (found : List (Option Shape)) (values : List Bool)
    → transposes ≡ is_transpose f → (is_transpose f ≡ false → Shaped result) → Fits found values → Fits (own_shape f result ∷ found) (cond transposes false true ∷ values)
call_fits function.Transpose result transposes found values e s h = subst (λ t. Fits (None ∷ found) (cond t false true ∷ values)) (sym e) (fits_absent h)
call_fits _ result transposes found values e s h = subst (λ t. Fits (result ∷ found) (cond t false true ∷ values)) (sym e) (fits_shaped (s refl) h)

pub in_order_fits : (f : Function) (first in_text : Option Refusal) (first_found found : List (Option Shape)) (values : List Bool)
    → (f ≡ function.Map → first ≡ None → Fits first_found values) → (in_text ≡ None → Fits found values) → in_order f first in_text ≡ None → Fits (in_order f first_found found) values
in_order_fits function.Map first in_text first_found found values a b e = a refl e
in_order_fits _ first in_text first_found found values a b e = b e

-- a function that takes columns has its arguments in the order of the text
pub in_text : (s : Scope) (at : Place) (f : Function) (xs : Args) → has_columns f ≡ true → (found_among f (finds_of (site s at f) xs)).arguments ≡ arguments s at f [] xs
in_text s at function.Map xs c = absurd cc
in_text s at _ xs c = refl

pub result_some : (found : Option Function) (f : Function) (dotted : Bool) (made : Function → List Argument)
    → found ≡ Some f → IsSome (option_and_then (λ g. call_result g dotted (made g)) found) → IsSome (call_result f dotted (made f))
result_some None f dotted made e h = absurd cc
result_some (Some g) f dotted made e h = let same : g ≡ f = cc in subst (λ k. IsSome (call_result k dotted (made k))) same h

pub transpose_takes_none : (f : Function) → is_transpose f ≡ true → has_columns f ≡ true → ⊥
transpose_takes_none function.Transpose t c = absurd cc
transpose_takes_none _ t c = absurd cc

pub outside_allowed : (out scalar : Bool) → out ≡ true → (out || scalar) ≡ true
outside_allowed true scalar h = refl
outside_allowed false scalar h = absurd cc

pub map_columns : {f : Function} {meant : Wanted} → Means f meant → has_columns f ≡ false → is_column_wanted meant ≡ false
map_columns (columns h) c = absurd cc
map_columns _ c = refl
