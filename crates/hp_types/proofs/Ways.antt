-- Of the ways that lead to a point, only the names that all of them assign matter.
use Rattle.std.proofs.Common.{◌≡◌, ℕ, Bool, not, ◌&&◌, ◌||◌, List, [], ◌∷◌, ◌++◌, Option, Some, None, option_and_then, if◌then◌else◌, refl, sym, ap, ap₂, ◌∙◌, append-nil}
use Rattle.std.specs.Option.{option_or}
use Rattle.hp_word.specs.declared.name.Name.{Name}
use Rattle.hp_word.specs.declared.place.Place.{Place}
use Rattle.hp_script.specs.declared.argument.Argument.{Argument}
use Rattle.hp_script.specs.declared.rule.Refusal.{Refusal}
use Rattle.hp_script.specs.declared.rule.Rule.TheVariants.{UnknownName, MaybeUnset, WrongType, WrongCount, UnknownColumn}
use Rattle.hp_script.specs.declared.typed.Shape.{Shape}
use Rattle.hp_script.specs.declared.typed.Shape.TheVariants as shape
use Rattle.hp_script.specs.declared.function.Function.{Function}
use Rattle.hp_script.specs.declared.function.Function.TheVariants as function
use Rattle.hp_script.specs.Breaks.{so_far, unless, variable_break, name_break, field_break, column_break, call_break, is_scalar, is_frame, frame_has, is_flipped, place_of, distance_of, reach_break, count_of}
use Rattle.hp_script.specs.Functions.{function_named, takes_count}
use Rattle.hp_script.specs.Mirror.{Head, Tree, Args, number, truth, text, variable, column, field, unary, binary, index, call, none, plain, range, lambda, named}
use Rattle.hp_script.specs.Results.{of_both, unary_result, binary_result, index_result, call_result}
use Rattle.hp_script.specs.Scope.{Scope, Role, element, window, has, is_set, shape_among, role_of, is_in_lambda, with_parameter}
use Rattle.hp_script.specs.Typing.{name_shape, is_window, wanted, role_wanted, inside}
use Rattle.hp_script.specs.Walk.{Found, FoundArguments, Finds, site, plain_found, range_found, lambda_found, named_found, followed_by, in_turn, found_among, call_found, parts_refusal, leaf_found, unary_found, binary_found, index_found, found_of, parts_break, finds_of}

-- the same point, but for the ways that lead to it
abbrev pub by_ways : Scope → List (List (List ℕ)) → Scope
by_ways s ways = record s { ways = ways }

-- both assign the same names for sure
abbrev pub Same : Scope → List (List (List ℕ)) → Type 0
Same s ways = (x : List ℕ) → is_set ways x ≡ is_set s.ways x

pub inside_by_ways : (s : Scope) (w : List (List (List ℕ))) (f : Function) (before : List Argument) → inside (by_ways s w) f before ≡ by_ways (inside s f before) w
unfolding inside
inside_by_ways s w function.Filter [] = refl
inside_by_ways s w function.Filter (x ∷ before) = refl
inside_by_ways s w _ before = refl

pub inside_ways : (s : Scope) (f : Function) (before : List Argument) → (inside s f before).ways ≡ s.ways
unfolding inside
inside_ways s function.Filter [] = refl
inside_ways s function.Filter (x ∷ before) = refl
inside_ways s _ before = refl

inside_same : (s : Scope) (w : List (List (List ℕ))) (f : Function) (before : List Argument) → Same s w → Same (inside s f before) w
inside_same s w f before same x = same x ∙ ap (λ (ways : List (List (List ℕ))). is_set ways x) (sym (inside_ways s f before))

-- ---- tests

variable_by_ways : (s : Scope) (w : List (List (List ℕ))) (at : Place) (x : List ℕ) → Same s w → variable_break (by_ways s w) at x ≡ variable_break s at x
variable_by_ways s w at x same = ap (λ (b : Bool). option_or (unless (has x s.assigned) at UnknownName) (unless b at MaybeUnset)) (same x)

name_by_ways : (s : Scope) (w : List (List (List ℕ))) (role : Option Role) (at : Place) (x : List ℕ) → Same s w → name_break role (by_ways s w) at x ≡ name_break role s at x
unfolding name_break
name_by_ways s w (Some (element kind)) at x same = refl
name_by_ways s w (Some window) at x same = refl
name_by_ways s w None at x same = ap (λ (r : Option Refusal). option_or r (unless (not (is_in_lambda s) || is_scalar (shape_among s.vars x)) at WrongType)) (variable_by_ways s w at x same)

field_by_ways : (s : Scope) (w : List (List (List ℕ))) (role : Option Role) (at : Place) (x c : List ℕ) → Same s w → field_break role (by_ways s w) at x c ≡ field_break role s at x c
unfolding field_break
field_by_ways s w (Some role) at x c same = refl
field_by_ways s w None at x c same =
    ap (λ (r : Option Refusal). option_or r (option_or (unless (not (is_in_lambda s) && is_frame (shape_among s.vars x)) at WrongType) (unless (frame_has c (shape_among s.vars x)) at UnknownColumn)))
    (variable_by_ways s w at x same)

column_by_ways : (s : Scope) (w : List (List (List ℕ))) (around : Option (List Name)) (at : Place) (c : List ℕ) → column_break around (by_ways s w) at c ≡ column_break around s at c
unfolding column_break
column_by_ways s w None at c = refl
column_by_ways s w (Some columns) at c = refl

call_by_ways : (s : Scope) (w : List (List (List ℕ))) (f : Function) (at : Place) (result : Option Shape) → call_break (by_ways s w) f at result ≡ call_break s f at result
unfolding call_break
call_by_ways s w function.Transpose at result = refl
call_by_ways s w _ at result = refl

-- ---- calls

call_same : (s : Scope) (w : List (List (List ℕ))) (h : Head) (dotted : Bool) (count : ℕ) (called : Option Function) (g k : Function → FoundArguments) → ((f : Function) → g f ≡ k f)
    → call_found (by_ways s w) h dotted count called g ≡ call_found s h dotted count called k
call_same s w h dotted count None g k e = refl
call_same s w h dotted count (Some f) g k e =
    let result = call_result f dotted (k f).arguments in
    ap (λ (found : FoundArguments). call_found (by_ways s w) h dotted count (Some f) (λ called. found)) (e f)
    ∙ ap (λ (own : Option Refusal). record (call_found s h dotted count (Some f) k) { refusal = option_or (unless (takes_count f count) h.at WrongCount) (option_or (k f).refusal own) })
    (call_by_ways s w f h.at result)

parts_same : (h : Head) (count : ℕ) (called : Option Function) (g k : Function → FoundArguments) → ((f : Function) → g f ≡ k f) → parts_refusal h count called g ≡ parts_refusal h count called k
parts_same h count None g k e = refl
parts_same h count (Some f) g k e = ap (λ (found : FoundArguments). option_or (unless (takes_count f count) h.at WrongCount) found.refusal) (e f)

one_same : (before : List Argument) (g k : Finds) → g before ≡ k before → in_turn before (g ∷ []) ≡ in_turn before (k ∷ [])
unfolding in_turn
one_same before g k e = ap (λ found. followed_by found (in_turn (before ++ found.argument ∷ []) [])) e

-- with nothing behind them
alone : (before : List Argument) (g k : List Finds) → in_turn before (g ++ []) ≡ in_turn before (k ++ []) → in_turn before g ≡ in_turn before k
alone before g k e = ap (in_turn before) (sym (append-nil g)) ∙ e ∙ ap (in_turn before) (append-nil k)

among_same : (s : Scope) (w : List (List (List ℕ))) (at : Place) (f : Function) (xs : Args)
    → found_among function.Map (finds_of (site (by_ways s w) at function.Map) xs) ≡ found_among function.Map (finds_of (site s at function.Map) xs)
    → in_turn [] (finds_of (site (by_ways s w) at f) xs) ≡ in_turn [] (finds_of (site s at f) xs)
    → found_among f (finds_of (site (by_ways s w) at f) xs) ≡ found_among f (finds_of (site s at f) xs)
among_same s w at function.Map xs first rest = first
among_same s w at f xs first rest = rest

-- ---- the walk

mutual
  unfolding found_of in_turn

  pub found_by_ways : (s : Scope) (w : List (List (List ℕ))) (x : Tree) → Same s w → found_of (by_ways s w) x ≡ found_of s x
  found_by_ways s w (number h value) same = refl
  found_by_ways s w (truth h holds) same = refl
  found_by_ways s w (text h bytes) same = refl
  found_by_ways s w (variable h x) same = ap (λ (r : Option Refusal). leaf_found r (name_shape (role_of s.parameters x) (shape_among s.vars x))) (name_by_ways s w (role_of s.parameters x) h.at x same)
  found_by_ways s w (column h c) same = ap (λ (r : Option Refusal). leaf_found r (Some shape.Ints)) (column_by_ways s w s.around h.at c)
  found_by_ways s w (field h x c) same = ap (λ (r : Option Refusal). leaf_found r (Some shape.Ints)) (field_by_ways s w (role_of s.parameters x) h.at x c same)
  found_by_ways s w (unary h op dotted x) same = ap (λ (a : Found). unary_found h (option_and_then (unary_result op dotted) a.shape) a) (found_by_ways s w x same)
  found_by_ways s w (binary h op dotted x y) same =
      ap₂ (λ (a b : Found). binary_found h (of_both (binary_result op dotted) a.shape b.shape) a (record b { refusal = if is_flipped s op dotted y then parts_break (by_ways s w) y else b.refusal }))
      (found_by_ways s w x same) (found_by_ways s w y same)
      ∙ ap (λ (r : Option Refusal). binary_found h (of_both (binary_result op dotted) (found_of s x).shape (found_of s y).shape) (found_of s x)
      (record (found_of s y) { refusal = if is_flipped s op dotted y then r else (found_of s y).refusal })) (parts_by_ways s w y same)
  found_by_ways s w (index h x i) same =
      ap₂ (λ (a b : Found). index_found s h (is_window s x) (reach_break (place_of x) h.at (distance_of i)) (if is_window s x then Some shape.Int else of_both index_result a.shape b.shape) a b)
      (found_by_ways s w x same) (found_by_ways s w i same)
  found_by_ways s w (call h name dotted xs) same = call_same s w h dotted (count_of xs) (function_named dotted name) _ _
      (λ f. among_same s w h.at f xs (map_by_ways s w h.at xs same)
      (alone [] (finds_of (site (by_ways s w) h.at f) xs) (finds_of (site s h.at f) xs) (turns_by_ways s w h.at f [] xs [] [] (λ behind. refl) same)))

  pub parts_by_ways : (s : Scope) (w : List (List (List ℕ))) (x : Tree) → Same s w → parts_break (by_ways s w) x ≡ parts_break s x
  parts_by_ways s w (call h name dotted xs) same = parts_same h (count_of xs) (function_named dotted name) _ _
      (λ f. among_same s w h.at f xs (map_by_ways s w h.at xs same)
      (alone [] (finds_of (site (by_ways s w) h.at f) xs) (finds_of (site s h.at f) xs) (turns_by_ways s w h.at f [] xs [] [] (λ behind. refl) same)))
  parts_by_ways s w _ same = refl

  -- the arguments of `map`, the first behind the others
  map_by_ways : (s : Scope) (w : List (List (List ℕ))) (at : Place) (xs : Args) → Same s w
      → found_among function.Map (finds_of (site (by_ways s w) at function.Map) xs) ≡ found_among function.Map (finds_of (site s at function.Map) xs)
  map_by_ways s w at none same = refl
  map_by_ways s w at (plain x xs) same =
      let g : Finds = λ before. plain_found (so_far function.Map at before) x (found_of (inside (by_ways s w) function.Map before) x) in
      let k : Finds = λ before. plain_found (so_far function.Map at before) x (found_of (inside s function.Map before) x) in
      turns_by_ways s w at function.Map [] xs (g ∷ []) (k ∷ [])
      (λ before. one_same before g k (ap (plain_found (so_far function.Map at before) x) (ap (λ (t : Scope). found_of t x) (inside_by_ways s w function.Map before) ∙ found_by_ways (inside s function.Map before) w x (inside_same s w function.Map before same)))) same
  map_by_ways s w at (range x y xs) same =
      let g : Finds = λ before. range_found (so_far function.Map at before) (found_of (by_ways s w) x) (found_of (by_ways s w) y) in
      let k : Finds = λ before. range_found (so_far function.Map at before) (found_of s x) (found_of s y) in
      turns_by_ways s w at function.Map [] xs (g ∷ []) (k ∷ [])
      (λ before. one_same before g k (ap₂ (range_found (so_far function.Map at before)) (found_by_ways s w x same) (found_by_ways s w y same))) same
  map_by_ways s w at (lambda p x xs) same =
      let g : Finds = λ before. lambda_found (so_far function.Map at before) (found_of (with_parameter (by_ways s w) p (role_wanted (wanted function.Map before))) x) in
      let k : Finds = λ before. lambda_found (so_far function.Map at before) (found_of (with_parameter s p (role_wanted (wanted function.Map before))) x) in
      turns_by_ways s w at function.Map [] xs (g ∷ []) (k ∷ [])
      (λ before. one_same before g k (ap (lambda_found (so_far function.Map at before)) (found_by_ways (with_parameter s p (role_wanted (wanted function.Map before))) w x same))) same
  map_by_ways s w at (named name place x xs) same =
      let g : Finds = λ before. named_found (so_far function.Map at before) name place x (found_of (inside (by_ways s w) function.Map before) x) in
      let k : Finds = λ before. named_found (so_far function.Map at before) name place x (found_of (inside s function.Map before) x) in
      turns_by_ways s w at function.Map [] xs (g ∷ []) (k ∷ [])
      (λ before. one_same before g k (ap (named_found (so_far function.Map at before) name place x) (ap (λ (t : Scope). found_of t x) (inside_by_ways s w function.Map before) ∙ found_by_ways (inside s function.Map before) w x (inside_same s w function.Map before same)))) same

  -- arguments behind these, before others of which the same is found
  turns_by_ways : (s : Scope) (w : List (List (List ℕ))) (at : Place) (f : Function) (before : List Argument) (xs : Args) (g k : List Finds)
      → ((behind : List Argument) → in_turn behind g ≡ in_turn behind k) → Same s w
      → in_turn before (finds_of (site (by_ways s w) at f) xs ++ g) ≡ in_turn before (finds_of (site s at f) xs ++ k)
  turns_by_ways s w at f before none g k e same = e before
  turns_by_ways s w at f before (plain x xs) g k e same =
      ap (λ (found : Found). followed_by (plain_found (so_far f at before) x found) (in_turn (before ++ (plain_found (so_far f at before) x found).argument ∷ []) (finds_of (site (by_ways s w) at f) xs ++ g)))
      (ap (λ (t : Scope). found_of t x) (inside_by_ways s w f before) ∙ found_by_ways (inside s f before) w x (inside_same s w f before same))
      ∙ ap (followed_by (plain_found (so_far f at before) x (found_of (inside s f before) x)))
      (turns_by_ways s w at f (before ++ (plain_found (so_far f at before) x (found_of (inside s f before) x)).argument ∷ []) xs g k e same)
  turns_by_ways s w at f before (range x y xs) g k e same =
      ap₂ (λ (a b : Found). followed_by (range_found (so_far f at before) a b) (in_turn (before ++ (range_found (so_far f at before) a b).argument ∷ []) (finds_of (site (by_ways s w) at f) xs ++ g)))
      (found_by_ways s w x same) (found_by_ways s w y same)
      ∙ ap (followed_by (range_found (so_far f at before) (found_of s x) (found_of s y)))
      (turns_by_ways s w at f (before ++ (range_found (so_far f at before) (found_of s x) (found_of s y)).argument ∷ []) xs g k e same)
  turns_by_ways s w at f before (lambda p x xs) g k e same =
      let inner = with_parameter s p (role_wanted (wanted f before)) in
      ap (λ (found : Found). followed_by (lambda_found (so_far f at before) found) (in_turn (before ++ (lambda_found (so_far f at before) found).argument ∷ []) (finds_of (site (by_ways s w) at f) xs ++ g)))
      (found_by_ways (with_parameter s p (role_wanted (wanted f before))) w x same)
      ∙ ap (followed_by (lambda_found (so_far f at before) (found_of inner x)))
      (turns_by_ways s w at f (before ++ (lambda_found (so_far f at before) (found_of inner x)).argument ∷ []) xs g k e same)
  turns_by_ways s w at f before (named name place x xs) g k e same =
      ap (λ (found : Found). followed_by (named_found (so_far f at before) name place x found) (in_turn (before ++ (named_found (so_far f at before) name place x found).argument ∷ []) (finds_of (site (by_ways s w) at f) xs ++ g)))
      (ap (λ (t : Scope). found_of t x) (inside_by_ways s w f before) ∙ found_by_ways (inside s f before) w x (inside_same s w f before same))
      ∙ ap (followed_by (named_found (so_far f at before) name place x (found_of (inside s f before) x)))
      (turns_by_ways s w at f (before ++ (named_found (so_far f at before) name place x (found_of (inside s f before) x)).argument ∷ []) xs g k e same)
