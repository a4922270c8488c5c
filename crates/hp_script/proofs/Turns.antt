-- The arguments of a call in their order of tests, as lists over the text: from some argument on, and all of those of `map`,
-- whose first is tested behind the others.
use Rattle.std.proofs.Common.{◌≡◌, ℕ, List, [], ◌∷◌, ◌++◌, Option, Some, None, refl, ap, ◌∙◌}
use Rattle.std.specs.Prelude.{flat_map}
use Rattle.std.specs.Option.{option_or}
use Rattle.hp_word.specs.declared.place.Place.{Place}
use Rattle.hp_script.specs.declared.rule.Refusal.{Refusal}
use Rattle.hp_script.specs.declared.typed.Shape.{Shape}
use Rattle.hp_script.specs.declared.argument.Argument.{Argument}
use Rattle.hp_script.specs.declared.function.Function.{Function}
use Rattle.hp_script.specs.declared.function.Function.TheVariants as function
use Rattle.hp_script.specs.Mirror.{Tree, Args, none, plain, range, lambda, named}
use Rattle.hp_script.specs.Scope.{Scope, with_parameter}
use Rattle.hp_script.specs.Typing.{wanted, role_wanted, inside}
use Rattle.hp_script.specs.Breaks.{so_far}
use Rattle.hp_script.specs.Walk.{FoundArgument, FoundArguments, Finds, site, plain_found, range_found, lambda_found, named_found, followed_by, behind_first, last_first, in_turn, found_among, entries_among, found_of, finds_of}

-- ---- from some argument on

abbrev pub joined : List (List (Option Shape)) → List (Option Shape)
joined entries = flat_map (λ es. es) entries

abbrev pub turns : Scope → Place → Function → (before : List Argument) → Args → FoundArguments
turns s at f before xs = in_turn before (finds_of (site s at f) xs)

abbrev pub breaks_among : Scope → Place → Function → (before : List Argument) → Args → Option Refusal
breaks_among s at f before xs = (turns s at f before xs).refusal

abbrev pub arguments : Scope → Place → Function → (before : List Argument) → Args → List Argument
arguments s at f before xs = (turns s at f before xs).arguments

abbrev pub entries_from : Scope → Place → Function → (before : List Argument) → Args → List (Option Shape)
entries_from s at f before xs = joined (turns s at f before xs).entries

-- ---- one more argument at the end

abbrev last_turn : FoundArguments → FoundArgument → FoundArguments
last_turn g x = record { refusal = option_or g.refusal x.refusal; arguments = g.arguments ++ x.argument ∷ []; entries = g.entries ++ x.entries ∷ [] }

or_none : (a : Option Refusal) → option_or a None ≡ a
or_none None = refl
or_none (Some r) = refl

or_assoc : (a b c : Option Refusal) → option_or a (option_or b c) ≡ option_or (option_or a b) c
or_assoc None b c = refl
or_assoc (Some r) b c = refl

turn_last : (ts : List Finds) (t : Finds) (before : List Argument) → in_turn before (ts ++ t ∷ []) ≡ last_turn (in_turn before ts) (t (in_turn before ts).arguments)
unfolding in_turn
turn_last [] t before = ap (λ r. record { refusal = r; arguments = before ++ (t before).argument ∷ []; entries = (t before).entries ∷ [] }) (or_none (t before).refusal)
turn_last (x ∷ ts) t before =
    let g = in_turn (before ++ (x before).argument ∷ []) ts in
    let a = t g.arguments in
    ap (followed_by (x before)) (turn_last ts t (before ++ (x before).argument ∷ []))
    ∙ ap (λ r. record { refusal = r; arguments = g.arguments ++ a.argument ∷ []; entries = (x before).entries ∷ (g.entries ++ a.entries ∷ []) }) (or_assoc (x before).refusal g.refusal a.refusal)

first_again : {A : Type 0} (xs : List A) (x : A) → last_first (xs ++ x ∷ []) ≡ x ∷ xs
first_again [] x = refl
first_again (y ∷ xs) x = ap (behind_first y) (first_again xs x)

-- ---- all arguments, those of `map` with the first behind the others

abbrev pub in_order : {A : Type 0} → Function → (array_first in_text : A) → A
in_order function.Map array_first in_text = array_first
in_order _ array_first in_text = in_text

-- what is found of the first argument, behind the others
abbrev last_plain : Scope → Place → Tree → Args → FoundArgument
last_plain s at x xs = plain_found (so_far function.Map at (arguments s at function.Map [] xs)) x (found_of s x)

abbrev last_range : Scope → Place → Tree → Tree → Args → FoundArgument
last_range s at x y xs = range_found (so_far function.Map at (arguments s at function.Map [] xs)) (found_of s x) (found_of s y)

abbrev last_lambda : Scope → Place → List ℕ → Tree → Args → FoundArgument
last_lambda s at p x xs =
    lambda_found (so_far function.Map at (arguments s at function.Map [] xs)) (found_of (with_parameter s p (role_wanted (wanted function.Map (arguments s at function.Map [] xs)))) x)

abbrev last_named : Scope → Place → List ℕ → Place → Tree → Args → FoundArgument
last_named s at name place x xs = named_found (so_far function.Map at (arguments s at function.Map [] xs)) name place x (found_of s x)

abbrev map_turns : Scope → Place → Args → FoundArguments
map_turns s at none = record { refusal = None; arguments = []; entries = [] }
map_turns s at (plain x xs) = last_turn (turns s at function.Map [] xs) (last_plain s at x xs)
map_turns s at (range x y xs) = last_turn (turns s at function.Map [] xs) (last_range s at x y xs)
map_turns s at (lambda p x xs) = last_turn (turns s at function.Map [] xs) (last_lambda s at p x xs)
map_turns s at (named name place x xs) = last_turn (turns s at function.Map [] xs) (last_named s at name place x xs)

abbrev pub array_first_break : Scope → Place → Args → Option Refusal
array_first_break s at xs = (map_turns s at xs).refusal

abbrev pub array_first : Scope → Place → Args → List Argument
array_first s at xs = (map_turns s at xs).arguments

-- the entries of the first argument, before those of the others
abbrev pub lambda_entries : Scope → Place → Args → List (Option Shape)
lambda_entries s at none = []
lambda_entries s at (plain x xs) = (last_plain s at x xs).entries ++ entries_from s at function.Map [] xs
lambda_entries s at (range x y xs) = (last_range s at x y xs).entries ++ entries_from s at function.Map [] xs
lambda_entries s at (lambda p x xs) = (last_lambda s at p x xs).entries ++ entries_from s at function.Map [] xs
lambda_entries s at (named name place x xs) = (last_named s at name place x xs).entries ++ entries_from s at function.Map [] xs

map_is : (s : Scope) (at : Place) (xs : Args) → found_among function.Map (finds_of (site s at function.Map) xs) ≡ map_turns s at xs
unfolding in_turn finds_of inside
map_is s at none = refl
map_is s at (plain x xs) = turn_last (finds_of (site s at function.Map) xs) _ []
map_is s at (range x y xs) = turn_last (finds_of (site s at function.Map) xs) _ []
map_is s at (lambda p x xs) = turn_last (finds_of (site s at function.Map) xs) _ []
map_is s at (named name place x xs) = turn_last (finds_of (site s at function.Map) xs) _ []

map_entries : (s : Scope) (at : Place) (xs : Args) → entries_among function.Map (map_turns s at xs) ≡ lambda_entries s at xs
map_entries s at none = refl
map_entries s at (plain x xs) = ap joined (first_again (turns s at function.Map [] xs).entries (last_plain s at x xs).entries)
map_entries s at (range x y xs) = ap joined (first_again (turns s at function.Map [] xs).entries (last_range s at x y xs).entries)
map_entries s at (lambda p x xs) = ap joined (first_again (turns s at function.Map [] xs).entries (last_lambda s at p x xs).entries)
map_entries s at (named name place x xs) = ap joined (first_again (turns s at function.Map [] xs).entries (last_named s at name place x xs).entries)

pub order_refusal : (s : Scope) (at : Place) (f : Function) (xs : Args) → (found_among f (finds_of (site s at f) xs)).refusal ≡ in_order f (array_first_break s at xs) (breaks_among s at f [] xs)
order_refusal s at function.Map xs = ap (λ (g : FoundArguments). g.refusal) (map_is s at xs)
order_refusal s at _ xs = refl

pub order_arguments : (s : Scope) (at : Place) (f : Function) (xs : Args) → (found_among f (finds_of (site s at f) xs)).arguments ≡ in_order f (array_first s at xs) (arguments s at f [] xs)
order_arguments s at function.Map xs = ap (λ (g : FoundArguments). g.arguments) (map_is s at xs)
order_arguments s at _ xs = refl

pub order_entries : (s : Scope) (at : Place) (f : Function) (xs : Args) → entries_among f (found_among f (finds_of (site s at f) xs)) ≡ in_order f (lambda_entries s at xs) (entries_from s at f [] xs)
order_entries s at function.Map xs = ap (entries_among function.Map) (map_is s at xs) ∙ map_entries s at xs
order_entries s at _ xs = refl
