-- Where an expression is refused since a variable may be unset, that variable stands there.
use Rattle.std.proofs.Common.{◌≡◌, ℕ, Bool, true, false, [], ◌∷◌, ◌⊎◌, inl, inr, if◌then◌else◌, List, Option, Some, None, bytes_eq, refl, ap, subst}
use Rattle.hp_word.specs.declared.place.Place.{Place}
use Rattle.hp_script.specs.declared.rule.Refusal.{Refusal}
use Rattle.hp_script.specs.declared.rule.Rule.{Rule}
use Rattle.hp_script.specs.declared.rule.Rule.TheVariants.{MaybeUnset}
use Rattle.hp_script.specs.declared.argument.Argument.{Argument}
use Rattle.hp_script.specs.declared.function.Function.{Function}
use Rattle.hp_script.specs.declared.function.Function.TheVariants as function
use Rattle.hp_script.specs.Mirror.{Tree, Args, none, plain, range, lambda, named}
use Rattle.hp_script.specs.Scope.{Role, Parameter, Scope, has, is_set, role_of, with_parameter}
use Rattle.hp_script.specs.Told as law
use Rattle.hp_script.specs.Told.{refusal, Reads, a_variable, a_field, Tells, maybe_unset, TellsCall, transposed, behind, first_behind, tested_args, AreArguments, no_more, then_plain, then_range, then_lambda, then_named, Told, told, in_transposed, in_call, by_call, ToldCall, in_argument, ToldNext}
use Rattle.hp_script.specs.Typing.{Wanted, within_filter, inside}
use Rattle.hp_script.specs.Unset.{NamesAt, by_variable, by_field, in_operand, in_left, in_right, in_indexed, in_index, in_arguments, NamesIn, in_plain, past_plain, in_from, in_to, past_range, in_lambda, past_lambda, in_named, past_named}

-- a variable that may be unset stands there
pub record Unset (s : Scope) (Stands : List ℕ → Type 0) : Type 0 where
  pub name : List ℕ
  pub read : Stands name
  pub known : has name s.assigned ≡ true
  pub missed : is_set s.ways name ≡ false
  pub bare : role_of s.parameters name ≡ None

elsewhere : {s : Scope} {Stands Others : List ℕ → Type 0} → ((x : List ℕ) → Stands x → Others x) → Unset s Stands → Unset s Others
elsewhere move u = record { name = u.name; read = move u.name u.read; known = u.known; missed = u.missed; bare = u.bare }

-- of names the same is known at both
record SameNames (s u : Scope) : Type 0 where
  assigned : u.assigned ≡ s.assigned
  ways : u.ways ≡ s.ways
  parameters : u.parameters ≡ s.parameters

same_unset : {s u : Scope} {Stands : List ℕ → Type 0} → SameNames s u → Unset u Stands → Unset s Stands
same_unset same u = record {
  name = u.name;
  read = u.read;
  known = subst (λ (l : List (List ℕ)). has u.name l ≡ true) same.assigned u.known;
  missed = subst (λ (l : List (List (List ℕ))). is_set l u.name ≡ false) same.ways u.missed;
  bare = subst (λ (l : List Parameter). role_of l u.name ≡ None) same.parameters u.bare;
}

-- the names at the place of an argument are those at the call
filter_same : (s : Scope) (before : List Argument) → SameNames s (within_filter s before)
filter_same s [] = record { assigned = refl; ways = refl; parameters = refl }
filter_same s (x ∷ before) = record { assigned = refl; ways = refl; parameters = refl }

inside_same : (f : Function) (s : Scope) (before : List Argument) → SameNames s (inside s f before)
unfolding inside
inside_same function.Filter s before = filter_same s before
inside_same _ s before = record { assigned = refl; ways = refl; parameters = refl }

-- no parameter has the name
no_role : (same : Bool) (role : Role) (rest : Option Role) → (if same then Some role else rest) ≡ None → (same ≡ false) × (rest ≡ None)
no_role true role rest e = absurd cc
no_role false role rest e = (refl, e)

lambda_same : (s : Scope) (p : List ℕ) (role : Role) (at : Place) (x : Tree) (xs : Args) → Unset (with_parameter s p role) (λ y. NamesAt x at y) → Unset s (λ y. NamesIn (lambda p x xs) at y)
lambda_same s p role at x xs u =
    let free = no_role (bytes_eq u.name p) role (role_of s.parameters u.name) u.bare in
    record { name = u.name; read = in_lambda free.0 u.read; known = u.known; missed = u.missed; bare = free.1 }

-- ---- arguments in the order of the text

from_behind : (xs last : Args) (at : Place) (y : List ℕ) → NamesIn (behind xs last) at y → NamesIn xs at y ⊎ NamesIn last at y
from_behind none last at y n = inr n
from_behind (plain x xs) last at y (in_plain n) = inl (in_plain n)
from_behind (plain x xs) last at y (past_plain n) = elim (from_behind xs last at y n) [ inl m ↦ inl (past_plain m) | inr m ↦ inr m ]
from_behind (range x z xs) last at y (in_from n) = inl (in_from n)
from_behind (range x z xs) last at y (in_to n) = inl (in_to n)
from_behind (range x z xs) last at y (past_range n) = elim (from_behind xs last at y n) [ inl m ↦ inl (past_range m) | inr m ↦ inr m ]
from_behind (lambda p x xs) last at y (in_lambda free n) = inl (in_lambda free n)
from_behind (lambda p x xs) last at y (past_lambda n) = elim (from_behind xs last at y n) [ inl m ↦ inl (past_lambda m) | inr m ↦ inr m ]
from_behind (named c place x xs) last at y (in_named n) = inl (in_named n)
from_behind (named c place x xs) last at y (past_named n) = elim (from_behind xs last at y n) [ inl m ↦ inl (past_named m) | inr m ↦ inr m ]

nothing_in : {A : Type 0} {at : Place} {y : List ℕ} → NamesIn none at y → A
nothing_in n = elim n [ ]

plain_first : {x : Tree} {xs : Args} {at : Place} {y : List ℕ} → NamesIn (plain x none) at y → NamesIn (plain x xs) at y
plain_first (in_plain n) = in_plain n
plain_first (past_plain n) = nothing_in n

range_first : {x z : Tree} {xs : Args} {at : Place} {y : List ℕ} → NamesIn (range x z none) at y → NamesIn (range x z xs) at y
range_first (in_from n) = in_from n
range_first (in_to n) = in_to n
range_first (past_range n) = nothing_in n

lambda_first : {p : List ℕ} {x : Tree} {xs : Args} {at : Place} {y : List ℕ} → NamesIn (lambda p x none) at y → NamesIn (lambda p x xs) at y
lambda_first (in_lambda free n) = in_lambda free n
lambda_first (past_lambda n) = nothing_in n

named_first : {c : List ℕ} {place : Place} {x : Tree} {xs : Args} {at : Place} {y : List ℕ} → NamesIn (named c place x none) at y → NamesIn (named c place x xs) at y
named_first (in_named n) = in_named n
named_first (past_named n) = nothing_in n

from_first : (xs : Args) (at : Place) (y : List ℕ) → NamesIn (first_behind xs) at y → NamesIn xs at y
from_first none at y n = n
from_first (plain x xs) at y n = elim (from_behind xs (plain x none) at y n) [ inl m ↦ past_plain m | inr m ↦ plain_first m ]
from_first (range x z xs) at y n = elim (from_behind xs (range x z none) at y n) [ inl m ↦ past_range m | inr m ↦ range_first m ]
from_first (lambda p x xs) at y n = elim (from_behind xs (lambda p x none) at y n) [ inl m ↦ past_lambda m | inr m ↦ lambda_first m ]
from_first (named c place x xs) at y n = elim (from_behind xs (named c place x none) at y n) [ inl m ↦ past_named m | inr m ↦ named_first m ]

from_tested : (f : Function) (xs : Args) (at : Place) (y : List ℕ) → NamesIn (tested_args f xs) at y → NamesIn xs at y
from_tested function.Map xs at y n = from_first xs at y n
from_tested _ xs at y n = n

-- ---- what is told

names_at : {t : Tree} {at : Place} {x : List ℕ} → Reads t at x → NamesAt t at x
names_at a_variable = by_variable
names_at a_field = by_field

unset_here : {s : Scope} {t : Tree} {r : Refusal} → Tells s t r → (at : Place) → r ≡ refusal at MaybeUnset → Unset s (λ y. NamesAt t at y)
unset_here {s} {t} (maybe_unset {at = p} {x = x} reads bare known missed) at e =
    let same : p ≡ at = ap (λ (r : Refusal). r.at) e in
    record { name = x; read = subst (λ (k : Place). NamesAt t k x) same (names_at reads); known = known; missed = missed; bare = bare }
unset_here _ at e = let rules = ap (λ (r : Refusal). r.rule) e in absurd cc

-- a name at the next argument stands at an argument of the call
among_all : {s : Scope} {f : Function} {before made : List Argument} {xs rest : Args} → AreArguments s f before xs made rest → (at : Place) (y : List ℕ) → NamesIn rest at y → NamesIn xs at y
among_all no_more at y n = n
among_all (then_plain is g) at y n = past_plain (among_all g at y n)
among_all (then_range first last g) at y n = past_range (among_all g at y n)
among_all (then_lambda meant body g) at y n = past_lambda (among_all g at y n)
among_all (then_named is g) at y n = past_named (among_all g at y n)

-- the call itself is refused by other rules
call_unset : {A : Type 0} {s : Scope} {f : Function} {dotted : Bool} {made : List Argument} {rule : Rule} → TellsCall s f dotted made rule → rule ≡ MaybeUnset → A
call_unset transposed e = absurd cc
call_unset _ e = absurd cc

mutual
  pub unset_in : {s : Scope} {t : Tree} {r : Refusal} → Told s t r → (at : Place) → r ≡ refusal at MaybeUnset → Unset s (λ y. NamesAt t at y)
  unset_in (told t) at e = unset_here t at e
  unset_in (law.in_operand t) at e = elsewhere (λ y m. in_operand m) (unset_in t at e)
  unset_in (law.in_left t) at e = elsewhere (λ y m. in_left m) (unset_in t at e)
  unset_in (law.in_right flips t) at e = elsewhere (λ y m. in_right m) (unset_in t at e)
  unset_in (in_transposed flips t) at e = elsewhere (λ y m. in_right m) (unset_parts t at e)
  unset_in (law.in_indexed w t) at e = elsewhere (λ y m. in_indexed m) (unset_in t at e)
  unset_in (law.in_index w t) at e = elsewhere (λ y m. in_index m) (unset_in t at e)
  unset_in (in_call t) at e = unset_parts t at e
  unset_in (by_call is are t) at e = call_unset t (ap (λ (r : Refusal). r.rule) e)

  unset_parts : {s : Scope} {t : Tree} {r : Refusal} → ToldCall s t r → (at : Place) → r ≡ refusal at MaybeUnset → Unset s (λ y. NamesAt t at y)
  unset_parts {s} (in_argument {xs = xs} {f = f} {before = before} is are t) at e =
      elsewhere (λ y m. in_arguments (from_tested f xs at y (among_all are at y m))) (unset_next t (inside_same f s before) at e)
  unset_parts _ at e = let rules = ap (λ (r : Refusal). r.rule) e in absurd cc

  unset_next : {s u : Scope} {place : Place} {before : List Argument} {w : Wanted} {xs : Args} {r : Refusal} → ToldNext s u place before w xs r
      → SameNames s u → (at : Place) → r ≡ refusal at MaybeUnset → Unset s (λ y. NamesIn xs at y)
  unset_next (law.in_plain is t) same at e = elsewhere (λ y m. in_plain m) (same_unset same (unset_in t at e))
  unset_next (law.in_from t) same at e = elsewhere (λ y m. in_from m) (unset_in t at e)
  unset_next (law.in_to t) same at e = elsewhere (λ y m. in_to m) (unset_in t at e)
  unset_next {s} (law.in_lambda {role = role} {p = p} {x = x} {xs = xs} t) same at e = lambda_same s p role at x xs (unset_in t at e)
  unset_next (law.in_named is t) same at e = elsewhere (λ y m. in_named m) (same_unset same (unset_in t at e))
  unset_next _ same at e = let rules = ap (λ (r : Refusal). r.rule) e in absurd cc
