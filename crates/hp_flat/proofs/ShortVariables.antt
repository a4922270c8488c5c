-- Variables whose arrays are short, behind an assignment of a short value.
use Rattle.std.proofs.Common.{◌≡◌, ℕ, Bool, true, false, bytes_eq, List, Some, refl, sym, ap, subst, ◌∙◌}
use Rattle.std.proofs.lemmas.Option.{same_Some}
use Rattle.hp_meaning.specs.declared.value.Value.{Value}
use Rattle.hp_meaning.specs.declared.value.Var.{Var}
use Rattle.hp_meaning.specs.Outcomes.{Course}
use Rattle.hp_meaning.specs.Scopes.{outside, assigned, value_named}
use Rattle.hp_meaning.proofs.Fine.{Fine, is, stops}
use Rattle.hp_meaning.proofs.NamedVariables.{same_bytes, value_stored, value_kept}
use Rattle.hp_flat.proofs.ShortScopes.{IsShort, AreShortVars, ShortScope, Only, is_such}

-- ---- values

-- what is of a kind and short
pub fine_both : {A : Type 0} {P Q : A → Type 0} {N : Type 0} {course : Course N A} → Fine A P course → Only Q course → Fine A (λ a. P a × Q a) course
fine_both (is p) (is_such q) = is (p, q)
fine_both stops q = stops

-- ---- variables

by_name : (x y : List ℕ) (a b : Value) (vars : List Var) (same : Bool) → bytes_eq x y ≡ same → AreShortVars vars → IsShort a → value_named y (assigned x a vars) ≡ Some b → IsShort b
by_name x y a b vars true own short few found =
    subst IsShort (same_Some a b (sym (value_stored x a vars) ∙ ap (λ (n : List ℕ). value_named n (assigned x a vars)) (same_bytes x y own) ∙ found)) few
by_name x y a b vars false differ short few found = short y b (sym (value_kept x y a vars differ) ∙ found)

-- behind an assignment of a short value the variables are short
pub short_assigned : (x : List ℕ) (a : Value) (vars : List Var) → AreShortVars vars → IsShort a → AreShortVars (assigned x a vars)
short_assigned x a vars short few y b found = by_name x y a b vars (bytes_eq x y) refl short few found

pub short_outside : {vars : List Var} → AreShortVars vars → ShortScope (outside vars)
short_outside short = record { vars = short; frame = λ columns none. absurd cc }
