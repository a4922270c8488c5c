-- The places of a script's variables: a variable with a type has its arrays and its word there, and no other has that place.
use Rattle.std.proofs.Common.{◌≡◌, ℕ, suc, ◌+◌, ◌<◌, Bool, true, false, not, cond, nat_lt, bytes_eq, List, [], ◌∷◌, map, length, slice_get, Option, Some, None, option_and_then, option_map, refl, sym, ap, ap₂, ◌∙◌, arith}
use Rattle.std.specs.List.{position_or_len, range_with_len}
use Rattle.hp_script.specs.declared.typed.Shape.{Shape}
use Rattle.hp_script.specs.declared.typed.Var.{Var}
use Rattle.hp_script.proofs.TestLemmas.{map_there, same_bytes}
use Rattle.hp_air.specs.Unknowns.{of_variable, at_variable, arrays_named, shape_named, variable_named, width}
use Rattle.hp_flat.specs.Homes.{Homes, word_named}

-- ---- places among variables

abbrev place_of : List ℕ → List Var → ℕ
place_of x vars = position_or_len (λ v. bytes_eq x v.name.bytes) vars

-- the variable at hand has both names, or none of the two
one_step : (x y own : List ℕ) (n p q : ℕ) (a b : Bool) → bytes_eq x own ≡ a → bytes_eq y own ≡ b → (p ≡ q → q < n → x ≡ y)
    → cond (not a) (1 + p) 0 ≡ cond (not b) (1 + q) 0 → cond (not b) (1 + q) 0 < suc n → x ≡ y
one_step x y own n p q true true first second next same less = same_bytes x own first ∙ sym (same_bytes y own second)
one_step x y own n p q true false first second next same less = absurd (omega (arith, same))
one_step x y own n p q false true first second next same less = absurd (omega (arith, same))
one_step x y own n p q false false first second next same less = next (omega (arith, same)) (omega (arith, less))

-- two names with one place are one name
pub one_name : (vars : List Var) (x y : List ℕ) → place_of x vars ≡ place_of y vars → place_of y vars < length vars → x ≡ y
one_name [] x y same less = absurd (omega (arith, less))
one_name (v ∷ vars) x y same less =
    one_step x y v.name.bytes (length vars) (place_of x vars) (place_of y vars) (bytes_eq x v.name.bytes) (bytes_eq y v.name.bytes) refl refl (one_name vars x y) same less

-- ---- variables with a type

-- the variable of this name, which has this type
pub record HasPlace (h : Homes) (x : List ℕ) (kind : Shape) : Type 0 where
  pub var : Var
  pub at : slice_get h.known.vars (word_named h x) ≡ Some var
  pub of_kind : var.shape ≡ kind
  pub below : word_named h x < length h.known.vars
  pub arrays : arrays_named h.known x ≡ map (of_variable (word_named h x)) (range_with_len 0 (width (Some kind)))

is_below : (q n : ℕ) → nat_lt q n ≡ true → q < n
is_below q n e = grind arith

pub has_place : (h : Homes) (x : List ℕ) (kind : Shape) → shape_named h.known x ≡ Some kind → HasPlace h x kind
unfolding word_named
has_place h x kind named = found (nat_lt (place_of x h.known.vars) (length h.known.vars)) refl
  where
    found : (b : Bool) → nat_lt (place_of x h.known.vars) (length h.known.vars) ≡ b → HasPlace h x kind
    found true less =
        let place : variable_named h.known x ≡ Some (place_of x h.known.vars) = ap (λ (b : Bool). cond b (Some (place_of x h.known.vars)) None) less in
        let there = map_there (λ (v : Var). v.shape) (slice_get h.known.vars (place_of x h.known.vars)) kind
        (sym (ap (λ (o : Option ℕ). option_and_then (λ k. option_map (λ (v : Var). v.shape) (slice_get h.known.vars k)) o) place) ∙ named) in
        record {
          var = there.value;
          at = there.value_is;
          of_kind = there.is;
          below = is_below (place_of x h.known.vars) (length h.known.vars) less;
          arrays = ap₂ (λ (v : Option ℕ) (s : Option Shape). at_variable v s) place named;
        }
    found false less =
        let none : variable_named h.known x ≡ None = ap (λ (b : Bool). cond b (Some (place_of x h.known.vars)) None) less in
        let nothing : None ≡ Some kind = sym (ap (λ (o : Option ℕ). option_and_then (λ k. option_map (λ (v : Var). v.shape) (slice_get h.known.vars k)) o) none) ∙ named in
        absurd cc
