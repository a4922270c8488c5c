-- The variables after an assignment, by their names.
use Rattle.std.proofs.Common.{◌≡◌, ℕ, List, [], ◌∷◌, Bool, true, false, cond, Some, refl, sym, ap, ◌∙◌}
use Rattle.std.specs.Prelude.{bytes_eq, find}
use Rattle.std.specs.Option.{option_map}
use Rattle.std.proofs.lemmas.Slice.Eq.{bytes_eq-Decides}
use Rattle.hp_meaning.specs.declared.value.Value.{Value}
use Rattle.hp_meaning.specs.declared.value.Var.{Var}
use Rattle.hp_meaning.specs.Scopes.{var, value_named, assigned}

-- ---- names

pub same_bytes : (a b : List ℕ) → bytes_eq a b ≡ true → a ≡ b
same_bytes a b = (bytes_eq-Decides a b).0

itself : (a : List ℕ) → bytes_eq a a ≡ true
itself a = (bytes_eq-Decides a a).1 refl

other_way : (b : Bool) (x y : List ℕ) → bytes_eq y x ≡ b → bytes_eq x y ≡ false → b ≡ false
other_way false x y e h = refl
other_way true x y e h =
    let same : x ≡ y = sym (same_bytes y x e) in
    let equal : bytes_eq x y ≡ true = ap (bytes_eq x) (sym same) ∙ itself x in
    sym equal ∙ h

-- whether names are equal does not depend on which is first
pub differ : (x y : List ℕ) → bytes_eq x y ≡ false → bytes_eq y x ≡ false
differ x y h = other_way (bytes_eq y x) x y refl h

-- ---- variables

-- the value of one more variable
next_value : (name : List ℕ) (v : Var) (vars : List Var) (b : Bool) → bytes_eq v.name.bytes name ≡ b → value_named name (v ∷ vars) ≡ cond b (Some v.value) (value_named name vars)
unfolding value_named
next_value name v vars true e = ap (λ t. option_map (λ w. w.value) (cond t (Some v) (find (λ w. bytes_eq w.name.bytes name) vars))) e
next_value name v vars false e = ap (λ t. option_map (λ w. w.value) (cond t (Some v) (find (λ w. bytes_eq w.name.bytes name) vars))) e

assigned_next : (name : List ℕ) (a : Value) (v : Var) (vars : List Var) (b : Bool) → bytes_eq v.name.bytes name ≡ b → assigned name a (v ∷ vars) ≡ cond b (var name a ∷ vars) (v ∷ assigned name a vars)
unfolding assigned
assigned_next name a v vars b e = ap (λ t. cond t (var name a ∷ vars) (v ∷ assigned name a vars)) e

-- an assignment is seen
stored_next : (name : List ℕ) (a : Value) (v : Var) (vars : List Var) (b : Bool) → bytes_eq v.name.bytes name ≡ b → value_named name (assigned name a vars) ≡ Some a
    → value_named name (assigned name a (v ∷ vars)) ≡ Some a
stored_next name a v vars true e later = ap (value_named name) (assigned_next name a v vars true e) ∙ next_value name (var name a) vars true (itself name)
stored_next name a v vars false e later = ap (value_named name) (assigned_next name a v vars false e) ∙ next_value name v (assigned name a vars) false e ∙ later

pub value_stored : (name : List ℕ) (a : Value) (vars : List Var) → value_named name (assigned name a vars) ≡ Some a
unfolding assigned
value_stored name a [] = next_value name (var name a) [] true (itself name)
value_stored name a (v ∷ vars) = stored_next name a v vars (bytes_eq v.name.bytes name) refl (value_stored name a vars)

-- and changes no other variable
kept_next : (name other : List ℕ) (a : Value) (v : Var) (vars : List Var) (b c : Bool) → bytes_eq name other ≡ false → bytes_eq v.name.bytes name ≡ b → bytes_eq v.name.bytes other ≡ c
    → value_named other (assigned name a vars) ≡ value_named other vars → value_named other (assigned name a (v ∷ vars)) ≡ value_named other (v ∷ vars)
kept_next name other a v vars true c h e f later =
    let apart : bytes_eq v.name.bytes other ≡ false = ap (λ t. bytes_eq t other) (same_bytes v.name.bytes name e) ∙ h in
    ap (value_named other) (assigned_next name a v vars true e) ∙ next_value other (var name a) vars false h ∙ sym (next_value other v vars false apart)
kept_next name other a v vars false c h e f later =
    ap (value_named other) (assigned_next name a v vars false e) ∙ next_value other v (assigned name a vars) c f ∙ ap (cond c (Some v.value)) later ∙ sym (next_value other v vars c f)

pub value_kept : (name other : List ℕ) (a : Value) (vars : List Var) → bytes_eq name other ≡ false → value_named other (assigned name a vars) ≡ value_named other vars
unfolding assigned
value_kept name other a [] h = next_value other (var name a) [] false h
value_kept name other a (v ∷ vars) h = kept_next name other a v vars (bytes_eq v.name.bytes name) (bytes_eq v.name.bytes other) h refl refl (value_kept name other a vars h)
