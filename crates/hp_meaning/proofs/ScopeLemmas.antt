-- What is found by its name or its number, and where a variable stands.
use Rattle.std.proofs.Common.{◌≡◌, ℕ, ◌+◌, ◌<◌, ◌≤◌, Bor, List, [], ◌∷◌, ◌++◌, Bool, true, false, cond, length, Option, Some, None, refl, ap, sym, ◌∙◌, suc, arith}
use Rattle.std.specs.Prelude.{not, ◌==◌, find, position, bytes_eq, slice_get, slice_set, nat_lt}
use Rattle.std.specs.List.{position_or_len, HoldsAt}
use Rattle.std.specs.Option.{option_map, option_and_then, option_copied, MatchOption}
use Rattle.std.proofs.lemmas.Option.{slice_get_past, slice_get_read}
use Rattle.std.proofs.lemmas.Bool.{ltb-true}
use Rattle.hp_word.specs.declared.table.Table.{Table}
use Rattle.hp_meaning.specs.declared.value.Column.{Column}
use Rattle.hp_meaning.specs.declared.value.Value.{Value}
use Rattle.hp_meaning.specs.declared.value.Var.{Var}
use Rattle.hp_meaning.specs.FrameRules.{is_named, column_of}
use Rattle.hp_meaning.specs.ReadCalls.{table_for}
use Rattle.hp_meaning.specs.Scopes.{var, value_named, place_named, assigned}

-- ---- by name or number

pub value_found : (name : List ℕ) (vars : List Var) (v : Var) → Some v ≡ find (λ v. bytes_eq v.name.bytes name) vars → value_named name vars ≡ Some v.value
unfolding value_named
value_found name vars v h = ap (option_map (λ (v : Var). v.value)) (sym h)

pub value_missing : (name : List ℕ) (vars : List Var) → None ≡ find (λ v. bytes_eq v.name.bytes name) vars → value_named name vars ≡ None
unfolding value_named
value_missing name vars h = ap (option_map (λ (v : Var). v.value)) (sym h)

pub column_found : (name : List ℕ) (columns : List Column) (c : Column) → Some c ≡ find (is_named name) columns → column_of name columns ≡ Some c.cells
unfolding column_of
column_found name columns c h = ap (option_map (λ (c : Column). c.cells)) (sym h)

pub column_missing : (name : List ℕ) (columns : List Column) → None ≡ find (is_named name) columns → column_of name columns ≡ None
unfolding column_of
column_missing name columns h = ap (option_map (λ (c : Column). c.cells)) (sym h)

pub table_found : (reads : List ℕ) (id : ℕ) (tables : List Table) (place : ℕ) → Some place ≡ position (λ k. k == id) reads → table_for reads id tables ≡ slice_get tables place
unfolding table_for
table_found reads id tables place h = ap (option_and_then (slice_get tables)) (sym h)

pub table_missing : (reads : List ℕ) (id : ℕ) (tables : List Table) → None ≡ position (λ k. k == id) reads → table_for reads id tables ≡ None
unfolding table_for
table_missing reads id tables h = ap (option_and_then (slice_get tables)) (sym h)

-- the item at a place, where there is one
pub looked_up : {A : Type 0} (found : Option (Bor A)) (xs : List A) (k : ℕ) → MatchOption found (length xs ≤ k) (λ x. (k < length xs) × HoldsAt (λ y. x.now ≡ y) xs k) → option_copied found ≡ slice_get xs k
looked_up None xs k le = sym (slice_get_past xs k le)
looked_up (Some x) xs k h = sym (slice_get_read xs (length xs) k x.now refl h.0 (h.1 x.now))

-- ---- assignments

pub some_of : (b : Bool) (n k : ℕ) → Some k ≡ cond b (Some n) None → (b ≡ true) × (k ≡ n)
some_of true n k h = (refl, cc)
some_of false n k h = absurd (cc)

pub none_of : (b : Bool) (n : ℕ) → None ≡ cond b (Some n) None → b ≡ false
none_of true n h = absurd (cc)
none_of false n h = refl

-- the variable's place is among the places
pub place_within : (name : List ℕ) (vars : List Var) (k : ℕ) → Some k ≡ place_named name vars → k < length vars
unfolding place_named
place_within name vars k h =
    let p = some_of (nat_lt (position_or_len (λ (v : Var). bytes_eq v.name.bytes name) vars) (length vars)) (position_or_len (λ (v : Var). bytes_eq v.name.bytes name) vars) k h in
    let below = ltb-true (position_or_len (λ (v : Var). bytes_eq v.name.bytes name) vars) (length vars) p.0 in
    let same = p.1 in
    omega (arith, below, same)

-- one variable before others, which has the name or not
set_step : (b : Bool) (v w : Var) (vars rest : List Var) (n : ℕ) → (n < length vars → rest ≡ slice_set vars n w) → cond (not b) (1 + n) 0 < length (v ∷ vars)
    → cond b (w ∷ vars) (v ∷ rest) ≡ slice_set (v ∷ vars) (cond (not b) (1 + n) 0) w
set_step true v w vars rest n h lt = refl
set_step false v w vars rest n h lt =
    let next : 1 + n ≡ suc n = omega arith in
    ap (λ xs. v ∷ xs) (h (omega arith)) ∙ ap (λ k. slice_set (v ∷ vars) k w) (sym next)

set_first : (name : List ℕ) (value : Value) (vars : List Var) → position_or_len (λ (v : Var). bytes_eq v.name.bytes name) vars < length vars
    → assigned name value vars ≡ slice_set vars (position_or_len (λ (v : Var). bytes_eq v.name.bytes name) vars) (var name value)
unfolding assigned
set_first name value [] lt = absurd (omega arith)
set_first name value (v ∷ vars) lt =
    set_step (bytes_eq v.name.bytes name) v (var name value) vars (assigned name value vars) (position_or_len (λ (v : Var). bytes_eq v.name.bytes name) vars) (set_first name value vars) lt

-- the variable gets its value in its place
pub assigned_at : (name : List ℕ) (value : Value) (vars : List Var) (k : ℕ) → Some k ≡ place_named name vars → assigned name value vars ≡ slice_set vars k (var name value)
unfolding place_named
assigned_at name value vars k h =
    let p = some_of (nat_lt (position_or_len (λ (v : Var). bytes_eq v.name.bytes name) vars) (length vars)) (position_or_len (λ (v : Var). bytes_eq v.name.bytes name) vars) k h in
    set_first name value vars (ltb-true (position_or_len (λ (v : Var). bytes_eq v.name.bytes name) vars) (length vars) p.0) ∙ ap (λ k. slice_set vars k (var name value)) (sym p.1)

push_step : (b : Bool) (v w : Var) (vars rest : List Var) (n : ℕ) → (nat_lt n (length vars) ≡ false → rest ≡ vars ++ w ∷ []) → nat_lt (cond (not b) (1 + n) 0) (length (v ∷ vars)) ≡ false
    → cond b (w ∷ vars) (v ∷ rest) ≡ v ∷ vars ++ w ∷ []
push_step true v w vars rest n h e = absurd (grind arith)
push_step false v w vars rest n h e = ap (λ xs. v ∷ xs) (h (grind arith))

push_none : (name : List ℕ) (value : Value) (vars : List Var) → nat_lt (position_or_len (λ (v : Var). bytes_eq v.name.bytes name) vars) (length vars) ≡ false
    → assigned name value vars ≡ vars ++ var name value ∷ []
unfolding assigned
push_none name value [] e = refl
push_none name value (v ∷ vars) e =
    push_step (bytes_eq v.name.bytes name) v (var name value) vars (assigned name value vars) (position_or_len (λ (v : Var). bytes_eq v.name.bytes name) vars) (push_none name value vars) e

-- the variable stands behind the others
pub assigned_behind : (name : List ℕ) (value : Value) (vars : List Var) → None ≡ place_named name vars → assigned name value vars ≡ vars ++ var name value ∷ []
unfolding place_named
assigned_behind name value vars h =
    push_none name value vars (none_of (nat_lt (position_or_len (λ (v : Var). bytes_eq v.name.bytes name) vars) (length vars)) (position_or_len (λ (v : Var). bytes_eq v.name.bytes name) vars) h)
