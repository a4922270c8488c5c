-- Where variables stand, by the names of a set, of which each stands once.
use Rattle.std.proofs.Common.{◌≡◌, ℕ, ◌+◌, ◌<◌, ◌≤◌, ◌||◌, zero, suc, Bool, true, false, cond, List, [], ◌∷◌, ◌++◌, length, map, Vec, Option, Some, None, Result, Ok, Err, OnOk, refl, ap, sym, ◌∙◌, arith}
use Rattle.std.specs.Prelude.{not, position, bytes_eq, get_or, slice_get, slice_set, nat_lt}
use Rattle.std.specs.declared.alloc.Global.{Global}
use Rattle.std.specs.List.{position_or_len, IsDistinct, list_any}
use Rattle.std.specs.Option.{option_map}
use Rattle.std.proofs.lemmas.Option.{slice_get_within, slice_get_past}
use Rattle.std.proofs.lemmas.Bool.{ltb-true}
use Rattle.std.proofs.lemmas.List.Folds.{find_at}
use Rattle.std.proofs.lemmas.List.Sums.{passes_at_first}
use Rattle.std.proofs.lemmas.Map.Keys.{IsDistinct-head, IsDistinct-tail}
use Rattle.std.proofs.lemmas.Slice.Eq.{bytes_eq-Decides}
use Rattle.indexmap.specs.IndexSet.{insert_key}
use Rattle.hp_script.proofs.TokenLemmas.{at_position}
use Rattle.hp_meaning.specs.declared.value.Value.{Value}
use Rattle.hp_meaning.specs.declared.value.Var.{Var}
use Rattle.hp_meaning.specs.Scopes.{var, value_named, place_named, assigned}
use Rattle.hp_meaning.proofs.NamedVariables.{same_bytes, differ}
use Rattle.hp_meaning.proofs.ScopeLemmas.{some_of, none_of, assigned_at}

-- ---- by the names alone

or_len_map : {A B : Type 0} (f : A → B) (p : B → Bool) (xs : List A) → position_or_len (λ x. p (f x)) xs ≡ position_or_len p (map f xs)
or_len_map f p [] = refl
or_len_map f p (x ∷ xs) = ap (λ (n : ℕ). cond (not (p (f x))) (1 + n) 0) (or_len_map f p xs)

len_map : {A B : Type 0} (f : A → B) (xs : List A) → length xs ≡ length (map f xs)
len_map f [] = refl
len_map f (x ∷ xs) = ap suc (len_map f xs)

position_map : {A B : Type 0} (f : A → B) (p : B → Bool) (xs : List A) → position (λ x. p (f x)) xs ≡ position p (map f xs)
position_map f p xs = λ i. cond (nat_lt (or_len_map f p xs i) (len_map f xs i)) (Some (or_len_map f p xs i)) None

turned_as : (q : Bool) (a b : List ℕ) → bytes_eq b a ≡ q → bytes_eq a b ≡ bytes_eq b a
turned_as true a b f = ap (λ (t : List ℕ). bytes_eq t b) (sym (same_bytes b a f)) ∙ (bytes_eq-Decides b b).1 refl ∙ sym f
turned_as false a b f = differ b a f ∙ sym f

turned : (a b : List ℕ) → bytes_eq a b ≡ bytes_eq b a
turned a b = turned_as (bytes_eq b a) a b refl

-- a variable stands where its name does
pub place_by_names : (name : List ℕ) (vars : List Var) (ks : List (Vec ℕ Global)) → map (λ (v : Var). v.name.bytes) vars ≡ map (λ (key : Vec ℕ Global). key.items) ks
    → place_named name vars ≡ position (λ (key : Vec ℕ Global). bytes_eq name key.items) ks
unfolding place_named
place_by_names name vars ks e =
    position_map (λ (v : Var). v.name.bytes) (λ (n : List ℕ). bytes_eq n name) vars
    ∙ ap (position (λ (n : List ℕ). bytes_eq n name)) e
    ∙ sym (position_map (λ (key : Vec ℕ Global). key.items) (λ (n : List ℕ). bytes_eq n name) ks)
    ∙ (λ i. position (λ (key : Vec ℕ Global). turned key.items name i) ks)

-- ---- the only one

here : (b : Bool) (n : ℕ) → b ≡ true → cond (not b) (1 + n) 0 ≡ 0
here true n e = refl
here false n e = absurd (cc)

further : (b : Bool) (n k : ℕ) → b ≡ false → n ≡ k → cond (not b) (1 + n) 0 ≡ suc k
further true n k e same = absurd (cc)
further false n k e same = omega (arith, same)

own_or_len : (ks : List (Vec ℕ Global)) (k : ℕ) (name : List ℕ) (v : Vec ℕ Global) → IsDistinct (λ (a b : Vec ℕ Global). bytes_eq a.items b.items) ks
    → slice_get ks k ≡ Some v → bytes_eq v.items name ≡ true → position_or_len (λ (key : Vec ℕ Global). bytes_eq name key.items) ks ≡ k
own_or_len [] k name v d at e = absurd (omega (arith, slice_get_within [] k v at))
own_or_len (x ∷ ks) zero name v d at e =
    let same : x ≡ v = cc (at) in
    here (bytes_eq name x.items) (position_or_len (λ (key : Vec ℕ Global). bytes_eq name key.items) ks) (turned name x.items ∙ ap (λ (w : Vec ℕ Global). bytes_eq w.items name) same ∙ e)
own_or_len (x ∷ ks) (suc k) name v d at e =
    let apart : bytes_eq x.items v.items ≡ false = at_position (λ (y : Vec ℕ Global). bytes_eq x.items y.items ≡ false) ks k v (IsDistinct-head (λ (a b : Vec ℕ Global). bytes_eq a.items b.items) x ks d) at in
    further (bytes_eq name x.items) (position_or_len (λ (key : Vec ℕ Global). bytes_eq name key.items) ks) k
    (turned name x.items ∙ ap (bytes_eq x.items) (sym (same_bytes v.items name e)) ∙ apart)
    (own_or_len ks k name v (IsDistinct-tail (λ (a b : Vec ℕ Global). bytes_eq a.items b.items) x ks d) at e)

some_if : (b : Bool) (k : ℕ) → b ≡ true → cond b (Some k) None ≡ Some k
some_if true k e = refl
some_if false k e = absurd (cc)

within_some : (k n : ℕ) → k < n → cond (nat_lt k n) (Some k) None ≡ Some k
within_some k n h = some_if (nat_lt k n) k (grind arith)

-- the variable stands where the set has its name
pub place_at : (name : List ℕ) (vars : List Var) (ks : List (Vec ℕ Global)) (k : ℕ) (v : Vec ℕ Global) → map (λ (v : Var). v.name.bytes) vars ≡ map (λ (key : Vec ℕ Global). key.items) ks
    → IsDistinct (λ (a b : Vec ℕ Global). bytes_eq a.items b.items) ks → slice_get ks k ≡ Some v → bytes_eq v.items name ≡ true → place_named name vars ≡ Some k
place_at name vars ks k v e d at same =
    place_by_names name vars ks e
    ∙ ap (λ (n : ℕ). cond (nat_lt n (length ks)) (Some n) None) (own_or_len ks k name v d at same)
    ∙ within_some k (length ks) (slice_get_within ks k v at)

-- ---- values

pub value_at : (name : List ℕ) (vars : List Var) (k : ℕ) (v : Var) → Some k ≡ place_named name vars → slice_get vars k ≡ Some v → value_named name vars ≡ Some v.value
unfolding value_named place_named
value_at name vars k v h at =
    let first = some_of (nat_lt (position_or_len (λ (v : Var). bytes_eq v.name.bytes name) vars) (length vars)) (position_or_len (λ (v : Var). bytes_eq v.name.bytes name) vars) k h in
    ap (option_map (λ (v : Var). v.value)) (find_at (λ (v : Var). bytes_eq v.name.bytes name) vars ∙ ap (slice_get vars) (sym first.1) ∙ at)

pub value_nowhere : (name : List ℕ) (vars : List Var) → None ≡ place_named name vars → value_named name vars ≡ None
unfolding value_named place_named
value_nowhere name vars h =
    let past = none_of (nat_lt (position_or_len (λ (v : Var). bytes_eq v.name.bytes name) vars) (length vars)) (position_or_len (λ (v : Var). bytes_eq v.name.bytes name) vars) h in
    let beyond : length vars ≤ position_or_len (λ (v : Var). bytes_eq v.name.bytes name) vars = grind arith in
    ap (option_map (λ (v : Var). v.value)) (find_at (λ (v : Var). bytes_eq v.name.bytes name) vars ∙ slice_get_past vars (position_or_len (λ (v : Var). bytes_eq v.name.bytes name) vars) beyond)

-- ---- one more

map_more : {A B : Type 0} (f : A → B) (xs : List A) (x : A) → map f (xs ++ x ∷ []) ≡ map f xs ++ f x ∷ []
map_more f [] x = refl
map_more f (y ∷ xs) x = ap (λ rest. f y ∷ rest) (map_more f xs x)

absent_step : (b r : Bool) (n len : ℕ) → (nat_lt n len ≡ false → r ≡ false) → nat_lt (cond (not b) (1 + n) 0) (suc len) ≡ false → (b || r) ≡ false
absent_step true r n len h e = absurd (grind arith)
absent_step false r n len h e = h (grind arith)

absent : {A : Type 0} (p : A → Bool) (xs : List A) → nat_lt (position_or_len p xs) (length xs) ≡ false → list_any p xs ≡ false
absent p [] e = refl
absent p (x ∷ xs) e = absent_step (p x) (list_any p xs) (position_or_len p xs) (length xs) (absent p xs) e

-- the set has the new name behind the others, as the list
pub names_more : (name : List ℕ) (vars now : List Var) (ks keys : List (Vec ℕ Global)) (w : Var) (key : Vec ℕ Global) → map (λ (v : Var). v.name.bytes) vars ≡ map (λ (key : Vec ℕ Global). key.items) ks
    → place_named name vars ≡ None → key.items ≡ name → w.name.bytes ≡ name → now ≡ vars ++ w ∷ [] → keys ≡ insert_key (λ (a b : Vec ℕ Global). bytes_eq a.items b.items) ks key
    → map (λ (v : Var). v.name.bytes) now ≡ map (λ (key : Vec ℕ Global). key.items) keys
names_more name vars now ks keys w key e new key_is w_is is inserted =
    let nowhere = none_of (nat_lt (position_or_len (λ (other : Vec ℕ Global). bytes_eq name other.items) ks) (length ks)) (position_or_len (λ (other : Vec ℕ Global). bytes_eq name other.items) ks) (sym new ∙ place_by_names name vars ks e) in
    let lacks : list_any (λ (other : Vec ℕ Global). bytes_eq key.items other.items) ks ≡ false =
    ap (λ (n : List ℕ). list_any (λ (other : Vec ℕ Global). bytes_eq n other.items) ks) key_is ∙ absent (λ (other : Vec ℕ Global). bytes_eq name other.items) ks nowhere in
    ap (map (λ (v : Var). v.name.bytes)) is
    ∙ map_more (λ (v : Var). v.name.bytes) vars w
    ∙ (λ i. e i ++ (w_is ∙ sym key_is) i ∷ [])
    ∙ sym (map_more (λ (key : Vec ℕ Global). key.items) ks key)
    ∙ ap (λ (b : Bool). map (λ (key : Vec ℕ Global). key.items) (cond b ks (ks ++ key ∷ []))) (sym lacks)
    ∙ ap (map (λ (key : Vec ℕ Global). key.items)) (sym inserted)

-- ---- another value

named_so : (name : List ℕ) (vars : List Var) (k : ℕ) (w : Var) → Some k ≡ place_named name vars → w ≡ get_or vars k w → w.name.bytes ≡ name
unfolding place_named
named_so name vars k w h at =
    let first = some_of (nat_lt (position_or_len (λ (v : Var). bytes_eq v.name.bytes name) vars) (length vars)) (position_or_len (λ (v : Var). bytes_eq v.name.bytes name) vars) k h in
    let passes = passes_at_first (λ (v : Var). bytes_eq v.name.bytes name) vars w (ltb-true (position_or_len (λ (v : Var). bytes_eq v.name.bytes name) vars) (length vars) first.0) in
    same_bytes w.name.bytes name (ap (λ (v : Var). bytes_eq v.name.bytes name) (at ∙ ap (λ (n : ℕ). get_or vars n w) first.1) ∙ passes)

-- the variable gets its value and keeps its name
pub set_at : (name : List ℕ) (value : Value) (vars : List Var) (k : ℕ) (w : Var) → Some k ≡ place_named name vars → w ≡ get_or vars k w
    → slice_set vars k (record { name = w.name; value = value }) ≡ assigned name value vars
set_at name value vars k w h at = ap (λ (n : List ℕ). slice_set vars k (var n value)) (named_so name vars k w h at) ∙ sym (assigned_at name value vars k h)

pub names_set : (vars : List Var) (k : ℕ) (w : Var) (value : Value) → k < length vars → w ≡ get_or vars k w
    → map (λ (v : Var). v.name.bytes) (slice_set vars k (record { name = w.name; value = value })) ≡ map (λ (v : Var). v.name.bytes) vars
names_set [] k w value lt at = absurd (omega (arith, lt))
names_set (v ∷ vars) zero w value lt at = ap (λ (u : Var). u.name.bytes ∷ map (λ (v : Var). v.name.bytes) vars) at
names_set (v ∷ vars) (suc k) w value lt at = ap (λ (names : List (List ℕ)). v.name.bytes ∷ names) (names_set vars k w value (omega (arith, lt)) at)

pub added_as : {A E : Type 0} {made wanted : List Var} (r : Result A E) (now : List Var) → wanted ≡ made → OnOk r (now ≡ made) → OnOk r (now ≡ wanted)
added_as (Ok a) now e h = h ∙ sym e
added_as (Err a) now e h = tt
