-- Lists of what may be a defect, and the places of names.
use Rattle.std.proofs.Common.{◌≡◌, ℕ, zero, suc, ◌+◌, ◌<◌, ◌≤◌, Bool, true, false, List, [], ◌∷◌, length, get_or, drop, map, Option, Some, None, refl, ap, sym, ◌∙◌, arith, drop-cons, add-one}
use Rattle.std.specs.Prelude.{bytes_eq, slice_get}
use Rattle.std.specs.List.{position_or_len}
use Rattle.std.proofs.lemmas.List.{drop_all}
use Rattle.csv.specs.Records.{field_at}
use Rattle.hp_tables.specs.Contents.{first_of}

-- csv's word for an element is std's
pub field_get : (fields : List (List ℕ)) (i : ℕ) → field_at fields i ≡ slice_get fields i
unfolding field_at
field_get [] i = refl
field_get (f ∷ fs) zero = refl
field_get (f ∷ fs) (suc i) = field_get fs i

-- ---- the place of a name, from any place on

abbrev is_name : List ℕ → List ℕ → Bool
is_name name field = bytes_eq field name

-- the place in a whole header, as that in its rest says it
abbrev pub place_from : List ℕ → List (List ℕ) → ℕ → ℕ
place_from name header i = i + position_or_len (is_name name) (drop i header)

split_at_place : (xs : List (List ℕ)) (i : ℕ) (x : List ℕ) → field_at xs i ≡ Some x → drop i xs ≡ x ∷ drop (suc i) xs
unfolding field_at
split_at_place [] i x e = cc e
split_at_place (y ∷ xs) zero x e = ap (λ (z : List ℕ). z ∷ xs) (cc e)
split_at_place (y ∷ xs) (suc i) x e = split_at_place xs i x e

pub place_here : (name : List ℕ) (header : List (List ℕ)) (i : ℕ) (field : List ℕ) → field_at header i ≡ Some field → bytes_eq field name ≡ true → place_from name header i ≡ i
place_here name header i field e same = rw (split_at_place header i field e, same) (omega arith)

pub place_past : (name : List ℕ) (header : List (List ℕ)) (i : ℕ) (field : List ℕ) → field_at header i ≡ Some field → bytes_eq field name ≡ false
    → place_from name header (i + 1) ≡ place_from name header i
place_past name header i field e other = rw (add-one, split_at_place header i field e, other) (omega arith)

field_there : (xs : List (List ℕ)) (i : ℕ) → i < length xs → field_at xs i ≡ None → ⊥
unfolding field_at
field_there [] i h e = omega arith
field_there (x ∷ xs) zero h e = cc e
field_there (x ∷ xs) (suc i) h e = field_there xs i (omega arith) e

-- there is a field at each place
pub place_gone : (name : List ℕ) (header : List (List ℕ)) (i : ℕ) → i < length header → field_at header i ≡ None
    → place_from name header (i + 1) ≡ place_from name header i
place_gone name header i h e = absurd (field_there header i h e)

pub place_end : (name : List ℕ) (header : List (List ℕ)) (i : ℕ) → length header ≤ i → place_from name header i ≡ i
place_end name header i h = rw (drop_all i header h) (omega arith)

pub ruleset places = (place_here, place_past, place_end)

-- ---- the first defect of a list, from any place on

at_place : {A : Type 0} (xs : List A) (i : ℕ) (x : A) → i < length xs → x ≡ get_or xs i x → drop i xs ≡ x ∷ drop (i + 1) xs
at_place xs i x h e = rw add-one (drop-cons xs i x h ∙ ap (λ y. y ∷ drop (suc i) xs) (sym e))

pub first_found : {A B : Type 0} (f : A → Option B) (xs : List A) (i : ℕ) (x : A) (y : B) → i < length xs → x ≡ get_or xs i x → f x ≡ Some y
    → first_of (map f (drop i xs)) ≡ Some y
first_found f xs i x y h e found = rw (at_place xs i x h e, found) refl

pub first_past : {A B : Type 0} (f : A → Option B) (xs : List A) (i : ℕ) (x : A) → i < length xs → x ≡ get_or xs i x → f x ≡ None
    → first_of (map f (drop (i + 1) xs)) ≡ first_of (map f (drop i xs))
first_past f xs i x h e none = rw (at_place xs i x h e, none) refl

pub first_end : {A B : Type 0} (f : A → Option B) (xs : List A) (i : ℕ) → length xs ≤ i → first_of (map f (drop i xs)) ≡ None
first_end f xs i h = rw (drop_all i xs h) refl

pub ruleset firsts = (first_found, first_past, first_end)
