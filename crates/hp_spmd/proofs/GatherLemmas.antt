-- The elements at several positions, gathered one by one.
use Rattle.std.proofs.Common.{◌≡◌, ◌∙◌, refl, sym, ap, ℕ, suc, ◌+◌, ◌<◌, ◌≤◌, arith, List, [], ◌∷◌, ◌++◌, append_assoc, append-nil, length, map, drop, get_or, Result, Ok, Err}
use Rattle.std.specs.Prelude.{ℤ, pos}
use Rattle.std.specs.List.{range_with_len}
use Rattle.std.proofs.lemmas.List.{drop_more, drop_all}
use Rattle.std.proofs.lemmas.List.FromFn.{map-range_with_len_more}
use Rattle.hp_word.specs.declared.place.Place.{Place}
use Rattle.hp_word.specs.declared.place.Trap.{Trap}
use Rattle.hp_word.specs.ListRules.{element_at, elements_at}
use Rattle.hp_word.specs.LoopRules.{all_ok, and_then}

-- ---- what is made place by place

-- one more item
pub made_more : {X : Type 0} (f : ℕ → X) (k : ℕ) (made now : List X) (x : X) → made ≡ map f (range_with_len 0 k) → now ≡ made ++ x ∷ [] → x ≡ f k → now ≡ map f (range_with_len 0 (k + 1))
made_more f k made now x h e same =
    e ∙ ap (λ l. l ++ x ∷ []) h ∙ ap (λ z. map f (range_with_len 0 k) ++ z ∷ []) same ∙ sym (map-range_with_len_more f 0 k k (omega arith))

-- one more item, behind others
pub made_behind : {X : Type 0} (f : ℕ → X) (k : ℕ) (before made now : List X) (x : X) → made ≡ before ++ map f (range_with_len 0 k) → now ≡ made ++ x ∷ [] → x ≡ f k → now ≡ before ++ map f (range_with_len 0 (k + 1))
made_behind f k before made now x h e same =
    e ∙ ap (λ l. l ++ x ∷ []) h ∙ append_assoc before (map f (range_with_len 0 k)) (x ∷ []) ∙ ap (λ l. before ++ l) (made_more f k (map f (range_with_len 0 k)) (map f (range_with_len 0 k) ++ x ∷ []) x refl refl same)

-- all items
pub made_all : {X : Type 0} (f : ℕ → X) (k n : ℕ) (made : List X) → made ≡ map f (range_with_len 0 k) → k ≡ n → made ≡ map f (range_with_len 0 n)
made_all f k n made h e = h ∙ ap (λ n. map f (range_with_len 0 n)) e

-- ---- what may stop

-- what was gathered, before what the rest gives
abbrev pub gathered : {A : Type 0} → List A → Result (List A) Trap → Result (List A) Trap
gathered made rest = and_then rest (λ xs. Ok (made ++ xs))

pushed : {A : Type 0} (made : List A) (y : A) (rest : Result (List A) Trap) → gathered (made ++ y ∷ []) rest ≡ gathered made (and_then rest (λ xs. Ok (y ∷ xs)))
pushed made y (Ok xs) = ap Ok (append_assoc made (y ∷ []) xs)
pushed made y (Err t) = refl

first_ok : {A B : Type 0} (f : A → Result B Trap) (x : A) (xs : List A) (y : B) → f x ≡ Ok y → all_ok (map f (x ∷ xs)) ≡ and_then (all_ok (map f xs)) (λ ys. Ok (y ∷ ys))
unfolding all_ok
first_ok f x xs y e = ap (λ r. and_then r (λ x. and_then (all_ok (map f xs)) (λ xs. Ok (x ∷ xs)))) e

first_err : {A B : Type 0} (f : A → Result B Trap) (x : A) (xs : List A) (t : Trap) → f x ≡ Err t → all_ok (map f (x ∷ xs)) ≡ Err t
unfolding all_ok
first_err f x xs t e = ap (λ r. and_then r (λ x. and_then (all_ok (map f xs)) (λ xs. Ok (x ∷ xs)))) e

nothing_before : {A : Type 0} (rest : Result (List A) Trap) → gathered [] rest ≡ rest
nothing_before (Ok xs) = refl
nothing_before (Err t) = refl

-- ---- elements

-- the whole gives what was gathered before what the positions from the i-th on give
abbrev pub GathersElements : Place → (cells positions : List ℤ) → ℕ → (made : List ℤ) → Type 0
GathersElements at cells positions i made = gathered made (all_ok (map (element_at at cells) (drop i positions))) ≡ elements_at at cells positions

pub elements_none : (at : Place) (cells positions made : List ℤ) → made ≡ [] → GathersElements at cells positions 0 made
unfolding elements_at
elements_none at cells positions made e = ap (λ m. gathered m (all_ok (map (element_at at cells) positions))) e ∙ nothing_before (all_ok (map (element_at at cells) positions))

pub elements_more : (at : Place) (cells positions : List ℤ) (i : ℕ) (made now : List ℤ) (y : ℤ) → i < length positions → GathersElements at cells positions i made → element_at at cells (get_or positions i (pos 0)) ≡ Ok y → now ≡ made ++ y ∷ []
    → GathersElements at cells positions (i + 1) now
elements_more at cells positions i made now y lt h e p =
    let rest = drop (i + 1) positions in
    ap (λ m. gathered m (all_ok (map (element_at at cells) rest))) p
    ∙ pushed made y (all_ok (map (element_at at cells) rest))
    ∙ ap (gathered made) (sym (first_ok (element_at at cells) (get_or positions i (pos 0)) rest y e))
    ∙ ap (λ l. gathered made (all_ok (map (element_at at cells) l))) (sym (drop_more positions i (pos 0) lt))
    ∙ h

pub elements_stop : (at : Place) (cells positions : List ℤ) (i : ℕ) (made : List ℤ) (t : Trap) → i < length positions → GathersElements at cells positions i made → element_at at cells (get_or positions i (pos 0)) ≡ Err t
    → Err t ≡ elements_at at cells positions
elements_stop at cells positions i made t lt h e =
    let rest = drop (i + 1) positions in
    ap (gathered made) (sym (first_err (element_at at cells) (get_or positions i (pos 0)) rest t e))
    ∙ ap (λ l. gathered made (all_ok (map (element_at at cells) l))) (sym (drop_more positions i (pos 0) lt))
    ∙ h

pub elements_made : (at : Place) (cells positions : List ℤ) (i : ℕ) (made : List ℤ) → length positions ≤ i → GathersElements at cells positions i made → Ok made ≡ elements_at at cells positions
unfolding all_ok
elements_made at cells positions i made le h =
    ap Ok (sym (append-nil made)) ∙ ap (λ l. gathered made (all_ok (map (element_at at cells) l))) (sym (drop_all i positions le)) ∙ h

-- ---- as many as there are positions

abbrev pub HasLength : {A : Type 0} → ℕ → Result (List A) Trap → Type 0
HasLength n (Ok xs) = length xs ≡ n
HasLength n (Err t) = Unit {0}

also_counts : {A : Type 0} (n : ℕ) (r : Result A Trap) (rest : Result (List A) Trap) → HasLength n rest → HasLength (suc n) (and_then r (λ x. and_then rest (λ xs. Ok (x ∷ xs))))
also_counts n (Ok x) (Ok xs) h = ap suc h
also_counts n (Ok x) (Err t) h = tt
also_counts n (Err t) rest h = tt

pub all_count : {A B : Type 0} (f : A → Result B Trap) (xs : List A) → HasLength (length xs) (all_ok (map f xs))
unfolding all_ok
all_count f [] = refl
all_count f (x ∷ xs) = also_counts (length xs) (f x) (all_ok (map f xs)) (all_count f xs)
