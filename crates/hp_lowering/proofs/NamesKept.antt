-- What holds of all names of a step holds of each: it is there, it is no matrix, it lies whole on each rank.
use Rattle.std.proofs.Common.{◌≡◌, refl, ap, Bool, true, false, not, ℕ, ◌<◌, List, [], ◌∷◌, ◌++◌}
use Rattle.std.specs.Prelude.{◌&&◌, nat_lt}
use Rattle.std.specs.List.{list_all, list_any}
use Rattle.std.proofs.lemmas.Bool.{and_parts, false≢true, ltb-true, or_parts}
use Rattle.hp_air.specs.declared.slot.Slot.{Slot}
use Rattle.hp_air.specs.Kept.{are_below, is_matrix, none_matrix}

-- ---- names that are there

pub one_name : (w : ℕ) (ws : List ℕ) (count : ℕ) → are_below count (w ∷ ws) ≡ true → w < count
one_name w ws count h = ltb-true w count (and_parts (nat_lt w count) (are_below count ws) h).0

pub more_names : (w : ℕ) (ws : List ℕ) (count : ℕ) → are_below count (w ∷ ws) ≡ true → are_below count ws ≡ true
more_names w ws count h = (and_parts (nat_lt w count) (are_below count ws) h).1

-- what passes a test in both of two lists
pub all_join : (test : ℕ → Bool) (xs ys : List ℕ) → list_all test (xs ++ ys) ≡ true → (list_all test xs ≡ true) × (list_all test ys ≡ true)
all_join test [] ys h = (refl, h)
all_join test (x ∷ xs) ys h =
    let both = and_parts (test x) (list_all test (xs ++ ys)) h in
    let rest = all_join test xs ys both.1 in
    (λ i. both.0 i && rest.0 i, rest.1)

pub below_join : (count : ℕ) (xs ys : List ℕ) → are_below count (xs ++ ys) ≡ true → (are_below count xs ≡ true) × (are_below count ys ≡ true)
below_join count xs ys h = all_join (λ k. nat_lt k count) xs ys h

-- ---- matrices

pub not_false : (b : Bool) → not b ≡ true → b ≡ false
not_false true h = absurd (false≢true h)
not_false false h = refl

pub first_list : (slots : List Slot) (k : ℕ) (ks : List ℕ) → none_matrix slots (k ∷ ks) ≡ true → is_matrix slots k ≡ false
first_list slots k ks h = (or_parts (is_matrix slots k) (list_any (is_matrix slots) ks) (not_false (list_any (is_matrix slots) (k ∷ ks)) h)).0

pub rest_lists : (slots : List Slot) (k : ℕ) (ks : List ℕ) → none_matrix slots (k ∷ ks) ≡ true → none_matrix slots ks ≡ true
rest_lists slots k ks h = ap not ((or_parts (is_matrix slots k) (list_any (is_matrix slots) ks) (not_false (list_any (is_matrix slots) (k ∷ ks)) h)).1)

pub lists_behind : (slots : List Slot) (xs ys : List ℕ) → none_matrix slots (xs ++ ys) ≡ true → none_matrix slots ys ≡ true
lists_behind slots [] ys h = h
lists_behind slots (x ∷ xs) ys h = lists_behind slots xs ys (rest_lists slots x (xs ++ ys) h)

pub lists_before : (slots : List Slot) (xs ys : List ℕ) → none_matrix slots (xs ++ ys) ≡ true → none_matrix slots xs ≡ true
lists_before slots [] ys h = refl
lists_before slots (x ∷ xs) ys h =
    let first = first_list slots x (xs ++ ys) h in
    let rest = not_false (list_any (is_matrix slots) xs) (lists_before slots xs ys (rest_lists slots x (xs ++ ys) h)) in
    rw (first, rest) refl
