-- What is made of a list so far and what is left of it; and the rows of a key, row by row.
use Rattle.std.proofs.Common.{◌≡◌, ℕ, zero, suc, ◌+◌, ◌<◌, ◌≤◌, ℤ, pos, Bool, true, false, if◌then◌else◌, List, [], ◌∷◌, ◌++◌, length, get_or, drop, refl, sym, ap, ◌∙◌, add-one, arith, append_assoc, append-nil, length-append}
use Rattle.std.specs.Ordering.{int_eq}
use Rattle.std.proofs.Math.Seq.{drop-cons}
use Rattle.hp_kernels.specs.KeyRows.{rows_from}

-- ---- choices

pub yes_of : {A : Type 0} (b : Bool) (x y : A) → true ≡ b → (if b then x else y) ≡ x
yes_of b x y e = ap (λ c. if c then x else y) (sym e)

pub no_of : {A : Type 0} (b : Bool) (x y : A) → false ≡ b → (if b then x else y) ≡ y
no_of b x y e = ap (λ c. if c then x else y) (sym e)

-- ---- what is left of a list

pub from_next : {A : Type 0} (xs : List A) (k : ℕ) (d : A) → k < length xs → drop k xs ≡ get_or xs k d ∷ drop (k + 1) xs
from_next xs k d lt = rw (add-one k) (drop-cons xs k d lt)

pub none_left : {A : Type 0} (xs : List A) (k : ℕ) → length xs ≤ k → drop k xs ≡ []
none_left [] zero le = refl
none_left [] (suc k) le = refl
none_left (x ∷ xs) zero le = absurd (omega arith)
none_left (x ∷ xs) (suc k) le = none_left xs k (omega arith)

-- what is made so far, with what is still to come, is all: one more is made, several are, none is, and nothing is left
pub one_made : {A : Type 0} (made now left rest all : List A) (x : A) → now ≡ made ++ x ∷ [] → left ≡ x ∷ rest → made ++ left ≡ all → now ++ rest ≡ all
one_made {A} made now left rest all x n l kept = ap (λ (t : List A). t ++ rest) n ∙ append_assoc made (x ∷ []) rest ∙ ap (λ (t : List A). made ++ t) (sym l) ∙ kept

pub some_made : {A : Type 0} (made now left rest all xs : List A) → now ≡ made ++ xs → left ≡ xs ++ rest → made ++ left ≡ all → now ++ rest ≡ all
some_made {A} made now left rest all xs n l kept = ap (λ (t : List A). t ++ rest) n ∙ append_assoc made xs rest ∙ ap (λ (t : List A). made ++ t) (sym l) ∙ kept

pub none_made : {A : Type 0} (made now left rest all : List A) → now ≡ made → left ≡ rest → made ++ left ≡ all → now ++ rest ≡ all
none_made {A} made now left rest all n l kept = ap (λ (t : List A). t ++ rest) n ∙ ap (λ (t : List A). made ++ t) (sym l) ∙ kept

pub all_are_made : {A : Type 0} (made left all : List A) → left ≡ [] → made ++ left ≡ all → made ≡ all
all_are_made {A} made left all l kept = sym (append-nil made) ∙ ap (λ (t : List A). made ++ t) (sym l) ∙ kept

pub more_than : {A : Type 0} (most : ℕ) (made left rest all xs : List A) → left ≡ xs ++ rest → made ++ left ≡ all → most < length made + length xs → most < length all
more_than most made left rest all xs l kept lt =
    let whole : length made + length left ≡ length all = sym (length-append made left) ∙ ap length kept in
    let part : length left ≡ length xs + length rest = ap length l ∙ length-append xs rest in
    omega arith

-- ---- rows

pub rows_next : (key : ℤ) (column : List ℤ) (i : ℕ) → i < length column
    → rows_from i key (drop i column) ≡ (if int_eq key (get_or column i (pos 0)) then i ∷ rows_from (i + 1) key (drop (i + 1) column) else rows_from (i + 1) key (drop (i + 1) column))
unfolding rows_from
rows_next key column i lt = ap (rows_from i key) (from_next column i (pos 0) lt)

pub rows_none : (key : ℤ) (column : List ℤ) (i : ℕ) → length column ≤ i → rows_from i key (drop i column) ≡ []
unfolding rows_from
rows_none key column i le = ap (rows_from i key) (none_left column i le)
