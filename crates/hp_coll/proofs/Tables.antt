-- Columns that stand behind one another in the messages of all ranks.
use Rattle.std.proofs.Common.{◌≡◌, ◌∙◌, refl, sym, ap, arith, ℕ, zero, suc, ◌+◌, ◌*◌, ◌/◌, ◌<◌, max, ℤ, List, [], ◌∷◌, ◌++◌, map, length, length-append, get_or, take, drop}
use Rattle.std.specs.Prelude.{flat_map}
use Rattle.std.specs.List.{AllByRecursion, range_with_len}
use Rattle.std.proofs.Math.Nat.{mul-div_cancel_left}
use Rattle.std.proofs.Math.Seq.{drop-append-add, take-append_seam}
use Rattle.hp_spmd.specs.Outputs.{column_in}

-- parts of one length
abbrev pub AllLong : ℕ → List (List ℤ) → Type 0
AllLong len parts = AllByRecursion (λ (p : List ℤ). length p ≡ len) parts

concat_length : (len : ℕ) (parts : List (List ℤ)) → AllLong len parts → length (flat_map (λ (p : List ℤ). p) parts) ≡ length parts * len
concat_length len [] h = let none : 0 ≡ 0 * len = omega arith in none
concat_length len (p ∷ ps) h =
    let more : len + length ps * len ≡ suc (length ps) * len = omega arith in
    length-append p (flat_map (λ (p : List ℤ). p) ps) ∙ ap (λ n. n + length (flat_map (λ (p : List ℤ). p) ps)) h.0 ∙ ap (λ n. len + n) (concat_length len ps h.1) ∙ more

-- one of the parts
part_of : (len j : ℕ) (parts : List (List ℤ)) → AllLong len parts → j < length parts → take len (drop (j * len) (flat_map (λ (p : List ℤ). p) parts)) ≡ get_or parts j []
part_of len j [] h lt = absurd (omega (arith, lt))
part_of len zero (p ∷ ps) h lt =
    let none : 0 * len ≡ 0 = omega arith in
    let rest = flat_map (λ (p : List ℤ). p) ps in
    ap (λ n. take len (drop n (p ++ rest))) none ∙ ap (λ n. take n (p ++ rest)) (sym h.0) ∙ take-append_seam p rest
part_of len (suc j) (p ∷ ps) h lt =
    let rest = flat_map (λ (p : List ℤ). p) ps in
    let on : j < length ps = omega (arith, lt) in
    let more : suc j * len ≡ len + j * len = omega arith in
    ap (λ n. take len (drop n (p ++ rest))) more ∙ ap (λ n. take len (drop (n + j * len) (p ++ rest))) (sym h.0) ∙ ap (take len) (drop-append-add p rest (j * len)) ∙ part_of len j ps h.1 on

pub column_of_parts : (width len j : ℕ) (parts : List (List ℤ)) → width ≡ length parts → AllLong len parts → j < length parts → column_in width j (flat_map (λ (p : List ℤ). p) parts) ≡ get_or parts j []
column_of_parts width len j parts same h lt =
    let words = flat_map (λ (p : List ℤ). p) parts in
    let some : 0 < length parts = omega (arith, lt) in
    let wide : max width 1 ≡ length parts = omega (arith, same, some) in
    let rows : length words / max width 1 ≡ len = ap (λ n. length words / n) wide ∙ ap (λ n. n / length parts) (concat_length len parts h) ∙ mul-div_cancel_left len {n = length parts} some in
    ap (λ n. take n (drop (j * n) words)) rows ∙ part_of len j parts h lt

-- what is made place by place is made item by item
made_from : {A B : Type 0} (g : ℕ → B) (f : A → B) (k : ℕ) (xs : List A) (d : A) → ((j : ℕ) → j < length xs → g (k + j) ≡ f (get_or xs j d)) → map g (range_with_len k (length xs)) ≡ map f xs
made_from g f k [] d h = refl
made_from {A} {B} g f k (x ∷ xs) d h =
    let first : 0 < length (x ∷ xs) = omega arith in
    let same : k ≡ k + 0 = omega arith in
    ap (λ y. y ∷ map g (range_with_len (k + 1) (length xs))) (ap g same ∙ h 0 first)
    ∙ ap (λ ys. f x ∷ ys) (made_from {A = A} {B = B} g f (k + 1) xs d
    (λ j lt. let on : suc j < length (x ∷ xs) = omega (arith, lt) in let at : (k + 1) + j ≡ k + suc j = omega arith in ap g at ∙ h (suc j) on))

pub made_by_places : {A B : Type 0} (g : ℕ → B) (f : A → B) (xs : List A) (d : A) → ((j : ℕ) → j < length xs → g j ≡ f (get_or xs j d)) → map g (range_with_len 0 (length xs)) ≡ map f xs
made_by_places {A} {B} g f xs d h = made_from {A = A} {B = B} g f 0 xs d (λ j lt. let at : 0 + j ≡ j = omega arith in ap g at ∙ h j lt)
