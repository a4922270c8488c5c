-- Texts with a separator between each two, one more at a time.
use Rattle.std.proofs.Common.{◌≡◌, ℕ, zero, suc, ◌+◌, ◌<◌, List, [], ◌∷◌, ◌++◌, map, take, length, get_or, sym, ap, ◌∙◌, append_assoc, arith, Bool, false, if◌then◌else◌}
use Rattle.std.proofs.lemmas.List.{take_more, map-append, length-map, length-take-le}
use Rattle.std.proofs.lemmas.Bool.Decides.{nat_tests}
use Rattle.std.specs.Prelude.{◌==◌}
use Rattle.hp_word.specs.Text.{joined_by}

-- one more text behind others
joined_last : (separator x : List ℕ) (xs : List (List ℕ)) (y : List ℕ) → joined_by separator (x ∷ xs ++ y ∷ []) ≡ joined_by separator (x ∷ xs) ++ (separator ++ y)
unfolding joined_by
joined_last separator x [] y = append_assoc x separator y
joined_last separator x (z ∷ xs) y =
    ap (λ (t : List ℕ). (x ++ separator) ++ t) (joined_last separator z xs y) ∙ sym (append_assoc (x ++ separator) (joined_by separator (z ∷ xs)) (separator ++ y))

behind_some : (separator : List ℕ) (xs : List (List ℕ)) (y : List ℕ) → 0 < length xs → joined_by separator (xs ++ y ∷ []) ≡ joined_by separator xs ++ (separator ++ y)
behind_some separator [] y some = absurd (omega arith)
behind_some separator (x ∷ xs) y some = joined_last separator x xs y

-- the texts of one more item
texts_more : {X : Type 0} (f : X → List ℕ) (xs : List X) (k : ℕ) (x d : X) → k < length xs → x ≡ get_or xs k d → map f (take (k + 1) xs) ≡ map f (take k xs) ++ f x ∷ []
texts_more {X} f xs k x d lt is =
    ap (map f) (take_more xs k d lt) ∙ map-append f (take k xs) (get_or xs k d ∷ []) ∙ ap (λ (y : X). map f (take k xs) ++ f y ∷ []) (sym is)

count_of : {X : Type 0} (f : X → List ℕ) (xs : List X) (k : ℕ) → k < length xs → length (map f (take k xs)) ≡ k
count_of f xs k lt = length-map (take k xs) f ∙ length-take-le k xs (omega arith)

joined_more : {X : Type 0} (f : X → List ℕ) (separator : List ℕ) (xs : List X) (k : ℕ) (x d : X) → k < length xs → x ≡ get_or xs k d
    → joined_by separator (map f (take (k + 1) xs)) ≡ joined_by separator (map f (take k xs)) ++ ((if k == 0 then [] else separator) ++ f x)
unfolding joined_by
joined_more f separator xs zero x d lt is = ap (joined_by separator) (texts_more f xs zero x d lt is)
joined_more f separator xs (suc k) x d lt is =
    let before : List ℕ = joined_by separator (map f (take (suc k) xs)) in
    let behind : (suc k == 0) ≡ false = grind (arith, nat_tests) in
    ap (joined_by separator) (texts_more f xs (suc k) x d lt is)
    ∙ behind_some separator (map f (take (suc k) xs)) (f x) (omega (arith, count_of f xs (suc k) lt))
    ∙ ap (λ (b : Bool). before ++ ((if b then [] else separator) ++ f x)) (sym behind)

-- what is added for one more item
pub next_text : {X : Type 0} (f : X → List ℕ) (separator : List ℕ) (xs : List X) (k : ℕ) (x d : X) (old now mid new : List ℕ) → k < length xs → x ≡ get_or xs k d
    → now ≡ old ++ joined_by separator (map f (take k xs)) → mid ≡ now ++ (if k == 0 then [] else separator) → new ≡ mid ++ f x
    → new ≡ old ++ joined_by separator (map f (take (k + 1) xs))
next_text f separator xs k x d old now mid new lt is n t e =
    let between : List ℕ = if k == 0 then [] else separator in
    let before : List ℕ = joined_by separator (map f (take k xs)) in
    e ∙ ap (λ (l : List ℕ). l ++ f x) t ∙ append_assoc now between (f x) ∙ ap (λ (l : List ℕ). l ++ (between ++ f x)) n
    ∙ append_assoc old before (between ++ f x) ∙ ap (λ (l : List ℕ). old ++ l) (sym (joined_more f separator xs k x d lt is))
