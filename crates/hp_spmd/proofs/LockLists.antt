-- Lists that a loop writes over.
use Rattle.std.proofs.Common.{◌≡◌, ◌∙◌, refl, sym, subst, ap, arith, ℕ, ◌+◌, ◌-◌, ◌<◌, List, [], ◌∷◌, ◌++◌, length, map, take, drop, get_or, set}
use Rattle.std.proofs.lemmas.List.Edits.{map_over_more}
use Rattle.std.proofs.lemmas.List.{length-map, length-take, get_or-map, get_or-drop, get_or-append_right, map_more, same_lists}

-- a loop that has written f of one more item
pub map_one : {X : Type 0} (f : X → X) (xs ys : List X) (i : ℕ) (x y : X) → i < length xs → ys ≡ map f (take i xs) ++ drop i xs
    → x ≡ get_or ys i x → y ≡ f (get_or ys i x) → set ys i y ≡ map f (take (i + 1) xs) ++ drop (i + 1) xs
map_one f xs ys i x y inside done read e =
    ap (λ z. set ys i z) (e ∙ ap f (sym read)) ∙ map_over_more f xs ys i x inside done read

-- what it has not come to is as before
pub rest_at : {X : Type 0} (f : X → X) (xs ys : List X) (i : ℕ) (d : X) → i < length xs → ys ≡ map f (take i xs) ++ drop i xs → get_or ys i d ≡ get_or xs i d
rest_at f xs ys i d inside done =
    let n : length (map f (take i xs)) ≡ i = omega (arith, length-map (take i xs) f, length-take i xs, inside) in
    let none : i - i ≡ 0 = omega arith in
    let same : i + 0 ≡ i = omega arith in
    ap (λ l. get_or l i d) done
    ∙ get_or-append_right (map f (take i xs)) (drop i xs) i i d n (omega arith)
    ∙ ap (λ j. get_or (drop i xs) j d) none
    ∙ get_or-drop i xs 0 d
    ∙ ap (λ j. get_or xs j d) same

-- such a loop that also adds g of each item to a list
pub collect_one : {X Y : Type 0} (f : X → X) (g : X → Y) (xs ys : List X) (zs : List Y) (i : ℕ) (x : X) (w : Y) → i < length xs
    → ys ≡ map f (take i xs) ++ drop i xs → zs ≡ map g (take i xs) → w ≡ g (get_or ys i x) → zs ++ w ∷ [] ≡ map g (take (i + 1) xs)
collect_one f g xs ys zs i x w inside done listed e =
    ap (λ l. l ++ w ∷ []) listed
    ∙ ap (λ v. map g (take i xs) ++ v ∷ []) (e ∙ ap g (rest_at f xs ys i x inside done))
    ∙ sym (map_more g xs i x inside)

pub map_same : {X Y : Type 0} (f g : X → Y) → ((x : X) → f x ≡ g x) → (xs : List X) → map f xs ≡ map g xs
map_same f g h [] = refl
map_same f g h (x ∷ xs) = ap (λ y. y ∷ map f xs) (h x) ∙ ap (λ ys. g x ∷ ys) (map_same f g h xs)

-- where two functions agree on each item
pub map_same_at : {X : Type 0} (f g : X → X) (xs : List X) → ((k : ℕ) (d : X) → k < length xs → f (get_or xs k d) ≡ g (get_or xs k d)) → map f xs ≡ map g xs
map_same_at f g xs h =
    let n : length (map f xs) ≡ length (map g xs) = length-map xs f ∙ sym (length-map xs g) in
    same_lists (map f xs) (map g xs) n
    (λ k d l.
    let l' : k < length xs = subst (λ m. k < m) (length-map xs f) l in
    get_or-map f xs k d d l' ∙ h k d l' ∙ sym (get_or-map g xs k d d l'))
