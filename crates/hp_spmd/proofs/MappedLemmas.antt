-- What is made of a list item by item.
use Rattle.std.proofs.Common.{◌≡◌, ◌∙◌, sym, ap, subst, ℕ, ◌+◌, ◌<◌, List, [], ◌∷◌, ◌++◌, append_assoc, length, map, take, get_or}
use Rattle.std.proofs.lemmas.List.{map-append, take_more}

-- one more item
pub mapped_more : {A X : Type 0} (f : A → X) (xs : List A) (k : ℕ) (d : A) (made now : List X) (x : X) → k < length xs → made ≡ map f (take k xs) → now ≡ made ++ x ∷ [] → x ≡ f (get_or xs k d)
    → now ≡ map f (take (k + 1) xs)
mapped_more f xs k d made now x lt h n is =
    n ∙ ap (λ l. l ++ x ∷ []) h ∙ ap (λ y. map f (take k xs) ++ y ∷ []) is ∙ sym (ap (map f) (take_more xs k d lt) ∙ map-append f (take k xs) (get_or xs k d ∷ []))

-- the same, where the list is gone through by another name
pub mapped_from : {A X : Type 0} (f : A → X) (xs others : List A) (k : ℕ) (d : A) (made now : List X) (x : X) → others ≡ xs → k < length others → made ≡ map f (take k xs) → now ≡ made ++ x ∷ [] → x ≡ f (get_or others k d)
    → now ≡ map f (take (k + 1) xs)
mapped_from f xs others k d made now x e lt h n is = mapped_more f xs k d made now x (subst (λ l. k < length l) e lt) h n (is ∙ ap (λ l. f (get_or l k d)) e)

-- one more item of a list of what others hold, behind what was there before
pub mapped_behind : {A B X : Type 0} (f : B → X) (g : A → B) (xs : List A) (k : ℕ) (d : A) (before made now : List X) (x : X) → k < length xs → made ≡ before ++ map f (map g (take k xs)) → now ≡ made ++ x ∷ []
    → x ≡ f (g (get_or xs k d)) → now ≡ before ++ map f (map g (take (k + 1) xs))
mapped_behind f g xs k d before made now x lt h n is =
    let some = map f (map g (take k xs)) in
    let one = get_or xs k d in
    n ∙ ap (λ l. l ++ x ∷ []) h ∙ append_assoc before some (x ∷ [])
    ∙ ap (λ l. before ++ l)
    (ap (λ y. some ++ y ∷ []) is ∙ sym (ap (λ l. map f (map g l)) (take_more xs k d lt) ∙ ap (map f) (map-append g (take k xs) (one ∷ [])) ∙ map-append f (map g (take k xs)) (g one ∷ [])))
