-- What the constructs of arrays give, step by step.
use Rattle.std.proofs.Common.{◌≡◌, ℕ, ℤ, ◌+◌, ◌<◌, ◌≤◌, List, [], ◌∷◌, ◌++◌, map, take, length, get_or, pos, Result, Ok, Err, refl, sym, ap, ◌∙◌}
use Rattle.hp_word.specs.declared.place.Place.{Place}
use Rattle.hp_word.specs.declared.place.Trap.{Trap}
use Rattle.hp_word.specs.ListRules.{element_at, elements_at}
use Rattle.hp_word.specs.LoopRules.{and_then, all_ok}
use Rattle.hp_meaning.specs.declared.seen.Stop.{Stop}
use Rattle.hp_meaning.specs.Outcomes.{Answer, Gives, also, told, all_of, Tells}
use Rattle.hp_meaning.proofs.Answering.{all_more, all_halts, all_made, all_none}

-- all results, told, are the answers of all
told_first : {A : Type 0} (r : Result A Trap) (rs : Result (List A) Trap) (answer : Answer (List A)) → told rs ≡ answer
    → told (and_then r (λ x. and_then rs (λ xs. Ok (x ∷ xs)))) ≡ also (told r) (λ x. also answer (λ xs. Gives (x ∷ xs)))
told_first (Ok x) (Ok xs) answer e = ap (λ a. also a (λ xs. Gives (x ∷ xs))) e
told_first (Ok x) (Err t) answer e = ap (λ a. also a (λ xs. Gives (x ∷ xs))) e
told_first (Err t) rs answer e = refl

pub told_all : {X A : Type 0} (f : X → Result A Trap) (xs : List X) → told (all_ok (map f xs)) ≡ all_of (map (λ x. told (f x)) xs)
unfolding all_ok all_of
told_all f [] = refl
told_all f (x ∷ xs) = told_first (f x) (all_ok (map f xs)) (all_of (map (λ x. told (f x)) xs)) (told_all f xs)

pub told_elements : (at : Place) (xs positions : List ℤ) → told (elements_at at xs positions) ≡ all_of (map (λ i. told (element_at at xs i)) positions)
unfolding elements_at
told_elements at xs positions = told_all (element_at at xs) positions

pub elements_none : (at : Place) (xs positions made : List ℤ) → made ≡ [] → all_of (map (λ i. told (element_at at xs i)) (take 0 positions)) ≡ Gives made
elements_none at xs positions made e = all_none (λ i. told (element_at at xs i)) positions ∙ ap Gives (sym e)

pub elements_stop : (at : Place) (xs positions : List ℤ) (k : ℕ) (made : List ℤ) (e : Stop) → k < length positions → all_of (map (λ i. told (element_at at xs i)) (take k positions)) ≡ Gives made
    → Tells (told (element_at at xs (get_or positions k (pos 0)))) (Err e) → Tells (told (elements_at at xs positions)) (Err e)
elements_stop at xs positions k made e lt h s = λ ne. told_elements at xs positions ∙ all_halts (λ i. told (element_at at xs i)) positions k (pos 0) made e lt h (s ne)

pub elements_more : (at : Place) (xs positions : List ℤ) (k : ℕ) (made now : List ℤ) (z : ℤ) → k < length positions → all_of (map (λ i. told (element_at at xs i)) (take k positions)) ≡ Gives made
    → told (element_at at xs (get_or positions k (pos 0))) ≡ Gives z → now ≡ made ++ z ∷ [] → all_of (map (λ i. told (element_at at xs i)) (take (k + 1) positions)) ≡ Gives now
elements_more at xs positions k made now z lt h s e = all_more (λ i. told (element_at at xs i)) positions k (pos 0) made z lt h s ∙ ap Gives (sym e)

pub elements_made : (at : Place) (xs positions : List ℤ) (k : ℕ) (made : List ℤ) → length positions ≤ k → all_of (map (λ i. told (element_at at xs i)) (take k positions)) ≡ Gives made
    → told (elements_at at xs positions) ≡ Gives made
elements_made at xs positions k made le h = told_elements at xs positions ∙ all_made (λ i. told (element_at at xs i)) positions k made le h
