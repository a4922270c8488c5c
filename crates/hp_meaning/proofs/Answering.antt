-- How answers and outcomes go on from their first part.
use Rattle.std.proofs.Common.{◌≡◌, ◌+◌, ◌<◌, ◌≤◌, ℕ, List, [], ◌∷◌, ◌++◌, map, take, length, get_or, Option, Some, None, refl, ap, sym, ◌∙◌, zero, suc, add-one, arith, Bool, true, false, if◌then◌else◌}
use Rattle.std.proofs.lemmas.List.{take_all}
use Rattle.hp_word.specs.declared.place.Trap.{Trap}
use Rattle.hp_meaning.specs.declared.seen.Stop.{Stop}
use Rattle.hp_meaning.specs.declared.seen.Stop.TheVariants as stop
use Rattle.hp_meaning.specs.Outcomes.{Answer, Gives, Traps, Refuses, also, given, all_of, Course, Is, followed, needed, ended, halted, stopped}

-- ---- answers

pub also_gives : {A B : Type 0} (a : Answer A) (x : A) (more : A → Answer B) → a ≡ Gives x → also a more ≡ more x
also_gives a x more e = ap (λ a. also a more) e

halts_on : {A B : Type 0} (e : Stop) (more : A → Answer B) → also (halted e) more ≡ halted e
unfolding halted
halts_on (stop.Trap t) more = refl
halts_on stop.Wrong more = refl
halts_on stop.NoMemory more = refl

pub also_halts : {A B : Type 0} (a : Answer A) (e : Stop) (more : A → Answer B) → a ≡ halted e → also a more ≡ halted e
also_halts a e more h = ap (λ a. also a more) h ∙ halts_on e more

pub given_some : {A B : Type 0} (o : Option A) (x : A) (more : A → Answer B) → o ≡ Some x → given o more ≡ more x
given_some o x more e = ap (λ o. given o more) e

pub given_none : {A B : Type 0} (o : Option A) (e : Stop) (more : A → Answer B) → e ≡ stop.Wrong → o ≡ None → given o more ≡ halted e
unfolding halted
given_none o e more w h = ap (λ o. given o more) h ∙ sym (ap halted w)

-- what the code's errors stand for
pub traps : {A : Type 0} (a : Answer A) (e : Stop) (t : Trap) → e ≡ stop.Trap t → a ≡ Traps t → a ≡ halted e
unfolding halted
traps a e t h g = g ∙ sym (ap halted h)

pub refuses : {A : Type 0} (a : Answer A) → a ≡ Refuses → a ≡ halted stop.Wrong
unfolding halted
refuses a g = g

-- ---- tests

pub yes_of : {A : Type 0} (b : Bool) (x y : A) → true ≡ b → (if b then x else y) ≡ x
yes_of b x y e = ap (λ b. if b then x else y) (sym e)

pub no_of : {A : Type 0} (b : Bool) (x y : A) → false ≡ b → (if b then x else y) ≡ y
no_of b x y e = ap (λ b. if b then x else y) (sym e)

-- ---- outcomes

pub followed_is : {N A B : Type 0} (o : Course N A) (x : A) (n : N) (more : A → N → Course N B) → o ≡ Is x n → followed o more ≡ more x n
followed_is o x n more e = ap (λ o. followed o more) e

stops_on : {N A B : Type 0} (e : Stop) (n : N) (more : A → N → Course N B) → followed (stopped e n) more ≡ stopped e n
unfolding stopped
stops_on (stop.Trap t) n more = refl
stops_on stop.Wrong n more = refl
stops_on stop.NoMemory n more = refl

pub followed_stops : {N A B : Type 0} (o : Course N A) (e : Stop) (n : N) (more : A → N → Course N B) → o ≡ stopped e n → followed o more ≡ stopped e n
followed_stops o e n more h = ap (λ o. followed o more) h ∙ stops_on e n more

pub needed_some : {N A B : Type 0} (o : Option A) (x : A) (more : A → Course N B) → o ≡ Some x → needed o more ≡ more x
needed_some o x more e = ap (λ o. needed o more) e

pub needed_none : {N A B : Type 0} (o : Option A) (e : Stop) (n : N) (more : A → Course N B) → e ≡ stop.Wrong → o ≡ None → needed o more ≡ stopped e n
unfolding stopped
needed_none o e n more w h = ap (λ o. needed o more) h ∙ sym (ap (λ e. stopped e n) w)

pub ended_gives : {N A : Type 0} (a : Answer A) (x : A) (n : N) → a ≡ Gives x → ended a n ≡ Is x n
ended_gives a x n e = ap (λ a. ended a n) e

ends_on : {N A : Type 0} (e : Stop) (n : N) → ended {A = A} (halted e) n ≡ stopped e n
unfolding halted stopped
ends_on (stop.Trap t) n = refl
ends_on stop.Wrong n = refl
ends_on stop.NoMemory n = refl

pub ended_halts : {N A : Type 0} (a : Answer A) (e : Stop) (n : N) → a ≡ halted e → ended a n ≡ stopped e n
ended_halts a e n h = ap (λ a. ended a n) h ∙ ends_on e n

-- ---- all answers of a list

-- a list of answers that all have values, by its first and the others
record Firsts {A : Type 0} (a : Answer A) (rest : Answer (List A)) (ys : List A) : Type 0 where
  x : A
  xs : List A
  first : a ≡ Gives x
  others : rest ≡ Gives xs
  parts : x ∷ xs ≡ ys

first_of : {A : Type 0} (a : Answer A) (rest : Answer (List A)) (ys : List A) → also a (λ x. also rest (λ xs. Gives (x ∷ xs))) ≡ Gives ys → Firsts a rest ys
first_of (Gives x) (Gives xs) ys h = record { x = x; xs = xs; first = refl; others = refl; parts = cc }
first_of (Gives x) (Traps t) ys h = absurd (cc)
first_of (Gives x) Refuses ys h = absurd (cc)
first_of (Traps t) rest ys h = absurd (cc)
first_of Refuses rest ys h = absurd (cc)

more : {X A : Type 0} (f : X → Answer A) (xs : List X) (k : ℕ) (d : X) (ys : List A) (y : A)
    → k < length xs → all_of (map f (take k xs)) ≡ Gives ys → f (get_or xs k d) ≡ Gives y → all_of (map f (take (suc k) xs)) ≡ Gives (ys ++ y ∷ [])
unfolding all_of
more f [] k d ys y lt h e = absurd (omega arith)
more f (x ∷ xs) zero d ys y lt h e =
    let none : [] ≡ ys = cc in
    also_gives (f x) y (λ x. Gives (x ∷ [])) e ∙ ap (λ l. Gives (l ++ y ∷ [])) none
more f (x ∷ xs) (suc k) d ys y lt h e =
    let p = first_of (f x) (all_of (map f (take k xs))) ys h in
    also_gives (f x) p.x _ p.first ∙ also_gives _ _ (λ xs. Gives (p.x ∷ xs)) (more f xs k d p.xs y (omega arith) p.others e) ∙ ap (λ l. Gives (l ++ y ∷ [])) p.parts

-- the first elements have values, and the next one too
pub all_more : {X A : Type 0} (f : X → Answer A) (xs : List X) (k : ℕ) (d : X) (ys : List A) (y : A)
    → k < length xs → all_of (map f (take k xs)) ≡ Gives ys → f (get_or xs k d) ≡ Gives y → all_of (map f (take (k + 1) xs)) ≡ Gives (ys ++ y ∷ [])
all_more f xs k d ys y lt h e = rw (add-one k) (more f xs k d ys y lt h e)

-- the next one has none
pub all_halts : {X A : Type 0} (f : X → Answer A) (xs : List X) (k : ℕ) (d : X) (ys : List A) (e : Stop)
    → k < length xs → all_of (map f (take k xs)) ≡ Gives ys → f (get_or xs k d) ≡ halted e → all_of (map f xs) ≡ halted e
unfolding all_of
all_halts f [] k d ys e lt h s = absurd (omega arith)
all_halts f (x ∷ xs) zero d ys e lt h s = also_halts (f x) e _ s
all_halts f (x ∷ xs) (suc k) d ys e lt h s =
    let p = first_of (f x) (all_of (map f (take k xs))) ys h in
    also_gives (f x) p.x _ p.first ∙ also_halts (all_of (map f xs)) e _ (all_halts f xs k d p.xs e (omega arith) p.others s)

-- all have values
pub all_made : {X A : Type 0} (f : X → Answer A) (xs : List X) (k : ℕ) (ys : List A) → length xs ≤ k → all_of (map f (take k xs)) ≡ Gives ys → all_of (map f xs) ≡ Gives ys
all_made f xs k ys le h = ap (λ l. all_of (map f l)) (sym (take_all k xs le)) ∙ h

-- none are looked at
pub all_none : {X A : Type 0} (f : X → Answer A) (xs : List X) → all_of (map f (take 0 xs)) ≡ Gives []
unfolding all_of
all_none f xs = refl
