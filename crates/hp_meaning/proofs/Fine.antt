-- What is not wrong: an answer that is not refused, and an outcome that is a value or a trap.
use Rattle.std.proofs.Common.{ℤ, Bool, true, false, cond, List, [], ◌∷◌, map, Option, Some, None, Result, Ok, Err}
use Rattle.hp_word.specs.declared.place.Place.{Place}
use Rattle.hp_word.specs.declared.place.Trap.{Trap}
use Rattle.hp_word.specs.declared.place.TrapKind.{TrapKind}
use Rattle.hp_word.specs.LoopRules.{and_then}
use Rattle.hp_script.specs.declared.typed.Shape.{Shape}
use Rattle.hp_meaning.specs.declared.seen.Met.{Met}
use Rattle.hp_meaning.specs.declared.seen.Seen.{Seen}
use Rattle.hp_meaning.specs.declared.value.Value.{Value}
use Rattle.hp_meaning.specs.Fitting.{HasShape}
use Rattle.hp_meaning.specs.Outcomes.{Answer, Gives, Traps, also, answered, told, all_of, Course, Is, Stops, followed, ended, meeting}

-- ---- answers

-- a value that has this property, or a trap
pub data Right (A : Type 0) (P : A → Type 0) : Answer A → Type 0 where
  gives : {a : A} → P a → Right A P (Gives a)
  traps : {t : Trap} → Right A P (Traps t)

-- any value, or a trap
abbrev pub Told : (A : Type 0) → Answer A → Type 0
Told A answer = Right A (λ a. Unit {0}) answer

pub also_right : {A B : Type 0} {P : A → Type 0} {Q : B → Type 0} {answer : Answer A} (more : A → Answer B) → Right A P answer → ((a : A) → P a → Right B Q (more a)) → Right B Q (also answer more)
also_right more (gives p) next = next _ p
also_right more traps next = traps

pub right_if : {A : Type 0} {P : A → Type 0} (holds : Bool) {a b : Answer A} → Right A P a → Right A P b → Right A P (cond holds a b)
right_if true h k = h
right_if false h k = k

pub answered_told : (at : Place) (result : Result ℤ TrapKind) → Told ℤ (answered at result)
answered_told at (Ok x) = gives tt
answered_told at (Err kind) = traps

pub told_told : {A : Type 0} (result : Result A Trap) → Told A (told result)
told_told (Ok x) = gives tt
told_told (Err t) = traps

pub told_if : {A : Type 0} {P : A → Type 0} (holds : Bool) (a : A) (t : Trap) → P a → Right A P (told (cond holds (Ok a) (Err t)))
told_if true a t p = gives p
told_if false a t p = traps

pub then_right : {A B : Type 0} {P : A → Type 0} {Q : B → Type 0} (result : Result A Trap) (more : A → Result B Trap) → Right A P (told result) → ((a : A) → P a → Right B Q (told (more a))) → Right B Q (told (and_then result more))
then_right (Ok a) more (gives p) next = next a p
then_right (Err t) more h next = traps

pub all_told : {A B : Type 0} (f : A → Answer B) → ((a : A) → Told B (f a)) → (xs : List A) → Told (List B) (all_of (map f xs))
unfolding all_of
all_told f each [] = gives tt
all_told f each (x ∷ xs) =
    also_right {P = λ b. Unit {0}} _ (each x) (λ y h. also_right {P = λ b. Unit {0}} _ (all_told f each xs) (λ ys k. gives tt))

-- ---- outcomes

pub data Fine {N : Type 0} (A : Type 0) (P : A → Type 0) : Course N A → Type 0 where
  is : {a : A} {n : N} → P a → Fine A P (Is a n)
  stops : {t : Trap} {n : N} → Fine A P (Stops t n)

pub followed_fine : {N A B : Type 0} {P : A → Type 0} {Q : B → Type 0} {outcome : Course N A} (more : A → N → Course N B) → Fine A P outcome
    → ((a : A) (n : N) → P a → Fine B Q (more a n)) → Fine B Q (followed outcome more)
followed_fine more (is p) next = next _ _ p
followed_fine more stops next = stops

pub ended_fine : {N A : Type 0} {P : A → Type 0} {answer : Answer A} (n : N) → Right A P answer → Fine A P (ended answer n)
ended_fine n (gives p) = is p
ended_fine n traps = stops

pub meeting_fine : {A : Type 0} {P : A → Type 0} {course : Course Met A} (n : Seen) → Fine A P course → Fine A P (meeting course n)
meeting_fine n (is p) = is p
meeting_fine n stops = stops

-- ---- by a type that there may not be

-- where there is a type, the answer is right by it
pub data RightAs : Option Shape → Answer Value → Type 0 where
  so : {kind : Shape} {answer : Answer Value} → Right Value (HasShape kind) answer → RightAs (Some kind) answer
  no : {answer : Answer Value} → RightAs None answer

pub right_of : {kind : Shape} {answer : Answer Value} → RightAs (Some kind) answer → Right Value (HasShape kind) answer
right_of (so h) = h
