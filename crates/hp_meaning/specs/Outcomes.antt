-- What a construct and an expression give, and what is seen on the way.
use Rattle.std.specs.Prelude.{◌≡◌, ◌≢◌, ◌+◌, ℤ, List, [], ◌∷◌, Option, Some, None, Result, Ok, Err}
use Rattle.hp_word.specs.declared.place.Place.{Place}
use Rattle.hp_word.specs.declared.place.Trap.{Trap}
use Rattle.hp_word.specs.declared.place.TrapKind.{TrapKind}
use Rattle.hp_word.specs.Lengths.{trap}
use Rattle.hp_meaning.specs.declared.seen.Met.{Met}
use Rattle.hp_meaning.specs.declared.seen.Seen.{Seen}
use Rattle.hp_meaning.specs.declared.seen.Stop.{Stop}
use Rattle.hp_meaning.specs.declared.seen.Stop.TheVariants as stop

-- ---- answers

-- what a construct gives of its operands: a value, a trap, or nothing, where it is not for operands of their types
pub data Answer (A : Type 0) : Type 0 where
  Gives : A → Answer A
  Traps : Trap → Answer A
  Refuses : Answer A

-- what is made of a value, where there is one
abbrev pub also : {A B : Type 0} → Answer A → (A → Answer B) → Answer B
also (Gives a) more = more a
also (Traps t) more = Traps t
also Refuses more = Refuses

abbrev pub given : {A B : Type 0} → Option A → (A → Answer B) → Answer B
given (Some a) more = more a
given None more = Refuses

-- the answer of an operation on words at this place
abbrev pub answered : Place → Result ℤ TrapKind → Answer ℤ
answered at (Ok x) = Gives x
answered at (Err kind) = Traps (trap at kind)

-- an answer that is a value or a trap
abbrev pub told : {A : Type 0} → Result A Trap → Answer A
told (Ok a) = Gives a
told (Err t) = Traps t

-- all the values, from the first on, where there are all; else the first that is none
unfoldable pub all_of : {A : Type 0} → List (Answer A) → Answer (List A)
all_of [] = Gives []
all_of (a ∷ rest) = also a (λ x. also (all_of rest) (λ xs. Gives (x ∷ xs)))

-- ---- outcomes

-- one more expression, statement or loop turn has begun
abbrev pub tick : Seen → Seen
tick n = record n { ticks = n.ticks + 1 }

-- What an evaluation comes to, with what was seen until then: a value; a trap; or it is wrong, where an operand is of a
-- type, or a name is one, that a construct is not for.
pub data Course (N A : Type 0) : Type 0 where
  Is : A → N → Course N A
  Stops : Trap → N → Course N A
  Wrong : Course N A

-- what an expression comes to
abbrev pub Outcome : Type 0 → Type 0
Outcome A = Course Seen A

-- what is done with a value, where there is one
abbrev pub followed : {N A B : Type 0} → Course N A → (A → N → Course N B) → Course N B
followed (Is a n) more = more a n
followed (Stops t n) more = Stops t n
followed Wrong more = Wrong

-- what is done where there is something
abbrev pub needed : {N A B : Type 0} → Option A → (A → Course N B) → Course N B
needed (Some a) more = more a
needed None more = Wrong

-- an answer, after what was seen
abbrev pub ended : {N A : Type 0} → Answer A → N → Course N A
ended (Gives a) n = Is a n
ended (Traps t) n = Stops t n
ended Refuses n = Wrong

-- what a join or an aggregate comes to, among what else was seen
abbrev pub meeting : {A : Type 0} → Course Met A → Seen → Outcome A
meeting (Is a m) n = Is a (record n { met = m })
meeting (Stops t m) n = Stops t (record n { met = m })
meeting Wrong n = Wrong

-- ---- the code's answers

-- what the code's error stands for; want of memory stands for nothing
unfoldable pub halted : {A : Type 0} → Stop → Answer A
halted (stop.Trap t) = Traps t
halted stop.Wrong = Refuses
halted stop.NoMemory = Refuses

unfoldable pub stopped : {N A : Type 0} → Stop → N → Course N A
stopped (stop.Trap t) n = Stops t n
stopped stop.Wrong n = Wrong
stopped stop.NoMemory n = Wrong

-- the code tells an answer, unless memory was refused
abbrev pub Tells : {A : Type 0} → Answer A → Result A Stop → Type 0
Tells answer (Ok a) = answer ≡ Gives a
Tells answer (Err e) = e ≢ stop.NoMemory → answer ≡ halted e

-- the code comes to an outcome, with what it has then seen, unless memory was refused
abbrev pub ComesTo : {N A : Type 0} → Course N A → Result A Stop → N → Type 0
ComesTo outcome (Ok a) n = outcome ≡ Is a n
ComesTo outcome (Err e) n = e ≢ stop.NoMemory → outcome ≡ stopped e n
