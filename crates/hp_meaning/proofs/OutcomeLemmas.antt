-- What the code comes to, where an outcome goes on from its first part.
use Rattle.std.proofs.Common.{◌≡◌, ◌≢◌, Option, Some, None, Result, Ok, Err, refl, ap, sym, ◌∙◌, subst}
use Rattle.std.specs.Prelude.{IsErrAnd}
use Rattle.std.proofs.lemmas.Result.{err_from_is_err_and}
use Rattle.hp_meaning.specs.declared.held.Held.{Held}
use Rattle.hp_meaning.specs.declared.seen.Met.{Met}
use Rattle.hp_meaning.specs.declared.seen.Seen.{Seen}
use Rattle.hp_meaning.specs.declared.seen.Stop.{Stop}
use Rattle.hp_meaning.specs.declared.seen.Stop.TheVariants as stop
use Rattle.hp_meaning.specs.declared.value.Value.{Value}
use Rattle.hp_meaning.specs.HeldValues.{Holds, held_value, made_of}
use Rattle.hp_meaning.specs.Outcomes.{Answer, Course, Outcome, Is, Wrong, followed, needed, ended, stopped, Tells, ComesTo, meeting}
use Rattle.hp_meaning.proofs.Answering.{followed_is, followed_stops, needed_some, needed_none, ended_gives, ended_halts}

-- the exit of a `?` returns the callee's error
pub leaves : {N A : Type 0} (o : Course N A) (r : Result A Stop) (e : Stop) (n : N) → IsErrAnd r (λ y. y ≡ e) → ComesTo o (Err e) n → ComesTo o r n
leaves o r e n h k =
    let p = err_from_is_err_and r h in
    rw (p.1, p.2) k

pub comes_as : {N A : Type 0} (o p : Course N A) (r : Result A Stop) (n : N) → o ≡ p → ComesTo p r n → ComesTo o r n
comes_as o p (Ok a) n e h = e ∙ h
comes_as o p (Err s) n e h = λ ne. e ∙ h ne

pub holds_as : (o p : Outcome Value) (r : Result Held Stop) (n : Seen) → o ≡ p → Holds p r n → Holds o r n
holds_as o p (Ok a) n e h = e ∙ h
holds_as o p (Err s) n e h = λ ne. e ∙ h ne

-- what was made is held
pub holds_made : {o p : Outcome Value} (r : Result Value Stop) (h : Result Held Stop) (n : Seen) → o ≡ p → ComesTo p r n → made_of h ≡ r → Holds o h n
holds_made {o} {p} r (Ok a) n e k m = e ∙ subst (λ (r : Result Value Stop). ComesTo p r n) (sym m) k
holds_made {o} {p} r (Err s) n e k m = λ ne. e ∙ subst (λ (r : Result Value Stop). ComesTo p r n) (sym m) k ne

pub comes_wrong : {N A : Type 0} (o : Course N A) (e : Stop) (n : N) → e ≡ stop.Wrong → o ≡ Wrong → ComesTo o (Err e) n
unfolding stopped
comes_wrong o e n w h = λ ne. h ∙ sym (ap (λ e. stopped e n) w)

-- the first part stops
pub first_stops : {N A B : Type 0} (o : Course N A) (more : A → N → Course N B) (e : Stop) (n : N) → ComesTo o (Err e) n → ComesTo (followed o more) (Err e) n
first_stops o more e n h = λ ne. followed_stops o e n more (h ne)

-- the first part has a value
pub first_goes : {N A B : Type 0} (o : Course N A) (more : A → N → Course N B) (a : A) (n m : N) (r : Result B Stop) → o ≡ Is a n → ComesTo (more a n) r m → ComesTo (followed o more) r m
first_goes o more a n m r e h = comes_as (followed o more) (more a n) r m (followed_is o a n more e) h

-- what is wanted is there, or not
pub none_stops : {N A B : Type 0} (o : Option A) (more : A → Course N B) (e : Stop) (n : N) → (e ≡ stop.Wrong) × (o ≡ None) → ComesTo (needed o more) (Err e) n
none_stops o more e n h = λ ne. needed_none o e n more h.0 h.1

pub some_goes : {N A B : Type 0} (o : Option A) (more : A → Course N B) (x : A) (n : N) (r : Result B Stop) → o ≡ Some x → ComesTo (more x) r n → ComesTo (needed o more) r n
some_goes o more x n r e h = comes_as (needed o more) (more x) r n (needed_some o x more e) h

-- an answer at the end
pub answer_comes : {N A : Type 0} (a : Answer A) (r : Result A Stop) (n : N) → Tells a r → ComesTo (ended a n) r n
answer_comes a (Ok x) n h = ended_gives a x n h
answer_comes a (Err e) n h = λ ne. ended_halts a e n (h ne)

pub answer_holds : (a : Answer Value) (r : Result Held Stop) (n : Seen) → Tells a (made_of r) → Holds (ended a n) r n
answer_holds a (Ok x) n h = ended_gives a (held_value x) n h
answer_holds a (Err e) n h = λ ne. ended_halts a e n (h ne)

-- ---- joins and aggregates

meeting_stops : {A : Type 0} (e : Stop) (m : Met) (n : Seen) → meeting {A = A} (stopped e m) n ≡ stopped e (record n { met = m })
unfolding stopped
meeting_stops (stop.Trap t) m n = refl
meeting_stops stop.Wrong m n = refl
meeting_stops stop.NoMemory m n = refl

pub meeting_comes : {A : Type 0} (o : Course Met A) (r : Result A Stop) (n : Seen) (m : Met) → ComesTo o r m → ComesTo (meeting o n) r (record n { met = m })
meeting_comes o (Ok a) n m h = ap (λ o. meeting o n) h
meeting_comes o (Err e) n m h = λ ne. ap (λ o. meeting o n) (h ne) ∙ meeting_stops e m n
