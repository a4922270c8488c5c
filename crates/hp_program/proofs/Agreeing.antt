-- Two ways to do the operations that agree as long as a count in the environment is at most so much: a run that ends with
-- no more is the same by both.
use Rattle.std.proofs.Common.{◌≡◌, ℕ, zero, suc, ◌≤◌, Bool, true, false, cond, Result, Ok, Err, refl, ap, ◌∙◌, arith}
use Rattle.hp_word.specs.declared.place.Trap.{Trap}
use Rattle.hp_word.specs.Runs.{State, Ran, Went, Trapped, Spent, Runs, behind, turned, turn, turns}
use Rattle.hp_word.specs.Words.{is_true}
use Rattle.hp_program.specs.Programs.{Prog, stop, plain, choose, loop, Effect, Doing, worked, told, by_word, decided, run}

-- A run and another, from a state with this count: where the first ends, the count is no less; and where it is at most
-- the last, the second ends in the same way.
pub data SameUpTo {E : Type 0} (count : E → ℕ) (last low : ℕ) : Ran E ℕ → Ran E ℕ → Type 0 where
  went : {s : State E ℕ} {other : Ran E ℕ} → low ≤ count s.env → (count s.env ≤ last → other ≡ Went s) → SameUpTo count last low (Went s) other
  trapped : {t : Trap} {s : State E ℕ} {other : Ran E ℕ} → low ≤ count s.env → (count s.env ≤ last → other ≡ Trapped t s) → SameUpTo count last low (Trapped t s) other
  spent : {s : State E ℕ} {other : Ran E ℕ} → low ≤ count s.env → (count s.env ≤ last → other ≡ Spent s) → SameUpTo count last low (Spent s) other

-- what an operation gives in an environment with this count, and what it gives by the other way
pub data GivesUpTo {E : Type 0} (count : E → ℕ) (last low : ℕ) : Result (Effect E) Trap → Result (Effect E) Trap → Type 0 where
  gives : {effect : Effect E} {other : Result (Effect E) Trap} → low ≤ count effect.env → (count effect.env ≤ last → other ≡ Ok effect) → GivesUpTo count last low (Ok effect) other
  fails : {t : Trap} {other : Result (Effect E) Trap} → (low ≤ last → other ≡ Err t) → GivesUpTo count last low (Err t) other

-- the two ways agree up to the last
pub record AgreeingUpTo {Op E : Type 0} (count : E → ℕ) (last : ℕ) (d : Doing Op E) (does : Op → E → Result (Effect E) Trap) : Type 0 where
  pub at : (op : Op) (e : E) → GivesUpTo count last (count e) (d.does op e) (does op e)

-- the same operations, done the other way
abbrev pub with_does : {Op E : Type 0} → Doing Op E → (Op → E → Result (Effect E) Trap) → Doing Op E
with_does d other = record d { does = other }

-- the first runs on from a state with a greater count, which the second has reached where it matters
lift : {E : Type 0} {count : E → ℕ} {last low mid : ℕ} {a b c : Ran E ℕ} → low ≤ mid → (mid ≤ last → c ≡ b) → SameUpTo count last mid a b → SameUpTo count last low a c
lift le reached (went more same) = went (omega arith) (λ small. reached (omega arith) ∙ same small)
lift le reached (trapped more same) = trapped (omega arith) (λ small. reached (omega arith) ∙ same small)
lift le reached (spent more same) = spent (omega arith) (λ small. reached (omega arith) ∙ same small)

behind_same : {E : Type 0} {count : E → ℕ} {last low : ℕ} {a b : Ran E ℕ} (f h : Runs E ℕ) → SameUpTo count last low a b → ((s : State E ℕ) → SameUpTo count last (count s.env) (f s) (h s)) → SameUpTo count last low (behind a f) (behind b h)
behind_same f h (went {s = s} le same) next = lift le (λ small. ap (λ r. behind r h) (same small)) (next s)
behind_same f h (trapped le same) next = trapped le (λ small. ap (λ r. behind r h) (same small))
behind_same f h (spent le same) next = spent le (λ small. ap (λ r. behind r h) (same small))

told_same : {E : Type 0} {count : E → ℕ} {last : ℕ} {r other : Result (Effect E) Trap} (s : State E ℕ) → GivesUpTo count last (count s.env) r other → SameUpTo count last (count s.env) (told r s) (told other s)
unfolding told
told_same s (gives le same) = went le (λ small. ap (λ r. told r s) (same small))
told_same s (fails same) = trapped (omega arith) (λ small. ap (λ r. told r s) (same small))

same_if : {E : Type 0} {count : E → ℕ} {last low : ℕ} {a b c d : Ran E ℕ} (holds : Bool) → SameUpTo count last low a c → SameUpTo count last low b d → SameUpTo count last low (cond holds a b) (cond holds c d)
same_if true p q = p
same_if false p q = q

by_word_same : {Op E : Type 0} {count : E → ℕ} {last : ℕ} (d : Doing Op E) (other : Op → E → Result (Effect E) Trap) (w : ℕ) (f f2 h h2 : Runs E ℕ) (s : State E ℕ)
    → ((t : State E ℕ) → SameUpTo count last (count t.env) (f t) (h t)) → ((t : State E ℕ) → SameUpTo count last (count t.env) (f2 t) (h2 t))
    → SameUpTo count last (count s.env) (by_word d w f f2 s) (by_word (with_does d other) w h h2 s)
unfolding by_word
by_word_same d other w f f2 h h2 s p q = same_if (is_true (d.word s.env w)) (p (worked 1 s)) (q (worked 1 s))

stays_same : {E : Type 0} {count : E → ℕ} {last : ℕ} (s : State E ℕ) → SameUpTo count last (count s.env) (Went s) (Went s)
stays_same s = went (omega arith) (λ small. refl)

turn_same : {E : Type 0} {count : E → ℕ} {last : ℕ} (f h more more2 : Runs E ℕ) (s : State E ℕ) → ((t : State E ℕ) → SameUpTo count last (count t.env) (f t) (h t)) → ((t : State E ℕ) → SameUpTo count last (count t.env) (more t) (more2 t))
    → SameUpTo count last (count s.env) (turn f more s) (turn h more2 s)
turn_same f h more more2 s p q = same_if _ (spent (omega arith) (λ small. refl)) (behind_same more more2 (p (turned s)) q)

turns_same : {Op E : Type 0} {count : E → ℕ} {last : ℕ} (k : ℕ) (d : Doing Op E) (other : Op → E → Result (Effect E) Trap) (test test2 : Runs E ℕ) (w : ℕ) (body body2 : Runs E ℕ)
    → ((t : State E ℕ) → SameUpTo count last (count t.env) (test t) (test2 t)) → ((t : State E ℕ) → SameUpTo count last (count t.env) (body t) (body2 t)) → (s : State E ℕ)
    → SameUpTo count last (count s.env) (turns k (decided d test w) body s) (turns k (decided (with_does d other) test2 w) body2 s)
unfolding turns decided
turns_same zero d other test test2 w body body2 p q s = spent (omega arith) (λ small. refl)
turns_same (suc k) d other test test2 w body body2 p q s =
    let more : Runs _ ℕ = turns k (decided d test w) body in
    let more2 : Runs _ ℕ = turns k (decided (with_does d other) test2 w) body2 in
    behind_same (by_word d w (turn body more) Went) (by_word (with_does d other) w (turn body2 more2) Went) (p s)
    (λ t. by_word_same d other w (turn body more) Went (turn body2 more2) Went t (λ u. turn_same body body2 more more2 u q (turns_same k d other test test2 w body body2 p q)) (λ u. stays_same u))

pub run_same : {Op E : Type 0} {count : E → ℕ} {last : ℕ} (d : Doing Op E) (other : Op → E → Result (Effect E) Trap) → AgreeingUpTo count last d other → (p : Prog Op) (s : State E ℕ)
    → SameUpTo count last (count s.env) (run d p s) (run (with_does d other) p s)
unfolding run
run_same d other agree stop s = stays_same s
run_same d other agree (plain op p) s =
    behind_same (run d p) (run (with_does d other) p) (told_same (worked (d.units op) s) (agree.at op s.env)) (run_same d other agree p)
run_same d other agree (choose w first second p) s =
    behind_same (run d p) (run (with_does d other) p)
    (by_word_same d other w (run d first) (run d second) (run (with_does d other) first) (run (with_does d other) second) s (run_same d other agree first) (run_same d other agree second)) (run_same d other agree p)
run_same d other agree (loop test w body p) s =
    behind_same (run d p) (run (with_does d other) p)
    (turns_same (suc s.fuel) d other (run d test) (run (with_does d other) test) w (run d body) (run (with_does d other) body) (run_same d other agree test) (run_same d other agree body) s) (run_same d other agree p)
