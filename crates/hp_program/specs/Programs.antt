-- Programs of operations, branches and loops, and what they mean, whatever the operations are.
use Rattle.std.specs.Prelude.{◌≡◌, ℕ, suc, ◌+◌, ◌-◌, ◌≤◌, if◌then◌else◌, ℤ, pos, List, [], ◌∷◌, ◌++◌, Result, Ok, Err, refl}
use Rattle.hp_word.specs.declared.place.Trap.{Trap}
use Rattle.hp_word.specs.Runs.{State, Ran, Went, Trapped, Spent, Runs, Test, behind, turns}
use Rattle.hp_word.specs.Words.{is_true}

-- ---- programs

-- A program over operations of this type; each step stands with those behind it.
pub data Prog (Op : Type 0) : Type 0 where
  stop : Prog Op
  plain : Op → Prog Op → Prog Op
  -- a word; what is done where it is true, and what where it is not
  choose : ℕ → Prog Op → Prog Op → Prog Op → Prog Op
  -- what makes the word of the test, the word, and what is done as long as it is true
  loop : Prog Op → ℕ → Prog Op → Prog Op → Prog Op

-- one program behind another
unfoldable pub joined : {Op : Type 0} → Prog Op → Prog Op → Prog Op
joined stop q = q
joined (plain op p) q = plain op (joined p q)
joined (choose w first second p) q = choose w first second (joined p q)
joined (loop test w body p) q = loop test w body (joined p q)

-- the operations of a program at all depths, in the order of the text
unfoldable pub operations : {Op : Type 0} → Prog Op → List Op
operations stop = []
operations (plain op p) = op ∷ operations p
operations (choose w first second p) = operations first ++ operations second ++ operations p
operations (loop test w body p) = operations test ++ operations body ++ operations p

-- the words that the branches and loops of a program look at, at all depths
unfoldable pub tests : {Op : Type 0} → Prog Op → List ℕ
tests stop = []
tests (plain op p) = tests p
tests (choose w first second p) = w ∷ tests first ++ tests second ++ tests p
tests (loop test w body p) = tests test ++ w ∷ tests body ++ tests p

-- the program in which these steps stand for each operation
unfoldable pub replaced : {Op Op2 : Type 0} → (Op → Prog Op2) → Prog Op → Prog Op2
replaced steps stop = stop
replaced steps (plain op p) = joined (steps op) (replaced steps p)
replaced steps (choose w first second p) = choose w (replaced steps first) (replaced steps second) (replaced steps p)
replaced steps (loop test w body p) = loop (replaced steps test) w (replaced steps body) (replaced steps p)

-- ---- what operations do

-- what an operation comes to: an environment, and what it has written
pub record Effect (E : Type 0) : Type 0 where
  pub env : E
  pub text : List ℕ

-- What operations do in an environment, where they do not trap, and how many units of work each is; and the words that
-- branches and loops look at.
pub record Doing (Op E : Type 0) : Type 0 where
  pub does : Op → E → Result (Effect E) Trap
  pub units : Op → ℕ
  pub word : E → ℕ → ℤ

-- the same operations, each of so many units
abbrev pub with_units : {Op E : Type 0} → Doing Op E → (Op → ℕ) → Doing Op E
with_units d units = record d { units = units }

-- ---- what programs mean

-- what is seen along a run is its work: after so many more units of it
abbrev pub worked : {E : Type 0} → ℕ → State E ℕ → State E ℕ
worked units s = record s { seen = s.seen + units }

-- behind an operation; the work of one that traps counts too
unfoldable pub told : {E : Type 0} → Result (Effect E) Trap → Runs E ℕ
told (Ok effect) s = Went (record s { env = effect.env; out = s.out ++ effect.text })
told (Err t) s = Trapped t s

abbrev pub step : {Op E : Type 0} → Doing Op E → Op → Runs E ℕ
step d op s = told (d.does op s.env) (worked (d.units op) s)

-- a look at a word is one unit of work
unfoldable pub by_word : {Op E : Type 0} → Doing Op E → ℕ → Test E ℕ
by_word d w first second s = if is_true (d.word s.env w) then first (worked 1 s) else second (worked 1 s)

-- the test of a loop: steps, and a look at a word
unfoldable pub decided : {Op E : Type 0} → Doing Op E → Runs E ℕ → ℕ → Test E ℕ
decided d test w first second s = behind (test s) (by_word d w first second)

-- a program from a state on
unfoldable pub run : {Op E : Type 0} → Doing Op E → Prog Op → Runs E ℕ
run d stop s = Went s
run d (plain op p) s = behind (step d op s) (run d p)
run d (choose w first second p) s = behind (by_word d w (run d first) (run d second) s) (run d p)
run d (loop test w body p) s = behind (turns (suc s.fuel) (decided d (run d test) w) (run d body) s) (run d p)

-- before the first step
abbrev pub start : {E : Type 0} → E → (fuel : ℕ) → State E ℕ
start env fuel = record { env = env; seen = 0; out = []; fuel = fuel }

-- ---- what two programs have in common

-- The second state is as the first: environments that stand in the relation, the same output, the same fuel, and no more
-- work.
pub record IsLike {E F : Type 0} (R : E → F → Type 0) (s : State E ℕ) (t : State F ℕ) : Type 0 where
  pub env : R s.env t.env
  pub out : t.out ≡ s.out
  pub fuel : t.fuel ≡ s.fuel
  pub work : t.seen ≤ s.seen

-- The second run ends as the first, in a state that is as the first one's: where it trapped, environments that stand in
-- the second relation, and else in the first.
pub data EndsAs {E F : Type 0} (R T : E → F → Type 0) : Ran E ℕ → Ran F ℕ → Type 0 where
  both_went : {s : State E ℕ} {t : State F ℕ} → IsLike R s t → EndsAs R T (Went s) (Went t)
  both_trapped : {k : Trap} {s : State E ℕ} {t : State F ℕ} → IsLike T s t → EndsAs R T (Trapped k s) (Trapped k t)
  both_spent : {s : State E ℕ} {t : State F ℕ} → IsLike R s t → EndsAs R T (Spent s) (Spent t)

-- the same, by one relation
abbrev pub EndsLike : {E F : Type 0} → (E → F → Type 0) → Ran E ℕ → Ran F ℕ → Type 0
EndsLike R a b = EndsAs R R a b

-- ---- worked rows

-- an operation that takes one from a number, which is the word that is looked at
abbrev counting : Doing (Unit {0}) ℕ
counting = record { does = λ op n. Ok (record { env = n - 1; text = [] }); units = λ op. 1; word = λ n w. pos n }

-- two turns have two operations and three looks at the word
loop_row : (run counting (loop stop 0 (plain tt stop) stop) (start 2 7)) ≡ Went (record { env = 0; seen = 5; out = []; fuel = 5 })
unfolding run turns told by_word decided
loop_row = refl

-- a turn too many
spent_row : (run counting (loop stop 0 (plain tt stop) stop) (start 2 1)) ≡ Spent (record { env = 1; seen = 3; out = []; fuel = 0 })
unfolding run turns told by_word decided
spent_row = refl

choose_row : (run counting (choose 0 stop (plain tt stop) stop) (start 2 1)) ≡ Went (record { env = 2; seen = 1; out = []; fuel = 1 })
unfolding run turns told by_word decided
choose_row = refl
