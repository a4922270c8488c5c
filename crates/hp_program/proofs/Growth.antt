-- Along a program the output and the work only grow, the fuel does not rise, and no run is wrong.
use Rattle.std.proofs.Common.{ℕ, zero, suc, ◌≤◌, Bool, true, false, cond, Result, Ok, Err, refl, arith}
use Rattle.hp_word.specs.declared.place.Trap.{Trap}
use Rattle.hp_word.specs.Runs.{State, Ran, Went, Trapped, Spent, Runs, behind, turned, turn, turns}
use Rattle.hp_word.specs.Words.{is_true}
use Rattle.hp_word.proofs.RunGrowth.{front_same, Grows, Growing, GrowingTest, onward, behind_grows, grows_if, stays, turns_grow}
use Rattle.hp_word.proofs.RunGrowth as growth
use Rattle.hp_program.specs.Programs.{Prog, stop, plain, choose, loop, Effect, Doing, worked, told, step, by_word, decided, run}

-- ---- output and fuel

told_grows : {E : Type 0} (r : Result (Effect E) Trap) (s : State E ℕ) → Grows s.out s.fuel (told r s)
unfolding told
told_grows (Ok effect) s = growth.went (effect.text, refl) (omega arith)
told_grows (Err t) s = growth.trapped (front_same s.out) (omega arith)

by_word_grows : {Op E : Type 0} (d : Doing Op E) (w : ℕ) → GrowingTest (by_word d w)
unfolding by_word
by_word_grows d w = record { from = λ yes2 no2 s p q. grows_if (is_true (d.word s.env w)) (p (worked 1 s) (omega arith)) (q (worked 1 s) (omega arith)) }

pub decided_grows : {Op E : Type 0} (d : Doing Op E) (test : Runs E ℕ) (w : ℕ) → Growing test → GrowingTest (decided d test w)
unfolding decided
decided_grows d test w growing =
    record { from = λ first second s p q. behind_grows (by_word d w first second) (growing.from s) (λ t le. (by_word_grows d w).from first second t (λ u less. p u (omega arith)) (λ u less. q u (omega arith))) }

pub run_grows : {Op E : Type 0} (d : Doing Op E) (p : Prog Op) (s : State E ℕ) → Grows s.out s.fuel (run d p s)
unfolding run
run_grows d stop s = stays s
run_grows d (plain op p) s = behind_grows (run d p) (told_grows (d.does op s.env) (worked (d.units op) s)) (λ t le. run_grows d p t)
run_grows d (choose w first second p) s =
    behind_grows (run d p) ((by_word_grows d w).from (run d first) (run d second) s (λ t le. run_grows d first t) (λ t le. run_grows d second t)) (λ t le. run_grows d p t)
run_grows d (loop test w body p) s =
    behind_grows (run d p)
    (turns_grow (suc s.fuel) (decided d (run d test) w) (run d body) (decided_grows d (run d test) w (record { from = run_grows d test })) (record { from = run_grows d body }) s (omega arith))
    (λ t le. run_grows d p t)

-- ---- work

-- a run from a state of this work: there is as much work, or more, where it ends; and it is not wrong
pub data Rises {E : Type 0} (work : ℕ) : Ran E ℕ → Type 0 where
  went : {s : State E ℕ} → work ≤ s.seen → Rises work (Went s)
  trapped : {t : Trap} {s : State E ℕ} → work ≤ s.seen → Rises work (Trapped t s)
  spent : {s : State E ℕ} → work ≤ s.seen → Rises work (Spent s)

higher : {E : Type 0} {low work : ℕ} {ran : Ran E ℕ} → low ≤ work → Rises work ran → Rises low ran
higher le (went more) = went (omega arith)
higher le (trapped more) = trapped (omega arith)
higher le (spent more) = spent (omega arith)

behind_rises : {E : Type 0} {work : ℕ} {ran : Ran E ℕ} (more : Runs E ℕ) → Rises work ran → ((s : State E ℕ) → Rises s.seen (more s)) → Rises work (behind ran more)
behind_rises more (went {s = s} le) next = higher le (next s)
behind_rises more (trapped le) next = trapped le
behind_rises more (spent le) next = spent le

told_rises : {E : Type 0} (r : Result (Effect E) Trap) (s : State E ℕ) → Rises s.seen (told r s)
unfolding told
told_rises (Ok effect) s = went (omega arith)
told_rises (Err t) s = trapped (omega arith)

step_rises : {Op E : Type 0} (d : Doing Op E) (op : Op) (s : State E ℕ) → Rises s.seen (step d op s)
step_rises d op s = higher (omega arith) (told_rises (d.does op s.env) (worked (d.units op) s))

rises_if : {E : Type 0} {work : ℕ} {a b : Ran E ℕ} (holds : Bool) → Rises work a → Rises work b → Rises work (cond holds a b)
rises_if true p q = p
rises_if false p q = q

by_word_rises : {Op E : Type 0} (d : Doing Op E) (w : ℕ) (first second : Runs E ℕ) (s : State E ℕ) → ((t : State E ℕ) → Rises t.seen (first t)) → ((t : State E ℕ) → Rises t.seen (second t)) → Rises s.seen (by_word d w first second s)
unfolding by_word
by_word_rises d w first second s p q = rises_if (is_true (d.word s.env w)) (higher (omega arith) (p (worked 1 s))) (higher (omega arith) (q (worked 1 s)))

turn_rises : {E : Type 0} (body more : Runs E ℕ) (s : State E ℕ) → ((t : State E ℕ) → Rises t.seen (body t)) → ((t : State E ℕ) → Rises t.seen (more t)) → Rises s.seen (turn body more s)
turn_rises body more s p q = rises_if _ (spent (omega arith)) (behind_rises more (p (turned s)) q)

turns_rise : {Op E : Type 0} (k : ℕ) (d : Doing Op E) (test : Runs E ℕ) (w : ℕ) (body : Runs E ℕ) → ((t : State E ℕ) → Rises t.seen (test t)) → ((t : State E ℕ) → Rises t.seen (body t)) → (s : State E ℕ) → Rises s.seen (turns k (decided d test w) body s)
unfolding turns decided
turns_rise zero d test w body p q s = spent (omega arith)
turns_rise (suc k) d test w body p q s =
    behind_rises (by_word d w (turn body (turns k (decided d test w) body)) Went) (p s)
    (λ t. by_word_rises d w (turn body (turns k (decided d test w) body)) Went t (λ u. turn_rises body (turns k (decided d test w) body) u q (turns_rise k d test w body p q)) (λ u. went (omega arith)))

pub run_rises : {Op E : Type 0} (d : Doing Op E) (p : Prog Op) (s : State E ℕ) → Rises s.seen (run d p s)
unfolding run
run_rises d stop s = went (omega arith)
run_rises d (plain op p) s = behind_rises (run d p) (step_rises d op s) (run_rises d p)
run_rises d (choose w first second p) s = behind_rises (run d p) (by_word_rises d w (run d first) (run d second) s (run_rises d first) (run_rises d second)) (run_rises d p)
run_rises d (loop test w body p) s = behind_rises (run d p) (turns_rise (suc s.fuel) d (run d test) w (run d body) (run_rises d test) (run_rises d body) s) (run_rises d p)
