-- A run of a program from a state on has written behind what was written, and done more than was done.
use Rattle.std.proofs.Common.{ℕ, zero, suc, ◌≤◌, eqb, Bool, true, false, cond, List, refl, arith, Result, Ok, Err}
use Rattle.hp_word.specs.declared.place.Trap.{Trap}
use Rattle.hp_word.specs.Runs.{State, Ran, Went, Trapped, Spent, Runs, IsFrontOf, Writes, behind, turn, turned, turns}
use Rattle.hp_word.specs.Words.{is_true}
use Rattle.hp_word.proofs.RunGrowth.{front_same, front_trans}
use Rattle.hp_program.specs.Programs.{Prog, stop, plain, choose, loop, Effect, Doing, by_word, decided, run, told, worked}
use Rattle.hp_air.specs.Meaning.{work_of}

-- the run has written this and behind it, and its work is so much or more
pub data Later {E : Type 0} (out : List ℕ) (work : ℕ) : Ran E ℕ → Type 0 where
  went : {s : State E ℕ} → IsFrontOf out s.out → work ≤ s.seen → Later out work (Went s)
  trapped : {t : Trap} {s : State E ℕ} → IsFrontOf out s.out → work ≤ s.seen → Later out work (Trapped t s)
  spent : {s : State E ℕ} → IsFrontOf out s.out → work ≤ s.seen → Later out work (Spent s)

pub later_writes : {E : Type 0} {out : List ℕ} {work : ℕ} {ran : Ran E ℕ} → Later out work ran → Writes out ran
later_writes (went p le) = p
later_writes (trapped p le) = p
later_writes (spent p le) = p

pub later_work : {E : Type 0} {out : List ℕ} {work : ℕ} {ran : Ran E ℕ} → Later out work ran → work ≤ work_of ran
later_work (went p le) = le
later_work (trapped p le) = le
later_work (spent p le) = le

-- from there on
pub later_still : {E : Type 0} {out next : List ℕ} {work more : ℕ} {ran : Ran E ℕ} → IsFrontOf out next → work ≤ more → Later next more ran → Later out work ran
later_still {out = out} {next = next} f l (went {s = s} p le) = went (front_trans out next s.out f p) (omega arith)
later_still {out = out} {next = next} f l (trapped {s = s} p le) = trapped (front_trans out next s.out f p) (omega arith)
later_still {out = out} {next = next} f l (spent {s = s} p le) = spent (front_trans out next s.out f p) (omega arith)

-- what is run from a state on goes on from there
pub record Grows {E : Type 0} (f : Runs E ℕ) : Type 0 where
  pub from : (s : State E ℕ) → Later s.out s.seen (f s)

pub later_behind : {E : Type 0} {out : List ℕ} {work : ℕ} {ran : Ran E ℕ} (f : Runs E ℕ) → Later out work ran → Grows f → Later out work (behind ran f)
later_behind f (went {s = s} p le) g = later_still p le (g.from s)
later_behind f (trapped p le) g = trapped p le
later_behind f (spent p le) g = spent p le

pub went_grows : {E : Type 0} → Grows {E = E} Went
went_grows = record { from = λ s. went (front_same s.out) (omega arith) }

told_later : {E : Type 0} (r : Result (Effect E) Trap) (s : State E ℕ) → Later s.out s.seen (told r s)
unfolding told
told_later (Ok effect) s = went (effect.text, refl) (omega arith)
told_later (Err t) s = trapped (front_same s.out) (omega arith)

later_if : {E : Type 0} {out : List ℕ} {work : ℕ} {a b : Ran E ℕ} (holds : Bool) → Later out work a → Later out work b → Later out work (cond holds a b)
later_if true p q = p
later_if false p q = q

-- a look at a word is one more unit
pub word_later : {Op E : Type 0} (d : Doing Op E) (w : ℕ) (first second : Runs E ℕ) (s : State E ℕ) → Grows first → Grows second → Later s.out (suc s.seen) (by_word d w first second s)
unfolding by_word
word_later d w first second s p q =
    later_if (is_true (d.word s.env w)) (later_still (front_same s.out) (omega arith) (p.from (worked 1 s))) (later_still (front_same s.out) (omega arith) (q.from (worked 1 s)))

pub turn_later : {E : Type 0} (body more : Runs E ℕ) → Grows body → Grows more → Grows (turn body more)
turn_later body more p q = record { from = λ s. later_if (eqb s.fuel 0) (spent (front_same s.out) (omega arith)) (later_behind more (p.from (turned s)) q) }

pub turns_later : {Op E : Type 0} (k : ℕ) (d : Doing Op E) (test : Runs E ℕ) (w : ℕ) (body : Runs E ℕ) → Grows test → Grows body → Grows (turns k (decided d test w) body)
unfolding turns decided
turns_later zero d test w body p q = record { from = λ s. spent (front_same s.out) (omega arith) }
turns_later (suc k) d test w body p q =
    record {
      from = λ s. later_behind (by_word d w (turn body (turns k (decided d test w) body)) Went) (p.from s)
          (record { from = λ t. later_still (front_same t.out) (omega arith) (word_later d w (turn body (turns k (decided d test w) body)) Went t (turn_later body (turns k (decided d test w) body) q (turns_later k d test w body p q)) went_grows) });
    }

pub run_later : {Op E : Type 0} (d : Doing Op E) (p : Prog Op) → Grows (run d p)
unfolding run
run_later d stop = went_grows
run_later d (plain op p) = record { from = λ s. later_behind (run d p) (later_still (front_same s.out) (omega arith) (told_later (d.does op s.env) (worked (d.units op) s))) (run_later d p) }
run_later d (choose w first second p) =
    record { from = λ s. later_behind (run d p) (later_still (front_same s.out) (omega arith) (word_later d w (run d first) (run d second) s (run_later d first) (run_later d second))) (run_later d p) }
run_later d (loop test w body p) = record { from = λ s. later_behind (run d p) ((turns_later (suc s.fuel) d (run d test) w (run d body) (run_later d test) (run_later d body)).from s) (run_later d p) }

pub word_grows : {Op E : Type 0} (d : Doing Op E) (w : ℕ) (first second : Runs E ℕ) → Grows first → Grows second → Grows (by_word d w first second)
word_grows d w first second p q = record { from = λ s. later_still (front_same s.out) (omega arith) (word_later d w first second s p q) }
