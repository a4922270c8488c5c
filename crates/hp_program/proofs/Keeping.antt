-- What each operation of a program keeps holds of the environment in which a run of it ends, however it ends.
use Rattle.std.proofs.Common.{ℕ, zero, suc, Bool, true, false, ◌&&◌, cond, List, ◌++◌, IsTrue, Result, Ok, Err, refl, subst}
use Rattle.std.proofs.lemmas.List.Folds.{list_all-append}
use Rattle.std.specs.List.{list_all}
use Rattle.hp_word.specs.declared.place.Trap.{Trap}
use Rattle.hp_word.specs.Runs.{State, Ran, Went, Trapped, Spent, Runs, behind, turned, turn, turns}
use Rattle.hp_word.specs.Words.{is_true}
use Rattle.hp_program.specs.Programs.{Prog, stop, plain, choose, loop, Effect, Doing, operations, worked, told, by_word, decided, run}

-- ---- tests of all operations

pub first_holds : (a b : Bool) → IsTrue (a && b) → IsTrue a
first_holds true b p = refl
first_holds false b p = absurd cc

pub second_holds : (a b : Bool) → IsTrue (a && b) → IsTrue b
second_holds true b p = p
second_holds false b p = absurd cc

both_pass : {X : Type 0} (test : X → Bool) (xs ys : List X) → IsTrue (list_all test (xs ++ ys)) → IsTrue (list_all test xs) × IsTrue (list_all test ys)
both_pass test xs ys p =
    let both : IsTrue (list_all test xs && list_all test ys) = subst IsTrue (list_all-append test xs ys) p in
    (first_holds _ _ both, second_holds _ _ both)

-- ---- what is kept

-- this holds of the environment in which the run ends; and it is not wrong
pub data EndsIn {E : Type 0} (P : E → Type 0) : Ran E ℕ → Type 0 where
  went : {s : State E ℕ} → P s.env → EndsIn P (Went s)
  trapped : {t : Trap} {s : State E ℕ} → P s.env → EndsIn P (Trapped t s)
  spent : {s : State E ℕ} → P s.env → EndsIn P (Spent s)

-- it holds of what an operation gives, where it does not trap
abbrev pub Gives : {E : Type 0} → (E → Type 0) → Result (Effect E) Trap → Type 0
Gives P (Ok effect) = P effect.env
Gives P (Err t) = Unit {0}

behind_keeps : {E : Type 0} {P : E → Type 0} {ran : Ran E ℕ} (more : Runs E ℕ) → EndsIn P ran → ((s : State E ℕ) → P s.env → EndsIn P (more s)) → EndsIn P (behind ran more)
behind_keeps more (went {s = s} held) next = next s held
behind_keeps more (trapped held) next = trapped held
behind_keeps more (spent held) next = spent held

told_keeps : {E : Type 0} (P : E → Type 0) (r : Result (Effect E) Trap) (s : State E ℕ) → P s.env → Gives P r → EndsIn P (told r s)
unfolding told
told_keeps P (Ok effect) s held given = went given
told_keeps P (Err t) s held given = trapped held

keeps_if : {E : Type 0} {P : E → Type 0} {a b : Ran E ℕ} (holds : Bool) → EndsIn P a → EndsIn P b → EndsIn P (cond holds a b)
keeps_if true p q = p
keeps_if false p q = q

by_word_keeps : {Op E : Type 0} (P : E → Type 0) (d : Doing Op E) (w : ℕ) (first second : Runs E ℕ) (s : State E ℕ) → P s.env
    → ((t : State E ℕ) → P t.env → EndsIn P (first t)) → ((t : State E ℕ) → P t.env → EndsIn P (second t)) → EndsIn P (by_word d w first second s)
unfolding by_word
by_word_keeps P d w first second s held p q = keeps_if (is_true (d.word s.env w)) (p (worked 1 s) held) (q (worked 1 s) held)

turn_keeps : {E : Type 0} (P : E → Type 0) (body more : Runs E ℕ) (s : State E ℕ) → P s.env
    → ((t : State E ℕ) → P t.env → EndsIn P (body t)) → ((t : State E ℕ) → P t.env → EndsIn P (more t)) → EndsIn P (turn body more s)
turn_keeps P body more s held p q = keeps_if _ (spent held) (behind_keeps more (p (turned s) held) q)

turns_keep : {Op E : Type 0} (P : E → Type 0) (k : ℕ) (d : Doing Op E) (test : Runs E ℕ) (w : ℕ) (body : Runs E ℕ)
    → ((t : State E ℕ) → P t.env → EndsIn P (test t)) → ((t : State E ℕ) → P t.env → EndsIn P (body t)) → (s : State E ℕ) → P s.env → EndsIn P (turns k (decided d test w) body s)
unfolding turns decided
turns_keep P zero d test w body p q s held = spent held
turns_keep P (suc k) d test w body p q s held =
    let more : Runs _ ℕ = turns k (decided d test w) body in
    behind_keeps (by_word d w (turn body more) Went) (p s held)
    (λ t on. by_word_keeps P d w (turn body more) Went t on (λ u held2. turn_keeps P body more u held2 q (turns_keep P k d test w body p q)) (λ u held2. went held2))

-- a run of operations that pass a test, each of which keeps this where it passes
pub run_keeps : {Op E : Type 0} (P : E → Type 0) (d : Doing Op E) (test : Op → Bool) → ((op : Op) → IsTrue (test op) → (e : E) → P e → Gives P (d.does op e))
    → (p : Prog Op) → IsTrue (list_all test (operations p)) → (s : State E ℕ) → P s.env → EndsIn P (run d p s)
unfolding run operations
run_keeps P d test keeps stop pass s held = went held
run_keeps P d test keeps (plain op p) pass s held =
    behind_keeps (run d p) (told_keeps P (d.does op s.env) (worked (d.units op) s) held (keeps op (first_holds _ _ pass) s.env held)) (run_keeps P d test keeps p (second_holds _ _ pass))
run_keeps P d test keeps (choose w first second p) pass s held =
    let front : IsTrue (list_all test (operations first ++ operations second)) × IsTrue (list_all test (operations p)) = both_pass test (operations first ++ operations second) (operations p) pass in
    let ways : IsTrue (list_all test (operations first)) × IsTrue (list_all test (operations second)) = both_pass test (operations first) (operations second) front.0 in
    behind_keeps (run d p) (by_word_keeps P d w (run d first) (run d second) s held (run_keeps P d test keeps first ways.0) (run_keeps P d test keeps second ways.1)) (run_keeps P d test keeps p front.1)
run_keeps P d test keeps (loop before w body p) pass s held =
    let front : IsTrue (list_all test (operations before ++ operations body)) × IsTrue (list_all test (operations p)) = both_pass test (operations before ++ operations body) (operations p) pass in
    let ways : IsTrue (list_all test (operations before)) × IsTrue (list_all test (operations body)) = both_pass test (operations before) (operations body) front.0 in
    behind_keeps (run d p) (turns_keep P (suc s.fuel) d (run d before) w (run d body) (run_keeps P d test keeps before ways.0) (run_keeps P d test keeps body ways.1) s held) (run_keeps P d test keeps p front.1)
