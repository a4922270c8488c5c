-- What more fuel changes of a program's run: what is over is over at the same state, but for the fuel left.
use Rattle.std.proofs.Common.{◌≡◌, ◌≢◌, ℕ, zero, suc, ◌+◌, ◌-◌, ◌<◌, ◌≤◌, eqb, Bool, true, false, cond, Result, Ok, Err, refl, sym, ap, subst, arith}
use Rattle.std.proofs.lemmas.Bool.{eqb-true, eqb-false, ne_eqb}
use Rattle.hp_word.specs.declared.place.Trap.{Trap}
use Rattle.hp_word.specs.Runs.{State, Ran, Went, Spent, Runs, turned, turn, turns, with_more}
use Rattle.hp_word.specs.Words.{is_true}
use Rattle.hp_word.proofs.RunFuel.{Further, Lasting, wider, behind_further, further_if, goes_on}
use Rattle.hp_word.proofs.RunFuel as fuel
use Rattle.hp_word.proofs.RunGrowth.{front_same, Grows, Growing, onward, grows_if, stays, turn_grows, turns_grow}
use Rattle.hp_program.specs.Programs.{Prog, stop, plain, choose, loop, Effect, Doing, worked, told, by_word, decided, run}
use Rattle.hp_program.proofs.Growth.{decided_grows, run_grows}

told_further : {E : Type 0} (more : ℕ) (r : Result (Effect E) Trap) (s : State E ℕ) → Further s.fuel more (told r s) (told r (with_more more s))
unfolding told
told_further more (Ok effect) s = goes_on more _
told_further more (Err t) s = fuel.trapped (omega arith)

by_word_further : {Op E : Type 0} (more : ℕ) (d : Doing Op E) (w : ℕ) (f f2 h h2 : Runs E ℕ) (s : State E ℕ) → ((t : State E ℕ) → t.fuel ≤ s.fuel → Further t.fuel more (f t) (h (with_more more t))) → ((t : State E ℕ) → t.fuel ≤ s.fuel → Further t.fuel more (f2 t) (h2 (with_more more t)))
    → Further s.fuel more (by_word d w f f2 s) (by_word d w h h2 (with_more more s))
unfolding by_word
by_word_further more d w f f2 h h2 s p q = further_if (is_true (d.word s.env w)) (p (worked 1 s) (omega arith)) (q (worked 1 s) (omega arith))

-- ---- turns

-- two turns, of which the first is out of fuel where it has none, and the second not before it
turn_if : {E : Type 0} {limit more : ℕ} {a b : Ran E ℕ} (s : State E ℕ) (none none_later : Bool) (later : State E ℕ) → (none ≡ true → Grows s.out (more - 1) (cond none_later (Spent later) b)) → (none ≡ false → none_later ≡ false)
    → (none ≡ false → Further limit more a b) → Further limit more (cond none (Spent s) a) (cond none_later (Spent later) b)
turn_if s true none_later later grown same next = fuel.spent (grown refl)
turn_if {limit = limit} {more = more} {a = a} {b = b} s false none_later later grown same next =
    subst (λ no. Further limit more a (cond no (Spent later) b)) (sym (same refl)) (next refl)

some_fuel : (n : ℕ) → eqb n 0 ≡ false → 0 < n
some_fuel n e = let none : n ≢ 0 = eqb-false n 0 e in omega arith

turned_more : {E : Type 0} (more : ℕ) (s : State E ℕ) → 0 < s.fuel → with_more more (turned s) ≡ turned (with_more more s)
turned_more more s some = let e : (s.fuel - 1) + more ≡ (s.fuel + more) - 1 = omega arith in ap (λ (k : ℕ). record s { fuel = k }) e

turn_further : {E : Type 0} (more : ℕ) (body f h : Runs E ℕ) (s : State E ℕ) → Lasting more body → ((t : State E ℕ) → t.fuel < s.fuel → Further t.fuel more (f t) (h (with_more more t))) → ((t : State E ℕ) → t.fuel < s.fuel + more → Grows t.out t.fuel (h t))
    → Further s.fuel more (turn body f s) (turn body h (with_more more s))
turn_further more body f h s lasting next grow =
    turn_if s (eqb s.fuel 0) (eqb (s.fuel + more) 0) (with_more more s)
    (λ e. let none : s.fuel ≡ 0 = eqb-true s.fuel 0 e in onward (front_same s.out) (omega arith) (turn_grows body h (with_more more s) lasting.growing grow))
    (λ e. let some : 0 < s.fuel = some_fuel s.fuel e in ne_eqb (s.fuel + more) 0 (omega arith))
    (λ e.
    let some : 0 < s.fuel = some_fuel s.fuel e in
    let first : Further (s.fuel - 1) more (body (turned s)) (body (turned (with_more more s))) =
    subst (λ t. Further (s.fuel - 1) more (body (turned s)) (body t)) (turned_more more s some) (lasting.from (turned s)) in
    wider (omega arith) (behind_further f h first (λ t le. next t (omega arith)) (λ t le. grow t (omega arith))))

-- the look at the word, behind the steps of the test, goes on with a turn or ends the loop
looked_grows : {Op E : Type 0} (d : Doing Op E) (w : ℕ) (body more : Runs E ℕ) → Growing body → (s : State E ℕ) → ((t : State E ℕ) → t.fuel < s.fuel → Grows t.out t.fuel (more t)) → Grows s.out s.fuel (by_word d w (turn body more) Went s)
unfolding by_word
looked_grows d w body more growing s next =
    grows_if (is_true (d.word s.env w)) (onward (front_same s.out) (omega arith) (turn_grows body more (worked 1 s) growing next)) (stays (worked 1 s))

pub turns_further : {Op E : Type 0} (more j k : ℕ) (d : Doing Op E) (test : Runs E ℕ) (w : ℕ) (body : Runs E ℕ) → Lasting more test → Lasting more body → (s : State E ℕ) → s.fuel < j → s.fuel + more < k
    → Further s.fuel more (turns j (decided d test w) body s) (turns k (decided d test w) body (with_more more s))
unfolding turns decided
turns_further more zero k d test w body tested lasting s less less2 = absurd (omega arith)
turns_further more (suc j) zero d test w body tested lasting s less less2 = absurd (omega arith)
turns_further more (suc j) (suc k) d test w body tested lasting s less less2 =
    let first : Runs _ ℕ = turns j (decided d test w) body in
    let second : Runs _ ℕ = turns k (decided d test w) body in
    behind_further (by_word d w (turn body first) Went) (by_word d w (turn body second) Went) (tested.from s)
    (λ t le. by_word_further more d w (turn body first) Went (turn body second) Went t
    (λ u below. turn_further more body first second u lasting (λ v lt. turns_further more j k d test w body tested lasting v (omega arith) (omega arith)) (λ v lt. turns_grow k (decided d test w) body (decided_grows d test w tested.growing) lasting.growing v (omega arith)))
    (λ u below. goes_on more u))
    (λ t le. looked_grows d w body second lasting.growing t (λ v lt. turns_grow k (decided d test w) body (decided_grows d test w tested.growing) lasting.growing v (omega arith)))

-- ---- programs

pub run_further : {Op E : Type 0} (more : ℕ) (d : Doing Op E) (p : Prog Op) (s : State E ℕ) → Further s.fuel more (run d p s) (run d p (with_more more s))
unfolding run
run_further more d stop s = goes_on more s
run_further more d (plain op p) s =
    behind_further (run d p) (run d p) (told_further more (d.does op s.env) (worked (d.units op) s)) (λ t le. run_further more d p t) (λ t le. run_grows d p t)
run_further more d (choose w first second p) s =
    behind_further (run d p) (run d p) (by_word_further more d w (run d first) (run d second) (run d first) (run d second) s (λ t le. run_further more d first t) (λ t le. run_further more d second t)) (λ t le. run_further more d p t)
    (λ t le. run_grows d p t)
run_further more d (loop test w body p) s =
    behind_further (run d p) (run d p)
    (turns_further more (suc s.fuel) (suc (s.fuel + more)) d (run d test) w (run d body) (record { growing = record { from = run_grows d test }; from = run_further more d test })
    (record { growing = record { from = run_grows d body }; from = run_further more d body }) s (omega arith) (omega arith))
    (λ t le. run_further more d p t) (λ t le. run_grows d p t)
