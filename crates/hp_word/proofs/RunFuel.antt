-- What is over under less fuel is over at the same state under more, but for the fuel left; and the number that turns
-- are counted by does not matter.
use Rattle.std.proofs.Common.{◌≡◌, ◌≢◌, ℕ, zero, suc, ◌+◌, ◌-◌, ◌<◌, ◌≤◌, eqb, Bool, true, false, cond, List, refl, sym, ap, subst, arith}
use Rattle.std.proofs.lemmas.Bool.{eqb-false, ne_eqb}
use Rattle.hp_word.specs.declared.place.Trap.{Trap}
use Rattle.hp_word.specs.Runs.{State, Ran, Went, Trapped, Spent, Mistaken, Runs, Test, behind, turned, turn, turns, with_more, Lasts}
use Rattle.hp_word.proofs.RunGrowth.{front_same, Grows, onward, behind_grows, Growing, GrowingTest, writes_of, turn_grows, turns_grow}
use Rattle.hp_word.proofs.RunGrowth as growth

-- A run and the one with this much more fuel, as `Lasts` says, where the first has begun with no more than this limit.
-- Where the first is out of fuel, the second has taken one more turn, or is out of it too.
pub data Further {E N : Type 0} (limit more : ℕ) : (less greater : Ran E N) → Type 0 where
  went : {s : State E N} → s.fuel ≤ limit → Further limit more (Went s) (Went (with_more more s))
  trapped : {t : Trap} {s : State E N} → s.fuel ≤ limit → Further limit more (Trapped t s) (Trapped t (with_more more s))
  spent : {s : State E N} {greater : Ran E N} → Grows s.out (more - 1) greater → Further limit more (Spent s) greater
  mistaken : Further limit more Mistaken Mistaken

-- the statements of a loop last, and what they write stays
pub record Lasting {E N : Type 0} (more : ℕ) (body : Runs E N) : Type 0 where
  pub growing : Growing body
  pub from : (s : State E N) → Further s.fuel more (body s) (body (with_more more s))

-- A test keeps the laws of fuel: it goes on with what grows, with what lasts, and in the same way with what is the same
-- from there on, or ends there.
pub record LawfulTest {E N : Type 0} (decide : Test E N) : Type 0 where
  pub growing : GrowingTest decide
  pub lasts : (more : ℕ) (f f2 h h2 : Runs E N) (s : State E N) → ((t : State E N) → t.fuel ≤ s.fuel → Further t.fuel more (f t) (h (with_more more t))) → ((t : State E N) → t.fuel ≤ s.fuel → Further t.fuel more (f2 t) (h2 (with_more more t)))
      → Further s.fuel more (decide f f2 s) (decide h h2 (with_more more s))
  pub same : (f h no : Runs E N) (s : State E N) → ((t : State E N) → t.fuel ≤ s.fuel → f t ≡ h t) → decide f no s ≡ decide h no s

pub wider : {E N : Type 0} {limit limit2 more : ℕ} {a b : Ran E N} → limit ≤ limit2 → Further limit more a b → Further limit2 more a b
wider le (went less) = went (omega arith)
wider le (trapped less) = trapped (omega arith)
wider le (spent grown) = spent grown
wider le mistaken = mistaken

pub behind_further : {E N : Type 0} {limit more : ℕ} {a b : Ran E N} (f h : Runs E N) → Further limit more a b → ((s : State E N) → s.fuel ≤ limit → Further s.fuel more (f s) (h (with_more more s)))
    → ((s : State E N) → s.fuel ≤ limit + more → Grows s.out s.fuel (h s)) → Further limit more (behind a f) (behind b h)
behind_further f h (went {s = s} le) next grow = wider le (next s le)
behind_further f h (trapped le) next grow = trapped le
behind_further f h (spent grown) next grow = spent (behind_grows h grown (λ s le. grow s (omega arith)))
behind_further f h mistaken next grow = mistaken

pub further_if : {E N : Type 0} {limit more : ℕ} {a b c d : Ran E N} (holds : Bool) → Further limit more a c → Further limit more b d → Further limit more (cond holds a b) (cond holds c d)
further_if true p q = p
further_if false p q = q

pub goes_on : {E N : Type 0} (more : ℕ) (s : State E N) → Further s.fuel more (Went s) (Went (with_more more s))
goes_on more s = went {s = s} (omega arith)

-- ---- turns

some_fuel : (n : ℕ) → eqb n 0 ≡ false → 0 < n
some_fuel n e = let none : n ≢ 0 = eqb-false n 0 e in omega arith

still_some : (n more : ℕ) → 0 < n → eqb (n + more) 0 ≡ false
still_some n more some = ne_eqb (n + more) 0 (omega arith)

-- two turns, of which the first is out of fuel where it has none, and the second not before it
turn_if : {E N : Type 0} {limit more : ℕ} {a b : Ran E N} (s : State E N) (none none_later : Bool) (later : State E N) → (none ≡ true → Grows s.out (more - 1) (cond none_later (Spent later) b)) → (none ≡ false → none_later ≡ false)
    → (none ≡ false → Further limit more a b) → Further limit more (cond none (Spent s) a) (cond none_later (Spent later) b)
turn_if s true none_later later grown same next = spent (grown refl)
turn_if {limit = limit} {more = more} {a = a} {b = b} s false none_later later grown same next =
    subst (λ no. Further limit more a (cond no (Spent later) b)) (sym (same refl)) (next refl)

turned_more : {E N : Type 0} (more : ℕ) (s : State E N) → 0 < s.fuel → with_more more (turned s) ≡ turned (with_more more s)
turned_more more s some = let e : (s.fuel - 1) + more ≡ (s.fuel + more) - 1 = omega arith in ap (λ (k : ℕ). record s { fuel = k }) e

turn_further : {E N : Type 0} (more : ℕ) (body f h : Runs E N) (s : State E N) → Lasting more body → ((t : State E N) → t.fuel < s.fuel → Further t.fuel more (f t) (h (with_more more t))) → ((t : State E N) → t.fuel < s.fuel + more → Grows t.out t.fuel (h t))
    → Further s.fuel more (turn body f s) (turn body h (with_more more s))
turn_further more body f h s lasting next grow =
    turn_if s (eqb s.fuel 0) (eqb (s.fuel + more) 0) (with_more more s)
    (λ e. let none : s.fuel ≡ 0 = growth.no_fuel s.fuel e in onward (front_same s.out) (omega arith) (turn_grows body h (with_more more s) lasting.growing grow))
    (λ e. still_some s.fuel more (some_fuel s.fuel e))
    (λ e.
    let some : 0 < s.fuel = some_fuel s.fuel e in
    let first : Further (s.fuel - 1) more (body (turned s)) (body (turned (with_more more s))) =
    subst (λ t. Further (s.fuel - 1) more (body (turned s)) (body t)) (turned_more more s some) (lasting.from (turned s)) in
    wider (omega arith) (behind_further f h first (λ t le. next t (omega arith)) (λ t le. grow t (omega arith))))

pub turns_further : {E N : Type 0} (more j k : ℕ) (decide : Test E N) (body : Runs E N) → LawfulTest decide → Lasting more body → (s : State E N) → s.fuel < j → s.fuel + more < k
    → Further s.fuel more (turns j decide body s) (turns k decide body (with_more more s))
unfolding turns
turns_further more zero k decide body test lasting s less less2 = absurd (omega arith)
turns_further more (suc j) zero decide body test lasting s less less2 = absurd (omega arith)
turns_further more (suc j) (suc k) decide body test lasting s less less2 =
    test.lasts more (turn body (turns j decide body)) Went (turn body (turns k decide body)) Went s
    (λ t le. turn_further more body (turns j decide body) (turns k decide body) t lasting (λ u lt. turns_further more j k decide body test lasting u (omega arith) (omega arith))
    (λ u lt. turns_grow k decide body test.growing lasting.growing u (omega arith)))
    (λ t le. goes_on more t)

-- ---- the number of turns

behind_same : {E N : Type 0} {limit : ℕ} {out : List ℕ} {ran : Ran E N} (f h : Runs E N) → Grows out limit ran → ((s : State E N) → s.fuel ≤ limit → f s ≡ h s) → behind ran f ≡ behind ran h
behind_same f h (growth.went {s = s} p le) same = same s le
behind_same f h (growth.trapped p le) same = refl
behind_same f h (growth.spent p none) same = refl
behind_same f h growth.mistaken same = refl

same_if : {E N : Type 0} {a b : Ran E N} (none : Ran E N) (holds : Bool) → (holds ≡ false → a ≡ b) → cond holds none a ≡ cond holds none b
same_if none true same = refl
same_if none false same = same refl

turn_same : {E N : Type 0} (body f h : Runs E N) (s : State E N) → Growing body → ((t : State E N) → t.fuel < s.fuel → f t ≡ h t) → turn body f s ≡ turn body h s
turn_same body f h s growing same =
    same_if (Spent s) (eqb s.fuel 0) (λ e. let some : 0 < s.fuel = some_fuel s.fuel e in behind_same f h (growing.from (turned s)) (λ t le. same t (omega arith)))

-- the number that turns are counted by does not matter where it is greater than the fuel
pub turns_same : {E N : Type 0} (decide : Test E N) (body : Runs E N) → LawfulTest decide → Growing body → (j k : ℕ) (s : State E N) → s.fuel < j → s.fuel < k → turns j decide body s ≡ turns k decide body s
unfolding turns
turns_same decide body test growing zero k s less less2 = absurd (omega arith)
turns_same decide body test growing (suc j) zero s less less2 = absurd (omega arith)
turns_same decide body test growing (suc j) (suc k) s less less2 =
    test.same (turn body (turns j decide body)) (turn body (turns k decide body)) Went s
    (λ t le. turn_same body (turns j decide body) (turns k decide body) t growing (λ u lt. turns_same decide body test growing j k u (omega arith) (omega arith)))

-- ---- what lasts

pub lasts_of : {E N : Type 0} {limit more : ℕ} {a b : Ran E N} → Further limit more a b → Lasts more a b
lasts_of (went le) = refl
lasts_of (trapped le) = refl
lasts_of (spent grown) = writes_of grown
lasts_of mistaken = refl
