-- Along a run the output only grows, and the fuel does not rise; and a run that is out of fuel has none left.
use Rattle.std.proofs.Common.{◌≡◌, ◌≢◌, ℕ, zero, suc, ◌-◌, ◌<◌, ◌≤◌, eqb, Bool, true, false, cond, List, [], ◌++◌, refl, sym, ap, subst, ◌∙◌, arith, append_assoc, append-nil}
use Rattle.std.proofs.lemmas.Bool.{eqb-true, eqb-false}
use Rattle.hp_word.specs.declared.place.Trap.{Trap}
use Rattle.hp_word.specs.Runs.{State, Ran, Went, Trapped, Spent, Mistaken, Runs, Test, behind, turned, turn, turns, IsFrontOf, Writes}

-- ---- fronts

pub front_same : (xs : List ℕ) → IsFrontOf xs xs
front_same xs = ([], sym (append-nil xs))

pub front_trans : (xs ys zs : List ℕ) → IsFrontOf xs ys → IsFrontOf ys zs → IsFrontOf xs zs
front_trans xs ys zs p q = (p.0 ++ q.0, q.1 ∙ (ap (λ l. l ++ q.0) p.1 ∙ append_assoc xs p.0 q.0))

-- ---- runs

-- a run from a state with this output and this fuel: the output that it comes to begins with this one, and there is no
-- more fuel then; and none, where it is out of it
pub data Grows {E N : Type 0} (out : List ℕ) (fuel : ℕ) : Ran E N → Type 0 where
  went : {s : State E N} → IsFrontOf out s.out → s.fuel ≤ fuel → Grows out fuel (Went s)
  trapped : {t : Trap} {s : State E N} → IsFrontOf out s.out → s.fuel ≤ fuel → Grows out fuel (Trapped t s)
  spent : {s : State E N} → IsFrontOf out s.out → s.fuel ≡ 0 → Grows out fuel (Spent s)
  mistaken : Grows out fuel Mistaken

-- each run of these statements grows
pub record Growing {E N : Type 0} (body : Runs E N) : Type 0 where
  pub from : (s : State E N) → Grows s.out s.fuel (body s)

-- a test goes on with what grows, or ends there
pub record GrowingTest {E N : Type 0} (decide : Test E N) : Type 0 where
  pub from : (yes no : Runs E N) (s : State E N) → ((t : State E N) → t.fuel ≤ s.fuel → Grows t.out t.fuel (yes t)) → ((t : State E N) → t.fuel ≤ s.fuel → Grows t.out t.fuel (no t))
      → Grows s.out s.fuel (decide yes no s)

pub onward : {E N : Type 0} {out later : List ℕ} {fuel left : ℕ} {ran : Ran E N} → IsFrontOf out later → left ≤ fuel → Grows later left ran → Grows out fuel ran
onward {out = out} {later = later} p le (went {s = s} q less) = went (front_trans out later s.out p q) (omega arith)
onward {out = out} {later = later} p le (trapped {s = s} q less) = trapped (front_trans out later s.out p q) (omega arith)
onward {out = out} {later = later} p le (spent {s = s} q none) = spent (front_trans out later s.out p q) none
onward p le mistaken = mistaken

pub behind_grows : {E N : Type 0} {out : List ℕ} {fuel : ℕ} {ran : Ran E N} (more : Runs E N) → Grows out fuel ran → ((s : State E N) → s.fuel ≤ fuel → Grows s.out s.fuel (more s)) → Grows out fuel (behind ran more)
behind_grows more (went {s = s} p le) next = onward p le (next s le)
behind_grows more (trapped p le) next = trapped p le
behind_grows more (spent p none) next = spent p none
behind_grows more mistaken next = mistaken

pub grows_if : {E N : Type 0} {out : List ℕ} {fuel : ℕ} {a b : Ran E N} (holds : Bool) → Grows out fuel a → Grows out fuel b → Grows out fuel (cond holds a b)
grows_if true p q = p
grows_if false p q = q

pub stays : {E N : Type 0} (s : State E N) → Grows s.out s.fuel (Went s)
stays s = went (front_same s.out) (omega arith)

-- ---- turns

turn_if : {E N : Type 0} {out : List ℕ} {fuel : ℕ} {a b : Ran E N} (holds : Bool) → (holds ≡ true → Grows out fuel a) → (holds ≡ false → Grows out fuel b) → Grows out fuel (cond holds a b)
turn_if true p q = p refl
turn_if false p q = q refl

pub no_fuel : (n : ℕ) → eqb n 0 ≡ true → n ≡ 0
no_fuel n e = eqb-true n 0 e

-- a turn takes a fuel, or there is none
pub turn_grows : {E N : Type 0} (body more : Runs E N) (s : State E N) → Growing body → ((t : State E N) → t.fuel < s.fuel → Grows t.out t.fuel (more t)) → Grows s.out (s.fuel - 1) (turn body more s)
turn_grows body more s growing next =
    turn_if (eqb s.fuel 0) (λ e. spent (front_same s.out) (eqb-true s.fuel 0 e))
    (λ e. let some : s.fuel ≢ 0 = eqb-false s.fuel 0 e in behind_grows more (growing.from (turned s)) (λ t le. next t (omega arith)))

pub turns_grow : {E N : Type 0} (k : ℕ) (decide : Test E N) (body : Runs E N) → GrowingTest decide → Growing body → (s : State E N) → s.fuel < k → Grows s.out s.fuel (turns k decide body s)
unfolding turns
turns_grow zero decide body test growing s less = absurd (omega arith)
turns_grow (suc k) decide body test growing s less =
    test.from (turn body (turns k decide body)) Went s
    (λ t le. onward (front_same t.out) (omega arith) (turn_grows body (turns k decide body) t growing (λ u lt. turns_grow k decide body test growing u (omega arith))))
    (λ t le. stays t)

-- ---- what is written

pub writes_of : {E N : Type 0} {out : List ℕ} {fuel : ℕ} {ran : Ran E N} → Grows out fuel ran → Writes out ran
writes_of (went p le) = p
writes_of (trapped p le) = p
writes_of (spent p none) = p
writes_of mistaken = tt

-- ---- the fuel behind a run

same_state : {E N : Type 0} {s t : State E N} → Went s ≡ Went t → s ≡ t
same_state e = cc

pub left_of : {E N : Type 0} {out : List ℕ} {fuel : ℕ} {ran : Ran E N} (now : State E N) → Grows out fuel ran → ran ≡ Went now → now.fuel ≤ fuel
left_of {fuel = fuel} now (went p le) e = subst (λ t. t.fuel ≤ fuel) (same_state e) le
left_of now (trapped p le) e = absurd cc
left_of now (spent p none) e = absurd cc
left_of now mistaken e = absurd cc
