-- Runs of statements with loops, over any environment `E` and any record `N` of what was seen on the way: how far they
-- come, and what the number of turns that are allowed changes of that.
use Rattle.std.specs.Prelude.{◌≡◌, ℕ, zero, suc, ◌+◌, ◌-◌, ◌==◌, if◌then◌else◌, List, ◌++◌}
use Rattle.hp_word.specs.declared.place.Trap.{Trap}

-- ---- states

-- how far a run has come: its environment, what was seen, what was written, and how many loop turns are left
pub record State (E N : Type 0) : Type 0 where
  pub env : E
  pub seen : N
  pub out : List ℕ
  pub fuel : ℕ

-- What a run of statements comes to, with the state there: behind them; at a trap; at a loop turn for which there is no
-- fuel; or it is wrong, as an expression can be.
pub data Ran (E N : Type 0) : Type 0 where
  Went : State E N → Ran E N
  Trapped : Trap → State E N → Ran E N
  Spent : State E N → Ran E N
  Mistaken : Ran E N

-- statements: what they come to from each state on
abbrev pub Runs : (E N : Type 0) → Type 0
Runs E N = State E N → Ran E N

-- a test: which of two runs it goes on with, and from which state
abbrev pub Test : (E N : Type 0) → Type 0
Test E N = (yes no : Runs E N) → Runs E N

-- what is done behind a run
abbrev pub behind : {E N : Type 0} → Ran E N → Runs E N → Ran E N
behind (Went s) more = more s
behind (Trapped t s) more = Trapped t s
behind (Spent s) more = Spent s
behind Mistaken more = Mistaken

-- ---- loops

-- a loop turn takes one fuel
abbrev pub turned : {E N : Type 0} → State E N → State E N
turned s = record s { fuel = s.fuel - 1 }

-- a turn whose test was true, where there is fuel for it, and then the other turns
abbrev pub turn : {E N : Type 0} → (body more : Runs E N) → Runs E N
turn body more s = if s.fuel == 0 then Spent s else behind (body (turned s)) more

-- The turns of a loop: the test comes first, and only a true one wants a turn. The number is greater than the fuel, of
-- which each turn takes one, so that it is never used up.
unfoldable pub turns : {E N : Type 0} → ℕ → (decide : Test E N) → (body : Runs E N) → Runs E N
turns zero decide body s = Spent s
turns (suc k) decide body s = decide (turn body (turns k decide body)) Went s

-- ---- more fuel

-- the list is a front of another
abbrev pub IsFrontOf : List ℕ → List ℕ → Type 0
IsFrontOf xs ys = (rest : List ℕ) × (ys ≡ xs ++ rest)

-- what the run has written, from its beginning on, begins with these bytes; a wrong run is not asked
abbrev pub Writes : {E N : Type 0} → List ℕ → Ran E N → Type 0
Writes before (Went s) = IsFrontOf before s.out
Writes before (Trapped t s) = IsFrontOf before s.out
Writes before (Spent s) = IsFrontOf before s.out
Writes before Mistaken = Unit {0}

-- the same state, with this much more fuel left
abbrev pub with_more : {E N : Type 0} → ℕ → State E N → State E N
with_more more s = record s { fuel = s.fuel + more }

-- A run and the one that has this much more fuel from the same state on: what is over under less fuel is over at the
-- same state under more, but for the fuel left; what is wrong stays so; and a run that is out of fuel may go on, behind
-- what it has written.
abbrev pub Lasts : {E N : Type 0} → ℕ → (less greater : Ran E N) → Type 0
Lasts more (Went s) greater = greater ≡ Went (with_more more s)
Lasts more (Trapped t s) greater = greater ≡ Trapped t (with_more more s)
Lasts more (Spent s) greater = Writes s.out greater
Lasts more Mistaken greater = greater ≡ Mistaken
