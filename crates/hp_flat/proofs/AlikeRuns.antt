-- A run of a script and the run of its program that end alike, statement by statement.
use Rattle.std.proofs.Common.{◌≡◌, ℕ, zero, suc, ◌+◌, ◌*◌, ◌≤◌, ◌==◌, Bool, true, false, cond, List, Some, refl, sym, subst, arith}
use Rattle.hp_word.specs.declared.place.Trap.{Trap}
use Rattle.hp_word.specs.Runs as runs
use Rattle.hp_word.specs.Runs.{Went, Trapped, Spent, Mistaken, behind, turned, turn, turns}
use Rattle.hp_script.specs.Mirror.{Tree}
use Rattle.hp_script.specs.Nodes.{nodes_in}
use Rattle.hp_meaning.specs.declared.seen.Seen.{Seen}
use Rattle.hp_meaning.specs.declared.value.Value.{Value}
use Rattle.hp_meaning.specs.declared.value.Var.{Var}
use Rattle.hp_meaning.specs.Outcomes.{Outcome, Is}
use Rattle.hp_meaning.proofs.Fine.{Fine, is}
use Rattle.hp_meaning.specs.Run.{State, Ran, using_value, End, end_of}
use Rattle.hp_meaning.specs.Run as Run
use Rattle.hp_meaning.specs.Scopes.{value_named}
use Rattle.hp_program.specs.Programs as programs
use Rattle.hp_air.specs.Wholes.{Env, unset}
use Rattle.hp_flat.specs.FlatLaws.{EndsAs, as_done, as_trapped, as_spent}
use Rattle.hp_flat.specs.Homes.{Homes}
use Rattle.hp_flat.specs.Standing.{VarsStand, HasMet, KeepsOthers, ComesToValue, comes_to, comes_to_trap, comes_to_none}
use Rattle.hp_flat.proofs.OperandRuns.{StandsAt}

-- The states of a script and of its program: the variables stand in their places, the orders, the output and the fuel are
-- the same, and each tick of the script pays for sixteen units of work; so much of that is left.
pub record IsAlike (h : Homes) (left : ℕ) (s : State) (t : runs.State Env ℕ) : Type 0 where
  pub vars : VarsStand h t.env s.env
  pub met : HasMet t.env s.seen.met
  pub out : t.out ≡ s.out
  pub fuel : t.fuel ≡ s.fuel
  pub paid : t.seen + left ≤ 16 * (s.seen.ticks + 1)

-- The program's run ends as the script's, where P holds of the script's state if it goes on; of a wrong run nothing is said.
pub data EndsAlike (h : Homes) (left : ℕ) (P : State → Type 0) : Ran → runs.Ran Env ℕ → Type 0 where
  both_went : {s : State} {t : runs.State Env ℕ} → P s → IsAlike h left s t → EndsAlike h left P (Went s) (Went t)
  both_trapped : {trap : Trap} {s : State} {t : runs.State Env ℕ} → t.out ≡ s.out → t.seen ≤ 16 * (s.seen.ticks + 1) → EndsAlike h left P (Trapped trap s) (Trapped trap t)
  both_spent : {s : State} {t : runs.State Env ℕ} → t.out ≡ s.out → t.seen ≤ 16 * (s.seen.ticks + 1) → EndsAlike h left P (Spent s) (Spent t)
  of_mistaken : {ran : runs.Ran Env ℕ} → EndsAlike h left P Mistaken ran

-- runs that end alike from states that are alike
abbrev pub RunAlike : (h : Homes) (before left : ℕ) (P Q : State → Type 0) → (State → Ran) → (runs.State Env ℕ → runs.Ran Env ℕ) → Type 0
RunAlike h before left P Q run own = (s : State) (t : runs.State Env ℕ) → P s → IsAlike h before s t → EndsAlike h left Q (run s) (own t)

module _ (h : Homes) where
  pub behind_alike : {before left : ℕ} {P Q : State → Type 0} {a : Ran} {b : runs.Ran Env ℕ} (f : State → Ran) (k : runs.State Env ℕ → runs.Ran Env ℕ)
      → EndsAlike h before P a b → RunAlike h before left P Q f k → EndsAlike h left Q (behind a f) (behind b k)
  behind_alike f k (both_went holds alike) next = next _ _ holds alike
  behind_alike f k (both_trapped out paid) next = both_trapped out paid
  behind_alike f k (both_spent out paid) next = both_spent out paid
  behind_alike f k of_mistaken next = of_mistaken

  pub if_alike : {left : ℕ} {P : State → Type 0} {a c : Ran} {b e : runs.Ran Env ℕ} (holds : Bool) → EndsAlike h left P a b → EndsAlike h left P c e → EndsAlike h left P (cond holds a c) (cond holds b e)
  if_alike true p q = p
  if_alike false p q = q

  -- less is left
  pub less_left : {more left : ℕ} {s : State} {t : runs.State Env ℕ} → left ≤ more → IsAlike h more s t → IsAlike h left s t
  less_left le alike = record { vars = alike.vars; met = alike.met; out = alike.out; fuel = alike.fuel; paid = let paid = alike.paid in omega (arith, paid, le) }

  turned_alike : {left : ℕ} {s : State} {t : runs.State Env ℕ} → IsAlike h left s t → IsAlike h left (turned s) (turned t)
  turned_alike alike = record { vars = alike.vars; met = alike.met; out = alike.out; fuel = let same = alike.fuel in omega (arith, same); paid = alike.paid }

  turn_alike : {left : ℕ} {P Q : State → Type 0} (body more : State → Ran) (own_body own_more : runs.State Env ℕ → runs.Ran Env ℕ)
      → ((s : State) → P s → P (turned s)) → RunAlike h left left P P body own_body → RunAlike h left left P Q more own_more
      → RunAlike h left left P Q (turn body more) (turn own_body own_more)
  turn_alike {left = left} {Q = Q} body more own_body own_more kept first next s t holds alike =
      subst (λ (n : ℕ). EndsAlike h left Q (turn body more s) (cond (n == 0) (Spent t) (behind (own_body (turned t)) own_more))) (sym alike.fuel)
      (if_alike (s.fuel == 0) (both_spent alike.out (let paid = alike.paid in omega (arith, paid)))
      (behind_alike more own_more (first (turned s) (turned t) (kept s holds) (turned_alike alike)) next))

  -- The turns of a loop, whose test decides in both alike. The numbers are greater than the fuel.
  pub turns_alike : {left : ℕ} {P Q : State → Type 0} (k : ℕ) (decide : runs.Test (List Var) Seen) (body : State → Ran) (own_decide : runs.Test Env ℕ) (own_body : runs.State Env ℕ → runs.Ran Env ℕ)
      → ((s : State) → P s → P (turned s)) → ((s : State) → P s → Q s) → RunAlike h left left P P body own_body
      → ((yes no : State → Ran) (own_yes own_no : runs.State Env ℕ → runs.Ran Env ℕ) → RunAlike h left left P Q yes own_yes → RunAlike h left left P Q no own_no
      → RunAlike h left left P Q (decide yes no) (own_decide own_yes own_no))
      → RunAlike h left left P Q (turns k decide body) (turns k own_decide own_body)
  unfolding turns
  turns_alike zero decide body own_decide own_body kept ends first test s t holds alike = both_spent alike.out (let paid = alike.paid in omega (arith, paid))
  turns_alike (suc k) decide body own_decide own_body kept ends first test s t holds alike =
      test (turn body (turns k decide body)) Went (turn own_body (turns k own_decide own_body)) Went
      (turn_alike body (turns k decide body) own_body (turns k own_decide own_body) kept first (turns_alike k decide body own_decide own_body kept ends first test))
      (λ s t holds alike. both_went (ends s holds) alike) s t holds alike

  -- The value of an expression in a statement: the run of the script and that of the program go on with it.
  fine_is : {K : Value → Type 0} {a : Value} {n : Seen} → Fine Value K (Is a n) → K a
  fine_is (is holds) = holds

  -- It is a value of which K holds, where each value of the expression is.
  pub used_alike : {left : ℕ} {Q : State → Type 0} {K : Value → Type 0} {x : Tree} {n : Seen} {outcome : Outcome Value} {ran : runs.Ran Env ℕ} (s : State) (t : runs.State Env ℕ) (more : Value → State → Ran) (code : runs.State Env ℕ → runs.Ran Env ℕ)
      → Fine Value K outcome → ComesToValue h x n t outcome ran → t.seen ≤ 16 * (n.ticks + 1) → t.out ≡ s.out
      → ((a : Value) (m : Seen) (e : Env) (work : ℕ) → K a → StandsAt h e x a → KeepsOthers h (nodes_in x) t.env e → HasMet e m.met → work + 4 ≤ 16 * (m.ticks + 1)
      → EndsAlike h left Q (more a (record s { seen = m })) (code (record t { env = e; seen = work })))
      → EndsAlike h left Q (using_value s outcome more) (behind ran code)
  used_alike s t more code fine (comes_to {a = a} {after = m} {e = e} {work = work} stands keeps met paid) few same next = next a m e work (fine_is fine) stands keeps met (omega (arith, paid, few))
  used_alike s t more code fine (comes_to_trap paid) few same next = both_trapped same (omega (arith, paid, few))
  used_alike s t more code fine comes_to_none few same next = of_mistaken

  -- ---- how a run ends

  is_end : {e f : End} → Some e ≡ Some f → e ≡ f
  is_end same = cc

  -- a program whose run ends as that of its script ends as the script does
  pub ends_as : {left : ℕ} {P : State → Type 0} {a : Ran} {b : runs.Ran Env ℕ} (e : End) → EndsAlike h left P a b → end_of a ≡ Some e → EndsAs e b
  ends_as e (both_went {s = s} {t = t} holds alike) same =
      let paid = alike.paid in
      subst (λ (f : End). EndsAs f (Went t)) (is_end same) (as_done refl alike.out alike.met.bad alike.fuel (omega (arith, paid)))
  ends_as e (both_trapped {trap = k} {t = t} out paid) same = subst (λ (f : End). EndsAs f (Trapped k t)) (is_end same) (as_trapped refl out paid)
  ends_as e (both_spent {t = t} out paid) same = subst (λ (f : End). EndsAs f (Spent t)) (is_end same) (as_spent refl out paid)
  ends_as e of_mistaken same = absurd cc

  -- before the first statement a script and its program are alike
  pub start_alike : (fuel : ℕ) → IsAlike h 0 (Run.start fuel) (programs.start unset fuel)
  unfolding value_named
  start_alike fuel = record { vars = λ x a found. absurd cc; met = record { executed = refl; bad = refl }; out = refl; fuel = refl; paid = omega arith }
