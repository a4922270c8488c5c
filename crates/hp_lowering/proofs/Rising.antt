-- Along the lockstep the output only grows, and so does what is paid.
use Rattle.std.proofs.Common.{◌≡◌, refl, sym, subst, ap, arith, ℕ, zero, suc, ◌+◌, ◌≤◌, List}
use Rattle.hp_word.specs.declared.place.Trap.{Trap}
use Rattle.hp_word.specs.declared.table.Tables.{Tables}
use Rattle.hp_word.specs.Runs.{IsFrontOf}
use Rattle.hp_word.proofs.RunGrowth.{front_same, front_trans}
use Rattle.hp_spmd.specs.declared.code.Code.{Code}
use Rattle.hp_spmd.specs.declared.store.Store.{Store}
use Rattle.hp_spmd.specs.Kinds.{Kind, Computes, Jumps, Packs, Posts, Takes, PostsRoot, TakesRoot, Unpacks, Writes, Halts, kind_of}
use Rattle.hp_spmd.specs.Local.{local_next}
use Rattle.hp_spmd.specs.Lockstep.{State, Step, Ends, Trips, Steps, Together, All, One, Reached, go_on, of_together, position_of, run, run_by, state_of, step, step_by, text_of, together}
use Rattle.hp_spmd.specs.Next.{Next}
use Rattle.hp_spmd.specs.Store.{instr_at}
use Rattle.hp_snippet.specs.Leads.{paid, price_then}
use Rattle.hp_snippet.proofs.Leading.{run_none}

-- ---- one step

-- a step has written behind what was written
abbrev Adds : List ℕ → Step → Type 0
Adds out (Steps t) = IsFrontOf out t.out
Adds out _ = Unit {0}

together_adds : (t : Together) (out : List ℕ) → Adds out (of_together t out)
together_adds (All xs) out = front_same out
together_adds (One t) out = tt

step_adds : (kind : Kind) (f : Store → Next) (s : State) → Adds s.out (step_by kind f s)
step_adds Computes f s = together_adds (together f s.ranks) s.out
step_adds (Jumps target unless) f s = front_same s.out
step_adds (Packs what) f s = together_adds (together f s.ranks) s.out
step_adds Posts f s = front_same s.out
step_adds Takes f s = front_same s.out
step_adds PostsRoot f s = front_same s.out
step_adds TakesRoot f s = front_same s.out
step_adds (Unpacks what) f s = together_adds (together f s.ranks) s.out
step_adds (Writes output) f s = (text_of output s.ranks, refl)
step_adds Halts f s = tt

adds : (code : Code) (tables : Tables) (s : State) → Adds s.out (step code tables s)
unfolding step
adds code tables s = let i = instr_at code.list (position_of s.ranks) in step_adds (kind_of i) (local_next code.arrays tables i) s

-- ---- runs

-- one run has come further than another
abbrev Further : Reached → Reached → Type 0
Further a b = IsFrontOf (state_of a).out (state_of b).out

from_here : (u : Step) (s : State) (rest : State → Reached) → Adds s.out u → ((t : State) → IsFrontOf t.out (state_of (rest t)).out) → IsFrontOf s.out (state_of (go_on u s rest)).out
from_here Ends s rest h more = front_same s.out
from_here (Trips t) s rest h more = front_same s.out
from_here (Steps t) s rest h more = front_trans s.out t.out (state_of (rest t)).out h (more t)

run_adds : (code : Code) (tables : Tables) (k : ℕ) (s : State) → IsFrontOf s.out (state_of (run code tables k s)).out
unfolding run_by
run_adds code tables zero s = subst (λ (t : State). IsFrontOf s.out t.out) (sym (run_none code tables s)) (front_same s.out)
run_adds code tables (suc k) s = from_here (step code tables s) s (run code tables k) (adds code tables s) (run_adds code tables k)

both_go : (u : Step) (s : State) (f g : State → Reached) → ((t : State) → Further (f t) (g t)) → Further (go_on u s f) (go_on u s g)
both_go Ends s f g h = front_same s.out
both_go (Trips t) s f g h = front_same s.out
both_go (Steps t) s f g h = h t

-- more instructions have written behind what fewer have
pub run_grows : (code : Code) (tables : Tables) (k m : ℕ) (s : State) → Further (run code tables k s) (run code tables (k + m) s)
unfolding run_by
run_grows code tables zero m s =
    let same : m ≡ 0 + m = omega arith in
    subst (λ n. Further (run code tables 0 s) (run code tables n s)) same (subst (λ (t : State). IsFrontOf t.out (state_of (run code tables m s)).out) (sym (run_none code tables s)) (run_adds code tables m s))
run_grows code tables (suc k) m s =
    let same : suc (k + m) ≡ suc k + m = omega arith in
    subst (λ n. Further (run code tables (suc k) s) (run code tables n s)) same (both_go (step code tables s) s (run code tables k) (run code tables (k + m)) (λ t. run_grows code tables k m t))

-- ---- prices

both_pay : (u : Step) (here : ℕ) (f g : State → ℕ) → ((t : State) → f t ≤ g t) → price_then here f u ≤ price_then here g u
both_pay Ends here f g h = omega arith
both_pay (Trips t) here f g h = omega arith
both_pay (Steps t) here f g h = let le = h t in omega (arith, le)

pub paid_grows : (code : Code) (tables : Tables) (price : Kind → ℕ) (k m : ℕ) (s : State) → paid code tables price k s ≤ paid code tables price (k + m) s
unfolding paid
paid_grows code tables price zero m s = omega arith
paid_grows code tables price (suc k) m s =
    let same : suc (k + m) ≡ suc k + m = omega arith in
    subst (λ n. paid code tables price (suc k) s ≤ paid code tables price n s) same
    (both_pay (step code tables s) (price (kind_of (instr_at code.list (position_of s.ranks)))) (paid code tables price k) (paid code tables price (k + m)) (λ t. paid_grows code tables price k m t))

-- where the next instruction trips or ends, nothing is paid
pub paid_none : (code : Code) (tables : Tables) (price : Kind → ℕ) (k : ℕ) (s : State) (t : Trap) → step code tables s ≡ Trips t → paid code tables price k s ≡ 0
unfolding paid
paid_none code tables price zero s t e = refl
paid_none code tables price (suc k) s t e = ap (price_then (price (kind_of (instr_at code.list (position_of s.ranks)))) (paid code tables price k)) e

pub paid_end : (code : Code) (tables : Tables) (price : Kind → ℕ) (k : ℕ) (s : State) → step code tables s ≡ Ends → paid code tables price k s ≡ 0
unfolding paid
paid_end code tables price zero s e = refl
paid_end code tables price (suc k) s e = ap (price_then (price (kind_of (instr_at code.list (position_of s.ranks)))) (paid code tables price k)) e
