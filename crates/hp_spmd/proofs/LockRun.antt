-- One step of a run.
use Rattle.std.proofs.Common.{◌≡◌, refl, ap, ℕ, zero, suc, List}
use Rattle.hp_word.specs.declared.place.Trap.{Trap}
use Rattle.hp_spmd.specs.declared.store.Store.{Store}
use Rattle.hp_spmd.specs.Kinds.{Kind, Computes, Jumps, Packs, Posts, Takes, PostsRoot, TakesRoot, Unpacks, Writes, Halts}
use Rattle.hp_spmd.specs.Next.{Next}
use Rattle.hp_spmd.specs.Lockstep.{State, Step, Ends, Trips, Steps, Together, All, One, Ended, Trapped, Limit, at_limit, go_on, of_together, together, run_by, step_by}

-- where the code has ended, the run is over at any limit
pub run_ends : (f : State → Step) (k : ℕ) (s : State) → f s ≡ Ends → run_by f k s ≡ Ended s
unfolding run_by
run_ends f zero s e = ap (λ t. at_limit t s) e
run_ends f (suc k) s e = ap (λ t. go_on t s (run_by f k)) e

pub run_trips : (f : State → Step) (k : ℕ) (s : State) (t : Trap) → f s ≡ Trips t → run_by f (suc k) s ≡ Trapped t s
unfolding run_by
run_trips f k s t e = ap (λ t. go_on t s (run_by f k)) e

pub run_steps : (f : State → Step) (k : ℕ) (s s2 : State) → f s ≡ Steps s2 → run_by f (suc k) s ≡ run_by f k s2
unfolding run_by
run_steps f k s s2 e = ap (λ t. go_on t s (run_by f k)) e

-- whether the code has ended
abbrev pub IsEnd : Step → Type 0
IsEnd Ends = Unit {0}
IsEnd (Trips t) = ⊥
IsEnd (Steps s) = ⊥

stopped : (t : Step) (s : State) → (IsEnd t → ⊥) → at_limit t s ≡ Limit s
stopped Ends s ne = absurd (ne tt)
stopped (Trips t) s ne = refl
stopped (Steps s2) s ne = refl

pub run_at_limit : (f : State → Step) (s : State) → (IsEnd (f s) → ⊥) → run_by f 0 s ≡ Limit s
unfolding run_by
run_at_limit f s ne = stopped (f s) s ne

-- ---- only Halt ends a run

abbrev pub IsHalt : Kind → Type 0
IsHalt Computes = ⊥
IsHalt (Jumps target unless) = ⊥
IsHalt (Packs what) = ⊥
IsHalt Posts = ⊥
IsHalt Takes = ⊥
IsHalt PostsRoot = ⊥
IsHalt TakesRoot = ⊥
IsHalt (Unpacks what) = ⊥
IsHalt (Writes output) = ⊥
IsHalt Halts = Unit {0}

together_goes_on : (t : Together) (out : List ℕ) → IsEnd (of_together t out) → ⊥
together_goes_on (All xs) out e = e
together_goes_on (One t) out e = e

pub only_halt_ends : (kind : Kind) (f : Store → Next) (s : State) → IsEnd (step_by kind f s) → IsHalt kind
only_halt_ends Computes f s e = together_goes_on (together f s.ranks) s.out e
only_halt_ends (Jumps target unless) f s e = e
only_halt_ends (Packs what) f s e = together_goes_on (together f s.ranks) s.out e
only_halt_ends Posts f s e = e
only_halt_ends Takes f s e = e
only_halt_ends PostsRoot f s e = e
only_halt_ends TakesRoot f s e = e
only_halt_ends (Unpacks what) f s e = together_goes_on (together f s.ranks) s.out e
only_halt_ends (Writes output) f s e = e
only_halt_ends Halts f s e = tt
