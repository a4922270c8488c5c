-- Runs of different limits: what is over stays, and output only grows.
use Rattle.std.proofs.Common.{◌≡◌, ◌∙◌, refl, sym, subst, ap, arith, ℕ, zero, suc, ◌≤◌, List, [], ◌++◌, append_assoc}
use Rattle.std.proofs.lemmas.List.{append-nil}
use Rattle.hp_word.specs.declared.table.Tables.{Tables}
use Rattle.hp_spmd.specs.declared.code.Code.{Code}
use Rattle.hp_spmd.specs.declared.store.Store.{Store}
use Rattle.hp_spmd.specs.Kinds.{Kind, Computes, Jumps, Packs, Posts, Takes, PostsRoot, TakesRoot, Unpacks, Writes, Halts, kind_of}
use Rattle.hp_spmd.specs.Local.{local_next}
use Rattle.hp_spmd.specs.Next.{Next}
use Rattle.hp_spmd.specs.Lockstep.{IsOver, State, Step, Ends, Trips, Steps, Together, All, One, Reached, at_limit, go_on, of_together, together, run_by, step, step_by, state_of, text_of, position_of}
use Rattle.hp_spmd.specs.Store.{instr_at}
use Rattle.hp_spmd.proofs.LockRun.{run_ends}

-- ys begins with xs
pub record Begins (xs ys : List ℕ) : Type 0 where
  pub more : List ℕ
  pub is : ys ≡ xs ++ more

pub begins_same : (xs : List ℕ) → Begins xs xs
begins_same xs = record { more = []; is = sym (append-nil xs) }

pub begins_then : (xs ys zs : List ℕ) → Begins xs ys → Begins ys zs → Begins xs zs
begins_then xs ys zs a b =
    record { more = a.more ++ b.more; is = b.is ∙ ap (λ l. l ++ b.more) a.is ∙ append_assoc xs a.more b.more }

-- what a step writes comes behind what was written before
abbrev pub StepAppends : List ℕ → Step → Type 0
StepAppends out Ends = Unit {0}
StepAppends out (Trips t) = Unit {0}
StepAppends out (Steps s) = Begins out s.out

-- each step only appends to the output
abbrev pub OnlyAppends : (State → Step) → Type 0
OnlyAppends f = (s : State) → StepAppends s.out (f s)

-- the output where a run came to
abbrev pub out_of : Reached → List ℕ
out_of r = (state_of r).out

at_limit_out : (t : Step) (s : State) → out_of (at_limit t s) ≡ s.out
at_limit_out Ends s = refl
at_limit_out (Trips t) s = refl
at_limit_out (Steps s2) s = refl

go_on_grows : (t : Step) (s : State) (r : State → Reached) → ((s2 : State) → Begins s2.out (out_of (r s2))) → StepAppends s.out t → Begins s.out (out_of (go_on t s r))
go_on_grows Ends s r h a = begins_same s.out
go_on_grows (Trips t) s r h a = begins_same s.out
go_on_grows (Steps s2) s r h a = begins_then s.out s2.out (out_of (r s2)) a (h s2)

-- a run only appends to the output
pub out_grows : (f : State → Step) → OnlyAppends f → (k : ℕ) (s : State) → Begins s.out (out_of (run_by f k s))
unfolding run_by
out_grows f h zero s = subst (λ out. Begins s.out out) (sym (at_limit_out (f s) s)) (begins_same s.out)
out_grows f h (suc k) s = go_on_grows (f s) s (run_by f k) (out_grows f h k) (h s)

go_on_begins : (t : Step) (s : State) (r r2 : State → Reached) → ((s2 : State) → Begins (out_of (r s2)) (out_of (r2 s2))) → Begins (out_of (go_on t s r)) (out_of (go_on t s r2))
go_on_begins Ends s r r2 h = begins_same s.out
go_on_begins (Trips t) s r r2 h = begins_same s.out
go_on_begins (Steps s2) s r r2 h = h s2

-- under a greater limit the output begins with that under a lesser one
pub prefix_later : (f : State → Step) → OnlyAppends f → (k m : ℕ) (s : State) → k ≤ m → Begins (out_of (run_by f k s)) (out_of (run_by f m s))
unfolding run_by
prefix_later f h zero m s l = subst (λ out. Begins out (out_of (run_by f m s))) (sym (at_limit_out (f s) s)) (out_grows f h m s)
prefix_later f h (suc k) zero s l = absurd (omega (arith, l))
prefix_later f h (suc k) (suc m) s l =
    let fewer : k ≤ m = omega (arith, l) in
    go_on_begins (f s) s (run_by f k) (run_by f m) (λ s2. prefix_later f h k m s2 fewer)

over_at_limit : (t : Step) (s : State) → IsOver (at_limit t s) → t ≡ Ends
over_at_limit Ends s h = refl
over_at_limit (Trips t) s h = absurd h
over_at_limit (Steps s2) s h = absurd h

go_on_same : (t : Step) (s : State) (r r2 : State → Reached) → ((s2 : State) → IsOver (r s2) → r2 s2 ≡ r s2) → IsOver (go_on t s r) → go_on t s r2 ≡ go_on t s r
go_on_same Ends s r r2 h over = refl
go_on_same (Trips t) s r r2 h over = refl
go_on_same (Steps s2) s r r2 h over = h s2 over

-- a run that is over is the same under each greater limit
pub same_later : (f : State → Step) (k m : ℕ) (s : State) → k ≤ m → IsOver (run_by f k s) → run_by f m s ≡ run_by f k s
unfolding run_by
same_later f zero m s l over =
    let ends = over_at_limit (f s) s over in
    run_ends f m s ends ∙ sym (run_ends f 0 s ends)
same_later f (suc k) zero s l over = absurd (omega (arith, l))
same_later f (suc k) (suc m) s l over =
    let fewer : k ≤ m = omega (arith, l) in
    go_on_same (f s) s (run_by f k) (run_by f m) (λ s2. same_later f k m s2 fewer) over

-- ---- the steps of a code only append

together_appends : (t : Together) (out : List ℕ) → StepAppends out (of_together t out)
together_appends (All xs) out = begins_same out
together_appends (One t) out = tt

kind_appends : (kind : Kind) (f : Store → Next) (s : State) → StepAppends s.out (step_by kind f s)
kind_appends Computes f s = together_appends (together f s.ranks) s.out
kind_appends (Jumps target unless) f s = begins_same s.out
kind_appends (Packs what) f s = together_appends (together f s.ranks) s.out
kind_appends Posts f s = begins_same s.out
kind_appends Takes f s = begins_same s.out
kind_appends PostsRoot f s = begins_same s.out
kind_appends TakesRoot f s = begins_same s.out
kind_appends (Unpacks what) f s = together_appends (together f s.ranks) s.out
kind_appends (Writes output) f s = record { more = text_of output s.ranks; is = refl }
kind_appends Halts f s = tt

pub step_appends : (code : Code) (tables : Tables) → OnlyAppends (step code tables)
unfolding step
step_appends code tables s =
    let i = instr_at code.list (position_of s.ranks) in
    kind_appends (kind_of i) (local_next code.arrays tables i) s
