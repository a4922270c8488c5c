-- Straight code is gone through instruction by instruction, and all ranks stay at one.
use Rattle.std.proofs.Common.{◌≡◌, ◌∙◌, refl, sym, subst, ap, arith, ℕ, zero, suc, ◌+◌, ◌≤◌, List, [], ◌∷◌, length, Result, Ok, Err}
use Rattle.std.specs.List.{AllByRecursion, AllZip}
use Rattle.hp_word.specs.declared.place.Trap.{Trap}
use Rattle.hp_word.specs.declared.table.Tables.{Tables}
use Rattle.hp_lattice.specs.declared.dist.Dist.{Dist}
use Rattle.hp_spmd.specs.declared.code.Code.{Code}
use Rattle.hp_spmd.specs.declared.instr.Instr.{Instr}
use Rattle.hp_spmd.specs.declared.store.Store.{Store}
use Rattle.hp_spmd.specs.Exchange.{unpacked}
use Rattle.hp_spmd.specs.Kinds.{Kind, Computes, Jumps, Packs, Posts, Takes, PostsRoot, TakesRoot, Unpacks, Writes, Halts, kind_of}
use Rattle.hp_spmd.specs.Local.{alone, computed, local_next, pack_done}
use Rattle.hp_spmd.specs.Lockstep.{State, Step, Ends, Trips, Steps, Reached, go_on, position_of, run, run_by, state_of, step, step_by}
use Rattle.hp_spmd.specs.Next.{lifted}
use Rattle.hp_spmd.specs.Store.{Data, data_of, instr_at}
use Rattle.hp_spmd.proofs.ShareNext.{OnNext}
use Rattle.hp_snippet.specs.Promises.{IsNoJump, StandAt}
use Rattle.hp_snippet.proofs.Leading.{run_none}
use Rattle.hp_lowering.proofs.Zips.{Fits, ZipStep, step_zips}

-- ---- one instruction

-- a rank moves on to the next instruction
abbrev MovesOn : Store → Store → Type 0
MovesOn x y = y.position ≡ suc x.position

lifted_moves : (r : Result Data Trap) (x : Store) → OnNext (MovesOn x) (lifted r x)
lifted_moves (Ok d) x = refl
lifted_moves (Err t) x = tt

kind_moves : (dists : List Dist) (tables : Tables) (i : Instr) (kind : Kind) (ranks : List Store) → kind_of i ≡ kind → IsNoJump kind → Fits MovesOn kind (local_next dists tables i) ranks
unfolding pack_done
kind_moves dists tables i Computes ranks e h = λ x. subst (λ k. OnNext (MovesOn x) (alone dists k (computed dists tables x.number x.ranks i) x)) (sym e) (lifted_moves (computed dists tables x.number x.ranks i (data_of x)) x)
kind_moves dists tables i (Jumps target unless) ranks e h = absurd h
kind_moves dists tables i (Packs what) ranks e h = λ x. subst (λ k. OnNext (MovesOn x) (alone dists k (computed dists tables x.number x.ranks i) x)) (sym e) refl
kind_moves dists tables i Posts ranks e h = λ x. refl
kind_moves dists tables i Takes ranks e h = λ x. refl
kind_moves dists tables i PostsRoot ranks e h = λ x. refl
kind_moves dists tables i TakesRoot ranks e h = λ x. refl
kind_moves dists tables i (Unpacks what) ranks e h = λ x. subst (λ k. OnNext (MovesOn x) (alone dists k (computed dists tables x.number x.ranks i) x)) (sym e) (lifted_moves (unpacked dists what x.number x.ranks x.inbox (data_of x)) x)
kind_moves dists tables i (Writes output) ranks e h = λ x. refl
kind_moves dists tables i Halts ranks e h = tt

step_moves : (code : Code) (tables : Tables) (i : Instr) (s : State) → instr_at code.list (position_of s.ranks) ≡ i → IsNoJump (kind_of i) → ZipStep MovesOn s.ranks (step code tables s)
unfolding step
step_moves code tables i s is h =
    subst (λ j. ZipStep MovesOn s.ranks (step_by (kind_of j) (local_next code.arrays tables j) s)) (sym is) (step_zips MovesOn (kind_of i) (local_next code.arrays tables i) s (kind_moves code.arrays tables i (kind_of i) s.ranks refl h))

-- ---- all ranks

-- all ranks are at this place
abbrev pub AreAt : ℕ → List Store → Type 0
AreAt place ranks = AllByRecursion (λ (x : Store). x.position ≡ place) ranks

next_at : (place : ℕ) (xs ys : List Store) → AllZip MovesOn xs ys → AreAt place xs → AreAt (suc place) ys
next_at place [] [] z h = tt
next_at place [] (y ∷ ys) z h = absurd z
next_at place (x ∷ xs) [] z h = absurd z
next_at place (x ∷ xs) (y ∷ ys) z h = (z.0 ∙ ap suc h.0, next_at place xs ys z.1 h.1)

zip_some : (xs ys : List Store) → AllZip MovesOn xs ys → 1 ≤ length xs → 1 ≤ length ys
zip_some [] ys z some = absurd (omega (arith, some))
zip_some (x ∷ xs) [] z some = absurd z
zip_some (x ∷ xs) (y ∷ ys) z some = omega arith

pub position_at : (place : ℕ) (xs : List Store) → 1 ≤ length xs → AreAt place xs → position_of xs ≡ place
position_at place [] some h = absurd (omega (arith, some))
position_at place (x ∷ xs) some h = h.0

-- ---- straight code

-- where a run in straight code has come to by at most k instructions: all ranks are at one place, no further than that
pub record Walked (place k : ℕ) (ranks : List Store) : Type 0 where
  pub here : ℕ
  pub low : here ≤ place + k
  pub at : AreAt here ranks
  pub some : 1 ≤ length ranks

walk_on : (u : Step) (s : State) (rest : State → Reached) (place k : ℕ) → 1 ≤ length s.ranks → AreAt place s.ranks → ZipStep MovesOn s.ranks u
    → ((t : State) → 1 ≤ length t.ranks → AreAt (suc place) t.ranks → Walked (suc place) k (state_of (rest t)).ranks) → Walked place (suc k) (state_of (go_on u s rest)).ranks
walk_on Ends s rest place k some h z next = record { here = place; low = omega arith; at = h; some = some }
walk_on (Trips t) s rest place k some h z next = record { here = place; low = omega arith; at = h; some = some }
walk_on (Steps t) s rest place k some h z next =
    let w = next t (zip_some s.ranks t.ranks z some) (next_at place s.ranks t.ranks z h) in
    let low = w.low in
    record { here = w.here; low = omega (arith, low); at = w.at; some = w.some }

pub walked : (code : Code) (tables : Tables) (list : List Instr) (place k : ℕ) (s : State) → StandAt code.list place list → AllByRecursion (λ i. IsNoJump (kind_of i)) list → k ≤ length list → 1 ≤ length s.ranks → AreAt place s.ranks
    → Walked place k (state_of (run code tables k s)).ranks
unfolding run_by
walked code tables list place zero s stand jumps le some h = subst (λ (t : State). Walked place 0 t.ranks) (sym (run_none code tables s)) (record { here = place; low = omega arith; at = h; some = some })
walked code tables [] place (suc k) s stand jumps le some h = absurd (omega (arith, le))
walked code tables (i ∷ list) place (suc k) s stand jumps le some h =
    let at : instr_at code.list (position_of s.ranks) ≡ i = ap (instr_at code.list) (position_at place s.ranks some h) ∙ stand.0 in
    let less : k ≤ length list = omega (arith, le) in
    walk_on (step code tables s) s (run code tables k) place k some h (step_moves code tables i s at jumps.0) (λ t some2 h2. walked code tables list (suc place) k t stand.1 jumps.1 less some2 h2)
