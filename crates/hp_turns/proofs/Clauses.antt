-- What every order of turns has in common with the lockstep.
use Rattle.std.proofs.Common.{◌≡◌, ◌∙◌, refl, sym, subst, ap, arith, ℕ, suc, ◌<◌, ◌≤◌, List, length, ltb, ltb-true, ltb-false, Bool, true, false, Some}
use Rattle.hp_word.specs.declared.place.Trap.{Trap}
use Rattle.hp_word.specs.declared.table.Tables.{Tables}
use Rattle.hp_word.specs.Runs.{IsFrontOf}
use Rattle.hp_network.specs.Network.{Room, HasEnded, IsHalt, IsStuck}
use Rattle.hp_network.proofs.Worlds.{World, IsFront, front_same}
use Rattle.hp_network.proofs.Joins.{Reaches, reaches_same, reaches_below, one_past, one_entry, one_end, quiet_is_end}
use Rattle.hp_network.proofs.Alone.{placed}
use Rattle.hp_network.proofs.Ends.{AllHalt, halted_quiet, stuck_quiet, stuck_sound, trips_not_halted, ended_halts, halts_ended, one_ranks, trips_stays, past_there, wrote_there, get_at}
use Rattle.hp_network.proofs.States.{IsOf}
use Rattle.hp_spmd.specs.declared.code.Code.{Code}
use Rattle.hp_spmd.specs.declared.store.Store.{Store}
use Rattle.hp_spmd.specs.Exchanges.{Outside, wants}
use Rattle.hp_spmd.specs.Lockstep.{State, step, step_by, Ended, run_by, state_of, first_state, lockstep_of}
use Rattle.hp_spmd.specs.Spread.{IsPlaced}
use Rattle.hp_turns.specs.Apart.{MayRunApart, ArePlaced, EndsAsLockstep, AreSame}
use Rattle.hp_turns.specs.Turns.{machine, run, kept_orders}
use Rattle.hp_turns.proofs.Acts.{next_at, IsRankOf}
use Rattle.hp_turns.proofs.Courses.{TrapHere, step_is}
use Rattle.hp_turns.proofs.First.{first_world, first_moves}
use Rattle.hp_turns.proofs.Past.{PastOf}
use Rattle.hp_turns.proofs.Scenes.{tracks_of, moves_most, comes_of, comes_there, over, halts_at, stopped_of, past_placed}
use Rattle.hp_turns.proofs.Stages.{Held}
use Rattle.hp_turns.proofs.Tied.{plain_at}

-- ---- never stuck

pub never_stuck : (code : Code) (tables : Tables) (room : Room) (n : ℕ) (turns : List ℕ) → MayRunApart code tables n → IsStuck (machine code tables room) (run code tables room n turns) → ⊥
never_stuck code tables room n turns p stuck =
    let m = machine code tables room in
    let o = first_world code n in
    let t = tracks_of code tables room n turns in
    let x = t.at in
    let quiet = stuck_quiet m n (IsRankOf n) (run code tables room n turns) x t.is stuck in
    let k = suc (length turns) in
    let c = comes_of code tables room n p k in
    let v = c.world in
    let there = comes_there code tables room n k (first_state code n) o c in
    let on = quiet_is_end m n o v x there t.there quiet in
    let lt : 0 < n = let h = p.some in omega (arith, h) in
    over code tables room n k c.stages v (run_by (step code tables) k (first_state code n)) c.held c.stop
    (λ s e held halts.
    let same = one_end m n o v x there t.there (halted_quiet m n v halts) quiet in
    stuck.some (halts_ended m n (IsRankOf n) (run code tables room n turns) x t.is (subst (AllHalt m n) same halts)))
    (λ u s e held h.
    let same = trips_stays m n v x h.rank h.trap on h.trips in
    stuck_sound m n (IsRankOf n) (run code tables room n turns) x t.is stuck h.rank h.trap h.among (ap (λ d. m.act d.now) same ∙ h.trips))
    (λ s e held all not.
    let a = (reaches_below m n v x on 0).more in
    let b = moves_most code tables room n turns t 0 in
    let d = c.ups 0 lt in
    omega (arith, a, b, d, all))

-- ---- what was written

pub writes_front : (code : Code) (tables : Tables) (room : Room) (n : ℕ) (turns : List ℕ) (k : ℕ) → MayRunApart code tables n → length turns ≤ k → IsFrontOf (run code tables room n turns).out (state_of (lockstep_of code tables n k)).out
writes_front code tables room n turns k p few =
    let m = machine code tables room in
    let o = first_world code n in
    let t = tracks_of code tables room n turns in
    let x = t.at in
    let c = comes_of code tables room n p k in
    let v = c.world in
    let there = comes_there code tables room n k (first_state code n) o c in
    let lt : 0 < n = let h = p.some in omega (arith, h) in
    let front : IsFront (x 0).wrote (v 0).wrote =
    over code tables room n k c.stages v (run_by (step code tables) k (first_state code n)) c.held c.stop
    (λ s e held halts. (reaches_below m n x v (quiet_is_end m n o x v t.there there (halted_quiet m n v halts)) 0).wrote)
    (λ u s e held h. trapped u s held h (ltb (v 0).moves (x 0).moves) refl t.there there)
    (λ s e held all not.
    let b = moves_most code tables room n turns t 0 in
    let d = c.ups 0 lt in
    (one_past m n o x v 0 t.there there (omega (arith, b, d, all, few))).wrote) in
    subst (λ l. IsFront l (state_of (lockstep_of code tables n k)).out) (sym t.is.out) (subst (IsFront (x 0).wrote) (sym c.held.at.out) front)
  where
    trapped : {x v : World Store} (u : Trap) (s : State) → Held code tables n s v → (h : TrapHere code tables room n s v) (b : Bool) → ltb (v 0).moves (x 0).moves ≡ b → Reaches (machine code tables room) n (first_world code n) x → Reaches (machine code tables room) n (first_world code n) v → IsFront (x 0).wrote (v 0).wrote
    trapped {x = x} {v = v} u s held h false q at there = (one_past (machine code tables room) n (first_world code n) x v 0 at there (let g = ltb-false (v 0).moves (x 0).moves q in omega (arith, g))).wrote
    trapped {x = x} {v = v} u s held h true q at there =
        let lt : 0 < n = let z = p.some in omega (arith, z) in
        let g = ltb-true (v 0).moves (x 0).moves q in
        let same = wrote_there (machine code tables room) n (PastOf code tables room n h.rank (λ k. (v k).now)) (first_world code n) v x h.rank 0 (stopped_of code tables room n p s v held h) there at lt (omega (arith, g)) in
        subst (λ l. IsFront l (v 0).wrote) (sym same) (front_same (v 0).wrote)

-- ---- all ranks have halted

-- worlds in which each of the ranks is the same
ended_as : (code : Code) (tables : Tables) (room : Room) (n : ℕ) (turns : List ℕ) (x v : World Store) (s : State) → 1 ≤ n → IsOf n (IsRankOf n) (run code tables room n turns) x → Held code tables n s v → AllHalt (machine code tables room) n v → ((r : ℕ) → r < n → x r ≡ v r) → lockstep_of code tables n (length turns) ≡ Ended s
    → EndsAsLockstep code tables room n turns
ended_as code tables room n turns x v s some is held halts same e =
    let lt : 0 < n = omega (arith, some) in
    let at = halts_at code tables room n s v held halts in
    record {
      limit = length turns;
      least = omega arith;
      end = s;
      ends = e;
      stores = one_ranks n (run code tables room n turns).ranks s.ranks x is.count held.at.count is.ranks (λ r l. (plain_at code n s v held.at Outside (ap wants at) (λ k. refl) r l).store ∙ ap (λ d. Some d.now) (sym (same r l)));
      out = is.out ∙ ap (λ d. d.wrote) (same 0 lt) ∙ sym held.at.out;
    }

pub ends_only : (code : Code) (tables : Tables) (room : Room) (n : ℕ) (turns : List ℕ) → MayRunApart code tables n → HasEnded (machine code tables room) (run code tables room n turns) → EndsAsLockstep code tables room n turns
ends_only code tables room n turns p ended =
    let m = machine code tables room in
    let o = first_world code n in
    let t = tracks_of code tables room n turns in
    let x = t.at in
    let halts = ended_halts m n (IsRankOf n) (run code tables room n turns) x t.is ended in
    let quiet = halted_quiet m n x halts in
    let k = length turns in
    let c = comes_of code tables room n p k in
    let v = c.world in
    let there = comes_there code tables room n k (first_state code n) o c in
    let on = quiet_is_end m n o v x there t.there quiet in
    over code tables room n k c.stages v (run_by (step code tables) k (first_state code n)) c.held c.stop
    (λ s e held over_halts.
    let same = one_end m n o x v t.there there quiet (halted_quiet m n v over_halts) in
    ended_as code tables room n turns x v s p.some t.is held over_halts (λ r lt. ap (λ (z : World Store). z r) same) e)
    (λ u s e held h.
    let same = trips_stays m n v x h.rank h.trap on h.trips in
    absurd (trips_not_halted (m.act (x h.rank).now) h.trap (ap (λ d. m.act d.now) same ∙ h.trips) (halts h.rank h.among)))
    (λ s e held all not.
    let same : (r : ℕ) → r < n → x r ≡ v r =
    λ r lt.
    let b = moves_most code tables room n turns t r in
    let d = c.ups r lt in
    (reaches_below m n v x on r).same (omega (arith, b, d, all)) in
    let v_halts : AllHalt m n v = λ r lt. subst (λ d. IsHalt (m.act d.now)) (same r lt) (halts r lt) in
    let at = halts_at code tables room n s v held v_halts in
    absurd (not (step_is code tables n s v held ∙ ap (λ j. step_by j (next_at code tables held.at.pos) s) at)))

-- ---- two orders

pub one_order : (code : Code) (tables : Tables) (room : Room) (n : ℕ) (first second : List ℕ) → HasEnded (machine code tables room) (run code tables room n first) → HasEnded (machine code tables room) (run code tables room n second) → AreSame code tables room n first second
one_order code tables room n first second e1 e2 =
    let m = machine code tables room in
    let o = first_world code n in
    let s1 = run code tables room n first in
    let s2 = run code tables room n second in
    let t1 = tracks_of code tables room n first in
    let t2 = tracks_of code tables room n second in
    let same = one_end m n o t1.at t2.at t1.there t2.there (halted_quiet m n t1.at (ended_halts m n (IsRankOf n) s1 t1.at t1.is e1)) (halted_quiet m n t2.at (ended_halts m n (IsRankOf n) s2 t2.at t2.is e2)) in
    let stores : s1.ranks ≡ s2.ranks = one_ranks n s1.ranks s2.ranks t1.at t1.is.count t2.is.count t1.is.ranks (λ r lt. t2.is.ranks r lt ∙ ap (λ (z : World Store). Some (z r).now) (sym same)) in
    record { stores = stores; out = t1.is.out ∙ ap (λ (z : World Store). (z 0).wrote) same ∙ sym t2.is.out; orders = ap kept_orders stores }

-- ---- Share

-- where each rank is then
pub always_placed : (code : Code) (tables : Tables) (room : Room) (n : ℕ) → MayRunApart code tables n → (bound : ℕ) (x : World Store) → Reaches (machine code tables room) n (first_world code n) x → (r : ℕ) → r < n → (x r).moves ≤ bound → IsPlaced code n (x r).now
always_placed code tables room n p bound x at r lt few =
    let m = machine code tables room in
    let o = first_world code n in
    let k = suc bound in
    let c = comes_of code tables room n p k in
    let v = c.world in
    let there = comes_there code tables room n k (first_state code n) o c in
    let behind : (x r).moves < (v r).moves → IsPlaced code n (x r).now = λ less.
    let z = first_moves code n r in
    placed m n (IsPlaced code n) o x r lt at c.stages o v (reaches_same m n o) c.course (omega (arith, z)) less in
    over code tables room n k c.stages v (run_by (step code tables) k (first_state code n)) c.held c.stop
    (λ s e held halts.
    let low = (reaches_below m n x v (quiet_is_end m n o x v at there (halted_quiet m n v halts)) r).more in
    by x v (ltb (x r).moves (v r).moves) refl behind (λ le. let same = one_entry m n o x v r at there (omega (arith, le, low)) in subst (λ d. IsPlaced code n d.now) same (held.placed r lt)))
    (λ u s e held h.
    by x v (ltb (x r).moves (v r).moves) refl behind
    (λ le. past_placed code tables room n h.rank (λ j. (v j).now) r (x r).now (past_there m n (PastOf code tables room n h.rank (λ j. (v j).now)) o v x h.rank r (stopped_of code tables room n p s v held h) there at lt le)))
    (λ s e held all not. behind (let d = c.ups r lt in omega (arith, d, all, few)))
  where
    by : (x v : World Store) (b : Bool) → ltb (x r).moves (v r).moves ≡ b → ((x r).moves < (v r).moves → IsPlaced code n (x r).now) → ((v r).moves ≤ (x r).moves → IsPlaced code n (x r).now) → IsPlaced code n (x r).now
    by x v true q less more = less (ltb-true (x r).moves (v r).moves q)
    by x v false q less more = more (let h = ltb-false (x r).moves (v r).moves q in omega (arith, h))

pub shares_always : (code : Code) (tables : Tables) (room : Room) (n : ℕ) (turns : List ℕ) → MayRunApart code tables n → ArePlaced code n (run code tables room n turns).ranks
shares_always code tables room n turns p =
    let t = tracks_of code tables room n turns in
    let count = t.is.count in
    let xs = (run code tables room n turns).ranks in
    record {
      count = count;
      numbers = λ k d lt. let l : k < n = omega (arith, count, lt) in ap (λ (x : Store). x.number) (get_at xs k d (t.at k).now (t.is.ranks k l)) ∙ (t.is.owned k l).number_is;
      shared = λ k d lt.
          let l : k < n = omega (arith, count, lt) in
          subst (IsPlaced code n) (sym (get_at xs k d (t.at k).now (t.is.ranks k l))) (always_placed code tables room n p (length turns) t.at t.there k l (moves_most code tables room n turns t k));
    }
