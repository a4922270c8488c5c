-- A trap is one of the lockstep, and turns in rounds are over soon.
use Rattle.std.proofs.Common.{◌≡◌, ◌∙◌, refl, sym, subst, ap, arith, ℕ, suc, ◌+◌, ◌-◌, ◌<◌, ◌≤◌, List, [], ◌∷◌, ◌++◌, length, get_or, ltb, ltb-true, ltb-false, Bool, true, false, Option, Some, None, ◌⊎◌, inl, inr}
use Rattle.std.specs.List.{range_with_len}
use Rattle.hp_word.specs.declared.place.Trap.{Trap}
use Rattle.hp_word.specs.declared.table.Tables.{Tables}
use Rattle.hp_network.specs.Network as network
use Rattle.hp_network.specs.Network.{Room, Machine, HasEnded, IsHalt, rounds}
use Rattle.hp_network.proofs.Worlds.{World, Below, below_same, grows_trans, after}
use Rattle.hp_network.proofs.Joins.{Reaches, reaches_same, reaches_below, after_more, below_after, join, one_past, quiet_is_end, quiet_stays}
use Rattle.hp_network.proofs.Ends.{AllHalt, ended_halts, halted_quiet, trips_not_halted, halts_ended, trips_stays, trips_top, past_there, get_at, run_trips, front_goes}
use Rattle.hp_network.proofs.Rounds.{rounds_add, course_rounds, in_range, IsIn}
use Rattle.hp_network.proofs.States.{TrapIs, run_goes, run_more}
use Rattle.hp_spmd.specs.declared.code.Code.{Code}
use Rattle.hp_spmd.specs.declared.store.Store.{Store}
use Rattle.hp_spmd.specs.Kinds.{Kind, Computes, Jumps, Packs, Posts, Takes, PostsRoot, TakesRoot, Unpacks, Writes, Halts}
use Rattle.hp_spmd.specs.Lockstep.{State, step, Reached, Limit, IsOver, run_by, first_state, lockstep_of}
use Rattle.hp_spmd.specs.Spread.{IsPlaced}
use Rattle.hp_turns.specs.Apart.{MayRunApart, LogGrows, TrapsAsLockstep, paid}
use Rattle.hp_turns.specs.Turns.{machine, start, run}
use Rattle.hp_turns.proofs.Acts.{kind_at, IsRankOf, ranks_own}
use Rattle.hp_turns.proofs.Agree.{orders_agree}
use Rattle.hp_turns.proofs.Alone.{Empty}
use Rattle.hp_turns.proofs.Clauses.{always_placed}
use Rattle.hp_turns.proofs.Courses.{MayTrap}
use Rattle.hp_turns.proofs.First.{first_world, first_is}
use Rattle.hp_turns.proofs.Lags.{Pend, Lags, lags_after}
use Rattle.hp_turns.proofs.Past.{PastOf, log_same}
use Rattle.hp_turns.proofs.Scenes.{tracks_of, moves_less, comes_of, comes_there, over, stopped_of}

-- ---- logs at a trap

past_logs : (code : Code) (tables : Tables) (room : Room) (n t : ℕ) (was : ℕ → Store) (r : ℕ) (x : Store) → PastOf code tables room n t was r x → LogGrows (was r) x
past_logs code tables room n t was r x (inl h) = h.logs
past_logs code tables room n t was r x (inr h) = h.logs

pend_not : {A : Type 0} (t : ℕ) (k : Kind) (x : Store) → MayTrap k → Pend t k x → A
pend_not t Computes x may pend = absurd pend
pend_not t (Unpacks what) x may pend = absurd pend
pend_not t (Jumps target unless) x may pend = absurd may
pend_not t (Packs what) x may pend = absurd may
pend_not t Posts x may pend = absurd may
pend_not t Takes x may pend = absurd may
pend_not t PostsRoot x may pend = absurd may
pend_not t TakesRoot x may pend = absurd may
pend_not t (Writes output) x may pend = absurd may
pend_not t Halts x may pend = absurd may

-- A rank that lags behind a place of the lockstep has the log that it has there, where rank t has come as far, takes nothing more on
-- the way, and the lagging rank has no message for it before it there.
pub lag_log : (code : Code) (tables : Tables) (room : Room) (n : ℕ) → MayRunApart code tables n → (x v : World Store) → Reaches (machine code tables room) n (first_world code n) x → Reaches (machine code tables room) n (first_world code n) v → ((a b : ℕ) → (x b).took a ≤ length ((x a).sent b))
    → (t r : ℕ) → t < n → r < n → Empty v r t → (Pend t (kind_at code (v r).now.position) (v r).now → ⊥) → (v t).moves ≤ (x t).moves → (x r).moves < (v r).moves → (v r).now.log ≡ (x r).now.log
lag_log code tables room n p x v at there sound t r lt lr even none ahead less =
    let m = machine code tables room in
    let o = first_world code n in
    let j = join m n o x v at there in
    let most = j.moves r in
    let same : j.at r ≡ v r = (reaches_below m n v j.at j.right r).same (omega (arith, most, less)) in
    let end : after m n x j.left.turns r ≡ v r = ap (λ (z : World Store). z r) j.left.comes ∙ same in
    let took = (one_past m n o v x t there at ahead).took r in
    let s1 = sound r t in
    let short : length ((v r).sent t) ≤ length ((x r).sent t) = omega (arith, took, even, s1) in
    let lags = lags_after code tables room n t r (v r).moves (x r).now.log p.form lt lr p.keeps o (λ z z_at few. always_placed code tables room n p (v r).moves z z_at r lr few) j.left.turns x at
    (subst (λ d. d.moves ≤ (v r).moves) (sym end) (omega arith)) (subst (λ d. length (d.sent t) ≤ length ((x r).sent t)) (sym end) short) (inl refl) in
    by (subst (λ d. Lags code t (x r).now.log d.now) end lags)
  where
    by : Lags code t (x r).now.log (v r).now → (v r).now.log ≡ (x r).now.log
    by (inl e) = e
    by (inr pend) = absurd (none pend)

pub traps_only : (code : Code) (tables : Tables) (room : Room) (n : ℕ) (turns : List ℕ) (u : Trap) → MayRunApart code tables n → (run code tables room n turns).trap ≡ Some u → TrapsAsLockstep code tables room n turns
traps_only code tables room n turns u p q =
    let m = machine code tables room in
    let o = first_world code n in
    let t = tracks_of code tables room n turns in
    let x = t.at in
    let trap : TrapIs m n x (Some u) = subst (TrapIs m n x) q t.trap in
    let k = length turns in
    let c = comes_of code tables room n p k in
    let v = c.world in
    let there = comes_there code tables room n k (first_state code n) o c in
    let ahead = trips_top m n o x v trap.0 u t.there there trap.2 in
    over code tables room n k c.stages v (run_by (step code tables) k (first_state code n)) c.held c.stop
    (λ s e held halts.
    let on = quiet_is_end m n o x v t.there there (halted_quiet m n v halts) in
    let same = trips_stays m n x v trap.0 u on trap.2 in
    absurd (trips_not_halted (m.act (v trap.0).now) u (ap (λ d. m.act d.now) same ∙ trap.2) (halts trap.0 trap.1)))
    (λ w s e held h.
    let logs : (r : ℕ) (d : Store) → r < n → LogGrows (get_or s.ranks r d) (get_or (run code tables room n turns).ranks r d) =
    λ r d lr.
    let old = get_at s.ranks r d (v r).now ((h.plain r lr).store) in
    let new = get_at (run code tables room n turns).ranks r d (x r).now (t.is.ranks r lr) in
    let none : Pend trap.0 (kind_at code (v r).now.position) (v r).now → ⊥ = pend_not trap.0 (kind_at code (v r).now.position) (v r).now (subst (λ q. MayTrap (kind_at code q)) (sym (h.there r lr)) h.may) in
    subst (λ z. LogGrows z (get_or (run code tables room n turns).ranks r d)) (sym old)
    (subst (LogGrows (v r).now) (sym new)
    (by x v (ltb (x r).moves (v r).moves) refl
    (λ less. log_same (v r).now (x r).now (sym (lag_log code tables room n p x v t.there there t.is.sound trap.0 r trap.1 lr ((h.plain trap.0 trap.1).empty r lr) none ahead less)))
    (λ le. past_logs code tables room n h.rank (λ i. (v i).now) r (x r).now (past_there m n (PastOf code tables room n h.rank (λ i. (v i).now)) o v x h.rank r (stopped_of code tables room n p s v held h) there t.there lr le)))) in
    record {
      limit = k;
      least = omega arith;
      trap = w;
      end = s;
      traps = e;
      count = h.count;
      count_apart = t.is.count;
      logs = logs;
      orders = orders_agree n s.ranks (run code tables room n turns).ranks h.count t.is.count logs;
    })
    (λ s e held all not.
    let d = c.ups trap.0 trap.1 in
    let b = moves_less code tables room n turns t u q trap.0 in
    absurd (omega (arith, d, b, all, ahead)))
  where
    by : {r : ℕ} (x v : World Store) (b : Bool) → ltb (x r).moves (v r).moves ≡ b → ((x r).moves < (v r).moves → LogGrows (v r).now (x r).now) → ((v r).moves ≤ (x r).moves → LogGrows (v r).now (x r).now) → LogGrows (v r).now (x r).now
    by {r = r} x v true e less more = less (ltb-true (x r).moves (v r).moves e)
    by {r = r} x v false e less more = more (let g = ltb-false (x r).moves (v r).moves e in omega (arith, g))

-- ---- turns in rounds

limit_not : {A : Type 0} (reached : Reached) (s : State) → reached ≡ Limit s → IsOver reached → A
limit_not reached s e over_here = absurd (subst IsOver e over_here)

in_front : (r : ℕ) (xs ys : List ℕ) → IsIn r xs → IsIn r (xs ++ ys)
in_front r [] ys i = absurd i
in_front r (x ∷ xs) ys (inl e) = inl e
in_front r (x ∷ xs) ys (inr i) = inr (in_front r xs ys i)

in_rounds : (n k r : ℕ) → r < n → IsIn r (rounds n (suc k))
in_rounds n k r lt = in_front r (range_with_len 0 n) (rounds n k) (in_range n 0 r (omega arith) (omega (arith, lt)))

-- of a run of rounds in which no rank has trapped
goes_end : (code : Code) (tables : Tables) (room : Room) (n k more : ℕ) → MayRunApart code tables n → IsOver (lockstep_of code tables n k) → (turns : List ℕ) → turns ≡ rounds n (paid code tables n k (first_state code n)) ++ rounds n (suc more) → (run code tables room n turns).trap ≡ None → HasEnded (machine code tables room) (run code tables room n turns)
goes_end code tables room n k more p is_over turns split q =
    let m = machine code tables room in
    let own = ranks_own code tables room n in
    let o = first_world code n in
    let c = comes_of code tables room n p k in
    let v = c.world in
    let there = comes_there code tables room n k (first_state code n) o c in
    let cost = paid code tables n k (first_state code n) in
    let first = rounds n cost in
    let rest = rounds n (suc more) in
    let y = after m n o first in
    let z = after m n o turns in
    let z_there : Reaches m n o z = record { turns = turns; comes = refl } in
    let y_there : Reaches m n o y = record { turns = first; comes = refl } in
    let is = run_goes m n (IsRankOf n) own turns (start code n) o refl (first_is code n) q in
    let below : Below v y =
    subst (λ j. Below v (after m n o (rounds n j))) c.pays (course_rounds m n (IsPlaced code n) o c.stages o v o c.course (reaches_same m n o) (reaches_same m n o) (below_same o)) in
    let later : Below y z = subst (Below y) (sym (ap (after m n o) split ∙ after_more m n first rest o)) (below_after m n rest y) in
    over code tables room n k c.stages v (run_by (step code tables) k (first_state code n)) c.held c.stop
    (λ s e held halts.
    let on = quiet_is_end m n o z v z_there there (halted_quiet m n v halts) in
    halts_ended m n (IsRankOf n) (run code tables room n turns) z is
    (λ r lr.
    let up = reaches_below m n z v on r in
    let down = grows_trans (v r) (y r) (z r) (below r) (later r) in
    subst (λ d. IsHalt (m.act d.now)) (sym (down.same up.more)) (halts r lr)))
    (λ u s e held h.
    let all_none : (network.run m (start code n) (first ++ rest)).trap ≡ None = ap (λ l. (network.run m (start code n) l).trap) (sym split) ∙ q in
    let none = front_goes m first rest (start code n) all_none in
    let here = run_goes m n (IsRankOf n) own first (start code n) o refl (first_is code n) none in
    let top = trips_top m n o v y h.rank h.trap there y_there h.trips in
    let same = (below h.rank).same top in
    absurd
    (run_trips m n (IsRankOf n) own h.rank h.trap h.among rest (in_rounds n more h.rank h.among) (network.run m (start code n) first) y none here (ap (λ d. m.act d.now) same ∙ h.trips)
    (ap (λ z2. z2.trap) (sym (run_more m first rest (start code n))) ∙ all_none)))
    (λ s e held all not. limit_not (run_by (step code tables) k (first_state code n)) s e is_over)

-- more turns behind a run that has ended
stays_ended : (code : Code) (tables : Tables) (room : Room) (n : ℕ) (turns more : List ℕ) → (run code tables room n (turns ++ more)).trap ≡ None → HasEnded (machine code tables room) (run code tables room n turns) → HasEnded (machine code tables room) (run code tables room n (turns ++ more))
stays_ended code tables room n turns more q ended =
    let m = machine code tables room in
    let own = ranks_own code tables room n in
    let o = first_world code n in
    let z = after m n o turns in
    let all = run_goes m n (IsRankOf n) own (turns ++ more) (start code n) o refl (first_is code n) q in
    let front = run_goes m n (IsRankOf n) own turns (start code n) o refl (first_is code n) (front_goes m turns more (start code n) q) in
    let halts = ended_halts m n (IsRankOf n) (run code tables room n turns) z front ended in
    let same : after m n o (turns ++ more) ≡ z = after_more m n turns more o ∙ quiet_stays m n z (halted_quiet m n z halts) more in
    halts_ended m n (IsRankOf n) (run code tables room n (turns ++ more)) (after m n o (turns ++ more)) all (subst (AllHalt m n) (sym same) halts)

pub rounds_end : (code : Code) (tables : Tables) (room : Room) (n k count : ℕ) (more : List ℕ) → MayRunApart code tables n → IsOver (lockstep_of code tables n k) → paid code tables n k (first_state code n) < count
    → ((t : Trap) × ((run code tables room n (rounds n count ++ more)).trap ≡ Some t)) ⊎ HasEnded (machine code tables room) (run code tables room n (rounds n count ++ more))
rounds_end code tables room n k count more p is_over less = by (run code tables room n turns).trap refl
  where
    turns : List ℕ
    turns = rounds n count ++ more

    cost : ℕ
    cost = paid code tables n k (first_state code n)

    rest : ℕ
    rest = count - suc cost

    all : count ≡ cost + suc rest
    all = omega (arith, less)

    by : (t : Option Trap) → (run code tables room n turns).trap ≡ t → ((t : Trap) × ((run code tables room n turns).trap ≡ Some t)) ⊎ HasEnded (machine code tables room) (run code tables room n turns)
    by (Some t) q = inl (t, q)
    by None q =
        inr
        (stays_ended code tables room n (rounds n count) more q
        (goes_end code tables room n k rest p is_over (rounds n count) (ap (rounds n) all ∙ rounds_add n cost (suc rest)) (front_goes (machine code tables room) (rounds n count) more (start code n) q)))
