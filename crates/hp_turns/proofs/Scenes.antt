-- Where turns and the lockstep have come to, side by side.
use Rattle.std.proofs.Common.{Some, ◌≡◌, ◌∙◌, refl, sym, subst, ap, arith, ℕ, zero, suc, ◌<◌, ◌≤◌, List, [], length, inl, inr}
use Rattle.std.specs.List.{All}
use Rattle.std.proofs.lemmas.List.{drop_all}
use Rattle.hp_word.specs.declared.place.Trap.{Trap}
use Rattle.hp_word.specs.declared.table.Tables.{Tables}
use Rattle.hp_network.specs.Network as network
use Rattle.hp_network.specs.Network.{Room, Machine, IsHalt}
use Rattle.hp_network.proofs.Worlds.{World, queue}
use Rattle.hp_network.proofs.Joins.{Reaches, after_most}
use Rattle.hp_network.proofs.Alone.{course_reaches}
use Rattle.hp_network.proofs.Ends.{AllHalt, Stopped, get_at}
use Rattle.hp_network.proofs.States.{Tracks, run_tracks}
use Rattle.hp_spmd.specs.declared.code.Code.{Code}
use Rattle.hp_spmd.specs.declared.store.Store.{Store}
use Rattle.hp_spmd.specs.Act.{act_by, of_next, first_only}
use Rattle.hp_spmd.specs.Act as act
use Rattle.hp_spmd.specs.Kinds.{Kind, Computes, Jumps, Packs, Posts, Takes, PostsRoot, TakesRoot, Unpacks, Writes, Halts}
use Rattle.hp_spmd.specs.Lockstep.{State, Ends, step, Reached, Ended, Trapped, Limit, state_of, first_state}
use Rattle.hp_spmd.specs.Next.{Next, Goes, Traps}
use Rattle.hp_spmd.specs.Spread.{IsPlaced}
use Rattle.hp_turns.specs.Apart.{AgreeBy, IsTrap, IsGo, MayRunApart}
use Rattle.hp_turns.specs.Turns.{machine, start, run, of_act}
use Rattle.hp_turns.proofs.Acts.{kind_at, next_at, act_is, IsRankOf, ranks_own}
use Rattle.hp_turns.proofs.Alone.{Empty}
use Rattle.hp_turns.proofs.Courses.{Comes, Stop, TrapHere, MayTrap, run_comes}
use Rattle.hp_turns.proofs.First.{first_world, first_at, first_is, first_moves}
use Rattle.hp_turns.proofs.Past.{Fine, PastOf, past_keeps, log_same}
use Rattle.hp_turns.proofs.Stages.{Held}

pub tracks_of : (code : Code) (tables : Tables) (room : Room) (n : ℕ) (turns : List ℕ) → Tracks (machine code tables room) n (IsRankOf n) (first_world code n) (length turns) (run code tables room n turns)
tracks_of code tables room n turns = run_tracks (machine code tables room) n (IsRankOf n) (ranks_own code tables room n) turns (start code n) (first_world code n) refl (first_is code n)

-- a rank has moved at most as often as there were turns
pub moves_most : (code : Code) (tables : Tables) (room : Room) (n : ℕ) (turns : List ℕ) (t : Tracks (machine code tables room) n (IsRankOf n) (first_world code n) (length turns) (run code tables room n turns)) (r : ℕ) → (t.at r).moves ≤ length turns
moves_most code tables room n turns t r =
    let a = after_most (machine code tables room) n t.there.turns (first_world code n) r in
    let b = first_moves code n r in
    let c = ap (λ (z : World Store). (z r).moves) t.there.comes in
    let d = t.short in
    omega (arith, a, b, c, d)

-- and less often where a rank has trapped
pub moves_less : (code : Code) (tables : Tables) (room : Room) (n : ℕ) (turns : List ℕ) (t : Tracks (machine code tables room) n (IsRankOf n) (first_world code n) (length turns) (run code tables room n turns)) (u : Trap) → (run code tables room n turns).trap ≡ Some u → (r : ℕ) → (t.at r).moves < length turns
moves_less code tables room n turns t u q r =
    let a = after_most (machine code tables room) n t.there.turns (first_world code n) r in
    let b = first_moves code n r in
    let c = ap (λ (z : World Store). (z r).moves) t.there.comes in
    let d = t.shorter u q in
    omega (arith, a, b, c, d)

pub comes_of : (code : Code) (tables : Tables) (room : Room) (n : ℕ) → MayRunApart code tables n → (k : ℕ) → Comes code tables room n k (first_state code n) (first_world code n)
comes_of code tables room n p k = run_comes code tables room n p.some p.form k (first_state code n) (first_world code n) (first_at code n p.form) (record { agree = p.agree; shared = p.shared })

pub comes_there : (code : Code) (tables : Tables) (room : Room) (n k : ℕ) (s : State) (w : World Store) (c : Comes code tables room n k s w) → Reaches (machine code tables room) n w c.world
comes_there code tables room n k s w c = course_reaches (machine code tables room) n (IsPlaced code n) c.stages w c.world c.course

-- how the lockstep stands: it has ended, it traps, or it has come to its limit
pub over : {A : Type 0} (code : Code) (tables : Tables) (room : Room) (n k stages : ℕ) (v : World Store) (reached : Reached) → Held code tables n (state_of reached) v → Stop code tables room n k stages v reached
    → ((t : State) → reached ≡ Ended t → Held code tables n t v → AllHalt (machine code tables room) n v → A) → ((u : Trap) (t : State) → reached ≡ Trapped u t → Held code tables n t v → TrapHere code tables room n t v → A)
    → ((t : State) → reached ≡ Limit t → Held code tables n t v → stages ≡ k → (step code tables t ≡ Ends → ⊥) → A) → A
over code tables room n k stages v (Ended t) held stop ended trapped limit = ended t refl held stop
over code tables room n k stages v (Trapped u t) held stop ended trapped limit = trapped u t refl held stop
over code tables room n k stages v (Limit t) held stop ended trapped limit = limit t refl held stop.0 stop.1

-- ---- the end

next_halt : (next : Next) → IsHalt (of_act (of_next next)) → ⊥
next_halt (Goes x) h = h
next_halt (Traps t) h = h

first_halt : (number : ℕ) (a : act.Act) (x : Store) → (IsHalt (of_act a) → ⊥) → IsHalt (of_act (first_only number a x)) → ⊥
first_halt zero a x h g = h g
first_halt (suc k) a x h g = g

-- a rank has halted at Halt alone
halt_kind : (k : Kind) (next : Next) (x : Store) → IsHalt (of_act (act_by k next x)) → k ≡ Halts
halt_kind Computes next x h = absurd (next_halt next h)
halt_kind (Jumps target unless) next x h = absurd (next_halt next h)
halt_kind (Packs what) next x h = absurd (next_halt next h)
halt_kind Posts next x h = absurd h
halt_kind Takes next x h = absurd h
halt_kind PostsRoot next x h = absurd h
halt_kind TakesRoot next x h = absurd (first_halt x.number _ x (λ z. z) h)
halt_kind (Unpacks what) next x h = absurd (next_halt next h)
halt_kind (Writes output) next x h = absurd (first_halt x.number _ x (λ z. z) h)
halt_kind Halts next x h = refl

pub halts_at : (code : Code) (tables : Tables) (room : Room) (n : ℕ) (t : State) (v : World Store) (held : Held code tables n t v) → AllHalt (machine code tables room) n v → kind_at code held.at.pos ≡ Halts
halts_at code tables room n t v held halts =
    let lt : 0 < n = let h = held.some in omega (arith, h) in
    let p = held.at.pos in
    halt_kind (kind_at code p) (next_at code tables p (v 0).now) (v 0).now (subst IsHalt (act_is code tables room (v 0).now p (kind_at code p) (held.at.ranks 0 lt).on.position_is refl) (halts 0 lt))

-- ---- a trap

pub empty_is : (v : World Store) (a b : ℕ) → Empty v a b → queue v a b ≡ []
empty_is v a b e = drop_all ((v b).took a) ((v a).sent b) (omega (arith, e))

goes_not : (next : Next) (u : Trap) → IsGo next → of_act (of_next next) ≡ network.Trips u → ⊥
goes_not (Goes x) u g e = differ e
  where
    differ : network.Goes x ≡ network.Trips u → ⊥
    differ p = cc
goes_not (Traps t) u g e = g

record TrapOf (next : Next) : Type 0 where
  trap : Trap
  traps : of_act (of_next next) ≡ network.Trips trap

trap_of : (next : Next) → IsTrap next → TrapOf next
trap_of (Goes x) h = absurd h
trap_of (Traps t) h = record { trap = t; traps = refl }

-- rank r where the lockstep traps: it goes on, or it is to trap as well
past_here : (code : Code) (tables : Tables) (room : Room) (n : ℕ) (t : State) (v : World Store) → Held code tables n t v → (h : TrapHere code tables room n t v) → (r : ℕ) → r < n → PastOf code tables room n h.rank (λ k. (v k).now) r (v r).now
past_here code tables room n t v held h r lt = by (kind_at code h.place) refl h.may h.agree
  where
    x : Store
    x = (v r).now

    f : Store → Next
    f = next_at code tables h.place

    acts : (k : ℕ) (lk : k < n) (what : _) → kind_at code h.place ≡ Unpacks what → (machine code tables room).act (v k).now ≡ of_act (of_next (f (v k).now))
    acts k lk what is = act_is code tables room (v k).now h.place (Unpacks what) (h.there k lk) is

    at : (P : Store → Type 0) (k : ℕ) (lk : k < n) → All P t.ranks → P (v k).now
    at P k lk all = subst P (get_at t.ranks k (v k).now (v k).now (h.plain k lk).store) (all k (v k).now (let c = h.count in omega (arith, c, lk)))

    by : (k : Kind) → kind_at code h.place ≡ k → MayTrap k → AgreeBy k f t.ranks → PastOf code tables room n h.rank (λ j. (v j).now) r x
    by Computes is may agree =
        inl (record { number_is = (held.at.ranks r lt).on.number_is; placed = held.placed r lt; logs = log_same x x refl; executed = omega arith; fine = subst (λ j. Fine h.rank r j x) (sym (ap (kind_at code) (h.there r lt) ∙ is)) tt })
    by (Unpacks what) is may (inl all) =
        let o = trap_of (f x) (at (λ z. IsTrap (f z)) r lt all) in
        inr (record { trap = o.trap; trips = acts r lt what is ∙ o.traps; placed = held.placed r lt; logs = log_same x x refl })
    by (Unpacks what) is may (inr all) = absurd (goes_not (f (v h.rank).now) h.trap (at (λ z. IsGo (f z)) h.rank h.among all) (sym (acts h.rank h.among what is) ∙ h.trips))
    by (Jumps target unless) is may agree = absurd may
    by (Packs what) is may agree = absurd may
    by Posts is may agree = absurd may
    by Takes is may agree = absurd may
    by PostsRoot is may agree = absurd may
    by TakesRoot is may agree = absurd may
    by (Writes output) is may agree = absurd may
    by Halts is may agree = absurd may

pub stopped_of : (code : Code) (tables : Tables) (room : Room) (n : ℕ) → MayRunApart code tables n → (t : State) (v : World Store) → Held code tables n t v → (h : TrapHere code tables room n t v) → Stopped (machine code tables room) n (PastOf code tables room n h.rank (λ k. (v k).now)) v h.rank
stopped_of code tables room n p t v held h =
    record {
      trap = h.trap;
      trips = h.trips;
      among = h.among;
      empty = λ k lk. empty_is v h.rank k ((h.plain k lk).empty h.rank h.among);
      here = past_here code tables room n t v held h;
      keeps = λ r x lt past. past_keeps code tables room n h.rank (λ k. (v k).now) p.form h.among p.keeps r x past;
    }

pub past_placed : (code : Code) (tables : Tables) (room : Room) (n t : ℕ) (was : ℕ → Store) (r : ℕ) (x : Store) → PastOf code tables room n t was r x → IsPlaced code n x
past_placed code tables room n t was r x (inl h) = h.placed
past_placed code tables room n t was r x (inr h) = h.placed
