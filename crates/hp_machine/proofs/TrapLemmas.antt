-- A state that has trapped has not ended: the rank that trapped is where it was, and would trap again.
use Rattle.std.proofs.Common.{◌≡◌, refl, sym, subst, arith, ℕ, zero, suc, ◌<◌, List, [], ◌∷◌, length, slice_get, Option, Some, None, if◌then◌else◌, Bool, true, false}
use Rattle.hp_word.specs.declared.place.Trap.{Trap}
use Rattle.hp_word.specs.declared.table.Message.{Message}
use Rattle.hp_network.specs.Network.{Act, HasHalted, Trips, Goes, Sends, Gets, Prints, HasEnded, IsHalt, Machine, State, done, done_at, run, start, taken, turn, unless_trapped}
use Rattle.hp_network.proofs.Ends.{get_at}

-- where some rank has trapped, the next action of one of them traps
abbrev TrapIs : {X : Type 0} → Machine X → List X → Option Trap → Type 0
TrapIs m ranks None = Unit {0}
TrapIs {X = X} m ranks (Some t) = (r : ℕ) × (x : X) × (slice_get ranks r ≡ Some x) × (m.act x ≡ Trips t)

abbrev Traps : {X : Type 0} → Machine X → State X → Type 0
Traps m s = TrapIs m s.ranks s.trap

goes_on : {X : Type 0} (m : Machine X) (ranks : List X) (o : Option Trap) → o ≡ None → TrapIs m ranks o
goes_on m ranks o is = subst (TrapIs m ranks) (sym is) tt

if_traps : {X : Type 0} (m : Machine X) (b : Bool) (s x : State X) → Traps m s → Traps m x → Traps m (if b then x else s)
if_traps m true s x h g = g
if_traps m false s x h g = h

taken_traps : {X : Type 0} (m : Machine X) (s : State X) (r sender : ℕ) (f : Message → X) (q : List Message) → s.trap ≡ None → Traps m (taken q m s r sender f)
taken_traps m s r sender f [] is = goes_on m s.ranks s.trap is
taken_traps m s r sender f (message ∷ rest) is = goes_on m _ s.trap is

done_traps : {X : Type 0} (m : Machine X) (s : State X) (r : ℕ) (x : X) (a : Act X) → slice_get s.ranks r ≡ Some x → m.act x ≡ a → s.trap ≡ None → Traps m (done a m s r)
done_traps m s r x HasHalted here e is = goes_on m s.ranks s.trap is
done_traps m s r x (Trips t) here e is = (r, x, here, e)
done_traps m s r x (Goes y) here e is = goes_on m _ s.trap is
done_traps m s r x (Sends to message y) here e is = if_traps m (m.room.fits (length (s.queues r to))) s _ (goes_on m s.ranks s.trap is) (goes_on m _ s.trap is)
done_traps m s r x (Gets sender f) here e is = taken_traps m s r sender f (s.queues sender r) is
done_traps m s r x (Prints text y) here e is = goes_on m _ s.trap is

at_traps : {X : Type 0} (m : Machine X) (s : State X) (r : ℕ) (o : Option X) → slice_get s.ranks r ≡ o → s.trap ≡ None → Traps m (done_at o m s r)
at_traps m s r None here is = goes_on m s.ranks s.trap is
at_traps m s r (Some x) here is = done_traps m s r x (m.act x) here refl is

unless_traps : {X : Type 0} (m : Machine X) (o : Option Trap) (s later : State X) → Traps m s → (o ≡ None → Traps m later) → Traps m (unless_trapped o s later)
unless_traps m None s later h g = g refl
unless_traps m (Some t) s later h g = h

turn_traps : {X : Type 0} (m : Machine X) (s : State X) (r : ℕ) → Traps m s → Traps m (turn m s r)
unfolding turn
turn_traps m s r h = unless_traps m s.trap s (done_at (slice_get s.ranks r) m s r) h (λ is. at_traps m s r (slice_get s.ranks r) refl is)

run_traps : {X : Type 0} (m : Machine X) (rs : List ℕ) (s : State X) → Traps m s → Traps m (run m s rs)
unfolding run
run_traps m [] s h = h
run_traps m (r ∷ rs) s h = run_traps m rs (turn m s r) (turn_traps m s r h)

some_in : {A : Type 0} (xs : List A) (k : ℕ) (x : A) → slice_get xs k ≡ Some x → k < length xs
some_in [] k x is = absurd (cc)
some_in (y ∷ ys) zero x is = omega arith
some_in (y ∷ ys) (suc k) x is = let h = some_in ys k x is in omega (arith, h)

pub trapped_goes : {X : Type 0} (m : Machine X) (s : State X) (t : Trap) → Traps m s → s.trap ≡ Some t → HasEnded m s → ⊥
trapped_goes m s t h is ended =
    let at = subst (TrapIs m s.ranks) is h in
    subst IsHalt at.3 (subst (λ x. IsHalt (m.act x)) (get_at s.ranks at.0 at.1 at.1 at.2) (ended at.0 at.1 (some_in s.ranks at.0 at.1 at.2)))

-- a run from the start that has trapped has not ended
pub trapped_not_ended : {X : Type 0} (m : Machine X) (xs : List X) (rs : List ℕ) (s : State X) (t : Trap) → s ≡ run m (start xs) rs → s.trap ≡ Some t → HasEnded m s → ⊥
trapped_not_ended m xs rs s t is trap ended = trapped_goes m s t (subst (Traps m) (sym is) (run_traps m rs (start xs) tt)) trap ended
