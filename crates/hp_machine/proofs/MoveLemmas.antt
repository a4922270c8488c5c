-- A turn is one move at most of each rank, and adds to the output.
use Rattle.std.proofs.Common.{◌≡◌, refl, sym, arith, ℕ, zero, suc, ◌+◌, ◌≤◌, Bool, true, false, List, [], ◌∷◌, ◌++◌, append-nil, set, get_or, map, length, slice_get, Option, Some, None, if◌then◌else◌}
use Rattle.hp_word.specs.declared.place.Trap.{Trap}
use Rattle.hp_word.specs.declared.table.Message.{Message}
use Rattle.hp_network.specs.Network.{Act, HasHalted, Trips, Goes, Sends, Gets, Prints, Counts, Machine, State, counts_at, done, done_at, no_counts, run, start, taken, turn, unless_trapped}

-- ---- moves

set_moves : (cs : List Counts) (r k : ℕ) (c : Counts) → c.moves ≡ suc (get_or cs r no_counts).moves → (get_or (set cs r c) k no_counts).moves ≤ (get_or cs k no_counts).moves + 1
set_moves [] r k c e = omega arith
set_moves (x ∷ xs) zero zero c e = omega (arith, e)
set_moves (x ∷ xs) zero (suc k) c e = omega arith
set_moves (x ∷ xs) (suc r) zero c e = omega arith
set_moves (x ∷ xs) (suc r) (suc k) c e = set_moves xs r k c e

-- what a turn of one rank makes of a state
record Turns {X : Type 0} (k : ℕ) (s later : State X) : Type 0 where
  moves : (counts_at later k).moves ≤ (counts_at s k).moves + 1
  text : List ℕ
  out : later.out ≡ s.out ++ text

still : {X : Type 0} (k : ℕ) (s : State X) → Turns k s s
still k s = record { moves = omega arith; text = []; out = sym (append-nil s.out) }

if_turns : {X : Type 0} (k : ℕ) (b : Bool) (s x : State X) → Turns k s x → Turns k s (if b then x else s)
if_turns k true s x h = h
if_turns k false s x h = still k s

taken_turns : {X : Type 0} (m : Machine X) (s : State X) (r k sender : ℕ) (f : Message → X) (q : List Message) → Turns k s (taken q m s r sender f)
taken_turns m s r k sender f [] = still k s
taken_turns m s r k sender f (message ∷ rest) = record { moves = set_moves s.counts r k _ refl; text = []; out = sym (append-nil s.out) }

done_turns : {X : Type 0} (m : Machine X) (s : State X) (r k : ℕ) (a : Act X) → Turns k s (done a m s r)
done_turns m s r k HasHalted = still k s
done_turns m s r k (Trips t) = record { moves = set_moves s.counts r k _ refl; text = []; out = sym (append-nil s.out) }
done_turns m s r k (Goes x) = record { moves = set_moves s.counts r k _ refl; text = []; out = sym (append-nil s.out) }
done_turns m s r k (Sends to message x) = if_turns k (m.room.fits (length (s.queues r to))) s _ (record { moves = set_moves s.counts r k _ refl; text = []; out = sym (append-nil s.out) })
done_turns m s r k (Gets sender f) = taken_turns m s r k sender f (s.queues sender r)
done_turns m s r k (Prints text x) = record { moves = set_moves s.counts r k _ refl; text = text; out = refl }

at_turns : {X : Type 0} (m : Machine X) (s : State X) (r k : ℕ) (o : Option X) → Turns k s (done_at o m s r)
at_turns m s r k None = still k s
at_turns m s r k (Some x) = done_turns m s r k (m.act x)

unless_turns : {X : Type 0} (k : ℕ) (o : Option Trap) (s later : State X) → Turns k s later → Turns k s (unless_trapped o s later)
unless_turns k None s later h = h
unless_turns k (Some t) s later h = still k s

turns_by : {X : Type 0} (m : Machine X) (s : State X) (r k : ℕ) → Turns k s (turn m s r)
unfolding turn
turns_by m s r k = unless_turns k s.trap s (done_at (slice_get s.ranks r) m s r) (at_turns m s r k (slice_get s.ranks r))

-- a turn adds this text
pub turn_text : {X : Type 0} (m : Machine X) (s : State X) (r : ℕ) → (text : List ℕ) × ((turn m s r).out ≡ s.out ++ text)
turn_text m s r = let h = turns_by m s r 0 in (h.text, h.out)

pub run_moves : {X : Type 0} (m : Machine X) (rs : List ℕ) (s : State X) (k : ℕ) → (counts_at (run m s rs) k).moves ≤ (counts_at s k).moves + length rs
unfolding run
run_moves m [] s k = omega arith
run_moves m (r ∷ rs) s k = let h = run_moves m rs (turn m s r) k in let e = (turns_by m s r k).moves in omega (arith, h, e)

no_moves : {X : Type 0} (xs : List X) (k : ℕ) → (get_or (map (λ x. no_counts) xs) k no_counts).moves ≡ 0
no_moves [] k = refl
no_moves (x ∷ xs) zero = refl
no_moves (x ∷ xs) (suc k) = no_moves xs k

-- from the start, no rank has made more moves than there were turns
pub moves_within : {X : Type 0} (m : Machine X) (xs : List X) (rs : List ℕ) (k : ℕ) → (counts_at (run m (start xs) rs) k).moves ≤ length rs
moves_within m xs rs k = let h = run_moves m rs (start xs) k in let e = no_moves xs k in omega (arith, h, e)
