-- Rooms, and worked rows of turns.
use Rattle.std.specs.Prelude.{◌≡◌, ℕ, zero, suc, ◌≤◌, nat_lt, true, List, [], ◌∷◌, Some, refl}
use Rattle.std.proofs.Common.{arith, ltb-true, lt-ltb}
use Rattle.hp_word.specs.declared.place.Trap.{Trap}
use Rattle.hp_word.specs.declared.place.TrapKind.TheVariants.{Divide}
use Rattle.hp_word.specs.declared.table.Message.{Message}
use Rattle.hp_word.specs.Lengths.{trap}
use Rattle.hp_network.specs.Network.{Act, HasHalted, Trips, Sends, Gets, Prints, Room, Machine, State, start, turn, run}

-- ---- rooms

-- queues that hold at most so many messages, at least one
abbrev pub at_most : (c : ℕ) → 1 ≤ c → Room
at_most c some =
    record {
      fits = λ k. nat_lt k c;
      some = lt-ltb 0 c some;
      fewer = λ j k le fits. lt-ltb j c (let h = ltb-true k c fits in omega (arith, h, le));
    }

-- queues without a bound
abbrev pub unbounded : Room
unbounded = record { fits = λ k. true; some = refl; fewer = λ j k le fits. refl }

-- ---- worked rows: rank 0 takes a message from rank 1 and prints its words; rank 1 posts two messages and then traps

data Part : Type 0 where
  Asks : Part
  Says : List ℕ → Part
  Tells : ℕ → Part
  Breaks : Part
  Ends : Part

letter : ℕ → Message
letter k = record { words = [] }

abbrev broken : Trap
broken = trap (record { line = 1; col = 1 }) Divide

abbrev does : Part → Act Part
does Asks = Gets 1 (λ message. Says (65 ∷ []))
does (Says text) = Prints text Ends
does (Tells zero) = Trips broken
does (Tells (suc k)) = Sends 0 (letter k) (Tells k)
does Breaks = Trips broken
does Ends = HasHalted

abbrev pair : Room → Machine Part
pair room = record { act = does; cells = λ x. 0; room = room }

abbrev one : Room
one = at_most 1 (omega arith)

abbrev first : State Part
first = start (Asks ∷ Tells 2 ∷ [])

-- rank 0 waits until rank 1 has posted
waits_row : (run (pair unbounded) first (0 ∷ 0 ∷ [])) ≡ first
unfolding run turn
waits_row = refl

-- it takes the message and prints, whether the second one has been posted or not
prints_row : ((run (pair unbounded) first (1 ∷ 0 ∷ 0 ∷ [])).out ≡ 65 ∷ []) × ((run (pair unbounded) first (1 ∷ 1 ∷ 0 ∷ 0 ∷ [])).out ≡ 65 ∷ [])
unfolding run turn
prints_row = (refl, refl)

-- a queue with room for one takes no second message until the first is taken
room_row : ((run (pair one) first (1 ∷ 1 ∷ [])).ranks ≡ Asks ∷ Tells 1 ∷ []) × ((run (pair one) first (1 ∷ 0 ∷ 1 ∷ [])).ranks ≡ Says (65 ∷ []) ∷ Tells 0 ∷ [])
unfolding run turn
room_row = (refl, refl)

-- a trap is a move that leaves the rank, and nothing changes after it
trap_row : ((run (pair unbounded) first (1 ∷ 1 ∷ 1 ∷ 0 ∷ [])).trap ≡ Some broken) × ((run (pair unbounded) first (1 ∷ 1 ∷ 1 ∷ 0 ∷ [])).ranks ≡ Asks ∷ Tells 0 ∷ [])
unfolding run turn
trap_row = (refl, refl)

-- no rank has number 2
none_row : (run (pair unbounded) first (2 ∷ [])) ≡ first
unfolding run turn
none_row = refl
