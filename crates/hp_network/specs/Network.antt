-- Ranks that take turns in any order. Each knows its own state `X` alone; a queue leads from each rank to each rank.
use Rattle.std.specs.Prelude.{◌≡◌, ℕ, zero, suc, ◌+◌, ◌-◌, ◌^◌, ◌≤◌, min, max, ◌==◌, ◌&&◌, if◌then◌else◌, Bool, true, false, List, [], ◌∷◌, ◌++◌, All, length, map, slice_get, slice_index_or, slice_set, Option, Some, None, ◌⊎◌}
use Rattle.std.specs.List.{range_with_len}
use Rattle.hp_word.specs.declared.place.Trap.{Trap}
use Rattle.hp_word.specs.declared.table.Message.{Message}

-- ---- ranks

-- what a rank does next, alone
pub data Act (X : Type 0) : Type 0 where
  -- it has halted
  HasHalted : Act X
  Trips : Trap → Act X
  Goes : X → Act X
  -- to a rank, a message, and its state then
  Sends : ℕ → Message → X → Act X
  -- from a rank, and its state with the message that it gets
  Gets : ℕ → (Message → X) → Act X
  -- the bytes of an output, and its state then
  Prints : List ℕ → X → Act X

-- Whether a queue that holds so many messages takes one more. An empty one does, and where some queue does, one that holds
-- fewer does too.
pub record Room : Type 0 where
  pub fits : ℕ → Bool
  pub some : fits 0 ≡ true
  pub fewer : (j k : ℕ) → j ≤ k → fits k ≡ true → fits j ≡ true

-- what the ranks run, and the room of each queue; and how many cells of arrays a rank holds
pub record Machine (X : Type 0) : Type 0 where
  pub act : X → Act X
  pub cells : X → ℕ
  pub room : Room

-- ---- states

-- What is counted of a rank: its moves; the words that it has posted; and the most cells of arrays that it has held after a
-- move. The last two stay at the greatest count where they would pass it.
pub record Counts : Type 0 where
  pub moves : ℕ
  pub words : ℕ
  pub peak : ℕ

-- the greatest count
abbrev pub most : ℕ
most = 2 ^ 64 - 1

-- no move yet
abbrev pub no_counts : Counts
no_counts = record { moves = 0; words = 0; peak = 0 }

-- the ranks from 0 on; the queue from a rank to a rank, its front first; what was written; and the trap, if a rank has trapped
pub record State (X : Type 0) : Type 0 where
  pub ranks : List X
  pub queues : (sender receiver : ℕ) → List Message
  pub out : List ℕ
  pub trap : Option Trap
  pub counts : List Counts

-- before the first turn
abbrev pub start : {X : Type 0} → List X → State X
start ranks = record { ranks = ranks; queues = λ a b. []; out = []; trap = None; counts = map (λ x. no_counts) ranks }

-- ---- turns

-- the queues in which that from a rank to a rank has become this one
abbrev pub with_queue : (ℕ → ℕ → List Message) → (sender receiver : ℕ) → List Message → ℕ → ℕ → List Message
with_queue queues sender receiver q a b = if (a == sender) && (b == receiver) then q else queues a b

abbrev pub counts_at : {X : Type 0} → State X → ℕ → Counts
counts_at s r = slice_index_or s.counts r no_counts

-- rank r has made a move that posted so many words, and has come to x
abbrev pub moved : {X : Type 0} → Machine X → State X → (r words : ℕ) → X → State X
moved m s r words x =
    let c = counts_at s r in
    record s {
      ranks = slice_set s.ranks r x;
      counts = slice_set s.counts r (record { moves = suc c.moves; words = min (c.words + words) most; peak = min (max c.peak (m.cells x)) most });
    }

-- rank r has trapped, which is a move, and is where it was
abbrev pub tripped : {X : Type 0} → State X → ℕ → Trap → State X
tripped s r t = let c = counts_at s r in record s { trap = Some t; counts = slice_set s.counts r (record c { moves = suc c.moves }) }

-- rank r takes the front of its queue from a rank; from an empty queue it takes nothing
abbrev pub taken : {X : Type 0} → List Message → Machine X → State X → (r sender : ℕ) → (Message → X) → State X
taken [] m s r sender f = s
taken (message ∷ rest) m s r sender f = record (moved m s r 0 (f message)) { queues = with_queue s.queues sender r rest }

-- rank r does this
abbrev pub done : {X : Type 0} → Act X → Machine X → State X → ℕ → State X
done HasHalted m s r = s
done (Trips t) m s r = tripped s r t
done (Goes x) m s r = moved m s r 0 x
done (Sends to message x) m s r =
    let q = s.queues r to in
    if m.room.fits (length q) then record (moved m s r (length message.words) x) { queues = with_queue s.queues r to (q ++ message ∷ []) } else s
done (Gets sender f) m s r = taken (s.queues sender r) m s r sender f
done (Prints text x) m s r = record (moved m s r 0 x) { out = s.out ++ text }

-- what the rank at a place of the ranks does, if there is one
abbrev pub done_at : {X : Type 0} → Option X → Machine X → State X → ℕ → State X
done_at None m s r = s
done_at (Some x) m s r = done (m.act x) m s r

-- nothing changes once some rank has trapped
abbrev pub unless_trapped : {X : Type 0} → Option Trap → State X → State X → State X
unless_trapped None s later = later
unless_trapped (Some t) s later = s

-- a turn of rank r
unfoldable pub turn : {X : Type 0} → Machine X → State X → ℕ → State X
turn m s r = unless_trapped s.trap s (done_at (slice_get s.ranks r) m s r)

-- the turns of a list, in order; once all ranks have halted, no turn changes anything
unfoldable pub run : {X : Type 0} → Machine X → State X → List ℕ → State X
run m s [] = s
run m s (r ∷ rs) = run m (turn m s r) rs

-- so many rounds in which each of the ranks has one turn, from 0 on
abbrev pub rounds : (ranks count : ℕ) → List ℕ
rounds ranks zero = []
rounds ranks (suc k) = range_with_len 0 ranks ++ rounds ranks k

-- ---- how a state stands

abbrev pub IsHalt : {X : Type 0} → Act X → Type 0
IsHalt HasHalted = Unit {0}
IsHalt _ = ⊥

-- all ranks have halted
abbrev pub HasEnded : {X : Type 0} → Machine X → State X → Type 0
HasEnded m s = All (λ x. IsHalt (m.act x)) s.ranks

-- what rank r does next has to wait: it takes from an empty queue, or posts to one that has no room
abbrev pub Waits : {X : Type 0} → Machine X → State X → ℕ → Act X → Type 0
Waits m s r (Sends to message x) = m.room.fits (length (s.queues r to)) ≡ false
Waits m s r (Gets sender f) = s.queues sender r ≡ []
Waits m s r _ = ⊥

-- no rank has trapped, not all have halted, and each that has not has to wait
pub record IsStuck {X : Type 0} (m : Machine X) (s : State X) : Type 0 where
  pub going : s.trap ≡ None
  pub some : HasEnded m s → ⊥
  pub waits : (r : ℕ) (x : X) → slice_get s.ranks r ≡ Some x → IsHalt (m.act x) ⊎ Waits m s r (m.act x)
