-- Ranks that are at one position of a code, and what one round of them comes to.
use Rattle.std.specs.Prelude.{ℕ, ◌≡◌, ◌<◌, ◌-◌, ◌^◌, ◌==◌, if◌then◌else◌, List, length, map, slice_index_or, slice_set}
use Rattle.hp_word.specs.Lengths.{trap}
use Rattle.hp_spmd.specs.declared.lockstep.round.RoundEnd.{RoundEnd}
use Rattle.hp_spmd.specs.declared.lockstep.round.RoundEnd.TheVariants as round
use Rattle.hp_spmd.specs.declared.store.Store.{Store}
use Rattle.hp_spmd.specs.Kinds.{Kind, Computes, Jumps, Packs, Posts, Takes, PostsRoot, TakesRoot, Unpacks, Writes, Halts}
use Rattle.hp_spmd.specs.Next.{moved}
use Rattle.hp_spmd.specs.Lockstep.{Step, Ends, Trips, Steps, Together, All, One, position_of}
use Rattle.hp_spmd.specs.Store.{message_at, no_message}

-- the store of a rank among so many, at this position, with a message for each rank
pub record IsRank (ranks position number : ℕ) (x : Store) : Type 0 where
  pub number_is : x.number ≡ number
  pub ranks_are : x.ranks ≡ ranks
  pub position_is : x.position ≡ position
  pub outbox_has : length x.outbox ≡ ranks

-- the stores of all ranks, from 0 on, at this position
abbrev pub AreRanks : ℕ → List Store → Type 0
AreRanks position xs = (k : ℕ) (d : Store) → k < length xs → IsRank (length xs) position k (slice_index_or xs k d)

-- each rank can count one more join or aggregate
abbrev pub HaveRoom : List Store → Type 0
HaveRoom xs = (k : ℕ) (d : Store) → k < length xs → (slice_index_or xs k d).executed < 2 ^ 64 - 1

-- each rank has its place as its number
abbrev pub AreNumbered : List Store → Type 0
AreNumbered xs = (k : ℕ) (d : Store) → k < length xs → (slice_index_or xs k d).number ≡ k

-- the stores of all ranks, from 0 on, at one position
abbrev pub AreTogether : List Store → Type 0
AreTogether xs = AreRanks (position_of xs) xs

-- the instructions of lockstep that each rank does by itself
abbrev pub IsTogether : Kind → Type 0
IsTogether Computes = Unit {0}
IsTogether (Jumps target unless) = ⊥
IsTogether (Packs what) = Unit {0}
IsTogether Posts = ⊥
IsTogether Takes = ⊥
IsTogether PostsRoot = ⊥
IsTogether TakesRoot = ⊥
IsTogether (Unpacks what) = Unit {0}
IsTogether (Writes output) = ⊥
IsTogether Halts = ⊥

-- a rank that has given its message to the rank `to` out of hand
abbrev pub emptied : ℕ → Store → Store
emptied to x = record x { outbox = slice_set x.outbox to no_message }

-- a rank once the rank `to` has got its message from each of these
abbrev pub delivered_to : ℕ → List Store → Store → Store
delivered_to to ranks x =
    record x {
      inbox = if x.number == to then map (λ y. message_at y.outbox to) ranks else x.inbox;
      outbox = slice_set x.outbox to no_message;
    }

-- a rank once it has sent all its messages
abbrev pub posted : Store → Store
posted x = moved (record x { sent = 0 })

-- the answer is that of all ranks together: each has gone on to its store here, or the trap that counts
abbrev pub TellsAll : Together → RoundEnd → List Store → Type 0
TellsAll (All xs) round.Moved new = new ≡ xs
TellsAll (All xs) (round.Trapped at kind) new = ⊥
TellsAll (All xs) round.Ended new = ⊥
TellsAll (One t) round.Moved new = ⊥
TellsAll (One t) (round.Trapped at kind) new = t ≡ trap at kind
TellsAll (One t) round.Ended new = ⊥

-- the answer, the stores and the output are those of a step; one that ends or traps leaves the output `before`
abbrev pub Rounds : Step → RoundEnd → List ℕ → List Store → List ℕ → Type 0
Rounds Ends round.Ended before new out = out ≡ before
Rounds Ends (round.Trapped at kind) before new out = ⊥
Rounds Ends round.Moved before new out = ⊥
Rounds (Trips t) round.Ended before new out = ⊥
Rounds (Trips t) (round.Trapped at kind) before new out = (t ≡ trap at kind) × (out ≡ before)
Rounds (Trips t) round.Moved before new out = ⊥
Rounds (Steps s) round.Ended before new out = ⊥
Rounds (Steps s) (round.Trapped at kind) before new out = ⊥
Rounds (Steps s) round.Moved before new out = (new ≡ s.ranks) × (out ≡ s.out)
