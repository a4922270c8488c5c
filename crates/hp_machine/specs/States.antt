-- Parts of a machine as a state of ranks that take turns, and what an action does to them.
use Rattle.std.specs.Prelude.{◌≡◌, ℕ, suc, ◌+◌, min, max, List, [], ◌∷◌, map, slice_set, Option, None, ◌⊎◌}
use Rattle.hp_word.specs.declared.place.Trap.{Trap}
use Rattle.hp_word.specs.declared.table.Message.{Message}
use Rattle.hp_word.specs.declared.table.Tables.{Tables}
use Rattle.hp_word.specs.Lengths.{trap}
use Rattle.hp_links.specs.Mails.{Mail, queue_at}
use Rattle.hp_network.specs.Network.{Machine, State, Counts, IsHalt, Waits, counts_at, done, most}
use Rattle.hp_rank.specs.declared.rank.Rank.{Rank}
use Rattle.hp_spmd.specs.declared.store.Store.{Store}
use Rattle.hp_rank.specs.Steps.{Gave}
use Rattle.hp_spmd.specs.declared.code.Code.{Code}
use Rattle.hp_spmd.specs.Act.{Act, Trips, act}
use Rattle.hp_turns.specs.Turns.{cells_of, of_act}
use Rattle.hp_machine.specs.declared.action.Deed.{Deed}
use Rattle.hp_machine.specs.declared.action.Deed.TheVariants as deed
use Rattle.hp_machine.specs.Parts.{ComesTo}

-- what is counted of each rank, of three lists
abbrev pub counts_of : (moves words peak : List ℕ) → List Counts
counts_of [] words peak = []
counts_of (m ∷ ms) [] peak = []
counts_of (m ∷ ms) (w ∷ ws) [] = []
counts_of (m ∷ ms) (w ∷ ws) (p ∷ ps) = record { moves = m; words = w; peak = p } ∷ counts_of ms ws ps

-- the state of these ranks, queues, output, trap and counts
abbrev pub state_by : List Rank → Mail → List ℕ → Option Trap → (moves words peak : List ℕ) → State Store
state_by ranks mail out trap moves words peak =
    record { ranks = map (λ rank. rank.store) ranks; queues = queue_at mail; out = out; trap = trap; counts = counts_of moves words peak }

-- the counts once rank r has made a move that posted so many words, and has come to x
abbrev pub counted_for : List Counts → Counts → (r posted : ℕ) → Store → List Counts
counted_for counts c r posted x = slice_set counts r (record { moves = suc c.moves; words = min (c.words + posted) most; peak = min (max c.peak (cells_of x)) most })

abbrev pub with_move : State Store → (r posted : ℕ) → Store → State Store
with_move s r posted x = record s { counts = counted_for s.counts (counts_at s r) r posted x }

-- A rank has done what it does next, this action, but for what is counted: it has come to y, and with it the queues and the
-- output to these.
pub record HasMoved (m : Machine Store) (a : Act) (r posted : ℕ) (y : Store) (mail mail2 : Mail) (out out2 : List ℕ) : Type 0 where
  pub comes : ComesTo a y
  pub does : (ranks : List Rank) (moves words peak : List ℕ)
      → done (of_act a) m (state_by ranks mail out None moves words peak) r ≡ with_move (state_by (slice_set ranks r (record { store = y })) mail2 out2 None moves words peak) r posted y

-- nothing has changed
pub record IsSame (x y : Store) (mail mail2 : Mail) (out out2 : List ℕ) : Type 0 where
  pub store_is : y ≡ x
  pub mail_is : mail2 ≡ mail
  pub out_is : out2 ≡ out

-- the rank has halted, or what it does next has to wait
abbrev pub HasToWait : Machine Store → State Store → ℕ → Act → Type 0
HasToWait m s r a = IsHalt (of_act a) ⊎ Waits m s r (of_act a)

-- what came of an action of a rank that was x and is y
abbrev pub Comes : Machine Store → Act → Deed → (r : ℕ) → (x y : Store) → (mail mail2 : Mail) → (out out2 : List ℕ) → Type 0
Comes m a (deed.Moved posted) r x y mail mail2 out out2 = HasMoved m a r posted y mail mail2 out out2
Comes m a deed.Waited r x y mail mail2 out out2 =
    IsSame x y mail mail2 out out2 × ((ranks : List Rank) (moves words peak : List ℕ) → HasToWait m (state_by ranks mail out None moves words peak) r a)
Comes m a (deed.Trapped at kind) r x y mail mail2 out out2 = IsSame x y mail mail2 out out2 × (a ≡ Trips (trap at kind))

-- The front of a queue, if there is one, is handed to the rank, whose store is then the new one; else the rank waits.
abbrev pub TakesFront : List Message → Code → Deed → (old new : Store) → Type 0
TakesFront [] code d old new = (d ≡ deed.Waited) × (new ≡ old)
TakesFront (message ∷ rest) code d old new = (d ≡ deed.Moved 0) × ((tables : Tables) → Gave (act code tables old) message new)
