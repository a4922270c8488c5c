-- How the queues of mailboxes lie in one table of nodes, of which those that hold no message are one more list.
use Rattle.std.specs.Prelude.{◌≡◌, ℕ, zero, suc, ◌+◌, ◌-◌, ◌^◌, ◌<◌, List, [], ◌∷◌, ◌++◌, Option, None, Some, length, map, slice_index_or, slice_set, sum_by}
use Rattle.hp_word.specs.declared.table.Message.{Message}
use Rattle.hp_links.specs.declared.mailboxes.Ends.{Ends}
use Rattle.hp_links.specs.declared.mailboxes.Letter.{Letter}
use Rattle.hp_links.specs.declared.mailboxes.Pair.{Pair}
use Rattle.hp_links.specs.Mails.{Mail}

abbrev pub no_message : Message
no_message = record { words = [] }

-- a node that holds no message
abbrev pub unused : Option ℕ → Letter
unused next = record { message = no_message; owner = None; next = next }

abbrev pub letter_at : List Letter → ℕ → Letter
letter_at table k = slice_index_or table k (unused None)

-- a list of so many nodes of this owner
abbrev pub Chain : List Letter → Option Pair → ℕ → Option ℕ → Type 0
Chain table owner zero at = at ≡ None
Chain table owner (suc k) None = ⊥
Chain table owner (suc k) (Some i) = (i < length table) × ((letter_at table i).owner ≡ owner) × Chain table owner k (letter_at table i).next

-- the messages of so many nodes from one on
abbrev pub messages : List Letter → ℕ → Option ℕ → List Message
messages table zero at = []
messages table (suc k) None = []
messages table (suc k) (Some i) = (letter_at table i).message ∷ messages table k (letter_at table i).next

-- the last of so many nodes from one on; of none, the one before
abbrev pub last_from : List Letter → ℕ → Option ℕ → Option ℕ → Option ℕ
last_from table zero at before = before
last_from table (suc k) None before = before
last_from table (suc k) (Some i) before = last_from table k (letter_at table i).next (Some i)

-- ---- all queues

abbrev pub no_ends : Ends
no_ends = record { first = None; last = None; count = 0 }

abbrev pub row_at : List (List Ends) → ℕ → List Ends
row_at queues a = slice_index_or queues a []

abbrev pub ends_at : List (List Ends) → (sender receiver : ℕ) → Ends
ends_at queues a b = slice_index_or (row_at queues a) b no_ends

abbrev pub with_ends : (sender receiver : ℕ) → Ends → List (List Ends) → List (List Ends)
with_ends a b e queues = slice_set queues a (slice_set (row_at queues a) b e)

abbrev pub pair : (sender receiver : ℕ) → Pair
pair a b = record { sender = a; receiver = b }

abbrev pub messages_of : List Letter → Ends → List Message
messages_of table e = messages table e.count e.first

-- what is seen of a table and the ends of its queues
abbrev pub seen : (ranks : ℕ) → List Letter → List (List Ends) → (spare : ℕ) → Mail
seen ranks table queues spare = record { ranks = ranks; queues = map (map (messages_of table)) queues; spare = spare }

-- how many messages there are
abbrev pub held : List (List Ends) → ℕ
held queues = sum_by (sum_by (λ e. e.count)) queues

-- a queue of these ends lies in the table
pub record IsQueue (table : List Letter) (owner : Pair) (e : Ends) : Type 0 where
  pub chain : Chain table (Some owner) e.count e.first
  pub last : e.last ≡ last_from table e.count e.first None

-- the queues of all pairs and the nodes that are unused lie in the table, and fill it
pub record IsMail (ranks : ℕ) (table : List Letter) (queues : List (List Ends)) (free : Option ℕ) (spare : ℕ) : Type 0 where
  pub few : length table < 2 ^ 32
  pub rows : length queues ≡ ranks
  pub columns : (a : ℕ) → a < ranks → length (row_at queues a) ≡ ranks
  pub queue : (a b : ℕ) → IsQueue table (pair a b) (ends_at queues a b)
  pub unused : Chain table None spare free
  pub count : held queues + spare ≡ length table

-- ---- what is changed

-- a node behind this one, or none
abbrev pub tied : Option ℕ → ℕ → List Letter → List Letter
tied None next table = table
tied (Some l) next table = slice_set table l (record (letter_at table l) { next = Some next })

abbrev pub full : Pair → Message → Letter
full owner message = record { message = message; owner = Some owner; next = None }

abbrev pub first_of : Option ℕ → ℕ → Option ℕ
first_of None next = Some next
first_of (Some first) next = Some first

-- the ends with one node more
abbrev pub longer : Ends → ℕ → Ends
longer e next = record { first = first_of e.first next; last = Some next; count = suc e.count }

abbrev pub last_of : Option ℕ → Option ℕ → Option ℕ
last_of None last = None
last_of (Some next) last = last

-- the ends without the first node, whose next one this is
abbrev pub shorter : Ends → Option ℕ → Ends
shorter e next = record { first = next; last = last_of next e.last; count = e.count - 1 }

-- so many unused nodes, the last of which is the first of their list
abbrev pub before : ℕ → Option ℕ
before zero = None
before (suc k) = Some k

unfoldable pub all_unused : ℕ → List Letter
all_unused zero = []
all_unused (suc k) = all_unused k ++ unused (before k) ∷ []
