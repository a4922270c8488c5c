-- The queues between ranks with room for so many messages, and where a rank comes to by an action.
use Rattle.std.specs.Prelude.{◌≡◌, ℕ, ◌+◌, ◌*◌, ◌<◌, ◌≤◌, Bool, true, List, [], length, slice_index_or, nat_lt, Option, None, Some}
use Rattle.std.specs.List.{sum_by}
use Rattle.hp_word.specs.declared.table.Message.{Message}
use Rattle.hp_links.specs.Mails.{Mail, queue_in}
use Rattle.hp_spmd.specs.declared.store.Store.{Store}
use Rattle.hp_spmd.specs.Act.{Act, HasHalted, Trips, Goes, Sends, Gets, Prints}

-- ---- queues

abbrev pub row_of : List (List (List Message)) → ℕ → List (List Message)
row_of queues a = slice_index_or queues a []

-- a queue from each of n ranks to each, with at most so many messages, and room for the rest of them
pub record HasRoom (n room : ℕ) (mail : Mail) : Type 0 where
  pub ranks : mail.ranks ≡ n
  pub rows : length mail.queues ≡ n
  pub columns : (a : ℕ) → a < n → length (row_of mail.queues a) ≡ n
  pub each : (a b : ℕ) → length (queue_in mail.queues a b) ≤ room
  pub spare : sum_by (sum_by length) mail.queues + mail.spare ≡ n * (n * room)

-- ---- one action

-- the store that a rank comes to by an action; one that gets a message comes to that of some message
abbrev pub ComesTo : Act → Store → Type 0
ComesTo HasHalted y = ⊥
ComesTo (Trips t) y = ⊥
ComesTo (Goes x) y = y ≡ x
ComesTo (Sends to message x) y = y ≡ x
ComesTo (Gets sender f) y = (message : Message) × (y ≡ f message)
ComesTo (Prints text x) y = y ≡ x

-- whether the queue to the receiver of a post, if there is one, takes one more message
abbrev pub has_space : Option ℕ → (ℕ → List Message) → (room : ℕ) → Bool
has_space None queues room = true
has_space (Some to) queues room = nat_lt (length (queues to)) room
