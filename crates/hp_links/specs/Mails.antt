-- What is seen of mailboxes: a queue of messages from each rank to each rank, and how many more messages there is room for.
use Rattle.std.specs.Prelude.{◌≡◌, ℕ, pos, suc, ◌-◌, List, [], ◌∷◌, ◌++◌, Option, replicate, slice_index_or, slice_set, refl}
use Rattle.hp_word.specs.declared.table.Message.{Message}

-- the queues by sender and then by receiver, the front of each first
pub record Mail : Type 0 where
  pub ranks : ℕ
  pub queues : List (List (List Message))
  pub spare : ℕ

abbrev pub queue_in : List (List (List Message)) → (sender receiver : ℕ) → List Message
queue_in queues sender receiver = slice_index_or (slice_index_or queues sender []) receiver []

abbrev pub queue_at : Mail → (sender receiver : ℕ) → List Message
queue_at m sender receiver = queue_in m.queues sender receiver

-- the queues in which that from a rank to a rank has become this one
abbrev pub with_queue : (sender receiver : ℕ) → List Message → List (List (List Message)) → List (List (List Message))
with_queue sender receiver q queues = slice_set queues sender (slice_set (slice_index_or queues sender []) receiver q)

-- no message, and room for so many
abbrev pub no_mail : (ranks spare : ℕ) → Mail
no_mail ranks spare = record { ranks = ranks; queues = replicate ranks (replicate ranks []); spare = spare }

-- a message more at the end of a queue
abbrev pub with_message : (sender receiver : ℕ) → Message → Mail → Mail
with_message sender receiver message m =
    record m { queues = with_queue sender receiver (queue_at m sender receiver ++ message ∷ []) m.queues; spare = m.spare - 1 }

-- the mail without the front of this queue, which leads from a rank to a rank
abbrev pub without_front : List Message → (sender receiver : ℕ) → Mail → Mail
without_front [] sender receiver m = m
without_front (message ∷ rest) sender receiver m = record m { queues = with_queue sender receiver rest m.queues; spare = suc m.spare }

-- ---- worked rows

letter : ℕ → Message
letter k = record { words = pos k ∷ [] }

queues_row : (with_message 0 1 (letter 7) (no_mail 2 3)).queues ≡ ([] ∷ (letter 7 ∷ []) ∷ []) ∷ ([] ∷ [] ∷ []) ∷ []
queues_row = refl

front_row : (without_front (letter 7 ∷ []) 0 1 (with_message 0 1 (letter 7) (no_mail 2 3))) ≡ no_mail 2 3
front_row = refl
