-- What a rank does next, alone.
use Rattle.std.specs.Prelude.{ℕ, zero, suc, ◌==◌, if◌then◌else◌, List, [], ◌∷◌, slice_set}
use Rattle.hp_word.specs.declared.place.Trap.{Trap}
use Rattle.hp_word.specs.declared.table.Message.{Message}
use Rattle.hp_word.specs.declared.table.Tables.{Tables}
use Rattle.hp_spmd.specs.declared.code.Code.{Code}
use Rattle.hp_spmd.specs.declared.store.Store.{Store}
use Rattle.hp_spmd.specs.Kinds.{Kind, Computes, Jumps, Packs, Posts, Takes, PostsRoot, TakesRoot, Unpacks, Writes, Halts, kind_of}
use Rattle.hp_spmd.specs.Local.{local_next}
use Rattle.hp_spmd.specs.Exchange.{written}
use Rattle.hp_spmd.specs.Next as next
use Rattle.hp_spmd.specs.Next.{Next, moved}
use Rattle.hp_spmd.specs.Store.{message_at, no_message, instr_at}

pub data Act : Type 0 where
  -- it has halted
  HasHalted : Act
  Trips : Trap → Act
  Goes : Store → Act
  -- to a rank, a message, and the store then
  Sends : ℕ → Message → Store → Act
  -- from a rank, and the store with the message that it gets
  Gets : ℕ → (Message → Store) → Act
  -- the bytes of an output, and the store then
  Prints : List ℕ → Store → Act

-- a rank that has posted to rank `sent`: an empty message is left in the outbox, and after the last rank it moves on
abbrev pub after_post : Store → Store
after_post x =
    let outbox = slice_set x.outbox x.sent no_message in
    if suc x.sent == x.ranks then moved (record x { outbox = outbox; sent = 0 }) else record x { outbox = outbox; sent = suc x.sent }

-- a rank that has taken a message from rank `got`
abbrev pub after_take : Store → Message → Store
after_take x m =
    let inbox = slice_set x.inbox x.got m in
    if suc x.got == x.ranks then moved (record x { inbox = inbox; got = 0 }) else record x { inbox = inbox; got = suc x.got }

-- what rank 0 alone does; the others move on
abbrev pub first_only : ℕ → Act → Store → Act
first_only zero act x = act
first_only (suc rank) act x = Goes (moved x)

abbrev pub of_next : Next → Act
of_next (next.Goes x) = Goes x
of_next (next.Traps t) = Trips t

abbrev pub act_by : Kind → Next → Store → Act
act_by Computes next x = of_next next
act_by (Jumps target unless) next x = of_next next
act_by (Packs what) next x = of_next next
act_by Posts next x = Sends x.sent (message_at x.outbox x.sent) (after_post x)
act_by Takes next x = Gets x.got (after_take x)
act_by PostsRoot next x = Sends 0 (message_at x.outbox 0) (moved (record x { outbox = slice_set x.outbox 0 no_message }))
act_by TakesRoot next x = first_only x.number (Gets x.got (after_take x)) x
act_by (Unpacks what) next x = of_next next
act_by (Writes output) next x = first_only x.number (Prints (written output x.inbox) (moved x)) x
act_by Halts next x = HasHalted

-- the next action of a rank that runs this code over these tables
unfoldable pub act : Code → Tables → Store → Act
act code tables x =
    let i = instr_at code.list x.position in
    act_by (kind_of i) (local_next code.arrays tables i x) x

-- ---- a whole exchange, alone

-- a rank after so many posts
abbrev pub after_posts : ℕ → Store → Store
after_posts zero x = x
after_posts (suc k) x = after_posts k (after_post x)

-- a rank that has taken these messages, one after the other
abbrev pub after_takes : List Message → Store → Store
after_takes [] x = x
after_takes (m ∷ ms) x = after_takes ms (after_take x m)
