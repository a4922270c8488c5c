-- How the calls of a rank go with what the rank does next.
use Rattle.std.specs.Prelude.{◌≡◌, ℕ, ◌-◌, ◌^◌, ◌<◌, ◌≤◌, Option, Some, None}
use Rattle.hp_word.specs.declared.table.Message.{Message}
use Rattle.hp_word.specs.Lengths.{trap}
use Rattle.hp_rank.specs.declared.rank.Did.{Did}
use Rattle.hp_rank.specs.declared.rank.Did.TheVariants as did
use Rattle.hp_spmd.specs.declared.store.Store.{Store}
use Rattle.hp_spmd.specs.Act.{Act, HasHalted, Trips, Goes, Sends, Gets, Prints}
use Rattle.hp_spmd.specs.Kinds.{Kind, Posts, PostsRoot}

-- A rank that can take its next action: it is one of 1 to 32, and so are those to whom it posts and from whom it takes next,
-- and it can count one more join or aggregate.
pub record CanStep (x : Store) : Type 0 where
  pub some : 1 ≤ x.ranks
  pub few : x.ranks ≤ 32
  pub among : x.number < x.ranks
  pub sent : x.sent < x.ranks
  pub got : x.got < x.ranks
  pub executed : x.executed < 2 ^ 64 - 1

-- The answer of a step and the store behind it, from the store before: what the rank does next is done, but a take and a write
-- are left to the calls that follow.
abbrev pub Does : Act → Did → (old new : Store) → Type 0
Does HasHalted did.Halted old new = new ≡ old
Does (Trips t) (did.Trapped at kind) old new = (t ≡ trap at kind) × (new ≡ old)
Does (Goes x) did.Moved old new = new ≡ x
Does (Sends to message x) (did.Posts rank sent) old new = (rank ≡ to) × (sent ≡ message) × (new ≡ x)
Does (Gets sender f) (did.Wants rank) old new = (rank ≡ sender) × (new ≡ old)
Does (Prints text x) (did.Writes bytes) old new = (bytes.items ≡ text) × (new ≡ old)
Does _ _ old new = ⊥

-- where the rank takes a message next, this is its store with the message that it was given
abbrev pub Gave : Act → Message → Store → Type 0
Gave (Gets sender f) message new = new ≡ f message
Gave _ message new = Unit {0}

-- where the rank writes next, this is its store then
abbrev pub Wrote : Act → Store → Type 0
Wrote (Prints text x) new = new ≡ x
Wrote _ new = Unit {0}

-- the rank to which an action posts
abbrev pub receiver_of : Act → Option ℕ
receiver_of (Sends to message x) = Some to
receiver_of _ = None

-- the rank to which a rank posts by an instruction of this shape
unfoldable pub receiver_by : Kind → Store → Option ℕ
receiver_by Posts x = Some x.sent
receiver_by PostsRoot x = Some 0
receiver_by _ x = None
