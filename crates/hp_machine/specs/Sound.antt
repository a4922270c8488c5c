-- What holds of the parts of every machine.
use Rattle.std.specs.Prelude.{◌≡◌, ℕ, ◌<◌, ◌≤◌, min, Bool, true, false, List, [], length, slice_index_or}
use Rattle.std.specs.List.{list_all}
use Rattle.hp_links.specs.Mails.{Mail}
use Rattle.hp_network.specs.Network.{most}
use Rattle.hp_rank.specs.declared.rank.Rank.{Rank}
use Rattle.hp_spmd.specs.declared.code.Code.{Code}
use Rattle.hp_spmd.specs.declared.instr.Instr.{Instr}
use Rattle.hp_spmd.specs.declared.instr.Instr.TheVariants as instr
use Rattle.hp_spmd.specs.declared.store.Store.{Store}
use Rattle.hp_spmd.specs.Names.{is_halt}
use Rattle.hp_spmd.specs.Store.{instr_at}
use Rattle.hp_turns.specs.Turns.{cells_of}
use Rattle.hp_machine.specs.Parts.{HasRoom}

-- ---- ranks

-- Rank r of n: it is that rank, the ranks to which it posts and from which it takes next are among them, and it has executed no
-- more joins and aggregates than it has made moves.
pub record IsFine (n r moves : ℕ) (x : Store) : Type 0 where
  pub number : x.number ≡ r
  pub ranks : x.ranks ≡ n
  pub sent : x.sent < n
  pub got : x.got < n
  pub executed : x.executed ≤ moves

-- a rank that is none of a machine's
abbrev pub no_store : Store
no_store =
    record {
      number = 0;
      ranks = 0;
      position = 0;
      words = [];
      arrays = [];
      loose = [];
      outbox = [];
      inbox = [];
      sent = 0;
      got = 0;
      executed = 0;
      log = record { list = [] };
    }

abbrev pub store_at : List Rank → ℕ → Store
store_at ranks r = (slice_index_or ranks r (record { store = no_store })).store

-- ---- machines

-- 1 to 32 ranks, the queues between them, and what is counted of each
pub record IsSound (ranks : List Rank) (mail : Mail) (moves words peak : List ℕ) (room : ℕ) : Type 0 where
  pub some : 1 ≤ length ranks
  pub few : length ranks ≤ 32
  pub least : 1 ≤ room
  pub most_room : room ≤ 64
  pub moves_of_each : length moves ≡ length ranks
  pub words_of_each : length words ≡ length ranks
  pub peak_of_each : length peak ≡ length ranks
  pub room_for_each : HasRoom (length ranks) room mail
  pub fine : (r : ℕ) → r < length ranks → IsFine (length ranks) r (slice_index_or moves r 0) (store_at ranks r)
  pub within : (r : ℕ) → r < length ranks → slice_index_or peak r 0 ≤ most
  -- what a rank holds is no more than the most that it has held
  pub held : (r : ℕ) → r < length ranks → min (cells_of (store_at ranks r)) most ≤ slice_index_or peak r 0

-- ---- instructions

-- whether an instruction leaves the arrays of a rank
abbrev pub keeps_arrays : Instr → Bool
keeps_arrays (instr.Const to value) = true
keeps_arrays (instr.Calc to op left right at) = true
keeps_arrays (instr.Jump target unless) = true
keeps_arrays instr.Halt = true
keeps_arrays (instr.Length to array) = true
keeps_arrays (instr.Check arrays rule at) = true
keeps_arrays (instr.At to array index at) = true
keeps_arrays (instr.Pack what) = true
keeps_arrays (instr.Post root) = true
keeps_arrays (instr.Take root) = true
keeps_arrays (instr.Write what) = true
keeps_arrays _ = false

-- whether the next instruction of a rank is Halt
unfoldable pub is_over : Code → Store → Bool
is_over code x = is_halt (instr_at code.list x.position)

-- whether it is so of all ranks
abbrev pub all_over : Code → List Rank → Bool
all_over code ranks = list_all (λ rank. is_over code rank.store) ranks
