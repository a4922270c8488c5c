-- The ranks of a code that take turns in any order.
use Rattle.std.specs.Prelude.{ℕ, ◌+◌, ◌*◌, ◌==◌, nat_lt, if◌then◌else◌, List, [], ◌∷◌, length, map, flat_map}
use Rattle.hp_word.specs.declared.order.Order.{Order}
use Rattle.hp_word.specs.declared.order.Orders.{Orders}
use Rattle.hp_word.specs.declared.order.RowPlace.{RowPlace}
use Rattle.hp_word.specs.declared.table.Tables.{Tables}
use Rattle.hp_network.specs.Network as network
use Rattle.hp_network.specs.Network.{Machine, Room, State}
use Rattle.hp_spmd.specs.declared.code.Code.{Code}
use Rattle.hp_spmd.specs.declared.store.Store.{Store}
use Rattle.hp_spmd.specs.Act as act
use Rattle.hp_spmd.specs.Lockstep.{first_state}

-- what a rank does next, as that of any ranks that take turns
abbrev pub of_act : act.Act → network.Act Store
of_act act.HasHalted = network.HasHalted
of_act (act.Trips t) = network.Trips t
of_act (act.Goes x) = network.Goes x
of_act (act.Sends to message x) = network.Sends to message x
of_act (act.Gets sender f) = network.Gets sender f
of_act (act.Prints text x) = network.Prints text x

-- how many cells of arrays a rank holds, those of loose columns not counted
abbrev pub cells_of : Store → ℕ
cells_of x = length (flat_map (λ piece. piece.cells) x.arrays)

-- the ranks of a code over these tables, with this room in each queue
abbrev pub machine : Code → Tables → Room → Machine Store
machine code tables room = record { act = λ x. of_act (act.act code tables x); cells = cells_of; room = room }

-- every rank at the first instruction, with an empty store; no message and no output
abbrev pub start : Code → (ranks : ℕ) → State Store
start code ranks = network.start (first_state code ranks).ranks

-- the state after these turns, in order
abbrev pub run : Code → Tables → Room → (ranks : ℕ) → (turns : List ℕ) → State Store
run code tables room ranks turns = network.run (machine code tables room) (start code ranks) turns

-- ---- kept orders

-- numbers that rise, with this one among them
abbrev pub with_number : ℕ → List ℕ → List ℕ
with_number k [] = k ∷ []
with_number k (n ∷ ns) = if k == n then n ∷ ns else if nat_lt k n then k ∷ n ∷ ns else n ∷ with_number k ns

-- the numbers of orders, in rising order
abbrev pub numbers_of : List Order → List ℕ
numbers_of [] = []
numbers_of (o ∷ os) = with_number o.number (numbers_of os)

-- the places of the orders of this number, one after the other
abbrev pub places_for : ℕ → List Order → List RowPlace
places_for k orders = flat_map (λ o. if o.number == k then o.places else []) orders

-- One order for each number that some rank logged, in rising order of the numbers; its places are the ranks' lists for that
-- number, one after the other in the order of the ranks.
unfoldable pub kept_orders : List Store → Orders
kept_orders ranks = let logged = flat_map (λ x. x.log.list) ranks in record { list = map (λ k. record { number = k; places = places_for k logged }) (numbers_of logged) }

-- ---- how many turns are enough

-- turns in rounds that are enough for a script that takes so many ticks
abbrev pub budget : (ticks ranks : ℕ) → ℕ
budget ticks ranks = ranks * (ticks + 1) * (256 + 32 * ranks)
