-- A machine as a state of ranks that take turns, and what a turn answers.
use Rattle.std.specs.Prelude.{◌≡◌, ◌≤◌, ℕ, Option, Some, None, ◌⊎◌, slice_get}
use Rattle.hp_word.specs.declared.place.Place.{Place}
use Rattle.hp_word.specs.declared.place.Trap.{Trap}
use Rattle.hp_word.specs.declared.place.TrapKind.{TrapKind}
use Rattle.hp_word.specs.declared.table.Tables.{Tables}
use Rattle.hp_word.specs.Lengths.{trap}
use Rattle.hp_network.specs.Network as network
use Rattle.hp_network.specs.Network.{State, HasEnded, IsHalt, Waits}
use Rattle.hp_network.specs.Rows.{at_most}
use Rattle.hp_spmd.specs.declared.code.Code.{Code}
use Rattle.hp_spmd.specs.declared.store.Store.{Store}
use Rattle.hp_turns.specs.Turns.{machine}
use Rattle.hp_machine.specs.declared.action.Deed.{Deed}
use Rattle.hp_machine.specs.declared.action.Deed.TheVariants as deed
use Rattle.hp_machine.specs.declared.machine.Machine.{Machine}
use Rattle.hp_machine.specs.declared.machine.Turned.{Turned}
use Rattle.hp_machine.specs.declared.machine.Turned.TheVariants as turned
use Rattle.hp_machine.specs.States.{state_by}

-- ---- machines

abbrev pub trap_of : Option (Place × TrapKind) → Option Trap
trap_of None = None
trap_of (Some t) = Some (trap t.0 t.1)

abbrev pub state_of : Machine → State Store
state_of m = state_by m.ranks.items m.queues m.out.items (trap_of m.trap) m.moves.items m.words.items m.peak.items

-- this holds of the ranks of a code over these tables, with room for so many messages in each queue
abbrev pub Running : (room : ℕ) → Code → Tables → (network.Machine Store → Type 0) → Type 0
Running room code tables P = (some : 1 ≤ room) → P (machine code tables (at_most room some))

-- ---- turns

-- the rank has halted, or what it does next has to wait
abbrev pub IdlesBy : network.Machine Store → State Store → ℕ → Option Store → Type 0
IdlesBy m s r None = Unit {0}
IdlesBy m s r (Some x) = IsHalt (m.act x) ⊎ Waits m s r (m.act x)

abbrev pub Idles : network.Machine Store → State Store → ℕ → Type 0
Idles m s r = IdlesBy m s r (slice_get s.ranks r)

-- what came of a turn of rank r, from a state to the later one
abbrev pub CameOf : network.Machine Store → (before later : State Store) → ℕ → Deed → Type 0
CameOf m before later r (deed.Moved posted) = (later.trap ≡ None) × (Idles m before r → ⊥)
CameOf m before later r deed.Waited = (later ≡ before) × Idles m before r
CameOf m before later r (deed.Trapped at kind) = (later.trap ≡ Some (trap at kind)) × (later.ranks ≡ before.ranks)

-- What a turn of rank r answers, from a state in which not all ranks have halted to the later one.
abbrev pub TellsOf : network.Machine Store → (before later : State Store) → ℕ → Turned → Type 0
TellsOf m before later r turned.Moved = (later.trap ≡ None) × (HasEnded m later → ⊥) × (Idles m before r → ⊥)
TellsOf m before later r turned.Waited = (later.trap ≡ None) × (HasEnded m later → ⊥) × Idles m before r
TellsOf m before later r turned.Ended = (later.trap ≡ None) × HasEnded m later
TellsOf m before later r (turned.Trapped at kind) = (later.trap ≡ Some (trap at kind)) × (HasEnded m later → ⊥)

abbrev pub Tells : network.Machine Store → (before later : State Store) → ℕ → Turned → Type 0
Tells m before later r t = (HasEnded m before → ⊥) → TellsOf m before later r t
