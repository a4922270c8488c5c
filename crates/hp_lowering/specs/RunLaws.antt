-- What the ranks of a code do is what its program does, where the code of each step does what the step does.
use Rattle.std.specs.Prelude.{◌≡◌, ℕ, ◌+◌, ◌*◌, ◌<◌, ◌≤◌, List}
use Rattle.std.specs.Bool.{IsTrue}
use Rattle.std.specs.List.{AllByRecursion}
use Rattle.hp_word.specs.declared.order.Order.{Order}
use Rattle.hp_word.specs.declared.table.Tables.{Tables}
use Rattle.hp_word.specs.Runs.{Ran, Went, Trapped, Spent, Mistaken}
use Rattle.hp_lattice.specs.declared.dist.Dist.{Dist}
use Rattle.hp_spmd.specs.declared.code.Code.{Code}
use Rattle.hp_spmd.specs.Lockstep.{IsOver, first_state, lockstep_of, state_of}
use Rattle.hp_turns.specs.Apart.{price}
use Rattle.hp_program.specs.Programs.{Prog, operations, tests}
use Rattle.hp_air.specs.declared.slot.Slot.{Slot}
use Rattle.hp_air.specs.Meaning.{work_of}
use Rattle.hp_air.specs.Placed.{dist_at}
use Rattle.hp_parfor.specs.KeptParts.{are_parts}
use Rattle.hp_parfor.specs.LoopMeaning.{part_doing, parts_mean}
use Rattle.hp_parfor.specs.Parts.{Part}
use Rattle.hp_parfor.specs.PlacedParts.{PlacedParts}
use Rattle.hp_lowering.specs.CodeOf.{code_list}
use Rattle.hp_lowering.specs.Flow.{Carries, Comes}
use Rattle.hp_lowering.specs.PartCode.{is_part_built, part_code}
use Rattle.hp_lowering.specs.Room.{code_arrays, room_of}
use Rattle.hp_lowering.specs.Standing.{AreSound, HasLogged, StandFor}

-- The code of each step of a program carries it, wherever it stands in a code of so many ranks, over these tables and under these
-- orders: at a cost of at most 2 n + 14 actions of each of n ranks for a unit of work.
abbrev pub PartsAreCarried : List Slot → (words : ℕ) → Prog Part → List Dist → Code → Tables → (ranks : ℕ) → List Order → Type 0
PartsAreCarried slots words p dists code tables ranks orders =
    AllByRecursion
    (Carries (part_doing slots dists tables.list orders) (part_code (room_of slots words) slots (dist_at dists)) code tables (price ranks) (2 * ranks + 14) (AreSound code tables ranks) (HasLogged orders) (StandFor code (room_of slots words) ranks))
    (operations p)

-- the words at which a program looks are its own
abbrev pub LooksAtWords : (words : ℕ) → Prog Part → Type 0
LooksAtWords words p = AllByRecursion (λ w. w < words) (tests p)

-- A run has come to its end, or trapped.
abbrev pub HasStopped : {E N : Type 0} → Ran E N → Type 0
HasStopped (Went s) = Unit {0}
HasStopped (Trapped t s) = Unit {0}
HasStopped (Spent s) = ⊥
HasStopped Mistaken = ⊥

-- At each limit, of which the program has as many loop turns or more, and under all orders that are those that the ranks have logged by then,
-- the lockstep of a program's code comes as far as the program: where it has ended, so has the program with the same output, and the ranks
-- stand for what is there then; where it has trapped, so has the program, at that place and of that kind; and at the limit what was
-- written is a front of what the program writes. No instruction is reached at which the ranks do not agree, and no more is done than the
-- program's work pays.
abbrev pub RanksRunParts : Type 0
RanksRunParts =
    (slots : List Slot) (words : ℕ) (p : Prog Part) (dists : List Dist) (code : Code) (tables : Tables) (ranks : ℕ) (orders : List Order) (fuel k : ℕ) → 1 ≤ ranks → code.list ≡ code_list slots words p dists → LooksAtWords words p
    → PartsAreCarried slots words p dists code tables ranks orders → HasLogged orders (state_of (lockstep_of code tables ranks k)) → k ≤ fuel
    → Comes code tables (price ranks) (2 * ranks + 14) (AreSound code tables ranks) (StandFor code (room_of slots words) ranks) k (first_state code ranks) 0 0 (parts_mean slots dists p tables.list orders fuel)

-- Where the program stops, 16 instructions for each unit of its work are enough for the lockstep to end or trap, under all orders that are
-- those that the ranks have logged by then.
abbrev pub RanksStop : Type 0
RanksStop =
    (slots : List Slot) (words : ℕ) (p : Prog Part) (dists : List Dist) (code : Code) (tables : Tables) (ranks : ℕ) (orders : List Order) (fuel k : ℕ) → 1 ≤ ranks → code.list ≡ code_list slots words p dists → LooksAtWords words p
    → PartsAreCarried slots words p dists code tables ranks orders → HasLogged orders (state_of (lockstep_of code tables ranks k))
    → HasStopped (parts_mean slots dists p tables.list orders fuel) → 16 * work_of (parts_mean slots dists p tables.list orders fuel) ≤ k
    → IsOver (lockstep_of code tables ranks k)

-- Where the code of each step carries it under all orders, the ranks agree at every instruction that the lockstep comes to, and each has
-- its arrays shared as the code says.
abbrev pub RanksAgree : Type 0
RanksAgree =
    (slots : List Slot) (words : ℕ) (p : Prog Part) (dists : List Dist) (code : Code) (tables : Tables) (ranks : ℕ) → 1 ≤ ranks → code.list ≡ code_list slots words p dists → LooksAtWords words p
    → ((orders : List Order) → PartsAreCarried slots words p dists code tables ranks orders) → (k : ℕ) → AreSound code tables ranks (state_of (lockstep_of code tables ranks k))

-- ---- steps that are built

-- In a program whose steps are all built, each of which names what there is and whose arrays lie as it asks, each is carried, whatever code it stands in
-- whose arrays lie as the program's. So what is said of the runs of such programs hangs on no promise.
abbrev pub StepsAreCarried : Type 0
StepsAreCarried =
    (slots : List Slot) (words : ℕ) (p : Prog Part) (dists : List Dist) (code : Code) (tables : Tables) (ranks : ℕ) (orders : List Order) → IsTrue (are_parts slots words p) → PlacedParts slots p dists → code.arrays ≡ code_arrays slots p dists
    → AllByRecursion (λ part. IsTrue (is_part_built part)) (operations p) → PartsAreCarried slots words p dists code tables ranks orders

-- ---- a code

-- What all ranks of a code do is what a program of these slots and words does, over all tables, for every number of ranks, and under all
-- orders that are those that the ranks have logged by then: at each limit they come as far; where the program stops, 16 instructions for each
-- unit of its work are enough; and at each instruction that they come to they agree, each with its arrays shared as the code says.
pub record DoesParts (code : Code) (slots : List Slot) (words : ℕ) (p : Prog Part) (dists : List Dist) : Type 0 where
  pub runs : (tables : Tables) (ranks : ℕ) (orders : List Order) (fuel k : ℕ) → 1 ≤ ranks → HasLogged orders (state_of (lockstep_of code tables ranks k)) → k ≤ fuel
      → Comes code tables (price ranks) (2 * ranks + 14) (AreSound code tables ranks) (StandFor code (room_of slots words) ranks) k (first_state code ranks) 0 0 (parts_mean slots dists p tables.list orders fuel)
  pub enough : (tables : Tables) (ranks : ℕ) (orders : List Order) (fuel k : ℕ) → 1 ≤ ranks → HasLogged orders (state_of (lockstep_of code tables ranks k)) → HasStopped (parts_mean slots dists p tables.list orders fuel)
      → 16 * work_of (parts_mean slots dists p tables.list orders fuel) ≤ k → IsOver (lockstep_of code tables ranks k)
  pub agree : (tables : Tables) (ranks k : ℕ) → 1 ≤ ranks → AreSound code tables ranks (state_of (lockstep_of code tables ranks k))
