-- What a program has in common with its script: one slot for each array, one operation for each construct, the same
-- constraints, and how both end.
use Rattle.std.specs.Prelude.{◌≡◌, ℕ, ◌+◌, ◌*◌, ◌≤◌, ◌<◌, Bool, true, not, ◌&&◌, List, [], ◌∷◌, length, map, slice_get, IsTrue, Option, Some, None}
use Rattle.std.specs.List.{AllZip}
use Rattle.hp_word.specs.declared.order.Order.{Order}
use Rattle.hp_word.specs.declared.place.Trap.{Trap}
use Rattle.hp_word.specs.declared.table.Table.{Table}
use Rattle.hp_word.specs.Runs.{State, Ran, Went, Trapped, Spent}
use Rattle.hp_lattice.specs.declared.dist.Dist.{Dist}
use Rattle.hp_lattice.specs.Lattice.{is_below}
use Rattle.hp_script.specs.declared.typed.Shape.{Shape}
use Rattle.hp_script.specs.declared.typed.Typed.{Typed}
use Rattle.hp_script.specs.declared.typed.Var.{Var}
use Rattle.hp_script.specs.Checked.{Checked, entries_in, start_of}
use Rattle.hp_script.specs.Mirror.{block_of}
use Rattle.hp_script.specs.Nodes.{nodes_of}
use Rattle.hp_meaning.specs.declared.seq.SeqStatus.{SeqStatus}
use Rattle.hp_meaning.specs.declared.seq.SeqStatus.TheVariants as status
use Rattle.hp_meaning.specs.Fitting.{Serves as GoWith}
use Rattle.hp_meaning.specs.Run.{End, eval}
use Rattle.hp_program.specs.Programs.{Prog}
use Rattle.hp_air.specs.declared.slot.Slot.{Slot}
use Rattle.hp_air.specs.declared.what.Op.{Op}
use Rattle.hp_air.specs.Arrays.{Stencil}
use Rattle.hp_air.specs.Carried.{Carried, IsItem, is_among, rows_of}
use Rattle.hp_air.specs.Constraints.{Bound, IsSolution}
use Rattle.hp_air.specs.Frames.{slot_at}
use Rattle.hp_air.specs.Kept.{are_slots}
use Rattle.hp_air.specs.Placed.{program_bounds}
use Rattle.hp_air.specs.ScriptBounds.{script_bounds}
use Rattle.hp_air.specs.Meaning.{Serves, Ending, Done, Stopped, OutOfFuel, NoEnd, Endings, SameMeaning, ending, mean}
use Rattle.hp_air.specs.Unknowns.{Unknown, of_node, of_variable, unknown_of, known_of, shape_at, width, constructs, unknowns}
use Rattle.hp_air.specs.Wholes.{Env}
use Rattle.hp_flat.specs.Flat.{flat_script}
use Rattle.hp_flat.specs.Homes.{homes_of, slots_in, slot_of, slot_for}
use Rattle.hp_flat.specs.StepByStep.{Follows}

-- ---- slots

-- no array stands twice in the list
abbrev pub are_apart : List Unknown → Bool
are_apart [] = true
are_apart (u ∷ us) = not (is_among us u) && are_apart us

-- each array of the script has exactly one slot, and there is no other
pub record HasOneEach (typed : Typed) (slots : List Slot) : Type 0 where
  pub stand : map unknown_of slots ≡ unknowns typed
  pub once : IsTrue (are_apart (unknowns typed))

-- ---- laws of slots, of every script

-- an array of the script stands in its slot
abbrev pub AreFound : Type 0
AreFound = (typed : Typed) (u : Unknown) → IsTrue (is_among (unknowns typed) u) → slice_get (slots_in (homes_of typed)) (slot_of (homes_of typed) u) ≡ Some (slot_for (known_of typed) u)

-- no other array has its slot
abbrev pub AreApart : Type 0
AreApart = (typed : Typed) (u v : Unknown) → IsTrue (is_among (unknowns typed) u) → slot_of (homes_of typed) u ≡ slot_of (homes_of typed) v → u ≡ v

-- each column of the value of an expression has a slot, and each of a variable
abbrev pub ExpressionsHaveSlots : Type 0
ExpressionsHaveSlots = (typed : Typed) (node column : ℕ) → column < width (shape_at (known_of typed) node) → IsTrue (is_among (unknowns typed) (of_node node column))

abbrev pub VariablesHaveSlots : Type 0
VariablesHaveSlots = (typed : Typed) (k : ℕ) (var : Var) (column : ℕ) → slice_get typed.vars k ≡ Some var → column < width (Some var.shape) → IsTrue (is_among (unknowns typed) (of_variable k column))

-- and so has the balanced copy of each stencil
abbrev pub CopiesHaveSlots : Type 0
CopiesHaveSlots = (typed : Typed) (out array copy : Unknown) → IsItem (constructs typed) (Stencil out array copy) → IsTrue (is_among (unknowns typed) copy)

-- each array has exactly one slot
abbrev pub HaveOneEach : Type 0
HaveOneEach = (typed : Typed) → HasOneEach typed (slots_in (homes_of typed))

-- the slots keep the laws of slots
abbrev pub AreKeptSlots : Type 0
AreKeptSlots = (typed : Typed) → IsTrue (are_slots (slots_in (homes_of typed)))

-- ---- types

-- In a script in which no rule breaks the type of each expression, as the walk over the script finds it, is the one that
-- is said of its number.
abbrev pub AreTold : Type 0
AreTold = (typed : Typed) → Checked typed
    → AllZip (λ (node : ℕ) (found : Option Shape). shape_at (known_of typed) node ≡ found) (nodes_of (block_of typed.script.body)) (entries_in (start_of (block_of typed.script.body)) (block_of typed.script.body))

-- ---- operations

-- Of a script in which no rule breaks there is one operation for each construct, apart from scalar work.
abbrev pub AreStepByStep : Type 0
AreStepByStep = (typed : Typed) → Checked typed → Follows (rows_of (slots_in (homes_of typed)) (flat_script typed)) (constructs typed)

-- Each construct of such a script is one step of its program, which carries the script.
abbrev pub AreCarried : Type 0
AreCarried = (typed : Typed) → Checked typed → Carried typed (slots_in (homes_of typed)) (flat_script typed)

-- ---- constraints

-- a constraint over other names of its arrays
abbrev pub rebound : {X Y : Type 0} → (X → Y) → Bound X → Bound Y
rebound f b = record { low = f b.low; relation = b.relation; high = f b.high }

-- What a program with these slots asks of how its arrays lie is what its script asks: the same constraints, in the same
-- order, where each slot is the array that it stands for.
abbrev pub AsksTheSame : Typed → List Slot → Prog Op → Type 0
AsksTheSame typed slots p = map (rebound (λ k. unknown_of (slot_at slots k))) (program_bounds slots p) ≡ script_bounds typed

abbrev pub AskTheSame : Type 0
AskTheSame = (typed : Typed) → Checked typed → AsksTheSame typed (slots_in (homes_of typed)) (flat_script typed)

-- The distributions meet these constraints on some arrays, and whatever meets them lies at each of the arrays at most so.
pub record AreGreatest {X : Type 0} (is_array : X → Type 0) (bounds : List (Bound X)) (d : X → Dist) : Type 0 where
  pub solution : IsSolution d bounds
  pub greatest : (e : X → Dist) → IsSolution e bounds → (x : X) → is_array x → IsTrue (is_below (e x) (d x))

-- The greatest distributions of the slots that meet the program's constraints are, array by array, the greatest of the
-- script's arrays that meet the script's.
abbrev pub GivesGreatest : Typed → List Slot → Prog Op → Type 0
GivesGreatest typed slots p = (d : ℕ → Dist) → AreGreatest (λ k. k < length slots) (program_bounds slots p) d
    → AreGreatest (λ u. IsTrue (is_among (unknowns typed) u)) (script_bounds typed) (λ u. d (slot_of (homes_of typed) u))

abbrev pub GiveGreatest : Type 0
GiveGreatest = (typed : Typed) → Checked typed → GivesGreatest typed (slots_in (homes_of typed)) (flat_script typed)

-- ---- tables

-- Tables that have the columns of a script's files serve the program.
abbrev pub AreServed : Type 0
AreServed = (typed : Typed) (tables : List Table) → Checked typed → GoWith tables typed.reads → Serves (flat_script typed) tables

-- ---- endings

abbrev pub ending_by : SeqStatus → (out bad : List ℕ) → Ending
ending_by status.Done out bad = Done out bad
ending_by (status.Trap at kind) out bad = Stopped out
ending_by status.Fuel out bad = OutOfFuel out

-- how a script ends, as far as meanings are compared
abbrev pub script_ending : Option End → Ending
script_ending (Some e) = ending_by e.status e.at.out e.at.seen.met.bad
script_ending None = NoEnd

abbrev pub endings_of : Typed → Endings
endings_of typed tables orders fuel = script_ending (eval (block_of typed.script.body) tables orders fuel)

-- A program ends as its script does: done, at the same trap, or out of fuel, with the same output and bad orders, and as
-- much fuel left; and its work is at most sixteen for each tick and sixteen more.
pub data EndsAs (e : End) : Ran Env ℕ → Type 0 where
  as_done : {s : State Env ℕ} → e.status ≡ status.Done → s.out ≡ e.at.out → s.env.bad ≡ e.at.seen.met.bad → s.fuel ≡ e.at.fuel
      → s.seen ≤ 16 * (e.at.seen.ticks + 1) → EndsAs e (Went s)
  as_trapped : {t : Trap} {s : State Env ℕ} → e.status ≡ status.Trap t.at t.kind → s.out ≡ e.at.out → s.seen ≤ 16 * (e.at.seen.ticks + 1) → EndsAs e (Trapped t s)
  as_spent : {s : State Env ℕ} → e.status ≡ status.Fuel → s.out ≡ e.at.out → s.seen ≤ 16 * (e.at.seen.ticks + 1) → EndsAs e (Spent s)

-- ---- meaning

-- Over tables that go with the files of a script, under all orders and with any number of loop turns, a program ends as the
-- script does;
abbrev pub MeansTheSame : Typed → List Slot → Prog Op → Type 0
MeansTheSame typed slots p =
    (tables : List Table) (orders : List Order) (fuel : ℕ) (e : End) → GoWith tables typed.reads → eval (block_of typed.script.body) tables orders fuel ≡ Some e
    → EndsAs e (mean slots p tables orders fuel)

-- and the two have one meaning.
abbrev pub HasOneMeaning : Typed → List Slot → Prog Op → Type 0
HasOneMeaning typed slots p = SameMeaning (λ tables. GoWith tables typed.reads) (endings_of typed) (λ tables orders fuel. ending (mean slots p tables orders fuel))

-- So it is of the program of a script in which no rule breaks.
abbrev pub MeanTheSame : Type 0
MeanTheSame = (typed : Typed) → Checked typed → MeansTheSame typed (slots_in (homes_of typed)) (flat_script typed)

abbrev pub HaveOneMeaning : Type 0
HaveOneMeaning = (typed : Typed) → Checked typed → HasOneMeaning typed (slots_in (homes_of typed)) (flat_script typed)
