-- Where values stand in the environment of a program, and what a program keeps: what the laws of flattened scripts are
-- carried by.
use Rattle.std.specs.Prelude.{◌≡◌, ℕ, ◌+◌, ◌*◌, ◌≤◌, ◌<◌, ◌==◌, ℤ, Bool, false, List, [], ◌∷◌, length, Option, Some, None}
use Rattle.std.specs.List.{list_any, AllZip}
use Rattle.hp_word.specs.declared.matrix.Matrix.{Matrix as Grid}
use Rattle.hp_word.specs.declared.place.Trap.{Trap}
use Rattle.hp_word.specs.Runs.{State, Ran, Went, Trapped}
use Rattle.hp_script.specs.Mirror.{Tree}
use Rattle.hp_script.specs.Nodes.{nodes_in}
use Rattle.hp_meaning.specs.declared.seen.Met.{Met}
use Rattle.hp_meaning.specs.declared.seen.Seen.{Seen}
use Rattle.hp_meaning.specs.declared.value.Column.{Column}
use Rattle.hp_meaning.specs.declared.value.Kind.{Kind}
use Rattle.hp_meaning.specs.declared.value.Value.{Value}
use Rattle.hp_meaning.specs.declared.value.Value.TheVariants.{Word, List as Listed, Matrix, Frame}
use Rattle.hp_meaning.specs.declared.value.Var.{Var}
use Rattle.hp_meaning.specs.Fitting.{names_of}
use Rattle.hp_meaning.specs.Outcomes.{Outcome, Is, Stops, Wrong}
use Rattle.hp_meaning.specs.Scopes.{value_named}
use Rattle.hp_air.specs.Unknowns.{Unknown, of_node, balanced_of, Columns, arrays_at, arrays_named}
use Rattle.hp_air.specs.Wholes.{Vector, Grid as matrix_of, Env}
use Rattle.hp_flat.specs.Homes.{Homes, slot_of, word_named, word_at, word_of}

-- ---- values

-- the columns of a frame stand in the slots of these arrays, one for one
abbrev pub ColumnsStand : Homes → Env → List Unknown → List Column → Type 0
ColumnsStand h e us columns = AllZip (λ u c. e.slots (slot_of h u) ≡ Vector c.cells) us columns

-- `Stands h e us w a`: the value stands in the slots of its arrays, or in its word
pub data Stands (h : Homes) (e : Env) : List Unknown → ℕ → Value → Type 0 where
  a_word : {us : List Unknown} {w : ℕ} {kind : Kind} {x : ℤ} → e.words w ≡ x → Stands h e us w (Word kind x)
  an_array : {u : Unknown} {w : ℕ} {kind : Kind} {xs : List ℤ} → e.slots (slot_of h u) ≡ Vector xs → Stands h e (u ∷ []) w (Listed kind xs)
  a_matrix : {u : Unknown} {w : ℕ} {m : Grid} → e.slots (slot_of h u) ≡ matrix_of m → Stands h e (u ∷ []) w (Matrix m)
  a_frame : {us : List Unknown} {w : ℕ} {columns : List Column} → ColumnsStand h e us columns → Stands h e us w (Frame columns)

-- each variable that has a value has it in its own place
abbrev pub VarsStand : Homes → Env → List Var → Type 0
VarsStand h e vars = (x : List ℕ) (a : Value) → value_named x vars ≡ Some a → Stands h e (arrays_named h.known x) (word_named h x) a

-- the frame of the innermost filter around stands in its arrays
pub data FrameStands (h : Homes) (e : Env) : Columns → Option (List Column) → Type 0 where
  no_frame_stands : {around : Columns} → FrameStands h e around None
  frame_stands : {around : Columns} {columns : List Column} → around.names ≡ names_of columns → ColumnsStand h e around.arrays columns → FrameStands h e around (Some columns)

-- as many joins and aggregates were executed, and those with bad orders are the same
pub record HasMet (e : Env) (met : Met) : Type 0 where
  pub executed : e.executed ≡ met.executed
  pub bad : e.bad ≡ met.bad

-- ---- what is kept

abbrev pub is_node_of : List ℕ → ℕ → Bool
is_node_of nodes k = list_any (λ j. j == k) nodes

-- an array of one of these expressions
abbrev pub is_array_of : List ℕ → Unknown → Bool
is_array_of nodes (of_node k c) = is_node_of nodes k
is_array_of nodes (balanced_of k) = is_node_of nodes k
is_array_of nodes _ = false

-- what is not of these expressions is as before
pub record KeepsOthers (h : Homes) (nodes : List ℕ) (e after : Env) : Type 0 where
  pub slots : (u : Unknown) → is_array_of nodes u ≡ false → after.slots (slot_of h u) ≡ e.slots (slot_of h u)
  pub variables : (v : ℕ) → v < length h.known.vars → after.words v ≡ e.words v
  pub words : (k : ℕ) → is_node_of nodes k ≡ false → after.words (word_at h k) ≡ e.words (word_at h k)

-- ---- expressions

-- The operations of an expression come to what the expression comes to: its value stands in its own place, and all else is
-- kept; or the same trap. Each tick pays for sixteen units of work, of which four are left behind a value.
pub data ComesToValue (h : Homes) (x : Tree) (n : Seen) (s : State Env ℕ) : Outcome Value → Ran Env ℕ → Type 0 where
  comes_to : {a : Value} {after : Seen} {e : Env} {work : ℕ}
      → Stands h e (arrays_at h.known x) (word_of h x) a → KeepsOthers h (nodes_in x) s.env e → HasMet e after.met
      → work + 4 + 16 * n.ticks ≤ s.seen + 16 * after.ticks
      → ComesToValue h x n s (Is a after) (Went (record s { env = e; seen = work }))
  comes_to_trap : {t : Trap} {after : Seen} {e : Env} {work : ℕ}
      → work + 16 * n.ticks ≤ s.seen + 16 * after.ticks → ComesToValue h x n s (Stops t after) (Trapped t (record s { env = e; seen = work }))
  -- of a script that fits no expression is wrong
  comes_to_none : {ran : Ran Env ℕ} → ComesToValue h x n s Wrong ran
