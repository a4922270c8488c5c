-- The operation of a construct that makes a frame, and the columns of a frame in their slots.
use Rattle.std.proofs.Common.{◌≡◌, ℕ, ◌+◌, ◌≤◌, ◌<◌, ℤ, List, [], ◌∷◌, map, length, Some, IsTrue, refl, sym, ap, ap₂, subst, ◌∙◌, arith}
use Rattle.std.proofs.lemmas.List.{length-map}
use Rattle.std.specs.List.{AllZip}
use Rattle.hp_word.specs.declared.name.Name.{Name}
use Rattle.hp_word.specs.declared.order.Order.{Order}
use Rattle.hp_word.specs.declared.place.Place.{Place}
use Rattle.hp_word.specs.declared.table.Table.{Table}
use Rattle.hp_word.specs.Runs.{State}
use Rattle.hp_script.specs.declared.typed.Shape.TheVariants as shape
use Rattle.hp_script.specs.Mirror.{Tree}
use Rattle.hp_meaning.specs.declared.seen.Seen.{Seen}
use Rattle.hp_meaning.specs.declared.value.Column.{Column}
use Rattle.hp_meaning.specs.declared.value.Value.{Value}
use Rattle.hp_meaning.specs.declared.value.Value.TheVariants.{Frame}
use Rattle.hp_meaning.specs.Fitting.{names_of, HasShape as IsOf, a_frame as of_frame}
use Rattle.hp_meaning.specs.FrameRules.{cells_of, changed}
use Rattle.hp_meaning.specs.Outcomes.{Is}
use Rattle.hp_program.specs.Programs.{run}
use Rattle.hp_air.specs.declared.slot.Slot.{Slot}
use Rattle.hp_air.specs.declared.what.What.{What}
use Rattle.hp_air.specs.Carried.{is_among}
use Rattle.hp_air.specs.Meaning.{does, units, silent}
use Rattle.hp_air.specs.Unknowns.{Unknown, of_node, at_node, shape_at, number_of, width}
use Rattle.hp_air.specs.Wholes.{Whole, Vector, cells, Env, lists_at, with_slots}
use Rattle.hp_flat.specs.FlatCalls.{code_of}
use Rattle.hp_flat.specs.Homes.{Homes, slot_of, slots_of, word_of}
use Rattle.hp_flat.specs.Standing.{Stands, a_frame, ColumnsStand, KeepsOthers, ComesToValue}
use Rattle.hp_flat.proofs.LastSteps.{AreApart, d, last_value}
use Rattle.hp_flat.proofs.ListMeanings.{IsOwn}
use Rattle.hp_flat.proofs.OperandRuns.{Ready}
use Rattle.hp_flat.proofs.SlotWrites.{AreAmong, value_written, value_keeps}

-- the cells of columns that were changed
pub cells_changed : (change : List ℤ → List ℤ) (columns : List Column) → cells_of (changed change columns) ≡ map change (cells_of columns)
cells_changed change [] = refl
cells_changed change (c ∷ columns) = ap (λ (lists : List (List ℤ)). change c.cells ∷ lists) (cells_changed change columns)

pub same_columns : (change : List ℤ → List ℤ) (columns : List Column) → length (changed change columns) ≡ length columns
same_columns change columns = length-map columns (λ (c : Column). record { name = c.name; cells = change c.cells })

-- A frame of these columns is the type of the expression with this number, and each of them has a slot.
pub record HasFrame (h : Homes) (id : ℕ) (names : List Name) : Type 0 where
  pub shape : shape_at h.known id ≡ Some (shape.Frame names)
  pub among : (c : ℕ) → c < length names → IsTrue (is_among h.arrays (of_node id c))

-- a frame of these columns, in its slots
pub data IsFrameAt (h : Homes) (e : Env) (us : List Unknown) (names : List Name) : Value → Type 0 where
  is_frame : {columns : List Column} → names_of columns ≡ names → ColumnsStand h e us columns → IsFrameAt h e us names (Frame columns)

pub frame_of_shape : {h : Homes} {e : Env} {us : List Unknown} {w : ℕ} {names : List Name} {a : Value} → IsOf (shape.Frame names) a → Stands h e us w a → IsFrameAt h e us names a
frame_of_shape (of_frame names columns e) (a_frame stand) = is_frame e stand

pub columns_stand : {h : Homes} {e : Env} {us : List Unknown} {w : ℕ} {columns : List Column} → Stands h e us w (Frame columns) → ColumnsStand h e us columns
columns_stand (a_frame stand) = stand

pub as_many_columns : (columns : List Column) (names : List Name) → names_of columns ≡ names → length columns ≡ length names
as_many_columns columns names is = sym (length-map columns (λ (c : Column). c.name)) ∙ ap length is

module _ (h : Homes) where
  -- what the slots of a frame's columns hold
  pub held_columns : (e : Env) (us : List Unknown) (columns : List Column) → ColumnsStand h e us columns → lists_at e (slots_of h us) ≡ cells_of columns
  held_columns e [] [] stand = refl
  held_columns e (u ∷ us) (c ∷ columns) stand = ap₂ (λ (whole : Whole) (lists : List (List ℤ)). cells whole ∷ lists) stand.0 (held_columns e us columns stand.1)
  held_columns e [] (c ∷ columns) stand = absurd stand
  held_columns e (u ∷ us) [] stand = absurd stand

  written_columns : (f : Env) (us : List Unknown) (columns : List Column) → AllZip (λ u x. f.slots (slot_of h u) ≡ x) us (map Vector (cells_of columns)) → ColumnsStand h f us columns
  written_columns f [] [] stand = tt
  written_columns f (u ∷ us) (c ∷ columns) stand = (stand.0, written_columns f us columns stand.1)
  written_columns f [] (c ∷ columns) stand = absurd stand
  written_columns f (u ∷ us) [] stand = absurd stand

  module _ (slots : List Slot) (tables : List Table) (orders : List Order) (apart : AreApart h) where
    -- it makes a frame, and counts what it is executed as
    pub frame_step : {z : Tree} {nodes : List ℕ} {n m after : Seen} {s : State Env ℕ} {e : Env} {work left : ℕ} (at : Place) (w : What) (id : ℕ) (names : List Name) (columns : List Column) (count : ℕ) (bad : List ℕ)
        → number_of z ≡ id → HasFrame h id names → length columns ≡ length names → IsOwn h z id nodes → Ready h nodes n s m e work left → units slots w + 4 ≤ left → after.ticks ≡ m.ticks
        → does tables orders at w e ≡ silent (with_slots (slots_of h (at_node h.known id)) (map Vector (cells_of columns)) (record e { executed = count; bad = bad }))
        → count ≡ after.met.executed → bad ≡ after.met.bad
        → ComesToValue h z n s (Is (Frame columns) after) (run (d h slots tables orders) (code_of at w) (record s { env = e; seen = work }))
    frame_step {z = z} {e = e} at w id names columns count bad number has many is_own ready enough same does_it executed wrong =
        let k : ℕ = width (shape_at h.known id) in
        let as_many : k ≡ length names = ap width has.shape in
        let before : Env = record e { executed = count; bad = bad } in
        let wholes : List Whole = map Vector (cells_of columns) in
        let f : Env = with_slots (slots_of h (at_node h.known id)) wholes before in
        let among : AreAmong h apart id 0 k = λ c low high. has.among c (omega (arith, high, as_many)) in
        let counted : length wholes ≡ k = length-map (cells_of columns) Vector ∙ (length-map columns (λ (c : Column). c.cells) ∙ (many ∙ sym as_many)) in
        let kept = value_keeps h apart id k wholes before among in
        let keeps : KeepsOthers h (id ∷ []) e f = record { slots = kept.slots; variables = kept.variables; words = kept.words } in
        last_value h slots tables orders at w id (Frame columns) f is_own.own is_own.others ready enough same does_it
        (subst (λ (j : ℕ). Stands h f (at_node h.known j) (word_of h z) (Frame columns)) (sym number)
        (a_frame (written_columns f (at_node h.known id) columns (value_written h apart id k wholes before among counted))))
        keeps (record { executed = executed; bad = wrong })
