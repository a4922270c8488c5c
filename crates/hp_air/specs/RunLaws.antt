-- The words of the laws of runs: what is seen of them, what orders can change, and how much work there is.
use Rattle.std.specs.Prelude.{◌≡◌, ℕ, zero, ◌≤◌, pos, List, [], ◌∷◌, length, refl}
use Rattle.std.specs.List.{AllByRecursion}
use Rattle.hp_word.specs.declared.order.Order.{Order}
use Rattle.hp_word.specs.declared.table.Table.{Table}
use Rattle.hp_word.specs.Runs.{Ran, Went, Trapped, Spent, Mistaken}
use Rattle.hp_program.specs.Programs.{Prog, with_units, run, start}
use Rattle.hp_air.specs.declared.slot.Slot.{Slot}
use Rattle.hp_air.specs.declared.what.Op.{Op}
use Rattle.hp_air.specs.Frames.{numbers_of, first_of, node_slot}
use Rattle.hp_air.specs.Wholes.{Vector, cells, Env, unset, changed_all, with_slots}
use Rattle.hp_air.specs.Meaning.{doing}

-- a run from a state of this work has as much where it ends, or more; and no run is wrong
abbrev pub WorksOn : ℕ → Ran Env ℕ → Type 0
WorksOn work (Went s) = work ≤ s.seen
WorksOn work (Trapped t s) = work ≤ s.seen
WorksOn work (Spent s) = work ≤ s.seen
WorksOn work Mistaken = ⊥

-- a run that executes no more than so many joins and aggregates ends in the same way by other orders
abbrev pub EndsSame : (last : ℕ) → Ran Env ℕ → Ran Env ℕ → Type 0
EndsSame last (Went s) other = s.env.executed ≤ last → other ≡ Went s
EndsSame last (Trapped t s) other = s.env.executed ≤ last → other ≡ Trapped t s
EndsSame last (Spent s) other = s.env.executed ≤ last → other ≡ Spent s
EndsSame last Mistaken other = ⊥

-- a program in which each operation is one unit: its work is how many operations it executed, and how many words it looked at
abbrev pub executions : List Slot → Prog Op → List Table → List Order → (fuel : ℕ) → Ran Env ℕ
executions slots p tables orders fuel = run (with_units (doing slots tables orders) (λ op. 1)) p (start unset fuel)

-- the columns of each frame have one length, that of the first
abbrev pub AreLevel : List Slot → Env → Type 0
AreLevel slots e = AllByRecursion (λ k. length (cells (e.slots k)) ≡ length (cells (e.slots (first_of slots k)))) (numbers_of slots)

-- this holds of the environment in which a run ends, however it ends; and no run is wrong
abbrev pub EndsWith : (Env → Type 0) → Ran Env ℕ → Type 0
EndsWith P (Went s) = P s.env
EndsWith P (Trapped t s) = P s.env
EndsWith P (Spent s) = P s.env
EndsWith P Mistaken = ⊥

-- ---- worked rows

-- two columns of a frame, one cell each
level_row : AreLevel (node_slot 3 0 ∷ node_slot 3 1 ∷ []) (with_slots (0 ∷ 1 ∷ []) (Vector (pos 7 ∷ []) ∷ Vector (pos 8 ∷ []) ∷ []) unset)
unfolding first_of changed_all
level_row = (refl, (refl, tt))

-- only the first was made
uneven_row : AreLevel (node_slot 3 0 ∷ node_slot 3 1 ∷ []) (with_slots (0 ∷ []) (Vector (pos 7 ∷ []) ∷ []) unset) → ⊥
unfolding first_of changed_all
uneven_row even = let wrong : zero ≡ 1 = even.1.0 in absurd cc
