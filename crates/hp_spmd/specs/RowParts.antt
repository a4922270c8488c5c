-- Parts of what joins and aggregates do, as the functions that do them promise.
use Rattle.std.specs.Prelude.{◌≡◌, ℕ, ℤ, List, [], map, drop, slice_index_or, Option, Some, None, Ok, Err}
use Rattle.hp_word.specs.declared.place.TrapKind.TheVariants.{TooLong}
use Rattle.hp_word.specs.declared.table.Measure.{Measure}
use Rattle.hp_word.specs.Lengths.{trap}
use Rattle.hp_lattice.specs.declared.dist.Dist.{Dist}
use Rattle.hp_spmd.specs.declared.instr.Join.{Join}
use Rattle.hp_spmd.specs.declared.instr.Rows.{Rows}
use Rattle.hp_spmd.specs.declared.instr.Rows.TheVariants.{Own, Got}
use Rattle.hp_spmd.specs.declared.instr.Target.{Target}
use Rattle.hp_spmd.specs.declared.local.columns.Ordered.{Ordered}
use Rattle.hp_spmd.specs.Arrays.{cells_at}
use Rattle.hp_spmd.specs.Frames.{columns_to, group_data, join_data, with_order}
use Rattle.hp_spmd.specs.Store.{Data}

-- the columns of rows that are read
abbrev pub columns_read : Rows → Data → List (List ℤ)
columns_read (Own arrays) d = map (cells_at d.arrays) arrays
columns_read (Got columns) d = map (λ k. slice_index_or d.loose k []) (drop 1 columns)

-- the data with the columns of one more join or aggregate, and the order of its rows
abbrev pub with_ordered : Target → Ordered → Data → Data
with_ordered to made d = with_order to made.places (columns_to to made.columns.items d)

-- the rows of a join, or none where there are too many
abbrev pub IsJoined : List Dist → (number : ℕ) → Join → Data → Option Ordered → Type 0
IsJoined dists number j d None = join_data dists number j.to j.left j.left_key j.right j.right_key j.at d ≡ Err (trap j.at TooLong)
IsJoined dists number j d (Some made) = join_data dists number j.to j.left j.left_key j.right j.right_key j.at d ≡ Ok (with_ordered j.to made d)

-- the rows of an aggregate, wherever they go
abbrev pub IsGrouped : List Dist → (number : ℕ) → Rows → (key : ℕ) → List Measure → Data → Ordered → Type 0
IsGrouped dists number from key measures d made = (to : Target) → group_data dists number to from key measures d ≡ Ok (with_ordered to made d)
