-- What sizes do: loose columns of all ranks become arrays, each rank's part behind that of the rank before it.
use Rattle.std.specs.Prelude.{◌≡◌, refl, ℕ, ◌==◌, nat_le, if◌then◌else◌, All, ℤ, pos, List, [], ◌∷◌, flat_map, length, slice_index, slice_index_or, Result, Ok, Err}
use Rattle.std.specs.List.{AllByRecursion}
use Rattle.hp_word.specs.declared.place.Place.{Place}
use Rattle.hp_word.specs.declared.place.Trap.{Trap}
use Rattle.hp_word.specs.declared.place.TrapKind.TheVariants.{TooLong}
use Rattle.hp_word.specs.Lengths.{longest, trap}
use Rattle.hp_lattice.specs.declared.dist.Dist.TheVariants.{Var}
use Rattle.hp_spmd.specs.declared.code.Code.{Code}
use Rattle.hp_spmd.specs.declared.instr.Instr.{Instr}
use Rattle.hp_spmd.specs.declared.instr.Packing.TheVariants.{Sizes}
use Rattle.hp_spmd.specs.declared.instr.Unpacking.TheVariants.{Seal}
use Rattle.hp_spmd.specs.declared.store.Store.{Store}
use Rattle.hp_spmd.specs.Layout.{Env, Whole, vector}
use Rattle.hp_spmd.specs.Store.{dist_at}
use Rattle.hp_snippet.specs.Outcomes.{After}
use Rattle.hp_snippet.specs.Promises.{AreOnce, Slots, exchange_code}

-- ---- the code

-- the sizes are those of the first column
abbrev pub sizes_code : (to loose : List ℕ) → Place → List Instr
sizes_code to loose at = exchange_code (Sizes (slice_index loose 0)) (Seal to loose at)

-- ---- what it does

-- a loose column of one rank
abbrev pub loose_at : ℕ → Store → List ℤ
loose_at column x = slice_index_or x.loose column []

-- the loose columns of all ranks, one behind the other in rank order
abbrev pub column_of_all : List Store → ℕ → List ℤ
column_of_all ranks column = flat_map (loose_at column) ranks

-- the arrays once these stand for the loose columns of all ranks, one for one
abbrev pub sealed_arrays : (to loose : List ℕ) → List Store → (ℕ → Whole) → ℕ → Whole
sealed_arrays [] loose ranks arrays k = arrays k
sealed_arrays (t ∷ to) [] ranks arrays k = arrays k
sealed_arrays (t ∷ to) (column ∷ loose) ranks arrays k = if t == k then vector (column_of_all ranks column) else sealed_arrays to loose ranks arrays k

-- the arrays become the columns, or there is a trap where they are longer than an array may be
abbrev pub sized : (to loose : List ℕ) → Place → List Store → Env → Result (After Env) Trap
sized to loose at ranks env =
    if nat_le (length (column_of_all ranks (slice_index loose 0))) longest
    then Ok (record { env = record env { arrays = sealed_arrays to loose ranks env.arrays }; text = [] })
    else Err (trap at TooLong)

abbrev pub sizes_write : List ℕ → Slots
sizes_write to = record { words = []; arrays = to; loose = [] }

-- no array is written twice, all that are may lie in pieces of any lengths, and on each rank the columns have one length
pub record MaySeal (to loose : List ℕ) (code : Code) (ranks : List Store) (env : Env) : Type 0 where
  pub once : AreOnce to
  pub uneven : AllByRecursion (λ t. dist_at code.arrays t ≡ Var) to
  pub level : AllByRecursion (λ column. All (λ (x : Store). length (loose_at column x) ≡ length (loose_at (slice_index loose 0) x)) ranks) loose

-- ---- worked rows

-- the rows that two of three ranks keep of a filter, as the array 4; the array beside it stays
sealed_row : (x : Store) (at : Place) (arrays : ℕ → Whole)
    → let ranks = record x { loose = (pos 5 ∷ []) ∷ [] } ∷ record x { loose = [] ∷ [] } ∷ record x { loose = (pos 7 ∷ pos 8 ∷ []) ∷ [] } ∷ [] in
    (sealed_arrays (4 ∷ []) (0 ∷ []) ranks arrays 4 ≡ vector (pos 5 ∷ pos 7 ∷ pos 8 ∷ [])) × (sealed_arrays (4 ∷ []) (0 ∷ []) ranks arrays 3 ≡ arrays 3)
sealed_row x at arrays = (refl, refl)
