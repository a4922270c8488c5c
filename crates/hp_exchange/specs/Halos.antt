-- What an exchange of halos promises: each rank gets its block of a vector, and the cells round it, from whatever ranks have them.
use Rattle.std.specs.Prelude.{ℕ, ◌≡◌, List, [], ◌∷◌, slice_index_or, Result}
use Rattle.hp_word.specs.declared.place.Trap.{Trap}
use Rattle.hp_spmd.specs.declared.code.Code.{Code}
use Rattle.hp_spmd.specs.declared.instr.Instr.{Instr}
use Rattle.hp_spmd.specs.declared.instr.Need.TheVariants.{Wide}
use Rattle.hp_spmd.specs.declared.instr.Packing.TheVariants.{Move}
use Rattle.hp_spmd.specs.declared.instr.Unpacking.TheVariants.{Halo}
use Rattle.hp_spmd.specs.declared.store.Store.{Store}
use Rattle.hp_spmd.specs.Layout.{Env}
use Rattle.hp_snippet.specs.Halos.{halo_of}
use Rattle.hp_snippet.specs.Moves.{IsMovable, Moves, silently}
use Rattle.hp_snippet.specs.Outcomes.{After}
use Rattle.hp_snippet.specs.Promises.{Performs, Slots, exchange_code}

-- one exchange, by which each rank gets its block of an array and so many places more at both ends
abbrev pub halo_code : (array reach to : ℕ) → List Instr
halo_code array reach to = exchange_code (Move (array ∷ []) (Wide reach)) (Halo to array reach)

-- the array is a vector in pieces
pub record MayHalo (array : ℕ) (code : Code) (ranks : List Store) (env : Env) : Type 0 where
  pub movable : IsMovable code ranks array
  pub vector : (env.arrays array).rows ≡ 1

-- what the ranks stand for is as it was
abbrev pub as_it_was : List Store → Env → Result (After Env) Trap
as_it_was ranks env = silently env

-- a loose column alone is written
abbrev pub loose_alone : ℕ → Slots
loose_alone to = record { words = []; arrays = []; loose = to ∷ [] }

-- a rank has its halo in the loose column
abbrev pub HasHalo : (array reach to : ℕ) → Code → Env → (before after : Store) → Type 0
HasHalo array reach to code env x y = slice_index_or y.loose to [] ≡ halo_of reach (env.arrays array).cells x.number x.ranks

-- Nothing but the loose column is written, and each rank has its halo there.
abbrev pub Surrounds : (array reach to : ℕ) → List Instr → Type 0
Surrounds array reach to list = Moves (HasHalo array reach to) (MayHalo array) as_it_was (loose_alone to) list

abbrev pub Leaves : (array to : ℕ) → List Instr → Type 0
Leaves array to list = Performs (MayHalo array) as_it_was (loose_alone to) list
