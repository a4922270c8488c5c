-- What a move of ranges of whole arrays promises: `align`, `rebalance` and `whole`.
use Rattle.std.specs.Prelude.{ℕ, ◌≡◌, All, List}
use Rattle.std.specs.List.{AllByRecursion}
use Rattle.hp_lattice.specs.declared.dist.Dist.TheVariants.{Rep}
use Rattle.hp_spmd.specs.declared.code.Code.{Code}
use Rattle.hp_spmd.specs.declared.instr.Instr.{Instr}
use Rattle.hp_spmd.specs.declared.instr.Need.{Need}
use Rattle.hp_spmd.specs.declared.instr.Packing.TheVariants.{Move}
use Rattle.hp_spmd.specs.declared.instr.Unpacking.TheVariants.{Moved}
use Rattle.hp_spmd.specs.declared.store.Store.{Store}
use Rattle.hp_spmd.specs.Layout.{Env}
use Rattle.hp_spmd.specs.Spread.{LiesAs}
use Rattle.hp_spmd.specs.Store.{dist_at, piece_at}
use Rattle.hp_snippet.specs.Holds.{IsCut}
use Rattle.hp_snippet.specs.Moves.{HasGot, IsMovable, Moves, arrays_alone, columns_of, copied}
use Rattle.hp_snippet.specs.Promises.{AreOnce, Performs, exchange_code}

-- ---- the code

-- one exchange, by which each rank gets what it needs of these arrays, in others
abbrev pub move_code : (to from : List ℕ) → Need → List Instr
move_code to from need = exchange_code (Move from need) (Moved to from need)

-- ---- what it needs

-- The array has the length of another one, its leader, whose cuts the one to which it is moved may have.
pub record MayAlign (array leader to : ℕ) (code : Code) (ranks : List Store) (env : Env) : Type 0 where
  pub movable : IsMovable code ranks array
  pub same_length : All (λ x. columns_of (piece_at x.arrays array) ≡ columns_of (piece_at x.arrays leader)) ranks
  pub lies : LiesAs (dist_at code.arrays leader) (dist_at code.arrays to)

-- The array to which another one is moved may have the cuts of the blocks.
pub record MayBalance (array to : ℕ) (code : Code) (ranks : List Store) (env : Env) : Type 0 where
  pub movable : IsMovable code ranks array
  pub lies : IsCut (dist_at code.arrays to)

-- The arrays to which others are moved, one for one, are each one, and whole on each rank.
pub record MayGather (arrays to : List ℕ) (code : Code) (ranks : List Store) (env : Env) : Type 0 where
  pub movable : AllByRecursion (IsMovable code ranks) arrays
  pub once : AreOnce to
  pub lies : AllByRecursion (λ t. dist_at code.arrays t ≡ Rep) to

-- ---- what it does

-- Each array of the first list stands for what the one of the second stood for, and all else is as it was.
abbrev pub Copies : (Needs : Code → List Store → Env → Type 0) → (to from : List ℕ) → List Instr → Type 0
Copies Needs to from list = Performs Needs (copied to from) (arrays_alone to) list

-- Each rank has then in them exactly what it needed.
abbrev pub Delivers : (Needs : Code → List Store → Env → Type 0) → (to from : List ℕ) → Need → List Instr → Type 0
Delivers Needs to from need list = Moves (HasGot to from need) Needs (copied to from) (arrays_alone to) list
