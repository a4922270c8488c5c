-- What one rank holds of what all ranks stand for together.
use Rattle.std.specs.Prelude.{ℕ, ◌<◌, ◌*◌, ◌≡◌, Some, ℤ, List, All, length}
use Rattle.hp_word.specs.LoopRules.{word_at}
use Rattle.hp_lattice.specs.declared.dist.Dist.{Dist}
use Rattle.hp_lattice.specs.declared.dist.Dist.TheVariants.{Rep, Var, Block}
use Rattle.hp_spmd.specs.declared.code.Code.{Code}
use Rattle.hp_spmd.specs.declared.store.Store.{Store}
use Rattle.hp_spmd.specs.Layout.{Env, HoldsPiece, MayCut, Numbered, Whole}
use Rattle.hp_spmd.specs.Store.{dist_at, piece_at}

-- A rank, one of so many, holds its piece of each array, which is cut so, and the words that all agree on.
pub record Holds (code : Code) (ranks : ℕ) (cuts : ℕ → List ℕ) (env : Env) (x : Store) : Type 0 where
  pub ranks_are : x.ranks ≡ ranks
  pub arrays : (slot : ℕ) → slot < length code.arrays → HoldsPiece (dist_at code.arrays slot) (cuts slot) (env.arrays slot) x.number (piece_at x.arrays slot)
  pub words : (w : ℕ) (value : ℤ) → env.words w ≡ Some value → word_at x.words w ≡ value

-- the array is cut into a part for each rank, and not whole on all
abbrev pub IsCut : Dist → Type 0
IsCut Rep = ⊥
IsCut Var = Unit {0}
IsCut Block = Unit {0}

-- an array may lie so: it has whole columns, and cuts that its distribution may have
pub record MayLie (dist : Dist) (ranks : ℕ) (cuts : List ℕ) (whole : Whole) : Type 0 where
  pub columns : ℕ
  pub size : length whole.cells ≡ whole.rows * columns
  pub may : MayCut dist columns ranks cuts

-- What the ranks stand for together is what each of them holds by itself: they count from 0, each array may be cut so, and
-- each rank holds its pieces and the words.
pub record HoldAll (code : Code) (ranks : List Store) (env : Env) : Type 0 where
  pub numbers : Numbered 0 ranks
  pub cuts : ℕ → List ℕ
  pub may : (slot : ℕ) → slot < length code.arrays → MayLie (dist_at code.arrays slot) (length ranks) (cuts slot) (env.arrays slot)
  pub holds : All (Holds code (length ranks) cuts env) ranks
