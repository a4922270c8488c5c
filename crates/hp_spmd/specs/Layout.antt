-- How arrays lie on the ranks.
use Rattle.std.specs.Prelude.{ℕ, suc, ◌-◌, ◌*◌, ◌<◌, ◌≤◌, ◌≡◌, ◌^◌, Option, Some, ℤ, List, [], ◌∷◌, All, length, slice_index}
use Rattle.hp_word.specs.LoopRules.{word_at}
use Rattle.hp_spmd.specs.declared.code.Code.{Code}
use Rattle.hp_lattice.specs.declared.dist.Dist.{Dist}
use Rattle.hp_lattice.specs.declared.dist.Dist.TheVariants.{Rep, Var, Block}
use Rattle.hp_spmd.specs.declared.store.Piece.{Piece}
use Rattle.hp_spmd.specs.declared.store.Store.{Store}
use Rattle.hp_cuts.specs.Blocks.{block_cuts}
use Rattle.hp_spmd.specs.Cuts.{own_from, own_until}
use Rattle.hp_spmd.specs.Store.{piece_at, dist_at, kept}

-- cuts that never fall, from 0 to the length, one for each rank and one behind them
pub record Rises (cuts : List ℕ) (len ranks : ℕ) : Type 0 where
  pub count : length cuts ≡ suc ranks
  pub first : slice_index cuts 0 ≡ 0
  pub last : slice_index cuts ranks ≡ len
  pub rises : (k : ℕ) → k < ranks → slice_index cuts k ≤ slice_index cuts (suc k)

-- the cuts that an array of this length may have
abbrev pub MayCut : Dist → ℕ → ℕ → List ℕ → Type 0
MayCut Rep len ranks cuts = cuts ≡ 0 ∷ len ∷ []
MayCut Var len ranks cuts = Rises cuts len ranks
MayCut Block len ranks cuts = cuts ≡ block_cuts len ranks

-- a rank's piece has a row or more, cuts of its distribution, and as many cells in each row as it has places
pub record IsShared (dist : Dist) (ranks number : ℕ) (piece : Piece) : Type 0 where
  pub some : 1 ≤ piece.rows
  pub len : ℕ
  pub cut : MayCut dist len ranks piece.cuts
  pub filled : length piece.cells ≡ piece.rows * (own_until dist piece.cuts number - own_from dist piece.cuts number)

abbrev pub AreShared : List Dist → ℕ → ℕ → List Piece → Type 0
AreShared [] ranks number [] = Unit {0}
AreShared [] ranks number (p ∷ ps) = ⊥
AreShared (d ∷ ds) ranks number [] = ⊥
AreShared (d ∷ ds) ranks number (p ∷ ps) = IsShared d ranks number p × AreShared ds ranks number ps

-- each array of a rank's store is shared as the code says
abbrev pub Share : Code → Store → Type 0
Share code x = AreShared code.arrays x.ranks x.number x.arrays

-- a whole array: how many rows it has, 1 of a vector, and its cells, column by column
pub record Whole : Type 0 where
  pub rows : ℕ
  pub cells : List ℤ

-- a whole vector
abbrev pub vector : List ℤ → Whole
vector cells = record { rows = 1; cells = cells }

-- What the arrays and words of all ranks stand for together; a word that the ranks need not agree on has no value.
pub record Env : Type 0 where
  pub arrays : ℕ → Whole
  pub words : ℕ → Option ℤ

-- a rank's piece has the rows of the whole and these cuts, and its cells are those of the whole in the rank's columns
pub record HoldsPiece (dist : Dist) (cuts : List ℕ) (whole : Whole) (number : ℕ) (piece : Piece) : Type 0 where
  pub rows_are : piece.rows ≡ whole.rows
  pub cuts_are : piece.cuts ≡ cuts
  pub cells_are : piece.cells ≡ kept (whole.rows * own_from dist cuts number) (whole.rows * own_until dist cuts number) 0 whole.cells

-- an array lies on the ranks, cut so, in pieces of the whole
pub record IsLaid (dist : Dist) (ranks : List Store) (slot : ℕ) (cuts : List ℕ) (whole : Whole) : Type 0 where
  pub columns : ℕ
  pub size : length whole.cells ≡ whole.rows * columns
  pub may : MayCut dist columns (length ranks) cuts
  pub held : All (λ x. HoldsPiece dist cuts whole x.number (piece_at x.arrays slot)) ranks

-- the ranks count from this one on
abbrev pub Numbered : ℕ → List Store → Type 0
Numbered k [] = Unit {0}
Numbered k (x ∷ xs) = (x.number ≡ k) × Numbered (suc k) xs

-- The ranks, each with its number among all, hold these arrays and words; all agree on the cuts of each array.
pub record Layout (code : Code) (ranks : List Store) (env : Env) : Type 0 where
  pub numbers : Numbered 0 ranks
  pub counts : All (λ x. x.ranks ≡ length ranks) ranks
  pub cuts : ℕ → List ℕ
  pub arrays : (slot : ℕ) → slot < length code.arrays → IsLaid (dist_at code.arrays slot) ranks slot (cuts slot) (env.arrays slot)
  pub words : (w : ℕ) (value : ℤ) → env.words w ≡ Some value → All (λ x. word_at x.words w ≡ value) ranks

-- ---- stores that suit a code

-- A rank's store has what the code names, and is that of one of 1 to 32 ranks that has come to one of its instructions.
pub record Suits (code : Code) (x : Store) : Type 0 where
  pub words : length x.words ≡ code.words
  pub arrays : length x.arrays ≡ length code.arrays
  pub loose : length x.loose ≡ code.loose
  pub some : 1 ≤ x.ranks
  pub few : x.ranks ≤ 32
  pub outbox : length x.outbox ≡ x.ranks
  pub inbox : length x.inbox ≡ x.ranks
  pub number : x.number < x.ranks
  pub sent : x.sent < x.ranks
  pub got : x.got < x.ranks
  pub executed : x.executed < 2 ^ 64 - 1
  pub position : x.position < length code.list
