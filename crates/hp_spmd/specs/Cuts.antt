-- Where each rank's part of an array begins.
use Rattle.std.specs.Prelude.{ℕ, suc, List, [], ◌∷◌, slice_index}
use Rattle.hp_cuts.specs.Blocks.{block_cuts}
use Rattle.hp_lattice.specs.declared.dist.Dist.{Dist}
use Rattle.hp_lattice.specs.declared.dist.Dist.TheVariants.{Rep, Var, Block}

-- the cuts of an array that is made with this distribution: an uneven one begins with the blocks
abbrev pub first_cuts : Dist → ℕ → ℕ → List ℕ
first_cuts Rep len ranks = 0 ∷ len ∷ []
first_cuts Var len ranks = block_cuts len ranks
first_cuts Block len ranks = block_cuts len ranks

-- the first of a rank's own places, and the first behind them
abbrev pub own_from : Dist → List ℕ → ℕ → ℕ
own_from Rep cuts rank = slice_index cuts 0
own_from Var cuts rank = slice_index cuts rank
own_from Block cuts rank = slice_index cuts rank

abbrev pub own_until : Dist → List ℕ → ℕ → ℕ
own_until Rep cuts rank = slice_index cuts 1
own_until Var cuts rank = slice_index cuts (suc rank)
own_until Block cuts rank = slice_index cuts (suc rank)
