-- Copies of arrays, each rank's piece by itself.
use Rattle.std.specs.Prelude.{◌≡◌, ℕ, List, [], ◌∷◌, length}
use Rattle.hp_spmd.specs.declared.code.Code.{Code}
use Rattle.hp_spmd.specs.declared.instr.Instr.{Instr}
use Rattle.hp_spmd.specs.declared.instr.Instr.TheVariants as instr
use Rattle.hp_spmd.specs.declared.store.Store.{Store}
use Rattle.hp_spmd.specs.Layout.{Env}
use Rattle.hp_spmd.specs.Spread.{CopyAlike}
use Rattle.hp_snippet.specs.Promises.{AreOnce}

abbrev pub copy_code : (to from : List ℕ) → List Instr
copy_code to from = instr.Copy to from ∷ []

-- There are as many of both, no array is written twice, and each may have the cuts of what it is a copy of. An array may be
-- copied to one of those that are copied too: all are read before one is set.
pub record MayCopy (to from : List ℕ) (code : Code) (ranks : List Store) (env : Env) : Type 0 where
  pub once : AreOnce to
  pub same : length to ≡ length from
  pub alike : CopyAlike code.arrays to from
