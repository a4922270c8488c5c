-- What putting one vector behind another promises.
use Rattle.std.specs.Prelude.{ℕ, ◌≡◌, List, [], ◌∷◌, ◌++◌, slice_index_or, Result}
use Rattle.hp_word.specs.declared.place.Place.{Place}
use Rattle.hp_word.specs.declared.place.Trap.{Trap}
use Rattle.hp_word.specs.ListRules.{appended}
use Rattle.hp_word.specs.LoopRules.{and_then}
use Rattle.hp_spmd.specs.declared.code.Code.{Code}
use Rattle.hp_spmd.specs.declared.instr.CheckRule.TheVariants.{Fits}
use Rattle.hp_spmd.specs.declared.instr.Instr.{Instr}
use Rattle.hp_spmd.specs.declared.instr.Instr.TheVariants as instr
use Rattle.hp_spmd.specs.declared.instr.Need.TheVariants.{First, Second}
use Rattle.hp_spmd.specs.declared.instr.Packing.TheVariants.{Move}
use Rattle.hp_spmd.specs.declared.instr.Unpacking.TheVariants.{Glued, Into}
use Rattle.hp_spmd.specs.declared.store.Store.{Store}
use Rattle.hp_spmd.specs.Layout.{Env, vector}
use Rattle.hp_spmd.specs.Store.{dealt, dist_at, piece_at}
use Rattle.hp_snippet.specs.Holds.{IsCut}
use Rattle.hp_snippet.specs.Moves.{Moves, needed, silently, with_wholes}
use Rattle.hp_snippet.specs.Outcomes.{After}
use Rattle.hp_snippet.specs.Promises.{Performs, Slots, exchange_code}

-- a look at both lengths; then each rank gets what its block has of the first vector, and then what it has of the second
abbrev pub concat_code : (left right part to : ℕ) → Place → List Instr
concat_code left right part to at =
    instr.Check (left ∷ right ∷ []) Fits at ∷ exchange_code (Move (left ∷ []) (First right)) (Into part) ++ exchange_code (Move (right ∷ []) (Second left)) (Glued to part left right)

-- two vectors in pieces, and an array that may have the cuts of blocks
pub record MayConcat (left right to : ℕ) (code : Code) (ranks : List Store) (env : Env) : Type 0 where
  pub left_cut : IsCut (dist_at code.arrays left)
  pub right_cut : IsCut (dist_at code.arrays right)
  pub to_cut : IsCut (dist_at code.arrays to)
  pub left_vector : (env.arrays left).rows ≡ 1
  pub right_vector : (env.arrays right).rows ≡ 1

-- The array stands for the first vector with the second behind it, or that is too long.
abbrev pub concatenated : (left right to : ℕ) → Place → List Store → Env → Result (After Env) Trap
concatenated left right to at ranks env = and_then (appended at (env.arrays left).cells (env.arrays right).cells) (λ cells. silently (with_wholes (to ∷ []) (vector cells ∷ []) env))

abbrev pub concat_writes : (part to : ℕ) → Slots
concat_writes part to = record { words = []; arrays = to ∷ []; loose = part ∷ [] }

-- Each rank has its block of both vectors together; in the loose column exactly what that has of the first one.
pub record HasBlock (left right part to : ℕ) (code : Code) (env : Env) (x y : Store) : Type 0 where
  pub block : piece_at y.arrays to ≡ dealt (dist_at code.arrays to) x.number x.ranks ((env.arrays left).cells ++ (env.arrays right).cells)
  pub first : slice_index_or y.loose part [] ≡ (needed (First right) code.arrays env x left).cells

abbrev pub Concatenates : (left right part to : ℕ) → Place → List Instr → Type 0
Concatenates left right part to at list = Performs (MayConcat left right to) (concatenated left right to at) (concat_writes part to) list

abbrev pub DealsBoth : (left right part to : ℕ) → Place → List Instr → Type 0
DealsBoth left right part to at list = Moves (HasBlock left right part to) (MayConcat left right to) (concatenated left right to at) (concat_writes part to) list
