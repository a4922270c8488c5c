-- One vector behind another, both whole on each rank.
use Rattle.std.specs.Prelude.{◌≡◌, ℕ, ℤ, pos, Some, List, [], ◌∷◌, true, Result, Ok, refl}
use Rattle.hp_word.specs.declared.place.Place.{Place}
use Rattle.hp_word.specs.declared.place.Trap.{Trap}
use Rattle.hp_word.specs.ListRules.{appended}
use Rattle.hp_word.specs.LoopRules.{and_then}
use Rattle.hp_lattice.specs.declared.dist.Dist.TheVariants.{Rep}
use Rattle.hp_spmd.specs.declared.code.Code.{Code}
use Rattle.hp_spmd.specs.declared.instr.CheckRule.TheVariants.{Fits}
use Rattle.hp_spmd.specs.declared.instr.Instr.{Instr}
use Rattle.hp_spmd.specs.declared.instr.Instr.TheVariants as instr
use Rattle.hp_spmd.specs.declared.store.Store.{Store}
use Rattle.hp_spmd.specs.Layout.{Env, vector}
use Rattle.hp_spmd.specs.Store.{dist_at}
use Rattle.hp_snippet.specs.Outcomes.{After}
use Rattle.hp_alone.specs.Dealing.{array_made}

-- a look at both lengths, and then both end to end
abbrev pub join_code : (to left right : ℕ) → Place → List Instr
join_code to left right at = instr.Check (left ∷ right ∷ []) Fits at ∷ instr.Stack to (left ∷ right ∷ []) true at ∷ []

-- The array `to` has the first vector with the second behind it; or both together are too long.
abbrev pub joined : (to left right : ℕ) → Place → List Store → Env → Result (After Env) Trap
joined to left right at ranks env = array_made to (appended at (env.arrays left).cells (env.arrays right).cells) env

-- two vectors, and an array, that are all whole on each rank
pub record MayJoin (to left right : ℕ) (code : Code) (ranks : List Store) (env : Env) : Type 0 where
  pub left_whole : dist_at code.arrays left ≡ Rep
  pub right_whole : dist_at code.arrays right ≡ Rep
  pub to_whole : dist_at code.arrays to ≡ Rep
  pub left_vector : (env.arrays left).rows ≡ 1
  pub right_vector : (env.arrays right).rows ≡ 1

-- ---- a worked row

-- each array has its own number
abbrev worked : Env
worked = record { arrays = λ k. vector (pos k ∷ []); words = λ w. Some (pos w) }

-- what the array 5 has then, and the one beside it
abbrev cells_in : Result (After Env) Trap → Result (List ℤ × List ℤ) Trap
cells_in made = and_then made (λ after. Ok ((after.env.arrays 5).cells, (after.env.arrays 4).cells))

join_row : (at : Place) → cells_in (joined 5 7 8 at [] worked) ≡ Ok (pos 7 ∷ pos 8 ∷ [], pos 4 ∷ [])
unfolding appended
join_row at = refl
