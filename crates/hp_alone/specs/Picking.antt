-- Elements at the positions that an array says: each rank picks those that its own part of the positions says.
use Rattle.std.specs.Prelude.{◌≡◌, ℕ, ◌+◌, ℤ, pos, None, List, [], ◌∷◌, Result, Ok, Err, refl}
use Rattle.hp_word.specs.declared.place.Place.{Place}
use Rattle.hp_word.specs.declared.place.Trap.{Trap}
use Rattle.hp_word.specs.declared.place.TrapKind.TheVariants.{Index}
use Rattle.hp_word.specs.Lengths.{trap}
use Rattle.hp_word.specs.ListRules.{element_at, elements_at}
use Rattle.hp_word.specs.LoopRules.{all_ok, and_then}
use Rattle.hp_lattice.specs.declared.dist.Dist.TheVariants.{Rep}
use Rattle.hp_spmd.specs.declared.code.Code.{Code}
use Rattle.hp_spmd.specs.declared.instr.Instr.{Instr}
use Rattle.hp_spmd.specs.declared.instr.Instr.TheVariants as instr
use Rattle.hp_spmd.specs.declared.store.Store.{Store}
use Rattle.hp_spmd.specs.Layout.{Env, vector}
use Rattle.hp_spmd.specs.Spread.{LiesAs}
use Rattle.hp_spmd.specs.Store.{dist_at}
use Rattle.hp_snippet.specs.Outcomes.{After}
use Rattle.hp_alone.specs.Dealing.{array_made}

abbrev pub pick_code : (to array index : ℕ) → Place → List Instr
pick_code to array index at = instr.Pick to array index at ∷ []

-- The array `to` has the elements of another one at the positions, from 1, that a third one says; or there is the trap of the
-- first of the positions at which there is no element.
abbrev pub elements_picked : (to array index : ℕ) → Place → List Store → Env → Result (After Env) Trap
elements_picked to array index at ranks env = array_made to (elements_at at (env.arrays array).cells (env.arrays index).cells) env

-- The elements are of an array that is whole on each rank. The positions are a vector, whole or in pieces; what is picked may
-- have its cuts.
pub record MayPick (to array index : ℕ) (code : Code) (ranks : List Store) (env : Env) : Type 0 where
  pub whole : dist_at code.arrays array ≡ Rep
  pub lies : LiesAs (dist_at code.arrays index) (dist_at code.arrays to)
  pub positions : (env.arrays index).rows ≡ 1

-- ---- worked rows

-- each array has its own number and the next one
abbrev worked : Env
worked = record { arrays = λ k. vector (pos k ∷ pos (k + 1) ∷ []); words = λ w. None }

-- what the array 5 has then
abbrev cells_in : Result (After Env) Trap → Result (List ℤ) Trap
cells_in made = and_then made (λ after. Ok (after.env.arrays 5).cells)

-- of 7 and 8 those at 1 and 2; there is none at 3, and none at 0
pick_rows : (at : Place) → (cells_in (elements_picked 5 7 1 at [] worked) ≡ Ok (pos 7 ∷ pos 8 ∷ [])) × (cells_in (elements_picked 5 7 2 at [] worked) ≡ Err (trap at Index)) × (cells_in (elements_picked 5 7 0 at [] worked) ≡ Err (trap at Index))
unfolding elements_at element_at all_ok
pick_rows at = (refl, refl, refl)
