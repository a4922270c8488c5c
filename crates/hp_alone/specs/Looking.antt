-- A look at the lengths of arrays, by which all ranks trap or all go on.
use Rattle.std.specs.Prelude.{◌≡◌, ℕ, Option, Some, None, List, [], ◌∷◌, length, map, Result, Err, refl}
use Rattle.std.specs.List.{AllByRecursion}
use Rattle.hp_word.specs.declared.place.Place.{Place}
use Rattle.hp_word.specs.declared.place.Trap.{Trap}
use Rattle.hp_word.specs.declared.place.TrapKind.TheVariants.{Empty}
use Rattle.hp_word.specs.Lengths.{trap}
use Rattle.hp_spmd.specs.declared.code.Code.{Code}
use Rattle.hp_spmd.specs.declared.instr.CheckRule.{CheckRule}
use Rattle.hp_spmd.specs.declared.instr.CheckRule.TheVariants as check
use Rattle.hp_spmd.specs.declared.instr.Instr.{Instr}
use Rattle.hp_spmd.specs.declared.instr.Instr.TheVariants as instr
use Rattle.hp_spmd.specs.declared.store.Store.{Store}
use Rattle.hp_spmd.specs.Layout.{Env, vector}
use Rattle.hp_spmd.specs.Scalars.{check_of}
use Rattle.hp_snippet.specs.Moves.{silently}
use Rattle.hp_snippet.specs.Outcomes.{After}
use Rattle.hp_snippet.specs.Promises.{Slots}
use Rattle.hp_alone.specs.Scalars.{IsVector}

abbrev pub check_code : List ℕ → CheckRule → Place → List Instr
check_code arrays rule at = instr.Check arrays rule at ∷ []

-- how long these vectors are
abbrev pub lengths_in : Env → List ℕ → List ℕ
lengths_in env arrays = map (λ k. length (env.arrays k).cells) arrays

-- nothing changes, unless there is a trap
abbrev pub unless_trap : Option Trap → Env → Result (After Env) Trap
unless_trap None env = silently env
unless_trap (Some t) env = Err t

-- nothing changes where the lengths are as the rule says; else there is the rule's trap
abbrev pub looked_at : List ℕ → CheckRule → Place → List Store → Env → Result (After Env) Trap
looked_at arrays rule at ranks env = unless_trap (check_of rule at (lengths_in env arrays)) env

-- they are vectors
abbrev pub MayLook : List ℕ → Code → List Store → Env → Type 0
MayLook arrays code ranks env = AllByRecursion (λ k. IsVector (env.arrays k)) arrays

abbrev pub nothing_written : Slots
nothing_written = record { words = []; arrays = []; loose = [] }

-- ---- worked rows

-- vectors of no elements are equally long, and none of them has a first element
abbrev empty : Env
empty = record { arrays = λ k. vector []; words = λ w. None }

look_rows : (at : Place) → (looked_at (0 ∷ 1 ∷ []) check.Equal at [] empty ≡ silently empty) × (looked_at (0 ∷ []) check.Some at [] empty ≡ Err (trap at Empty))
look_rows at = (refl, refl)
