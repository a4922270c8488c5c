-- Arrays of which each rank makes its own part: what these pieces of code are, and what they do.
use Rattle.std.specs.Prelude.{◌≡◌, ℕ, ℤ, pos, Some, List, [], ◌∷◌, Result, Ok, Err, refl}
use Rattle.hp_word.specs.declared.place.Place.{Place}
use Rattle.hp_word.specs.declared.place.Trap.{Trap}
use Rattle.hp_word.specs.declared.place.TrapKind.TheVariants.{TooLong}
use Rattle.hp_word.specs.Lengths.{trap}
use Rattle.hp_word.specs.ListRules.{filled, range_count, range_of, span}
use Rattle.hp_word.specs.LoopRules.{and_then}
use Rattle.hp_spmd.specs.declared.instr.Instr.{Instr}
use Rattle.hp_spmd.specs.declared.instr.Instr.TheVariants as instr
use Rattle.hp_spmd.specs.declared.store.Store.{Store}
use Rattle.hp_spmd.specs.Layout.{Env, vector}
use Rattle.hp_snippet.specs.Moves.{silently, with_wholes}
use Rattle.hp_snippet.specs.Outcomes.{After}
use Rattle.hp_snippet.specs.Values.{value_or_zero}

-- all ranks together have this vector in an array, or there is a trap
abbrev pub array_made : ℕ → Result (List ℤ) Trap → Env → Result (After Env) Trap
array_made to made env = and_then made (λ cells. silently (with_wholes (to ∷ []) (vector cells ∷ []) env))

-- ---- a word as often as another says

abbrev pub fill_code : ℕ → (value count : ℕ) → Place → List Instr
fill_code to value count at = instr.Fill to value count at ∷ []

abbrev pub filled_array : ℕ → (value count : ℕ) → Place → List Store → Env → Result (After Env) Trap
filled_array to value count at ranks env = array_made to (filled at (value_or_zero (env.words count)) (value_or_zero (env.words value))) env

-- ---- the numbers from one word up to another

abbrev pub range_code : ℕ → (first last : ℕ) → Place → List Instr
range_code to first last at = instr.Range to first last at ∷ []

abbrev pub ranged_array : ℕ → (first last : ℕ) → Place → List Store → Env → Result (After Env) Trap
ranged_array to first last at ranks env = array_made to (range_of at (value_or_zero (env.words first)) (value_or_zero (env.words last))) env

-- ---- worked rows

abbrev numbered : Env
numbered = record { arrays = λ k. vector []; words = λ w. Some (pos w) }

abbrev cells_in : Result (After Env) Trap → Result (List ℤ × List ℤ) Trap
cells_in made = and_then made (λ after. Ok ((after.env.arrays 5).cells, (after.env.arrays 4).cells))

dealt_rows : (at : Place) → (cells_in (filled_array 5 7 2 at [] numbered) ≡ Ok (pos 7 ∷ pos 7 ∷ [], [])) × (cells_in (ranged_array 5 2 4 at [] numbered) ≡ Ok (pos 2 ∷ pos 3 ∷ pos 4 ∷ [], []))
    × (cells_in (filled_array 5 7 1048577 at [] numbered) ≡ Err (trap at TooLong))
unfolding filled range_of range_count span
dealt_rows at = (refl, refl, refl)
