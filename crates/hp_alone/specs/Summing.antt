-- Running sums of an array that is whole on each rank.
use Rattle.std.specs.Prelude.{◌≡◌, ℕ, ℤ, pos, Some, List, [], ◌∷◌, Result, Ok, refl}
use Rattle.std.specs.Int.{int_wrap}
use Rattle.hp_word.specs.declared.fold.FoldKind.TheVariants.{Sum}
use Rattle.hp_word.specs.declared.place.Trap.{Trap}
use Rattle.hp_word.specs.Folds.{fold_of}
use Rattle.hp_word.specs.ListRules.{prefix_sums, sums_after}
use Rattle.hp_word.specs.LoopRules.{and_then}
use Rattle.hp_lattice.specs.declared.dist.Dist.TheVariants.{Rep}
use Rattle.hp_spmd.specs.declared.code.Code.{Code}
use Rattle.hp_spmd.specs.declared.instr.Instr.{Instr}
use Rattle.hp_spmd.specs.declared.instr.Instr.TheVariants as instr
use Rattle.hp_spmd.specs.declared.store.Store.{Store}
use Rattle.hp_spmd.specs.Layout.{Env, Whole, vector}
use Rattle.hp_spmd.specs.Store.{dist_at}
use Rattle.hp_snippet.specs.Moves.{silently, with_wholes}
use Rattle.hp_snippet.specs.Outcomes.{After}
use Rattle.hp_snippet.specs.Promises.{Slots}
use Rattle.hp_snippet.specs.Values.{value_or_zero, with_value}

-- each rank sums up the whole from 0 on
abbrev pub sums_code : (to from part start : ℕ) → List Instr
sums_code to from part start = instr.Const start (pos 0) ∷ instr.Scan to from start part ∷ []

-- a whole with the wrapped running sums of its cells
abbrev pub summed : Whole → Whole
summed whole = record { rows = whole.rows; cells = prefix_sums whole.cells }

-- The array `to` has the running sums of another one; the word `part` has its sum, and the word `start` what comes before its
-- first element, which is 0.
abbrev pub sums_made : (to from part start : ℕ) → List Store → Env → Result (After Env) Trap
sums_made to from part start ranks env = silently (with_value part (fold_of Sum (env.arrays from).cells) (with_value start (pos 0) (with_wholes (to ∷ []) (summed (env.arrays from) ∷ []) env)))

-- both arrays are whole on each rank
pub record MaySum (to from : ℕ) (code : Code) (ranks : List Store) (env : Env) : Type 0 where
  pub from_whole : dist_at code.arrays from ≡ Rep
  pub to_whole : dist_at code.arrays to ≡ Rep

abbrev pub sums_written : (to part start : ℕ) → Slots
sums_written to part start = record { words = start ∷ part ∷ []; arrays = to ∷ []; loose = [] }

-- ---- worked rows

abbrev worked : Env
worked = record { arrays = λ k. vector (pos 1 ∷ pos 2 ∷ pos 3 ∷ []); words = λ w. Some (pos w) }

-- what the array 1 and the words 8, 9 and 4 have then
abbrev left_in : Result (After Env) Trap → Result (List ℤ × ℤ × ℤ × ℤ) Trap
left_in made = and_then made (λ after. Ok ((after.env.arrays 1).cells, value_or_zero (after.env.words 8), value_or_zero (after.env.words 9), value_or_zero (after.env.words 4)))

sums_row : left_in (sums_made 1 0 8 9 [] worked) ≡ Ok (pos 1 ∷ pos 3 ∷ pos 6 ∷ [], pos 6, pos 0, pos 4)
unfolding sums_after int_wrap
sums_row = refl
