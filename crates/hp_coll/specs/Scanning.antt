-- What a scan over all ranks does: running sums of a whole array.
use Rattle.std.specs.Prelude.{◌≡◌, refl, ℕ, ◌==◌, if◌then◌else◌, ℤ, pos, List, [], ◌∷◌, false, Option, Some, None, Result, Ok}
use Rattle.std.specs.Int.{int_wrap}
use Rattle.hp_word.specs.declared.place.Trap.{Trap}
use Rattle.hp_word.specs.ListRules.{prefix_sums, sums_after}
use Rattle.hp_spmd.specs.declared.code.Code.{Code}
use Rattle.hp_spmd.specs.declared.instr.Instr.{Instr}
use Rattle.hp_spmd.specs.declared.instr.Instr.TheVariants as instr
use Rattle.hp_spmd.specs.declared.instr.Packing.TheVariants.{Words}
use Rattle.hp_spmd.specs.declared.instr.Unpacking.TheVariants.{Below}
use Rattle.hp_spmd.specs.declared.store.Store.{Store}
use Rattle.hp_spmd.specs.Layout.{Env, Whole, vector}
use Rattle.hp_spmd.specs.Spread.{LiesAs}
use Rattle.hp_spmd.specs.Store.{dist_at}
use Rattle.hp_snippet.specs.Holds.{IsCut}
use Rattle.hp_snippet.specs.Outcomes.{After}
use Rattle.hp_snippet.specs.Promises.{Slots}

-- ---- the code

-- Each rank sums up its own part, to tell the others its whole sum; then again behind the sum of all ranks below it.
abbrev pub scan_code : (to from part start : ℕ) → List Instr
scan_code to from part start =
    instr.Const start (pos 0) ∷ instr.Scan to from start part ∷ instr.Pack (Words (part ∷ [])) ∷ instr.Post false ∷ instr.Take false ∷ instr.Unpack (Below start) ∷ instr.Scan to from start part ∷ []

-- ---- what it does

-- the arrays once one of them has the running sums of another one, wrapped
abbrev pub summed_arrays : (to from : ℕ) → (ℕ → Whole) → ℕ → Whole
summed_arrays to from arrays k = if to == k then record { rows = (arrays from).rows; cells = prefix_sums (arrays from).cells } else arrays k

-- words of which these are each rank's own: they have no value on which all agree
abbrev pub words_but : (own : List ℕ) → (ℕ → Option ℤ) → ℕ → Option ℤ
words_but [] words w = words w
words_but (o ∷ own) words w = if o == w then None else words_but own words w

abbrev pub scanned : (to from part start : ℕ) → List Store → Env → Result (After Env) Trap
scanned to from part start ranks env = Ok (record { env = record { arrays = summed_arrays to from env.arrays; words = words_but (part ∷ start ∷ []) env.words }; text = [] })

abbrev pub scan_writes : (to part start : ℕ) → Slots
scan_writes to part start = record { words = part ∷ start ∷ []; arrays = to ∷ []; loose = [] }

-- the array lies in pieces, and the other one, which may have its cuts, is another one; so are the words
pub record MayScan (to from part start : ℕ) (code : Code) (ranks : List Store) (env : Env) : Type 0 where
  pub cut : IsCut (dist_at code.arrays from)
  pub lies : LiesAs (dist_at code.arrays from) (dist_at code.arrays to)
  pub other : to ≡ from → ⊥
  pub apart : part ≡ start → ⊥

-- ---- worked rows

-- 1, 2 and 3 are summed up into the array 1 of 0; the array beside them stays, and so does a word beside the two
scanned_row : (arrays : ℕ → Whole) → (summed_arrays 1 0 (λ k. vector (pos 1 ∷ pos 2 ∷ pos 3 ∷ [])) 1 ≡ vector (pos 1 ∷ pos 3 ∷ pos 6 ∷ [])) × (summed_arrays 1 0 arrays 2 ≡ arrays 2)
    × (words_but (4 ∷ 5 ∷ []) (λ w. Some (pos 7)) 4 ≡ None) × (words_but (4 ∷ 5 ∷ []) (λ w. Some (pos 7)) 6 ≡ Some (pos 7))
unfolding sums_after int_wrap
scanned_row arrays = (refl, refl, refl, refl)
