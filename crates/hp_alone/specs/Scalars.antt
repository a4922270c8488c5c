-- Words that all ranks make alike, each by itself: what these pieces of code are, and what they do.
use Rattle.std.specs.Prelude.{ℕ, ◌≤◌, ◌≡◌, ℤ, pos, negsuc, Some, List, [], ◌∷◌, length, Result, Ok, Err, refl}
use Rattle.std.specs.Int.{int_wrap}
use Rattle.hp_word.specs.declared.place.Place.{Place}
use Rattle.hp_word.specs.declared.place.Trap.{Trap}
use Rattle.hp_word.specs.declared.place.TrapKind.TheVariants.{Divide}
use Rattle.hp_word.specs.declared.word.CalcOp.{CalcOp}
use Rattle.hp_word.specs.declared.word.CalcOp.TheVariants.{Add, Div}
use Rattle.hp_word.specs.Elem.{trapped_at}
use Rattle.hp_word.specs.Lengths.{trap}
use Rattle.hp_word.specs.ListRules.{element_at}
use Rattle.hp_word.specs.LoopRules.{and_then}
use Rattle.hp_word.specs.Words.{calculated}
use Rattle.hp_lattice.specs.declared.dist.Dist.TheVariants.{Rep}
use Rattle.hp_spmd.specs.declared.code.Code.{Code}
use Rattle.hp_spmd.specs.declared.instr.Instr.{Instr}
use Rattle.hp_spmd.specs.declared.instr.Instr.TheVariants as instr
use Rattle.hp_spmd.specs.declared.store.Store.{Store}
use Rattle.hp_spmd.specs.Layout.{Env, Whole, vector}
use Rattle.hp_spmd.specs.Scalars.{greatest_count}
use Rattle.hp_spmd.specs.Store.{dist_at}
use Rattle.hp_snippet.specs.Moves.{silently}
use Rattle.hp_snippet.specs.Outcomes.{After}
use Rattle.hp_snippet.specs.Promises.{Slots}
use Rattle.hp_snippet.specs.Values.{HasValue, value_or_zero, with_value}

-- ---- what they write

-- all ranks have this value in a word, or there is a trap
abbrev pub word_made : ℕ → Result ℤ Trap → Env → Result (After Env) Trap
word_made to made env = and_then made (λ value. silently (with_value to value env))

-- a word alone is written
abbrev pub word_alone : ℕ → Slots
word_alone to = record { words = to ∷ []; arrays = []; loose = [] }

-- ---- a number

abbrev pub const_code : ℕ → ℤ → List Instr
const_code to value = instr.Const to value ∷ []

abbrev pub constant : ℕ → ℤ → List Store → Env → Result (After Env) Trap
constant to value ranks env = word_made to (Ok value) env

-- nothing
abbrev pub NeedsNothing : Code → List Store → Env → Type 0
NeedsNothing code ranks env = Unit {0}

-- ---- an operation on two words

abbrev pub calc_code : ℕ → CalcOp → (left right : ℕ) → Place → List Instr
calc_code to op left right at = instr.Calc to op left right at ∷ []

abbrev pub calculated_word : ℕ → CalcOp → (left right : ℕ) → Place → List Store → Env → Result (After Env) Trap
calculated_word to op left right at ranks env =
    word_made to (trapped_at at (calculated op (value_or_zero (env.words left)) (value_or_zero (env.words right)))) env

-- all ranks agree on both words
abbrev pub HaveValues : (left right : ℕ) → Code → List Store → Env → Type 0
HaveValues left right code ranks env = HasValue (env.words left) × HasValue (env.words right)

-- ---- the length of an array

abbrev pub length_code : ℕ → (array : ℕ) → List Instr
length_code to array = instr.Length to array ∷ []

abbrev pub counted : ℕ → (array : ℕ) → List Store → Env → Result (After Env) Trap
counted to array ranks env = word_made to (Ok (pos (length (env.arrays array).cells))) env

-- a vector, no longer than counts go
pub record IsVector (whole : Whole) : Type 0 where
  pub one_row : whole.rows ≡ 1
  pub short : length whole.cells ≤ greatest_count

abbrev pub MayCount : (array : ℕ) → Code → List Store → Env → Type 0
MayCount array code ranks env = IsVector (env.arrays array)

-- ---- an element

abbrev pub at_code : ℕ → (array index : ℕ) → Place → List Instr
at_code to array index at = instr.At to array index at ∷ []

abbrev pub element_taken : ℕ → (array index : ℕ) → Place → List Store → Env → Result (After Env) Trap
element_taken to array index at ranks env = word_made to (element_at at (env.arrays array).cells (value_or_zero (env.words index))) env

-- the array is whole on each rank, and all agree on the position
abbrev pub MayTake : (array index : ℕ) → Code → List Store → Env → Type 0
MayTake array index code ranks env = (dist_at code.arrays array ≡ Rep) × HasValue (env.words index)

-- ---- worked rows

abbrev worked : Env
worked = record { arrays = λ k. vector (pos 7 ∷ pos 8 ∷ []); words = λ w. Some (pos w) }

-- the words that these pieces of code leave in the word 9, and the word beside it
abbrev left_in : Result (After Env) Trap → Result (ℤ × ℤ) Trap
left_in made = and_then made (λ after. Ok (value_or_zero (after.env.words 9), value_or_zero (after.env.words 4)))

word_rows : (at : Place)
    → (left_in (constant 9 (negsuc 0) [] worked) ≡ Ok (negsuc 0, pos 4))
    × (left_in (calculated_word 9 Add 2 3 at [] worked) ≡ Ok (pos 5, pos 4))
    × (left_in (calculated_word 9 Div 2 0 at [] worked) ≡ Err (trap at Divide))
    × (left_in (counted 9 0 [] worked) ≡ Ok (pos 2, pos 4))
    × (left_in (element_taken 9 0 2 at [] worked) ≡ Ok (pos 8, pos 4))
unfolding element_at int_wrap
word_rows at = (refl, refl, refl, refl, refl)
