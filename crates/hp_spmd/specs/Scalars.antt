-- What the instructions do that set words or look at lengths, as functions of a rank's data.
use Rattle.std.specs.Prelude.{ℕ, ◌-◌, ◌==◌, nat_le, nat_lt, if◌then◌else◌, min, ℤ, pos, List, [], ◌∷◌, length, map, slice_index_or, slice_set, sum, Bool, true, false, Option, Some, None, Result, Ok, Err}
use Rattle.std.specs.List.{list_all}
use Rattle.hp_word.specs.declared.place.Place.{Place}
use Rattle.hp_word.specs.declared.place.Trap.{Trap}
use Rattle.hp_word.specs.declared.place.TrapKind.{TrapKind}
use Rattle.hp_word.specs.declared.place.TrapKind.TheVariants.{Mismatch, TooLong, Empty}
use Rattle.hp_word.specs.declared.word.CalcOp.{CalcOp}
use Rattle.hp_word.specs.Elem.{trapped_at}
use Rattle.hp_word.specs.Lengths.{longest, trap}
use Rattle.hp_word.specs.LoopRules.{and_then, word_at}
use Rattle.hp_word.specs.Words.{calculated}
use Rattle.hp_spmd.specs.declared.instr.CheckRule.{CheckRule}
use Rattle.hp_spmd.specs.declared.instr.CheckRule.TheVariants as check
use Rattle.hp_spmd.specs.declared.store.Piece.{Piece}
use Rattle.hp_spmd.specs.Store.{Data, piece_at}

-- ---- words

abbrev pub with_word : ℕ → ℤ → Data → Data
with_word to value d = record d { words = slice_set d.words to value }

unfoldable pub const_data : ℕ → ℤ → Data → Result Data Trap
const_data to value d = Ok (with_word to value d)

-- an operation on two words
unfoldable pub calc_data : ℕ → CalcOp → (left right : ℕ) → Place → Data → Result Data Trap
calc_data to op left right at d = and_then (trapped_at at (calculated op (word_at d.words left) (word_at d.words right))) (λ value. Ok (with_word to value d))

-- the greatest count that is told apart, as a word: one above it counts as this
abbrev pub greatest_count : ℕ
greatest_count = 9223372036854775807

-- the length of an array: its last cut, or 0 where it has none; a cut above 2^63 - 1 counts as that
abbrev pub piece_length : Piece → ℕ
piece_length p = min (slice_index_or p.cuts (length p.cuts - 1) 0) greatest_count

-- a count as a word
unfoldable pub count_word : ℕ → ℤ
count_word n = pos (min n greatest_count)

unfoldable pub length_data : ℕ → (array : ℕ) → Data → Result Data Trap
length_data to array d = Ok (with_word to (count_word (piece_length (piece_at d.arrays array))) d)

-- ---- checks

-- the lengths of these arrays
abbrev pub lengths_of : List ℕ → List Piece → List ℕ
lengths_of arrays pieces = map (λ k. piece_length (piece_at pieces k)) arrays

-- all are equal to the first
abbrev pub all_same : List ℕ → Bool
all_same [] = true
all_same (n ∷ ns) = list_all (λ m. m == n) ns

-- there is a first, and it is not 0
abbrev pub first_not_zero : List ℕ → Bool
first_not_zero [] = false
first_not_zero (n ∷ ns) = nat_lt 0 n

-- whether lengths are as a rule says
abbrev pub meets : CheckRule → List ℕ → Bool
meets check.Equal lengths = all_same lengths
meets check.Fits lengths = nat_le (sum lengths) longest
meets check.Some lengths = first_not_zero lengths

-- the kind of trap where they are not
abbrev pub fault_of : CheckRule → TrapKind
fault_of check.Equal = Mismatch
fault_of check.Fits = TooLong
fault_of check.Some = Empty

-- the trap of lengths by a rule, if there is one
abbrev pub check_of : CheckRule → Place → List ℕ → Option Trap
check_of rule at lengths = if meets rule lengths then None else Some (trap at (fault_of rule))

-- the same data, unless there is a trap
abbrev pub unless : Option Trap → Data → Result Data Trap
unless None d = Ok d
unless (Some t) d = Err t

-- looks at the lengths of these arrays
unfoldable pub check_data : List ℕ → CheckRule → Place → Data → Result Data Trap
check_data arrays rule at d = unless (check_of rule at (lengths_of arrays d.arrays)) d
