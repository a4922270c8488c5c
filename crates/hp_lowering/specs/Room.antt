-- Where what a program with loops names stands in the ranks' code: its slots are the first arrays, and its words the first words.
-- Behind them stand arrays, words and loose columns for what is on the way within a step; they are the same for each step.
use Rattle.std.specs.Prelude.{◌≡◌, ℕ, suc, ◌+◌, max, Bool, List, [], ◌∷◌, ◌++◌, length, map, replicate, take, refl}
use Rattle.hp_lattice.specs.declared.dist.Dist.{Dist}
use Rattle.hp_lattice.specs.declared.dist.Dist.TheVariants.{Var}
use Rattle.hp_program.specs.Programs.{Prog, operations}
use Rattle.hp_air.specs.declared.slot.Slot.{Slot}
use Rattle.hp_air.specs.declared.what.What.{What}
use Rattle.hp_air.specs.declared.what.What.TheVariants as what
use Rattle.hp_air.specs.Kept.{is_matrix}
use Rattle.hp_parfor.specs.Parts.{Part, Does, Loops}

-- how many slots and how many words a program has, and which of its slots are matrices
pub record Room : Type 0 where
  pub slots : ℕ
  pub words : ℕ
  pub matrix : ℕ → Bool

abbrev pub room_of : List Slot → (words : ℕ) → Room
room_of slots words = record { slots = length slots; words = words; matrix = is_matrix slots }

-- the array to which the i-th input of a loop is moved, which lies in pieces of any lengths
abbrev pub spare : Room → ℕ → ℕ
spare room i = room.slots + i

-- the words of a scan: the sum of a rank's own part, and that of the parts before it
abbrev pub part_word : Room → ℕ
part_word room = room.words

abbrev pub start_word : Room → ℕ
start_word room = suc room.words

-- ---- how many of each there are

-- the greatest of some numbers, 0 of none
abbrev pub greatest : List ℕ → ℕ
greatest [] = 0
greatest (n ∷ ns) = max n (greatest ns)

-- the inputs of a loop can each want an array of their own
abbrev pub spares_of : Part → ℕ
spares_of (Loops p) = length p.inputs
spares_of (Does op) = 0

-- one vector behind another wants a loose column
abbrev pub loose_in : What → ℕ
loose_in (what.Concat out left right) = 1
loose_in _ = 0

-- each halo of a loop wants one
abbrev pub loose_of : Part → ℕ
loose_of (Loops p) = length p.halos
loose_of (Does op) = loose_in op.what

-- the distributions of the arrays of the code: those of the slots, then of the spare ones
abbrev pub code_arrays : List Slot → Prog Part → List Dist → List Dist
code_arrays slots p dists = take (length slots) dists ++ replicate (greatest (map spares_of (operations p))) Var

abbrev pub code_words : (words : ℕ) → ℕ
code_words words = words + 2

abbrev pub code_loose : Prog Part → ℕ
code_loose p = greatest (map loose_of (operations p))

-- ---- a worked row

greatest_row : (greatest (2 ∷ 5 ∷ 3 ∷ []) ≡ 5) × (greatest [] ≡ 0)
greatest_row = (refl, refl)
