-- What the code of a program has from the codes of its steps, whatever these are; and what the code of each step has.
use Rattle.std.specs.Prelude.{◌≡◌, ℕ, ◌<◌, ◌≤◌, List, [], ◌∷◌, ◌++◌, ◌^◌, flat_map, length}
use Rattle.hp_lattice.specs.declared.dist.Dist.{Dist}
use Rattle.std.specs.Bool.{IsTrue}
use Rattle.std.specs.List.{AllByRecursion, AllZip}
use Rattle.hp_spmd.specs.declared.code.Code.{Code}
use Rattle.hp_spmd.specs.declared.instr.Instr.{Instr}
use Rattle.hp_spmd.specs.declared.instr.Instr.TheVariants.{Halt}
use Rattle.hp_spmd.specs.Exchanges.{HasForm}
use Rattle.hp_spmd.specs.Names.{ends_in_halt, names_within, targets_within}
use Rattle.hp_spmd.specs.Store as store
use Rattle.hp_program.specs.Programs.{Prog, operations}
use Rattle.hp_air.specs.declared.slot.Slot.{Slot}
use Rattle.hp_air.specs.Placed.{dist_at}
use Rattle.hp_parfor.specs.KeptParts.{are_parts, parts_size}
use Rattle.hp_parfor.specs.LoopMeaning.{part_units}
use Rattle.hp_parfor.specs.Parts.{Part}
use Rattle.hp_parfor.specs.Talk.{Talk}
use Rattle.hp_snippet.specs.Promises.{IsStraight, IsWork}
use Rattle.hp_lowering.specs.CodeOf.{code_from, code_list}
use Rattle.hp_lowering.specs.Follows.{Follows, IsLoopOf, IsPack, loops_in, packed_in, parfors_in}
use Rattle.hp_lowering.specs.PartCode.{is_part_built, part_code}
use Rattle.hp_lowering.specs.Room.{Room, code_arrays, code_loose, code_words}

-- ---- of any codes of steps

-- Where the instructions of each step have the form of exchanges and none of them jumps, the whole code has that form: no jump of
-- a branch or a loop goes into an exchange, and a size follows where one must.
abbrev pub CodeHasForm : Type 0
CodeHasForm = (steps : Part → List Instr) (p : Prog Part) → AllByRecursion (λ part. IsStraight (steps part)) (operations p) → HasForm (code_from steps 0 p ++ (Halt ∷ []))

-- The packs of the code are those of the steps in the order of the text, and so are its loops.
abbrev pub CodePacks : Type 0
CodePacks = (steps : Part → List Instr) (p : Prog Part) → packed_in (code_from steps 0 p ++ (Halt ∷ [])) ≡ flat_map (λ part. packed_in (steps part)) (operations p)

abbrev pub CodeLoops : Type 0
CodeLoops = (steps : Part → List Instr) (p : Prog Part) → loops_in (code_from steps 0 p ++ (Halt ∷ [])) ≡ flat_map (λ part. loops_in (steps part)) (operations p)

-- ---- of these

-- Each step is straight, and is the work of its units, whatever the distributions are: at most 16 instructions a unit, and
-- 2 n + 14 actions of each of n ranks.
abbrev pub StepsAreStraight : Type 0
StepsAreStraight = (room : Room) (slots : List Slot) (d : ℕ → Dist) (part : Part) → IsStraight (part_code room slots d part)

abbrev pub StepsAreWork : Type 0
StepsAreWork = (room : Room) (slots : List Slot) (d : ℕ → Dist) (part : Part) → IsWork (part_units slots d part) (part_code room slots d part)

-- So the code of each program has the form of exchanges.
abbrev pub LoweredHasForm : Type 0
LoweredHasForm = (slots : List Slot) (words : ℕ) (p : Prog Part) (dists : List Dist) → HasForm (code_list slots words p dists)

-- Where all steps are built, the packs of the code are what the ranks send for the program.
abbrev pub LoweredPacks : Type 0
LoweredPacks =
    (slots : List Slot) (words : ℕ) (p : Prog Part) (dists : List Dist) → AllByRecursion (λ part. IsTrue (is_part_built part)) (operations p)
    → AllZip (IsPack words) (packed_in (code_list slots words p dists)) (Talk slots p dists)

-- The loops of the code are the program's, in order: each reads an input itself, or a copy that was moved to its leader's pieces, and
-- a halo from its array, or from a loose column that was made of it.
abbrev pub LoweredLoops : Type 0
LoweredLoops = (slots : List Slot) (words : ℕ) (p : Prog Part) (dists : List Dist) → AllZip (IsLoopOf (code_list slots words p dists)) (loops_in (code_list slots words p dists)) (parfors_in (operations p))

-- Each slot is the array of its number, and lies as the slot.
abbrev pub LoweredArrays : Type 0
LoweredArrays = (slots : List Slot) (p : Prog Part) (dists : List Dist) (k : ℕ) → length slots ≤ length dists → k < length slots → store.dist_at (code_arrays slots p dists) k ≡ dist_at dists k

-- So a code of these instructions and arrays follows the program.
abbrev pub LoweredFollows : Type 0
LoweredFollows =
    (slots : List Slot) (words : ℕ) (p : Prog Part) (dists : List Dist) (code : Code) → code.list ≡ code_list slots words p dists → code.arrays ≡ code_arrays slots p dists → length slots ≤ length dists
    → AllByRecursion (λ part. IsTrue (is_part_built part)) (operations p) → Follows code slots words p dists

-- ---- a code

-- These instructions are a code's with so many words, arrays and loose columns: fewer than 2^32, the last of which is Halt; what they
-- name is there, and so is where they jump.
pub record IsCodeList (words arrays loose : ℕ) (list : List Instr) : Type 0 where
  pub small : length list < 2 ^ 32
  pub ends : IsTrue (ends_in_halt list)
  pub within : IsTrue (names_within words arrays loose list)
  pub targets : IsTrue (targets_within (length list) list)

-- Where each step of a program names what there is, and its size is less than 2^26, its instructions are a code's, with its arrays,
-- words and loose columns.
abbrev pub LoweredIsCode : Type 0
LoweredIsCode =
    (slots : List Slot) (words : ℕ) (p : Prog Part) (dists : List Dist) → length slots ≤ length dists → IsTrue (are_parts slots words p) → parts_size p < 2 ^ 26
    → IsCodeList (code_words words) (length (code_arrays slots p dists)) (code_loose p) (code_list slots words p dists)
