-- The steps of lowering, line by line. Nobody need believe them: `lower` says what it gives in the words of Code and
-- Correct.
use Rattle.std.specs.Prelude.{ℕ, ℤ, List, [], ◌∷◌, length, true, false, Option, Some, None}
use Rattle.hp_word.specs.declared.fold.FoldKind.TheVariants.{Sum}
use Rattle.hp_word.specs.declared.name.Name.{Name}
use Rattle.hp_word.specs.declared.place.Place.{Place}
use Rattle.hp_meaning.specs.declared.line.Line.{Line}
use Rattle.hp_meaning.specs.declared.line.Line.TheVariants.{Fill, PrintSum, AddArrays, AddNumber}
use Rattle.hp_spmd.specs.declared.instr.CheckRule.TheVariants.{Equal}
use Rattle.hp_spmd.specs.declared.instr.Instr.{Instr}
use Rattle.hp_spmd.specs.declared.instr.Instr.TheVariants as instr
use Rattle.hp_spmd.specs.declared.instr.Output.TheVariants.{Word}
use Rattle.hp_spmd.specs.declared.instr.Packing.TheVariants.{Words, Gather}
use Rattle.hp_spmd.specs.declared.instr.Unpacking.TheVariants.{Folds}
use Rattle.hp_lower.specs.Code.{slot_of, sum_loop, make_loop, add_elem, add_number_elem}

-- the instructions of an assignment to a slot
abbrev pub fill_code : ℕ → Place → ℤ → ℤ → List Instr
fill_code slot at value count = instr.Const 0 value ∷ instr.Const 1 count ∷ instr.Fill slot 0 1 at ∷ []

-- the exchange that makes the ranks' sums one sum on every rank
abbrev pub total_code : List Instr
total_code = instr.Pack (Words (2 ∷ [])) ∷ instr.Post false ∷ instr.Take false ∷ instr.Unpack (Folds ((2, Sum) ∷ [])) ∷ []

-- the exchange by which rank 0 prints the sum
abbrev pub print_code : List Instr
print_code = instr.Pack (Gather (Word 2 false)) ∷ instr.Post true ∷ instr.Take true ∷ instr.Write (Word 2 false) ∷ []

-- the instructions that sum the array of a slot and print the sum
abbrev pub sum_code : ℕ → List Instr
sum_code slot =
    instr.Loop (sum_loop slot)
    ∷ instr.Pack (Words (2 ∷ []))
    ∷ instr.Post false
    ∷ instr.Take false
    ∷ instr.Unpack (Folds ((2, Sum) ∷ []))
    ∷ instr.Pack (Gather (Word 2 false))
    ∷ instr.Post true
    ∷ instr.Take true
    ∷ instr.Write (Word 2 false)
    ∷ []

-- the instructions that add the arrays of two slots into a third
abbrev pub add_code : ℕ → Place → ℕ → ℕ → List Instr
add_code slot at left right =
    instr.Check (left ∷ right ∷ []) Equal at ∷ instr.Loop (make_loop left (left ∷ right ∷ []) (add_elem at) slot) ∷ []

-- the instruction that adds a number to the array of a slot, into another
abbrev pub add_number_code : ℕ → Place → ℕ → ℤ → List Instr
add_number_code slot at left n = instr.Loop (make_loop left (left ∷ []) (add_number_elem at n) slot) ∷ []

-- the instructions of a line, after these names were assigned
abbrev pub line_code : List (List ℕ) → Line → List Instr
line_code names (Fill name at value count) = fill_code (length names) at value count
line_code names (PrintSum name) = sum_code (slot_of names name.bytes)
line_code names (AddArrays name at left right) = add_code (length names) at (slot_of names left.bytes) (slot_of names right.bytes)
line_code names (AddNumber name at left n) = add_number_code (length names) at (slot_of names left.bytes) n

-- the name that a line assigns
abbrev pub assigned_of : Line → Option Name
assigned_of (Fill name at value count) = Some name
assigned_of (PrintSum name) = None
assigned_of (AddArrays name at left right) = Some name
assigned_of (AddNumber name at left n) = Some name

-- the names that are assigned after a line
abbrev pub names_with : List (List ℕ) → Line → List (List ℕ)
names_with names (Fill name at value count) = name.bytes ∷ names
names_with names (PrintSum name) = names
names_with names (AddArrays name at left right) = name.bytes ∷ names
names_with names (AddNumber name at left n) = name.bytes ∷ names
