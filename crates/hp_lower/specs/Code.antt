-- The instructions of a script.
use Rattle.std.specs.Prelude.{ℕ, ℤ, List, [], ◌∷◌, length, true, false, if◌then◌else◌}
use Rattle.std.specs.Str.{bytes_eq}
use Rattle.hp_word.specs.declared.elem.Elem.{Elem}
use Rattle.hp_word.specs.declared.elem.Elem.TheVariants.{Input, Number}
use Rattle.hp_word.specs.declared.elem.Elem.TheViews.{Calc}
use Rattle.hp_word.specs.declared.word.CalcOp.TheVariants.{Add}
use Rattle.hp_spmd.specs.declared.instr.CheckRule.TheVariants.{Equal}
use Rattle.hp_word.specs.declared.fold.FoldKind.TheVariants.{Sum}
use Rattle.hp_word.specs.declared.place.Place.{Place}
use Rattle.hp_meaning.specs.declared.line.Line.{Line}
use Rattle.hp_meaning.specs.declared.line.Line.TheVariants.{Fill, PrintSum, AddArrays, AddNumber}
use Rattle.hp_spmd.specs.declared.instr.Instr.{Instr}
use Rattle.hp_spmd.specs.declared.instr.Instr.TheVariants as instr
use Rattle.hp_spmd.specs.declared.instr.Loop.{Loop}
use Rattle.hp_spmd.specs.declared.instr.Output.TheVariants.{Word}
use Rattle.hp_spmd.specs.declared.instr.Packing.TheVariants.{Words, Gather}
use Rattle.hp_spmd.specs.declared.instr.Unpacking.TheVariants.{Folds}

-- the slot of a name among the names that were assigned, the newest first; the oldest has slot 0
abbrev pub slot_of : List (List ℕ) → List ℕ → ℕ
slot_of [] name = 0
slot_of (m ∷ ms) name = if bytes_eq m name then length ms else slot_of ms name

-- the names that lines assign, the newest first, before these
abbrev pub names_after : List (List ℕ) → List Line → List (List ℕ)
names_after names [] = names
names_after names (Fill name at value count ∷ ls) = names_after (name.bytes ∷ names) ls
names_after names (PrintSum name ∷ ls) = names_after names ls
names_after names (AddArrays name at left right ∷ ls) = names_after (name.bytes ∷ names) ls
names_after names (AddNumber name at left n ∷ ls) = names_after (name.bytes ∷ names) ls

-- the loop that sums a rank's own part of an array
abbrev pub sum_loop : ℕ → Loop
sum_loop slot =
    record {
      leader = slot;
      inputs = slot ∷ [];
      halos = [];
      lets = Input 0 ∷ [];
      outs = [];
      folds = record { word = 2; kind = Sum; value = 0 } ∷ [];
    }

-- the elements of two inputs at one place, added; the element of an input and a number
abbrev pub add_elem : Place → Elem
add_elem at = Calc Add at (Input 0) (Input 1)

abbrev pub add_number_elem : Place → ℤ → Elem
add_number_elem at n = Calc Add at (Input 0) (Number n)

-- the loop that makes an array of one element's values over the leader
abbrev pub make_loop : ℕ → List ℕ → Elem → ℕ → Loop
make_loop leader inputs elem slot =
    record {
      leader = leader;
      inputs = inputs;
      halos = [];
      lets = elem ∷ [];
      outs = record { array = slot; value = 0 } ∷ [];
      folds = [];
    }

-- the instructions of lines and a Halt, after these names were assigned: words 0 and 1 hold a value and a count,
-- word 2 a sum
abbrev pub lines_code : List (List ℕ) → List Line → List Instr
lines_code names [] = instr.Halt ∷ []
lines_code names (Fill name at value count ∷ ls) =
    instr.Const 0 value ∷ instr.Const 1 count ∷ instr.Fill (length names) 0 1 at ∷ lines_code (name.bytes ∷ names) ls
lines_code names (PrintSum name ∷ ls) =
    instr.Loop (sum_loop (slot_of names name.bytes))
    ∷ instr.Pack (Words (2 ∷ []))
    ∷ instr.Post false
    ∷ instr.Take false
    ∷ instr.Unpack (Folds ((2, Sum) ∷ []))
    ∷ instr.Pack (Gather (Word 2 false))
    ∷ instr.Post true
    ∷ instr.Take true
    ∷ instr.Write (Word 2 false)
    ∷ lines_code names ls
lines_code names (AddArrays name at left right ∷ ls) =
    instr.Check (slot_of names left.bytes ∷ slot_of names right.bytes ∷ []) Equal at
    ∷ instr.Loop (make_loop (slot_of names left.bytes) (slot_of names left.bytes ∷ slot_of names right.bytes ∷ []) (add_elem at) (length names))
    ∷ lines_code (name.bytes ∷ names) ls
lines_code names (AddNumber name at left n ∷ ls) =
    instr.Loop (make_loop (slot_of names left.bytes) (slot_of names left.bytes ∷ []) (add_number_elem at n) (length names))
    ∷ lines_code (name.bytes ∷ names) ls
