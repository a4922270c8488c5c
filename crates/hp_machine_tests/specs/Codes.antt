-- The codes that are run. In each the array 0 holds the numbers from 1 to a last one, and the word 2 a rank's own sum of them.
use Rattle.std.specs.Prelude.{ℕ, pos, false, true, List, [], ◌∷◌, ◌++◌}
use Rattle.hp_word.specs.declared.elem.Elem.TheVariants.{Input}
use Rattle.hp_word.specs.declared.fold.FoldKind.TheVariants.{Sum}
use Rattle.hp_word.specs.declared.place.Place.{Place}
use Rattle.hp_word.specs.declared.word.CalcOp.TheVariants.{Sub, Div}
use Rattle.hp_spmd.specs.declared.instr.Instr.{Instr}
use Rattle.hp_spmd.specs.declared.instr.Instr.TheVariants as instr
use Rattle.hp_spmd.specs.declared.instr.Loop.{Loop}
use Rattle.hp_spmd.specs.declared.instr.Output.TheVariants.{Word, List as Line}
use Rattle.hp_spmd.specs.declared.instr.Packing.TheVariants.{Words, Gather}
use Rattle.hp_spmd.specs.declared.instr.Unpacking.TheVariants.{Below, Folds}

abbrev pub here : Place
here = record { line = 1; col = 1 }

abbrev pub own_sum : Loop
own_sum = record { leader = 0; inputs = 0 ∷ []; halos = []; lets = Input 0 ∷ []; outs = []; folds = record { word = 2; kind = Sum; value = 0 } ∷ [] }

abbrev pub begun : (last : ℕ) → List Instr
begun last = instr.Const 0 (pos 1) ∷ instr.Const 1 (pos last) ∷ instr.Range 0 0 1 here ∷ instr.Loop own_sum ∷ []

-- an exchange: the sum of 1 to 10, printed
abbrev pub summed : List Instr
summed =
    begun 10
    ++ (instr.Pack (Words (2 ∷ [])) ∷ instr.Post false ∷ instr.Take false ∷ instr.Unpack (Folds ((2, Sum) ∷ []))
    ∷ instr.Pack (Gather (Word 2 false)) ∷ instr.Post true ∷ instr.Take true ∷ instr.Write (Word 2 false) ∷ instr.Halt ∷ [])

-- a scan: the running sums of 1 to 5, printed
abbrev pub scanned : List Instr
scanned =
    begun 5
    ++ (instr.Const 4 (pos 0) ∷ instr.Scan 1 0 4 3 ∷ instr.Pack (Words (3 ∷ [])) ∷ instr.Post false ∷ instr.Take false ∷ instr.Unpack (Below 4) ∷ instr.Scan 1 0 4 3
    ∷ instr.Pack (Gather (Line 1 false)) ∷ instr.Post true ∷ instr.Take true ∷ instr.Write (Line 1 false) ∷ instr.Halt ∷ [])

-- a trap on one rank: of four, the last has the sum 4, and divides by 4 - 4
abbrev pub divided : List Instr
divided = begun 4 ++ (instr.Calc 3 Sub 1 2 here ∷ instr.Calc 4 Div 0 3 here ∷ instr.Halt ∷ [])
