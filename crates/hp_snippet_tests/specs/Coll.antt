-- The code that is run, in parts.
use Rattle.std.specs.Prelude.{ℕ, pos, negsuc, codes, false, List, [], ◌∷◌, ◌++◌}
use Rattle.hp_word.specs.declared.elem.Elem.TheVariants.{Input}
use Rattle.hp_word.specs.declared.fold.FoldKind.TheVariants.{Sum, Min}
use Rattle.hp_word.specs.declared.place.Place.{Place}
use Rattle.hp_spmd.specs.declared.instr.Folding.{Folding}
use Rattle.hp_spmd.specs.declared.instr.Instr.{Instr}
use Rattle.hp_spmd.specs.declared.instr.Instr.TheVariants as instr
use Rattle.hp_spmd.specs.declared.instr.Loop.{Loop}
use Rattle.hp_spmd.specs.declared.instr.Output.TheVariants.{Word, List as Line, Table}
use Rattle.hp_spmd.specs.declared.instr.Target.TheVariants.{Loose}
use Rattle.hp_coll.specs.Arriving.{arrive_code}
use Rattle.hp_coll.specs.Reducing.{reduce_code}
use Rattle.hp_coll.specs.Scanning.{scan_code}
use Rattle.hp_coll.specs.Sealing.{sizes_code}

abbrev pub here : Place
here = record { line = 1; col = 1 }

abbrev pub loop_of : ℕ → Folding → Loop
loop_of array fold = record { leader = array; inputs = array ∷ []; halos = []; lets = Input 0 ∷ []; outs = []; folds = fold ∷ [] }

abbrev pub parts_of : Folding → Folding → List Instr
parts_of sum least =
    instr.Const 0 (pos 3) ∷ instr.Const 1 (pos 10) ∷ instr.Const 2 (pos 5) ∷ instr.Const 3 (pos 6) ∷ instr.Fill 0 0 1 here ∷ instr.Range 1 2 3 here ∷ instr.Loop (loop_of 0 sum) ∷ instr.Loop (loop_of 1 least) ∷ []

abbrev sum_fold : Folding
sum_fold = record { word = 4; kind = Sum; value = 0 }

abbrev least_fold : Folding
least_fold = record { word = 5; kind = Min; value = 0 }

abbrev pub folded : List Instr
folded = ((parts_of sum_fold least_fold ++ reduce_code (sum_fold ∷ least_fold ∷ [])) ++ arrive_code (Word 4 false)) ++ arrive_code (Word 5 false)

abbrev pub summed : List Instr
summed = ((instr.Const 0 (pos 1) ∷ instr.Const 1 (pos 3) ∷ instr.Range 2 0 1 here ∷ []) ++ scan_code 3 2 6 7) ++ arrive_code (Line 3 false)

abbrev pub kept_rows : List Instr
kept_rows =
    instr.Const 0 (negsuc 2) ∷ instr.Const 2 (pos 4) ∷ instr.Const 1 (pos 1) ∷ instr.Const 3 (pos 8) ∷ instr.Range 4 1 3 here ∷ instr.Range 5 0 2 here ∷ instr.Select (Loose (0 ∷ [])) 5 (4 ∷ []) ∷ []

abbrev pub selected : List Instr
selected = ((kept_rows ++ sizes_code (6 ∷ []) (0 ∷ []) here) ++ arrive_code (Line 6 false)) ++ arrive_code (Table (6 ∷ []) (record { bytes = codes "v" } ∷ []))

abbrev pub whole : List Instr
whole = ((folded ++ summed) ++ selected) ++ instr.Halt ∷ []
